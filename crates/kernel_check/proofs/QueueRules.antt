-- The rules of queues, as they are decided.
use Rattle.std.proofs.Common.{◌≡◌, ◌≢◌, ◌↔◌, ◌⊎◌, inl, inr, ℕ, ◌+◌, ◌<◌, ◌≤◌, ◌&&◌, Bool, true, false, not, Some, None, List, [], ◌∷◌, cond, eqb, get_or, length, map, refl, sym, ap, ◌∙◌, subst, arith}
use Rattle.std.specs.Prelude.{is_some}
use Rattle.std.specs.List.{AllByRecursion}
use Rattle.std.proofs.lemmas.Bool.{cases_eq, eq-eqb, false≢true, ne_eqb}
use Rattle.std.proofs.Math.Bool.{and-false}
use Rattle.kernel_lists.specs.PacketQueue.Queue.{no_queue}
use Rattle.kernel_lists.specs.PacketQueue.QueueWords.{QueuedPacket}
use Rattle.kernel_lists.specs.TaskBlock.TaskChain.{id_in, tasks_in}
use Rattle.kernel_model.specs.KernelRecord.Lists.{address_of_task, has_task}
use Rattle.kernel_model.specs.KernelRecord.Recovered.{lists_in, packet_in, packets_at, task_in}
use Rattle.kernel_model.specs.KernelRecord.Task.{queue_head}
use Rattle.kernel_model.specs.KernelRecord.ValidBlocks.{AreData}
use Rattle.kernel_model.specs.KernelRecord.ValidTasks.{AreValidTasks}
use Rattle.kernel_model.specs.KernelRecord.ValidQueues.{IsValidPacket, NeverFall, Place}
use Rattle.kernel_model.specs.KernelRecord.ValidQueues.Place.{Work}
use Rattle.kernel_check.specs.ListPasses.ClaimedStore.{IsClaimed}
use Rattle.kernel_check.proofs.ListPasses.ClaimedWalks.{heads, of-tasks}
use Rattle.kernel_check.proofs.ListPasses.FreePackets.{free-is, key-is}
use Rattle.kernel_check.proofs.ListPasses.TaskTable.{running-none}
use Rattle.kernel_check.specs.Private.ClaimedQueue.{IsClaimedQueue}
use Rattle.kernel_check.specs.KnownTasks.{AreTasksKnown}
use Rattle.kernel_check.proofs.ClaimedQueues.{some-tasks, work-queues}
use Rattle.kernel_check.proofs.TaskNumbers.{address-in}

-- ---- one queue

abbrev pub May : List ℕ → Place → ℕ → Type 0
May s at p = IsValidPacket (lists_in s) at (packet_in s p)

abbrev pub Lodged : List ℕ → ℕ → Type 0
Lodged s p = AreData (lists_in s).blocks p 5

-- the packets of the queue at an address that was computed are those of the head
pub at-head : (s : List ℕ) (at : Place) (b : Bool) (h head : ℕ) → h ≡ head → ((b ≡ true) ↔ AllByRecursion (IsValidPacket (lists_in s) at) (packets_at s h)) → (b ≡ true) ↔ AllByRecursion (IsValidPacket (lists_in s) at) (packets_at s head)
at-head s at b h head is answer = subst (λ z. (b ≡ true) ↔ AllByRecursion (IsValidPacket (lists_in s) at) (packets_at s z)) is answer

-- ---- the work queues

abbrev pub AreValidWork : List ℕ → ℕ → Type 0
AreValidWork s t = AllByRecursion (IsValidPacket (lists_in s) (Work (task_in s t).id)) (task_in s t).queue

pub work-at : (s : List ℕ) (t id h : ℕ) (b : Bool) → id ≡ id_in s t → h ≡ queue_head t → ((b ≡ true) ↔ AllByRecursion (IsValidPacket (lists_in s) (Work id)) (packets_at s h)) → (b ≡ true) ↔ AreValidWork s t
work-at s t id h b number head answer =
    subst (λ i. (b ≡ true) ↔ AllByRecursion (IsValidPacket (lists_in s) (Work i)) (packets_at s (queue_head t))) number (at-head s (Work id) b h (queue_head t) head answer)

-- what is known of a task whose words were claimed
abbrev pub IsKnown : List ℕ → ℕ → Type 0
IsKnown s t = IsClaimedQueue s (queue_head t) × (t + 23 ≤ length s)

pub all-known : (s : List ℕ) → IsClaimed s → AllByRecursion (IsKnown s) (tasks_in s)
all-known s c = both (tasks_in s) (work-queues s c) (heads s c)
  where
    both : (ts : List ℕ) → AllByRecursion (λ t. IsClaimedQueue s (queue_head t)) ts → AllByRecursion (λ t. t + 23 ≤ length s) ts → AllByRecursion (IsKnown s) ts
    both [] queues inside = tt
    both (t ∷ ts) queues inside = ((queues.0, inside.0), both ts queues.1 inside.1)

-- ---- the queues as they are read off

pub clock-read : (s : List ℕ) → packets_at s 105 ≡ (lists_in s).clock
unfolding lists_in
clock-read s = refl

pub keyboard-read : (s : List ℕ) → packets_at s 106 ≡ (lists_in s).keyboard
unfolding lists_in
keyboard-read s = refl

pub output-read : (s : List ℕ) → packets_at s 107 ≡ (lists_in s).output
unfolding lists_in
output-read s = refl

pending-read : (s : List ℕ) → (lists_in s).pending ≡ cond (lists_in s).residents (packets_at s 270) []
unfolding lists_in
pending-read s = refl

pub pending-some : (s : List ℕ) → (lists_in s).residents ≡ true → packets_at s 270 ≡ (lists_in s).pending
pending-some s there = sym (pending-read s ∙ ap (λ b. cond b (packets_at s 270) []) there)

pub pending-none : (s : List ℕ) → (lists_in s).residents ≡ false → (lists_in s).pending ≡ []
pending-none s none = pending-read s ∙ ap (λ b. cond b (packets_at s 270) []) none

-- a queue that was read off
pub read-at : (s : List ℕ) (at : Place) (b : Bool) (h head : ℕ) (ps : List QueuedPacket) → h ≡ head → packets_at s head ≡ ps → ((b ≡ true) ↔ AllByRecursion (IsValidPacket (lists_in s) at) (packets_at s h))
    → (b ≡ true) ↔ AllByRecursion (IsValidPacket (lists_in s) at) ps
read-at s at b h head ps is read answer = subst (λ qs. (b ≡ true) ↔ AllByRecursion (IsValidPacket (lists_in s) at) qs) read (at-head s at b h head is answer)

-- ---- due ticks

abbrev pub due : List ℕ → ℕ → ℕ
due s p = get_or s (p + 4) 0

abbrev Above : List ℕ → ℕ → List ℕ → Type 0
Above s low ps = AllByRecursion (λ p. low ≤ due s p) ps

abbrev Rises : List ℕ → List ℕ → Type 0
Rises s [] = Unit {0}
Rises s (p ∷ ps) = Above s (due s p) ps × Rises s ps

-- the ticks that are left are not below the last one
pub record IsRising (s : List ℕ) (low : ℕ) (rest all : List ℕ) : Type 0 where
  pub left : Above s low rest → Rises s rest → Rises s all
  pub whole : Rises s all → Above s low rest × Rises s rest

above-less : (s : List ℕ) (a b : ℕ) (ps : List ℕ) → a ≤ b → Above s b ps → Above s a ps
above-less s a b [] le h = tt
above-less s a b (p ∷ ps) le h = (omega (arith, h.0, le), above-less s a b ps le h.1)

above-none : (s : List ℕ) (ps : List ℕ) → Above s 0 ps
above-none s [] = tt
above-none s (p ∷ ps) = (omega arith, above-none s ps)

pub rising : (s : List ℕ) (ps all : List ℕ) → ps ≡ all → IsRising s 0 ps all
rising s ps all is = record { left = λ b f. subst (Rises s) is f; whole = λ f. (above-none s ps, subst (Rises s) (sym is) f) }

module _ (s : List ℕ) (low : ℕ) (bs all : List ℕ) (p : ℕ) (rest : List ℕ) (w : ℕ) (g : IsRising s low bs all) (is : bs ≡ p ∷ rest) (read : w ≡ due s p) where
  pub rises-on : low ≤ w → IsRising s w rest all
  rises-on high = record {
    left = λ b f. (let b' : Above s (due s p) rest = subst (λ z. Above s z rest) read b in
        g.left (subst (Above s low) (sym is) (omega (arith, high, read), above-less s low (due s p) rest (omega (arith, high, read)) b')) (subst (Rises s) (sym is) (b', f)));
    whole = λ f. (let k : Rises s (p ∷ rest) = subst (Rises s) is (g.whole f).1 in (subst (λ z. Above s z rest) (sym read) k.0, k.1));
  }

  pub rises-not : w < low → Rises s all → ⊥
  rises-not less f = (let k : Above s low (p ∷ rest) = subst (Above s low) is (g.whole f).0 in omega (arith, k.0, less, read))

pub all-rise : (s : List ℕ) (low : ℕ) (bs all : List ℕ) → IsRising s low bs all → bs ≡ [] → Rises s all
all-rise s low bs all g is = g.left (subst (Above s low) (sym is) tt) (subst (Rises s) (sym is) tt)

of-above : (s : List ℕ) (low : ℕ) (ps : List ℕ) → Above s low ps ↔ AllByRecursion (λ q. low ≤ q.last) (map (packet_in s) ps)
of-above s low [] = (λ h. tt, λ h. tt)
of-above s low (p ∷ ps) = (λ h. (h.0, (of-above s low ps).0 h.1), λ h. (h.0, (of-above s low ps).1 h.1))

pub of-rises : (s : List ℕ) (ps : List ℕ) → Rises s ps ↔ NeverFall (map (packet_in s) ps)
of-rises s [] = (λ h. tt, λ h. tt)
of-rises s (p ∷ ps) = (λ h. ((of-above s (due s p) ps).0 h.0, (of-rises s ps).0 h.1), λ h. ((of-above s (due s p) ps).1 h.0, (of-rises s ps).1 h.1))

pub rise-at : (s : List ℕ) (b : Bool) (h : ℕ) → h ≡ 105 → ((b ≡ true) ↔ NeverFall (packets_at s h)) → (b ≡ true) ↔ NeverFall (lists_in s).clock
rise-at s b h is answer = subst (λ ps. (b ≡ true) ↔ NeverFall ps) (clock-read s) (subst (λ z. (b ≡ true) ↔ NeverFall (packets_at s z)) is answer)

-- ---- the packets of residents

-- a packet of which the store says that it is free, or that it is not
pub said-free : (k r q Q : Bool) → r ≡ true → q ≡ Q → k ≡ true → (not q ≡ true) ↔ (k ≡ (r && not Q))
said-free k r q Q there same is =
    let test : (r && not Q) ≡ not q = λ i. there i && not (sym same i) in (
      λ t. is ∙ sym t ∙ sym test,
      λ e. sym test ∙ sym e ∙ is,
    )

pub said-queued : (k r q Q : Bool) → r ≡ true → q ≡ Q → k ≡ false → (q ≡ true) ↔ (k ≡ (r && not Q))
said-queued k r q Q there same is =
    let test : (r && not Q) ≡ not q = λ i. there i && not (sym same i) in (
      λ t. is ∙ sym (ap not t) ∙ sym test,
      λ e. turn q (sym test ∙ sym e ∙ is),
    )
  where
    turn : (b : Bool) → not b ≡ false → b ≡ true
    turn true e = refl
    turn false e = absurd (false≢true (sym e))

said-absent : (k r Q : Bool) → r ≡ false → k ≡ false → k ≡ (r && not Q)
said-absent k r Q none is = is ∙ sym (ap (λ b. b && not Q) none)

module _ (s : List ℕ) where
  some-key : (b : Bool) → is_some (cond b (Some (get_or s 274 0)) None) ≡ b
  some-key true = refl
  some-key false = refl

  key-some : is_some (lists_in s).key ≡ ((lists_in s).residents && eqb (get_or s 271 0) no_queue)
  key-some = ap is_some (key-is s) ∙ some-key ((lists_in s).residents && eqb (get_or s 271 0) no_queue)

  pub key-absent : (Q : Bool) → (lists_in s).residents ≡ false → is_some (lists_in s).key ≡ ((lists_in s).residents && not Q)
  key-absent Q none = said-absent (is_some (lists_in s).key) (lists_in s).residents Q none (key-some ∙ ap (λ b. b && eqb (get_or s 271 0) no_queue) none)

  pub key-free : (w : ℕ) → w ≡ get_or s 271 0 → w ≡ 4294967295 → (lists_in s).residents ≡ true → is_some (lists_in s).key ≡ true
  key-free w read is there = key-some ∙ (λ i. there i && eq-eqb (get_or s 271 0) no_queue (sym read ∙ is) i)

  pub key-other : (w : ℕ) → w ≡ get_or s 271 0 → w ≢ 4294967295 → is_some (lists_in s).key ≡ false
  key-other w read other = key-some ∙ ap (λ b. (lists_in s).residents && b) (ne_eqb (get_or s 271 0) no_queue (λ e. other (read ∙ e))) ∙ and-false (lists_in s).residents

  pub fault-absent : (Q : Bool) → has_task 2 (lists_in s).tasks ≡ false → (lists_in s).fault_packet_free ≡ (has_task 2 (lists_in s).tasks && not Q)
  fault-absent Q none = said-absent (lists_in s).fault_packet_free (has_task 2 (lists_in s).tasks) Q none (free-is s ∙ ap (λ b. b && ((lists_in s).residents && eqb (get_or s 310 0) no_queue)) none)

  pub fault-free : AreValidTasks (lists_in s) → (w : ℕ) → w ≡ get_or s 310 0 → w ≡ 4294967295 → has_task 2 (lists_in s).tasks ≡ true → (lists_in s).fault_packet_free ≡ true
  fault-free k w read is there = free-is s ∙ (λ i. there i && (k.reporter there i && eq-eqb (get_or s 310 0) no_queue (sym read ∙ is) i))

  pub fault-other : (w : ℕ) → w ≡ get_or s 310 0 → w ≢ 4294967295 → (lists_in s).fault_packet_free ≡ false
  fault-other w read other =
      free-is s ∙ ap (λ b. has_task 2 (lists_in s).tasks && ((lists_in s).residents && b)) (ne_eqb (get_or s 310 0) no_queue (λ e. other (read ∙ e)))
      ∙ ap (λ b. has_task 2 (lists_in s).tasks && b) (and-false (lists_in s).residents) ∙ and-false (has_task 2 (lists_in s).tasks)

-- ---- the running task

pub runs-one : (s : List ℕ) → AreTasksKnown s → get_or s 102 0 ≡ address_of_task (lists_in s) (lists_in s).running → ((lists_in s).running ≡ 0) ⊎ (has_task (lists_in s).running (lists_in s).tasks ≡ true)
runs-one s k at = elim (cases_eq (get_or s 102 0) 0) [
  | inl none ↦ inl (sym (running-none s (get_or s 102 0) refl none))
  | inr some ↦ inr (address-in (lists_in s).tasks (lists_in s).running ((of-tasks s (λ t. 0 < t.address)).0 (some-tasks s k.claimed))
      ∙ ap not (ne_eqb (address_of_task (lists_in s) (lists_in s).running) 0 (λ e. some (at ∙ e))))
]
