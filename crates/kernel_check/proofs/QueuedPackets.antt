-- Whether a packet is on a queue, told queue by queue.
use Rattle.std.proofs.Common.{◌≡◌, ℕ, ◌+◌, ◌≤◌, ◌||◌, Bool, true, false, List, [], ◌∷◌, ◌++◌, cond, eqb, length, map, refl, sym, ap, ◌∙◌, subst}
use Rattle.std.specs.List.{AllByRecursion, flat_map, list_any}
use Rattle.std.proofs.lemmas.List.Folds.{list_any-append}
use Rattle.kernel_lists.specs.PacketQueue.Queue.{queue_at}
use Rattle.kernel_lists.specs.PacketQueue.QueueWords.{QueuedPacket}
use Rattle.kernel_lists.specs.TaskBlock.TaskChain.{tasks_in}
use Rattle.kernel_model.specs.KernelRecord.Lists.{is_queued}
use Rattle.kernel_model.specs.KernelRecord.Owned.{clock_head, keyboard_head, output_head}
use Rattle.kernel_model.specs.KernelRecord.Recovered.{lists_in, packet_in, packets_at, pending_in, task_in}
use Rattle.kernel_model.specs.KernelRecord.KernelRanges.{has_residents}
use Rattle.kernel_model.specs.KernelRecord.Task.{queue_head}
use Rattle.kernel_check.specs.ListPasses.ClaimedStore.{IsClaimed}
use Rattle.kernel_check.proofs.ListPasses.ClaimedWalks.{heads}
use Rattle.kernel_check.specs.Private.ClaimedQueue.{IsClaimedQueue}
use Rattle.kernel_check.proofs.ClaimedQueues.{work-queues}

-- one of the packets is at p
abbrev pub has_at : ℕ → List QueuedPacket → Bool
has_at p qs = list_any (λ q. eqb q.address p) qs

-- one at an address of the queue is
abbrev pub has_in : List ℕ → ℕ → ℕ → Bool
has_in s head p = list_any (λ q. eqb q p) (queue_at s head)

-- one on the work queues of these tasks is
abbrev pub works_at : List ℕ → ℕ → List ℕ → Bool
works_at s p ts = has_at p (flat_map (λ t. packets_at s (queue_head t)) ts)

at-in : (s : List ℕ) (p : ℕ) (qs : List ℕ) → has_at p (map (packet_in s) qs) ≡ list_any (λ q. eqb q p) qs
at-in s p [] = refl
at-in s p (q ∷ qs) = ap (λ b. eqb q p || b) (at-in s p qs)

works-first : (s : List ℕ) (p t : ℕ) (ts : List ℕ) → works_at s p (t ∷ ts) ≡ (has_in s (queue_head t) p || works_at s p ts)
works-first s p t ts =
    list_any-append (λ q. eqb q.address p) (packets_at s (queue_head t)) (flat_map (λ t. packets_at s (queue_head t)) ts)
    ∙ ap (λ b. b || works_at s p ts) (at-in s p (queue_at s (queue_head t)))

works-map : (s : List ℕ) (p : ℕ) (ts : List ℕ) → flat_map (λ t. t.queue) (map (task_in s) ts) ≡ flat_map (λ t. packets_at s (queue_head t)) ts
works-map s p [] = refl
works-map s p (t ∷ ts) = ap (λ qs. packets_at s (queue_head t) ++ qs) (works-map s p ts)

works-lists : (s : List ℕ) (p : ℕ) → has_at p (flat_map (λ t. t.queue) (lists_in s).tasks) ≡ works_at s p (tasks_in s)
unfolding lists_in
works-lists s p = ap (has_at p) (works-map s p (tasks_in s))

-- ---- the walk over the tasks

-- it was on no work queue so far
pub record IsLooking (s : List ℕ) (p : ℕ) (rest : List ℕ) : Type 0 where
  pub same : works_at s p rest ≡ has_at p (flat_map (λ t. t.queue) (lists_in s).tasks)
  pub queues : AllByRecursion (λ t. IsClaimedQueue s (queue_head t)) rest
  pub inside : AllByRecursion (λ t. t + 23 ≤ length s) rest

pub looking : (s : List ℕ) (p : ℕ) (ts : List ℕ) → ts ≡ tasks_in s → IsClaimed s → IsLooking s p ts
looking s p ts is c = record {
  same = ap (works_at s p) is ∙ sym (works-lists s p);
  queues = subst (AllByRecursion (λ t. IsClaimedQueue s (queue_head t))) (sym is) (work-queues s c);
  inside = subst (AllByRecursion (λ t. t + 23 ≤ length s)) (sym is) (heads s c);
}

module _ (s : List ℕ) (p : ℕ) (bs : List ℕ) (t : ℕ) (rest : List ℕ) (g : IsLooking s p bs) (is : bs ≡ t ∷ rest) where
  pub next-queue : IsClaimedQueue s (queue_head t)
  next-queue = (subst (AllByRecursion (λ t. IsClaimedQueue s (queue_head t))) is g.queues).0

  pub next-inside : t + 23 ≤ length s
  next-inside = (subst (AllByRecursion (λ t. t + 23 ≤ length s)) is g.inside).0

  next-same : (has_in s (queue_head t) p || works_at s p rest) ≡ has_at p (flat_map (λ t. t.queue) (lists_in s).tasks)
  next-same = sym (works-first s p t rest) ∙ ap (works_at s p) (sym is) ∙ g.same

  pub work-found : has_in s (queue_head t) p ≡ true → true ≡ has_at p (flat_map (λ t. t.queue) (lists_in s).tasks)
  work-found here = ap (λ b. b || works_at s p rest) (sym here) ∙ next-same

  pub looks-on : has_in s (queue_head t) p ≡ false → IsLooking s p rest
  looks-on none = record {
    same = ap (λ b. b || works_at s p rest) (sym none) ∙ next-same;
    queues = (subst (AllByRecursion (λ t. IsClaimedQueue s (queue_head t))) is g.queues).1;
    inside = (subst (AllByRecursion (λ t. t + 23 ≤ length s)) is g.inside).1;
  }

pub looked : (s : List ℕ) (p : ℕ) (bs : List ℕ) → IsLooking s p bs → bs ≡ [] → false ≡ has_at p (flat_map (λ t. t.queue) (lists_in s).tasks)
looked s p bs g none = sym (ap (works_at s p) none) ∙ g.same

-- ---- all queues

pub queue-at : (s : List ℕ) (h t : ℕ) → h ≡ t → IsClaimedQueue s t → IsClaimedQueue s h
queue-at s h t is q = subst (IsClaimedQueue s) (sym is) q

module _ (s : List ℕ) (p : ℕ) where
  work : Bool
  work = has_at p (flat_map (λ t. t.queue) (lists_in s).tasks)

  pending-at : has_at p (pending_in s) ≡ cond (has_residents s) (has_in s 270 p) false
  pending-at = on (has_residents s)
    where
      on : (b : Bool) → has_at p (cond b (packets_at s 270) []) ≡ cond b (has_in s 270 p) false
      on true = at-in s p (queue_at s 270)
      on false = refl

  -- the packets of all queues, told one after the other
  pub queued-in : is_queued p (lists_in s) ≡ (has_at p (flat_map (λ t. t.queue) (lists_in s).tasks) || (has_in s 105 p || (has_in s 106 p || (has_in s 107 p || cond (has_residents s) (has_in s 270 p) false))))
  unfolding lists_in
  queued-in =
      let all : List QueuedPacket = packets_at s clock_head ++ (packets_at s keyboard_head ++ (packets_at s output_head ++ pending_in s)) in
      let w : List QueuedPacket = flat_map (λ t. t.queue) (lists_in s).tasks in
      let f : QueuedPacket → Bool = λ q. eqb q.address p in
      list_any-append f w all
      ∙ ap (λ b. has_at p w || b)
      (list_any-append f (packets_at s clock_head) (packets_at s keyboard_head ++ (packets_at s output_head ++ pending_in s))
      ∙ (λ i. at-in s p (queue_at s 105) i
      || (list_any-append f (packets_at s keyboard_head) (packets_at s output_head ++ pending_in s)
      ∙ (λ i. at-in s p (queue_at s 106) i || (list_any-append f (packets_at s output_head) (pending_in s) ∙ (λ i. at-in s p (queue_at s 107) i || pending-at i)) i)) i))

module _ (s : List ℕ) (p : ℕ) where
  abbrev W : Bool
  W = has_at p (flat_map (λ t. t.queue) (lists_in s).tasks)

  abbrev last : Bool
  last = cond (has_residents s) (has_in s 270 p) false

  or-true : (b : Bool) → (b || true) ≡ true
  or-true true = refl
  or-true false = refl

  -- one queue has it
  pub at-clock : has_in s 105 p ≡ true → true ≡ is_queued p (lists_in s)
  at-clock e = sym (queued-in s p ∙ ap (λ b. W || (b || (has_in s 106 p || (has_in s 107 p || last)))) e ∙ or-true W)

  pub at-keyboard : has_in s 106 p ≡ true → true ≡ is_queued p (lists_in s)
  at-keyboard e = sym (queued-in s p ∙ ap (λ b. W || (has_in s 105 p || (b || (has_in s 107 p || last)))) e ∙ ap (λ b. W || b) (or-true (has_in s 105 p)) ∙ or-true W)

  pub at-output : has_in s 107 p ≡ true → true ≡ is_queued p (lists_in s)
  at-output e = sym (
      queued-in s p ∙ ap (λ b. W || (has_in s 105 p || (has_in s 106 p || (b || last)))) e ∙ ap (λ b. W || (has_in s 105 p || b)) (or-true (has_in s 106 p))
      ∙ ap (λ b. W || b) (or-true (has_in s 105 p)) ∙ or-true W
      )

  -- or it waits for a line
  pub at-last : W ≡ false → has_in s 105 p ≡ false → has_in s 106 p ≡ false → has_in s 107 p ≡ false → is_queued p (lists_in s) ≡ last
  at-last work clock keyboard output = queued-in s p ∙ (λ i. work i || (clock i || (keyboard i || (output i || last))))

  -- what is at a head that was computed
  pub has-at : (h head : ℕ) (b x : Bool) → h ≡ head → b ≡ has_in s h p → b ≡ x → has_in s head p ≡ x
  has-at h head b x is answer told = sym (ap (λ z. has_in s z p) is) ∙ sym answer ∙ told

pub residents-in : (s : List ℕ) → (lists_in s).residents ≡ has_residents s
unfolding lists_in
residents-in s = refl
