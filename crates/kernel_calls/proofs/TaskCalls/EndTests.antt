-- The tests of a task that is deleted, as the words of its task block say.
use Rattle.std.proofs.Common.{◌≡◌, ◌≢◌, ℕ, ◌+◌, ◌<◌, ◌≤◌, List, [], ◌∷◌, cond, eqb, get_or, length, map, not, ◌&&◌, Bool, true, false, Option, Some, None, inl, inr, refl, sym, ap, ◌∙◌, subst, arith}
use Rattle.std.specs.List.{AllByRecursion, list_any}
use Rattle.std.proofs.lemmas.Bool.{eq-eqb, ne_eqb}
use Rattle.word_store.specs.Count.{IsApart, times}
use Rattle.word_store.proofs.Counts.{hit-same, times-append}
use Rattle.kernel_lists.proofs.LinkedList.MappedLists.{map-append}
use Rattle.kernel_lists.specs.TaskBlock.HeldTasks.{address_with}
use Rattle.kernel_lists.proofs.TaskBlock.HeldTaskBlocks.{address_with-here}
use Rattle.kernel_lists.specs.PacketQueue.QueueWords.{HeldQueue, QueuedPacket}
use Rattle.kernel_lists.specs.Coroutines.HeldCoroutines.{Coroutine, address_of}
use Rattle.kernel_lists.specs.OwnedWords.LinkedWords.{first_of}
use Rattle.kernel_model.specs.KernelRecord.Between.{is_empty_queue}
use Rattle.kernel_model.specs.KernelRecord.HoldsLists.{HoldsLists}
use Rattle.kernel_model.specs.KernelRecord.Lists.{Lists, address_of_task}
use Rattle.kernel_model.specs.KernelRecord.Task.{Task, queue_head, state_word, task_address, task_id, task_words}
use Rattle.kernel_model.specs.KernelRecord.ValidTasks.{IsCoroutine, IsField}
use Rattle.kernel_model.proofs.KernelRecord.AllThings.{all-here}
use Rattle.kernel_model.proofs.KernelRecord.EachMember.{all-each, holds-each}
use Rattle.kernel_model.proofs.KernelRecord.ReadCoroutines.{HoldsTask, holds-task}
use Rattle.kernel_model.proofs.KernelRecord.TaskKind.{are_tasks}
use Rattle.kernel_calls.specs.CallAnswers.Guests.{GuestAt}
use Rattle.kernel_calls.specs.CallAnswers.Refusals.{first_refusal}
use Rattle.kernel_calls.proofs.CallAnswers.FoundTask.{any-one, reads}
use Rattle.kernel_calls.proofs.CallAnswers.GuestTask.{GuestFacts, guest-facts}
use Rattle.kernel_calls.specs.CallAnswers.Tasks.{is_dead}
use Rattle.kernel_calls.specs.BlockCalls.Freevec.{has_packet_in}
use Rattle.kernel_calls.specs.TaskCalls.DeleteTask.{HasEnded, deletion_tests, end_tests, has_no_coroutines, has_no_work, has_packet_out}
use Rattle.kernel_model.specs.KernelRecord.Running.{RunsAlive}
use Rattle.kernel_calls.proofs.TaskCalls.TestsInTurn.{all-passed}

-- the state is the field and 3 more at most
state-near : (t : Task) → (t.field ≤ state_word t) × (state_word t ≤ t.field + 3)
state-near t = on t.queue t.held
  where
    on : (q : List QueuedPacket) (b : Bool) → (t.field ≤ state_word (record t { queue = q; held = b })) × (state_word (record t { queue = q; held = b }) ≤ t.field + 3)
    on [] true = (omega arith, omega arith)
    on [] false = (omega arith, omega arith)
    on (p ∷ ps) true = (omega arith, omega arith)
    on (p ∷ ps) false = (omega arith, omega arith)

low-state : (t : Task) → state_word t < 12 → eqb t.field 12 ≡ false
low-state t low = ne_eqb t.field 12 (λ e. absurd (omega (arith, e, low, (state-near t).0)))

high-state : (t : Task) → IsField t.field → 12 ≤ state_word t → eqb t.field 12 ≡ true
high-state t (inl e) high = absurd (omega (arith, e, high, (state-near t).1))
high-state t (inr (inl e)) high = absurd (omega (arith, e, high, (state-near t).1))
high-state t (inr (inr (inl e))) high = absurd (omega (arith, e, high, (state-near t).1))
high-state t (inr (inr (inr e))) high = eq-eqb t.field 12 e

no_packet : (ps : List QueuedPacket) (w : ℕ) → AllByRecursion (λ p. 0 < p.address) ps → w ≡ first_of (λ p. p.address) ps 0 → w ≡ 0 → is_empty_queue ps ≡ true
no_packet [] w some is none = refl
no_packet (p ∷ ps) w some is none = absurd (omega (arith, some.0, is, none))

some_packet : (ps : List QueuedPacket) (w : ℕ) → w ≡ first_of (λ p. p.address) ps 0 → w ≢ 0 → is_empty_queue ps ≡ false
some_packet [] w is some = absurd (some is)
some_packet (p ∷ ps) w is some = refl

no_coroutine : (cs : List Coroutine) (w : ℕ) → AllByRecursion (λ c. 0 < c.address) cs → w ≡ first_of address_of cs 0 → w ≡ 0 → eqb (length cs) 0 ≡ true
no_coroutine [] w some is none = refl
no_coroutine (c ∷ cs) w some is none = absurd (omega (arith, some.0, is, none))

some_coroutine : (cs : List Coroutine) (w : ℕ) → w ≡ first_of address_of cs 0 → w ≢ 0 → eqb (length cs) 0 ≡ false
some_coroutine [] w is some = absurd (some is)
some_coroutine (c ∷ cs) w is some = ne_eqb (length (c ∷ cs)) 0 (λ e. absurd (omega (arith, e)))

module _ (s : List ℕ) (l : Lists) (id address : ℕ) (h : HoldsLists s l) (g : GuestAt l id address) where
  abbrev t : Task
  t = g.task

  facts : GuestFacts s l id address t
  facts = guest-facts s l id address h g

  words : HoldsTask s l.version t
  words =
      all-here (HoldsTask s l.version) g.front t g.back
      (subst (AllByRecursion (HoldsTask s l.version)) g.is
      (holds-each task_address (task_words l.version) s (HoldsTask s l.version) (λ u n own. holds-task s l.version u n own) l.tasks 0 (reads s l h).held_tasks.holds.1))

  work : HeldQueue s (queue_head t.address) t.queue
  work =
      all-here (λ u. HeldQueue s (queue_head u.address) u.queue) g.front t g.back
      (subst (AllByRecursion (λ u. HeldQueue s (queue_head u.address) u.queue)) g.is (reads s l h).work)

  this : (test : Task → Bool) → list_any (λ u. eqb u.id id && test u) l.tasks ≡ test t
  this test =
      ap (list_any (λ u. eqb u.id id && test u)) g.is
      ∙ any-one id test g.front t g.back g.number (subst (λ ts. IsApart (map task_id ts)) g.is h.valid.tasks.distinct)

  pub alive : get_or s (address + 4) 0 < 12 → is_dead l id ≡ false
  alive low = this (λ u. eqb u.field 12) ∙ low-state t (omega (arith, low, facts.state))

  pub dead : 12 ≤ get_or s (address + 4) 0 → is_dead l id ≡ true
  dead high = this (λ u. eqb u.field 12) ∙ high-state t facts.task.field (omega (arith, high, facts.state))

  first : get_or s (address + 3) 0 ≡ first_of (λ p. p.address) t.queue 0
  first = ap (λ a. get_or s (a + 3) 0) (sym g.at) ∙ words.queue.0

  pub waiting : get_or s (address + 3) 0 ≢ 0 → has_no_work l id ≡ false
  waiting some = this (λ u. is_empty_queue u.queue) ∙ some_packet t.queue (get_or s (address + 3) 0) first some

  pub served : get_or s (address + 3) 0 ≡ 0 → has_no_work l id ≡ true
  served none = this (λ u. is_empty_queue u.queue) ∙ no_packet t.queue (get_or s (address + 3) 0) work.some first none

  newest : get_or s (address + 17) 0 ≡ first_of address_of t.coroutines.list 0
  newest = ap (λ a. get_or s (a + 17) 0) (sym g.at) ∙ words.coroutines.1.1.1.0

  pub several : get_or s (address + 17) 0 ≢ 0 → has_no_coroutines l id ≡ false
  several some = this (λ u. eqb (length u.coroutines.list) 0) ∙ some_coroutine t.coroutines.list (get_or s (address + 17) 0) newest some

  pub single : get_or s (address + 17) 0 ≡ 0 → has_no_coroutines l id ≡ true
  single none =
      this (λ u. eqb (length u.coroutines.list) 0)
      ∙ no_coroutine t.coroutines.list (get_or s (address + 17) 0)
      (all-each (IsCoroutine l) (λ c. 0 < c.address) (λ c is. omega (arith, is.block.here)) t.coroutines.list facts.coroutines.each) newest none

  pub at-address : address_of_task l id ≡ address
  at-address = ap (λ ts. address_with task_address task_id ts id) g.is ∙ address_with-here task_address task_id (task_words l.version) (are_tasks l.version) id g.front t g.back g.number none_before ∙ g.at
    where
      none_before : times id (map task_id g.front) ≡ 0
      none_before =
          omega (
            arith,
            subst (λ ts. IsApart (map task_id ts)) g.is h.valid.tasks.distinct id,
            ap (times id) (map-append task_id g.front (t ∷ g.back)),
            times-append id (map task_id g.front) (map task_id (t ∷ g.back)),
            hit-same id t.id (sym g.number),
          )

-- the tests with these outcomes
pub tests-are : (l : Lists) (id p : ℕ) (a b c d e : Bool) → is_dead l id ≡ a → has_no_work l id ≡ b → has_packet_out l id ≡ c → has_no_coroutines l id ≡ d → has_packet_in l p ≡ e → address_of_task l id ≡ p
    → first_refusal (deletion_tests l id) ≡ first_refusal ((a, 11) ∷ (b, 12) ∷ (not c, 13) ∷ (d, 25) ∷ (not e, 7) ∷ [])
tests-are l id p a b c d e i j k m n at =
    λ x. first_refusal ((i x, 11) ∷ (j x, 12) ∷ (not (k x), 13) ∷ (m x, 25) ∷ (not ((ap (has_packet_in l) at ∙ n) x), 7) ∷ [])

pub ended : (l : Lists) (id : ℕ) → is_dead l id ≡ true → has_no_work l id ≡ true → has_packet_out l id ≡ false → has_no_coroutines l id ≡ true → first_refusal (end_tests l id) ≡ None
ended l id i j k m = λ x. first_refusal ((i x, 11) ∷ (j x, 12) ∷ (not (k x), 13) ∷ (m x, 25) ∷ [])

-- where all hold, the task has ended, and no packet lies in its block
pub may-go : (s : List ℕ) (l : Lists) (id address : ℕ) → HoldsLists s l → RunsAlive l → (g : GuestAt l id address) → first_refusal (deletion_tests l id) ≡ None → HasEnded l id address × (has_packet_in l address ≡ false)
may-go s l id address h runs g e =
    let parts = all-passed (end_tests l id) ((not (has_packet_in l (address_of_task l id)), 7) ∷ []) e in (
      record { guest = g; accepted = parts.0; runs_alive = runs },
      ap (has_packet_in l) (sym (at-address s l id address h g)) ∙ none (has_packet_in l (address_of_task l id)) parts.1,
    )
  where
    none : (b : Bool) → ◌≡◌ {A = Option ℕ} (cond (not b) None (Some 7)) None → b ≡ false
    none false e = refl
    none true e = cc
