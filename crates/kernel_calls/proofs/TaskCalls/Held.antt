-- What holding and releasing leave.
use Rattle.std.proofs.Common.{◌≡◌, ℕ, ◌+◌, ◌-◌, ◌/◌, ◌%◌, List, [], ◌∷◌, ◌++◌, get_or, set, cond, eqb, map, not, ◌&&◌, Bool, true, false, Some, None, refl, sym, ap, ◌∙◌, subst, arith}
use Rattle.std.specs.List.{list_any}
use Rattle.word_store.specs.Count.{IsApart}
use Rattle.kernel_lists.specs.OwnedWords.Exchange.{Exchange}
use Rattle.kernel_lists.specs.OwnedWords.LinkedWords.{first_of}
use Rattle.kernel_lists.specs.OwnedWords.Owned.{Pairs}
use Rattle.kernel_lists.proofs.OwnedWords.Exchanges.{exchange-left, exchange-right, exchange-row}
use Rattle.kernel_lists.specs.PacketQueue.QueueWords.{queue_words}
use Rattle.kernel_lists.specs.Coroutines.CoroutineExchanges.{words_of_coroutines}
use Rattle.kernel_model.specs.KernelRecord.ChangedStore.{IsChanged}
use Rattle.kernel_model.specs.KernelRecord.Changes.{with_task}
use Rattle.kernel_model.specs.KernelRecord.HoldsLists.{HoldsLists}
use Rattle.kernel_model.specs.KernelRecord.Lists.{Lists}
use Rattle.kernel_model.specs.KernelRecord.Task.{Task, fault_words, globals_of, name_words, queue_bit, queue_head, stack_of, state_word, state_words, task_id, task_words}
use Rattle.kernel_calls.specs.CallAnswers.Guests.{GuestAt, guest_tests}
use Rattle.kernel_calls.specs.CallAnswers.Refusals.{first_refusal}
use Rattle.kernel_calls.specs.TaskCalls.HoldTask.{held, hold_tests}
use Rattle.kernel_calls.specs.TaskCalls.OneTask.{is_held}
use Rattle.kernel_calls.specs.TaskCalls.ReleaseTask.{release_tests, released}
use Rattle.kernel_model.proofs.KernelRecord.AlteredTask.{IsTask-altered}
use Rattle.kernel_calls.proofs.CallAnswers.FoundTask.{any-one}
use Rattle.kernel_calls.proofs.CallAnswers.GuestTask.{GuestFacts, guest-facts}
use Rattle.kernel_calls.proofs.CallAnswers.Refusals.{first_refusal-passed}
use Rattle.kernel_calls.proofs.TaskCalls.OneWord.{word-changed}

-- the words of a task behind those of its state
abbrev pub behind_state : ℕ → Task → Pairs
behind_state version t = fault_words version t ++ (queue_words (queue_head t.address) t.queue ++ words_of_coroutines t.address t.coroutines)

-- its words 5 to 16
abbrev behind_word : ℕ → Task → List ℕ
behind_word version t =
    t.flags ∷ stack_of version t ∷ t.highest ∷ globals_of version t ∷ t.maker ∷ first_of (λ m. m) t.modules 0
    ∷ t.saved.a ∷ t.saved.b ∷ t.saved.c ∷ t.saved.p ∷ t.saved.g ∷ t.saved.pc ∷ []

-- the word of its state alone tells whether it is held
pub state-exchange : (version : ℕ) (t : Task) (b : Bool) (n : ℕ)
    → Exchange (task_words version t n) (task_words version (record t { held = b }) n) ((t.address + 4, state_word t) ∷ []) ((t.address + 4, state_word (record t { held = b })) ∷ [])
state-exchange version t b n =
    exchange-right ((t.address, n) ∷ name_words t) _ _ _ _
    (exchange-left (state_words version t) (state_words version (record t { held = b })) (behind_state version t) _ _
    (exchange-row t.address 4 (state_word t) (state_word (record t { held = b })) [] (behind_word version t)))

-- whether a task is held, as code reads it
pub held-bit : (w v : ℕ) (b d : Bool) → w ≡ v → b ≡ eqb (w / 2 % 2) 1 → b ≡ d → eqb (v / 2 % 2) 1 ≡ d
held-bit w v b d same is e = ap (λ z. eqb (z / 2 % 2) 1) (sym same) ∙ sym is ∙ e

module _ (s : List ℕ) (l : Lists) (id address : ℕ) (h : HoldsLists s l) (g : GuestAt l id address) where
  abbrev word : ℕ
  word = get_or s (address + 4) 0

  facts : GuestFacts s l id address g.task
  facts = guest-facts s l id address h g

  state-changed : (b : Bool) (w : ℕ) → w ≡ state_word (record g.task { held = b }) → IsChanged s (set s (address + 4) w) (with_task id (λ t. record t { held = b }) l) []
  state-changed b w e =
      subst (λ a. IsChanged s (set s (a + 4) w) (with_task id (λ t. record t { held = b }) l) []) g.at
      (subst (λ z. IsChanged s (set s (g.task.address + 4) z) (with_task id (λ t. record t { held = b }) l) []) (sym e)
      (word-changed s l id address (λ t. record t { held = b }) (g.task.address + 4) (state_word g.task) (state_word (record g.task { held = b })) h g
      (record { id = refl; address = refl; priority = refl; queue = refl; coroutines = refl })
      (IsTask-altered l g.task g.task.flags b g.task.priority facts.task.low facts.task.high facts.guest facts.task)
      (record { each = facts.coroutines.each; members = facts.coroutines.members; distinct = facts.coroutines.distinct })
      (state-exchange l.version g.task b)))

  refusal : (test : Bool) (code : ℕ) → first_refusal (guest_tests l id ++ (test, code) ∷ []) ≡ cond test None (Some code)
  refusal test code = first_refusal-passed (guest_tests l id) ((test, code) ∷ []) g.accepted

  is-held : (b : Bool) → eqb (word / 2 % 2) 1 ≡ b → is_held l id ≡ b
  is-held b e =
      subst (λ ts. list_any (λ u. eqb u.id id && u.held) ts ≡ g.task.held) (sym g.is)
      (any-one id (λ u. u.held) g.front g.task g.back g.number (subst (λ ts. IsApart (map task_id ts)) g.is h.valid.tasks.distinct))
      ∙ sym facts.bit ∙ e

  pub hold-refused : eqb (word / 2 % 2) 1 ≡ true → first_refusal (hold_tests l id) ≡ Some 16
  hold-refused e = refusal (not (is_held l id)) 16 ∙ ap (λ b. cond (not b) None (Some 16)) (is-held true e)

  pub hold-accepted : eqb (word / 2 % 2) 1 ≡ false → first_refusal (hold_tests l id) ≡ None
  hold-accepted e = refusal (not (is_held l id)) 16 ∙ ap (λ b. cond (not b) None (Some 16)) (is-held false e)

  pub hold-changed : eqb (word / 2 % 2) 1 ≡ false → IsChanged s (set s (address + 4) (word + 2)) (with_task id held l) []
  hold-changed e =
      let free : g.task.held ≡ false = sym facts.bit ∙ e in
      state-changed true (word + 2) (omega (arith, facts.state, ap (λ b. g.task.field + queue_bit g.task.queue + cond b 2 0) free))

  pub release-refused : eqb (word / 2 % 2) 1 ≡ false → first_refusal (release_tests l id) ≡ Some 15
  release-refused e = refusal (is_held l id) 15 ∙ ap (λ b. cond b None (Some 15)) (is-held false e)

  pub release-accepted : eqb (word / 2 % 2) 1 ≡ true → first_refusal (release_tests l id) ≡ None
  release-accepted e = refusal (is_held l id) 15 ∙ ap (λ b. cond b None (Some 15)) (is-held true e)

  pub release-changed : eqb (word / 2 % 2) 1 ≡ true → IsChanged s (set s (address + 4) (word - 2)) (with_task id released l) []
  release-changed e =
      let was : g.task.held ≡ true = sym facts.bit ∙ e in
      state-changed false (word - 2) (omega (arith, facts.state, ap (λ b. g.task.field + queue_bit g.task.queue + cond b 2 0) was))
