-- What other flags of a task leave.
use Rattle.std.proofs.Common.{◌≡◌, ◌∙◌, ap, bit_and, eqb, map, Ok, ℕ, ◌+◌, List, [], ◌∷◌, get_or, set, refl, sym, subst}
use Rattle.std.specs.Prelude.{find}
use Rattle.std.specs.Option.{option_map_or}
use Rattle.word_store.specs.Count.{IsApart}
use Rattle.kernel_lists.specs.OwnedWords.Exchange.{Exchange}
use Rattle.kernel_lists.specs.OwnedWords.LinkedWords.{first_of}
use Rattle.kernel_lists.proofs.OwnedWords.Exchanges.{exchange-left, exchange-right, exchange-row}
use Rattle.kernel_model.specs.KernelRecord.ChangedStore.{IsChanged}
use Rattle.kernel_model.specs.KernelRecord.Changes.{with_task}
use Rattle.kernel_model.specs.KernelRecord.HoldsLists.{HoldsLists}
use Rattle.kernel_model.specs.KernelRecord.Lists.{Lists}
use Rattle.kernel_model.specs.KernelRecord.Task.{Task, globals_of, name_words, stack_of, state_word, state_words, task_id, task_words}
use Rattle.kernel_calls.specs.CallAnswers.Guests.{GuestAt}
use Rattle.kernel_model.proofs.KernelRecord.AlteredTask.{IsTask-altered}
use Rattle.kernel_calls.proofs.CallAnswers.GuestTask.{GuestFacts, guest-facts}
use Rattle.kernel_calls.proofs.CallAnswers.FoundTask.{find-numbered}
use Rattle.kernel_calls.proofs.TaskCalls.Held.{behind_state}
use Rattle.kernel_calls.specs.TaskCalls.TestFlags.{test_flags}
use Rattle.kernel_calls.proofs.TaskCalls.OneWord.{word-changed}

-- its words 6 to 16
abbrev behind_flags : ℕ → Task → List ℕ
behind_flags version t =
    stack_of version t ∷ t.highest ∷ globals_of version t ∷ t.maker ∷ first_of (λ m. m) t.modules 0
    ∷ t.saved.a ∷ t.saved.b ∷ t.saved.c ∷ t.saved.p ∷ t.saved.g ∷ t.saved.pc ∷ []

pub flags-exchange : (version : ℕ) (t : Task) (f n : ℕ)
    → Exchange (task_words version t n) (task_words version (record t { flags = f }) n) ((t.address + 5, t.flags) ∷ []) ((t.address + 5, f) ∷ [])
flags-exchange version t f n =
    exchange-right ((t.address, n) ∷ name_words t) _ _ _ _
    (exchange-left (state_words version t) (state_words version (record t { flags = f })) (behind_state version t) _ _
    (exchange-row t.address 4 t.flags f (state_word t ∷ []) (behind_flags version t)))

-- other flags, as a function of those that it has
pub flags-changed : (s : List ℕ) (l : Lists) (id address : ℕ) (f : ℕ → ℕ) → HoldsLists s l → GuestAt l id address
    → IsChanged s (set s (address + 5) (f (get_or s (address + 5) 0))) (with_task id (λ t. record t { flags = f t.flags }) l) []
flags-changed s l id address f h g =
    let facts : GuestFacts s l id address g.task = guest-facts s l id address h g in
    let change : Task → Task = λ t. record t { flags = f t.flags } in
    subst (λ a. IsChanged s (set s (a + 5) (f (get_or s (address + 5) 0))) (with_task id change l) []) g.at
    (subst (λ z. IsChanged s (set s (g.task.address + 5) (f z)) (with_task id change l) []) (sym facts.flags)
    (word-changed s l id address change (g.task.address + 5) g.task.flags (f g.task.flags) h g
    (record { id = refl; address = refl; priority = refl; queue = refl; coroutines = refl })
    (IsTask-altered l g.task (f g.task.flags) g.task.held g.task.priority facts.task.low facts.task.high facts.guest facts.task)
    (record { each = facts.coroutines.each; members = facts.coroutines.members; distinct = facts.coroutines.distinct })
    (flags-exchange l.version g.task (f g.task.flags))))

-- what it has of some flags
pub flags-tested : (s : List ℕ) (l : Lists) (address mask : ℕ) → HoldsLists s l → GuestAt l l.running address → Ok (bit_and (get_or s (address + 5) 0) mask) ≡ (test_flags l mask).answer
flags-tested s l address mask h g =
    ap (λ w. Ok (bit_and w mask)) (guest-facts s l l.running address h g).flags
    ∙ ap (λ o. Ok (option_map_or (λ t. bit_and t.flags mask) o 0))
    (sym (ap (find (λ u. eqb u.id l.running)) g.is ∙ find-numbered l.running g.front g.task g.back g.number (subst (λ ts. IsApart (map task_id ts)) g.is h.valid.tasks.distinct)))
