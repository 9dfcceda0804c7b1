-- What a store has of a guest that was found in it.
use Rattle.std.proofs.Common.{◌≡◌, ℕ, ◌+◌, ◌/◌, ◌%◌, List, ◌∷◌, ◌++◌, get_or, map, eqb, true, sym, ap, ◌∙◌, subst}
use Rattle.std.specs.List.{AllByRecursion}
use Rattle.kernel_lists.specs.OwnedWords.Owned.{Holds}
use Rattle.kernel_model.specs.KernelRecord.HoldsLists.{HoldsLists}
use Rattle.kernel_model.specs.KernelRecord.Lists.{Lists}
use Rattle.kernel_model.specs.KernelRecord.Task.{Task, is_guest_id, state_word, state_words, task_address, task_id, task_words}
use Rattle.kernel_model.specs.KernelRecord.ValidTasks.{AreValidCoroutines, IsTask}
use Rattle.kernel_model.proofs.KernelRecord.AllThings.{all-here}
use Rattle.kernel_model.proofs.KernelRecord.EachMember.{holds-each}
use Rattle.kernel_model.proofs.KernelRecord.ReadCoroutines.{holds-task}
use Rattle.kernel_model.proofs.KernelRecord.RecoveredTasks.{state-held}
use Rattle.kernel_model.specs.KernelRecord.Changes.{change_of}
use Rattle.kernel_model.specs.KernelRecord.ValidLists.{AreValid}
use Rattle.kernel_model.proofs.KernelRecord.ChainSplits.{change-between}
use Rattle.word_store.specs.Count.{IsApart}
use Rattle.kernel_calls.specs.CallAnswers.Guests.{GuestAt}
use Rattle.kernel_calls.proofs.CallAnswers.FoundTask.{reads}
use Rattle.kernel_calls.proofs.CallAnswers.Refusals.{accepted-guest}

-- the words 4 to 16 of its task block
pub guest-words : (s : List ℕ) (l : Lists) (id address : ℕ) → HoldsLists s l → (g : GuestAt l id address) → Holds s (state_words l.version g.task)
guest-words s l id address h g =
    all-here (λ u. Holds s (state_words l.version u)) g.front g.task g.back
    (subst (AllByRecursion (λ u. Holds s (state_words l.version u))) g.is
    (holds-each task_address (task_words l.version) s (λ u. Holds s (state_words l.version u)) (λ u n own. (holds-task s l.version u n own).state) l.tasks 0 (reads s l h).held_tasks.holds.1))

-- its words and its rules
pub record GuestFacts (s : List ℕ) (l : Lists) (id address : ℕ) (t : Task) : Type 0 where
  pub state : get_or s (address + 4) 0 ≡ state_word t
  pub flags : get_or s (address + 5) 0 ≡ t.flags
  pub task : IsTask l t
  pub coroutines : AreValidCoroutines l t
  pub guest : is_guest_id t.id ≡ true
  pub bit : eqb (get_or s (address + 4) 0 / 2 % 2) 1 ≡ t.held

pub guest-facts : (s : List ℕ) (l : Lists) (id address : ℕ) → HoldsLists s l → (g : GuestAt l id address) → GuestFacts s l id address g.task
guest-facts s l id address h g =
    let t : Task = g.task in
    let words : Holds s (state_words l.version t) = guest-words s l id address h g in
    let task : IsTask l t = all-here (IsTask l) g.front t g.back (subst (AllByRecursion (IsTask l)) g.is h.valid.tasks.each) in
    let state : get_or s (address + 4) 0 ≡ state_word t = ap (λ a. get_or s (a + 4) 0) (sym g.at) ∙ words.0 in
    record {
      state = state;
      flags = ap (λ a. get_or s (a + 5) 0) (sym g.at) ∙ words.1.0;
      task = task;
      coroutines = all-here (AreValidCoroutines l) g.front t g.back (subst (AllByRecursion (AreValidCoroutines l)) g.is h.valid.coroutines);
      guest = ap is_guest_id g.number ∙ accepted-guest l id address g;
      bit = ap (λ w. eqb (w / 2 % 2) 1) state ∙ state-held t task.field;
    }

-- the tasks, where this one alone changes
pub guest-changed : (l : Lists) (id address : ℕ) (change : Task → Task) → AreValid l → (g : GuestAt l id address) → map (change_of id change) l.tasks ≡ g.front ++ change g.task ∷ g.back
guest-changed l id address change v g =
    ap (map (change_of id change)) g.is
    ∙ subst (λ i. map (change_of i change) (g.front ++ g.task ∷ g.back) ≡ g.front ++ change g.task ∷ g.back) g.number
    (change-between change g.front g.task g.back (subst (λ ts. IsApart (map task_id ts)) g.is v.tasks.distinct))
