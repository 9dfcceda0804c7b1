-- What the call makes that gives a guest one more module.
use Rattle.std.proofs.Common.{◌≡◌, ℕ, ◌+◌, ◌<◌, List, [], ◌∷◌, ◌++◌, length, get_or, set, cond, not, Bool, true, false, Some, None, Ok, Err, refl, sym, ap, ◌∙◌, subst}
use Rattle.std.specs.List.{list_any}
use Rattle.kernel_lists.specs.OwnedWords.Owned.{owners}
use Rattle.kernel_lists.specs.HunkLoader.Globals.{globals_in, with_globals}
use Rattle.kernel_lists.specs.TaskBlock.Versions.{module_index}
use Rattle.kernel_model.specs.KernelRecord.ChangedStore.{HasKeeper, IsChanged}
use Rattle.kernel_model.specs.KernelRecord.Changes.{AreUnowned, with_task}
use Rattle.kernel_model.specs.KernelRecord.Lists.{Lists, queued}
use Rattle.kernel_model.specs.KernelRecord.Owned.{owned}
use Rattle.kernel_model.specs.KernelRecord.Task.{globals_of}
use Rattle.kernel_model.specs.KernelRecord.Versions.{most_modules_of}
use Rattle.kernel_model.proofs.KernelRecord.ChangedLists.{changed-then, knows-same}
use Rattle.kernel_calls.specs.CallAnswers.Guests.{GuestAt, guest_tests}
use Rattle.kernel_calls.specs.CallAnswers.CallChange.{CallChange, IsMade}
use Rattle.kernel_calls.specs.CallAnswers.Refusals.{first_refusal}
use Rattle.kernel_calls.proofs.CallAnswers.MadeCalls.{made-accepted, made-refused}
use Rattle.kernel_calls.proofs.CallAnswers.Refusals.{first_refusal-failed, first_refusal-passed}
use Rattle.kernel_calls.specs.ModuleCalls.AddModule.{add_module, addition_tests, check_tests, global_words, globals_of_task, has_packet_in_globals, lies_in_globals, modules_so_far, task_of, with_further}
use Rattle.kernel_calls.proofs.ModuleCalls.AddedModule.{added-changed, added-same, globals-changed}
use Rattle.kernel_calls.proofs.ModuleCalls.GlobalPackets.{empty-unowned, unowned-empty}
use Rattle.kernel_calls.proofs.ModuleCalls.AdditionTests.{IsChecked, checks-passed, room-is}
use Rattle.kernel_calls.proofs.ModuleCalls.TaskGlobals.{globals-are, globals-told, task-is}

module _ (s : List ℕ) (tells : List ℕ → Type 0) (room : ℕ) (l : Lists) (id m : ℕ) (k : HasKeeper s tells room l) where
  abbrev made : CallChange
  made =
      record {
        answer = Ok (modules_so_far (task_of id l) + 1);
        lists = with_task id (with_further m) l;
        plain = global_words (globals_of_task id l) (globals_in s m);
        events = [];
      }

  abbrev last : List (Bool × ℕ)
  last = (not (has_packet_in_globals l id), 7) ∷ []

  refused-by : (code : ℕ) → first_refusal (addition_tests s l id m) ≡ Some code → IsMade s s tells (Err code) (add_module s l id m)
  refused-by code e = made-refused s l (addition_tests s l id m) made tells code k.lists k.knows e

  pub add-no_guest : (code : ℕ) → first_refusal (guest_tests l id) ≡ Some code → IsMade s s tells (Err code) (add_module s l id m)
  add-no_guest code e = refused-by code (first_refusal-failed (guest_tests l id) (check_tests s l id m ++ last) code e)

  module _ (address : ℕ) (g : GuestAt l id address) where
    pub add-unchecked : (code : ℕ) → first_refusal (check_tests s l id m) ≡ Some code → IsMade s s tells (Err code) (add_module s l id m)
    add-unchecked code e =
        refused-by code (first_refusal-passed (guest_tests l id) (check_tests s l id m ++ last) g.accepted ∙ first_refusal-failed (check_tests s l id m) last code e)

    module _ (passed : first_refusal (check_tests s l id m) ≡ None) (start : ℕ) (starts : start ≡ get_or s (address + 8) 0) where
      here : globals_of l.version g.task ≡ start
      here = sym (globals-told s l id address k.lists g) ∙ sym starts

      start-is : globals_of_task id l ≡ start
      start-is = globals-are s l id address k.lists g ∙ here

      tests-are : (b : Bool) → list_any (lies_in_globals start) (queued l) ≡ b → first_refusal (addition_tests s l id m) ≡ cond (not b) None (Some 7)
      tests-are b e =
          first_refusal-passed (guest_tests l id) (check_tests s l id m ++ last) g.accepted
          ∙ first_refusal-passed (check_tests s l id m) last passed
          ∙ ap (λ a. cond (not (list_any (lies_in_globals a) (queued l))) None (Some 7)) start-is
          ∙ ap (λ x. cond (not x) None (Some 7)) e

      pub add-packet : (AreUnowned l start (start + 1001) → ⊥) → IsMade s s tells (Err 7) (add_module s l id m)
      add-packet owned = on (list_any (lies_in_globals start) (queued l)) refl
        where
          on : (b : Bool) → list_any (lies_in_globals start) (queued l) ≡ b → IsMade s s tells (Err 7) (add_module s l id m)
          on true e = refused-by 7 (tests-are true e)
          on false e = absurd (owned (subst (λ a. AreUnowned l a (a + 1001)) here (empty-unowned s l id address k.lists g (subst (λ a. list_any (lies_in_globals a) (queued l) ≡ false) (sym here) e))))

      pub add-made : (t : List ℕ) (count : ℕ) → AreUnowned l start (start + 1001) → count ≡ length g.task.modules
          → t ≡ set (with_globals s start (globals_in s m)) (address + module_index (count + 1)) m → IsMade s t tells (Ok (count + 1)) (add_module s l id m)
      add-made t count unowned is words =
          made-accepted s l (addition_tests s l id m) made t tells (Ok (count + 1)) (tests-are false (subst (λ a. list_any (lies_in_globals a) (queued l) ≡ false) here (unowned-empty s l id address k.lists g (subst (λ a. AreUnowned l a (a + 1001)) (sym here) unowned))))
          (subst (λ z. IsMade s z tells (Ok (count + 1)) made) (sym words)
          (record { leaves = record { lists = changed; answered = ap Ok (ap (λ n. n + 1) (is ∙ ap modules_so_far (sym (task-is s l id address k.lists g)))) }; knows = knows-same tells l (with_task id (with_further m) l) same k.knows }))
        where
          c : IsChecked l id m
          c = checks-passed s l id m passed

          few : count < most_modules_of l.version
          few = subst (λ n. n < most_modules_of l.version) (sym is) (room-is s l id address k.lists g c.room)

          first : IsChanged s (with_globals s start (globals_in s m)) l (global_words start (globals_in s m))
          first = globals-changed s l m start k.lists unowned

          same : (a : ℕ) → owners a (owned (with_task id (with_further m) l)) ≡ owners a (owned l)
          same a = added-same (with_globals s start (globals_in s m)) l id address m count first.lists g c.there is few a

          changed : IsChanged s (set (with_globals s start (globals_in s m)) (address + module_index (count + 1)) m) (with_task id (with_further m) l) (global_words (globals_of_task id l) (globals_in s m))
          changed =
              subst (λ a. IsChanged s (set (with_globals s start (globals_in s m)) (address + module_index (count + 1)) m) (with_task id (with_further m) l) (global_words a (globals_in s m))) (sym start-is)
              (changed-then s (with_globals s start (globals_in s m)) _ l (with_task id (with_further m) l) (global_words start (globals_in s m)) first
              (added-changed (with_globals s start (globals_in s m)) l id address m count first.lists g c.there is few) (λ a none. sym (same a) ∙ none))
