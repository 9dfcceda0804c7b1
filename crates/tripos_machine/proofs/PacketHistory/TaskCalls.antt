-- Flags, holding and releasing, a priority; a task is created, or deleted.
use Rattle.std.proofs.Common.{◌≡◌, ℕ, ◌+◌, ◌-◌, ◌^◌, ◌||◌, not, Bool, true, false, bit_and, bit_or, Option, Some, None, Result, Ok, List, [], ◌∷◌, ◌++◌, refl, sym, ap, ◌∙◌}
use Rattle.std.specs.Prelude.{is_some, unwrap_or}
use Rattle.std.specs.List.{list_any}
use Rattle.std.specs.Option.{ok_or}
use Rattle.kernel_lists.specs.LinkedList.Places.{has}
use Rattle.kernel_lists.specs.declared.getvec_chain.pieces.Run.{Run}
use Rattle.kernel_lists.specs.GetvecChain.Give.{given_store}
use Rattle.kernel_lists.specs.GetvecChain.Run.{first_run, need}
use Rattle.kernel_lists.specs.GetvecChain.Take.{IsTaken, taken_store}
use Rattle.kernel_lists.specs.TaskBlock.Lists.{modules_in}
use Rattle.kernel_lists.specs.TaskBlock.Moves.{without_task as task_out}
use Rattle.kernel_lists.specs.TaskBlock.Versions.{head_words}
use Rattle.kernel_model.specs.KernelRecord.Changes.{with_new_task, with_task}
use Rattle.kernel_model.specs.KernelRecord.HoldsLists.{HoldsLists}
use Rattle.kernel_model.specs.KernelRecord.Lists.{Lists, address_of_task}
use Rattle.kernel_model.specs.KernelRecord.Running.{RunsAlive}
use Rattle.kernel_model.specs.KernelRecord.Task.{Task}
use Rattle.kernel_model.specs.KernelRecord.ValidLists.{AreValid}
use Rattle.kernel_calls.specs.CallAnswers.Callers.{HasCaller}
use Rattle.kernel_calls.specs.CallAnswers.Guests.{GuestAt, guest_tests}
use Rattle.kernel_calls.specs.CallAnswers.CallChange.{done}
use Rattle.kernel_calls.specs.CallAnswers.Modules.{has_module}
use Rattle.kernel_calls.specs.CallAnswers.Refusals.{first_refusal}
use Rattle.kernel_calls.proofs.CallAnswers.FoundTask.{reads}
use Rattle.kernel_calls.proofs.CallAnswers.ListedModules.{module-told}
use Rattle.kernel_calls.proofs.CallAnswers.Refusals.{first_refusal-front, passed-tests}
use Rattle.kernel_calls.specs.BlockCalls.FreeStore.{with_taken}
use Rattle.kernel_calls.specs.BlockCalls.Getvec.{getvec_tests}
use Rattle.kernel_calls.proofs.BlockCalls.TakenStore.{taken-changed}
use Rattle.kernel_calls.specs.TaskCalls.ChangePri.{change_pri, priority_tests, with_new_priority}
use Rattle.kernel_calls.specs.TaskCalls.CreateTask.{MayCreate, create_task, creation_tests, has_high_globals, last_word_of, new_task, number_of, with_created}
use Rattle.kernel_calls.specs.TaskCalls.DeleteTask.{delete_task, deletion_tests, without_task}
use Rattle.kernel_calls.specs.TaskCalls.HoldTask.{held, hold, hold_tests}
use Rattle.kernel_calls.specs.TaskCalls.Private.NewTasks.{MayPlace}
use Rattle.kernel_calls.specs.TaskCalls.OneTask.{is_held}
use Rattle.kernel_calls.specs.TaskCalls.ReleaseTask.{release, release_tests, released}
use Rattle.kernel_calls.specs.TaskCalls.SetFlags.{flagged, set_flags}
use Rattle.kernel_calls.specs.TaskCalls.TestFlags.{cleared, test_flags}
use Rattle.kernel_calls.proofs.TaskCalls.ChangedPriority.{priority-changed}
use Rattle.kernel_calls.proofs.TaskCalls.CreationTests.{may-place}
use Rattle.kernel_calls.proofs.TaskCalls.EndTests.{may-go}
use Rattle.kernel_calls.proofs.TaskCalls.EndedTask.{removed-made}
use Rattle.kernel_calls.proofs.TaskCalls.PlacedTask.{comes}
use Rattle.kernel_calls.proofs.TaskCalls.TestsInTurn.{all-passed}
use Rattle.tripos_machine.proofs.PacketHistory.NoKeeper.{tells_nothing}
use Rattle.tripos_machine.proofs.PacketHistory.OneGuest.{guest-valid, state-valid}
use Rattle.tripos_machine.proofs.PacketHistory.TestedCalls.{calling-guest, tested-guest, unless-valid}

-- ---- flags, and whether a task is held

module _ (l : Lists) (v : AreValid l) where
  -- a guest with other flags, held or not
  altered-valid : (id address : ℕ) (change : Task → Task) (flags : ℕ) (b : Bool) (g : GuestAt l id address) → change g.task ≡ record g.task { flags = flags; held = b } → AreValid (with_task id change l)
  altered-valid id address change flags b g is = state-valid l id address v g change g.task.field flags b is (guest-valid l id address v g).field

  pub set_flags-valid : (id flags : ℕ) → AreValid (set_flags l id flags).lists
  set_flags-valid id flags =
      unless-valid (guest_tests l id) l (done (with_task id (flagged flags) l)) v
      (λ e. let g = tested-guest l id e in altered-valid id (address_of_task l id) (flagged flags) (bit_or g.task.flags flags) g.task.held g refl)

  pub test_flags-valid : (mask : ℕ) → HasCaller l → AreValid (test_flags l mask).lists
  test_flags-valid mask c =
      (let g = calling-guest l c in altered-valid l.running (address_of_task l l.running) (cleared mask) (bit_and g.task.flags (2 ^ 32 - 1 - mask)) g.task.held g refl)

  pub hold-valid : (id : ℕ) → AreValid (hold l id).lists
  hold-valid id =
      unless-valid (hold_tests l id) l (done (with_task id held l)) v
      (λ e. let g = tested-guest l id (first_refusal-front (guest_tests l id) ((not (is_held l id), 16) ∷ []) e) in altered-valid id (address_of_task l id) held g.task.flags true g refl)

  pub release-valid : (id : ℕ) → AreValid (release l id).lists
  release-valid id =
      unless-valid (release_tests l id) l (done (with_task id released l)) v
      (λ e. let g = tested-guest l id (first_refusal-front (guest_tests l id) ((is_held l id, 15) ∷ []) e) in altered-valid id (address_of_task l id) released g.task.flags false g refl)

module _ (s : List ℕ) (l : Lists) (h : HoldsLists s l) where
  -- ---- another priority

  pub change_pri-valid : (id pri : ℕ) → AreValid (change_pri l id pri).lists
  change_pri-valid id pri =
      unless-valid (guest_tests l id ++ priority_tests l id pri) l (done (with_new_priority id pri l)) h.valid
      (λ e. let parts = all-passed (guest_tests l id) (priority_tests l id pri) e in (priority-changed s l id (address_of_task l id) pri h (tested-guest l id parts.0) parts.1).lists.valid)

  -- ---- deletion

  pub delete_task-valid : (id : ℕ) → RunsAlive l → AreValid (delete_task l id).lists
  delete_task-valid id alive =
      unless-valid (guest_tests l id ++ deletion_tests l id) l (done (without_task l id)) h.valid gone
    where
      address : ℕ
      address = address_of_task l id

      gone : first_refusal (guest_tests l id ++ deletion_tests l id) ≡ None → AreValid (without_task l id)
      gone e =
          let parts = all-passed (guest_tests l id) (deletion_tests l id) e in
          let m = may-go s l id address h alive (tested-guest l id parts.0) parts.1 in
          (removed-made s l id address h m.0 m.1 (given_store (task_out s address) address) (head_words s) tells_nothing tells_nothing refl refl (λ _ _. tt) (λ _ _ _ _ _. tt)).leaves.lists.lists.valid

  -- ---- creation

  pub create_task-valid : (id : ℕ) (ms : List ℕ) (u pri maker : ℕ) → MayCreate l id ms maker → AreValid (create_task s l id ms u pri maker).lists
  create_task-valid id ms u pri maker may_create =
      unless-valid (creation_tests s l id ms u pri) l (with_created s l (new_task l (unwrap_or (number_of l id) 0) ms u pri maker)) h.valid made
    where
      last : ℕ
      last = last_word_of l.version u

      of_modules : List (Bool × ℕ)
      of_modules = (not (list_any (λ n. not (has_module l n)) ms), 17) ∷ []

      of_number : List (Bool × ℕ)
      of_number = (is_some (number_of l id), 10) ∷ []

      of_globals : List (Bool × ℕ)
      of_globals = (not (list_any (has_high_globals s) ms), 18) ∷ []

      of_room : List (Bool × ℕ)
      of_room = getvec_tests l last

      made : first_refusal (creation_tests s l id ms u pri) ≡ None → AreValid (with_created s l (new_task l (unwrap_or (number_of l id) 0) ms u pri maker)).lists
      made e =
          let modules = all-passed of_modules (priority_tests l 0 pri ++ (of_number ++ (of_globals ++ of_room))) e in
          let priority = all-passed (priority_tests l 0 pri) (of_number ++ (of_globals ++ of_room)) modules.1 in
          let number = all-passed of_number (of_globals ++ of_room) priority.1 in
          let globals = all-passed of_globals of_room number.1 in
          by (number_of l id) refl (first_run (need last) l.blocks) refl (module_is modules.0) priority.0 (passed-tests of_number number.0).0 (passed-tests of_room globals.1).0
        where
          -- the store's list of modules has them
          told : (ns : List ℕ) → list_any (λ n. not (has n (modules_in s))) ns ≡ list_any (λ n. not (has_module l n)) ns
          told [] = refl
          told (n ∷ ns) = λ i. not (module-told s l n h i) || told ns i

          module_is : first_refusal of_modules ≡ None → first_refusal ((not (list_any (λ n. not (has n (modules_in s))) ms), 17) ∷ []) ≡ None
          module_is one = ap (λ b. first_refusal ((not b, 17) ∷ [])) (told ms) ∙ one

          by : (o : Option ℕ) → number_of l id ≡ o → (r : Option Run) → first_run (need last) l.blocks ≡ r → first_refusal ((not (list_any (λ n. not (has n (modules_in s))) ms), 17) ∷ []) ≡ None
              → first_refusal (priority_tests l 0 pri) ≡ None → is_some o ≡ true → is_some r ≡ true → AreValid (with_new_task (new_task l (unwrap_or o 0) ms u pri maker) (with_taken last l))
          by None number r run one two some room = cc
          by (Some n) number None run one two some room = cc
          by (Some n) number (Some run) first one two some room =
              let three : ◌≡◌ {A = Result ℕ ℕ} (Ok n) (ok_or (number_of l id) 10) = ap (λ o. ok_or o 10) (sym number) in
              let may : MayPlace l n ms pri maker = may-place s l id ms u pri maker h one two n three may_create in
              let taken : IsTaken s (taken_store s run (need last)) last (run.start + 1) = record { run = run; first = ap (first_run (need last)) (reads s l h).blocks ∙ first; front = refl; words = refl } in
              (comes l n ms u pri maker s (taken_store s run (need last)) (run.start + 1) h may (taken-changed s (taken_store s run (need last)) l last (run.start + 1) h taken)).valid
