-- Calls that note no event.
use Rattle.std.proofs.Common.{◌≡◌, ℕ, ◌+◌, ◌++◌, List, [], ◌∷◌, Bool, true, false, cond, eqb, Option, Some, None, Ok, refl}
use Rattle.std.specs.Prelude.{unwrap_or}
use Rattle.kernel_lists.specs.HunkLoader.Globals.{globals_in}
use Rattle.kernel_model.specs.KernelRecord.Changes.{with_task}
use Rattle.kernel_model.specs.KernelRecord.Lists.{Lists}
use Rattle.kernel_calls.specs.CallAnswers.Guests.{guest_tests}
use Rattle.kernel_calls.specs.CallAnswers.CallChange.{CallChange, by_refusal, done, unless_refused}
use Rattle.kernel_calls.specs.CallAnswers.Refusals.{first_refusal}
use Rattle.kernel_calls.specs.BlockCalls.FreeStore.{data_taken, with_taken}
use Rattle.kernel_calls.specs.BlockCalls.Freevec.{freevec, freevec_tests, with_given}
use Rattle.kernel_calls.specs.BlockCalls.Getvec.{getvec, getvec_tests}
use Rattle.kernel_calls.specs.CoroutineCalls.CreateCo.{create_tests, created, createco}
use Rattle.kernel_calls.specs.CoroutineCalls.DeleteCo.{delete_tests, deleteco, with_deleted_at}
use Rattle.kernel_lists.specs.Coroutines.Creation.{highest}
use Rattle.kernel_calls.specs.ModuleCalls.AddModule.{add_module, addition_tests, global_words, globals_of_task, modules_so_far, task_of, with_further}
use Rattle.kernel_calls.specs.ModuleCalls.UnloadModule.{unload_module, unload_tests, without_module}
use Rattle.kernel_calls.specs.TaskCalls.ChangePri.{change_pri, priority_tests, with_new_priority}
use Rattle.kernel_calls.specs.TaskCalls.CreateTask.{create_task, creation_tests, new_task, number_of, with_created}
use Rattle.kernel_calls.specs.TaskCalls.DeleteTask.{delete_task, deletion_tests, without_task}
use Rattle.kernel_calls.specs.TaskCalls.HoldTask.{held, hold, hold_tests}
use Rattle.kernel_calls.specs.TaskCalls.ReleaseTask.{release, release_tests, released}
use Rattle.kernel_calls.specs.TaskCalls.SetFlags.{flagged, set_flags}

-- refused or not
refused-silent : (o : Option ℕ) (l : Lists) (m : CallChange) → m.events ≡ [] → (by_refusal o l m).events ≡ []
refused-silent None l m e = e
refused-silent (Some code) l m e = refl

pub getvec-silent : (l : Lists) (u : ℕ) → (getvec l u).events ≡ []
getvec-silent l u = refused-silent (first_refusal (getvec_tests l u)) l (record { answer = Ok (data_taken u l); lists = with_taken u l; plain = []; events = [] }) refl

pub freevec-silent : (l : Lists) (v : ℕ) → (freevec l v).events ≡ []
freevec-silent l v = on (eqb v 0)
  where
    on : (b : Bool) → (cond b (done l) (unless_refused (freevec_tests l v) l (done (with_given v l)))).events ≡ []
    on true = refl
    on false = refused-silent (first_refusal (freevec_tests l v)) l (done (with_given v l)) refl

pub create_task-silent : (s : List ℕ) (l : Lists) (m u pri maker : ℕ) → (create_task s l 0 (m ∷ []) u pri maker).events ≡ []
create_task-silent s l m u pri maker =
    refused-silent (first_refusal (creation_tests s l 0 (m ∷ []) u pri)) l (with_created s l (new_task l (unwrap_or (number_of l 0) 0) (m ∷ []) u pri maker)) refl

pub delete_task-silent : (l : Lists) (id : ℕ) → (delete_task l id).events ≡ []
delete_task-silent l id = refused-silent (first_refusal (guest_tests l id ++ deletion_tests l id)) l (done (without_task l id)) refl

pub change_pri-silent : (l : Lists) (id pri : ℕ) → (change_pri l id pri).events ≡ []
change_pri-silent l id pri = refused-silent (first_refusal (guest_tests l id ++ priority_tests l id pri)) l (done (with_new_priority id pri l)) refl

pub set_flags-silent : (l : Lists) (id flags : ℕ) → (set_flags l id flags).events ≡ []
set_flags-silent l id flags = refused-silent (first_refusal (guest_tests l id)) l (done (with_task id (flagged flags) l)) refl

pub hold-silent : (l : Lists) (id : ℕ) → (hold l id).events ≡ []
hold-silent l id = refused-silent (first_refusal (hold_tests l id)) l (done (with_task id held l)) refl

pub release-silent : (l : Lists) (id : ℕ) → (release l id).events ≡ []
release-silent l id = refused-silent (first_refusal (release_tests l id)) l (done (with_task id released l)) refl

pub unload_module-silent : (l : Lists) (m : ℕ) → (unload_module l m).events ≡ []
unload_module-silent l m = refused-silent (first_refusal (unload_tests l m)) l (done (with_given m (without_module m l))) refl

pub createco-silent : (l : Lists) (entry u : ℕ) → (createco l entry u).events ≡ []
createco-silent l entry u = refused-silent (first_refusal (create_tests l u)) l (created (data_taken (highest u) l) entry u l) refl

pub deleteco-silent : (l : Lists) (c : ℕ) → (deleteco l c).events ≡ []
deleteco-silent l c = refused-silent (first_refusal (delete_tests l c)) l (done (with_deleted_at c l)) refl

pub add_module-silent : (s : List ℕ) (l : Lists) (id m : ℕ) → (add_module s l id m).events ≡ []
add_module-silent s l id m =
    refused-silent (first_refusal (addition_tests s l id m)) l
    (record {
      answer = Ok (modules_so_far (task_of id l) + 1);
      lists = with_task id (with_further m) l;
      plain = global_words (globals_of_task id l) (globals_in s m);
      events = [];
    })
    refl
