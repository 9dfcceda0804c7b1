-- When a call is refused, and what a refused call leaves.
use Rattle.std.specs.Prelude.{◌≡◌, ℕ, ◌==◌, if◌then◌else◌, Bool, List, [], ◌∷◌, ◌++◌, Ok, Some}
use Rattle.word_store.specs.Arithmetic.{add}
use Rattle.word_store.specs.declared.registers.Regs.{Regs}
use Rattle.kernel_model.specs.KernelRecord.Lists.{Lists}
use Rattle.kernel_calls.specs.CallAnswers.Guests.{guest_tests}
use Rattle.kernel_calls.specs.CallAnswers.Refusals.{first_refusal}
use Rattle.kernel_calls.specs.BlockCalls.Freevec.{freevec_tests}
use Rattle.kernel_calls.specs.BlockCalls.Getvec.{getvec_tests}
use Rattle.kernel_calls.specs.ModuleCalls.AddModule.{addition_tests}
use Rattle.kernel_calls.specs.ModuleCalls.UnloadModule.{unload_tests}
use Rattle.kernel_calls.specs.PacketCalls.Dqpkt.{dqpkt_tests}
use Rattle.kernel_calls.specs.PacketCalls.Qpkt.{qpkt_tests}
use Rattle.kernel_calls.specs.TaskCalls.ChangePri.{priority_tests}
use Rattle.kernel_calls.specs.TaskCalls.CreateTask.{creation_tests}
use Rattle.kernel_calls.specs.TaskCalls.DeleteTask.{deletion_tests}
use Rattle.kernel_calls.specs.TaskCalls.HoldTask.{hold_tests}
use Rattle.kernel_calls.specs.TaskCalls.ReleaseTask.{release_tests}
use Rattle.kernel_calls.specs.CoroutineCalls.CallCo.{idle_tests}
use Rattle.kernel_calls.specs.CoroutineCalls.CallersCoroutines.{coroutines_of_caller}
use Rattle.kernel_calls.specs.CoroutineCalls.CoWait.{wait_tests}
use Rattle.kernel_calls.specs.CoroutineCalls.CreateCo.{create_tests}
use Rattle.kernel_calls.specs.CoroutineCalls.DeleteCo.{delete_tests}
use Rattle.kernel_calls.specs.CoroutineCalls.ResumeCo.{resume_tests}
use Rattle.kernel_calls.specs.Calls.{CallTurn}
use Rattle.kernel_calls.specs.CallNumbers.{call_of}
use Rattle.kernel_calls.specs.declared.call_numbers.CallOutcome.TheVariants.{Done}
use Rattle.kernel_calls.specs.declared.call_numbers.KernelCall.{KernelCall}
use Rattle.kernel_calls.specs.declared.call_numbers.KernelCall.TheVariants.{AddModule, CallCo, ChangePri, CoWait, CreateCo, CreateTask, DeleteCo, DeleteTask, Dqpkt, Freevec, Getvec, Hold, MulDiv, Qpkt, Quit, Release, ResumeCo, SetFlags, TaskWait, TestFlags, Unload, Wrch}

-- the tests of each call in their order, each with the code of its refusal
abbrev pub tests_of : List ℕ → Lists → KernelCall → List (Bool × ℕ)
tests_of s l (Quit result) = []
tests_of s l (Getvec u) = getvec_tests l u
tests_of s l (Freevec v) = if v == 0 then [] else freevec_tests l v
tests_of s l (CreateTask m u pri) = creation_tests s l 0 (m ∷ []) u pri
tests_of s l (DeleteTask id) = guest_tests l id ++ deletion_tests l id
tests_of s l (ChangePri id pri) = guest_tests l id ++ priority_tests l id pri
tests_of s l (SetFlags id flags) = guest_tests l id
tests_of s l (TestFlags mask) = []
tests_of s l (Hold id) = hold_tests l id
tests_of s l (Release id) = release_tests l id
tests_of s l TaskWait = []
tests_of s l (Qpkt p) = qpkt_tests s l p
tests_of s l (Dqpkt id p) = dqpkt_tests l id p
tests_of s l (Unload m) = unload_tests l m
tests_of s l (CreateCo fn u) = create_tests l u
tests_of s l (DeleteCo c) = delete_tests l c
tests_of s l (CallCo c v) = idle_tests c (coroutines_of_caller l)
tests_of s l (ResumeCo c v) = resume_tests c (coroutines_of_caller l)
tests_of s l (CoWait v) = wait_tests (coroutines_of_caller l)
tests_of s l (Wrch ch) = []
tests_of s l (MulDiv a b c) = []
tests_of s l (AddModule id m) = addition_tests s l id m

-- the guest asks for a call, and the first of its tests that fails has this code
pub record IsRefused (s : List ℕ) (l : Lists) (r : Regs) (code : ℕ) : Type 0 where
  -- the call
  pub call : KernelCall
  -- it is the one that the guest makes
  pub asked : call_of s r ≡ Ok call
  -- this is the code of the first of its tests that fails
  pub failed : first_refusal (tests_of s l call) ≡ Some code

-- A is 0, B is the code, and PC is past the call; all else is as it was, and there are no events
abbrev pub refused : ℕ → Lists → Regs → CallTurn
refused code l r = record {
  lists = l;
  plain = [];
  regs = record r { a = 0; b = code; pc = add r.pc 1 };
  bytes = [];
  events = [];
  outcome = Done;
}
