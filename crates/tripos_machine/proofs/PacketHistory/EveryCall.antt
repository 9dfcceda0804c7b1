-- Every call leaves valid lists.
use Rattle.std.proofs.Common.{ℕ, get_or, List, [], ◌∷◌, Result, Ok, Err}
use Rattle.word_store.specs.declared.registers.Regs.{Regs}
use Rattle.kernel_lists.specs.PacketQueue.QueueWords.{QueuedPacket}
use Rattle.kernel_model.specs.KernelRecord.Changes.{queue_of}
use Rattle.kernel_model.specs.KernelRecord.HoldsLists.{HoldsLists}
use Rattle.kernel_model.specs.KernelRecord.Lists.{Lists}
use Rattle.kernel_model.specs.KernelRecord.ValidLists.{AreValid}
use Rattle.kernel_model.specs.KernelRecord.ValidQueues.Place.{Work}
use Rattle.kernel_calls.specs.CallAnswers.Callers.{HasCaller}
use Rattle.kernel_calls.specs.CallAnswers.CallChange.{CallChange}
use Rattle.kernel_calls.proofs.CallAnswers.RunningTask.{caller-at}
use Rattle.kernel_calls.specs.PacketCalls.TaskWait.{taskwait}
use Rattle.kernel_calls.specs.CallNumbers.{call_of}
use Rattle.kernel_calls.specs.Calls.{kernel_call, made, made_if_read, of_wait, past_call}
use Rattle.kernel_calls.specs.declared.call_numbers.CallOutcome.{CallOutcome}
use Rattle.kernel_calls.specs.declared.call_numbers.KernelCall.{KernelCall}
use Rattle.kernel_calls.specs.declared.call_numbers.KernelCall.TheVariants.{AddModule, CallCo, ChangePri, CoWait, CreateCo, CreateTask, DeleteCo, DeleteTask, Dqpkt, Freevec, Getvec, Hold, MulDiv, Qpkt, Quit, Release, ResumeCo, SetFlags, TaskWait, TestFlags, Unload, Wrch}
use Rattle.kernel_calls.proofs.CreatedByCaller.{caller-creates}
use Rattle.tripos_machine.proofs.PacketHistory.BlockCalls.{freevec-valid, getvec-valid}
use Rattle.tripos_machine.proofs.PacketHistory.CoroutineCalls.{callco-valid, cowait-valid, createco-valid, deleteco-valid, resumeco-valid}
use Rattle.tripos_machine.proofs.PacketHistory.ModuleCalls.{add_module-valid, unload-valid}
use Rattle.tripos_machine.proofs.PacketHistory.PacketCalls.{dqpkt-valid, qpkt-valid, taskwait-valid}
use Rattle.tripos_machine.proofs.PacketHistory.TaskCalls.{change_pri-valid, create_task-valid, delete_task-valid, hold-valid, release-valid, set_flags-valid, test_flags-valid}

module _ (s : List ℕ) (l : Lists) (h : HoldsLists s l) (c : HasCaller l) where
  wait-valid : (r : Regs) (ps : List QueuedPacket) (m : CallChange) → AreValid m.lists → AreValid (of_wait r ps m).lists
  wait-valid r [] m v = v
  wait-valid r (p ∷ ps) m v = v

  call-valid : (r : Regs) (call : KernelCall) → AreValid (made s l r call).lists
  call-valid r (Quit result) = h.valid
  call-valid r (Getvec u) = getvec-valid l u h.valid
  call-valid r (Freevec a) = freevec-valid l a h.valid
  call-valid r (CreateTask m u pri) = create_task-valid s l h 0 (m ∷ []) u pri l.running (caller-creates s l (get_or s 102 0) m h (caller-at s l h c))
  call-valid r (DeleteTask id) = delete_task-valid s l h id c.field
  call-valid r (ChangePri id pri) = change_pri-valid s l h id pri
  call-valid r (SetFlags id flags) = set_flags-valid l h.valid id flags
  call-valid r (TestFlags mask) = test_flags-valid l h.valid mask c
  call-valid r (Hold id) = hold-valid l h.valid id
  call-valid r (Release id) = release-valid l h.valid id
  call-valid r TaskWait = wait-valid r (queue_of (Work l.running) l) (taskwait l) (taskwait-valid s l h c)
  call-valid r (Qpkt p) = qpkt-valid s l h c p
  call-valid r (Dqpkt id p) = dqpkt-valid s l h c id p
  call-valid r (Unload m) = unload-valid s l h m
  call-valid r (CreateCo entry u) = createco-valid s l h c entry u
  call-valid r (DeleteCo d) = deleteco-valid s l h c d
  call-valid r (CallCo d v) = callco-valid s l h c r d v
  call-valid r (ResumeCo d v) = resumeco-valid s l h c r d v
  call-valid r (CoWait v) = cowait-valid s l h c r v
  call-valid r (Wrch ch) = h.valid
  call-valid r (MulDiv a b d) = h.valid
  call-valid r (AddModule id m) = add_module-valid s l h id m

  read-valid : (r : Regs) (q : Result KernelCall CallOutcome) → AreValid (made_if_read s l r q).lists
  read-valid r (Ok call) = call-valid (past_call r) call
  read-valid r (Err outcome) = h.valid

  pub kernel_call-valid : (r : Regs) → AreValid (kernel_call s l r).lists
  unfolding kernel_call
  kernel_call-valid r = read-valid r (call_of s r)
