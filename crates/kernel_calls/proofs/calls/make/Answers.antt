use Rattle.std.proofs.Common.{◌%◌, [], ◌∷◌, Ok, refl, sym, ap, ◌∙◌, subst}
use Rattle.kernel_model.specs.KernelRecord.Changes.{queue_of}
use Rattle.kernel_model.specs.KernelRecord.ValidQueues.Place.{Work}
use Rattle.kernel_calls.specs.CallAnswers.CallChange.{IsMade, minus_one, plain_answer}
use Rattle.kernel_calls.specs.BlockCalls.Freevec.{freevec}
use Rattle.kernel_calls.specs.BlockCalls.Getvec.{getvec}
use Rattle.kernel_calls.specs.CoroutineCalls.CallCo.{callco}
use Rattle.kernel_calls.specs.CoroutineCalls.CoWait.{cowait}
use Rattle.kernel_calls.specs.CoroutineCalls.CreateCo.{createco}
use Rattle.kernel_calls.specs.CoroutineCalls.DeleteCo.{deleteco}
use Rattle.kernel_calls.specs.CoroutineCalls.ResumeCo.{resumeco}
use Rattle.kernel_calls.specs.ModuleCalls.AddModule.{add_module}
use Rattle.kernel_calls.specs.ModuleCalls.UnloadModule.{unload_module}
use Rattle.kernel_calls.specs.PacketCalls.Qpkt.{qpkt}
use Rattle.kernel_calls.specs.PacketCalls.TaskWait.{answer_of_wait, taskwait}
use Rattle.kernel_calls.specs.TaskCalls.ChangePri.{change_pri}
use Rattle.kernel_calls.specs.TaskCalls.CreateTask.{create_task}
use Rattle.kernel_calls.specs.TaskCalls.DeleteTask.{delete_task}
use Rattle.kernel_calls.specs.TaskCalls.HoldTask.{hold}
use Rattle.kernel_calls.specs.TaskCalls.ReleaseTask.{release}
use Rattle.kernel_calls.specs.TaskCalls.SetFlags.{set_flags}
use Rattle.kernel_calls.specs.TaskCalls.TestFlags.{test_flags}
use Rattle.kernel_calls.proofs.TaskCalls.SameWords.{change_pri-owners, hold-owners, release-owners, set_flags-owners, test_flags-owners}
use Rattle.kernel_calls.specs.CallAnswers.Outside.{outside}
use Rattle.kernel_calls.specs.Calls.{answered, divided}
use Rattle.kernel_calls.proofs.CalledAnswers.{called-byte, called-ended, called-noting, called-silent, called-switched, called-taking, called-waiting, made-same}
use Rattle.kernel_calls.proofs.SilentCalls.{add_module-silent, change_pri-silent, create_task-silent, createco-silent, delete_task-silent, deleteco-silent, freevec-silent, getvec-silent, hold-silent, release-silent, set_flags-silent, unload_module-silent}
use Rattle.kernel_calls.proofs.calls.make.Goals as goal

pub returns-in-Quit-clause-called : goal.returns-in-Quit-clause-called
returns-in-Quit-clause-called g c = λ l k calls.
    rw c.in-Quit.is
    (called-ended c.args.store.now (g.Q.KindKeeper.tells c.args.kinds.now) c.answer.new.regs
    (outside c.args.bytes.now (g.L.EventLog.noted c.args.log.now) (g.L.EventLog.has_failed c.args.log.now))
    l k.lists k.knows (answered c.args.regs.now (Ok minus_one)) _ _ c.answer.ensures.regs refl)

pub returns-in-Getvec-clause-called : goal.returns-in-Getvec-clause-called
returns-in-Getvec-clause-called g c = λ l k calls.
    rw c.in-Getvec.is
    (called-silent c.args.store.now c.getvec.new.store (g.Q.KindKeeper.tells c.getvec.new.kinds) c.args.regs.now c.answer-in-Getvec.new.regs
    (outside c.args.bytes.now (g.L.EventLog.noted c.args.log.now) (g.L.EventLog.has_failed c.args.log.now))
    c.answer-in-Getvec.result c.getvec.result (getvec l c.in-Getvec.highest) (c.getvec.ensures.made l k) c.answer-in-Getvec.ensures.regs c.answer-in-Getvec.ensures.done (getvec-silent l c.in-Getvec.highest))

pub returns-in-Freevec-clause-called : goal.returns-in-Freevec-clause-called
returns-in-Freevec-clause-called g c = λ l k calls.
    rw c.in-Freevec.is
    (called-silent c.args.store.now c.freevec.new.store (g.Q.KindKeeper.tells c.args.kinds.now) c.args.regs.now c.accept.new.regs
    (outside c.args.bytes.now (g.L.EventLog.noted c.args.log.now) (g.L.EventLog.has_failed c.args.log.now))
    c.accept.result (plain_answer c.freevec.result) (freevec l c.in-Freevec.block) (c.freevec.ensures.made l k) c.accept.ensures.regs c.accept.ensures.done (freevec-silent l c.in-Freevec.block))

pub returns-in-CreateTask-clause-called : goal.returns-in-CreateTask-clause-called
returns-in-CreateTask-clause-called g c = λ l k calls.
    rw c.in-CreateTask.is
    (called-silent c.args.store.now c.create.new.store (g.Q.KindKeeper.tells c.create.new.kinds) c.args.regs.now c.answer-in-CreateTask.new.regs
    (outside c.args.bytes.now (g.L.EventLog.noted c.args.log.now) (g.L.EventLog.has_failed c.args.log.now))
    c.answer-in-CreateTask.result c.create.result (create_task c.args.store.now l 0 (c.in-CreateTask.module ∷ []) c.in-CreateTask.highest c.in-CreateTask.priority l.running) (c.create.ensures.made l k calls) c.answer-in-CreateTask.ensures.regs c.answer-in-CreateTask.ensures.done (create_task-silent c.args.store.now l c.in-CreateTask.module c.in-CreateTask.highest c.in-CreateTask.priority l.running))

pub returns-in-DeleteTask-clause-called : goal.returns-in-DeleteTask-clause-called
returns-in-DeleteTask-clause-called g c = λ l k calls.
    rw c.in-DeleteTask.is
    (called-silent c.args.store.now c.delete_task.new.store (g.Q.KindKeeper.tells c.delete_task.new.kinds) c.args.regs.now c.accept-in-DeleteTask.new.regs
    (outside c.args.bytes.now (g.L.EventLog.noted c.args.log.now) (g.L.EventLog.has_failed c.args.log.now))
    c.accept-in-DeleteTask.result (plain_answer c.delete_task.result) (delete_task l c.in-DeleteTask.id) (c.delete_task.ensures.made l k calls.field) c.accept-in-DeleteTask.ensures.regs c.accept-in-DeleteTask.ensures.done (delete_task-silent l c.in-DeleteTask.id))

pub returns-in-ChangePri-clause-called : goal.returns-in-ChangePri-clause-called
returns-in-ChangePri-clause-called g c = λ l k calls.
    rw c.in-ChangePri.is
    (called-silent c.args.store.now c.change_pri.new.store (g.Q.KindKeeper.tells c.args.kinds.now) c.args.regs.now c.accept-in-ChangePri.new.regs
    (outside c.args.bytes.now (g.L.EventLog.noted c.args.log.now) (g.L.EventLog.has_failed c.args.log.now))
    c.accept-in-ChangePri.result (plain_answer c.change_pri.result) (change_pri l c.in-ChangePri.id c.in-ChangePri.priority) (made-same c.args.store.now c.change_pri.new.store (g.Q.KindKeeper.tells c.args.kinds.now) l (plain_answer c.change_pri.result) (change_pri l c.in-ChangePri.id c.in-ChangePri.priority) (c.change_pri.ensures l k.lists) k.knows (λ a. change_pri-owners c.args.store.now l k.lists a c.in-ChangePri.id c.in-ChangePri.priority)) c.accept-in-ChangePri.ensures.regs c.accept-in-ChangePri.ensures.done (change_pri-silent l c.in-ChangePri.id c.in-ChangePri.priority))

pub returns-in-SetFlags-clause-called : goal.returns-in-SetFlags-clause-called
returns-in-SetFlags-clause-called g c = λ l k calls.
    rw c.in-SetFlags.is
    (called-silent c.args.store.now c.set_flags.new.store (g.Q.KindKeeper.tells c.args.kinds.now) c.args.regs.now c.accept-in-SetFlags.new.regs
    (outside c.args.bytes.now (g.L.EventLog.noted c.args.log.now) (g.L.EventLog.has_failed c.args.log.now))
    c.accept-in-SetFlags.result (plain_answer c.set_flags.result) (set_flags l c.in-SetFlags.id c.in-SetFlags.flags) (made-same c.args.store.now c.set_flags.new.store (g.Q.KindKeeper.tells c.args.kinds.now) l (plain_answer c.set_flags.result) (set_flags l c.in-SetFlags.id c.in-SetFlags.flags) (c.set_flags.ensures l k.lists) k.knows (λ a. set_flags-owners c.args.store.now l k.lists a c.in-SetFlags.id c.in-SetFlags.flags)) c.accept-in-SetFlags.ensures.regs c.accept-in-SetFlags.ensures.done (set_flags-silent l c.in-SetFlags.id c.in-SetFlags.flags))

pub returns-in-TestFlags-clause-called : goal.returns-in-TestFlags-clause-called
returns-in-TestFlags-clause-called g c = λ l k calls.
    rw c.in-TestFlags.is
    (called-silent c.args.store.now c.test_flags.new.store (g.Q.KindKeeper.tells c.args.kinds.now) c.args.regs.now c.answer-in-TestFlags.new.regs
    (outside c.args.bytes.now (g.L.EventLog.noted c.args.log.now) (g.L.EventLog.has_failed c.args.log.now))
    c.answer-in-TestFlags.result (Ok c.test_flags.result) (test_flags l c.in-TestFlags.mask) (made-same c.args.store.now c.test_flags.new.store (g.Q.KindKeeper.tells c.args.kinds.now) l (Ok c.test_flags.result) (test_flags l c.in-TestFlags.mask) (c.test_flags.ensures l k.lists calls) k.knows (λ a. test_flags-owners c.args.store.now l k.lists a c.in-TestFlags.mask calls)) c.answer-in-TestFlags.ensures.regs c.answer-in-TestFlags.ensures.done (refl))

pub returns-in-Hold-clause-called : goal.returns-in-Hold-clause-called
returns-in-Hold-clause-called g c = λ l k calls.
    rw c.in-Hold.is
    (called-silent c.args.store.now c.hold_task.new.store (g.Q.KindKeeper.tells c.args.kinds.now) c.args.regs.now c.accept-in-Hold.new.regs
    (outside c.args.bytes.now (g.L.EventLog.noted c.args.log.now) (g.L.EventLog.has_failed c.args.log.now))
    c.accept-in-Hold.result (plain_answer c.hold_task.result) (hold l c.in-Hold.id) (made-same c.args.store.now c.hold_task.new.store (g.Q.KindKeeper.tells c.args.kinds.now) l (plain_answer c.hold_task.result) (hold l c.in-Hold.id) (c.hold_task.ensures l k.lists) k.knows (λ a. hold-owners c.args.store.now l k.lists a c.in-Hold.id)) c.accept-in-Hold.ensures.regs c.accept-in-Hold.ensures.done (hold-silent l c.in-Hold.id))

pub returns-in-Release-clause-called : goal.returns-in-Release-clause-called
returns-in-Release-clause-called g c = λ l k calls.
    rw c.in-Release.is
    (called-silent c.args.store.now c.release_task.new.store (g.Q.KindKeeper.tells c.args.kinds.now) c.args.regs.now c.accept-in-Release.new.regs
    (outside c.args.bytes.now (g.L.EventLog.noted c.args.log.now) (g.L.EventLog.has_failed c.args.log.now))
    c.accept-in-Release.result (plain_answer c.release_task.result) (release l c.in-Release.id) (made-same c.args.store.now c.release_task.new.store (g.Q.KindKeeper.tells c.args.kinds.now) l (plain_answer c.release_task.result) (release l c.in-Release.id) (c.release_task.ensures l k.lists) k.knows (λ a. release-owners c.args.store.now l k.lists a c.in-Release.id)) c.accept-in-Release.ensures.regs c.accept-in-Release.ensures.done (release-silent l c.in-Release.id))

pub returns-in-Some-clause-called : goal.returns-in-Some-clause-called
returns-in-Some-clause-called g c = λ l k calls.
    let s = c.args.store.now in
    rw c.in-TaskWait.is
    (called-taking s c.taskwait.new.store (g.Q.KindKeeper.tells c.taskwait.new.kinds) c.args.regs.now c.answer-in-Some.new.regs
    (outside c.args.bytes.now (g.L.EventLog.noted c.args.log.now) (g.L.EventLog.has_failed c.args.log.now))
    c.answer-in-Some.result c.in-Some.packet (queue_of (Work l.running) l) (taskwait l)
    (outside c.args.bytes.now (g.L.EventLog.noted c.taskwait.new.log) (g.L.EventLog.has_failed c.taskwait.new.log))
    (subst (λ o. IsMade s c.taskwait.new.store (g.Q.KindKeeper.tells c.taskwait.new.kinds) (answer_of_wait o) (taskwait l)) c.in-Some.is (c.taskwait.ensures.made l k calls))
    (sym c.in-Some.is ∙ c.taskwait.ensures.packet l k calls) c.answer-in-Some.ensures.regs c.answer-in-Some.ensures.done refl (c.taskwait.ensures.notes l k calls))

pub returns-in-None-clause-called : goal.returns-in-None-clause-called
returns-in-None-clause-called g c = λ l k calls.
    let s = c.args.store.now in
    rw c.in-TaskWait.is
    (called-waiting s c.taskwait.new.store (g.Q.KindKeeper.tells c.taskwait.new.kinds) c.args.regs.now c.args.regs.now
    (outside c.args.bytes.now (g.L.EventLog.noted c.args.log.now) (g.L.EventLog.has_failed c.args.log.now))
    _ (queue_of (Work l.running) l) (taskwait l)
    (outside c.args.bytes.now (g.L.EventLog.noted c.taskwait.new.log) (g.L.EventLog.has_failed c.taskwait.new.log))
    (subst (λ o. IsMade s c.taskwait.new.store (g.Q.KindKeeper.tells c.taskwait.new.kinds) (answer_of_wait o) (taskwait l)) c.in-None.is (c.taskwait.ensures.made l k calls))
    (sym c.in-None.is ∙ c.taskwait.ensures.packet l k calls) refl refl refl (c.taskwait.ensures.notes l k calls))

pub returns-in-Qpkt-clause-called : goal.returns-in-Qpkt-clause-called
returns-in-Qpkt-clause-called g c = λ l k calls.
    rw c.in-Qpkt.is
    (called-noting c.args.store.now c.qpkt.new.store (g.Q.KindKeeper.tells c.qpkt.new.kinds) c.args.regs.now c.accept-in-Qpkt.new.regs
    (outside c.args.bytes.now (g.L.EventLog.noted c.args.log.now) (g.L.EventLog.has_failed c.args.log.now))
    c.accept-in-Qpkt.result (plain_answer c.qpkt.result) (qpkt c.args.store.now l c.in-Qpkt.packet)
    (outside c.args.bytes.now (g.L.EventLog.noted c.qpkt.new.log) (g.L.EventLog.has_failed c.qpkt.new.log))
    (c.qpkt.ensures.made l k calls) c.accept-in-Qpkt.ensures.regs c.accept-in-Qpkt.ensures.done refl (c.qpkt.ensures.notes l k calls))

pub returns-in-Unload-clause-called : goal.returns-in-Unload-clause-called
returns-in-Unload-clause-called g c = λ l k calls.
    rw c.in-Unload.is
    (called-silent c.args.store.now c.unload_module.new.store (g.Q.KindKeeper.tells c.unload_module.new.kinds) c.args.regs.now c.accept-in-Unload.new.regs
    (outside c.args.bytes.now (g.L.EventLog.noted c.args.log.now) (g.L.EventLog.has_failed c.args.log.now))
    c.accept-in-Unload.result (plain_answer c.unload_module.result) (unload_module l c.in-Unload.module) (c.unload_module.ensures.made l k) c.accept-in-Unload.ensures.regs c.accept-in-Unload.ensures.done (unload_module-silent l c.in-Unload.module))

pub returns-in-CreateCo-clause-called : goal.returns-in-CreateCo-clause-called
returns-in-CreateCo-clause-called g c = λ l k calls.
    rw c.in-CreateCo.is
    (called-silent c.args.store.now c.createco.new.store (g.Q.KindKeeper.tells c.createco.new.kinds) c.args.regs.now c.answer-in-CreateCo.new.regs
    (outside c.args.bytes.now (g.L.EventLog.noted c.args.log.now) (g.L.EventLog.has_failed c.args.log.now))
    c.answer-in-CreateCo.result c.createco.result (createco l c.in-CreateCo.function c.in-CreateCo.highest) (c.createco.ensures.made l k calls) c.answer-in-CreateCo.ensures.regs c.answer-in-CreateCo.ensures.done (createco-silent l c.in-CreateCo.function c.in-CreateCo.highest))

pub returns-in-DeleteCo-clause-called : goal.returns-in-DeleteCo-clause-called
returns-in-DeleteCo-clause-called g c = λ l k calls.
    rw c.in-DeleteCo.is
    (called-silent c.args.store.now c.deleteco.new.store (g.Q.KindKeeper.tells c.deleteco.new.kinds) c.args.regs.now c.accept-in-DeleteCo.new.regs
    (outside c.args.bytes.now (g.L.EventLog.noted c.args.log.now) (g.L.EventLog.has_failed c.args.log.now))
    c.accept-in-DeleteCo.result (plain_answer c.deleteco.result) (deleteco l c.in-DeleteCo.coroutine) (c.deleteco.ensures.made l k calls) c.accept-in-DeleteCo.ensures.regs c.accept-in-DeleteCo.ensures.done (deleteco-silent l c.in-DeleteCo.coroutine))

pub returns-in-CallCo-clause-called : goal.returns-in-CallCo-clause-called
returns-in-CallCo-clause-called g c = λ l k calls.
    rw c.in-CallCo.is
    (called-switched c.args.store.now c.callco-switch.new.store (g.Q.KindKeeper.tells c.args.kinds.now) c.args.regs.now c.go_on.new.regs
    (outside c.args.bytes.now (g.L.EventLog.noted c.args.log.now) (g.L.EventLog.has_failed c.args.log.now))
    c.go_on.result l c.callco-switch.new.regs c.callco-switch.result (callco l c.args.regs.now c.in-CallCo.coroutine c.in-CallCo.value) (c.callco-switch.ensures l k.lists calls) k.knows c.go_on.ensures.regs c.go_on.ensures.done)

pub returns-in-ResumeCo-clause-called : goal.returns-in-ResumeCo-clause-called
returns-in-ResumeCo-clause-called g c = λ l k calls.
    rw c.in-ResumeCo.is
    (called-switched c.args.store.now c.resumeco-switch.new.store (g.Q.KindKeeper.tells c.args.kinds.now) c.args.regs.now c.go_on-in-ResumeCo.new.regs
    (outside c.args.bytes.now (g.L.EventLog.noted c.args.log.now) (g.L.EventLog.has_failed c.args.log.now))
    c.go_on-in-ResumeCo.result l c.resumeco-switch.new.regs c.resumeco-switch.result (resumeco l c.args.regs.now c.in-ResumeCo.coroutine c.in-ResumeCo.value) (c.resumeco-switch.ensures l k.lists calls) k.knows c.go_on-in-ResumeCo.ensures.regs c.go_on-in-ResumeCo.ensures.done)

pub returns-in-CoWait-clause-called : goal.returns-in-CoWait-clause-called
returns-in-CoWait-clause-called g c = λ l k calls.
    rw c.in-CoWait.is
    (called-switched c.args.store.now c.cowait-switch.new.store (g.Q.KindKeeper.tells c.args.kinds.now) c.args.regs.now c.go_on-in-CoWait.new.regs
    (outside c.args.bytes.now (g.L.EventLog.noted c.args.log.now) (g.L.EventLog.has_failed c.args.log.now))
    c.go_on-in-CoWait.result l c.cowait-switch.new.regs c.cowait-switch.result (cowait l c.args.regs.now c.in-CoWait.value) (c.cowait-switch.ensures l k.lists calls) k.knows c.go_on-in-CoWait.ensures.regs c.go_on-in-CoWait.ensures.done)

pub returns-in-Wrch-clause-called : goal.returns-in-Wrch-clause-called
returns-in-Wrch-clause-called g c = λ l k calls.
    rw c.in-Wrch.is
    (called-byte c.args.store.now (g.Q.KindKeeper.tells c.args.kinds.now) c.answer-in-Wrch.new.regs
    (outside c.args.bytes.now (g.L.EventLog.noted c.args.log.now) (g.L.EventLog.has_failed c.args.log.now))
    l k.lists k.knows (answered c.args.regs.now (Ok c.in-Wrch.character)) c.answer-in-Wrch.result (c.in-Wrch.character % 256) c.append.new.self
    c.answer-in-Wrch.ensures.regs c.answer-in-Wrch.ensures.done c.append.ensures)

pub returns-in-MulDiv-clause-called : goal.returns-in-MulDiv-clause-called
returns-in-MulDiv-clause-called g c = λ l k calls.
    rw c.in-MulDiv.is
    (called-ended c.args.store.now (g.Q.KindKeeper.tells c.args.kinds.now) _
    (outside c.args.bytes.now (g.L.EventLog.noted c.args.log.now) (g.L.EventLog.has_failed c.args.log.now))
    l k.lists k.knows _ _ _ (ap (divided c.args.regs.now) c.mul_div-quotient.ensures) refl)

pub returns-in-AddModule-clause-called : goal.returns-in-AddModule-clause-called
returns-in-AddModule-clause-called g c = λ l k calls.
    rw c.in-AddModule.is
    (called-silent c.args.store.now c.add_module.new.store (g.Q.KindKeeper.tells c.args.kinds.now) c.args.regs.now c.answer-in-AddModule.new.regs
    (outside c.args.bytes.now (g.L.EventLog.noted c.args.log.now) (g.L.EventLog.has_failed c.args.log.now))
    c.answer-in-AddModule.result c.add_module.result (add_module c.args.store.now l c.in-AddModule.id c.in-AddModule.module) (c.add_module.ensures.made l k) c.answer-in-AddModule.ensures.regs c.answer-in-AddModule.ensures.done (add_module-silent c.args.store.now l c.in-AddModule.id c.in-AddModule.module))
