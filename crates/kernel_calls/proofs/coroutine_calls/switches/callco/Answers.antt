use Rattle.std.proofs.Common.{sym, subst}
use Rattle.kernel_calls.specs.CoroutineCalls.CallCo.{callco}
use Rattle.kernel_calls.specs.CoroutineCalls.SwitchChange.{IsSwitched}
use Rattle.kernel_calls.proofs.CoroutineCalls.CallersTask.{callers-stood}
use Rattle.kernel_calls.proofs.CoroutineCalls.MadeSwitches.{callco-made}
use Rattle.kernel_calls.proofs.coroutine_calls.switches.callco.Goals as goal

pub call-requires : goal.call-requires
call-requires c = callers-stood c.args.store.now c.requires.0 c.caller-task.result c.requires.1 (c.caller-task.ensures c.requires.0 c.requires.1 c.requires.2)

pub returns : goal.returns
returns c = λ l h is.
    subst (λ a. IsSwitched c.args.store.now c.call.new.store l c.call.new.regs a (callco l c.args.regs.now c.args.c c.args.v)) (sym c.coded.ensures)
    (callco-made c.args.store.now l c.caller-task.result h (c.caller-task.ensures l h is) c.args.regs.now c.call.new.store c.call.new.regs c.args.c c.args.v c.call.result
    c.call.ensures.answer c.call.ensures.words c.call.ensures.regs c.call.ensures.active c.call.ensures.coroutines c.call.ensures.valid c.call.ensures.unchanged)
