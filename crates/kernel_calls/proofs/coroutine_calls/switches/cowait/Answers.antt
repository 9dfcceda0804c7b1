use Rattle.std.proofs.Common.{sym, subst}
use Rattle.kernel_calls.specs.CoroutineCalls.CoWait.{cowait}
use Rattle.kernel_calls.specs.CoroutineCalls.SwitchChange.{IsSwitched}
use Rattle.kernel_calls.proofs.CoroutineCalls.CallersTask.{callers-stood}
use Rattle.kernel_calls.proofs.CoroutineCalls.MadeSwitches.{cowait-made}
use Rattle.kernel_calls.proofs.coroutine_calls.switches.cowait.Goals as goal

pub wait-requires : goal.wait-requires
wait-requires c = callers-stood c.args.store.now c.requires.0 c.caller-task.result c.requires.1 (c.caller-task.ensures c.requires.0 c.requires.1 c.requires.2)

pub returns : goal.returns
returns c = λ l h is.
    subst (λ a. IsSwitched c.args.store.now c.wait.new.store l c.wait.new.regs a (cowait l c.args.regs.now c.args.v)) (sym c.coded.ensures)
    (cowait-made c.args.store.now l c.caller-task.result h (c.caller-task.ensures l h is) c.args.regs.now c.wait.new.store c.wait.new.regs c.args.v c.wait.result
    c.wait.ensures.answer c.wait.ensures.words c.wait.ensures.regs c.wait.ensures.active c.wait.ensures.coroutines c.wait.ensures.valid c.wait.ensures.unchanged)
