use Rattle.std.proofs.Common.{sym, subst}
use Rattle.kernel_calls.specs.CoroutineCalls.ResumeCo.{resumeco}
use Rattle.kernel_calls.specs.CoroutineCalls.SwitchChange.{IsSwitched}
use Rattle.kernel_calls.proofs.CoroutineCalls.CallersTask.{callers-stood}
use Rattle.kernel_calls.proofs.CoroutineCalls.MadeSwitches.{resumeco-made}
use Rattle.kernel_calls.proofs.coroutine_calls.switches.resumeco.Goals as goal

pub resume-requires : goal.resume-requires
resume-requires c = callers-stood c.args.store.now c.requires.0 c.caller-task.result c.requires.1 (c.caller-task.ensures c.requires.0 c.requires.1 c.requires.2)

pub returns : goal.returns
returns c = λ l h is.
    subst (λ a. IsSwitched c.args.store.now c.resume.new.store l c.resume.new.regs a (resumeco l c.args.regs.now c.args.c c.args.v)) (sym c.coded.ensures)
    (resumeco-made c.args.store.now l c.caller-task.result h (c.caller-task.ensures l h is) c.args.regs.now c.resume.new.store c.resume.new.regs c.args.c c.args.v c.resume.result
    c.resume.ensures.answer c.resume.ensures.words c.resume.ensures.regs c.resume.ensures.active c.resume.ensures.coroutines c.resume.ensures.valid c.resume.ensures.unchanged)
