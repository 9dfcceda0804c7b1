use Rattle.kernel_calls.proofs.CoroutineCalls.CallersTask.{callers-stood}
use Rattle.kernel_calls.proofs.CoroutineCalls.MadeSwitches.{ended-made, ended-within}
use Rattle.kernel_calls.proofs.coroutine_calls.switches.ended.Goals as goal

pub ended-requires-clause-coroutines : goal.ended-requires-clause-coroutines
ended-requires-clause-coroutines c =
    callers-stood c.args.store.now c.requires.0 c.caller-task.result c.requires.1 (c.caller-task.ensures c.requires.0 c.requires.1 c.requires.2)

pub ended-requires-clause-within : goal.ended-requires-clause-within
ended-requires-clause-within c =
    ended-within c.args.store.now c.requires.0 c.caller-task.result c.requires.1 (c.caller-task.ensures c.requires.0 c.requires.1 c.requires.2) c.args.regs.now c.requires.3

pub returns : goal.returns
returns c = λ l h is within.
    ended-made c.args.store.now l c.caller-task.result h (c.caller-task.ensures l h is) c.args.regs.now c.ended.new.store c.ended.new.regs within
    c.ended.ensures.words c.ended.ensures.regs c.ended.ensures.active c.ended.ensures.coroutines c.ended.ensures.valid
