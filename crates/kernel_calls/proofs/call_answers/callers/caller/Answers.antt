use Rattle.std.proofs.Common.{sym, subst}
use Rattle.kernel_calls.specs.CallAnswers.Guests.{GuestAt}
use Rattle.kernel_calls.proofs.CallAnswers.RunningTask.{caller-at}
use Rattle.kernel_calls.proofs.call_answers.callers.caller.Goals as goal

pub returns : goal.returns
returns c = λ l h k. subst (GuestAt l l.running) (sym c.root.ensures) (caller-at c.args.store.now l h k)
