use Rattle.std.proofs.Common.{◌≡◌, None, refl}
use Rattle.debugger.proofs.KernelParts.{held-lists, on-bare, on-full}
use Rattle.show_run.specs.StepLog.Answers.{answer_elsewhere}
use Rattle.show_run.proofs.step_log.answers.answer_elsewhere.Goals as goal

pub answer_in_chain-requires : goal.answer_in_chain-requires
answer_in_chain-requires c = held-lists _ c.args.machine.now.state c.in-Some.ensures.represents

pub returns-in-Some : goal.returns-in-Some
returns-in-Some c = on-full _ c.args.machine.now.state (λ s. c.answer_in_chain.result ≡ answer_elsewhere c.args.id s) c.in-Some.ensures.represents (λ k h. c.answer_in_chain.ensures k.lists h)

pub returns-in-None : goal.returns-in-None
returns-in-None c = on-bare c.args.machine.now.state (λ s. None ≡ answer_elsewhere c.args.id s) c.in-None.ensures.represents (λ m. refl)
