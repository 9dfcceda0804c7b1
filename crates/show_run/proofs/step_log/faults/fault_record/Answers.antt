use Rattle.std.proofs.Common.{◌≡◌, None, refl}
use Rattle.debugger.proofs.KernelParts.{held-lists, on-bare, on-full}
use Rattle.show_run.specs.StepLog.Faults.{record_of}
use Rattle.show_run.proofs.step_log.faults.fault_record.Goals as goal

pub record_in_chain-requires : goal.record_in_chain-requires
record_in_chain-requires c = held-lists _ c.args.machine.now.state c.in-Some.ensures.represents

pub returns-in-Some : goal.returns-in-Some
returns-in-Some c = on-full _ c.args.machine.now.state (λ s. c.record_in_chain.result ≡ record_of c.args.id s) c.in-Some.ensures.represents (λ k h. c.record_in_chain.ensures k.lists h)

pub returns-in-None : goal.returns-in-None
returns-in-None c = on-bare c.args.machine.now.state (λ s. None ≡ record_of c.args.id s) c.in-None.ensures.represents (λ m. refl)
