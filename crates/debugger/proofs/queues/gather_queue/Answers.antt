use Rattle.std.proofs.Common.{subst}
use Rattle.debugger.specs.Views.{Leads}
use Rattle.debugger.proofs.QueueTexts.{leads-valid}
use Rattle.debugger.proofs.queues.gather_queue.Goals as goal

pub head-requires : goal.head-requires
head-requires g c = leads-valid c.args.store.now _ c.requires.0 (subst (λ q. Leads c.args.store.now q c.requires.0) c.in-Some.is c.requires.1)
