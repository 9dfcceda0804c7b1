use Rattle.std.proofs.Common.{not, eqb, ap, ◌∙◌, is_some}
use Rattle.kernel_calls.proofs.CallAnswers.FoundTask.{reads}
use Rattle.kernel_calls.proofs.PacketCalls.Searches.{fault-told, key-told}
use Rattle.kernel_calls.proofs.packet_calls.dequeue.is_residents_packet.Goals as goal

pub find-requires : goal.find-requires
find-requires c = (reads c.args.store.now c.requires.0 c.requires.1).tasks.tasks

pub returns-in-271 : goal.returns-in-271
returns-in-271 c = λ l h. ap (λ w. not (eqb w 0)) c.root.ensures ∙ key-told c.args.store.now l c.args.p h c.in-271.is

pub returns-in-310 : goal.returns-in-310
returns-in-310 c = λ l h. c.is_some.ensures ∙ ap is_some c.find.ensures ∙ fault-told c.args.store.now l c.args.p h c.in-310.is
