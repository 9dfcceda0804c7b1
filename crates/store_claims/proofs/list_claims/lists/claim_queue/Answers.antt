use Rattle.std.proofs.Common.{◌+◌, refl}
use Rattle.kernel_lists.proofs.LinkedList.Walks.{no_offset}
use Rattle.kernel_lists.specs.PacketQueue.Queue.{link_of, packet_size}
use Rattle.store_claims.proofs.ListClaims.ListAnswers.{list-answer}
use Rattle.store_claims.proofs.list_claims.lists.claim_queue.Goals as goal

pub returns-clause-answer : goal.returns-clause-answer
returns-clause-answer c = list-answer c.args.store.now link_of (λ p. p + 0) packet_size c.args.words.now c.args.head c.args.head c.claim_list.result no_offset refl c.claim_list.ensures.answer
