use Rattle.std.proofs.lemmas.Bool.{false≢true}
use Rattle.store_claims.specs.ListClaims.ListWords.{queue_words_at, packet_rest}
use Rattle.store_claims.proofs.ListClaims.JoinedClaims.{refused, went-on}
use Rattle.store_claims.proofs.list_claims.residents.claim_console_queue.Goals as goal

pub returns-then-not-claim_queue : goal.returns-then-not-claim_queue
returns-then-not-claim_queue c = (λ t. absurd (false≢true t), λ all. refused c.args.words.now (queue_words_at c.args.store.now 270) (packet_rest c.args.store.now) c.claim_queue.result c.claim_queue.ensures.answer c.if-not-claim_queue.true all)

pub returns : goal.returns
returns c = went-on c.args.words.now c.claim_queue.new.words (queue_words_at c.args.store.now 270) (packet_rest c.args.store.now) c.claim_queue.result c.claim_packets.result c.claim_queue.ensures.answer c.if-not-claim_queue.false c.if-not-claim_queue.ensures.claimed c.claim_packets.ensures
