use Rattle.std.proofs.Common.{true}
use Rattle.std.proofs.lemmas.Bool.{false≢true}
use Rattle.store_claims.specs.ListClaims.ListWords.{free_packet, argument_rest}
use Rattle.store_claims.proofs.ListClaims.JoinedClaims.{refused, went-on}
use Rattle.store_claims.proofs.list_claims.residents.claim_packets.Goals as goal

pub returns-then-not-claim_free : goal.returns-then-not-claim_free
returns-then-not-claim_free c = (λ t. absurd (false≢true t), λ all. refused c.args.words.now (free_packet true c.args.store.now 271) (argument_rest c.args.store.now) c.claim_free.result c.claim_free.ensures.answer c.if-not-claim_free.true all)

pub returns : goal.returns
returns c = went-on c.args.words.now c.claim_free.new.words (free_packet true c.args.store.now 271) (argument_rest c.args.store.now) c.claim_free.result c.claim_arguments.result c.claim_free.ensures.answer c.if-not-claim_free.false c.if-not-claim_free.ensures.claimed c.claim_arguments.ensures
