use Rattle.std.proofs.lemmas.Bool.{false≢true}
use Rattle.std.specs.List.{range_with_len}
use Rattle.store_claims.specs.ListClaims.ListWords.{console_rest}
use Rattle.store_claims.proofs.ListClaims.JoinedClaims.{refused, went-on}
use Rattle.store_claims.proofs.list_claims.residents.claim_console.Goals as goal

pub returns-then-not-claim_range : goal.returns-then-not-claim_range
returns-then-not-claim_range c = (λ t. absurd (false≢true t), λ all. refused c.args.words.now (range_with_len 270 1) (console_rest c.args.store.now) c.claim_range.result c.claim_range.ensures.answer c.if-not-claim_range.true all)

pub returns : goal.returns
returns c = went-on c.args.words.now c.claim_range.new.words (range_with_len 270 1) (console_rest c.args.store.now) c.claim_range.result c.claim_console_queue.result c.claim_range.ensures.answer c.if-not-claim_range.false c.if-not-claim_range.ensures.claimed c.claim_console_queue.ensures
