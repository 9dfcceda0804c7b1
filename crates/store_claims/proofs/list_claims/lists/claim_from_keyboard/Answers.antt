use Rattle.std.proofs.lemmas.Bool.{false≢true}
use Rattle.store_claims.specs.ListClaims.ListWords.{queue_words_at, output_rest}
use Rattle.store_claims.proofs.ListClaims.JoinedClaims.{refused, went-on}
use Rattle.store_claims.proofs.list_claims.lists.claim_from_keyboard.Goals as goal

pub returns-then-not-claim_device : goal.returns-then-not-claim_device
returns-then-not-claim_device c = (λ t. absurd (false≢true t), λ all. refused c.args.words.now (queue_words_at c.args.store.now 106) (output_rest c.args.store.now) c.claim_device.result c.claim_device.ensures.answer c.if-not-claim_device.true all)

pub returns : goal.returns
returns c = went-on c.args.words.now c.claim_device.new.words (queue_words_at c.args.store.now 106) (output_rest c.args.store.now) c.claim_device.result c.claim_from_output.result c.claim_device.ensures.answer c.if-not-claim_device.false c.if-not-claim_device.ensures.claimed c.claim_from_output.ensures
