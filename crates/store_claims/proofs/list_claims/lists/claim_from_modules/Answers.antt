use Rattle.std.proofs.lemmas.Bool.{false≢true}
use Rattle.store_claims.specs.ListClaims.ListWords.{module_words_in, task_rest}
use Rattle.store_claims.proofs.ListClaims.JoinedClaims.{refused, went-on}
use Rattle.store_claims.proofs.list_claims.lists.claim_from_modules.Goals as goal

pub returns-then-not-claim_modules : goal.returns-then-not-claim_modules
returns-then-not-claim_modules c = (λ t. absurd (false≢true t), λ all. refused c.args.words.now (module_words_in c.args.store.now) (task_rest c.args.store.now) c.claim_modules.result c.claim_modules.ensures.answer c.if-not-claim_modules.true all)

pub returns : goal.returns
returns c = went-on c.args.words.now c.claim_modules.new.words (module_words_in c.args.store.now) (task_rest c.args.store.now) c.claim_modules.result c.claim_from_tasks.result c.claim_modules.ensures.answer c.if-not-claim_modules.false c.if-not-claim_modules.ensures.claimed c.claim_from_tasks.ensures
