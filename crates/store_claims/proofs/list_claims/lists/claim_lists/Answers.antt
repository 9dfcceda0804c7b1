use Rattle.std.proofs.lemmas.Bool.{false≢true}
use Rattle.store_claims.specs.ListClaims.ListWords.{chain_words, module_rest}
use Rattle.store_claims.proofs.ListClaims.JoinedClaims.{refused, went-on}
use Rattle.store_claims.proofs.list_claims.lists.claim_lists.Goals as goal

pub returns-then-not-claim_chain : goal.returns-then-not-claim_chain
returns-then-not-claim_chain c = (λ t. absurd (false≢true t), λ all. refused c.args.words.now (chain_words c.args.store.now) (module_rest c.args.store.now) c.claim_chain.result c.claim_chain.ensures.answer c.if-not-claim_chain.true all)

pub returns : goal.returns
returns c = went-on c.args.words.now c.claim_chain.new.words (chain_words c.args.store.now) (module_rest c.args.store.now) c.claim_chain.result c.claim_from_modules.result c.claim_chain.ensures.answer c.if-not-claim_chain.false c.if-not-claim_chain.ensures.claimed c.claim_from_modules.ensures
