use Rattle.std.proofs.Common.{[], ◌∷◌, cond, sym, subst, arith}
use Rattle.std.proofs.lemmas.Bool.{le-ltb, lt-ltb}
use Rattle.kernel_model.specs.WordKinds.Private.ToldWords.{WasClaimed}
use Rattle.kernel_model.proofs.WordKinds.ToldWords.{claimed-none, claimed-one}
use Rattle.kernel_calls.proofs.block_calls.keeper.claim_rest.Goals as goal

pub returns-then-rest-end-clause-claimed : goal.returns-then-rest-end-clause-claimed
returns-then-rest-end-clause-claimed g c =
    subst (λ b. WasClaimed (g.Q.KindKeeper.tells c.args.kinds.now) (g.Q.KindKeeper.tells c.args.kinds.now) (cond b (c.args.rest ∷ []) []))
    (sym (le-ltb c.args.rest c.args.end c.if-rest-end.true)) (claimed-none (g.Q.KindKeeper.tells c.args.kinds.now))

pub claim-requires : goal.claim-requires
claim-requires g c = omega (arith, c.requires, c.if-rest-end.false)

pub returns-clause-claimed : goal.returns-clause-claimed
returns-clause-claimed g c =
    subst (λ b. WasClaimed (g.Q.KindKeeper.tells c.args.kinds.now) (g.Q.KindKeeper.tells c.claim.new.self) (cond b (c.args.rest ∷ []) []))
    (sym (lt-ltb c.args.rest c.args.end c.if-rest-end.false))
    (claimed-one (g.Q.KindKeeper.tells c.args.kinds.now) (g.Q.KindKeeper.tells c.claim.new.self) c.args.rest c.claim.ensures.tells)
