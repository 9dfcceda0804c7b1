use Rattle.std.proofs.Common.{◌≡◌, ◌≢◌, ◌∙◌, ℕ, ◌+◌, ◌<◌, List, [], ◌∷◌, length, get_or, ap, sym, arith}
use Rattle.kernel_lists.specs.declared.getvec_chain.pieces.Block.{Block}
use Rattle.kernel_lists.specs.GetvecChain.Block.{block_of_word}
use Rattle.kernel_lists.specs.GetvecChain.Tiling.{IsTiledFrom, blocks_from}
use Rattle.kernel_lists.proofs.GetvecChain.Tilings.{IsTiledFrom-next, NextBlock, Tiles-at_end, Tiles-inside}
use Rattle.kernel_lists.proofs.getvec_chain.block_walk.BlocksIterator.next.Goals as goal

-- the block at the iterator's place
here : (s : List ℕ) (at end : ℕ) (b : Block) → IsTiledFrom s at × (end + 2 ≡ length s) → at ≢ end → b ≡ block_of_word at (get_or s at 0) → NextBlock s at b
here s at end b t some is = IsTiledFrom-next s at b t.0 (λ e. some (omega (arith, e, t.1))) is

pub returns-then-self-clause-steps : goal.returns-then-self-clause-steps
returns-then-self-clause-steps c =
    let none : c.args.self.now ≡ []
    = sym c.self.view_is ∙ Tiles-at_end _ _ _ c.self.invariant.0 (omega (arith, c.if-self.true, c.self.invariant.1)) in
    (none, none)

pub bounds-self-inside-self-inside : goal.bounds-self-inside-self-inside
bounds-self-inside-self-inside c = omega (arith, Tiles-inside _ _ _ c.self.invariant.0)

pub end-self-inside-requires : goal.end-self-inside-requires
end-self-inside-requires c =
    let next = here _ _ _ c.of_word-block.result c.self.invariant c.if-self.false c.of_word-block.ensures in
    omega (arith, next.inside, c.self.invariant.1)

pub invariant_of-self : goal.invariant_of-self
invariant_of-self c =
    let next = here _ _ _ c.of_word-block.result c.self.invariant c.if-self.false c.of_word-block.ensures in
    rw c.end-self-inside.ensures (next.tiled, c.self.invariant.1)

pub returns-clause-steps : goal.returns-clause-steps
returns-clause-steps c =
    let next = here _ _ _ c.of_word-block.result c.self.invariant c.if-self.false c.of_word-block.ensures in
    sym c.self.view_is ∙ rw c.end-self-inside.ensures next.is

pub returns-clause-goes : goal.returns-clause-goes
returns-clause-goes c =
    let next = here _ _ _ c.of_word-block.result c.self.invariant c.if-self.false c.of_word-block.ensures in
    let all : c.args.self.now ≡ c.of_word-block.result ∷ blocks_from c.self.inside.words.now c.end-self-inside.result = sym c.self.view_is ∙ rw c.end-self-inside.ensures next.is in
    let fewer : length (blocks_from c.self.inside.words.now c.end-self-inside.result) < length c.args.self.now = omega (arith, ap length all) in
    record { on = λ f. (tt, f, fewer); keeps = tt; rests = λ f. tt }
