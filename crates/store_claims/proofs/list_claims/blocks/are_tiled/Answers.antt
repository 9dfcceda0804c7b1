use Rattle.std.proofs.Common.{◌≡◌, ◌≢◌, ◌∙◌, ◌+◌, ◌-◌, ◌≤◌, ℕ, List, get_or, length, sym, ap, subst, arith}
use Rattle.std.proofs.lemmas.Bool.{eq-eqb, eqb-true, false≢true}
use Rattle.kernel_lists.specs.declared.getvec_chain.pieces.Block.{Block}
use Rattle.kernel_lists.specs.GetvecChain.Block.{block_end, block_of_word}
use Rattle.kernel_lists.specs.GetvecChain.Tiling.{IsTiledFrom}
use Rattle.kernel_lists.proofs.GetvecChain.Tilings.{IsTiled-inside}
use Rattle.store_claims.proofs.ListClaims.TiledWords.{tiled-at-end, tiled-before}
use Rattle.store_claims.proofs.list_claims.blocks.are_tiled.Goals as goal
use Rattle.store_claims.proofs.list_claims.blocks.are_tiled.Goals.{then-block-lt2-via-then-block-lt2, then-block-lt2-via-else-block-lt2+then-block-end}

pub returns-then-size : goal.returns-then-size
returns-then-size c = (λ t. absurd (false≢true t), λ tiled. absurd (omega (arith, IsTiled-inside c.args.store.now tiled, c.if-size.true, c.size-size.ensures)))

-- the block that the size word makes
read : (at w v : ℕ) (b : Block) → b ≡ block_of_word at w → w ≡ v → b ≡ block_of_word at v
read at w v b is same = is ∙ ap (block_of_word at) same

pub returns-then-block-lt2 : goal.returns-then-block-lt2
returns-then-block-lt2 c = (
  λ t. absurd (false≢true t),
  λ tiled.
      let s : List ℕ = c.args.store.now in
      let at : ℕ = c.loop-at.at in
      let b : Block = c.of_word-block.result in
      let is : b ≡ block_of_word at (get_or s at 0) = read at c.word.result (get_or s at 0) b c.of_word-block.ensures c.word.ensures in
      let before : at + 2 ≢ length s = λ e. absurd (omega (arith, e, c.loop-at-test.true, c.size-size.ensures)) in
      let next = (tiled-before s at b before is).0 (c.loop-at.invariant.whole.1 tiled) in
      let start : b.start ≡ at = ap (λ z. z.start) is in
      absurd (elim c.then-block-lt2.branch [
        | then-block-lt2-via-then-block-lt2 w ↦ omega (arith, next.0, w.if-block-lt2.true)
        | then-block-lt2-via-else-block-lt2+then-block-end w ↦ omega (arith, next.1, start, w.if-block-end.true, c.size-size.ensures, c.loop-at-test.true)
      ]),
)

pub loop-at-preserved : goal.loop-at-preserved
loop-at-preserved c =
    let s : List ℕ = c.args.store.now in
    let at : ℕ = c.loop-at.at in
    let b : Block = c.of_word-block.result in
    let is : b ≡ block_of_word at (get_or s at 0) = read at c.word.result (get_or s at 0) b c.of_word-block.ensures c.word.ensures in
    let before : at + 2 ≢ length s = λ e. absurd (omega (arith, e, c.loop-at-test.true, c.size-size.ensures)) in
    let start : b.start ≡ at = ap (λ z. z.start) is in
    let both = tiled-before s at b before is in
    let room : block_end b + 2 ≤ length s = omega (arith, start, c.if-block-end.false, c.size-size.ensures, c.loop-at-test.true) in
    let end : c.end-at.result ≡ block_end b = c.end-at.ensures in
    record {
      inside = omega (arith, end, room, c.size-size.ensures);
      whole = (
        λ t. c.loop-at.invariant.whole.0 (both.1 (omega (arith, c.if-block-lt2.false), room, subst (IsTiledFrom s) end t)),
        λ tiled. subst (IsTiledFrom s) (sym end) (both.0 (c.loop-at.invariant.whole.1 tiled)).2,
      );
    }

pub returns : goal.returns
returns c =
    let s : List ℕ = c.args.store.now in
    let at : ℕ = c.loop-at.at in
    let here : at ≡ c.size-size.result - 2 = omega (arith, c.loop-at.invariant.inside, c.loop-at-test.false) in
    let end : at + 2 ≡ length s = omega (arith, here, c.if-size.false, c.size-size.ensures) in
    let word : c.word-2.result ≡ get_or s at 0 = c.word-2.ensures ∙ ap (λ z. get_or s z 0) (sym here) in
    let both = tiled-at-end s at end in (
      λ t. c.loop-at.invariant.whole.0 (both.1 (sym word ∙ eqb-true c.word-2.result 0 t)),
      λ tiled. eq-eqb c.word-2.result 0 (word ∙ both.0 (c.loop-at.invariant.whole.1 tiled)),
    )
