use Rattle.std.proofs.Common.{◌≡◌, ◌∙◌, ℕ, ◌+◌, ◌*◌, ◌/◌, get_or, List, sym, subst, arith}
use Rattle.std.proofs.lemmas.Bool.{eq-eqb, eqb-true, false≢true}
use Rattle.kernel_lists.specs.GetvecChain.Tiling.{blocks_in}
use Rattle.kernel_model.specs.KernelRecord.ValidBlocks.{HasBlock}
use Rattle.kernel_check.proofs.ListPasses.StartMarks.{block-there, there-block}
use Rattle.kernel_check.proofs.list_passes.starts.has_block.Goals as goal

pub returns-then-not-is_open : goal.returns-then-not-is_open
returns-then-not-is_open c =
    let s : List ℕ = c.args.store.now in
    let at : c.args.v ≡ c.in-Some.start + 1 = omega (arith, c.in-Some.ensures.0, c.in-Some.ensures.1) in (
      λ t. absurd (false≢true t),
      λ h. sym c.if-not-is_open.true ∙ c.is_open.ensures ∙ (there-block s c.args.starts.now c.requires.tiled c.requires.starts c.in-Some.start c.args.u (subst (λ v. HasBlock (blocks_in s) v c.args.u) at h)).0,
    )

pub returns : goal.returns
returns c =
    let s : List ℕ = c.args.store.now in
    let at : c.args.v ≡ c.in-Some.start + 1 = omega (arith, c.in-Some.ensures.0, c.in-Some.ensures.1) in
    let word : c.from.result ≡ get_or s c.in-Some.start 0 = c.from.ensures ∙ c.word.ensures in (
      λ t. subst (λ v. HasBlock (blocks_in s) v c.args.u) (sym at)
          (block-there s c.args.starts.now c.requires.tiled c.requires.starts c.in-Some.start c.args.u (sym c.is_open.ensures ∙ c.if-not-is_open.false) (sym word ∙ eqb-true c.from.result ((c.args.u + 3) / 2 * 2) t)),
      λ h. eq-eqb c.from.result ((c.args.u + 3) / 2 * 2)
          (word ∙ (there-block s c.args.starts.now c.requires.tiled c.requires.starts c.in-Some.start c.args.u (subst (λ v. HasBlock (blocks_in s) v c.args.u) at h)).1),
    )
