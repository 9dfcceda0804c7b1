use Rattle.std.proofs.Common.{◌≡◌, ◌∙◌, ℕ, ◌+◌, ◌-◌, ◌%◌, ◌≤◌, List, [], ◌∷◌, length, set, get_or, refl, ap, arith, get_or-set_other, get_or-set_same, length-set}
use Rattle.kernel_lists.specs.GetvecChain.Make.{whole_block}
use Rattle.kernel_lists.specs.GetvecChain.Tiling.{Tiles}
use Rattle.kernel_lists.proofs.GetvecChain.Tilings.{IsTiled-by, blocks_in-is}
use Rattle.kernel_lists.proofs.getvec_chain.calls.make.Goals as goal

made : (s t : List ℕ) (end : ℕ) → length s % 2 ≡ 0 → 1024 ≤ length s → end ≡ length s - 2 → t ≡ set (set s 200 (end - 200 + 1)) end 0 → Tiles t 200 (whole_block s ∷ [])
made s t end even large is words =
    let r : List ℕ = set s 200 (end - 200 + 1) in
    let all : length t ≡ length s = ap length words ∙ length-set r end 0 ∙ length-set s 200 (end - 200 + 1) in
    let first : get_or t 200 0 ≡ length s - 202 + 1
    = ap (λ z. get_or z 200 0) words ∙ get_or-set_other r end 200 0 0 (λ e. absurd (omega (arith, e, is, large)))
    ∙ get_or-set_same s 200 (end - 200 + 1) 0 (omega (arith, large)) ∙ omega (arith, is, large) in
    let last : get_or t end 0 ≡ 0 = ap (λ z. get_or z end 0) words ∙ get_or-set_same r end 0 0 (omega (arith, length-set s 200 (end - 200 + 1), is, large)) in
    let place : 200 + (length s - 202) ≡ end = omega (arith, is, large) in
    (refl, record { word = first; some = omega (arith, large); even = omega (arith, even) }, (omega (arith, all, large), ap (λ z. get_or t z 0) place ∙ last))

-- the store is as the first write left it, and then as the second did
made_by : (s r t : List ℕ) (size : ℕ) → length s % 2 ≡ 0 → 1024 ≤ length s → size ≡ length s → r ≡ set s 200 (size - 2 - 200 + 1) → t ≡ set r (size - 2) 0 → Tiles t 200 (whole_block s ∷ [])
made_by s r t size even large is first second = made s t (size - 2) even large (ap (λ z. z - 2) is) (second ∙ ap (λ z. set z (size - 2) 0) first)

pub returns-clause-blocks : goal.returns-clause-blocks
returns-clause-blocks c =
    blocks_in-is _ _ (made_by _ _ _ _ c.requires.even c.requires.large c.size-end.ensures c.set.ensures.after c.set-2.ensures.after)

pub returns-clause-tiled : goal.returns-clause-tiled
returns-clause-tiled c =
    IsTiled-by _ (whole_block c.args.store.now ∷ []) (made_by _ _ _ _ c.requires.even c.requires.large c.size-end.ensures c.set.ensures.after c.set-2.ensures.after)
