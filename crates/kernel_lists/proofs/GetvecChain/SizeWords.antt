-- The size words of some blocks that follow one another are written.
use Rattle.std.proofs.Common.{◌≡◌, ℕ, zero, suc, ◌+◌, ◌-◌, ◌%◌, ◌≤◌, List, [], ◌∷◌, ◌++◌, length, get_or, set, refl, sym, ◌∙◌, subst, arith, get_or-set_other, get_or-set_same, length-set}
use Rattle.kernel_lists.specs.declared.getvec_chain.pieces.Block.{Block}
use Rattle.kernel_lists.specs.GetvecChain.Block.{block_end, size_word}
use Rattle.kernel_lists.specs.GetvecChain.Tiling.{Follow, Tiles}
use Rattle.kernel_lists.specs.GetvecChain.Take.{left_over, split_run, with_size_words}
use Rattle.kernel_lists.proofs.GetvecChain.Tilings.{Tiles-inside}
use Rattle.kernel_lists.proofs.GetvecChain.Writes.{Tiles-above}

pub Follow-order : (at : ℕ) (bs : List Block) (end : ℕ) → Follow at bs end → at ≤ end
Follow-order at [] end f = omega (arith, f)
Follow-order at (b ∷ bs) end f = omega (arith, f.0, Follow-order (block_end b) bs end f.3)

pub length-with_size_words : (s : List ℕ) (bs : List Block) → length (with_size_words s bs) ≡ length s
length-with_size_words s [] = refl
length-with_size_words s (b ∷ bs) = length-with_size_words (set s b.start (size_word b)) bs ∙ length-set s b.start (size_word b)

-- words outside of the blocks stay
pub with_size_words-outside : (s : List ℕ) (at : ℕ) (bs : List Block) (end a : ℕ) → Follow at bs end → (at ≤ a → end ≤ a) → get_or (with_size_words s bs) a 0 ≡ get_or s a 0
with_size_words-outside s at [] end a f out = refl
with_size_words-outside s at (b ∷ bs) end a f out =
    let order = Follow-order (block_end b) bs end f.3 in
    with_size_words-outside (set s b.start (size_word b)) (block_end b) bs end a f.3 (λ low. out (omega (arith, low, f.0)))
    ∙ get_or-set_other s b.start a (size_word b) 0 (λ e. absurd (omega (arith, e, f.0, f.1, order, out (omega (arith, e, f.0)))))

-- the blocks are there then, and so are those after them
pub with_size_words-Tiles : (s : List ℕ) (at : ℕ) (bs : List Block) (end : ℕ) (rest : List Block) → Follow at bs end → Tiles s end rest → Tiles (with_size_words s bs) at (bs ++ rest)
with_size_words-Tiles s at [] end rest f t = subst (λ z. Tiles s z rest) (sym f) t
with_size_words-Tiles s at (b ∷ bs) end rest f t =
    let order = Follow-order (block_end b) bs end f.3 in
    let inside = Tiles-inside s end rest t in
    let r : List ℕ = set s b.start (size_word b) in
    let after : Tiles r end rest = Tiles-above s r end rest (length-set s b.start (size_word b)) (λ a low. get_or-set_other s b.start a (size_word b) 0 (λ e. absurd (omega (arith, e, low, order, f.1)))) t in
    let word : get_or (with_size_words r bs) b.start 0 ≡ size_word b
    = with_size_words-outside r (block_end b) bs end b.start f.3 (λ low. absurd (omega (arith, low, f.1))) ∙ get_or-set_same s b.start (size_word b) 0 (omega (arith, order, inside)) in
    (f.0, record { word = word; some = f.1; even = f.2 }, with_size_words-Tiles r (block_end b) bs end rest f.3 after)

-- a run that is split is filled
pub split_run-Follow : (start end n : ℕ) → 2 ≤ n → n % 2 ≡ 0 → start + n ≤ end → (end - start) % 2 ≡ 0 → Follow start (split_run start end n) end
split_run-Follow start end n some even enough size = (refl, some, even, rest (end - (start + n)) refl)
  where
    rest : (m : ℕ) → m ≡ end - (start + n) → Follow (start + n) (left_over (start + n) m) end
    rest zero is = omega (arith, is, enough)
    rest (suc m) is = (refl, omega (arith, is, even, enough, size), omega (arith, is, even, enough, size), omega (arith, is, enough))
