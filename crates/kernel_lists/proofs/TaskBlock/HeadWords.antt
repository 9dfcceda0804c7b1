-- How many words a task block has.
use Rattle.std.proofs.Common.{◌≡◌, ℕ, ◌+◌, List, cond, eqb, get_or, Bool, true, false, refl}
use Rattle.kernel_lists.specs.TaskBlock.Versions.{head_words, most_modules}

-- after word 22 there is one word for each module of a guest but the first
pub most-heads : (s : List ℕ) → head_words s ≡ 22 + most_modules s
most-heads s = elim (eqb (get_or s 111 0) 2) as (λ b. cond b 30 23 ≡ 22 + cond b 8 1) [ true ↦ refl | false ↦ refl ]
