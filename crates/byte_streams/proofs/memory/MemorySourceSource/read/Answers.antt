use Rattle.std.proofs.Common.{◌≡◌, ◌+◌, ◌++◌, ◌∙◌, ℕ, List, take, drop, sym, ap, arith}
use Rattle.std.proofs.lemmas.List.{take-append-drop, drop-drop}
use Rattle.std.proofs.lemmas.Grind.{common_steps}
use Rattle.byte_streams.proofs.memory.MemorySourceSource.read.Goals as goal

-- what is taken from the front of the bytes left, and the rest
left-splits : (bs into left : List ℕ) (at n : ℕ) → drop at bs ≡ left → take n into ≡ take n left → left ≡ take n into ++ drop (at + n) bs
left-splits bs into left at n e f =
    sym e ∙ sym (take-append-drop n (drop at bs)) ∙ ap (λ xs. xs ++ drop n (drop at bs)) (sym (f ∙ ap (take n) (sym e))) ∙ ap (λ xs. take n into ++ xs) (drop-drop n at bs)

pub returns-clause-bytes : goal.returns-clause-bytes
returns-clause-bytes c = (
  grind (arith, common_steps),
  omega arith,
  left-splits c.self.inside.bytes.items c.copy_front-n.new.into c.args.self.now.left c.self.inside.at c.copy_front-n.result (ap (λ v. v.left) c.self.view_is) (cc),
)
