-- A hunk with another last word can be printed, too.
use Rattle.std.proofs.Common.{◌≡◌, ◌∙◌, ℕ, ◌+◌, ◌-◌, ◌≤◌, ◌<◌, ◌^◌, List, [], ◌∷◌, ◌++◌, length, take, refl, sym, ap, subst, arith}
use Rattle.std.specs.List.{AllByRecursion}
use Rattle.std.proofs.lemmas.List.{length-append, length-take-le}
use Rattle.module_text.specs.Canonical.{IsPrintableHunk}
use Rattle.module_text.specs.declared.modules.Hunk.{Hunk}
use Rattle.module_code.specs.Made.{with_last}

same_length : (last : ℕ) (ws : List ℕ) → 0 < length ws → length (take (length ws - 1) ws ++ last ∷ []) ≡ length ws
same_length last ws some =
    let front = length-take-le (length ws - 1) ws (omega (arith, some)) in
    omega (arith, some, front, length-append (take (length ws - 1) ws) (last ∷ []))

pub printable_with : (last : ℕ) (h : Hunk) → 0 < length h.words → IsPrintableHunk h → IsPrintableHunk (with_last last h)
printable_with last h some p =
    let same = sym (same_length last h.words some) in
    record {
      words = subst (λ n. n < 2 ^ 30) same p.words;
      relocations = p.relocations;
      inside = subst (λ n. AllByRecursion (λ offset. offset < n) h.relocations) same p.inside;
    }
