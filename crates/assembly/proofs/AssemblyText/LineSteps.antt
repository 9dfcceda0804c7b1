-- Steps that were made for a line.
use Rattle.std.proofs.Common.{◌≡◌, ℕ, Result, Ok, Err, refl, sym, ap}
use Rattle.assembly.specs.AssemblyText.LineErrors.{code_of}
use Rattle.assembly.specs.AssemblyText.Refusal.{at_line}
use Rattle.module_text.specs.TextReader.Refusal.{Refusal, refusal}
use Rattle.assembly.specs.declared.assembly_text.errors.LineError.{LineError}

pub at_line_ok : {A : Type 0} (n : ℕ) (r : Result A LineError) (x : A) → at_line n r ≡ Ok x → r ≡ Ok x
at_line_ok n (Ok y) x e = let same : y ≡ x = cc e in ap (λ z. Ok z) same
at_line_ok n (Err d) x e = cc e

pub at_line_err : {A : Type 0} (n : ℕ) (r : Result A LineError) (d : Refusal) → at_line n r ≡ Err d → (e : LineError) × (r ≡ Err e) × (d ≡ refusal n (code_of e))
at_line_err n (Ok y) d e = cc e
at_line_err n (Err c) d e = let same : refusal n (code_of c) ≡ d = cc e in (c, refl, sym same)
