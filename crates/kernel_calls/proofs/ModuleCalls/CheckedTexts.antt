-- What a checked text says of the module whose text it is.
use Rattle.std.proofs.Common.{◌≡◌, ℕ, ◌+◌, ◌≤◌, Result, Ok, Err, List, length, refl, sym, ap, ◌∙◌, subst}
use Rattle.module_text.specs.ModuleForm.{IsModule}
use Rattle.module_text.specs.ModuleOfText.{module_of}
use Rattle.module_text.specs.TextReader.Refusal.{Refusal}
use Rattle.module_text.specs.Shapes.{check, check_of, shape_of}
use Rattle.module_text.specs.declared.check.Shape.{Shape}
use Rattle.module_text.specs.declared.modules.Module.{Module}
use Rattle.module_text.proofs.Complete.{complete}
use Rattle.module_text.proofs.TextRefusals.{code_bounds}
use Rattle.kernel_lists.specs.HunkLoader.ModuleRow.{last_word}

-- a code is at most 6
pub code-low : (text : List ℕ) (code : ℕ) → check_of text ≡ Err code → code ≤ 6
code-low text code e = on (module_of text) refl e
  where
    on : (r : Result Module Refusal) → module_of text ≡ r → check r ≡ Err code → code ≤ 6
    on (Ok m) is k = cc
    on (Err d) is k = (let same : d.code ≡ code = cc in subst (λ c. c ≤ 6) same (code_bounds text d.line d.code is).1)

-- a text has one module
pub one-module : (text : List ℕ) (m n : Module) → IsModule text m → IsModule text n → m ≡ n
one-module text m n is also = (let e : ◌≡◌ {A = Result Module Refusal} (Ok m) (Ok n) = sym (complete text m is) ∙ complete text n also in cc)

-- a text that is refused is that of none
pub no-module : (text : List ℕ) (code : ℕ) (m : Module) → check_of text ≡ Err code → IsModule text m → ⊥
no-module text code m e is = (let k : check (Ok m) ≡ Err code = ap check (sym (complete text m is)) ∙ e in cc)

-- how large its module is
pub record HasShape (m : Module) (shape : Shape) : Type 0 where
  pub count : shape.hunks ≡ length m.hunks
  pub words : 1 + shape.hunks + shape.words ≡ last_word m.hunks

pub text-shape : (text : List ℕ) (shape : Shape) (m : Module) → check_of text ≡ Ok shape → IsModule text m → HasShape m shape
text-shape text shape m e is =
    let k : check (Ok m) ≡ Ok shape = ap check (sym (complete text m is)) ∙ e in
    let same : shape_of m.hunks ≡ shape = cc in
    record { count = ap (λ (x : Shape). x.hunks) (sym same); words = ap (λ (x : Shape). 1 + x.hunks + x.words) (sym same) }
