-- What the tool gives, by what the assembler makes of the text.
use Rattle.std.proofs.Common.{◌≡◌, ◌∙◌, ℕ, not, None, Result, Ok, Err, List, [], ◌∷◌, refl, ap}
use Rattle.std.specs.Result.{is_err, result_err}
use Rattle.module_text.specs.declared.modules.Module.{Module}
use Rattle.module_text.specs.TextReader.Refusal.{Refusal}
use Rattle.assembly.specs.AssemblyText.Assembly.{assembly_of}
use Rattle.tool_texts.specs.Reports.{reports_text}
use Rattle.assembly_errors.specs.Drafts.{Draft, is_none}
use Rattle.assembly_errors.specs.Findings.{findings_of, whole_draft}
use Rattle.assembly_errors.specs.Refusals.{first_refusal}
use Rattle.assembly_errors.specs.Reports.{assembly_errors, reports_of}
use Rattle.assembly_errors.specs.declared.drafts.Finding.{Finding}
use Rattle.assembly_errors.proofs.FirstErrors.{first_error}

wrong_by : (fs : List Finding) (made : Result Module Refusal) → first_refusal fs ≡ result_err made → not (is_none fs) ≡ is_err made
wrong_by [] (Ok m) e = refl
wrong_by [] (Err r) e = cc e
wrong_by (f ∷ fs) (Ok m) e = cc e
wrong_by (f ∷ fs) (Err r) e = refl

pub wrong_refused : (name text : List ℕ) → (assembly_errors name text).is_wrong ≡ is_err (assembly_of text)
wrong_refused name text = wrong_by (findings_of text) (assembly_of text) (first_error text)

none_first : (fs : List Finding) → first_refusal fs ≡ None → fs ≡ []
none_first [] e = refl
none_first (f ∷ fs) e = cc e

silent_by : (name : List ℕ) (d : Draft) → d.found ≡ [] → reports_text name (reports_of d) ≡ []
silent_by name d none = rw none refl

pub nothing_said : (name text : List ℕ) (m : Module) → assembly_of text ≡ Ok m → (assembly_errors name text).bytes ≡ []
nothing_said name text m made =
    let none = none_first (findings_of text) (first_error text ∙ ap (λ (r : Result Module Refusal). result_err r) made) in
    silent_by name (whole_draft text) none
