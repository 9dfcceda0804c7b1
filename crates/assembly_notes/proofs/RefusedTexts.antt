-- Nothing is said of a text that the assembler refuses.
use Rattle.std.proofs.Common.{◌≡◌, ◌∙◌, ℕ, true, not, List, [], ◌∷◌, refl}
use Rattle.std.specs.Result.{is_err}
use Rattle.assembly.specs.AssemblyText.Assembly.{assembly_of}
use Rattle.assembly_errors.specs.Drafts.{Draft, is_none}
use Rattle.assembly_errors.specs.Findings.{findings_of, whole_draft}
use Rattle.assembly_errors.specs.declared.drafts.Finding.{Finding}
use Rattle.assembly_errors.proofs.ToolAnswers.{wrong_refused}
use Rattle.tool_texts.specs.Reports.{reports_text}
use Rattle.assembly_notes.specs.Notes.{assembly_notes, notes_of}

silent_by : (name text : List ℕ) (d : Draft) (fs : List Finding) → d.found ≡ fs → not (is_none fs) ≡ true → reports_text name (notes_of d text) ≡ []
silent_by name text d [] e some = cc some
silent_by name text d (f ∷ fs) e some = rw e refl

pub silent_refused : (name text : List ℕ) → is_err (assembly_of text) ≡ true → (assembly_notes name text).bytes ≡ []
unfolding assembly_notes
silent_refused name text refused = silent_by name text (whole_draft text) (findings_of text) refl (wrong_refused name text ∙ refused)
