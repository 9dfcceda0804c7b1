-- The first line in error.
use Rattle.std.proofs.Common.{◌≡◌, ◌∙◌, ℕ, Result, Ok, Err, List, [], refl, sym}
use Rattle.std.specs.Result.{result_err}
use Rattle.module_text.specs.TextReader.Lines.{lines_of}
use Rattle.module_text.specs.TextReader.Refusal.{Refusal}
use Rattle.module_text.specs.TextReader.Steps.{◌>>=◌}
use Rattle.assembly.specs.AssemblyText.Assembly.{assembly_of, module_of}
use Rattle.assembly.specs.AssemblyText.Encoding.{Code, encode}
use Rattle.assembly.specs.AssemblyText.Places.{first_offset}
use Rattle.assembly.specs.AssemblyText.Survey.{Layout, no_lines, survey}
use Rattle.assembly_errors.specs.Drafts.{Draft, drafted, no_draft}
use Rattle.assembly_errors.specs.Findings.{findings_of, whole_draft, with_findings}
use Rattle.assembly_errors.specs.Refusals.{first_refusal}
use Rattle.assembly_errors.proofs.DraftedLines.{Agrees, drafted_agrees, first-more}
use Rattle.assembly_errors.proofs.FollowedLeads.{Follows, drafted_follows, followed}

-- what is made of code is refused where the code is
made_err : (code : Result Code Refusal) → result_err (code >>= λ c. Ok (module_of c)) ≡ result_err code
made_err (Ok code) = refl
made_err (Err r) = refl

-- nothing is found in the lines themselves
none_before : (d : Draft) (layout : Layout) → d.found ≡ [] → d.layout ≡ layout → (with_findings d).found ≡ followed layout.table d.leads
none_before d layout none same = rw (none, same) refl

-- what is found first, by what the survey gives
found_first : (texts : List (List ℕ)) (d : Draft) (surveyed : Result Layout Refusal) → Agrees surveyed d
    → ((layout : Layout) → Follows layout.table surveyed (encode 1 layout.table first_offset texts) d)
    → first_refusal (with_findings d).found ≡ result_err (surveyed >>= λ layout. encode 1 layout.table first_offset texts >>= λ code. Ok (module_of code))
found_first texts d (Ok layout) agrees follows =
    rw (none_before d layout agrees.0 agrees.1) (follows layout ∙ sym (made_err (encode 1 layout.table first_offset texts)))
found_first texts d (Err r) agrees follows = first-more d.found _ r agrees

pub first_error : (text : List ℕ) → first_refusal (findings_of text) ≡ result_err (assembly_of text)
unfolding whole_draft assembly_of
first_error text =
    let lines = lines_of text in
    found_first lines (drafted 1 no_draft lines) (survey 1 no_lines lines) (drafted_agrees 1 no_draft lines refl) (λ layout. drafted_follows layout.table 1 no_draft lines refl)
