-- The lines that are wrong in themselves, or after those before them.
use Rattle.std.proofs.Common.{◌≡◌, ℕ, ◌+◌, Bool, true, false, Option, Some, None, Result, Ok, Err, List, [], ◌∷◌, ◌++◌, refl}
use Rattle.std.specs.Prelude.{is_some}
use Rattle.module_text.specs.TextReader.Refusal.{Refusal, refusal}
use Rattle.module_text.specs.TextReader.Steps.{◌>>=◌}
use Rattle.assembly.specs.AssemblyText.LineErrors.{code_of}
use Rattle.assembly.specs.AssemblyText.LineText.{line_of}
use Rattle.assembly.specs.AssemblyText.Parts.{parts_of}
use Rattle.assembly.specs.AssemblyText.Refusal.{at_line}
use Rattle.assembly.specs.AssemblyText.Survey.{Layout, admitted, survey, with_line as with_line_placed}
use Rattle.assembly.specs.declared.assembly_text.errors.LineError.{LineError}
use Rattle.assembly.specs.declared.assembly_text.errors.LineError.TheVariants.{NoForm, UnknownName, OutOfRange, UndefinedLabel, RepeatedLabel, OutOfReach, HunkTooLong}
use Rattle.assembly.specs.declared.assembly_text.statements.Line.{Line}
use Rattle.assembly_errors.specs.Drafts.{Draft, drafted, found_with, is_none, is_said, loose_label, with_admitted, with_error, with_label, with_line, with_loose_label, with_reading}
use Rattle.assembly_errors.specs.Refusals.{first_refusal}
use Rattle.assembly_errors.specs.declared.drafts.Finding.{Finding}

-- the first one stays the first where more are found
pub first-more : (fs gs : List Finding) (r : Refusal) → first_refusal fs ≡ Some r → first_refusal (fs ++ gs) ≡ Some r
first-more [] gs r e = cc e
first-more (f ∷ fs) gs r e = e

-- ---- a line that is wrong

labelled_found : (n : ℕ) (d : Draft) (name : List ℕ) (b : Bool) → is_some (d.layout.table name) ≡ b → (with_label n d name).found ≡ d.found
labelled_found n d name true e = rw e refl
labelled_found n d name false e = rw e refl

pub loose_found : (n : ℕ) (d : Draft) (text : List ℕ) (label : Option (List ℕ)) → loose_label (parts_of text) ≡ label → (with_loose_label n d text).found ≡ d.found
loose_found n d text None e = rw e refl
loose_found n d text (Some name) e = rw e (labelled_found n d name (is_some (d.layout.table name)) refl)

said_first : (e : LineError) → is_said e true ≡ true
said_first NoForm = refl
said_first UnknownName = refl
said_first OutOfRange = refl
said_first UndefinedLabel = refl
said_first RepeatedLabel = refl
said_first OutOfReach = refl
said_first HunkTooLong = refl

-- the draft with a line in error, before its label is looked at
abbrev with_found : ℕ → Draft → List ℕ → LineError → Draft
with_found n d text e = record { layout = d.layout; found = found_with n d text e; leads = d.leads; definitions = d.definitions }

error_found : (n : ℕ) (d : Draft) (text : List ℕ) (e : LineError) → (with_error n d text e).found ≡ found_with n d text e
error_found n d text e = loose_found n (with_found n d text e) text (loose_label (parts_of text)) refl

-- where nothing was found before it, it is the first
error_first : (n : ℕ) (d : Draft) (text : List ℕ) (e : LineError) → d.found ≡ [] → first_refusal (with_error n d text e).found ≡ Some (refusal n (code_of e))
error_first n d text e none = rw (error_found n d text e) (rw none (rw (said_first e) refl))

kept_found : (n : ℕ) (d : Draft) (text : List ℕ) (e : LineError) (r : Refusal) (b : Bool) → is_said e (is_none d.found) ≡ b → first_refusal d.found ≡ Some r → first_refusal (found_with n d text e) ≡ Some r
kept_found n d text e r true said first = rw said (first-more d.found _ r first)
kept_found n d text e r false said first = rw said first

error_kept : (n : ℕ) (d : Draft) (text : List ℕ) (e : LineError) (r : Refusal) → first_refusal d.found ≡ Some r → first_refusal (with_error n d text e).found ≡ Some r
error_kept n d text e r first = rw (error_found n d text e) (kept_found n d text e r (is_said e (is_none d.found)) refl first)

-- ---- lines after one that is wrong

admitted_kept : (n : ℕ) (d : Draft) (text : List ℕ) (line : Line) (fits : Result Unit LineError) (r : Refusal) → first_refusal d.found ≡ Some r → first_refusal (with_admitted n d text line fits).found ≡ Some r
admitted_kept n d text line (Ok u) r first = first
admitted_kept n d text line (Err e) r first = error_kept n d text e r first

reading_kept : (n : ℕ) (d : Draft) (text : List ℕ) (reading : Result Line LineError) (r : Refusal) → first_refusal d.found ≡ Some r → first_refusal (with_reading n d text reading).found ≡ Some r
reading_kept n d text (Ok line) r first = admitted_kept n d text line (admitted d.layout line) r first
reading_kept n d text (Err e) r first = error_kept n d text e r first

pub drafted_kept : (n : ℕ) (d : Draft) (texts : List (List ℕ)) (r : Refusal) → first_refusal d.found ≡ Some r → first_refusal (drafted n d texts).found ≡ Some r
drafted_kept n d [] r first = first
drafted_kept n d (text ∷ texts) r first = drafted_kept (n + 1) (with_reading n d text (line_of text)) texts r (reading_kept n d text (line_of text) r first)

-- ---- the survey

-- the draft has what the survey gives, or first what it refuses
abbrev pub Agrees : Result Layout Refusal → Draft → Type 0
Agrees (Ok layout) d = (d.found ≡ []) × (d.layout ≡ layout)
Agrees (Err r) d = first_refusal d.found ≡ Some r

-- what the survey of more lines agrees to
abbrev GoesOn : ℕ → List (List ℕ) → Type 0
GoesOn n texts = (d : Draft) → d.found ≡ [] → Agrees (survey n d.layout texts) (drafted n d texts)

admitted_agrees : (n : ℕ) (d : Draft) (text : List ℕ) (texts : List (List ℕ)) (line : Line) (fits : Result Unit LineError) → GoesOn (n + 1) texts → d.found ≡ []
    → Agrees ((at_line n fits >>= λ u. Ok (with_line_placed d.layout line)) >>= λ next. survey (n + 1) next texts) (drafted (n + 1) (with_admitted n d text line fits) texts)
admitted_agrees n d text texts line (Ok u) more none = more (with_line n d text line) none
admitted_agrees n d text texts line (Err e) more none = drafted_kept (n + 1) (with_error n d text e) texts (refusal n (code_of e)) (error_first n d text e none)

reading_agrees : (n : ℕ) (d : Draft) (text : List ℕ) (texts : List (List ℕ)) (reading : Result Line LineError) → GoesOn (n + 1) texts → d.found ≡ []
    → Agrees ((at_line n reading >>= λ line. at_line n (admitted d.layout line) >>= λ u. Ok (with_line_placed d.layout line)) >>= λ next. survey (n + 1) next texts) (drafted (n + 1) (with_reading n d text reading) texts)
reading_agrees n d text texts (Ok line) more none = admitted_agrees n d text texts line (admitted d.layout line) more none
reading_agrees n d text texts (Err e) more none = drafted_kept (n + 1) (with_error n d text e) texts (refusal n (code_of e)) (error_first n d text e none)

pub drafted_agrees : (n : ℕ) (d : Draft) (texts : List (List ℕ)) → d.found ≡ [] → Agrees (survey n d.layout texts) (drafted n d texts)
drafted_agrees n d [] none = (none, refl)
drafted_agrees n d (text ∷ texts) none = reading_agrees n d text texts (line_of text) (λ e none. drafted_agrees (n + 1) e texts none) none
