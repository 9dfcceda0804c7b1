-- The lines that name a label.
use Rattle.std.proofs.Common.{◌≡◌, ◌∙◌, ℕ, ◌+◌, Bool, true, false, Option, Some, None, Result, Ok, Err, List, [], ◌∷◌, ◌++◌, length, refl, sym, subst, append-nil}
use Rattle.std.proofs.lemmas.List.Elements.{filter_map-append}
use Rattle.std.specs.Prelude.{is_some}
use Rattle.std.specs.Result.{result_err}
use Rattle.std.specs.List.{filter_map}
use Rattle.module_text.specs.TextReader.Refusal.{Refusal, refusal}
use Rattle.module_text.specs.TextReader.Steps.{◌>>=◌}
use Rattle.assembly.specs.AssemblyText.Encoding.{Code, code_of as code_of_piece, encode, joined}
use Rattle.assembly.specs.AssemblyText.Labels.{Table}
use Rattle.assembly.specs.AssemblyText.LineErrors.{code_of}
use Rattle.assembly.specs.AssemblyText.LineText.{line_of}
use Rattle.assembly.specs.AssemblyText.Parts.{parts_of}
use Rattle.assembly.specs.AssemblyText.Pieces.{piece_of}
use Rattle.assembly.specs.AssemblyText.Refusal.{at_line}
use Rattle.assembly.specs.AssemblyText.Survey.{Layout, admitted, survey, with_line as with_line_placed}
use Rattle.assembly.specs.declared.assembly_text.errors.LineError.{LineError}
use Rattle.assembly.specs.declared.assembly_text.errors.LineError.TheVariants.{NoForm, UnknownName, OutOfRange, UndefinedLabel, RepeatedLabel, OutOfReach, HunkTooLong}
use Rattle.assembly.specs.declared.assembly_text.pieces.Piece.{Piece}
use Rattle.assembly.specs.declared.assembly_text.statements.Line.{Line}
use Rattle.assembly.specs.declared.assembly_text.statements.Statement.{Statement}
use Rattle.assembly.specs.declared.assembly_text.statements.Statement.TheVariants.{Fixed, Align, Relative, Indirect, Reserve, Address, Global}
use Rattle.assembly.proofs.AssemblyText.PieceFits.{piece_fits}
use Rattle.assembly_errors.specs.Drafts.{Draft, drafted, found_with, leads_with, loose_label, with_admitted, with_error, with_label, with_line, with_loose_label, with_reading}
use Rattle.assembly_errors.specs.Findings.{finding_of, is_blamed}
use Rattle.assembly_errors.specs.Leads.{NamingLine, names_label}
use Rattle.assembly_errors.specs.Refusals.{first_refusal}
use Rattle.assembly_errors.specs.declared.drafts.Finding.{Finding}
use Rattle.assembly_errors.proofs.DraftedLines.{first-more}

-- the lines found among those that name a label, where no line is wrong in itself
abbrev pub followed : Table → List NamingLine → List Finding
followed table leads = filter_map (finding_of table true) leads

followed-append : (table : Table) (front back : List NamingLine) → followed table (front ++ back) ≡ followed table front ++ followed table back
followed-append table front back = filter_map-append (finding_of table true) front back

-- ---- what is kept once a line is found

first-leads : (table : Table) (front back : List NamingLine) (r : Refusal) → first_refusal (followed table front) ≡ Some r → first_refusal (followed table (front ++ back)) ≡ Some r
first-leads table front back r e = rw (followed-append table front back) (first-more (followed table front) (followed table back) r e)

-- the draft has the leads that it had, and then more
pub record HasMore (before after : Draft) : Type 0 where
  pub more : List NamingLine
  pub all : after.leads ≡ before.leads ++ more

labelled_leads : (n : ℕ) (d : Draft) (name : List ℕ) (b : Bool) → is_some (d.layout.table name) ≡ b → (with_label n d name).leads ≡ d.leads
labelled_leads n d name true e = rw e refl
labelled_leads n d name false e = rw e refl

loose_leads : (n : ℕ) (d : Draft) (text : List ℕ) (label : Option (List ℕ)) → loose_label (parts_of text) ≡ label → (with_loose_label n d text).leads ≡ d.leads
loose_leads n d text None e = rw e refl
loose_leads n d text (Some name) e = rw e (labelled_leads n d name (is_some (d.layout.table name)) refl)

error_more : (n : ℕ) (d : Draft) (text : List ℕ) (e : LineError) → HasMore d (with_error n d text e)
error_more n d text e =
    let found : Draft = record { layout = d.layout; found = found_with n d text e; leads = d.leads; definitions = d.definitions } in
    record { more = []; all = loose_leads n found text (loose_label (parts_of text)) refl ∙ sym (append-nil d.leads) }

leads_more : (n : ℕ) (leads : List NamingLine) (text : List ℕ) (offset : ℕ) (s : Statement) (b : Bool) → names_label s ≡ b → (more : List NamingLine) × (leads_with n leads text offset s ≡ leads ++ more)
leads_more n leads text offset s true e = (record { number = n; text = text; offset = offset; statement = s } ∷ [], rw e refl)
leads_more n leads text offset s false e = ([], rw e (sym (append-nil leads)))

line_more : (n : ℕ) (d : Draft) (text : List ℕ) (line : Line) → HasMore d (with_line n d text line)
line_more n d text line =
    let m = leads_more n d.leads text d.layout.offset line.statement (names_label line.statement) refl in
    record { more = m.0; all = m.1 }

admitted_more : (n : ℕ) (d : Draft) (text : List ℕ) (line : Line) (fits : Result Unit LineError) → HasMore d (with_admitted n d text line fits)
admitted_more n d text line (Ok u) = line_more n d text line
admitted_more n d text line (Err e) = error_more n d text e

reading_more : (n : ℕ) (d : Draft) (text : List ℕ) (reading : Result Line LineError) → HasMore d (with_reading n d text reading)
reading_more n d text (Ok line) = admitted_more n d text line (admitted d.layout line)
reading_more n d text (Err e) = error_more n d text e

pub leads_kept : (table : Table) (n : ℕ) (d : Draft) (texts : List (List ℕ)) (r : Refusal) → first_refusal (followed table d.leads) ≡ Some r → first_refusal (followed table (drafted n d texts).leads) ≡ Some r
leads_kept table n d [] r e = e
leads_kept table n d (text ∷ texts) r e =
    let next = with_reading n d text (line_of text) in
    let m = reading_more n d text (line_of text) in
    leads_kept table (n + 1) next texts r (rw m.all (first-leads table d.leads m.more r e))

-- ---- what one line that is right in itself gives

-- a line that names no label is given its bytes
gives_bytes : (table : Table) (offset : ℕ) (s : Statement) (e : LineError) → names_label s ≡ false → piece_of table offset s ≡ Err e → ⊥
unfolding piece_of
gives_bytes table offset (Fixed bytes) e names p = cc p
gives_bytes table offset (Align boundary) e names p = cc p
gives_bytes table offset (Relative byte label) e names p = cc names
gives_bytes table offset (Indirect byte label) e names p = cc names
gives_bytes table offset (Reserve label) e names p = cc names
gives_bytes table offset (Address label) e names p = cc names
gives_bytes table offset (Global number label) e names p = cc names

blamed_right : (e : LineError) → is_blamed e true ≡ true
blamed_right NoForm = refl
blamed_right UnknownName = refl
blamed_right OutOfRange = refl
blamed_right UndefinedLabel = refl
blamed_right RepeatedLabel = refl
blamed_right OutOfReach = refl
blamed_right HunkTooLong = refl

-- a line that is refused its bytes is found
refused_found : (table : Table) (n : ℕ) (leads : List NamingLine) (text : List ℕ) (offset : ℕ) (s : Statement) (e : LineError) (b : Bool) → names_label s ≡ b → followed table leads ≡ [] → piece_of table offset s ≡ Err e
    → first_refusal (followed table (leads_with n leads text offset s)) ≡ Some (refusal n (code_of e))
refused_found table n leads text offset s e true names none p =
    let lead : NamingLine = record { number = n; text = text; offset = offset; statement = s } in
    rw names (rw (followed-append table leads (lead ∷ [])) (rw none (rw p (rw (blamed_right e) refl))))
refused_found table n leads text offset s e false names none p = absurd (gives_bytes table offset s e names p)

-- a line that is given its bytes is not
given_found : (table : Table) (n : ℕ) (leads : List NamingLine) (text : List ℕ) (offset : ℕ) (s : Statement) (piece : Piece) (b : Bool) → names_label s ≡ b → followed table leads ≡ [] → piece_of table offset s ≡ Ok piece
    → followed table (leads_with n leads text offset s) ≡ []
given_found table n leads text offset s piece true names none p =
    let lead : NamingLine = record { number = n; text = text; offset = offset; statement = s } in
    rw names (rw (followed-append table leads (lead ∷ [])) (rw none (rw p refl)))
given_found table n leads text offset s piece false names none p = rw names none

-- ---- all lines, where the survey refuses none

-- where the lines are surveyed, what is found first is what they are refused
abbrev pub Follows : Table → Result Layout Refusal → Result Code Refusal → Draft → Type 0
Follows table (Ok last) code d = first_refusal (followed table d.leads) ≡ result_err code
Follows table (Err r) code d = Unit {0}

-- what is so of more lines
abbrev GoesOn : Table → ℕ → List (List ℕ) → Type 0
GoesOn table n texts = (d : Draft) → followed table d.leads ≡ [] → Follows table (survey n d.layout texts) (encode n table d.layout.offset texts) (drafted n d texts)

follows_any : (table : Table) (surveyed : Result Layout Refusal) (code : Result Code Refusal) (d : Draft) → first_refusal (followed table d.leads) ≡ result_err code → Follows table surveyed code d
follows_any table (Ok last) code d e = e
follows_any table (Err r) code d e = tt

joined_err : (piece : Piece) (code : Result Code Refusal) → result_err (code >>= λ more. Ok (joined (code_of_piece piece) more)) ≡ result_err code
joined_err piece (Ok code) = refl
joined_err piece (Err r) = refl

follows_joined : (table : Table) (surveyed : Result Layout Refusal) (piece : Piece) (code : Result Code Refusal) (d : Draft) → Follows table surveyed code d
    → Follows table surveyed (code >>= λ more. Ok (joined (code_of_piece piece) more)) d
follows_joined table (Ok last) piece code d e = e ∙ sym (joined_err piece code)
follows_joined table (Err r) piece code d e = tt

line_follows : (table : Table) (n : ℕ) (d : Draft) (text : List ℕ) (texts : List (List ℕ)) (line : Line) (given : Result Piece LineError) → GoesOn table (n + 1) texts → followed table d.leads ≡ []
    → piece_of table d.layout.offset line.statement ≡ given
    → Follows table (survey (n + 1) (with_line_placed d.layout line) texts)
    (at_line n given >>= λ piece. encode (n + 1) table (d.layout.offset + length piece.bytes) texts >>= λ more. Ok (joined (code_of_piece piece) more))
    (drafted (n + 1) (with_line n d text line) texts)
line_follows table n d text texts line (Ok piece) more none p =
    let next = with_line n d text line in
    let fits = piece_fits table d.layout.offset line.statement piece p in
    let rest = more next (given_found table n d.leads text d.layout.offset line.statement piece (names_label line.statement) refl none p) in
    let moved = subst (λ (o : ℕ). Follows table (survey (n + 1) next.layout texts) (encode (n + 1) table o texts) (drafted (n + 1) next texts)) (sym fits.ends) rest in
    follows_joined table (survey (n + 1) next.layout texts) piece (encode (n + 1) table (d.layout.offset + length piece.bytes) texts) (drafted (n + 1) next texts) moved
line_follows table n d text texts line (Err e) more none p =
    let next = with_line n d text line in
    follows_any table (survey (n + 1) next.layout texts) (Err (refusal n (code_of e))) (drafted (n + 1) next texts)
    (leads_kept table (n + 1) next texts (refusal n (code_of e)) (refused_found table n d.leads text d.layout.offset line.statement e (names_label line.statement) refl none p))

admitted_follows : (table : Table) (n : ℕ) (d : Draft) (text : List ℕ) (texts : List (List ℕ)) (line : Line) (fits : Result Unit LineError) → GoesOn table (n + 1) texts → followed table d.leads ≡ []
    → Follows table ((at_line n fits >>= λ u. Ok (with_line_placed d.layout line)) >>= λ next. survey (n + 1) next texts)
    (at_line n (piece_of table d.layout.offset line.statement) >>= λ piece. encode (n + 1) table (d.layout.offset + length piece.bytes) texts >>= λ more. Ok (joined (code_of_piece piece) more))
    (drafted (n + 1) (with_admitted n d text line fits) texts)
admitted_follows table n d text texts line (Ok u) more none = line_follows table n d text texts line (piece_of table d.layout.offset line.statement) more none refl
admitted_follows table n d text texts line (Err e) more none = tt

reading_follows : (table : Table) (n : ℕ) (d : Draft) (text : List ℕ) (texts : List (List ℕ)) (reading : Result Line LineError) → GoesOn table (n + 1) texts → followed table d.leads ≡ []
    → Follows table ((at_line n reading >>= λ line. at_line n (admitted d.layout line) >>= λ u. Ok (with_line_placed d.layout line)) >>= λ next. survey (n + 1) next texts)
    ((at_line n reading >>= λ line. at_line n (piece_of table d.layout.offset line.statement)) >>= λ piece. encode (n + 1) table (d.layout.offset + length piece.bytes) texts >>= λ more. Ok (joined (code_of_piece piece) more))
    (drafted (n + 1) (with_reading n d text reading) texts)
reading_follows table n d text texts (Ok line) more none = admitted_follows table n d text texts line (admitted d.layout line) more none
reading_follows table n d text texts (Err e) more none = tt

pub drafted_follows : (table : Table) (n : ℕ) (d : Draft) (texts : List (List ℕ)) → followed table d.leads ≡ [] → Follows table (survey n d.layout texts) (encode n table d.layout.offset texts) (drafted n d texts)
drafted_follows table n d [] none = rw none refl
drafted_follows table n d (text ∷ texts) none = reading_follows table n d text texts (line_of text) (λ e none. drafted_follows table (n + 1) e texts none) none
