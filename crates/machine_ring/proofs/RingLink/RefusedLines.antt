-- The lines at which a session is refused.
use Rattle.std.proofs.Common.{◌≡◌, ℕ, ◌+◌, ◌≤◌, inl, inr, Bool, true, false, cond, Option, Some, None, Result, Ok, Err, List, ◌∷◌, length, refl, ap, arith, length-append, nat_lt, ◌⊎◌, sym}
use Rattle.std.specs.Prelude.{codes, slice_get, IfErr}
use Rattle.std.specs.Option.{option_map_or}
use Rattle.std.specs.Str.{bytes_eq}
use Rattle.std.proofs.lemmas.Bool.{ltb-true}
use Rattle.std.proofs.lemmas.Option.{slice_get_within}
use Rattle.module_text.specs.TextReader.Answers.{EndsAs, Gives}
use Rattle.module_text.specs.TextReader.Refusal.{Refusal, refusal}
use Rattle.module_text.specs.declared.text_reader.ends.TextEnd.{TextEnd}
use Rattle.module_text.specs.declared.text_reader.ends.TextEnd.TheVariants.{Bad, WantMemory}
use Rattle.session_text.specs.SessionOfText.{first_draft, read_on, session_lines}
use Rattle.session_text.specs.declared.drafts.Draft.{Draft}
use Rattle.session_text.specs.declared.sessions.Session.{Session}
use Rattle.session_text.proofs.Advances.{read_on-err}
use Rattle.session_text.proofs.LineRefusals.{IsWrong}
use Rattle.session_text.proofs.StepRefusals.{step-err}
use Rattle.machine_ring.specs.RingLink.Machines.{IsUpTo, bare_end, has_bare}

-- a line that is wrong is named by its number
pub wrong_line : (d : Draft) (n : ℕ) (line : List ℕ) (r : Refusal) → IsWrong d n line r → n ≡ r.line
wrong_line d n line r (inl w) = ap (λ (x : Refusal). x.line) w.0
wrong_line d n line r (inr w) = ap (λ (x : Refusal). x.line) w.0

-- with a code of a line
pub wrong_code : (d : Draft) (n : ℕ) (line : List ℕ) (r : Refusal) → IsWrong d n line r → (r.code ≡ 1) ⊎ (r.code ≡ 2)
wrong_code d n line r (inl w) = inl (sym (ap (λ (x : Refusal). x.code) w.0))
wrong_code d n line r (inr w) = inr (sym (ap (λ (x : Refusal). x.code) w.0))

-- lines from line n on are refused at one of them, or at the next
read_on-line : (d : Draft) (n : ℕ) (lines : List (List ℕ)) (r : Refusal) → read_on d n lines ≡ Err r → r.line ≤ n + length lines
read_on-line d n lines r e =
    elim (read_on-err d n lines r e) [
      | inl s ↦
          let at = wrong_line s.at (n + length s.front) s.line r (step-err s.at.place s.at.session (n + length s.front) s.line r s.stops) in
          let all = ap length s.all in
          omega (arith, length-append s.front (s.line ∷ s.after))
      | inr s ↦ let at = ap (λ (x : Refusal). x.line) s.refused in omega arith
    ]

-- so a session that is read of lines
pub up_to : (most : ℕ) (lines : List (List ℕ)) (end : TextEnd) → length lines + 1 ≤ most → EndsAs end (session_lines lines) → IsUpTo most end
up_to most lines (Bad line code) few e = let low = read_on-line first_draft 1 lines (refusal line code) e in omega arith
up_to most lines WantMemory few e = tt

pub read-up_to : (most : ℕ) (lines : List (List ℕ)) (read : Result Session TextEnd) → length lines + 1 ≤ most → Gives (λ s. s) read (session_lines lines)
    → IfErr read (λ end. IsUpTo most end)
read-up_to most lines (Ok s) few e = tt
read-up_to most lines (Err end) few e = up_to most lines end few e

-- ---- a third line that is `BARE`

bare-by : (most line code : ℕ) (b : Bool) → nat_lt line 3 ≡ b → 3 ≤ most → IsUpTo most (cond b (Bad line code) (Bad 3 1))
bare-by most line code true e high = let low = ltb-true line 3 e in omega arith
bare-by most line code false e high = high

pub bare_end-up_to : (most : ℕ) (read : Result Session TextEnd) → 3 ≤ most → IsUpTo most (bare_end read)
bare_end-up_to most (Ok s) high = high
bare_end-up_to most (Err (Bad line code)) high = bare-by most line code (nat_lt line 3) refl high
bare_end-up_to most (Err WantMemory) high = tt

bare_lines : (lines : List (List ℕ)) (o : Option (List ℕ)) → slice_get lines 2 ≡ o → option_map_or (λ line. bytes_eq line (codes "BARE")) o false ≡ true → 3 ≤ length lines
bare_lines lines None e h = cc h
bare_lines lines (Some line) e h = let within = slice_get_within lines 2 line e in omega arith

-- there are three lines then
pub has_bare-lines : (lines : List (List ℕ)) → has_bare lines ≡ true → 3 ≤ length lines
has_bare-lines lines h = bare_lines lines (slice_get lines 2) refl h
