-- How far the lines of a text are read.
use Rattle.std.proofs.Common.{◌≡◌, ◌∙◌, ℕ, ◌+◌, ◌==◌, ◌&&◌, ◌⊎◌, inl, inr, Bool, true, false, cond, not, Option, Some, None, Result, Ok, Err, List, [], ◌∷◌, ◌++◌, length, nat_lt, refl, ap, subst, arith, add-zero}
use Rattle.std.specs.Prelude.{codes, option_and_then, replicate, slice_set}
use Rattle.std.specs.Option.{ok_or, option_map_or}
use Rattle.std.specs.Str.{bytes_eq}
use Rattle.module_text.specs.TextReader.Fields.{after_word, number_after, number_line}
use Rattle.module_text.specs.TextReader.Numbers.{number_of}
use Rattle.module_text.specs.TextReader.Refusal.{Refusal, refusal}
use Rattle.module_text.specs.TextReader.Steps.{◌>>=◌}
use Rattle.module_text.proofs.TextReader.FieldLemmas.{number_line-ok}
use Rattle.module_text.proofs.TextReader.StepLemmas.{Err-same, Ok-same, bind-err, bind-ok}
use Rattle.kernel_model.specs.KernelRecord.Ranges.{is_period, is_store_size}
use Rattle.session_text.specs.Ranges.{is_step}
use Rattle.session_text.proofs.Advances.{least_store}
use Rattle.saved_text.specs.SavedLines.Heads.{console_of, regs_line, regs_or_refusal, ring_of, shell_of, six_numbers}
use Rattle.saved_text.specs.SavedLines.HexText.{bytes_of}
use Rattle.saved_text.specs.SavedLines.Statements.{Statement, File, Bytes, Stream, Pipe, Key, Word, Go, statement_of}
use Rattle.saved_text.specs.ImageForm.{AreImageLines}
use Rattle.saved_text.specs.ImageOfText.{console_line, draft, ended, entry_step, first_draft, flag_of, place_after_regs, read_on, ring_line, shell_line, statement_step, step, version_line}
use Rattle.saved_text.specs.Places.{pipe_floor, stream_floor, word_floor}
use Rattle.saved_text.specs.Ranges.{mode_of, pipe_of, stream_of}
use Rattle.saved_text.specs.declared.drafts.Draft.{Draft}
use Rattle.saved_text.specs.declared.drafts.Place.{Place}
use Rattle.saved_text.specs.declared.drafts.Place.TheVariants.{Version as AtVersion, Store as AtStore, Machine as AtMachine, Step as AtStep, Regs as AtRegs, Ring as AtRing, Console as AtConsole, Shell as AtShell, File as AtFile, Stream as AtStream, Pipe as AtPipe, Key as AtKey, Word as AtWord, End as AtEnd}
use Rattle.saved_text.specs.declared.images.Image.{Image}
use Rattle.saved_text.proofs.CompleteText.{complete_lines}
use Rattle.saved_text.proofs.Sound.{sound_lines}

-- ---- the refusals of one line

-- the refusal of line n, with code 1 or 2
abbrev pub IsOf : ℕ → Refusal → Type 0
IsOf n r = (refusal n 1 ≡ r) ⊎ (refusal n 2 ≡ r)

-- each refusal is one of line n
abbrev Refuses : {A : Type 0} → ℕ → Result A Refusal → Type 0
Refuses n result = (r : Refusal) → result ≡ Err r → IsOf n r

module _ {A : Type 0} (n : ℕ) where
  refuses_ok : (x : A) → Refuses {A = A} n (Ok x)
  refuses_ok x r e = cc e

  refuses_form : Refuses {A = A} n (Err (refusal n 1))
  refuses_form r e = inl (Err-same {A = A} (refusal n 1) r e)

  refuses_range : Refuses {A = A} n (Err (refusal n 2))
  refuses_range r e = inr (Err-same {A = A} (refusal n 2) r e)

  refuses_cond : (b : Bool) (x y : Result A Refusal) → Refuses n x → Refuses n y → Refuses n (cond b x y)
  refuses_cond true x y h k = h
  refuses_cond false x y h k = k

  refuses_no_form : (o : Option A) → Refuses n (ok_or o (refusal n 1))
  refuses_no_form None = refuses_form
  refuses_no_form (Some x) = refuses_ok x

  refuses_no_range : (o : Option A) → Refuses n (ok_or o (refusal n 2))
  refuses_no_range None = refuses_range
  refuses_no_range (Some x) = refuses_ok x

refuses_bind : {A B : Type 0} (n : ℕ) (a : Result A Refusal) (f : A → Result B Refusal) → Refuses n a → ((x : A) → Refuses n (f x)) → Refuses n (a >>= f)
refuses_bind n (Ok x) f h k r e = k x r e
refuses_bind {B = B} n (Err d) f h k r e = h r (ap Err (Err-same {A = B} d r e))

refuses_number : (word : List ℕ) (is_in_range : ℕ → Bool) (n : ℕ) (line : List ℕ) → Refuses n (number_line word is_in_range n line)
refuses_number word is_in_range n line =
    refuses_bind n (number_after word n line) (λ v. cond (is_in_range v) (Ok v) (Err (refusal n 2))) (refuses_no_form n (option_and_then number_of (after_word word line)))
    (λ v. refuses_cond n (is_in_range v) (Ok v) (Err (refusal n 2)) (refuses_ok n v) (refuses_range n))

refuses_statement : (p : Place) (x : Image) (n : ℕ) (s : Statement) → Refuses n (statement_step p x n s)
refuses_statement p x n (File name) = refuses_cond n _ _ _ (refuses_form n) (refuses_cond n _ _ _ (refuses_ok n _) (refuses_range n))
refuses_statement p x n (Bytes bytes) = refuses_cond n _ _ _ (refuses_ok n _) (refuses_form n)
refuses_statement p x n (Stream k m position name) =
    refuses_bind n (ok_or (stream_floor p) (refusal n 1)) (λ floor. cond (nat_lt k floor) (Err (refusal n 1)) (ok_or (stream_of k m position name) (refusal n 2) >>= λ s. Ok (draft (AtStream (k + 1)) (record x { streams = x.streams ++ s ∷ [] })))) (refuses_no_form n _) (λ floor. refuses_cond n _ _ _ (refuses_form n) (refuses_bind n (ok_or (stream_of k m position name) (refusal n 2)) (λ s. Ok (draft (AtStream (k + 1)) (record x { streams = x.streams ++ s ∷ [] }))) (refuses_no_range n _) (λ s. refuses_ok n _)))
refuses_statement p x n (Pipe k r w e name held) =
    refuses_bind n (ok_or (pipe_floor p) (refusal n 1)) (λ floor. cond (nat_lt k floor) (Err (refusal n 1)) (ok_or (pipe_of k r w e name held) (refusal n 2) >>= λ s. Ok (draft (AtPipe (k + 1)) (record x { pipes = x.pipes ++ s ∷ [] })))) (refuses_no_form n _) (λ floor. refuses_cond n _ _ _ (refuses_form n) (refuses_bind n (ok_or (pipe_of k r w e name held) (refusal n 2)) (λ s. Ok (draft (AtPipe (k + 1)) (record x { pipes = x.pipes ++ s ∷ [] }))) (refuses_no_range n _) (λ s. refuses_ok n _)))
refuses_statement p x n (Key at byte) = refuses_cond n _ _ _ (refuses_form n) (refuses_cond n _ _ _ (refuses_ok n _) (refuses_range n))
refuses_statement p x n (Word a w) =
    refuses_bind n (ok_or (word_floor p) (refusal n 1)) (λ floor. cond (nat_lt a floor) (Err (refusal n 1)) (cond (nat_lt a (length x.store) && not (w == 0)) (Ok (draft (AtWord (a + 1)) (record x { store = slice_set x.store a w }))) (Err (refusal n 2)))) (refuses_no_form n _) (λ floor. refuses_cond n _ _ _ (refuses_form n) (refuses_cond n _ _ _ (refuses_ok n _) (refuses_range n)))
refuses_statement p x n (Go go) = refuses_cond n _ _ _ (refuses_form n) (refuses_cond n _ _ _ (refuses_ok n _) (refuses_range n))

refuses_entry : (p : Place) (x : Image) (n : ℕ) (line : List ℕ) → Refuses n (entry_step p x n line)
refuses_entry p x n line = refuses_bind n (ok_or (statement_of line) (refusal n 1)) (statement_step p x n) (refuses_no_form n (statement_of line)) (refuses_statement p x n)

refuses_regs : (n : ℕ) (o : Option (ℕ × ℕ × ℕ × ℕ × ℕ × ℕ)) → Refuses n (option_map_or (regs_or_refusal n) o (Err (refusal n 1)))
refuses_regs n None = refuses_form n
refuses_regs n (Some x) = refuses_cond n _ _ _ (refuses_ok n _) (refuses_range n)

step_refuses : (p : Place) (x : Image) (n : ℕ) (line : List ℕ) → Refuses n (step (draft p x) n line)
unfolding step
step_refuses AtVersion x n line = refuses_bind n (version_line n line) (λ v. Ok (draft AtStore (record x { version = v }))) (refuses_cond n (bytes_eq line (codes "TRIPOS-IMAGE 1")) _ _ (refuses_ok n 1) (refuses_cond n (bytes_eq line (codes "TRIPOS-IMAGE 2")) _ _ (refuses_ok n 2) (refuses_form n))) (λ v. refuses_ok n _)
step_refuses AtStore x n line = refuses_bind n (number_line (codes "STORE ") (is_store_size x.version) n line) (λ v. Ok (draft AtMachine (record x { store = replicate v 0 }))) (refuses_number (codes "STORE ") (is_store_size x.version) n line) (λ v. refuses_ok n _)
step_refuses AtMachine x n line = refuses_cond n _ _ _ (refuses_ok n _) (refuses_bind n (number_line (codes "TICK ") is_period n line) (λ v. Ok (draft AtStep (record x { period = v }))) (refuses_number (codes "TICK ") is_period n line) (λ v. refuses_ok n _))
step_refuses AtStep x n line = refuses_bind n (number_line (codes "STEP ") is_step n line) (λ v. Ok (draft AtRegs (record x { step = v }))) (refuses_number (codes "STEP ") is_step n line) (λ v. refuses_ok n _)
step_refuses AtRegs x n line = refuses_bind n (regs_line n line) (λ v. Ok (draft (place_after_regs x.bare) (record x { regs = v }))) (refuses_regs n (option_and_then six_numbers (after_word (codes "REGS ") line))) (λ v. refuses_ok n _)
step_refuses AtRing x n line = refuses_bind n (ring_line n line) (λ v. Ok (draft AtConsole (record x { ring = v }))) (refuses_bind n (ok_or (ring_of line) (refusal n 1)) (λ digits. Ok (bytes_of digits)) (refuses_no_form n _) (λ v. refuses_ok n _)) (λ v. refuses_ok n _)
step_refuses AtConsole x n line =
    refuses_bind n (console_line n line) (λ v. Ok (draft AtShell (record x { finished = v.0; line = v.1 }))) (refuses_bind n (ok_or (console_of line) (refusal n 1)) (λ c. ok_or (flag_of c.0) (refusal n 2) >>= λ b. Ok (b, bytes_of c.1)) (refuses_no_form n _) (λ v. refuses_bind n (ok_or (flag_of v.0) (refusal n 2)) (λ b. Ok (b, bytes_of v.1)) (refuses_no_range n _) (λ w. refuses_ok n _))) (λ v. refuses_ok n _)
step_refuses AtShell x n line =
    refuses_bind n (shell_line n line) (λ v. Ok (draft AtFile (record x { mode = v.0; command = v.1 }))) (refuses_bind n (ok_or (shell_of line) (refusal n 1)) (λ c. ok_or (mode_of c.0 c.1) (refusal n 2) >>= λ b. Ok (b, bytes_of c.2)) (refuses_no_form n _) (λ v. refuses_bind n (ok_or (mode_of v.0 v.1) (refusal n 2)) (λ b. Ok (b, bytes_of v.2)) (refuses_no_range n _) (λ w. refuses_ok n _))) (λ v. refuses_ok n _)
step_refuses AtFile x n line = refuses_entry AtFile x n line
step_refuses (AtStream k) x n line = refuses_entry (AtStream k) x n line
step_refuses (AtPipe k) x n line = refuses_entry (AtPipe k) x n line
step_refuses AtKey x n line = refuses_entry AtKey x n line
step_refuses (AtWord a) x n line = refuses_entry (AtWord a) x n line
step_refuses AtEnd x n line = refuses_entry AtEnd x n line

pub step-err : (d : Draft) (n : ℕ) (line : List ℕ) (r : Refusal) → step d n line ≡ Err r → IsOf n r
step-err d n line r e = step_refuses d.place d.image n line r e

-- ---- lines before others

-- the draft after lines from line n on
abbrev pub advance : Draft → ℕ → List (List ℕ) → Result Draft Refusal
advance d n [] = Ok d
advance d n (line ∷ lines) = step d n line >>= λ next. advance next (n + 1) lines

pub read_on-behind : (d e : Draft) (n m : ℕ) (front rest : List (List ℕ)) → m ≡ n + length front → advance d n front ≡ Ok e → read_on d n (front ++ rest) ≡ read_on e m rest
read_on-behind d e n m [] rest k h =
    let same : d ≡ e = cc in
    let number : n ≡ m = omega arith in
    rw (same, number) refl
read_on-behind d e n m (line ∷ front) rest k h =
    let a = bind-ok (step d n line) (λ next. advance next (n + 1) front) e h in
    rw a.1 (read_on-behind a.0 e (n + 1) m front rest (omega arith) a.2)

advance-cons : (d e f : Draft) (n : ℕ) (line : List ℕ) (front : List (List ℕ)) → step d n line ≡ Ok e → advance e (n + 1) front ≡ Ok f → advance d n (line ∷ front) ≡ Ok f
advance-cons d e f n line front h k = rw h k

advance-front : (d e : Draft) (n : ℕ) (front rest : List (List ℕ)) → advance d n (front ++ rest) ≡ Ok e → (f : Draft) × (advance d n front ≡ Ok f)
advance-front d e n [] rest h = (d, refl)
advance-front d e n (line ∷ front) rest h =
    let a = bind-ok (step d n line) (λ next. advance next (n + 1) (front ++ rest)) e h in
    let b = advance-front a.0 e (n + 1) front rest a.2 in
    (b.0, advance-cons d a.0 b.0 n line front a.1 b.1)

last_is : (r : Result Draft Refusal) → (r >>= λ next. Ok next) ≡ r
last_is (Ok d) = refl
last_is (Err e) = refl

pub advance-more : (d e : Draft) (n m : ℕ) (front : List (List ℕ)) (line : List ℕ) → m ≡ n + length front → advance d n front ≡ Ok e → advance d n (front ++ line ∷ []) ≡ step e m line
advance-more d e n m [] line k h =
    let same : d ≡ e = cc in
    let number : n ≡ m = omega arith in
    rw (same, number) (last_is (step e m line))
advance-more d e n m (l ∷ front) line k h =
    let a = bind-ok (step d n l) (λ next. advance next (n + 1) front) e h in
    rw a.1 (advance-more a.0 e (n + 1) m front line (omega arith) a.2)

advance-read : (d : Draft) (n : ℕ) (lines : List (List ℕ)) (x : Image) → read_on d n lines ≡ Ok x → (e : Draft) × (advance d n lines ≡ Ok e)
advance-read d n [] x h = (d, refl)
advance-read d n (line ∷ lines) x h =
    let a = bind-ok (step d n line) (λ next. read_on next (n + 1) lines) x h in
    let b = advance-read a.0 (n + 1) lines x a.2 in
    (b.0, advance-cons d a.0 b.0 n line lines a.1 b.1)

-- ---- where a reading stops

-- a line is refused, and those before it are accepted
pub record StopsAt (d : Draft) (n : ℕ) (lines : List (List ℕ)) (r : Refusal) : Type 0 where
  pub front : List (List ℕ)
  pub line : List ℕ
  pub after : List (List ℕ)
  pub all : lines ≡ front ++ line ∷ after
  pub at : Draft
  pub before : advance d n front ≡ Ok at
  pub stops : step at (n + length front) line ≡ Err r

-- all lines are accepted, and more are wanted
pub record EndsAt (d : Draft) (n : ℕ) (lines : List (List ℕ)) (r : Refusal) : Type 0 where
  pub at : Draft
  pub before : advance d n lines ≡ Ok at
  pub refused : refusal (n + length lines) 3 ≡ r

pub ended_err : (p : Place) (x : Image) (n : ℕ) (r : Refusal) → ended p x n ≡ Err r → refusal n 3 ≡ r
ended_err AtVersion x n r e = Err-same {A = Image} (refusal n 3) r e
ended_err AtStore x n r e = Err-same {A = Image} (refusal n 3) r e
ended_err AtMachine x n r e = Err-same {A = Image} (refusal n 3) r e
ended_err AtStep x n r e = Err-same {A = Image} (refusal n 3) r e
ended_err AtRegs x n r e = Err-same {A = Image} (refusal n 3) r e
ended_err AtRing x n r e = Err-same {A = Image} (refusal n 3) r e
ended_err AtConsole x n r e = Err-same {A = Image} (refusal n 3) r e
ended_err AtShell x n r e = Err-same {A = Image} (refusal n 3) r e
ended_err AtFile x n r e = Err-same {A = Image} (refusal n 3) r e
ended_err (AtStream k) x n r e = Err-same {A = Image} (refusal n 3) r e
ended_err (AtPipe k) x n r e = Err-same {A = Image} (refusal n 3) r e
ended_err AtKey x n r e = Err-same {A = Image} (refusal n 3) r e
ended_err (AtWord a) x n r e = Err-same {A = Image} (refusal n 3) r e
ended_err AtEnd x n r e = cc e

stops_more : (d e : Draft) (n : ℕ) (line : List ℕ) (lines : List (List ℕ)) (r : Refusal) → step d n line ≡ Ok e → StopsAt e (n + 1) lines r → StopsAt d n (line ∷ lines) r
stops_more d e n line lines r h s = record {
  front = line ∷ s.front;
  line = s.line;
  after = s.after;
  all = ap (λ (ls : List (List ℕ)). line ∷ ls) s.all;
  at = s.at;
  before = rw h s.before;
  stops = subst (λ (k : ℕ). step s.at k s.line ≡ Err r) (omega arith) s.stops;
}

ends_more : (d e : Draft) (n : ℕ) (line : List ℕ) (lines : List (List ℕ)) (r : Refusal) → step d n line ≡ Ok e → EndsAt e (n + 1) lines r → EndsAt d n (line ∷ lines) r
ends_more d e n line lines r h s = record {
  at = s.at;
  before = rw h s.before;
  refused = ap (λ (k : ℕ). refusal k 3) (omega arith) ∙ s.refused;
}

pub read_on-err : (d : Draft) (n : ℕ) (lines : List (List ℕ)) (r : Refusal) → read_on d n lines ≡ Err r → StopsAt d n lines r ⊎ EndsAt d n lines r
read_on-err d n [] r h = inr (record { at = d; before = refl; refused = ap (λ (k : ℕ). refusal k 3) (omega arith) ∙ ended_err d.place d.image n r h })
read_on-err d n (line ∷ lines) r h =
    elim (bind-err (step d n line) (λ next. read_on next (n + 1) lines) r h) [
      | inl p ↦ inl (record {
        front = [];
        line = line;
        after = lines;
        all = refl;
        at = d;
        before = refl;
        stops = subst (λ (k : ℕ). step d k line ≡ Err r) (omega arith) p;
      })
      | inr p ↦
          elim (read_on-err p.0 (n + 1) lines r p.2) [
            | inl s ↦ inl (stops_more d p.0 n line lines r p.1 s)
            | inr s ↦ inr (ends_more d p.0 n line lines r p.1 s)
          ]
    ]

-- ---- the steps taken, at each place behind their line

abbrev HasSteps : Place → Image → Type 0
HasSteps AtVersion x = Unit {0}
HasSteps AtStore x = Unit {0}
HasSteps AtMachine x = Unit {0}
HasSteps AtStep x = Unit {0}
HasSteps _ x = is_step x.step ≡ true

-- what holds of each draft that comes out
abbrev Keeps : (Draft → Type 0) → Result Draft Refusal → Type 0
Keeps P r = (d : Draft) → r ≡ Ok d → P d

module _ (P : Draft → Type 0) where
  keeps_ok : (x : Draft) → P x → Keeps P (Ok x)
  keeps_ok x h d e = subst P (Ok-same {E = Refusal} x d e) h

  keeps_err : (r : Refusal) → Keeps P (Err r)
  keeps_err r d e = cc e

  keeps_cond : (b : Bool) (x y : Result Draft Refusal) → Keeps P x → Keeps P y → Keeps P (cond b x y)
  keeps_cond true x y h k = h
  keeps_cond false x y h k = k

  keeps_bind : {A : Type 0} (a : Result A Refusal) (f : A → Result Draft Refusal) → ((x : A) → a ≡ Ok x → Keeps P (f x)) → Keeps P (a >>= f)
  keeps_bind (Ok x) f k d e = k x refl d e
  keeps_bind (Err r) f k d e = cc e

abbrev Stepped : Draft → Type 0
Stepped d = HasSteps d.place d.image

keeps_statement : (p : Place) (x : Image) (n : ℕ) (s : Statement) → is_step x.step ≡ true → Keeps Stepped (statement_step p x n s)
keeps_statement p x n (File name) h = keeps_cond Stepped _ _ _ (keeps_err Stepped _) (keeps_cond Stepped _ _ _ (keeps_ok Stepped _ h) (keeps_err Stepped _))
keeps_statement p x n (Bytes bytes) h = keeps_cond Stepped _ _ _ (keeps_ok Stepped _ h) (keeps_err Stepped _)
keeps_statement p x n (Stream k m position name) h =
    keeps_bind Stepped (ok_or (stream_floor p) (refusal n 1)) (λ floor. cond (nat_lt k floor) (Err (refusal n 1)) (ok_or (stream_of k m position name) (refusal n 2) >>= λ s. Ok (draft (AtStream (k + 1)) (record x { streams = x.streams ++ s ∷ [] })))) (λ floor e. keeps_cond Stepped _ _ _ (keeps_err Stepped _) (keeps_bind Stepped (ok_or (stream_of k m position name) (refusal n 2)) (λ s. Ok (draft (AtStream (k + 1)) (record x { streams = x.streams ++ s ∷ [] }))) (λ s f. keeps_ok Stepped _ h)))
keeps_statement p x n (Pipe k r w q name held) h =
    keeps_bind Stepped (ok_or (pipe_floor p) (refusal n 1)) (λ floor. cond (nat_lt k floor) (Err (refusal n 1)) (ok_or (pipe_of k r w q name held) (refusal n 2) >>= λ s. Ok (draft (AtPipe (k + 1)) (record x { pipes = x.pipes ++ s ∷ [] })))) (λ floor e. keeps_cond Stepped _ _ _ (keeps_err Stepped _) (keeps_bind Stepped (ok_or (pipe_of k r w q name held) (refusal n 2)) (λ s. Ok (draft (AtPipe (k + 1)) (record x { pipes = x.pipes ++ s ∷ [] }))) (λ s f. keeps_ok Stepped _ h)))
keeps_statement p x n (Key at byte) h = keeps_cond Stepped _ _ _ (keeps_err Stepped _) (keeps_cond Stepped _ _ _ (keeps_ok Stepped _ h) (keeps_err Stepped _))
keeps_statement p x n (Word a w) h =
    keeps_bind Stepped (ok_or (word_floor p) (refusal n 1)) (λ floor. cond (nat_lt a floor) (Err (refusal n 1)) (cond (nat_lt a (length x.store) && not (w == 0)) (Ok (draft (AtWord (a + 1)) (record x { store = slice_set x.store a w }))) (Err (refusal n 2)))) (λ floor e. keeps_cond Stepped _ _ _ (keeps_err Stepped _) (keeps_cond Stepped _ _ _ (keeps_ok Stepped _ h) (keeps_err Stepped _)))
keeps_statement p x n (Go go) h = keeps_cond Stepped _ _ _ (keeps_err Stepped _) (keeps_cond Stepped _ _ _ (keeps_ok Stepped _ h) (keeps_err Stepped _))

keeps_entry : (p : Place) (x : Image) (n : ℕ) (line : List ℕ) → is_step x.step ≡ true → Keeps Stepped (entry_step p x n line)
keeps_entry p x n line h = keeps_bind Stepped (ok_or (statement_of line) (refusal n 1)) (statement_step p x n) (λ s e. keeps_statement p x n s h)

-- the place behind the registers
keeps_regs : (b : Bool) (x : Image) → is_step x.step ≡ true → Stepped (draft (cond b (AtWord 0) AtRing) x)
keeps_regs true x h = h
keeps_regs false x h = h

step_keeps : (p : Place) (x : Image) (n : ℕ) (line : List ℕ) → HasSteps p x → Keeps Stepped (step (draft p x) n line)
unfolding step
step_keeps AtVersion x n line h = keeps_bind Stepped (version_line n line) (λ v. Ok (draft AtStore (record x { version = v }))) (λ v e. keeps_ok Stepped _ tt)
step_keeps AtStore x n line h = keeps_bind Stepped (number_line (codes "STORE ") (is_store_size x.version) n line) (λ v. Ok (draft AtMachine (record x { store = replicate v 0 }))) (λ v e. keeps_ok Stepped _ tt)
step_keeps AtMachine x n line h = keeps_cond Stepped _ _ _ (keeps_ok Stepped _ tt) (keeps_bind Stepped (number_line (codes "TICK ") is_period n line) (λ v. Ok (draft AtStep (record x { period = v }))) (λ v e. keeps_ok Stepped _ tt))
step_keeps AtStep x n line h = keeps_bind Stepped (number_line (codes "STEP ") is_step n line) (λ v. Ok (draft AtRegs (record x { step = v }))) (λ v e. keeps_ok Stepped _ (number_line-ok (codes "STEP ") is_step n line v e).1)
step_keeps AtRegs x n line h = keeps_bind Stepped (regs_line n line) (λ v. Ok (draft (place_after_regs x.bare) (record x { regs = v }))) (λ v e. keeps_ok Stepped _ (keeps_regs x.bare (record x { regs = v }) h))
step_keeps AtRing x n line h = keeps_bind Stepped (ring_line n line) (λ v. Ok (draft AtConsole (record x { ring = v }))) (λ v e. keeps_ok Stepped _ h)
step_keeps AtConsole x n line h = keeps_bind Stepped (console_line n line) (λ v. Ok (draft AtShell (record x { finished = v.0; line = v.1 }))) (λ v e. keeps_ok Stepped _ h)
step_keeps AtShell x n line h = keeps_bind Stepped (shell_line n line) (λ v. Ok (draft AtFile (record x { mode = v.0; command = v.1 }))) (λ v e. keeps_ok Stepped _ h)
step_keeps AtFile x n line h = keeps_entry AtFile x n line h
step_keeps (AtStream k) x n line h = keeps_entry (AtStream k) x n line h
step_keeps (AtPipe k) x n line h = keeps_entry (AtPipe k) x n line h
step_keeps AtKey x n line h = keeps_entry AtKey x n line h
step_keeps (AtWord a) x n line h = keeps_entry (AtWord a) x n line h
step_keeps AtEnd x n line h = keeps_entry AtEnd x n line h

advance_keeps : (d e : Draft) (n : ℕ) (lines : List (List ℕ)) → Stepped d → advance d n lines ≡ Ok e → Stepped e
advance_keeps d e n [] h k = subst Stepped (Ok-same {E = Refusal} d e k) h
advance_keeps d e n (line ∷ lines) h k =
    let a = bind-ok (step d n line) (λ next. advance next (n + 1) lines) e k in
    advance_keeps a.0 e (n + 1) lines (step_keeps d.place d.image n line h a.0 a.1) a.2

-- ---- each draft goes on to a saved machine

-- lines that go on to one
abbrev GoesOn : Draft → ℕ → Type 0
GoesOn d n = (rest : List (List ℕ)) × (whole : Image) × (read_on d n rest ≡ Ok whole)

no_more : (x : Image) → is_step x.step ≡ true → is_step (x.step + 0) ≡ true
no_more x h = ap is_step (add-zero x.step) ∙ h

entry_goes : (p : Place) (x : Image) (n : ℕ) → (entry_step p x n (codes "GO 0") ≡ cond (is_step (x.step + 0)) (Ok (draft AtEnd (record x { go = 0 }))) (Err (refusal n 2))) → step (draft p x) n (codes "GO 0") ≡ entry_step p x n (codes "GO 0")
    → is_step x.step ≡ true → GoesOn (draft p x) n
entry_goes p x n go is h =
    let one : step (draft p x) n (codes "GO 0") ≡ Ok (draft AtEnd (record x { go = 0 })) = is ∙ go ∙ ap (λ (b : Bool). cond b (Ok (draft AtEnd (record x { go = 0 }))) (Err (refusal n 2))) (no_more x h) in
    (codes "GO 0" ∷ [], record x { go = 0 }, ap (λ (r : Result Draft Refusal). r >>= λ next. read_on next (n + 1) []) one)

line_goes : (d e : Draft) (n : ℕ) (line : List ℕ) → step d n line ≡ Ok e → GoesOn e (n + 1) → GoesOn d n
line_goes d e n line h g = (line ∷ g.0, g.1, ap (λ (r : Result Draft Refusal). r >>= λ next. read_on next (n + 1) g.0) h ∙ g.2)

file_goes : (x : Image) (n : ℕ) → is_step x.step ≡ true → GoesOn (draft AtFile x) n
unfolding step statement_of
file_goes x n h = entry_goes AtFile x n refl refl h

word_goes : (a : ℕ) (x : Image) (n : ℕ) → is_step x.step ≡ true → GoesOn (draft (AtWord a) x) n
unfolding step statement_of
word_goes a x n h = entry_goes (AtWord a) x n refl refl h

shell_goes : (x : Image) (n : ℕ) → is_step x.step ≡ true → GoesOn (draft AtShell x) n
unfolding step
shell_goes x n h = line_goes (draft AtShell x) _ n (codes "SHELL 0 0 :") refl (file_goes _ (n + 1) h)

console_goes : (x : Image) (n : ℕ) → is_step x.step ≡ true → GoesOn (draft AtConsole x) n
unfolding step
console_goes x n h = line_goes (draft AtConsole x) _ n (codes "CONSOLE 0 :") refl (shell_goes _ (n + 1) h)

ring_goes : (x : Image) (n : ℕ) → is_step x.step ≡ true → GoesOn (draft AtRing x) n
unfolding step
ring_goes x n h = line_goes (draft AtRing x) _ n (codes "RING :") refl (console_goes _ (n + 1) h)

behind_regs : (b : Bool) (x : Image) (n : ℕ) → is_step x.step ≡ true → GoesOn (draft (cond b (AtWord 0) AtRing) x) n
behind_regs true x n h = word_goes 0 x n h
behind_regs false x n h = ring_goes x n h

regs_goes : (x : Image) (n : ℕ) → is_step x.step ≡ true → GoesOn (draft AtRegs x) n
unfolding step
regs_goes x n h = line_goes (draft AtRegs x) _ n (codes "REGS 0 0 0 0 0 0") refl (behind_regs x.bare (record x { regs = record { a = 0; b = 0; c = 0; p = 0; g = 0; pc = 0 } }) (n + 1) h)

step_goes : (x : Image) (n : ℕ) → GoesOn (draft AtStep x) n
unfolding step
step_goes x n = line_goes (draft AtStep x) (draft AtRegs (record x { step = 0 })) n (codes "STEP 0") refl (regs_goes (record x { step = 0 }) (n + 1) refl)

machine_goes : (x : Image) (n : ℕ) → GoesOn (draft AtMachine x) n
unfolding step
machine_goes x n = line_goes (draft AtMachine x) (draft AtStep (record x { bare = true })) n (codes "BARE") refl (step_goes (record x { bare = true }) (n + 1))

store_goes : (x : Image) (n : ℕ) → GoesOn (draft AtStore x) n
unfolding step
store_goes x n =
    let next : Image = record x { store = replicate 1024 0 } in
    let is : step (draft AtStore x) n (codes "STORE 1024") ≡ Ok (draft AtMachine next) = ap (λ (b : Bool). cond b (Ok 1024) (Err (refusal n 2)) >>= λ v. Ok (draft AtMachine (record x { store = replicate v 0 }))) (least_store x.version) in
    line_goes (draft AtStore x) (draft AtMachine next) n (codes "STORE 1024") is (machine_goes next (n + 1))

version_goes : (x : Image) (n : ℕ) → GoesOn (draft AtVersion x) n
unfolding step
version_goes x n = line_goes (draft AtVersion x) (draft AtStore (record x { version = 1 })) n (codes "TRIPOS-IMAGE 1") refl (store_goes (record x { version = 1 }) (n + 1))

pub image_behind : (p : Place) (x : Image) (n : ℕ) → HasSteps p x → GoesOn (draft p x) n
unfolding step statement_of
image_behind AtVersion x n h = version_goes x n
image_behind AtStore x n h = store_goes x n
image_behind AtMachine x n h = machine_goes x n
image_behind AtStep x n h = step_goes x n
image_behind AtRegs x n h = regs_goes x n h
image_behind AtRing x n h = ring_goes x n h
image_behind AtConsole x n h = console_goes x n h
image_behind AtShell x n h = shell_goes x n h
image_behind AtFile x n h = file_goes x n h
image_behind (AtStream k) x n h = entry_goes (AtStream k) x n refl refl h
image_behind (AtPipe k) x n h = entry_goes (AtPipe k) x n refl refl h
image_behind AtKey x n h = entry_goes AtKey x n refl refl h
image_behind (AtWord a) x n h = word_goes a x n h
image_behind AtEnd x n h = ([], x, refl)

-- ---- lines with which the lines of some saved machine begin

abbrev pub BeginLines : List (List ℕ) → Type 0
BeginLines front = (x : Image) × (more : List (List ℕ)) × AreImageLines x (front ++ more)

-- they are accepted
pub advance-begin : (front : List (List ℕ)) → BeginLines front → (d : Draft) × (advance first_draft 1 front ≡ Ok d)
advance-begin front b =
    let a = advance-read first_draft 1 (front ++ b.1) b.0 (complete_lines (front ++ b.1) b.0 b.2) in
    advance-front first_draft a.0 1 front b.1 a.1

-- and accepted lines are such lines
pub begin_lines-advance : (front : List (List ℕ)) (d : Draft) → advance first_draft 1 front ≡ Ok d → BeginLines front
begin_lines-advance front d h =
    let b = image_behind d.place d.image (1 + length front) (advance_keeps first_draft d 1 front tt h) in
    let read = read_on-behind first_draft d 1 (1 + length front) front b.0 refl h ∙ b.2 in
    (b.1, b.0, sound_lines (front ++ b.0) b.1 read)
