-- What is read is the text of a saved machine.
use Rattle.std.proofs.Common.{◌≡◌, ◌∙◌, ℕ, zero, suc, ◌<◌, ◌≤◌, ◌+◌, ◌^◌, ◌==◌, Bool, true, false, not, ◌&&◌, cond, Some, Result, Ok, Err, List, [], ◌∷◌, ◌++◌, length, map, replicate, nat_lt, refl, sym, ap, subst, arith, append_assoc, append-nil}
use Rattle.std.specs.Prelude.{codes, decimal, IsTrue, slice_set}
use Rattle.std.specs.List.{AllByRecursion, flat_map}
use Rattle.std.specs.Option.{ok_or}
use Rattle.std.specs.Str.{bytes_eq}
use Rattle.std.proofs.lemmas.Bool.Decides.{nat_tests}
use Rattle.std.proofs.lemmas.Fmt.{decimal_digit}
use Rattle.std.proofs.lemmas.List.{length-replicate}
use Rattle.std.proofs.lemmas.Slice.Eq.{bytes_eq-Decides}
use Rattle.module_text.specs.TextReader.Fields.{IsNumberLine, number_line}
use Rattle.module_text.specs.TextReader.Lines.{lines_of}
use Rattle.module_text.specs.TextReader.Refusal.{Refusal, refusal}
use Rattle.module_text.specs.TextReader.Steps.{◌>>=◌}
use Rattle.module_text.proofs.TextReader.FieldLemmas.{number_line-ok}
use Rattle.module_text.proofs.TextReader.StepLemmas.{Ok-same, bind-ok, guard-ok, ok_or-ok}
use Rattle.kernel_model.specs.KernelRecord.Ranges.{IsVersion, is_period, is_store_size}
use Rattle.session_text.specs.Ranges.{is_step}
use Rattle.word_store.specs.declared.registers.Regs.{Regs}
use Rattle.saved_text.specs.SavedLines.Heads.{IsConsoleLine, IsRegsLine, IsRingLine, IsShellLine, are_regs, console_of, regs_line, ring_of, shell_of}
use Rattle.saved_text.specs.SavedLines.HexText.{bytes_of}
use Rattle.saved_text.specs.SavedLines.Statements.{Statement, File, Bytes, Stream, Pipe, Key, Word, Go, States, statement_of}
use Rattle.saved_text.proofs.SavedLines.HeadLines.{console_of-ok, regs_line-ok, ring_of-ok, shell_of-ok}
use Rattle.saved_text.proofs.SavedLines.StatementLines.{statement_of-ok}
use Rattle.saved_text.specs.ImageForm.{AreEntries, AreFiles, AreImageLines, AreKernelLines, ArePipes, AreRestLines, AreStated, AreStreams, IsImage, IsMachineLine, awaited, file_statements, flag, key_statement, mode_number, pipe_statement, statements_of, stream_statement, word_statements}
use Rattle.saved_text.specs.ImageOfText.{console_line, draft, ended, entry_step, first_draft, flag_of, go_step, image_of, image_of_lines, read_on, ring_line, shell_line, statement_step, step, tick_step, version_line}
use Rattle.saved_text.specs.Places.{has_go}
use Rattle.saved_text.specs.Ranges.{mode_of}
use Rattle.saved_text.specs.declared.drafts.Draft.{Draft}
use Rattle.saved_text.specs.declared.drafts.Place.{Place}
use Rattle.saved_text.specs.declared.drafts.Place.TheVariants.{Version as AtVersion, Store as AtStore, Machine as AtMachine, Step as AtStep, Regs as AtRegs, Ring as AtRing, Console as AtConsole, Shell as AtShell, File as AtFile, Stream as AtStream, Pipe as AtPipe, Key as AtKey, Word as AtWord, End as AtEnd}
use Rattle.saved_text.specs.declared.images.Image.{Image}
use Rattle.saved_text.specs.declared.images.Mode.{Mode}
use Rattle.saved_text.specs.declared.images.Mode.TheVariants.{Prompt, Reading, Waiting, Typing}
use Rattle.saved_text.specs.declared.images.SavedFile.{SavedFile}
use Rattle.saved_text.proofs.Acceptance.{IsAccepted, Later, bytes-accepted, file-accepted, head_of, key-accepted, none_from_streams, pipe-accepted, if_not-ok, stream-accepted, unless-ok, word-accepted}
use Rattle.saved_text.proofs.StatementLists.{Zeros, no_words}

-- ---- behind the head

-- the lines from here on are statements and the last line, and the machine has these behind those that it had
pub record HasRest (x : Image) (lines : List (List ℕ)) (whole : Image) : Type 0 where
  pub front : List Statement
  pub lines_are : AreStated (front ++ Go whole.go ∷ []) lines
  pub all : statements_of whole ≡ statements_of x ++ front
  pub entries : AreEntries whole
  pub head : head_of whole ≡ head_of x
  pub steps : is_step (whole.step + whole.go) ≡ true

-- such a place has a statement next
pub entry_place : (p : Place) (x : Image) (n : ℕ) (line : List ℕ) → Later p x → step (draft p x) n line ≡ entry_step p x n line
unfolding step
entry_place AtVersion x n line h = absurd h
entry_place AtStore x n line h = absurd h
entry_place AtMachine x n line h = absurd h
entry_place AtStep x n line h = absurd h
entry_place AtRegs x n line h = absurd h
entry_place AtRing x n line h = absurd h
entry_place AtConsole x n line h = absurd h
entry_place AtShell x n line h = absurd h
entry_place AtFile x n line h = refl
entry_place (AtStream k) x n line h = refl
entry_place (AtPipe k) x n line h = refl
entry_place AtKey x n line h = refl
entry_place (AtWord a) x n line h = refl
entry_place AtEnd x n line h = absurd h

-- and is no end
no_end : (p : Place) (x whole : Image) (n : ℕ) → Later p x → ended p x n ≡ Ok whole → ⊥
no_end AtVersion x whole n h e = h
no_end AtStore x whole n h e = h
no_end AtMachine x whole n h e = h
no_end AtStep x whole n h e = h
no_end AtRegs x whole n h e = h
no_end AtRing x whole n h e = h
no_end AtConsole x whole n h e = h
no_end AtShell x whole n h e = h
no_end AtFile x whole n h e = cc e
no_end (AtStream k) x whole n h e = cc e
no_end (AtPipe k) x whole n h e = cc e
no_end AtKey x whole n h e = cc e
no_end (AtWord a) x whole n h e = cc e
no_end AtEnd x whole n h e = h

-- nothing is accepted at the end
nothing_at_end : (x : Image) (n : ℕ) (s : Statement) (d : Draft) → statement_step AtEnd x n s ≡ Ok d → ⊥
nothing_at_end x n (File name) d e = cc e
nothing_at_end x n (Bytes bytes) d e = cc e
nothing_at_end x n (Stream k m position name) d e = cc e
nothing_at_end x n (Pipe k r w f name held) d e = cc e
nothing_at_end x n (Key step byte) d e = cc e
nothing_at_end x n (Word a w) d e = cc e
nothing_at_end x n (Go go) d e = cc e

pub ended_ok : (x whole : Image) (n : ℕ) (lines : List (List ℕ)) → read_on (draft AtEnd x) n lines ≡ Ok whole → (lines ≡ []) × (x ≡ whole)
unfolding step
ended_ok x whole n [] e = (refl, Ok-same {E = Refusal} x whole e)
ended_ok x whole n (line ∷ lines) e =
    let a = bind-ok (entry_step AtEnd x n line) (λ d. read_on d (n + 1) lines) whole e in
    let b = bind-ok (ok_or (statement_of line) (refusal n 1)) (statement_step AtEnd x n) a.0 a.1 in
    absurd (nothing_at_end x n b.0 a.0 b.2)

-- the last line
go_rest : (p : Place) (x whole : Image) (n : ℕ) (line : List ℕ) (lines : List (List ℕ)) (go : ℕ) (d : Draft) → AreEntries x → States (Go go) line → go_step p x n go ≡ Ok d
    → read_on d (n + 1) lines ≡ Ok whole → HasRest x (line ∷ lines) whole
go_rest p x whole n line lines go d h states e r =
    let new : Image = record x { go = go } in
    let a = unless-ok (has_go p) (refusal n 1) (cond (is_step (x.step + go)) (Ok (draft AtEnd new)) (Err (refusal n 2))) d e in
    let b = guard-ok (is_step (x.step + go)) (draft AtEnd new) d (refusal n 2) a.1 in
    let end = ended_ok new whole (n + 1) lines (subst (λ (m : Draft). read_on m (n + 1) lines ≡ Ok whole) (sym b.1) r) in
    subst (HasRest x (line ∷ lines)) end.1 (record {
      front = [];
      lines_are = subst (λ (ls : List (List ℕ)). AreStated (Go go ∷ []) (line ∷ ls)) (sym end.0) (states, tt);
      all = sym (append-nil (statements_of x));
      entries = record { files = h.files; streams = h.streams; pipes = h.pipes; keys = h.keys };
      head = refl;
      steps = b.0;
    })

-- a statement before the rest
rest_more : (x whole : Image) (line : List ℕ) (lines : List (List ℕ)) (s : Statement) (d : Draft) → IsAccepted x s d → States s line → HasRest d.image lines whole → HasRest x (line ∷ lines) whole
rest_more x whole line lines s d a states h = record {
  front = s ∷ h.front;
  lines_are = (states, h.lines_are);
  all = h.all ∙ ap (λ (ss : List Statement). ss ++ h.front) a.all ∙ append_assoc (statements_of x) (s ∷ []) h.front;
  entries = h.entries;
  head = h.head ∙ a.head;
  steps = h.steps;
}

module _ (whole : Image) (lines : List (List ℕ)) (n : ℕ) (next : (d : Draft) → Later d.place d.image → AreEntries d.image → read_on d (n + 1) lines ≡ Ok whole → HasRest d.image lines whole) where
  accepted_rest : (x : Image) (line : List ℕ) (s : Statement) (d : Draft) → IsAccepted x s d → States s line → read_on d (n + 1) lines ≡ Ok whole → HasRest x (line ∷ lines) whole
  accepted_rest x line s d a states r = rest_more x whole line lines s d a states (next d a.later a.entries r)

  statement_rest : (p : Place) (x : Image) (line : List ℕ) (s : Statement) (d : Draft) → Later p x → AreEntries x → States s line → statement_step p x n s ≡ Ok d
      → read_on d (n + 1) lines ≡ Ok whole → HasRest x (line ∷ lines) whole
  statement_rest p x line (File name) d l h states e r = accepted_rest x line (File name) d (file-accepted p x n name d l h e) states r
  statement_rest p x line (Bytes bytes) d l h states e r = accepted_rest x line (Bytes bytes) d (bytes-accepted p x n bytes d l h states.0 states.1 e) states r
  statement_rest p x line (Stream k m position name) d l h states e r = accepted_rest x line (Stream k m position name) d (stream-accepted p x n k m position name d l h e) states r
  statement_rest p x line (Pipe k a w f name held) d l h states e r = accepted_rest x line (Pipe k a w f name held) d (pipe-accepted p x n k a w f name held d l h e) states r
  statement_rest p x line (Key at byte) d l h states e r = accepted_rest x line (Key at byte) d (key-accepted p x n at byte d l h e) states r
  statement_rest p x line (Word a w) d l h states e r = accepted_rest x line (Word a w) d (word-accepted p x n a w d l h e) states r
  statement_rest p x line (Go go) d l h states e r = go_rest p x whole n line lines go d h states e r

pub rest_ok : (whole : Image) (lines : List (List ℕ)) (n : ℕ) (d : Draft) → Later d.place d.image → AreEntries d.image → read_on d n lines ≡ Ok whole → HasRest d.image lines whole
rest_ok whole [] n d l h e = absurd (no_end d.place d.image whole n l e)
rest_ok whole (line ∷ lines) n d l h e =
    let a = bind-ok (step d n line) (λ m. read_on m (n + 1) lines) whole e in
    let b = bind-ok (ok_or (statement_of line) (refusal n 1)) (statement_step d.place d.image n) a.0 (sym (entry_place d.place d.image n line l) ∙ a.1) in
    let states = statement_of-ok line b.0 (ok_or-ok (statement_of line) (refusal n 1) b.0 b.1) in
    statement_rest whole lines n (λ m. rest_ok whole lines (n + 1) m) d.place d.image line b.0 a.0 l h states b.2 a.2

-- ---- the head, line by line

-- a line that is accepted at a place that is no end
next_line : (d : Draft) (n : ℕ) (lines : List (List ℕ)) (whole : Image) → ended d.place d.image n ≡ Err (refusal n 3) → read_on d n lines ≡ Ok whole
    → (line : List ℕ) × (rest : List (List ℕ)) × (e : Draft) × (lines ≡ line ∷ rest) × (step d n line ≡ Ok e) × (read_on e (n + 1) rest ≡ Ok whole)
next_line d n [] whole stays e = cc (sym stays ∙ e)
next_line d n (line ∷ rest) whole stays e =
    let a = bind-ok (step d n line) (λ m. read_on m (n + 1) rest) whole e in
    (line, rest, a.0, refl, a.1, a.2)

-- a line that is this version's
version_is : (line : List ℕ) (n v : ℕ) → n < 10 → 1 ≤ n → n ≤ 2 → line ≡ codes "TRIPOS-IMAGE " ++ (48 + n) ∷ [] → n ≡ v → IsVersion v × (line ≡ codes "TRIPOS-IMAGE " ++ decimal v)
version_is line n v digit low high e same =
    subst (λ (x : ℕ). IsVersion x × (line ≡ codes "TRIPOS-IMAGE " ++ decimal x)) same ((low, high), e ∙ ap (λ (d : List ℕ). codes "TRIPOS-IMAGE " ++ d) (sym (decimal_digit n digit)))

version_by : (n : ℕ) (line : List ℕ) (v : ℕ) (one two : Bool) → bytes_eq line (codes "TRIPOS-IMAGE 1") ≡ one → bytes_eq line (codes "TRIPOS-IMAGE 2") ≡ two
    → cond one (Ok 1) (cond two (Ok 2) (Err (refusal n 1))) ≡ Ok v → IsVersion v × (line ≡ codes "TRIPOS-IMAGE " ++ decimal v)
version_by n line v true two e f g =
    version_is line 1 v (omega arith) (omega arith) (omega arith) ((bytes_eq-Decides line (codes "TRIPOS-IMAGE 1")).0 e) cc
version_by n line v false true e f g =
    version_is line 2 v (omega arith) (omega arith) (omega arith) ((bytes_eq-Decides line (codes "TRIPOS-IMAGE 2")).0 f) cc
version_by n line v false false e f g = cc

pub version_ok : (n : ℕ) (line : List ℕ) (v : ℕ) → version_line n line ≡ Ok v → IsVersion v × (line ≡ codes "TRIPOS-IMAGE " ++ decimal v)
version_ok n line v e = version_by n line v (bytes_eq line (codes "TRIPOS-IMAGE 1")) (bytes_eq line (codes "TRIPOS-IMAGE 2")) refl refl e

-- numbers that gave a flag or a mode
pub flag-ok : (d : ℕ) (b : Bool) → flag_of d ≡ Some b → d ≡ flag b
flag-ok d true e = grind (arith, nat_tests)
flag-ok d false e = grind (arith, nat_tests)

pub mode-ok : (m x : ℕ) (mode : Mode) → mode_of m x ≡ Some mode → (m ≡ mode_number mode) × (x ≡ awaited mode) × (awaited mode < 2 ^ 32)
mode-ok m x Prompt e = (grind (arith, nat_tests), grind (arith, nat_tests), omega arith)
mode-ok m x Reading e = (grind (arith, nat_tests), grind (arith, nat_tests), omega arith)
mode-ok m x (Waiting id) e = (grind (arith, nat_tests), grind (arith, nat_tests), grind (arith, nat_tests))
mode-ok m x Typing e = (grind (arith, nat_tests), grind (arith, nat_tests), omega arith)

zeros-replicate : (n : ℕ) → Zeros 0 (replicate n 0)
zeros-replicate zero i h = refl
zeros-replicate (suc n) zero h = refl
zeros-replicate (suc n) (suc i) h = zeros-replicate n i (omega arith)

-- ---- a bare machine has words alone

abbrev pub HasSameLists : Image → Image → Type 0
HasSameLists x y = (y.files ≡ x.files) × (y.streams ≡ x.streams) × (y.pipes ≡ x.pipes) × (y.keys ≡ x.keys)

module _ (whole : Image) (lines : List (List ℕ)) (n : ℕ) (next : (a : ℕ) (x : Image) → read_on (draft (AtWord a) x) (n + 1) lines ≡ Ok whole → HasSameLists x whole) where
  word_only : (a : ℕ) (x : Image) (s : Statement) (d : Draft) → statement_step (AtWord a) x n s ≡ Ok d → read_on d (n + 1) lines ≡ Ok whole → HasSameLists x whole
  word_only a x (File name) d e r = cc e
  word_only a x (Bytes bytes) d e r = cc e
  word_only a x (Stream k m position name) d e r = cc e
  word_only a x (Pipe k i w f name held) d e r = cc e
  word_only a x (Key step byte) d e r = cc e
  word_only a x (Word b w) d e r =
      let new : Draft = draft (AtWord (b + 1)) (record x { store = slice_set x.store b w }) in
      let test = nat_lt b (length x.store) && not (w == 0) in
      let c = if_not-ok (nat_lt b a) (refusal n 1) (cond test (Ok new) (Err (refusal n 2))) d e in
      let g = guard-ok test new d (refusal n 2) c.1 in
      next (b + 1) new.image (subst (λ (m : Draft). read_on m (n + 1) lines ≡ Ok whole) (sym g.1) r)
  word_only a x (Go go) d e r =
      let new : Image = record x { go = go } in
      let b = guard-ok (is_step (x.step + go)) (draft AtEnd new) d (refusal n 2) e in
      let end = ended_ok new whole (n + 1) lines (subst (λ (m : Draft). read_on m (n + 1) lines ≡ Ok whole) (sym b.1) r) in
      subst (HasSameLists x) end.1 (refl, refl, refl, refl)

words_alone : (whole : Image) (lines : List (List ℕ)) (n a : ℕ) (x : Image) → read_on (draft (AtWord a) x) n lines ≡ Ok whole → HasSameLists x whole
unfolding step
words_alone whole [] n a x e = cc e
words_alone whole (line ∷ lines) n a x e =
    let b = bind-ok (entry_step (AtWord a) x n line) (λ m. read_on m (n + 1) lines) whole e in
    let c = bind-ok (ok_or (statement_of line) (refusal n 1)) (statement_step (AtWord a) x n) b.0 b.1 in
    word_only whole lines n (words_alone whole lines (n + 1)) a x c.0 b.0 c.2 b.2

-- ---- the head

-- a line that gives a value, by which the draft goes on
take_line : {A : Type 0} (d : Draft) (n : ℕ) (lines : List (List ℕ)) (whole : Image) (r : List ℕ → Result A Refusal) (f : A → Draft) → ended d.place d.image n ≡ Err (refusal n 3)
    → ((line : List ℕ) → step d n line ≡ (r line >>= λ a. Ok (f a))) → read_on d n lines ≡ Ok whole
    → (line : List ℕ) × (rest : List (List ℕ)) × (a : A) × (lines ≡ line ∷ rest) × (r line ≡ Ok a) × (read_on (f a) (n + 1) rest ≡ Ok whole)
take_line d n lines whole r f stays is e =
    let a = next_line d n lines whole stays e in
    let b = bind-ok (r a.0) (λ x. Ok (f x)) a.2 (sym (is a.0) ∙ a.4) in
    let same : f b.0 ≡ a.2 = Ok-same {E = Refusal} (f b.0) a.2 b.2 in
    (a.0, a.1, b.0, a.3, b.1, subst (λ (m : Draft). read_on m (n + 1) a.1 ≡ Ok whole) (sym same) a.5)

-- an image with an empty store of this size, and nothing but its version
abbrev pub blank : ℕ → ℕ → Image
blank version size = record first_draft.image { version = version; store = replicate size 0 }

-- the lines from the third on
pub record HasMachine (version size : ℕ) (lines : List (List ℕ)) (whole : Image) : Type 0 where
  pub machine : List ℕ
  pub step : List ℕ
  pub regs : List ℕ
  pub rest : List (List ℕ)
  pub all : lines ≡ machine ∷ step ∷ regs ∷ rest
  pub version_is : whole.version ≡ version
  pub size_is : length whole.store ≡ size
  pub machine_line : IsMachineLine whole.bare whole machine
  pub step_line : IsNumberLine (codes "STEP ") whole.step step × IsTrue (is_step (whole.step + whole.go))
  pub regs_line : IsRegsLine whole.regs regs × IsTrue (are_regs whole.regs.a whole.regs.b whole.regs.c whole.regs.p whole.regs.g whole.regs.pc)
  pub rest_lines : AreRestLines whole.bare whole rest
  pub entries : AreEntries whole

bare_ok : (version size : ℕ) (lines : List (List ℕ)) (whole : Image) → read_on (draft AtStep (record (blank version size) { bare = true })) 4 lines ≡ Ok whole
    → (machine : List ℕ) → machine ≡ codes "BARE" → HasMachine version size (machine ∷ lines) whole
unfolding step
bare_ok version size lines whole e machine is =
    let x : Image = record (blank version size) { bare = true } in
    let s = take_line (draft AtStep x) 4 lines whole (number_line (codes "STEP ") is_step 4) (λ k. draft AtRegs (record x { step = k })) refl (λ line. refl) e in
    let x2 : Image = record x { step = s.2 } in
    let r = take_line (draft AtRegs x2) 5 s.1 whole (regs_line 5) (λ k. draft (AtWord 0) (record x2 { regs = k })) refl (λ line. refl) s.5 in
    let x3 : Image = record x2 { regs = r.2 } in
    let z = zeros-replicate size in
    let h = rest_ok whole r.1 6 (draft (AtWord 0) x3) z (record { files = tt; streams = tt; pipes = tt; keys = tt }) r.5 in
    let lists = words_alone whole r.1 6 0 x3 r.5 in
    let step_line = number_line-ok (codes "STEP ") is_step 4 s.0 s.2 s.4 in
    let regs = regs_line-ok 5 r.0 r.2 r.4 in
    let front : statements_of whole ≡ h.front = h.all ∙ ap (λ (ss : List Statement). ss ++ h.front) (no_words 0 (replicate size 0) z) in
    let bare : whole.bare ≡ true = λ i. (h.head i).bare in
    let step_is : whole.step ≡ s.2 = λ i. (h.head i).step in
    let regs_are : whole.regs ≡ r.2 = λ i. (h.head i).regs in
    record {
      machine = machine;
      step = s.0;
      regs = r.0;
      rest = r.1;
      all = ap (λ (ls : List (List ℕ)). machine ∷ ls) (s.3 ∙ ap (λ (ls : List (List ℕ)). s.0 ∷ ls) r.3);
      version_is = λ i. (h.head i).version;
      size_is = (λ i. (h.head i).size) ∙ length-replicate {A = ℕ} size 0;
      machine_line = subst (λ (b : Bool). IsMachineLine b whole machine) (sym bare) (
        is,
        record {
          period = λ i. (h.head i).period;
          ring = λ i. (h.head i).ring;
          finished = λ i. (h.head i).finished;
          line = λ i. (h.head i).line;
          mode = λ i. (h.head i).mode;
          command = λ i. (h.head i).command;
          files = lists.0;
          streams = lists.1;
          pipes = lists.2;
          keys = lists.3;
        },
      );
      step_line = (subst (λ (k : ℕ). IsNumberLine (codes "STEP ") k s.0) (sym step_is) step_line.0, h.steps);
      regs_line = subst (λ (k : Regs). IsRegsLine k r.0 × IsTrue (are_regs k.a k.b k.c k.p k.g k.pc)) (sym regs_are) regs;
      rest_lines = subst (λ (b : Bool). AreRestLines b whole r.1) (sym bare) (subst (λ (ss : List Statement). AreStated (ss ++ Go whole.go ∷ []) r.1) (sym front) h.lines_are);
      entries = h.entries;
    }

-- values that are there, one after the other, or the refusal
console_line-ok : (n : ℕ) (line : List ℕ) (x : Bool × List ℕ) → console_line n line ≡ Ok x → IsConsoleLine (flag x.0) x.1 line
console_line-ok n line x e =
    let a = bind-ok (ok_or (console_of line) (refusal n 1)) (λ c. ok_or (flag_of c.0) (refusal n 2) >>= λ b. Ok (b, bytes_of c.1)) x e in
    let b = bind-ok (ok_or (flag_of a.0.0) (refusal n 2)) (λ b. Ok (b, bytes_of a.0.1)) x a.2 in
    let is = console_of-ok line a.0 (ok_or-ok (console_of line) (refusal n 1) a.0 a.1) in
    let d = flag-ok a.0.0 b.0 (ok_or-ok (flag_of a.0.0) (refusal n 2) b.0 b.1) in
    let same : (b.0, bytes_of a.0.1) ≡ x = Ok-same {E = Refusal} _ x b.2 in
    subst (λ (y : Bool × List ℕ). IsConsoleLine (flag y.0) y.1 line) same (subst (λ (k : ℕ). IsConsoleLine k (bytes_of a.0.1) line) d is)

shell_line-ok : (n : ℕ) (line : List ℕ) (x : Mode × List ℕ) → shell_line n line ≡ Ok x → IsShellLine (mode_number x.0) (awaited x.0) x.1 line × (awaited x.0 < 2 ^ 32)
shell_line-ok n line x e =
    let a = bind-ok (ok_or (shell_of line) (refusal n 1)) (λ c. ok_or (mode_of c.0 c.1) (refusal n 2) >>= λ m. Ok (m, bytes_of c.2)) x e in
    let b = bind-ok (ok_or (mode_of a.0.0 a.0.1) (refusal n 2)) (λ m. Ok (m, bytes_of a.0.2)) x a.2 in
    let is = shell_of-ok line a.0 (ok_or-ok (shell_of line) (refusal n 1) a.0 a.1) in
    let m = mode-ok a.0.0 a.0.1 b.0 (ok_or-ok (mode_of a.0.0 a.0.1) (refusal n 2) b.0 b.1) in
    let same : (b.0, bytes_of a.0.2) ≡ x = Ok-same {E = Refusal} _ x b.2 in
    subst (λ (y : Mode × List ℕ). IsShellLine (mode_number y.0) (awaited y.0) y.1 line × (awaited y.0 < 2 ^ 32)) same
    (subst (λ (k : ℕ). IsShellLine k (awaited b.0) (bytes_of a.0.2) line) m.0 (subst (λ (k : ℕ). IsShellLine a.0.0 k (bytes_of a.0.2) line) m.1 is), m.2)

ring_line-ok : (n : ℕ) (line bytes : List ℕ) → ring_line n line ≡ Ok bytes → IsRingLine bytes line
ring_line-ok n line bytes e =
    let a = bind-ok (ok_or (ring_of line) (refusal n 1)) (λ digits. Ok (bytes_of digits)) bytes e in
    let is = ring_of-ok line a.0 (ok_or-ok (ring_of line) (refusal n 1) a.0 a.1) in
    let same : bytes_of a.0 ≡ bytes = Ok-same {E = Refusal} _ bytes a.2 in
    subst (λ (b : List ℕ). IsRingLine b line) same is

-- nothing was read behind the head
abbrev IsBlank : Image → Type 0
IsBlank x = (x.files ≡ []) × (x.streams ≡ []) × (x.pipes ≡ []) × (x.keys ≡ []) × Zeros 0 x.store

no_entries : (x : Image) → IsBlank x → AreEntries x
no_entries x b = record {
  files = subst AreFiles (sym b.0) tt;
  streams = subst (AreStreams 0) (sym b.1) tt;
  pipes = subst (ArePipes 0) (sym b.2) tt;
  keys = subst (AllByRecursion (λ key. IsTrue (is_step key.0))) (sym b.3) tt;
}

no_statements : (x : Image) → IsBlank x → statements_of x ≡ []
no_statements x b =
    ap (λ (fs : List SavedFile). flat_map file_statements fs ++ (map stream_statement x.streams ++ (map pipe_statement x.pipes ++ (map key_statement x.keys ++ word_statements 0 x.store)))) b.0
    ∙ none_from_streams x b.1 b.2 b.3 b.4

-- what the lines down to the registers said is there
abbrev HasFront : Image → Image → Type 0
HasFront x y = (y.version ≡ x.version) × (y.bare ≡ x.bare) × (length y.store ≡ length x.store) × (y.period ≡ x.period) × (y.step ≡ x.step) × (y.regs ≡ x.regs)

record HasShell (x : Image) (lines : List (List ℕ)) (whole : Image) : Type 0 where
  shell : List ℕ
  entries : List (List ℕ)
  all : lines ≡ shell ∷ entries
  shell_line : IsShellLine (mode_number whole.mode) (awaited whole.mode) whole.command shell
  waits : awaited whole.mode < 2 ^ 32
  entry_lines : AreStated (statements_of whole ++ Go whole.go ∷ []) entries
  lists : AreEntries whole
  steps : is_step (whole.step + whole.go) ≡ true
  front : HasFront x whole
  ring : whole.ring ≡ x.ring
  finished : whole.finished ≡ x.finished
  line : whole.line ≡ x.line

-- the lines behind the shell's
shell_by : (x whole : Image) (lines : List (List ℕ)) (line : List ℕ) (mode : Mode) (command : List ℕ) → IsBlank x → IsShellLine (mode_number mode) (awaited mode) command line → awaited mode < 2 ^ 32
    → read_on (draft AtFile (record x { mode = mode; command = command })) 9 lines ≡ Ok whole → HasShell x (line ∷ lines) whole
shell_by x whole lines line mode command b is waits e =
    let new : Image = record x { mode = mode; command = command } in
    let h = rest_ok whole lines 9 (draft AtFile new) (b.1, b.2, b.3, b.4) (no_entries new b) e in
    let front : statements_of whole ≡ h.front = h.all ∙ ap (λ (ss : List Statement). ss ++ h.front) (no_statements new b) in
    let mode_is : whole.mode ≡ mode = λ i. (h.head i).mode in
    let command_is : whole.command ≡ command = λ i. (h.head i).command in
    record {
      shell = line;
      entries = lines;
      all = refl;
      shell_line = subst (λ (k : Mode). IsShellLine (mode_number k) (awaited k) whole.command line) (sym mode_is) (subst (λ (l : List ℕ). IsShellLine (mode_number mode) (awaited mode) l line) (sym command_is) is);
      waits = subst (λ (k : Mode). awaited k < 2 ^ 32) (sym mode_is) waits;
      entry_lines = subst (λ (ss : List Statement). AreStated (ss ++ Go whole.go ∷ []) lines) (sym front) h.lines_are;
      lists = h.entries;
      steps = h.steps;
      front = (λ i. (h.head i).version, λ i. (h.head i).bare, λ i. (h.head i).size, λ i. (h.head i).period, λ i. (h.head i).step, λ i. (h.head i).regs);
      ring = λ i. (h.head i).ring;
      finished = λ i. (h.head i).finished;
      line = λ i. (h.head i).line;
    }

shell_ok : (x whole : Image) (lines : List (List ℕ)) → IsBlank x → read_on (draft AtShell x) 8 lines ≡ Ok whole → HasShell x lines whole
unfolding step
shell_ok x whole lines b e =
    let m = take_line (draft AtShell x) 8 lines whole (shell_line 8) (λ k. draft AtFile (record x { mode = k.0; command = k.1 })) refl (λ line. refl) e in
    let is = shell_line-ok 8 m.0 m.2 m.4 in
    subst (λ (ls : List (List ℕ)). HasShell x ls whole) (sym m.3) (shell_by x whole m.1 m.0 m.2.0 m.2.1 b is.0 is.1 m.5)

record HasKernel (x : Image) (lines : List (List ℕ)) (whole : Image) : Type 0 where
  lines_are : AreKernelLines whole lines
  lists : AreEntries whole
  steps : is_step (whole.step + whole.go) ≡ true
  front : HasFront x whole

kernel_by : (x whole : Image) (ring console : List ℕ) (rest : List (List ℕ)) (bytes line : List ℕ) (finished : Bool) → IsRingLine bytes ring → IsConsoleLine (flag finished) line console
    → HasShell (record x { ring = bytes; finished = finished; line = line }) rest whole → HasKernel x (ring ∷ console ∷ rest) whole
kernel_by x whole ring console rest bytes line finished r c h = record {
  lines_are = record {
    ring = ring;
    console = console;
    shell = h.shell;
    entries = h.entries;
    all = ap (λ (ls : List (List ℕ)). ring ∷ console ∷ ls) h.all;
    ring_line = subst (λ (b : List ℕ). IsRingLine b ring) (sym h.ring) r;
    console_line = subst (λ (b : Bool). IsConsoleLine (flag b) whole.line console) (sym h.finished) (subst (λ (l : List ℕ). IsConsoleLine (flag finished) l console) (sym h.line) c);
    shell_line = h.shell_line;
    waits = h.waits;
    entry_lines = h.entry_lines;
  };
  lists = h.lists;
  steps = h.steps;
  front = h.front;
}

kernel_ok : (x whole : Image) (lines : List (List ℕ)) → IsBlank x → read_on (draft AtRing x) 6 lines ≡ Ok whole → HasKernel x lines whole
unfolding step
kernel_ok x whole lines b e =
    let g = take_line (draft AtRing x) 6 lines whole (ring_line 6) (λ k. draft AtConsole (record x { ring = k })) refl (λ line. refl) e in
    let c = take_line (draft AtConsole (record x { ring = g.2 })) 7 g.1 whole (console_line 7) (λ k. draft AtShell (record x { ring = g.2; finished = k.0; line = k.1 })) refl (λ line. refl) g.5 in
    let all : lines ≡ g.0 ∷ c.0 ∷ c.1 = g.3 ∙ ap (λ (ls : List (List ℕ)). g.0 ∷ ls) c.3 in
    subst (λ (ls : List (List ℕ)). HasKernel x ls whole) (sym all)
    (kernel_by x whole g.0 c.0 c.1 g.2 c.2.1 c.2.0 (ring_line-ok 6 g.0 g.2 g.4) (console_line-ok 7 c.0 c.2 c.4) (shell_ok (record x { ring = g.2; finished = c.2.0; line = c.2.1 }) whole c.1 b c.5))

clock_by : (version size period taken : ℕ) (r : Regs) (whole : Image) (machine s regs : List ℕ) (rest : List (List ℕ)) → IsNumberLine (codes "TICK ") period machine × IsTrue (is_period period)
    → IsNumberLine (codes "STEP ") taken s → IsRegsLine r regs × IsTrue (are_regs r.a r.b r.c r.p r.g r.pc) → HasKernel (record (blank version size) { period = period; step = taken; regs = r }) rest whole
    → HasMachine version size (machine ∷ s ∷ regs ∷ rest) whole
clock_by version size period taken r whole machine s regs rest is step_line regs_are h =
    let bare : whole.bare ≡ false = h.front.1 in
    record {
      machine = machine;
      step = s;
      regs = regs;
      rest = rest;
      all = refl;
      version_is = h.front.0;
      size_is = h.front.2 ∙ length-replicate {A = ℕ} size 0;
      machine_line = subst (λ (b : Bool). IsMachineLine b whole machine) (sym bare) (subst (λ (p : ℕ). IsNumberLine (codes "TICK ") p machine × IsTrue (is_period p)) (sym h.front.3) is);
      step_line = (subst (λ (k : ℕ). IsNumberLine (codes "STEP ") k s) (sym h.front.4) step_line, h.steps);
      regs_line = subst (λ (k : Regs). IsRegsLine k regs × IsTrue (are_regs k.a k.b k.c k.p k.g k.pc)) (sym h.front.5) regs_are;
      rest_lines = subst (λ (b : Bool). AreRestLines b whole rest) (sym bare) h.lines_are;
      entries = h.lists;
    }

clock_ok : (version size period : ℕ) (lines : List (List ℕ)) (whole : Image) → read_on (draft AtStep (record (blank version size) { period = period })) 4 lines ≡ Ok whole
    → (machine : List ℕ) → IsNumberLine (codes "TICK ") period machine × IsTrue (is_period period) → HasMachine version size (machine ∷ lines) whole
unfolding step
clock_ok version size period lines whole e machine is =
    let x : Image = record (blank version size) { period = period } in
    let s = take_line (draft AtStep x) 4 lines whole (number_line (codes "STEP ") is_step 4) (λ k. draft AtRegs (record x { step = k })) refl (λ line. refl) e in
    let x2 : Image = record x { step = s.2 } in
    let r = take_line (draft AtRegs x2) 5 s.1 whole (regs_line 5) (λ k. draft AtRing (record x2 { regs = k })) refl (λ line. refl) s.5 in
    let h = kernel_ok (record x2 { regs = r.2 }) whole r.1 (refl, refl, refl, refl, zeros-replicate size) r.5 in
    let all : machine ∷ lines ≡ machine ∷ s.0 ∷ r.0 ∷ r.1 = ap (λ (ls : List (List ℕ)). machine ∷ ls) (s.3 ∙ ap (λ (ls : List (List ℕ)). s.0 ∷ ls) r.3) in
    subst (λ (ls : List (List ℕ)). HasMachine version size ls whole) (sym all)
    (clock_by version size period s.2 r.2 whole machine s.0 r.0 r.1 is (number_line-ok (codes "STEP ") is_step 4 s.0 s.2 s.4).0 (regs_line-ok 5 r.0 r.2 r.4) h)

machine_by : (version size : ℕ) (line : List ℕ) (lines : List (List ℕ)) (whole : Image) (d : Draft) (b : Bool) → bytes_eq line (codes "BARE") ≡ b
    → cond b (Ok (draft AtStep (record (blank version size) { bare = true }))) (tick_step (blank version size) 3 line) ≡ Ok d → read_on d 4 lines ≡ Ok whole → HasMachine version size (line ∷ lines) whole
machine_by version size line lines whole d true t e r =
    let same : draft AtStep (record (blank version size) { bare = true }) ≡ d = Ok-same {E = Refusal} _ d e in
    bare_ok version size lines whole (subst (λ (m : Draft). read_on m 4 lines ≡ Ok whole) (sym same) r) line ((bytes_eq-Decides line (codes "BARE")).0 t)
machine_by version size line lines whole d false t e r =
    let a = bind-ok (number_line (codes "TICK ") is_period 3 line) (λ p. Ok (draft AtStep (record (blank version size) { period = p }))) d e in
    let same : draft AtStep (record (blank version size) { period = a.0 }) ≡ d = Ok-same {E = Refusal} _ d a.2 in
    clock_ok version size a.0 lines whole (subst (λ (m : Draft). read_on m 4 lines ≡ Ok whole) (sym same) r) line (number_line-ok (codes "TICK ") is_period 3 line a.0 a.1)

pub sound_lines : (lines : List (List ℕ)) (whole : Image) → image_of_lines lines ≡ Ok whole → AreImageLines whole lines
unfolding step
sound_lines lines whole e =
    let v = take_line first_draft 1 lines whole (version_line 1) (λ k. draft AtStore (record first_draft.image { version = k })) refl (λ line. refl) e in
    let x : Image = record first_draft.image { version = v.2 } in
    let w = take_line (draft AtStore x) 2 v.1 whole (number_line (codes "STORE ") (is_store_size v.2) 2) (λ k. draft AtMachine (record x { store = replicate k 0 })) refl (λ line. refl) v.5 in
    let n = next_line (draft AtMachine (blank v.2 w.2)) 3 w.1 whole refl w.5 in
    let m = machine_by v.2 w.2 n.0 n.1 whole n.2 (bytes_eq n.0 (codes "BARE")) refl n.4 n.5 in
    let version = version_ok 1 v.0 v.2 v.4 in
    let store = number_line-ok (codes "STORE ") (is_store_size v.2) 2 w.0 w.2 w.4 in
    record {
      version = v.0;
      store = w.0;
      machine = m.machine;
      step = m.step;
      regs = m.regs;
      rest = m.rest;
      all = v.3 ∙ ap (λ (ls : List (List ℕ)). v.0 ∷ ls) (w.3 ∙ ap (λ (ls : List (List ℕ)). w.0 ∷ ls) (n.3 ∙ m.all));
      version_line = subst (λ (k : ℕ). IsVersion k × (v.0 ≡ codes "TRIPOS-IMAGE " ++ decimal k)) (sym m.version_is) version;
      store_line = (
        subst (λ (k : ℕ). IsNumberLine (codes "STORE ") k w.0) (sym m.size_is) store.0,
        subst (λ (k : ℕ). IsTrue (is_store_size k (length whole.store))) (sym m.version_is) (subst (λ (k : ℕ). IsTrue (is_store_size v.2 k)) (sym m.size_is) store.1),
      );
      machine_line = m.machine_line;
      step_line = m.step_line;
      regs_line = m.regs_line;
      rest_lines = m.rest_lines;
      entries = m.entries;
    }

pub sound : (text : List ℕ) (x : Image) → image_of text ≡ Ok x → IsImage text x
sound text x e = sound_lines (lines_of text) x e
