-- The whole text of a saved machine is read as it.
use Rattle.std.proofs.Common.{◌≡◌, ◌∙◌, ℕ, zero, suc, ◌<◌, ◌+◌, ◌^◌, Bool, true, false, cond, Option, Some, Result, Ok, List, [], ◌∷◌, ◌++◌, length, map, replicate, nat_lt, refl, sym, ap, subst, arith}
use Rattle.std.specs.Prelude.{codes, decimal, IsTrue}
use Rattle.std.specs.List.{flat_map}
use Rattle.std.specs.Option.{ok_or}
use Rattle.std.specs.Str.{bytes_eq}
use Rattle.std.proofs.lemmas.Bool.Decides.{nat_tests}
use Rattle.std.proofs.lemmas.Fmt.{decimal_digit}
use Rattle.std.proofs.lemmas.Slice.Eq.{bytes_eq-Decides}
use Rattle.hex.specs.Hex.{encode_lower}
use Rattle.module_text.specs.TextReader.Fields.{IsNumberLine}
use Rattle.module_text.specs.TextReader.Lines.{lines_of}
use Rattle.module_text.specs.TextReader.Refusal.{Refusal, refusal}
use Rattle.module_text.specs.TextReader.Steps.{◌>>=◌}
use Rattle.module_text.proofs.TextReader.FieldLemmas.{number_line-again}
use Rattle.kernel_model.specs.KernelRecord.Ranges.{IsVersion, is_period, is_store_size}
use Rattle.session_text.specs.Ranges.{is_step}
use Rattle.saved_text.specs.SavedLines.Heads.{IsConsoleLine, IsRingLine, IsShellLine, regs_line}
use Rattle.saved_text.specs.SavedLines.HexText.{bytes_of}
use Rattle.saved_text.specs.SavedLines.Statements.{Statement, Go, States}
use Rattle.saved_text.proofs.SavedLines.HeadLines.{console_of-again, regs_line-again, ring_of-again, shell_of-again}
use Rattle.saved_text.proofs.SavedLines.HexTexts.{is_hex-encode}
use Rattle.saved_text.specs.ImageForm.{AreEntries, AreImageLines, AreKernelLines, AreRestLines, AreStated, IsBare, IsImage, IsMachineLine, awaited, file_statements, flag, key_statement, mode_number, pipe_statement, statements_of, stream_statement, word_statements}
use Rattle.saved_text.specs.ImageOfText.{console_line, draft, first_draft, flag_of, image_of, image_of_lines, read_on, ring_line, shell_line, step, tick_step, version_line}
use Rattle.saved_text.specs.Places.{has_go}
use Rattle.saved_text.specs.Ranges.{mode_of}
use Rattle.saved_text.specs.declared.drafts.Draft.{Draft}
use Rattle.saved_text.specs.declared.drafts.Place.{Place}
use Rattle.saved_text.specs.declared.drafts.Place.TheVariants.{Store as AtStore, Machine as AtMachine, Step as AtStep, Regs as AtRegs, Ring as AtRing, Console as AtConsole, Shell as AtShell, File as AtFile, Word as AtWord, End as AtEnd}
use Rattle.saved_text.specs.declared.images.Image.{Image}
use Rattle.saved_text.specs.declared.images.Mode.{Mode}
use Rattle.saved_text.specs.declared.images.Mode.TheVariants.{Prompt, Reading, Waiting, Typing}
use Rattle.saved_text.proofs.Complete.{Leads, entry_again, files_lead, keys_lead, leads-append, leads-read, pipes_lead, streams_lead, words_lead}

-- ---- behind the head

-- the head alone, with zeros for words
abbrev pub head_alone : Image → Image
head_alone x = record x { store = replicate (length x.store) 0; files = []; streams = []; pipes = []; keys = []; go = 0 }

-- all statements lead to the machine, but for its last line
lists_lead : (x : Image) → AreEntries x → (q : Place) × (has_go q ≡ true) × Leads AtFile (head_alone x) (statements_of x) (draft q (record x { go = 0 }))
lists_lead x h =
    let x0 = head_alone x in
    let x1 : Image = record x0 { files = x.files } in
    let x2 : Image = record x1 { streams = x.streams } in
    let x3 : Image = record x2 { pipes = x.pipes } in
    let x4 : Image = record x3 { keys = x.keys } in
    let x5 : Image = record x { go = 0 } in
    let fs = flat_map file_statements x.files in
    let ts = map stream_statement x.streams in
    let ps = map pipe_statement x.pipes in
    let ks = map key_statement x.keys in
    let ws = word_statements 0 x.store in
    let f = files_lead x0 [] x.files h.files in
    let s = streams_lead x1 AtFile 0 [] x.streams (refl, refl, refl, refl, refl) h.streams in
    let p = pipes_lead x2 s.0 0 [] x.pipes (s.2.1, s.2.2, s.2.3, s.2.4) h.pipes in
    let k = keys_lead x3 p.0 [] x.keys (p.2.1, p.2.2, p.2.3) h.keys in
    let w = words_lead x4 k.0 0 0 [] x.store k.1.1 k.1.2 (omega arith) refl in
    let d3 = leads-append p.0 x3 ks ws (draft k.0 x4) (draft w.0 x5) k.2 w.2 in
    let d2 = leads-append s.0 x2 ps (ks ++ ws) (draft p.0 x3) (draft w.0 x5) p.3 d3 in
    let d1 = leads-append AtFile x1 ts (ps ++ (ks ++ ws)) (draft s.0 x2) (draft w.0 x5) s.3 d2 in
    (w.0, w.1, leads-append AtFile x0 fs (ts ++ (ps ++ (ks ++ ws))) (draft AtFile x1) (draft w.0 x5) f d1)

-- the words of a bare machine lead to it
bare_lead : (x : Image) → IsBare x → (q : Place) × (has_go q ≡ true) × Leads (AtWord 0) (head_alone x) (statements_of x) (draft q (record x { go = 0 }))
bare_lead x b =
    let w = words_lead (head_alone x) (AtWord 0) 0 0 [] x.store refl refl (omega arith) refl in
    let x5 : Image = record x { go = 0 } in
    let same : record (head_alone x) { store = x.store } ≡ x5 = λ i. record x5 { files = sym b.files i; streams = sym b.streams i; pipes = sym b.pipes i; keys = sym b.keys i } in
    let words : word_statements 0 x.store ≡ statements_of x
    = λ i. flat_map file_statements (sym b.files i) ++ (map stream_statement (sym b.streams i) ++ (map pipe_statement (sym b.pipes i) ++ (map key_statement (sym b.keys i) ++ word_statements 0 x.store))) in
    (w.0, w.1, subst (λ (ss : List Statement). Leads (AtWord 0) (head_alone x) ss (draft w.0 x5)) words (subst (λ (y : Image). Leads (AtWord 0) (head_alone x) (word_statements 0 x.store) (draft w.0 y)) same w.2))

-- the last of the lines states the last statement
last_stated : (ss : List Statement) (s : Statement) (lines : List (List ℕ)) → AreStated (ss ++ s ∷ []) lines → (front : List (List ℕ)) × (line : List ℕ) × (lines ≡ front ++ line ∷ []) × AreStated ss front × States s line
last_stated [] s [] h = absurd h
last_stated [] s (line ∷ []) h = ([], line, refl, tt, h.0)
last_stated [] s (line ∷ next ∷ lines) h = absurd h.1
last_stated (t ∷ ss) s [] h = absurd h
last_stated (t ∷ ss) s (line ∷ lines) h =
    let more = last_stated ss s lines h.1 in
    (line ∷ more.0, more.1, ap (λ (ls : List (List ℕ)). line ∷ ls) more.2, (h.0, more.3), more.4)

-- the lines behind the head
entries_read : (p : Place) (x : Image) (n : ℕ) (lines : List (List ℕ)) (q : Place) → has_go q ≡ true → Leads p (head_alone x) (statements_of x) (draft q (record x { go = 0 })) → is_step (x.step + x.go) ≡ true
    → AreStated (statements_of x ++ Go x.go ∷ []) lines → read_on (draft p (head_alone x)) n lines ≡ Ok x
entries_read p x n lines q g h steps a =
    let s = last_stated (statements_of x) (Go x.go) lines a in
    let r = leads-read (statements_of x) s.0 (s.1 ∷ []) p (head_alone x) n (draft q (record x { go = 0 })) h s.3 in
    let last : step (draft q (record x { go = 0 })) r.0 s.1 ≡ Ok (draft AtEnd x) = entry_again q (record x { go = 0 }) r.0 s.1 (Go x.go) g s.4 ∙ rw (g, steps) refl in
    ap (read_on (draft p (head_alone x)) n) s.2 ∙ r.1 ∙ ap (λ (e : Result Draft Refusal). e >>= λ next. read_on next (r.0 + 1) []) last

-- ---- the head

goes_on : (d e : Draft) (n : ℕ) (line : List ℕ) (lines : List (List ℕ)) → step d n line ≡ Ok e → read_on d n (line ∷ lines) ≡ read_on e (n + 1) lines
goes_on d e n line lines h = ap (λ (r : Result Draft Refusal). r >>= λ next. read_on next (n + 1) lines) h

version_by : (n : ℕ) (line : List ℕ) (v : ℕ) → IsVersion v → line ≡ codes "TRIPOS-IMAGE " ++ decimal v → version_line n line ≡ Ok v
version_by n line zero h e = absurd (omega (arith, h.0))
version_by n line (suc zero) h e = rw (e, decimal_digit 1 (omega arith)) refl
version_by n line (suc (suc zero)) h e = rw (e, decimal_digit 2 (omega arith)) refl
version_by n line (suc (suc (suc v))) h e = absurd (omega (arith, h.1))

flag_again : (b : Bool) → flag_of (flag b) ≡ Some b
flag_again true = refl
flag_again false = refl

mode_again : (m : Mode) → awaited m < 2 ^ 32 → mode_of (mode_number m) (awaited m) ≡ Some m
mode_again Prompt h = refl
mode_again Reading h = refl
mode_again (Waiting id) h = let lt : nat_lt id (2 ^ 32) ≡ true = grind (arith, nat_tests) in rw lt refl
mode_again Typing h = refl

ring_again : (n : ℕ) (line bytes : List ℕ) → IsRingLine bytes line → ring_line n line ≡ Ok bytes
ring_again n line bytes h =
    ap (λ (o : Option (List ℕ)). ok_or o (refusal n 1) >>= λ digits. Ok (bytes_of digits)) (ring_of-again line bytes h) ∙ ap Ok (is_hex-encode bytes h.0).1

console_again : (n : ℕ) (line : List ℕ) (b : Bool) (bytes : List ℕ) → IsConsoleLine (flag b) bytes line → console_line n line ≡ Ok (b, bytes)
console_again n line b bytes h =
    ap (λ (o : Option (ℕ × List ℕ)). ok_or o (refusal n 1) >>= λ c. ok_or (flag_of c.0) (refusal n 2) >>= λ f. Ok (f, bytes_of c.1)) (console_of-again line (flag b) bytes h)
    ∙ ap (λ (o : Option Bool). ok_or o (refusal n 2) >>= λ f. Ok (f, bytes_of (encode_lower bytes))) (flag_again b) ∙ ap (λ (l : List ℕ). Ok (b, l)) (is_hex-encode bytes h.2).1

shell_again : (n : ℕ) (line : List ℕ) (m : Mode) (bytes : List ℕ) → IsShellLine (mode_number m) (awaited m) bytes line → awaited m < 2 ^ 32 → shell_line n line ≡ Ok (m, bytes)
shell_again n line m bytes h lt =
    ap (λ (o : Option (ℕ × ℕ × List ℕ)). ok_or o (refusal n 1) >>= λ c. ok_or (mode_of c.0 c.1) (refusal n 2) >>= λ k. Ok (k, bytes_of c.2)) (shell_of-again line (mode_number m) (awaited m) bytes h)
    ∙ ap (λ (o : Option Mode). ok_or o (refusal n 2) >>= λ k. Ok (k, bytes_of (encode_lower bytes))) (mode_again m lt) ∙ ap (λ (l : List ℕ). Ok (m, l)) (is_hex-encode bytes h.4).1

module _ (x : Image) where
  -- the machine after its first lines
  abbrev after_store : Image
  after_store = record first_draft.image { version = x.version; store = replicate (length x.store) 0 }

  abbrev after_regs : Bool → ℕ → Image
  after_regs bare period = record after_store { bare = bare; period = period; step = x.step; regs = x.regs }

  kernel_read : (lines : List (List ℕ)) → x.bare ≡ false → AreKernelLines x lines → AreEntries x → is_step (x.step + x.go) ≡ true → read_on (draft AtRing (after_regs false x.period)) 6 lines ≡ Ok x
  unfolding step
  kernel_read lines bare k h steps =
      let x5 = after_regs false x.period in
      let x6 : Image = record x5 { ring = x.ring } in
      let x7 : Image = record x6 { finished = x.finished; line = x.line } in
      let x8 : Image = record x7 { mode = x.mode; command = x.command } in
      let ring : step (draft AtRing x5) 6 k.ring ≡ Ok (draft AtConsole x6) = ap (λ (r : Result (List ℕ) Refusal). r >>= λ b. Ok (draft AtConsole (record x5 { ring = b }))) (ring_again 6 k.ring x.ring k.ring_line) in
      let console : step (draft AtConsole x6) 7 k.console ≡ Ok (draft AtShell x7)
      = ap (λ (r : Result (Bool × List ℕ) Refusal). r >>= λ c. Ok (draft AtShell (record x6 { finished = c.0; line = c.1 }))) (console_again 7 k.console x.finished x.line k.console_line) in
      let shell : step (draft AtShell x7) 8 k.shell ≡ Ok (draft AtFile x8)
      = ap (λ (r : Result (Mode × List ℕ) Refusal). r >>= λ c. Ok (draft AtFile (record x7 { mode = c.0; command = c.1 }))) (shell_again 8 k.shell x.mode x.command k.shell_line k.waits) in
      let same : x8 ≡ head_alone x = λ i. record (head_alone x) { bare = sym bare i } in
      let l = lists_lead x h in
      ap (read_on (draft AtRing x5) 6) k.all
      ∙ goes_on (draft AtRing x5) (draft AtConsole x6) 6 k.ring (k.console ∷ k.shell ∷ k.entries) ring
      ∙ goes_on (draft AtConsole x6) (draft AtShell x7) 7 k.console (k.shell ∷ k.entries) console
      ∙ goes_on (draft AtShell x7) (draft AtFile x8) 8 k.shell k.entries shell
      ∙ ap (λ (y : Image). read_on (draft AtFile y) 9 k.entries) same
      ∙ entries_read AtFile x 9 k.entries l.0 l.1 l.2 steps k.entry_lines

  bare_read : (lines : List (List ℕ)) → x.bare ≡ true → IsBare x → AreStated (statements_of x ++ Go x.go ∷ []) lines → is_step (x.step + x.go) ≡ true → read_on (draft (AtWord 0) (after_regs true 0)) 6 lines ≡ Ok x
  bare_read lines bare b a steps =
      let same : after_regs true 0 ≡ head_alone x = λ i. record (head_alone x) {
        bare = sym bare i;
        period = sym b.period i;
        ring = sym b.ring i;
        finished = sym b.finished i;
        line = sym b.line i;
        mode = sym b.mode i;
        command = sym b.command i;
      } in
      let l = bare_lead x b in
      ap (λ (y : Image). read_on (draft (AtWord 0) y) 6 lines) same ∙ entries_read (AtWord 0) x 6 lines l.0 l.1 l.2 steps a

  -- the steps taken are a number of steps where they are with those to come
  steps_taken : is_step (x.step + x.go) ≡ true → is_step x.step ≡ true
  steps_taken h = grind (arith, nat_tests)

  step_read : (bare : Bool) (period : ℕ) (line : List ℕ) → IsNumberLine (codes "STEP ") x.step line → is_step (x.step + x.go) ≡ true
      → step (draft AtStep (record after_store { bare = bare; period = period })) 4 line ≡ Ok (draft AtRegs (record after_store { bare = bare; period = period; step = x.step }))
  unfolding step
  step_read bare period line h steps =
      ap (λ (r : Result ℕ Refusal). r >>= λ k. Ok (draft AtRegs (record after_store { bare = bare; period = period; step = k }))) (number_line-again (codes "STEP ") is_step 4 x.step line h (steps_taken steps))

  -- no line of a clock is `BARE`
  tick_by : (line digits : List ℕ) → line ≡ codes "TICK " ++ digits → bytes_eq line (codes "BARE") ≡ false
  tick_by line digits e = ap (λ (l : List ℕ). bytes_eq l (codes "BARE")) e

  tick_read : (line : List ℕ) → IsNumberLine (codes "TICK ") x.period line × IsTrue (is_period x.period) → step (draft AtMachine after_store) 3 line ≡ Ok (draft AtStep (record after_store { period = x.period }))
  unfolding step
  tick_read line h =
      ap (λ (b : Bool). cond b (Ok (draft AtStep (record after_store { bare = true }))) (tick_step after_store 3 line)) (tick_by line h.0.0 h.0.1)
      ∙ ap (λ (r : Result ℕ Refusal). r >>= λ k. Ok (draft AtStep (record after_store { period = k }))) (number_line-again (codes "TICK ") is_period 3 x.period line h.0 h.1)

  -- the lines from the third on
  machine_read : (b : Bool) (machine s regs : List ℕ) (rest : List (List ℕ)) → x.bare ≡ b → IsMachineLine b x machine → IsNumberLine (codes "STEP ") x.step s → is_step (x.step + x.go) ≡ true
      → regs_line 5 regs ≡ Ok x.regs → AreRestLines b x rest → AreEntries x → read_on (draft AtMachine after_store) 3 (machine ∷ s ∷ regs ∷ rest) ≡ Ok x
  unfolding step
  machine_read true machine s regs rest bare m t steps r k h =
      let y3 : Image = record after_store { bare = true } in
      let y4 : Image = record y3 { step = x.step } in
      let first : step (draft AtMachine after_store) 3 machine ≡ Ok (draft AtStep y3) = rw ((bytes_eq-Decides machine (codes "BARE")).1 m.0) refl in
      let regs_are : step (draft AtRegs y4) 5 regs ≡ Ok (draft (AtWord 0) (after_regs true 0)) = ap (λ (e : Result _ Refusal). e >>= λ k. Ok (draft (AtWord 0) (record y4 { regs = k }))) r in
      goes_on (draft AtMachine after_store) (draft AtStep y3) 3 machine (s ∷ regs ∷ rest) first
      ∙ goes_on (draft AtStep y3) (draft AtRegs y4) 4 s (regs ∷ rest) (step_read true 0 s t steps)
      ∙ goes_on (draft AtRegs y4) (draft (AtWord 0) (after_regs true 0)) 5 regs rest regs_are
      ∙ bare_read rest bare m.1 k steps
  machine_read false machine s regs rest bare m t steps r k h =
      let y3 : Image = record after_store { period = x.period } in
      let y4 : Image = record y3 { step = x.step } in
      let first : step (draft AtMachine after_store) 3 machine ≡ Ok (draft AtStep y3) = tick_read machine m in
      let regs_are : step (draft AtRegs y4) 5 regs ≡ Ok (draft AtRing (after_regs false x.period)) = ap (λ (e : Result _ Refusal). e >>= λ k. Ok (draft AtRing (record y4 { regs = k }))) r in
      goes_on (draft AtMachine after_store) (draft AtStep y3) 3 machine (s ∷ regs ∷ rest) first
      ∙ goes_on (draft AtStep y3) (draft AtRegs y4) 4 s (regs ∷ rest) (step_read false x.period s t steps)
      ∙ goes_on (draft AtRegs y4) (draft AtRing (after_regs false x.period)) 5 regs rest regs_are
      ∙ kernel_read rest bare k h steps

pub complete_lines : (lines : List (List ℕ)) (x : Image) → AreImageLines x lines → image_of_lines lines ≡ Ok x
unfolding step
complete_lines lines x h =
    let x1 : Image = record first_draft.image { version = x.version } in
    let version : step first_draft 1 h.version ≡ Ok (draft AtStore x1) = ap (λ (r : Result ℕ Refusal). r >>= λ k. Ok (draft AtStore (record first_draft.image { version = k }))) (version_by 1 h.version x.version h.version_line.0 h.version_line.1) in
    let store : step (draft AtStore x1) 2 h.store ≡ Ok (draft AtMachine (after_store x))
    = ap (λ (r : Result ℕ Refusal). r >>= λ k. Ok (draft AtMachine (record x1 { store = replicate k 0 }))) (number_line-again (codes "STORE ") (is_store_size x.version) 2 (length x.store) h.store h.store_line.0 h.store_line.1) in
    ap (read_on first_draft 1) h.all
    ∙ goes_on first_draft (draft AtStore x1) 1 h.version (h.store ∷ h.machine ∷ h.step ∷ h.regs ∷ h.rest) version
    ∙ goes_on (draft AtStore x1) (draft AtMachine (after_store x)) 2 h.store (h.machine ∷ h.step ∷ h.regs ∷ h.rest) store
    ∙ machine_read x x.bare h.machine h.step h.regs h.rest refl h.machine_line h.step_line.0 h.step_line.1 (regs_line-again 5 h.regs x.regs h.regs_line.0 h.regs_line.1) h.rest_lines h.entries

pub complete : (text : List ℕ) (x : Image) → IsImage text x → image_of text ≡ Ok x
complete text x h = complete_lines (lines_of text) x h
