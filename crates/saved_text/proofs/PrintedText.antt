-- What is printed is read as the same saved machine.
use Rattle.std.proofs.Common.{◌≡◌, ℕ, zero, suc, ◌<◌, ◌≤◌, ◌+◌, ◌/◌, ◌%◌, ◌^◌, ◌==◌, ◌&&◌, Bool, true, false, cond, Ok, List, [], ◌∷◌, ◌++◌, length, map, take, drop, nat_lt, nat_le, refl, sym, subst, arith}
use Rattle.std.specs.Prelude.{codes, decimal, IsTrue}
use Rattle.std.specs.List.{AllByRecursion, flat_map}
use Rattle.std.specs.Simd.{first_chunks}
use Rattle.std.proofs.lemmas.Bool.{and_parts}
use Rattle.std.proofs.lemmas.Bool.Decides.{nat_tests}
use Rattle.std.proofs.lemmas.List.{length-drop}
use Rattle.hex.specs.Hex.{IsBytes}
use Rattle.module_text.specs.TextReader.Fields.{IsNumberLine}
use Rattle.module_text.proofs.TextReader.NumberLemmas.{decimal_number}
use Rattle.module_text.proofs.TextReader.PlainLines.{IsPlain, lines_of_text_of_lines, plain_append, plain_decimal, plain_literal}
use Rattle.ram_disc.specs.Name.{is_name}
use Rattle.kernel_model.specs.KernelRecord.Ranges.{is_period, is_store_size, most_steps, most_words}
use Rattle.session_text.specs.Ranges.{is_step}
use Rattle.word_store.proofs.Elements.{all-append}
use Rattle.session_text.proofs.StatementTexts.{is_field-name}
use Rattle.saved_text.specs.SavedLines.Canonical.{IsPrintable, printed_console, printed_regs, printed_ring, printed_shell, statement_text}
use Rattle.saved_text.specs.SavedLines.Heads.{are_regs}
use Rattle.saved_text.specs.SavedLines.Statements.{Statement, Bytes, Word, Go}
use Rattle.saved_text.proofs.SavedLines.PrintedLines.{console_printed, plain_console, plain_regs, plain_ring, plain_shell, plain_states, regs_printed, ring_printed, shell_printed, states_text}
use Rattle.saved_text.specs.Canonical.{IsLawful, IsLawfulMachine, canonical, canonical_lines, kernel_text, machine_text}
use Rattle.saved_text.specs.ImageForm.{AreFiles, AreImageLines, ArePipes, AreRestLines, AreStated, AreStreams, IsMachineLine, awaited, file_statements, flag, key_statement, mode_number, pipe_statement, statements_of, stream_statement, word_statement, word_statements}
use Rattle.saved_text.specs.ImageOfText.{image_of}
use Rattle.saved_text.specs.Ranges.{are_pipe_numbers, are_stream_numbers, is_flag}
use Rattle.saved_text.specs.declared.images.Image.{Image}
use Rattle.saved_text.specs.declared.images.Mode.{Mode}
use Rattle.saved_text.specs.declared.images.Mode.TheVariants.{Prompt, Reading, Waiting, Typing}
use Rattle.saved_text.specs.declared.images.SavedFile.{SavedFile}
use Rattle.saved_text.specs.declared.images.SavedPipe.{SavedPipe}
use Rattle.saved_text.specs.declared.images.SavedStream.{SavedStream}
use Rattle.saved_text.proofs.CompleteText.{complete}
use Rattle.session_text.proofs.RoundTrip.{store_bound, step_bound, period_bound}
use Rattle.session_text.proofs.SessionTexts.{plain_number}
use Rattle.session_text.proofs.StepRefusals.{number_printed}

-- ---- statements that can be printed

abbrev ArePrintable : List Statement → Type 0
ArePrintable ss = AllByRecursion IsPrintable ss

bytes_of_front : (n : ℕ) (bytes : List ℕ) → IsBytes bytes → IsBytes (take n bytes)
bytes_of_front zero bytes h i = omega arith
bytes_of_front (suc n) [] h i = omega arith
bytes_of_front (suc n) (b ∷ bytes) h zero = h 0
bytes_of_front (suc n) (b ∷ bytes) h (suc i) = bytes_of_front n bytes (λ j. h (suc j)) i

bytes_of_back : (n : ℕ) (bytes : List ℕ) → IsBytes bytes → IsBytes (drop n bytes)
bytes_of_back zero bytes h i = h i
bytes_of_back (suc n) [] h i = omega arith
bytes_of_back (suc n) (b ∷ bytes) h i = bytes_of_back n bytes (λ j. h (suc j)) i

length_of_front : (n : ℕ) (bytes : List ℕ) → 1 ≤ length bytes → 1 ≤ n → (1 ≤ length (take n bytes)) × (length (take n bytes) ≤ n)
length_of_front zero bytes h k = absurd (omega (arith, k))
length_of_front (suc n) [] h k = absurd (omega (arith, h))
length_of_front (suc n) (b ∷ bytes) h k = (omega arith, few (suc n) (b ∷ bytes))
  where
    few : (m : ℕ) (bs : List ℕ) → length (take m bs) ≤ m
    few zero bs = omega arith
    few (suc m) [] = omega arith
    few (suc m) (c ∷ bs) = let le = few m bs in omega (arith, le)

-- lines of bytes
printable_lines : (k : ℕ) (bytes : List ℕ) → IsBytes bytes → (length bytes + 31) / 32 ≡ k → ArePrintable (map (λ b. Bytes b) (first_chunks 32 k bytes))
printable_lines zero bytes h e = tt
printable_lines (suc k) bytes h e =
    let len = length-drop 32 bytes in
    let size = length_of_front 32 bytes (omega (arith, e)) (omega arith) in
    ((size.0, size.1, bytes_of_front 32 bytes h), printable_lines k (drop 32 bytes) (bytes_of_back 32 bytes h) (omega (arith, len, e)))

printable_file : (f : SavedFile) → is_name f.name ≡ true → IsBytes f.bytes → ArePrintable (file_statements f)
printable_file f n h = (is_field-name f.name n, printable_lines ((length f.bytes + 31) / 32) f.bytes h refl)

printable_files : (files : List SavedFile) → AreFiles files → AllByRecursion (λ f. IsBytes f.bytes) files → ArePrintable (flat_map file_statements files)
printable_files [] h b = tt
printable_files (f ∷ []) h b = all-append IsPrintable (file_statements f) [] (printable_file f h b.0) tt
printable_files (f ∷ g ∷ files) h b = all-append IsPrintable (file_statements f) (flat_map file_statements (g ∷ files)) (printable_file f h.0 b.0) (printable_files (g ∷ files) h.2 b.1)

stream_numbers : (k m position : ℕ) → are_stream_numbers k m position ≡ true → (k < 10 ^ 10) × (m < 10 ^ 10) × (position < 10 ^ 10)
stream_numbers k m position h =
    let b = and_parts (nat_le 1 k && nat_le k 17 && is_flag m) (nat_lt position (2 ^ 32)) h in
    let c = and_parts (nat_le 1 k && nat_le k 17) (is_flag m) b.0 in
    let d = and_parts (nat_le 1 k) (nat_le k 17) c.0 in
    let high : nat_le k 17 ≡ true = d.1 in
    let is : nat_le m 1 ≡ true = c.1 in
    let word : nat_lt position (2 ^ 32) ≡ true = b.1 in
    (grind (arith, nat_tests), grind (arith, nat_tests), grind (arith, nat_tests))

printable_streams : (floor : ℕ) (ss : List SavedStream) → AreStreams floor ss → ArePrintable (map stream_statement ss)
printable_streams floor [] h = tt
printable_streams floor (s ∷ ss) h =
    let n = stream_numbers s.k (flag s.writes) s.position h.1.0 in
    ((n.0, n.1, n.2, is_field-name s.name h.1.1), printable_streams (s.k + 1) ss h.2)

pipe_numbers : (k r w e : ℕ) → are_pipe_numbers k r w e ≡ true → (k < 10 ^ 10) × (r < 10 ^ 10) × (w < 10 ^ 10) × (e < 10 ^ 10)
pipe_numbers k r w e h =
    let b = and_parts (nat_le 1 k && nat_le k 8 && is_flag r && is_flag w) (is_flag e) h in
    let c = and_parts (nat_le 1 k && nat_le k 8 && is_flag r) (is_flag w) b.0 in
    let d = and_parts (nat_le 1 k && nat_le k 8) (is_flag r) c.0 in
    let f = and_parts (nat_le 1 k) (nat_le k 8) d.0 in
    let high : nat_le k 8 ≡ true = f.1 in
    let x : nat_le r 1 ≡ true = d.1 in
    let y : nat_le w 1 ≡ true = c.1 in
    let z : nat_le e 1 ≡ true = b.1 in
    (grind (arith, nat_tests), grind (arith, nat_tests), grind (arith, nat_tests), grind (arith, nat_tests))

printable_pipes : (floor : ℕ) (ps : List SavedPipe) → ArePipes floor ps → AllByRecursion (λ p. IsBytes p.held) ps → ArePrintable (map pipe_statement ps)
printable_pipes floor [] h b = tt
printable_pipes floor (p ∷ ps) h b =
    let n = pipe_numbers p.k (flag p.reading) (flag p.writing) (flag p.written) h.1.0 in
    ((n.0, n.1, n.2, n.3, is_field-name p.name h.1.1, b.0), printable_pipes (p.k + 1) ps h.2 b.1)

printable_keys : (keys : List (ℕ × ℕ)) → AllByRecursion (λ key. IsTrue (is_step key.0)) keys → AllByRecursion (λ key. key.1 < 256) keys → ArePrintable (map key_statement keys)
printable_keys [] h b = tt
printable_keys (key ∷ keys) h b = ((step_bound key.0 h.0, b.0), printable_keys keys h.1 b.1)

printable_word : (a w : ℕ) → a < 10 ^ 10 → w < 2 ^ 32 → ArePrintable (word_statement a w)
printable_word a w h k = by (w == 0)
  where
    by : (b : Bool) → ArePrintable (cond b [] (Word a w ∷ []))
    by true = tt
    by false = ((h, k), tt)

printable_words : (a : ℕ) (ws : List ℕ) → a + length ws < 10 ^ 10 → AllByRecursion (λ w. w < 2 ^ 32) ws → ArePrintable (word_statements a ws)
printable_words a [] lt h = tt
printable_words a (w ∷ ws) lt h = all-append IsPrintable (word_statement a w) (word_statements (a + 1) ws) (printable_word a w (omega arith) h.0) (printable_words (a + 1) ws (omega arith) h.1)

-- both the steps taken and those to come
steps_bound : (step go : ℕ) → is_step (step + go) ≡ true → (step < 10 ^ 10) × (go < 10 ^ 10)
steps_bound step go e = let lt = step_bound (step + go) e in (omega (arith, lt), omega (arith, lt))

printable_all : (x : Image) → IsLawful x → ArePrintable (statements_of x ++ Go x.go ∷ [])
printable_all x h =
    let fs = flat_map file_statements x.files in
    let ts = map stream_statement x.streams in
    let ps = map pipe_statement x.pipes in
    let ks = map key_statement x.keys in
    let ws = word_statements 0 x.store in
    let size = store_bound x.version (length x.store) h.size in
    let words = printable_words 0 x.store (omega (arith, size)) h.words in
    let keys = all-append IsPrintable ks ws (printable_keys x.keys h.entries.keys h.keys) words in
    let pipes = all-append IsPrintable ps (ks ++ ws) (printable_pipes 0 x.pipes h.entries.pipes h.pipes) keys in
    let streams = all-append IsPrintable ts (ps ++ (ks ++ ws)) (printable_streams 0 x.streams h.entries.streams) pipes in
    let files = all-append IsPrintable fs (ts ++ (ps ++ (ks ++ ws))) (printable_files x.files h.entries.files h.files) streams in
    all-append IsPrintable (statements_of x) (Go x.go ∷ []) files ((steps_bound x.step x.go h.steps).1, tt)

stated_printed : (ss : List Statement) → ArePrintable ss → AreStated ss (map statement_text ss)
stated_printed [] h = tt
stated_printed (s ∷ ss) h = (states_text s h.0, stated_printed ss h.1)

-- ---- the whole text

machine_printed : (b : Bool) (x : Image) → IsLawfulMachine b x → IsMachineLine b x (machine_text b x.period)
machine_printed true x h = (refl, h)
machine_printed false x h = (number_printed (codes "TICK ") x.period (period_bound x.period h), h)

mode_bound : (m : Mode) → mode_number m < 10 ^ 10
mode_bound Prompt = omega arith
mode_bound Reading = omega arith
mode_bound (Waiting id) = omega arith
mode_bound Typing = omega arith

flag_bound : (b : Bool) → flag b < 10 ^ 10
flag_bound true = omega arith
flag_bound false = omega arith

rest_printed : (b : Bool) (x : Image) → IsLawful x → AreRestLines b x (kernel_text b x ++ map statement_text (statements_of x ++ Go x.go ∷ []))
rest_printed true x h = stated_printed (statements_of x ++ Go x.go ∷ []) (printable_all x h)
rest_printed false x h =
    let id = h.waits in
    record {
      ring = printed_ring x.ring;
      console = printed_console (flag x.finished) x.line;
      shell = printed_shell (mode_number x.mode) (awaited x.mode) x.command;
      entries = map statement_text (statements_of x ++ Go x.go ∷ []);
      all = refl;
      ring_line = ring_printed x.ring h.lines.0;
      console_line = console_printed (flag x.finished) x.line (flag_bound x.finished) h.lines.1;
      shell_line = shell_printed (mode_number x.mode) (awaited x.mode) x.command (mode_bound x.mode) (omega (arith, id)) h.lines.2;
      waits = h.waits;
      entry_lines = stated_printed (statements_of x ++ Go x.go ∷ []) (printable_all x h);
    }

regs_bound : (a b c p g pc : ℕ) → are_regs a b c p g pc ≡ true → ((a < 2 ^ 32) × (b < 2 ^ 32) × (c < 256)) × ((p < 2 ^ 32) × (g < 2 ^ 32) × (pc < 2 ^ 32))
regs_bound a b c p g pc h =
    let i = and_parts (nat_lt a (2 ^ 32) && nat_lt b (2 ^ 32) && nat_lt c 256 && nat_lt p (2 ^ 32) && nat_lt g (2 ^ 32)) (nat_lt pc (2 ^ 32)) h in
    let j = and_parts (nat_lt a (2 ^ 32) && nat_lt b (2 ^ 32) && nat_lt c 256 && nat_lt p (2 ^ 32)) (nat_lt g (2 ^ 32)) i.0 in
    let k = and_parts (nat_lt a (2 ^ 32) && nat_lt b (2 ^ 32) && nat_lt c 256) (nat_lt p (2 ^ 32)) j.0 in
    let l = and_parts (nat_lt a (2 ^ 32) && nat_lt b (2 ^ 32)) (nat_lt c 256) k.0 in
    let m = and_parts (nat_lt a (2 ^ 32)) (nat_lt b (2 ^ 32)) l.0 in
    ((below a (2 ^ 32) m.0, below b (2 ^ 32) m.1, below c 256 l.1), (below p (2 ^ 32) k.1, below g (2 ^ 32) j.1, below pc (2 ^ 32) i.1))
  where
    below : (n most : ℕ) → nat_lt n most ≡ true → n < most
    below n most e = grind (arith, nat_tests)

lines_printed : (x : Image) → IsLawful x → AreImageLines x (canonical_lines x)
lines_printed x h =
    let r = regs_bound x.regs.a x.regs.b x.regs.c x.regs.p x.regs.g x.regs.pc h.regs in
    record {
      version = codes "TRIPOS-IMAGE " ++ decimal x.version;
      store = codes "STORE " ++ decimal (length x.store);
      machine = machine_text x.bare x.period;
      step = codes "STEP " ++ decimal x.step;
      regs = printed_regs x.regs;
      rest = kernel_text x.bare x ++ map statement_text (statements_of x ++ Go x.go ∷ []);
      all = refl;
      version_line = (h.version, refl);
      store_line = (number_printed (codes "STORE ") (length x.store) (store_bound x.version (length x.store) h.size), h.size);
      machine_line = machine_printed x.bare x h.machine;
      step_line = (number_printed (codes "STEP ") x.step (steps_bound x.step x.go h.steps).0, h.steps);
      regs_line = (regs_printed x.regs r.0 r.1, h.regs);
      rest_lines = rest_printed x.bare x h;
      entries = h.entries;
    }

-- ---- no line has a LF or a CR

pub plain_stated : (ss : List Statement) (lines : List (List ℕ)) → AreStated ss lines → AllByRecursion IsPlain lines
plain_stated [] [] h = tt
plain_stated [] (line ∷ lines) h = absurd h
plain_stated (s ∷ ss) [] h = absurd h
plain_stated (s ∷ ss) (line ∷ lines) h = (plain_states s line h.0, plain_stated ss lines h.1)

plain_machine : (b : Bool) (x : Image) (line : List ℕ) → IsMachineLine b x line → IsPlain line
plain_machine true x line h = subst IsPlain (sym h.0) (plain_literal (codes "BARE") refl)
plain_machine false x line h = plain_number (codes "TICK ") line x.period (plain_literal (codes "TICK ") refl) h.0

plain_rest : (b : Bool) (x : Image) (lines : List (List ℕ)) → AreRestLines b x lines → AllByRecursion IsPlain lines
plain_rest true x lines h = plain_stated (statements_of x ++ Go x.go ∷ []) lines h
plain_rest false x lines h =
    subst (AllByRecursion IsPlain) (sym h.all) (
      plain_ring x.ring h.ring h.ring_line,
      (
        plain_console (flag x.finished) x.line h.console h.console_line,
        (
          plain_shell (mode_number x.mode) (awaited x.mode) x.command h.shell h.shell_line,
          plain_stated (statements_of x ++ Go x.go ∷ []) h.entries h.entry_lines,
        ),
      ),
    )

pub plain_image : (x : Image) (lines : List (List ℕ)) → AreImageLines x lines → AllByRecursion IsPlain lines
plain_image x lines h =
    let high : x.version ≤ 2 = h.version_line.0.1 in
    let version : IsPlain h.version = subst IsPlain (sym h.version_line.1) (plain_append (codes "TRIPOS-IMAGE ") (decimal x.version) (plain_literal (codes "TRIPOS-IMAGE ") refl) (plain_decimal x.version (omega arith))) in
    let store = plain_number (codes "STORE ") h.store (length x.store) (plain_literal (codes "STORE ") refl) h.store_line.0 in
    let machine = plain_machine x.bare x h.machine h.machine_line in
    let step = plain_number (codes "STEP ") h.step x.step (plain_literal (codes "STEP ") refl) h.step_line.0 in
    let regs = plain_regs x.regs h.regs h.regs_line.0 in
    subst (AllByRecursion IsPlain) (sym h.all) (version, (store, (machine, (step, (regs, plain_rest x.bare x h.rest h.rest_lines)))))

pub plain_canonical : (x : Image) → IsLawful x → AllByRecursion IsPlain (canonical_lines x)
plain_canonical x h = plain_image x (canonical_lines x) (lines_printed x h)

-- ---- read back

pub printed : (x : Image) → IsLawful x → image_of (canonical x) ≡ Ok x
unfolding canonical
printed x h =
    let same = lines_of_text_of_lines (canonical_lines x) (plain_canonical x h) in
    complete (canonical x) x (subst (AreImageLines x) (sym same) (lines_printed x h))
