-- A saved machine whose text is read can be printed.
use Rattle.std.proofs.Common.{◌≡◌, ℕ, zero, suc, ◌<◌, ◌+◌, ◌/◌, ◌^◌, ◌==◌, Bool, true, false, cond, Result, Ok, Err, List, [], ◌∷◌, ◌++◌, length, map, take, drop, refl, sym, subst, arith}
use Rattle.std.specs.Prelude.{IfOk}
use Rattle.std.specs.List.{AllByRecursion, flat_map}
use Rattle.std.specs.Simd.{first_chunks}
use Rattle.std.proofs.lemmas.Bool.{eqb-true}
use Rattle.std.proofs.lemmas.List.{length-drop}
use Rattle.hex.specs.Hex.{IsBytes}
use Rattle.module_text.specs.TextReader.Answers.{Gives}
use Rattle.module_text.specs.declared.text_reader.ends.TextEnd.{TextEnd}
use Rattle.module_text.specs.TextReader.Lines.{lines_of}
use Rattle.saved_text.specs.SavedLines.Statements.{Statement, File, Bytes, Stream, Pipe, Key, Word, Go, States}
use Rattle.saved_text.specs.Canonical.{IsLawful, IsLawfulMachine}
use Rattle.saved_text.specs.ImageForm.{AreImageLines, AreRestLines, AreStated, IsMachineLine, awaited, file_statements, key_statement, pipe_statement, statements_of, stream_statement, word_statement, word_statements}
use Rattle.saved_text.specs.ImageOfText.{image_of}
use Rattle.saved_text.specs.declared.images.Image.{Image}
use Rattle.saved_text.specs.declared.images.Mode.{Mode}
use Rattle.saved_text.specs.declared.read.ReadImage.{ReadImage}
use Rattle.saved_text.specs.declared.images.SavedFile.{SavedFile}
use Rattle.saved_text.specs.declared.images.SavedPipe.{SavedPipe}
use Rattle.saved_text.proofs.Sound.{sound}

-- ---- what a line that states something says of its bytes

abbrev IsSound : Statement → Type 0
IsSound (File name) = Unit {0}
IsSound (Bytes bytes) = IsBytes bytes
IsSound (Stream k m position name) = Unit {0}
IsSound (Pipe k r w e name bytes) = IsBytes bytes
IsSound (Key step byte) = byte < 256
IsSound (Word address word) = word < 2 ^ 32
IsSound (Go steps) = Unit {0}

abbrev AreSound : List Statement → Type 0
AreSound ss = AllByRecursion IsSound ss

sound_one : (s : Statement) (line : List ℕ) → States s line → IsSound s
sound_one (File name) line h = tt
sound_one (Bytes bytes) line h = h.2
sound_one (Stream k m position name) line h = tt
sound_one (Pipe k r w e name bytes) line h = h.9
sound_one (Key step byte) line h = h.2
sound_one (Word address word) line h = h.2
sound_one (Go steps) line h = tt

sound_all : (ss : List Statement) (lines : List (List ℕ)) → AreStated ss lines → AreSound ss
sound_all [] lines h = tt
sound_all (s ∷ ss) [] h = absurd h
sound_all (s ∷ ss) (line ∷ lines) h = (sound_one s line h.0, sound_all ss lines h.1)

-- of two lists
first_sound : (a b : List Statement) → AreSound (a ++ b) → AreSound a
first_sound [] b h = tt
first_sound (s ∷ a) b h = (h.0, first_sound a b h.1)

last_sound : (a b : List Statement) → AreSound (a ++ b) → AreSound b
last_sound [] b h = h
last_sound (s ∷ a) b h = last_sound a b h.1

-- ---- parts

-- bytes, from a front of them and the rest
joined_bytes : (n : ℕ) (bytes : List ℕ) → IsBytes (take n bytes) → IsBytes (drop n bytes) → IsBytes bytes
joined_bytes zero bytes h k i = k i
joined_bytes (suc n) [] h k i = omega arith
joined_bytes (suc n) (b ∷ bytes) h k zero = h 0
joined_bytes (suc n) (b ∷ bytes) h k (suc i) = joined_bytes n bytes (λ j. h (suc j)) k i

bytes_of_lines : (k : ℕ) (bytes : List ℕ) → (length bytes + 31) / 32 ≡ k → AreSound (map (λ b. Bytes b) (first_chunks 32 k bytes)) → IsBytes bytes
bytes_of_lines zero [] e h i = omega arith
bytes_of_lines zero (b ∷ bytes) e h i = absurd (omega (arith, e))
bytes_of_lines (suc k) bytes e h i =
    let len = length-drop 32 bytes in
    joined_bytes 32 bytes h.0 (bytes_of_lines k (drop 32 bytes) (omega (arith, len, e)) h.1) i

files_sound : (files : List SavedFile) → AreSound (flat_map file_statements files) → AllByRecursion (λ f. IsBytes f.bytes) files
files_sound [] h = tt
files_sound (f ∷ files) h =
    let one = first_sound (file_statements f) (flat_map file_statements files) h in
    let more = last_sound (file_statements f) (flat_map file_statements files) h in
    (bytes_of_lines ((length f.bytes + 31) / 32) f.bytes refl one.1, files_sound files more)

pipes_sound : (ps : List SavedPipe) → AreSound (map pipe_statement ps) → AllByRecursion (λ p. IsBytes p.held) ps
pipes_sound [] h = tt
pipes_sound (p ∷ ps) h = (h.0, pipes_sound ps h.1)

keys_sound : (ks : List (ℕ × ℕ)) → AreSound (map key_statement ks) → AllByRecursion (λ key. key.1 < 256) ks
keys_sound [] h = tt
keys_sound (k ∷ ks) h = (h.0, keys_sound ks h.1)

not_zero : (w : ℕ) → (suc w == 0) ≡ true → ⊥
not_zero w e = let z : suc w ≡ 0 = eqb-true (suc w) 0 e in absurd (omega (arith, z))

word_small : (a : ℕ) (w : ℕ) → AreSound (word_statement a w) → w < 2 ^ 32
word_small a zero h = omega arith
word_small a (suc w) h = by (suc w == 0) refl h
  where
    by : (b : Bool) → (suc w == 0) ≡ b → AreSound (cond b [] (Word a (suc w) ∷ [])) → suc w < 2 ^ 32
    by true e k = absurd (not_zero w e)
    by false e k = k.0

words_sound : (a : ℕ) (ws : List ℕ) → AreSound (word_statements a ws) → AllByRecursion (λ w. w < 2 ^ 32) ws
words_sound a [] h = tt
words_sound a (w ∷ ws) h =
    (word_small a w (first_sound (word_statement a w) (word_statements (a + 1) ws) h), words_sound (a + 1) ws (last_sound (word_statement a w) (word_statements (a + 1) ws) h))

-- ---- the whole

no_bytes : (bytes : List ℕ) → bytes ≡ [] → IsBytes bytes
no_bytes bytes e = subst IsBytes (sym e) (λ i. omega arith)

-- what the lines behind the head say
record SaysBytes (x : Image) : Type 0 where
  lines : IsBytes x.ring × IsBytes x.line × IsBytes x.command
  waits : awaited x.mode < 2 ^ 32
  sound : AreSound (statements_of x)

lawful_machine : (b : Bool) (x : Image) (line : List ℕ) → IsMachineLine b x line → IsLawfulMachine b x
lawful_machine true x line h = h.1
lawful_machine false x line h = h.1

says_bytes : (b : Bool) (x : Image) (line : List ℕ) (rest : List (List ℕ)) → IsMachineLine b x line → AreRestLines b x rest → SaysBytes x
says_bytes true x line rest m h = record {
  lines = (no_bytes x.ring m.1.ring, no_bytes x.line m.1.line, no_bytes x.command m.1.command);
  waits = subst (λ (k : Mode). awaited k < 2 ^ 32) (sym m.1.mode) (omega arith);
  sound = first_sound (statements_of x) (Go x.go ∷ []) (sound_all (statements_of x ++ Go x.go ∷ []) rest h);
}
says_bytes false x line rest m h = record {
  lines = (h.ring_line.0, h.console_line.2, h.shell_line.4);
  waits = h.waits;
  sound = first_sound (statements_of x) (Go x.go ∷ []) (sound_all (statements_of x ++ Go x.go ∷ []) h.entries h.entry_lines);
}

pub lawful : (x : Image) (lines : List (List ℕ)) → AreImageLines x lines → IsLawful x
lawful x lines h =
    let s = says_bytes x.bare x h.machine h.rest h.machine_line h.rest_lines in
    let fs = flat_map file_statements x.files in
    let ts = map stream_statement x.streams in
    let ps = map pipe_statement x.pipes in
    let ks = map key_statement x.keys in
    let ws = word_statements 0 x.store in
    let behind_files = last_sound fs (ts ++ (ps ++ (ks ++ ws))) s.sound in
    let behind_streams = last_sound ts (ps ++ (ks ++ ws)) behind_files in
    let behind_pipes = last_sound ps (ks ++ ws) behind_streams in
    record {
      version = h.version_line.0;
      size = h.store_line.1;
      machine = lawful_machine x.bare x h.machine h.machine_line;
      steps = h.step_line.1;
      regs = h.regs_line.1;
      lines = s.lines;
      waits = s.waits;
      entries = h.entries;
      files = files_sound x.files (first_sound fs (ts ++ (ps ++ (ks ++ ws))) s.sound);
      pipes = pipes_sound x.pipes (first_sound ps (ks ++ ws) behind_streams);
      keys = keys_sound x.keys (first_sound ks ws behind_pipes);
      words = words_sound 0 x.store (last_sound ks ws behind_pipes);
    }

-- what was read is lawful
pub lawful_read : (text : List ℕ) (x : Image) → image_of text ≡ Ok x → IsLawful x
lawful_read text x e = lawful x (lines_of text) (sound text x e)

pub is_lawful : (text : List ℕ) (result : Result ReadImage TextEnd) → Gives (λ (r : ReadImage). r.image) result (image_of text) → IfOk result (λ r. IsLawful r.image)
is_lawful text (Ok r) e = lawful_read text r.image e
is_lawful text (Err d) e = tt
