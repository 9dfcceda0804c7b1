-- Lists of statements, one added behind the others.
use Rattle.std.proofs.Common.{◌≡◌, ◌∙◌, ℕ, zero, suc, ◌<◌, ◌≤◌, ◌+◌, ◌-◌, ◌*◌, ◌/◌, ◌%◌, ◌==◌, true, false, Option, Some, List, [], ◌∷◌, ◌++◌, length, length-append, take, drop, get_or, refl, sym, ap, arith, append_assoc, append-nil, add-zero}
use Rattle.std.specs.Prelude.{slice_get, slice_set}
use Rattle.std.specs.List.{AllByRecursion}
use Rattle.std.specs.Simd.{first_chunks}
use Rattle.std.specs.Option.{option_map_or}
use Rattle.std.proofs.lemmas.Bool.Decides.{nat_tests}
use Rattle.std.proofs.lemmas.List.{length-drop, take_all}
use Rattle.ram_disc.specs.Disc.{is_before}
use Rattle.ram_disc.specs.Name.{is_name}
use Rattle.saved_text.specs.SavedLines.Statements.{Statement, Word}
use Rattle.saved_text.specs.Files.{is_behind, last_of, with_more}
use Rattle.saved_text.specs.ImageForm.{AreFiles, ArePipes, AreStreams, IsPipe, IsStream, byte_lines, flag, word_statement, word_statements}
use Rattle.saved_text.specs.Ranges.{is_flag}
use Rattle.saved_text.specs.declared.images.SavedFile.{SavedFile}
use Rattle.saved_text.specs.declared.images.SavedPipe.{SavedPipe}
use Rattle.saved_text.specs.declared.images.SavedStream.{SavedStream}

-- ---- one list behind others

module _ {A : Type 0} where
  -- where nothing follows
  pub behind-first : (a c t : List A) → t ≡ [] → (a ++ c) ++ t ≡ (a ++ t) ++ c
  behind-first a c t e = ap (λ (u : List A). (a ++ c) ++ u) e ∙ append-nil (a ++ c) ∙ ap (λ (u : List A). u ++ c) (sym (append-nil a)) ∙ ap (λ (u : List A). (a ++ u) ++ c) (sym e)

  pub behind-second : (a b c t : List A) → t ≡ [] → a ++ ((b ++ c) ++ t) ≡ (a ++ (b ++ t)) ++ c
  behind-second a b c t e = ap (λ (u : List A). a ++ u) (behind-first b c t e) ∙ sym (append_assoc a (b ++ t) c)

  pub behind-third : (a b c d t : List A) → t ≡ [] → a ++ (b ++ ((c ++ d) ++ t)) ≡ (a ++ (b ++ (c ++ t))) ++ d
  behind-third a b c d t e = ap (λ (u : List A). a ++ u) (behind-second b c d t e) ∙ sym (append_assoc a (b ++ (c ++ t)) d)

  pub behind-fourth : (a b c d e t : List A) → t ≡ [] → a ++ (b ++ (c ++ ((d ++ e) ++ t))) ≡ (a ++ (b ++ (c ++ (d ++ t)))) ++ e
  behind-fourth a b c d e t h = ap (λ (u : List A). a ++ u) (behind-third b c d e t h) ∙ sym (append_assoc a (b ++ (c ++ (d ++ t))) e)

-- ---- numbers

pub flag-again : (n : ℕ) → is_flag n ≡ true → flag (n == 1) ≡ n
flag-again n h = grind (arith, nat_tests)

-- the least number behind streams that rise from this one on
abbrev pub stream_end : ℕ → List SavedStream → ℕ
stream_end floor [] = floor
stream_end floor (s ∷ ss) = stream_end (s.k + 1) ss

pub streams-more : (floor : ℕ) (ss : List SavedStream) (s : SavedStream) → AreStreams floor ss → stream_end floor ss ≤ s.k → IsStream s → AreStreams floor (ss ++ s ∷ [])
streams-more floor [] s h le is = (le, is, tt)
streams-more floor (t ∷ ss) s h le is = (h.0, h.1, streams-more (t.k + 1) ss s h.2 le is)

pub stream_end-more : (floor : ℕ) (ss : List SavedStream) (s : SavedStream) → stream_end floor (ss ++ s ∷ []) ≡ s.k + 1
stream_end-more floor [] s = refl
stream_end-more floor (t ∷ ss) s = stream_end-more (t.k + 1) ss s

-- and behind pipes
abbrev pub pipe_end : ℕ → List SavedPipe → ℕ
pipe_end floor [] = floor
pipe_end floor (p ∷ ps) = pipe_end (p.k + 1) ps

pub pipes-more : (floor : ℕ) (ps : List SavedPipe) (p : SavedPipe) → ArePipes floor ps → pipe_end floor ps ≤ p.k → IsPipe p → ArePipes floor (ps ++ p ∷ [])
pipes-more floor [] p h le is = (le, is, tt)
pipes-more floor (q ∷ ps) p h le is = (h.0, h.1, pipes-more (q.k + 1) ps p h.2 le is)

pub pipe_end-more : (floor : ℕ) (ps : List SavedPipe) (p : SavedPipe) → pipe_end floor (ps ++ p ∷ []) ≡ p.k + 1
pipe_end-more floor [] p = refl
pipe_end-more floor (q ∷ ps) p = pipe_end-more (q.k + 1) ps p

pub all-more : {A : Type 0} (P : A → Type 0) (xs : List A) (x : A) → AllByRecursion P xs → P x → AllByRecursion P (xs ++ x ∷ [])
all-more P [] x h p = (p, tt)
all-more P (y ∷ xs) x h p = (h.0, all-more P xs x h.1 p)

-- ---- files

pub last_of-behind : (f g : SavedFile) (fs : List SavedFile) → last_of (f ∷ g ∷ fs) ≡ last_of (g ∷ fs)
last_of-behind f g fs = let at : suc (suc (length fs)) - 1 ≡ suc (suc (length fs) - 1) = omega arith in ap (slice_get (f ∷ g ∷ fs)) at

-- the last one, and those before it
pub last_of-split : (files : List SavedFile) (last : SavedFile) → last_of files ≡ Some last → (front : List SavedFile) × (files ≡ front ++ last ∷ [])
last_of-split [] last e = cc e
last_of-split (f ∷ []) last e = let same : f ≡ last = cc in ([], ap (λ (g : SavedFile). g ∷ []) same)
last_of-split (f ∷ g ∷ fs) last e =
    let more = last_of-split (g ∷ fs) last (sym (last_of-behind f g fs) ∙ e) in
    (f ∷ more.0, ap (λ (gs : List SavedFile). f ∷ gs) more.1)

pub files-more : (files : List SavedFile) (f : SavedFile) → AreFiles files → is_behind files f.name ≡ true → is_name f.name ≡ true → AreFiles (files ++ f ∷ [])
files-more [] f h b n = n
files-more (g ∷ []) f h b n = (h, b, n)
files-more (g ∷ k ∷ fs) f h b n = (h.0, h.1, files-more (k ∷ fs) f h.2 (ap (λ (o : Option SavedFile). option_map_or (λ x. is_before x.name f.name) o true) (sym (last_of-behind g k fs)) ∙ b) n)

pub files-with_more : (front : List SavedFile) (f : SavedFile) (bytes : List ℕ) → AreFiles (front ++ f ∷ []) → AreFiles (front ++ with_more f bytes ∷ [])
files-with_more [] f bytes h = h
files-with_more (g ∷ []) f bytes h = h
files-with_more (g ∷ k ∷ fs) f bytes h = (h.0, h.1, files-with_more (k ∷ fs) f bytes h.2)

-- ---- lines of bytes

take_front : {A : Type 0} (n : ℕ) (xs ys : List A) → n ≤ length xs → take n (xs ++ ys) ≡ take n xs
take_front zero xs ys h = refl
take_front (suc n) [] ys h = absurd (omega arith)
take_front (suc n) (x ∷ xs) ys h = ap (λ (l : List _). x ∷ l) (take_front n xs ys (omega arith))

drop_front : {A : Type 0} (n : ℕ) (xs ys : List A) → n ≤ length xs → drop n (xs ++ ys) ≡ drop n xs ++ ys
drop_front zero xs ys h = refl
drop_front (suc n) [] ys h = absurd (omega arith)
drop_front (suc n) (x ∷ xs) ys h = drop_front n xs ys (omega arith)

-- the last of several lines is the rest, where that is one line
chunks_more : (k : ℕ) (bytes more : List ℕ) → length bytes ≡ 32 * k → length more ≤ 32
    → first_chunks 32 (suc k) (bytes ++ more) ≡ first_chunks 32 k bytes ++ more ∷ []
chunks_more zero [] more e h = ap (λ (l : List ℕ). l ∷ []) (take_all 32 more h)
chunks_more zero (b ∷ bytes) more e h = absurd (omega (arith, e))
chunks_more (suc k) bytes more e h =
    let long : 32 ≤ length bytes = omega (arith, e) in
    let len : length (drop 32 bytes) ≡ 32 * k = length-drop 32 bytes ∙ omega (arith, e) in
    λ i. take_front 32 bytes more long i ∷ (ap (first_chunks 32 (suc k)) (drop_front 32 bytes more long) ∙ chunks_more k (drop 32 bytes) more len h) i

-- bytes in full lines, and one line more
pub byte_lines-more : (bytes more : List ℕ) → length bytes % 32 ≡ 0 → 1 ≤ length more → length more ≤ 32 → byte_lines (bytes ++ more) ≡ byte_lines bytes ++ more ∷ []
byte_lines-more bytes more e some few =
    let k = length bytes / 32 in
    let len = length-append bytes more in
    let full : length bytes ≡ 32 * k = omega (arith, e) in
    let before : (length bytes + 31) / 32 ≡ k = omega (arith, full) in
    let after : (length (bytes ++ more) + 31) / 32 ≡ suc k = omega (arith, full, len) in
    ap (λ (m : ℕ). first_chunks 32 m (bytes ++ more)) after ∙ chunks_more k bytes more full few ∙ ap (λ (m : ℕ). first_chunks 32 m bytes ++ more ∷ []) (sym before)

-- ---- words

-- all words from an address on are 0
abbrev pub Zeros : ℕ → List ℕ → Type 0
Zeros a s = (i : ℕ) → a ≤ i → get_or s i 0 ≡ 0

-- they have no lines
pub no_words : (a : ℕ) (s : List ℕ) → Zeros 0 s → word_statements a s ≡ []
no_words a [] h = refl
no_words a (w ∷ s) h =
    let first : w ≡ 0 = h 0 (omega arith) in
    ap (λ (v : ℕ). word_statement a v ++ word_statements (a + 1) s) first ∙ no_words (a + 1) s (λ i le. h (suc i) (omega arith))

one_word : (a w : ℕ) → (w == 0) ≡ false → word_statement a w ≡ Word a w ∷ []
one_word a w h = rw h refl

-- a word that is set behind all others has its line behind theirs
pub words-more : (o a : ℕ) (s : List ℕ) (w : ℕ) → a < length s → (w == 0) ≡ false → Zeros a s → word_statements o (slice_set s a w) ≡ word_statements o s ++ Word (o + a) w ∷ []
words-more o a [] w lt h z = absurd (omega arith)
words-more o zero (v ∷ s) w lt h z =
    let first : v ≡ 0 = z 0 (omega arith) in
    let none = no_words (o + 1) s (λ i le. z (suc i) (omega arith)) in
    ap (λ (l : List Statement). l ++ word_statements (o + 1) s) (one_word o w h) ∙ ap (λ (l : List Statement). Word o w ∷ l) none
    ∙ ap (λ (l : List Statement). l ++ Word o w ∷ []) (sym none) ∙ ap (λ (u : ℕ). (word_statement o u ++ word_statements (o + 1) s) ++ Word o w ∷ []) (sym first)
    ∙ ap (λ (k : ℕ). (word_statement o v ++ word_statements (o + 1) s) ++ Word k w ∷ []) (sym (add-zero o))
words-more o (suc a) (v ∷ s) w lt h z =
    let at : o + 1 + a ≡ o + suc a = omega arith in
    ap (λ (l : List Statement). word_statement o v ++ l) (words-more (o + 1) a s w (omega arith) h (λ i le. z (suc i) (omega arith)))
    ∙ sym (append_assoc (word_statement o v) (word_statements (o + 1) s) (Word (o + 1 + a) w ∷ []))
    ∙ ap (λ (k : ℕ). (word_statement o v ++ word_statements (o + 1) s) ++ Word k w ∷ []) at

pub zeros-set : (a b : ℕ) (s : List ℕ) (w : ℕ) → Zeros a s → a ≤ b → Zeros (b + 1) (slice_set s b w)
zeros-set a b [] w z le i h = refl
zeros-set a zero (v ∷ s) w z le zero h = absurd (omega arith)
zeros-set a zero (v ∷ s) w z le (suc i) h = z (suc i) (omega arith)
zeros-set a (suc b) (v ∷ s) w z le zero h = absurd (omega arith)
zeros-set zero (suc b) (v ∷ s) w z le (suc i) h = zeros-set zero b s w (λ j k. z (suc j) (omega arith)) (omega arith) i (omega arith)
zeros-set (suc a) (suc b) (v ∷ s) w z le (suc i) h = zeros-set a b s w (λ j k. z (suc j) (omega arith)) (omega arith) i (omega arith)
