-- Statements as a text, one after another.
use Rattle.std.proofs.Common.{◌≡◌, ◌∙◌, ℕ, suc, ◌+◌, ◌-◌, ◌*◌, ◌/◌, ◌<◌, ◌≤◌, ◌==◌, if◌then◌else◌, false, Option, None, List, [], ◌∷◌, ◌++◌, length, map, min, take, drop, get_or, refl, sym, ap, arith, append-nil, drop-cons, add-one}
use Rattle.std.specs.Prelude.{slice_index_or, slice_range}
use Rattle.std.specs.List.{flat_map}
use Rattle.std.specs.Simd.{first_chunks}
use Rattle.std.proofs.lemmas.Bool.{ne_eqb}
use Rattle.std.proofs.lemmas.List.{drop-drop, drop_all, length-drop, map-append, take_min}
use Rattle.session_text.proofs.PrintedTexts.{text_of_lines-append}
use Rattle.saved_text.specs.SavedLines.Canonical.{statement_text}
use Rattle.saved_text.specs.SavedLines.Statements.{Statement, Bytes}
use Rattle.saved_text.specs.ImageForm.{key_statement, pipe_statement, stream_statement, word_statement, word_statements}
use Rattle.ram_disc.specs.Disc.{Disc, stream_at}
use Rattle.kernel_model.specs.KernelRecord.Kernel.{Pipe}
use Rattle.saved_machine.specs.ImagePrint.SavedImage.{at_place, with_places, saved_pipe, saved_stream}
use Rattle.saved_machine.specs.ImagePrint.Private.Texts.{statements_text}
use Rattle.saved_machine.proofs.ImagePrint.NumberedPlaces.{numbered-step}

pub statements_text-append : (a b : List Statement) → statements_text (a ++ b) ≡ statements_text a ++ statements_text b
statements_text-append a b =
    let lines = ap (λ (ls : List (List ℕ)). statements_text [] ++ flat_map (λ line. line ++ 10 ∷ []) ls) (map-append statement_text a b) in
    lines ∙ text_of_lines-append (map statement_text a) (map statement_text b)

-- one of them
pub one_statement : (s : Statement) → statements_text (s ∷ []) ≡ statement_text s ++ 10 ∷ []
one_statement s = append-nil (statement_text s ++ 10 ∷ [])

-- ---- keys

pub keys-at : (keys : List (ℕ × ℕ)) (i : ℕ) (d : ℕ × ℕ) → i < length keys
    → statements_text (map key_statement (drop i keys))
    ≡ (statement_text (key_statement (get_or keys i d)) ++ 10 ∷ []) ++ statements_text (map key_statement (drop (i + 1) keys))
keys-at keys i d lt = rw (drop-cons keys i d lt, add-one) refl

-- ---- words

pub words-at : (words : List ℕ) (a : ℕ) → a < length words
    → statements_text (word_statements a (drop a words))
    ≡ statements_text (word_statement a (get_or words a 0)) ++ statements_text (word_statements (a + 1) (drop (a + 1) words))
words-at words a lt =
    let next : word_statements a (drop a words) ≡ word_statement a (get_or words a 0) ++ word_statements (a + 1) (drop (a + 1) words) = rw (drop-cons words a 0 lt, add-one) refl in
    ap statements_text next ∙ statements_text-append (word_statement a (get_or words a 0)) (word_statements (a + 1) (drop (a + 1) words))

-- ---- the bytes of a file

-- the lines of the bytes from line i on
abbrev pub lines_from : ℕ → List ℕ → List ℕ
lines_from i bytes = statements_text (map (λ line. Bytes line) (first_chunks 32 ((length bytes + 31) / 32 - i) (drop (32 * i) bytes)))

pub lines-at : (bytes : List ℕ) (i : ℕ) → i < (length bytes + 31) / 32
    → lines_from i bytes ≡ (statement_text (Bytes (take 32 (drop (32 * i) bytes))) ++ 10 ∷ []) ++ lines_from (i + 1) bytes
lines-at bytes i lt =
    let n = (length bytes + 31) / 32 in
    let left : n - i ≡ suc (n - (i + 1)) = omega (arith, lt) in
    let place : 32 * i + 32 ≡ 32 * (i + 1) = omega arith in
    ap (λ (k : ℕ). statements_text (map (λ line. Bytes line) (first_chunks 32 k (drop (32 * i) bytes)))) left
    ∙ ap (λ (xs : List ℕ). (statement_text (Bytes (take 32 (drop (32 * i) bytes))) ++ 10 ∷ []) ++ statements_text (map (λ line. Bytes line) (first_chunks 32 (n - (i + 1)) xs)))
    (drop-drop 32 (32 * i) bytes ∙ ap (λ (k : ℕ). drop k bytes) place)

-- the bytes of line i
pub line-range : (bytes : List ℕ) (i : ℕ) → slice_range bytes (32 * i) (32 * i + min 32 (length bytes - 32 * i)) ≡ take 32 (drop (32 * i) bytes)
line-range bytes i =
    let from = 32 * i in
    let few : from + min 32 (length bytes - from) - from ≡ min 32 (length (drop from bytes)) = ap (λ (n : ℕ). from + min 32 n - from) (sym (length-drop from bytes)) ∙ omega arith in
    ap (λ (n : ℕ). take n (drop from bytes)) few ∙ take_min 32 (drop from bytes)

-- ---- streams and pipes

-- what is at place k, and at those behind it
numbered-at : {A B : Type 0} (f : ℕ → A → B) (statement : B → Statement) (xs : List (Option A)) (k : ℕ) → 0 < k
    → statements_text (map statement (with_places f k (drop (k - 1) xs)))
    ≡ statements_text (map statement (at_place f k (if k == 0 then None else slice_index_or xs (k - 1) None)))
    ++ statements_text (map statement (with_places f (k + 1) (drop (k + 1 - 1) xs)))
numbered-at f statement xs k low =
    let some : (k == 0) ≡ false = ne_eqb k 0 (λ e. omega (arith, low, e)) in
    let next : suc (k - 1) ≡ k + 1 - 1 = omega (arith, low) in
    let here = at_place f k (slice_index_or xs (k - 1) None) in
    let others = with_places f (k + 1) (drop (suc (k - 1)) xs) in
    ap (λ ys. statements_text (map statement ys)) (numbered-step f k (k - 1) xs)
    ∙ ap statements_text (map-append statement here others) ∙ statements_text-append (map statement here) (map statement others)
    ∙ ap (λ b. statements_text (map statement (at_place f k (if b then None else slice_index_or xs (k - 1) None))) ++ statements_text (map statement others)) (sym some)
    ∙ ap (λ (n : ℕ). statements_text (map statement (at_place f k (if k == 0 then None else slice_index_or xs (k - 1) None))) ++ statements_text (map statement (with_places f (k + 1) (drop n xs)))) next

pub streams-at : (d : Disc) (k : ℕ) → 0 < k
    → statements_text (map stream_statement (with_places saved_stream k (drop (k - 1) d.streams)))
    ≡ statements_text (map stream_statement (at_place saved_stream k (stream_at d k)))
    ++ statements_text (map stream_statement (with_places saved_stream (k + 1) (drop (k + 1 - 1) d.streams)))
streams-at d k low = numbered-at saved_stream stream_statement d.streams k low

pub pipes-at : (ps : List (Option Pipe)) (k : ℕ) → 0 < k
    → statements_text (map pipe_statement (with_places saved_pipe k (drop (k - 1) ps)))
    ≡ statements_text (map pipe_statement (at_place saved_pipe k (if k == 0 then None else slice_index_or ps (k - 1) None)))
    ++ statements_text (map pipe_statement (with_places saved_pipe (k + 1) (drop (k + 1 - 1) ps)))
pipes-at ps k low = numbered-at saved_pipe pipe_statement ps k low
