-- The words of a text, read one after another.
use Rattle.std.proofs.Common.{◌≡◌, ℕ, ◌<◌, Bool, true, false, Some, None, List, [], ◌∷◌, length, refl, arith, nat_lt}
use Rattle.std.proofs.lemmas.Bool.Decides.{nat_tests}
use Rattle.module_text.specs.Tokens.{tokens_of}
use Rattle.module_text.specs.Places.{bytes_in, next_span, next_word, span, token_end, token_start}
use Rattle.module_text.specs.ModuleForm.{AreWords}
use Rattle.module_text.specs.ReadingOn.{Reads, ReadsOn}
use Rattle.module_text.proofs.Spans.{no_token, some_token, start_inside}
use Rattle.module_text.proofs.TextReader.NumberLemmas.{number_in-again}

-- ---- a word is left

next_by : (text : List ℕ) (place w : ℕ) (ws : List ℕ) (b : Bool) → nat_lt (token_start text place) (length text) ≡ b → Reads text place (w ∷ ws) → ReadsOn text place w ws
next_by text place w ws true e h =
    let start = token_start text place in
    let t = span start (token_end text start) in
    let lt : start < length text = grind (arith, nat_tests) in
    let found : next_span text place ≡ Some t = rw e refl in
    let words = rw (some_token text place t found) at h in
    let ends = start_inside text place lt in
    record {
      end = t.end;
      next = rw (found, number_in-again 16 8 (bytes_in text t) w words.0) refl;
      further = omega (arith, ends.0);
      inside = ends.1;
      rest = words.1;
    }
next_by text place w ws false e h =
    let none : next_span text place ≡ None = rw e refl in
    absurd (rw (no_token text place none) at h)

pub reads_on : (text : List ℕ) (place w : ℕ) (ws : List ℕ) → Reads text place (w ∷ ws) → ReadsOn text place w ws
reads_on text place w ws h = next_by text place w ws (nat_lt (token_start text place) (length text)) refl h

-- ---- none is left

none_by : (text : List ℕ) (place : ℕ) (b : Bool) → nat_lt (token_start text place) (length text) ≡ b → Reads text place [] → next_word text place ≡ None
none_by text place true e h =
    let start = token_start text place in
    let t = span start (token_end text start) in
    let found : next_span text place ≡ Some t = rw e refl in
    absurd (rw (some_token text place t found) at h)
none_by text place false e h = rw e refl

pub reads_none : (text : List ℕ) (place : ℕ) → Reads text place [] → next_word text place ≡ None
reads_none text place h = none_by text place (nat_lt (token_start text place) (length text)) refl h

-- ---- from the first token on

pub reads_all : (text words : List ℕ) → AreWords (tokens_of text) words → Reads text 0 words
reads_all text words h = h
