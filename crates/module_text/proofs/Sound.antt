-- What is read is a module's text.
use Rattle.std.proofs.Common.{◌≡◌, ◌∙◌, ℕ, ◌<◌, ◌-◌, ◌+◌, ◌==◌, Bool, true, false, cond, Result, Ok, Err, List, [], ◌∷◌, ◌++◌, length, refl, sym, ap, subst, arith, append_assoc, nat_lt}
use Rattle.std.specs.List.{AllByRecursion, concat}
use Rattle.std.proofs.lemmas.Bool.{eqb-true}
use Rattle.std.proofs.lemmas.Bool.Decides.{nat_tests}
use Rattle.module_text.specs.Tokens.{tokens_of}
use Rattle.module_text.specs.Grammar.{first_type, follow, offsets_or_type, words_or_type}
use Rattle.module_text.specs.ModuleForm.{AreHunks, IsModule, end_word, hunk_type, item, relocation_items, relocation_type}
use Rattle.module_text.specs.ModuleOfText.{Rest, Stop, hunk, module_of, module_or_refusal, put, rest, rest_of}
use Rattle.module_text.specs.TextReader.Steps.{◌>>=◌}
use Rattle.module_text.specs.declared.modules.Hunk.{Hunk}
use Rattle.module_text.specs.declared.modules.Module.{Module}
use Rattle.module_text.specs.declared.grammar.Expects.{Expects}
use Rattle.module_text.specs.declared.grammar.Expects.TheVariants.{FirstType, NextType, Length, Word, Count, Offset, Nothing}
use Rattle.module_text.proofs.TextReader.StepLemmas.{Ok-same, bind-ok}
use Rattle.module_text.proofs.Runs.{run, tokens_ok}

-- The words are these offsets, relocation lists, and further hunks with the end word. All offsets lie inside a hunk of
-- n words.
pub record AreItems (n : ℕ) (offsets ws relocations : List ℕ) (hunks : List Hunk) : Type 0 where
  pub lists : List (List ℕ)
  pub behind : List ℕ
  pub all : ws ≡ offsets ++ (relocation_items lists ++ behind)
  pub joined : relocations ≡ offsets ++ concat lists
  pub inside : AllByRecursion (λ o. o < n) relocations
  pub more : AreHunks hunks behind

-- the words are those of the hunk that is being read, of which so many are left, and its relocation lists and more
abbrev pub AreWordsLeft : ℕ → ℕ → List ℕ → Rest → Type 0
AreWordsLeft left n ws r = (behind : List ℕ) × (ws ≡ r.words ++ behind) × (length r.words ≡ left) × AreItems n [] behind r.relocations r.hunks

-- the words are offsets, of which so many are left, and further relocation lists and more
abbrev pub AreOffsetsLeft : ℕ → ℕ → List ℕ → Rest → Type 0
AreOffsetsLeft left n ws r = (offsets : List ℕ) × (r.words ≡ []) × (length offsets ≡ left) × AreItems n offsets ws r.relocations r.hunks

-- the words begin with the number of offsets
abbrev pub AreCountAndOffsets : ℕ → List ℕ → Rest → Type 0
AreCountAndOffsets n ws r = (count : ℕ) × (rest_words : List ℕ) × (ws ≡ count ∷ rest_words) × AreOffsetsLeft count n rest_words r

-- what the words are, by what is expected
abbrev pub Form : Expects → List ℕ → Rest → Type 0
Form FirstType ws r = (r.words ≡ []) × (r.relocations ≡ []) × AreHunks r.hunks ws
Form (NextType n) ws r = (r.words ≡ []) × AreItems n [] ws r.relocations r.hunks
Form Length ws r = (r.words ≡ []) × (r.relocations ≡ []) × AreHunks r.hunks (hunk_type ∷ ws)
Form (Word more n) ws r = AreWordsLeft (more + 1) n ws r
Form (Count n) ws r = AreCountAndOffsets n ws r
Form (Offset more n) ws r = AreOffsetsLeft (more + 1) n ws r
Form Nothing ws r = (ws ≡ []) × (rest [] [] [] ≡ r)

-- ---- so many words or offsets, then a type

words_by : (left n : ℕ) (ws : List ℕ) (r : Rest) (b : Bool) → (left == 0) ≡ b → Form (cond b (NextType n) (Word (left - 1) n)) ws r → AreWordsLeft left n ws r
words_by left n ws r true e h = (ws, rw h.0 refl, rw h.0 (sym (eqb-true left 0 e)), h.1)
words_by left n ws r false e h = let some : left - 1 + 1 ≡ left = grind (arith, nat_tests) in (h.0, h.1, h.2 ∙ some, h.3)

words_left : (left n : ℕ) (ws : List ℕ) (r : Rest) → Form (words_or_type left n) ws r → AreWordsLeft left n ws r
words_left left n ws r h = words_by left n ws r (left == 0) refl h

offsets_by : (left n : ℕ) (ws : List ℕ) (r : Rest) (b : Bool) → (left == 0) ≡ b → Form (cond b (NextType n) (Offset (left - 1) n)) ws r → AreOffsetsLeft left n ws r
offsets_by left n ws r true e h = ([], h.0, sym (eqb-true left 0 e), h.1)
offsets_by left n ws r false e h = let some : left - 1 + 1 ≡ left = grind (arith, nat_tests) in (h.0, h.1, h.2 ∙ some, h.3)

offsets_left : (left n : ℕ) (ws : List ℕ) (r : Rest) → Form (offsets_or_type left n) ws r → AreOffsetsLeft left n ws r
offsets_left left n ws r h = offsets_by left n ws r (left == 0) refl h

-- ---- one word more

abbrev refused : ℕ → Result Expects ℕ
refused code = Err code

-- the form of the words after a word, where what is expected there is known
then_form : (e next : Expects) (ws : List ℕ) (r : Rest) → e ≡ next → Form next ws r → Form e ws r
then_form e next ws r same h = subst (λ (x : Expects). Form x ws r) (sym same) h

first_form_by : (w : ℕ) (next : Expects) (ws : List ℕ) (r : Rest) (is_hunk is_end : Bool) → (w == hunk_type) ≡ is_hunk → (w == end_word) ≡ is_end
    → cond is_hunk (Ok Length) (cond is_end (Ok Nothing) (refused 3)) ≡ Ok next → Form next ws r → (r.words ≡ []) × (r.relocations ≡ []) × AreHunks r.hunks (w ∷ ws)
first_form_by w next ws r true is_end a b e h = rw (eqb-true w hunk_type a) (then_form Length next ws r (Ok-same Length next e) h)
first_form_by w next ws r false true a b e h =
    let k = then_form Nothing next ws r (Ok-same Nothing next e) h in
    let P : Rest → Type 0 = λ q. (q.words ≡ []) × (q.relocations ≡ []) × AreHunks q.hunks (w ∷ ws) in
    subst P k.1 (refl, refl, rw (k.0, eqb-true w end_word b) refl)
first_form_by w next ws r false false a b e h = cc e

first_form : (w : ℕ) (next : Expects) (ws : List ℕ) (r : Rest) → first_type w ≡ Ok next → Form next ws r → (r.words ≡ []) × (r.relocations ≡ []) × AreHunks r.hunks (w ∷ ws)
first_form w next ws r e h = first_form_by w next ws r (w == hunk_type) (w == end_word) refl refl e h

-- a relocation list before others
list_form : (n : ℕ) (ws : List ℕ) (r : Rest) → AreCountAndOffsets n ws r → (r.words ≡ []) × AreItems n [] (relocation_type ∷ ws) r.relocations r.hunks
list_form n ws r h =
    let items = h.3.3 in
    let offsets = h.3.0 in (
      h.3.1,
      record {
        lists = offsets ∷ items.lists;
        behind = items.behind;
        all = rw (h.2, ← h.3.2, items.all) (ap (λ (xs : List ℕ). relocation_type ∷ length offsets ∷ xs) (sym (append_assoc offsets (relocation_items items.lists) items.behind)));
        joined = items.joined;
        inside = items.inside;
        more = items.more;
      },
    )

next_form_by : (n w : ℕ) (next : Expects) (ws : List ℕ) (r : Rest) (b : Bool) → (w == relocation_type) ≡ b → cond b (Ok (Count n)) (first_type w) ≡ Ok next → Form next ws r
    → (r.words ≡ []) × AreItems n [] (w ∷ ws) r.relocations r.hunks
next_form_by n w next ws r true a e h = rw (eqb-true w relocation_type a) (list_form n ws r (then_form (Count n) next ws r (Ok-same (Count n) next e) h))
next_form_by n w next ws r false a e h =
    let k = first_form w next ws r e h in
    (k.0, record { lists = []; behind = w ∷ ws; all = refl; joined = k.1; inside = rw k.1 tt; more = k.2 })

-- a hunk, from its length on
length_form : (w : ℕ) (ws : List ℕ) (r : Rest) → AreWordsLeft w w ws r → AreHunks (hunk r.words r.relocations ∷ r.hunks) (hunk_type ∷ w ∷ ws)
length_form w ws r h =
    let items = h.3 in (
      item hunk_type r.words ++ relocation_items items.lists,
      items.behind,
      rw (h.1, h.2, items.all) (ap (λ (xs : List ℕ). hunk_type ∷ w ∷ xs) (sym (append_assoc r.words (relocation_items items.lists) items.behind))),
      record { lists = items.lists; all = refl; offsets = items.joined; inside = rw h.2 items.inside },
      items.more,
    )

-- a word of a hunk
word_form : (more n w : ℕ) (ws : List ℕ) (r : Rest) → AreWordsLeft more n ws r → AreWordsLeft (more + 1) n (w ∷ ws) (rest (w ∷ r.words) r.relocations r.hunks)
word_form more n w ws r h = (h.0, ap (λ (xs : List ℕ). w ∷ xs) h.1, omega (arith, h.2), h.3)

-- an offset
offset_form : (more n w : ℕ) (ws : List ℕ) (r : Rest) → w < n → AreOffsetsLeft more n ws r → AreOffsetsLeft (more + 1) n (w ∷ ws) (rest r.words (w ∷ r.relocations) r.hunks)
offset_form more n w ws r lt h =
    let items = h.3 in (
      w ∷ h.0,
      h.1,
      omega (arith, h.2),
      record {
        lists = items.lists;
        behind = items.behind;
        all = ap (λ (xs : List ℕ). w ∷ xs) items.all;
        joined = ap (λ (xs : List ℕ). w ∷ xs) items.joined;
        inside = (lt, items.inside);
        more = items.more;
      },
    )

offset_by : (more n w : ℕ) (next : Expects) (ws : List ℕ) (r : Rest) (b : Bool) → nat_lt w n ≡ b → cond b (Ok (offsets_or_type more n)) (refused 4) ≡ Ok next → Form next ws r
    → AreOffsetsLeft (more + 1) n (w ∷ ws) (rest r.words (w ∷ r.relocations) r.hunks)
offset_by more n w next ws r true a e h =
    let lt : w < n = grind (arith, nat_tests) in
    offset_form more n w ws r lt (offsets_left more n ws r (then_form (offsets_or_type more n) next ws r (Ok-same (offsets_or_type more n) next e) h))
offset_by more n w next ws r false a e h = cc e

pub form_more : (e : Expects) (w : ℕ) (next : Expects) (ws : List ℕ) (r : Rest) → follow e w ≡ Ok next → Form next ws r → Form e (w ∷ ws) (put e w r)
form_more FirstType w next ws r e h = first_form w next ws r e h
form_more (NextType n) w next ws r e h = next_form_by n w next ws r (w == relocation_type) refl e h
form_more Length w next ws r e h = (refl, refl, length_form w ws r (words_left w w ws r (then_form (words_or_type w w) next ws r (Ok-same (words_or_type w w) next e) h)))
form_more (Word more n) w next ws r e h = word_form more n w ws r (words_left more n ws r (then_form (words_or_type more n) next ws r (Ok-same (words_or_type more n) next e) h))
form_more (Count n) w next ws r e h = (w, ws, refl, offsets_left w n ws r (then_form (offsets_or_type w n) next ws r (Ok-same (offsets_or_type w n) next e) h))
form_more (Offset more n) w next ws r e h = offset_by more n w next ws r (nat_lt w n) refl e h
form_more Nothing w next ws r e h = cc e

-- ---- all words

form_none : (e : Expects) (r : Rest) → run e [] ≡ Ok r → Form e [] r
form_none FirstType r h = cc h
form_none (NextType n) r h = cc h
form_none Length r h = cc h
form_none (Word more n) r h = cc h
form_none (Count n) r h = cc h
form_none (Offset more n) r h = cc h
form_none Nothing r h = (refl, Ok-same (rest [] [] []) r h)

pub form : (e : Expects) (ws : List ℕ) (r : Rest) → run e ws ≡ Ok r → Form e ws r
form e [] r h = form_none e r h
form e (w ∷ ws) r h =
    let a = bind-ok (follow e w) (λ next. run next ws >>= λ q. Ok (put e w q)) r h in
    let b = bind-ok (run a.0 ws) (λ q. Ok (put e w q)) r a.2 in
    let P : Rest → Type 0 = λ q. Form e (w ∷ ws) q in
    subst P (Ok-same (put e w b.0) r b.2) (form_more e w a.0 ws b.0 a.1 (form a.0 ws b.0 b.1))

sound_by : (text : List ℕ) (m : Module) (r : Result Rest Stop) → rest_of FirstType (length text) (tokens_of text) ≡ r → module_or_refusal text r ≡ Ok m → IsModule text m
sound_by text m (Err s) e h = cc h
sound_by text m (Ok r) e h =
    let k = tokens_ok FirstType (length text) (tokens_of text) r e in
    let f = form FirstType k.0 r k.2 in
    let same : record { hunks = r.hunks } ≡ m = Ok-same (record { hunks = r.hunks }) m h in
    let P : Module → Type 0 = λ x. IsModule text x in
    subst P same (k.0, k.1, f.2)

pub sound : (text : List ℕ) (m : Module) → module_of text ≡ Ok m → IsModule text m
unfolding module_of
sound text m h = sound_by text m (rest_of FirstType (length text) (tokens_of text)) refl h
