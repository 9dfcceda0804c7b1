-- A printed text is the module's text.
use Rattle.std.proofs.Common.{◌≡◌, ◌∙◌, ℕ, suc, ◌<◌, ◌+◌, ◌%◌, ◌^◌, ◌==◌, ◌||◌, Bool, true, false, cond, Ok, List, [], ◌∷◌, ◌++◌, length, refl, sym, ap, subst, arith, append_assoc, append-nil, lit<}
use Rattle.std.specs.List.{AllByRecursion, concat, flat_map}
use Rattle.byte_streams.specs.Pieces.{hex_digits_of}
use Rattle.module_text.specs.Tokens.{is_blank, onto_first_token, tokens_from}
use Rattle.module_text.specs.Words.{IsWord}
use Rattle.module_text.specs.ModuleForm.{AreHunks, AreWords, end_word, hunk_type, item, relocation_items, relocation_type}
use Rattle.module_text.specs.ModuleOfText.{module_of}
use Rattle.module_text.specs.Canonical.{HasWords, IsPrintable, IsPrintableHunk, after_word, end_text, head_text, item_text, printed, relocations_text, text_of_hunk, words_text}
use Rattle.module_text.specs.declared.modules.Hunk.{Hunk}
use Rattle.module_text.specs.declared.modules.Module.{Module}
use Rattle.module_text.proofs.Spans.{token_of}
use Rattle.module_text.proofs.Hex.{hex_word, no_blanks}
use Rattle.module_text.proofs.Complete.{complete}

-- the tokens of the text are the words, at whatever place it is
abbrev pub Reads : List ℕ → List ℕ → Type 0
Reads text words = (n : ℕ) → AreWords (tokens_from n text) words

-- bytes that are no blanks are one token, before a blank
token_then : (n d : ℕ) (ds : List ℕ) (c : ℕ) (text : List ℕ) → AllByRecursion (λ x. is_blank x ≡ false) (d ∷ ds) → is_blank c ≡ true
    → tokens_from n ((d ∷ ds) ++ c ∷ text) ≡ token_of n (d ∷ ds) ∷ tokens_from (n + length (d ∷ ds)) (c ∷ text)
token_then n d [] c text h e = rw (h.0, e) refl
token_then n d (k ∷ ds) c text h e =
    let same : n + 1 + suc (length ds) ≡ n + suc (suc (length ds)) = omega arith in
    rw (h.0, h.1.0) (ap (onto_first_token n d) (rw h.1.0 at (token_then (n + 1) k ds c text h.1 e)) ∙ ap (λ (m : ℕ). token_of n (d ∷ k ∷ ds) ∷ tokens_from m (c ∷ text)) same)

reads_bytes : (d : ℕ) (ds : List ℕ) (c w : ℕ) (text ws : List ℕ) → AllByRecursion (λ x. is_blank x ≡ false) (d ∷ ds) → IsWord (d ∷ ds) w → is_blank c ≡ true → Reads text ws
    → Reads ((d ∷ ds) ++ c ∷ text) (w ∷ ws)
reads_bytes d ds c w text ws h is e next = λ n. rw (token_then n d ds c text h e, e) (is, next (n + length (d ∷ ds) + 1))

reads_digits : (digits : List ℕ) (c w : ℕ) (text ws : List ℕ) → AllByRecursion (λ x. is_blank x ≡ false) digits → IsWord digits w → is_blank c ≡ true → Reads text ws → Reads (digits ++ c ∷ text) (w ∷ ws)
reads_digits [] c w text ws h is e next = let none = is.numeral.0 in absurd (omega arith)
reads_digits (d ∷ ds) c w text ws h is e next = reads_bytes d ds c w text ws h is e next

-- a word in hex and a blank
reads_word : (c w : ℕ) (text ws : List ℕ) → w < 2 ^ 32 → is_blank c ≡ true → Reads text ws → Reads (hex_digits_of w ++ c ∷ text) (w ∷ ws)
reads_word c w text ws lt e next = reads_digits (hex_digits_of w) c w text ws (no_blanks w) (hex_word w lt) e next

-- ---- the words of an item

-- what is after a word is a blank
after_by : (b : Bool) → (c : ℕ) × (cond b (10 ∷ []) (32 ∷ []) ≡ c ∷ []) × (is_blank c ≡ true)
after_by true = (10, refl, refl)
after_by false = (32, refl, refl)

after_blank : (i n : ℕ) → (c : ℕ) × (after_word i n ≡ c ∷ []) × (is_blank c ≡ true)
after_blank i n = after_by ((i % 8 == 7) || (i + 1 == n))

abbrev AreWordsOf32 : List ℕ → Type 0
AreWordsOf32 ws = AllByRecursion (λ w. w < 2 ^ 32) ws

reads_words : (i n : ℕ) (xs text ws : List ℕ) → AreWordsOf32 xs → Reads text ws → Reads (words_text i n xs ++ text) (xs ++ ws)
reads_words i n [] text ws h next = next
reads_words i n (x ∷ xs) text ws h next =
    let after = after_blank i n in
    let more = reads_words (i + 1) n xs text ws h.1 next in
    let one = reads_word after.0 x (words_text (i + 1) n xs ++ text) (xs ++ ws) h.0 after.2 more in
    let hex = hex_digits_of x in
    let same : words_text i n (x ∷ xs) ++ text ≡ hex ++ after.0 ∷ (words_text (i + 1) n xs ++ text) =
    rw (after.1, append_assoc (hex ++ after.0 ∷ []) (words_text (i + 1) n xs) text, append_assoc hex (after.0 ∷ []) (words_text (i + 1) n xs ++ text)) refl in
    rw same one

reads_item : (type : ℕ) (xs text ws : List ℕ) → type < 2 ^ 32 → length xs < 2 ^ 32 → AreWordsOf32 xs → Reads text ws → Reads (item_text type xs ++ text) (item type xs ++ ws)
reads_item type xs text ws low short h next =
    let n = length xs in
    let words = words_text 0 n xs ++ text in
    let count = reads_word 10 n words (xs ++ ws) short refl (reads_words 0 n xs text ws h next) in
    let all = reads_word 32 type (hex_digits_of n ++ 10 ∷ words) (n ∷ (xs ++ ws)) low refl count in
    let same : item_text type xs ++ text ≡ hex_digits_of type ++ 32 ∷ (hex_digits_of n ++ 10 ∷ words) =
    rw (
      append_assoc (head_text type n) (words_text 0 n xs) text,
      append_assoc (hex_digits_of type) (32 ∷ (hex_digits_of n ++ 10 ∷ [])) words,
      append_assoc (hex_digits_of n) (10 ∷ []) words,
    ) refl in
    rw same all

-- ---- hunks

-- the relocation lists that are printed: one, if there are relocations
abbrev lists_of : List ℕ → List (List ℕ)
lists_of [] = []
lists_of (o ∷ os) = (o ∷ os) ∷ []

concat_lists : (offsets : List ℕ) → offsets ≡ concat (lists_of offsets)
concat_lists [] = refl
concat_lists (o ∷ os) = sym (append-nil (o ∷ os))

small_offsets : (n : ℕ) (offsets : List ℕ) → n < 2 ^ 30 → AllByRecursion (λ o. o < n) offsets → AreWordsOf32 offsets
small_offsets n [] small h = tt
small_offsets n (o ∷ os) small h = let lt : o < n = h.0 in (omega arith, small_offsets n os small h.1)

reads_relocations : (offsets text ws : List ℕ) → length offsets < 2 ^ 32 → AreWordsOf32 offsets → Reads text ws → Reads (relocations_text offsets ++ text) (relocation_items (lists_of offsets) ++ ws)
reads_relocations [] text ws short h next = next
reads_relocations (o ∷ os) text ws short h next =
    let P : List ℕ → Type 0 = λ xs. Reads (item_text relocation_type (o ∷ os) ++ text) (xs ++ ws) in
    subst P (sym (append-nil (item relocation_type (o ∷ os)))) (reads_item relocation_type (o ∷ os) text ws (lit< tt) short h next)

abbrev hunk_words : Hunk → List ℕ
hunk_words h = item hunk_type h.words ++ relocation_items (lists_of h.relocations)

reads_hunk : (h : Hunk) (text ws : List ℕ) → IsPrintableHunk h → AreWordsOf32 h.words → Reads text ws → Reads (text_of_hunk h ++ text) (hunk_words h ++ ws)
reads_hunk h text ws fits words next =
    let few = fits.words in
    let more = reads_relocations h.relocations text ws fits.relocations (small_offsets (length h.words) h.relocations few fits.inside) next in
    let all = reads_item hunk_type h.words (relocations_text h.relocations ++ text) (relocation_items (lists_of h.relocations) ++ ws) (lit< tt) (omega arith) words more in
    rw (append_assoc (item_text hunk_type h.words) (relocations_text h.relocations) text, append_assoc h.words (relocation_items (lists_of h.relocations)) ws) all

-- the words of all hunks, and the end word
abbrev all_words : List Hunk → List ℕ
all_words [] = end_word ∷ []
all_words (h ∷ hs) = hunk_words h ++ all_words hs

reads_hunks : (hs : List Hunk) → AllByRecursion IsPrintableHunk hs → AllByRecursion (λ h. AllByRecursion (λ w. w < 2 ^ 32) h.words) hs → Reads (flat_map text_of_hunk hs ++ end_text) (all_words hs)
reads_hunks [] fits words = reads_word 10 end_word [] [] (lit< tt) refl (λ n. tt)
reads_hunks (h ∷ hs) fits words =
    let more = reads_hunks hs fits.1 words.1 in
    rw (append_assoc (text_of_hunk h) (flat_map text_of_hunk hs) end_text) (reads_hunk h (flat_map text_of_hunk hs ++ end_text) (all_words hs) fits.0 words.0 more)

are_hunks : (hs : List Hunk) → AllByRecursion IsPrintableHunk hs → AreHunks hs (all_words hs)
are_hunks [] fits = refl
are_hunks (h ∷ hs) fits = (hunk_words h, all_words hs, refl, record { lists = lists_of h.relocations; all = refl; offsets = concat_lists h.relocations; inside = fits.0.inside }, are_hunks hs fits.1)

pub printed_again : (m : Module) → IsPrintable m → HasWords m → module_of (printed m) ≡ Ok m
unfolding printed
printed_again m fits words = complete (flat_map text_of_hunk m.hunks ++ end_text) m (all_words m.hunks, reads_hunks m.hunks fits words 0, are_hunks m.hunks fits)
