-- Words that are read from a text and written to a store, one by one.
use Rattle.std.proofs.Common.{◌≡◌, ℕ, ◌<◌, ◌≤◌, ◌+◌, Bool, true, false, Option, Some, None, nat_lt, List, [], ◌∷◌, ◌++◌, length, set, refl, subst, arith}
use Rattle.std.specs.Prelude.{IsSome}
use Rattle.std.proofs.lemmas.Bool.Decides.{nat_tests}
use Rattle.module_text.specs.Places.{bytes_in, next_word, span, token_end, token_start}
use Rattle.module_text.specs.Words.{word_of}
use Rattle.module_text.proofs.Spans.{start_inside}
use Rattle.module_text.specs.ReadingOn.{Reads, read}
use Rattle.module_text.specs.declared.tokens.NextWord.{NextWord}
use Rattle.module_text.proofs.ReadingOn.{reads_on}
use Rattle.word_store.specs.Row.{with_words}
use Rattle.kernel_lists.specs.HunkLoader.Private.Follow.{WordsFollow}

-- ---- a word is read

-- the word that was read is this one, it ends further on inside the text, and these are left
pub record WasRead (text : List ℕ) (place : ℕ) (r : NextWord) (w : ℕ) (ws : List ℕ) : Type 0 where
  pub word : r.word ≡ w
  pub rest : Reads text r.end ws
  pub further : place < r.end
  pub inside : r.end ≤ length text

pub some_word : (text : List ℕ) (place w : ℕ) (ws : List ℕ) → Reads text place (w ∷ ws) → IsSome (next_word text place)
some_word text place w ws h = rw (reads_on text place w ws h).next refl

pub was_read : (text : List ℕ) (place : ℕ) (r : NextWord) (w : ℕ) (ws : List ℕ) → Reads text place (w ∷ ws) → next_word text place ≡ Some r → WasRead text place r w ws
was_read text place r w ws h e =
    let on = reads_on text place w ws h in
    let same : read w on.end ≡ r = let f = on.next in cc in
    let P : NextWord → Type 0 = λ x. WasRead text place x w ws in
    subst P same (record { word = refl; rest = on.rest; further = on.further; inside = on.inside })

-- a word that is read ends further on, inside the text
further_by : (text : List ℕ) (place : ℕ) (r : NextWord) (b : Bool) (o : Option ℕ) → nat_lt (token_start text place) (length text) ≡ b
    → word_of (bytes_in text (span (token_start text place) (token_end text (token_start text place)))) ≡ o → next_word text place ≡ Some r → (place < r.end) × (r.end ≤ length text)
further_by text place r false o e f n = let k : next_word text place ≡ None = rw e refl in cc
further_by text place r true None e f n = let k : next_word text place ≡ None = rw (e, f) refl in cc
further_by text place r true (Some w) e f n =
    let start = token_start text place in
    let end = token_end text start in
    let k : next_word text place ≡ Some (read w end) = rw (e, f) refl in
    let same : read w end ≡ r = cc in
    let lt : start < length text = grind (arith, nat_tests) in
    let ends = start_inside text place lt in
    let P : NextWord → Type 0 = λ x. (place < x.end) × (x.end ≤ length text) in
    subst P same (omega (arith, ends.0), ends.1)

pub read_further : (text : List ℕ) (place : ℕ) (r : NextWord) → next_word text place ≡ Some r → (place < r.end) × (r.end ≤ length text)
read_further text place r n =
    further_by text place r (nat_lt (token_start text place) (length text)) (word_of (bytes_in text (span (token_start text place) (token_end text (token_start text place))))) refl refl n

-- ---- words are copied

-- what is left to copy gives the result
pub record CopyLeft (text s : List ℕ) (place at end : ℕ) (others result : List ℕ) : Type 0 where
  pub left : List ℕ
  pub follow : WordsFollow text place at end left others
  pub all : with_words s at left ≡ result

some_by : (text : List ℕ) (place at end : ℕ) (left others : List ℕ) → WordsFollow text place at end left others → at < end → IsSome (next_word text place)
some_by text place at end [] others f lt = absurd (omega (arith, f.fill))
some_by text place at end (w ∷ ws) others f lt = some_word text place w (ws ++ others) f.reads

pub copy_some : (text s : List ℕ) (place at end : ℕ) (others result : List ℕ) → CopyLeft text s place at end others result → at < end → IsSome (next_word text place)
copy_some text s place at end others result c lt = some_by text place at end c.left others c.follow lt

more_by : (text s : List ℕ) (place at end : ℕ) (left others result : List ℕ) (r : NextWord) → WordsFollow text place at end left others → with_words s at left ≡ result → at < end → next_word text place ≡ Some r
    → CopyLeft text (set s at r.word) r.end (at + 1) end others result
more_by text s place at end [] others result r f e lt n = absurd (omega (arith, f.fill))
more_by text s place at end (w ∷ ws) others result r f e lt n =
    let k = was_read text place r w (ws ++ others) f.reads n in
    record { left = ws; follow = record { reads = k.rest; fill = omega (arith, f.fill) }; all = rw k.word e }

pub copy_more : (text s : List ℕ) (place at end : ℕ) (others result : List ℕ) (r : NextWord) → CopyLeft text s place at end others result → at < end → next_word text place ≡ Some r
    → CopyLeft text (set s at r.word) r.end (at + 1) end others result
copy_more text s place at end others result r c lt n = more_by text s place at end c.left others result r c.follow c.all lt n

done_by : (text s : List ℕ) (place at end : ℕ) (left others result : List ℕ) → WordsFollow text place at end left others → with_words s at left ≡ result → end ≤ at → (s ≡ result) × Reads text place others
done_by text s place at end [] others result f e le = (e, f.reads)
done_by text s place at end (w ∷ ws) others result f e le = absurd (omega (arith, f.fill))

pub copy_done : (text s : List ℕ) (place at end : ℕ) (others result : List ℕ) → CopyLeft text s place at end others result → end ≤ at → (s ≡ result) × Reads text place others
copy_done text s place at end others result c le = done_by text s place at end c.left others result c.follow c.all le
