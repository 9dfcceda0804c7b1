-- What is expected after words that were read, and what this says of them.
use Rattle.std.proofs.Common.{◌≡◌, ◌∙◌, ℕ, zero, suc, ◌<◌, ◌-◌, ◌+◌, ◌==◌, Bool, true, false, cond, ◌⊎◌, inl, inr, Result, Ok, Err, List, [], ◌∷◌, ◌++◌, length, length-append, refl, sym, ap, subst, arith, append_assoc, append-nil, nat_lt}
use Rattle.std.specs.List.{AllByRecursion}
use Rattle.std.proofs.lemmas.Bool.{eqb-true}
use Rattle.std.proofs.lemmas.Bool.Decides.{nat_tests}
use Rattle.module_text.proofs.TextReader.StepLemmas.{Ok-same, bind-ok, cond-cases}
use Rattle.module_text.specs.FirstError.{BeginModule, IsBegun, IsInsideItem, IsOffsetDue, IsTypeDue, IsWhole}
use Rattle.module_text.specs.Grammar.{finish, first_type, follow, offsets_or_type, words_or_type}
use Rattle.module_text.specs.ModuleForm.{end_word, hunk_type, item, relocation_type}
use Rattle.module_text.specs.ModuleOfText.{Rest, hunk, put, rest}
use Rattle.module_text.specs.TextReader.Steps.{◌>>=◌}
use Rattle.module_text.specs.declared.grammar.Expects.{Expects}
use Rattle.module_text.specs.declared.grammar.Expects.TheVariants.{FirstType, NextType, Length, Word, Count, Offset, Nothing}
use Rattle.module_text.proofs.Complete.{hunks_again}
use Rattle.module_text.proofs.Runs.{run}
use Rattle.module_text.proofs.Sound.{form}

-- what is expected after words
abbrev pub after : Expects → List ℕ → Result Expects ℕ
after e [] = Ok e
after e (w ∷ ws) = follow e w >>= λ next. after next ws

abbrev refused : ℕ → Result Expects ℕ
refused code = Err code

-- ---- words after words

bind_after : (r : Result Expects ℕ) (a b : List ℕ) → ((e : Expects) → after e (a ++ b) ≡ (after e a >>= λ next. after next b))
    → (r >>= λ e. after e (a ++ b)) ≡ ((r >>= λ e. after e a) >>= λ next. after next b)
bind_after (Ok e) a b h = h e
bind_after (Err code) a b h = refl

after-append : (e : Expects) (a b : List ℕ) → after e (a ++ b) ≡ (after e a >>= λ next. after next b)
after-append e [] b = refl
after-append e (w ∷ a) b = bind_after (follow e w) a b (λ next. after-append next a b)

-- words, and then more
after_then : (e f g : Expects) (a b : List ℕ) → after e a ≡ Ok f → after f b ≡ Ok g → after e (a ++ b) ≡ Ok g
after_then e f g a b p q = after-append e a b ∙ ap (λ (r : Result Expects ℕ). r >>= λ next. after next b) p ∙ q

-- and back
after_rest : (e f g : Expects) (a b : List ℕ) → after e a ≡ Ok f → after e (a ++ b) ≡ Ok g → after f b ≡ Ok g
after_rest e f g a b p q = ap (λ (r : Result Expects ℕ). r >>= λ next. after next b) (sym p) ∙ sym (after-append e a b) ∙ q

-- a word, and then more
after_more : (e f g : Expects) (w : ℕ) (ws : List ℕ) → follow e w ≡ Ok f → after f ws ≡ Ok g → after e (w ∷ ws) ≡ Ok g
after_more e f g w ws p q = rw p q

-- one word more
pub after_one : (e f g : Expects) (a : List ℕ) (w : ℕ) → after e a ≡ Ok f → follow f w ≡ Ok g → after e (a ++ w ∷ []) ≡ Ok g
after_one e f g a w p q = after_then e f g a (w ∷ []) p (rw q refl)

pub after_none : (e f g : Expects) (a : List ℕ) (w code : ℕ) → after e a ≡ Ok f → follow f w ≡ Err code → after e (a ++ w ∷ []) ≡ Ok g → ⊥
after_none e f g a w code p q h =
    let one : (follow f w >>= λ next. after next []) ≡ Ok g = after_rest e f g a (w ∷ []) p h in
    let none = rw q at one in
    cc none

run_more : (e next : Expects) (w : ℕ) (ws : List ℕ) (q : Rest) → follow e w ≡ Ok next → run next ws ≡ Ok q → run e (w ∷ ws) ≡ Ok (put e w q)
run_more e next w ws q f h = rw (f, h) refl

run_after : (e next : Expects) (ws more : List ℕ) (r : Rest) → after e ws ≡ Ok next → run next more ≡ Ok r → (q : Rest) × (run e (ws ++ more) ≡ Ok q)
run_after e next [] more r a h = (r, subst (λ (x : Expects). run x more ≡ Ok r) (sym (Ok-same e next a)) h)
run_after e next (w ∷ ws) more r a h =
    let s = bind-ok (follow e w) (λ x. after x ws) next a in
    let q = run_after s.0 next ws more r s.2 h in
    (put e w q.0, run_more e s.0 w (ws ++ more) q.0 s.1 q.1)

-- a reading of words and more begins with one of the words
record HasRead (e : Expects) (ws more : List ℕ) : Type 0 where
  next : Expects
  reached : after e ws ≡ Ok next
  left : Rest
  run_on : run next more ≡ Ok left

run_begins : (e : Expects) (ws more : List ℕ) (r : Rest) → run e (ws ++ more) ≡ Ok r → HasRead e ws more
run_begins e [] more r h = record { next = e; reached = refl; left = r; run_on = h }
run_begins e (w ∷ ws) more r h =
    let a = bind-ok (follow e w) (λ next. run next (ws ++ more) >>= λ q. Ok (put e w q)) r h in
    let b = bind-ok (run a.0 (ws ++ more)) (λ q. Ok (put e w q)) r a.2 in
    let s = run_begins a.0 ws more b.0 b.1 in
    record { next = s.next; reached = after_more e a.0 s.next w ws a.1 s.reached; left = s.left; run_on = s.run_on }

whole_begins : (words more : List ℕ) → IsWhole (words ++ more) → HasRead FirstType words more
whole_begins words more h = run_begins FirstType words more (rest [] [] h.0) (hunks_again h.0 (words ++ more) h.1).0

run_whole : (words : List ℕ) (r : Rest) → run FirstType words ≡ Ok r → IsWhole words
run_whole words r h = (r.hunks, (form FirstType words r h).2)

-- ---- how words may go on

-- words that complete a module, from what is expected on
abbrev CanEnd : Expects → Type 0
CanEnd e = (more : List ℕ) × (r : Rest) × (run e more ≡ Ok r)

word_next : (k n : ℕ) → words_or_type (suc k) n ≡ Word k n
word_next k n =
    let some : (suc k == 0) ≡ false = grind (arith, nat_tests) in
    let one : suc k - 1 ≡ k = omega arith in
    rw (some, one) refl

offset_next : (k n : ℕ) → offsets_or_type (suc k) n ≡ Offset k n
offset_next k n =
    let some : (suc k == 0) ≡ false = grind (arith, nat_tests) in
    let one : suc k - 1 ≡ k = omega arith in
    rw (some, one) refl

word_end : (more n : ℕ) → CanEnd (Word more n)
word_end zero n = (0 ∷ end_word ∷ [], rest (0 ∷ []) [] [], refl)
word_end (suc more) n = let q = word_end more n in (0 ∷ q.0, put (Word (suc more) n) 0 q.1, rw (word_next more n, q.2) refl)

offset_end : (more n : ℕ) → 0 < n → CanEnd (Offset more n)
offset_end zero n lt = let inside : nat_lt 0 n ≡ true = grind (arith, nat_tests) in (0 ∷ end_word ∷ [], rest [] (0 ∷ []) [], rw inside refl)
offset_end (suc more) n lt =
    let inside : nat_lt 0 n ≡ true = grind (arith, nat_tests) in
    let q = offset_end more n lt in
    (0 ∷ q.0, put (Offset (suc more) n) 0 q.1, rw (inside, offset_next more n, q.2) refl)

-- every state can end, but for an offset into a hunk of no words
can_end : (e : Expects) → ((more : ℕ) × (e ≡ Offset more 0)) ⊎ CanEnd e
can_end FirstType = inr (end_word ∷ [], rest [] [] [], refl)
can_end (NextType n) = inr (end_word ∷ [], rest [] [] [], refl)
can_end Length = inr (0 ∷ end_word ∷ [], rest [] [] (hunk [] [] ∷ []), refl)
can_end (Word more n) = inr (word_end more n)
can_end (Count n) = inr (0 ∷ end_word ∷ [], rest [] [] [], refl)
can_end (Offset more zero) = inl (more, refl)
can_end (Offset more (suc n)) = inr (offset_end more (suc n) (omega arith))
can_end Nothing = inr ([], rest [] [] [], refl)

-- ---- where a type is due

-- a type is expected
abbrev pub ExpectsType : Expects → Type 0
ExpectsType FirstType = Unit {0}
ExpectsType (NextType n) = Unit {0}
ExpectsType Length = ⊥
ExpectsType (Word more n) = ⊥
ExpectsType (Count n) = ⊥
ExpectsType (Offset more n) = ⊥
ExpectsType Nothing = ⊥

-- something inside an item is expected
abbrev pub ExpectsPart : Expects → Type 0
ExpectsPart FirstType = ⊥
ExpectsPart (NextType n) = ⊥
ExpectsPart Length = Unit {0}
ExpectsPart (Word more n) = Unit {0}
ExpectsPart (Count n) = Unit {0}
ExpectsPart (Offset more n) = Unit {0}
ExpectsPart Nothing = ⊥

abbrev whole : Rest → Result Rest ℕ
whole r = Ok r

word_ends_not : (n m : ℕ) (b : Bool) (q : Rest) → (finish (cond b (NextType n) (Word m n)) >>= λ u. Ok (rest [] [] [])) ≡ whole q → ⊥
word_ends_not n m true q h = cc h
word_ends_not n m false q h = cc h

offset_ends_not : (n m : ℕ) (b : Bool) (q : Rest) → (finish (cond b (NextType n) (Offset m n)) >>= λ u. Ok (rest [] [] [])) ≡ whole q → ⊥
offset_ends_not n m true q h = cc h
offset_ends_not n m false q h = cc h

-- where the end word may be, a type is expected
type_of_end : (e : Expects) (q : Rest) → run e (end_word ∷ []) ≡ Ok q → ExpectsType e
type_of_end FirstType q h = tt
type_of_end (NextType n) q h = tt
type_of_end Length q h = cc h
type_of_end (Word more n) q h =
    let a = bind-ok (run (words_or_type more n) []) (λ r. Ok (put (Word more n) end_word r)) q h in
    absurd (word_ends_not n (more - 1) (more == 0) a.0 a.1)
type_of_end (Count n) q h = cc h
type_of_end (Offset more n) q h =
    let a = bind-ok (follow (Offset more n) end_word) (λ next. run next [] >>= λ r. Ok (put (Offset more n) end_word r)) q h in
    elim (cond-cases (nat_lt end_word n) (Ok (offsets_or_type more n)) (refused 4) (Ok a.0) a.1) [
      | inl p ↦
          let same = Ok-same {E = ℕ} (offsets_or_type more n) a.0 p.1 in
          let b = bind-ok (run a.0 []) (λ r. Ok (put (Offset more n) end_word r)) q a.2 in
          absurd (offset_ends_not n (more - 1) (more == 0) b.0 (subst (λ (x : Expects). run x [] ≡ whole b.0) (sym same) b.1))
      | inr p ↦ cc p.1
    ]
type_of_end Nothing q h = cc h

end_of_type : (e : Expects) → ExpectsType e → run e (end_word ∷ []) ≡ Ok (rest [] [] [])
end_of_type FirstType h = refl
end_of_type (NextType n) h = refl
end_of_type Length h = absurd h
end_of_type (Word more n) h = absurd h
end_of_type (Count n) h = absurd h
end_of_type (Offset more n) h = absurd h
end_of_type Nothing h = absurd h

-- where words are a module's but for the end word, a type is expected
pub record ReachesType (words : List ℕ) : Type 0 where
  pub next : Expects
  pub reached : after FirstType words ≡ Ok next
  pub type : ExpectsType next

pub type_due : (words : List ℕ) → IsTypeDue words → ReachesType words
type_due words h =
    let s = whole_begins words (end_word ∷ []) h in
    record { next = s.next; reached = s.reached; type = type_of_end s.next s.left s.run_on }

pub is_type_due : (words : List ℕ) (next : Expects) → after FirstType words ≡ Ok next → ExpectsType next → IsTypeDue words
is_type_due words next a h =
    let q = run_after FirstType next words (end_word ∷ []) (rest [] [] []) a (end_of_type next h) in
    run_whole (words ++ end_word ∷ []) q.0 q.1

-- ---- where the words are a whole module

nothing_left : (e : Expects) (q : Rest) → run e [] ≡ Ok q → e ≡ Nothing
nothing_left FirstType q h = cc h
nothing_left (NextType n) q h = cc h
nothing_left Length q h = cc h
nothing_left (Word more n) q h = cc h
nothing_left (Count n) q h = cc h
nothing_left (Offset more n) q h = cc h
nothing_left Nothing q h = refl

pub whole_reaches : (words : List ℕ) → IsWhole words → after FirstType words ≡ Ok Nothing
whole_reaches words h =
    let s = whole_begins words [] (subst IsWhole (sym (append-nil words)) h) in
    s.reached ∙ ap (λ (e : Expects). Ok e) (nothing_left s.next s.left s.run_on)

pub is_whole : (words : List ℕ) → after FirstType words ≡ Ok Nothing → IsWhole words
is_whole words a =
    let q = run_after FirstType Nothing words [] (rest [] [] []) a refl in
    subst IsWhole (append-nil words) (run_whole (words ++ []) q.0 q.1)

-- ---- inside an item

-- so many words were read of m
words_left : (ws : List ℕ) (m n : ℕ) → length ws < m → after (words_or_type m n) ws ≡ Ok (Word (m - length ws - 1) n)
words_left [] zero n lt = absurd (omega arith)
words_left [] (suc m) n lt =
    let same : suc m - 0 - 1 ≡ m = omega arith in
    rw (word_next m n, same) refl
words_left (w ∷ ws) zero n lt = absurd (omega arith)
words_left (w ∷ ws) (suc m) n lt =
    let same : suc m - suc (length ws) - 1 ≡ m - length ws - 1 = omega arith in
    rw (word_next m n, same) (words_left ws m n (omega arith))

-- and all of them
words_done : (ws : List ℕ) (n : ℕ) → after (words_or_type (length ws) n) ws ≡ Ok (NextType n)
words_done [] n = refl
words_done (w ∷ ws) n = rw (word_next (length ws) n) (words_done ws n)

-- offsets that could be a list are the first ones of a longer list
offsets_left : (os : List ℕ) (m n : ℕ) (g : Expects) → after (offsets_or_type (length os) n) os ≡ Ok g → length os < m → after (offsets_or_type m n) os ≡ Ok (Offset (m - length os - 1) n)
offsets_left [] zero n g h lt = absurd (omega arith)
offsets_left [] (suc m) n g h lt =
    let same : suc m - 0 - 1 ≡ m = omega arith in
    rw (offset_next m n, same) refl
offsets_left (o ∷ os) zero n g h lt = absurd (omega arith)
offsets_left (o ∷ os) (suc m) n g h lt =
    let k = rw (offset_next (length os) n) at h in
    let a = bind-ok (follow (Offset (length os) n) o) (λ next. after next os) g k in
    elim (cond-cases (nat_lt o n) (Ok (offsets_or_type (length os) n)) (refused 4) (Ok a.0) a.1) [
      | inl p ↦
          let same = Ok-same {E = ℕ} (offsets_or_type (length os) n) a.0 p.1 in
          let rest_is = offsets_left os m n g (rw (← same) at a.2) (omega arith) in
          let inside : nat_lt o n ≡ true = p.0 in
          let count : suc m - suc (length os) - 1 ≡ m - length os - 1 = omega arith in
          rw (offset_next m n, inside, count) rest_is
      | inr p ↦ cc p.1
    ]

-- offsets inside a hunk of n words could be a list
offsets_done : (os : List ℕ) (n : ℕ) → AllByRecursion (λ o. o < n) os → after (offsets_or_type (length os) n) os ≡ Ok (NextType n)
offsets_done [] n h = refl
offsets_done (o ∷ os) n h =
    let lt : o < n = h.0 in
    let inside : nat_lt o n ≡ true = grind (arith, nat_tests) in
    rw (offset_next (length os) n, inside) (offsets_done os n h.1)

-- the item that is being read, by what is expected
abbrev Part : Expects → List ℕ → Type 0
Part FirstType words = Unit {0}
Part (NextType n) words = Unit {0}
Part Length words = (front : List ℕ) × ReachesType front × (words ≡ front ++ hunk_type ∷ [])
Part (Word more n) words = (front : List ℕ) × ReachesType front × (ws : List ℕ) × (words ≡ front ++ hunk_type ∷ n ∷ ws) × (length ws + suc more ≡ n)
Part (Count n) words = (front : List ℕ) × (after FirstType front ≡ Ok (NextType n)) × (words ≡ front ++ relocation_type ∷ [])
Part (Offset more n) words =
    (front : List ℕ) × (after FirstType front ≡ Ok (NextType n)) × (count : ℕ) × (os : List ℕ) × (words ≡ front ++ relocation_type ∷ count ∷ os)
    × (length os + suc more ≡ count) × AllByRecursion (λ o. o < n) os
Part Nothing words = Unit {0}

-- one word more
part_word : (left n w : ℕ) (words : List ℕ) (b : Bool) → (left == 0) ≡ b
    → ((front : List ℕ) × ReachesType front × (ws : List ℕ) × (words ≡ front ++ hunk_type ∷ n ∷ ws) × (length ws + left ≡ n))
    → Part (cond b (NextType n) (Word (left - 1) n)) words
part_word left n w words true e p = tt
part_word left n w words false e p =
    let some : suc (left - 1) ≡ left = grind (arith, nat_tests) in
    (p.0, p.1, p.2, p.3, rw some p.4)

part_offset : (left n : ℕ) (words : List ℕ) (b : Bool) → (left == 0) ≡ b
    → ((front : List ℕ) × (after FirstType front ≡ Ok (NextType n)) × (count : ℕ) × (os : List ℕ) × (words ≡ front ++ relocation_type ∷ count ∷ os) × (length os + left ≡ count) × AllByRecursion (λ o. o < n) os)
    → Part (cond b (NextType n) (Offset (left - 1) n)) words
part_offset left n words true e p = tt
part_offset left n words false e p =
    let some : suc (left - 1) ≡ left = grind (arith, nat_tests) in
    (p.0, p.1, p.2, p.3, p.4, rw some p.5, p.6)

part_same : (e next : Expects) (words : List ℕ) → e ≡ next → Part e words → Part next words
part_same e next words same p = subst (λ (x : Expects). Part x words) same p

all_push : (os : List ℕ) (o n : ℕ) → AllByRecursion (λ x. x < n) os → o < n → AllByRecursion (λ x. x < n) (os ++ o ∷ [])
all_push [] o n h lt = (lt, tt)
all_push (x ∷ os) o n h lt = (h.0, all_push os o n h.1 lt)

part_first : (w : ℕ) (next : Expects) (words : List ℕ) → ReachesType words → first_type w ≡ Ok next → Part next (words ++ w ∷ [])
part_first w next words r h =
    elim (cond-cases (w == hunk_type) (Ok Length) (cond (w == end_word) (Ok Nothing) (refused 3)) (Ok next) h) [
      | inl p ↦ part_same Length next (words ++ w ∷ []) (Ok-same {E = ℕ} Length next p.1) (words, r, ap (λ (x : ℕ). words ++ x ∷ []) (eqb-true w hunk_type p.0))
      | inr p ↦
          elim (cond-cases (w == end_word) (Ok Nothing) (refused 3) (Ok next) p.1) [
            | inl q ↦ part_same Nothing next (words ++ w ∷ []) (Ok-same {E = ℕ} Nothing next q.1) tt
            | inr q ↦ cc q.1
          ]
    ]

part_step : (e : Expects) (w : ℕ) (next : Expects) (words : List ℕ) → after FirstType words ≡ Ok e → Part e words → follow e w ≡ Ok next → Part next (words ++ w ∷ [])
part_step FirstType w next words a p h = part_first w next words (record { next = FirstType; reached = a; type = tt }) h
part_step (NextType n) w next words a p h =
    elim (cond-cases (w == relocation_type) (Ok (Count n)) (first_type w) (Ok next) h) [
      | inl q ↦ part_same (Count n) next (words ++ w ∷ []) (Ok-same {E = ℕ} (Count n) next q.1) (words, a, ap (λ (x : ℕ). words ++ x ∷ []) (eqb-true w relocation_type q.0))
      | inr q ↦ part_first w next words (record { next = NextType n; reached = a; type = tt }) q.1
    ]
part_step Length w next words a p h =
    part_same (words_or_type w w) next (words ++ w ∷ []) (Ok-same {E = ℕ} (words_or_type w w) next h)
    (part_word w w w (words ++ w ∷ []) (w == 0) refl (p.0, p.1, [], rw p.2 (append_assoc p.0 (hunk_type ∷ []) (w ∷ [])), omega arith))
part_step (Word more n) w next words a p h =
    part_same (words_or_type more n) next (words ++ w ∷ []) (Ok-same {E = ℕ} (words_or_type more n) next h)
    (part_word more n w (words ++ w ∷ []) (more == 0) refl (
      p.0,
      p.1,
      p.2 ++ w ∷ [],
      rw p.3 (append_assoc p.0 (hunk_type ∷ n ∷ p.2) (w ∷ [])),
      omega (arith, p.4, length-append p.2 (w ∷ [])),
    ))
part_step (Count n) w next words a p h =
    part_same (offsets_or_type w n) next (words ++ w ∷ []) (Ok-same {E = ℕ} (offsets_or_type w n) next h)
    (part_offset w n (words ++ w ∷ []) (w == 0) refl (p.0, p.1, w, [], rw p.2 (append_assoc p.0 (relocation_type ∷ []) (w ∷ [])), omega arith, tt))
part_step (Offset more n) w next words a p h =
    elim (cond-cases (nat_lt w n) (Ok (offsets_or_type more n)) (refused 4) (Ok next) h) [
      | inl q ↦
          let t = q.0 in
          let lt : w < n = grind (arith, nat_tests) in
          part_same (offsets_or_type more n) next (words ++ w ∷ []) (Ok-same {E = ℕ} (offsets_or_type more n) next q.1)
          (part_offset more n (words ++ w ∷ []) (more == 0) refl (
            p.0,
            p.1,
            p.2,
            p.3 ++ w ∷ [],
            rw p.4 (append_assoc p.0 (relocation_type ∷ p.2 ∷ p.3) (w ∷ [])),
            omega (arith, p.5, length-append p.3 (w ∷ [])),
            all_push p.3 w n p.6 lt,
          ))
      | inr q ↦ cc q.1
    ]
part_step Nothing w next words a p h = cc h

parts : (e : Expects) (words ws : List ℕ) (next : Expects) → after FirstType words ≡ Ok e → Part e words → after e ws ≡ Ok next → Part next (words ++ ws)
parts e words [] next a p h = part_same e next (words ++ []) (Ok-same {E = ℕ} e next h) (subst (Part e) (sym (append-nil words)) p)
parts e words (w ∷ ws) next a p h =
    let s = bind-ok (follow e w) (λ x. after x ws) next h in
    subst (Part next) (append_assoc words (w ∷ []) ws)
    (parts s.0 (words ++ w ∷ []) ws next (after_one FirstType e s.0 words w a s.1) (part_step e w s.0 words a p s.1) s.2)

part_of : (words : List ℕ) (next : Expects) → after FirstType words ≡ Ok next → Part next words
part_of words next a = parts FirstType [] words next refl tt a

-- the type of a hunk may be wherever a type is expected
hunk_after : (e : Expects) (ws : List ℕ) → ExpectsType e → after e (hunk_type ∷ ws) ≡ after Length ws
hunk_after FirstType ws h = refl
hunk_after (NextType n) ws h = refl
hunk_after Length ws h = absurd h
hunk_after (Word more n) ws h = absurd h
hunk_after (Count n) ws h = absurd h
hunk_after (Offset more n) ws h = absurd h
hunk_after Nothing ws h = absurd h

hunk_so_far : (front ws : List ℕ) → ReachesType front → IsTypeDue (front ++ item hunk_type ws)
hunk_so_far front ws r =
    is_type_due (front ++ item hunk_type ws) (NextType (length ws))
    (after_then FirstType r.next (NextType (length ws)) front (item hunk_type ws) r.reached (hunk_after r.next (length ws ∷ ws) r.type ∙ words_done ws (length ws))) tt

list_so_far : (front os : List ℕ) (n : ℕ) → after FirstType front ≡ Ok (NextType n) → AllByRecursion (λ o. o < n) os → IsTypeDue (front ++ item relocation_type os)
list_so_far front os n a h =
    is_type_due (front ++ item relocation_type os) (NextType n)
    (after_then FirstType (NextType n) (NextType n) front (item relocation_type os) a (offsets_done os n h)) tt

front_due : (front : List ℕ) → ReachesType front → IsTypeDue front
front_due front r = is_type_due front r.next r.reached r.type

offset_due_by : (more n : ℕ) (words : List ℕ) → Part (Offset more n) words → IsOffsetDue words
offset_due_by more n words p = record {
  front = p.0;
  count = p.2;
  offsets = p.3;
  all = p.4;
  before = is_type_due p.0 (NextType n) p.1 tt;
  few = omega (arith, p.5);
  so_far = list_so_far p.0 p.3 n p.1 p.6;
}

pub is_offset_due : (words : List ℕ) (more n : ℕ) → after FirstType words ≡ Ok (Offset more n) → IsOffsetDue words
is_offset_due words more n a = offset_due_by more n words (part_of words (Offset more n) a)

inside_by : (e : Expects) (words : List ℕ) → ExpectsPart e → Part e words → IsInsideItem words
inside_by FirstType words h p = absurd h
inside_by (NextType n) words h p = absurd h
inside_by Length words h p = record {
  front = p.0;
  type = hunk_type;
  rest = [];
  there = [];
  all = p.2;
  before = front_due p.0 p.1;
  cut_off = inl (refl, refl);
  so_far = hunk_so_far p.0 [] p.1;
}
inside_by (Word more n) words h p = record {
  front = p.0;
  type = hunk_type;
  rest = n ∷ p.2;
  there = p.2;
  all = p.3;
  before = front_due p.0 p.1;
  cut_off = inr (n, refl, omega (arith, p.4));
  so_far = hunk_so_far p.0 p.2 p.1;
}
inside_by (Count n) words h p = record {
  front = p.0;
  type = relocation_type;
  rest = [];
  there = [];
  all = p.2;
  before = is_type_due p.0 (NextType n) p.1 tt;
  cut_off = inl (refl, refl);
  so_far = list_so_far p.0 [] n p.1 tt;
}
inside_by (Offset more n) words h p =
    let due = offset_due_by more n words p in
    record {
      front = due.front;
      type = relocation_type;
      rest = due.count ∷ due.offsets;
      there = due.offsets;
      all = due.all;
      before = due.before;
      cut_off = inr (due.count, refl, due.few);
      so_far = due.so_far;
    }
inside_by Nothing words h p = absurd h

pub is_inside : (words : List ℕ) (next : Expects) → after FirstType words ≡ Ok next → ExpectsPart next → IsInsideItem words
is_inside words next a h = inside_by next words h (part_of words next a)

-- ---- and back: what is expected inside an item

-- what may come after a type
abbrev IsAfterType : Expects → Type 0
IsAfterType e = (e ≡ Nothing) ⊎ ((e ≡ Length) ⊎ ((n : ℕ) × (e ≡ Count n)))

first_next : (w : ℕ) (next : Expects) → first_type w ≡ Ok next → IsAfterType next
first_next w next h =
    elim (cond-cases (w == hunk_type) (Ok Length) (cond (w == end_word) (Ok Nothing) (refused 3)) (Ok next) h) [
      | inl p ↦ inr (inl (sym (Ok-same {E = ℕ} Length next p.1)))
      | inr p ↦
          elim (cond-cases (w == end_word) (Ok Nothing) (refused 3) (Ok next) p.1) [
            | inl q ↦ inl (sym (Ok-same {E = ℕ} Nothing next q.1))
            | inr q ↦ cc q.1
          ]
    ]

type_next : (e : Expects) (w : ℕ) (next : Expects) → ExpectsType e → follow e w ≡ Ok next → IsAfterType next
type_next FirstType w next t h = first_next w next h
type_next (NextType n) w next t h =
    elim (cond-cases (w == relocation_type) (Ok (Count n)) (first_type w) (Ok next) h) [
      | inl p ↦ inr (inr (n, sym (Ok-same {E = ℕ} (Count n) next p.1)))
      | inr p ↦ first_next w next p.1
    ]
type_next Length w next t h = absurd t
type_next (Word more n) w next t h = absurd t
type_next (Count n) w next t h = absurd t
type_next (Offset more n) w next t h = absurd t
type_next Nothing w next t h = absurd t

-- the words reach a place inside an item
pub record ReachesPart (words : List ℕ) : Type 0 where
  pub next : Expects
  pub reached : after FirstType words ≡ Ok next
  pub part : ExpectsPart next

abbrev Left : List ℕ → ℕ → Expects → Type 0
Left rest count next = (f : Expects) × (after next rest ≡ Ok f) × ExpectsPart f

left_of : (next g : Expects) (ws : List ℕ) (count : ℕ) → IsAfterType next → after next (length ws ∷ ws) ≡ Ok g → length ws < count → Left (count ∷ ws) count next
left_of next g ws count (inl none) h lt = let k = rw none at h in cc k
left_of next g ws count (inr (inl length_is)) h lt = rw length_is (Word (count - length ws - 1) count, words_left ws count count lt, tt)
left_of next g ws count (inr (inr c)) h lt =
    let k = rw c.1 at h in
    rw c.1 (Offset (count - length ws - 1) c.0, offsets_left ws count c.0 g k lt, tt)

part_next : (next g : Expects) (ws : List ℕ) → IsAfterType next → after next ws ≡ Ok g → ws ≡ 0 ∷ [] → ExpectsPart next
part_next next g ws (inl none) h e = let k = rw (none, e) at h in cc k
part_next next g ws (inr (inl length_is)) h e = rw length_is tt
part_next next g ws (inr (inr c)) h e = rw c.1 tt

inside_reaches : (words : List ℕ) (i : IsInsideItem words) → ReachesPart words
inside_reaches words i =
    let f = type_due i.front i.before in
    let g = type_due (i.front ++ item i.type i.there) i.so_far in
    let item_read = after_rest FirstType f.next g.next i.front (item i.type i.there) f.reached g.reached in
    let s = bind-ok (follow f.next i.type) (λ x. after x (length i.there ∷ i.there)) g.next item_read in
    let kind = type_next f.next i.type s.0 f.type s.1 in
    elim i.cut_off [
      | inl p ↦
          let none : length i.there ∷ i.there ≡ 0 ∷ [] = ap (λ (ws : List ℕ). length ws ∷ ws) p.1 in
          let here = after_then FirstType f.next s.0 i.front (i.type ∷ []) f.reached (after_more f.next s.0 s.0 i.type [] s.1 refl) in
          record {
            next = s.0;
            reached = ap (after FirstType) (i.all ∙ ap (λ (r : List ℕ). i.front ++ i.type ∷ r) p.0) ∙ here;
            part = part_next s.0 g.next (length i.there ∷ i.there) kind s.2 none;
          }
      | inr p ↦
          let l = left_of s.0 g.next i.there p.0 kind s.2 p.2 in
          let here = after_then FirstType f.next l.0 i.front (i.type ∷ p.0 ∷ i.there) f.reached (after_more f.next s.0 l.0 i.type (p.0 ∷ i.there) s.1 l.1) in
          record {
            next = l.0;
            reached = ap (after FirstType) (i.all ∙ ap (λ (r : List ℕ). i.front ++ i.type ∷ r) p.1) ∙ here;
            part = l.2;
          }
    ]

pub inside_part : (words : List ℕ) → IsInsideItem words → ReachesPart words
inside_part words i = inside_reaches words i

-- where an offset is due, it is expected
pub record ReachesOffset (words : List ℕ) : Type 0 where
  pub more : ℕ
  pub size : ℕ
  pub reached : after FirstType words ≡ Ok (Offset more size)

list_next : (e next : Expects) → ExpectsType e → follow e relocation_type ≡ Ok next → (n : ℕ) × (next ≡ Count n)
list_next FirstType next t h = cc h
list_next (NextType n) next t h = (n, sym (Ok-same {E = ℕ} (Count n) next h))
list_next Length next t h = absurd t
list_next (Word more n) next t h = absurd t
list_next (Count n) next t h = absurd t
list_next (Offset more n) next t h = absurd t
list_next Nothing next t h = absurd t

pub offset_due : (words : List ℕ) → IsOffsetDue words → ReachesOffset words
offset_due words d =
    let f = type_due d.front d.before in
    let g = type_due (d.front ++ item relocation_type d.offsets) d.so_far in
    let item_read = after_rest FirstType f.next g.next d.front (item relocation_type d.offsets) f.reached g.reached in
    let s = bind-ok (follow f.next relocation_type) (λ x. after x (length d.offsets ∷ d.offsets)) g.next item_read in
    let c = list_next f.next s.0 f.type s.1 in
    let k = rw c.1 at s.2 in
    let more = offsets_left d.offsets d.count c.0 g.next k d.few in
    let there : Expects = Offset (d.count - length d.offsets - 1) c.0 in
    let list = subst (λ (x : Expects). after x (d.count ∷ d.offsets) ≡ Ok there) (sym c.1) more in
    let here = after_then FirstType f.next there d.front (relocation_type ∷ d.count ∷ d.offsets) f.reached (after_more f.next s.0 there relocation_type (d.count ∷ d.offsets) s.1 list) in
    record { more = d.count - length d.offsets - 1; size = c.0; reached = ap (after FirstType) d.all ∙ here }

-- ---- begun words

pub begun_reaches : (words : List ℕ) → IsBegun words → (next : Expects) × (after FirstType words ≡ Ok next)
begun_reaches words (inl h) = (Nothing, whole_reaches words h)
begun_reaches words (inr (inl h)) = let r = type_due words h in (r.next, r.reached)
begun_reaches words (inr (inr h)) = let r = inside_part words h in (r.next, r.reached)

begun_by : (words : List ℕ) (next : Expects) → after FirstType words ≡ Ok next → IsBegun words
begun_by words FirstType a = inr (inl (is_type_due words FirstType a tt))
begun_by words (NextType n) a = inr (inl (is_type_due words (NextType n) a tt))
begun_by words Length a = inr (inr (is_inside words Length a tt))
begun_by words (Word more n) a = inr (inr (is_inside words (Word more n) a tt))
begun_by words (Count n) a = inr (inr (is_inside words (Count n) a tt))
begun_by words (Offset more n) a = inr (inr (is_inside words (Offset more n) a tt))
begun_by words Nothing a = inl (is_whole words a)

pub is_begun : (words : List ℕ) (next : Expects) → after FirstType words ≡ Ok next → IsBegun words
is_begun words next a = begun_by words next a

pub begin_begun : (words : List ℕ) → BeginModule words → IsBegun words
begin_begun words b = let s = whole_begins words b.0 b.1 in is_begun words s.next s.reached

goes_on_by : (words : List ℕ) (next : Expects) → after FirstType words ≡ Ok next → ((more : ℕ) × (next ≡ Offset more 0)) ⊎ CanEnd next → BeginModule words ⊎ IsOffsetDue words
goes_on_by words next a (inl h) = inr (is_offset_due words h.0 0 (a ∙ ap (λ (e : Expects). Ok e) h.1))
goes_on_by words next a (inr h) =
    let q = run_after FirstType next words h.0 h.1 a h.2 in
    inl (h.0, run_whole (words ++ h.0) q.0 q.1)

pub begun_goes_on : (words : List ℕ) → IsBegun words → BeginModule words ⊎ IsOffsetDue words
begun_goes_on words b = let r = begun_reaches words b in goes_on_by words r.0 r.1 (can_end r.0)
