-- A file that a stream writes: its bytes so far, and the sectors that the files take then.
use Rattle.std.proofs.Common.{◌≡◌, ℕ, ◌+◌, ◌-◌, ◌≤◌, List, [], ◌∷◌, ◌++◌, length, drop, take, cond, Bool, true, false, Option, Some, Result, Ok, Err, refl, sym, ap, ◌∙◌, subst, arith, inl, inr}
use Rattle.std.specs.List.{filter, find, sum_by}
use Rattle.std.specs.Option.{option_map}
use Rattle.std.specs.Prelude.{unwrap_or}
use Rattle.std.proofs.lemmas.Bool.{cases_lt, le-leb, lt-leb, true≢false}
use Rattle.std.proofs.lemmas.List.{append-nil, length-append, length-take, take-append-drop, take-take, drop-take}
use Rattle.std.proofs.lemmas.List.Elements.{filter-append}
use Rattle.std.proofs.lemmas.List.Sums.{sum_by-append, sum_by-cons}
use Rattle.ram_disc.specs.Disc.{Disc, File, bytes_of, has_name, is_before, most_sectors, sectors_of, sectors_taken}
use Rattle.ram_disc.specs.DiscCalls.{Outcome, after_append, file, has_room, unless_refused, with_file, with_more, with_stream, writer}
use Rattle.word_store.proofs.EqualTexts.{bytes_eq-self}
use Rattle.ram_disc.proofs.NameOrder.{bytes_eq-other, is_before-back, is_before-differ, is_before-self}
use Rattle.kernel_boot.specs.BootFiles.{IsAppended, writing}

-- ---- filters in a row

filter-kept : (q : File → Bool) (gs : List File) → filter q (filter q gs) ≡ filter q gs
filter-kept q [] = refl
filter-kept q (g ∷ gs) = on (filter-kept q gs) (q g) refl
  where
    on : filter q (filter q gs) ≡ filter q gs → (b : Bool) → q g ≡ b → filter q (cond b (g ∷ filter q gs) (filter q gs)) ≡ cond b (g ∷ filter q gs) (filter q gs)
    on more true e = ap (λ b. cond b (g ∷ filter q (filter q gs)) (filter q (filter q gs))) e ∙ ap (λ xs. g ∷ xs) more
    on more false e = more

filter-apart : (p q : File → Bool) (gs : List File) → ((g : File) → q g ≡ true → p g ≡ false) → filter p (filter q gs) ≡ []
filter-apart p q [] apart = refl
filter-apart p q (g ∷ gs) apart = on (filter-apart p q gs apart) (q g) refl
  where
    on : filter p (filter q gs) ≡ [] → (b : Bool) → q g ≡ b → filter p (cond b (g ∷ filter q gs) (filter q gs)) ≡ []
    on more true e = ap (λ b. cond b (g ∷ filter p (filter q gs)) (filter p (filter q gs))) (apart g e) ∙ more
    on more false e = more

-- ---- a file in place of that of its name

module _ (name : List ℕ) where
  abbrev Before : File → Bool
  Before g = is_before g.name name

  abbrev After : File → Bool
  After g = is_before name g.name

  abbrev size : File → ℕ
  size f = sectors_of (length f.bytes)

  -- twice is once
  with_file-again : (bs cs : List ℕ) (fs : List File) → with_file (file name cs) (with_file (file name bs) fs) ≡ with_file (file name cs) fs
  with_file-again bs cs fs =
      let f : File = file name bs in
      let b : List File = filter Before fs in
      let a : List File = filter After fs in
      let front : filter Before (b ++ f ∷ a) ≡ b =
      filter-append Before b (f ∷ a)
      ∙ ap (λ xs. xs ++ filter Before (f ∷ a)) (filter-kept Before fs)
      ∙ ap (λ t. b ++ cond t (f ∷ filter Before a) (filter Before a)) (is_before-self name)
      ∙ ap (λ xs. b ++ xs) (filter-apart Before After fs (λ g e. is_before-back name g.name e))
      ∙ append-nil b in
      let back : filter After (b ++ f ∷ a) ≡ a =
      filter-append After b (f ∷ a)
      ∙ ap (λ xs. xs ++ filter After (f ∷ a)) (filter-apart After Before fs (λ g e. is_before-back g.name name e))
      ∙ ap (λ t. cond t (f ∷ filter After a) (filter After a)) (is_before-self name)
      ∙ filter-kept After fs in
      ap (λ xs. xs ++ file name cs ∷ filter After (b ++ f ∷ a)) front ∙ ap (λ xs. b ++ file name cs ∷ xs) back

  find-behind : (gs rest : List File) → find (has_name name) (filter Before gs ++ rest) ≡ find (has_name name) rest
  find-behind [] rest = refl
  find-behind (g ∷ gs) rest = on (find-behind gs rest) (Before g) refl
    where
      on : find (has_name name) (filter Before gs ++ rest) ≡ find (has_name name) rest → (b : Bool) → Before g ≡ b → find (has_name name) (cond b (g ∷ filter Before gs) (filter Before gs) ++ rest) ≡ find (has_name name) rest
      on more true e =
          ap (λ t. cond t (Some g) (find (has_name name) (filter Before gs ++ rest))) (bytes_eq-other g.name name (is_before-differ g.name name e))
          ∙ more
      on more false e = more

  find-written : (bs : List ℕ) (fs : List File) → find (has_name name) (with_file (file name bs) fs) ≡ Some (file name bs)
  find-written bs fs =
      find-behind fs (file name bs ∷ filter After fs)
      ∙ ap (λ t. cond t (Some (file name bs)) (find (has_name name) (filter After fs))) (bytes_eq-self name)

  sectors-written : (bs : List ℕ) (fs : List File)
      → sectors_taken (with_file (file name bs) fs) ≡ sum_by size (filter Before fs) + (sectors_of (length bs) + sum_by size (filter After fs))
  sectors-written bs fs =
      sum_by-append size (filter Before fs) (file name bs ∷ filter After fs)
      ∙ ap (λ n. sum_by size (filter Before fs) + n) (sum_by-cons size (file name bs) (filter After fs))

  sectors-around : (fs : List File) → sum_by size (filter Before fs) + sum_by size (filter After fs) ≤ sum_by size fs
  sectors-around [] = omega arith
  sectors-around (g ∷ gs) = on (sectors-around gs) (Before g) (After g) refl refl
    where
      on : sum_by size (filter Before gs) + sum_by size (filter After gs) ≤ sum_by size gs → (b a : Bool) → Before g ≡ b → After g ≡ a
          → sum_by size (cond b (g ∷ filter Before gs) (filter Before gs)) + sum_by size (cond a (g ∷ filter After gs) (filter After gs)) ≤ sum_by size (g ∷ gs)
      on more true true e f = absurd (true≢false (sym f ∙ is_before-back g.name name e))
      on more true false e f = omega (arith, sum_by-cons size g (filter Before gs), sum_by-cons size g gs, more)
      on more false true e f = omega (arith, sum_by-cons size g (filter After gs), sum_by-cons size g gs, more)
      on more false false e f = omega (arith, sum_by-cons size g gs, more)

  -- an empty file takes no sector
  pub sectors-empty : (fs : List File) → sectors_taken fs ≤ most_sectors → sectors_taken (with_file (file name []) fs) ≤ most_sectors
  sectors-empty fs room = omega (arith, sectors-written [] fs, sectors-around fs, room)

-- ---- a stream that writes

module _ (others : List File) (name : List ℕ) where
  -- where there is no room for some of the bytes, there is none for all
  pub no-room : (bytes : List ℕ) (n : ℕ) → has_room (writing others name (take n bytes)) ≡ false → has_room (writing others name bytes) ≡ false
  no-room bytes n full =
      elim (cases_lt most_sectors (sectors_taken (with_file (file name bytes) others))) [
        | inl above ↦ lt-leb (sectors_taken (with_file (file name bytes) others)) most_sectors above
        | inr fits ↦
            absurd (true≢false (sym (le-leb (sectors_taken (with_file (file name (take n bytes)) others)) most_sectors
            (omega (arith, fits, sectors-written name bytes others, sectors-written name (take n bytes) others, length-take n bytes))) ∙ full))
      ]

  module _ (bs more : List ℕ) where
    abbrev D : Disc
    D = writing others name bs

    bytes-written : bytes_of D name ≡ bs
    bytes-written = ap (λ (o : Option File). unwrap_or (option_map (λ f. f.bytes) o) []) (find-written name bs others)

    more-is : with_more D (Some (writer name (length bs))) more ≡ record D { files = with_file (file name (bs ++ more)) others }
    more-is =
        ap (λ cs. files (with_file (file name (cs ++ more)) (with_file (file name bs) others))) bytes-written
        ∙ ap files (with_file-again name bs (bs ++ more) others)
      where
        files : List File → Disc
        files fs = record { files = fs; streams = D.streams }

    abbrev Append : Disc → ℕ → Outcome Unit
    Append d n = unless_refused D ((true, 46) ∷ (has_room d, 43) ∷ []) tt (with_stream d 1 (Some (writer name n)))

    append-is : after_append D 1 more ≡ Append (record D { files = with_file (file name (bs ++ more)) others }) (length (bs ++ more))
    append-is = ap (λ d. Append d (length bs + length more)) more-is
        ∙ ap (Append (record D { files = with_file (file name (bs ++ more)) others })) (sym (length-append bs more))

    abbrev Turn : Bool → Outcome Unit
    Turn t = unless_refused D ((true, 46) ∷ (t, 43) ∷ []) tt (writing others name (bs ++ more))

    pub appended : (d e : Disc) (r : Result (Unit {0}) ℕ) → d ≡ D → r ≡ (after_append d 1 more).answer → e ≡ (after_append d 1 more).disc
        → IsAppended e r (writing others name (bs ++ more))
    appended d e r is answer disc =
        on (has_room (writing others name (bs ++ more))) refl
        (answer ∙ ap (λ x. (after_append x 1 more).answer) is ∙ ap (λ (o : Outcome Unit). o.answer) append-is)
        (disc ∙ ap (λ x. (after_append x 1 more).disc) is ∙ ap (λ (o : Outcome Unit). o.disc) append-is)
      where
        on : (t : Bool) → has_room (writing others name (bs ++ more)) ≡ t → r ≡ (Turn (has_room (writing others name (bs ++ more)))).answer
            → e ≡ (Turn (has_room (writing others name (bs ++ more)))).disc → IsAppended e r (writing others name (bs ++ more))
        on true room f g =
            let ok : r ≡ Ok tt = f ∙ ap (λ t. (Turn t).answer) room in
            subst (λ (x : Result (Unit {0}) ℕ). IsAppended e x (writing others name (bs ++ more))) (sym ok) (g ∙ ap (λ t. (Turn t).disc) room, room)
        on false room f g =
            let err : r ≡ Err 43 = f ∙ ap (λ t. (Turn t).answer) room in
            subst (λ (x : Result (Unit {0}) ℕ). IsAppended e x (writing others name (bs ++ more))) (sym err) (refl, room)

-- a piece more behind the first ones
pub take-more : (xs : List ℕ) (i j : ℕ) → i ≤ j → take i xs ++ take (j - i) (drop i xs) ≡ take j xs
take-more xs i j le =
    let front : take i (take j xs) ≡ take i xs = take-take i j xs le in
    let back : take (j - i) (drop i xs) ≡ drop i (take j xs) =
    subst (λ n. take (j - i) (drop i xs) ≡ drop i (take n xs)) (omega arith) (sym (drop-take i (j - i) xs)) in
    ap (λ ys. ys ++ take (j - i) (drop i xs)) (sym front) ∙ ap (λ ys. take i (take j xs) ++ ys) back ∙ take-append-drop i (take j xs)

pub appended-piece : (others : List File) (name bytes : List ℕ) (i j k : ℕ) (d e : Disc) (r : Result (Unit {0}) ℕ) → i ≤ j → k ≡ 1 → d ≡ writing others name (take i bytes)
    → r ≡ (after_append d k (take (j - i) (drop i bytes))).answer → e ≡ (after_append d k (take (j - i) (drop i bytes))).disc → IsAppended e r (writing others name (take j bytes))
appended-piece others name bytes i j k d e r le one is answer disc =
    let piece = take (j - i) (drop i bytes) in
    subst (λ bs. IsAppended e r (writing others name bs)) (take-more bytes i j le)
    (appended others name (take i bytes) piece d e r is (answer ∙ ap (λ n. (after_append d n piece).answer) one) (disc ∙ ap (λ n. (after_append d n piece).disc) one))
