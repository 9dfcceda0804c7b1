-- Files in byte order of their names: looking one up, putting one in, leaving one out.
use Rattle.std.proofs.Common.{◌≡◌, ◌≢◌, ℕ, zero, suc, ◌<◌, ◌≤◌, List, [], ◌∷◌, ◌++◌, length, map, get_or, set, cond, not, ◌||◌, Bool, true, false, None, Some, refl, sym, ap, ◌∙◌, subst, arith}
use Rattle.std.specs.List.{AllByRecursion, filter, find, insert, list_any, remove}
use Rattle.std.specs.Str.{bytes_eq}
use Rattle.ram_disc.specs.Disc.{AreInOrder, File, has_name, is_before}
use Rattle.ram_disc.specs.DiscCalls.{with_file, without_file}
use Rattle.word_store.proofs.EqualTexts.{bytes_eq-self}
use Rattle.ram_disc.proofs.NameOrder.{all-get_or, bytes_eq-other, get_or-all, is_before-back, is_before-differ, is_before-self}

abbrev pub names_of : List File → List (List ℕ)
names_of fs = map (λ f. f.name) fs

filter-all : (q : File → Bool) (fs : List File) → AllByRecursion (λ g. q g ≡ true) fs → filter q fs ≡ fs
filter-all q [] all = refl
filter-all q (f ∷ fs) all = ap (λ b. cond b (f ∷ filter q fs) (filter q fs)) all.0 ∙ ap (λ gs. f ∷ gs) (filter-all q fs all.1)

filter-none : (q : File → Bool) (fs : List File) → AllByRecursion (λ g. q g ≡ false) fs → filter q fs ≡ []
filter-none q [] all = refl
filter-none q (f ∷ fs) all = ap (λ b. cond b (f ∷ filter q fs) (filter q fs)) all.0 ∙ filter-none q fs all.1

all-names : (P : List ℕ → Type 0) (fs : List File) → AllByRecursion P (names_of fs) → AllByRecursion (λ g. P g.name) fs
all-names P [] all = tt
all-names P (f ∷ fs) all = (all.0, all-names P fs all.1)

all-weaker : {X : Type 0} (P Q : X → Type 0) (xs : List X) → ((x : X) → P x → Q x) → AllByRecursion P xs → AllByRecursion Q xs
all-weaker P Q [] each all = tt
all-weaker P Q (x ∷ xs) each all = (each x all.0, all-weaker P Q xs each all.1)

-- the first file is before the one at a later place
first-before : (g : File) (gs : List File) (i : ℕ) (d : File) → AreInOrder (names_of (g ∷ gs)) → i < length gs → is_before g.name (get_or gs i d).name ≡ true
first-before g gs i d order h = all-get_or (λ f. is_before g.name f.name ≡ true) gs i d (all-names (λ m. is_before g.name m ≡ true) gs order.0) h

module _ (f : File) where
  abbrev Before : File → Bool
  Before g = is_before g.name f.name

  abbrev After : File → Bool
  After g = is_before f.name g.name

  -- all files are behind this one
  all-behind : (gs : List File) → AllByRecursion (λ g. After g ≡ true) gs → with_file f gs ≡ f ∷ gs
  all-behind gs all =
      ap (λ xs. xs ++ f ∷ filter After gs) (filter-none Before gs (all-weaker (λ g. After g ≡ true) (λ g. Before g ≡ false) gs (λ g h. is_before-back f.name g.name h) all))
      ∙ ap (λ xs. f ∷ xs) (filter-all After gs all)

  -- a file that is before it stays in front
  with_file-front : (g : File) (gs : List File) → Before g ≡ true → with_file f (g ∷ gs) ≡ g ∷ with_file f gs
  with_file-front g gs h =
      ap (λ b. cond b (g ∷ filter Before gs) (filter Before gs) ++ f ∷ filter After (g ∷ gs)) h
      ∙ ap (λ b. (g ∷ filter Before gs) ++ f ∷ cond b (g ∷ filter After gs) (filter After gs)) (is_before-back g.name f.name h)

  -- a file in place of that with its name
  pub with_file-set : (gs : List File) (i : ℕ) → AreInOrder (names_of gs) → i < length gs → (get_or gs i f).name ≡ f.name → with_file f gs ≡ set gs i f
  with_file-set [] i order h same = absurd (omega arith)
  with_file-set (g ∷ gs) zero order h same =
      let none : Before g ≡ false = ap (λ m. is_before m f.name) same ∙ is_before-self f.name in
      let no : After g ≡ false = ap (is_before f.name) same ∙ is_before-self f.name in
      let all : AllByRecursion (λ m. is_before f.name m ≡ true) (names_of gs) =
      subst (λ n. AllByRecursion (λ m. is_before n m ≡ true) (names_of gs)) same order.0 in
      ap (λ b. cond b (g ∷ filter Before gs) (filter Before gs) ++ f ∷ filter After (g ∷ gs)) none
      ∙ ap (λ b. filter Before gs ++ f ∷ cond b (g ∷ filter After gs) (filter After gs)) no
      ∙ all-behind gs (all-names (λ m. is_before f.name m ≡ true) gs all)
  with_file-set (g ∷ gs) (suc i) order h same =
      let e : Before g ≡ true = ap (is_before g.name) (sym same) ∙ first-before g gs i f order (omega arith) in
      with_file-front g gs e ∙ ap (λ xs. g ∷ xs) (with_file-set gs i order.1 (omega arith) same)

  -- a file that comes in at its place
  pub with_file-insert : (gs : List File) (i : ℕ) → i ≤ length gs → ((k : ℕ) → k < i → Before (get_or gs k f) ≡ true)
      → ((k : ℕ) → i ≤ k → k < length gs → After (get_or gs k f) ≡ true) → with_file f gs ≡ insert gs i f
  with_file-insert gs zero h front back = all-behind gs (get_or-all (λ g. After g ≡ true) gs f (λ k l. back k (omega arith) l))
  with_file-insert [] (suc i) h front back = absurd (omega arith)
  with_file-insert (g ∷ gs) (suc i) h front back =
      with_file-front g gs (front zero (omega arith))
      ∙ ap (λ xs. g ∷ xs) (with_file-insert gs i (omega arith) (λ k l. front (suc k) (omega arith)) (λ k l m. back (suc k) (omega arith) (omega arith)))

module _ (name : List ℕ) (d : File) where
  -- a file of another name is passed over
  not-first : (g : File) (gs : List File) (i : ℕ) → AreInOrder (names_of (g ∷ gs)) → i < length gs → (get_or gs i d).name ≡ name → has_name name g ≡ false
  not-first g gs i order h same =
      bytes_eq-other g.name name (is_before-differ g.name name (subst (λ n. is_before g.name n ≡ true) same (first-before g gs i d order h)))

  pub without_file-remove : (gs : List File) (i : ℕ) → AreInOrder (names_of gs) → i < length gs → (get_or gs i d).name ≡ name → without_file name gs ≡ remove gs i
  without_file-remove [] i order h same = absurd (omega arith)
  without_file-remove (g ∷ gs) zero order h same =
      let here : has_name name g ≡ true = ap (λ n. bytes_eq n name) same ∙ bytes_eq-self name in
      let others : AllByRecursion (λ f. not (bytes_eq f.name name) ≡ true) gs =
      all-weaker (λ f. is_before g.name f.name ≡ true) (λ f. not (bytes_eq f.name name) ≡ true) gs
      (λ f h. ap not (bytes_eq-other f.name name (λ e. is_before-differ g.name f.name h (same ∙ sym e))))
      (all-names (λ m. is_before g.name m ≡ true) gs order.0) in
      ap (λ b. cond (not b) (g ∷ without_file name gs) (without_file name gs)) here
      ∙ filter-all (λ f. not (bytes_eq f.name name)) gs others
  without_file-remove (g ∷ gs) (suc i) order h same =
      ap (λ b. cond (not b) (g ∷ without_file name gs) (without_file name gs)) (not-first g gs i order (omega arith) same)
      ∙ ap (λ xs. g ∷ xs) (without_file-remove gs i order.1 (omega arith) same)

  pub find-name : (gs : List File) (i : ℕ) → AreInOrder (names_of gs) → i < length gs → (get_or gs i d).name ≡ name → find (has_name name) gs ≡ Some (get_or gs i d)
  find-name [] i order h same = absurd (omega arith)
  find-name (g ∷ gs) zero order h same =
      let here : has_name name g ≡ true = ap (λ n. bytes_eq n name) same ∙ bytes_eq-self name in
      ap (λ b. cond b (Some g) (find (has_name name) gs)) here
  find-name (g ∷ gs) (suc i) order h same =
      ap (λ b. cond b (Some g) (find (has_name name) gs)) (not-first g gs i order (omega arith) same)
      ∙ find-name gs i order.1 (omega arith) same

  pub any-name : (gs : List File) (i : ℕ) → i < length gs → (get_or gs i d).name ≡ name → list_any (has_name name) gs ≡ true
  any-name [] i h same = absurd (omega arith)
  any-name (g ∷ gs) zero h same = ap (λ b. b || list_any (has_name name) gs) (ap (λ n. bytes_eq n name) same ∙ bytes_eq-self name)
  any-name (g ∷ gs) (suc i) h same = on (has_name name g) (any-name gs i (omega arith) same)
    where
      on : (b : Bool) → list_any (has_name name) gs ≡ true → (b || list_any (has_name name) gs) ≡ true
      on true e = refl
      on false e = e

  pub any-no_name : (gs : List File) → ((k : ℕ) → k < length gs → (get_or gs k d).name ≢ name) → list_any (has_name name) gs ≡ false
  any-no_name [] each = refl
  any-no_name (g ∷ gs) each =
      ap (λ b. b || list_any (has_name name) gs) (bytes_eq-other g.name name (each zero (omega arith)))
      ∙ any-no_name gs (λ k h. each (suc k) (omega arith))

  pub find-no_name : (gs : List File) → ((k : ℕ) → k < length gs → (get_or gs k d).name ≢ name) → find (has_name name) gs ≡ None
  find-no_name [] each = refl
  find-no_name (g ∷ gs) each =
      ap (λ b. cond b (Some g) (find (has_name name) gs)) (bytes_eq-other g.name name (each zero (omega arith)))
      ∙ find-no_name gs (λ k h. each (suc k) (omega arith))
