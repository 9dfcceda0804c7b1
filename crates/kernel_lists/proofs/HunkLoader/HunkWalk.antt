-- A walk along the hunks of a module, by their lengths.
use Rattle.std.proofs.Common.{◌≡◌, ◌⊎◌, inl, inr, ◌∙◌, ℕ, ◌+◌, ◌<◌, ◌≤◌, List, [], ◌∷◌, length, get_or, true, refl, sym, ap, subst, arith, slice_index}
use Rattle.std.specs.Prelude.{slice_range, sum}
use Rattle.std.specs.List.{AllByRecursion, flat_map}
use Rattle.std.proofs.lemmas.List.Sums.{sum_by-cons}
use Rattle.kernel_lists.specs.LinkedList.Places.{has}
use Rattle.kernel_lists.proofs.LinkedList.AllMembers.{all-has}
use Rattle.word_store.proofs.Rows.{range_first, range_none, range_same}
use Rattle.kernel_lists.specs.TaskBlock.Lists.{modules_in}
use Rattle.kernel_lists.specs.HunkLoader.Globals.{GlobalsFit, globals_in, globals_of_hunk, highest, most_globals, with_globals}
use Rattle.kernel_lists.specs.HunkLoader.GlobalWords.{AreClear}
use Rattle.kernel_lists.specs.HunkLoader.Modules.{HasModules, IsModuleAt}
use Rattle.kernel_lists.specs.HunkLoader.ModuleHunks.{PlacedHunk, hunk_count, hunks_at, hunks_in, lengths_in, module_end, placed}
use Rattle.kernel_lists.proofs.HunkLoader.GlobalLists.{hunk-are, length-with_globals, with_globals-append, with_globals-other}
use Rattle.kernel_lists.proofs.HunkLoader.ModuleBlocks.{in_block}

-- a module of the list lies in the store
pub module_inside : (s : List ℕ) (m : ℕ) → HasModules s → has m (modules_in s) ≡ true → module_end s m + 2 ≤ length s
module_inside s m h e =
    let k = all-has (IsModuleAt s) m (modules_in s) h.modules e in
    let b = in_block s m h.tiled k in
    omega (arith, b.words, b.inside)

-- the lengths of the hunks from number i on
abbrev pub lengths_left : List ℕ → ℕ → ℕ → List ℕ
lengths_left s m i = slice_range s (m + 2 + i) (m + 2 + hunk_count s m)

-- the next hunk, and those after it
pub record NextHunk (s : List ℕ) (m i : ℕ) : Type 0 where
  pub is : lengths_left s m i ≡ slice_index s (m + 2 + i) ∷ lengths_left s m (i + 1)
  pub size : sum (lengths_left s m i) ≡ slice_index s (m + 2 + i) + sum (lengths_left s m (i + 1))

pub next_hunk : (s : List ℕ) (m i : ℕ) → i < hunk_count s m → module_end s m + 2 ≤ length s → NextHunk s m i
next_hunk s m i lt fits =
    let n = hunk_count s m in
    let next : m + 2 + i + 1 ≡ m + 2 + (i + 1) = omega arith in
    let is : lengths_left s m i ≡ slice_index s (m + 2 + i) ∷ lengths_left s m (i + 1)
    = range_first s (m + 2 + i) (m + 2 + n) (omega arith) (omega arith) ∙ ap (λ (x : ℕ). slice_index s (m + 2 + i) ∷ slice_range s x (m + 2 + n)) next in
    record { is = is; size = ap (λ (xs : List ℕ). sum xs) is ∙ sum_by-cons (λ (x : ℕ). x) (slice_index s (m + 2 + i)) (lengths_left s m (i + 1)) }

pub none_left : (s : List ℕ) (m i : ℕ) → i ≡ hunk_count s m → lengths_left s m i ≡ []
none_left s m i e = ap (λ (x : ℕ). slice_range s (m + 2 + x) (m + 2 + hunk_count s m)) e ∙ range_none s (m + 2 + hunk_count s m)

pub all_left : (s : List ℕ) (m i : ℕ) → i ≡ 0 → lengths_left s m i ≡ lengths_in s m
all_left s m i e = ap (λ (x : ℕ). slice_range s x (m + 2 + hunk_count s m)) (omega arith)

-- ---- whether globals fit

abbrev Fit : List PlacedHunk → Type 0
Fit hs = AllByRecursion (λ h. highest h.words ≤ most_globals) hs

-- the hunks that are left fit exactly where all do
pub record FitLeft (s : List ℕ) (m i base : ℕ) : Type 0 where
  pub room : base + sum (lengths_left s m i) ≡ module_end s m
  pub on : Fit (hunks_at s base (lengths_left s m i)) → GlobalsFit s m
  pub back : GlobalsFit s m → Fit (hunks_at s base (lengths_left s m i))

pub fit_begin : (s : List ℕ) (m i base : ℕ) → i ≡ 0 → base ≡ m + 2 + hunk_count s m → FitLeft s m i base
fit_begin s m i base none e =
    let all = all_left s m i none in
    let same : hunks_at s base (lengths_left s m i) ≡ hunks_in s m = ap (λ (ns : List ℕ). hunks_at s base ns) all ∙ ap (λ (x : ℕ). hunks_at s x (lengths_in s m)) e in
    record {
      room = ap (λ (ns : List ℕ). base + sum ns) all ∙ ap (λ (x : ℕ). x + sum (lengths_in s m)) e;
      on = λ h. subst Fit same h;
      back = λ h. subst Fit (sym same) h;
    }

-- the next hunk lies in the module
pub hunk_room : (s : List ℕ) (m i base : ℕ) → i < hunk_count s m → module_end s m + 2 ≤ length s → base + sum (lengths_left s m i) ≡ module_end s m → base + slice_index s (m + 2 + i) ≤ module_end s m
hunk_room s m i base lt fits room = (let k = next_hunk s m i lt fits in omega (arith, k.size))

first_hunk : (s : List ℕ) (m i base : ℕ) → i < hunk_count s m → module_end s m + 2 ≤ length s
    → hunks_at s base (lengths_left s m i) ≡ placed base (slice_range s base (base + slice_index s (m + 2 + i))) ∷ hunks_at s (base + slice_index s (m + 2 + i)) (lengths_left s m (i + 1))
first_hunk s m i base lt fits = ap (λ (ns : List ℕ). hunks_at s base ns) (next_hunk s m i lt fits).is

pub fit_more : (s : List ℕ) (m i base : ℕ) → i < hunk_count s m → module_end s m + 2 ≤ length s → FitLeft s m i base
    → highest (slice_range s base (base + slice_index s (m + 2 + i))) ≤ most_globals → FitLeft s m (i + 1) (base + slice_index s (m + 2 + i))
fit_more s m i base lt fits l here =
    let first = first_hunk s m i base lt fits in
    let k = next_hunk s m i lt fits in
    let room = l.room in
    record {
      room = omega (arith, k.size);
      on = λ h. l.on (subst Fit (sym first) (here, h));
      back = λ h. (subst Fit first (l.back h)).1;
    }

-- one that does not fit
pub fit_none : (s : List ℕ) (m i base : ℕ) → i < hunk_count s m → module_end s m + 2 ≤ length s → FitLeft s m i base → GlobalsFit s m → highest (slice_range s base (base + slice_index s (m + 2 + i))) ≤ most_globals
fit_none s m i base lt fits l h = (subst Fit (first_hunk s m i base lt fits) (l.back h)).0

pub fit_end : (s : List ℕ) (m i base : ℕ) → i ≡ hunk_count s m → FitLeft s m i base → GlobalsFit s m
fit_end s m i base e l = l.on (subst Fit (sym (ap (λ (ns : List ℕ). hunks_at s base ns) (none_left s m i e))) tt)

-- ---- globals that are set

-- what is left of the hunks gives the result; the module's words are as they were
pub record SetLeft (s t : List ℕ) (m g i base : ℕ) : Type 0 where
  pub room : base + sum (lengths_left s m i) ≡ module_end s m
  pub above : m ≤ base
  pub all : with_globals t g (flat_map globals_of_hunk (hunks_at s base (lengths_left s m i))) ≡ with_globals s g (globals_in s m)
  pub same : (a : ℕ) → m ≤ a → a < module_end s m → get_or t a 0 ≡ get_or s a 0
  pub size : length t ≡ length s

pub set_begin : (s : List ℕ) (m g i base : ℕ) → i ≡ 0 → base ≡ m + 2 + hunk_count s m → SetLeft s s m g i base
set_begin s m g i base none e =
    let l = fit_begin s m i base none e in
    record {
      room = l.room;
      above = omega arith;
      all = ap (λ (ns : List ℕ). with_globals s g (flat_map globals_of_hunk (hunks_at s base ns))) (all_left s m i none)
          ∙ ap (λ (x : ℕ). with_globals s g (flat_map globals_of_hunk (hunks_at s x (lengths_in s m)))) e;
      same = λ a low high. refl;
      size = refl;
    }

-- the words of globals are apart from the next hunk
pub hunk_clear : (s : List ℕ) (m g base n : ℕ) → AreClear g m (module_end s m) → m ≤ base → base + n ≤ module_end s m → AreClear g base (base + n)
hunk_clear s m g base n clear low high = λ k few. by k (clear k few)
  where
    by : (k : ℕ) → (g + k < m) ⊎ (module_end s m ≤ g + k) → (g + k < base) ⊎ (base + n ≤ g + k)
    by k (inl before) = inl (omega arith)
    by k (inr after) = inr (omega arith)

pub set_more : (s t t' : List ℕ) (m g i base n : ℕ) → i < hunk_count s m → module_end s m + 2 ≤ length s → AreClear g m (module_end s m) → SetLeft s t m g i base → n ≡ slice_index t (m + 2 + i)
    → t' ≡ with_globals t g (globals_of_hunk (placed base (slice_range t base (base + n)))) → SetLeft s t' m g (i + 1) (base + n)
set_more s t t' m g i base n lt fits clear l e put =
    let k = next_hunk s m i lt fits in
    let room = l.room in
    let above = l.above in
    let count : n ≡ slice_index s (m + 2 + i) = e ∙ l.same (m + 2 + i) (omega arith) (omega arith) in
    let inside = hunk_room s m i base lt fits room in
    let words : slice_range t base (base + n) ≡ slice_range s base (base + n)
    = range_same s t base n (omega arith) (omega (arith, l.size)) (λ a low high. l.same a (omega arith) (omega arith)) in
    let h = placed base (slice_range s base (base + n)) in
    let now : t' ≡ with_globals t g (globals_of_hunk h) = put ∙ ap (λ (ws : List ℕ). with_globals t g (globals_of_hunk (placed base ws))) words in
    let rest = flat_map globals_of_hunk (hunks_at s (base + n) (lengths_left s m (i + 1))) in
    let first : hunks_at s base (lengths_left s m i) ≡ h ∷ hunks_at s (base + n) (lengths_left s m (i + 1))
    = first_hunk s m i base lt fits ∙ ap (λ (x : ℕ). placed base (slice_range s base (base + x)) ∷ hunks_at s (base + x) (lengths_left s m (i + 1))) (sym count) in
    record {
      room = omega (arith, k.size);
      above = omega arith;
      all = ap (λ (x : List ℕ). with_globals x g rest) now ∙ sym (with_globals-append t g (globals_of_hunk h) rest)
          ∙ sym (ap (λ hs. with_globals t g (flat_map globals_of_hunk hs)) first) ∙ l.all;
      same = λ a low high. ap (λ (x : List ℕ). get_or x a 0) now
          ∙ with_globals-other t g m (module_end s m) (globals_of_hunk h) a (hunk-are base (slice_range s base (base + n))) clear low high ∙ l.same a low high;
      size = ap length now ∙ length-with_globals t g (globals_of_hunk h) ∙ l.size;
    }

pub set_end : (s t : List ℕ) (m g i base : ℕ) → i ≡ hunk_count s m → SetLeft s t m g i base → t ≡ with_globals s g (globals_in s m)
set_end s t m g i base e l = sym (ap (λ (ns : List ℕ). with_globals t g (flat_map globals_of_hunk (hunks_at s base ns))) (none_left s m i e)) ∙ l.all
