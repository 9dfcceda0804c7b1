-- The globals that modules set, in a store of which other words have changed.
use Rattle.std.proofs.Common.{◌≡◌, ℕ, ◌+◌, ◌<◌, ◌≤◌, List, [], ◌∷◌, ◌++◌, length, get_or, set, true, refl, sym, ap, ◌∙◌, subst, arith}
use Rattle.std.specs.Prelude.{slice_range, sum}
use Rattle.std.specs.List.{AllByRecursion, flat_map}
use Rattle.std.proofs.lemmas.List.Sums.{sum_by-cons}
use Rattle.kernel_lists.specs.LinkedList.Places.{has}
use Rattle.word_store.proofs.Elements.{all-append}
use Rattle.word_store.proofs.Rows.{range_same}
use Rattle.kernel_lists.specs.TaskBlock.Lists.{modules_in}
use Rattle.kernel_lists.specs.HunkLoader.Globals.{Global, globals_in, globals_of_hunk, with_globals}
use Rattle.kernel_lists.specs.HunkLoader.GlobalWords.{AreClear}
use Rattle.kernel_lists.specs.HunkLoader.ModuleHunks.{hunk_count, hunks_at, lengths_in, module_end, placed}
use Rattle.kernel_lists.specs.HunkLoader.Modules.{HasModules}
use Rattle.kernel_lists.proofs.HunkLoader.GlobalLists.{AreGlobals, hunk-are, length-with_globals, with_globals-append, with_globals-other}
use Rattle.kernel_lists.proofs.HunkLoader.HeldModuleLists.{held-modules}
use Rattle.kernel_lists.proofs.HunkLoader.HunkWalk.{module_inside}
use Rattle.kernel_model.specs.KernelRecord.Changes.{AreUnowned}
use Rattle.kernel_model.specs.KernelRecord.HoldsLists.{HoldsLists}
use Rattle.kernel_model.specs.KernelRecord.Lists.{Lists}
use Rattle.kernel_calls.proofs.CallAnswers.FoundTask.{reads}
use Rattle.kernel_calls.specs.TaskCalls.Private.NewTasks.{MaySetGlobals}
use Rattle.kernel_calls.proofs.TaskCalls.PlainRows.{plain-set}

-- ---- a module whose words are as they were

module _ (s t : List ℕ) (m : ℕ) (long : length t ≡ length s) (fits : module_end s m + 2 ≤ length s) (same : (a : ℕ) → m ≤ a → a < module_end s m → get_or t a 0 ≡ get_or s a 0) where
  count : hunk_count t m ≡ hunk_count s m
  count = same (m + 1) (omega arith) (omega arith)

  lengths : lengths_in t m ≡ lengths_in s m
  lengths =
      ap (λ n. slice_range t (m + 2) (m + 2 + n)) count
      ∙ range_same s t (m + 2) (hunk_count s m) (omega (arith, fits)) (omega (arith, fits, long)) (λ i low high. same i (omega (arith, low)) (omega (arith, high)))

  pub end-same : module_end t m ≡ module_end s m
  end-same = λ i. m + 2 + count i + sum (lengths i)

  hunks-same : (base : ℕ) (ns : List ℕ) → m ≤ base → base + sum ns ≤ module_end s m → hunks_at t base ns ≡ hunks_at s base ns
  hunks-same base [] low high = refl
  hunks-same base (n ∷ ns) low high =
      let size : sum (n ∷ ns) ≡ n + sum ns = sum_by-cons (λ (x : ℕ). x) n ns in
      let here : slice_range t base (base + n) ≡ slice_range s base (base + n) =
      range_same s t base n (omega (arith, high, size, fits)) (omega (arith, high, size, fits, long)) (λ i from to. same i (omega (arith, low, from)) (omega (arith, to, high, size)))
      in
      λ i. placed base (here i) ∷ hunks-same (base + n) ns (omega (arith, low)) (omega (arith, high, size)) i

  pub globals-same : globals_in t m ≡ globals_in s m
  globals-same =
      ap (flat_map globals_of_hunk) ((λ i. hunks_at t (m + 2 + count i) (lengths i)) ∙ hunks-same (m + 2 + hunk_count s m) (lengths_in s m) (omega arith) (omega arith))

-- ---- their numbers

globals-at : (s : List ℕ) (base : ℕ) (ns : List ℕ) → AreGlobals (flat_map globals_of_hunk (hunks_at s base ns))
globals-at s base [] = tt
globals-at s base (n ∷ ns) =
    all-append (λ g. g.number ≤ 1000) (globals_of_hunk (placed base (slice_range s base (base + n)))) (flat_map globals_of_hunk (hunks_at s (base + n) ns))
    (hunk-are base (slice_range s base (base + n))) (globals-at s (base + n) ns)

pub globals-are : (s : List ℕ) (m : ℕ) → AreGlobals (globals_in s m)
globals-are s m = globals-at s (m + 2 + hunk_count s m) (lengths_in s m)

pub all_globals-are : (s : List ℕ) (ms : List ℕ) → AreGlobals (flat_map (globals_in s) ms)
all_globals-are s [] = tt
all_globals-are s (m ∷ ms) = all-append (λ g. g.number ≤ 1000) (globals_in s m) (flat_map (globals_in s) ms) (globals-are s m) (all_globals-are s ms)

pub globals-hold : (s : List ℕ) (l : Lists) (g : ℕ) (gs : List Global) → HoldsLists s l → AreUnowned l g (g + 1001) → AreGlobals gs → HoldsLists (with_globals s g gs) l
globals-hold s l g [] h free all = h
globals-hold s l g (x ∷ xs) h free all =
    globals-hold (set s (g + x.number) x.value) l g xs (plain-set s l (g + x.number) x.value h (free (g + x.number) (omega arith) (omega (arith, all.0)))) free all.1

pub has-modules : (s : List ℕ) (l : Lists) → HoldsLists s l → HasModules s
has-modules s l h = (held-modules s l.modules (reads s l h).modules).modules

pub modules-kept : (s t : List ℕ) (l : Lists) → HoldsLists s l → HoldsLists t l → modules_in t ≡ modules_in s
modules-kept s t l h k = (held-modules t l.modules (reads t l k).modules).list ∙ sym (held-modules s l.modules (reads s l h).modules).list

-- ---- one module after the other

module _ (s t : List ℕ) (l : Lists) (m : ℕ) (ms : List ℕ) (g : ℕ) (h : HoldsLists s l) (may : MaySetGlobals s l (m ∷ ms) g) (is : t ≡ with_globals s g (globals_in s m)) where
  pub next-holds : HoldsLists t l
  next-holds = subst (λ z. HoldsLists z l) (sym is) (globals-hold s l g (globals_in s m) h may.unowned (globals-are s m))

  long : length t ≡ length s
  long = ap length is ∙ length-with_globals s g (globals_in s m)

  -- the words of another module
  words-same : (x : ℕ) → AreClear g x (module_end s x) → (a : ℕ) → x ≤ a → a < module_end s x → get_or t a 0 ≡ get_or s a 0
  words-same x clear a low high = ap (λ z. get_or z a 0) is ∙ with_globals-other s g x (module_end s x) (globals_in s m) a (globals-are s m) clear low high

  fits : (x : ℕ) → has x (modules_in s) ≡ true → module_end s x + 2 ≤ length s
  fits x listed = module_inside s x (has-modules s l h) listed

  still-clear : (xs : List ℕ) → AllByRecursion (λ x. has x (modules_in s) ≡ true) xs → AllByRecursion (λ x. AreClear g x (module_end s x)) xs → AllByRecursion (λ x. AreClear g x (module_end t x)) xs
  still-clear [] listed clear = tt
  still-clear (x ∷ xs) listed clear = (
    subst (AreClear g x) (sym (end-same s t x long (fits x listed.0) (words-same x clear.0))) clear.0,
    still-clear xs listed.1 clear.1,
  )

  all-same : (xs : List ℕ) → AllByRecursion (λ x. has x (modules_in s) ≡ true) xs → AllByRecursion (λ x. AreClear g x (module_end s x)) xs → flat_map (globals_in t) xs ≡ flat_map (globals_in s) xs
  all-same [] listed clear = refl
  all-same (x ∷ xs) listed clear = λ i. globals-same s t x long (fits x listed.0) (words-same x clear.0) i ++ all-same xs listed.1 clear.1 i

  pub next-may : MaySetGlobals t l ms g
  next-may =
      record {
        unowned = may.unowned;
        listed = subst (λ z. AllByRecursion (λ x. has x z ≡ true) ms) (sym (modules-kept s t l h next-holds)) may.listed.1;
        clear = still-clear ms may.listed.1 may.clear.1;
      }

  pub next-globals : with_globals t g (flat_map (globals_in t) ms) ≡ with_globals s g (flat_map (globals_in s) (m ∷ ms))
  next-globals =
      ap (λ z. with_globals t g z) (all-same ms may.listed.1 may.clear.1) ∙ ap (λ z. with_globals z g (flat_map (globals_in s) ms)) is
      ∙ sym (with_globals-append s g (globals_in s m) (flat_map (globals_in s) ms))
