-- The tests of a module that a guest gets besides, as a store tells them.
use Rattle.std.proofs.Common.{◌≡◌, ◌≢◌, ℕ, suc, ◌+◌, ◌-◌, ◌%◌, ◌<◌, ◌≤◌, ◌⊎◌, List, [], ◌∷◌, ◌++◌, length, map, get_or, cond, eqb, ltb, leb, not, ◌&&◌, Bool, true, false, Option, Some, None, inl, inr, refl, sym, ap, ◌∙◌, subst, arith}
use Rattle.std.specs.Prelude.{◌↔◌, IsTrue, filter, slice_range}
use Rattle.std.specs.List.{AllByRecursion, list_all}
use Rattle.std.proofs.lemmas.Bool.{cases_eq, cases_lt, eq-eqb, le-leb, le-ltb, leb-true, lt-ltb, ne_eqb}
use Rattle.word_store.specs.Count.{IsApart}
use Rattle.kernel_lists.specs.LinkedList.Places.{has}
use Rattle.kernel_lists.specs.OwnedWords.LinkedWords.{first_of}
use Rattle.kernel_lists.specs.HunkLoader.Globals.{GlobalsFit, highest, most_globals}
use Rattle.kernel_lists.specs.HunkLoader.HeldModules.{module_address}
use Rattle.kernel_lists.specs.HunkLoader.ModuleHunks.{PlacedHunk, hunks_in}
use Rattle.kernel_lists.specs.TaskBlock.TaskChain.{id_in}
use Rattle.kernel_lists.specs.TaskBlock.Versions.{head_words, most_modules}
use Rattle.kernel_model.specs.KernelRecord.HoldsLists.{HoldsLists}
use Rattle.kernel_model.specs.KernelRecord.KernelRanges.{task_size_in}
use Rattle.kernel_model.specs.KernelRecord.Lists.{Lists}
use Rattle.kernel_model.specs.KernelRecord.Recovered.{lists_in, modules_of, task_in}
use Rattle.kernel_model.specs.KernelRecord.Task.{is_guest_id, task_id}
use Rattle.kernel_model.specs.KernelRecord.ValidTasks.{IsGuest}
use Rattle.kernel_model.specs.KernelRecord.Versions.{most_modules_of}
use Rattle.kernel_model.proofs.KernelRecord.AllThings.{all-here}
use Rattle.kernel_model.proofs.KernelRecord.RecoveredLists.{lists-back}
use Rattle.kernel_calls.specs.CallAnswers.Guests.{GuestAt}
use Rattle.kernel_calls.specs.CallAnswers.Refusals.{first_refusal}
use Rattle.kernel_calls.proofs.CallAnswers.FoundTask.{any-one}
use Rattle.kernel_calls.proofs.CallAnswers.GuestTask.{GuestFacts, guest-facts, guest-words}
use Rattle.kernel_calls.specs.CallAnswers.Tasks.{is_dead}
use Rattle.kernel_calls.specs.CallAnswers.Modules.{has_module}
use Rattle.kernel_calls.specs.ModuleCalls.AddModule.{check_tests, globals_fit, has_module_room}
use Rattle.kernel_calls.specs.ModuleCalls.Private.ModuleFields.{IsTaskIn, further_count}
use Rattle.kernel_calls.proofs.ModuleCalls.ModuleUses.{each-inside, each-told, module-some}

-- ---- the module's globals

pub fits-told : (s : List ℕ) (m : ℕ) (b : Bool) → (IsTrue b ↔ GlobalsFit s m) → b ≡ globals_fit s m
fits-told s m b both = on b refl (globals_fit s m) refl
  where
    all : (hs : List PlacedHunk) → list_all (λ h. leb (highest h.words) most_globals) hs ≡ true → AllByRecursion (λ h. highest h.words ≤ most_globals) hs
    all [] e = tt
    all (h ∷ hs) e = by (leb (highest h.words) most_globals) refl e (all hs)
      where
        by : (x : Bool) → leb (highest h.words) most_globals ≡ x → (x && list_all (λ h. leb (highest h.words) most_globals) hs) ≡ true
            → (list_all (λ h. leb (highest h.words) most_globals) hs ≡ true → AllByRecursion (λ h. highest h.words ≤ most_globals) hs) → AllByRecursion (λ h. highest h.words ≤ most_globals) (h ∷ hs)
        by true e f more = (leb-true (highest h.words) most_globals e, more f)
        by false e f more = cc

    back : (hs : List PlacedHunk) → AllByRecursion (λ h. highest h.words ≤ most_globals) hs → list_all (λ h. leb (highest h.words) most_globals) hs ≡ true
    back [] fit = refl
    back (h ∷ hs) fit = ap (λ x. x && list_all (λ h. leb (highest h.words) most_globals) hs) (le-leb (highest h.words) most_globals fit.0) ∙ back hs fit.1

    on : (x : Bool) → b ≡ x → (y : Bool) → globals_fit s m ≡ y → x ≡ y
    on true e true f = refl
    on false e false f = refl
    on true e false f = (let k : globals_fit s m ≡ true = back (hunks_in s m) (both.0 e) in cc)
    on false e true f = (let k : b ≡ true = both.1 (all (hunks_in s m) f) in cc)

-- the version
pub most-told : (s : List ℕ) (l : Lists) → HoldsLists s l → most_modules s ≡ most_modules_of l.version
unfolding lists_in
most-told s l h = ap (λ z. most_modules_of z.version) (lists-back s l h.valid h.size h.holds)

module _ (s : List ℕ) (l : Lists) (id address : ℕ) (h : HoldsLists s l) (g : GuestAt l id address) where
  pub facts : GuestFacts s l id address g.task
  facts = guest-facts s l id address h g

  pub is-guest : IsGuest l g.task
  is-guest = facts.task.guest facts.guest

  apart : IsApart (map task_id (g.front ++ g.task ∷ g.back))
  apart = subst (λ ts. IsApart (map task_id ts)) g.is h.valid.tasks.distinct

  told : task_in s address ≡ g.task
  told = ap (task_in s) (sym g.at) ∙ all-here (λ t. task_in s t.address ≡ t) g.front g.task g.back (subst (AllByRecursion (λ t. task_in s t.address ≡ t)) g.is (each-told s l h))

  pub id-told : id_in s address ≡ g.task.id
  id-told = ap (λ z. z.id) told

  -- the words of its task block
  pub heads-inside : address + head_words s ≤ length s
  heads-inside =
      let inside : address + task_size_in s address ≤ length s =
      subst (IsTaskIn s) g.at (all-here (λ t. IsTaskIn s t.address) g.front g.task g.back (subst (AllByRecursion (λ t. IsTaskIn s t.address)) g.is (each-inside s l h)))
      in
      let size : task_size_in s address ≡ head_words s = ap (λ i. cond (is_guest_id i) (head_words s) 23) id-told ∙ ap (λ b. cond b (head_words s) 23) facts.guest in
      omega (arith, inside, size)

  pub dead-told : eqb (get_or s (address + 4) 0 - get_or s (address + 4) 0 % 4) 12 ≡ is_dead l id
  dead-told =
      ap (λ z. eqb z.field 12) told
      ∙ sym (any-one id (λ t. eqb t.field 12) g.front g.task g.back g.number apart)
      ∙ ap (λ ts. is_dead (record l { tasks = ts }) id) (sym g.is)

  -- ---- its modules

  -- it has a first one
  first-some : (ms : List ℕ) → AllByRecursion (λ x. has x (map module_address l.modules) ≡ true) ms → 1 ≤ length ms → first_of (λ x. x) ms 0 ≢ 0
  first-some [] all some e = absurd (omega (arith, some))
  first-some (x ∷ xs) all some e = absurd (omega (arith, e, module-some l x h.valid all.0))

  abbrev some : ℕ → Bool
  some w = not (eqb w 0)

  abbrev rest : List ℕ
  rest = slice_range s (address + 23) (address + head_words s)

  pub count-told : 1 + further_count s address ≡ length g.task.modules
  count-told =
      let modules : modules_of s address ≡ g.task.modules = ap (λ z. z.modules) told in
      let field : get_or s (address + 10) 0 ≢ 0 = λ e. first-some g.task.modules is-guest.modules is-guest.some_module (sym (guest-words s l id address h g).1.1.1.1.1.1.0 ∙ ap (λ a. get_or s (a + 10) 0) g.at ∙ e) in
      let guest : is_guest_id (id_in s address) ≡ true = ap is_guest_id id-told ∙ facts.guest in
      let behind : length (modules_of s address) ≡ length (filter some (get_or s (address + 10) 0 ∷ rest)) = ap (λ b. length (filter some (get_or s (address + 10) 0 ∷ cond b rest []))) guest in
      let front : length (filter some (get_or s (address + 10) 0 ∷ rest)) ≡ suc (length (filter some rest)) =
      ap (λ b. length (cond (not b) (get_or s (address + 10) 0 ∷ filter some rest) (filter some rest))) (ne_eqb (get_or s (address + 10) 0) 0 field)
      in
      omega (arith, ap length modules, behind, front)

  pub room-told : (count : ℕ) → count ≡ length g.task.modules → eqb count (most_modules s) ≡ not (has_module_room l id)
  room-told count e =
      let room : has_module_room l id ≡ ltb (length g.task.modules) (most_modules_of l.version) =
      ap (λ ts. has_module_room (record l { tasks = ts }) id) g.is
      ∙ any-one id (λ t. ltb (length t.modules) (most_modules_of l.version)) g.front g.task g.back g.number apart
      in
      by room (cases_eq count (most_modules s))
    where
      by : has_module_room l id ≡ ltb (length g.task.modules) (most_modules_of l.version) → (count ≡ most_modules s) ⊎ (count ≡ most_modules s → ⊥) → eqb count (most_modules s) ≡ not (has_module_room l id)
      by room (inl same) =
          eq-eqb count (most_modules s) same
          ∙ ap not (sym (room ∙ le-ltb (length g.task.modules) (most_modules_of l.version) (omega (arith, same, e, most-told s l h))))
      by room (inr other) =
          ne_eqb count (most_modules s) other
          ∙ ap not (sym (room ∙ lt-ltb (length g.task.modules) (most_modules_of l.version) (omega (arith, other, e, most-told s l h, is-guest.most))))

-- ---- in their order

module _ (s : List ℕ) (l : Lists) (id m : ℕ) where
  pub tests-not_dead : is_dead l id ≡ false → first_refusal (check_tests s l id m) ≡ Some 11
  tests-not_dead e = ap (λ b. cond b (cond (has_module l m) (cond (has_module_room l id) (cond (globals_fit s m) None (Some 18)) (Some 28)) (Some 17)) (Some 11)) e

  pub tests-by : (b c d : Bool) → is_dead l id ≡ true → has_module l m ≡ b → has_module_room l id ≡ c → globals_fit s m ≡ d
      → first_refusal (check_tests s l id m) ≡ cond b (cond c (cond d None (Some 18)) (Some 28)) (Some 17)
  tests-by b c d dead e f k = λ i. cond (dead i) (cond (e i) (cond (f i) (cond (k i) None (Some 18)) (Some 28)) (Some 17)) (Some 11)

-- where all hold there is such a module, and there is room for it
pub record IsChecked (l : Lists) (id m : ℕ) : Type 0 where
  pub there : has_module l m ≡ true
  pub room : has_module_room l id ≡ true

pub checks-passed : (s : List ℕ) (l : Lists) (id m : ℕ) → first_refusal (check_tests s l id m) ≡ None → IsChecked l id m
checks-passed s l id m e = on (is_dead l id) (has_module l m) refl (has_module_room l id) refl (globals_fit s m) e
  where
    on : (a b : Bool) → has_module l m ≡ b → (c : Bool) → has_module_room l id ≡ c → (d : Bool)
        → ◌≡◌ {A = Option ℕ} (cond a (cond b (cond c (cond d None (Some 18)) (Some 28)) (Some 17)) (Some 11)) None → IsChecked l id m
    on true true p true q d e = record { there = p; room = q }
    on true true p false q d e = cc
    on true false p c q d e = cc
    on false b p c q d e = cc

-- so it has fewer modules than it may have
pub room-is : (s : List ℕ) (l : Lists) (id address : ℕ) (h : HoldsLists s l) (g : GuestAt l id address) → has_module_room l id ≡ true → length g.task.modules < most_modules_of l.version
room-is s l id address h g e =
    by (cases_lt (length g.task.modules) (most_modules_of l.version))
  where
    room : has_module_room l id ≡ ltb (length g.task.modules) (most_modules_of l.version)
    room =
        ap (λ ts. has_module_room (record l { tasks = ts }) id) g.is
        ∙ any-one id (λ t. ltb (length t.modules) (most_modules_of l.version)) g.front g.task g.back g.number (subst (λ ts. IsApart (map task_id ts)) g.is h.valid.tasks.distinct)

    by : (length g.task.modules < most_modules_of l.version) ⊎ (most_modules_of l.version ≤ length g.task.modules) → length g.task.modules < most_modules_of l.version
    by (inl few) = few
    by (inr many) = (let f : has_module_room l id ≡ false = room ∙ le-ltb (length g.task.modules) (most_modules_of l.version) many in cc)
