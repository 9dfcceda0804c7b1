-- The tests of a new task: which of them refuses, and what holds where all do.
use Rattle.std.proofs.Common.{◌≡◌, ◌≢◌, ℕ, suc, ◌+◌, ◌-◌, ◌<◌, ◌≤◌, List, [], ◌∷◌, ◌++◌, cond, eqb, map, not, ◌&&◌, Bool, true, false, Option, Some, None, Result, Ok, Err, inl, inr, refl, sym, ap, ◌∙◌, subst, arith, zero}
use Rattle.std.specs.Prelude.{find, is_some, unwrap_or}
use Rattle.std.specs.List.{AllByRecursion, list_any, range_with_len}
use Rattle.std.specs.Option.{ok_or}
use Rattle.std.proofs.lemmas.Bool.{and_parts, eq-eqb, eqb-false, leb-true, ne_eqb}
use Rattle.kernel_lists.specs.LinkedList.Places.{has}
use Rattle.kernel_lists.specs.HunkLoader.HeldModules.{module_address}
use Rattle.kernel_lists.proofs.HunkLoader.HeldModuleLists.{held-modules}
use Rattle.kernel_lists.specs.TaskBlock.Lists.{modules_in}
use Rattle.kernel_model.specs.KernelRecord.ChangedStore.{Knows}
use Rattle.kernel_model.specs.KernelRecord.HoldsLists.{HoldsLists}
use Rattle.kernel_model.specs.KernelRecord.Lists.{Lists, has_task}
use Rattle.kernel_model.specs.KernelRecord.Task.{Task}
use Rattle.kernel_model.specs.KernelRecord.Versions.{highest_id_of}
use Rattle.kernel_model.proofs.KernelRecord.AllThings.{all-fail, all-from_both}
use Rattle.word_store.proofs.Elements.{find-passes}
use Rattle.kernel_model.proofs.KernelRecord.EachMember.{all-each}
use Rattle.kernel_model.proofs.KernelRecord.RootCounts.{highest-low}
use Rattle.kernel_model.proofs.KernelRecord.TaskPlaces.{TaskPlace, task-places}
use Rattle.kernel_calls.specs.CallAnswers.CallChange.{CallChange, IsMade, by_refusal, unless_refused}
use Rattle.kernel_calls.specs.CallAnswers.Refusals.{first_refusal}
use Rattle.kernel_calls.proofs.CallAnswers.FoundTask.{reads}
use Rattle.kernel_calls.proofs.CallAnswers.MadeCalls.{made-refused}
use Rattle.kernel_calls.proofs.CallAnswers.Refusals.{first_refusal-failed, first_refusal-passed}
use Rattle.kernel_calls.specs.BlockCalls.Getvec.{getvec_tests}
use Rattle.kernel_calls.specs.TaskCalls.ChangePri.{priority_tests}
use Rattle.kernel_calls.specs.TaskCalls.CreateTask.{MayCreate, create_task, creation_tests, free_id, has_high_globals, last_word_of, new_task, number_of, with_created}
use Rattle.kernel_calls.specs.TaskCalls.Private.NewTasks.{MayPlace, place_task}
use Rattle.kernel_calls.proofs.TaskCalls.ChangedPriority.{accepted-parts}

-- a number that is found in a range lies in it
pub found-range : (f : ℕ → Bool) (a n x : ℕ) → find f (range_with_len a n) ≡ Some x → (a ≤ x) × (x < a + n)
found-range f a zero x e = cc
found-range f a (suc n) x e = on (f a) e (λ k. found-range f (a + 1) n x k)
  where
    on : (b : Bool) → cond b (Some a) (find f (range_with_len (a + 1) n)) ≡ Some x → (find f (range_with_len (a + 1) n) ≡ Some x → (a + 1 ≤ x) × (x < a + 1 + n)) → (a ≤ x) × (x < a + suc n)
    on true k more = (let same : a ≡ x = cc in (omega (arith, same), omega (arith, same)))
    on false k more = (let r = more k in (omega (arith, r.0), omega (arith, r.1)))

module _ (s : List ℕ) (l : Lists) (id : ℕ) (ms : List ℕ) (u pri maker : ℕ) (h : HoldsLists s l) where
  abbrev of_modules : List (Bool × ℕ)
  of_modules = (not (list_any (λ m. not (has m (modules_in s))) ms), 17) ∷ []

  abbrev of_lists : List (Bool × ℕ)
  of_lists = (not (list_any (λ m. not (has m (map module_address l.modules))) ms), 17) ∷ []

  abbrev of_number : List (Bool × ℕ)
  of_number = (is_some (number_of l id), 10) ∷ []

  abbrev of_globals : List (Bool × ℕ)
  of_globals = (not (list_any (has_high_globals s) ms), 18) ∷ []

  abbrev of_room : List (Bool × ℕ)
  of_room = getvec_tests l (last_word_of l.version u)

  modules-are : modules_in s ≡ map module_address l.modules
  modules-are = (held-modules s l.modules (reads s l h).modules).list

  first-is : first_refusal of_modules ≡ first_refusal of_lists
  first-is = ap (λ z. first_refusal ((not (list_any (λ m. not (has m z)) ms), 17) ∷ [])) modules-are

  abbrev made : CallChange
  made = with_created s l (new_task l (unwrap_or (number_of l id) 0) ms u pri maker)

  abbrev refuses : ℕ → Type 0
  refuses code = first_refusal (creation_tests s l id ms u pri) ≡ Some code

  pub refused-made : (tells : List ℕ → Type 0) (code : ℕ) → Knows tells l → refuses code → IsMade s s tells (Err code) (create_task s l id ms u pri maker)
  refused-made tells code knows e = made-refused s l (creation_tests s l id ms u pri) made tells code h knows e

  pub by-modules : (code : ℕ) → first_refusal of_modules ≡ Some code → refuses code
  by-modules code e = first_refusal-failed of_lists (priority_tests l 0 pri ++ (of_number ++ (of_globals ++ of_room))) code (sym first-is ∙ e)

  module _ (one : first_refusal of_modules ≡ None) where
    past-modules : first_refusal (creation_tests s l id ms u pri) ≡ first_refusal (priority_tests l 0 pri ++ (of_number ++ (of_globals ++ of_room)))
    past-modules = first_refusal-passed of_lists (priority_tests l 0 pri ++ (of_number ++ (of_globals ++ of_room))) (sym first-is ∙ one)

    pub listed : AllByRecursion (λ m. has m (map module_address l.modules) ≡ true) ms
    listed =
        all-each (λ m. not (has m (map module_address l.modules)) ≡ false) (λ m. has m (map module_address l.modules) ≡ true) (λ m e. there (has m (map module_address l.modules)) e) ms
        (all-fail (λ m. not (has m (map module_address l.modules))) ms (none (list_any (λ m. not (has m (map module_address l.modules))) ms) (sym first-is ∙ one)))
      where
        there : (b : Bool) → not b ≡ false → b ≡ true
        there true e = refl
        there false e = cc

        none : (b : Bool) → ◌≡◌ {A = Option ℕ} (cond (not b) None (Some 17)) None → b ≡ false
        none false e = refl
        none true e = cc

    pub listed-in : AllByRecursion (λ m. has m (modules_in s) ≡ true) ms
    listed-in = subst (λ z. AllByRecursion (λ m. has m z ≡ true) ms) (sym modules-are) listed

    pub by-priority : (code : ℕ) → first_refusal (priority_tests l 0 pri) ≡ Some code → refuses code
    by-priority code e = past-modules ∙ first_refusal-failed (priority_tests l 0 pri) (of_number ++ (of_globals ++ of_room)) code e

    module _ (two : first_refusal (priority_tests l 0 pri) ≡ None) where
      past-priority : first_refusal (creation_tests s l id ms u pri) ≡ first_refusal (of_number ++ (of_globals ++ of_room))
      past-priority = past-modules ∙ first_refusal-passed (priority_tests l 0 pri) (of_number ++ (of_globals ++ of_room)) two

      pub by-number : (code : ℕ) → ◌≡◌ {A = Result ℕ ℕ} (Err code) (ok_or (number_of l id) 10) → refuses code
      by-number code e = past-priority ∙ on (number_of l id) e
        where
          on : (o : Option ℕ) → ◌≡◌ {A = Result ℕ ℕ} (Err code) (ok_or o 10) → first_refusal ((is_some o, 10) ∷ (of_globals ++ of_room)) ≡ Some code
          on None e = ap Some (same e)
            where
              same : ◌≡◌ {A = Result ℕ ℕ} (Err code) (Err 10) → 10 ≡ code
              same e = cc
          on (Some n) e = (let wrong : ◌≡◌ {A = Result ℕ ℕ} (Err code) (Ok n) = e in cc)

      module _ (number : ℕ) (three : ◌≡◌ {A = Result ℕ ℕ} (Ok number) (ok_or (number_of l id) 10)) where
        number-is : number_of l id ≡ Some number
        number-is = on (number_of l id) three
          where
            on : (o : Option ℕ) → ◌≡◌ {A = Result ℕ ℕ} (Ok number) (ok_or o 10) → o ≡ Some number
            on None e = (let wrong : ◌≡◌ {A = Result ℕ ℕ} (Ok number) (Err 10) = e in cc)
            on (Some n) e = ap Some (same e)
              where
                same : ◌≡◌ {A = Result ℕ ℕ} (Ok number) (Ok n) → n ≡ number
                same e = cc

        past-number : first_refusal (creation_tests s l id ms u pri) ≡ first_refusal (of_globals ++ of_room)
        past-number = past-priority ∙ ap (λ o. first_refusal ((is_some o, 10) ∷ (of_globals ++ of_room))) number-is

        pub by-globals : (code : ℕ) → first_refusal of_globals ≡ Some code → refuses code
        by-globals code e = past-number ∙ first_refusal-failed of_globals of_room code e

        pub by-room : (w : List ℕ) (tells : List ℕ → Type 0) (r : Result ℕ ℕ) → first_refusal of_globals ≡ None → IsMade s w tells r (place_task s l (new_task l number ms u pri maker))
            → IsMade s w tells r (create_task s l id ms u pri maker)
        by-room w tells r four m =
            subst (λ o. IsMade s w tells r (by_refusal o l made)) (sym (past-number ∙ first_refusal-passed of_globals of_room four))
            (subst (λ n. IsMade s w tells r (unless_refused of_room l (with_created s l (new_task l n ms u pri maker)))) (sym (ap (λ o. unwrap_or o 0) number-is)) m)

        -- the number is one of a guest's that no task has
        record IsFree : Type 0 where
          low : 5 ≤ number
          high : number ≤ highest_id_of l.version
          unused : has_task number l.tasks ≡ false

        free : MayCreate l id ms maker → IsFree
        free may = on (eqb id 0) refl number-is
          where
            not_true : (b : Bool) → not b ≡ true → b ≡ false
            not_true false e = refl
            not_true true e = cc

            lowest : free_id l ≡ Some number → IsFree
            lowest e =
                let r = found-range (λ i. not (has_task i l.tasks)) 5 (highest_id_of l.version - 4) number e in
                record {
                  low = r.0;
                  high = omega (arith, r.1, highest-low l.version);
                  unused = not_true (has_task number l.tasks) (find-passes (λ i. not (has_task i l.tasks)) (range_with_len 5 (highest_id_of l.version - 4)) number e);
                }

            own : id ≡ number → (id ≡ 0 → ⊥) → IsFree
            own e ne =
                elim may.number [
                  | inl none ↦ absurd (ne none)
                  | inr k ↦ record { low = omega (arith, e, k.0); high = omega (arith, e, k.1); unused = ap (λ i. has_task i l.tasks) (sym e) ∙ k.2 }
                ]

            on : (b : Bool) → eqb id 0 ≡ b → cond b (free_id l) (Some id) ≡ Some number → IsFree
            on true e k = lowest k
            on false e k = own (same k) (λ z. eqb-false id 0 e z)
              where
                same : ◌≡◌ {A = Option ℕ} (Some id) (Some number) → id ≡ number
                same e = cc

        pub may-place : MayCreate l id ms maker → MayPlace l number ms pri maker
        may-place may =
            let parts = accepted-parts l 0 pri two in
            let range = and_parts _ _ parts.0 in
            let f : IsFree = free may in
            record {
              low = f.low;
              high = f.high;
              unused = f.unused;
              lowest = leb-true 1 pri range.0;
              most_pri = leb-true pri 10000 range.1;
              untaken =
                  all-from_both (TaskPlace l) (λ t. (eqb t.priority pri && not (eqb t.id 0)) ≡ false) (λ t. t.priority ≢ pri) other l.tasks (task-places l h.valid)
                  (all-fail (λ t. eqb t.priority pri && not (eqb t.id 0)) l.tasks parts.1);
              listed = listed;
              made_by = may.made_by;
              some_module = may.some_module;
              most = may.most;
            }
          where
            other : (t : Task) → TaskPlace l t → (eqb t.priority pri && not (eqb t.id 0)) ≡ false → t.priority ≢ pri
            other t p e = λ same. cc (eq-eqb t.priority pri same, ne_eqb t.id 0 (λ z. absurd (omega (arith, z, p.low_id))), e)
