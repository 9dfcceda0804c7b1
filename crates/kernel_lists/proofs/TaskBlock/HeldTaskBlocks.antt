-- Tasks whose words a store holds are in its chain and in its table.
use Rattle.std.proofs.Common.{◌≡◌, ◌≢◌, ℕ, ◌+◌, ◌≤◌, List, [], ◌∷◌, ◌++◌, map, get_or, cond, eqb, Bool, true, false, Some, refl, sym, ap, ◌∙◌, subst, arith, inl, inr}
use Rattle.std.specs.Prelude.{unwrap_or}
use Rattle.std.specs.List.{AllByRecursion}
use Rattle.std.proofs.lemmas.Bool.{cases_eq}
use Rattle.std.proofs.lemmas.Bool.Decides.{nat_tests}
use Rattle.word_store.specs.Count.{IsApart, hit, times, words_of}
use Rattle.kernel_lists.specs.LinkedList.Linked.{IsListAt}
use Rattle.word_store.proofs.Counts.{hit-other, hit-same, times-append}
use Rattle.kernel_lists.specs.OwnedWords.LinkedWords.{AreHeld, first_of, headed_words, linked_words}
use Rattle.kernel_lists.specs.OwnedWords.Owned.{Holds, Pairs, owners}
use Rattle.kernel_lists.proofs.OwnedWords.HeldLists.{held-count, held-list}
use Rattle.kernel_lists.proofs.OwnedWords.OwnedWords.{Holds-left, Holds-right}
use Rattle.kernel_lists.specs.TaskBlock.HeldTasks.{AreTasks, HasTheseTasks, HeldTasks, address_with}
use Rattle.kernel_lists.specs.TaskBlock.TaskChain.{IsInTable, id_in, root_words, task_link, task_size, task_with, tasks_in}
use Rattle.kernel_lists.specs.TaskBlock.RootWords.{table_entry}
use Rattle.kernel_lists.specs.TaskBlock.Versions.{highest_id}
use Rattle.kernel_lists.proofs.TaskBlock.TaskInsertion.{root-hit}

module _ {X : Type 0} (address id : X → ℕ) (words : X → ℕ → Pairs) (kind : AreTasks address id words) where
  -- each task's number is in the store
  pub numbers : (s : List ℕ) (xs : List X) (end : ℕ) → Holds s (linked_words address words xs end) → AllByRecursion (λ x. id_in s (address x) ≡ id x) xs
  numbers s [] end h = tt
  numbers s (x ∷ xs) end h = (
    kind.number s x (first_of address xs end) (Holds-left s (words x (first_of address xs end)) (linked_words address words xs end) h),
    numbers s xs end (Holds-right s (words x (first_of address xs end)) (linked_words address words xs end) h),
  )

  -- the store finds by a number what they have
  pub task_with-held : (s : List ℕ) (i : ℕ) (xs : List X) → AllByRecursion (λ x. id_in s (address x) ≡ id x) xs → unwrap_or (task_with s i (map address xs)) 0 ≡ address_with address id xs i
  task_with-held s i [] same = refl
  task_with-held s i (x ∷ xs) same =
      ap (λ z. unwrap_or (cond (eqb z i) (Some (address x)) (task_with s i (map address xs))) 0) same.0 ∙ on (eqb (id x) i) (task_with-held s i xs same.1)
    where
      on : (b : Bool) → unwrap_or (task_with s i (map address xs)) 0 ≡ address_with address id xs i
          → unwrap_or (cond b (Some (address x)) (task_with s i (map address xs))) 0 ≡ cond b (address x) (address_with address id xs i)
      on true more = refl
      on false more = more

  -- what has a number is found by it where no earlier one has it
  pub address_with-here : (i : ℕ) (xs : List X) (x : X) (ys : List X) → id x ≡ i → times i (map id xs) ≡ 0 → address_with address id (xs ++ x ∷ ys) i ≡ address x
  address_with-here i [] x ys e none = (let test : eqb (id x) i ≡ true = grind (arith, nat_tests) in ap (λ b. cond b (address x) (address_with address id ys i)) test)
  address_with-here i (z ∷ zs) x ys e none =
      let ne : id z ≢ i = λ k. absurd (omega (arith, none, hit-same i (id z) (sym k))) in
      let test : eqb (id z) i ≡ false = grind (arith, nat_tests) in
      ap (λ b. cond b (address z) (address_with address id (zs ++ x ∷ ys) i)) test ∙ address_with-here i zs x ys e (omega (arith, none))

  -- each task is found by its number, where the earlier ones have others
  found : (pre xs : List X) → IsApart (map id (pre ++ xs)) → AllByRecursion (λ x. address_with address id (pre ++ xs) (id x) ≡ address x) xs
  found pre [] apart = tt
  found pre (x ∷ xs) apart = (
    address_with-here (id x) pre x xs refl (omega (arith, apart (id x), join pre, hit-same (id x) (id x) refl)),
    subst (λ z. AllByRecursion (λ y. address_with address id z (id y) ≡ address y) xs) (sym (shift pre)) (found (pre ++ x ∷ []) xs (subst (λ z. IsApart (map id z)) (shift pre) apart)),
  )
    where
      shift : (ys : List X) → ys ++ x ∷ xs ≡ (ys ++ x ∷ []) ++ xs
      shift [] = refl
      shift (y ∷ ys) = ap (λ z. y ∷ z) (shift ys)

      join : (ys : List X) → times (id x) (map id (ys ++ x ∷ xs)) ≡ times (id x) (map id ys) + (hit (id x) (id x) + times (id x) (map id xs))
      join [] = omega arith
      join (y ∷ ys) = omega (arith, join ys)

  in-table : (s : List ℕ) (all xs : List X) → ((i : ℕ) → 1 ≤ i → i ≤ highest_id s → get_or s (table_entry i) 0 ≡ address_with address id all i)
      → AllByRecursion (λ x. (1 ≤ id x) × (id x ≤ highest_id s)) xs → AllByRecursion (λ x. id_in s (address x) ≡ id x) xs
      → AllByRecursion (λ x. address_with address id all (id x) ≡ address x) xs → AllByRecursion (IsInTable s) (map address xs)
  in-table s all [] table range same there = tt
  in-table s all (x ∷ xs) table range same there = (
    record {
      low = omega (arith, same.0, range.0.0);
      high = omega (arith, same.0, range.0.1);
      entry = ap (λ i. get_or s (table_entry i) 0) same.0 ∙ table (id x) range.0.0 range.0.1 ∙ there.0;
    },
    in-table s all xs table range.1 same.1 there.1,
  )

  -- they are held, with the head of the chain
  pub tasks-held : (s : List ℕ) (xs : List X) → HeldTasks address id words s xs → AreHeld address words s 101 xs
  tasks-held s xs h =
      let owned : (a : ℕ) → owners a (headed_words address words 101 xs 0) ≡ hit a 101 + owners a (linked_words address words xs 0) = λ a. refl in
      record {
        holds = h.holds;
        apart = λ a.
            elim (cases_eq a 101) [
              | inl e ↦ omega (arith, owned a, h.apart a, hit-same a 101 e, root-hit a (omega (arith, e)) (omega (arith, e)))
              | inr ne ↦ omega (arith, owned a, h.apart a, hit-other a 101 ne)
            ];
        inside = λ a some. elim (cases_eq a 101) [ inl e ↦ omega (arith, e, h.root) | inr ne ↦ h.inside a (omega (arith, owned a, some, hit-other a 101 ne)) ];
        some = h.some;
      }

  pub held-tasks : (s : List ℕ) (xs : List X) → HeldTasks address id words s xs → HasTheseTasks s (map address xs)
  held-tasks s xs h =
      let list : IsListAt s task_link task_size 101 (map address xs) = held-list address words task_link task_size kind.nodes s 101 xs (tasks-held s xs h) in
      let same : AllByRecursion (λ x. id_in s (address x) ≡ id x) xs = numbers s xs 0 h.holds.1 in
      record {
        tasks =
            record {
              root = h.root;
              chain = list.valid;
              apart = λ a.
                  omega (
                    arith,
                    h.apart a,
                    held-count address words task_link task_size kind.nodes a xs 0,
                    times-append a root_words (words_of task_size (tasks_in s)),
                    ap (λ z. times a (words_of task_size z)) list.list,
                  );
              highest = h.highest;
              listed = subst (AllByRecursion (IsInTable s)) (sym list.list) (in-table s xs xs h.table h.numbers same (found [] xs h.distinct));
              table = λ i low high. h.table i low high ∙ sym (ap (λ z. unwrap_or (task_with s i z) 0) list.list ∙ task_with-held s i xs same);
            };
        chain = list.list;
      }
