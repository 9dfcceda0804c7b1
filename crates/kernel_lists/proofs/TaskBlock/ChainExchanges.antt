-- What is exchanged of the words that tasks own where one comes in or goes out.
use Rattle.std.proofs.Common.{◌≡◌, ◌≢◌, ℕ, zero, suc, ◌+◌, ◌<◌, ◌≤◌, List, [], ◌∷◌, ◌++◌, map, cond, eqb, set, nat_lt, Bool, true, false, refl, sym, ap, ◌∙◌, subst, arith, inl, inr}
use Rattle.std.specs.Prelude.{unwrap_or}
use Rattle.std.specs.List.{AllByRecursion, range_with_len}
use Rattle.std.proofs.lemmas.Bool.{cases_eq}
use Rattle.std.proofs.lemmas.Bool.Decides.{nat_tests}
use Rattle.word_store.specs.Count.{times}
use Rattle.kernel_lists.specs.LinkedList.Places.{cell_after, linked_in}
use Rattle.word_store.proofs.Elements.{all-back}
use Rattle.word_store.proofs.Counts.{hit-other, hit-same, times-append}
use Rattle.kernel_lists.proofs.LinkedList.MappedLists.{cell_after-map, cell_after-same, map-append}
use Rattle.kernel_lists.proofs.LinkedList.Places.{IsPlace, place}
use Rattle.kernel_lists.specs.LinkedList.Chain.{last_cell}
use Rattle.kernel_lists.specs.OwnedWords.Exchange.{Exchange}
use Rattle.kernel_lists.specs.OwnedWords.LinkedWords.{first_of, headed_words, linked_words}
use Rattle.kernel_lists.specs.OwnedWords.Owned.{Holds, Pairs, row_from}
use Rattle.kernel_lists.proofs.OwnedWords.Exchanges.{exchange-all, exchange-back, exchange-both, exchange-insert, exchange-left, exchange-right, links-first}
use Rattle.kernel_lists.proofs.OwnedWords.HeldLists.{held-linked_in, held-without_node}
use Rattle.kernel_lists.proofs.OwnedWords.OwnedWords.{Holds-left, Holds-right}
use Rattle.kernel_lists.proofs.OwnedWords.RowWords.{owners-row}
use Rattle.kernel_lists.specs.TaskBlock.ChainWords.{BlockComesIn, BlockInsert, BlockUnlink, ComesIn, HavePriorities, HeldBlocks, InsertExchange, TaskBlock, UnlinkExchange, absent_words, block_address, block_id, block_priority, block_words, entries, listed_words, present_words}
use Rattle.kernel_lists.specs.TaskBlock.HeldTasks.{AreTasks, HasTheseTasks, HeldTasks, address_with}
use Rattle.kernel_lists.specs.TaskBlock.Moves.{link_above, with_task, without_task}
use Rattle.kernel_lists.specs.TaskBlock.TaskChain.{id_in, is_above, priority_in, task_link, task_size, task_with, tasks_in}
use Rattle.kernel_lists.specs.TaskBlock.Versions.{highest_id}
use Rattle.kernel_lists.proofs.TaskBlock.HeldTaskBlocks.{address_with-here, held-tasks, numbers, task_with-held, tasks-held}

-- ---- the table

-- entries of other numbers
entries-same : (f g : ℕ → ℕ) (j i n : ℕ) → ((k : ℕ) → k ≢ j → g k ≡ f k) → j < i → entries g i n ≡ entries f i n
entries-same f g j i zero same low = refl
entries-same f g j i (suc n) same low =
    ap (λ z. (120 + i, z) ∷ entries g (i + 1) n) (same i (λ e. absurd (omega (arith, e)))) ∙ ap (λ z. (120 + i, f i) ∷ z) (entries-same f g j (i + 1) n same (omega arith))

-- one entry changes
entry-exchange : (f g : ℕ → ℕ) (j i n : ℕ) → ((k : ℕ) → k ≢ j → g k ≡ f k) → i ≤ j → j < i + n → Exchange (entries f i n) (entries g i n) ((120 + j, f j) ∷ []) ((120 + j, g j) ∷ [])
entry-exchange f g j i zero same low high = absurd (omega arith)
entry-exchange f g j i (suc n) same low high =
    elim (cases_eq i j) [ inl e ↦ here e | inr ne ↦ behind ne (entry-exchange f g j (i + 1) n same (omega (arith, ne)) (omega arith)) ]
  where
    one : ℕ → ℕ → Pairs
    one k w = (120 + k, w) ∷ []

    here : i ≡ j → Exchange (entries f i (suc n)) (entries g i (suc n)) (one j (f j)) (one j (g j))
    here e =
        subst (λ k. Exchange (entries f i (suc n)) (entries g i (suc n)) (one k (f k)) (one k (g k))) e
        (subst (λ M. Exchange (one i (f i) ++ entries f (i + 1) n) (one i (g i) ++ M) (one i (f i)) (one i (g i))) (sym (entries-same f g j (i + 1) n same (omega (arith, e))))
        (exchange-left (one i (f i)) (one i (g i)) (entries f (i + 1) n) _ _ (exchange-all (one i (f i)) (one i (g i)))))

    behind : i ≢ j → Exchange (entries f (i + 1) n) (entries g (i + 1) n) (one j (f j)) (one j (g j)) → Exchange (entries f i (suc n)) (entries g i (suc n)) (one j (f j)) (one j (g j))
    behind ne more =
        subst (λ w. Exchange (one i (f i) ++ entries f (i + 1) n) (one i w ++ entries g (i + 1) n) (one j (f j)) (one j (g j))) (sym (same i ne))
        (exchange-right (one i (f i)) _ _ _ _ more)

-- ---- the chain and the table

module _ {X : Type 0} (address id : X → ℕ) (words : X → ℕ → Pairs) (kind : AreTasks address id words) where
  -- a task with another number is not found
  address_with-other : (i : ℕ) (xs : List X) (x : X) (ys : List X) → id x ≢ i → address_with address id (xs ++ x ∷ ys) i ≡ address_with address id (xs ++ ys) i
  address_with-other i [] x ys ne = (let test : eqb (id x) i ≡ false = grind (arith, nat_tests) in ap (λ b. cond b (address x) (address_with address id ys i)) test)
  address_with-other i (z ∷ zs) x ys ne = ap (λ w. cond (eqb (id z) i) (address z) w) (address_with-other i zs x ys ne)

  -- nothing is found where none has the number, and the other way round
  address_with-none : (i : ℕ) (xs : List X) → times i (map id xs) ≡ 0 → address_with address id xs i ≡ 0
  address_with-none i [] none = refl
  address_with-none i (x ∷ xs) none =
      let ne : id x ≢ i = λ e. absurd (omega (arith, none, hit-same i (id x) (sym e))) in
      let test : eqb (id x) i ≡ false = grind (arith, nat_tests) in
      ap (λ b. cond b (address x) (address_with address id xs i)) test ∙ address_with-none i xs (omega (arith, none))

  none-address_with : (i : ℕ) (xs : List X) → AllByRecursion (λ x. 0 < address x) xs → address_with address id xs i ≡ 0 → times i (map id xs) ≡ 0
  none-address_with i [] some none = refl
  none-address_with i (x ∷ xs) some none = elim (cases_eq (id x) i) [ inl e ↦ here e | inr ne ↦ behind ne (none-address_with i xs some.1) ]
    where
      here : id x ≡ i → times i (map id (x ∷ xs)) ≡ 0
      here e =
          let test : eqb (id x) i ≡ true = grind (arith, nat_tests) in
          let at : address x ≡ 0 = sym (ap (λ b. cond b (address x) (address_with address id xs i)) test) ∙ none in
          absurd (omega (arith, at, some.0))

      behind : id x ≢ i → (address_with address id xs i ≡ 0 → times i (map id xs) ≡ 0) → times i (map id (x ∷ xs)) ≡ 0
      behind ne more =
          let test : eqb (id x) i ≡ false = grind (arith, nat_tests) in
          omega (arith, more (sym (ap (λ b. cond b (address x) (address_with address id xs i)) test) ∙ none), hit-other i (id x) (λ e. ne (sym e)))

  -- a task between two parts of a list, whose number none of them has
  listed-exchange : (top : ℕ) (front : List X) (x : X) (back : List X) → 1 ≤ id x → id x ≤ top → times (id x) (map id (front ++ back)) ≡ 0
      → Exchange (listed_words address id words top (front ++ back)) (listed_words address id words top (front ++ x ∷ back))
      (absent_words address id front x back) (present_words address id front x ++ words x (first_of address back 0))
  listed-exchange top front x back low high none =
      let f : ℕ → ℕ = address_with address id (front ++ back) in
      let g : ℕ → ℕ = address_with address id (front ++ x ∷ back) in
      let before : f (id x) ≡ 0 = address_with-none (id x) (front ++ back) none in
      let after : g (id x) ≡ address x = address_with-here address id words kind (id x) front x back refl (omega (arith, none, ap (times (id x)) (map-append id front back), times-append (id x) (map id front) (map id back))) in
      let entry : Exchange (entries f 1 top) (entries g 1 top) ((120 + id x, 0) ∷ []) ((120 + id x, address x) ∷ []) =
      subst (λ w. Exchange (entries f 1 top) (entries g 1 top) ((120 + id x, w) ∷ []) ((120 + id x, address x) ∷ [])) before
      (subst (λ w. Exchange (entries f 1 top) (entries g 1 top) ((120 + id x, f (id x)) ∷ []) ((120 + id x, w) ∷ [])) after
      (entry-exchange f g (id x) 1 top (λ k ne. address_with-other k front x back (λ e. ne (sym e))) low (omega arith)))
      in
      exchange-both _ _ _ _ _ _ _ _ entry (exchange-insert address address words kind.nodes.links 101 front x back 0)

  -- what the store finds by a number
  found-held : (s : List ℕ) (xs : List X) (i : ℕ) → HeldTasks address id words s xs → unwrap_or (task_with s i (tasks_in s)) 0 ≡ address_with address id xs i
  found-held s xs i h =
      ap (λ z. unwrap_or (task_with s i z) 0) (held-tasks address id words kind s xs h).chain
      ∙ task_with-held address id words kind s i xs (numbers address id words kind s xs 0 h.holds.1)

  pub unlink-exchange : (s : List ℕ) (front : List X) (x : X) (back : List X) → HeldTasks address id words s (front ++ x ∷ back)
      → UnlinkExchange address id words s (without_task s (address x)) front x back
  unlink-exchange s front x back h =
      let n : ℕ = first_of address back 0 in
      let range : (1 ≤ id x) × (id x ≤ highest_id s) = (all-back (λ y. (1 ≤ id y) × (id y ≤ highest_id s)) front (x ∷ back) h.numbers).0 in
      let number : id_in s (address x) ≡ id x =
      (all-back (λ y. id_in s (address y) ≡ id y) front (x ∷ back) (numbers address id words kind s (front ++ x ∷ back) 0 h.holds.1)).0
      in
      let none : times (id x) (map id (front ++ back)) ≡ 0 =
      omega (
        arith,
        h.distinct (id x),
        ap (times (id x)) (map-append id front (x ∷ back)),
        ap (times (id x)) (map-append id front back),
        times-append (id x) (map id front) (map id (x ∷ back)),
        times-append (id x) (map id front) (map id back),
        hit-same (id x) (id x) refl,
      )
      in
      record {
        exchange = exchange-back _ _ _ _ (listed-exchange (highest_id s) front x back range.0 range.1 none);
        writes =
            ap (λ z. set z (120 + id_in s (address x)) 0) (held-without_node address words task_link task_size kind.nodes s 101 front x back (tasks-held address id words kind s (front ++ x ∷ back) h))
            ∙ ap (λ i. set (set s (last_cell address 101 front) n) (120 + i) 0) number;
      }

  -- priorities are in the store
  levels : (priority : X → ℕ) → HavePriorities address priority words → (s : List ℕ) (p t : ℕ) → p ≡ priority_in s t → (xs : List X) (end : ℕ) → Holds s (linked_words address words xs end)
      → AllByRecursion (λ y. is_above s t (address y) ≡ nat_lt p (priority y)) xs
  levels priority have s p t e [] end h = tt
  levels priority have s p t e (x ∷ xs) end h = (
    ap (λ z. nat_lt (priority_in s t) z) (have.level s x (first_of address xs end) (Holds-left s (words x (first_of address xs end)) (linked_words address words xs end) h)) ∙ ap (λ z. nat_lt z (priority x)) (sym e),
    levels priority have s p t e xs end (Holds-right s (words x (first_of address xs end)) (linked_words address words xs end) h),
  )

  pub insert-exchange : (priority : X → ℕ) → HavePriorities address priority words → (s : List ℕ) (xs : List X) (x : X) → HeldTasks address id words s xs
      → ComesIn address id priority s x → InsertExchange address id priority words s (with_task s (address x)) xs x
  insert-exchange priority have s xs x h c =
      let above : X → Bool = λ y. nat_lt (priority x) (priority y) in
      let r : IsPlace above address 101 x xs = place above address 101 x xs in
      let p : ℕ = address x in
      let cell : link_above s p ≡ last_cell address 101 r.front =
      ap (cell_after (is_above s p) task_link 101) (held-tasks address id words kind s xs h).chain
      ∙ cell_after-map address (is_above s p) task_link 101 xs
      ∙ cell_after-same (λ y. is_above s p (address y)) above address 101 xs (levels priority have s (priority x) p (sym c.level) xs 0 h.holds.1)
      ∙ r.cell
      in
      let gone : address_with address id xs (id x) ≡ 0 =
      sym (found-held s xs (id x) h) ∙ ap (λ i. unwrap_or (task_with s i (tasks_in s)) 0) (sym c.number) ∙ ap (λ o. unwrap_or o 0) c.task.unused
      in
      let none : times (id x) (map id (r.front ++ r.back)) ≡ 0 = subst (λ z. times (id x) (map id z) ≡ 0) r.whole (none-address_with (id x) xs h.some gone) in
      record {
        front = r.front;
        back = r.back;
        is = r.whole;
        becomes = r.list;
        exchange = listed-exchange (highest_id s) r.front x r.back (omega (arith, c.number, c.task.low)) (omega (arith, c.number, c.task.high)) none;
        writes =
            ap (λ z. set (linked_in s task_link z p) (120 + id_in s p) p) cell
            ∙ ap (λ z. set z (120 + id_in s p) p) (held-linked_in address words task_link task_size kind.nodes s 101 r.front r.back x (subst (λ z. Holds s (headed_words address words 101 z 0)) r.whole h.holds))
            ∙ ap (λ i. set (set (set s p (first_of address r.back 0)) (last_cell address 101 r.front) p) (120 + i) p) c.number;
      }

-- ---- task blocks

are_blocks : AreTasks block_address block_id block_words
are_blocks =
    record {
      nodes =
          record {
            links = links-first block_address (λ b. row_from b.address 1 (map b.word (range_with_len 1 22)));
            low = λ b. omega arith;
            high = λ b. omega arith;
            count = λ a b n. omega (arith, owners-row a b.address 1 (map b.word (range_with_len 1 22)));
          };
      number = λ s b n h. h.1.0;
    }

pub blocks-held : (s : List ℕ) (bs : List TaskBlock) → HeldBlocks s bs → HasTheseTasks s (map block_address bs)
blocks-held s bs h = held-tasks block_address block_id block_words are_blocks s bs h

pub blocks-insert : (s : List ℕ) (bs : List TaskBlock) (b : TaskBlock) → HeldBlocks s bs → BlockComesIn s b → BlockInsert s (with_task s b.address) bs b
blocks-insert s bs b h c = insert-exchange block_address block_id block_words are_blocks block_priority (record { level = λ s b n h. h.1.1.0 }) s bs b h c

pub blocks-unlink : (s : List ℕ) (front : List TaskBlock) (b : TaskBlock) (back : List TaskBlock) → HeldBlocks s (front ++ b ∷ back) → BlockUnlink s (without_task s b.address) front b back
blocks-unlink s front b back h = unlink-exchange block_address block_id block_words are_blocks s front b back h
