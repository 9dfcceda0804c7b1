-- A task comes into the chain and the table.
use Rattle.std.proofs.Common.{◌≡◌, ◌≢◌, ℕ, ◌+◌, ◌<◌, ◌≤◌, List, [], ◌∷◌, ◌++◌, length, get_or, set, refl, sym, ap, ◌∙◌, subst, arith, inl, inr, get_or-set_other, get_or-set_same, length-set}
use Rattle.std.specs.Prelude.{unwrap_or}
use Rattle.std.specs.List.{AllByRecursion}
use Rattle.std.proofs.lemmas.Bool.{cases_eq}
use Rattle.word_store.specs.Count.{IsApart, node_words, times, words_of}
use Rattle.kernel_lists.specs.LinkedList.Chain.{cells, last_cell, list_at}
use Rattle.kernel_lists.specs.LinkedList.Linked.{IsFresh, IsLinked, IsListAt}
use Rattle.kernel_lists.specs.LinkedList.Places.{insert_after, linked_in}
use Rattle.word_store.proofs.Counts.{hit-other, hit-same, times-append, times-within, times-words_more, times-words_of}
use Rattle.kernel_lists.proofs.LinkedList.Chains.{times-cells}
use Rattle.kernel_lists.proofs.LinkedList.Frames.{list-set, word-no_cell}
use Rattle.kernel_lists.proofs.LinkedList.Insertion.{times-front_cell}
use Rattle.word_store.proofs.Elements.{all-append, all-back, all-front}
use Rattle.kernel_lists.proofs.LinkedList.AllMembers.{all-insert}
use Rattle.kernel_lists.proofs.LinkedList.Lists.{list-cell, list-insert, list-inserted}
use Rattle.kernel_lists.proofs.LinkedList.Places.{IsPlace, place}
use Rattle.kernel_lists.specs.TaskBlock.Moves.{link_above, with_task}
use Rattle.kernel_lists.specs.TaskBlock.Versions.{highest_id}
use Rattle.kernel_lists.specs.TaskBlock.TaskChain.{Fall, HasTasks, IsInTable, IsNewTask, id_in, is_above, priority_in, root_words, task_link, task_size, task_with, tasks_in}
use Rattle.kernel_lists.proofs.TaskBlock.PriorityOrder.{Fall-insert, Fall-same}
use Rattle.kernel_lists.proofs.TaskBlock.TaskNumbers.{task_with-here, task_with-none, task_with-other, task_with-same}

-- the words of the root and the table are no words of a new task, and none of the chain's tasks
pub root-hit : (a : ℕ) → 100 ≤ a → a < 184 → times a root_words ≡ 1
root-hit a low high = times-within a 100 84 low (omega arith)

-- the new task's words are apart from the head and the chain
pub new-fresh : (s : List ℕ) (t : ℕ) → IsNewTask s t → IsFresh s task_link task_size 101 (tasks_in s) t
new-fresh s t n =
    record {
      node = n.node;
      apart = λ a. elim (cases_eq a 101) [
        | inl e ↦ omega (arith, n.apart a, times-append a root_words (words_of task_size (tasks_in s)), hit-same a 101 e, root-hit a (omega (arith, e)) (omega (arith, e)))
        | inr ne ↦ omega (arith, n.apart a, times-append a root_words (words_of task_size (tasks_in s)), hit-other a 101 ne)
      ];
    }

-- the cell before the task is the head or a word of the chain's tasks, and a cell of the chain
pub cell-is-cell : (s : List ℕ) (t : ℕ) → 0 < times (link_above s t) (cells task_link 101 (tasks_in s))
cell-is-cell s t =
    let r : IsPlace (is_above s t) task_link 101 t (tasks_in s) = place (is_above s t) task_link 101 t (tasks_in s) in
    subst (λ c. 0 < times c (cells task_link 101 (tasks_in s))) (sym r.cell)
    (subst (λ z. 0 < times (last_cell task_link 101 r.front) (cells task_link 101 z)) (sym r.whole) (times-front_cell task_link 101 r.front r.back))

-- no word of the table and of the root but the head is a cell
pub root-no_cell : (s : List ℕ) → HasTasks s → (a : ℕ) → 100 ≤ a → a < 184 → a ≢ 101 → times a (cells task_link 101 (tasks_in s)) ≡ 0
root-no_cell s h a low high ne =
    omega (arith, times-cells s task_link task_size 101 (tasks_in s) h.chain.nodes a, h.apart a, times-append a root_words (words_of task_size (tasks_in s)), root-hit a low high, hit-other a 101 ne)

not-cell : (s : List ℕ) (t a : ℕ) → times a (cells task_link 101 (tasks_in s)) ≡ 0 → a ≢ link_above s t
not-cell s t a none e = absurd (omega (arith, none, subst (λ z. 0 < times z (cells task_link 101 (tasks_in s))) (sym e) (cell-is-cell s t)))

-- any other word than the task's link, the cell before it and its entry stays
pub with_task-other : (s : List ℕ) (t a : ℕ) → a ≢ t → a ≢ link_above s t → a ≢ 120 + id_in s t → get_or (with_task s t) a 0 ≡ get_or s a 0
with_task-other s t a no_link no_cell no_entry =
    get_or-set_other (linked_in s task_link (link_above s t) t) (120 + id_in s t) a t 0 no_entry
    ∙ get_or-set_other (set s t (get_or s (link_above s t) 0)) (link_above s t) a t 0 no_cell
    ∙ get_or-set_other s t a (get_or s (link_above s t) 0) 0 no_link

length-with_task : (s : List ℕ) (t : ℕ) → length (with_task s t) ≡ length s
length-with_task s t =
    length-set (linked_in s task_link (link_above s t) t) (120 + id_in s t) t
    ∙ length-set (set s t (get_or s (link_above s t) 0)) (link_above s t) t ∙ length-set s t (get_or s (link_above s t) 0)

-- a word of the root or the table is not the task's link
root-not_task : (s : List ℕ) (t a : ℕ) → IsNewTask s t → 100 ≤ a → a < 184 → a ≢ t
root-not_task s t a n low high e =
    absurd (omega (arith, n.apart a, times-append a root_words (words_of task_size (tasks_in s)), root-hit a low high, times-within a t 23 (omega (arith, e)) (omega (arith, e))))

-- such a word stays, but for the head and the task's entry
pub root-stays : (s : List ℕ) (t a : ℕ) → HasTasks s → IsNewTask s t → 100 ≤ a → a < 184 → a ≢ 101 → a ≢ 120 + id_in s t → get_or (with_task s t) a 0 ≡ get_or s a 0
root-stays s t a h n low high no_head no_entry =
    with_task-other s t a (root-not_task s t a n low high) (not-cell s t a (root-no_cell s h a low high no_head)) no_entry

entry-inside : (s : List ℕ) (t : ℕ) → HasTasks s → IsNewTask s t → (120 ≤ 120 + id_in s t) × (120 + id_in s t < 184)
entry-inside s t h n = (omega arith, omega (arith, n.high, h.highest))

-- the words of the chain's tasks stay, but for their links
task-stays : (s : List ℕ) (t : ℕ) → HasTasks s → IsNewTask s t → (xs : List ℕ) (u : ℕ) (ys : List ℕ) → tasks_in s ≡ xs ++ u ∷ ys → (j : ℕ) → 0 < j → j < 23
    → get_or (with_task s t) (u + j) 0 ≡ get_or s (u + j) 0
task-stays s t h n xs u ys whole j some few =
    let word : times (u + j) (node_words task_size u) ≡ 1 = times-within (u + j) u 23 (omega arith) (omega arith) in
    let all : times (u + j) (words_of task_size (tasks_in s)) ≡ times (u + j) (words_of task_size xs) + (1 + times (u + j) (words_of task_size ys)) =
    ap (λ z. times (u + j) (words_of task_size z)) whole ∙ omega (arith, times-words_of task_size (u + j) xs (u ∷ ys), times-words_more task_size (u + j) u ys, word)
    in
    let parts = times-append (u + j) root_words (words_of task_size (tasks_in s)) in
    let no_link : u + j ≢ t = λ e. absurd (omega (arith, n.apart (u + j), parts, all, times-within (u + j) t 23 (omega (arith, e)) (omega (arith, e)))) in
    let no_cell : times (u + j) (cells task_link 101 (tasks_in s)) ≡ 0 =
    subst (λ z. times (u + j) (cells task_link 101 z) ≡ 0) (sym whole)
    (word-no_cell s task_link task_size 101 xs u ys (u + j) (subst (IsLinked s task_link task_size 101) whole h.chain) (λ e. absurd (omega (arith, e, some))) (omega (arith, word)))
    in
    let no_entry : u + j ≢ 120 + id_in s t = λ e. absurd (omega (arith, h.apart (u + j), parts, all, root-hit (u + j) (omega (arith, e)) (omega (arith, e, (entry-inside s t h n).1)))) in
    with_task-other s t (u + j) no_link (not-cell s t (u + j) no_cell) no_entry

-- of each task in the chain
each-stays : (s : List ℕ) (t j : ℕ) → HasTasks s → IsNewTask s t → 0 < j → j < 23 → (xs ys : List ℕ) → tasks_in s ≡ xs ++ ys
    → AllByRecursion (λ u. get_or (with_task s t) (u + j) 0 ≡ get_or s (u + j) 0) ys
each-stays s t j h n some few xs [] whole = tt
each-stays s t j h n some few xs (u ∷ ys) whole =
    (task-stays s t h n xs u ys whole j some few, each-stays s t j h n some few (xs ++ u ∷ []) ys (whole ∙ joined xs))
  where
    joined : (xs : List ℕ) → xs ++ u ∷ ys ≡ (xs ++ u ∷ []) ++ ys
    joined [] = refl
    joined (x ∷ xs) = ap (λ z. x ∷ z) (joined xs)

pub all-stay : (s : List ℕ) (t j : ℕ) → HasTasks s → IsNewTask s t → 0 < j → j < 23 → AllByRecursion (λ u. get_or (with_task s t) (u + j) 0 ≡ get_or s (u + j) 0) (tasks_in s)
all-stay s t j h n some few = each-stays s t j h n some few [] (tasks_in s) refl

-- and the new task's
pub own-stays : (s : List ℕ) (t j : ℕ) → HasTasks s → IsNewTask s t → 0 < j → j < 23 → get_or (with_task s t) (t + j) 0 ≡ get_or s (t + j) 0
own-stays s t j h n some few =
    let word : times (t + j) (node_words task_size t) ≡ 1 = times-within (t + j) t 23 (omega arith) (omega arith) in
    let parts = times-append (t + j) root_words (words_of task_size (tasks_in s)) in
    let cell_none : times (link_above s t) (node_words task_size t) ≡ 0 = list-cell s (is_above s t) task_link task_size 101 t h.chain (new-fresh s t n) in
    with_task-other s t (t + j) (λ e. absurd (omega (arith, e, some)))
    (λ e. absurd (omega (arith, word, subst (λ z. times z (node_words task_size t) ≡ 0) (sym e) cell_none)))
    (λ e. absurd (omega (arith, n.apart (t + j), parts, word, root-hit (t + j) (omega (arith, e)) (omega (arith, e, (entry-inside s t h n).1)))))

-- the entries of the chain's tasks stay
in-table : (s : List ℕ) (t : ℕ) → HasTasks s → IsNewTask s t → (ts : List ℕ) → AllByRecursion (IsInTable s) ts → AllByRecursion (λ u. id_in s u ≢ id_in s t) ts
    → AllByRecursion (λ u. id_in (with_task s t) u ≡ id_in s u) ts → highest_id (with_task s t) ≡ highest_id s → AllByRecursion (IsInTable (with_task s t)) ts
in-table s t h n [] listed other same top = tt
in-table s t h n (u ∷ ts) listed other same top =
    let e : id_in (with_task s t) u ≡ id_in s u = same.0 in
    let ne : id_in s u ≢ id_in s t = other.0 in (
      record {
        low = omega (arith, e, listed.0.low);
        high = omega (arith, e, top, listed.0.high);
        entry =
            ap (λ i. get_or (with_task s t) (120 + i) 0) e
            ∙ root-stays s t (120 + id_in s u) h n (omega arith) (omega (arith, listed.0.high, h.highest)) (λ k. absurd (omega (arith, k))) (λ k. ne (omega (arith, k)))
            ∙ listed.0.entry;
      },
      in-table s t h n ts listed.1 other.1 same.1 top,
    )

pub record TaskIn (s v : List ℕ) (t : ℕ) : Type 0 where
  pub list : tasks_in v ≡ insert_after (is_above s t) t (tasks_in s)
  pub tasks : HasTasks v

pub task-in : (s : List ℕ) (t : ℕ) → HasTasks s → IsNewTask s t → TaskIn s (with_task s t) t
task-in s t h n =
    let v : List ℕ = with_task s t in
    let fresh : IsFresh s task_link task_size 101 (tasks_in s) t = new-fresh s t n in
    let r : IsPlace (is_above s t) task_link 101 t (tasks_in s) = place (is_above s t) task_link 101 t (tasks_in s) in
    let u : List ℕ = linked_in s task_link (link_above s t) t in
    let linked : IsListAt u task_link task_size 101 (insert_after (is_above s t) t (tasks_in s)) =
    list-insert s u (is_above s t) task_link task_size 101 t h.chain fresh (list-inserted s (is_above s t) task_link task_size 101 t h.chain fresh)
    in
    let list : insert_after (is_above s t) t (tasks_in s) ≡ r.front ++ t ∷ r.back = r.list in
    let counts : (a : ℕ) → times a (words_of task_size (r.front ++ t ∷ r.back)) ≡ times a (words_of task_size (tasks_in s)) + times a (node_words task_size t) = λ a.
    omega (arith, ap (λ z. times a (words_of task_size z)) r.whole, times-words_of task_size a r.front r.back, times-words_of task_size a r.front (t ∷ r.back), times-words_more task_size a t r.back)
    in
    let apart : IsApart (root_words ++ words_of task_size (r.front ++ t ∷ r.back)) = λ a.
    omega (arith, n.apart a, counts a, times-append a root_words (words_of task_size (tasks_in s)), times-append a root_words (words_of task_size (r.front ++ t ∷ r.back)))
    in
    let u_list : list_at u task_link 101 ≡ r.front ++ t ∷ r.back = linked.list ∙ list in
    let entry = entry-inside s t h n in
    let no_cell : times (120 + id_in s t) (cells task_link 101 (list_at u task_link 101)) ≡ 0 =
    omega (
      arith,
      times-cells u task_link task_size 101 (list_at u task_link 101) linked.valid.nodes (120 + id_in s t),
      ap (λ z. times (120 + id_in s t) (words_of task_size z)) u_list,
      apart (120 + id_in s t),
      times-append (120 + id_in s t) root_words (words_of task_size (r.front ++ t ∷ r.back)),
      root-hit (120 + id_in s t) (omega (arith, entry.0)) entry.1,
      hit-other (120 + id_in s t) 101 (λ k. absurd (omega (arith, k))),
    )
    in
    let done : IsListAt v task_link task_size 101 (list_at u task_link 101) = list-set u task_link task_size 101 (120 + id_in s t) t linked.valid no_cell in
    let v_list : tasks_in v ≡ r.front ++ t ∷ r.back = done.list ∙ u_list in
    let top : highest_id v ≡ highest_id s = root-stays s t 120 h n (omega arith) (omega arith) (λ k. absurd (omega (arith, k))) (λ k. absurd (omega (arith, k, n.low))) in
    let ids : AllByRecursion (λ u. id_in v u ≡ id_in s u) (r.front ++ r.back) = subst (AllByRecursion (λ u. id_in v u ≡ id_in s u)) r.whole (all-stay s t 1 h n (omega arith) (omega arith)) in
    let own : id_in v t ≡ id_in s t = own-stays s t 1 h n (omega arith) (omega arith) in
    let others : AllByRecursion (λ u. id_in s u ≢ id_in s t) (r.front ++ r.back) = subst (AllByRecursion (λ u. id_in s u ≢ id_in s t)) r.whole (task_with-none s (id_in s t) (tasks_in s) n.unused) in
    let listed : AllByRecursion (IsInTable v) (r.front ++ r.back) =
    in-table s t h n (r.front ++ r.back) (subst (AllByRecursion (IsInTable s)) r.whole h.listed) others ids top
    in
    let here : get_or v (120 + id_in s t) 0 ≡ t = get_or-set_same u (120 + id_in s t) t 0 (omega (arith, entry.1, h.root, length-set (set s t (get_or s (link_above s t) 0)) (link_above s t) t, length-set s t (get_or s (link_above s t) 0))) in
    let own_entry : IsInTable v t = record { low = omega (arith, own, n.low); high = omega (arith, own, top, n.high); entry = ap (λ i. get_or v (120 + i) 0) own ∙ here } in
    let table : (i : ℕ) → 1 ≤ i → i ≤ highest_id v → get_or v (120 + i) 0 ≡ unwrap_or (task_with v i (r.front ++ t ∷ r.back)) 0 = λ i low high.
    elim (cases_eq i (id_in s t)) [
      | inl e ↦
          ap (λ i. get_or v (120 + i) 0) e ∙ here
          ∙ sym (ap (λ o. unwrap_or o 0) (task_with-here v i r.front t r.back
          (all-front (λ u. id_in v u ≢ i) r.front r.back (renamed v s i (id_in s t) (r.front ++ r.back) e ids others)) (own ∙ sym e)))
      | inr ne ↦
          root-stays s t (120 + i) h n (omega arith) (omega (arith, high, top, h.highest)) (λ k. absurd (omega (arith, k))) (λ k. absurd (ne (omega (arith, k))))
          ∙ h.table i low (omega (arith, high, top))
          ∙ ap (λ o. unwrap_or o 0) (ap (λ z. task_with s i z) r.whole ∙ sym (task_with-same s v i (r.front ++ r.back) ids) ∙ sym (task_with-other v i r.front t r.back (λ k. ne (sym k ∙ own))))
    ]
    in
    record {
      list = v_list ∙ sym list;
      tasks =
          record {
            root = omega (arith, length-with_task s t, h.root);
            chain = done.valid;
            apart = subst (λ z. IsApart (root_words ++ words_of task_size z)) (sym v_list) apart;
            highest = omega (arith, top, h.highest);
            listed = subst (AllByRecursion (IsInTable v)) (sym v_list)
                (all-append (IsInTable v) r.front (t ∷ r.back) (all-front (IsInTable v) r.front r.back listed) (own_entry, all-back (IsInTable v) r.front r.back listed));
            table = subst (λ z. (i : ℕ) → 1 ≤ i → i ≤ highest_id v → get_or v (120 + i) 0 ≡ unwrap_or (task_with v i z) 0) (sym v_list) table;
          };
    }
  where
    renamed : (v s : List ℕ) (i k : ℕ) (ts : List ℕ) → i ≡ k → AllByRecursion (λ u. id_in v u ≡ id_in s u) ts → AllByRecursion (λ u. id_in s u ≢ k) ts → AllByRecursion (λ u. id_in v u ≢ i) ts
    renamed v s i k [] e same other = tt
    renamed v s i k (u ∷ ts) e same other = ((λ q. other.0 (sym same.0 ∙ q ∙ e)), renamed v s i k ts e same.1 other.1)

-- where priorities fell along the chain, and none was the same, they still fall
pub fall-in : (s : List ℕ) (t : ℕ) → HasTasks s → IsNewTask s t → Fall s (tasks_in s) → AllByRecursion (λ u. priority_in s u ≢ priority_in s t) (tasks_in s)
    → Fall (with_task s t) (insert_after (is_above s t) t (tasks_in s))
fall-in s t h n fall other =
    Fall-same s (with_task s t) (insert_after (is_above s t) t (tasks_in s))
    (all-insert (λ u. priority_in (with_task s t) u ≡ priority_in s u) (is_above s t) t (tasks_in s) (own-stays s t 2 h n (omega arith) (omega arith)) (all-stay s t 2 h n (omega arith) (omega arith)))
    (Fall-insert s t (tasks_in s) fall other)
