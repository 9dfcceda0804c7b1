-- A task goes out of the chain and the table.
use Rattle.std.proofs.Common.{◌≡◌, ◌≢◌, ℕ, ◌+◌, ◌<◌, ◌≤◌, List, [], ◌∷◌, ◌++◌, length, get_or, true, refl, sym, ap, ◌∙◌, subst, arith, inl, inr, get_or-set_other, get_or-set_same, length-set}
use Rattle.std.specs.Prelude.{unwrap_or}
use Rattle.std.specs.List.{AllByRecursion}
use Rattle.std.proofs.lemmas.Bool.{cases_eq}
use Rattle.word_store.specs.Count.{IsApart, node_words, times, words_of}
use Rattle.kernel_lists.specs.LinkedList.Chain.{cells, last_cell, list_at}
use Rattle.kernel_lists.specs.LinkedList.Linked.{IsLinked, IsListAt, IsNode}
use Rattle.kernel_lists.specs.LinkedList.Places.{cell_before, has, linked_out, without}
use Rattle.word_store.proofs.Counts.{hit-other, times-append, times-within, times-words_more, times-words_of}
use Rattle.kernel_lists.proofs.LinkedList.Chains.{times-cells}
use Rattle.kernel_lists.proofs.LinkedList.Frames.{list-set, word-no_cell}
use Rattle.kernel_lists.proofs.LinkedList.Insertion.{times-front_cell}
use Rattle.word_store.proofs.Elements.{all-append, all-back, all-front}
use Rattle.kernel_lists.proofs.LinkedList.Lists.{list-node, list-remove, list-removed}
use Rattle.kernel_lists.proofs.LinkedList.Places.{NodePlace, member-place}
use Rattle.kernel_lists.specs.TaskBlock.Moves.{without_task}
use Rattle.kernel_lists.specs.TaskBlock.Versions.{highest_id}
use Rattle.kernel_lists.specs.TaskBlock.TaskChain.{Fall, HasTasks, IsInTable, IsNewTask, id_in, root_words, task_link, task_size, task_with, tasks_in}
use Rattle.kernel_lists.proofs.TaskBlock.TaskInsertion.{root-hit, root-no_cell}
use Rattle.kernel_lists.proofs.TaskBlock.PriorityOrder.{Fall-same, Fall-without}
use Rattle.kernel_lists.proofs.TaskBlock.TaskNumbers.{none-task_with, task_with-other, task_with-same}

-- the word that leads to the task at t
abbrev link_before : List ℕ → ℕ → ℕ
link_before s t = cell_before task_link t 101 (tasks_in s)

length-without_task : (s : List ℕ) (t : ℕ) → length (without_task s t) ≡ length s
length-without_task s t = length-set (linked_out s task_link (link_before s t) t) (120 + id_in s t) 0 ∙ length-set s (link_before s t) (get_or s t 0)

-- the word before a task is a cell of the chain
cell-is-cell : (s : List ℕ) (t : ℕ) → NodePlace task_link 101 t (tasks_in s) → 0 < times (link_before s t) (cells task_link 101 (tasks_in s))
cell-is-cell s t r =
    subst (λ c. 0 < times c (cells task_link 101 (tasks_in s))) (sym r.cell)
    (subst (λ z. 0 < times (last_cell task_link 101 r.front) (cells task_link 101 z)) (sym r.whole) (times-front_cell task_link 101 r.front (t ∷ r.back)))

stays : (s : List ℕ) (t a : ℕ) → NodePlace task_link 101 t (tasks_in s) → times a (cells task_link 101 (tasks_in s)) ≡ 0 → a ≢ 120 + id_in s t → get_or (without_task s t) a 0 ≡ get_or s a 0
stays s t a r none no_entry =
    get_or-set_other (linked_out s task_link (link_before s t) t) (120 + id_in s t) a 0 0 no_entry
    ∙ get_or-set_other s (link_before s t) a (get_or s t 0) 0 (λ e. absurd (omega (arith, none, subst (λ z. 0 < times z (cells task_link 101 (tasks_in s))) (sym e) (cell-is-cell s t r))))

-- a task of the chain: what its number is, and that its words are apart
record InChain (s : List ℕ) (u : ℕ) : Type 0 where
  pub table : IsInTable s u
  pub words : (j : ℕ) → 0 < j → j < 23 → times (u + j) (cells task_link 101 (tasks_in s)) ≡ 0
  pub apart : (j : ℕ) → j < 23 → (100 ≤ u + j) → (u + j < 184) → ⊥

in-chain : (s : List ℕ) → HasTasks s → (xs : List ℕ) (u : ℕ) (ys : List ℕ) → tasks_in s ≡ xs ++ u ∷ ys → InChain s u
in-chain s h xs u ys whole =
    let word : (j : ℕ) → j < 23 → times (u + j) (node_words task_size u) ≡ 1 = λ j few. times-within (u + j) u 23 (omega arith) (omega arith) in
    let all : (j : ℕ) → j < 23 → times (u + j) (words_of task_size (tasks_in s)) ≡ times (u + j) (words_of task_size xs) + (1 + times (u + j) (words_of task_size ys)) = λ j few.
    ap (λ z. times (u + j) (words_of task_size z)) whole ∙ omega (arith, times-words_of task_size (u + j) xs (u ∷ ys), times-words_more task_size (u + j) u ys, word j few)
    in
    record {
      table = (all-back (IsInTable s) xs (u ∷ ys) (subst (AllByRecursion (IsInTable s)) whole h.listed)).0;
      words = λ j some few.
          subst (λ z. times (u + j) (cells task_link 101 z) ≡ 0) (sym whole)
          (word-no_cell s task_link task_size 101 xs u ys (u + j) (subst (IsLinked s task_link task_size 101) whole h.chain) (λ e. absurd (omega (arith, e, some))) (omega (arith, word j few)));
      apart = λ j few low high. absurd (omega (arith, h.apart (u + j), times-append (u + j) root_words (words_of task_size (tasks_in s)), all j few, root-hit (u + j) low high));
    }

each-in_chain : (s : List ℕ) → HasTasks s → (xs ys : List ℕ) → tasks_in s ≡ xs ++ ys → AllByRecursion (InChain s) ys
each-in_chain s h xs [] whole = tt
each-in_chain s h xs (u ∷ ys) whole = (in-chain s h xs u ys whole, each-in_chain s h (xs ++ u ∷ []) ys (whole ∙ joined xs))
  where
    joined : (xs : List ℕ) → xs ++ u ∷ ys ≡ (xs ++ u ∷ []) ++ ys
    joined [] = refl
    joined (x ∷ xs) = ap (λ z. x ∷ z) (joined xs)

pub record TaskOut (s v : List ℕ) (t : ℕ) : Type 0 where
  pub list : tasks_in v ≡ without t (tasks_in s)
  pub tasks : HasTasks v
  pub same : (j : ℕ) → 0 < j → j < 23 → AllByRecursion (λ u. get_or v (u + j) 0 ≡ get_or s (u + j) 0) (tasks_in v)
  pub own : (j : ℕ) → 0 < j → j < 23 → get_or v (t + j) 0 ≡ get_or s (t + j) 0
  pub task : IsNewTask v t
  pub others : AllByRecursion (λ u. id_in s u ≢ id_in s t) (tasks_in v)

pub task-out : (s : List ℕ) (t : ℕ) → HasTasks s → has t (tasks_in s) ≡ true → TaskOut s (without_task s t) t
task-out s t h some =
    let v : List ℕ = without_task s t in
    let r : NodePlace task_link 101 t (tasks_in s) = member-place task_link 101 t (tasks_in s) some in
    let u : List ℕ = linked_out s task_link (link_before s t) t in
    let linked : IsListAt u task_link task_size 101 (without t (tasks_in s)) =
    list-remove s u task_link task_size 101 t h.chain some (list-removed s task_link task_size 101 t h.chain some)
    in
    let mine : InChain s t = in-chain s h r.front t r.back r.whole in
    let u_list : list_at u task_link 101 ≡ r.front ++ r.back = linked.list ∙ r.list in
    let counts : (a : ℕ) → times a (words_of task_size (tasks_in s)) ≡ times a (words_of task_size (r.front ++ r.back)) + times a (node_words task_size t) = λ a.
    omega (arith, ap (λ z. times a (words_of task_size z)) r.whole, times-words_of task_size a r.front r.back, times-words_of task_size a r.front (t ∷ r.back), times-words_more task_size a t r.back)
    in
    let apart : IsApart (root_words ++ words_of task_size (r.front ++ r.back)) = λ a.
    omega (arith, h.apart a, counts a, times-append a root_words (words_of task_size (tasks_in s)), times-append a root_words (words_of task_size (r.front ++ r.back)))
    in
    let no_cell : times (120 + id_in s t) (cells task_link 101 (list_at u task_link 101)) ≡ 0 =
    omega (
      arith,
      times-cells u task_link task_size 101 (list_at u task_link 101) linked.valid.nodes (120 + id_in s t),
      ap (λ z. times (120 + id_in s t) (words_of task_size z)) u_list,
      apart (120 + id_in s t),
      times-append (120 + id_in s t) root_words (words_of task_size (r.front ++ r.back)),
      root-hit (120 + id_in s t) (omega arith) (omega (arith, mine.table.high, h.highest)),
      hit-other (120 + id_in s t) 101 (λ k. absurd (omega (arith, k))),
    )
    in
    let done : IsListAt v task_link task_size 101 (list_at u task_link 101) = list-set u task_link task_size 101 (120 + id_in s t) 0 linked.valid no_cell in
    let v_list : tasks_in v ≡ r.front ++ r.back = done.list ∙ u_list in
    let root_stays : (a : ℕ) → 100 ≤ a → a < 184 → a ≢ 101 → a ≢ 120 + id_in s t → get_or v a 0 ≡ get_or s a 0 = λ a low high ne no_entry. stays s t a r (root-no_cell s h a low high ne) no_entry in
    let top : highest_id v ≡ highest_id s = root_stays 120 (omega arith) (omega arith) (λ k. absurd (omega (arith, k))) (λ k. absurd (omega (arith, k, mine.table.low))) in
    let all : AllByRecursion (InChain s) (r.front ++ t ∷ r.back) = each-in_chain s h [] (r.front ++ t ∷ r.back) r.whole in
    let rest : AllByRecursion (InChain s) (r.front ++ r.back) = all-append (InChain s) r.front r.back (all-front (InChain s) r.front (t ∷ r.back) all) (all-back (InChain s) r.front (t ∷ r.back) all).1 in
    let same : (j : ℕ) → 0 < j → j < 23 → AllByRecursion (λ u. get_or v (u + j) 0 ≡ get_or s (u + j) 0) (r.front ++ r.back) = λ j some few. same_word s t h r mine j some few (r.front ++ r.back) rest in
    let ids : AllByRecursion (λ u. id_in v u ≡ id_in s u) (r.front ++ r.back) = same 1 (omega arith) (omega arith) in
    let others : AllByRecursion (λ u. id_in s u ≢ id_in s t) (r.front ++ r.back) = differ s t mine (r.front ++ r.back) rest (not-there s t h r) in
    let here : get_or v (120 + id_in s t) 0 ≡ 0 = get_or-set_same u (120 + id_in s t) 0 0 (omega (arith, mine.table.high, h.highest, h.root, length-set s (link_before s t) (get_or s t 0))) in
    let table : (i : ℕ) → 1 ≤ i → i ≤ highest_id v → get_or v (120 + i) 0 ≡ unwrap_or (task_with v i (r.front ++ r.back)) 0 = λ i low high.
    elim (cases_eq i (id_in s t)) [
      | inl e ↦
          ap (λ i. get_or v (120 + i) 0) e ∙ here
          ∙ sym (ap (λ o. unwrap_or o 0) (task_with-same s v i (r.front ++ r.back) ids ∙ none-task_with s i (r.front ++ r.back) (subst (λ k. AllByRecursion (λ u. id_in s u ≢ k) (r.front ++ r.back)) (sym e) others)))
      | inr ne ↦
          root_stays (120 + i) (omega arith) (omega (arith, high, top, h.highest)) (λ k. absurd (omega (arith, k))) (λ k. absurd (ne (omega (arith, k))))
          ∙ h.table i low (omega (arith, high, top))
          ∙ ap (λ o. unwrap_or o 0) (ap (λ z. task_with s i z) r.whole ∙ task_with-other s i r.front t r.back (λ k. ne (sym k)) ∙ sym (task_with-same s v i (r.front ++ r.back) ids))
    ]
    in
    let own : (j : ℕ) → 0 < j → j < 23 → get_or v (t + j) 0 ≡ get_or s (t + j) 0 = λ j some few. (same_word s t h r mine j some few (t ∷ []) (mine, tt)).0 in
    let id : id_in v t ≡ id_in s t = own 1 (omega arith) (omega arith) in
    let node : IsNode s task_link task_size t = list-node s task_link task_size 101 t h.chain some in
    record {
      list = v_list ∙ sym r.list;
      own = own;
      others = subst (AllByRecursion (λ u. id_in s u ≢ id_in s t)) (sym v_list) others;
      task =
          record {
            node = record { some = node.some; after = node.after; before = node.before; inside = omega (arith, node.inside, length-without_task s t) };
            apart = λ a.
                omega (
                  arith,
                  h.apart a,
                  counts a,
                  ap (λ z. times a (words_of task_size z)) v_list,
                  times-append a root_words (words_of task_size (tasks_in s)),
                  times-append a root_words (words_of task_size (tasks_in v)),
                );
            low = omega (arith, id, mine.table.low);
            high = omega (arith, id, top, mine.table.high);
            unused =
                ap (task_with v (id_in v t)) v_list ∙ task_with-same s v (id_in v t) (r.front ++ r.back) ids
                ∙ none-task_with s (id_in v t) (r.front ++ r.back) (subst (λ k. AllByRecursion (λ u. id_in s u ≢ k) (r.front ++ r.back)) (sym id) others);
          };
      tasks =
          record {
            root = omega (arith, length-without_task s t, h.root);
            chain = done.valid;
            apart = subst (λ z. IsApart (root_words ++ words_of task_size z)) (sym v_list) apart;
            highest = omega (arith, top, h.highest);
            listed = subst (AllByRecursion (IsInTable v)) (sym v_list) (in-table s t h (r.front ++ r.back) rest others ids top root_stays);
            table = subst (λ z. (i : ℕ) → 1 ≤ i → i ≤ highest_id v → get_or v (120 + i) 0 ≡ unwrap_or (task_with v i z) 0) (sym v_list) table;
          };
      same = λ j some few. subst (AllByRecursion (λ u. get_or v (u + j) 0 ≡ get_or s (u + j) 0)) (sym v_list) (same j some few);
    }
  where
    same_word : (s : List ℕ) (t : ℕ) → HasTasks s → NodePlace task_link 101 t (tasks_in s) → InChain s t → (j : ℕ) → 0 < j → j < 23 → (ts : List ℕ) → AllByRecursion (InChain s) ts
        → AllByRecursion (λ u. get_or (without_task s t) (u + j) 0 ≡ get_or s (u + j) 0) ts
    same_word s t h r mine j some few [] all = tt
    same_word s t h r mine j some few (u ∷ ts) all =
        (stays s t (u + j) r (all.0.words j some few) (λ e. absurd (all.0.apart j few (omega (arith, e)) (omega (arith, e, mine.table.high, h.highest)))), same_word s t h r mine j some few ts all.1)

    not-there : (s : List ℕ) (t : ℕ) → HasTasks s → (r : NodePlace task_link 101 t (tasks_in s)) → AllByRecursion (λ u. u ≢ t) (r.front ++ r.back)
    not-there s t h r = apart-nodes s (r.front ++ r.back) (λ a. omega (arith, h.chain.apart a, ap (λ z. times a (words_of task_size z)) r.whole, times-words_of task_size a r.front r.back, times-words_of task_size a r.front (t ∷ r.back), times-words_more task_size a t r.back))
      where
        apart-nodes : (s : List ℕ) (ts : List ℕ) → ((a : ℕ) → times a (words_of task_size ts) + times a (node_words task_size t) ≤ 1) → AllByRecursion (λ u. u ≢ t) ts
        apart-nodes s [] apart = tt
        apart-nodes s (u ∷ ts) apart = (
          (λ e. absurd (omega (arith, apart t, times-words_more task_size t u ts, times-within t t 23 (omega arith) (omega arith), times-within t u 23 (omega (arith, e)) (omega (arith, e))))),
          apart-nodes s ts (λ a. omega (arith, apart a, times-words_more task_size a u ts)),
        )

    differ : (s : List ℕ) (t : ℕ) → InChain s t → (ts : List ℕ) → AllByRecursion (InChain s) ts → AllByRecursion (λ u. u ≢ t) ts → AllByRecursion (λ u. id_in s u ≢ id_in s t) ts
    differ s t mine [] all ne = tt
    differ s t mine (u ∷ ts) all ne = ((λ e. ne.0 (sym all.0.table.entry ∙ ap (λ i. get_or s (120 + i) 0) e ∙ mine.table.entry)), differ s t mine ts all.1 ne.1)

    in-table : (s : List ℕ) (t : ℕ) → HasTasks s → (ts : List ℕ) → AllByRecursion (InChain s) ts → AllByRecursion (λ u. id_in s u ≢ id_in s t) ts → AllByRecursion (λ u. id_in (without_task s t) u ≡ id_in s u) ts
        → highest_id (without_task s t) ≡ highest_id s
        → ((a : ℕ) → 100 ≤ a → a < 184 → a ≢ 101 → a ≢ 120 + id_in s t → get_or (without_task s t) a 0 ≡ get_or s a 0) → AllByRecursion (IsInTable (without_task s t)) ts
    in-table s t h [] all other same top root = tt
    in-table s t h (u ∷ ts) all other same top root =
        let e : id_in (without_task s t) u ≡ id_in s u = same.0 in (
          record {
            low = omega (arith, e, all.0.table.low);
            high = omega (arith, e, top, all.0.table.high);
            entry =
                ap (λ i. get_or (without_task s t) (120 + i) 0) e
                ∙ root (120 + id_in s u) (omega arith) (omega (arith, all.0.table.high, h.highest)) (λ k. absurd (omega (arith, k))) (λ k. other.0 (omega (arith, k)))
                ∙ all.0.table.entry;
          },
          in-table s t h ts all.1 other.1 same.1 top root,
        )

pub fall-out : (s : List ℕ) (t : ℕ) → HasTasks s → has t (tasks_in s) ≡ true → Fall s (tasks_in s) → Fall (without_task s t) (tasks_in (without_task s t))
fall-out s t h some fall =
    let out : TaskOut s (without_task s t) t = task-out s t h some in
    Fall-same s (without_task s t) (tasks_in (without_task s t)) (out.same 2 (omega arith) (omega arith)) (subst (Fall s) (sym out.list) (Fall-without s t (tasks_in s) fall))
