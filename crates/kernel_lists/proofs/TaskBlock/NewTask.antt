-- The words of a task block that is not in the chain.
use Rattle.std.proofs.Common.{◌≡◌, ◌≢◌, ℕ, ◌+◌, ◌<◌, ◌≤◌, ◌&&◌, ◌||◌, Bool, true, false, not, eqb, List, [], ◌∷◌, ◌++◌, get_or, set, refl, sym, ap, ◌∙◌, subst, arith, get_or-set_other, get_or-set_same, length-set}
use Rattle.std.specs.Prelude.{unwrap_or}
use Rattle.std.specs.List.{AllByRecursion, list_any}
use Rattle.std.proofs.lemmas.Bool.Decides.{nat_tests}
use Rattle.word_store.specs.Count.{IsApart, node_words, times, words_of}
use Rattle.kernel_lists.specs.LinkedList.Chain.{cells}
use Rattle.kernel_lists.specs.LinkedList.Linked.{IsListAt}
use Rattle.kernel_lists.proofs.LinkedList.Chains.{times-cells}
use Rattle.word_store.proofs.Counts.{hit-other, times-append, times-within, times-words_more}
use Rattle.kernel_lists.proofs.LinkedList.Frames.{list-set}
use Rattle.kernel_lists.specs.LinkedList.Places.{has}
use Rattle.kernel_lists.proofs.LinkedList.AllMembers.{all-members, all-without}
use Rattle.kernel_lists.specs.TaskBlock.Moves.{HasNewPriority, StaysNew, with_priority, without_task}
use Rattle.kernel_lists.specs.TaskBlock.Versions.{highest_id}
use Rattle.kernel_lists.specs.TaskBlock.TaskChain.{Fall, HasTasks, IsInTable, IsNewTask, id_in, priority_in, root_words, task_link, task_size, task_with, tasks_in}
use Rattle.kernel_lists.proofs.TaskBlock.PriorityOrder.{Fall-same}
use Rattle.kernel_lists.proofs.TaskBlock.TaskInsertion.{root-hit}
use Rattle.kernel_lists.proofs.TaskBlock.TaskNumbers.{task_with-same}
use Rattle.kernel_lists.proofs.TaskBlock.TaskRemoval.{TaskOut, fall-out, task-out}

module _ (s : List ℕ) (a w : ℕ) where
  abbrev stored : List ℕ
  stored = set s a w

  task-words : (j : ℕ) → j < 23 → (ts : List ℕ) → times a (words_of task_size ts) ≡ 0 → AllByRecursion (λ u. get_or stored (u + j) 0 ≡ get_or s (u + j) 0) ts
  task-words j few [] none = tt
  task-words j few (u ∷ ts) none = (
    get_or-set_other s a (u + j) w 0 (λ e. absurd (omega (arith, none, few, times-words_more task_size a u ts, times-within a u 23 (omega (arith, e)) (omega (arith, e, few))))),
    task-words j few ts (omega (arith, none, times-words_more task_size a u ts)),
  )

  in-table : (ts : List ℕ) → ((b : ℕ) → 100 ≤ b → b < 184 → get_or stored b 0 ≡ get_or s b 0) → highest_id s ≤ 63 → AllByRecursion (IsInTable s) ts
      → AllByRecursion (λ u. id_in stored u ≡ id_in s u) ts → AllByRecursion (IsInTable stored) ts
  in-table [] root most listed same = tt
  in-table (u ∷ ts) root most listed same =
      let e : id_in stored u ≡ id_in s u = same.0 in
      let top : highest_id stored ≡ highest_id s = root 120 (omega arith) (omega arith) in (
        record {
          low = omega (arith, e, listed.0.low);
          high = omega (arith, e, top, listed.0.high);
          entry = ap (λ i. get_or stored (120 + i) 0) e ∙ root (120 + id_in s u) (omega arith) (omega (arith, listed.0.high, most)) ∙ listed.0.entry;
        },
        in-table ts root most listed.1 same.1,
      )

  -- a word was written that is none of the root, the table and the chain's tasks
  pub stays-new : (t j : ℕ) → HasTasks s → IsNewTask s t → a ≡ t + j → 2 ≤ j → j < 23 → StaysNew s stored t
  stays-new t j h n is low few =
      let mine : times a (node_words task_size t) ≡ 1 = times-within a t 23 (omega (arith, is)) (omega (arith, is, few)) in
      let parts : times a (root_words ++ words_of task_size (tasks_in s)) ≡ 0 = omega (arith, n.apart a, mine) in
      let none : times a (words_of task_size (tasks_in s)) ≡ 0 = omega (arith, parts, times-append a root_words (words_of task_size (tasks_in s))) in
      let no_root : (b : ℕ) → 100 ≤ b → b < 184 → b ≢ a = λ b from to e.
      absurd (omega (arith, parts, times-append a root_words (words_of task_size (tasks_in s)), root-hit a (omega (arith, e, from)) (omega (arith, e, to))))
      in
      let root : (b : ℕ) → 100 ≤ b → b < 184 → get_or stored b 0 ≡ get_or s b 0 = λ b from to. get_or-set_other s a b w 0 (no_root b from to) in
      let no_cell : times a (cells task_link 101 (tasks_in s)) ≡ 0 =
      omega (arith, none, times-cells s task_link task_size 101 (tasks_in s) h.chain.nodes a, hit-other a 101 (λ e. no_root 101 (omega arith) (omega arith) (sym e)))
      in
      let done : IsListAt stored task_link task_size 101 (tasks_in s) = list-set s task_link task_size 101 a w h.chain no_cell in
      let top : highest_id stored ≡ highest_id s = root 120 (omega arith) (omega arith) in
      let ids : AllByRecursion (λ u. id_in stored u ≡ id_in s u) (tasks_in s) = task-words 1 (omega arith) (tasks_in s) none in
      let id : id_in stored t ≡ id_in s t = get_or-set_other s a (t + 1) w 0 (λ e. absurd (omega (arith, e, is, low))) in
      let table : (i : ℕ) → 1 ≤ i → i ≤ highest_id stored → get_or stored (120 + i) 0 ≡ unwrap_or (task_with stored i (tasks_in s)) 0 = λ i some below.
      root (120 + i) (omega arith) (omega (arith, below, top, h.highest)) ∙ h.table i some (omega (arith, below, top)) ∙ ap (λ o. unwrap_or o 0) (sym (task_with-same s stored i (tasks_in s) ids))
      in
      record {
        chain = done.list;
        words = λ i less. task-words i less (tasks_in s) none;
        tasks =
            record {
              root = omega (arith, length-set s a w, h.root);
              chain = done.valid;
              apart = subst (λ z. IsApart (root_words ++ words_of task_size z)) (sym done.list) h.apart;
              highest = omega (arith, top, h.highest);
              listed = subst (AllByRecursion (IsInTable stored)) (sym done.list) (in-table (tasks_in s) root h.highest h.listed ids);
              table = subst (λ z. (i : ℕ) → 1 ≤ i → i ≤ highest_id stored → get_or stored (120 + i) 0 ≡ unwrap_or (task_with stored i z) 0) (sym done.list) table;
            };
        task =
            record {
              node = record { some = n.node.some; after = n.node.after; before = n.node.before; inside = omega (arith, n.node.inside, length-set s a w) };
              apart = λ b. omega (arith, n.apart b, ap (λ z. times b (root_words ++ words_of task_size z)) done.list);
              low = omega (arith, id, n.low);
              high = omega (arith, id, top, n.high);
              unused = ap (task_with stored (id_in stored t)) done.list ∙ task_with-same s stored (id_in stored t) (tasks_in s) ids ∙ ap (λ i. task_with s i (tasks_in s)) id ∙ n.unused;
            };
        order = λ fall. subst (Fall stored) (sym done.list) (Fall-same s stored (tasks_in s) (task-words 2 (omega arith) (tasks_in s) none) fall);
      }

pub word-stays_new : (s : List ℕ) (t j w : ℕ) → HasTasks s → IsNewTask s t → 2 ≤ j → j < 23 → StaysNew s (set s (t + j) w) t
word-stays_new s t j w h n low few = stays-new s (t + j) w t j h n refl low few

-- no other task has a priority that is not used
other-priorities : (s : List ℕ) (pri except : ℕ) (ts us : List ℕ) → list_any (λ u. eqb (priority_in s u) pri && not (eqb (id_in s u) except)) ts ≡ false
    → AllByRecursion (λ u. has u ts ≡ true) us → AllByRecursion (λ u. id_in s u ≢ except) us → AllByRecursion (λ u. priority_in s u ≢ pri) us
other-priorities s pri except ts [] unused all other = tt
other-priorities s pri except ts (u ∷ us) unused all other = (one ts u other.0 unused all.0, other-priorities s pri except ts us unused all.1 other.1)
  where
    one : (ts : List ℕ) (u : ℕ) → id_in s u ≢ except → list_any (λ u. eqb (priority_in s u) pri && not (eqb (id_in s u) except)) ts ≡ false → has u ts ≡ true → priority_in s u ≢ pri
    one [] u ne none some = cc
    one (x ∷ xs) u ne none some = on (eqb u x) refl some (eqb (priority_in s x) pri && not (eqb (id_in s x) except)) refl none (one xs u ne)
      where
        on : (b : Bool) → eqb u x ≡ b → (b || has u xs) ≡ true → (c : Bool) → (eqb (priority_in s x) pri && not (eqb (id_in s x) except)) ≡ c
            → (c || list_any (λ u. eqb (priority_in s u) pri && not (eqb (id_in s u) except)) xs) ≡ false
            → (list_any (λ u. eqb (priority_in s u) pri && not (eqb (id_in s u) except)) xs ≡ false → has u xs ≡ true → priority_in s u ≢ pri) → priority_in s u ≢ pri
        on true is some c e none more = λ same. clash (eqb (priority_in s x) pri) refl (eqb (id_in s x) except) refl c e none same
          where
            clash : (p : Bool) → eqb (priority_in s x) pri ≡ p → (q : Bool) → eqb (id_in s x) except ≡ q → (c : Bool) → (eqb (priority_in s x) pri && not (eqb (id_in s x) except)) ≡ c
                → (c || list_any (λ u. eqb (priority_in s u) pri && not (eqb (id_in s u) except)) xs) ≡ false → priority_in s u ≡ pri → ⊥
            clash p ep q eq c e none same =
                let there : u ≡ x = grind (arith, nat_tests) in
                let yes : eqb (priority_in s x) pri ≡ true = (let is : priority_in s x ≡ pri = sym (ap (priority_in s) there) ∙ same in grind (arith, nat_tests)) in
                let no : eqb (id_in s x) except ≡ false = (let differ : id_in s x ≢ except = λ k. ne (ap (id_in s) there ∙ k) in grind (arith, nat_tests)) in
                let both : (eqb (priority_in s x) pri && not (eqb (id_in s x) except)) ≡ true = ap (λ b. b && not (eqb (id_in s x) except)) yes ∙ ap not no in
                cc
        on false is some true e none more = cc
        on false is some false e none more = more none some

pub new-priority : (s : List ℕ) (t pri : ℕ) → HasTasks s → has t (tasks_in s) ≡ true → HasNewPriority s (with_priority s t pri) t pri
new-priority s t pri h some =
    let out : TaskOut s (without_task s t) t = task-out s t h some in
    let v : List ℕ = with_priority s t pri in
    let new : StaysNew (without_task s t) v t = word-stays_new (without_task s t) t 2 pri out.tasks out.task (omega arith) (omega arith) in
    let own : priority_in v t ≡ pri = get_or-set_same (without_task s t) (t + 2) pri 0 (omega (arith, out.task.node.inside)) in
    record {
      chain = new.chain ∙ out.list;
      tasks = new.tasks;
      task = new.task;
      order = λ fall. new.order (fall-out s t h some fall);
      priority = own;
      unused = λ unused.
          let others : AllByRecursion (λ u. priority_in s u ≢ pri) (tasks_in (without_task s t)) =
          other-priorities s pri (id_in s t) (tasks_in s) (tasks_in (without_task s t)) unused
          (subst (AllByRecursion (λ u. has u (tasks_in s) ≡ true)) (sym out.list) (all-without (λ u. has u (tasks_in s) ≡ true) t (tasks_in s) (all-members (λ u. has u (tasks_in s) ≡ true) (tasks_in s) (λ u there. there))))
          out.others
          in
          subst (AllByRecursion (λ u. priority_in v u ≢ priority_in v t)) (sym new.chain) (both (tasks_in (without_task s t)) others (out.same 2 (omega arith) (omega arith)) (new.words 2 (omega arith)) own);
    }
  where
    both : (us : List ℕ) → AllByRecursion (λ u. priority_in s u ≢ pri) us → AllByRecursion (λ u. priority_in (without_task s t) u ≡ priority_in s u) us
        → AllByRecursion (λ u. priority_in (with_priority s t pri) u ≡ priority_in (without_task s t) u) us → priority_in (with_priority s t pri) t ≡ pri
        → AllByRecursion (λ u. priority_in (with_priority s t pri) u ≢ priority_in (with_priority s t pri) t) us
    both [] other out new own = tt
    both (u ∷ us) other out new own = ((λ e. other.0 (sym (new.0 ∙ out.0) ∙ e ∙ own)), both us other.1 out.1 new.1 own)
