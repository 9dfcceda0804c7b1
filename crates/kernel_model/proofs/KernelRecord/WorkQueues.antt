-- The work queue of the task with a number, as a place in the chain.
use Rattle.std.proofs.Common.{◌≡◌, ◌≢◌, ℕ, List, [], ◌∷◌, ◌++◌, map, cond, eqb, ◌||◌, Bool, true, false, refl, sym, ap, ◌∙◌, arith}
use Rattle.std.proofs.lemmas.Bool.{eqb-true, ne_eqb}
use Rattle.word_store.specs.Count.{IsApart, times}
use Rattle.word_store.proofs.Counts.{hit-same}
use Rattle.kernel_lists.specs.PacketQueue.QueueWords.{QueuedPacket}
use Rattle.kernel_model.specs.KernelRecord.Changes.{with_work, work_of}
use Rattle.kernel_model.specs.KernelRecord.Lists.{has_task}
use Rattle.kernel_model.specs.KernelRecord.Task.{Task, task_id}

-- the chain around the task whose queue it is, and what becomes of it with another queue
pub record WorkSplit (id : ℕ) (ps : List QueuedPacket) (ts : List Task) : Type 0 where
  pub front : List Task
  pub task : Task
  pub back : List Task
  pub whole : ts ≡ front ++ task ∷ back
  pub number : task.id ≡ id
  pub queue : work_of id ts ≡ task.queue
  pub becomes : map (with_work id ps) ts ≡ front ++ (record task { queue = ps }) ∷ back

-- tasks with other numbers stay
with_work-none : (id : ℕ) (ps : List QueuedPacket) (ts : List Task) → times id (map task_id ts) ≡ 0 → map (with_work id ps) ts ≡ ts
with_work-none id ps [] none = refl
with_work-none id ps (t ∷ ts) none =
    let ne : t.id ≢ id = λ e. absurd (omega (arith, none, hit-same id t.id (sym e))) in
    let test : eqb t.id id ≡ false = ne_eqb t.id id ne in
    λ i. cond (test i) (record t { queue = ps }) t ∷ with_work-none id ps ts (omega (arith, none)) i

pub work-split : (id : ℕ) (ps : List QueuedPacket) (ts : List Task) → IsApart (map task_id ts) → has_task id ts ≡ true → WorkSplit id ps ts
work-split id ps [] apart some = cc
work-split id ps (t ∷ ts) apart some = on (eqb t.id id) refl some (λ h. work-split id ps ts (λ a. omega (arith, apart a)) h)
  where
    on : (b : Bool) → eqb t.id id ≡ b → (b || has_task id ts) ≡ true → (has_task id ts ≡ true → WorkSplit id ps ts) → WorkSplit id ps (t ∷ ts)
    on true e some more =
        let same : t.id ≡ id = eqb-true t.id id e in
        let none : times id (map task_id ts) ≡ 0 = omega (arith, apart id, hit-same id t.id (sym same)) in
        record {
          front = [];
          task = t;
          back = ts;
          whole = refl;
          number = same;
          queue = ap (λ b. cond b t.queue (work_of id ts)) e;
          becomes = λ i. cond (e i) (record t { queue = ps }) t ∷ with_work-none id ps ts none i;
        }
    on false e some more =
        let r = more some in
        record {
          front = t ∷ r.front;
          task = r.task;
          back = r.back;
          whole = ap (λ z. t ∷ z) r.whole;
          number = r.number;
          queue = ap (λ b. cond b t.queue (work_of id ts)) e ∙ r.queue;
          becomes = λ i. cond (e i) (record t { queue = ps }) t ∷ r.becomes i;
        }
