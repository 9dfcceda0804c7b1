-- What the words of a task tell: its number, and whether it is ready.
use Rattle.std.proofs.Common.{◌≡◌, ℕ, ◌≤◌, Bool, true, false, List, [], ◌∷◌, get_or, inl, inr, refl, ap, ◌∙◌, sym, subst, arith}
use Rattle.std.specs.List.{AllByRecursion}
use Rattle.kernel_lists.specs.PacketQueue.QueueWords.{QueuedPacket}
use Rattle.kernel_lists.specs.TaskBlock.TaskChain.{id_in}
use Rattle.kernel_model.specs.KernelRecord.Between.{is_ready}
use Rattle.kernel_model.specs.KernelRecord.HoldsLists.{HoldsLists}
use Rattle.kernel_model.specs.KernelRecord.Lists.{Lists}
use Rattle.kernel_model.specs.KernelRecord.ReadsLists.{ReadsLists}
use Rattle.kernel_model.specs.KernelRecord.Task.{Task, state_word, task_address, task_words}
use Rattle.kernel_model.specs.KernelRecord.ValidTasks.{IsField, IsTask}
use Rattle.kernel_model.proofs.KernelRecord.AllThings.{all-from_both}
use Rattle.kernel_model.proofs.KernelRecord.EachMember.{all-both, holds-each}
use Rattle.kernel_model.proofs.KernelRecord.ReadCoroutines.{HoldsTask, holds-task}
use Rattle.kernel_model.proofs.KernelRecord.Reading.{read-lists}
use Rattle.kernel_model.specs.KernelDispatch.Private.DispatchWords.{is_ready_in, is_ready_state, state_of}

-- what holds of the four fields
pub by-field : (P : ℕ → Type 0) → P 0 → P 4 → P 8 → P 12 → (n : ℕ) → IsField n → P n
by-field P a b c d n f =
    elim f [
      | inl e ↦ subst P (sym e) a
      | inr f ↦ elim f [ inl e ↦ subst P (sym e) b | inr f ↦ elim f [ inl e ↦ subst P (sym e) c | inr e ↦ subst P (sym e) d ] ]
    ]

-- what says of a task with this field that it is ready where its state says so
abbrev SaysReady : Task → Bool → List QueuedPacket → ℕ → Type 0
SaysReady t h ps n = is_ready_state (state_word (record t { field = n; held = h; queue = ps })) ≡ is_ready (record t { field = n; held = h; queue = ps })

pub ready-state : (t : Task) → IsField t.field → is_ready_state (state_word t) ≡ is_ready t
ready-state t f = on t.held t.queue
  where
    on : (h : Bool) (ps : List QueuedPacket) → SaysReady t h ps t.field
    on true [] = by-field (SaysReady t true []) refl refl refl refl t.field f
    on true (p ∷ ps) = by-field (SaysReady t true (p ∷ ps)) refl refl refl refl t.field f
    on false [] = by-field (SaysReady t false []) refl refl refl refl t.field f
    on false (p ∷ ps) = by-field (SaysReady t false (p ∷ ps)) refl refl refl refl t.field f

-- the store tells a task's number and whether it is ready
pub record TellsTask (s : List ℕ) (t : Task) : Type 0 where
  pub id : id_in s t.address ≡ t.id
  pub low : 1 ≤ t.id
  pub high : t.id ≤ 63
  pub ready : is_ready_in s t.address ≡ is_ready t

pub tells-tasks : (s : List ℕ) (l : Lists) → HoldsLists s l → AllByRecursion (TellsTask s) l.tasks
tells-tasks s l h =
    let r : ReadsLists s l = read-lists s l h.valid h.size h.holds in
    let words : AllByRecursion (HoldsTask s l.version) l.tasks =
    holds-each task_address (task_words l.version) s (HoldsTask s l.version) (λ t n own. holds-task s l.version t n own) l.tasks 0 r.held_tasks.holds.1
    in
    all-from_both (HoldsTask s l.version) (λ t. IsTask l t × ((1 ≤ t.id) × (t.id ≤ get_or s 120 0))) (TellsTask s)
    (λ t own is.
    record {
      id = own.names.0;
      low = is.1.0;
      high = omega (arith, is.1.1, r.held_tasks.highest);
      ready = ap is_ready_state own.state.0 ∙ ready-state t is.0.field;
    })
    l.tasks words (all-both (IsTask l) (λ t. (1 ≤ t.id) × (t.id ≤ get_or s 120 0)) l.tasks h.valid.tasks.each r.held_tasks.numbers)

-- the state of each task, as the store has it
pub tells-states : (s : List ℕ) (l : Lists) → HoldsLists s l → AllByRecursion (λ t. state_of s t.address ≡ state_word t) l.tasks
tells-states s l h =
    let r : ReadsLists s l = read-lists s l h.valid h.size h.holds in
    holds-each task_address (task_words l.version) s (λ t. state_of s t.address ≡ state_word t) (λ t n own. (holds-task s l.version t n own).state.0) l.tasks 0 r.held_tasks.holds.1
