-- Where the words of a task lie: a guest's at the front of its block, a resident's in the resident block.
use Rattle.std.proofs.Common.{◌≡◌, ◌⊎◌, inl, inr, ℕ, ◌+◌, ◌-◌, ◌<◌, ◌≤◌, List, [], ◌∷◌, length, drop, eqb, cond, Bool, true, false, Option, Some, None, refl, sym, ap, ◌∙◌, arith}
use Rattle.std.specs.Prelude.{unwrap_or}
use Rattle.std.specs.List.{AllByRecursion}
use Rattle.std.proofs.lemmas.Bool.{eq-eqb, eqb-true, leb-true, or_left, or_right}
use Rattle.kernel_model.specs.KernelRecord.Lists.{Lists, has_task}
use Rattle.kernel_model.specs.KernelRecord.Task.{Task, filled, further_modules, is_guest_id}
use Rattle.kernel_model.specs.KernelRecord.ValidBlocks.{HasBlock, last_resident_word}
use Rattle.kernel_model.specs.KernelRecord.ValidLists.{AreValid}
use Rattle.kernel_model.specs.KernelRecord.ValidTasks.{AreValidTasks, IsGuest, IsResident, IsTask}
use Rattle.kernel_model.specs.KernelRecord.Versions.{head_words_of, highest_id_of}
use Rattle.kernel_model.proofs.KernelRecord.EachMember.{all-both, all-each}
use Rattle.kernel_model.proofs.KernelRecord.RootCounts.{head-low, highest-low, length-filled}

-- its number is one of the table's, and its words are data of a block, in which no coroutine begins unless it has none
pub record TaskPlace (l : Lists) (t : Task) : Type 0 where
  pub low_id : 1 ≤ t.id
  pub high_id : t.id ≤ highest_id_of l.version
  pub first : ℕ
  pub last : ℕ
  pub block : HasBlock l.blocks first last
  pub low : first ≤ t.address
  pub high : t.address + (23 + length (further_modules l.version t)) ≤ first + last + 1
  pub elsewhere : (first ≡ t.address) ⊎ (t.coroutines.list ≡ [])

guest-place : (l : Lists) (t : Task) → is_guest_id t.id ≡ true → IsGuest l t → TaskPlace l t
guest-place l t guest g =
    let n : ℕ = head_words_of l.version - 23 in
    let further : length (further_modules l.version t) ≡ n = ap (λ b. length (cond b (filled n (drop 1 t.modules)) [])) guest ∙ length-filled n (drop 1 t.modules) in
    record {
      low_id = omega (arith, leb-true 5 t.id guest);
      high_id = g.high;
      first = t.address;
      last = head_words_of l.version + 1001 + t.highest;
      block = g.block;
      low = omega arith;
      high = omega (arith, further, head-low l.version);
      elsewhere = inl refl;
    }

-- the resident block has room for three task blocks and the key packet at least
pub last-resident : (l : Lists) → 86 ≤ last_resident_word l
last-resident l = elim (has_task 2 l.tasks) as (λ b. 86 ≤ cond b 114 86) [ true ↦ omega arith | false ↦ omega arith ]

resident-place : (l : Lists) (t : Task) → AreValidTasks l → (l.residents ≡ true → HasBlock l.blocks 201 (last_resident_word l)) → has_task t.id l.tasks ≡ true
    → is_guest_id t.id ≡ false → IsResident t → TaskPlace l t
resident-place l t valid-tasks block here resident r = on (eqb t.id 1) refl (eqb t.id 2) refl (eqb t.id 3) refl (eqb t.id 4) refl r.place
  where
    last : ℕ
    last = last_resident_word l

    further : length (further_modules l.version t) ≡ 0
    further = ap (λ b. length (cond b (filled (head_words_of l.version - 23) (drop 1 t.modules)) [])) resident

    at : l.residents ≡ true → 1 ≤ t.id → t.id ≤ 4 → 201 ≤ t.address → t.address + 23 ≤ 202 + last → TaskPlace l t
    at residents low high first end =
        record {
          low_id = low;
          high_id = omega (arith, high, highest-low l.version);
          first = 201;
          last = last;
          block = block residents;
          low = first;
          high = omega (arith, further, end);
          elsewhere = inr r.coroutines;
        }

    address : (a p : ℕ) → ◌≡◌ {A = Option (ℕ × ℕ)} (Some (a, p)) (Some (t.address, t.priority)) → a ≡ t.address
    address a p e = ap (λ (o : Option (ℕ × ℕ)). (unwrap_or o (0, 0)).0) e

    has : (i : ℕ) → t.id ≡ i → has_task i l.tasks ≡ true
    has i same = ap (λ i. has_task i l.tasks) (sym same) ∙ here

    on : (a : Bool) → eqb t.id 1 ≡ a → (b : Bool) → eqb t.id 2 ≡ b → (c : Bool) → eqb t.id 3 ≡ c → (d : Bool) → eqb t.id 4 ≡ d
        → ◌≡◌ {A = Option (ℕ × ℕ)} (cond a (Some (201, 1000)) (cond b (Some (287, 3000)) (cond c (Some (224, 6000)) (cond d (Some (247, 5000)) None)))) (Some (t.address, t.priority)) → TaskPlace l t
    on true i b j c k d m e =
        let same : t.id ≡ 1 = eqb-true t.id 1 i in
        at (sym valid-tasks.shell ∙ has 1 same) (omega (arith, same)) (omega (arith, same)) (omega (arith, address 201 1000 e)) (omega (arith, address 201 1000 e, last-resident l))
    on false i true j c k d m e =
        let same : t.id ≡ 2 = eqb-true t.id 2 j in
        let more : last ≡ 114 = ap (λ b. cond b 114 86) (has 2 same) in
        at (valid-tasks.reporter (has 2 same)) (omega (arith, same)) (omega (arith, same)) (omega (arith, address 287 3000 e)) (omega (arith, address 287 3000 e, more))
    on false i false j true k d m e =
        let same : t.id ≡ 3 = eqb-true t.id 3 k in
        at (sym valid-tasks.console ∙ has 3 same) (omega (arith, same)) (omega (arith, same)) (omega (arith, address 224 6000 e)) (omega (arith, address 224 6000 e, last-resident l))
    on false i false j false k true m e =
        let same : t.id ≡ 4 = eqb-true t.id 4 m in
        at (sym valid-tasks.files ∙ has 4 same) (omega (arith, same)) (omega (arith, same)) (omega (arith, address 247 5000 e)) (omega (arith, address 247 5000 e, last-resident l))
    on false i false j false k false m e = cc

-- each task's number is one of the list's
pub has-each : (ts : List Task) → AllByRecursion (λ t. has_task t.id ts ≡ true) ts
has-each [] = tt
has-each (t ∷ ts) = (
  or_left (eqb t.id t.id) (has_task t.id ts) (eq-eqb t.id t.id refl),
  all-each (λ u. has_task u.id ts ≡ true) (λ u. has_task u.id (t ∷ ts) ≡ true) (λ u some. or_right (eqb t.id u.id) (has_task u.id ts) some) ts (has-each ts),
)

pub task-places : (l : Lists) → AreValid l → AllByRecursion (TaskPlace l) l.tasks
task-places l v =
    all-each (λ t. IsTask l t × (has_task t.id l.tasks ≡ true)) (TaskPlace l) place l.tasks (all-both (IsTask l) (λ t. has_task t.id l.tasks ≡ true) l.tasks v.tasks.each (has-each l.tasks))
  where
    place : (t : Task) → IsTask l t × (has_task t.id l.tasks ≡ true) → TaskPlace l t
    place t h = on (is_guest_id t.id) refl
      where
        on : (b : Bool) → is_guest_id t.id ≡ b → TaskPlace l t
        on true guest = guest-place l t guest (h.0.guest guest)
        on false resident = resident-place l t v.tasks v.numbers.residents h.1 resident (h.0.resident resident)

-- no task is at 0
pub task-some : (l : Lists) (t : Task) → TaskPlace l t → 0 < t.address
task-some l t p = omega (arith, p.block.here, p.low)
