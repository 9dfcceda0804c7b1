-- A task is what a store that holds its words says.
use Rattle.std.proofs.Common.{◌≡◌, inl, inr, ℕ, zero, suc, ◌+◌, ◌-◌, ◌/◌, ◌%◌, ◌<◌, ◌≤◌, List, [], ◌∷◌, length, map, drop, get_or, eqb, not, cond, Bool, true, false, refl, sym, ap, ◌∙◌, arith}
use Rattle.std.specs.Prelude.{slice_range}
use Rattle.std.specs.List.{AllByRecursion, filter, range_with_len}
use Rattle.std.proofs.lemmas.Bool.{eq-eqb, ne_eqb}
use Rattle.word_store.specs.Count.{times}
use Rattle.kernel_lists.specs.LinkedList.Places.{has}
use Rattle.kernel_lists.proofs.LinkedList.AllMembers.{all-has}
use Rattle.word_store.proofs.Counts.{times-within}
use Rattle.kernel_lists.specs.OwnedWords.LinkedWords.{first_of}
use Rattle.kernel_lists.specs.OwnedWords.Owned.{AreInside, Holds, row_from}
use Rattle.kernel_lists.proofs.OwnedWords.RowWords.{Holds-range}
use Rattle.kernel_lists.specs.HunkLoader.HeldModules.{module_address}
use Rattle.kernel_lists.specs.PacketQueue.QueueWords.{HeldQueue, QueuedPacket}
use Rattle.kernel_lists.specs.TaskBlock.TaskChain.{id_in}
use Rattle.kernel_lists.specs.TaskBlock.Versions.{head_words}
use Rattle.kernel_lists.specs.Coroutines.CoroutineExchanges.{HoldsCoroutines}
use Rattle.kernel_model.specs.KernelRecord.Lists.{Lists}
use Rattle.kernel_model.specs.KernelRecord.Recovered.{further_words, modules_of, task_in}
use Rattle.kernel_model.specs.KernelRecord.Task.{Task, filled, further_modules, is_guest_id, queue_bit, queue_head, state_word, task_words}
use Rattle.kernel_model.specs.KernelRecord.ValidBlocks.{HasBlock, last_module_word}
use Rattle.kernel_model.specs.KernelRecord.ValidLists.{AreValid}
use Rattle.kernel_model.specs.KernelRecord.ValidTasks.{IsField, IsGuest, IsTask}
use Rattle.kernel_model.specs.KernelRecord.Versions.{head_words_of, most_modules_of}
use Rattle.kernel_model.proofs.KernelRecord.EachMember.{all-addresses, all-each}
use Rattle.kernel_model.proofs.KernelRecord.ReadCoroutines.{HoldsTask, holds-task}
use Rattle.kernel_model.proofs.KernelRecord.RecoveredParts.{coroutines-back, queue-back}
use Rattle.kernel_model.proofs.KernelRecord.RootCounts.{length-filled}
use Rattle.kernel_model.proofs.KernelRecord.TaskKind.{owners-whole}

-- ---- the state

field-even : (f : ℕ) → IsField f → f % 4 ≡ 0
field-even f (inl e) = omega (arith, e)
field-even f (inr (inl e)) = omega (arith, e)
field-even f (inr (inr (inl e))) = omega (arith, e)
field-even f (inr (inr (inr e))) = omega (arith, e)

pub bit-low : (ps : List QueuedPacket) → queue_bit ps ≤ 1
bit-low [] = omega arith
bit-low (p ∷ ps) = omega arith

state-field : (t : Task) → IsField t.field → state_word t - state_word t % 4 ≡ t.field
state-field t f = on t.held
  where
    on : (b : Bool) → (t.field + queue_bit t.queue + cond b 2 0) - (t.field + queue_bit t.queue + cond b 2 0) % 4 ≡ t.field
    on true = omega (arith, field-even t.field f, bit-low t.queue)
    on false = omega (arith, field-even t.field f, bit-low t.queue)

pub state-held : (t : Task) → IsField t.field → eqb (state_word t / 2 % 2) 1 ≡ t.held
state-held t f = on t.held
  where
    on : (b : Bool) → eqb ((t.field + queue_bit t.queue + cond b 2 0) / 2 % 2) 1 ≡ b
    on true = eq-eqb ((t.field + queue_bit t.queue + 2) / 2 % 2) 1 (omega (arith, field-even t.field f, bit-low t.queue))
    on false = ne_eqb ((t.field + queue_bit t.queue + 0) / 2 % 2) 1 (λ e. omega (arith, e, field-even t.field f, bit-low t.queue))

-- ---- the modules

abbrev is_module : ℕ → Bool
is_module m = not (eqb m 0)

filter-filled : (n : ℕ) (ms : List ℕ) → AllByRecursion (λ m. 0 < m) ms → length ms ≤ n → filter is_module (filled n ms) ≡ ms
filter-filled zero [] some few = refl
filter-filled zero (m ∷ ms) some few = absurd (omega arith)
filter-filled (suc n) [] some few = filter-filled n [] tt (omega arith)
filter-filled (suc n) (m ∷ ms) some few =
    let test : eqb m 0 ≡ false = ne_eqb m 0 (λ e. omega (arith, e, some.0)) in
    ap (λ b. cond (not b) (m ∷ filter is_module (filled n ms)) (filter is_module (filled n ms))) test ∙ ap (λ z. m ∷ z) (filter-filled n ms some.1 (omega arith))

filter-modules : (n : ℕ) (ms : List ℕ) → AllByRecursion (λ m. 0 < m) ms → length ms ≤ suc n → filter is_module (first_of (λ m. m) ms 0 ∷ filled n (drop 1 ms)) ≡ ms
filter-modules n [] some few = filter-filled n [] tt (omega arith)
filter-modules n (m ∷ ms) some few =
    let test : eqb m 0 ≡ false = ne_eqb m 0 (λ e. omega (arith, e, some.0)) in
    ap (λ b. cond (not b) (m ∷ filter is_module (filled n ms)) (filter is_module (filled n ms))) test ∙ ap (λ z. m ∷ z) (filter-filled n ms some.1 (omega arith))

-- the modules of the list are not at 0
modules-some : (l : Lists) → AreValid l → (ms : List ℕ) → AllByRecursion (λ m. has m (map module_address l.modules) ≡ true) ms → AllByRecursion (λ m. 0 < m) ms
modules-some l v ms members =
    all-each (λ m. has m (map module_address l.modules) ≡ true) (λ m. 0 < m)
    (λ m some.
    all-has (λ m. 0 < m) m (map module_address l.modules)
    (all-addresses (λ m. 0 < m) module_address l.modules (all-each (λ m. HasBlock l.blocks m.address (last_module_word m)) (λ m. 0 < m.address) (λ m b. omega (arith, b.here)) l.modules v.modules)) some)
    ms members

-- a guest has as many words for its further modules as it may have of them
most-further : (version : ℕ) → most_modules_of version ≤ suc (head_words_of version - 23)
most-further version = elim (eqb version 2) as (λ b. cond b 8 1 ≤ suc (cond b 30 23 - 23)) [ true ↦ omega arith | false ↦ omega arith ]

module _ (s : List ℕ) (l : Lists) (t : Task) where
  abbrev n : ℕ
  n = head_words_of l.version - 23

  further-back : get_or s 111 0 ≡ l.version → id_in s t.address ≡ t.id → Holds s (row_from t.address 23 (further_modules l.version t)) → t.address + (23 + length (further_modules l.version t)) ≤ length s
      → further_words s t.address ≡ further_modules l.version t
  further-back version id h fits = ap (λ i. cond (is_guest_id i) (slice_range s (t.address + 23) (t.address + head_words s)) []) id ∙ on (is_guest_id t.id) refl h fits
    where
      head : head_words s ≡ 23 + n
      head = ap (λ w. cond (eqb w 2) 30 23) version ∙ whole l.version
        where
          whole : (version : ℕ) → head_words_of version ≡ 23 + (head_words_of version - 23)
          whole version = elim (eqb version 2) as (λ b. cond b 30 23 ≡ 23 + (cond b 30 23 - 23)) [ true ↦ refl | false ↦ refl ]

      on : (b : Bool) → is_guest_id t.id ≡ b → Holds s (row_from t.address 23 (cond b (filled n (drop 1 t.modules)) [])) → t.address + (23 + length (cond b (filled n (drop 1 t.modules)) [])) ≤ length s
          → cond b (slice_range s (t.address + 23) (t.address + head_words s)) [] ≡ cond b (filled n (drop 1 t.modules)) []
      on true guest h fits =
          let ws : List ℕ = filled n (drop 1 t.modules) in
          let end : t.address + head_words s ≡ t.address + 23 + length ws = omega (arith, head, length-filled n (drop 1 t.modules)) in
          ap (slice_range s (t.address + 23)) end ∙ Holds-range s t.address 23 ws h (omega (arith, fits))
      on false resident h fits = refl

  modules-of : AreValid l → IsTask l t → get_or s (t.address + 10) 0 ≡ first_of (λ m. m) t.modules 0 → further_words s t.address ≡ further_modules l.version t → modules_of s t.address ≡ t.modules
  modules-of v is first further = (λ i. filter is_module (first i ∷ further i)) ∙ on (is_guest_id t.id) refl
    where
      on : (b : Bool) → is_guest_id t.id ≡ b → filter is_module (first_of (λ m. m) t.modules 0 ∷ cond (is_guest_id t.id) (filled n (drop 1 t.modules)) []) ≡ t.modules
      on true guest =
          let g : IsGuest l t = is.guest guest in
          ap (λ b. filter is_module (first_of (λ m. m) t.modules 0 ∷ cond b (filled n (drop 1 t.modules)) [])) guest
          ∙ filter-modules n t.modules (modules-some l v t.modules g.modules) (omega (arith, g.most, most-further l.version))
      on false resident =
          let none : t.modules ≡ [] = (is.resident resident).modules in
          ap (λ b. filter is_module (first_of (λ m. m) t.modules 0 ∷ cond b (filled n (drop 1 t.modules)) [])) resident
          ∙ ap (λ ms. filter is_module (first_of (λ m. m) ms 0 ∷ [])) none ∙ sym none

  pub task-back : (link : ℕ) → AreValid l → get_or s 111 0 ≡ l.version → Holds s (task_words l.version t link) → AreInside s (task_words l.version t link) → IsTask l t
      → HeldQueue s (queue_head t.address) t.queue → HoldsCoroutines s t.address t.coroutines → task_in s t.address ≡ t
  task-back link v version h inside is queue frames =
      let w : HoldsTask s l.version t = holds-task s l.version t link h in
      let k : ℕ = length (further_modules l.version t) in
      let last : ℕ = t.address + (22 + k) in
      let fits : last < length s = inside last (omega (arith, owners-whole last l.version t link, in-words k last refl)) in
      let further : further_words s t.address ≡ further_modules l.version t = further-back version w.names.0 w.fault.1.1 (omega (arith, fits)) in
      let modules : modules_of s t.address ≡ t.modules = modules-of v is w.state.1.1.1.1.1.1.0 further in
      let state : get_or s (t.address + 4) 0 ≡ state_word t = w.state.0 in
      let field : get_or s (t.address + 4) 0 - get_or s (t.address + 4) 0 % 4 ≡ t.field = ap (λ z. z - z % 4) state ∙ state-field t is.field in
      let held : eqb (get_or s (t.address + 4) 0 / 2 % 2) 1 ≡ t.held = ap (λ z. eqb (z / 2 % 2) 1) state ∙ state-held t is.field in
      let regs = w.state.1.1.1.1.1.1.1 in
      let packets = queue-back s (queue_head t.address) t.queue queue in
      let coroutines = coroutines-back s t.address t.coroutines frames in
      let whole : ◌≡◌ {A = Task} (task_in s t.address) t = λ i. record {
        id = w.names.0 i;
        address = t.address;
        priority = w.names.1.0 i;
        flags = w.state.1.0 i;
        maker = w.state.1.1.1.1.1.0 i;
        modules = modules i;
        highest = w.state.1.1.1.0 i;
        field = field i;
        held = held i;
        fault = w.fault.0 i;
        fault_address = w.fault.1.0 i;
        saved = record { a = regs.0 i; b = regs.1.0 i; c = regs.1.1.0 i; p = regs.1.1.1.0 i; g = regs.1.1.1.1.0 i; pc = regs.1.1.1.1.1.0 i };
        queue = packets i;
        coroutines = coroutines i;
      } in
      whole
    where
      in-words : (k last : ℕ) → last ≡ t.address + (22 + k) → 0 < times last (range_with_len t.address 23) + times last (range_with_len (t.address + 23) k)
      in-words zero last e = omega (arith, times-within last t.address 23 (omega (arith, e)) (omega (arith, e)))
      in-words (suc k) last e = omega (arith, times-within last (t.address + 23) (suc k) (omega (arith, e)) (omega (arith, e)))
