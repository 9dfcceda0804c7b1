-- The task that goes on: the registers that it gets, and the lists in which it runs.
use Rattle.std.proofs.Common.{◌≡◌, ℕ, ◌&&◌, ◌||◌, Bool, true, false, Some, List, [], ◌∷◌, cond, drop, eqb, map, refl, sym, ap, ◌∙◌}
use Rattle.std.specs.Prelude.{find}
use Rattle.std.specs.Option.{option_map}
use Rattle.std.proofs.lemmas.Bool.{eqb-true}
use Rattle.kernel_model.specs.KernelRecord.Between.{is_ready}
use Rattle.kernel_model.specs.KernelRecord.Changes.{change_of}
use Rattle.word_store.specs.declared.registers.Regs.{Regs}
use Rattle.kernel_model.specs.KernelRecord.Task.{Task, is_guest_id}
use Rattle.kernel_model.specs.KernelDispatch.Dispatch.{resumed, started, suspended, takes_packet, with_packet_taken}

-- ---- one task: suspended, where it ran, and resumed, where it is next

-- a task takes a packet where it does once it was suspended
pub takes-suspended : (r : Regs) (t : Task) → takes_packet (suspended r t) ≡ takes_packet t
takes-suspended r t = on (eqb t.field 0) refl
  where
    on : (b : Bool) → eqb t.field 0 ≡ b → (is_guest_id t.id && (eqb (cond b 8 t.field) 4 || eqb (cond b 8 t.field) 12)) ≡ (is_guest_id t.id && (eqb t.field 4 || eqb t.field 12))
    on true e = ap (λ f. is_guest_id t.id && (eqb f 4 || eqb f 12)) (sym (eqb-true t.field 0 e))
    on false e = refl

ready-suspended : (r : Regs) (t : Task) → is_ready (suspended r t) ≡ is_ready t
ready-suspended r t = on (eqb t.field 0) refl
  where
    on : (b : Bool) → eqb t.field 0 ≡ b → is_ready (record t { saved = r; field = cond b 8 t.field }) ≡ is_ready t
    on true e = ap (λ f. is_ready (record t { field = f })) (sym (eqb-true t.field 0 e))
    on false e = refl

-- so it may take its packet before
suspended-after : (r : Regs) (t : Task) → started (suspended r (with_packet_taken t)) ≡ resumed (suspended r t)
suspended-after r t = ap (λ b. record t { saved = r; field = 0; queue = cond b (drop 1 t.queue) t.queue }) (sym (takes-suspended r t))

-- the changes of the task with number i, and of the one with number j that ran
pub changes-of : (i j : ℕ) (r : Regs) (t : Task)
    → change_of i started (change_of j (suspended r) (change_of i with_packet_taken t)) ≡ change_of i resumed (change_of j (suspended r) t)
changes-of i j r t = on (eqb t.id i) refl (eqb t.id j) refl
  where
    on : (b : Bool) → eqb t.id i ≡ b → (c : Bool) → eqb t.id j ≡ c → change_of i started (change_of j (suspended r) (cond b (with_packet_taken t) t)) ≡ change_of i resumed (cond c (suspended r t) t)
    on true e true f =
        ap (λ c. change_of i started (cond c (suspended r (with_packet_taken t)) (with_packet_taken t))) f
        ∙ ap (λ b. cond b (started (suspended r (with_packet_taken t))) (suspended r (with_packet_taken t))) e
        ∙ suspended-after r t
        ∙ sym (ap (λ b. cond b (resumed (suspended r t)) (suspended r t)) e)
    on true e false f =
        ap (λ c. change_of i started (cond c (suspended r (with_packet_taken t)) (with_packet_taken t))) f
        ∙ ap (λ b. cond b (started (with_packet_taken t)) (with_packet_taken t)) e
        ∙ sym (ap (λ b. cond b (resumed t) t) e)
    on false e true f =
        ap (λ c. change_of i started (cond c (suspended r t) t)) f
        ∙ ap (λ b. cond b (started (suspended r t)) (suspended r t)) e
        ∙ sym (ap (λ b. cond b (resumed (suspended r t)) (suspended r t)) e)
    on false e false f =
        ap (λ c. change_of i started (cond c (suspended r t) t)) f
        ∙ ap (λ b. cond b (started t) t) e
        ∙ sym (ap (λ b. cond b (resumed t) t) e)

pub all-changes : (i j : ℕ) (r : Regs) (ts : List Task)
    → map (change_of i started) (map (change_of j (suspended r)) (map (change_of i with_packet_taken) ts)) ≡ map (change_of i resumed) (map (change_of j (suspended r)) ts)
all-changes i j r [] = refl
all-changes i j r (t ∷ ts) = λ k. changes-of i j r t k ∷ all-changes i j r ts k

-- the first ready task is the same, suspended where it ran
pub first-suspended : (j : ℕ) (r : Regs) (ts : List Task) → find is_ready (map (change_of j (suspended r)) ts) ≡ option_map (change_of j (suspended r)) (find is_ready ts)
first-suspended j r [] = refl
first-suspended j r (t ∷ ts) =
    ap (λ b. cond b (Some (change_of j (suspended r) t)) (find is_ready (map (change_of j (suspended r)) ts))) (ready-changed (eqb t.id j)) ∙ on (is_ready t) (first-suspended j r ts)
  where
    ready-changed : (b : Bool) → is_ready (cond b (suspended r t) t) ≡ is_ready t
    ready-changed true = ready-suspended r t
    ready-changed false = refl

    on : (b : Bool) → find is_ready (map (change_of j (suspended r)) ts) ≡ option_map (change_of j (suspended r)) (find is_ready ts)
        → cond b (Some (change_of j (suspended r) t)) (find is_ready (map (change_of j (suspended r)) ts)) ≡ option_map (change_of j (suspended r)) (cond b (Some t) (find is_ready ts))
    on true more = refl
    on false more = more
