-- The tasks once the one that ran is suspended and the first ready one runs: who is ready, and of whom the field says that it runs.
use Rattle.std.proofs.Common.{◌≡◌, ℕ, ◌<◌, Bool, true, false, Some, List, [], ◌∷◌, map, cond, eqb, refl, sym, ap, ◌∙◌, arith}
use Rattle.std.specs.Prelude.{find}
use Rattle.std.specs.List.{AllByRecursion}
use Rattle.std.specs.Option.{option_map, option_map_or}
use Rattle.std.proofs.lemmas.Bool.{eq-eqb, eqb-true}
use Rattle.word_store.specs.Count.{IsApart}
use Rattle.word_store.specs.declared.registers.Regs.{Regs}
use Rattle.kernel_lists.specs.OwnedWords.LinkedWords.{first_of}
use Rattle.kernel_lists.specs.PacketQueue.QueueWords.{address_of}
use Rattle.kernel_model.specs.KernelRecord.Between.{first_ready, is_ready}
use Rattle.kernel_model.specs.KernelRecord.Changes.{change_of}
use Rattle.kernel_model.specs.KernelRecord.Running.{RunsAs, RunsIf}
use Rattle.kernel_model.specs.KernelRecord.Task.{Task, is_guest_id, task_id}
use Rattle.kernel_model.specs.KernelRecord.ValidTasks.{no_regs, runs}
use Rattle.word_store.proofs.Elements.{find-passes}
use Rattle.kernel_model.proofs.KernelRecord.EachMember.{all-each}
use Rattle.kernel_model.specs.KernelDispatch.Dispatch.{entry_regs, guest_regs, resumed, resumed_regs, suspended}
use Rattle.kernel_machine.proofs.KernelSteps.FoundTask.{only-found}

-- ---- a change that keeps what a test says of each

pub find-kept : {X : Type 0} (f : X → Bool) (g : X → X) (xs : List X) → AllByRecursion (λ x. f (g x) ≡ f x) xs → find f (map g xs) ≡ option_map g (find f xs)
find-kept f g [] all = refl
find-kept f g (x ∷ xs) all = ap (λ b. cond b (Some (g x)) (find f (map g xs))) all.0 ∙ on (f x) (find-kept f g xs all.1)
  where
    on : (b : Bool) → find f (map g xs) ≡ option_map g (find f xs) → cond b (Some (g x)) (find f (map g xs)) ≡ option_map g (cond b (Some x) (find f xs))
    on true more = refl
    on false more = more

-- numbers stay
pub id-changed : (n : ℕ) (f : Task → Task) → ((t : Task) → (f t).id ≡ t.id) → (t : Task) → (change_of n f t).id ≡ t.id
id-changed n f same t = on (eqb t.id n)
  where
    on : (b : Bool) → (cond b (f t) t).id ≡ t.id
    on true = same t
    on false = refl

pub ids-changed : (n : ℕ) (f : Task → Task) → ((t : Task) → (f t).id ≡ t.id) → (ts : List Task) → map task_id (map (change_of n f) ts) ≡ map task_id ts
ids-changed n f same [] = refl
ids-changed n f same (t ∷ ts) = λ i. id-changed n f same t i ∷ ids-changed n f same ts i

-- ---- the task that ran

-- it was the only one that ran, so none runs
not-suspended : (r : Regs) (t : Task) → (suspended r t).field ≡ runs → ⊥
not-suspended r t = on (eqb t.field 0) refl
  where
    on : (b : Bool) → eqb t.field 0 ≡ b → cond b 8 t.field ≡ 0 → ⊥
    on true e is = absurd (omega (arith, is))
    on false e is = (let here : eqb t.field 0 ≡ true = eq-eqb t.field 0 is in cc)

pub none-run : (n : ℕ) (r : Regs) (ts : List Task) → AllByRecursion (RunsAs n) ts → AllByRecursion (λ t. t.field ≡ runs → ⊥) (map (change_of n (suspended r)) ts)
none-run n r [] all = tt
none-run n r (t ∷ ts) all = (on (eqb t.id n) refl, none-run n r ts all.1)
  where
    on : (b : Bool) → eqb t.id n ≡ b → (cond b (suspended r t) t).field ≡ runs → ⊥
    on true e is = not-suspended r t is
    on false e is = (let here : eqb t.id n ≡ true = eq-eqb t.id n (all.0 is) in cc)

-- ---- the task that goes on

ready-resumed : (t : Task) → is_ready t ≡ true → is_ready (resumed t) ≡ is_ready t
ready-resumed t e = on t.held e ∙ sym e
  where
    on : (h : Bool) → is_ready (record t { held = h }) ≡ true → is_ready (record (resumed t) { held = h }) ≡ true
    on true e = cc
    on false e = refl

pub alone-resumed : (n : ℕ) (ts : List Task) → AllByRecursion (λ t. t.field ≡ runs → ⊥) ts → AllByRecursion (RunsAs n) (map (change_of n resumed) ts)
alone-resumed n [] none = tt
alone-resumed n (t ∷ ts) none = (on (eqb t.id n) refl, alone-resumed n ts none.1)
  where
    on : (b : Bool) → eqb t.id n ≡ b → (cond b (resumed t) t).field ≡ runs → (cond b (resumed t) t).id ≡ n
    on true e = λ is. eqb-true t.id n e
    on false e = λ is. absurd (none.0 is)

pub alive-resumed : (n : ℕ) (ts : List Task) → AllByRecursion (RunsIf n) (map (change_of n resumed) ts)
alive-resumed n [] = tt
alive-resumed n (t ∷ ts) = (on (eqb t.id n) refl, alive-resumed n ts)
  where
    on : (b : Bool) → eqb t.id n ≡ b → (cond b (resumed t) t).id ≡ n → (cond b (resumed t) t).field ≡ runs
    on true e = λ is. refl
    on false e = λ is. (let here : eqb t.id n ≡ true = eq-eqb t.id n is in cc)

module _ (ts : List Task) (t : Task) (is : find is_ready ts ≡ Some t) (apart : IsApart (map task_id ts)) where
  -- it was ready, and all others are what they were
  pub resumed-kept : AllByRecursion (λ u. is_ready (change_of t.id resumed u) ≡ is_ready u) ts
  resumed-kept =
      all-each (λ u. u.id ≡ t.id → is_ready (resumed u) ≡ is_ready u) (λ u. is_ready (change_of t.id resumed u) ≡ is_ready u) each ts
      (only-found (λ u. is_ready (resumed u) ≡ is_ready u) is_ready ts t is apart (ready-resumed t (find-passes is_ready ts t is)))
    where
      each : (u : Task) → (u.id ≡ t.id → is_ready (resumed u) ≡ is_ready u) → is_ready (change_of t.id resumed u) ≡ is_ready u
      each u h = on (eqb u.id t.id) refl
        where
          on : (b : Bool) → eqb u.id t.id ≡ b → is_ready (cond b (resumed u) u) ≡ is_ready u
          on true e = h (eqb-true u.id t.id e)
          on false e = refl

  pub first-resumed : first_ready (map (change_of t.id resumed) ts) ≡ t.id
  first-resumed =
      ap (λ o. option_map_or task_id o 0) (find-kept is_ready (change_of t.id resumed) ts resumed-kept ∙ ap (option_map (change_of t.id resumed)) is)
      ∙ id-changed t.id resumed (λ u. refl) t

-- ---- its registers

-- the saved ones stay
pub bytes-resumed : (n : ℕ) (ts : List Task) → AllByRecursion (λ t. t.saved.c < 256) (map (change_of n resumed) ts) → AllByRecursion (λ t. t.saved.c < 256) ts
bytes-resumed n [] all = tt
bytes-resumed n (t ∷ ts) all = (on (eqb t.id n) all.0, bytes-resumed n ts all.1)
  where
    on : (b : Bool) → (cond b (resumed t) t).saved.c < 256 → t.saved.c < 256
    on true small = small
    on false small = small

pub resumed-byte : (version : ℕ) (words : List ℕ) (t : Task) → t.saved.c < 256 → (resumed_regs version words t).c < 256
resumed-byte version words t small = on (is_guest_id t.id) (eqb t.field 12) (eqb t.field 4)
  where
    on : (guest gone waiting : Bool) → (cond guest (cond gone (entry_regs version words t) (cond waiting (record t.saved { a = first_of address_of t.queue 0; b = 0 }) t.saved)) no_regs).c < 256
    on true true waiting = omega arith
    on true false true = small
    on true false false = small
    on false gone waiting = omega arith

pub resumed-idle : (version : ℕ) (words : List ℕ) (t : Task) → is_guest_id t.id ≡ false → resumed_regs version words t ≡ no_regs
resumed-idle version words t none = ap (λ b. cond b (guest_regs version words t) no_regs) none
