-- What stays of tasks where one goes out, one comes in, or one changes.
use Rattle.std.proofs.Common.{◌≡◌, ℕ, List, [], ◌∷◌, ◌++◌, map, cond, eqb, ◌||◌, Bool, true, false, refl, sym, ap}
use Rattle.std.specs.List.{AllByRecursion, flat_map, list_any}
use Rattle.kernel_lists.specs.LinkedList.Places.{insert_after, without_first}
use Rattle.kernel_model.specs.KernelRecord.Changes.{change_of, work_of}
use Rattle.kernel_model.specs.KernelRecord.Task.{Task}

-- ---- one goes out

module _ (f : Task → Bool) where
  pub all-without : (P : Task → Type 0) (ts : List Task) → AllByRecursion P ts → AllByRecursion P (without_first f ts)
  all-without P [] all = tt
  all-without P (t ∷ ts) all = on (f t) (all-without P ts all.1)
    where
      on : (b : Bool) → AllByRecursion P (without_first f ts) → AllByRecursion P (cond b ts (t ∷ without_first f ts))
      on true more = all.1
      on false more = (all.0, more)

  -- one of which the test does not hold
  pub any-without : (g : Task → Bool) → ((t : Task) → f t ≡ true → g t ≡ false) → (ts : List Task) → list_any g (without_first f ts) ≡ list_any g ts
  any-without g other [] = refl
  any-without g other (t ∷ ts) = on (f t) refl (any-without g other ts)
    where
      on : (b : Bool) → f t ≡ b → list_any g (without_first f ts) ≡ list_any g ts → list_any g (cond b ts (t ∷ without_first f ts)) ≡ (g t || list_any g ts)
      on true e more = sym (ap (λ b. b || list_any g ts) (other t e))
      on false e more = ap (λ b. g t || b) more

  pub work-without : (id : ℕ) → ((t : Task) → f t ≡ true → eqb t.id id ≡ false) → (ts : List Task) → work_of id (without_first f ts) ≡ work_of id ts
  work-without id other [] = refl
  work-without id other (t ∷ ts) = on (f t) refl (work-without id other ts)
    where
      on : (b : Bool) → f t ≡ b → work_of id (without_first f ts) ≡ work_of id ts → work_of id (cond b ts (t ∷ without_first f ts)) ≡ cond (eqb t.id id) t.queue (work_of id ts)
      on true e more = sym (ap (λ b. cond b t.queue (work_of id ts)) (other t e))
      on false e more = ap (cond (eqb t.id id) t.queue) more

-- ---- one comes in

module _ (f : Task → Bool) (t : Task) where
  pub any-inserted : (g : Task → Bool) → g t ≡ false → (ts : List Task) → list_any g (insert_after f t ts) ≡ list_any g ts
  any-inserted g other [] = ap (λ b. b || false) other
  any-inserted g other (u ∷ us) = on (list_any f (u ∷ us)) (any-inserted g other us)
    where
      on : (b : Bool) → list_any g (insert_after f t us) ≡ list_any g us → list_any g (cond b (u ∷ insert_after f t us) (t ∷ u ∷ us)) ≡ (g u || list_any g us)
      on true more = ap (λ b. g u || b) more
      on false more = ap (λ b. b || (g u || list_any g us)) other

  pub work-inserted : (id : ℕ) → eqb t.id id ≡ false → (ts : List Task) → work_of id (insert_after f t ts) ≡ work_of id ts
  work-inserted id other [] = ap (λ b. cond b t.queue []) other
  work-inserted id other (u ∷ us) = on (list_any f (u ∷ us)) (work-inserted id other us)
    where
      on : (b : Bool) → work_of id (insert_after f t us) ≡ work_of id us → work_of id (cond b (u ∷ insert_after f t us) (t ∷ u ∷ us)) ≡ cond (eqb u.id id) u.queue (work_of id us)
      on true more = ap (cond (eqb u.id id) u.queue) more
      on false more = ap (λ b. cond b t.queue (work_of id (u ∷ us))) other

  -- without packets
  pub queues-inserted : t.queue ≡ [] → (ts : List Task) → flat_map (λ u. u.queue) (insert_after f t ts) ≡ flat_map (λ u. u.queue) ts
  queues-inserted none [] = ap (λ ps. ps ++ []) none
  queues-inserted none (u ∷ us) = on (list_any f (u ∷ us)) (queues-inserted none us)
    where
      on : (b : Bool) → flat_map (λ v. v.queue) (insert_after f t us) ≡ flat_map (λ v. v.queue) us → flat_map (λ v. v.queue) (cond b (u ∷ insert_after f t us) (t ∷ u ∷ us)) ≡ u.queue ++ flat_map (λ v. v.queue) us
      on true more = ap (λ ps. u.queue ++ ps) more
      on false more = ap (λ ps. ps ++ (u.queue ++ flat_map (λ v. v.queue) us)) none

-- ---- one changes

module _ (n : ℕ) (f : Task → Task) where
  pub any-changed : (g : Task → Bool) → ((t : Task) → g (f t) ≡ g t) → (ts : List Task) → list_any g (map (change_of n f) ts) ≡ list_any g ts
  any-changed g same [] = refl
  any-changed g same (t ∷ ts) = (λ i. on (eqb t.id n) i || any-changed g same ts i)
    where
      on : (b : Bool) → g (cond b (f t) t) ≡ g t
      on true = same t
      on false = refl

  pub work-changed : ((t : Task) → ((f t).id ≡ t.id) × ((f t).queue ≡ t.queue)) → (id : ℕ) (ts : List Task) → work_of id (map (change_of n f) ts) ≡ work_of id ts
  work-changed same id [] = refl
  work-changed same id (t ∷ ts) = λ i. cond (eqb ((on (eqb t.id n)).0 i) id) ((on (eqb t.id n)).1 i) (work-changed same id ts i)
    where
      on : (b : Bool) → ((cond b (f t) t).id ≡ t.id) × ((cond b (f t) t).queue ≡ t.queue)
      on true = same t
      on false = (refl, refl)

  pub queues-changed : ((t : Task) → (f t).queue ≡ t.queue) → (ts : List Task) → flat_map (λ u. u.queue) (map (change_of n f) ts) ≡ flat_map (λ u. u.queue) ts
  queues-changed same [] = refl
  queues-changed same (t ∷ ts) = λ i. on (eqb t.id n) i ++ queues-changed same ts i
    where
      on : (b : Bool) → (cond b (f t) t).queue ≡ t.queue
      on true = same t
      on false = refl

  pub all-changed : (P : Task → Type 0) → ((t : Task) → eqb t.id n ≡ true → P t → P (f t)) → (ts : List Task) → AllByRecursion P ts → AllByRecursion P (map (change_of n f) ts)
  all-changed P each [] all = tt
  all-changed P each (t ∷ ts) all = (on (eqb t.id n) refl, all-changed P each ts all.1)
    where
      on : (b : Bool) → eqb t.id n ≡ b → P (cond b (f t) t)
      on true e = each t e all.0
      on false e = all.0
