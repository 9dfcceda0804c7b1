-- A task, a module, a coroutine and the residents own the first word of their block, so a block whose first data word nobody owns is a
-- user's.
use Rattle.std.proofs.Common.{◌≡◌, ℕ, ◌+◌, ◌<◌, List, [], ◌∷◌, map, cond, length, eqb, ◌&&◌, ◌||◌, Bool, true, false, Option, Some, inl, inr, refl, sym, ap, ◌∙◌, subst, arith}
use Rattle.std.specs.Prelude.{unwrap_or}
use Rattle.std.specs.List.{AllByRecursion, flat_map, range_with_len}
use Rattle.std.proofs.lemmas.Bool.{and_parts, eqb-true, or_cases}
use Rattle.std.proofs.lemmas.List.Folds.{list_any-append}
use Rattle.word_store.specs.Count.{times}
use Rattle.kernel_lists.specs.LinkedList.Places.{has}
use Rattle.word_store.proofs.Counts.{hit-same, times-within}
use Rattle.kernel_lists.proofs.LinkedList.Members.{has-here, has-there}
use Rattle.kernel_lists.specs.OwnedWords.LinkedWords.{first_of, linked_words}
use Rattle.kernel_lists.specs.OwnedWords.Owned.{Pairs, owners, row_from}
use Rattle.kernel_lists.proofs.OwnedWords.OwnedWords.{owners-append}
use Rattle.kernel_lists.specs.HunkLoader.HeldModules.{module_address, module_words}
use Rattle.kernel_lists.specs.Coroutines.HeldCoroutines.{Coroutine, address_of, coroutine_words}
use Rattle.kernel_model.specs.KernelRecord.BlockUse.{coroutine_addresses, use_of_data}
use Rattle.kernel_model.specs.declared.kernel_record.uses.Use.TheVariants.{OfCoroutine, OfModule, OfResidents, OfTask, User}
use Rattle.kernel_model.specs.KernelRecord.Lists.{Lists, has_task}
use Rattle.kernel_model.specs.KernelRecord.Owned.{owned}
use Rattle.kernel_model.specs.KernelRecord.Task.{Task, is_guest_id, other_words, task_address, task_words}
use Rattle.kernel_model.specs.KernelRecord.ValidLists.{AreValid}
use Rattle.kernel_model.specs.KernelRecord.ValidTasks.{IsTask, resident_place}
use Rattle.kernel_model.proofs.KernelRecord.RootCounts.{owners-nodes}
use Rattle.kernel_model.proofs.KernelRecord.TaskCounts.{owners-coroutine}
use Rattle.kernel_model.proofs.KernelRecord.TaskKind.{frames_of, owners-whole}

-- a member of linked things, of which each owns its own address
owners-member : {X : Type 0} (v : ℕ) (address : X → ℕ) (words : X → ℕ → Pairs) → ((x : X) (n : ℕ) → 0 < owners (address x) (words x n)) → (xs : List X) (end : ℕ) → has v (map address xs) ≡ true
    → 0 < owners v (linked_words address words xs end)
owners-member v address words own [] end some = cc
owners-member v address words own (x ∷ xs) end some = on (eqb v (address x)) refl some (owners-member v address words own xs end)
  where
    join : owners v (linked_words address words (x ∷ xs) end) ≡ owners v (words x (first_of address xs end)) + owners v (linked_words address words xs end)
    join = owners-append v (words x (first_of address xs end)) (linked_words address words xs end)

    on : (b : Bool) → eqb v (address x) ≡ b → (b || has v (map address xs)) ≡ true → (has v (map address xs) ≡ true → 0 < owners v (linked_words address words xs end))
        → 0 < owners v (linked_words address words (x ∷ xs) end)
    on true e some more = omega (arith, join, subst (λ a. 0 < owners a (words x (first_of address xs end))) (sym (eqb-true v (address x) e)) (own x (first_of address xs end)))
    on false e some more = omega (arith, join, more some)

-- who has its link first owns it, and so does a coroutine
head-owned : (a w : ℕ) (es : Pairs) → 0 < owners a ((a, w) ∷ es)
head-owned a w es = omega (arith, hit-same a a refl)

coroutine-first : (t : ℕ) (act : List ℕ) (c : Coroutine) (n : ℕ) → 0 < owners c.address (coroutine_words t act c n)
coroutine-first t act c n = omega (arith, owners-coroutine c.address t act c n, times-within c.address c.address 10 (omega arith) (omega arith))

-- where a coroutine of a task begins
frame-owned : (v version : ℕ) (t : Task) (n : ℕ) → has v (coroutine_addresses t) ≡ true → 0 < owners v (task_words version t n)
frame-owned v version t n some =
    plain (owners v (task_words version t n)) (times v (range_with_len t.address 23)) _ _ (owners v (frames_of t)) (owners-whole v version t n)
    (owners-member v address_of (coroutine_words t.address t.coroutines.active) (coroutine-first t.address t.coroutines.active) t.coroutines.list 0 some)
  where
    plain : (w h f q c : ℕ) → w ≡ h + (f + (q + c)) → 0 < c → 0 < w
    plain w h f q c e some = omega arith

frames-owned : (v version : ℕ) (ts : List Task) (end : ℕ) → has v (flat_map coroutine_addresses ts) ≡ true → 0 < owners v (linked_words task_address (task_words version) ts end)
frames-owned v version [] end some = cc
frames-owned v version (t ∷ ts) end some =
    elim (or_cases (has v (coroutine_addresses t)) (has v (flat_map coroutine_addresses ts)) (sym (list_any-append (λ q. eqb v q) (coroutine_addresses t) (flat_map coroutine_addresses ts)) ∙ some)) [
      | inl here ↦ left (owners v (task_words version t n)) (owners v rest) _ join (frame-owned v version t n here)
      | inr later ↦ right (owners v (task_words version t n)) (owners v rest) _ join (frames-owned v version ts end later)
    ]
  where
    n : ℕ
    n = first_of task_address ts end

    rest : Pairs
    rest = linked_words task_address (task_words version) ts end

    join : owners v (linked_words task_address (task_words version) (t ∷ ts) end) ≡ owners v (task_words version t n) + owners v rest
    join = owners-append v (task_words version t n) rest

    left : (x y w : ℕ) → w ≡ x + y → 0 < x → 0 < w
    left x y w e some = omega arith

    right : (x y w : ℕ) → w ≡ x + y → 0 < y → 0 < w
    right x y w e some = omega arith

-- the shell is at the front of the resident block
shell-there : (l : Lists) (ts : List Task) → AllByRecursion (IsTask l) ts → has_task 1 ts ≡ true → has 201 (map task_address ts) ≡ true
shell-there l [] all some = cc
shell-there l (t ∷ ts) all some = on (eqb t.id 1) refl some (shell-there l ts all.1)
  where
    address : (p : ℕ) → ◌≡◌ {A = Option (ℕ × ℕ)} (Some (201, p)) (Some (t.address, t.priority)) → 201 ≡ t.address
    address p e = ap (λ (o : Option (ℕ × ℕ)). (unwrap_or o (0, 0)).0) e

    on : (b : Bool) → eqb t.id 1 ≡ b → (b || has_task 1 ts) ≡ true → (has_task 1 ts ≡ true → has 201 (map task_address ts) ≡ true) → has 201 (map task_address (t ∷ ts)) ≡ true
    on true e some more =
        let same : t.id ≡ 1 = eqb-true t.id 1 e in
        let place : resident_place 1 ≡ Some (t.address, t.priority) = ap resident_place (sym same) ∙ (all.0.resident (ap is_guest_id same)).place in
        subst (λ a. has a (t.address ∷ map task_address ts) ≡ true) (sym (address 1000 place)) (has-here t.address (map task_address ts))
    on false e some more = has-there 201 t.address (map task_address ts) (more some)

-- ---- the law

pub unowned-user : (l : Lists) (v : ℕ) → AreValid l → owners v (owned l) ≡ 0 → use_of_data l v ≡ User
unowned-user l v valid none =
    on (l.residents && eqb v 201) refl (has v (map task_address l.tasks)) refl (has v (map module_address l.modules)) refl (has v (flat_map coroutine_addresses l.tasks)) refl
  where
    tasks : ℕ
    tasks = owners v (linked_words task_address (task_words l.version) l.tasks 0)

    modules : ℕ
    modules = owners v (linked_words module_address module_words l.modules 0)

    nobody : 0 < tasks + modules → ⊥
    nobody some = plain _ _ _ _ _ _ _ _ _ _ (owners-nodes v l) none some
      where
        plain : (w r e b t m c k o s : ℕ) → w ≡ r + (e + (b + (t + (m + (c + (k + (o + s))))))) → w ≡ 0 → 0 < t + m → ⊥
        plain w r e b t m c k o s is z some = omega arith

    no_task : 0 < tasks → ⊥
    no_task some = nobody (omega (arith, some))

    task-there : has v (map task_address l.tasks) ≡ true → ⊥
    task-there some = no_task (owners-member v task_address (task_words l.version) (λ t n. head-owned t.address n (other_words l.version t)) l.tasks 0 some)

    on : (r : Bool) → (l.residents && eqb v 201) ≡ r → (t : Bool) → has v (map task_address l.tasks) ≡ t → (m : Bool) → has v (map module_address l.modules) ≡ m → (c : Bool) → has v (flat_map coroutine_addresses l.tasks) ≡ c
        → cond r OfResidents (cond t OfTask (cond m OfModule (cond c OfCoroutine User))) ≡ User
    on true e t f m g c h =
        let both = and_parts l.residents (eqb v 201) e in
        absurd (task-there (ap (λ a. has a (map task_address l.tasks)) (eqb-true v 201 both.1) ∙ shell-there l l.tasks valid.tasks.each (valid.tasks.shell ∙ both.0)))
    on false e true f m g c h = absurd (task-there f)
    on false e false f true g c h = absurd (nobody (omega (arith, owners-member v module_address module_words (λ m n. head-owned m.address n (row_from m.address 1 (length m.lengths ∷ m.lengths))) l.modules 0 g)))
    on false e false f false g true h = absurd (no_task (frames-owned v l.version l.tasks 0 h))
    on false e false f false g false h = refl
