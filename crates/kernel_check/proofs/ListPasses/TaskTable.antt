-- The table of tasks.
use Rattle.std.proofs.Common.{◌≡◌, ◌≢◌, ◌↔◌, ℕ, zero, suc, ◌+◌, ◌<◌, List, [], ◌∷◌, cond, eqb, get_or, map, refl, sym, ap, ◌∙◌, subst, arith}
use Rattle.std.proofs.lemmas.Bool.{eq-eqb, ne_eqb}
use Rattle.kernel_lists.specs.OwnedWords.Owned.{Holds}
use Rattle.kernel_lists.specs.TaskBlock.ChainWords.{entries}
use Rattle.kernel_lists.specs.TaskBlock.HeldTasks.{address_with}
use Rattle.kernel_lists.specs.TaskBlock.TaskChain.{id_in, tasks_in}
use Rattle.kernel_model.specs.KernelRecord.Recovered.{lists_in, task_in}
use Rattle.kernel_model.specs.KernelRecord.Task.{task_address, task_id}
use Rattle.kernel_model.specs.KernelRecord.Versions.{highest_id_of}

-- the address of the first of these tasks with the number
abbrev pub address_in : List ℕ → List ℕ → ℕ → ℕ
address_in s ts id = address_with task_address task_id (map (task_in s) ts) id

pub of-lists : (s : List ℕ) (id : ℕ) → address_in s (tasks_in s) id ≡ address_with task_address task_id (lists_in s).tasks id
unfolding lists_in
of-lists s id = refl

-- the first one
pub found : (s ts : List ℕ) (t : ℕ) (rest : List ℕ) (id w : ℕ) → ts ≡ t ∷ rest → w ≡ id_in s t → w ≡ id → address_in s ts id ≡ t
found s ts t rest id w is read same = ap (λ z. address_in s z id) is ∙ ap (λ b. cond b t (address_in s rest id)) (eq-eqb (id_in s t) id (sym read ∙ same))

pub not-found : (s ts : List ℕ) (id : ℕ) → ts ≡ [] → address_in s ts id ≡ 0
not-found s ts id is = ap (λ z. address_in s z id) is

running-is : (s : List ℕ) → (lists_in s).running ≡ cond (eqb (get_or s 102 0) 0) 0 (id_in s (get_or s 102 0))
unfolding lists_in
running-is s = refl

pub running-none : (s : List ℕ) (w : ℕ) → w ≡ get_or s 102 0 → w ≡ 0 → 0 ≡ (lists_in s).running
running-none s w read none = sym (running-is s ∙ ap (λ b. cond b 0 (id_in s (get_or s 102 0))) (eq-eqb (get_or s 102 0) 0 (sym read ∙ none)))

pub running-some : (s : List ℕ) (w : ℕ) → w ≡ get_or s 102 0 → w ≢ 0 → id_in s w ≡ (lists_in s).running
running-some s w read some = sym (running-is s ∙ ap (λ b. cond b 0 (id_in s (get_or s 102 0))) (ne_eqb (get_or s 102 0) 0 (λ e. some (read ∙ e))) ∙ ap (id_in s) (sym read))

highest-is : (s : List ℕ) → highest_id_of (lists_in s).version ≡ cond (eqb (get_or s 111 0) 2) 63 20
unfolding lists_in
highest-is s = refl

pub highest-two : (s : List ℕ) (w : ℕ) → w ≡ get_or s 111 0 → w ≡ 2 → 63 ≡ highest_id_of (lists_in s).version
highest-two s w read two = sym (highest-is s ∙ ap (λ b. cond b 63 20) (eq-eqb (get_or s 111 0) 2 (sym read ∙ two)))

pub highest-one : (s : List ℕ) (w : ℕ) → w ≡ get_or s 111 0 → w ≢ 2 → 20 ≡ highest_id_of (lists_in s).version
highest-one s w read one = sym (highest-is s ∙ ap (λ b. cond b 63 20) (ne_eqb (get_or s 111 0) 2 (λ e. one (read ∙ e))))

abbrev LeadFrom : List ℕ → (ℕ → ℕ) → ℕ → ℕ → Type 0
LeadFrom s to i n = (k : ℕ) → k < n → get_or s (120 + (i + k)) 0 ≡ to (i + k)

-- the entries from i on are there
pub holds-entries : (s : List ℕ) (to : ℕ → ℕ) (i n : ℕ) → LeadFrom s to i n ↔ Holds s (entries to i n)
holds-entries s to i zero = (λ h. tt, λ h k low. absurd (omega (arith, low)))
holds-entries s to i (suc n) = (there (holds-entries s to (i + 1) n).0, back (holds-entries s to (i + 1) n).1)
  where
    there : (LeadFrom s to (i + 1) n → Holds s (entries to (i + 1) n)) → LeadFrom s to i (suc n) → Holds s (entries to i (suc n))
    there more h = (
      (let e : i + 0 ≡ i = omega arith in subst (λ z. get_or s (120 + z) 0 ≡ to z) e (h 0 (omega arith))),
      more (λ k low. (let e : i + suc k ≡ i + 1 + k = omega arith in subst (λ z. get_or s (120 + z) 0 ≡ to z) e (h (suc k) (omega (arith, low))))),
    )

    back : (Holds s (entries to (i + 1) n) → LeadFrom s to (i + 1) n) → Holds s (entries to i (suc n)) → LeadFrom s to i (suc n)
    back more h zero low = (let e : i ≡ i + 0 = omega arith in subst (λ z. get_or s (120 + z) 0 ≡ to z) e h.0)
    back more h (suc k) low = (let e : i + 1 + k ≡ i + suc k = omega arith in subst (λ z. get_or s (120 + z) 0 ≡ to z) e (more h.1 k (omega (arith, low))))
