-- The residents, as they are read off.
use Rattle.std.proofs.Common.{◌≡◌, ◌≢◌, ◌↔◌, ℕ, ◌||◌, Bool, true, List, ◌∷◌, eqb, get_or, not, refl, sym, ap, ◌∙◌, subst}
use Rattle.std.specs.List.{list_any}
use Rattle.std.proofs.lemmas.Bool.{eq-eqb, ne_eqb}
use Rattle.kernel_lists.specs.GetvecChain.Tiling.{blocks_in}
use Rattle.kernel_lists.specs.TaskBlock.TaskChain.{id_in, tasks_in}
use Rattle.kernel_model.specs.KernelRecord.Lists.{has_task}
use Rattle.kernel_model.specs.KernelRecord.Recovered.{lists_in}
use Rattle.kernel_model.specs.KernelRecord.ValidBlocks.{HasBlock, last_resident_word}
use Rattle.kernel_check.proofs.ListPasses.ClaimedWalks.{in-lists}
use Rattle.kernel_check.proofs.ListPasses.CoroutineWalks.{the-blocks}

abbrev pub has_id : List ℕ → ℕ → List ℕ → Bool
has_id s id ts = list_any (λ t. eqb (id_in s t) id) ts

pub has-id : (s : List ℕ) (id : ℕ) → has_id s id (tasks_in s) ≡ has_task id (lists_in s).tasks
has-id s id = in-lists s (λ t. eqb t.id id)

residents-is : (s : List ℕ) → (lists_in s).residents ≡ not (eqb (get_or s 112 0) 0)
unfolding lists_in
residents-is s = refl

pub residents-read : (s : List ℕ) (w : ℕ) → w ≡ get_or s 112 0 → not (eqb w 0) ≡ (lists_in s).residents
residents-read s w read = ap (λ z. not (eqb z 0)) read ∙ sym (residents-is s)

pub resident-block : (s : List ℕ) (u : ℕ) (b : Bool) → (lists_in s).residents ≡ true → u ≡ last_resident_word (lists_in s) → ((b ≡ true) ↔ HasBlock (blocks_in s) 201 u)
    → (b ≡ true) ↔ ((lists_in s).residents ≡ true → HasBlock (lists_in s).blocks 201 (last_resident_word (lists_in s)))
resident-block s u b there is answer = (
  λ t none. subst (λ bs. HasBlock bs 201 (last_resident_word (lists_in s))) (sym (the-blocks s)) (subst (HasBlock (blocks_in s) 201) is (answer.0 t)),
  λ h. answer.1 (subst (HasBlock (blocks_in s) 201) (sym is) (subst (λ bs. HasBlock bs 201 (last_resident_word (lists_in s))) (the-blocks s) (h there))),
)
