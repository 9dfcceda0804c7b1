-- The number of the running task, as the root has it.
use Rattle.std.proofs.Common.{◌≡◌, ◌≢◌, ℕ, ◌<◌, ◌≤◌, List, true, false, cond, eqb, get_or, sym, ap, ◌∙◌, arith}
use Rattle.std.proofs.lemmas.Bool.{ne_eqb}
use Rattle.std.proofs.lemmas.Bool.Decides.{nat_tests}
use Rattle.kernel_model.specs.KernelRecord.HoldsLists.{HoldsLists}
use Rattle.kernel_model.specs.KernelRecord.Lists.{Lists}
use Rattle.kernel_model.specs.KernelRecord.Recovered.{lists_in, number_of}
use Rattle.kernel_model.proofs.KernelRecord.RecoveredLists.{lists-back}
use Rattle.kernel_model.specs.KernelRecord.Task.{is_guest_id}
use Rattle.kernel_lists.specs.TaskBlock.TaskChain.{id_in}

module _ (s : List ℕ) (l : Lists) (h : HoldsLists s l) where
  running-back : number_of s (get_or s 102 0) ≡ l.running
  unfolding lists_in
  running-back = ap (λ m. m.running) (lists-back s l h.valid h.size h.holds)

  pub nobody-runs : get_or s 102 0 ≡ 0 → 0 ≡ l.running
  nobody-runs none = ap (λ t. number_of s t) (sym none) ∙ running-back

  pub somebody-runs : get_or s 102 0 ≢ 0 → id_in s (get_or s 102 0) ≡ l.running
  somebody-runs some = ap (λ b. cond b 0 (id_in s (get_or s 102 0))) (sym (eqb-no some)) ∙ running-back
    where
      eqb-no : get_or s 102 0 ≢ 0 → eqb (get_or s 102 0) 0 ≡ false
      eqb-no other = ne_eqb (get_or s 102 0) 0 other

-- a number from 5 on is a guest's
pub guest-number : (n id : ℕ) → n ≡ id → 5 ≤ n → is_guest_id id ≡ true
guest-number n id e high = grind (arith, nat_tests)

pub other-number : (n id : ℕ) → n ≡ id → n < 5 → is_guest_id id ≡ false
other-number n id e low = grind (arith, nat_tests)
