-- The active coroutines after each call.
use Rattle.std.proofs.Common.{◌≡◌, ◌≢◌, inl, inr, ℕ, ◌+◌, List, [], ◌∷◌, drop, get_or, set, eqb, cond, true, false, refl, sym, ap, ◌∙◌, subst, arith}
use Rattle.std.specs.List.{AllByRecursion}
use Rattle.std.proofs.lemmas.Bool.{cases_eq}
use Rattle.std.proofs.lemmas.Bool.Decides.{nat_tests}
use Rattle.word_store.specs.declared.registers.Regs.{Regs}
use Rattle.word_store.specs.Count.{IsApart}
use Rattle.kernel_lists.specs.LinkedList.Places.{has}
use Rattle.word_store.proofs.Counts.{IsApart-cons, hit-same}
use Rattle.kernel_lists.proofs.LinkedList.Members.{has-none, has-not, none-times, not-has}
use Rattle.kernel_lists.specs.TaskBlock.Lists.{coroutines_in}
use Rattle.kernel_lists.specs.Coroutines.Active.{LeadsOut, active_in}
use Rattle.kernel_lists.specs.Coroutines.Coroutines.{HasCoroutines}
use Rattle.kernel_lists.specs.Coroutines.CoroutineWords.{as_current, as_parent, current_in, parent_in}
use Rattle.kernel_lists.specs.Coroutines.Refusals.{has_parent, is_known}
use Rattle.kernel_lists.specs.Coroutines.Switch.{called, replaced, switched, waited}
use Rattle.kernel_lists.proofs.Coroutines.KnownCoroutines.{IsCurrent, current, known-node, no_parent-word, task-apart}
use Rattle.kernel_lists.proofs.Coroutines.CoroutineLists.{Built}
use Rattle.kernel_lists.proofs.Coroutines.CallFrame.{IsCall, again}
use Rattle.kernel_lists.proofs.Coroutines.OutwardLists.{LeadsOut-same}
use Rattle.kernel_lists.proofs.Coroutines.Switches.{call-parent, other-parent, own-parent, still-current, switched-call, switched-current, switched-parent}

-- the parents of members other than one
parents-same : (s v : List ℕ) (t c : ℕ) → ((k : ℕ) → is_known s t k ≡ true → k ≢ c → get_or v (k + 1) 0 ≡ get_or s (k + 1) 0)
    → (cs : List ℕ) → AllByRecursion (λ k. has k (coroutines_in s t) ≡ true) cs → has c cs ≡ false → AllByRecursion (λ k. get_or v (k + 1) 0 ≡ get_or s (k + 1) 0) cs
parents-same s v t c same [] members none = tt
parents-same s v t c same (k ∷ ks) members none =
    let h = has-not c k ks none in
    (same k members.0 (λ e. h.0 (sym e)), parents-same s v t c same ks members.1 h.1)

-- c was called
pub call-again : (s : List ℕ) (t : ℕ) (regs : Regs) (c : ℕ) → HasCoroutines s t → is_known s t c ≡ true → has_parent s t c ≡ false → Built (called s t regs c) t (coroutines_in s t) (c ∷ active_in s t)
call-again s t regs c h known idle =
    let w : List ℕ = switched s t regs.p regs.pc c in
    let v : List ℕ = called s t regs c in
    let call : IsCall s w t = switched-call s t regs.p regs.pc c h in
    let parents : (k : ℕ) → is_known s t k ≡ true → k ≢ c → get_or v (k + 1) 0 ≡ get_or s (k + 1) 0 = λ k other differ.
    other-parent s w t c k (as_parent t (current_in s t)) h known other differ ∙ switched-parent s t regs.p regs.pc c k h other
    in
    let own : get_or v (c + 1) 0 ≡ as_parent t (current_in s t) = own-parent s w t c (as_parent t (current_in s t)) h call known in
    let here : get_or v (t + 18) 0 ≡ c = still-current s w t c (as_parent t (current_in s t)) c h known (switched-current s t regs.p regs.pc c h) in
    again s v t (c ∷ active_in s t) h (call-parent s w t c (as_parent t (current_in s t)) call known)
    (here, outer (active_in s t) h.active h.members idle own parents)
    (known, h.members)
    (IsApart-cons c (active_in s t) (none-times c (active_in s t) idle) h.distinct)
    (λ k other none.
    let apart = has-not k c (active_in s t) none in
    parents k other apart.0 ∙ no_parent-word s t k h other apart.1)
  where
    outer : (cs : List ℕ) → LeadsOut s t 0 (t + 18) cs → AllByRecursion (λ k. has k (coroutines_in s t) ≡ true) cs → has c cs ≡ false
        → get_or (called s t regs c) (c + 1) 0 ≡ as_parent t (current_in s t)
        → ((k : ℕ) → is_known s t k ≡ true → k ≢ c → get_or (called s t regs c) (k + 1) 0 ≡ get_or s (k + 1) 0)
        → LeadsOut (called s t regs c) t t (c + 1) cs
    outer [] out members none own parents =
        let root : current_in s t ≡ 0 = out in
        let test : eqb (current_in s t) 0 ≡ true = grind (arith, nat_tests) in
        own ∙ ap (λ b. cond b t (current_in s t)) test
    outer (k ∷ ks) out members none own parents =
        let ne : current_in s t ≢ 0 = λ e. absurd (omega (arith, sym out.0 ∙ e, (known-node s t k h members.0).some)) in
        let test : eqb (current_in s t) 0 ≡ false = grind (arith, nat_tests) in (
          own ∙ ap (λ b. cond b t (current_in s t)) test ∙ out.0,
          LeadsOut-same s (called s t regs c) t t (k + 1) ks out.1 (parents k members.0 (λ e. (has-not c k ks none).0 (sym e)))
              (parents-same s (called s t regs c) t c parents ks members.1 (has-not c k ks none).1),
        )

tail-apart : (c : ℕ) (ks : List ℕ) → IsApart (c ∷ ks) → IsApart ks × (has c ks ≡ false)
tail-apart c ks apart = ((λ a. omega (arith, apart a)), has-none c ks (omega (arith, apart c, hit-same c c refl)))

as_current-root : (t p : ℕ) → p ≡ t → as_current t p ≡ 0
as_current-root t p e = (let test : eqb p t ≡ true = grind (arith, nat_tests) in ap (λ b. cond b 0 p) test)

as_current-inner : (t p : ℕ) → p ≢ t → as_current t p ≡ p
as_current-inner t p ne = (let test : eqb p t ≡ false = grind (arith, nat_tests) in ap (λ b. cond b 0 p) test)

-- what holds of the current coroutine where it is not the root
record Inner (s : List ℕ) (t : ℕ) : Type 0 where
  pub is : IsCurrent s t
  pub members : AllByRecursion (λ k. has k (coroutines_in s t) ≡ true) is.others
  pub distinct : IsApart is.others
  pub gone : has (current_in s t) is.others ≡ false

inner : (s : List ℕ) (t : ℕ) → HasCoroutines s t → current_in s t ≢ 0 → Inner s t
inner s t h within =
    let i : IsCurrent s t = current s t h within in
    let members : AllByRecursion (λ k. has k (coroutines_in s t) ≡ true) (current_in s t ∷ i.others) = subst (AllByRecursion (λ k. has k (coroutines_in s t) ≡ true)) i.active h.members in
    let apart = tail-apart (current_in s t) i.others (subst IsApart i.active h.distinct) in
    record { is = i; members = members.1; distinct = apart.0; gone = apart.1 }

-- the current one waited
pub wait-again : (s : List ℕ) (t p pc : ℕ) → HasCoroutines s t → current_in s t ≢ 0 → Built (waited s t p pc) t (coroutines_in s t) (drop 1 (active_in s t))
wait-again s t p pc h within =
    let i : Inner s t = inner s t h within in
    let at : ℕ = current_in s t in
    let next : ℕ = as_current t (parent_in s at) in
    let w : List ℕ = switched s t p pc next in
    let v : List ℕ = waited s t p pc in
    let call : IsCall s w t = switched-call s t p pc next h in
    let parents : (k : ℕ) → is_known s t k ≡ true → k ≢ at → get_or v (k + 1) 0 ≡ get_or s (k + 1) 0 = λ k other differ.
    other-parent s w t at k 0 h i.is.known other differ ∙ switched-parent s t p pc next k h other
    in
    let own : get_or v (at + 1) 0 ≡ 0 = own-parent s w t at 0 h call i.is.known in
    let here : get_or v (t + 18) 0 ≡ next = still-current s w t at 0 next h i.is.known (switched-current s t p pc next h) in
    subst (λ z. Built v t (coroutines_in s t) (drop 1 z)) (sym i.is.active) (
    again s v t i.is.others h (call-parent s w t at 0 call i.is.known)
    (outer i.is.others i.is.out i.members i.gone here parents)
    i.members i.distinct
    (λ k other none.
    elim (cases_eq k at) [
      | inl e ↦ ap (λ z. get_or v (z + 1) 0) e ∙ own
      | inr ne ↦ parents k other ne ∙ no_parent-word s t k h other (ap (has k) i.is.active ∙ not-has k at i.is.others ne none)
    ]))
  where
    outer : (cs : List ℕ) → LeadsOut s t t (current_in s t + 1) cs → AllByRecursion (λ k. has k (coroutines_in s t) ≡ true) cs → has (current_in s t) cs ≡ false
        → get_or (waited s t p pc) (t + 18) 0 ≡ as_current t (parent_in s (current_in s t))
        → ((k : ℕ) → is_known s t k ≡ true → k ≢ current_in s t → get_or (waited s t p pc) (k + 1) 0 ≡ get_or s (k + 1) 0)
        → LeadsOut (waited s t p pc) t 0 (t + 18) cs
    outer [] out members none here parents = here ∙ as_current-root t (parent_in s (current_in s t)) out
    outer (k ∷ ks) out members none here parents =
        let ne : parent_in s (current_in s t) ≢ t = λ e. task-apart s t k 0 0 h members.0 (omega arith) (omega arith) (omega (arith, sym e ∙ out.0)) in (
          here ∙ as_current-inner t (parent_in s (current_in s t)) ne ∙ out.0,
          LeadsOut-same s (waited s t p pc) t t (k + 1) ks out.1 (parents k members.0 (λ e. (has-not (current_in s t) k ks none).0 (sym e)))
              (parents-same s (waited s t p pc) t (current_in s t) parents ks members.1 (has-not (current_in s t) k ks none).1),
        )

parents-same-both : (s v : List ℕ) (t c d : ℕ) → ((k : ℕ) → is_known s t k ≡ true → k ≢ c → k ≢ d → get_or v (k + 1) 0 ≡ get_or s (k + 1) 0)
    → (cs : List ℕ) → AllByRecursion (λ k. has k (coroutines_in s t) ≡ true) cs → has c cs ≡ false → has d cs ≡ false → AllByRecursion (λ k. get_or v (k + 1) 0 ≡ get_or s (k + 1) 0) cs
parents-same-both s v t c d same [] members none gone = tt
parents-same-both s v t c d same (k ∷ ks) members none gone =
    let h = has-not c k ks none in
    let g = has-not d k ks gone in
    (same k members.0 (λ e. h.0 (sym e)) (λ e. g.0 (sym e)), parents-same-both s v t c d same ks members.1 h.1 g.1)

-- c took the current one's place
pub replace-again : (s : List ℕ) (t : ℕ) (regs : Regs) (c : ℕ) → HasCoroutines s t → current_in s t ≢ 0 → is_known s t c ≡ true → has_parent s t c ≡ false
    → Built (replaced s t regs c) t (coroutines_in s t) (c ∷ drop 1 (active_in s t))
replace-again s t regs c h within known idle =
    let i : Inner s t = inner s t h within in
    let at : ℕ = current_in s t in
    let parent : ℕ = parent_in s at in
    let w : List ℕ = switched s t regs.p regs.pc c in
    let x : List ℕ = set w (c + 1) parent in
    let v : List ℕ = replaced s t regs c in
    let call : IsCall s w t = switched-call s t regs.p regs.pc c h in
    let call' : IsCall s x t = call-parent s w t c parent call known in
    let out_of : (c ≢ at) × (has c i.is.others ≡ false) = has-not c at i.is.others (sym (ap (has c) i.is.active) ∙ idle) in
    let parents : (k : ℕ) → is_known s t k ≡ true → k ≢ c → k ≢ at → get_or v (k + 1) 0 ≡ get_or s (k + 1) 0 = λ k other no_c no_at.
    other-parent s x t at k 0 h i.is.known other no_at ∙ other-parent s w t c k parent h known other no_c ∙ switched-parent s t regs.p regs.pc c k h other
    in
    let gone : get_or v (at + 1) 0 ≡ 0 = own-parent s x t at 0 h call' i.is.known in
    let own : get_or v (c + 1) 0 ≡ parent = other-parent s x t at c 0 h i.is.known known out_of.0 ∙ own-parent s w t c parent h call known in
    let here : get_or v (t + 18) 0 ≡ c = still-current s x t at 0 c h i.is.known (still-current s w t c parent c h known (switched-current s t regs.p regs.pc c h)) in
    subst (λ z. Built v t (coroutines_in s t) (c ∷ drop 1 z)) (sym i.is.active) (
    again s v t (c ∷ i.is.others) h (call-parent s x t at 0 call' i.is.known)
    (here, outer i.is.others i.is.out i.members out_of.1 i.gone own parents)
    (known, i.members)
    (IsApart-cons c i.is.others (none-times c i.is.others out_of.1) i.distinct)
    (λ k other none.
    let apart = has-not k c i.is.others none in
    elim (cases_eq k at) [
      | inl e ↦ ap (λ z. get_or v (z + 1) 0) e ∙ gone
      | inr ne ↦ parents k other apart.0 ne ∙ no_parent-word s t k h other (ap (has k) i.is.active ∙ not-has k at i.is.others ne apart.1)
    ]))
  where
    outer : (cs : List ℕ) → LeadsOut s t t (current_in s t + 1) cs → AllByRecursion (λ k. has k (coroutines_in s t) ≡ true) cs → has c cs ≡ false → has (current_in s t) cs ≡ false
        → get_or (replaced s t regs c) (c + 1) 0 ≡ parent_in s (current_in s t)
        → ((k : ℕ) → is_known s t k ≡ true → k ≢ c → k ≢ current_in s t → get_or (replaced s t regs c) (k + 1) 0 ≡ get_or s (k + 1) 0)
        → LeadsOut (replaced s t regs c) t t (c + 1) cs
    outer [] out members none gone own parents = own ∙ out
    outer (k ∷ ks) out members none gone own parents = (
      own ∙ out.0,
      LeadsOut-same s (replaced s t regs c) t t (k + 1) ks out.1 (parents k members.0 (λ e. (has-not c k ks none).0 (sym e)) (λ e. (has-not (current_in s t) k ks gone).0 (sym e)))
          (parents-same-both s (replaced s t regs c) t c (current_in s t) parents ks members.1 (has-not c k ks none).1 (has-not (current_in s t) k ks gone).1),
    )
