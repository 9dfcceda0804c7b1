-- The coroutines of a task, by a list of them and a list of the active ones.
use Rattle.std.proofs.Common.{◌≡◌, ◌≢◌, inl, ℕ, ◌+◌, ◌<◌, List, [], ◌∷◌, ◌++◌, length, true, false, refl, sym, ap, ◌∙◌, subst, arith}
use Rattle.std.specs.List.{AllByRecursion, range_with_len}
use Rattle.word_store.specs.Count.{IsApart, words_of}
use Rattle.kernel_lists.specs.LinkedList.Linked.{IsNode, IsListAt}
use Rattle.kernel_lists.specs.LinkedList.Places.{has}
use Rattle.kernel_lists.specs.GetvecChain.Tiling.{IsTiled}
use Rattle.kernel_lists.proofs.LinkedList.Chains.{length-apart}
use Rattle.word_store.proofs.Counts.{times-append, times-within}
use Rattle.kernel_lists.proofs.LinkedList.Members.{one-member}
use Rattle.kernel_lists.proofs.LinkedList.AllMembers.{all-has}
use Rattle.kernel_lists.specs.TaskBlock.Lists.{coroutine_link, coroutines_in}
use Rattle.kernel_lists.specs.Coroutines.Active.{LeadsOut, active_in}
use Rattle.kernel_lists.specs.Coroutines.Coroutines.{HasBlock, HasCoroutines, HasTaskBlock}
use Rattle.kernel_lists.specs.Coroutines.CoroutineWords.{coroutine_size, parent_in}
use Rattle.kernel_lists.proofs.Coroutines.OutwardLists.{IsInner, outwards-is}

-- what has to hold of a store for these coroutines, of which these are active
pub record Parts (v : List ℕ) (t : ℕ) (cs act : List ℕ) : Type 0 where
  pub tiled : IsTiled v
  pub task : HasTaskBlock v t
  pub elsewhere : has task.first cs ≡ false
  pub list : IsListAt v coroutine_link coroutine_size (t + 17) cs
  pub apart : IsApart (range_with_len t 23 ++ words_of coroutine_size cs)
  pub blocks : AllByRecursion (HasBlock v) cs
  pub out : LeadsOut v t 0 (t + 18) act
  pub members : AllByRecursion (λ c. has c cs ≡ true) act
  pub distinct : IsApart act
  pub idle : AllByRecursion (λ c. has c act ≡ false → parent_in v c ≡ 0) cs

pub record Built (v : List ℕ) (t : ℕ) (cs act : List ℕ) : Type 0 where
  pub list : coroutines_in v t ≡ cs
  pub active : active_in v t ≡ act
  pub valid : HasCoroutines v t

-- members of the list are no root and no task, and lie in the store
members-inner : (v : List ℕ) (t : ℕ) (cs : List ℕ) → AllByRecursion (IsNode v coroutine_link coroutine_size) cs → IsApart (range_with_len t 23 ++ words_of coroutine_size cs)
    → (act : List ℕ) → AllByRecursion (λ c. has c cs ≡ true) act → AllByRecursion (IsInner t) act × AllByRecursion (λ c. c < length v) act
members-inner v t cs nodes apart [] members = (tt, tt)
members-inner v t cs nodes apart (c ∷ act) members =
    let rest = members-inner v t cs nodes apart act members.1 in
    let node : IsNode v coroutine_link coroutine_size c = all-has (IsNode v coroutine_link coroutine_size) c cs nodes members.0 in
    let some : c ≢ 0 = λ e. absurd (omega (arith, e, node.some)) in
    let other : c ≢ t = λ e.
    absurd (omega (
      arith,
      apart c,
      times-append c (range_with_len t 23) (words_of coroutine_size cs),
      times-within c t 23 (omega (arith, e)) (omega (arith, e)),
      one-member coroutine_size c c cs members.0,
      times-within c c 10 (omega arith) (omega arith),
    ))
    in
    (((some, other), rest.0), (omega (arith, node.inside), rest.1))

pub built : (v : List ℕ) (t : ℕ) (cs act : List ℕ) → Parts v t cs act → Built v t cs act
built v t cs act p =
    let nodes : AllByRecursion (IsNode v coroutine_link coroutine_size) cs = subst (AllByRecursion (IsNode v coroutine_link coroutine_size)) p.list.list p.list.valid.nodes in
    let inner = members-inner v t cs nodes p.apart act p.members in
    let active : active_in v t ≡ act = outwards-is (length v) v t 0 (t + 18) act p.out (inl refl) inner.0 (length-apart (length v) act p.distinct inner.1) in
    record {
      list = p.list.list;
      active = active;
      valid =
          record {
            tiled = p.tiled;
            task = p.task;
            elsewhere = ap (has p.task.first) p.list.list ∙ p.elsewhere;
            list = p.list.valid;
            apart = subst (λ z. IsApart (range_with_len t 23 ++ words_of coroutine_size z)) (sym p.list.list) p.apart;
            blocks = subst (AllByRecursion (HasBlock v)) (sym p.list.list) p.blocks;
            active = subst (LeadsOut v t 0 (t + 18)) (sym active) p.out;
            members = subst (AllByRecursion (λ c. has c (coroutines_in v t) ≡ true)) (sym active) (subst (λ z. AllByRecursion (λ c. has c z ≡ true) act) (sym p.list.list) p.members);
            distinct = subst IsApart (sym active) p.distinct;
            idle = subst (λ z. AllByRecursion (λ c. has c (active_in v t) ≡ false → parent_in v c ≡ 0) z) (sym p.list.list)
                (subst (λ z. AllByRecursion (λ c. has c z ≡ false → parent_in v c ≡ 0) cs) (sym active) p.idle);
          };
    }
