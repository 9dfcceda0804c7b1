-- Where the words of a task block and of its coroutines lie.
use Rattle.std.proofs.Common.{◌≡◌, ◌≢◌, ℕ, ◌+◌, ◌<◌, ◌≤◌, List, [], ◌∷◌, length, get_or, eqb, ◌||◌, Bool, true, false, Some, None, refl, sym, ap, ◌∙◌, subst, arith, inl, inr}
use Rattle.std.specs.List.{AllByRecursion, range_with_len}
use Rattle.std.proofs.lemmas.Bool.{cases_eq}
use Rattle.std.proofs.lemmas.Bool.Decides.{nat_tests}
use Rattle.kernel_lists.specs.declared.getvec_chain.pieces.Block.{Block}
use Rattle.kernel_lists.specs.GetvecChain.Block.{used_block}
use Rattle.word_store.specs.Count.{words_of}
use Rattle.kernel_lists.specs.LinkedList.Linked.{IsNode}
use Rattle.kernel_lists.specs.LinkedList.Places.{has}
use Rattle.kernel_lists.specs.GetvecChain.Run.{need}
use Rattle.kernel_lists.specs.GetvecChain.Tiling.{blocks_in, holding}
use Rattle.word_store.proofs.Counts.{times-append, times-within}
use Rattle.kernel_lists.proofs.LinkedList.Members.{one-member, two-members}
use Rattle.kernel_lists.proofs.LinkedList.AllMembers.{all-has}
use Rattle.kernel_lists.proofs.GetvecChain.UsedBlocks.{UsedBlock, used_at-holding, used_at-is}
use Rattle.kernel_lists.specs.TaskBlock.Lists.{coroutine_link, coroutines_in}
use Rattle.kernel_lists.specs.Coroutines.Active.{LeadsOut, active_in}
use Rattle.kernel_lists.specs.Coroutines.Coroutines.{HasBlock, HasCoroutines}
use Rattle.kernel_lists.specs.Coroutines.CoroutineWords.{coroutine_size, current_in, highest_in}
use Rattle.kernel_lists.specs.Coroutines.Refusals.{has_parent, is_known}

-- the task block lies in the store
pub task-inside : (s : List ℕ) (t : ℕ) → HasCoroutines s t → (201 ≤ t) × (t + 23 ≤ length s)
task-inside s t h =
    let u : UsedBlock s 200 h.task.first h.task.block = used_at-is s 200 (blocks_in s) h.task.first h.task.block h.tiled h.task.used in
    (omega (arith, u.start, u.low, h.task.low), omega (arith, h.task.high, u.inside))

-- a coroutine's words lie in the store
pub known-node : (s : List ℕ) (t c : ℕ) → HasCoroutines s t → is_known s t c ≡ true → IsNode s coroutine_link coroutine_size c
known-node s t c h known = all-has (IsNode s coroutine_link coroutine_size) c (coroutines_in s t) h.list.nodes known

pub known-block : (s : List ℕ) (t c : ℕ) → HasCoroutines s t → is_known s t c ≡ true → HasBlock s c
known-block s t c h known = all-has (HasBlock s) c (coroutines_in s t) h.blocks known

-- no word of the task block is one of a coroutine
pub task-apart : (s : List ℕ) (t c i j : ℕ) → HasCoroutines s t → is_known s t c ≡ true → i < 23 → j < 10 → t + i ≢ c + j
task-apart s t c i j h known few less e =
    absurd (omega (
      arith,
      h.apart (t + i),
      times-append (t + i) (range_with_len t 23) (words_of coroutine_size (coroutines_in s t)),
      times-within (t + i) t 23 (omega arith) (omega arith),
      one-member coroutine_size (t + i) c (coroutines_in s t) known,
      times-within (t + i) c 10 (omega (arith, e)) (omega (arith, e)),
    ))

-- words of two coroutines are the same only where they are one
pub known-apart : (s : List ℕ) (t c k i j : ℕ) → HasCoroutines s t → is_known s t c ≡ true → is_known s t k ≡ true → c ≢ k → i < 10 → j < 10 → c + i ≢ k + j
known-apart s t c k i j h known other differ few less e =
    absurd (omega (
      arith,
      h.apart (c + i),
      times-append (c + i) (range_with_len t 23) (words_of coroutine_size (coroutines_in s t)),
      two-members coroutine_size (c + i) c k (coroutines_in s t) known other differ,
      times-within (c + i) c 10 (omega arith) (omega arith),
      times-within (c + i) k 10 (omega (arith, e)) (omega (arith, e)),
    ))

pub known-same : (s : List ℕ) (t c k i j : ℕ) → HasCoroutines s t → is_known s t c ≡ true → is_known s t k ≡ true → i < 10 → j < 10 → i ≢ j → c + i ≢ k + j
known-same s t c k i j h known other few less differ e =
    elim (cases_eq c k) [
      | inl same ↦ absurd (differ (omega (arith, e, same)))
      | inr ne ↦ absurd (known-apart s t c k i j h known other ne few less e)
    ]

-- the words of the task block, and those of coroutines, are data of blocks
pub task-held : (s : List ℕ) (t i : ℕ) → HasCoroutines s t → i < 23 → holding (t + i) (blocks_in s) ≢ None
task-held s t i h few e =
    some-none (sym (used_at-holding s 200 (blocks_in s) h.task.first (t + i) h.task.block h.tiled h.task.used (omega (arith, h.task.low)) (omega (arith, h.task.high))) ∙ e)
  where
    some-none : {b : Block} → Some b ≡ None → ⊥
    some-none k = cc

pub known-held : (s : List ℕ) (t c i : ℕ) → HasCoroutines s t → is_known s t c ≡ true → i < 10 → holding (c + i) (blocks_in s) ≢ None
known-held s t c i h known few e =
    let b : HasBlock s c = known-block s t c h known in
    some-none (sym (used_at-holding s 200 (blocks_in s) c (c + i) (used_block b.start (need (highest_in s c))) h.tiled b.block (omega arith) (omega (arith, b.here, b.high))) ∙ e)
  where
    some-none : {b : Block} → Some b ≡ None → ⊥
    some-none k = cc

-- the current coroutine, where it is not the root, is known and active
pub record IsCurrent (s : List ℕ) (t : ℕ) : Type 0 where
  pub known : is_known s t (current_in s t) ≡ true
  pub others : List ℕ
  pub active : active_in s t ≡ current_in s t ∷ others
  pub out : LeadsOut s t t (current_in s t + 1) others

pub current : (s : List ℕ) (t : ℕ) → HasCoroutines s t → current_in s t ≢ 0 → IsCurrent s t
current s t h within = on (active_in s t) refl h.active h.members
  where
    on : (cs : List ℕ) → active_in s t ≡ cs → LeadsOut s t 0 (t + 18) cs → AllByRecursion (λ c. has c (coroutines_in s t) ≡ true) cs → IsCurrent s t
    on [] is out members = absurd (within out)
    on (c ∷ cs) is out members =
        record {
          known = subst (λ z. has z (coroutines_in s t) ≡ true) (sym out.0) members.0;
          others = cs;
          active = is ∙ ap (λ z. z ∷ cs) (sym out.0);
          out = subst (λ z. LeadsOut s t t (z + 1) cs) (sym out.0) out.1;
        }

-- a coroutine has a parent exactly where its word names one
pub parent-word : (s : List ℕ) (t c : ℕ) → HasCoroutines s t → is_known s t c ≡ true → has_parent s t c ≡ true → get_or s (c + 1) 0 ≢ 0
parent-word s t c h known some = on 0 (t + 18) (active_in s t) h.active h.members some
  where
    on : (end at : ℕ) (cs : List ℕ) → LeadsOut s t end at cs → AllByRecursion (λ c. has c (coroutines_in s t) ≡ true) cs → has c cs ≡ true → get_or s (c + 1) 0 ≢ 0
    on end at [] out members e = cc
    on end at (k ∷ ks) out members some = here (eqb c k) refl some (on t (k + 1) ks out.1 members.1)
      where
        next : (ks : List ℕ) → LeadsOut s t t (k + 1) ks → AllByRecursion (λ c. has c (coroutines_in s t) ≡ true) ks → get_or s (k + 1) 0 ≢ 0
        next [] out members e = absurd (omega (arith, out, e, (task-inside s t h).0))
        next (m ∷ ms) out members e = absurd (omega (arith, out.0, e, (known-node s t m h members.0).some))

        here : (b : Bool) → eqb c k ≡ b → (b || has c ks) ≡ true → (has c ks ≡ true → get_or s (c + 1) 0 ≢ 0) → get_or s (c + 1) 0 ≢ 0
        here true e some more = (let same : c ≡ k = grind (arith, nat_tests) in subst (λ z. get_or s (z + 1) 0 ≢ 0) (sym same) (next ks out.1 members.1))
        here false e some more = more some

pub no_parent-word : (s : List ℕ) (t c : ℕ) → HasCoroutines s t → is_known s t c ≡ true → has_parent s t c ≡ false → get_or s (c + 1) 0 ≡ 0
no_parent-word s t c h known none = all-has (λ c. has c (active_in s t) ≡ false → get_or s (c + 1) 0 ≡ 0) c (coroutines_in s t) h.idle known none
