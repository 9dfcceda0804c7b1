use Rattle.std.proofs.Common.{◌≡◌, ◌∙◌, ◌+◌, sym, subst, ap, refl, ℕ, List, Bool, Ok}
use Rattle.std.specs.Bool.{OnTrue}
use Rattle.kernel_lists.proofs.GetvecChain.GiveAnswer.{give-ok, give-on}
use Rattle.kernel_lists.specs.GetvecChain.Give.{given_store}
use Rattle.kernel_lists.specs.GetvecChain.Tiling.{IsTiled, blocks_in, used_at}
use Rattle.kernel_lists.proofs.LinkedList.UnlinkAnswer.{unlink-words}
use Rattle.kernel_lists.specs.LinkedList.Chain.{list_at}
use Rattle.kernel_lists.specs.LinkedList.Places.{has, without, without_node}
use Rattle.kernel_lists.specs.TaskBlock.Lists.{coroutine_link, coroutines_in}
use Rattle.kernel_lists.specs.Coroutines.Active.{active_in}
use Rattle.kernel_lists.specs.Coroutines.Creation.{deleted}
use Rattle.kernel_lists.specs.Coroutines.Refusals.{idle_answer}
use Rattle.kernel_lists.proofs.Coroutines.CoroutineLists.{Built}
use Rattle.kernel_lists.proofs.Coroutines.Deletion.{delete-blocks, delete-built, unlinked, unlinked-blocks, unlinked-used}
use Rattle.kernel_lists.proofs.Coroutines.IdleAnswer.{IsIdle, idle}
use Rattle.kernel_lists.proofs.coroutine_lists.creation.delete.Goals as goal

-- the coroutine is known and alone, and was linked out
record LinkedOut (s x : List ℕ) (t c : ℕ) : Type 0 where
  pub is_idle : IsIdle s t c
  pub words : x ≡ unlinked s t c

out : (s x : List ℕ) (t c head i : ℕ) (u : Unit) (b : Bool) → Ok u ≡ idle_answer s t c → head ≡ t + i → i ≡ 17 → b ≡ has c (list_at s coroutine_link head)
    → OnTrue b (x ≡ without_node s coroutine_link head c) → LinkedOut s x t c
out s x t c head i u b answer at here found words =
    let is_idle : IsIdle s t c = idle s t c u answer in
    record { is_idle = is_idle; words = unlink-words s x c b refl (at ∙ ap (λ z. t + z) here) found is_idle.known words }

pub give-requires : goal.give-requires
give-requires c =
    let o = out c.args.store.now _ c.args.t c.args.c _ _ _ _ c.in_ok-check_idle.ensures c.address_of-head.ensures c.index.ensures c.unlink.ensures.found c.unlink.ensures.words in
    subst IsTiled (sym o.words) (unlinked-blocks c.args.store.now c.args.t c.args.c c.requires o.is_idle.known).tiled

pub unwrap-requires : goal.unwrap-requires
unwrap-requires c =
    let o = out c.args.store.now _ c.args.t c.args.c _ _ _ _ c.in_ok-check_idle.ensures c.address_of-head.ensures c.index.ensures c.unlink.ensures.found c.unlink.ensures.words in
    give-ok c.give.result _ _ c.give.ensures.not_a_block
    (ap (λ z. used_at c.args.c (blocks_in z)) o.words ∙ unlinked-used c.args.store.now c.args.t c.args.c c.requires o.is_idle.known)

words : (c : goal.After-unwrap) → c.give.new.store ≡ deleted c.args.store.now c.args.t c.args.c
words c =
    let o = out c.args.store.now _ c.args.t c.args.c _ _ _ _ c.in_ok-check_idle.ensures c.address_of-head.ensures c.index.ensures c.unlink.ensures.found c.unlink.ensures.words in
    give-on c.give.result c.unwrap.result _ c.unwrap.ensures c.give.ensures.words ∙ ap (λ z. given_store z c.args.c) o.words

pub returns-clause-words : goal.returns-clause-words
returns-clause-words c = words c

after : (c : goal.After-unwrap) → Built c.give.new.store c.args.t (without c.args.c (coroutines_in c.args.store.now c.args.t)) (active_in c.args.store.now c.args.t)
after c =
    let i : IsIdle c.args.store.now c.args.t c.args.c = idle c.args.store.now c.args.t c.args.c _ c.in_ok-check_idle.ensures in
    subst (λ z. Built z c.args.t (without c.args.c (coroutines_in c.args.store.now c.args.t)) (active_in c.args.store.now c.args.t)) (sym (words c))
    (delete-built c.args.store.now c.args.t c.args.c c.requires i.known i.alone)

pub returns-clause-coroutines : goal.returns-clause-coroutines
returns-clause-coroutines c = (after c).list

pub returns-clause-active : goal.returns-clause-active
returns-clause-active c = (after c).active

pub returns-clause-valid : goal.returns-clause-valid
returns-clause-valid c = (after c).valid

pub returns-clause-blocks : goal.returns-clause-blocks
returns-clause-blocks c = ap blocks_in (words c) ∙ delete-blocks c.args.store.now c.args.t c.args.c c.requires (idle c.args.store.now c.args.t c.args.c _ c.in_ok-check_idle.ensures).known
