use Rattle.std.proofs.Common.{◌≡◌, ◌∙◌, ◌+◌, ℕ, List, true, false, sym, ap, subst}
use Rattle.kernel_lists.specs.GetvecChain.Give.{given, given_store}
use Rattle.kernel_lists.specs.GetvecChain.Tiling.{IsTiled, blocks_in, used_at}
use Rattle.kernel_lists.proofs.GetvecChain.GiveAnswer.{give-ok, give-on}
use Rattle.kernel_lists.specs.LinkedList.Chain.{list_at}
use Rattle.kernel_lists.specs.LinkedList.Places.{has, without_node}
use Rattle.kernel_lists.specs.LinkedList.Walk.{CanWalk}
use Rattle.kernel_lists.proofs.LinkedList.UnlinkAnswer.{unlink-found, unlink-words}
use Rattle.kernel_lists.proofs.LinkedList.Walks.{can_walk, no_offset}
use Rattle.kernel_lists.specs.TaskBlock.Lists.{module_link, modules_in}
use Rattle.kernel_lists.specs.HunkLoader.Modules.{HasModules}
use Rattle.kernel_lists.proofs.HunkLoader.ModuleBlocks.{linked, one_word}
use Rattle.kernel_lists.proofs.HunkLoader.UnloadedModules.{modules_unloaded, out_linked}
use Rattle.kernel_lists.proofs.hunk_loader.calls.unload.Goals as goal

walk : (s : List ℕ) (head : ℕ) → HasModules s → head ≡ 104 → CanWalk s (λ q. q + 0) head
walk s head h at = subst (λ z. CanWalk s (λ q. q + 0) z) (sym at) (subst (λ f. CanWalk s f 104) (sym no_offset) (can_walk s module_link one_word 104 (linked s h)))

pub unlink-requires : goal.unlink-requires
unlink-requires c = walk c.args.store.now c.address.result c.requires c.address.ensures

pub returns-then-not-unlink-clause-not_listed : goal.returns-then-not-unlink-clause-not_listed
returns-then-not-unlink-clause-not_listed c = sym (unlink-found c.args.store.now c.unlink.new.store c.args.m false no_offset c.address.ensures c.if-not-unlink.ensures.found)

-- the module was there, and was linked out
record LinkedOut (s x : List ℕ) (m : ℕ) : Type 0 where
  pub listed : has m (modules_in s) ≡ true
  pub words : x ≡ without_node s module_link 104 m

out : (s x : List ℕ) (m head : ℕ) → head ≡ 104 → true ≡ has m (list_at s (λ q. q + 0) head) → x ≡ without_node s (λ q. q + 0) head m → LinkedOut s x m
out s x m head at found words =
    let listed : has m (modules_in s) ≡ true = sym (unlink-found s x m true no_offset at found) in
    record { listed = listed; words = unlink-words s x m true no_offset at found listed words }

pub give-requires : goal.give-requires
give-requires c =
    let o = out c.args.store.now c.unlink.new.store c.args.m c.address.result c.address.ensures c.if-not-unlink.ensures.found c.if-not-unlink.ensures.words in
    subst IsTiled (sym o.words) (out_linked c.args.store.now c.args.m c.requires o.listed).blocks.tiled

pub unwrap-requires : goal.unwrap-requires
unwrap-requires c =
    let o = out c.args.store.now c.unlink.new.store c.args.m c.address.result c.address.ensures c.if-not-unlink.ensures.found c.if-not-unlink.ensures.words in
    give-ok c.give.result _ _ c.give.ensures.not_a_block (ap (λ z. used_at c.args.m (blocks_in z)) o.words ∙ (out_linked c.args.store.now c.args.m c.requires o.listed).used)

words : (c : goal.After-unwrap) → c.give.new.store ≡ given_store (without_node c.args.store.now module_link 104 c.args.m) c.args.m
words c =
    let o = out c.args.store.now c.unlink.new.store c.args.m c.address.result c.address.ensures c.if-not-unlink.ensures.found c.if-not-unlink.ensures.words in
    give-on c.give.result c.unwrap.result _ c.unwrap.ensures c.give.ensures.words ∙ ap (λ z. given_store z c.args.m) o.words

listed : (c : goal.After-unwrap) → has c.args.m (modules_in c.args.store.now) ≡ true
listed c = sym (unlink-found c.args.store.now c.unlink.new.store c.args.m true no_offset c.address.ensures c.if-not-unlink.ensures.found)

pub returns-clause-listed : goal.returns-clause-listed
returns-clause-listed c = listed c

pub returns-clause-words : goal.returns-clause-words
returns-clause-words c = words c

pub returns-clause-without : goal.returns-clause-without
returns-clause-without c = (modules_unloaded c.args.store.now c.give.new.store c.args.m c.requires (listed c) (words c)).modules

pub returns-clause-modules : goal.returns-clause-modules
returns-clause-modules c = (modules_unloaded c.args.store.now c.give.new.store c.args.m c.requires (listed c) (words c)).valid

pub returns-clause-blocks : goal.returns-clause-blocks
returns-clause-blocks c =
    let o = out c.args.store.now c.unlink.new.store c.args.m c.address.result c.address.ensures c.if-not-unlink.ensures.found c.if-not-unlink.ensures.words in
    give-on c.give.result c.unwrap.result _ c.unwrap.ensures c.give.ensures.blocks ∙ ap (λ z. given c.args.m (blocks_in z)) o.words
    ∙ ap (given c.args.m) (out_linked c.args.store.now c.args.m c.requires o.listed).blocks.blocks
