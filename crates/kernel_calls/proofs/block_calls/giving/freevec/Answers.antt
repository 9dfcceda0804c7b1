use Rattle.std.proofs.Common.{◌≡◌, ◌∙◌, ◌+◌, ◌-◌, ◌≤◌, ℕ, List, Bool, true, false, Some, ap, arith}
use Rattle.std.proofs.lemmas.Result.{err_from_is_err_and}
use Rattle.kernel_lists.specs.declared.getvec_chain.pieces.Block.{Block}
use Rattle.kernel_lists.specs.GetvecChain.Block.{is_used_at}
use Rattle.kernel_lists.specs.GetvecChain.Give.{given_store}
use Rattle.kernel_lists.specs.GetvecChain.Tiling.{used_at}
use Rattle.kernel_lists.proofs.GetvecChain.UsedBlocks.{is_used_at-true}
use Rattle.kernel_model.specs.KernelRecord.HoldsLists.{HoldsLists}
use Rattle.kernel_model.specs.KernelRecord.Lists.{Lists}
use Rattle.word_store.proofs.Elements.{find-passes}
use Rattle.kernel_model.proofs.KernelRecord.FollowedBlocks.{found-within}
use Rattle.kernel_calls.proofs.CallAnswers.FoundTask.{reads}
use Rattle.kernel_calls.proofs.CallAnswers.MadeCalls.{handed-plain}
use Rattle.kernel_calls.specs.BlockCalls.Freevec.{freevec}
use Rattle.kernel_calls.proofs.BlockCalls.GivenBlock.{given-made, given-no_users, given-packet}
use Rattle.kernel_calls.proofs.block_calls.giving.freevec.Goals as goal

some-word : (l : Lists) (s : List ℕ) (v : ℕ) (b : Block) → HoldsLists s l → used_at v l.blocks ≡ Some b → 1 ≤ b.size
some-word l s v b h used = omega (arith, (found-within (is_used_at v) 200 l.blocks (l.size - 2) b h.valid.blocks used).some)

data-start : (l : Lists) (v : ℕ) (b : Block) → used_at v l.blocks ≡ Some b → b.start + 1 ≡ v
data-start l v b used = (is_used_at-true v b (find-passes (is_used_at v) l.blocks b used)).1

clash : (x : Bool) → x ≡ false → x ≡ true → ⊥
clash x e f = cc

pub returns-in_err-block : goal.returns-in_err-block
returns-in_err-block g c = record {
  made = λ l k.
      let p = err_from_is_err_and c.from_residual.result c.from_residual.ensures.1 in
      let none = c.in_err-block.ensures l k.lists in
      handed-plain c.args.store.now c.args.store.now (g.Q.KindKeeper.tells c.args.kinds.now) c.from_residual.result p.0 (freevec l c.args.v) p.1
      (given-no_users c.args.store.now (g.Q.KindKeeper.tells c.args.kinds.now) (g.Q.KindKeeper.room c.args.kinds.now) l c.args.v k p.0 c.if-v-eq0.false (none.0, p.2 ∙ none.1));
}

pub overflow_sub-block : goal.overflow_sub-block
overflow_sub-block g c = some-word c.requires.0 c.args.store.now c.args.v c.in_ok-block.block c.requires.1.lists (c.in_ok-block.ensures c.requires.0 c.requires.1.lists).0

pub returns-then-not-are_unowned : goal.returns-then-not-are_unowned
returns-then-not-are_unowned g c = record {
  made = λ l k.
      given-packet c.args.store.now (g.Q.KindKeeper.tells c.args.kinds.now) (g.Q.KindKeeper.room c.args.kinds.now) l c.args.v k c.in_ok-block.block (c.in_ok-block.ensures l k.lists)
      c.if-v-eq0.false (λ unowned. clash c.are_unowned.result c.if-not-are_unowned.true ((c.are_unowned.ensures l k).1 unowned));
}

pub give_block-requires : goal.give_block-requires
give_block-requires g c =
    let s = c.args.store.now in
    let l = c.requires.0 in
    let h = c.requires.1.lists in
    let used = (c.in_ok-block.ensures l h).0 in
    record {
      tiled = (reads s l h).tiled;
      used = ap (used_at (c.in_ok-block.block.start + 1)) (reads s l h).blocks ∙ ap (λ v. used_at v l.blocks) (data-start l c.args.v c.in_ok-block.block used) ∙ used;
    }

pub returns : goal.returns
returns g c = record {
  made = λ l k.
      let users = c.in_ok-block.ensures l k.lists in
      given-made c.args.store.now (g.Q.KindKeeper.tells c.args.kinds.now) (g.Q.KindKeeper.room c.args.kinds.now) l c.args.v k c.in_ok-block.block users
      c.give_block.new.store c.if-v-eq0.false ((c.are_unowned.ensures l k).0 c.if-not-are_unowned.false)
      (c.give_block.ensures.words ∙ ap (given_store c.args.store.now) (data-start l c.args.v c.in_ok-block.block users.0));
}
