use Rattle.std.proofs.Common.{◌≡◌, ℕ, Option, Some, None, Result, Ok, Err, refl, sym, ap, ◌∙◌, subst}
use Rattle.std.specs.Option.{ok_or}
use Rattle.std.proofs.lemmas.Result.{err_from_is_err_and}
use Rattle.kernel_lists.specs.declared.getvec_chain.pieces.Block.{Block}
use Rattle.kernel_calls.proofs.CallAnswers.FoundTask.{reads}
use Rattle.kernel_calls.specs.BlockCalls.Freevec.{IsUsersBlock, is_user}
use Rattle.kernel_calls.proofs.BlockCalls.BlockUses.{no-block, not-users, other-block, users-here}
use Rattle.kernel_calls.proofs.block_calls.uses.users_block.Goals as goal

-- the block that the `?` lets through, and that there is none where it hands on the code
found : (o : Option Block) (b : Block) (e : ℕ) → Ok b ≡ ok_or o e → o ≡ Some b
found None b e is = cc
found (Some a) b e is = cc

code : (o : Option Block) (e : ℕ) → ◌≡◌ {A = Result Block ℕ} (Err e) (ok_or o 6) → e ≡ 6
code None e is = cc
code (Some b) e is = cc

pub block_of-requires : goal.block_of-requires
block_of-requires c = (reads c.args.store.now c.requires.0 c.requires.1).tiled

pub returns-in_err-block : goal.returns-in_err-block
returns-in_err-block c = λ l h.
    let p = err_from_is_err_and c.from_residual.result c.from_residual.ensures.1 in
    subst (IsUsersBlock l c.args.v) (sym p.1)
    (no-block c.args.store.now l c.args.v h c.block_of.result c.block_of.ensures c.in_err-block.ensures.ok_part, p.2 ∙ code c.block_of.result c.in_err-block.field-0.0 c.in_err-block.ensures.value)

pub returns-then-not-is_used_at : goal.returns-then-not-is_used_at
returns-then-not-is_used_at c = λ l h. (
  other-block c.args.store.now l c.args.v h c.block_of.result c.in_ok-block.block c.block_of.ensures (found c.block_of.result c.in_ok-block.block _ c.in_ok-block.ensures.value)
      (sym c.is_used_at.ensures ∙ c.if-not-is_used_at.true),
  refl,
)

pub returns-then-not-is_user : goal.returns-then-not-is_user
returns-then-not-is_user c = λ l h. (
  not-users c.args.store.now l c.args.v h (ap is_user (sym (c.use_of_data.ensures l h)) ∙ sym c.is_user.ensures ∙ c.if-not-is_user.true),
  refl,
)

pub returns : goal.returns
returns c = λ l h.
    users-here c.args.store.now l c.args.v h c.block_of.result c.in_ok-block.block c.block_of.ensures (found c.block_of.result c.in_ok-block.block _ c.in_ok-block.ensures.value)
    (sym c.is_used_at.ensures ∙ c.if-not-is_used_at.false) (ap is_user (sym (c.use_of_data.ensures l h)) ∙ sym c.is_user.ensures ∙ c.if-not-is_user.false)
