-- What `give` answers where a used block has its data there.
use Rattle.std.proofs.Common.{◌≡◌, Option, Result, Ok, Err, Some, None, refl}
use Rattle.std.specs.Prelude.{IsOk, OnErr, OnOk}
use Rattle.kernel_lists.specs.declared.getvec_chain.calls.NotABlock.{NotABlock}
use Rattle.kernel_lists.specs.declared.getvec_chain.pieces.Block.{Block}

-- it is no refusal
pub give-ok : (r : Result Unit NotABlock) (o : Option Block) (b : Block) → OnErr r (o ≡ None) → o ≡ Some b → IsOk r
give-ok (Ok u) o b none used = refl
give-ok (Err e) o b none used = cc

-- and its clauses hold
pub give-on : (r : Result Unit NotABlock) (u : Unit) (P : Type 0) → r ≡ Ok u → OnOk r P → P
give-on (Ok v) u P ok p = p
give-on (Err e) u P ok p = cc
