-- The data of used blocks.
use Rattle.std.specs.Prelude.{ℕ, ◌&&◌, Bool, not, List}
use Rattle.std.specs.List.{list_any}
use Rattle.kernel_lists.specs.declared.getvec_chain.pieces.Block.{Block}
use Rattle.kernel_lists.specs.GetvecChain.Block.{has_data}

-- the word at the address is one of a used block's data
abbrev pub is_used_data : ℕ → List Block → Bool
is_used_data a bs = list_any (λ b. not b.free && has_data b a) bs
