-- Valid lists are in a store, and the ticks may be another number.
use Rattle.std.proofs.Common.{◌≡◌, ℕ, List, length, replicate, set, refl, ◌∙◌, arith}
use Rattle.std.proofs.lemmas.List.{length-replicate}
use Rattle.kernel_lists.specs.OwnedWords.Owned.{written}
use Rattle.kernel_lists.proofs.OwnedWords.OwnedWords.{Holds-written, length-written}
use Rattle.kernel_model.specs.KernelRecord.HoldsLists.{HoldsLists}
use Rattle.kernel_model.specs.KernelRecord.Lists.{Lists}
use Rattle.kernel_model.specs.KernelRecord.Owned.{owned}
use Rattle.kernel_model.specs.KernelRecord.ValidLists.{AreValid}
use Rattle.kernel_devices.specs.Tick.{with_tick}
use Rattle.kernel_devices.proofs.TickLists.{tick-changed, tick-valid}

-- a store of their words alone
abbrev pub store_of : Lists → List ℕ
store_of l = written (owned l) (replicate l.size 0)

pub store-holds : (l : Lists) → AreValid l → HoldsLists (store_of l) l
store-holds l v =
    let size : length (replicate l.size 0) ≡ l.size = length-replicate l.size 0 in
    record {
      valid = v;
      size = length-written (owned l) (replicate l.size 0) ∙ size;
      holds = Holds-written (owned l) (replicate l.size 0) v.owns.apart (λ a some. omega (arith, v.owns.inside a some, size));
    }
