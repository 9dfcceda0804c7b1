-- What `find` gives over an iterator of blocks.
use Rattle.std.proofs.Common.{◌≡◌, ◌∙◌, Bool, true, false, List, Option, Some, None, refl, sym}
use Rattle.std.proofs.lemmas.Iterator.Consumers.{YieldsList-from_first}
use Rattle.std.proofs.lemmas.Iterator.Search.{find_from_yields_List}
use Rattle.std.specs.Bool.{⊤}
use Rattle.std.specs.Fn.{CalledAt}
use Rattle.std.specs.Iterator.{YieldsFirst, YieldsThen}
use Rattle.std.specs.List.{FoldsTo, find}
use Rattle.std.specs.Option.{MatchOption, option_map}
use Rattle.kernel_lists.specs.declared.getvec_chain.pieces.Block.{Block}
use denote.Param.Members.{Mut}
use denote.Ref.{Bor}

option_map-same : (o : Option Block) → option_map (λ (x : Block). x) o ≡ o
option_map-same None = refl
option_map-same (Some x) = refl

-- the first block that passes the test, where the closure is that test
pub found-first : {F : Type 0} {g : Mut F (Bor Block × Unit {0}) Bool} {all : List Block} (test : Block → Bool) (bs u : List Block) (f : F) (r : Option Block)
    → (xs : List Block) × (j : F) × YieldsThen (YieldsFirst (λ (rest : List Block). rest)) bs xs r u × FoldsTo (λ p x q. CalledAt g p x false q) f xs j × MatchOption r ⊤ (λ x. (h : F) × CalledAt g j x true h)
    → bs ≡ all → ((x : Block) (b : Bool) (q : F) → CalledAt g f x b q → (q ≡ f) × (b ≡ test x)) → r ≡ find test all
found-first test bs u f r ran is closure =
    sym (option_map-same r) ∙ find_from_yields_List {v = λ (x : Block). x} test u f r ran (YieldsList-from_first (λ (x : Block). x) (λ rest. rest) _ is) closure
