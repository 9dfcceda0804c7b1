use Rattle.std.proofs.Common.{◌≡◌, ◌++◌, drop}
use Rattle.std.specs.List.{flat_map}
use Rattle.program_places.specs.Answers.{address_text}
use Rattle.program_places.proofs.answers.addresses_text.Given as goal

abbrev pub invariant-loop-address : goal.invariant-loop-address
invariant-loop-address l =
    l.text.items ++ flat_map (address_text l.front) (drop l.address-index l.addresses) ≡ flat_map (address_text l.front) l.addresses
