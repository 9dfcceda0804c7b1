-- Where the table is empty.
use Rattle.std.proofs.Common.{◌≡◌, ◌↔◌, ℕ, ◌<◌, Bool, true, false, eqb, refl, Contains, IsNone}
use Rattle.std.specs.Cmp.{nat_eq_equiv}
use Rattle.std.specs.List.{list_any}
use Rattle.std.specs.Option.{is_some}
use Rattle.std.proofs.lemmas.Bool.{eqb-true}
use Rattle.std.proofs.lemmas.Map.Views.{Contains-from_any, list_any-from_Contains}
use Rattle.instruction_set.specs.InstructionTable.Empty.{empty_bytes}
use Rattle.instruction_set.specs.InstructionTable.Table.{entry, column0, column1, column2, column3, column4, column5, column6, column7}
use Rattle.instruction_set.proofs.InstructionTable.Entries.{passes_below, passes_at}

-- whether exactly one of two tests passes
abbrev differ : Bool → Bool → Bool
differ true false = true
differ false true = true
differ _ _ = false

abbrev is_listed : ℕ → Bool
is_listed byte = list_any (eqb byte) empty_bytes

all_differ : passes_below (λ byte. differ (is_some (entry byte)) (is_listed byte)) 256 ≡ true
unfolding passes_below entry column0 column1 column2 column3 column4 column5 column6 column7
all_differ = refl

differ_from : (a b : Bool) → differ a b ≡ true → (a ≡ false → b ≡ true) × (b ≡ true → a ≡ false)
differ_from true false h = (λ p. cc, λ p. cc)
differ_from false true h = (λ _. refl, λ _. refl)
differ_from _ _ h = cc

pub empty_where : (byte : ℕ) → byte < 256 → (IsNone (entry byte) ↔ Contains empty_bytes byte)
empty_where byte lt =
    let h = differ_from (is_some (entry byte)) (is_listed byte) (passes_at (λ byte. differ (is_some (entry byte)) (is_listed byte)) 256 byte all_differ lt) in
    (λ none. Contains-from_any eqb-true byte empty_bytes (h.0 none), λ among. h.1 (list_any-from_Contains nat_eq_equiv byte empty_bytes among))
