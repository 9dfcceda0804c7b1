-- The form of each row follows from its name.
use Rattle.std.proofs.Common.{◌≡◌, ℕ, IfSome, map, refl}
use Rattle.std.specs.List.{range_with_len}
use Rattle.std.specs.Option.{option_map}
use Rattle.instruction_set.specs.InstructionTable.FormRule.{form_named}
use Rattle.instruction_set.specs.InstructionTable.Table.{entry, column0, column1, column2, column3, column4, column5, column6, column7}
use Rattle.instruction_set.proofs.InstructionTable.Entries.{agrees_at}

all_follow : map (λ byte. option_map (λ e. e.form) (entry byte)) (range_with_len 0 256) ≡ map (λ byte. option_map (λ e. form_named e.name) (entry byte)) (range_with_len 0 256)
unfolding entry column0 column1 column2 column3 column4 column5 column6 column7 form_named
all_follow = refl

pub form_follows : (byte : ℕ) → IfSome (entry byte) (λ e. e.form ≡ form_named e.name)
form_follows = agrees_at (λ e. e.form) (λ e. form_named e.name) all_follow
