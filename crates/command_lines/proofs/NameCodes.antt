-- A name, or the code of a text that is none.
use Rattle.std.proofs.Common.{◌≡◌, ℕ, List, true, false, cond, Some, None, Ok, Err, refl}
use Rattle.std.specs.Option.{ok_or}
use Rattle.ram_disc.specs.Name.{is_name}
use Rattle.command_lines.specs.Arguments.{name_of}

pub name-or_code : (text : List ℕ) → ok_or {E = ℕ} (cond (is_name text) (Some text) None) 40 ≡ name_of text
name-or_code text = elim (is_name text) as (λ b. ok_or {E = ℕ} (cond b (Some text) None) 40 ≡ cond b (Ok text) (Err 40)) [ true ↦ refl | false ↦ refl ]
