-- The codes of refusals.
use Rattle.std.specs.Prelude.{ℕ}
use Rattle.command_lines.specs.declared.argument_templates.args.Refusal.{Refusal}
use Rattle.command_lines.specs.declared.argument_templates.args.Refusal.TheVariants.{Template, Missing, Surplus, Name, OpenQuote}

-- the code that the user reads, of each reason for which a line is refused
abbrev pub code_of : Refusal → ℕ
code_of Template = 50
code_of Missing = 51
code_of Surplus = 52
code_of Name = 53
code_of OpenQuote = 54
