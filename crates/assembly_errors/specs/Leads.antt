-- Lines that name a label.
use Rattle.std.specs.Prelude.{ℕ, Bool, true, false, List}
use Rattle.assembly.specs.declared.assembly_text.statements.Statement.{Statement}
use Rattle.assembly.specs.declared.assembly_text.statements.Statement.TheVariants.{Fixed, Align}

-- a line that names a label
pub record NamingLine : Type 0 where
  -- its number, from 1
  pub number : ℕ
  -- the line
  pub text : List ℕ
  -- where the bytes of the lines before it end
  pub offset : ℕ
  -- what it says
  pub statement : Statement

-- whether a line that says this names a label
abbrev pub names_label : Statement → Bool
names_label (Fixed bytes) = false
names_label (Align boundary) = false
names_label _ = true
