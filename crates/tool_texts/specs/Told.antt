-- What a tool gives of an input.
use Rattle.std.specs.Prelude.{ℕ, Bool, List}
use Rattle.tool_texts.specs.declared.results.ToolText.{ToolText}

-- what a tool gives
pub record Told : Type 0 where
  -- whether something is wrong in the input
  pub is_wrong : Bool
  -- the bytes: what is wrong, or what the tool makes of the input
  pub bytes : List ℕ

-- what the code's value says
abbrev pub told_of : ToolText → Told
told_of t = record { is_wrong = t.is_wrong; bytes = t.bytes.items }
