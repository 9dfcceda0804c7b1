-- What is said, part by part.
use Rattle.std.specs.Prelude.{ℕ, List, decimal}
use Rattle.tool_texts.specs.declared.sentences.Said.{Said}
use Rattle.tool_texts.specs.declared.sentences.Said.TheVariants.{Bytes, Number}

-- the bytes of a part
abbrev pub text_of : Said → List ℕ
text_of (Bytes bytes) = bytes.now
text_of (Number n) = decimal n
