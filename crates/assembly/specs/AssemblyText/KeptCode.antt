-- What the code keeps of the hunk while it goes over the lines.
use Rattle.assembly.specs.AssemblyText.Encoding.{Code}
use Rattle.assembly.specs.declared.assembly_text.encode.Encoded.{Encoded}

-- the three lists of the hunk that is being made, as a definition speaks of them
abbrev pub kept_code : Encoded → Code
kept_code e = record { bytes = e.bytes.items; relocations = e.relocations.items; pairs = e.pairs.items }
