-- The modules of a kernel in words.
use Rattle.std.specs.Prelude.{ℕ, ◌+◌, ◌*◌, Option, List, [], ◌∷◌, codes, decimal, length}
use Rattle.std.specs.List.{flat_map}
use Rattle.byte_streams.specs.Pieces.{joined}
use Rattle.kernel_lists.specs.HunkLoader.HeldModules.{LoadedModule}
use Rattle.kernel_model.specs.KernelRecord.Lists.{Lists}
use Rattle.state_text.specs.ProgramNames.{line_end}

-- The byte address at which the words of its first hunk begin: they follow its link, its number of hunks, and their lengths.
abbrev pub first_byte : LoadedModule → ℕ
first_byte m = 4 * (m.address + 2 + length m.lengths)

-- a module's word address, how many hunks it has, and where the first of them begins
abbrev pub module_place : LoadedModule → List ℕ
module_place m =
    joined (codes "module at " ∷ decimal m.address ∷ codes ", hunks " ∷ decimal (length m.lengths) ∷ codes ", from byte " ∷ decimal (first_byte m) ∷ [])

-- these, and the name of its program, where the names of modules are given by their addresses
abbrev pub module_line : (ℕ → Option (List ℕ)) → LoadedModule → List ℕ
module_line name_at m = joined (module_place m ∷ line_end (name_at m.address) ∷ [])

-- the modules, the newest first
unfoldable pub modules_text : (ℕ → Option (List ℕ)) → Lists → List ℕ
modules_text name_at l = joined (codes "modules\n" ∷ flat_map (module_line name_at) l.modules ∷ [])
