-- The files of a disc, a line for each, in byte order of their names.
use Rattle.std.specs.Prelude.{ℕ, List, [], ◌∷◌, codes, decimal, length}
use Rattle.std.specs.List.{flat_map}
use Rattle.byte_streams.specs.Pieces.{joined}
use Rattle.ram_disc.specs.Disc.{Disc, File}
use Rattle.shell.specs.ShellListings.Columns.{left_in, right_in}

-- a name and a size
abbrev pub name_and_size : List ℕ → ℕ → List ℕ
name_and_size name size = joined (left_in 12 name ∷ codes " " ∷ right_in 8 (decimal size) ∷ codes "\n" ∷ [])

-- the name of a file, and how many bytes it has
abbrev pub file_line : File → List ℕ
file_line f = name_and_size f.name (length f.bytes)

-- the lines of all files of a disc
unfoldable pub file_lines : Disc → List ℕ
file_lines d = flat_map file_line d.files

-- a line has at most so many bytes
abbrev pub most_in_file_line : ℕ
most_in_file_line = 24

-- the lines of all files, at most 64, have at most so many bytes
abbrev pub most_in_files : ℕ
most_in_files = 1536
