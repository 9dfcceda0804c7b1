-- The names of programs. A kernel knows none of them: a module is that of a program where it has its words.
use Rattle.std.specs.Prelude.{ℕ, ◌+◌, Bool, Option, Some, None, List, [], ◌∷◌, codes, drop, nat_eq}
use Rattle.std.specs.List.{find, starts_with}
use Rattle.std.specs.Option.{option_map, option_or}
use Rattle.byte_streams.specs.Pieces.{joined}
use Rattle.kernel_lists.specs.HunkLoader.ModuleRow.{module_row}
use Rattle.state_text.specs.declared.programs.Program.{Program}

-- the words of a program that is loaded at m, but for the link: the number of its hunks, their lengths, and their words, relocated
abbrev pub loaded_words : ℕ → Program → List ℕ
loaded_words m p = drop 1 (module_row 0 m p.hunks)

-- whether they are those behind word m
abbrev pub is_loaded : List ℕ → ℕ → Program → Bool
is_loaded words m p = starts_with nat_eq (drop (m + 1) words) (loaded_words m p)

-- the name of a program, which is that of its file
abbrev pub program_name : Program → List ℕ
program_name p = p.name

-- the name of the first of the programs that is at m, if one is
abbrev pub name_in : List Program → List ℕ → ℕ → Option (List ℕ)
name_in programs words m = option_map program_name (find (is_loaded words m) programs)

-- the first name that one of these modules has, where the names of modules are given by their addresses
abbrev pub first_name : (ℕ → Option (List ℕ)) → List ℕ → Option (List ℕ)
first_name name_at [] = None
first_name name_at (m ∷ ms) = option_or (name_at m) (first_name name_at ms)

-- the end of a line, with the name of a program where there is one
abbrev pub line_end : Option (List ℕ) → List ℕ
line_end None = codes "\n"
line_end (Some name) = joined (codes ", program " ∷ name ∷ codes "\n" ∷ [])
