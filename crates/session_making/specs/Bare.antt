-- The program of a bare machine: the code of all files, one after another from byte 800 on.
use Rattle.std.specs.Prelude.{ℕ, ◌+◌, ◌-◌, ◌/◌, if◌then◌else◌, List, [], ◌∷◌, ◌++◌, length, Result, Ok, Err, nat_lt}
use Rattle.module_text.specs.TextReader.Steps.{◌>>=◌}
use Rattle.module_text.specs.declared.modules.Hunk.{Hunk}
use Rattle.session_making.specs.Modules.{file_module}
use Rattle.session_making.specs.Notes.{globals_note}
use Rattle.session_making.specs.Tables.{hunk_code, hunk_numbers}
use Rattle.session_making.specs.declared.bare.BareCode.{BareCode}
use Rattle.tool_bundles.specs.declared.bundles.Entry.{Entry}
use Rattle.session_making.specs.declared.wrongs.Wrong.{Wrong}
use Rattle.session_making.specs.declared.wrongs.Wrong.TheVariants.{HunkCount, NoRoom}

-- there is no code yet
abbrev pub no_code : BareCode
no_code = record { code = []; notes = [] }

-- the one hunk of a program
abbrev pub one_hunk : List ℕ → List Hunk → Result Hunk Wrong
one_hunk path (hunk ∷ []) = Ok hunk
one_hunk path hunks = Err (HunkCount path (length hunks))

-- the word of the store that comes after so much code
abbrev pub word_after : List ℕ → ℕ
word_after code = 200 + length code / 4

-- a program's code after that of others, with the addresses that it has there: the word before it is word 0 of its hunk
abbrev pub with_code : BareCode → Hunk → BareCode
with_code bare hunk = record bare { code = bare.code ++ hunk_code (word_after bare.code - 1) hunk }

-- the same, where it is in a store of so many words
abbrev pub add_code : ℕ → BareCode → List ℕ → Hunk → Result BareCode Wrong
add_code store bare path hunk =
    if nat_lt store (word_after (with_code bare hunk).code) then Err (NoRoom path store) else Ok (with_code bare hunk)

-- a note, where a program sets globals with these numbers
abbrev pub noted : BareCode → List ℕ → List ℕ → BareCode
noted bare path [] = bare
noted bare path (n ∷ ns) = record bare { notes = bare.notes ++ globals_note path }

-- a note, where hunks set globals
abbrev pub note_globals : BareCode → List ℕ → List Hunk → BareCode
note_globals bare path hunks = noted bare path (hunk_numbers [] hunks)

-- a program more
abbrev pub add_program : ℕ → BareCode → Entry → Result BareCode Wrong
add_program store bare file = do
  m ← file_module file
  hunk ← one_hunk file.word m.hunks
  more ← add_code store bare file.word hunk
  Ok (note_globals more file.word m.hunks)

-- programs, one after another
abbrev pub add_programs : ℕ → BareCode → List Entry → Result BareCode Wrong
add_programs store bare [] = Ok bare
add_programs store bare (file ∷ files) = do
  more ← add_program store bare file
  add_programs store more files
