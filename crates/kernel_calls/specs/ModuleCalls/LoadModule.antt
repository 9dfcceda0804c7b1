-- The call that loads a module.
use Rattle.std.specs.Prelude.{ℕ, Bool, Ok, List, [], ◌∷◌}
use Rattle.module_text.specs.declared.modules.Hunk.{Hunk}
use Rattle.kernel_lists.specs.HunkLoader.ModuleExchanges.{hunk_words, loaded_module}
use Rattle.kernel_lists.specs.HunkLoader.ModuleRow.{last_word}
use Rattle.kernel_model.specs.KernelRecord.Changes.{with_modules}
use Rattle.kernel_model.specs.KernelRecord.Lists.{Lists}
use Rattle.kernel_calls.specs.CallAnswers.CallChange.{CallChange, unless_refused}
use Rattle.kernel_calls.specs.BlockCalls.FreeStore.{data_taken, has_room, with_taken}

-- where the module of these hunks will be
abbrev pub loaded_at : List Hunk → Lists → ℕ
loaded_at hunks l = data_taken (last_word hunks) l

-- the lists with a module loaded: it is the first one, in a block of its own
abbrev pub with_loaded : List Hunk → Lists → Lists
with_loaded hunks l = with_modules (loaded_module (loaded_at hunks l) hunks ∷ l.modules) (with_taken (last_word hunks) l)

-- some run is large enough for its words (code 1)
abbrev pub load_tests : Lists → List Hunk → List (Bool × ℕ)
load_tests l hunks = (has_room (last_word hunks) l, 1) ∷ []

-- A module is loaded, unless there is no room. Its relocated words are written as plain ones, and its address is the answer.
abbrev pub load_module : Lists → List Hunk → CallChange
load_module l hunks =
    unless_refused (load_tests l hunks) l
    (record { answer = Ok (loaded_at hunks l); lists = with_loaded hunks l; plain = hunk_words (loaded_at hunks l) hunks; events = [] })
