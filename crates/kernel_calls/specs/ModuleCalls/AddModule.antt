-- The call that gives a task one more module.
use Rattle.std.specs.Prelude.{◌≡◌, ℕ, ◌+◌, ◌==◌, ◌&&◌, Bool, not, Result, Ok, Err, Option, Some, None, find, length, List, [], ◌∷◌, ◌++◌, nat_le, nat_lt}
use Rattle.std.specs.List.{list_all, list_any, range_with_len}
use Rattle.kernel_lists.specs.OwnedWords.Owned.{Pairs}
use Rattle.kernel_lists.specs.PacketQueue.QueueWords.{QueuedPacket}
use Rattle.kernel_lists.specs.HunkLoader.Globals.{Global, globals_in, highest, most_globals}
use Rattle.kernel_lists.specs.HunkLoader.ModuleHunks.{hunks_in}
use Rattle.kernel_model.specs.KernelRecord.Changes.{with_task}
use Rattle.kernel_model.specs.KernelRecord.Lists.{Lists, queued}
use Rattle.kernel_model.specs.KernelRecord.Task.{Task, globals_of}
use Rattle.kernel_model.specs.KernelRecord.Versions.{most_modules_of}
use Rattle.kernel_calls.specs.CallAnswers.Guests.{guest_tests}
use Rattle.kernel_calls.specs.CallAnswers.Refusals.{first_refusal}
use Rattle.kernel_calls.specs.CallAnswers.CallChange.{CallChange, unless_refused}
use Rattle.kernel_calls.specs.CallAnswers.Tasks.{is_dead}
use Rattle.kernel_calls.specs.CallAnswers.Modules.{has_module}

-- the task has fewer modules than it may have
abbrev pub has_module_room : Lists → ℕ → Bool
has_module_room l id = list_any (λ t. (t.id == id) && nat_lt (length t.modules) (most_modules_of l.version)) l.tasks

-- no hunk of the module has a number of a global above the highest
abbrev pub globals_fit : List ℕ → ℕ → Bool
globals_fit s m = list_all (λ h. nat_le (highest h.words) most_globals) (hunks_in s m)

-- where the globals of a task begin, 0 where there is no such task
abbrev pub globals_at : ℕ → Option Task → ℕ
globals_at version None = 0
globals_at version (Some t) = globals_of version t

-- how many modules a task has, 0 where there is no such task
abbrev pub modules_so_far : Option Task → ℕ
modules_so_far None = 0
modules_so_far (Some t) = length t.modules

-- the task with the number, if it is there
abbrev pub task_of : ℕ → Lists → Option Task
task_of id l = find (λ t. t.id == id) l.tasks

-- where the globals of the task with the number begin
abbrev pub globals_of_task : ℕ → Lists → ℕ
globals_of_task id l = globals_at l.version (task_of id l)

-- whether one of the words 0 to 4 of a packet is one of the 1,001 words of globals at g
abbrev pub lies_in_globals : ℕ → QueuedPacket → Bool
lies_in_globals g p = list_any (λ a. nat_le g a && nat_lt a (g + 1001)) (range_with_len p.address 5)

-- a word of a queued packet lies in the task's globals
abbrev pub has_packet_in_globals : Lists → ℕ → Bool
has_packet_in_globals l id = list_any (lies_in_globals (globals_of_task id l)) (queued l)

-- the tests of the task and the module: the task is dead (code 11), there is such a module (17), the task may have one more (28),
-- and the module's globals fit (18)
abbrev pub check_tests : List ℕ → Lists → ℕ → ℕ → List (Bool × ℕ)
check_tests s l id m = (is_dead l id, 11) ∷ (has_module l m, 17) ∷ (has_module_room l id, 28) ∷ (globals_fit s m, 18) ∷ []

-- how many modules the task has, or the code of the first of these tests that fails
abbrev pub IsCounted : List ℕ → Lists → ℕ → ℕ → Task → Result ℕ ℕ → Type 0
IsCounted s l id m t (Ok count) = (first_refusal (check_tests s l id m) ≡ None) × (count ≡ length t.modules)
IsCounted s l id m t (Err code) = first_refusal (check_tests s l id m) ≡ Some code

-- The tests of the call: the task is a guest (codes 2, 14), it and the module pass theirs, and no packet lies in its globals (7).
abbrev pub addition_tests : List ℕ → Lists → ℕ → ℕ → List (Bool × ℕ)
addition_tests s l id m = guest_tests l id ++ (check_tests s l id m ++ (not (has_packet_in_globals l id), 7) ∷ [])

-- the task's modules with this one after them
abbrev pub with_further : ℕ → Task → Task
with_further m t = record t { modules = t.modules ++ m ∷ [] }

-- the words of globals that are set from g on: of two with one number the later one stays, so it comes first
abbrev pub global_words : ℕ → List Global → Pairs
global_words g [] = []
global_words g (x ∷ xs) = global_words g xs ++ (g + x.number, x.value) ∷ []

-- the answer is how many modules the task has then
abbrev pub add_module : List ℕ → Lists → ℕ → ℕ → CallChange
add_module s l id m =
    unless_refused (addition_tests s l id m) l
    (record {
      answer = Ok (modules_so_far (task_of id l) + 1);
      lists = with_task id (with_further m) l;
      plain = global_words (globals_of_task id l) (globals_in s m);
      events = [];
    })
