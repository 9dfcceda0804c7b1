-- The call that takes a module out.
use Rattle.std.specs.Prelude.{ℕ, ◌==◌, Bool, not, List, [], ◌∷◌, ◌++◌}
use Rattle.std.specs.List.{list_any}
use Rattle.kernel_lists.specs.LinkedList.Places.{has, without_first}
use Rattle.kernel_model.specs.KernelRecord.Changes.{with_modules}
use Rattle.kernel_model.specs.KernelRecord.Lists.{Lists}
use Rattle.kernel_calls.specs.CallAnswers.CallChange.{CallChange, done, unless_refused}
use Rattle.kernel_calls.specs.CallAnswers.Modules.{has_module}
use Rattle.kernel_calls.specs.BlockCalls.Freevec.{has_packet_in, with_given}

-- a task has it among its modules
abbrev pub is_in_use : Lists → ℕ → Bool
is_in_use l m = list_any (λ t. has m t.modules) l.tasks

-- there is such a module (code 17), and no task has it (code 26)
abbrev pub use_tests : Lists → ℕ → List (Bool × ℕ)
use_tests l m = (has_module l m, 17) ∷ (not (is_in_use l m), 26) ∷ []

-- the tests of the call: those of its use, and no packet lies in its block (code 7)
abbrev pub unload_tests : Lists → ℕ → List (Bool × ℕ)
unload_tests l m = use_tests l m ++ (not (has_packet_in l m), 7) ∷ []

-- the lists without the module at m
abbrev pub without_module : ℕ → Lists → Lists
without_module m l = with_modules (without_first (λ x. m == x.address) l.modules) l

-- The module goes, and its block is given back, unless it is refused; the answer is -1.
abbrev pub unload_module : Lists → ℕ → CallChange
unload_module l m = unless_refused (unload_tests l m) l (done (with_given m (without_module m l)))
