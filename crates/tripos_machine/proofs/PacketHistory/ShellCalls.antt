-- Where the shell clears up, and where it starts a program, no packet moves.
use Rattle.std.proofs.Common.{◌≡◌, ℕ, ◌++◌, Option, Some, None, Result, Ok, Err, List, [], ◌∷◌, refl, sym, ◌∙◌, subst}
use Rattle.std.specs.Prelude.{unwrap_or}
use Rattle.std.specs.Option.{option_map}
use Rattle.module_text.specs.ModuleOfText.{module_of}
use Rattle.module_text.specs.TextReader.Refusal.{Refusal}
use Rattle.module_text.specs.declared.modules.Module.{Module}
use Rattle.ram_disc.specs.Disc.{Disc, file_named}
use Rattle.kernel_lists.specs.HunkLoader.ModuleExchanges.{hunk_words}
use Rattle.kernel_model.specs.KernelRecord.HoldsLists.{HoldsLists}
use Rattle.kernel_model.specs.KernelRecord.Lists.{Lists}
use Rattle.kernel_model.specs.KernelRecord.Running.{RunsAlive}
use Rattle.kernel_model.specs.KernelRecord.StoreWithLists.{StoreWithLists}
use Rattle.kernel_model.specs.declared.kernel_record.numbers.TheConstants.{SHELL}
use Rattle.kernel_calls.specs.CallAnswers.Guests.{guest_tests}
use Rattle.kernel_calls.specs.CallAnswers.CallChange.{CallChange, by_refusal}
use Rattle.kernel_calls.specs.CallAnswers.Refusals.{first_refusal}
use Rattle.kernel_calls.specs.BlockCalls.Freevec.{with_given}
use Rattle.kernel_calls.specs.TaskCalls.CreateTask.{creation_tests, new_task, number_of, with_created}
use Rattle.kernel_calls.specs.TaskCalls.DeleteTask.{delete_task, deletion_tests, without_task}
use Rattle.kernel_calls.specs.ModuleCalls.LoadModule.{load_tests, loaded_at, with_loaded}
use Rattle.kernel_calls.specs.ModuleCalls.UnloadModule.{unload_module, unload_tests, without_module}
use Rattle.kernel_boot.specs.BegunTask.{begun as begun_task}
use Rattle.kernel_boot.specs.BootTasks.{load_text}
use Rattle.shell.specs.ShellPrograms.ClearedTasks.{cleared}
use Rattle.shell.specs.ShellPrograms.StoresWithLists.{left_by}
use Rattle.shell.specs.ShellPrograms.StartedProgram.{after_creation, after_loading, begun, creation, load_found, load_program, priority_of, program_stack, start_program}
use Rattle.shell.specs.declared.shell_programs.programs.Priority.{Priority}
use Rattle.shell.proofs.RunningShell.{made-events}
use Rattle.tripos_machine.specs.PacketHistory.Queues.{Moves, ledger_of}
use Rattle.tripos_machine.proofs.PacketHistory.Ledgers.{ledger-task}
use Rattle.tripos_machine.proofs.PacketHistory.ClearedStores.{all-cleared}
use Rattle.tripos_machine.proofs.PacketHistory.ShellTurns.{deleted-holds}
use Rattle.tripos_machine.proofs.PacketHistory.StartedPrograms.{unloaded-holds}
use Rattle.tripos_machine.proofs.PacketHistory.GuestMoves.{beside-quiet, create_task-quiet, delete_task-quiet, unload-quiet}

-- without events none does
quiet-same : (l : Lists) (m : CallChange) → m.events ≡ [] → Moves (λ e. 0) l m.events m.lists → ledger_of m.lists ≡ ledger_of l
quiet-same l m none moves = sym (subst (λ es. Moves (λ e. 0) l es m.lists) none moves)

unload-same : (l : Lists) (m : ℕ) → ledger_of (unload_module l m).lists ≡ ledger_of l
unload-same l m = quiet-same l (unload_module l m) (made-events (first_refusal (unload_tests l m)) l (with_given m (without_module m l))) (unload-quiet (λ e. 0) l m).0

delete-same : (s : List ℕ) (l : Lists) (id : ℕ) → HoldsLists s l → ledger_of (delete_task l id).lists ≡ ledger_of l
delete-same s l id h = quiet-same l (delete_task l id) (made-events (first_refusal (guest_tests l id ++ deletion_tests l id)) l (without_task l id)) (delete_task-quiet (λ e. 0) l h.valid id).0

pub cleared-same : (k : StoreWithLists) → HoldsLists k.words k.lists → RunsAlive k.lists → ledger_of (cleared k).lists ≡ ledger_of k.lists
cleared-same k h alive =
    (all-cleared (λ j. HoldsLists j.words j.lists × (ledger_of j.lists ≡ ledger_of k.lists)) (λ id j low a x. (deleted-holds id j a x.0, delete-same j.words j.lists id x.0 ∙ x.1))
    (λ m j x. (unloaded-holds m j x.0, unload-same j.lists m ∙ x.1)) k alive (h, refl)).1

-- ---- a program

pub load-same : (l : Lists) (o : Option (List ℕ)) (rest : Result (Unit {0}) ℕ) → ledger_of (load_found o rest l).lists ≡ ledger_of l
load-same l None rest = refl
load-same l (Some bytes) (Err code) = refl
load-same l (Some bytes) (Ok u) = on (module_of bytes)
  where
    on : (r : Result Module Refusal) → ledger_of (load_text l r).lists ≡ ledger_of l
    on (Err refusal) = refl
    on (Ok m) = by (first_refusal (load_tests l m.hunks))
      where
        by : (o : Option ℕ) → ledger_of (by_refusal o l (record { answer = Ok (loaded_at m.hunks l); lists = with_loaded m.hunks l; plain = hunk_words (loaded_at m.hunks l) m.hunks; events = [] })).lists ≡ ledger_of l
        by None = beside-quiet l (with_loaded m.hunks l) refl refl refl refl refl
        by (Some code) = refl

creation-same : (pri : Priority) (m : ℕ) (k : StoreWithLists) → ledger_of (creation pri m k).lists ≡ ledger_of k.lists
creation-same pri m k = quiet-same k.lists (creation pri m k) (none (first_refusal (creation_tests k.words k.lists 0 (m ∷ []) program_stack p))) (create_task-quiet (λ e. 0) k.lists k.words (m ∷ []) program_stack p SHELL).0
  where
    p : ℕ
    p = priority_of pri k.lists

    none : (o : Option ℕ) → (by_refusal o k.lists (with_created k.words k.lists (new_task k.lists (unwrap_or (number_of k.lists 0) 0) (m ∷ []) program_stack p SHELL))).events ≡ []
    none None = refl
    none (Some code) = refl

pub started-same : (d : Disc) (name : List ℕ) (rest : Result (Unit {0}) ℕ) (pri : Priority) (k : StoreWithLists) → ledger_of (start_program d name rest pri k).left.lists ≡ ledger_of k.lists
unfolding start_program
started-same d name rest pri k = on (load_program d name rest k.lists).answer
  where
    j : StoreWithLists
    j = left_by k.words (load_program d name rest k.lists)

    loaded : ledger_of j.lists ≡ ledger_of k.lists
    loaded = load-same k.lists (option_map (λ f. f.bytes) (file_named d name)) rest

    after : (r : Result ℕ ℕ) (m : ℕ) → ledger_of (after_creation r m (left_by j.words (creation pri m j))).left.lists ≡ ledger_of k.lists
    after (Ok id) m = creation-same pri m j ∙ loaded
    after (Err code) m = unload-same (creation pri m j).lists m ∙ (creation-same pri m j ∙ loaded)

    on : (r : Result ℕ ℕ) → ledger_of (after_loading r pri j).left.lists ≡ ledger_of k.lists
    on (Ok m) = after (creation pri m j).answer m
    on (Err code) = loaded

pub begun-same : (id : ℕ) (k : StoreWithLists) → ledger_of (begun id k).lists ≡ ledger_of k.lists
begun-same id k = ledger-task k.lists id (begun_task k.lists.version k.words) (λ t. (refl, refl))
