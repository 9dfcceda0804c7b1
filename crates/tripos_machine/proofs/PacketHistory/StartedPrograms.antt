-- A program is started, and begins: the store holds valid lists.
use Rattle.std.proofs.Common.{◌≡◌, ℕ, ◌+◌, Bool, true, false, length, Option, Some, None, Result, Ok, Err, List, [], ◌∷◌, refl, sym, ap, ◌∙◌, subst, arith}
use Rattle.std.specs.Prelude.{is_some, unwrap_or}
use Rattle.std.specs.Option.{option_map}
use Rattle.module_text.specs.ModuleOfText.{module_of}
use Rattle.module_text.specs.TextReader.Refusal.{Refusal}
use Rattle.module_text.specs.declared.modules.Hunk.{Hunk}
use Rattle.module_text.specs.declared.modules.Module.{Module}
use Rattle.ram_disc.specs.Disc.{Disc, file_named}
use Rattle.kernel_lists.specs.GetvecChain.Run.{first_run, need}
use Rattle.kernel_lists.specs.GetvecChain.Take.{IsTaken, taken_store}
use Rattle.kernel_lists.specs.declared.getvec_chain.pieces.Run.{Run}
use Rattle.kernel_lists.specs.HunkLoader.HeldModules.{LoadedModule}
use Rattle.kernel_lists.specs.HunkLoader.ModuleExchanges.{hunk_words, loaded_module}
use Rattle.kernel_lists.specs.HunkLoader.ModuleRow.{last_word}
use Rattle.kernel_lists.proofs.HunkLoader.LoadedModules.{length-lengths}
use Rattle.kernel_model.specs.KernelRecord.Changes.{AreUnowned, with_modules}
use Rattle.kernel_model.specs.KernelRecord.HoldsLists.{HoldsLists}
use Rattle.kernel_model.specs.KernelRecord.Lists.{Lists, address_of_task}
use Rattle.kernel_model.specs.KernelRecord.StoreWithLists.{StoreWithLists}
use Rattle.kernel_model.specs.KernelRecord.ValidBlocks.{HasBlock, last_module_word}
use Rattle.kernel_model.specs.KernelRecord.ValidLists.{AreValid}
use Rattle.kernel_model.specs.KernelRecord.ValidQueues.{HasGuest}
use Rattle.kernel_model.specs.declared.kernel_record.numbers.TheConstants.{SHELL}
use Rattle.kernel_model.proofs.KernelRecord.ModuleMoves.{new_module-valid}
use Rattle.kernel_calls.specs.CallAnswers.Guests.{GuestAt}
use Rattle.kernel_calls.specs.CallAnswers.CallChange.{CallChange, done}
use Rattle.kernel_calls.specs.CallAnswers.Refusals.{first_refusal}
use Rattle.kernel_calls.proofs.CallAnswers.FoundTask.{reads}
use Rattle.kernel_calls.proofs.CallAnswers.Refusals.{guest-at}
use Rattle.kernel_calls.proofs.CallAnswers.RunningTask.{there-at}
use Rattle.kernel_calls.specs.BlockCalls.FreeStore.{data_of_front, with_taken}
use Rattle.kernel_calls.specs.BlockCalls.Freevec.{with_given}
use Rattle.kernel_calls.proofs.BlockCalls.TakenStore.{HasTakenBlock, taken-changed}
use Rattle.kernel_calls.specs.TaskCalls.CreateTask.{creation_tests, new_task, number_of, with_created}
use Rattle.kernel_calls.specs.ModuleCalls.LoadModule.{load_module, load_tests, loaded_at, with_loaded}
use Rattle.kernel_calls.specs.ModuleCalls.UnloadModule.{unload_tests, without_module}
use Rattle.kernel_calls.proofs.ModuleCalls.LoadedWords.{last-word}
use Rattle.kernel_boot.specs.BegunTask.{with_begun}
use Rattle.kernel_boot.specs.BootTasks.{load_text}
use Rattle.kernel_boot.proofs.BegunTask.{begun-changed}
use Rattle.shell.specs.ShellPrograms.ClearedTasks.{unloaded}
use Rattle.shell.specs.ShellPrograms.StoresWithLists.{left_by}
use Rattle.shell.specs.ShellPrograms.StartedProgram.{after_creation, after_loading, begun, creation, load_found, load_program, priority_of, program_stack, start_program}
use Rattle.shell.specs.declared.shell_programs.programs.Priority.{Priority}
use Rattle.shell.proofs.ShellPrograms.ProgramNumbers.{may-create_program}
use Rattle.tripos_machine.proofs.PacketHistory.ModuleCalls.{unload-valid}
use Rattle.tripos_machine.proofs.PacketHistory.TaskCalls.{create_task-valid}
use Rattle.tripos_machine.proofs.PacketHistory.TestedCalls.{unless-valid}
use Rattle.tripos_machine.proofs.PacketHistory.LeftStores.{call-holds, left-holds}

-- ---- a module is loaded

-- what is made of the lists where there is room for it
abbrev loaded : Lists → List Hunk → CallChange
loaded l hunks = record { answer = Ok (loaded_at hunks l); lists = with_loaded hunks l; plain = hunk_words (loaded_at hunks l) hunks; events = [] }

load-valid : (s : List ℕ) (l : Lists) (hunks : List Hunk) → HoldsLists s l → AreValid (load_module l hunks).lists
load-valid s l hunks h =
    unless-valid (load_tests l hunks) l (loaded l hunks) h.valid
    (λ e. on (first_run (need u) l.blocks) refl (room (is_some (first_run (need u) l.blocks)) e))
  where
    u : ℕ
    u = last_word hunks

    room : (b : Bool) → first_refusal ((b, 1) ∷ []) ≡ None → b ≡ true
    room true e = refl
    room false e = cc

    on : (o : Option Run) → first_run (need u) l.blocks ≡ o → is_some o ≡ true → AreValid (with_loaded hunks l)
    on None first some = cc
    on (Some run) first some =
        let m : ℕ = run.start + 1 in
        let store : List ℕ = taken_store s run (need u) in
        let taken : IsTaken s store u m = record { run = run; first = ap (first_run (need u)) (reads s l h).blocks ∙ first; front = refl; words = refl } in
        let t : HasTakenBlock s store l u m = taken-changed s store l u m h taken in
        let it : LoadedModule = loaded_module m hunks in
        let block : HasBlock (with_taken u l).blocks m (last_module_word it) = subst (HasBlock (with_taken u l).blocks m) (sym (last-word m hunks)) t.block in
        let unowned : AreUnowned (with_taken u l) m (m + 2 + length it.lengths) = λ a low high. t.unowned a low (omega (arith, high, length-lengths hunks)) in
        subst (λ a. AreValid (with_modules (loaded_module a hunks ∷ l.modules) (with_taken u l))) (t.front ∙ ap data_of_front (sym t.first))
        (new_module-valid (with_taken u l) [] l.modules it t.changed.lists.valid refl block unowned)

-- a file is found, and its module loaded, or this is refused
pub found-holds : (k : StoreWithLists) (o : Option (List ℕ)) (rest : Result (Unit {0}) ℕ) → HoldsLists k.words k.lists → HoldsLists (left_by k.words (load_found o rest k.lists)).words (load_found o rest k.lists).lists
found-holds k None rest h = left-holds k.words k.lists [] h.valid h.size
found-holds k (Some bytes) (Err code) h = left-holds k.words k.lists [] h.valid h.size
found-holds k (Some bytes) (Ok u) h = on (module_of bytes)
  where
    on : (r : Result Module Refusal) → HoldsLists (left_by k.words (load_text k.lists r)).words (load_text k.lists r).lists
    on (Err refusal) = left-holds k.words k.lists [] h.valid h.size
    on (Ok m) = call-holds k.words k.lists (load_tests k.lists m.hunks) (loaded k.lists m.hunks) h (load-valid k.words k.lists m.hunks h) refl

-- ---- a program is started, or refused

-- a module is unloaded, or this is refused
pub unloaded-holds : (m : ℕ) (k : StoreWithLists) → HoldsLists k.words k.lists → HoldsLists (unloaded m k).words (unloaded m k).lists
unloaded-holds m k h = call-holds k.words k.lists (unload_tests k.lists m) (done (with_given m (without_module m k.lists))) h (unload-valid k.words k.lists h m) refl

created-holds : (pri : Priority) (m : ℕ) (k : StoreWithLists) → HoldsLists k.words k.lists → HoldsLists (left_by k.words (creation pri m k)).words (creation pri m k).lists
created-holds pri m k h =
    let p : ℕ = priority_of pri k.lists in
    call-holds k.words k.lists (creation_tests k.words k.lists 0 (m ∷ []) program_stack p)
    (with_created k.words k.lists (new_task k.lists (unwrap_or (number_of k.lists 0) 0) (m ∷ []) program_stack p SHELL)) h
    (create_task-valid k.words k.lists h 0 (m ∷ []) program_stack p SHELL (may-create_program k.lists m)) refl

pub started-holds : (d : Disc) (name : List ℕ) (rest : Result (Unit {0}) ℕ) (pri : Priority) (k : StoreWithLists) → HoldsLists k.words k.lists
    → HoldsLists (start_program d name rest pri k).left.words (start_program d name rest pri k).left.lists
unfolding start_program
started-holds d name rest pri k h = on (load_program d name rest k.lists).answer
  where
    j : StoreWithLists
    j = left_by k.words (load_program d name rest k.lists)

    found : HoldsLists j.words j.lists
    found = found-holds k (option_map (λ f. f.bytes) (file_named d name)) rest h

    after : (r : Result ℕ ℕ) (m : ℕ) → HoldsLists (after_creation r m (left_by j.words (creation pri m j))).left.words (after_creation r m (left_by j.words (creation pri m j))).left.lists
    after (Ok id) m = created-holds pri m j found
    after (Err code) m = unloaded-holds m (left_by j.words (creation pri m j)) (created-holds pri m j found)

    on : (r : Result ℕ ℕ) → HoldsLists (after_loading r pri j).left.words (after_loading r pri j).left.lists
    on (Ok m) = after (creation pri m j).answer m
    on (Err code) = found

-- ---- it begins

pub begun-holds : (id : ℕ) (k : StoreWithLists) → HasGuest k.lists id → HoldsLists k.words k.lists → HoldsLists (begun id k).words (begun id k).lists
begun-holds id k guest h =
    let g : GuestAt k.lists id (address_of_task k.lists id) = guest-at k.lists id (address_of_task k.lists id) (there-at id k.lists.tasks guest.1) guest.0 in
    left-holds k.words (with_begun k.words id k.lists) [] (begun-changed k.words k.lists id (address_of_task k.lists id) h g _ _ refl refl).lists.valid h.size
