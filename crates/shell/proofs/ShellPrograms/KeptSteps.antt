-- What stays where a guest is deleted and modules go out stays where the shell clears up; and what stays where a module is loaded and
-- a task of it comes in stays where a program is started.
use Rattle.std.proofs.Common.{◌≡◌, ℕ, zero, suc, ◌+◌, ◌-◌, ◌≤◌, List, [], ◌∷◌, ◌++◌, cond, eqb, not, Bool, true, false, Option, Some, None, Result, Ok, Err, refl, ap, ◌∙◌, subst, arith}
use Rattle.std.specs.Prelude.{find, is_some, unwrap_or}
use Rattle.std.specs.List.{list_any, range_with_len}
use Rattle.std.specs.Option.{option_map}
use Rattle.kernel_lists.specs.LinkedList.Places.{without_first}
use Rattle.kernel_lists.specs.declared.getvec_chain.pieces.Block.{Block}
use Rattle.kernel_lists.specs.HunkLoader.HeldModules.{LoadedModule}
use Rattle.module_text.specs.ModuleOfText.{module_of}
use Rattle.module_text.specs.TextReader.Refusal.{Refusal}
use Rattle.module_text.specs.declared.modules.Module.{Module}
use Rattle.ram_disc.specs.Disc.{Disc, file_named}
use Rattle.kernel_model.specs.KernelRecord.Changes.{with_new_task, with_tasks}
use Rattle.kernel_model.specs.KernelRecord.Lists.{Lists, address_of_task}
use Rattle.kernel_model.specs.KernelRecord.Task.{Task, is_guest_id}
use Rattle.kernel_model.specs.KernelRecord.ValidTasks.{dead}
use Rattle.kernel_model.specs.KernelRecord.Versions.{highest_id_of}
use Rattle.kernel_calls.specs.CallAnswers.Guests.{guest_tests}
use Rattle.kernel_calls.specs.CallAnswers.CallChange.{by_refusal, done}
use Rattle.kernel_calls.specs.CallAnswers.Refusals.{first_refusal}
use Rattle.kernel_calls.proofs.CallAnswers.Refusals.{high-guest}
use Rattle.kernel_calls.specs.ModuleCalls.LoadModule.{load_tests, loaded_at, with_loaded}
use Rattle.kernel_calls.specs.ModuleCalls.UnloadModule.{unload_module, unload_tests, without_module}
use Rattle.kernel_calls.specs.TaskCalls.ChangePri.{priority_tests}
use Rattle.kernel_calls.specs.TaskCalls.CreateTask.{create_task, creation_tests, free_id, has_high_globals, last_word_of, new_task, with_created}
use Rattle.kernel_calls.specs.TaskCalls.DeleteTask.{delete_task, deletion_tests, has_no_coroutines, has_no_work, has_packet_out, without_task}
use Rattle.kernel_calls.proofs.TaskCalls.TestsInTurn.{all-passed}
use Rattle.kernel_calls.specs.BlockCalls.Freevec.{has_packet_in, with_given}
use Rattle.kernel_calls.specs.BlockCalls.FreeStore.{with_taken}
use Rattle.kernel_lists.specs.GetvecChain.Give.{given}
use Rattle.kernel_lists.specs.HunkLoader.ModuleExchanges.{hunk_words}
use Rattle.kernel_calls.specs.BlockCalls.Getvec.{getvec_tests}
use Rattle.kernel_calls.specs.CallAnswers.Modules.{has_module}
use Rattle.kernel_calls.specs.CallAnswers.Tasks.{is_dead}
use Rattle.kernel_model.specs.KernelRecord.StoreWithLists.{StoreWithLists}
use Rattle.kernel_boot.specs.BootTasks.{load_text}
use Rattle.shell.specs.ShellPrograms.ClearedTasks.{after_deletion, cleared, cleared_all, cleared_at, cleared_task, deleted, first_module_of}
use Rattle.shell.specs.ShellPrograms.StoresWithLists.{left_by}
use Rattle.shell.specs.ShellPrograms.StartedProgram.{after_creation, after_loading, creation, load_found, load_program, priority_of, start_program}
use Rattle.shell.specs.declared.shell_programs.programs.Priority.{Priority}
use Rattle.kernel_boot.proofs.StartedTasks.{created}
use Rattle.shell.specs.ShellPrograms.KeptLists.{HasProgram}
use Rattle.shell.proofs.ShellPrograms.ProgramNumbers.{free-range}

-- ---- what is asked

-- the blocks and the modules do not matter
abbrev pub AllowsBlocks : (Lists → Type 0) → Type 0
AllowsBlocks P = (l : Lists) (bs : List Block) (ms : List LoadedModule) → P l → P (record l { blocks = bs; modules = ms })

-- a guest may go, of which no packet is out
abbrev pub AllowsGone : (Lists → Type 0) → Type 0
AllowsGone P = (l : Lists) (id : ℕ) → is_guest_id id ≡ true → has_packet_out l id ≡ false → P l → P (with_tasks (without_first (λ t. eqb t.id id) l.tasks) l)

-- a dead guest without packets and faults
pub record IsProgram (t : Task) : Type 0 where
  pub guest : is_guest_id t.id ≡ true
  pub dead : t.field ≡ dead
  pub queue : t.queue ≡ []
  pub fault : t.fault ≡ 0

-- such a task may come
abbrev pub AllowsNew : (Lists → Type 0) → Type 0
AllowsNew P = (l : Lists) (t : Task) → IsProgram t → P l → P (with_new_task t l)

-- ---- the number of a task that is created

-- where all tests hold, a number of a guest's is free
number-range : (s : List ℕ) (l : Lists) (ms : List ℕ) (u pri : ℕ) → first_refusal (creation_tests s l 0 ms u pri) ≡ None
    → (5 ≤ unwrap_or (free_id l) 0) × (unwrap_or (free_id l) 0 ≤ highest_id_of l.version)
number-range s l ms u pri e =
    let others : List (Bool × ℕ) = (not (list_any (has_high_globals s) ms), 18) ∷ getvec_tests l (last_word_of l.version u) in
    let fourth = (all-passed ((not (list_any (λ m. not (has_module l m)) ms), 17) ∷ priority_tests l 0 pri) ((is_some (free_id l), 10) ∷ others) e).1 in
    some (free_id l) refl (all-passed ((is_some (free_id l), 10) ∷ []) others fourth).0
  where
    some : (o : Option ℕ) → free_id l ≡ o → ◌≡◌ {A = Option ℕ} (cond (is_some o) None (Some 10)) None → (5 ≤ unwrap_or o 0) × (unwrap_or o 0 ≤ highest_id_of l.version)
    some None is e = cc
    some (Some n) is e = free-range l n is

pub created-range : (s : List ℕ) (l : Lists) (ms : List ℕ) (u pri maker n : ℕ) → (create_task s l 0 ms u pri maker).answer ≡ Ok n → (5 ≤ n) × (n ≤ highest_id_of l.version)
created-range s l ms u pri maker n is = on (first_refusal (creation_tests s l 0 ms u pri)) refl is
  where
    on : (o : Option ℕ) → first_refusal (creation_tests s l 0 ms u pri) ≡ o
        → (by_refusal o l (with_created s l (new_task l (unwrap_or (free_id l) 0) ms u pri maker))).answer ≡ Ok n → (5 ≤ n) × (n ≤ highest_id_of l.version)
    on None e a =
        let same : unwrap_or (free_id l) 0 ≡ n = cc in
        let r = number-range s l ms u pri e in
        (omega (arith, r.0, same), omega (arith, r.1, same))
    on (Some code) e a = cc

-- ---- calls

module _ (P : Lists → Type 0) (beside : AllowsBlocks P) where
  unload-keeps : (l : Lists) (m : ℕ) → P l → P (unload_module l m).lists
  unload-keeps l m h = on (first_refusal (unload_tests l m))
    where
      on : (o : Option ℕ) → P (by_refusal o l (done (with_given m (without_module m l)))).lists
      on None = beside l (given m l.blocks) (without_module m l).modules h
      on (Some code) = h

  module _ (gone : AllowsGone P) where
    delete-keeps : (l : Lists) (id : ℕ) → 5 ≤ id → P l → P (delete_task l id).lists
    delete-keeps l id low h = on (first_refusal (guest_tests l id ++ deletion_tests l id)) refl
      where
        -- no packet is out where all tests hold
        away : first_refusal (guest_tests l id ++ deletion_tests l id) ≡ None → has_packet_out l id ≡ false
        away e =
            let third = (all-passed ((is_dead l id, 11) ∷ (has_no_work l id, 12) ∷ []) ((not (has_packet_out l id), 13) ∷ (has_no_coroutines l id, 25) ∷ (not (has_packet_in l (address_of_task l id)), 7) ∷ []) (all-passed (guest_tests l id) (deletion_tests l id) e).1).1 in
            not_out (has_packet_out l id) (all-passed ((not (has_packet_out l id), 13) ∷ []) ((has_no_coroutines l id, 25) ∷ (not (has_packet_in l (address_of_task l id)), 7) ∷ []) third).0
          where
            not_out : (b : Bool) → ◌≡◌ {A = Option ℕ} (cond (not b) None (Some 13)) None → b ≡ false
            not_out false e = refl
            not_out true e = cc

        on : (o : Option ℕ) → first_refusal (guest_tests l id ++ deletion_tests l id) ≡ o → P (by_refusal o l (done (without_task l id))).lists
        on None e = beside (with_tasks (without_first (λ t. eqb t.id id) l.tasks) l) (given (address_of_task l id) l.blocks) l.modules (gone l id (high-guest id low) (away e) h)
        on (Some code) e = h

    -- ---- clearing up

    cleared_at-keeps : (id : ℕ) (k : StoreWithLists) → 5 ≤ id → P k.lists → P (cleared_at id k).lists
    cleared_at-keeps id k low h = on (find (λ t. eqb t.id id) k.lists.tasks)
      where
        first : P (delete_task k.lists id).lists
        first = delete-keeps k.lists id low h

        after : (r : Result ℕ ℕ) (m : ℕ) → P (after_deletion r m (left_by k.words (delete_task k.lists id))).lists
        after (Ok n) m = unload-keeps (delete_task k.lists id).lists m first
        after (Err code) m = first

        own : (b : Bool) (m : ℕ) → P (cond b (deleted id m k) k).lists
        own true m = after (delete_task k.lists id).answer m
        own false m = h

        on : (o : Option Task) → P (cleared_task id o k).lists
        on None = h
        on (Some t) = own (eqb t.maker 1) (first_module_of t)

    cleared_all-keeps : (id n : ℕ) (k : StoreWithLists) → 5 ≤ id → P k.lists → P (cleared_all (range_with_len id n) k).lists
    cleared_all-keeps id zero k low h = h
    cleared_all-keeps id (suc n) k low h = cleared_all-keeps (id + 1) n (cleared_at id k) (omega (arith, low)) (cleared_at-keeps id k low h)

    pub one-cleared : (id : ℕ) (k : StoreWithLists) → 5 ≤ id → P k.lists → P (cleared_at id k).lists
    one-cleared id k low h = cleared_at-keeps id k low h

    pub cleared-keeps : (k : StoreWithLists) → P k.lists → P (cleared k).lists
    unfolding cleared
    cleared-keeps k h = cleared_all-keeps 5 (highest_id_of k.lists.version - 4) k (omega arith) h

  -- ---- starting a program

  load-keeps : (l : Lists) (o : Option (List ℕ)) (rest : Result (Unit {0}) ℕ) → P l → P (load_found o rest l).lists
  load-keeps l None rest h = h
  load-keeps l (Some bytes) (Err code) h = h
  load-keeps l (Some bytes) (Ok u) h = on (module_of bytes)
    where
      on : (r : Result Module Refusal) → P (load_text l r).lists
      on (Err refusal) = h
      on (Ok m) = by (first_refusal (load_tests l m.hunks))
        where
          by : (o : Option ℕ) → P (by_refusal o l (record { answer = Ok (loaded_at m.hunks l); lists = with_loaded m.hunks l; plain = hunk_words (loaded_at m.hunks l) m.hunks; events = [] })).lists
          by None = beside l (with_loaded m.hunks l).blocks (with_loaded m.hunks l).modules h
          by (Some code) = h

  module _ (new : AllowsNew P) where
    creation-keeps : (s : List ℕ) (l : Lists) (ms : List ℕ) (u pri maker : ℕ) → P l → P (create_task s l 0 ms u pri maker).lists
    creation-keeps s l ms u pri maker h = on (first_refusal (creation_tests s l 0 ms u pri)) refl
      where
        on : (o : Option ℕ) → first_refusal (creation_tests s l 0 ms u pri) ≡ o → P (by_refusal o l (with_created s l (new_task l (unwrap_or (free_id l) 0) ms u pri maker))).lists
        on None e = new (with_taken (last_word_of l.version u) l) (new_task l (unwrap_or (free_id l) 0) ms u pri maker) (record { guest = high-guest (unwrap_or (free_id l) 0) (number-range s l ms u pri e).0; dead = refl; queue = refl; fault = refl }) (beside l (with_taken (last_word_of l.version u) l).blocks l.modules h)
        on (Some code) e = h

    pub started-keeps : (d : Disc) (name : List ℕ) (rest : Result (Unit {0}) ℕ) (pri : Priority) (k : StoreWithLists) → P k.lists → P (start_program d name rest pri k).left.lists
    unfolding start_program
    started-keeps d name rest pri k h = on (load_program d name rest k.lists).answer
      where
        j : StoreWithLists
        j = left_by k.words (load_program d name rest k.lists)

        loaded : P j.lists
        loaded = load-keeps k.lists (option_map (λ f. f.bytes) (file_named d name)) rest h

        created : (m : ℕ) → P (creation pri m j).lists
        created m = creation-keeps j.words j.lists (m ∷ []) 1000 (priority_of pri j.lists) 1 loaded

        after : (r : Result ℕ ℕ) (m : ℕ) → P (after_creation r m (left_by j.words (creation pri m j))).left.lists
        after (Ok id) m = created m
        after (Err code) m = unload-keeps (creation pri m j).lists m (created m)

        on : (r : Result ℕ ℕ) → P (after_loading r pri j).left.lists
        on (Ok m) = after (creation pri m j).answer m
        on (Err code) = loaded

-- ---- the program

-- one that was started is a guest that is there
pub started-there : (d : Disc) (name : List ℕ) (rest : Result (Unit {0}) ℕ) (pri : Priority) (k : StoreWithLists) (id : ℕ) → (start_program d name rest pri k).answer ≡ Ok id
    → HasProgram k.lists.version id (start_program d name rest pri k).left.lists
unfolding start_program
started-there d name rest pri k id is = on (load_program d name rest k.lists).answer is
  where
    j : StoreWithLists
    j = left_by k.words (load_program d name rest k.lists)

    version : j.lists.version ≡ k.lists.version
    version = load-keeps (λ m. m.version ≡ k.lists.version) (λ m bs ms h. h) k.lists (option_map (λ f. f.bytes) (file_named d name)) rest refl

    after : (m : ℕ) (r : Result ℕ ℕ) → (creation pri m j).answer ≡ r → (after_creation r m (left_by j.words (creation pri m j))).answer ≡ Ok id
        → HasProgram k.lists.version id (after_creation r m (left_by j.words (creation pri m j))).left.lists
    after m (Err code) a e = cc
    after m (Ok n) a e =
        let same : n ≡ id = cc in
        let here = a ∙ ap Ok same in
        let range = created-range j.words j.lists (m ∷ []) 1000 (priority_of pri j.lists) 1 id here in
        record {
          low = range.0;
          high = subst (λ v. id ≤ highest_id_of v) version range.1;
          there = (created j.words j.lists 0 (m ∷ []) 1000 (priority_of pri j.lists) 1 id here).there;
        }

    on : (r : Result ℕ ℕ) → (after_loading r pri j).answer ≡ Ok id → HasProgram k.lists.version id (after_loading r pri j).left.lists
    on (Ok m) e = after m (creation pri m j).answer refl e
    on (Err code) e = cc
