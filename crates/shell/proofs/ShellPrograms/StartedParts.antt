-- A program is started: its module is loaded, and its task is created; or what was done is undone.
use Rattle.std.proofs.Common.{◌≡◌, ℕ, ◌+◌, ◌≤◌, List, [], ◌∷◌, length, true, false, Option, Some, Result, Ok, Err, refl, sym, subst, arith}
use Rattle.std.specs.Prelude.{is_err}
use Rattle.module_text.specs.ModuleForm.{IsModule}
use Rattle.module_text.specs.Shapes.{check_of}
use Rattle.module_text.specs.declared.modules.Module.{Module}
use Rattle.ram_disc.specs.Disc.{Disc}
use Rattle.kernel_model.specs.KernelRecord.ChangedStore.{HasKeeper}
use Rattle.kernel_model.specs.KernelRecord.Lists.{Lists}
use Rattle.kernel_calls.specs.CallAnswers.CallChange.{CallChange, IsMade, refused}
use Rattle.kernel_calls.specs.ModuleCalls.LoadModule.{load_module}
use Rattle.kernel_calls.specs.ModuleCalls.UnloadModule.{unload_module}
use Rattle.kernel_calls.specs.TaskCalls.CreateTask.{create_task}
use Rattle.kernel_model.specs.KernelRecord.StoreWithLists.{StoreWithLists, store_with_lists}
use Rattle.kernel_boot.proofs.StoresAfterCalls.{left-is, text-made}
use Rattle.shell.specs.ShellPrograms.StoresWithLists.{RepresentsStoreWithLists, left_by}
use Rattle.shell.specs.ShellPrograms.StartedProgram.{IsStarted, after_creation, after_loading, create_program, creation, load_found, load_program, priority_of, start_program}
use Rattle.shell.specs.declared.shell_programs.programs.Priority.{Priority}
use Rattle.shell.proofs.ShellPrograms.StoresAfterCalls.{made-after, made-represents}

-- ---- loading

-- the file is there, and nothing refuses the rest of the line
pub found-made : (s t : List ℕ) (tells : List ℕ → Type 0) (r : Result ℕ ℕ) (l : Lists) (bytes : List ℕ) (o : Option (List ℕ)) (rest : Result (Unit {0}) ℕ) (u : Unit {0}) → Some bytes ≡ o → rest ≡ Ok u
    → ((m : Module) → IsModule bytes m → IsMade s t tells r (load_module l m.hunks)) → ((code : ℕ) → check_of bytes ≡ Err code → IsMade s t tells r (refused l (60 + code)))
    → IsMade s t tells r (load_found o rest l)
found-made s t tells r l bytes o rest u is ok made no_module =
    subst (λ z. IsMade s t tells r (load_found z rest l)) is
    (subst (λ z. IsMade s t tells r (load_found (Some bytes) z l)) (sym ok) (text-made s t tells r l bytes made no_module))

-- ---- creating

module _ (pri : Priority) (m : ℕ) (s t : List ℕ) (l : Lists) (tells : List ℕ → Type 0) (room p : ℕ) (is : p ≡ priority_of pri l) (r : Result ℕ ℕ)
    (made : IsMade s t tells r (create_task s l 0 (m ∷ []) 1000 p 1)) (enough : length s ≤ room) where
  abbrev left : StoreWithLists
  left = left_by s (creation pri m (store_with_lists s l))

  so : IsMade s t tells r (creation pri m (store_with_lists s l))
  so = subst (λ z. IsMade s t tells r (create_task s l 0 (m ∷ []) 1000 z 1)) is made

  now : RepresentsStoreWithLists t tells room left
  now = made-represents s t tells room r (creation pri m (store_with_lists s l)) so enough

  pub created-keeper : HasKeeper t tells room (creation pri m (store_with_lists s l)).lists
  created-keeper = now.keeper

  pub program-created : is_err r ≡ false → IsStarted t tells room r (create_program pri m (store_with_lists s l))
  program-created e = on r e so.leaves.answered
    where
      on : (r : Result ℕ ℕ) → is_err r ≡ false → r ≡ (creation pri m (store_with_lists s l)).answer → IsStarted t tells room r (create_program pri m (store_with_lists s l))
      on (Err code) e a = cc
      on (Ok id) e a = subst (λ x. IsStarted t tells room (Ok id) (after_creation x m left)) a (record { answered = refl; represents = now })

  pub program-refused : (u : List ℕ) (more : List ℕ → Type 0) (after : ℕ) (q : Result ℕ ℕ) → after ≡ room → is_err r ≡ true → IsMade t u more q (unload_module (creation pri m (store_with_lists s l)).lists m)
      → IsStarted u more after r (create_program pri m (store_with_lists s l))
  program-refused u more after q same e gone = on r e so.leaves.answered
    where
      undone : RepresentsStoreWithLists u more after (left_by left.words (unload_module (creation pri m (store_with_lists s l)).lists m))
      undone = made-after left t u more after q (unload_module (creation pri m (store_with_lists s l)).lists m) now.words gone (omega (arith, same, now.keeper.enough))

      on : (r : Result ℕ ℕ) → is_err r ≡ true → r ≡ (creation pri m (store_with_lists s l)).answer → IsStarted u more after r (create_program pri m (store_with_lists s l))
      on (Ok id) e a = cc
      on (Err code) e a = subst (λ x. IsStarted u more after (Err code) (after_creation x m left)) a (record { answered = refl; represents = undone })

-- ---- both

module _ (d : Disc) (name : List ℕ) (rest : Result (Unit {0}) ℕ) (pri : Priority) (s t : List ℕ) (l : Lists) (tells : List ℕ → Type 0) where
  abbrev made : CallChange
  made = load_program d name rest l

  -- nothing was loaded
  pub not-started : (room code : ℕ) (r : Result ℕ ℕ) → r ≡ Err code → length s ≤ room → IsMade s t tells (Err code) made → IsStarted t tells room r (start_program d name rest pri (store_with_lists s l))
  unfolding start_program
  not-started room code r is enough h =
      subst (λ x. IsStarted t tells room r (after_loading x pri (left_by s made))) h.leaves.answered
      (record { answered = is; represents = made-represents s t tells room (Err code) made h enough })

  -- the module was loaded
  pub loaded-then : (u : List ℕ) (more : List ℕ → Type 0) (room m : ℕ) (r : Result ℕ ℕ) → IsMade s t tells (Ok m) made → IsStarted u more room r (create_program pri m (store_with_lists t made.lists))
      → IsStarted u more room r (start_program d name rest pri (store_with_lists s l))
  unfolding start_program
  loaded-then u more room m r h x =
      subst (λ z. IsStarted u more room r (after_loading z pri (left_by s made))) h.leaves.answered
      (subst (λ w. IsStarted u more room r (create_program pri m (store_with_lists w made.lists))) (left-is s t made.lists made.plain h.leaves.lists) x)
