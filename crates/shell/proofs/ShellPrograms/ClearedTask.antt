-- One task is cleared up, or stays.
use Rattle.std.proofs.Common.{◌≡◌, ◌≢◌, ℕ, ◌+◌, ◌≤◌, List, [], ◌∷◌, get_or, map, cond, eqb, ◌||◌, Bool, true, false, Some, None, Result, Ok, Err, refl, sym, ap, ◌∙◌, subst, arith}
use Rattle.std.specs.Prelude.{find, is_ok}
use Rattle.std.proofs.lemmas.Bool.{eq-eqb, ne_eqb}
use Rattle.word_store.specs.Count.{IsApart}
use Rattle.kernel_lists.specs.OwnedWords.Owned.{Holds}
use Rattle.kernel_model.specs.KernelRecord.ChangedStore.{HasKeeper}
use Rattle.kernel_model.specs.KernelRecord.Lists.{Lists, has_task}
use Rattle.kernel_model.specs.KernelRecord.Task.{Task, state_words, task_id}
use Rattle.kernel_calls.specs.CallAnswers.Guests.{GuestAt, IsGuestOf}
use Rattle.kernel_calls.specs.CallAnswers.CallChange.{IsMade, plain_answer}
use Rattle.kernel_calls.proofs.CallAnswers.FoundTask.{find-numbered}
use Rattle.kernel_calls.proofs.CallAnswers.GuestTask.{guest-words}
use Rattle.kernel_calls.specs.ModuleCalls.UnloadModule.{unload_module}
use Rattle.kernel_calls.specs.TaskCalls.DeleteTask.{delete_task}
use Rattle.kernel_model.specs.KernelRecord.StoreWithLists.{StoreWithLists, store_with_lists}
use Rattle.kernel_boot.proofs.StartedTasks.{guest-away}
use Rattle.shell.specs.ShellPrograms.ClearedTasks.{after_deletion, cleared_at, cleared_task, deleted, first_module_of}
use Rattle.shell.specs.ShellPrograms.StoresWithLists.{RepresentsStoreWithLists, left_by}
use Rattle.shell.proofs.ShellPrograms.StoresAfterCalls.{made-after, made-represents, same-represents}

none-found : (id : ℕ) (ts : List Task) → has_task id ts ≡ false → find (λ t. eqb t.id id) ts ≡ None
none-found id [] e = refl
none-found id (t ∷ ts) e = on (eqb t.id id) e (none-found id ts)
  where
    on : (b : Bool) → (b || has_task id ts) ≡ false → (has_task id ts ≡ false → find (λ t. eqb t.id id) ts ≡ None) → cond b (Some t) (find (λ t. eqb t.id id) ts) ≡ None
    on true e more = cc
    on false e more = more e

module _ (s : List ℕ) (l : Lists) (id : ℕ) (tells : List ℕ → Type 0) (room : ℕ) (k : HasKeeper s tells room l) where
  -- there is no such task
  pub cleared-none : (r : Result ℕ ℕ) → IsGuestOf l id r → 5 ≤ id → is_ok r ≡ false → RepresentsStoreWithLists s tells room (cleared_at id (store_with_lists s l))
  cleared-none r g low e =
      same-represents s tells room l (cleared_at id (store_with_lists s l)) k
      (ap (λ o. cleared_task id o (store_with_lists s l)) (none-found id l.tasks (guest-away l id r g low e)))

  module _ (address : ℕ) (g : GuestAt l id address) where
    found : find (λ t. eqb t.id id) l.tasks ≡ Some g.task
    found = ap (find (λ t. eqb t.id id)) g.is ∙ find-numbered id g.front g.task g.back g.number (subst (λ ts. IsApart (map task_id ts)) g.is k.lists.valid.tasks.distinct)

    words : Holds s (state_words l.version g.task)
    words = guest-words s l id address k.lists g

    maker-read : get_or s (address + 9) 0 ≡ g.task.maker
    maker-read = ap (λ a. get_or s (a + 9) 0) (sym g.at) ∙ words.1.1.1.1.1.0

    module-read : get_or s (address + 10) 0 ≡ first_module_of g.task
    module-read = ap (λ a. get_or s (a + 10) 0) (sym g.at) ∙ words.1.1.1.1.1.1.0

    -- the shell has not made it
    pub cleared-other : get_or s (address + 9) 0 ≢ 1 → RepresentsStoreWithLists s tells room (cleared_at id (store_with_lists s l))
    cleared-other other =
        same-represents s tells room l (cleared_at id (store_with_lists s l)) k
        (ap (λ o. cleared_task id o (store_with_lists s l)) found
        ∙ ap (λ b. cond b (deleted id (first_module_of g.task) (store_with_lists s l)) (store_with_lists s l)) (ne_eqb g.task.maker 1 (λ e. other (maker-read ∙ e))))

    -- it has: the task is deleted where the call accepts, with the module that its word 10 names
    module _ (own : get_or s (address + 9) 0 ≡ 1) (m : ℕ) (is : m ≡ get_or s (address + 10) 0) where
      cleared-is : cleared_at id (store_with_lists s l) ≡ deleted id m (store_with_lists s l)
      cleared-is =
          ap (λ o. cleared_task id o (store_with_lists s l)) found
          ∙ ap (λ b. cond b (deleted id (first_module_of g.task) (store_with_lists s l)) (store_with_lists s l)) (eq-eqb g.task.maker 1 (sym maker-read ∙ own))
          ∙ ap (λ n. deleted id n (store_with_lists s l)) (sym (is ∙ module-read))

      module _ (t : List ℕ) (told : List ℕ → Type 0) (r : Result (Unit {0}) ℕ) (made : IsMade s t told (plain_answer r) (delete_task l id)) where
        abbrev left : StoreWithLists
        left = left_by s (delete_task l id)

        now : (after : ℕ) → after ≡ room → RepresentsStoreWithLists t told after left
        now after same = made-represents s t told after (plain_answer r) (delete_task l id) made (omega (arith, same, k.enough))

        pub deleted-keeper : (after : ℕ) → after ≡ room → HasKeeper t told after (delete_task l id).lists
        deleted-keeper after same = (now after same).keeper

        -- it is refused
        pub cleared-refused : (after : ℕ) → after ≡ room → is_ok r ≡ false → RepresentsStoreWithLists t told after (cleared_at id (store_with_lists s l))
        cleared-refused after same e = subst (RepresentsStoreWithLists t told after) (sym (cleared-is ∙ on r e made.leaves.answered)) (now after same)
          where
            on : (r : Result (Unit {0}) ℕ) → is_ok r ≡ false → plain_answer r ≡ (delete_task l id).answer → deleted id m (store_with_lists s l) ≡ left
            on (Ok u) e a = cc
            on (Err code) e a = ap (λ x. after_deletion x m left) (sym a)

        -- it is accepted, and the module is unloaded where the call accepts
        pub cleared-whole : (u : List ℕ) (more : List ℕ → Type 0) (after : ℕ) (q : Result ℕ ℕ) → after ≡ room → is_ok r ≡ true → IsMade t u more q (unload_module (delete_task l id).lists m)
            → RepresentsStoreWithLists u more after (cleared_at id (store_with_lists s l))
        cleared-whole u more after q same e gone =
            subst (RepresentsStoreWithLists u more after) (sym (cleared-is ∙ on r e made.leaves.answered))
            (made-after left t u more after q (unload_module (delete_task l id).lists m) (now room refl).words gone (omega (arith, same, (now room refl).keeper.enough)))
          where
            on : (r : Result (Unit {0}) ℕ) → is_ok r ≡ true → plain_answer r ≡ (delete_task l id).answer → deleted id m (store_with_lists s l) ≡ left_by left.words (unload_module (delete_task l id).lists m)
            on (Err code) e a = cc
            on (Ok x) e a = ap (λ x. after_deletion x m left) (sym a)
