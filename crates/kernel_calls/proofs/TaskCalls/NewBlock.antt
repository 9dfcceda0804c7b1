-- The block that a new task takes, and the words that stay where it is.
use Rattle.std.proofs.Common.{◌≡◌, ◌≢◌, ℕ, ◌+◌, ◌<◌, ◌≤◌, ◌^◌, List, [], ◌&&◌, cond, eqb, map, Bool, true, false, Option, Some, None, Result, Ok, refl, sym, ap, ◌∙◌, subst, arith}
use Rattle.std.specs.Prelude.{is_some}
use Rattle.std.specs.List.{flat_map}
use Rattle.kernel_lists.specs.LinkedList.Places.{has}
use Rattle.kernel_lists.specs.declared.getvec_chain.pieces.Run.{Run}
use Rattle.kernel_lists.specs.GetvecChain.Run.{first_run, need}
use Rattle.kernel_lists.specs.GetvecChain.Take.{taken}
use Rattle.kernel_lists.specs.HunkLoader.HeldModules.{module_address}
use Rattle.kernel_model.specs.KernelRecord.BlockUse.{coroutine_addresses, use_of_data}
use Rattle.kernel_model.specs.declared.kernel_record.uses.Use.TheVariants.{OfCoroutine, OfModule, OfResidents, OfTask, User}
use Rattle.kernel_model.specs.KernelRecord.ChangedStore.{Knows}
use Rattle.kernel_model.specs.KernelRecord.Lists.{Lists}
use Rattle.kernel_model.specs.KernelRecord.ValidLists.{AreValid}
use Rattle.kernel_model.specs.KernelRecord.Task.{task_address}
use Rattle.kernel_model.specs.KernelRecord.ValidBlocks.{HasBlock}
use Rattle.kernel_model.proofs.KernelRecord.DataInside.{HasBlock-inside}
use Rattle.kernel_model.proofs.KernelRecord.TakenBlocks.{take-valid, taken-block, taken-unowned}
use Rattle.kernel_calls.specs.CallAnswers.CallChange.{CallChange, IsMade, by_refusal}
use Rattle.kernel_calls.specs.BlockCalls.FreeStore.{data_of_front, data_taken, has_room, with_taken}
use Rattle.kernel_calls.specs.BlockCalls.Getvec.{getvec}
use Rattle.kernel_model.proofs.WordKinds.OwnedMarks.{size-low}
use Rattle.kernel_calls.proofs.BlockCalls.TakenStore.{HasTakenBlock}
use Rattle.kernel_calls.specs.TaskCalls.CreateTask.{last_word_of}

-- ---- what was taken

module _ (s t : List ℕ) (l : Lists) (u v : ℕ) (told : List ℕ → Type 0) (valid : AreValid l) (m : IsMade s t told (Ok v) (getvec l u)) where
  abbrev made : CallChange
  made = record { answer = Ok (data_taken u l); lists = with_taken u l; plain = []; events = [] }

  pub took-block : HasTakenBlock s t l u v × Knows told (with_taken u l)
  took-block = on (first_run (need u) l.blocks) refl m
    where
      same : (x y : ℕ) → ◌≡◌ {A = Result ℕ ℕ} (Ok x) (Ok y) → x ≡ y
      same x y e = cc

      on : (o : Option Run) → first_run (need u) l.blocks ≡ o → IsMade s t told (Ok v) (by_refusal (cond (is_some o) None (Some 1)) l made) → HasTakenBlock s t l u v × Knows told (with_taken u l)
      on None e k = (let wrong = k.leaves.answered in cc)
      on (Some run) e k =
          let at : v ≡ run.start + 1 = same v (data_taken u l) k.leaves.answered ∙ ap data_of_front e in
          let free = taken-unowned l u run valid e in (
            record {
              run = run;
              first = e;
              front = at;
              changed = k.leaves.lists;
              block = subst (λ z. HasBlock (taken (need u) l.blocks) z u) (sym at) (taken-block l u run valid e);
              unowned = λ a low high. free a (omega (arith, low, at)) (omega (arith, high, at, large u));
            },
            k.knows,
          )
        where
          large : (u : ℕ) → u + 2 ≤ need u
          large u = omega arith

-- ---- more words than there are addresses

pub no_room : (l : Lists) (u k : ℕ) → AreValid l → k ≡ last_word_of l.version u → 2 ^ 32 ≤ k → has_room (last_word_of l.version u) l ≡ false
no_room l u k valid is large = ap (λ z. has_room z l) (sym is) ∙ on (first_run (need k) l.blocks) refl
  where
    on : (o : Option Run) → first_run (need k) l.blocks ≡ o → is_some (first_run (need k) l.blocks) ≡ false
    on None e = ap is_some e
    on (Some run) e =
        let inside : run.start + 1 + k < l.size =
        HasBlock-inside (with_taken k l) (run.start + 1) k (run.start + 1 + k) (take-valid l k valid).blocks (taken-block l k run valid e) (omega arith)
        in
        absurd (omega (arith, inside, large, size-low l valid))

-- ---- a block whose first word nobody owns is no module's

pub no-module : (l : Lists) (v m : ℕ) → use_of_data l v ≡ User → has m (map module_address l.modules) ≡ true → m ≢ v
no-module l v m user some e =
    on (l.residents && eqb v 201) (has v (map task_address l.tasks)) (has v (map module_address l.modules)) (has v (flat_map coroutine_addresses l.tasks)) (ap (λ z. has z (map module_address l.modules)) (sym e) ∙ some) user
  where
    on : (r t n c : Bool) → n ≡ true → cond r OfResidents (cond t OfTask (cond n OfModule (cond c OfCoroutine User))) ≡ User → ⊥
    on true t n c is h = cc
    on false true n c is h = cc
    on false false true c is h = cc
    on false false false c is h = cc
