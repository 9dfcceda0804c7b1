-- A coroutine of the running task is made.
use Rattle.std.proofs.Common.{◌≡◌, ℕ, ◌+◌, ◌≤◌, List, [], ◌∷◌, ◌++◌, get_or, length, map, set, cond, Bool, true, false, Some, None, Ok, Err, Result, refl, sym, ap, ◌∙◌, subst, arith}
use Rattle.std.specs.Prelude.{IfOk, OnErr, OnOk, is_err, is_some}
use Rattle.std.specs.List.{range_with_len}
use Rattle.word_store.specs.Count.{times}
use Rattle.kernel_lists.specs.LinkedList.Places.{has}
use Rattle.kernel_lists.proofs.LinkedList.AllMembers.{all-has}
use Rattle.kernel_lists.specs.OwnedWords.Exchange.{Exchange}
use Rattle.kernel_lists.specs.OwnedWords.LinkedWords.{first_of}
use Rattle.kernel_lists.specs.OwnedWords.Owned.{Pairs, owners, row_from, written}
use Rattle.kernel_lists.proofs.OwnedWords.RowWords.{with_words-written}
use Rattle.kernel_lists.specs.declared.getvec_chain.pieces.Block.{Block}
use Rattle.kernel_lists.proofs.GetvecChain.AfterTake.{after_take}
use Rattle.kernel_lists.specs.TaskBlock.Lists.{first_coroutine}
use Rattle.kernel_lists.specs.Coroutines.CoroutineExchanges.{CreateExchange, HoldsCoroutines, TaskCoroutines, created_words, new_coroutine, words_of_coroutines}
use Rattle.kernel_lists.specs.Coroutines.Creation.{IsCreated, highest, new_words}
use Rattle.kernel_lists.specs.Coroutines.HeldCoroutines.{Coroutine, address_of}
use Rattle.kernel_lists.proofs.Coroutines.CoroutineLists.{Built}
use Rattle.kernel_lists.proofs.Coroutines.CreationExchanges.{create-exchange}
use Rattle.kernel_lists.proofs.Coroutines.HeldCoroutineLists.{held-coroutines, parent_of-none}
use Rattle.kernel_lists.proofs.Coroutines.KnownCoroutines.{known-block}
use Rattle.kernel_model.specs.KernelRecord.ChangedStore.{IsChanged, Knows}
use Rattle.kernel_model.specs.KernelRecord.Changes.{AreUnowned, with_coroutines, with_tasks}
use Rattle.kernel_model.specs.KernelRecord.HoldsLists.{HoldsLists}
use Rattle.kernel_model.specs.KernelRecord.Lists.{Lists}
use Rattle.kernel_model.specs.KernelRecord.Owned.{owned}
use Rattle.kernel_model.specs.KernelRecord.Task.{task_address}
use Rattle.kernel_model.specs.KernelRecord.ValidLists.{AreValid}
use Rattle.kernel_model.specs.KernelRecord.ValidTasks.{IsCoroutine}
use Rattle.kernel_model.proofs.KernelRecord.ChangedLists.{changed-then, exchange-owned, one_task-owned}
use Rattle.kernel_model.proofs.KernelRecord.CoroutineMoves.{new_coroutine-valid}
use Rattle.kernel_model.proofs.KernelRecord.DataInside.{HasBlock-inside}
use Rattle.kernel_model.proofs.KernelRecord.TaskCounts.{owners-coroutine}
use Rattle.kernel_calls.specs.BlockCalls.FreeStore.{data_of_front, data_taken, has_room, with_taken}
use Rattle.kernel_calls.proofs.BlockCalls.TakenStore.{HasTakenBlock, taken-changed}
use Rattle.kernel_calls.specs.CallAnswers.Guests.{GuestAt}
use Rattle.kernel_calls.specs.CallAnswers.CallChange.{IsMade}
use Rattle.kernel_calls.proofs.CallAnswers.FoundTask.{reads}
use Rattle.kernel_calls.proofs.CallAnswers.MadeCalls.{made-accepted, made-refused}
use Rattle.kernel_model.specs.WordKinds.Keeper.{AreTogether}
use Rattle.kernel_model.proofs.WordKinds.KnownWords.{knows-claimed}
use Rattle.kernel_lists.specs.declared.getvec_chain.calls.NoRoom.{NoRoom}
use Rattle.kernel_lists.specs.declared.getvec_chain.pieces.Run.{Run}
use Rattle.kernel_lists.specs.GetvecChain.Run.{first_run, need}
use Rattle.kernel_lists.specs.GetvecChain.Tiling.{blocks_in}
use Rattle.kernel_calls.specs.CoroutineCalls.CreateCo.{create_tests, created as created_by, createco, with_created, with_created_at}
use Rattle.kernel_calls.proofs.CoroutineCalls.CallersTask.{callers-between, callers-guest, callers-held, task-exchange}

module _ (s : List ℕ) (l : Lists) (t : ℕ) (h : HoldsLists s l) (g : GuestAt l l.running t) (c entry u : ℕ) (v : List ℕ) (made : IsCreated s v t c entry u) where
  abbrev own : TaskCoroutines
  own = g.task.coroutines

  abbrev one : Coroutine
  one = new_coroutine c entry u

  -- the lists between the two steps, and after both
  abbrev m : Lists
  m = with_taken (highest u) l

  abbrev n : Lists
  n = with_tasks (g.front ++ with_coroutines (one ∷ own.list) g.task ∷ g.back) m

  block : HasTakenBlock s made.taken l (highest u) c
  block = taken-changed s made.taken l (highest u) c h made.block

  enough : 16 ≤ highest u
  enough = omega arith

  coroutine : IsCoroutine m one
  coroutine = record { block = block.block; high = enough }

  unowned : AreUnowned m c (c + 10)
  unowned a low high = block.unowned a low (omega (arith, high, enough))

  valid : AreValid n
  valid = new_coroutine-valid m g.front g.back g.task [] own.list one block.changed.lists.valid g.is refl (callers-guest s l t h g) coroutine unowned

  x : CreateExchange s v t own c entry u
  x = create-exchange s v t own c entry u (callers-held s l t h g) made

  abbrev old : Pairs
  old = (first_coroutine t, first_of address_of own.list 0) ∷ []

  abbrev new : Pairs
  new = created_words t own c entry u

  exchange : Exchange (owned m) (owned n) old new
  exchange =
      one_task-owned m g.front g.task (with_coroutines (one ∷ own.list) g.task) g.back old new g.is refl refl
      (task-exchange m.version g.task (with_created c entry u own) (first_of task_address g.back 0) old new
      (subst (λ a. Exchange (words_of_coroutines a own) (words_of_coroutines a (with_created c entry u own)) old new) (sym g.at) x.exchange))

  -- no active one is at c, where there was no used block
  idle : has c own.active ≡ false
  idle = on (has c own.active) refl
    where
      held : HoldsCoroutines s t own
      held = callers-held s l t h g

      had : Built s t (map address_of own.list) own.active
      had = held-coroutines s t own.active own.list held.coroutines

      some-none : {b : Block} → Some b ≡ None → ⊥
      some-none e = cc

      on : (b : Bool) → has c own.active ≡ b → b ≡ false
      on false e = refl
      on true e =
          absurd (some-none (sym (known-block s t c had.valid (ap (has c) had.list ∙ all-has (λ a. has a (map address_of own.list) ≡ true) c own.active held.coroutines.members e)).block
          ∙ (after_take s made.taken (highest u) c held.coroutines.tiled made.block).was_none))

  writes : v ≡ written new made.taken
  writes =
      made.words ∙ ap (λ z. set z (t + 17) c) (with_words-written made.taken c (new_words c (get_or s (t + 17) 0) entry u))
      ∙ (λ i. set (written (row_from c 0 ((c + 7) ∷ sym (parent_of-none t own.active c idle) i ∷ first i ∷ entry ∷ highest u ∷ c ∷ entry ∷ 0 ∷ 0 ∷ entry ∷ [])) made.taken) (t + 17) c)
    where
      first : get_or s (t + 17) 0 ≡ first_of address_of own.list 0
      first = (callers-held s l t h g).coroutines.held.holds.0

  -- ten words more are owned
  created-count : (a : ℕ) → owners a (owned n) ≡ owners a (owned m) + times a (range_with_len c 10)
  created-count a = omega (arith, exchange.first.count a, exchange.then'.count a, owners-coroutine a t own.active one (first_of address_of own.list 0))

  created : IsChanged made.taken v n []
  created = exchange-owned made.taken v m n old new block.changed.lists valid refl exchange writes

  whole : IsChanged s v n []
  whole = changed-then s made.taken v m n [] block.changed created (λ a none. omega (arith, none, created-count a))

  lists-are : with_created_at c entry u l ≡ n
  lists-are = ap (λ ts. with_tasks ts m) (callers-between s l t h g (with_created c entry u))

  pub created-changed : IsChanged s v (with_created_at c entry u l) []
  created-changed = subst (λ z. IsChanged s v z []) (sym lists-are) whole

  pub created-more : (a : ℕ) → owners a (owned (with_created_at c entry u l)) ≡ owners a (owned (with_taken (highest u) l)) + times a (range_with_len c 10)
  created-more a = ap (λ z. owners a (owned z)) lists-are ∙ created-count a

  -- its own words lie in the store
  pub created-inside : c + 10 ≤ length s
  created-inside = omega (arith, HasBlock-inside m c (highest u) (c + 9) block.changed.lists.valid.blocks block.block (omega (arith, enough)), h.size)

  pub created-room : has_room (highest u) l ≡ true
  created-room = ap is_some block.first

  pub created-there : data_taken (highest u) l ≡ c
  created-there = ap data_of_front block.first ∙ sym block.front

-- ---- the call

module _ (s v : List ℕ) (told knew : List ℕ → Type 0) (l : Lists) (t : ℕ) (h : HoldsLists s l) (g : GuestAt l l.running t) (c entry u : ℕ) (is : IsCreated s v t c entry u) where
  -- the keeper was told of the take, and then that the coroutine's words are the kernel's
  pub createco-made : Knows told (with_taken (highest u) l) → ((known after : List ℕ) → told known → AreTogether after known (range_with_len c 10) → knew after)
      → IsMade s v knew (Ok c) (createco l entry u)
  createco-made knows claim =
      made-accepted s l (create_tests l u) (created_by (data_taken (highest u) l) entry u l) v knew (Ok c)
      (ap (λ b. cond b None (Some 20)) (created-room s l t h g c entry u v is))
      (subst (λ z. IsMade s v knew (Ok c) (created_by z entry u l)) (sym (created-there s l t h g c entry u v is))
      (record {
        leaves = record { lists = created-changed s l t h g c entry u v is; answered = refl };
        knows = knows-claimed told knew (with_taken (highest u) l) (with_created_at c entry u l) c 10 (created-more s l t h g c entry u v is) knows claim;
      }))

-- there is no run that is large enough
pub createco-refused : (s : List ℕ) (tells : List ℕ → Type 0) (l : Lists) (entry u : ℕ) → HoldsLists s l → Knows tells l → first_run (need (highest u)) (blocks_in s) ≡ None
    → IsMade s s tells (Err 20) (createco l entry u)
createco-refused s tells l entry u h knows none =
    made-refused s l (create_tests l u) (created_by (data_taken (highest u) l) entry u l) tells 20 h knows
    (ap (λ o. cond (is_some o) None (Some 20)) (ap (first_run (need (highest u))) (sym (reads s l h).blocks) ∙ none))
