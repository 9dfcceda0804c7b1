-- A coroutine of the running task goes, and its block is given back.
use Rattle.std.proofs.Common.{◌≡◌, ℕ, ◌+◌, ◌≤◌, List, [], ◌∷◌, ◌++◌, cond, eqb, ◌||◌, map, Bool, true, false, Some, Ok, refl, sym, ap, ◌∙◌, subst, arith, inl, inr}
use Rattle.std.specs.Prelude.{filter, not}
use Rattle.std.specs.List.{AllByRecursion, flat_map, list_any, range_with_len}
use Rattle.std.proofs.lemmas.Bool.{cases_lt, eq-eqb, eqb-true, ne_eqb}
use Rattle.kernel_lists.specs.LinkedList.Chain.{list_at}
use Rattle.word_store.specs.Count.{IsApart, times}
use Rattle.kernel_lists.specs.LinkedList.Linked.{IsListAt}
use Rattle.kernel_lists.specs.LinkedList.Places.{has}
use Rattle.kernel_lists.proofs.LinkedList.Chains.{nodes-apart}
use Rattle.word_store.proofs.Counts.{hit-same, times-above}
use Rattle.kernel_lists.specs.OwnedWords.Exchange.{Exchange}
use Rattle.kernel_lists.specs.OwnedWords.LinkedWords.{first_of}
use Rattle.kernel_lists.specs.OwnedWords.Owned.{Pairs, owners}
use Rattle.kernel_lists.proofs.OwnedWords.HeldLists.{held-list}
use Rattle.kernel_lists.specs.declared.getvec_chain.pieces.Block.{Block}
use Rattle.kernel_lists.specs.GetvecChain.Block.{block_end, is_used_at, used_block}
use Rattle.kernel_lists.specs.GetvecChain.Run.{need}
use Rattle.kernel_lists.specs.GetvecChain.Give.{given_store}
use Rattle.kernel_lists.specs.GetvecChain.Tiling.{blocks_in, used_at}
use Rattle.kernel_lists.proofs.GetvecChain.AfterGive.{given_store-is}
use Rattle.kernel_lists.proofs.GetvecChain.UsedBlocks.{is_used_at-true}
use Rattle.kernel_lists.specs.TaskBlock.Lists.{coroutine_link}
use Rattle.kernel_lists.specs.Coroutines.CoroutineExchanges.{DeleteExchange, HoldsCoroutines, TaskCoroutines, link_behind, with_list, words_of_coroutines}
use Rattle.kernel_lists.specs.Coroutines.CoroutineWords.{coroutine_size}
use Rattle.kernel_lists.specs.Coroutines.Creation.{deleted}
use Rattle.kernel_lists.specs.Coroutines.HeldCoroutines.{Coroutine, address_of, coroutine_words}
use Rattle.kernel_lists.specs.Coroutines.Refusals.{idle_answer}
use Rattle.kernel_lists.proofs.Coroutines.CreationExchanges.{delete-exchange}
use Rattle.kernel_lists.proofs.Coroutines.HeldCoroutineLists.{are_coroutines}
use Rattle.kernel_model.specs.KernelRecord.BlockUse.{use_of_data}
use Rattle.kernel_model.specs.declared.kernel_record.uses.Use.TheVariants.{User}
use Rattle.kernel_model.specs.KernelRecord.ChangedStore.{IsChanged}
use Rattle.kernel_model.specs.KernelRecord.Changes.{AreUnowned, IsIdleBlock, with_coroutines, with_tasks}
use Rattle.kernel_model.specs.KernelRecord.HoldsLists.{HoldsLists}
use Rattle.kernel_model.specs.KernelRecord.Lists.{Lists, queued}
use Rattle.kernel_model.specs.KernelRecord.Owned.{owned}
use Rattle.kernel_model.specs.KernelRecord.Task.{Task, task_address}
use Rattle.kernel_model.specs.KernelRecord.ValidLists.{AreValid}
use Rattle.kernel_model.specs.KernelRecord.ValidTasks.{IsCoroutine}
use Rattle.kernel_model.proofs.KernelRecord.AllThings.{all-here}
use Rattle.kernel_model.proofs.KernelRecord.ChangedLists.{changed-then, exchange-owned, one_task-owned}
use Rattle.kernel_model.proofs.KernelRecord.CoroutineMoves.{gone_coroutine-unowned, gone_coroutine-valid}
use Rattle.word_store.proofs.Elements.{find-passes}
use Rattle.kernel_model.proofs.KernelRecord.TaskCounts.{owners-coroutine}
use Rattle.kernel_model.proofs.KernelRecord.UnownedBlocks.{unowned-user}
use Rattle.kernel_calls.specs.BlockCalls.Freevec.{has_packet_in, holds_packet, lies_in, with_given}
use Rattle.kernel_calls.proofs.BlockCalls.IdleBlocks.{idle-unowned, none-idle, unowned-empty}
use Rattle.kernel_calls.proofs.BlockCalls.TakenStore.{given-changed, given-owners}
use Rattle.kernel_calls.specs.CallAnswers.Guests.{GuestAt}
use Rattle.kernel_calls.proofs.CallAnswers.FoundTask.{reads}
use Rattle.kernel_calls.specs.CoroutineCalls.CallersCoroutines.{has_parent, is_one_of, with_callers}
use Rattle.kernel_calls.specs.CoroutineCalls.DeleteCo.{IsRoomy, with_deleted, with_deleted_at}
use Rattle.kernel_calls.proofs.CoroutineCalls.CallersTask.{callers-between, callers-held, callers-valid, task-exchange}

-- ---- one of the coroutines in its place

pub record OneOf (c : ℕ) (xs : List Coroutine) : Type 0 where
  pub front : List Coroutine
  pub one : Coroutine
  pub back : List Coroutine
  pub is : xs ≡ front ++ one ∷ back
  pub at : one.address ≡ c

pub one-of : (c : ℕ) (xs : List Coroutine) → has c (map address_of xs) ≡ true → OneOf c xs
one-of c [] some = cc
one-of c (x ∷ xs) some = on (eqb c x.address) refl some (one-of c xs)
  where
    on : (b : Bool) → eqb c x.address ≡ b → (b || has c (map address_of xs)) ≡ true → (has c (map address_of xs) ≡ true → OneOf c xs) → OneOf c (x ∷ xs)
    on true e some more = record { front = []; one = x; back = xs; is = refl; at = sym (eqb-true c x.address e) }
    on false e some more = (let f : OneOf c xs = more some in record { front = x ∷ f.front; one = f.one; back = f.back; is = ap (λ z. x ∷ z) f.is; at = f.at })

-- those at other addresses stay
others-stay : (c : ℕ) (xs : List Coroutine) → times c (map address_of xs) ≡ 0 → filter (λ x. not (eqb x.address c)) xs ≡ xs
others-stay c [] none = refl
others-stay c (x ∷ xs) none =
    ap (λ b. cond (not b) (x ∷ filter (λ x. not (eqb x.address c)) xs) (filter (λ x. not (eqb x.address c)) xs))
    (ne_eqb x.address c (λ e. absurd (omega (arith, none, hit-same c x.address (sym e)))))
    ∙ ap (λ z. x ∷ z) (others-stay c xs (omega (arith, none)))

-- and one goes
one-goes : (c : ℕ) (front : List Coroutine) (x : Coroutine) (back : List Coroutine) → x.address ≡ c → IsApart (map address_of (front ++ x ∷ back))
    → filter (λ y. not (eqb y.address c)) (front ++ x ∷ back) ≡ front ++ back
one-goes c [] x back e apart =
    ap (λ b. cond (not b) (x ∷ filter (λ y. not (eqb y.address c)) back) (filter (λ y. not (eqb y.address c)) back)) (eq-eqb x.address c e)
    ∙ others-stay c back (omega (arith, apart c, hit-same c x.address (sym e)))
one-goes c (z ∷ zs) x back e apart =
    ap (λ b. cond (not b) (z ∷ filter (λ y. not (eqb y.address c)) (zs ++ x ∷ back)) (filter (λ y. not (eqb y.address c)) (zs ++ x ∷ back)))
    (ne_eqb z.address c (λ f. absurd (omega (arith, apart c, hit-same c z.address (sym f), there zs))))
    ∙ ap (λ r. z ∷ r) (one-goes c zs x back e (λ a. omega (arith, apart a)))
  where
    there : (ws : List Coroutine) → 1 ≤ times c (map address_of (ws ++ x ∷ back))
    there [] = omega (arith, hit-same c x.address (sym e))
    there (w ∷ ws) = omega (arith, there ws)

-- the same packets are queued where one task has other coroutines
queues-put : (front : List Task) (t u : Task) (back : List Task) → u.queue ≡ t.queue → flat_map (λ z. z.queue) (front ++ u ∷ back) ≡ flat_map (λ z. z.queue) (front ++ t ∷ back)
queues-put [] t u back e = ap (λ q. q ++ flat_map (λ (z : Task). z.queue) back) e
queues-put (z ∷ zs) t u back e = ap (λ q. z.queue ++ q) (queues-put zs t u back e)

module _ (s : List ℕ) (l : Lists) (t : ℕ) (h : HoldsLists s l) (g : GuestAt l l.running t) (c : ℕ) (known : is_one_of c g.task.coroutines ≡ true) (alone : has_parent c g.task.coroutines ≡ false) where
  abbrev own : TaskCoroutines
  own = g.task.coroutines

  held : HoldsCoroutines s t own
  held = callers-held s l t h g

  o : OneOf c own.list
  o = one-of c own.list known

  apart : IsApart (map address_of own.list)
  apart =
      let list : IsListAt s coroutine_link coroutine_size (t + 17) (map address_of own.list) =
      held-list address_of (coroutine_words t own.active) coroutine_link coroutine_size (are_coroutines s t own.active) s (t + 17) own.list held.coroutines.held
      in
      subst IsApart list.list (nodes-apart s coroutine_link coroutine_size (t + 17) (list_at s coroutine_link (t + 17)) list.valid)

  abbrev left : List Coroutine
  left = o.front ++ o.back

  -- the lists without it
  abbrev m : Lists
  m = with_tasks (g.front ++ with_coroutines left g.task ∷ g.back) l

  left-is : with_deleted c own ≡ with_list left own
  left-is = ap (λ cs. with_list cs own) (ap (filter (λ x. not (eqb x.address c))) o.is ∙ one-goes c o.front o.one o.back o.at (subst (λ cs. IsApart (map address_of cs)) o.is apart))

  lists-are : with_callers (with_deleted c) l ≡ m
  lists-are = ap (λ ts. with_tasks ts l) (callers-between s l t h g (with_deleted c)) ∙ ap (λ k. with_tasks (g.front ++ (record g.task { coroutines = k }) ∷ g.back) l) left-is

  idle : has o.one.address own.active ≡ false
  idle = ap (λ a. has a own.active) o.at ∙ alone

  valid : AreValid m
  valid = gone_coroutine-valid l g.front g.back g.task o.front o.back o.one h.valid g.is o.is idle

  unowned : AreUnowned m c (c + 10)
  unowned = subst (λ a. AreUnowned m a (a + 10)) o.at (gone_coroutine-unowned l g.front g.back g.task o.front o.back o.one h.valid g.is o.is)

  abbrev old : Pairs
  old = (link_behind t o.front, o.one.address) ∷ coroutine_words t own.active o.one (first_of address_of o.back 0)

  abbrev new : Pairs
  new = (link_behind t o.front, first_of address_of o.back 0) ∷ []

  module _ (answer : idle_answer s t c ≡ Ok tt) where
    x : DeleteExchange s (deleted s t o.one.address) t own o.front o.one o.back
    x = delete-exchange s t own o.front o.one o.back (subst (λ cs. HoldsCoroutines s t (with_list cs own)) o.is held) (ap (idle_answer s t) o.at ∙ answer)

    exchange : Exchange (owned l) (owned m) old new
    exchange =
        one_task-owned l g.front g.task (with_coroutines left g.task) g.back old new g.is refl refl
        (task-exchange l.version g.task (with_list left own) (first_of task_address g.back 0) old new
        (subst (λ a. Exchange (words_of_coroutines a own) (words_of_coroutines a (with_list left own)) old new) (sym g.at)
        (subst (λ cs. Exchange (words_of_coroutines t (with_list cs own)) (words_of_coroutines t (with_list left own)) old new) (sym o.is) x.exchange)))

    -- ten words less are owned
    gone-count : (a : ℕ) → owners a (owned l) ≡ owners a (owned m) + times a (range_with_len c 10)
    gone-count a =
        subst (λ z. owners a (owned l) ≡ owners a (owned m) + times a (range_with_len z 10)) o.at
        (omega (arith, exchange.first.count a, exchange.then'.count a, owners-coroutine a t own.active o.one (first_of address_of o.back 0)))

    gone : IsChanged s x.unlinked m []
    gone = exchange-owned s x.unlinked l m old new h valid refl exchange x.writes

    module _ (b : Block) (roomy : IsRoomy l c b) where
      at : b.start + 1 ≡ c
      at = (is_used_at-true c b (find-passes (is_used_at c) l.blocks b roomy.used)).1

      -- the block is a user's then
      user : use_of_data m c ≡ User
      user = unowned-user m c valid (unowned c (omega arith) (omega arith))

      packets : queued m ≡ queued l
      packets =
          ap (λ q. q ++ (l.clock ++ (l.keyboard ++ (l.output ++ l.pending))))
          (queues-put g.front g.task (with_coroutines left g.task) g.back refl ∙ ap (flat_map (λ (z : Task). z.queue)) (sym g.is))

      -- nobody owns the words behind its own exactly where no packet lies in it
      empty-is : has_packet_in l c ≡ list_any (lies_in b) (queued m)
      empty-is = ap (holds_packet l) roomy.used ∙ ap (list_any (lies_in b)) (sym packets)

      pub packet-none : AreUnowned l (c + 10) (block_end b) → has_packet_in l c ≡ false
      packet-none clear =
          empty-is
          ∙ unowned-empty m c b valid roomy.used
          (λ a low high. elim (cases_lt a (c + 10)) [ inl within ↦ unowned a low within | inr behind ↦ omega (arith, gone-count a, clear a behind high) ])

      pub packet-some : (AreUnowned l (c + 10) (block_end b) → ⊥) → has_packet_in l c ≡ true
      packet-some owned-there = on (list_any (lies_in b) (queued m)) refl
        where
          on : (r : Bool) → list_any (lies_in b) (queued m) ≡ r → has_packet_in l c ≡ true
          on true e = empty-is ∙ e
          on false e =
              let i : IsIdleBlock m c = none-idle m c b valid roomy.used user e in
              absurd (owned-there (λ a low high. omega (arith, gone-count a, idle-unowned m c b valid roomy.used i a (omega (arith, low)) high, times-above a c 10 low)))

      module _ (none : has_packet_in l c ≡ false) where
        idle-block : IsIdleBlock m c
        idle-block = none-idle m c b valid roomy.used user (sym empty-is ∙ none)

        result-is : with_deleted_at c l ≡ with_given c m
        result-is = ap (with_given c) lists-are

        -- its block, as the store has it once it was unlinked
        still-used : used_at c (blocks_in x.unlinked) ≡ Some (used_block x.start (need o.one.highest))
        still-used =
            let i : IsCoroutine l o.one = all-here (IsCoroutine l) o.front o.one o.back (subst (AllByRecursion (IsCoroutine l)) o.is (callers-valid s l t h g).each) in
            let start : i.block.start ≡ x.start = omega (arith, i.block.here, x.here) in
            ap (used_at c) (reads x.unlinked m gone.lists).blocks ∙ ap (λ a. used_at a l.blocks) (sym o.at) ∙ i.block.block ∙ ap (λ a. Some (used_block a (need o.one.highest))) start

        same-store : deleted s t c ≡ given_store x.unlinked c
        same-store =
            ap (deleted s t) (sym o.at) ∙ x.block.words
            ∙ given_store-is x.unlinked c (used_block x.start (need o.one.highest)) (reads x.unlinked m gone.lists).tiled still-used

        whole : IsChanged s (deleted s t c) (with_given c m) []
        whole =
            subst (λ v. IsChanged s v (with_given c m) []) (sym same-store)
            (changed-then s x.unlinked (given_store x.unlinked c) m (with_given c m) [] gone (given-changed x.unlinked m c gone.lists idle-block)
            (λ a nobody. sym (given-owners x.unlinked m c gone.lists idle-block a) ∙ nobody))

        pub deleted-changed : IsChanged s (deleted s t c) (with_deleted_at c l) []
        deleted-changed = subst (λ z. IsChanged s (deleted s t c) z []) (sym result-is) whole

        pub deleted-less : (a : ℕ) → owners a (owned l) ≡ owners a (owned (with_deleted_at c l)) + times a (range_with_len c 10)
        deleted-less a =
            gone-count a ∙ ap (λ k. k + times a (range_with_len c 10)) (sym (given-owners x.unlinked m c gone.lists idle-block a) ∙ ap (λ z. owners a (owned z)) (sym result-is))
