-- A task that has ended: the lists without it, and its block.
use Rattle.std.proofs.Common.{◌≡◌, ◌≢◌, ◌↔◌, ℕ, ◌+◌, ◌-◌, ◌<◌, ◌≤◌, ◌^◌, List, [], ◌∷◌, ◌++◌, cond, eqb, length, map, not, ◌&&◌, Bool, true, false, Option, Some, None, Ok, inl, inr, refl, sym, ap, ◌∙◌, subst, arith}
use Rattle.std.specs.List.{AllByRecursion, flat_map, list_any, range_with_len}
use Rattle.std.specs.Prelude.{IsSome, IsTrue}
use Rattle.std.proofs.lemmas.Bool.{cases_lt, eq-eqb, eqb-true, false≢true, ne_eqb, or_parts}
use Rattle.std.proofs.lemmas.List.Folds.{list_any-append}
use Rattle.word_store.specs.Count.{IsApart, times}
use Rattle.kernel_lists.specs.LinkedList.Places.{has, without_first}
use Rattle.word_store.proofs.Elements.{all-front}
use Rattle.word_store.proofs.Counts.{hit-same, times-above, times-append, times-within}
use Rattle.kernel_lists.proofs.LinkedList.MappedLists.{map-append}
use Rattle.kernel_lists.proofs.LinkedList.Members.{has-here, has-there}
use Rattle.kernel_lists.specs.OwnedWords.Exchange.{Exchange}
use Rattle.kernel_lists.specs.OwnedWords.LinkedWords.{first_of}
use Rattle.kernel_lists.specs.OwnedWords.Owned.{Pairs, owners}
use Rattle.kernel_lists.specs.declared.getvec_chain.pieces.Block.{Block}
use Rattle.kernel_lists.specs.GetvecChain.Block.{block_end, is_used_at, used_block}
use Rattle.kernel_lists.specs.GetvecChain.Give.{given, given_store}
use Rattle.kernel_lists.specs.GetvecChain.Run.{need}
use Rattle.kernel_lists.specs.GetvecChain.Tiling.{IsTiled, blocks_in, holding, used_at}
use Rattle.kernel_lists.specs.PacketQueue.QueueWords.{QueuedPacket}
use Rattle.kernel_lists.specs.TaskBlock.ChainWords.{UnlinkExchange, absent_words, listed_words, present_words}
use Rattle.kernel_lists.specs.TaskBlock.HeldTasks.{HeldTasks, address_with}
use Rattle.kernel_lists.specs.TaskBlock.Moves.{without_task as task_out}
use Rattle.kernel_lists.specs.TaskBlock.TaskChain.{tasks_in}
use Rattle.kernel_lists.specs.TaskBlock.Versions.{head_words}
use Rattle.kernel_lists.proofs.TaskBlock.ChainExchanges.{unlink-exchange}
use Rattle.kernel_model.specs.KernelRecord.Between.{is_empty_queue}
use Rattle.kernel_model.specs.KernelRecord.BlockUse.{use_of_data}
use Rattle.kernel_model.specs.declared.kernel_record.uses.Use.TheVariants.{User}
use Rattle.kernel_model.specs.KernelRecord.ChangedStore.{IsChanged, Knows}
use Rattle.kernel_model.specs.KernelRecord.Changes.{AreUnowned, HasNoPacketsOut, IsIdleBlock, with_blocks, with_tasks}
use Rattle.kernel_model.specs.KernelRecord.HoldsLists.{HoldsLists}
use Rattle.kernel_model.specs.KernelRecord.Lists.{Lists, address_of_task, queued}
use Rattle.kernel_model.specs.KernelRecord.Owned.{owned}
use Rattle.kernel_model.specs.KernelRecord.Task.{Task, task_address, task_id, task_words}
use Rattle.kernel_model.specs.KernelRecord.ValidBlocks.{HasBlock}
use Rattle.kernel_model.specs.KernelRecord.ValidLists.{AreValid}
use Rattle.kernel_model.specs.KernelRecord.ValidTasks.{runs}
use Rattle.kernel_model.specs.KernelRecord.Versions.{head_words_of, highest_id_of}
use Rattle.kernel_model.proofs.KernelRecord.AllThings.{all-fail, all-here}
use Rattle.kernel_model.proofs.KernelRecord.ChainMoves.{gone_task-valid}
use Rattle.kernel_model.proofs.KernelRecord.ChangedLists.{changed-then, exchange-owned, knows-same}
use Rattle.kernel_model.proofs.KernelRecord.FollowedBlocks.{found-holding, found-within}
use Rattle.kernel_model.proofs.KernelRecord.OwnedParts.{holds-parts}
use Rattle.kernel_model.proofs.KernelRecord.OwnerCounts.{owners-task_between}
use Rattle.kernel_model.proofs.KernelRecord.RootCounts.{RootWords, head-low, root-held}
use Rattle.kernel_model.proofs.KernelRecord.TaskCounts.{owners-new_task}
use Rattle.kernel_model.proofs.KernelRecord.TaskKind.{are_tasks}
use Rattle.kernel_model.proofs.KernelRecord.UnownedBlocks.{unowned-user}
use Rattle.kernel_model.specs.WordKinds.Keeper.{AreTogether}
use Rattle.kernel_model.proofs.WordKinds.KnownWords.{knows-released}
use Rattle.kernel_calls.specs.CallAnswers.CallChange.{IsMade, done, minus_one}
use Rattle.kernel_calls.specs.CallAnswers.Refusals.{first_refusal}
use Rattle.kernel_calls.proofs.CallAnswers.Refusals.{low-resident}
use Rattle.kernel_calls.proofs.CallAnswers.FoundTask.{any-one, reads}
use Rattle.kernel_calls.proofs.CallAnswers.GuestTask.{GuestFacts, guest-facts}
use Rattle.kernel_calls.specs.CallAnswers.Tasks.{is_dead}
use Rattle.kernel_calls.specs.BlockCalls.Freevec.{has_packet_in, holds_packet, lies_in, with_given}
use Rattle.kernel_calls.proofs.BlockCalls.IdleBlocks.{idle-unowned, none-idle, unowned-empty}
use Rattle.kernel_model.proofs.WordKinds.OwnedMarks.{size-low}
use Rattle.kernel_calls.proofs.BlockCalls.TakenStore.{given-changed, given-owners}
use Rattle.kernel_calls.specs.TaskCalls.DeleteTask.{HasEnded, end_tests, has_no_coroutines, has_no_work, has_packet_out, resident_packets, without_task}
use Rattle.kernel_calls.proofs.TaskCalls.AroundChain.{address_with-out, around, around-count, around-exchange, listed, owned-around, owned-chain}
use Rattle.kernel_calls.proofs.TaskCalls.ReadNumbers.{head-read}
use Rattle.kernel_calls.proofs.TaskCalls.Priorities.{others-differ, without-here}

-- all of its tests hold
record Passed (l : Lists) (id : ℕ) : Type 0 where
  dead : is_dead l id ≡ true
  work : has_no_work l id ≡ true
  out : has_packet_out l id ≡ false
  single : has_no_coroutines l id ≡ true

passed : (l : Lists) (id : ℕ) → first_refusal (end_tests l id) ≡ None → Passed l id
passed l id e = on (is_dead l id) refl (has_no_work l id) refl (has_packet_out l id) refl (has_no_coroutines l id) refl e
  where
    on : (a : Bool) → is_dead l id ≡ a → (b : Bool) → has_no_work l id ≡ b → (c : Bool) → has_packet_out l id ≡ c → (d : Bool) → has_no_coroutines l id ≡ d
        → ◌≡◌ {A = Option ℕ} (cond a (cond b (cond (not c) (cond d None (Some 25)) (Some 13)) (Some 12)) (Some 11)) None → Passed l id
    on true i true j false k true m e = record { dead = i; work = j; out = k; single = m }
    on true i true j false k false m e = cc
    on true i true j true k d m e = cc
    on true i false j c k d m e = cc
    on false i b j c k d m e = cc

-- a queue that is empty
empty-queue : (ps : List QueuedPacket) → is_empty_queue ps ≡ true → ps ≡ []
empty-queue [] e = refl
empty-queue (p ∷ ps) e = cc

empty-list : {X : Type 0} (xs : List X) → eqb (length xs) 0 ≡ true → xs ≡ []
empty-list [] e = refl
empty-list (x ∷ xs) e = absurd (omega (arith, eqb-true (length (x ∷ xs)) 0 e))

-- packets of which none is from the task
none-from : (id : ℕ) (ts : List Task) → list_any (λ p. eqb p.sender id) (flat_map resident_packets ts) ≡ false → AllByRecursion (λ t. t.id < 5 → AllByRecursion (λ p. eqb p.sender id ≡ false) t.queue) ts
none-from id [] e = tt
none-from id (t ∷ ts) e =
    let parts = or_parts (list_any (λ p. eqb p.sender id) (resident_packets t)) (list_any (λ p. eqb p.sender id) (flat_map resident_packets ts))
    (sym (list_any-append (λ p. eqb p.sender id) (resident_packets t) (flat_map resident_packets ts)) ∙ e)
    in (
      λ low. all-fail (λ p. eqb p.sender id) t.queue (ap (λ b. list_any (λ p. eqb p.sender id) (cond b [] t.queue)) (sym (low-resident t.id low)) ∙ parts.0),
      none-from id ts parts.1,
    )

queues-beside : (front : List Task) (t : Task) (back : List Task) → t.queue ≡ [] → flat_map (λ u. u.queue) (front ++ t ∷ back) ≡ flat_map (λ u. u.queue) (front ++ back)
queues-beside [] t back e = ap (λ q. q ++ flat_map (λ u. u.queue) back) e
queues-beside (z ∷ zs) t back e = ap (λ r. z.queue ++ r) (queues-beside zs t back e)

module _ (s : List ℕ) (l : Lists) (id address : ℕ) (h : HoldsLists s l) (e : HasEnded l id address) where
  abbrev front : List Task
  front = e.guest.front

  abbrev t : Task
  t = e.guest.task

  abbrev back : List Task
  back = e.guest.back

  abbrev rest : List Task
  rest = front ++ back

  abbrev m : Lists
  m = with_tasks rest l

  abbrev head : ℕ
  head = head_words_of l.version

  facts : GuestFacts s l id address t
  facts = guest-facts s l id address h e.guest

  distinct : IsApart (map task_id (front ++ t ∷ back))
  distinct = subst (λ ts. IsApart (map task_id ts)) e.guest.is h.valid.tasks.distinct

  p : Passed l id
  p = passed l id e.accepted

  -- a test of the task with the number is one of this task
  this : (test : Task → Bool) → list_any (λ u. eqb u.id id && test u) l.tasks ≡ test t
  this test = ap (list_any (λ u. eqb u.id id && test u)) e.guest.is ∙ any-one id test front t back e.guest.number distinct

  queue : t.queue ≡ []
  queue = empty-queue t.queue (sym (this (λ u. is_empty_queue u.queue)) ∙ p.work)

  list : t.coroutines.list ≡ []
  list = empty-list t.coroutines.list (sym (this (λ u. eqb (length u.coroutines.list) 0)) ∙ p.single)

  field : t.field ≡ 12
  field = eqb-true t.field 12 (sym (this (λ u. eqb u.field 12)) ∙ p.dead)

  idle : l.running ≢ t.id
  idle k =
      let alive : t.id ≡ l.running → t.field ≡ runs = all-here (λ u. u.id ≡ l.running → u.field ≡ runs) front t back (subst (AllByRecursion (λ u. u.id ≡ l.running → u.field ≡ runs)) e.guest.is e.runs_alive) in
      absurd (omega (arith, field, alive (sym k)))

  no_out : HasNoPacketsOut l t.id
  no_out =
      subst (HasNoPacketsOut l) (sym e.guest.number)
      (let f : QueuedPacket → Bool = λ q. eqb q.sender id in
      let a = or_parts (list_any f (flat_map resident_packets l.tasks)) (list_any f (l.clock ++ (l.keyboard ++ (l.output ++ l.pending)))) (sym (list_any-append f (flat_map resident_packets l.tasks) (l.clock ++ (l.keyboard ++ (l.output ++ l.pending)))) ∙ p.out) in
      let b = or_parts (list_any f l.clock) (list_any f (l.keyboard ++ (l.output ++ l.pending))) (sym (list_any-append f l.clock (l.keyboard ++ (l.output ++ l.pending))) ∙ a.1) in
      let c = or_parts (list_any f l.keyboard) (list_any f (l.output ++ l.pending)) (sym (list_any-append f l.keyboard (l.output ++ l.pending)) ∙ b.1) in
      let d = or_parts (list_any f l.output) (list_any f l.pending) (sym (list_any-append f l.output l.pending) ∙ c.1) in
      record {
        tasks = none-from id l.tasks a.0;
        clock = all-fail f l.clock b.0;
        keyboard = all-fail f l.keyboard c.0;
        output = all-fail f l.output d.0;
        pending = all-fail f l.pending d.1;
      })

  -- ---- the lists without it

  pub m-valid : AreValid m
  m-valid = gone_task-valid l front back t h.valid e.guest.is facts.guest idle no_out

  none_before : times t.id (map task_id front) ≡ 0
  none_before =
      omega (
        arith,
        distinct t.id,
        ap (times t.id) (map-append task_id front (t ∷ back)),
        times-append t.id (map task_id front) (map task_id (t ∷ back)),
        hit-same t.id t.id refl,
      )

  pub address-is : address_of_task l id ≡ address
  address-is =
      ap (λ ts. address_with task_address task_id ts id) e.guest.is ∙ address_with-out front t back id none_before
      ∙ ap (λ b. cond b t.address (address_with task_address task_id rest id)) (eq-eqb t.id id e.guest.number) ∙ e.guest.at

  same-running : address_with task_address task_id rest l.running ≡ address_of_task l l.running
  same-running =
      sym (ap (λ ts. address_with task_address task_id ts l.running) e.guest.is ∙ address_with-out front t back l.running none_before
      ∙ ap (λ b. cond b t.address (address_with task_address task_id rest l.running)) (ne_eqb t.id l.running (λ k. idle (sym k))))

  owned-m : owned m ≡ around l (listed l rest)
  owned-m = owned-chain l rest same-running

  owned-l : owned l ≡ around l (listed l (front ++ t ∷ back))
  owned-l = owned-around l ∙ ap (λ ts. around l (listed l ts)) e.guest.is

  pub gone-count : (a : ℕ) → owners a (owned l) ≡ owners a (owned m) + times a (range_with_len address head)
  gone-count a =
      ap (owners a) owned-l
      ∙ around-count l a (listed l (front ++ t ∷ back)) (listed l rest) (times a (range_with_len t.address head))
      (owners-task_between a l.version (highest_id_of l.version) front t back ∙ ap (λ n. owners a (listed l rest) + n) (owners-new_task a l.version t facts.guest queue list))
      ∙ (λ i. owners a (sym owned-m i) + times a (range_with_len (e.guest.at i) head))

  -- ---- its block

  pub block : HasBlock l.blocks address (head + 1001 + t.highest)
  block = subst (λ z. HasBlock l.blocks z (head + 1001 + t.highest)) e.guest.at (facts.task.guest facts.guest).block

  abbrev b : Block
  b = used_block block.start (need (head + 1001 + t.highest))

  pub used : used_at address m.blocks ≡ Some b
  used = block.block

  pub wide : (block.start + 1 ≡ address) × (head + 1003 ≤ b.size)
  wide = (sym block.here, by (head + 1001 + t.highest) refl)
    where
      by : (u : ℕ) → u ≡ head + 1001 + t.highest → head + 1003 ≤ need u
      by u is = omega (arith, is)

  user : use_of_data m address ≡ User
  user = unowned-user m address m-valid (omega (arith, gone-count address, h.valid.owns.apart address, times-within address address head (omega arith) (omega (arith, head-low l.version))))

  -- a packet lies in the block in these lists as in those
  packet-same : has_packet_in l address ≡ list_any (lies_in b) (queued m)
  packet-same =
      ap (holds_packet l) block.block
      ∙ ap (λ ts. list_any (lies_in b) (flat_map (λ u. u.queue) ts ++ (l.clock ++ (l.keyboard ++ (l.output ++ l.pending))))) e.guest.is
      ∙ ap (λ qs. list_any (lies_in b) (qs ++ (l.clock ++ (l.keyboard ++ (l.output ++ l.pending))))) (queues-beside front t back queue)

  -- exactly where the words behind its task block are owned
  pub inside-told : (r : Bool) → (IsTrue r ↔ AreUnowned l (address + head) (address + head + (b.size - 1 - head))) → not r ≡ has_packet_in l address
  inside-told true both =
      sym (packet-same ∙ unowned-empty m address b m-valid used free)
    where
      free : AreUnowned m address (block_end b)
      free a low high =
          elim (cases_lt a (address + head)) [
            | inl before ↦ omega (arith, gone-count a, h.valid.owns.apart a, times-within a address head low before)
            | inr behind ↦ omega (arith, gone-count a, both.0 refl a behind (omega (arith, high, wide.0, wide.1)))
          ]
  inside-told false both = on (list_any (lies_in b) (queued m)) refl
    where
      on : (x : Bool) → list_any (lies_in b) (queued m) ≡ x → true ≡ has_packet_in l address
      on true k = sym (packet-same ∙ k)
      on false k =
          let free = idle-unowned m address b m-valid used (none-idle m address b m-valid used user k) in
          absurd (false≢true (both.1 (λ a low high. omega (
            arith,
            gone-count a,
            free a (omega (arith, low)) (omega (arith, high, wide.0, wide.1)),
            times-above a address head low,
          ))))

  -- ---- it goes out

  held : HeldTasks task_address task_id (task_words l.version) s (front ++ t ∷ back)
  held = subst (HeldTasks task_address task_id (task_words l.version) s) e.guest.is (reads s l h).held_tasks

  root : RootWords s l
  root = root-held s l (address_of_task l l.running) (holds-parts s l h.holds).root

  abbrev there : Pairs
  there = present_words task_address task_id front t

  abbrev gone : Pairs
  gone = absent_words task_address task_id front t back

  abbrev words : Pairs
  words = task_words l.version t (first_of task_address back 0)

  unlinked : UnlinkExchange task_address task_id (task_words l.version) s (task_out s t.address) front t back
  unlinked = unlink-exchange task_address task_id (task_words l.version) (are_tasks l.version) s front t back held

  exchange : Exchange (owned l) (owned m) (there ++ words) gone
  exchange =
      subst (λ z. Exchange z (owned m) (there ++ words) gone) (sym owned-l)
      (subst (λ z. Exchange (around l (listed l (front ++ t ∷ back))) z (there ++ words) gone) (sym owned-m)
      (around-exchange l (listed l (front ++ t ∷ back)) (listed l rest) (there ++ words) gone
      (subst (λ top. Exchange (listed_words task_address task_id (task_words l.version) top (front ++ t ∷ back)) (listed_words task_address task_id (task_words l.version) top rest) (there ++ words) gone)
      root.highest unlinked.exchange)))

  pub out-changed : IsChanged s (task_out s address) m []
  out-changed = subst (λ z. IsChanged s (task_out s z) m []) e.guest.at (exchange-owned s (task_out s t.address) l m (there ++ words) gone h m-valid refl exchange unlinked.writes)

  pub out-tiled : (w : List ℕ) → w ≡ task_out s address → IsTiled w
  out-tiled w is = subst IsTiled (sym is) (reads (task_out s address) m out-changed.lists).tiled

  pub out-used : (w : List ℕ) → w ≡ task_out s address → used_at address (blocks_in w) ≡ Some b
  out-used w is = ap (λ z. used_at address (blocks_in z)) is ∙ ap (used_at address) (reads (task_out s address) m out-changed.lists).blocks ∙ used

  pub in-chain : has address (tasks_in s) ≡ true
  in-chain =
      subst (λ z. has address z ≡ true) (sym (reads s l h).tasks.chain)
      (subst (λ ts. has address (map task_address ts) ≡ true) (sym e.guest.is) (subst (λ z. has z (map task_address (front ++ t ∷ back)) ≡ true) e.guest.at (here front)))
    where
      here : (zs : List Task) → has t.address (map task_address (zs ++ t ∷ back)) ≡ true
      here [] = has-here t.address (map task_address back)
      here (z ∷ zs) = has-there t.address z.address (map task_address (zs ++ t ∷ back)) (here zs)

  lists-are : without_task l id ≡ with_given address m
  lists-are = λ i. with_blocks (given (address-is i) l.blocks) (with_tasks (chain i) l)
    where
      before : AllByRecursion (λ u. eqb u.id id ≡ false) front
      before = all-front (λ u. eqb u.id id ≡ false) front back (others-differ id front t back e.guest.number distinct)

      chain : without_first (λ u. eqb u.id id) l.tasks ≡ rest
      chain = ap (without_first (λ u. eqb u.id id)) e.guest.is ∙ without-here id front t back e.guest.number before

  -- ---- its block is given back

  module _ (empty : has_packet_in l address ≡ false) where
    idle-block : IsIdleBlock m address
    idle-block = none-idle m address b m-valid used user (sym packet-same ∙ empty)

    pub removed-made : (w : List ℕ) (hw : ℕ) (tells told : List ℕ → Type 0) → w ≡ given_store (task_out s address) address → hw ≡ head_words s → Knows tells l
        → ((known after : List ℕ) → tells known → IsApart known → AreTogether known after (range_with_len address hw) → told after)
        → IsMade s w told (Ok minus_one) (done (without_task l id))
    removed-made w hw tells told is is_head knows release =
        let out : IsChanged s (task_out s address) m [] = out-changed in
        let back_given : IsChanged (task_out s address) (given_store (task_out s address) address) (with_given address m) [] = given-changed (task_out s address) m address out.lists idle-block in
        let whole : IsChanged s (given_store (task_out s address) address) (with_given address m) [] =
        changed-then s (task_out s address) (given_store (task_out s address) address) m (with_given address m) [] out back_given
        (λ a none. sym (given-owners (task_out s address) m address out.lists idle-block a) ∙ none)
        in
        record {
          leaves = record { lists = (subst (λ z. IsChanged s z (without_task l id) []) (sym is) (subst (λ z. IsChanged s (given_store (task_out s address) address) z []) (sym lists-are) whole)); answered = refl };
          knows =
              subst (Knows told) (sym lists-are)
              (knows-same told m (with_given address m) (given-owners (task_out s address) m address out.lists idle-block)
              (knows-released tells told l m address head h.valid.owns gone-count knows
              (subst (λ z. (known after : List ℕ) → tells known → IsApart known → AreTogether known after (range_with_len address z) → told after) (is_head ∙ head-read s l h) release)));
        }

  -- ---- its block, as it is found

  found : holding address (blocks_in s) ≡ Some b
  found =
      ap (holding address) (reads s l h).blocks
      ∙ found-holding (is_used_at address) 200 l.blocks (l.size - 2) b address h.valid.blocks block.block (omega (arith, wide.0)) (omega (arith, wide.0, wide.1))

  pub some-found : (o : Option Block) → o ≡ holding address (blocks_in s) → IsSome o
  some-found o is = subst IsSome (sym (is ∙ found)) refl

  module _ (o : Option Block) (x : Block) (hw : ℕ) (is_held : o ≡ holding address (blocks_in s)) (is_some : o ≡ Some x) (is_head : hw ≡ head_words s) where
    same : x ≡ b
    same = some-same (sym is_some ∙ is_held ∙ found)
      where
        some-same : ◌≡◌ {A = Option Block} (Some x) (Some b) → x ≡ b
        some-same e = cc

    head-is : hw ≡ head
    head-is = is_head ∙ head-read s l h

    size-is : x.size ≡ b.size
    size-is = ap (λ z. z.size) same

    -- it ends in the store
    within : block_end b < l.size
    within = omega (arith, (found-within (is_used_at address) 200 l.blocks (l.size - 2) b h.valid.blocks block.block).high, (found-within (is_used_at address) 200 l.blocks (l.size - 2) b h.valid.blocks block.block).low, wide.1)

    pub head-fits : address + hw < 2 ^ 32
    head-fits = omega (arith, head-is, wide.0, wide.1, within, size-low l h.valid)

    pub some-words : 1 ≤ x.size
    some-words = omega (arith, size-is, wide.1)

    pub head-inside : hw ≤ x.size - 1
    head-inside = omega (arith, size-is, wide.1, head-is)

    pub found-inside : (r : Bool) → (IsTrue r ↔ AreUnowned l (address + hw) (address + hw + (x.size - 1 - hw))) → not r ≡ has_packet_in l address
    found-inside r both =
        inside-told r
        (subst (λ n. IsTrue r ↔ AreUnowned l (address + head) (address + head + (n - 1 - head))) size-is
        (subst (λ k. IsTrue r ↔ AreUnowned l (address + k) (address + k + (x.size - 1 - k))) head-is both))
