-- Of a guest's globals the kernel owns nothing but words of queued packets.
use Rattle.std.proofs.Common.{◌≡◌, ◌≢◌, ℕ, suc, ◌+◌, ◌-◌, ◌<◌, ◌≤◌, ◌⊎◌, List, [], ◌∷◌, ◌++◌, length, map, cond, eqb, not, Bool, true, false, Option, Some, None, inl, inr, refl, sym, ap, ◌∙◌, subst, arith}
use Rattle.std.specs.Prelude.{unwrap_or}
use Rattle.std.specs.List.{AllByRecursion, flat_map, range_with_len}
use Rattle.std.proofs.lemmas.Bool.{and_parts, cases_lt, eqb-true, leb-true}
use Rattle.word_store.specs.Count.{times, words_of}
use Rattle.word_store.proofs.Elements.{all-back, all-front}
use Rattle.word_store.proofs.Counts.{hit-other, hit-same, range-high, range-low, times-above, times-within, times-words_more}
use Rattle.kernel_lists.specs.OwnedWords.LinkedWords.{first_of, linked_words}
use Rattle.kernel_lists.specs.OwnedWords.Owned.{Pairs, owners}
use Rattle.kernel_lists.proofs.OwnedWords.OwnedWords.{owners-append}
use Rattle.kernel_lists.proofs.OwnedWords.RowWords.{owners-row}
use Rattle.kernel_lists.specs.declared.getvec_chain.pieces.Block.{Block}
use Rattle.kernel_lists.specs.GetvecChain.Block.{is_used_at, used_block}
use Rattle.kernel_lists.specs.GetvecChain.BlockWords.{blocks_words}
use Rattle.kernel_lists.specs.GetvecChain.Give.{given}
use Rattle.kernel_lists.specs.GetvecChain.Run.{need}
use Rattle.kernel_lists.specs.GetvecChain.Tiling.{Follow, holding}
use Rattle.kernel_lists.proofs.GetvecChain.Splits.{GiveSplit, give_split}
use Rattle.kernel_lists.specs.HunkLoader.HeldModules.{LoadedModule, module_address, module_words}
use Rattle.kernel_lists.specs.PacketQueue.QueueWords.{QueuedPacket, address_of as packet_address, packet_words, queue_words}
use Rattle.kernel_lists.specs.PacketQueue.Queue.{no_queue}
use Rattle.kernel_lists.specs.Coroutines.CoroutineWords.{coroutine_size}
use Rattle.kernel_lists.specs.Coroutines.HeldCoroutines.{Coroutine, address_of}
use Rattle.kernel_model.specs.KernelRecord.BlockUse.{coroutine_addresses}
use Rattle.kernel_model.specs.KernelRecord.Lists.{Lists, has_task, is_queued, queued}
use Rattle.kernel_model.specs.KernelRecord.Owned.{owned}
use Rattle.kernel_model.specs.KernelRecord.Residents.{fault_packet, keyboard, fault_packet_words, key_arguments, key_words, pending_head, resident_words}
use Rattle.kernel_model.specs.KernelRecord.Task.{Task, is_guest_id, task_address, task_words}
use Rattle.kernel_model.specs.KernelRecord.ValidBlocks.{HasBlock, last_module_word, last_resident_word}
use Rattle.kernel_model.specs.KernelRecord.ValidLists.{AreValid}
use Rattle.kernel_model.specs.KernelRecord.ValidTasks.{AreValidCoroutines, IsCoroutine, IsGuest, IsTask, resident_place}
use Rattle.kernel_model.specs.KernelRecord.Versions.{head_words_of}
use Rattle.kernel_model.proofs.KernelRecord.AllThings.{all-beside, all-between, all-here, all-pieces}
use Rattle.kernel_model.proofs.KernelRecord.BlockStarts.{store-Tiles, store_of}
use Rattle.kernel_model.proofs.KernelRecord.ChainSplits.{HasNumbered, numbered}
use Rattle.kernel_model.proofs.KernelRecord.EachMember.{all-both, all-each, linked-each}
use Rattle.kernel_model.proofs.KernelRecord.FollowedBlocks.{IsDataOf, IsWithin, found-holding, found-within, member-data}
use Rattle.kernel_model.proofs.KernelRecord.OwnerCounts.{owners-linked_between, owners-residents, packets_count}
use Rattle.kernel_model.proofs.KernelRecord.RootCounts.{head-low, owners-nodes}
use Rattle.kernel_model.proofs.KernelRecord.TaskCounts.{further_count, owners-task_by}
use Rattle.kernel_model.proofs.KernelRecord.TaskPlaces.{has-each, last-resident}
use Rattle.kernel_model.proofs.KernelRecord.ModuleMoves.{owners-module}

-- linked things of which none owns an address are not there
differ : {X : Type 0} (v : ℕ) (address : X → ℕ) (words : X → ℕ → Pairs) → ((x : X) (n : ℕ) → 0 < owners (address x) (words x n)) → (xs : List X) (end : ℕ) → owners v (linked_words address words xs end) ≡ 0
    → AllByRecursion (λ x. (n : ℕ) → owners v (words x n) ≡ 0) xs → AllByRecursion (λ x. address x ≢ v) xs
differ v address words own [] end none all = tt
differ v address words own (x ∷ xs) end none all = (
  λ e. absurd (omega (arith, all.0 0, subst (λ a. 0 < owners a (words x 0)) e (own x 0))),
  differ v address words own xs end (omega (arith, none, owners-append v (words x (first_of address xs end)) (linked_words address words xs end))) all.1,
)

none-each : {X : Type 0} (v : ℕ) (address : X → ℕ) (words : X → ℕ → Pairs) → ((x : X) (n k : ℕ) → owners v (words x n) ≡ owners v (words x k)) → (xs : List X) (end : ℕ) → owners v (linked_words address words xs end) ≡ 0
    → AllByRecursion (λ x. (n : ℕ) → owners v (words x n) ≡ 0) xs
none-each v address words steady [] end none = tt
none-each v address words steady (x ∷ xs) end none =
    let m : ℕ = first_of address xs end in
    let join : owners v (linked_words address words (x ∷ xs) end) ≡ owners v (words x m) + owners v (linked_words address words xs end) = owners-append v (words x m) (linked_words address words xs end) in
    (λ n. omega (arith, steady x n m, join, none), none-each v address words steady xs end (omega (arith, join, none)))

module _ (l : Lists) (v : AreValid l) (front : List Task) (t : Task) (back : List Task) (is : l.tasks ≡ front ++ t ∷ back) (guest : is_guest_id t.id ≡ true) (g : IsGuest l t) where
  abbrev at : ℕ
  at = t.address

  abbrev end : ℕ
  end = l.size - 2

  abbrev last : ℕ
  last = head_words_of l.version + 1001 + t.highest

  abbrev tasks_at : ℕ → List Task → ℕ
  tasks_at a ts = owners a (linked_words task_address (task_words l.version) ts 0)

  abbrev modules_at : ℕ → ℕ
  modules_at a = owners a (linked_words module_address module_words l.modules 0)

  tasks-split : (a : ℕ) → tasks_at a l.tasks ≡ tasks_at a (front ++ back) + owners a (task_words l.version t 0)
  tasks-split a = ap (tasks_at a) is ∙ owners-linked_between a task_address (task_words l.version) (λ x n k. refl) front t back 0

  record IsAlone : Type 0 where
    pub tasks : tasks_at at (front ++ back) ≡ 0
    pub modules : modules_at at ≡ 0
    pub coroutines : times at (words_of coroutine_size (coroutine_addresses t)) ≡ 0

  -- nothing else is where the task is
  alone : IsAlone
  alone =
      let r = by _ _ _ _ _ _ _ _ _ _ _ _ _ _ _ _ (owners-nodes at l) (v.owns.apart at) (tasks-split at) (owners-task_by at l.version t 0) (times-within at at 23 (omega arith) (omega arith)) in
      record { tasks = r.0; modules = r.1; coroutines = r.2 }
    where
      by : (w r e b ts ms c k o s others own h f p q : ℕ) → w ≡ r + (e + (b + (ts + (ms + (c + (k + (o + s))))))) → w ≤ 1 → ts ≡ others + own → own ≡ h + (f + (p + q)) → h ≡ 1 → (others ≡ 0) × (ms ≡ 0) × (q ≡ 0)
      by w r e b ts ms c k o s others own h f p q total once split whole one = (omega (arith, total, once, split, whole, one), omega (arith, total, once, split, whole, one), omega (arith, total, once, split, whole, one))

  -- no word of a block elsewhere is one of its block
  other : (w u a : ℕ) → HasBlock l.blocks w u → w ≢ at → w ≤ a → a ≤ w + u → at ≤ a → a ≤ at + last → ⊥
  other w u a b ne low high above below =
      let its : holding a l.blocks ≡ Some (used_block b.start (need u)) = found-holding (is_used_at w) 200 l.blocks end (used_block b.start (need u)) a v.blocks b.block (omega (arith, b.here, low)) (omega (arith, b.here, high)) in
      let mine : holding a l.blocks ≡ Some (used_block g.block.start (need last)) =
      found-holding (is_used_at at) 200 l.blocks end (used_block g.block.start (need last)) a v.blocks g.block.block (omega (arith, g.block.here, above)) (omega (arith, g.block.here, below))
      in
      ne (omega (arith, b.here, g.block.here, start (used_block b.start (need u)) (used_block g.block.start (need last)) (sym its ∙ mine)))
    where
      start : (x y : Block) → ◌≡◌ {A = Option Block} (Some x) (Some y) → x.start ≡ y.start
      start x y e = cc

  -- the residents' block is another one
  shell-elsewhere : l.residents ≡ true → 201 ≢ at
  shell-elsewhere residents e = by (numbered 1 l.tasks (v.tasks.shell ∙ residents))
    where
      place : (a p : ℕ) → ◌≡◌ {A = Option (ℕ × ℕ)} (Some (201, 1000)) (Some (a, p)) → 201 ≡ a
      place a p k = ap (λ (o : Option (ℕ × ℕ)). (unwrap_or o (0, 0)).0) k

      Apart : Task → Type 0
      Apart u = (u.id ≡ t.id) ⊎ (owners at (task_words l.version u 0) ≡ 0)

      apart : AllByRecursion Apart l.tasks
      apart =
          subst (AllByRecursion Apart) (sym is)
          (all-between Apart front t back (inl refl)
          (all-each (λ u. (n : ℕ) → owners at (task_words l.version u n) ≡ 0) Apart (λ u z. inr (z 0)) (front ++ back)
          (none-each at task_address (task_words l.version) (λ x n k. refl) (front ++ back) 0 alone.tasks)))

      by : HasNumbered 1 l.tasks → ⊥
      by n =
          let resident : is_guest_id n.task.id ≡ false = ap is_guest_id n.number in
          let shell : IsTask l n.task = all-here (IsTask l) n.between.front n.task n.between.back (subst (AllByRecursion (IsTask l)) n.between.is v.tasks.each) in
          let here : 201 ≡ n.task.address = place n.task.address n.task.priority (ap resident_place (sym n.number) ∙ (shell.resident resident).place) in
          elim (all-here Apart n.between.front n.task n.between.back (subst (AllByRecursion Apart) n.between.is apart)) [
            | inl same ↦ omega (arith, leb-true 5 t.id guest, same, n.number)
            | inr zero ↦ omega (arith, zero, hit-same at n.task.address (sym e ∙ here))
          ]

  module _ (a : ℕ) (low : at + head_words_of l.version ≤ a) (high : a < at + head_words_of l.version + 1001) (none : AllByRecursion (λ p. p.address ≤ a → a < p.address + 5 → ⊥) (queued l)) where
    within : (w u : ℕ) → HasBlock l.blocks w u → w ≢ at → w ≤ a → a ≤ w + u → ⊥
    within w u b ne below above = other w u a b ne below above (omega (arith, low)) (omega (arith, high))

    abbrev Free : QueuedPacket → Type 0
    Free p = p.address ≤ a → a < p.address + 5 → ⊥

    zero-from : (k : ℕ) → (0 < k → ⊥) → k ≡ 0
    zero-from k never = elim (cases_lt 0 k) [ inl some ↦ absurd (never some) | inr few ↦ omega (arith, few) ]

    packets-none : (ps : List QueuedPacket) → AllByRecursion Free ps → packets_count a ps ≡ 0
    packets-none ps all =
        zero-from (packets_count a ps) (λ some.
        linked-each (λ _. ⊥) packet_address packet_words ps 0 a
        (all-each Free (λ p. (n : ℕ) → 0 < owners a (packet_words p n) → ⊥)
        (λ p free n own. (let inside : 0 < times a (range_with_len p.address 5) = omega (arith, own, owners-row a p.address 1 (p.sender ∷ p.kind ∷ p.res1 ∷ p.last ∷ [])) in
        free (range-low a p.address 5 inside) (range-high a p.address 5 inside))) ps all) some)

    modules-none : modules_at a ≡ 0
    modules-none =
        zero-from (modules_at a) (λ some.
        linked-each (λ _. ⊥) module_address module_words l.modules 0 a
        (all-each (λ x. HasBlock l.blocks x.address (last_module_word x) × (x.address ≢ at)) (λ x. (n : ℕ) → 0 < owners a (module_words x n) → ⊥) one l.modules
        (all-both (λ x. HasBlock l.blocks x.address (last_module_word x)) (λ x. x.address ≢ at) l.modules v.modules
        (differ at module_address module_words (λ x n. omega (arith, hit-same x.address x.address refl)) l.modules 0 alone.modules (none-each at module_address module_words (λ x n k. refl) l.modules 0 alone.modules)))) some)
      where
        one : (x : LoadedModule) → HasBlock l.blocks x.address (last_module_word x) × (x.address ≢ at) → (n : ℕ) → 0 < owners a (module_words x n) → ⊥
        one x h n own =
            let k : ℕ = suc (suc (length x.lengths)) in
            let inside : 0 < times a (range_with_len x.address k) = omega (arith, own, owners-module a x n) in
            within x.address (last_module_word x) h.0 h.1 (range-low a x.address k inside) (omega (arith, range-high a x.address k inside))

    coroutines-none : (cs : List Coroutine) → AllByRecursion (IsCoroutine l) cs → times at (words_of coroutine_size (map address_of cs)) ≡ 0 → times a (words_of coroutine_size (map address_of cs)) ≡ 0
    coroutines-none [] all elsewhere = refl
    coroutines-none (c ∷ cs) all elsewhere =
        let here : times at (words_of coroutine_size (map address_of (c ∷ cs))) ≡ times at (range_with_len c.address 10) + times at (words_of coroutine_size (map address_of cs)) = times-words_more coroutine_size at c.address (map address_of cs) in
        let ne : c.address ≢ at = λ e. absurd (omega (arith, here, elsewhere, times-within at c.address 10 (omega (arith, e)) (omega (arith, e)))) in
        let one : times a (range_with_len c.address 10) ≡ 0 = zero-from (times a (range_with_len c.address 10)) (λ some.
        within c.address c.highest all.0.block ne (range-low a c.address 10 some) (omega (arith, range-high a c.address 10 some, all.0.high)))
        in
        omega (arith, one, coroutines-none cs all.1 (omega (arith, here, elsewhere)), times-words_more coroutine_size a c.address (map address_of cs))

    -- ---- tasks

    resident-none : (u : Task) → has_task u.id l.tasks ≡ true → resident_place u.id ≡ Some (u.address, u.priority) → u.address ≤ a → a < u.address + 23 → ⊥
    resident-none u there place below above = on (eqb u.id 1) refl (eqb u.id 2) refl (eqb u.id 3) refl (eqb u.id 4) refl place
      where
        lodged : l.residents ≡ true → 201 ≤ u.address → u.address + 23 ≤ 202 + last_resident_word l → ⊥
        lodged residents first end = within 201 (last_resident_word l) (v.numbers.residents residents) (shell-elsewhere residents) (omega (arith, first, below)) (omega (arith, above, end))

        address : (b p : ℕ) → ◌≡◌ {A = Option (ℕ × ℕ)} (Some (b, p)) (Some (u.address, u.priority)) → b ≡ u.address
        address b p e = ap (λ (o : Option (ℕ × ℕ)). (unwrap_or o (0, 0)).0) e

        has : (i : ℕ) → u.id ≡ i → has_task i l.tasks ≡ true
        has i same = ap (λ z. has_task z l.tasks) (sym same) ∙ there

        on : (p : Bool) → eqb u.id 1 ≡ p → (q : Bool) → eqb u.id 2 ≡ q → (r : Bool) → eqb u.id 3 ≡ r → (s : Bool) → eqb u.id 4 ≡ s
            → ◌≡◌ {A = Option (ℕ × ℕ)} (cond p (Some (201, 1000)) (cond q (Some (287, 3000)) (cond r (Some (224, 6000)) (cond s (Some (247, 5000)) None)))) (Some (u.address, u.priority)) → ⊥
        on true i q j r k s m e = lodged (sym v.tasks.shell ∙ has 1 (eqb-true u.id 1 i)) (omega (arith, address 201 1000 e)) (omega (arith, address 201 1000 e, last-resident l))
        on false i true j r k s m e =
            let some : has_task 2 l.tasks ≡ true = has 2 (eqb-true u.id 2 j) in
            let more : last_resident_word l ≡ 114 = ap (λ b. cond b 114 86) some in
            lodged (v.tasks.reporter some) (omega (arith, address 287 3000 e)) (omega (arith, address 287 3000 e, more))
        on false i false j true k s m e = lodged (sym v.tasks.console ∙ has 3 (eqb-true u.id 3 k)) (omega (arith, address 224 6000 e)) (omega (arith, address 224 6000 e, last-resident l))
        on false i false j false k true m e = lodged (sym v.tasks.files ∙ has 4 (eqb-true u.id 4 m)) (omega (arith, address 247 5000 e)) (omega (arith, address 247 5000 e, last-resident l))
        on false i false j false k false m e = cc

    -- the words of a task block
    heads-none : (u : Task) → IsTask l u → has_task u.id l.tasks ≡ true → u.address ≢ at → u.address ≤ a → a < u.address + (23 + further_count l.version u.id) → ⊥
    heads-none u task there ne below above = on (is_guest_id u.id) refl
      where
        on : (b : Bool) → is_guest_id u.id ≡ b → ⊥
        on true is_guest =
            let count : further_count l.version u.id ≡ head_words_of l.version - 23 = ap (λ b. cond b (head_words_of l.version - 23) 0) is_guest in
            within u.address (head_words_of l.version + 1001 + u.highest) (task.guest is_guest).block ne below (omega (arith, above, count, head-low l.version))
        on false resident =
            let count : further_count l.version u.id ≡ 0 = ap (λ b. cond b (head_words_of l.version - 23) 0) resident in
            resident-none u there (task.resident resident).place below (omega (arith, above, count))

    -- what is known of another task
    record IsOther (u : Task) : Type 0 where
      pub task : IsTask l u
      pub there : has_task u.id l.tasks ≡ true
      pub coroutines : AreValidCoroutines l u
      pub free : AllByRecursion Free u.queue
      pub elsewhere : (n : ℕ) → owners at (task_words l.version u n) ≡ 0

    other-none : (u : Task) → IsOther u → (n : ℕ) → 0 < owners a (task_words l.version u n) → ⊥
    other-none u o n some =
        by _ _ _ _ _ (owners-task_by a l.version u n) some
        (range u.address 23 (λ low high. heads-none u o.task o.there ne low (omega (arith, high))))
        (range (u.address + 23) (further_count l.version u.id) (λ low high. heads-none u o.task o.there ne (omega (arith, low)) (omega (arith, high))))
        (packets-none u.queue o.free)
        (coroutines-none u.coroutines.list o.coroutines.each (last_of _ _ _ _ _ (owners-task_by at l.version u 0) (o.elsewhere 0)))
      where
        ne : u.address ≢ at
        ne e = omega (arith, o.elsewhere 0, hit-same at u.address (sym e))

        last_of : (w h f p q : ℕ) → w ≡ h + (f + (p + q)) → w ≡ 0 → q ≡ 0
        last_of w h f p q e z = omega (arith, e, z)

        range : (p k : ℕ) → (p ≤ a → a < p + k → ⊥) → times a (range_with_len p k) ≡ 0
        range p k never = zero-from (times a (range_with_len p k)) (λ in_it. never (range-low a p k in_it) (range-high a p k in_it))

        by : (w h f p q : ℕ) → w ≡ h + (f + (p + q)) → 0 < w → h ≡ 0 → f ≡ 0 → p ≡ 0 → q ≡ 0 → ⊥
        by w h f p q e some hz fz pz qz = omega (arith, e, some, hz, fz, pz, qz)

    free-work : AllByRecursion (λ u. AllByRecursion Free u.queue) l.tasks
    free-work = all-pieces Free (λ u. u.queue) l.tasks (all-front Free (flat_map (λ u. u.queue) l.tasks) (l.clock ++ (l.keyboard ++ (l.output ++ l.pending))) none)

    free-devices : AllByRecursion Free (l.clock ++ (l.keyboard ++ (l.output ++ l.pending)))
    free-devices = all-back Free (flat_map (λ u. u.queue) l.tasks) (l.clock ++ (l.keyboard ++ (l.output ++ l.pending))) none

    others-none : tasks_at a (front ++ back) ≡ 0
    others-none =
        zero-from (tasks_at a (front ++ back)) (λ some.
        linked-each (λ _. ⊥) task_address (task_words l.version) (front ++ back) 0 a (all-each IsOther (λ u. (n : ℕ) → 0 < owners a (task_words l.version u n) → ⊥) other-none (front ++ back) all) some)
      where
        beside : (P : Task → Type 0) → AllByRecursion P l.tasks → AllByRecursion P (front ++ back)
        beside P each = all-beside P front t back (subst (AllByRecursion P) is each)

        A : Task → Type 0
        A u = IsTask l u × (has_task u.id l.tasks ≡ true)

        B : Task → Type 0
        B u = AreValidCoroutines l u × AllByRecursion Free u.queue

        C : Task → Type 0
        C u = (n : ℕ) → owners at (task_words l.version u n) ≡ 0

        all : AllByRecursion IsOther (front ++ back)
        all =
            all-each (λ u. A u × (B u × C u)) IsOther (λ u h. record { task = h.0.0; there = h.0.1; coroutines = h.1.0.0; free = h.1.0.1; elsewhere = h.1.1 }) (front ++ back)
            (all-both A (λ u. B u × C u) (front ++ back) (beside A (all-both (IsTask l) (λ u. has_task u.id l.tasks ≡ true) l.tasks v.tasks.each (has-each l.tasks)))
            (all-both B C (front ++ back) (beside B (all-both (AreValidCoroutines l) (λ u. AllByRecursion Free u.queue) l.tasks v.coroutines free-work))
            (none-each at task_address (task_words l.version) (λ x n k. refl) (front ++ back) 0 alone.tasks)))

    own-none : owners a (task_words l.version t 0) ≡ 0
    own-none =
        let count : further_count l.version t.id ≡ head_words_of l.version - 23 = ap (λ b. cond b (head_words_of l.version - 23) 0) guest in
        by _ _ _ _ _ (owners-task_by a l.version t 0) (times-above a at 23 (omega (arith, low, head-low l.version)))
        (times-above a (at + 23) (further_count l.version t.id) (omega (arith, low, count, head-low l.version)))
        (packets-none t.queue (all-here (λ u. AllByRecursion Free u.queue) front t back (subst (AllByRecursion (λ u. AllByRecursion Free u.queue)) is free-work)))
        (coroutines-none t.coroutines.list (all-here (AreValidCoroutines l) front t back (subst (AllByRecursion (AreValidCoroutines l)) is v.coroutines)).each alone.coroutines)
      where
        by : (w h f p q : ℕ) → w ≡ h + (f + (p + q)) → h ≡ 0 → f ≡ 0 → p ≡ 0 → q ≡ 0 → w ≡ 0
        by w h f p q e hz fz pz qz = omega (arith, e, hz, fz, pz, qz)

    -- ---- all else

    above : 201 ≤ a
    above =
        let w : IsWithin 200 end (used_block g.block.start (need last)) = found-within (is_used_at at) 200 l.blocks end (used_block g.block.start (need last)) v.blocks g.block.block in
        omega (arith, w.low, g.block.here, low)

    residents-none : owners a (resident_words l) ≡ 0
    residents-none = on l.residents refl
      where
        key : (k : Option ℕ) → 288 ≤ a → owners a (key_words k) ≡ 0
        key None far = refl
        key (Some r) far = owners-row a 271 0 (no_queue ∷ keyboard ∷ 0 ∷ r ∷ 0 ∷ []) ∙ times-above a 271 5 (omega (arith, far))

        fault : (f : Bool) → l.fault_packet_free ≡ f → 201 + last_resident_word l < a → owners a (fault_packet_words f) ≡ 0
        fault false e far = refl
        fault true e far =
            let there : has_task 2 l.tasks ≡ true = (and_parts (has_task 2 l.tasks) (not (is_queued fault_packet l)) (sym v.queues.fault ∙ e)).0 in
            let more : last_resident_word l ≡ 114 = ap (λ b. cond b 114 86) there in
            owners-row a 310 0 (no_queue ∷ 0 ∷ 0 ∷ 0 ∷ 0 ∷ []) ∙ times-above a 310 5 (omega (arith, far, more))

        far-away : l.residents ≡ true → 201 + last_resident_word l < a
        far-away residents =
            elim (cases_lt (201 + last_resident_word l) a) [
              | inl far ↦ far
              | inr near ↦ absurd (within 201 (last_resident_word l) (v.numbers.residents residents) (shell-elsewhere residents) above near)
            ]

        on : (b : Bool) → l.residents ≡ b → owners a (resident_words l) ≡ 0
        on false e = ap (λ b. owners a (cond b (queue_words pending_head l.pending ++ (key_words l.key ++ (key_arguments ++ fault_packet_words l.fault_packet_free))) [])) e
        on true e =
            let far : 201 + last_resident_word l < a = far-away e in
            let arguments : owners a key_arguments ≡ 0 = owners-row a 271 5 (0 ∷ 0 ∷ 0 ∷ []) ∙ times-above a 276 3 (omega (arith, far, last-resident l)) in
            let packets : packets_count a l.pending ≡ 0 = packets-none l.pending (all-back Free l.output l.pending (all-back Free l.keyboard (l.output ++ l.pending) (all-back Free l.clock (l.keyboard ++ (l.output ++ l.pending)) free-devices))) in
            omega (
              arith,
              owners-residents a l e,
              hit-other a 270 (λ same. absurd (omega (arith, same, far, last-resident l))),
              packets,
              key l.key (omega (arith, far, last-resident l)),
              arguments,
              fault l.fault_packet_free refl far,
            )

    pub globals-unowned : owners a (owned l) ≡ 0
    globals-unowned =
        let block : Block = used_block g.block.start (need last) in
        let p : GiveSplit l.blocks (given at l.blocks) block = give_split (store_of l.blocks end) 200 l.blocks at block (store-Tiles 200 l.blocks end v.blocks) g.block.block in
        let d : IsDataOf 200 end (p.before ++ block ∷ p.after) block a =
        member-data 200 p.before block p.after end a (subst (λ bs. Follow 200 bs end) p.old_is v.blocks) (omega (arith, g.block.here, low)) (omega (arith, g.block.here, high))
        in
        let starts : owners a (blocks_words l.blocks) ≡ 0 = ap (λ bs. owners a (blocks_words bs)) p.old_is ∙ d.no_start in
        let keyboard_free = all-back Free l.clock (l.keyboard ++ (l.output ++ l.pending)) free-devices in
        let output_free = all-back Free l.keyboard (l.output ++ l.pending) keyboard_free in
        by _ _ _ _ _ _ _ _ _ _ (owners-nodes a l) (times-above a 100 84 (omega (arith, above))) (hit-other a end (λ same. absurd (omega (arith, same, d.high, g.block.here, high)))) starts
        (sum _ _ _ (tasks-split a) others-none own-none) modules-none
        (packets-none l.clock (all-front Free l.clock (l.keyboard ++ (l.output ++ l.pending)) free-devices))
        (packets-none l.keyboard (all-front Free l.keyboard (l.output ++ l.pending) keyboard_free))
        (packets-none l.output (all-front Free l.output l.pending output_free)) residents-none
      where
        sum : (x y z : ℕ) → x ≡ y + z → y ≡ 0 → z ≡ 0 → x ≡ 0
        sum x y z e f k = omega (arith, e, f, k)

        by : (w r e b t m c k o s : ℕ) → w ≡ r + (e + (b + (t + (m + (c + (k + (o + s))))))) → r ≡ 0 → e ≡ 0 → b ≡ 0 → t ≡ 0 → m ≡ 0 → c ≡ 0 → k ≡ 0 → o ≡ 0 → s ≡ 0 → w ≡ 0
        by w r e b t m c k o s is z0 z1 z2 z3 z4 z5 z6 z7 z8 = omega (arith, is, z0, z1, z2, z3, z4, z5, z6, z7, z8)
