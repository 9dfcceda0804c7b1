-- The words of the shell's packet: of all that the kernel owns only queued packets may have them.
use Rattle.std.proofs.Common.{◌≡◌, ◌⊎◌, ℕ, suc, ◌+◌, ◌-◌, ◌<◌, ◌≤◌, List, [], ◌∷◌, ◌++◌, map, cond, eqb, length, ◌||◌, Bool, true, false, Option, Some, None, inl, inr, refl, sym, ap, ◌∙◌, arith}
use Rattle.std.specs.Prelude.{unwrap_or}
use Rattle.std.specs.List.{AllByRecursion, range_with_len}
use Rattle.std.proofs.lemmas.Bool.{cases_lt, eqb-true}
use Rattle.word_store.specs.Count.{hit, times, words_of}
use Rattle.word_store.proofs.Counts.{hit-other, hit-same, range-high, range-low, times-above, times-below, times-within, times-words_more}
use Rattle.kernel_lists.specs.OwnedWords.LinkedWords.{first_of, linked_words}
use Rattle.kernel_lists.specs.OwnedWords.Owned.{owners}
use Rattle.kernel_lists.proofs.OwnedWords.OwnedWords.{owners-append}
use Rattle.kernel_lists.proofs.OwnedWords.RowWords.{owners-row}
use Rattle.kernel_lists.specs.declared.getvec_chain.pieces.Block.{Block}
use Rattle.kernel_lists.specs.GetvecChain.Block.{block_end, has_data, is_used_at, used_block}
use Rattle.kernel_lists.specs.GetvecChain.BlockWords.{blocks_words}
use Rattle.kernel_lists.specs.GetvecChain.Run.{need}
use Rattle.kernel_lists.specs.GetvecChain.Tiling.{Follow, holding}
use Rattle.kernel_lists.proofs.GetvecChain.UsedBlocks.{has_data-true}
use Rattle.kernel_lists.specs.HunkLoader.HeldModules.{LoadedModule, module_address, module_words}
use Rattle.kernel_lists.specs.PacketQueue.QueueWords.{QueuedPacket, address_of, packet_words}
use Rattle.kernel_lists.specs.Coroutines.CoroutineWords.{coroutine_size}
use Rattle.kernel_lists.specs.Coroutines.HeldCoroutines.{Coroutine, address_of as coroutine_address}
use Rattle.kernel_model.specs.KernelRecord.BlockUse.{coroutine_addresses}
use Rattle.kernel_model.specs.KernelRecord.Lists.{Lists, has_task, queued}
use Rattle.kernel_model.specs.KernelRecord.Owned.{owned}
use Rattle.kernel_model.specs.KernelRecord.Residents.{fault_packet_words, key_words, keyboard, resident_words}
use Rattle.kernel_lists.specs.PacketQueue.Queue.{no_queue}
use Rattle.kernel_model.specs.KernelRecord.Task.{Task, is_guest_id, task_address, task_words}
use Rattle.kernel_model.specs.KernelRecord.ValidBlocks.{HasBlock, last_module_word, last_resident_word}
use Rattle.kernel_model.specs.KernelRecord.ValidLists.{AreValid}
use Rattle.kernel_model.specs.KernelRecord.ValidTasks.{AreValidCoroutines, IsCoroutine, IsTask, resident_place}
use Rattle.kernel_model.specs.KernelRecord.Versions.{head_words_of}
use Rattle.word_store.proofs.Elements.{find-passes}
use Rattle.kernel_model.proofs.KernelRecord.FollowedBlocks.{IsWithin, found-holding, found-within, starts-low}
use Rattle.kernel_model.proofs.KernelRecord.OwnerCounts.{owners-residents, packets_count}
use Rattle.kernel_model.proofs.KernelRecord.QueueCounts.{owners-packet}
use Rattle.kernel_model.proofs.KernelRecord.QueuedPackets.{work_packets}
use Rattle.kernel_model.proofs.KernelRecord.RootCounts.{head-low, owners-nodes}
use Rattle.kernel_model.proofs.KernelRecord.TaskCounts.{further_count, owners-task_by}
use Rattle.kernel_model.proofs.KernelRecord.TaskPlaces.{last-resident}

-- ---- blocks

-- none begins at an address that a block holds
held-no_start : (at : ℕ) (bs : List Block) (end a : ℕ) (b : Block) → Follow at bs end → holding a bs ≡ Some b → owners a (blocks_words bs) ≡ 0
held-no_start at [] end a b f e = cc
held-no_start at (c ∷ cs) end a b f e = on (has_data c a) refl e (held-no_start (block_end c) cs end a b f.3)
  where
    on : (t : Bool) → has_data c a ≡ t → cond t (Some c) (holding a cs) ≡ Some b → (holding a cs ≡ Some b → owners a (blocks_words cs) ≡ 0) → owners a (blocks_words (c ∷ cs)) ≡ 0
    on true is e more =
        let w = has_data-true c a is in
        omega (arith, hit-other a c.start (λ same. absurd (omega (arith, same, w.0))), starts-low (block_end c) cs end a f.3 w.1)
    on false is e more =
        let w : IsWithin (block_end c) end b = found-within (λ z. has_data z a) (block_end c) cs end b f.3 e in
        let d = has_data-true b a (find-passes (λ z. has_data z a) cs b e) in
        omega (arith, hit-other a c.start (λ same. absurd (omega (arith, same, w.low, d.0))), more e)

module _ (bs : List Block) (end : ℕ) (follow : Follow 200 bs end) where
  -- the block that has the words 0 to u from v on holds each of them
  pub held-by : (v u a : ℕ) → (b : HasBlock bs v u) → v ≤ a → a ≤ v + u → holding a bs ≡ Some (used_block b.start (need u))
  held-by v u a b low high =
      found-holding (is_used_at v) 200 bs end (used_block b.start (need u)) a follow b.block (omega (arith, b.here, low)) (omega (arith, b.here, high))

  -- blocks that hold the same address are the same
  same-block : (v u w x a : ℕ) → HasBlock bs v u → HasBlock bs w x → v ≤ a → a ≤ v + u → w ≤ a → a ≤ w + x → (v ≡ w) × (need u ≡ need x)
  same-block v u w x a b c low high from to =
      let e : ◌≡◌ {A = Option Block} (Some (used_block b.start (need u))) (Some (used_block c.start (need x))) = sym (held-by v u a b low high) ∙ held-by w x a c from to in
      (omega (arith, b.here, c.here, ap start_of e), ap size_of e)
    where
      start_of : Option Block → ℕ
      start_of None = 0
      start_of (Some z) = z.start

      size_of : Option Block → ℕ
      size_of None = 0
      size_of (Some z) = z.size

-- ---- packets

pub packets-append : (a : ℕ) (ps qs : List QueuedPacket) → packets_count a (ps ++ qs) ≡ packets_count a ps + packets_count a qs
packets-append a [] qs = omega arith
packets-append a (p ∷ ps) qs =
    omega (
      arith,
      owners-append a (packet_words p (first_of address_of (ps ++ qs) 0)) (linked_words address_of packet_words (ps ++ qs) 0),
      owners-append a (packet_words p (first_of address_of ps 0)) (linked_words address_of packet_words ps 0),
      owners-packet a p (first_of address_of (ps ++ qs) 0),
      owners-packet a p (first_of address_of ps 0),
      packets-append a ps qs,
    )

pub packets-more : (a : ℕ) (p : QueuedPacket) (ps : List QueuedPacket) → packets_count a (p ∷ ps) ≡ times a (range_with_len p.address 5) + packets_count a ps
packets-more a p ps = omega (arith, owners-append a (packet_words p (first_of address_of ps 0)) (linked_words address_of packet_words ps 0), owners-packet a p (first_of address_of ps 0))

-- ---- the words of tasks: those of the task blocks, those of packets, and those of coroutines

abbrev pub rows : ℕ → ℕ → List Task → ℕ
rows a version [] = 0
rows a version (t ∷ ts) = (times a (range_with_len t.address 23) + times a (range_with_len (t.address + 23) (further_count version t.id))) + rows a version ts

abbrev frames : ℕ → List Task → ℕ
frames a [] = 0
frames a (t ∷ ts) = times a (words_of coroutine_size (coroutine_addresses t)) + frames a ts

chain-count : (a version : ℕ) (ts : List Task) → owners a (linked_words task_address (task_words version) ts 0) ≡ rows a version ts + (packets_count a (work_packets ts) + frames a ts)
chain-count a version [] = refl
chain-count a version (t ∷ ts) =
    let n : ℕ = first_of task_address ts 0 in
    omega (
      arith,
      owners-append a (task_words version t n) (linked_words task_address (task_words version) ts 0),
      owners-task_by a version t n,
      packets-append a t.queue (work_packets ts),
      chain-count a version ts,
    )

-- a resident's task block lies in its place
pub row-there : (a i x p : ℕ) (l : Lists) (ts : List Task) → is_guest_id i ≡ false → resident_place i ≡ Some (x, p) → AllByRecursion (IsTask l) ts → has_task i ts ≡ true
    → times a (range_with_len x 23) ≤ rows a l.version ts
row-there a i x p l [] resident place all some = cc
row-there a i x p l (t ∷ ts) resident place all some = on (eqb t.id i) refl some (row-there a i x p l ts resident place all.1)
  where
    address : ◌≡◌ {A = Option (ℕ × ℕ)} (Some (x, p)) (Some (t.address, t.priority)) → x ≡ t.address
    address e = ap (λ (o : Option (ℕ × ℕ)). (unwrap_or o (0, 0)).0) e

    on : (b : Bool) → eqb t.id i ≡ b → (b || has_task i ts) ≡ true → (has_task i ts ≡ true → times a (range_with_len x 23) ≤ rows a l.version ts)
        → times a (range_with_len x 23) ≤ (times a (range_with_len t.address 23) + times a (range_with_len (t.address + 23) (further_count l.version t.id))) + rows a l.version ts
    on true e some more =
        let same : t.id ≡ i = eqb-true t.id i e in
        let at : x ≡ t.address = address (sym place ∙ ap resident_place (sym same) ∙ (all.0.resident (ap is_guest_id same ∙ resident)).place) in
        omega (arith, ap (λ z. times a (range_with_len z 23)) at)
    on false e some more = omega (arith, more some)

-- with residents, the words of task blocks and of queued packets are some of those that are owned
pub rows-packets : (a : ℕ) (l : Lists) → l.residents ≡ true → rows a l.version l.tasks + packets_count a (queued l) ≤ owners a (owned l)
rows-packets a l residents =
    omega (
      arith,
      owners-nodes a l,
      chain-count a l.version l.tasks,
      owners-residents a l residents,
      packets-append a (work_packets l.tasks) (l.clock ++ (l.keyboard ++ (l.output ++ l.pending))),
      packets-append a l.clock (l.keyboard ++ (l.output ++ l.pending)),
      packets-append a l.keyboard (l.output ++ l.pending),
      packets-append a l.output l.pending,
    )

-- ---- the words from 279 to 286

module _ (l : Lists) (v : AreValid l) (residents : l.residents ≡ true) (a : ℕ) (low : 279 ≤ a) (high : a ≤ 286) where
  abbrev last : ℕ
  last = last_resident_word l

  block : HasBlock l.blocks 201 last
  block = v.numbers.residents residents

  last-low : 86 ≤ last
  last-low = last-resident l

  last-high : last ≤ 114
  last-high = elim (has_task 2 l.tasks) as (λ b. cond b 114 86 ≤ 114) [ true ↦ omega arith | false ↦ omega arith ]

  -- what has a block and one of these words has the resident block
  in-block : (w u : ℕ) → HasBlock l.blocks w u → w ≤ a → a ≤ w + u → (w ≡ 201) × (need u ≡ need last)
  in-block w u b from to = same-block l.blocks (l.size - 2) v.blocks w u 201 last a b block from to (omega (arith, low)) (omega (arith, high, last-low))

  -- no guest has it
  row-none : (t : Task) → IsTask l t → times a (range_with_len t.address 23) + times a (range_with_len (t.address + 23) (further_count l.version t.id)) ≡ 0
  row-none t is = on (is_guest_id t.id) refl
    where
      on : (b : Bool) → is_guest_id t.id ≡ b → times a (range_with_len t.address 23) + times a (range_with_len (t.address + 23) (further_count l.version t.id)) ≡ 0
      on true guest =
          let count : further_count l.version t.id ≡ head_words_of l.version - 23 = ap (λ b. cond b (head_words_of l.version - 23) 0) guest in
          elim (cases_lt 0 (times a (range_with_len t.address 23) + times a (range_with_len (t.address + 23) (further_count l.version t.id)))) [
            | inl some ↦ absurd (large (times a (range_with_len t.address 23)) (times a (range_with_len (t.address + 23) (further_count l.version t.id))) some
                (λ here. (range-low a t.address 23 here, omega (arith, range-high a t.address 23 here)))
                (λ here. (omega (arith, range-low a (t.address + 23) (further_count l.version t.id) here), omega (arith, range-high a (t.address + 23) (further_count l.version t.id) here, count, head-low l.version))))
            | inr none ↦ omega (arith, none)
          ]
        where
          size : (w : ℕ) → need (head_words_of l.version + 1001 + w) ≡ need last → ⊥
          size w e = omega (arith, e, last-high, head-low l.version)

          large : (x y : ℕ) → 0 < x + y → (0 < x → (t.address ≤ a) × (a < t.address + head_words_of l.version + 23)) → (0 < y → (t.address ≤ a) × (a < t.address + head_words_of l.version + 23)) → ⊥
          large x y some here there =
              elim (cases_lt 0 x) [
                | inl first ↦ (let w = here first in size t.highest (in-block t.address (head_words_of l.version + 1001 + t.highest) (is.guest guest).block w.0 (omega (arith, w.1))).1)
                | inr none ↦ (let w = there (omega (arith, some, none)) in size t.highest (in-block t.address (head_words_of l.version + 1001 + t.highest) (is.guest guest).block w.0 (omega (arith, w.1))).1)
              ]
      on false resident =
          let count : further_count l.version t.id ≡ 0 = ap (λ b. cond b (head_words_of l.version - 23) 0) resident in
          let r = is.resident resident in
          placed (eqb t.id 1) (eqb t.id 2) (eqb t.id 3) (eqb t.id 4) r.place (ap (λ n. times a (range_with_len (t.address + 23) n)) count)
        where
          address : (x p : ℕ) → ◌≡◌ {A = Option (ℕ × ℕ)} (Some (x, p)) (Some (t.address, t.priority)) → x ≡ t.address
          address x p e = ap (λ (o : Option (ℕ × ℕ)). (unwrap_or o (0, 0)).0) e

          placed : (i j k m : Bool) → ◌≡◌ {A = Option (ℕ × ℕ)} (cond i (Some (201, 1000)) (cond j (Some (287, 3000)) (cond k (Some (224, 6000)) (cond m (Some (247, 5000)) None)))) (Some (t.address, t.priority))
              → times a (range_with_len (t.address + 23) (further_count l.version t.id)) ≡ 0
              → times a (range_with_len t.address 23) + times a (range_with_len (t.address + 23) (further_count l.version t.id)) ≡ 0
          placed true j k m e none = omega (arith, none, times-above a t.address 23 (omega (arith, address 201 1000 e, low)))
          placed false true k m e none = omega (arith, none, times-below a t.address 23 (omega (arith, address 287 3000 e, high)))
          placed false false true m e none = omega (arith, none, times-above a t.address 23 (omega (arith, address 224 6000 e, low)))
          placed false false false true e none = omega (arith, none, times-above a t.address 23 (omega (arith, address 247 5000 e, low)))
          placed false false false false e none = cc

  rows-none : (ts : List Task) → AllByRecursion (IsTask l) ts → rows a l.version ts ≡ 0
  rows-none [] all = refl
  rows-none (t ∷ ts) all = omega (arith, row-none t all.0, rows-none ts all.1)

  -- a coroutine that has it begins at the block's first word
  coroutines-front : (cs : List Coroutine) → AllByRecursion (IsCoroutine l) cs → 0 < times a (words_of coroutine_size (map coroutine_address cs)) → 0 < times 201 (words_of coroutine_size (map coroutine_address cs))
  coroutines-front [] all some = absurd (omega (arith, some))
  coroutines-front (c ∷ cs) all some =
      elim (cases_lt 0 (times a (range_with_len c.address 10))) [
        | inl here ↦
            let at = (in-block c.address c.highest all.0.block (range-low a c.address 10 here) (omega (arith, range-high a c.address 10 here, all.0.high))).0 in
            omega (arith, times-words_more coroutine_size 201 c.address (map coroutine_address cs), times-within 201 c.address 10 (omega (arith, at)) (omega (arith, at)))
        | inr none ↦
            omega (
              arith,
              times-words_more coroutine_size 201 c.address (map coroutine_address cs),
              coroutines-front cs all.1 (omega (arith, some, none, times-words_more coroutine_size a c.address (map coroutine_address cs))),
            )
      ]

  frames-front : (ts : List Task) → AllByRecursion (AreValidCoroutines l) ts → 0 < frames a ts → 0 < frames 201 ts
  frames-front [] all some = absurd (omega (arith, some))
  frames-front (t ∷ ts) all some =
      elim (cases_lt 0 (times a (words_of coroutine_size (coroutine_addresses t)))) [
        | inl here ↦ omega (arith, coroutines-front t.coroutines.list all.0.each here)
        | inr none ↦ omega (arith, frames-front ts all.1 (omega (arith, some, none)))
      ]

  -- and so does a module
  modules-front : (ms : List LoadedModule) → AllByRecursion (λ m. HasBlock l.blocks m.address (last_module_word m)) ms → 0 < owners a (linked_words module_address module_words ms 0)
      → 0 < owners 201 (linked_words module_address module_words ms 0)
  modules-front [] all some = absurd (omega (arith, some))
  modules-front (m ∷ ms) all some = on (cases_lt 0 (owners a (module_words m n))) (modules-front ms all.1)
    where
      n : ℕ
      n = first_of module_address ms 0

      k : ℕ
      k = suc (suc (length m.lengths))

      on : ◌⊎◌ (0 < owners a (module_words m n)) (owners a (module_words m n) ≤ 0)
          → (0 < owners a (linked_words module_address module_words ms 0) → 0 < owners 201 (linked_words module_address module_words ms 0))
          → 0 < owners 201 (linked_words module_address module_words (m ∷ ms) 0)
      on (inl here) more =
          let within : 0 < times a (range_with_len m.address k) = omega (arith, here, owners-row a m.address 1 (length m.lengths ∷ m.lengths)) in
          let at = (in-block m.address (last_module_word m) all.0 (range-low a m.address k within) (omega (arith, range-high a m.address k within))).0 in
          omega (arith, owners-append 201 (module_words m n) (linked_words module_address module_words ms 0), hit-same 201 m.address (sym at))
      on (inr none) more =
          omega (
            arith,
            owners-append 201 (module_words m n) (linked_words module_address module_words ms 0),
            more (omega (arith, some, none, owners-append a (module_words m n) (linked_words module_address module_words ms 0))),
          )

  -- of the residents' own words none is one of these
  keys-none : (x : Option ℕ) → owners a (key_words x) ≡ 0
  keys-none None = refl
  keys-none (Some res1) = owners-row a 271 0 (no_queue ∷ keyboard ∷ 0 ∷ res1 ∷ 0 ∷ []) ∙ times-above a 271 5 (omega (arith, low))

  fault-none : (free : Bool) → owners a (fault_packet_words free) ≡ 0
  fault-none false = refl
  fault-none true = owners-row a 310 0 (no_queue ∷ 0 ∷ 0 ∷ 0 ∷ 0 ∷ []) ∙ times-below a 310 5 (omega (arith, high))

  residents-count : owners a (resident_words l) ≡ packets_count a l.pending
  residents-count =
      omega (
        arith,
        owners-residents a l residents,
        hit-other a 270 (λ e. absurd (omega (arith, e, low))),
        keys-none l.key,
        owners-row a 271 5 (0 ∷ 0 ∷ 0 ∷ []),
        times-above a 276 3 (omega (arith, low)),
        fault-none l.fault_packet_free,
      )

  -- nobody but the shell owns the block's first word
  front : (frames 201 l.tasks ≡ 0) × (owners 201 (linked_words module_address module_words l.modules 0) ≡ 0)
  front =
      let shell : times 201 (range_with_len 201 23) ≤ rows 201 l.version l.tasks = row-there 201 1 201 1000 l l.tasks refl refl v.tasks.each (v.tasks.shell ∙ residents) in
      let one : owners 201 (owned l) ≤ 1 = v.owns.apart 201 in
      let own : 1 ≤ rows 201 l.version l.tasks = omega (arith, shell, times-within 201 201 23 (omega arith) (omega arith)) in
      plain _ _ _ _ _ _ _ _ _ _ _ _ _ (owners-nodes 201 l) (chain-count 201 l.version l.tasks) one own
    where
      plain : (w r e b t m c k o s x p f : ℕ) → w ≡ r + (e + (b + (t + (m + (c + (k + (o + s))))))) → t ≡ x + (p + f) → w ≤ 1 → 1 ≤ x → (f ≡ 0) × (m ≡ 0)
      plain w r e b t m c k o s x p f is tasks one own = (omega arith, omega arith)

  pub packet-words : owners a (owned l) ≡ packets_count a (queued l)
  packet-words =
      let no_frames : frames a l.tasks ≡ 0 = none (frames a l.tasks) (λ some. absurd (omega (arith, frames-front l.tasks v.coroutines some, front.0))) in
      let no_modules : owners a (linked_words module_address module_words l.modules 0) ≡ 0 =
      none (owners a (linked_words module_address module_words l.modules 0)) (λ some. absurd (omega (arith, modules-front l.modules v.modules some, front.1))) in
      let no_start : owners a (blocks_words l.blocks) ≡ 0 =
      held-no_start 200 l.blocks (l.size - 2) a (used_block block.start (need last)) v.blocks (held-by l.blocks (l.size - 2) v.blocks 201 last a block (omega (arith, low)) (omega (arith, high, last-low))) in
      let end : hit a (l.size - 2) ≡ 0 = hit-other a (l.size - 2) (λ e. absurd (omega (arith, e, high, inside))) in
      omega (
        arith,
        owners-nodes a l,
        times-above a 100 84 (omega (arith, low)),
        end,
        no_start,
        chain-count a l.version l.tasks,
        rows-none l.tasks v.tasks.each,
        no_frames,
        no_modules,
        residents-count,
        packets-append a (work_packets l.tasks) (l.clock ++ (l.keyboard ++ (l.output ++ l.pending))),
        packets-append a l.clock (l.keyboard ++ (l.output ++ l.pending)),
        packets-append a l.keyboard (l.output ++ l.pending),
        packets-append a l.output l.pending,
      )
    where
      none : (n : ℕ) → (0 < n → n ≡ 0) → n ≡ 0
      none n h = elim (cases_lt 0 n) [ inl some ↦ h some | inr low ↦ omega (arith, low) ]

      inside : 287 < l.size - 2
      inside =
          let w : IsWithin 200 (l.size - 2) (used_block block.start (need last)) = found-within (is_used_at 201) 200 l.blocks (l.size - 2) (used_block block.start (need last)) v.blocks block.block in
          omega (arith, w.high, block.here, last-low)
