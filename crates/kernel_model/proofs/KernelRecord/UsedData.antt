-- The words of tasks, modules, coroutines, packets and residents are data of used blocks.
use Rattle.std.proofs.Common.{◌≡◌, ℕ, suc, ◌+◌, ◌-◌, ◌<◌, ◌≤◌, ◌⊎◌, List, [], ◌∷◌, ◌++◌, length, not, cond, Bool, true, false, Some, None, Option, refl, sym, ap, ◌∙◌, arith, inl, inr, add-zero}
use Rattle.std.specs.List.{AllByRecursion, range_with_len}
use Rattle.std.proofs.lemmas.Bool.{and_parts, cases_eq, cases_lt}
use Rattle.word_store.specs.Count.{times}
use Rattle.word_store.proofs.Counts.{hit-other, range-high, range-low}
use Rattle.kernel_lists.specs.OwnedWords.LinkedWords.{linked_words}
use Rattle.kernel_lists.specs.OwnedWords.Owned.{Pairs, owners}
use Rattle.kernel_lists.proofs.OwnedWords.OwnedWords.{owners-append}
use Rattle.kernel_lists.proofs.OwnedWords.RowWords.{owners-row}
use Rattle.kernel_lists.specs.declared.getvec_chain.pieces.Block.{Block}
use Rattle.kernel_lists.specs.GetvecChain.Block.{has_data, is_used_at, used_block}
use Rattle.kernel_lists.specs.GetvecChain.Run.{need}
use Rattle.kernel_lists.specs.GetvecChain.Tiling.{Follow}
use Rattle.kernel_lists.proofs.GetvecChain.UsedBlocks.{has_data-true}
use Rattle.kernel_lists.specs.HunkLoader.HeldModules.{LoadedModule, module_address, module_words}
use Rattle.kernel_lists.specs.PacketQueue.Queue.{no_queue}
use Rattle.kernel_lists.specs.PacketQueue.QueueWords.{QueuedPacket, address_of as packet_address, packet_words, queue_words}
use Rattle.kernel_lists.specs.Coroutines.HeldCoroutines.{Coroutine, address_of as coroutine_address, coroutine_words, parent_of}
use Rattle.kernel_model.specs.KernelRecord.Lists.{Lists, has_task, is_queued}
use Rattle.kernel_model.specs.KernelRecord.Residents.{fault_packet, fault_packet_words, key_arguments, key_words, keyboard, pending_head, resident_words}
use Rattle.kernel_model.specs.KernelRecord.Task.{Task, further_modules, task_address, task_words}
use Rattle.kernel_model.specs.KernelRecord.UsedData.{IsUsedData}
use Rattle.kernel_model.specs.KernelRecord.ValidBlocks.{AreData, HasBlock, last_module_word, last_resident_word}
use Rattle.kernel_model.specs.KernelRecord.ValidLists.{AreValid}
use Rattle.kernel_model.specs.KernelRecord.ValidQueues.{IsValidPacket, Place}
use Rattle.kernel_model.specs.KernelRecord.ValidQueues.Place.{Pending, Work}
use Rattle.kernel_model.specs.KernelRecord.ValidTasks.{AreValidCoroutines, IsCoroutine}
use Rattle.word_store.proofs.Elements.{find-passes}
use Rattle.kernel_model.proofs.KernelRecord.EachMember.{all-both, all-each, linked-each}
use Rattle.kernel_model.proofs.KernelRecord.FollowedBlocks.{found-holding}
use Rattle.kernel_model.proofs.KernelRecord.TaskKind.{frames_of, owners-whole, packets_of}
use Rattle.kernel_model.proofs.KernelRecord.TaskPlaces.{TaskPlace, last-resident, task-places}

module _ (bs : List Block) (end : ℕ) (follow : Follow 200 bs end) where
  -- the data of a block of a known size
  pub block-data : (v u a : ℕ) → HasBlock bs v u → v ≤ a → a ≤ v + u → IsUsedData bs a
  block-data v u a b low high =
      record {
        block = used_block b.start (need u);
        holds = found-holding (is_used_at v) 200 bs end (used_block b.start (need u)) a follow b.block (omega (arith, b.here, low)) (omega (arith, b.here, high));
        used = refl;
      }

  -- words that are data of one used block
  pub lodged-data : (p n a : ℕ) → AreData bs p n → p ≤ a → a < p + n → IsUsedData bs a
  lodged-data p n a d low high =
      let within = has_data-true d.block p (find-passes (λ b. has_data b p) bs d.block d.holds) in
      record {
        block = d.block;
        holds = found-holding (λ b. has_data b p) 200 bs end d.block a follow d.holds (omega (arith, within.0, low)) (omega (arith, d.whole, high));
        used = d.used;
      }

  pub packet-data : (p : QueuedPacket) (a n : ℕ) → AreData bs p.address 5 → 0 < owners a (packet_words p n) → IsUsedData bs a
  packet-data p a n d some =
      let within : 0 < times a (range_with_len p.address 5) = omega (arith, some, owners-row a p.address 1 (p.sender ∷ p.kind ∷ p.res1 ∷ p.last ∷ [])) in
      lodged-data p.address 5 a d (range-low a p.address 5 within) (range-high a p.address 5 within)

  pub packets-data : (ps : List QueuedPacket) (a : ℕ) → AllByRecursion (λ p. AreData bs p.address 5) ps → 0 < owners a (linked_words packet_address packet_words ps 0) → IsUsedData bs a
  packets-data ps a all some =
      linked-each (IsUsedData bs) packet_address packet_words ps 0 a
      (all-each (λ p. AreData bs p.address 5) (λ p. (n : ℕ) → 0 < owners a (packet_words p n) → IsUsedData bs a) (λ p d n own. packet-data p a n d own) ps all) some

  -- a coroutine's words 0 to 9
  pub coroutine-data : (t : ℕ) (act : List ℕ) (c : Coroutine) (a n : ℕ) → HasBlock bs c.address c.highest → 16 ≤ c.highest → 0 < owners a (coroutine_words t act c n) → IsUsedData bs a
  coroutine-data t act c a n b high some =
      let within : 0 < times a (range_with_len c.address 10) =
      omega (
        arith,
        some,
        owners-row a c.address 0 (c.saved_p ∷ parent_of t act c.address ∷ n ∷ c.function ∷ c.highest ∷ c.address ∷ c.saved_pc ∷ 0 ∷ 0 ∷ c.function ∷ []),
        ap (λ z. times a (range_with_len z 10)) (add-zero c.address),
      )
      in
      block-data c.address c.highest a b (range-low a c.address 10 within) (omega (arith, high, range-high a c.address 10 within))

  -- a module's words up to its lengths
  pub module-data : (m : LoadedModule) (a n : ℕ) → HasBlock bs m.address (last_module_word m) → 0 < owners a (module_words m n) → IsUsedData bs a
  module-data m a n b some =
      let k : ℕ = suc (suc (length m.lengths)) in
      let within : 0 < times a (range_with_len m.address k) = omega (arith, some, owners-row a m.address 1 (length m.lengths ∷ m.lengths)) in
      block-data m.address (last_module_word m) a b (range-low a m.address k within) (omega (arith, range-high a m.address k within))

-- what may be in a queue is lodged
pub lodged : (l : Lists) (at : Place) (ps : List QueuedPacket) → AllByRecursion (IsValidPacket l at) ps → AllByRecursion (λ p. AreData l.blocks p.address 5) ps
lodged l at ps all = all-each (IsValidPacket l at) (λ p. AreData l.blocks p.address 5) (λ p may. may.lodged) ps all

module _ (l : Lists) (v : AreValid l) where
  abbrev end : ℕ
  end = l.size - 2

  pub task-data : (t : Task) (a n : ℕ) → TaskPlace l t → AreValidCoroutines l t → AllByRecursion (IsValidPacket l (Work t.id)) t.queue → 0 < owners a (task_words l.version t n) → IsUsedData l.blocks a
  task-data t a n p valid-coroutines may some = head (cases_lt 0 (times a (range_with_len t.address 23)))
    where
      k : ℕ
      k = length (further_modules l.version t)

      within : t.address ≤ a → a < t.address + (23 + k) → IsUsedData l.blocks a
      within low high = block-data l.blocks end v.blocks p.first p.last a p.block (omega (arith, p.low, low)) (omega (arith, p.high, high))

      last : owners a (packets_of t) ≡ 0 → 0 < owners a (frames_of t) → IsUsedData l.blocks a
      last none own =
          linked-each (IsUsedData l.blocks) coroutine_address (coroutine_words t.address t.coroutines.active) t.coroutines.list 0 a
          (all-each (IsCoroutine l) (λ c. (n : ℕ) → 0 < owners a (coroutine_words t.address t.coroutines.active c n) → IsUsedData l.blocks a)
          (λ c is n own. coroutine-data l.blocks end v.blocks t.address t.coroutines.active c a n is.block is.high own) t.coroutines.list valid-coroutines.each) own

      lists : 0 < owners a (packets_of t) + owners a (frames_of t) → IsUsedData l.blocks a
      lists own =
          elim (cases_lt 0 (owners a (packets_of t))) [
            | inl here ↦ packets-data l.blocks end v.blocks t.queue a (lodged l (Work t.id) t.queue may) here
            | inr none ↦ last (omega (arith, none)) (omega (arith, own, none))
          ]

      further : times a (range_with_len t.address 23) ≡ 0 → IsUsedData l.blocks a
      further none =
          elim (cases_lt 0 (times a (range_with_len (t.address + 23) k))) [
            | inl here ↦ within (omega (arith, range-low a (t.address + 23) k here)) (omega (arith, range-high a (t.address + 23) k here))
            | inr also ↦ lists (omega (arith, some, none, also, owners-whole a l.version t n))
          ]

      head : ◌⊎◌ (0 < times a (range_with_len t.address 23)) (times a (range_with_len t.address 23) ≤ 0) → IsUsedData l.blocks a
      head (inl here) = within (range-low a t.address 23 here) (omega (arith, range-high a t.address 23 here))
      head (inr none) = further (omega (arith, none))

  pub tasks-data : (a : ℕ) → 0 < owners a (linked_words task_address (task_words l.version) l.tasks 0) → IsUsedData l.blocks a
  tasks-data a some =
      linked-each (IsUsedData l.blocks) task_address (task_words l.version) l.tasks 0 a
      (all-each (λ t. (TaskPlace l t × AreValidCoroutines l t) × AllByRecursion (IsValidPacket l (Work t.id)) t.queue) (λ t. (n : ℕ) → 0 < owners a (task_words l.version t n) → IsUsedData l.blocks a)
      (λ t h n own. task-data t a n h.0.0 h.0.1 h.1 own) l.tasks
      (all-both (λ t. TaskPlace l t × AreValidCoroutines l t) (λ t. AllByRecursion (IsValidPacket l (Work t.id)) t.queue) l.tasks
      (all-both (TaskPlace l) (AreValidCoroutines l) l.tasks (task-places l v) v.coroutines) v.queues.tasks)) some

  pub modules-data : (a : ℕ) → 0 < owners a (linked_words module_address module_words l.modules 0) → IsUsedData l.blocks a
  modules-data a some =
      linked-each (IsUsedData l.blocks) module_address module_words l.modules 0 a
      (all-each (λ m. HasBlock l.blocks m.address (last_module_word m)) (λ m. (n : ℕ) → 0 < owners a (module_words m n) → IsUsedData l.blocks a)
      (λ m b n own. module-data l.blocks end v.blocks m a n b own) l.modules v.modules) some

  -- a word of the resident block
  resident-word : (a : ℕ) → l.residents ≡ true → 201 ≤ a → a ≤ 201 + last_resident_word l → IsUsedData l.blocks a
  resident-word a residents low high = block-data l.blocks end v.blocks 201 (last_resident_word l) a (v.numbers.residents residents) low high

  -- the words of the console's key packet that are the kernel's
  key-within : (a : ℕ) (key : Option ℕ) → 0 < owners a (key_words key) → (271 ≤ a) × (a < 276)
  key-within a None some = absurd (omega (arith, some))
  key-within a (Some res1) some =
      let within : 0 < times a (range_with_len 271 5) = omega (arith, some, owners-row a 271 0 (no_queue ∷ keyboard ∷ 0 ∷ res1 ∷ 0 ∷ [])) in
      (range-low a 271 5 within, range-high a 271 5 within)

  fault-within : (a : ℕ) (free : Bool) → 0 < owners a (fault_packet_words free) → (free ≡ true) × (310 ≤ a) × (a < 315)
  fault-within a false some = absurd (omega (arith, some))
  fault-within a true some =
      let within : 0 < times a (range_with_len 310 5) = omega (arith, some, owners-row a 310 0 (no_queue ∷ 0 ∷ 0 ∷ 0 ∷ 0 ∷ [])) in
      (refl, range-low a 310 5 within, range-high a 310 5 within)

  pub residents-data : (a : ℕ) → 0 < owners a (resident_words l) → IsUsedData l.blocks a
  residents-data a some = on l.residents refl some
    where
      queue : Pairs
      queue = queue_words pending_head l.pending

      packets : Pairs
      packets = linked_words packet_address packet_words l.pending 0

      fault : l.residents ≡ true → 0 < owners a (fault_packet_words l.fault_packet_free) → IsUsedData l.blocks a
      fault residents own =
          let w = fault-within a l.fault_packet_free own in
          let there : has_task 2 l.tasks ≡ true = (and_parts (has_task 2 l.tasks) (not (is_queued fault_packet l)) (sym v.queues.fault ∙ w.0)).0 in
          let last : last_resident_word l ≡ 114 = ap (λ b. cond b 114 86) there in
          resident-word a residents (omega (arith, w.1)) (omega (arith, last, w.2))

      arguments : l.residents ≡ true → 0 < owners a key_arguments + owners a (fault_packet_words l.fault_packet_free) → IsUsedData l.blocks a
      arguments residents own =
          elim (cases_lt 0 (owners a key_arguments)) [
            | inl here ↦
                let within : 0 < times a (range_with_len 276 3) = omega (arith, here, owners-row a 271 5 (0 ∷ 0 ∷ 0 ∷ [])) in
                resident-word a residents (omega (arith, range-low a 276 3 within)) (omega (arith, last-resident l, range-high a 276 3 within))
            | inr none ↦ fault residents (omega (arith, own, none))
          ]

      key : l.residents ≡ true → 0 < owners a (key_words l.key) + (owners a key_arguments + owners a (fault_packet_words l.fault_packet_free)) → IsUsedData l.blocks a
      key residents own =
          elim (cases_lt 0 (owners a (key_words l.key))) [
            | inl here ↦ (let w = key-within a l.key here in resident-word a residents (omega (arith, w.0)) (omega (arith, last-resident l, w.1)))
            | inr none ↦ arguments residents (omega (arith, own, none))
          ]

      pending : l.residents ≡ true → 0 < owners a packets + (owners a (key_words l.key) + (owners a key_arguments + owners a (fault_packet_words l.fault_packet_free))) → IsUsedData l.blocks a
      pending residents own =
          elim (cases_lt 0 (owners a packets)) [
            | inl here ↦ packets-data l.blocks end v.blocks l.pending a (lodged l Pending l.pending v.queues.pending) here
            | inr none ↦ key residents (omega (arith, own, none))
          ]

      head : l.residents ≡ true → 0 < owners a (queue ++ (key_words l.key ++ (key_arguments ++ fault_packet_words l.fault_packet_free))) → IsUsedData l.blocks a
      head residents own =
          elim (cases_eq a 270) [
            | inl e ↦ resident-word a residents (omega (arith, e)) (omega (arith, e, last-resident l))
            | inr ne ↦
                pending residents (omega (
                  arith,
                  own,
                  hit-other a 270 ne,
                  owners-append a queue (key_words l.key ++ (key_arguments ++ fault_packet_words l.fault_packet_free)),
                  owners-append a (key_words l.key) (key_arguments ++ fault_packet_words l.fault_packet_free),
                  owners-append a key_arguments (fault_packet_words l.fault_packet_free),
                ))
          ]

      on : (b : Bool) → l.residents ≡ b → 0 < owners a (cond b (queue ++ (key_words l.key ++ (key_arguments ++ fault_packet_words l.fault_packet_free))) []) → IsUsedData l.blocks a
      on true residents own = head residents own
      on false none own = absurd (omega (arith, own))
