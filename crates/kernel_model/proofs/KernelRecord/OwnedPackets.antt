-- Packets that are queued are owned, and so are the residents' two while they are not; so a packet that nobody owns is none of them.
use Rattle.std.proofs.Common.{◌≡◌, ℕ, ◌+◌, ◌<◌, ◌⊎◌, List, [], ◌∷◌, eqb, not, ◌&&◌, ◌||◌, Bool, true, false, Option, Some, None, inl, inr, refl, sym, ap, ◌∙◌, subst, arith}
use Rattle.std.specs.Prelude.{is_some}
use Rattle.std.specs.List.{range_with_len}
use Rattle.std.proofs.lemmas.Bool.{and_parts, eqb-true, false≢true, or_cases}
use Rattle.std.proofs.lemmas.List.Folds.{list_any-append}
use Rattle.word_store.specs.Count.{hit, times, words_of}
use Rattle.kernel_lists.specs.Coroutines.CoroutineWords.{coroutine_size}
use Rattle.word_store.proofs.Counts.{hit-same}
use Rattle.kernel_lists.specs.OwnedWords.LinkedWords.{first_of, headed_words, linked_words}
use Rattle.kernel_lists.specs.OwnedWords.Owned.{owners}
use Rattle.kernel_lists.proofs.OwnedWords.OwnedWords.{owners-append}
use Rattle.kernel_lists.specs.GetvecChain.BlockWords.{blocks_words}
use Rattle.kernel_lists.specs.HunkLoader.ModuleExchanges.{modules_words}
use Rattle.kernel_lists.specs.PacketQueue.QueueWords.{QueuedPacket, address_of, packet_words}
use Rattle.kernel_lists.specs.TaskBlock.ChainWords.{entries}
use Rattle.kernel_lists.specs.TaskBlock.HeldTasks.{address_with}
use Rattle.kernel_lists.specs.TaskBlock.RootWords.{first_task}
use Rattle.kernel_model.specs.KernelRecord.BlockUse.{coroutine_addresses}
use Rattle.kernel_model.specs.KernelRecord.Lists.{Lists, has_task, is_queued}
use Rattle.kernel_model.specs.KernelRecord.Owned.{clock_head, device_words, keyboard_head, output_head, owned, tasks_words}
use Rattle.kernel_model.specs.KernelRecord.Residents.{fault_packet, fault_packet_words, key_arguments, key_packet, key_words, pending_head, resident_words}
use Rattle.kernel_model.specs.KernelRecord.Task.{Task, task_address, task_id, task_words}
use Rattle.kernel_model.specs.KernelRecord.ValidLists.{AreValid}
use Rattle.kernel_model.specs.KernelRecord.ValidQueues.{is_fault_packet, is_key_packet}
use Rattle.kernel_model.specs.KernelRecord.Versions.{highest_id_of}
use Rattle.kernel_model.proofs.KernelRecord.OwnerCounts.{owners-devices, owners-owned, owners-residents, packets_count, root_count}
use Rattle.kernel_model.proofs.KernelRecord.QueuedPackets.{is_on_queue, is_queued-parts, work_packets}
use Rattle.kernel_model.proofs.KernelRecord.TaskCounts.{further_count, owners-task_by}

-- ---- a packet of a queue

pub packets-owned : (a : ℕ) (ps : List QueuedPacket) → is_on_queue a ps ≡ true → 0 < packets_count a ps
packets-owned a [] some = cc
packets-owned a (p ∷ ps) some = on (eqb p.address a) refl some (packets-owned a ps)
  where
    split : packets_count a (p ∷ ps) ≡ owners a (packet_words p (first_of address_of ps 0)) + packets_count a ps
    split = owners-append a (packet_words p (first_of address_of ps 0)) (linked_words address_of packet_words ps 0)

    on : (b : Bool) → eqb p.address a ≡ b → (b || is_on_queue a ps) ≡ true → (is_on_queue a ps ≡ true → 0 < packets_count a ps) → 0 < packets_count a (p ∷ ps)
    on true e some more = omega (arith, split, hit-same a p.address (sym (eqb-true p.address a e)))
    on false e some more = omega (arith, split, more some)

task-owned : (a version : ℕ) (t : Task) (n : ℕ) → 0 < packets_count a t.queue → 0 < owners a (task_words version t n)
task-owned a version t n some =
    within (times a (range_with_len t.address 23)) (times a (range_with_len (t.address + 23) (further_count version t.id))) (packets_count a t.queue) (times a (words_of coroutine_size (coroutine_addresses t)))
    (owners a (task_words version t n)) (owners-task_by a version t n) some
  where
    within : (h f p c w : ℕ) → w ≡ h + (f + (p + c)) → 0 < p → 0 < w
    within h f p c w e some = omega arith

-- a packet of a work queue
work-owned : (a version : ℕ) (ts : List Task) → is_on_queue a (work_packets ts) ≡ true → 0 < owners a (linked_words task_address (task_words version) ts 0)
work-owned a version [] some = cc
work-owned a version (t ∷ ts) some =
    elim (or_cases (is_on_queue a t.queue) (is_on_queue a (work_packets ts)) (sym (list_any-append (λ q. eqb q.address a) t.queue (work_packets ts)) ∙ some)) [
      | inl here ↦ left (owners a (task_words version t (first_of task_address ts 0))) (owners a (linked_words task_address (task_words version) ts 0)) _ split
          (task-owned a version t (first_of task_address ts 0) (packets-owned a t.queue here))
      | inr later ↦ right (owners a (task_words version t (first_of task_address ts 0))) (owners a (linked_words task_address (task_words version) ts 0)) _ split (work-owned a version ts later)
    ]
  where
    split : owners a (linked_words task_address (task_words version) (t ∷ ts) 0) ≡ owners a (task_words version t (first_of task_address ts 0)) + owners a (linked_words task_address (task_words version) ts 0)
    split = owners-append a (task_words version t (first_of task_address ts 0)) (linked_words task_address (task_words version) ts 0)

    left : (x y z : ℕ) → z ≡ x + y → 0 < x → 0 < z
    left x y z e h = omega arith

    right : (x y z : ℕ) → z ≡ x + y → 0 < y → 0 < z
    right x y z e h = omega arith

pub chain-owned : (a : ℕ) (l : Lists) → is_on_queue a (work_packets l.tasks) ≡ true → 0 < owners a (tasks_words l)
chain-owned a l some =
    within (owners a (entries (address_with task_address task_id l.tasks) 1 (highest_id_of l.version))) (hit a first_task) (owners a (linked_words task_address (task_words l.version) l.tasks 0)) (owners a (tasks_words l))
    (owners-append a (entries (address_with task_address task_id l.tasks) 1 (highest_id_of l.version)) (headed_words task_address (task_words l.version) first_task l.tasks 0)) (work-owned a l.version l.tasks some)
  where
    within : (e h t w : ℕ) → w ≡ e + (h + t) → 0 < t → 0 < w
    within e h t w q some = omega arith

-- ---- a packet of any queue

-- a part of the owned words that has the address
module _ (a : ℕ) (l : Lists) where
  some-part : (r b c d e f w : ℕ) → w ≡ r + (b + (c + (d + (e + f)))) → (0 < c) ⊎ ((0 < e) ⊎ (0 < f)) → 0 < w
  some-part r b c d e f w q h = elim h [ inl x ↦ omega arith | inr k ↦ elim k [ inl x ↦ omega arith | inr x ↦ omega arith ] ]

  pub owned-part : (0 < owners a (tasks_words l)) ⊎ ((0 < owners a (device_words l)) ⊎ (0 < owners a (resident_words l))) → 0 < owners a (owned l)
  owned-part h =
      some-part (root_count a l) (owners a (blocks_words l.blocks)) (owners a (tasks_words l)) (owners a (modules_words l.modules)) (owners a (device_words l)) (owners a (resident_words l))
      (owners a (owned l)) (owners-owned a l) h

  some-queue : (h x i y j z w : ℕ) → w ≡ (h + x) + ((i + y) + (j + z)) → (0 < x) ⊎ ((0 < y) ⊎ (0 < z)) → 0 < w
  some-queue h x i y j z w q some = elim some [ inl x ↦ omega arith | inr k ↦ elim k [ inl x ↦ omega arith | inr x ↦ omega arith ] ]

  device-owned : (0 < packets_count a l.clock) ⊎ ((0 < packets_count a l.keyboard) ⊎ (0 < packets_count a l.output)) → 0 < owners a (device_words l)
  device-owned h =
      some-queue (hit a clock_head) (packets_count a l.clock) (hit a keyboard_head) (packets_count a l.keyboard) (hit a output_head) (packets_count a l.output)
      (owners a (device_words l)) (owners-devices a l) h

  some-resident : (h p k x f w : ℕ) → w ≡ (h + p) + (k + (x + f)) → (0 < p) ⊎ ((0 < k) ⊎ (0 < f)) → 0 < w
  some-resident h p k x f w q some = elim some [ inl x ↦ omega arith | inr k ↦ elim k [ inl x ↦ omega arith | inr x ↦ omega arith ] ]

  resident-owned : l.residents ≡ true → (0 < packets_count a l.pending) ⊎ ((0 < owners a (key_words l.key)) ⊎ (0 < owners a (fault_packet_words l.fault_packet_free))) → 0 < owners a (resident_words l)
  resident-owned is h =
      some-resident (hit a pending_head) (packets_count a l.pending) (owners a (key_words l.key)) (owners a key_arguments) (owners a (fault_packet_words l.fault_packet_free))
      (owners a (resident_words l)) (owners-residents a l is) h

  pub queued-owned : (l.residents ≡ false → l.pending ≡ []) → is_queued a l ≡ true → 0 < owners a (owned l)
  queued-owned empty some =
      elim (or_cases (is_on_queue a (work_packets l.tasks)) _ (sym (is_queued-parts a l) ∙ some)) [
        | inl work ↦ owned-part (inl (chain-owned a l work))
        | inr device ↦ elim (or_cases (is_on_queue a l.clock) _ device) [
          | inl clock ↦ owned-part (inr (inl (device-owned (inl (packets-owned a l.clock clock)))))
          | inr device ↦ elim (or_cases (is_on_queue a l.keyboard) _ device) [
            | inl keyboard ↦ owned-part (inr (inl (device-owned (inr (inl (packets-owned a l.keyboard keyboard))))))
            | inr device ↦ elim (or_cases (is_on_queue a l.output) (is_on_queue a l.pending) device) [
              | inl output ↦ owned-part (inr (inl (device-owned (inr (inr (packets-owned a l.output output))))))
              | inr pending ↦ owned-part (inr (inr (waiting l.residents refl pending)))
            ]
          ]
        ]
      ]
    where
      waiting : (b : Bool) → l.residents ≡ b → is_on_queue a l.pending ≡ true → 0 < owners a (resident_words l)
      waiting true is pending = resident-owned is (inl (packets-owned a l.pending pending))
      waiting false none pending = absurd (false≢true (sym (ap (is_on_queue a) (empty none)) ∙ pending))

-- ---- the residents' two packets

key-owned : (l : Lists) → l.residents ≡ true → is_some l.key ≡ true → 0 < owners key_packet (owned l)
key-owned l is some = owned-part key_packet l (inr (inr (resident-owned key_packet l is (inr (inl (on l.key some))))))
  where
    on : (x : Option ℕ) → is_some x ≡ true → 0 < owners key_packet (key_words x)
    on None some = cc
    on (Some r) some = omega arith

fault-owned : (l : Lists) → l.residents ≡ true → l.fault_packet_free ≡ true → 0 < owners fault_packet (owned l)
fault-owned l is free = owned-part fault_packet l (inr (inr (resident-owned fault_packet l is (inr (inr (subst (λ b. 0 < owners fault_packet (fault_packet_words b)) (sym free) (omega arith)))))))

-- whether queued or not, they are owned where there are residents
pub key_packet-owned : (l : Lists) → AreValid l → l.residents ≡ true → 0 < owners key_packet (owned l)
key_packet-owned l v is = on (is_queued key_packet l) refl
  where
    on : (b : Bool) → is_queued key_packet l ≡ b → 0 < owners key_packet (owned l)
    on true some = queued-owned key_packet l v.queues.no_console some
    on false none = key-owned l is (v.queues.key ∙ (λ i. is i && not (none i)))

pub fault_packet-owned : (l : Lists) → AreValid l → has_task 2 l.tasks ≡ true → 0 < owners fault_packet (owned l)
fault_packet-owned l v has = on (is_queued fault_packet l) refl
  where
    on : (b : Bool) → is_queued fault_packet l ≡ b → 0 < owners fault_packet (owned l)
    on true some = queued-owned fault_packet l v.queues.no_console some
    on false none = fault-owned l (v.tasks.reporter has) (v.queues.fault ∙ (λ i. has i && not (none i)))

-- so a packet of which nobody owns the first word is none of them
module _ (l : Lists) (p : QueuedPacket) (v : AreValid l) (none : owners p.address (owned l) ≡ 0) where
  elsewhere : (there : Bool) (a : ℕ) → (there ≡ true → 0 < owners a (owned l)) → (there && eqb p.address a) ≡ false
  elsewhere there a own = on (there && eqb p.address a) refl
    where
      clash : (n : ℕ) → n ≡ 0 → 0 < n → ⊥
      clash n e some = omega arith

      on : (b : Bool) → (there && eqb p.address a) ≡ b → b ≡ false
      on false e = refl
      on true e =
          let both = and_parts there (eqb p.address a) e in
          absurd (clash (owners p.address (owned l)) none (subst (λ z. 0 < owners z (owned l)) (sym (eqb-true p.address a both.1)) (own both.0)))

  pub unowned-no_key : is_key_packet l p ≡ false
  unowned-no_key = elsewhere l.residents key_packet (key_packet-owned l v)

  pub unowned-no_fault : is_fault_packet l p ≡ false
  unowned-no_fault = elsewhere (has_task 2 l.tasks) fault_packet (fault_packet-owned l v)
