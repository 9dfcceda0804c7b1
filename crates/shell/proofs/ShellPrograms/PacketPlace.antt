-- The shell's packet while no queue has it: nobody owns its words and its arguments, and that stays where the same packets are queued.
use Rattle.std.proofs.Common.{◌≡◌, ◌⊎◌, ℕ, ◌+◌, ◌-◌, ◌<◌, ◌≤◌, List, [], ◌∷◌, ◌++◌, cond, Bool, true, false, Option, Some, None, inl, inr, refl, sym, ap, ◌∙◌, arith}
use Rattle.std.specs.List.{AllByRecursion, range_with_len}
use Rattle.std.proofs.lemmas.Bool.{cases_lt}
use Rattle.word_store.specs.Count.{times}
use Rattle.word_store.proofs.Elements.{all-append}
use Rattle.word_store.proofs.Counts.{range-high, range-low, times-within}
use Rattle.kernel_lists.specs.OwnedWords.Owned.{owners}
use Rattle.kernel_lists.specs.declared.getvec_chain.pieces.Block.{Block}
use Rattle.kernel_lists.specs.GetvecChain.Block.{block_end, used_block}
use Rattle.kernel_lists.specs.GetvecChain.Run.{need}
use Rattle.kernel_lists.specs.PacketQueue.QueueWords.{QueuedPacket}
use Rattle.kernel_model.specs.KernelRecord.Changes.{AreUnowned}
use Rattle.kernel_model.specs.KernelRecord.Lists.{Lists, has_task, queued}
use Rattle.kernel_model.specs.KernelRecord.Owned.{owned}
use Rattle.kernel_model.specs.KernelRecord.Task.{Task}
use Rattle.kernel_model.specs.KernelRecord.ValidBlocks.{AreData, last_resident_word}
use Rattle.kernel_model.specs.KernelRecord.ValidLists.{AreValid}
use Rattle.kernel_model.specs.KernelRecord.ValidQueues.{IsValidPacket}
use Rattle.kernel_model.specs.KernelRecord.ValidQueues.Place.{Clock, Keyboard, Output, Pending, Work}
use Rattle.kernel_model.proofs.KernelRecord.DataInside.{HasBlock-data}
use Rattle.kernel_model.proofs.KernelRecord.OwnerCounts.{packets_count}
use Rattle.kernel_model.proofs.KernelRecord.QueuedPackets.{work_packets}
use Rattle.kernel_model.proofs.KernelRecord.TaskPlaces.{last-resident}
use Rattle.kernel_model.proofs.KernelRecord.UsedData.{lodged}
use Rattle.kernel_model.specs.declared.kernel_record.numbers.TheConstants.{SHELL_PACKET}
use Rattle.shell.specs.ShellPrograms.KeptLists.{KeepsResidents}
use Rattle.shell.specs.ShellPrograms.ShellPacket.{HasPacket}
use Rattle.shell.proofs.ShellPrograms.PacketWords.{held-by, packet-words, packets-more, row-there, rows-packets}
use Rattle.kernel_calls.proofs.BlockCalls.IdleBlocks.{queued-lodged}

-- it lies in the resident block
pub packet-lodged : (l : Lists) → AreValid l → l.residents ≡ true → AreData l.blocks SHELL_PACKET 8
packet-lodged l v residents = HasBlock-data l 201 (last_resident_word l) SHELL_PACKET 8 v.blocks (v.numbers.residents residents) (omega arith) (omega (arith, last-resident l)) (omega arith)

pub packet-five : (l : Lists) → AreValid l → l.residents ≡ true → AreData l.blocks SHELL_PACKET 5
packet-five l v residents = HasBlock-data l 201 (last_resident_word l) SHELL_PACKET 5 v.blocks (v.numbers.residents residents) (omega arith) (omega (arith, last-resident l)) (omega arith)

-- ---- its arguments

module _ (l : Lists) (v : AreValid l) (residents : l.residents ≡ true) (a : ℕ) (low : 284 ≤ a) (high : a ≤ 286) where
  abbrev last : ℕ
  last = last_resident_word l

  -- a packet that begins there does not fit in the smaller resident block
  too-long : (p : QueuedPacket) → AreData l.blocks p.address 5 → 284 ≤ p.address → p.address ≤ 286 → last ≡ 86 → ⊥
  too-long p d from to small =
      let b = v.numbers.residents residents in
      let e : ◌≡◌ {A = Option Block} (Some d.block) (Some (used_block b.start (need last))) =
      sym d.holds ∙ held-by l.blocks (l.size - 2) v.blocks 201 last p.address b (omega (arith, from)) (omega (arith, to, small)) in
      omega (arith, d.whole, ap end_of e, b.here, from, small)
    where
      end_of : Option Block → ℕ
      end_of None = 0
      end_of (Some z) = block_end z

  -- one that has the word a has the word before these, or the word 288
  reaches : (ps : List QueuedPacket) → AllByRecursion (λ p. AreData l.blocks p.address 5) ps → 0 < packets_count a ps → (0 < packets_count 283 ps) ⊎ ((0 < packets_count 288 ps) × (last ≡ 86 → ⊥))
  reaches [] all some = absurd (omega (arith, some))
  reaches (p ∷ ps) all some = on (cases_lt 0 (times a (range_with_len p.address 5))) (reaches ps all.1)
    where
      Found : List QueuedPacket → Type 0
      Found qs = (0 < packets_count 283 qs) ⊎ ((0 < packets_count 288 qs) × (last ≡ 86 → ⊥))

      later : Found ps → Found (p ∷ ps)
      later (inl one) = inl (omega (arith, one, packets-more 283 p ps))
      later (inr two) = inr (omega (arith, two.0, packets-more 288 p ps), two.1)

      here : p.address ≤ a → a < p.address + 5 → ◌⊎◌ (p.address < 284) (284 ≤ p.address) → Found (p ∷ ps)
      here from to (inl before) = inl (omega (arith, packets-more 283 p ps, times-within 283 p.address 5 (omega (arith, before)) (omega (arith, to, low))))
      here from to (inr behind) =
          inr (omega (arith, packets-more 288 p ps, times-within 288 p.address 5 (omega (arith, from, high)) (omega (arith, behind))), too-long p all.0 behind (omega (arith, from, high)))

      on : ◌⊎◌ (0 < times a (range_with_len p.address 5)) (times a (range_with_len p.address 5) ≤ 0) → (0 < packets_count a ps → Found ps) → Found (p ∷ ps)
      on (inl own) more = here (range-low a p.address 5 own) (range-high a p.address 5 own) (cases_lt p.address 284)
      on (inr none) more = later (more (omega (arith, some, none, packets-more a p ps)))

  argument-unowned : owners 283 (owned l) ≡ 0 → owners a (owned l) ≡ 0
  argument-unowned none = elim (cases_lt 0 (owners a (owned l))) [ inl some ↦ absurd (found some) | inr none_there ↦ omega (arith, none_there) ]
    where
      reporter : 0 < packets_count 288 (queued l) → (b : Bool) → has_task 2 l.tasks ≡ b → (◌≡◌ {A = ℕ} (cond b 114 86) 86 → ⊥) → ⊥
      reporter some false e small = small refl
      reporter some true e small =
          omega (
            arith,
            some,
            v.owns.apart 288,
            rows-packets 288 l residents,
            row-there 288 2 287 3000 l l.tasks refl refl v.tasks.each e,
            times-within 288 287 23 (omega arith) (omega arith),
          )

      on : (0 < packets_count 283 (queued l)) ⊎ ((0 < packets_count 288 (queued l)) × (last ≡ 86 → ⊥)) → ⊥
      on (inl one) = omega (arith, one, none, packet-words l v residents 283 (omega arith) (omega arith))
      on (inr two) = reporter two.0 (has_task 2 l.tasks) refl two.1

      found : 0 < owners a (owned l) → ⊥
      found some = on (reaches (queued l) (queued-lodged l v) (omega (arith, some, packet-words l v residents a (omega (arith, low)) high)))

-- ---- the law

-- where the shell is, residents are
pub packet-residents : (l : Lists) → AreValid l → HasPacket l → l.residents ≡ true
packet-residents l v h = sym v.tasks.shell ∙ h.shell

pub packet-arguments : (l : Lists) → AreValid l → HasPacket l → AreUnowned l SHELL_PACKET (SHELL_PACKET + 8)
packet-arguments l v h c low high =
    elim (cases_lt c 284) [
      | inl before ↦ h.words c low before
      | inr behind ↦ argument-unowned l v (packet-residents l v h) c behind (omega (arith, high)) (h.words 283 (omega arith) (omega arith))
    ]

pub packet-kept : (l m : Lists) → AreValid l → AreValid m → KeepsResidents l m → queued m ≡ queued l → HasPacket l → HasPacket m
packet-kept l m v w k same h =
    let shell : has_task 1 m.tasks ≡ true = k.there 1 refl ∙ h.shell in
    record {
      shell = shell;
      words = λ c low high.
          packet-words m w (sym w.tasks.shell ∙ shell) c low (omega (arith, high))
          ∙ ap (packets_count c) same
          ∙ sym (packet-words l v (packet-residents l v h) c low (omega (arith, high)))
          ∙ h.words c low high;
    }
