-- Where owned words lie, and that nobody owns the data of a free block.
use Rattle.std.proofs.Common.{◌≡◌, ℕ, ◌+◌, ◌-◌, ◌<◌, List, ◌∷◌, ◌++◌, true, Some, Option, sym, ap, ◌∙◌, subst, arith, inl, inr}
use Rattle.std.specs.List.{range_with_len}
use Rattle.std.proofs.lemmas.Bool.{cases_eq, cases_lt, false≢true}
use Rattle.word_store.specs.Count.{times}
use Rattle.word_store.proofs.Counts.{hit-other, range-high}
use Rattle.kernel_lists.specs.OwnedWords.LinkedWords.{linked_words}
use Rattle.kernel_lists.specs.OwnedWords.Owned.{owners}
use Rattle.kernel_lists.specs.declared.getvec_chain.pieces.Block.{Block}
use Rattle.kernel_lists.specs.GetvecChain.Block.{block_end}
use Rattle.kernel_lists.specs.GetvecChain.BlockWords.{blocks_words}
use Rattle.kernel_lists.specs.GetvecChain.Tiling.{Follow, holding}
use Rattle.kernel_lists.proofs.GetvecChain.SizeWords.{Follow-order}
use Rattle.kernel_lists.specs.HunkLoader.HeldModules.{module_address, module_words}
use Rattle.kernel_lists.specs.PacketQueue.QueueWords.{QueuedPacket, address_of, packet_words}
use Rattle.kernel_model.specs.KernelRecord.Lists.{Lists}
use Rattle.kernel_model.specs.KernelRecord.Owned.{owned}
use Rattle.kernel_model.specs.KernelRecord.Residents.{resident_words}
use Rattle.kernel_model.specs.KernelRecord.Task.{task_address, task_words}
use Rattle.kernel_model.specs.KernelRecord.UsedData.{IsUsedData, OwnedWhere}
use Rattle.kernel_model.specs.KernelRecord.ValidLists.{AreValid}
use Rattle.kernel_model.specs.KernelRecord.ValidQueues.Place.{Clock, Keyboard, Output}
use Rattle.kernel_model.proofs.KernelRecord.FollowedBlocks.{IsDataOf, member-data}
use Rattle.kernel_model.proofs.KernelRecord.RootCounts.{owners-nodes}
use Rattle.kernel_model.proofs.KernelRecord.UsedData.{lodged, modules-data, packets-data, residents-data, tasks-data}

module _ (l : Lists) (v : AreValid l) (a : ℕ) where
  abbrev packets : List QueuedPacket → ℕ
  packets ps = owners a (linked_words address_of packet_words ps 0)

  abbrev tasks : ℕ
  tasks = owners a (linked_words task_address (task_words l.version) l.tasks 0)

  abbrev modules : ℕ
  modules = owners a (linked_words module_address module_words l.modules 0)

  devices-data : 0 < packets l.clock + (packets l.keyboard + (packets l.output + owners a (resident_words l))) → IsUsedData l.blocks a
  devices-data some =
      elim (cases_lt 0 (packets l.clock)) [
        | inl here ↦ packets-data l.blocks (l.size - 2) v.blocks l.clock a (lodged l Clock l.clock v.queues.clock) here
        | inr none ↦
            elim (cases_lt 0 (packets l.keyboard)) [
              | inl here ↦ packets-data l.blocks (l.size - 2) v.blocks l.keyboard a (lodged l Keyboard l.keyboard v.queues.keyboard) here
              | inr also ↦
                  elim (cases_lt 0 (packets l.output)) [
                    | inl here ↦ packets-data l.blocks (l.size - 2) v.blocks l.output a (lodged l Output l.output v.queues.output) here
                    | inr last ↦ residents-data l v a (omega (arith, some, none, also, last))
                  ]
            ]
      ]

  nodes-data : 0 < tasks + (modules + (packets l.clock + (packets l.keyboard + (packets l.output + owners a (resident_words l))))) → IsUsedData l.blocks a
  nodes-data some =
      elim (cases_lt 0 tasks) [
        | inl here ↦ tasks-data l v a here
        | inr none ↦
            elim (cases_lt 0 modules) [
              | inl here ↦ modules-data l v a here
              | inr also ↦ devices-data (omega (arith, some, none, also))
            ]
      ]

  pub owned-where : 0 < owners a (owned l) → OwnedWhere l a
  owned-where some =
      elim (cases_lt 0 (times a (range_with_len 100 84))) [
        | inl here ↦ inl (inl here)
        | inr none ↦
            elim (cases_eq a (l.size - 2)) [
              | inl e ↦ inl (inr (omega (arith, e, Follow-order 200 l.blocks (l.size - 2) v.blocks)))
              | inr ne ↦
                  elim (cases_lt 0 (owners a (blocks_words l.blocks))) [
                    | inl here ↦ inr (inl here)
                    | inr also ↦ inr (inr (nodes-data (omega (arith, some, none, also, hit-other a (l.size - 2) ne, owners-nodes a l))))
                  ]
            ]
      ]

pub free-data : (l : Lists) (before : List Block) (b : Block) (after : List Block) (a : ℕ) → AreValid l → l.blocks ≡ before ++ b ∷ after → b.free ≡ true
    → b.start < a → a < block_end b → owners a (owned l) ≡ 0
free-data l before b after a v is free above below =
    elim (cases_lt 0 (owners a (owned l))) [ inl some ↦ absurd (on (owned-where l v a some)) | inr none ↦ omega (arith, none) ]
  where
    d : IsDataOf 200 (l.size - 2) (before ++ b ∷ after) b a
    d = member-data 200 before b after (l.size - 2) a (subst (λ bs. Follow 200 bs (l.size - 2)) is v.blocks) above below

    same : (x y : Block) → ◌≡◌ {A = Option Block} (Some x) (Some y) → x ≡ y
    same x y e = cc

    on : OwnedWhere l a → ⊥
    on (inl (inl root)) = omega (arith, range-high a 100 84 root, d.low, above)
    on (inl (inr end)) = omega (arith, end, d.high, below)
    on (inr (inl size)) = omega (arith, size, ap (λ bs. owners a (blocks_words bs)) is, d.no_start)
    on (inr (inr used)) = false≢true (sym used.used ∙ ap (λ z. z.free) (same used.block b (sym used.holds ∙ ap (λ bs. holding a bs) is ∙ d.holds)) ∙ free)
