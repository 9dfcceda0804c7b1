-- The queues of valid lists are in a store that holds their words.
use Rattle.std.proofs.Common.{ℕ, ◌<◌, ◌≤◌, List, arith}
use Rattle.std.specs.List.{AllByRecursion}
use Rattle.kernel_lists.specs.OwnedWords.Owned.{AreInside, Holds, Pairs, owners}
use Rattle.kernel_lists.specs.declared.getvec_chain.pieces.Block.{Block}
use Rattle.kernel_lists.specs.GetvecChain.Block.{has_data}
use Rattle.kernel_lists.proofs.GetvecChain.UsedBlocks.{has_data-true}
use Rattle.kernel_lists.specs.PacketQueue.QueueWords.{HeldQueue, QueuedPacket, queue_words}
use Rattle.kernel_model.specs.KernelRecord.Lists.{Lists}
use Rattle.kernel_model.specs.KernelRecord.ValidBlocks.{AreData}
use Rattle.kernel_model.specs.KernelRecord.ValidQueues.{IsValidPacket, Place}
use Rattle.word_store.proofs.Elements.{find-passes}
use Rattle.kernel_model.proofs.KernelRecord.EachMember.{all-each}

-- no data of a block are at 0
pub data-some : (bs : List Block) (p n : ℕ) → AreData bs p n → 0 < p
data-some bs p n d = omega (arith, (has_data-true d.block p (find-passes (λ b. has_data b p) bs d.block d.holds)).0)

pub packets-some : (l : Lists) (at : Place) (ps : List QueuedPacket) → AllByRecursion (IsValidPacket l at) ps → AllByRecursion (λ p. 0 < p.address) ps
packets-some l at ps all = all-each (IsValidPacket l at) (λ p. 0 < p.address) (λ p may. data-some l.blocks p.address 5 may.lodged) ps all

-- a queue whose words are among others that are apart and in the store
pub read-queue : (s : List ℕ) (head : ℕ) (ps : List QueuedPacket) (all : Pairs) → Holds s (queue_words head ps) → ((a : ℕ) → owners a (queue_words head ps) ≤ owners a all)
    → ((a : ℕ) → owners a all ≤ 1) → AreInside s all → AllByRecursion (λ p. 0 < p.address) ps → HeldQueue s head ps
read-queue s head ps all h among apart inside some =
    record { holds = h; apart = λ a. omega (arith, among a, apart a); inside = λ a own. inside a (omega (arith, own, among a)); some = some }
