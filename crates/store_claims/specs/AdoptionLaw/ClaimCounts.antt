-- The words that the walks of a check claim: those of linked things and of residents, of the lists that are read off.
use Rattle.std.specs.Prelude.{◌≡◌, ℕ, ◌+◌, ◌<◌, true, List}
use Rattle.kernel_lists.specs.OwnedWords.LinkedWords.{linked_words}
use Rattle.kernel_lists.specs.OwnedWords.Owned.{owners}
use Rattle.kernel_lists.specs.GetvecChain.Tiling.{blocks_in}
use Rattle.kernel_lists.specs.HunkLoader.HeldModules.{module_address, module_words}
use Rattle.kernel_lists.specs.PacketQueue.QueueWords.{QueuedPacket, address_of, packet_words}
use Rattle.kernel_model.specs.KernelRecord.Lists.{Lists}
use Rattle.kernel_model.specs.KernelRecord.Recovered.{lists_in}
use Rattle.kernel_model.specs.KernelRecord.Residents.{resident_words}
use Rattle.kernel_model.specs.KernelRecord.Task.{task_address, task_words}
use Rattle.store_claims.specs.ListClaims.BlockData.{is_used_data}

-- how often the address is among the words of queued packets
abbrev pub packet_count : ℕ → List QueuedPacket → ℕ
packet_count a ps = owners a (linked_words address_of packet_words ps 0)

-- how often it is claimed
abbrev pub claim_count : ℕ → Lists → ℕ
claim_count a l =
    owners a (linked_words task_address (task_words l.version) l.tasks 0)
    + (owners a (linked_words module_address module_words l.modules 0)
    + (packet_count a l.clock + (packet_count a l.keyboard + (packet_count a l.output + owners a (resident_words l)))))

-- each claimed word is one of a used block's data
abbrev pub AreUsed : List ℕ → Type 0
AreUsed s = (a : ℕ) → 0 < claim_count a (lists_in s) → is_used_data a (blocks_in s) ≡ true
