-- A packet that waits for the output device is served.
use Rattle.std.specs.Prelude.{ℕ, ◌+◌, ◌%◌, List, [], ◌∷◌, slice_index}
use Rattle.kernel_lists.specs.PacketQueue.QueueWords.{QueuedPacket}
use Rattle.kernel_model.specs.KernelRecord.Lists.{Lists}
use Rattle.kernel_calls.specs.PacketCalls.Returned.{DeviceChange, first_returned}
use Rattle.kernel_calls.specs.declared.packet_calls.returns.Device.TheVariants.{Output}
use Rattle.kernel_model.specs.declared.kernel_record.numbers.TheConstants.{FIRST}

-- the byte that is printed, where these packets waited: what word 5 of the first one ends with; beyond the store it is 0
abbrev pub printed : List ℕ → List QueuedPacket → List ℕ
printed words [] = []
printed words (p ∷ ps) = slice_index words (p.address + FIRST) % 256 ∷ []

-- the first packet at the output is returned with the results 0 and 0
abbrev pub finished : Lists → DeviceChange
finished l = first_returned Output 0 l.output l
