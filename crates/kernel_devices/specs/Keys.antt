-- A byte that was typed meets a packet that waits for one.
use Rattle.std.specs.Prelude.{ℕ, List, [], ◌∷◌, drop}
use Rattle.kernel_lists.specs.PacketQueue.QueueWords.{QueuedPacket}
use Rattle.kernel_model.specs.KernelRecord.Lists.{Lists}
use Rattle.kernel_calls.specs.PacketCalls.Returned.{DeviceChange, first_returned, unserved}
use Rattle.kernel_calls.specs.declared.packet_calls.returns.Device.TheVariants.{Keyboard}

-- the first packet is returned with the first byte, where there are both
abbrev pub met : List ℕ → Lists → DeviceChange
met [] l = unserved l
met (byte ∷ bytes) l = first_returned Keyboard byte l.keyboard l

-- the bytes that are left, where these packets waited
abbrev pub left_typed : List ℕ → List QueuedPacket → List ℕ
left_typed bytes [] = bytes
left_typed bytes (p ∷ ps) = drop 1 bytes
