-- Whether the first packet at the clock is due, as the store has it.
use Rattle.std.proofs.Common.{◌≡◌, ◌≢◌, ℕ, ◌+◌, ◌<◌, false, List, [], ◌∷◌, get_or, leb, refl, sym, ap, ◌∙◌, arith}
use Rattle.std.specs.List.{AllByRecursion}
use Rattle.kernel_lists.specs.OwnedWords.Owned.{Holds}
use Rattle.kernel_lists.specs.PacketQueue.QueueWords.{QueuedPacket, first_packet, queue_words}
use Rattle.kernel_model.specs.KernelRecord.HoldsLists.{HoldsLists}
use Rattle.kernel_model.specs.KernelRecord.Lists.{Lists}
use Rattle.kernel_model.specs.KernelRecord.Owned.{clock_head}
use Rattle.kernel_calls.specs.declared.packet_calls.returns.Device.TheVariants.{Clock}
use Rattle.kernel_calls.proofs.PacketCalls.DeviceQueues.{device-held}
use Rattle.kernel_devices.specs.Tick.{is_first_due}

module _ (s : List ℕ) (l : Lists) (now : ℕ) (h : HoldsLists s l) (p : ℕ) (is : p ≡ get_or s clock_head 0) where
  first-is : p ≡ first_packet l.clock
  first-is = is ∙ (device-held s l Clock h).holds.0

  pub due-none : p ≡ 0 → false ≡ is_first_due now l.clock
  due-none e = on l.clock (device-held s l Clock h).some (sym first-is ∙ e)
    where
      on : (ps : List QueuedPacket) → AllByRecursion (λ z. 0 < z.address) ps → first_packet ps ≡ 0 → false ≡ is_first_due now ps
      on [] some e = refl
      on (z ∷ zs) some e = absurd (omega (arith, some.0, e))

  pub due-some : p ≢ 0 → (due : ℕ) → due ≡ get_or s (p + 4) 0 → leb due now ≡ is_first_due now l.clock
  due-some some due due_is = on l.clock (device-held s l Clock h).holds first-is
    where
      on : (ps : List QueuedPacket) → Holds s (queue_words clock_head ps) → p ≡ first_packet ps → leb due now ≡ is_first_due now ps
      on [] own at = absurd (some at)
      on (z ∷ zs) own at = ap (λ n. leb n now) (due_is ∙ ap (λ a. get_or s (a + 4) 0) at ∙ own.1.1.1.1.1.0)
