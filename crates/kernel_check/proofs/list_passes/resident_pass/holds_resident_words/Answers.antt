use Rattle.std.proofs.Common.{◌∙◌, refl, sym}
use Rattle.std.proofs.lemmas.Bool.{false≢true}
use Rattle.kernel_check.proofs.ListPasses.FreePackets.{arguments-part, fault-part, key-part, none-there, parts-hold}
use Rattle.kernel_check.proofs.list_passes.resident_pass.holds_resident_words.Goals as goal

pub returns-then-not-has_residents : goal.returns-then-not-has_residents
returns-then-not-has_residents c = (λ t. none-there c.args.store.now (sym c.has_residents.ensures ∙ c.if-not-has_residents.true), λ h. refl)

pub returns-then-not-holds_key_packet : goal.returns-then-not-holds_key_packet
returns-then-not-holds_key_packet c = (
  λ t. absurd (false≢true t),
  λ h. sym c.if-not-holds_key_packet.true ∙ c.holds_key_packet.ensures.1 (key-part c.args.store.now (sym c.has_residents.ensures ∙ c.if-not-has_residents.false) h),
)

pub returns-then-not-holds_key_arguments : goal.returns-then-not-holds_key_arguments
returns-then-not-holds_key_arguments c = (
  λ t. absurd (false≢true t),
  λ h. sym c.if-not-holds_key_arguments.true ∙ c.holds_key_arguments.ensures.1 (arguments-part c.args.store.now (sym c.has_residents.ensures ∙ c.if-not-has_residents.false) h),
)

pub returns : goal.returns
returns c = (
  λ t. parts-hold c.args.store.now (sym c.has_residents.ensures ∙ c.if-not-has_residents.false) c.requires.claimed (c.holds_key_packet.ensures.0 c.if-not-holds_key_packet.false)
      (c.holds_key_arguments.ensures.0 c.if-not-holds_key_arguments.false) (c.holds_fault_packet.ensures.0 t),
  λ h. c.holds_fault_packet.ensures.1 (fault-part c.args.store.now (sym c.has_residents.ensures ∙ c.if-not-has_residents.false) h),
)
