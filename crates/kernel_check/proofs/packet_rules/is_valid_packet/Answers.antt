use Rattle.std.proofs.Common.{◌∙◌, sym}
use Rattle.std.proofs.lemmas.Bool.{false≢true}
use Rattle.kernel_model.specs.KernelRecord.Recovered.{lists_in, packet_in}
use Rattle.kernel_check.specs.Private.Places.{place_of}
use Rattle.kernel_check.proofs.PacketRules.{key-may, other-may}
use Rattle.kernel_check.proofs.packet_rules.is_valid_packet.Goals as goal

pub returns-then-is_key_packet : goal.returns-then-is_key_packet
returns-then-is_key_packet c =
    key-may (lists_in c.args.store.now) (place_of c.args.at) (packet_in c.args.store.now c.args.p) c.requires.lodged c.is_key_packet.result c.is_key_packet.ensures c.if-is_key_packet.true
    c.is_valid_key_packet.result c.is_valid_key_packet.ensures

pub returns-then-not-fault_rule_holds : goal.returns-then-not-fault_rule_holds
returns-then-not-fault_rule_holds c = (λ t. absurd (false≢true t), λ m. sym c.if-not-fault_rule_holds.true ∙ c.fault_rule_holds.ensures.1 m.fault)

pub returns : goal.returns
returns c =
    other-may (lists_in c.args.store.now) (place_of c.args.at) (packet_in c.args.store.now c.args.p) c.requires.lodged c.is_key_packet.result c.is_key_packet.ensures c.if-is_key_packet.false
    (c.fault_rule_holds.ensures.0 c.if-not-fault_rule_holds.false) c.has_sender.result c.word_at.result c.word_at.ensures c.has_sender.ensures
