use Rattle.std.proofs.Common.{true, false, sym, ap, ◌∙◌}
use Rattle.std.proofs.lemmas.Bool.{eq-eqb, false_from_ne_true, false≢true}
use Rattle.kernel_lists.specs.PacketQueue.Queue.{no_queue}
use Rattle.kernel_calls.specs.CallAnswers.Refusals.{answer_of}
use Rattle.kernel_calls.specs.PacketCalls.Qpkt.{is_plain}
use Rattle.kernel_calls.proofs.PacketCalls.PacketTests.{plain-unowned, tests-are, unowned-plain}
use Rattle.kernel_calls.proofs.packet_calls.send.check_packet.Goals as goal

pub returns-then-not-are_unowned : goal.returns-then-not-are_unowned
returns-then-not-are_unowned g c = λ l k.
    sym (ap answer_of
    (tests-are c.args.store.now l c.args.p true true false (sym (c.is_lodged.ensures l k.lists) ∙ c.if-not-is_lodged.false)
    (eq-eqb _ no_queue (sym c.word.ensures ∙ c.if-word.false))
    (false_from_ne_true (is_plain l c.args.p)
    (λ yes. false≢true (sym c.if-not-are_unowned.true ∙ (c.are_unowned.ensures l k).1 (plain-unowned l c.args.p yes))))))

pub returns : goal.returns
returns g c = λ l k.
    sym (ap answer_of
    (tests-are c.args.store.now l c.args.p true true true (sym (c.is_lodged.ensures l k.lists) ∙ c.if-not-is_lodged.false)
    (eq-eqb _ no_queue (sym c.word.ensures ∙ c.if-word.false))
    (unowned-plain l c.args.p ((c.are_unowned.ensures l k).0 c.if-not-are_unowned.false))))
