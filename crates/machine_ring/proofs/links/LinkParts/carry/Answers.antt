use Rattle.std.proofs.Common.{◌≡◌, ◌∙◌, ◌+◌, ap, subst}
use Rattle.machine_ring.specs.Flights.{coming, staying}
use Rattle.machine_ring.specs.Links.{Link, byte_taken, carried, carried_byte, carries_back, counts_after, is_new, letter_after, received_after, sender_after_answer}
use Rattle.machine_ring.proofs.links.LinkParts.carry.Goals as goal

pub returns-clause-link : goal.returns-clause-link
returns-clause-link c =
    let k = c.self.inside in
    let link = c.letter_after-link.ensures ∙ ap (letter_after k.rounds) c.as_slice.ensures in
    let acks = c.letter_after-acks.ensures ∙ ap (letter_after k.rounds) c.as_slice-2.ensures in
    let sender = c.take_turn.ensures.sender in
    let packets = c.take_turn.ensures.packets in
    let packets_left = c.take_data-byte.ensures.packets ∙ (λ i. record { items = staying (link i) (packets i).items; capacity = (packets i).capacity }) in
    let received = c.take_data-byte.ensures.received ∙ (λ i. received_after k.receiver c.args.room (coming (link i) (packets i).items)) in
    let counts = c.take_data-byte.ensures.counts ∙ (λ i. record { items = counts_after k.receiver c.args.room (coming (link i) (packets i).items) k.counts.items; capacity = k.counts.capacity }) in
    let counts_left = c.act-count.ensures.stays ∙ (λ i. record { items = staying (acks i) (counts i).items; capacity = (counts i).capacity }) in
    let count = c.act-count.ensures.comes ∙ (λ i. coming (acks i) (counts i).items) in
    let answered = c.take_answer-acknowledged.ensures.sender ∙ (λ i. sender_after_answer (count i) (sender i)) in
    subst (λ (j : Link). record { terms = k.terms; sender = c.take_answer-acknowledged.new.sender; packets = c.take_data-byte.new.packets.items; received = c.take_data-byte.new.receiver; counts = c.act-count.new.flight.items; rounds = k.rounds + 1 } ≡ carried c.args.first c.args.room j) c.self.view_is
    (λ i. record { terms = k.terms; sender = answered i; packets = (packets_left i).items; received = received i; counts = (counts_left i).items; rounds = k.rounds + 1 })

pub returns-clause-byte : goal.returns-clause-byte
returns-clause-byte c =
    let k = c.self.inside in
    let link = c.letter_after-link.ensures ∙ ap (letter_after k.rounds) c.as_slice.ensures in
    subst (λ (j : Link). c.take_data-byte.result ≡ carried_byte c.args.first c.args.room j) c.self.view_is
    (c.take_data-byte.ensures.byte ∙ (λ i. byte_taken k.receiver c.args.room (coming (link i) (c.take_turn.ensures.packets i).items)))

pub returns-clause-acknowledged : goal.returns-clause-acknowledged
returns-clause-acknowledged c =
    let k = c.self.inside in
    let link = c.letter_after-link.ensures ∙ ap (letter_after k.rounds) c.as_slice.ensures in
    let acks = c.letter_after-acks.ensures ∙ ap (letter_after k.rounds) c.as_slice-2.ensures in
    let sender = c.take_turn.ensures.sender in
    let packets = c.take_turn.ensures.packets in
    let counts = c.take_data-byte.ensures.counts ∙ (λ i. record { items = counts_after k.receiver c.args.room (coming (link i) (packets i).items) k.counts.items; capacity = k.counts.capacity }) in
    let count = c.act-count.ensures.comes ∙ (λ i. coming (acks i) (counts i).items) in
    subst (λ (j : Link). c.take_answer-acknowledged.result ≡ carries_back c.args.first c.args.room j) c.self.view_is
    (c.take_answer-acknowledged.ensures.new ∙ (λ i. is_new (count i) (sender i)))
