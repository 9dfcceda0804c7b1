use Rattle.std.proofs.Common.{◌≡◌, true, false, Some, option_map, sym, ap, ◌∙◌, subst}
use Rattle.kernel_lists.specs.LinkedList.Places.{has}
use Rattle.kernel_lists.specs.PacketQueue.Queue.{HasQueue, queue_at}
use Rattle.kernel_model.specs.KernelRecord.Changes.{queue_of}
use Rattle.kernel_model.specs.KernelRecord.ValidQueues.Place.{Pending}
use Rattle.kernel_calls.specs.PacketCalls.Destinations.{place_of}
use Rattle.kernel_calls.specs.PacketCalls.Dqpkt.{located}
use Rattle.kernel_calls.specs.PacketCalls.PacketMoves.{is_on_queue}
use Rattle.kernel_calls.specs.PacketCalls.QueueWords.{head_of}
use Rattle.kernel_calls.proofs.PacketCalls.HeldPlaces.{has-at, valid-at}
use Rattle.kernel_calls.proofs.PacketCalls.NamedQueues.{named-place}
use Rattle.kernel_calls.proofs.PacketCalls.Searches.{console-there, found-behind, found-named, found-own, found-reads}
use Rattle.kernel_calls.proofs.packet_calls.dequeue.find_packet.Goals as goal

pub has_packet-requires : goal.has_packet-requires
has_packet-requires c =
    let l = c.requires.0 in
    subst (λ z. HasQueue c.args.store.now (head_of z)) (sym c.requires.4) (valid-at c.args.store.now l (place_of c.args.id) c.requires.1 (named-place l c.args.id c.requires.3))

pub returns-then-has_packet : goal.returns-then-has_packet
returns-then-has_packet c = λ l h r d q.
    let s = c.args.store.now in
    let some : is_on_queue c.args.p (queue_of (place_of c.args.id) l) ≡ true =
    sym (has-at s l (place_of c.args.id) h (named-place l c.args.id d) c.args.p) ∙ ap (λ z. has c.args.p (queue_at s (head_of z))) (sym q) ∙ sym c.has_packet.ensures ∙ c.if-has_packet.true
    in
    (λ i. Some (record { queue = q i; number = c.args.id; answer = c.args.id })) ∙ sym (ap (option_map (located l)) (found-named l c.args.id c.args.p some))

pub returns-then-id-ne-CONSOLE : goal.returns-then-id-ne-CONSOLE
returns-then-id-ne-CONSOLE c = λ l h r d q.
    let s = c.args.store.now in
    let none : is_on_queue c.args.p (queue_of (place_of c.args.id) l) ≡ false =
    sym (has-at s l (place_of c.args.id) h (named-place l c.args.id d) c.args.p) ∙ ap (λ z. has c.args.p (queue_at s (head_of z))) (sym q) ∙ sym c.has_packet.ensures ∙ c.if-has_packet.false
    in
    c.find_own.ensures l h r ∙ sym (ap (option_map (located l)) (found-own l c.args.id c.args.p none c.if-id-ne-CONSOLE.true))

pub has_packet-requires-2 : goal.has_packet-requires-2
has_packet-requires-2 c =
    let l = c.requires.0 in
    valid-at c.args.store.now l Pending c.requires.1 (console-there l c.args.id c.requires.1.valid c.requires.3 c.if-id-ne-CONSOLE.false)

pub returns-then-has_packet-2 : goal.returns-then-has_packet-2
returns-then-has_packet-2 c = λ l h r d q.
    let s = c.args.store.now in
    let none : is_on_queue c.args.p (queue_of (place_of c.args.id) l) ≡ false =
    sym (has-at s l (place_of c.args.id) h (named-place l c.args.id d) c.args.p) ∙ ap (λ z. has c.args.p (queue_at s (head_of z))) (sym q) ∙ sym c.has_packet.ensures ∙ c.if-has_packet.false
    in
    let some : is_on_queue c.args.p l.pending ≡ true =
    sym (has-at s l Pending h (console-there l c.args.id h.valid d c.if-id-ne-CONSOLE.false) c.args.p) ∙ sym c.has_packet-2.ensures ∙ c.if-has_packet-2.true
    in
    sym (ap (option_map (located l)) (found-reads l c.args.id c.args.p none c.if-id-ne-CONSOLE.false some))

pub returns : goal.returns
returns c = λ l h r d q.
    let s = c.args.store.now in
    let none : is_on_queue c.args.p (queue_of (place_of c.args.id) l) ≡ false =
    sym (has-at s l (place_of c.args.id) h (named-place l c.args.id d) c.args.p) ∙ ap (λ z. has c.args.p (queue_at s (head_of z))) (sym q) ∙ sym c.has_packet.ensures ∙ c.if-has_packet.false
    in
    let unread : is_on_queue c.args.p l.pending ≡ false =
    sym (has-at s l Pending h (console-there l c.args.id h.valid d c.if-id-ne-CONSOLE.false) c.args.p) ∙ sym c.has_packet-2.ensures ∙ c.if-has_packet-2.false
    in
    c.find_own-2.ensures l h r ∙ sym (ap (option_map (located l)) (found-behind l c.args.id c.args.p none c.if-id-ne-CONSOLE.false unread))
