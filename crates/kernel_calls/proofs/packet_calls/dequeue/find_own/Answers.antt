use Rattle.std.proofs.Common.{true, false, Some, None, cond, option_map, sym, ap, ◌∙◌, subst, ◌≡◌}
use Rattle.kernel_lists.specs.LinkedList.Places.{has}
use Rattle.kernel_lists.specs.PacketQueue.Queue.{HasQueue, queue_at}
use Rattle.kernel_model.specs.KernelRecord.Changes.{queue_of}
use Rattle.kernel_model.specs.KernelRecord.ValidQueues.Place.{Work}
use Rattle.kernel_calls.specs.PacketCalls.Dqpkt.{Search, located}
use Rattle.kernel_calls.specs.PacketCalls.PacketMoves.{is_on_queue}
use Rattle.kernel_calls.specs.PacketCalls.QueueWords.{head_of}
use Rattle.kernel_calls.proofs.PacketCalls.CallerTask.{caller-number, caller-queue, caller-there}
use Rattle.kernel_calls.proofs.PacketCalls.HeldPlaces.{has-at, valid-at}
use Rattle.kernel_calls.proofs.packet_calls.dequeue.find_own.Goals as goal

pub has_packet-requires : goal.has_packet-requires
has_packet-requires c =
    let s = c.args.store.now in
    let l = c.requires.0 in
    let h = c.requires.1 in
    let t = c.caller-task.result in
    let g = c.caller-task.ensures l h c.requires.2 in
    subst (λ z. HasQueue s (head_of z)) (caller-queue s l l.running t h g) (valid-at s l (Work l.running) h (caller-there s l l.running t h g))

pub returns-then-not-has_packet : goal.returns-then-not-has_packet
returns-then-not-has_packet c = λ l h r.
    let s = c.args.store.now in
    let t = c.caller-task.result in
    let g = c.caller-task.ensures l h r in
    let own : Search = record { place = Work l.running; number = l.running; answer = l.running } in
    let none : is_on_queue c.args.p (queue_of (Work l.running) l) ≡ false =
    sym (has-at s l (Work l.running) h (caller-there s l l.running t h g) c.args.p) ∙ ap (λ z. has c.args.p (queue_at s (head_of z))) (caller-queue s l l.running t h g) ∙ sym c.has_packet.ensures ∙ c.if-not-has_packet.true
    in
    sym (ap (λ b. option_map (located l) (cond b (Some own) None)) none)

pub returns : goal.returns
returns c = λ l h r.
    let s = c.args.store.now in
    let t = c.caller-task.result in
    let g = c.caller-task.ensures l h r in
    let own : Search = record { place = Work l.running; number = l.running; answer = l.running } in
    let some : is_on_queue c.args.p (queue_of (Work l.running) l) ≡ true =
    sym (has-at s l (Work l.running) h (caller-there s l l.running t h g) c.args.p) ∙ ap (λ z. has c.args.p (queue_at s (head_of z))) (caller-queue s l l.running t h g) ∙ sym c.has_packet.ensures ∙ c.if-not-has_packet.false
    in
    let number : c.field-number.result ≡ l.running = c.field-number.ensures ∙ caller-number s l l.running t h g in
    (λ i. Some (record { queue = sym (caller-queue s l l.running t h g) i; number = number i; answer = number i }))
    ∙ sym (ap (λ b. option_map (located l) (cond b (Some own) None)) some)
