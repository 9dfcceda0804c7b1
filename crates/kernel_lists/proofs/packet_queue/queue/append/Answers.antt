use Rattle.std.proofs.Common.{◌≡◌, ◌++◌, ◌∷◌, [], set, sym, subst}
use Rattle.kernel_lists.specs.LinkedList.Linked.{IsListAt}
use Rattle.kernel_lists.specs.PacketQueue.Queue.{last_link, link_of, packet_size, queue_at}
use Rattle.kernel_lists.proofs.PacketQueue.QueueChanges.{appended}
use Rattle.kernel_lists.proofs.packet_queue.queue.append.Goals as goal

after : (c : goal.After-set-2) → IsListAt c.set-2.new.self link_of packet_size c.args.head (queue_at c.args.store.now c.args.head ++ c.args.p ∷ [])
after c =
    let words : c.set-2.new.self ≡ set (set c.args.store.now c.args.p 0) (last_link c.args.store.now c.args.head) c.args.p = cc in
    subst (λ t. IsListAt t link_of packet_size c.args.head (queue_at c.args.store.now c.args.head ++ c.args.p ∷ [])) (sym words)
    (appended c.args.store.now c.args.head c.args.p c.requires.queue c.requires.packet)

pub returns-clause-queue : goal.returns-clause-queue
returns-clause-queue c = (after c).list

pub returns-clause-valid : goal.returns-clause-valid
returns-clause-valid c = (after c).valid
