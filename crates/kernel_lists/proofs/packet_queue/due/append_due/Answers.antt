use Rattle.std.proofs.Common.{◌≡◌, ◌∙◌, ◌+◌, ap, set, sym, subst}
use Rattle.kernel_lists.specs.LinkedList.Places.{insert_after, linked_in}
use Rattle.kernel_lists.specs.LinkedList.Linked.{IsListAt}
use Rattle.kernel_lists.proofs.LinkedList.Walks.{no_offset}
use Rattle.kernel_lists.specs.PacketQueue.Queue.{link_of, packet_size, queue_at}
use Rattle.kernel_lists.specs.PacketQueue.Due.{is_due, with_due}
use Rattle.kernel_lists.proofs.PacketQueue.QueueChanges.{due_appended}
use Rattle.kernel_lists.proofs.packet_queue.due.append_due.Goals as goal

words : (c : goal.After-set_due) → c.set_due.new.store ≡ with_due c.args.store.now c.args.head c.args.p c.args.due
words c =
    c.set_due.ensures ∙ ap (λ z. set z (c.args.p + 4) c.args.due)
    (c.link_in.ensures ∙ (λ i. linked_in c.args.store.now (no_offset i) (c.last_due_link-cell.ensures i) c.args.p))

pub returns-clause-words : goal.returns-clause-words
returns-clause-words c = words c

after : (c : goal.After-set_due) → IsListAt c.set_due.new.store link_of packet_size c.args.head (insert_after (is_due c.args.store.now c.args.due) c.args.p (queue_at c.args.store.now c.args.head))
after c =
    subst (λ t. IsListAt t link_of packet_size c.args.head (insert_after (is_due c.args.store.now c.args.due) c.args.p (queue_at c.args.store.now c.args.head))) (sym (words c))
    (due_appended c.args.store.now c.args.head c.args.p c.args.due c.requires.queue c.requires.packet)

pub returns-clause-queue : goal.returns-clause-queue
returns-clause-queue c = (after c).list

pub returns-clause-valid : goal.returns-clause-valid
returns-clause-valid c = (after c).valid
