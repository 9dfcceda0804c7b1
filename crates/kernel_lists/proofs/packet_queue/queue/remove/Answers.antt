use Rattle.std.proofs.Common.{◌≡◌, ◌∙◌, ℕ, List, true, false, refl, ap, set, sym, subst}
use Rattle.kernel_lists.specs.LinkedList.Places.{has, without}
use Rattle.kernel_lists.specs.LinkedList.Linked.{IsListAt}
use Rattle.kernel_lists.proofs.LinkedList.Places.{without-none}
use Rattle.kernel_lists.proofs.LinkedList.UnlinkAnswer.{unlink-found, unlink-words}
use Rattle.kernel_lists.proofs.LinkedList.Walks.{no_offset}
use Rattle.kernel_lists.specs.PacketQueue.Queue.{link_of, no_queue, packet_size, queue_at, unlinked}
use Rattle.kernel_lists.proofs.PacketQueue.QueueChanges.{removed}
use Rattle.kernel_lists.proofs.packet_queue.queue.remove.Goals as goal

pub returns-then-not-unlink-clause-found : goal.returns-then-not-unlink-clause-found
returns-then-not-unlink-clause-found c =
    unlink-found c.args.store.now c.unlink.new.store c.args.p false no_offset refl c.if-not-unlink.ensures.found

pub returns-then-not-unlink-clause-queue : goal.returns-then-not-unlink-clause-queue
returns-then-not-unlink-clause-queue c =
    let s : List ℕ = c.args.store.now in
    ap (λ z. queue_at z c.args.head) c.if-not-unlink.ensures.unchanged
    ∙ sym (without-none c.args.p (queue_at s c.args.head) (sym (unlink-found s c.unlink.new.store c.args.p false no_offset refl c.if-not-unlink.ensures.found)))

-- the packet was there, and went
record Removal (s v : List ℕ) (head p : ℕ) : Type 0 where
  pub words : v ≡ unlinked s head p
  pub queue : IsListAt v link_of packet_size head (without p (queue_at s head))

after : (c : goal.After-set) → Removal c.args.store.now c.set.new.self c.args.head c.args.p
after c =
    let s : List ℕ = c.args.store.now in
    let there : has c.args.p (queue_at s c.args.head) ≡ true = sym (unlink-found s c.unlink.new.store c.args.p true no_offset refl c.if-not-unlink.ensures.found) in
    let words : c.set.new.self ≡ unlinked s c.args.head c.args.p
    = c.set.ensures.after
    ∙ ap (λ z. set z c.args.p no_queue) (unlink-words s c.unlink.new.store c.args.p true no_offset refl c.if-not-unlink.ensures.found there c.if-not-unlink.ensures.words) in
    record {
      words = words;
      queue = subst (λ t. IsListAt t link_of packet_size c.args.head (without c.args.p (queue_at s c.args.head))) (sym words)
          (removed s c.args.head c.args.p c.requires there);
    }

pub returns-clause-words : goal.returns-clause-words
returns-clause-words c = (after c).words

pub returns-clause-queue : goal.returns-clause-queue
returns-clause-queue c = (after c).queue.list

pub returns-clause-valid : goal.returns-clause-valid
returns-clause-valid c = (after c).queue.valid
