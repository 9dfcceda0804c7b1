use Rattle.std.proofs.Common.{◌≡◌, ◌∙◌, ◌+◌, ap, sym}
use Rattle.kernel_lists.specs.TaskBlock.TaskChain.{tasks_in}
use Rattle.kernel_check.proofs.ListPasses.ClaimedWalks.{chain-walk}
use Rattle.kernel_check.proofs.QueuedPackets.{has_in, looked, looking, looks-on, next-queue, queue-at, work-found}
use Rattle.kernel_check.proofs.queued.is_work.Goals as goal

pub tasks-t-items-requires : goal.tasks-t-items-requires
tasks-t-items-requires c = chain-walk c.args.store.now c.requires

pub loop-t-init : goal.loop-t-init
loop-t-init c = (let is : c.into_iter-t-iterator.result ≡ tasks_in c.args.store.now = cc in looking c.args.store.now c.args.p c.into_iter-t-iterator.result is c.requires)

pub has_packet-requires : goal.has_packet-requires
has_packet-requires c =
    (queue-at c.args.store.now c.address_of.result (c.in-Some.t + 3) (c.address_of.ensures ∙ ap (λ i. c.in-Some.t + i) c.index.ensures)
    (next-queue c.args.store.now c.args.p c.loop-t.t-iterator c.in-Some.t c.next.new.self c.loop-t.invariant c.in-Some.ensures.steps)).queue

pub returns-then-has_packet : goal.returns-then-has_packet
returns-then-has_packet c =
    work-found c.args.store.now c.args.p c.loop-t.t-iterator c.in-Some.t c.next.new.self c.loop-t.invariant c.in-Some.ensures.steps
    (sym (ap (λ h. has_in c.args.store.now h c.args.p) (c.address_of.ensures ∙ ap (λ i. c.in-Some.t + i) c.index.ensures)) ∙ sym c.has_packet.ensures ∙ c.if-has_packet.true)

pub loop-t-preserved : goal.loop-t-preserved
loop-t-preserved c =
    looks-on c.args.store.now c.args.p c.loop-t.t-iterator c.in-Some.t c.next.new.self c.loop-t.invariant c.in-Some.ensures.steps
    (sym (ap (λ h. has_in c.args.store.now h c.args.p) (c.address_of.ensures ∙ ap (λ i. c.in-Some.t + i) c.index.ensures)) ∙ sym c.has_packet.ensures ∙ c.if-has_packet.false)

pub returns : goal.returns
returns c = looked c.args.store.now c.args.p c.loop-t.t-iterator c.loop-t.invariant c.in-None.ensures.steps.0
