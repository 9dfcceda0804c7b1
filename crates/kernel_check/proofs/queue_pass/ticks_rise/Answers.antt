use Rattle.std.proofs.Common.{◌≡◌, refl}
use Rattle.std.proofs.lemmas.Bool.{false≢true}
use Rattle.kernel_lists.specs.PacketQueue.Queue.{queue_at}
use Rattle.kernel_check.proofs.QueueRules.{all-rise, of-rises, rises-not, rises-on, rising}
use Rattle.kernel_check.proofs.queue_pass.ticks_rise.Goals as goal

pub loop-p-init : goal.loop-p-init
loop-p-init c = (let is : c.into_iter-p-iterator.result ≡ queue_at c.args.store.now c.args.head = cc in rising c.args.store.now c.into_iter-p-iterator.result (queue_at c.args.store.now c.args.head) is)

pub returns-then-due-last : goal.returns-then-due-last
returns-then-due-last c = (
  λ t. absurd (false≢true t),
  λ h. absurd (rises-not c.args.store.now c.loop-p.last c.loop-p.p-iterator (queue_at c.args.store.now c.args.head) c.in-Some.p c.next.new.self c.word_at-due.result c.loop-p.invariant c.in-Some.ensures.steps
      c.word_at-due.ensures c.if-due-last.true ((of-rises c.args.store.now (queue_at c.args.store.now c.args.head)).1 h)),
)

pub loop-p-preserved : goal.loop-p-preserved
loop-p-preserved c =
    rises-on c.args.store.now c.loop-p.last c.loop-p.p-iterator (queue_at c.args.store.now c.args.head) c.in-Some.p c.next.new.self c.word_at-due.result c.loop-p.invariant c.in-Some.ensures.steps c.word_at-due.ensures
    c.if-due-last.false

pub returns : goal.returns
returns c = (
  λ t. (of-rises c.args.store.now (queue_at c.args.store.now c.args.head)).0
      (all-rise c.args.store.now c.loop-p.last c.loop-p.p-iterator (queue_at c.args.store.now c.args.head) c.loop-p.invariant c.in-None.ensures.steps.0),
  λ h. refl,
)
