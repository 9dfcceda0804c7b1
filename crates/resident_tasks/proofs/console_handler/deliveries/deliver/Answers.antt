use Rattle.std.proofs.Common.{◌∙◌, sym, subst}
use Rattle.kernel_calls.specs.CallAnswers.Outside.{outside}
use Rattle.resident_tasks.specs.ConsoleHandler.TurnParts.{IsDone}
use Rattle.resident_tasks.proofs.ConsoleHandler.WholeDelivery.{fewer-wait, next-left, none-left, waiting-is}
use Rattle.resident_tasks.proofs.console_handler.deliveries.deliver.Goals as goal

pub deliver_first-requires : goal.deliver_first-requires
deliver_first-requires g c = (let so = c.reads.invariant.done c.requires.0 c.requires.1 c.requires.2 c.requires.3 in (c.requires.0, c.requires.1, so.so, so.done))

pub reads-smaller : goal.reads-smaller
reads-smaller g c =
    let so = c.reads.invariant.done c.requires.0 c.requires.1 c.requires.2 c.requires.3 in
    let more = c.deliver_first.ensures.done c.requires.0 c.requires.1 so.so so.done in
    let before = outside c.requires.1 (g.L.EventLog.noted c.reads.log) (g.L.EventLog.has_failed c.reads.log) in
    let after = outside c.requires.1 (g.L.EventLog.noted c.deliver_first.new.log) (g.L.EventLog.has_failed c.deliver_first.new.log) in
    fewer-wait so.so c.reads.store c.deliver_first.new.store (sym (c.deliver_first.ensures.handed c.requires.0 c.requires.1 so.so so.done) ∙ c.reads-test.true)
    (waiting-is c.requires.0 c.reads.store (g.Q.KindKeeper.tells c.reads.kinds) (g.Q.KindKeeper.room c.reads.kinds) before c.reads.state c.reads.shell_line.items so.so so.done)
    (waiting-is c.requires.0 c.deliver_first.new.store (g.Q.KindKeeper.tells c.deliver_first.new.kinds) (g.Q.KindKeeper.room c.deliver_first.new.kinds) after c.deliver_first.new.state c.deliver_first.new.shell_line.items _ more)

pub reads-preserved : goal.reads-preserved
reads-preserved g c =
    record {
      done = λ b shown p x.
          let so = c.reads.invariant.done b shown p x in
          record {
            so = _;
            done = c.deliver_first.ensures.done b shown so.so so.done;
            left = next-left so.so (sym (c.deliver_first.ensures.handed b shown so.so so.done) ∙ c.reads-test.true) ∙ so.left;
          };
      room = c.deliver_first.ensures.room ∙ c.reads.invariant.room;
    }

pub returns-clause-done : goal.returns-clause-done
returns-clause-done g c = λ b shown p x.
    let so = c.reads.invariant.done b shown p x in
    let after = outside shown (g.L.EventLog.noted c.deliver_first.new.log) (g.L.EventLog.has_failed c.deliver_first.new.log) in
    subst (IsDone b c.deliver_first.new.store (g.Q.KindKeeper.tells c.deliver_first.new.kinds) (g.Q.KindKeeper.room c.deliver_first.new.kinds) after c.deliver_first.new.state c.deliver_first.new.shell_line.items)
    (none-left so.so (sym (c.deliver_first.ensures.handed b shown so.so so.done) ∙ c.reads-test.false) ∙ so.left) (c.deliver_first.ensures.done b shown so.so so.done)
