use Rattle.std.proofs.Common.{sym, subst, ap, ◌∙◌}
use Rattle.debugger.specs.MachineHistory.Pasts.{now_of}
use Rattle.byte_streams.specs.Pending.{Gathers}
use Rattle.tripos_machine.specs.Machine.{MachineView}
use Rattle.debugger.proofs.KeptLines.{ends-kept, is-shown, no-steps}
use Rattle.debugger.proofs.histories.go_on.Goals as goal

pub returns-in_default : goal.returns-in_default
returns-in_default g c =
    let holds = g.K.Sink.holds in
    let s = c.args.machine.now.state in
    let past = c.args.history.now.past in
    let stays = no-steps c.args.order c.in_default.not-Step c.in_default.not-Continue in
    let shown = is-shown c.args.limits c.args.order s c.args.stops.now past stays c.requires.on in
    let same = c.obey.ensures.stays stays in
    record {
      text = subst (λ text. Gathers (holds c.args.out.now) (holds c.obey.new.out) c.args.pending.now c.obey.new.pending text c.obey.result) shown.bytes c.obey.ensures.text;
      end = ends-kept c.args.limits c.args.order s c.args.stops.now past c.obey.new.machine.state c.obey.new.stops c.obey.result shown c.obey.ensures.end;
      now = c.requires.now ∙ sym (ap (λ (m : MachineView). now_of m.state m.keys) same);
      cause = c.obey.ensures.cause;
    }
