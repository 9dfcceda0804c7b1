use Rattle.std.proofs.Common.{◌≡◌, ◌∙◌, subst, sym}
use Rattle.byte_streams.specs.Pending.{Gathers}
use Rattle.tripos_machine.specs.State.{running_of}
use Rattle.state_text.specs.Runner.{has_keys, idle_line, runner_text}
use Rattle.state_text.proofs.KernelStates.{idle-runner, on-lists, walks}
use Rattle.state_text.proofs.runner.gather_runner.Goals as goal

pub gather_idle-requires : goal.gather_idle-requires
gather_idle-requires g c = walks _ c.args.machine.now.state c.in-Some.ensures.represents

pub returns-in-0-clause-text : goal.returns-in-0-clause-text
returns-in-0-clause-text g c =
    let holds = g.K.Sink.holds in
    let end = c.gather_idle in
    on-lists _ c.args.machine.now.state
    (λ l s. running_of s ≡ 0 → Gathers (holds c.args.out.now) (holds end.new.out) c.args.pending.now end.new.pending (idle_line l (has_keys s)) end.result
    → Gathers (holds c.args.out.now) (holds end.new.out) c.args.pending.now end.new.pending (runner_text s) end.result)
    c.in-Some.ensures.represents (λ k none text. subst (λ line. Gathers (holds c.args.out.now) (holds end.new.out) c.args.pending.now end.new.pending line end.result) (idle-runner k none) text) (sym c.running.ensures ∙ c.in-0.is)
    (rw c.has_keys.ensures at end.ensures.text)
