use Rattle.byte_streams.specs.Pending.{Gathers}
use Rattle.tripos_machine.specs.State.{steps_of}
use Rattle.debugger.proofs.KernelParts.{on-bare}
use Rattle.kernel_model.specs.KernelRecord.Recovered.{lists_in}
use Rattle.state_text.specs.StateText.{bare_counts, count_words, kernel_counts}
use Rattle.state_text.proofs.KernelStates.{on-lists}
use Rattle.state_text.proofs.states.gather_counts.Goals as goal

pub returns-in-Some-clause-text : goal.returns-in-Some-clause-text
unfolding lists_in
returns-in-Some-clause-text g c =
    let holds = g.K.Sink.holds in
    let end = c.gather_kernel_counts in
    on-lists _ c.args.machine.now.state
    (λ l s. Gathers (holds c.args.out.now) (holds end.new.out) c.args.pending.now end.new.pending (kernel_counts (steps_of s) l.tick) end.result
    → Gathers (holds c.args.out.now) (holds end.new.out) c.args.pending.now end.new.pending (count_words s) end.result)
    c.in-Some.ensures.represents (λ k text. text)
    (rw (c.steps-steps.ensures, c.root-tick.ensures) at end.ensures.text)

pub returns-in-None-clause-text : goal.returns-in-None-clause-text
returns-in-None-clause-text g c =
    let holds = g.K.Sink.holds in
    let end = c.gather_bare_counts in
    on-bare c.args.machine.now.state
    (λ s. Gathers (holds c.args.out.now) (holds end.new.out) c.args.pending.now end.new.pending (bare_counts (steps_of s)) end.result
    → Gathers (holds c.args.out.now) (holds end.new.out) c.args.pending.now end.new.pending (count_words s) end.result)
    c.in-None.ensures.represents (λ m text. text)
    (rw c.steps-steps.ensures at end.ensures.text)
