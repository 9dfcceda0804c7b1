use Rattle.byte_streams.specs.Pending.{Gathers}
use Rattle.debugger.specs.Texts.{blocks_text}
use Rattle.state_text.specs.ProgramNames.{name_in}
use Rattle.state_text.specs.StateText.{kernel_text, lists_text}
use Rattle.state_text.proofs.KernelStates.{on-words, walks}
use Rattle.state_text.proofs.states.gather_lists.Goals as goal

pub gather_kernel-requires : goal.gather_kernel-requires
gather_kernel-requires g c = walks _ c.args.machine.now.state c.in-Some.ensures.represents

pub returns-in-Some-clause-text : goal.returns-in-Some-clause-text
returns-in-Some-clause-text g c =
    let holds = g.K.Sink.holds in
    let end = c.gather_kernel in
    let programs = c.args.programs.now in
    on-words _ c.args.machine.now.state
    (λ w l s. Gathers (holds c.args.out.now) (holds end.new.out) c.args.pending.now end.new.pending (kernel_text (name_in programs w) l (blocks_text s)) end.result
    → Gathers (holds c.args.out.now) (holds end.new.out) c.args.pending.now end.new.pending (lists_text programs s) end.result)
    c.in-Some.ensures.represents (λ k text. text) end.ensures.text
