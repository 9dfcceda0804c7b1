use Rattle.byte_streams.specs.Pending.{Gathers}
use Rattle.debugger.specs.Texts.{blocks_text}
use Rattle.debugger.proofs.KernelParts.{held-lists, on-full}
use Rattle.debugger.proofs.blocks.gather_blocks.Goals as goal

pub gather_lines-requires : goal.gather_lines-requires
gather_lines-requires g c = held-lists _ c.args.machine.now.state c.in-Some.ensures.represents

pub returns-in-Some-clause-text : goal.returns-in-Some-clause-text
returns-in-Some-clause-text g c =
    let holds = g.K.Sink.holds in
    let end = c.gather_lines in
    on-full _ c.args.machine.now.state (λ s. Gathers (holds c.args.out.now) (holds end.new.out) c.args.pending.now end.new.pending (blocks_text s) end.result) c.in-Some.ensures.represents
    (λ k h. end.ensures.text k.lists h)
