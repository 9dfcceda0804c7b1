use Rattle.std.proofs.Common.{subst}
use Rattle.byte_streams.specs.Write.{Prints}
use Rattle.state_text.specs.StateText.{state_text}
use Rattle.show_run.proofs.machines.show_state.Goals as goal

pub returns-clause-text : goal.returns-clause-text
returns-clause-text g c =
    let holds = g.K.Sink.holds in
    subst (λ t. Prints (holds c.args.out.now) (holds c.write_state.new.out) (state_text c.args.programs.now t) c.write_state.result) c.run_unheard.ensures.state c.write_state.ensures.text
