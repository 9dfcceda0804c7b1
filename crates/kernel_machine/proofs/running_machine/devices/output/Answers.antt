use Rattle.kernel_machine.proofs.RunningMachine.ServedParts.{leaves-output}
use Rattle.kernel_machine.proofs.running_machine.devices.output.Goals as goal

pub returns-clause-left : goal.returns-clause-left
returns-clause-left g c = λ k st can.
    let held = st.keeper.lists in
    leaves-output c.args.parts.now k st c.finish_output.new.store _ _ can (c.finish_output.ensures.lists k.lists held) (c.finish_output.ensures.bytes k.lists held) (c.finish_output.ensures.notes k.lists held)
