use Rattle.tripos_machine.proofs.PacketHistory.PartEvents.{dispatch-accepts, dispatch-takes, key-returns, key-takes, output-returns, output-takes, step-parts, tick-returns, tick-takes}
use Rattle.tripos_machine.proofs.packet_history.step_moves.parts_law.Goals as goal

pub returns-clause-parts : goal.returns-clause-parts
returns-clause-parts c = λ k goes. step-parts k goes

pub returns-clause-clock : goal.returns-clause-clock
returns-clause-clock c = λ k. tick-returns k

pub returns-clause-keyboard : goal.returns-clause-keyboard
returns-clause-keyboard c = λ k. key-returns k

pub returns-clause-output : goal.returns-clause-output
returns-clause-output c = λ k. output-returns k

pub returns-clause-takes : goal.returns-clause-takes
returns-clause-takes c = λ k. tick-takes k

pub returns-clause-dispatch : goal.returns-clause-dispatch
returns-clause-dispatch c = λ k. dispatch-accepts k

pub returns-clause-keys_take : goal.returns-clause-keys_take
returns-clause-keys_take c = λ k. key-takes k

pub returns-clause-output_takes : goal.returns-clause-output_takes
returns-clause-output_takes c = λ k. output-takes k

pub returns-clause-dispatch_takes : goal.returns-clause-dispatch_takes
returns-clause-dispatch_takes c = λ k. dispatch-takes k
