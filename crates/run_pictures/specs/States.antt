-- The states of a task.
use Rattle.run_pictures.specs.declared.states.State.{State}
use Rattle.run_pictures.specs.declared.states.State.TheVariants.{Ready, Runs}

-- the state of a task that is no longer held, where this was its state when it was held
abbrev pub after_hold : State → State
after_hold Runs = Ready
after_hold state = state
