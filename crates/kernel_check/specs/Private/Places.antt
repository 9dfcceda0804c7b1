-- The places at which packets are queued, as the check names them.
use Rattle.kernel_model.specs.KernelRecord.ValidQueues.{Place}
use Rattle.kernel_model.specs.KernelRecord.ValidQueues.Place.{Clock, Keyboard, Output, Pending, Work}
use Rattle.kernel_check.specs.declared.places.QueuePlace.{QueuePlace}
use Rattle.kernel_check.specs.declared.places.QueuePlace.TheVariants.{OfClock, OfConsole, OfKeyboard, OfOutput, OfTask}

-- each place that the check names, as the lists name it
abbrev pub place_of : QueuePlace → Place
place_of (OfTask id) = Work id
place_of OfClock = Clock
place_of OfKeyboard = Keyboard
place_of OfOutput = Output
place_of OfConsole = Pending
