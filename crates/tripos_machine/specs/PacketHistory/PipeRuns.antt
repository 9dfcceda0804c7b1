-- The requests for pipes that the steps of a run make.
use Rattle.std.specs.Prelude.{ℕ, zero, suc, ◌==◌, ◌&&◌, if◌then◌else◌, is_some, List, [], ◌++◌}
use Rattle.kernel_model.specs.KernelRecord.Image.{image}
use Rattle.kernel_model.specs.KernelRecord.Kernel.{Kernel}
use Rattle.resident_tasks.specs.PipeHandler.Histories.{PipeRequest}
use Rattle.resident_tasks.specs.PipeHandler.PacketRequests.{requests_in_turn}
use Rattle.kernel_machine.specs.KernelSteps.ResidentSteps.{serves_pipes}
use Rattle.kernel_machine.specs.KernelSteps.Step.{step}

-- Those of a turn: that of its packet, where the file handler has its turn and the packet is for pipes, and otherwise none.
abbrev pub requests_of_turn : Kernel → List PipeRequest
requests_of_turn k = if (k.lists.running == 4) && serves_pipes k.lists then requests_in_turn (image k) k.lists else []

-- the requests of a step: a machine that has stopped makes none, and neither does a device or a dispatch
abbrev pub requests_of_step : Kernel → List PipeRequest
requests_of_step k = if is_some k.stop then [] else requests_of_turn k

-- the requests of n steps
abbrev pub requests_of_run : ℕ → Kernel → List PipeRequest
requests_of_run zero k = []
requests_of_run (suc n) k = requests_of_step k ++ requests_of_run n (step k).kernel
