use Rattle.debugger.proofs.MachineHistory.KernelMoments.{moment-full}
use Rattle.debugger.proofs.machine_history.moments.moment_of.Goals as goal

pub returns-in-Some : goal.returns-in-Some
returns-in-Some c =
    moment-full c.in-Some.parts.now c.args.machine.now.state c.in-Some.ensures.represents c.in-Some.ensures.sound c.kernel_moment.result c.kernel_moment.ensures c.args.machine.now.keys c.in-Some.ensures.keys
