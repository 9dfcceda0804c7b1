use Rattle.std.proofs.Common.{None, refl}
use Rattle.debugger.specs.declared.orders.Order.TheVariants.{Blocks, DeviceQueue, Instructions, Registers, TaskQueue, Tasks, Words}
use Rattle.debugger.specs.Debugged.{Debugging}
use Rattle.debugger.proofs.EndedSteps.{ends-returned, ends-set, ends-shown}
use Rattle.debugger.proofs.sessions.obey.Goals as goal

pub returns-in-Break-clause-end : goal.returns-in-Break-clause-end
returns-in-Break-clause-end g c =
    let d : Debugging = record { state = c.args.machine.now.state; stops = c.args.stops.now; past = None } in
    rw c.in-Break.is (ends-set c.args.limits c.in-Break.a d _ c.set_breakpoint.result c.set_breakpoint.ensures.stops)

pub returns-in-Registers-clause-end : goal.returns-in-Registers-clause-end
returns-in-Registers-clause-end g c =
    let d : Debugging = record { state = c.args.machine.now.state; stops = c.args.stops.now; past = None } in
    rw c.in-Registers.is (ends-shown c.args.limits d Registers c.gather_registers.result refl)

pub returns-in-Words-clause-end : goal.returns-in-Words-clause-end
returns-in-Words-clause-end g c =
    let d : Debugging = record { state = c.args.machine.now.state; stops = c.args.stops.now; past = None } in
    rw c.in-Words.is (ends-shown c.args.limits d (Words c.in-Words.from c.in-Words.count) c.gather_words.result refl)

pub returns-in-Tasks-clause-end : goal.returns-in-Tasks-clause-end
returns-in-Tasks-clause-end g c =
    let d : Debugging = record { state = c.args.machine.now.state; stops = c.args.stops.now; past = None } in
    rw c.in-Tasks.is (ends-shown c.args.limits d Tasks c.gather_tasks.result refl)

pub returns-in-TaskQueue-clause-end : goal.returns-in-TaskQueue-clause-end
returns-in-TaskQueue-clause-end g c =
    let d : Debugging = record { state = c.args.machine.now.state; stops = c.args.stops.now; past = None } in
    rw c.in-TaskQueue.is (ends-shown c.args.limits d (TaskQueue c.in-TaskQueue.id) c.gather_task_queue.result refl)

pub returns-in-DeviceQueue-clause-end : goal.returns-in-DeviceQueue-clause-end
returns-in-DeviceQueue-clause-end g c =
    let d : Debugging = record { state = c.args.machine.now.state; stops = c.args.stops.now; past = None } in
    rw c.in-DeviceQueue.is (ends-shown c.args.limits d (DeviceQueue c.in-DeviceQueue.number) c.gather_device_queue.result refl)

pub returns-in-Blocks-clause-end : goal.returns-in-Blocks-clause-end
returns-in-Blocks-clause-end g c =
    let d : Debugging = record { state = c.args.machine.now.state; stops = c.args.stops.now; past = None } in
    rw c.in-Blocks.is (ends-shown c.args.limits d Blocks c.gather_blocks.result refl)

pub returns-in-Instructions-clause-end : goal.returns-in-Instructions-clause-end
returns-in-Instructions-clause-end g c =
    let d : Debugging = record { state = c.args.machine.now.state; stops = c.args.stops.now; past = None } in
    rw c.in-Instructions.is (ends-shown c.args.limits d (Instructions c.in-Instructions.from c.in-Instructions.count) c.gather_instructions.result refl)

pub returns-in-Back-clause-end : goal.returns-in-Back-clause-end
returns-in-Back-clause-end g c =
    let d : Debugging = record { state = c.args.machine.now.state; stops = c.args.stops.now; past = None } in
    rw c.in-Back.is (ends-returned c.args.limits c.in-Back.n d c.go_back.result refl)
