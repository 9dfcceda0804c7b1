use Rattle.std.proofs.Common.{Some, sym, subst}
use Rattle.kernel_calls.specs.declared.packet_calls.queues.Queue.TheVariants.{Clock, Keyboard, Output}
use Rattle.debugger.specs.Views.{Leads, device_queue}
use Rattle.debugger.proofs.KernelLists.{leads-clock, leads-keyboard, leads-output}
use Rattle.debugger.proofs.queues.queue_of_device.Goals as goal

pub returns-in-1 : goal.returns-in-1
returns-in-1 c = λ l h. subst (λ n. Leads c.args.store.now (Some Clock) (device_queue n l)) (sym c.in-1.is) (leads-clock c.args.store.now l h)

pub returns-in-2 : goal.returns-in-2
returns-in-2 c = λ l h. subst (λ n. Leads c.args.store.now (Some Keyboard) (device_queue n l)) (sym c.in-2.is) (leads-keyboard c.args.store.now l h)

pub returns-in-3 : goal.returns-in-3
returns-in-3 c = λ l h. subst (λ n. Leads c.args.store.now (Some Output) (device_queue n l)) (sym c.in-3.is) (leads-output c.args.store.now l h)
