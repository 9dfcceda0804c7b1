use Rattle.std.proofs.Common.{◌≡◌, ◌+◌, ◌≤◌, None, true, arith, sym, subst}
use Rattle.std.proofs.lemmas.Bool.{le-leb}
use Rattle.instruction_set.proofs.Unexecuted.{not-next}
use Rattle.kernel_model.specs.KernelRecord.Ranges.{most_steps}
use Rattle.kernel_model.specs.KernelRecord.Task.{is_guest_id}
use Rattle.kernel_machine.specs.KernelSteps.Quiet.{IsQuietFor}
use Rattle.kernel_machine.specs.declared.running_machine.parts.Parts.{Parts}
use Rattle.kernel_machine.specs.RunningMachine.Machine.{kernel_of}
use Rattle.kernel_machine.specs.RunningMachine.PlainSteps.{DifferBeside}
use Rattle.kernel_machine.specs.RunningMachine.Runs.{HasPassed}
use Rattle.kernel_machine.proofs.RunningMachine.PlainSteps.{byte-whole, differ-one, keeper-whole, passed-one, plain-executed, whole-stays}
use Rattle.kernel_machine.proofs.RunningMachine.QuietParts.{period-here, quiet-all}
use Rattle.kernel_machine.proofs.running_machine.plain_steps.execute_one.Goals as goal

pub execute_guest-requires-clause-byte : goal.execute_guest-requires-clause-byte
execute_guest-requires-clause-byte c = byte-whole c.args.parts.now c.requires.whole

pub execute_guest-requires-clause-keeper : goal.execute_guest-requires-clause-keeper
execute_guest-requires-clause-keeper c = keeper-whole c.args.parts.now c.requires.whole

pub count-requires-clause-period : goal.count-requires-clause-period
count-requires-clause-period c = period-here c.args.parts.now c.requires.whole

pub returns-in-Sys-clause-step : goal.returns-in-Sys-clause-step
returns-in-Sys-clause-step c =
    let y = c.execute_guest.ensures in
    whole-stays c.args.parts.now c.requires.whole c.execute_guest.new.store c.execute_guest.new.regs c.execute_guest.result y.outcome y.words y.regs y.lists (not-next c.execute_guest.result c.in-Sys.is)

pub returns-in-Next-clause-step : goal.returns-in-Next-clause-step
returns-in-Next-clause-step c =
    let p = c.args.parts.now in
    let w = c.requires.whole in
    let y = c.execute_guest.ensures in
    let t = c.execute_guest.new.store in
    let r = c.execute_guest.new.regs in
    let k = kernel_of p None in
    let guest : is_guest_id k.lists.running ≡ true = le-leb 5 k.lists.running (omega (arith, c.running.ensures k.lists w.represents.keeper.lists, c.if-running-lt-FIRST_GUEST.false)) in
    let quiet : IsQuietFor 1 k =
    quiet-all p w 1 (c.serves_now.ensures.none c.if-serves_now.false) (c.before_key.ensures.later 1 (omega arith) (omega (arith, c.min.ensures, c.if-min-eq0.false))) (c.before_return.ensures.later 1 (omega (arith, c.min.ensures, c.if-min-eq0.false))) in
    let few : k.steps + 1 ≤ most_steps = omega (arith, c.requires.steps, w.represents.steps) in
    subst (λ (q : Parts). HasPassed 1 k q × DifferBeside c.written_places-places.result p.store q.store) (sym c.count.ensures)
    (passed-one p w t r c.execute_guest.result y.outcome y.words y.regs y.lists guest quiet few c.in-Next.is, differ-one p w t r c.execute_guest.result y.outcome y.words y.regs y.lists c.written_places-places.result _ c.written_places-places.ensures)

pub returns-in-Sys-clause-none : goal.returns-in-Sys-clause-none
returns-in-Sys-clause-none c = λ none plain. not-next c.execute_guest.result c.in-Sys.is (plain-executed c.args.parts.now c.requires.whole c.execute_guest.result c.execute_guest.ensures.outcome plain)
