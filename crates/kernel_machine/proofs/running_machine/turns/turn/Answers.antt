use Rattle.std.proofs.Common.{◌∙◌, ap, arith, length, subst, sym}
use Rattle.std.proofs.lemmas.List.{length-append}
use Rattle.ram_disc.specs.Disc.{IsDisc}
use Rattle.kernel_machine.specs.KernelSteps.GuestSteps.{guest_step}
use Rattle.kernel_machine.specs.KernelSteps.ResidentSteps.{resident_step}
use Rattle.kernel_machine.specs.KernelSteps.Stepped.{Stepped}
use Rattle.kernel_machine.proofs.KernelSteps.TurnWays.{turn-guest, turn-resident}
use Rattle.kernel_machine.specs.RunningMachine.Private.Leaves.{Leaves}
use Rattle.kernel_machine.proofs.RunningMachine.RunningTask.{guest-number, other-number}
use Rattle.kernel_machine.proofs.RunningMachine.TurnBytes.{turn-bytes}
use Rattle.kernel_machine.proofs.running_machine.turns.turn.Goals as goal

pub returns-then-task-lt-FIRST_GUEST-clause-turned : goal.returns-then-task-lt-FIRST_GUEST-clause-turned
returns-then-task-lt-FIRST_GUEST-clause-turned g c = λ k st can.
    let is = c.running-task.ensures k.lists st.keeper.lists in
    let none = other-number _ _ is c.if-task-lt-FIRST_GUEST.true in
    subst (Leaves _ _ _) (ap (λ i. resident_step i k) is ∙ sym (turn-resident k none)) (c.resident.ensures.turned k st (record { can = can; is = is; none = none }))

pub returns-then-task-lt-FIRST_GUEST-clause-stop : goal.returns-then-task-lt-FIRST_GUEST-clause-stop
returns-then-task-lt-FIRST_GUEST-clause-stop g c = λ k st can.
    let is = c.running-task.ensures k.lists st.keeper.lists in
    let none = other-number _ _ is c.if-task-lt-FIRST_GUEST.true in
    c.resident.ensures.stop k st (record { can = can; is = is; none = none })
    ∙ ap (λ (x : Stepped). x.kernel.stop) (ap (λ i. resident_step i k) is ∙ sym (turn-resident k none))

pub returns-clause-turned : goal.returns-clause-turned
returns-clause-turned g c = λ k st can.
    let is = c.running-task.ensures k.lists st.keeper.lists in
    let guest = guest-number c.running-task.result k.lists.running is (omega (arith, c.if-task-lt-FIRST_GUEST.false)) in
    subst (Leaves _ _ _) (sym (turn-guest k guest)) (c.guest.ensures.turned k st (record { can = can; is = is; guest = guest }))

pub returns-clause-stop : goal.returns-clause-stop
returns-clause-stop g c = λ k st can.
    let is = c.running-task.ensures k.lists st.keeper.lists in
    let guest = guest-number c.running-task.result k.lists.running is (omega (arith, c.if-task-lt-FIRST_GUEST.false)) in
    c.guest.ensures.stop k st (record { can = can; is = is; guest = guest }) ∙ ap (λ (x : Stepped). x.kernel.stop) (sym (turn-guest k guest))

pub returns-clause-disc : goal.returns-clause-disc
returns-clause-disc g c =
    let (k, st, can) = c.requires.represents in
    let is = c.running-task.ensures k.lists st.keeper.lists in
    let guest = guest-number c.running-task.result k.lists.running is (omega (arith, c.if-task-lt-FIRST_GUEST.false)) in
    subst IsDisc (sym (c.guest.ensures.turned k st (record { can = can; is = is; guest = guest })).represents.disc) can.rules.disc.valid

pub returns-clause-room : goal.returns-clause-room
returns-clause-room g c =
    let (k, st, can) = c.requires.represents in
    let is = c.running-task.ensures k.lists st.keeper.lists in
    let guest = guest-number c.running-task.result k.lists.running is (omega (arith, c.if-task-lt-FIRST_GUEST.false)) in
    let left = c.guest.ensures.turned k st (record { can = can; is = is; guest = guest }) in
    omega (arith, ap length left.bytes, length-append c.args.bytes.now (guest_step k).bytes, turn-bytes k, ap length c.requires.empty)
