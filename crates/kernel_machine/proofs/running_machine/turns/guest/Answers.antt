use Rattle.std.proofs.Common.{◌∙◌, ap, refl, sym}
use Rattle.guest_turns.specs.GuestTurn.{turn_without_reporter}
use Rattle.kernel_machine.specs.KernelSteps.GuestSteps.{stop_by}
use Rattle.kernel_machine.proofs.KernelSteps.RunningCaller.{runs-calls}
use Rattle.kernel_machine.proofs.RunningMachine.TurnedParts.{can-record, leaves-recorded, leaves-turn, one-fault, stop-recorded, stop-turn}
use Rattle.kernel_machine.proofs.running_machine.turns.guest.Goals as goal

pub returns-in_default-clause-turned : goal.returns-in_default-clause-turned
returns-in_default-clause-turned g c = λ k st r.
    let caller = runs-calls k.lists k.regs r.can.first r.can.lists r.guest in
    leaves-turn c.args.parts.now k st c.args.task r _ _ _ _ _ c.guest_turn-end.result (c.guest_turn-end.ensures.turned k.lists st.keeper caller) c.guest_turn-end.ensures.room (λ f e. absurd (c.in_default.not-Faults f e))

pub returns-in_default-clause-stop : goal.returns-in_default-clause-stop
returns-in_default-clause-stop g c = λ k st r.
    let caller = runs-calls k.lists k.regs r.can.first r.can.lists r.guest in
    stop-turn c.args.parts.now k st c.args.task r _ _ _ _ _ c.guest_turn-end.result (c.guest_turn-end.ensures.turned k.lists st.keeper caller) c.guest_turn-end.ensures.room (λ f e. absurd (c.in_default.not-Faults f e)) _
    c.stop_by.ensures

pub is_recorded-requires : goal.is_recorded-requires
is_recorded-requires g c =
    let (k, st, r) = c.requires.represents in
    let is = c.guest_turn-end.ensures.turned k.lists st.keeper (runs-calls k.lists k.regs r.can.first r.can.lists r.guest) in
    ((turn_without_reporter c.args.parts.now.store k.lists c.args.parts.now.regs).lists, is.lists.lists)

pub returns-then-not-is_recorded-clause-turned : goal.returns-then-not-is_recorded-clause-turned
returns-then-not-is_recorded-clause-turned g c = λ k st r.
    let is = c.guest_turn-end.ensures.turned k.lists st.keeper (runs-calls k.lists k.regs r.can.first r.can.lists r.guest) in
    let l = (turn_without_reporter c.args.parts.now.store k.lists c.args.parts.now.regs).lists in
    let none = sym (c.is_recorded.ensures l is.lists.lists) ∙ c.if-not-is_recorded.true in
    leaves-turn c.args.parts.now k st c.args.task r _ _ _ _ _ c.guest_turn-end.result is c.guest_turn-end.ensures.room (one-fault c.guest_turn-end.result c.in-Faults.fault l c.in-Faults.is none)

pub returns-then-not-is_recorded-clause-stop : goal.returns-then-not-is_recorded-clause-stop
returns-then-not-is_recorded-clause-stop g c = λ k st r.
    let is = c.guest_turn-end.ensures.turned k.lists st.keeper (runs-calls k.lists k.regs r.can.first r.can.lists r.guest) in
    let l = (turn_without_reporter c.args.parts.now.store k.lists c.args.parts.now.regs).lists in
    let none = sym (c.is_recorded.ensures l is.lists.lists) ∙ c.if-not-is_recorded.true in
    stop-turn c.args.parts.now k st c.args.task r _ _ _ _ _ c.guest_turn-end.result is c.guest_turn-end.ensures.room (one-fault c.guest_turn-end.result c.in-Faults.fault l c.in-Faults.is none) _
    (c.stop_by-then-not-is_recorded.ensures ∙ ap (λ e. stop_by c.args.task e) (sym c.in-Faults.is))

pub record_fault-requires : goal.record_fault-requires
record_fault-requires g c =
    let (k, st, r) = c.requires.represents in
    let is = c.guest_turn-end.ensures.turned k.lists st.keeper (runs-calls k.lists k.regs r.can.first r.can.lists r.guest) in
    let l = (turn_without_reporter c.args.parts.now.store k.lists c.args.parts.now.regs).lists in
    let some = sym (c.is_recorded.ensures l is.lists.lists) ∙ c.if-not-is_recorded.false in
    (l, is.lists.lists, can-record c.args.parts.now k st c.args.task r _ _ _ _ _ c.guest_turn-end.result is c.guest_turn-end.ensures.room c.in-Faults.fault c.in-Faults.is some)

pub returns-clause-turned : goal.returns-clause-turned
returns-clause-turned g c = λ k st r.
    let is = c.guest_turn-end.ensures.turned k.lists st.keeper (runs-calls k.lists k.regs r.can.first r.can.lists r.guest) in
    let l = (turn_without_reporter c.args.parts.now.store k.lists c.args.parts.now.regs).lists in
    let some = sym (c.is_recorded.ensures l is.lists.lists) ∙ c.if-not-is_recorded.false in
    let can = can-record c.args.parts.now k st c.args.task r _ _ _ _ _ c.guest_turn-end.result is c.guest_turn-end.ensures.room c.in-Faults.fault c.in-Faults.is some in
    leaves-recorded c.args.parts.now k st c.args.task r _ _ _ _ _ c.guest_turn-end.result is c.guest_turn-end.ensures.room c.in-Faults.fault c.in-Faults.is some _ _ (c.record_fault.ensures.recorded l is.lists.lists can) refl
    (c.record_fault.ensures.notes l is.lists.lists can)

pub returns-clause-stop : goal.returns-clause-stop
returns-clause-stop g c = λ k st r.
    let is = c.guest_turn-end.ensures.turned k.lists st.keeper (runs-calls k.lists k.regs r.can.first r.can.lists r.guest) in
    let l = (turn_without_reporter c.args.parts.now.store k.lists c.args.parts.now.regs).lists in
    let some = sym (c.is_recorded.ensures l is.lists.lists) ∙ c.if-not-is_recorded.false in
    stop-recorded c.args.parts.now k st c.args.task r _ _ _ _ _ c.guest_turn-end.result is c.guest_turn-end.ensures.room c.in-Faults.fault c.in-Faults.is some
