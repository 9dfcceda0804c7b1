use Rattle.std.proofs.Common.{ap, arith, length}
use Rattle.std.proofs.lemmas.List.{length-append}
use Rattle.resident_tasks.specs.FaultReporter.FaultTurns.{fault_turn}
use Rattle.kernel_machine.proofs.RunningMachine.ResidentParts.{can-report, leaves-report}
use Rattle.kernel_machine.proofs.RunningMachine.TurnBytes.{report-bytes}
use Rattle.kernel_machine.proofs.running_machine.residents.report.Goals as goal

pub fault_turn-requires : goal.fault_turn-requires
fault_turn-requires g c =
    let (k, st, r) = c.requires.represents in
    (k.lists, st.keeper, can-report c.args.parts.now k st r _ c.requires.empty)

pub returns-clause-turned : goal.returns-clause-turned
returns-clause-turned g c = λ k st r.
    leaves-report c.args.parts.now k st r _ _ _ _ (c.fault_turn.ensures.turn k.lists st.keeper (can-report c.args.parts.now k st r _ c.requires.empty)) c.fault_turn.ensures.room

pub returns-clause-room : goal.returns-clause-room
returns-clause-room g c =
    let (k, st, r) = c.requires.represents in
    let turn = c.fault_turn.ensures.turn k.lists st.keeper (can-report c.args.parts.now k st r _ c.requires.empty) in
    omega
    (arith, ap length turn.bytes, length-append c.args.bytes.now (fault_turn c.args.parts.now.store k.lists).bytes, report-bytes c.args.parts.now.store k.lists st.keeper.lists c.know_words.ensures, ap length c.requires.empty)
