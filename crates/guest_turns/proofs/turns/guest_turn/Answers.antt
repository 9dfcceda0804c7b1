use Rattle.std.proofs.Common.{sym, ◌∙◌}
use Rattle.instruction_set.specs.declared.Outcome.TheVariants.{Next, Sys, Returned, Fault as Faulted}
use Rattle.kernel_model.specs.KernelRecord.Lists.{Lists}
use Rattle.kernel_calls.specs.CallAnswers.Outside.{Outside, outside}
use Rattle.guest_turns.specs.GuestTurn.{returned}
use Rattle.guest_turns.specs.declared.turns.TurnEnd.TheVariants.{Faults, Goes}
use Rattle.guest_turns.proofs.TurnParts.{keeper-after, turned-by, turned-ended, turned-returned}
use Rattle.guest_turns.proofs.turns.guest_turn.Goals as goal

-- the keeper at a call
pub make_call-requires-clause-caller : goal.make_call-requires-clause-caller
make_call-requires-clause-caller g c =
    let l : Lists = c.requires.caller.0 in
    let k = c.requires.caller.1 in (
      l,
      keeper-after c.args.store.now c.execute_guest.new.store (g.Q.KindKeeper.tells c.args.kinds.now) (g.Q.KindKeeper.room c.args.kinds.now) l k (c.execute_guest.ensures.lists l k),
      c.requires.caller.2,
    )

pub end_function-requires : goal.end_function-requires
end_function-requires g c =
    let l : Lists = c.requires.caller.0 in
    (l, c.execute_guest.ensures.lists l c.requires.caller.1, c.requires.caller.2)

pub returns-in-Next-clause-turned : goal.returns-in-Next-clause-turned
returns-in-Next-clause-turned g c = λ l k calls.
    let x = c.execute_guest.ensures in
    let now : Outside = outside c.args.bytes.now (g.L.EventLog.noted c.args.log.now) (g.L.EventLog.has_failed c.args.log.now) in
    turned-by c.execute_guest.new.store c.execute_guest.new.regs (g.Q.KindKeeper.tells c.args.kinds.now) now now Goes
    c.args.store.now c.execute_guest.new.store l c.args.regs.now c.execute_guest.new.regs Next (x.words l k) (x.regs l k) (sym c.in-Next.is ∙ x.outcome l k)
    (turned-ended c.execute_guest.new.store c.execute_guest.new.regs (g.Q.KindKeeper.tells c.args.kinds.now) now Goes l (x.lists l k) k.knows)

pub returns-in-Sys-clause-turned : goal.returns-in-Sys-clause-turned
returns-in-Sys-clause-turned g c = λ l k calls.
    let x = c.execute_guest.ensures in
    turned-by c.make_call.new.store c.make_call.new.regs (g.Q.KindKeeper.tells c.make_call.new.kinds)
    (outside c.args.bytes.now (g.L.EventLog.noted c.args.log.now) (g.L.EventLog.has_failed c.args.log.now))
    (outside c.make_call.new.bytes (g.L.EventLog.noted c.make_call.new.log) (g.L.EventLog.has_failed c.make_call.new.log)) c.make_call.result
    c.args.store.now c.execute_guest.new.store l c.args.regs.now c.execute_guest.new.regs Sys (x.words l k) (x.regs l k) (sym c.in-Sys.is ∙ x.outcome l k)
    (c.make_call.ensures.turned l
    (keeper-after c.args.store.now c.execute_guest.new.store (g.Q.KindKeeper.tells c.args.kinds.now) (g.Q.KindKeeper.room c.args.kinds.now) l k (x.lists l k))
    calls)

pub returns-in-Returned-clause-turned : goal.returns-in-Returned-clause-turned
returns-in-Returned-clause-turned g c = λ l k calls.
    let x = c.execute_guest.ensures in
    let now : Outside = outside c.args.bytes.now (g.L.EventLog.noted c.args.log.now) (g.L.EventLog.has_failed c.args.log.now) in
    turned-by c.end_function.new.store c.end_function.new.regs (g.Q.KindKeeper.tells c.args.kinds.now) now now Goes
    c.args.store.now c.execute_guest.new.store l c.args.regs.now c.execute_guest.new.regs Returned (x.words l k) (x.regs l k) (sym c.in-Returned.is ∙ x.outcome l k)
    (turned-returned c.end_function.new.store c.end_function.new.regs (g.Q.KindKeeper.tells c.args.kinds.now) now c.execute_guest.new.store l (returned l c.execute_guest.new.regs)
    (c.end_function.ensures l (x.lists l k) calls) k.knows)

pub returns-in-Fault-clause-turned : goal.returns-in-Fault-clause-turned
returns-in-Fault-clause-turned g c = λ l k calls.
    let x = c.execute_guest.ensures in
    let now : Outside = outside c.args.bytes.now (g.L.EventLog.noted c.args.log.now) (g.L.EventLog.has_failed c.args.log.now) in
    turned-by c.execute_guest.new.store c.execute_guest.new.regs (g.Q.KindKeeper.tells c.args.kinds.now) now now (Faults c.in-Fault.fault)
    c.args.store.now c.execute_guest.new.store l c.args.regs.now c.execute_guest.new.regs (Faulted c.in-Fault.fault) (x.words l k) (x.regs l k) (sym c.in-Fault.is ∙ x.outcome l k)
    (turned-ended c.execute_guest.new.store c.execute_guest.new.regs (g.Q.KindKeeper.tells c.args.kinds.now) now (Faults c.in-Fault.fault) l (x.lists l k) k.knows)
