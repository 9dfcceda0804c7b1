use Rattle.std.proofs.Common.{◌≢◌, ◌+◌, get_or, set, sym, ap, ◌∙◌, arith}
use Rattle.kernel_model.specs.KernelRecord.Lists.{Lists}
use Rattle.kernel_calls.proofs.PacketCalls.CallerTask.{caller-low, caller-runs, caller-state}
use Rattle.guest_turns.proofs.EndedFunction.{is-within, returns-in_root, returns-inside}
use Rattle.guest_turns.proofs.turns.end_function.Goals as goal

pub ended-requires : goal.ended-requires
ended-requires c =
    let l : Lists = c.requires.0 in (
      l,
      c.requires.1,
      c.requires.2,
      is-within c.args.store.now l c.caller-task.result c.requires.1 c.requires.2 (c.caller-task.ensures l c.requires.1 c.requires.2) (λ e. c.if-field-ne0.true (c.field.ensures ∙ e)),
    )

pub returns-then-field-ne0 : goal.returns-then-field-ne0
returns-then-field-ne0 c = λ l h calls.
    let g = c.caller-task.ensures l h calls in
    let some : get_or c.args.store.now (c.caller-task.result + 18) 0 ≢ 0 = λ e. c.if-field-ne0.true (c.field.ensures ∙ e) in
    returns-inside c.args.store.now l c.caller-task.result h calls g c.ended.new.store c.args.regs.now c.ended.new.regs some
    (c.ended.ensures l h calls (is-within c.args.store.now l c.caller-task.result h calls g some))

pub overflow_add-state : goal.overflow_add-state
overflow_add-state c =
    let l : Lists = c.requires.0 in
    let g = c.caller-task.ensures l c.requires.1 c.requires.2 in
    omega (arith, c.field-state.ensures, caller-state c.args.store.now l l.running c.caller-task.result c.requires.1 g, caller-low g.task (caller-runs l c.caller-task.result c.requires.2 g))

pub returns : goal.returns
returns c = λ l h calls.
    returns-in_root c.args.store.now l c.caller-task.result h calls (c.caller-task.ensures l h calls) c.set_field.new.store c.args.regs.now
    (sym c.field.ensures ∙ c.if-field-ne0.false)
    (c.set_field.ensures ∙ ap (λ w. set c.args.store.now (c.caller-task.result + 4) (w + 12)) c.field-state.ensures)
