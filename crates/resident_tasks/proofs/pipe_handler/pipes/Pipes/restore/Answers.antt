use Rattle.std.proofs.Common.{◌≡◌, ◌-◌, ◌∙◌, set, sym, ap, subst}
use Rattle.resident_tasks.specs.PipeHandler.PipeCalls.{after_restore, can_restore}
use Rattle.resident_tasks.specs.PipeHandler.Slots.{pipes_in}
use Rattle.resident_tasks.proofs.PipeHandler.SlotCalls.{restore-done, restore-slots}
use Rattle.resident_tasks.proofs.pipe_handler.pipes.Pipes.restore.Goals as goal

pub invariant_of-self : goal.invariant_of-self
invariant_of-self c =
    let slots = c.self.inside.slots.items in
    let can =
    ap (λ xs. can_restore (pipes_in xs) c.args.k c.args.ends c.args.name.now c.args.bytes.now) (sym c.as_slice.ensures.value)
    ∙ (ap (λ name. can_restore (pipes_in c.as_slice.result.now) c.args.k c.args.ends name c.args.bytes.now) (sym c.bytes.ensures.value)
    ∙ (sym c.can_restore.ensures ∙ c.if-not-can_restore.false))
    in
    restore-slots slots c.args.k c.args.ends c.args.name.now c.args.bytes.now c.index_mut.result.now c.set.new.self can c.set.ensures c.self.invariant c.bytes.ensures.lawful c.index_mut.ensures.value

pub returns-clause-pipes : goal.returns-clause-pipes
returns-clause-pipes c =
    let slots = c.self.inside.slots.items in
    let can =
    ap (λ xs. can_restore (pipes_in xs) c.args.k c.args.ends c.args.name.now c.args.bytes.now) (sym c.as_slice.ensures.value)
    ∙ (ap (λ name. can_restore (pipes_in c.as_slice.result.now) c.args.k c.args.ends name c.args.bytes.now) (sym c.bytes.ensures.value)
    ∙ (sym c.can_restore.ensures ∙ c.if-not-can_restore.false))
    in
    sym
    (subst (λ ps. after_restore ps c.args.k c.args.ends c.args.name.now c.args.bytes.now ≡ pipes_in (set slots (c.args.k - 1) c.set.new.self)) c.self.view_is
    (restore-done slots c.args.k c.args.ends c.args.name.now c.args.bytes.now c.index_mut.result.now c.set.new.self can c.set.ensures))
