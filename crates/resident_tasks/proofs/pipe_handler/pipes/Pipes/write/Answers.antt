use Rattle.std.proofs.Common.{◌≡◌, true, set, sym, ap, subst, ◌∙◌}
use Rattle.resident_tasks.specs.PipeHandler.PipeCalls.{Outcome, after_write}
use Rattle.resident_tasks.specs.PipeHandler.Slots.{IsPlaceOf, pipes_in}
use Rattle.resident_tasks.proofs.PipeHandler.SlotCalls.{write-done, write-kept}
use Rattle.resident_tasks.proofs.pipe_handler.pipes.Pipes.write.Goals as goal

pub invariant_of-self : goal.invariant_of-self
invariant_of-self c =
    let place = subst (λ xs. IsPlaceOf xs c.args.handle true c.in-Some.place) c.as_slice.ensures.value c.in-Some.ensures in
    write-kept c.self.inside.slots.items c.args.handle c.in-Some.place place c.args.bytes.now c.index_mut.result.now c.write.new.self c.index_mut.ensures.value c.write.ensures.slot
    c.self.invariant

pub returns-clause-pipes : goal.returns-clause-pipes
returns-clause-pipes c =
    let slots = c.self.inside.slots.items in
    let bytes = c.args.bytes.now in
    let left = pipes_in (set slots c.in-Some.place c.write.new.self) in
    let place = subst (λ xs. IsPlaceOf xs c.args.handle true c.in-Some.place) c.as_slice.ensures.value c.in-Some.ensures in
    let done =
    write-done slots c.args.handle c.in-Some.place place bytes c.index_mut.result.now c.write.new.self c.index.result.now c.index_mut.ensures.value c.index.ensures
    (sym c.has_room.ensures ∙ c.if-not-has_room.false) c.write.ensures.slot
    in
    sym
    (subst (λ ps. (after_write ps c.args.handle c.args.buffer bytes).pipes ≡ left) c.self.view_is
    (subst (λ b. (after_write (pipes_in slots) c.args.handle b bytes).pipes ≡ left) (sym c.if-not-buffer.false) (ap (λ (o : Outcome). o.pipes) done)))
