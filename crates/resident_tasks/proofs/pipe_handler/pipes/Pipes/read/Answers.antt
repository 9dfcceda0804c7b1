use Rattle.std.proofs.Common.{◌≡◌, false, length, set, sym, ap, subst, ◌∙◌}
use Rattle.resident_tasks.specs.PipeHandler.PipeCalls.{Outcome, after_read}
use Rattle.resident_tasks.specs.PipeHandler.Slots.{IsPlaceOf, pipes_in}
use Rattle.resident_tasks.proofs.PipeHandler.SlotCalls.{read-done, read-kept}
use Rattle.resident_tasks.proofs.pipe_handler.pipes.Pipes.read.Goals as goal

pub invariant_of-self : goal.invariant_of-self
invariant_of-self c =
    let place = subst (λ xs. IsPlaceOf xs c.args.handle false c.in-Some.place) c.as_slice.ensures.value c.in-Some.ensures in
    read-kept c.self.inside.slots.items c.args.handle c.in-Some.place place (length c.args.into.now) c.index_mut.result.now c.read.new.self c.index_mut.ensures.value c.read.ensures.slot
    c.self.invariant

pub returns-clause-pipes : goal.returns-clause-pipes
returns-clause-pipes c =
    let slots = c.self.inside.slots.items in
    let n = length c.args.into.now in
    let left = pipes_in (set slots c.in-Some.place c.read.new.self) in
    let place = subst (λ xs. IsPlaceOf xs c.args.handle false c.in-Some.place) c.as_slice.ensures.value c.in-Some.ensures in
    let done =
    read-done slots c.args.handle c.in-Some.place place n c.index_mut.result.now c.read.new.self c.index.result.now c.index_mut.ensures.value c.index.ensures
    (sym c.has_more.ensures ∙ c.if-not-has_more.false) c.read.ensures.slot
    in
    sym
    (subst (λ ps. (after_read ps c.args.handle c.args.buffer n).pipes ≡ left) c.self.view_is
    (subst (λ b. (after_read (pipes_in slots) c.args.handle b n).pipes ≡ left) (sym c.if-not-buffer.false) (ap (λ (o : Outcome). o.pipes) done)))
