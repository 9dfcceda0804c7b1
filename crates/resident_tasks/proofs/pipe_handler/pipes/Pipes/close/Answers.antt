use Rattle.std.proofs.Common.{◌≡◌, set, sym, ap, subst, refl}
use Rattle.resident_tasks.specs.PipeHandler.Ends.{names_writer}
use Rattle.resident_tasks.specs.PipeHandler.PipeCalls.{Outcome, after_close}
use Rattle.resident_tasks.specs.PipeHandler.Slots.{IsPlaceOf, pipes_in}
use Rattle.resident_tasks.proofs.PipeHandler.SlotCalls.{close-done, close-slots}
use Rattle.resident_tasks.proofs.pipe_handler.pipes.Pipes.close.Goals as goal

pub invariant_of-self : goal.invariant_of-self
invariant_of-self c =
    let place = subst (λ xs. IsPlaceOf xs c.args.handle (names_writer c.args.handle) c.in-Some.place) c.as_slice.ensures.value c.in-Some.ensures in
    close-slots c.self.inside.slots.items c.args.handle c.in-Some.place (names_writer c.args.handle) refl place c.index_mut.result.now c.index_mut.ensures.value c.close.new.self c.close.ensures.pipe
    c.close.ensures.ring c.self.invariant

pub returns-clause-pipes : goal.returns-clause-pipes
returns-clause-pipes c =
    let slots = c.self.inside.slots.items in
    let left = pipes_in (set slots c.in-Some.place c.close.new.self) in
    let place = subst (λ xs. IsPlaceOf xs c.args.handle (names_writer c.args.handle) c.in-Some.place) c.as_slice.ensures.value c.in-Some.ensures in
    let done =
    close-done slots c.args.handle c.in-Some.place (names_writer c.args.handle) refl place c.index_mut.result.now c.index_mut.ensures.value c.close.new.self c.close.ensures.pipe
    in
    sym (subst (λ ps. (after_close ps c.args.handle).pipes ≡ left) c.self.view_is (ap (λ (o : Outcome). o.pipes) done))
