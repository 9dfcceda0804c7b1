use Rattle.std.proofs.Common.{◌≡◌, ◌≤◌, ◌∙◌, Ok, Err, Result, ℕ, eqb, set, sym, ap, subst, arith}
use Rattle.resident_tasks.specs.PipeHandler.PipeCalls.{Outcome, after_open}
use Rattle.resident_tasks.specs.PipeHandler.Slots.{pipes_in}
use Rattle.resident_tasks.proofs.PipeHandler.SlotCalls.{found-inside, open-done, open-found, open-pipes, open-slots, open-there, open-used}
use Rattle.resident_tasks.proofs.PipeHandler.SlotPipes.{ring-at}
use Rattle.resident_tasks.proofs.pipe_handler.pipes.Pipes.open.Goals as goal

pub returns-then-is_open-clause-answer : goal.returns-then-is_open-clause-answer
returns-then-is_open-clause-answer c =
    let slots = c.self.inside.slots.items in
    let low : c.args.end ≤ 1 = omega arith in
    let found = open-found slots c.as_slice.result.now c.args.name.now c.bytes.result.now c.place_for.result c.in-Some.place c.as_slice.ensures.value c.bytes.ensures.value c.place_for.ensures c.in-Some.is in
    let inside = found-inside slots c.args.name.now c.in-Some.place found in
    let there = open-there slots c.in-Some.place (eqb c.args.end 1) c.is_open.result c.index.result.now inside c.index.ensures c.is_open.ensures ∙ c.if-is_open.true in
    let answer : Result ℕ ℕ = Err 47 in
    sym (subst (λ ps. (after_open ps c.args.name.now c.args.end).answer ≡ answer) c.self.view_is
    (ap (λ (o : Outcome). o.answer) (open-used (pipes_in slots) c.args.name.now c.args.end low c.in-Some.place found there)))

pub returns-then-is_open-clause-pipes : goal.returns-then-is_open-clause-pipes
returns-then-is_open-clause-pipes c =
    let slots = c.self.inside.slots.items in
    let low : c.args.end ≤ 1 = omega arith in
    let found = open-found slots c.as_slice.result.now c.args.name.now c.bytes.result.now c.place_for.result c.in-Some.place c.as_slice.ensures.value c.bytes.ensures.value c.place_for.ensures c.in-Some.is in
    let inside = found-inside slots c.args.name.now c.in-Some.place found in
    let there = open-there slots c.in-Some.place (eqb c.args.end 1) c.is_open.result c.index.result.now inside c.index.ensures c.is_open.ensures ∙ c.if-is_open.true in
    sym (subst (λ ps. (after_open ps c.args.name.now c.args.end).pipes ≡ ps) c.self.view_is
    (ap (λ (o : Outcome). o.pipes) (open-used (pipes_in slots) c.args.name.now c.args.end low c.in-Some.place found there)))

pub invariant_of-self : goal.invariant_of-self
invariant_of-self c =
    let slots = c.self.inside.slots.items in
    let found = open-found slots c.as_slice.result.now c.args.name.now c.bytes.result.now c.place_for.result c.in-Some.place c.as_slice.ensures.value c.bytes.ensures.value c.place_for.ensures c.in-Some.is in
    let inside = found-inside slots c.args.name.now c.in-Some.place found in
    open-slots slots c.args.name.now (eqb c.args.end 1) c.in-Some.place c.index_mut.result.now c.open.new.self c.self.invariant c.bytes.ensures.lawful found inside c.index_mut.ensures.value c.open.ensures.pipe
    (c.open.ensures.ring (ring-at slots c.in-Some.place c.index_mut.result.now c.self.invariant inside c.index_mut.ensures.value))

pub returns-clause-answer : goal.returns-clause-answer
returns-clause-answer c =
    let slots = c.self.inside.slots.items in
    let low : c.args.end ≤ 1 = omega arith in
    let found = open-found slots c.as_slice.result.now c.args.name.now c.bytes.result.now c.place_for.result c.in-Some.place c.as_slice.ensures.value c.bytes.ensures.value c.place_for.ensures c.in-Some.is in
    let inside = found-inside slots c.args.name.now c.in-Some.place found in
    let there = open-there slots c.in-Some.place (eqb c.args.end 1) c.is_open.result c.index.result.now inside c.index.ensures c.is_open.ensures ∙ c.if-is_open.false in
    let answer : Result ℕ ℕ = Ok c.handle_at.result in
    sym (subst (λ ps. (after_open ps c.args.name.now c.args.end).answer ≡ answer) c.self.view_is
    (ap (λ (o : Outcome). o.answer) (open-done (pipes_in slots) c.args.name.now c.args.end low c.in-Some.place found there) ∙ ap (λ (n : ℕ). Ok n) (sym c.handle_at.ensures)))

pub returns-clause-pipes : goal.returns-clause-pipes
returns-clause-pipes c =
    let slots = c.self.inside.slots.items in
    let low : c.args.end ≤ 1 = omega arith in
    let found = open-found slots c.as_slice.result.now c.args.name.now c.bytes.result.now c.place_for.result c.in-Some.place c.as_slice.ensures.value c.bytes.ensures.value c.place_for.ensures c.in-Some.is in
    let inside = found-inside slots c.args.name.now c.in-Some.place found in
    let there = open-there slots c.in-Some.place (eqb c.args.end 1) c.is_open.result c.index.result.now inside c.index.ensures c.is_open.ensures ∙ c.if-is_open.false in
    sym (subst (λ ps. (after_open ps c.args.name.now c.args.end).pipes ≡ pipes_in (set slots c.in-Some.place c.open.new.self)) c.self.view_is
    (ap (λ (o : Outcome). o.pipes) (open-done (pipes_in slots) c.args.name.now c.args.end low c.in-Some.place found there)
    ∙ open-pipes slots c.args.name.now (eqb c.args.end 1) c.in-Some.place c.index_mut.result.now c.open.new.self inside c.index_mut.ensures.value c.open.ensures.pipe))
