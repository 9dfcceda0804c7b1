use Rattle.std.proofs.Common.{◌≡◌, ◌∙◌, ◌<◌, length, get_or, sym, refl, ap, arith, set, true}
use Rattle.std.proofs.lemmas.Option.{same_Some, slice_get_read}
use Rattle.std.proofs.lemmas.Result.{on_ok_weaker}
use Rattle.show_run.specs.ValueTries.Groups.{groups_with}
use Rattle.show_run.specs.ValueTries.Outcomes.{is_same_outcome}
use Rattle.show_run.specs.declared.value_tries.groups.Group.{Group}
use Rattle.show_run.proofs.ValueTries.AddedTries.{add-there}
use Rattle.show_run.proofs.value_tries.groups.add_try.Goals as goal

pub returns-then-is_same_outcome : goal.returns-then-is_same_outcome
returns-then-is_same_outcome c =
    let gs = c.loop-i.groups.items in
    let i = c.loop-i.i in
    let one = c.args.one in
    let group = c.index_mut.result.now in
    let within : i < length gs = omega (arith, c.loop-i-test.true, c.loop-i.auto.i-end, c.len-i-end.ensures, c.loop-i.groups.ok.0) in
    let read : group ≡ get_or gs i group = c.index_mut.ensures.value in
    let looked : group ≡ c.index.result.now =
    same_Some _ _ (sym (slice_get_read gs (length gs) i group refl within read) ∙ slice_get_read gs (length gs) i c.index.result.now refl within c.index.ensures) in
    let same : is_same_outcome group.outcome one.outcome ≡ true = ap (λ (g : Group). is_same_outcome g.outcome one.outcome) looked ∙ sym c.if-is_same_outcome.ensures in
    on_ok_weaker c.add_to.result
    (λ is. ap (λ g. set gs i g) is ∙ (add-there one gs i group within c.loop-i.invariant.rest read same ∙ ap (groups_with one) c.loop-i.invariant.same))
    c.add_to.ensures
