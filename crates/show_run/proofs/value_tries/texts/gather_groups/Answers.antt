use Rattle.std.proofs.Common.{suc, drop, arith}
use Rattle.std.specs.List.{flat_map}
use Rattle.std.proofs.lemmas.Result.{err_from_is_err_and}
use Rattle.byte_streams.proofs.AppendedTexts.{flat_map-at, flat_map-more}
use Rattle.byte_streams.proofs.GatheredTexts.{IsCut-more, IsCut-then, IsGathered-then}
use Rattle.show_run.specs.ValueTries.TryTexts.{group_text}
use Rattle.show_run.proofs.value_tries.texts.gather_groups.Goals as goal

pub returns-in_err-gather_group-clause-text : goal.returns-in_err-gather_group-clause-text
returns-in_err-gather_group-clause-text g c =
    let i = c.loop-group.group-index in
    let groups = c.args.groups.now in
    let p = err_from_is_err_and c.from_residual.result c.from_residual.ensures.1 in
    rw p.1 (rw (flat_map-at group_text groups i c.group-item.result c.loop-group-test.true, ← c.group-item.is)
    (IsCut-then c.loop-group.invariant.text (IsCut-more (flat_map group_text (drop (suc i) groups)) c.in_err-gather_group.ensures.text)))

pub loop-group-preserved : goal.loop-group-preserved
loop-group-preserved g c = record {
  text = rw (flat_map-more group_text c.args.groups.now c.loop-group.group-index c.group-item.result c.loop-group-test.true, ← c.group-item.is)
      (IsGathered-then c.loop-group.invariant.text c.in_ok-gather_group.ensures.text);
  later = omega (arith, c.in_ok-gather_group.ensures.cause);
}
