use Rattle.std.proofs.Common.{◌∙◌, sym, ap, arith}
use Rattle.show_run.specs.ValueTries.Groups.{groups_with}
use Rattle.show_run.proofs.ValueTries.Groupings.{count-more, groups-more}
use Rattle.show_run.proofs.value_tries.groups.Gathering.add.Goals as goal

pub returns : goal.returns
returns c tries before = record {
  groups = c.in_ok-add_try.ensures ∙ (ap (groups_with c.args.one) before.groups ∙ sym (groups-more c.args.one tries));
  tried = omega (arith, c.saturating_add-self.ensures, before.tried, count-more c.args.one tries);
}
