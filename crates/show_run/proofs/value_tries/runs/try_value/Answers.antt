use Rattle.std.proofs.Common.{◌∙◌, sym}
use Rattle.show_run.proofs.ValueTries.TriedValues.{same-with}
use Rattle.show_run.proofs.value_tries.runs.try_value.Goals as goal

pub try_session-requires : goal.try_session-requires
try_session-requires c =
    rw c.set.ensures ((same-with c.args.setting c.args.value c.args.session.now c.requires (sym c.has_session.ensures ∙ c.if-not-has_session.false)).lawful)

pub returns-clause-same : goal.returns-clause-same
returns-clause-same c =
    rw c.set.ensures (same-with c.args.setting c.args.value c.args.session.now c.requires (sym c.has_session.ensures ∙ c.if-not-has_session.false))
