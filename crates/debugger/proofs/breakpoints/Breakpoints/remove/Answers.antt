use Rattle.std.proofs.Common.{◌∙◌, ap, filter, rules}
use Rattle.std.specs.Prelude.{◌==◌, not}
use Rattle.arrayvec.proofs.ArrayVecLemmas.{filter-from_retain}
use Rattle.debugger.proofs.breakpoints.Breakpoints.remove.Goals as goal

pub returns : goal.returns
returns c = filter-from_retain _ (λ b. not (b == c.args.a)) _ (λ x b f' y called. search rules) _ _ c.retain.ensures.filtered ∙ ap (filter (λ b. not (b == c.args.a))) c.self.view_is
