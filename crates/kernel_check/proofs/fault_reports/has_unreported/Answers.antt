use Rattle.std.proofs.Common.{◌≡◌, ◌∙◌}
use Rattle.kernel_lists.specs.TaskBlock.TaskChain.{tasks_in}
use Rattle.kernel_check.specs.Private.Reports.{is_unreported_as}
use Rattle.kernel_check.proofs.FaultReports.{any-behind, any-first, any-here, any-none}
use Rattle.kernel_check.proofs.fault_reports.has_unreported.Goals as goal

pub loop-t-init : goal.loop-t-init
loop-t-init c = (let is : c.into_iter-t-iterator.result ≡ tasks_in c.args.store.now = cc in any-first c.args.store.now (is_unreported_as c.args.id) c.into_iter-t-iterator.result is)

pub returns-then-is_unreported_guest : goal.returns-then-is_unreported_guest
returns-then-is_unreported_guest c =
    any-here c.args.store.now (is_unreported_as c.args.id) c.loop-t.t-iterator c.in-Some.t c.next.new.self c.is_unreported_guest.result c.in-Some.ensures.steps c.is_unreported_guest.ensures c.if-is_unreported_guest.true ∙ c.loop-t.invariant

pub loop-t-preserved : goal.loop-t-preserved
loop-t-preserved c =
    any-behind c.args.store.now (is_unreported_as c.args.id) c.loop-t.t-iterator c.in-Some.t c.next.new.self c.is_unreported_guest.result c.in-Some.ensures.steps c.is_unreported_guest.ensures c.if-is_unreported_guest.false ∙ c.loop-t.invariant

pub returns : goal.returns
returns c = any-none c.args.store.now (is_unreported_as c.args.id) c.loop-t.t-iterator c.in-None.ensures.steps.0 ∙ c.loop-t.invariant
