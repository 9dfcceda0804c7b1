use Rattle.std.proofs.Common.{◌∙◌, refl, sym}
use Rattle.std.proofs.lemmas.Bool.{false≢true}
use Rattle.kernel_lists.specs.TaskBlock.Lists.{modules_in}
use Rattle.kernel_check.proofs.ListPasses.ModuleWalk.{first, gone, modules-in-blocks}
use Rattle.kernel_check.proofs.list_passes.module_pass.are_valid_modules.Goals as goal

pub returns-then-not-is_valid_module : goal.returns-then-not-is_valid_module
returns-then-not-is_valid_module c = (
  λ t. absurd (false≢true t),
  λ h. sym c.if-not-is_valid_module.true
      ∙ c.is_valid_module.ensures.1
      (first c.args.store.now c.loop-m.m-iterator (modules_in c.args.store.now) c.in-Some.m c.next.new.self c.loop-m.invariant c.in-Some.ensures.steps ((modules-in-blocks c.args.store.now).1 h)),
)

pub returns : goal.returns
returns c = (λ t. (modules-in-blocks c.args.store.now).0 (gone c.args.store.now c.loop-m.m-iterator (modules_in c.args.store.now) c.loop-m.invariant c.in-None.ensures.steps.0), λ h. refl)
