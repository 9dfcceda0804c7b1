use Rattle.std.proofs.Common.{◌∙◌, true, false, sym, ap}
use Rattle.kernel_model.proofs.KernelRecord.WalkedLists.{can-walk}
use Rattle.kernel_calls.specs.CallAnswers.Refusals.{answer_of}
use Rattle.kernel_calls.proofs.CallAnswers.ListedModules.{module-told}
use Rattle.kernel_calls.proofs.ModuleCalls.ModuleUses.{module-some, tasks-inside, tests-no_module, tests-use, use-told}
use Rattle.kernel_calls.proofs.module_calls.unloading.check_unused.Goals as goal

pub is_module-requires : goal.is_module-requires
is_module-requires c = (can-walk c.args.store.now c.requires.0 c.requires.1).modules

pub returns-then-not-is_module : goal.returns-then-not-is_module
returns-then-not-is_module c = λ l h.
    ap answer_of (sym (tests-no_module l c.args.m (sym (module-told c.args.store.now l c.args.m h) ∙ sym c.is_module.ensures ∙ c.if-not-is_module.true)))

pub is_in_use-requires-clause-chain : goal.is_in_use-requires-clause-chain
is_in_use-requires-clause-chain c = (can-walk c.args.store.now c.requires.0 c.requires.1).chain

pub is_in_use-requires-clause-tasks : goal.is_in_use-requires-clause-tasks
is_in_use-requires-clause-tasks c = tasks-inside c.args.store.now c.requires.0 c.requires.1

pub returns-then-is_in_use : goal.returns-then-is_in_use
returns-then-is_in_use c = λ l h.
    let there = sym (module-told c.args.store.now l c.args.m h) ∙ sym c.is_module.ensures ∙ c.if-not-is_module.false in
    ap answer_of (sym (tests-use l c.args.m true there
    (sym (use-told c.args.store.now l c.args.m h (module-some l c.args.m h.valid there)) ∙ sym c.is_in_use.ensures ∙ c.if-is_in_use.true)))

pub returns : goal.returns
returns c = λ l h.
    let there = sym (module-told c.args.store.now l c.args.m h) ∙ sym c.is_module.ensures ∙ c.if-not-is_module.false in
    ap answer_of (sym (tests-use l c.args.m false there
    (sym (use-told c.args.store.now l c.args.m h (module-some l c.args.m h.valid there)) ∙ sym c.is_in_use.ensures ∙ c.if-is_in_use.false)))
