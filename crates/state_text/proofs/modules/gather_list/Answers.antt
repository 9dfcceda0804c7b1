use Rattle.std.proofs.Common.{◌∙◌, ap, arith, subst, sym}
use Rattle.std.specs.List.{AllByRecursion, flat_map}
use Rattle.std.proofs.lemmas.List.Folds.{flat_map-map}
use Rattle.std.proofs.lemmas.Result.{err_from_is_err_and}
use Rattle.kernel_model.specs.KernelRecord.KernelRanges.{IsModuleIn}
use Rattle.kernel_model.specs.KernelRecord.Recovered.{lists_in, module_in}
use Rattle.kernel_lists.specs.TaskBlock.Lists.{modules_in}
use Rattle.state_text.specs.ModuleTexts.{module_line}
use Rattle.state_text.specs.ProgramNames.{name_in}
use Rattle.state_text.proofs.GatheredLines.{lines-cut, lines-first, lines-next}
use Rattle.state_text.proofs.ListedWords.{listed-modules}
use Rattle.state_text.proofs.modules.gather_list.Goals as goal

pub loop-m-init : goal.loop-m-init
loop-m-init g c =
    let s = c.args.store.now in
    let names = name_in c.args.programs.now s in
    let is = c.into_iter-m-iterator.ensures.into_iter_gives ∙ c.modules-m-items.ensures in
    record {
      so_far = lines-first (λ m. module_line names (module_in s m)) _ (flat_map (module_line names) (lists_in s).modules) _ _ (ap (flat_map (λ m. module_line names (module_in s m))) is ∙ (sym (flat_map-map (module_line names) (module_in s) (modules_in s)) ∙ ap (flat_map (module_line names)) (listed-modules s)));
      walk = subst (AllByRecursion (IsModuleIn s)) (sym is) (c.requires.module_words);
      later = omega arith;
    }

pub returns-in_err-gather_module-clause-text : goal.returns-in_err-gather_module-clause-text
returns-in_err-gather_module-clause-text g c =
    let s = c.args.store.now in
    let names = name_in c.args.programs.now s in
    let p = err_from_is_err_and c.from_residual.result c.from_residual.ensures.1 in
    rw p.1 (lines-cut (λ m. module_line names (module_in s m)) c.in-Some.m c.next.new.self c.loop-m.m-iterator (flat_map (module_line names) (lists_in s).modules) c.in-Some.ensures.steps c.loop-m.invariant.so_far c.in_err-gather_module.ensures.text)

pub loop-m-preserved : goal.loop-m-preserved
loop-m-preserved g c =
    let s = c.args.store.now in
    let names = name_in c.args.programs.now s in
    let kept = c.loop-m.invariant in
    record {
      so_far = lines-next (λ m. module_line names (module_in s m)) c.in-Some.m c.next.new.self c.loop-m.m-iterator (flat_map (module_line names) (lists_in s).modules) c.in-Some.ensures.steps kept.so_far c.in_ok-gather_module.ensures.text;
      walk = (subst (AllByRecursion (IsModuleIn s)) c.in-Some.ensures.steps kept.walk).1;
      later = omega (arith, kept.later, c.in_ok-gather_module.ensures.cause.later);
    }
