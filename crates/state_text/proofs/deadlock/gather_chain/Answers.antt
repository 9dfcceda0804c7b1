use Rattle.std.proofs.Common.{◌∙◌, ap, arith, subst, sym}
use Rattle.std.specs.List.{AllByRecursion, flat_map}
use Rattle.std.proofs.lemmas.List.Folds.{flat_map-map}
use Rattle.std.proofs.lemmas.Result.{err_from_is_err_and}
use Rattle.kernel_model.specs.KernelRecord.KernelRanges.{CanWalkTask}
use Rattle.kernel_model.specs.KernelRecord.Recovered.{lists_in, task_in}
use Rattle.kernel_lists.specs.TaskBlock.TaskChain.{tasks_in}
use Rattle.state_text.specs.Deadlock.{stuck_words}
use Rattle.state_text.proofs.GatheredLines.{lines-cut, lines-first, lines-next}
use Rattle.state_text.proofs.ListedWords.{listed-tasks}
use Rattle.state_text.proofs.deadlock.gather_chain.Goals as goal

pub loop-t-init : goal.loop-t-init
loop-t-init g c =
    let s = c.args.store.now in
    let is = c.into_iter-t-iterator.ensures.into_iter_gives ∙ c.tasks-t-items.ensures in
    record {
      so_far = lines-first (λ t. stuck_words (task_in s t)) _ (flat_map stuck_words (lists_in s).tasks) _ _ (ap (flat_map (λ t. stuck_words (task_in s t))) is ∙ (sym (flat_map-map stuck_words (task_in s) (tasks_in s)) ∙ ap (flat_map stuck_words) (listed-tasks s)));
      walk = subst (AllByRecursion (CanWalkTask s)) (sym is) (c.requires.tasks);
      later = omega arith;
    }

pub returns-in_err-gather_stuck_words-clause-text : goal.returns-in_err-gather_stuck_words-clause-text
returns-in_err-gather_stuck_words-clause-text g c =
    let s = c.args.store.now in
    let p = err_from_is_err_and c.from_residual.result c.from_residual.ensures.1 in
    rw p.1 (lines-cut (λ t. stuck_words (task_in s t)) c.in-Some.t c.next.new.self c.loop-t.t-iterator (flat_map stuck_words (lists_in s).tasks) c.in-Some.ensures.steps c.loop-t.invariant.so_far c.in_err-gather_stuck_words.ensures.text)

pub loop-t-preserved : goal.loop-t-preserved
loop-t-preserved g c =
    let s = c.args.store.now in
    let kept = c.loop-t.invariant in
    record {
      so_far = lines-next (λ t. stuck_words (task_in s t)) c.in-Some.t c.next.new.self c.loop-t.t-iterator (flat_map stuck_words (lists_in s).tasks) c.in-Some.ensures.steps kept.so_far c.in_ok-gather_stuck_words.ensures.text;
      walk = (subst (AllByRecursion (CanWalkTask s)) c.in-Some.ensures.steps kept.walk).1;
      later = omega (arith, kept.later, c.in_ok-gather_stuck_words.ensures.cause.later);
    }
