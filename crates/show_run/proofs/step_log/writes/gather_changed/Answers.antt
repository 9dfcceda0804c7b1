use Rattle.std.proofs.Common.{[], ◌++◌, ◌<◌, ◌≤◌, get_or, length, arith, ap}
use Rattle.std.proofs.lemmas.Result.{err_from_is_err_and}
use Rattle.byte_streams.proofs.GatheredTexts.{IsCut-more, IsCut-then, IsGathered-nothing, IsGathered-then}
use Rattle.tripos_machine.specs.GuestWrites.{is_kernels}
use Rattle.tripos_machine.specs.State.{words_of}
use Rattle.show_run.specs.StepLog.Writes.{changed_line}
use Rattle.show_run.proofs.StepLog.ChangedLines.{changed-all, changed-at, changed-first, changed-next}
use Rattle.show_run.proofs.step_log.writes.gather_changed.Goals as goal

pub loop-a-init : goal.loop-a-init
loop-a-init g c = ([], record { so_far = changed-first _ _ _ _; gathered = IsGathered-nothing _ _; later = omega arith })

pub returns-in_err-gather_changed_word-clause-text : goal.returns-in_err-gather_changed_word-clause-text
returns-in_err-gather_changed_word-clause-text g c =
    let kept = c.loop-a.invariant.1 in
    let low : c.loop-a.a < length (words_of c.args.machine.now.state) = omega (arith, c.size-a-end.ensures, ap length c.store.ensures) in
    let p = err_from_is_err_and c.from_residual.result c.from_residual.ensures.1 in
    rw (p.1, changed-at kept.so_far low) (IsCut-then kept.gathered (IsCut-more _ c.in_err-gather_changed_word.ensures.text))

pub loop-a-preserved : goal.loop-a-preserved
loop-a-preserved g c =
    let kept = c.loop-a.invariant in
    let words = words_of c.args.machine.now.state in
    let low : c.loop-a.a < length words = omega (arith, c.size-a-end.ensures, ap length c.store.ensures) in (
      kept.0 ++ changed_line c.args.m (is_kernels c.args.machine.now.state) c.args.former.now c.loop-a.a (get_or words c.loop-a.a 0),
      record {
        so_far = changed-next kept.1.so_far low;
        gathered = IsGathered-then kept.1.gathered c.in_ok-gather_changed_word.ensures.text;
        later = omega (arith, kept.1.later, c.in_ok-gather_changed_word.ensures.cause.later);
      },
    )

pub returns-clause-text : goal.returns-clause-text
returns-clause-text g c =
    let kept = c.loop-a.invariant.1 in
    let all : length (words_of c.args.machine.now.state) ≤ c.loop-a.a = omega (arith, c.size-a-end.ensures, ap length c.store.ensures) in
    rw (changed-all kept.so_far all) kept.gathered
