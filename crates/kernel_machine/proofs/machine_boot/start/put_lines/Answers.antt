use Rattle.std.proofs.Common.{Result, Err, sym, ap, ◌∙◌, subst}
use Rattle.std.proofs.lemmas.Result.{err_from_is_err_and}
use Rattle.kernel_boot.specs.declared.refusals.BootRefusal.{BootRefusal}
use Rattle.kernel_machine.specs.MachineBoot.Boot.{with_lines}
use Rattle.kernel_machine.specs.MachineBoot.Booted.{IsReached}
use Rattle.kernel_machine.proofs.MachineBoot.BegunKernels.{files-start}
use Rattle.kernel_machine.proofs.MachineBoot.LoadedParts.{lines-refused, lines-then}
use Rattle.kernel_machine.proofs.machine_boot.start.put_lines.Goals as goal

pub returns-in_err-put_files-clause-reached : goal.returns-in_err-put_files-clause-reached
returns-in_err-put_files-clause-reached c = λ k h can.
    let refusal : BootRefusal = c.in_err-put_files.field-0.0 in
    let p = err_from_is_err_and c.from_residual.result c.from_residual.ensures.1 in
    subst (λ (r : Result (Unit {0}) BootRefusal). IsReached c.put_files.new.parts r (with_lines c.args.lines.now k)) (sym p.1)
    (lines-refused c.args.lines.now k refusal (c.in_err-put_files.ensures.reached k h) ∙ ap Err (sym p.2))

pub put_tasks-requires : goal.put_tasks-requires
put_tasks-requires c =
    let files = c.in_ok-put_files.ensures.reached c.requires.0 c.requires.1 in
    (files.0, files.2, files-start c.args.lines.now c.requires.0 files.0 c.requires.2.tasks files.1)

pub returns-clause-reached : goal.returns-clause-reached
returns-clause-reached c = λ k h can.
    let files = c.in_ok-put_files.ensures.reached k h in
    subst (IsReached c.put_tasks.new.parts c.put_tasks.result) (sym (lines-then c.args.lines.now k files.0 files.1))
    (c.put_tasks.ensures.reached files.0 files.2 (files-start c.args.lines.now k files.0 can.tasks files.1))
