use Rattle.std.proofs.Common.{ap, arith, subst}
use Rattle.std.proofs.lemmas.Result.{err_from_is_err_and}
use Rattle.byte_streams.specs.Pending.{Gathers}
use Rattle.byte_streams.proofs.GatheredTexts.{Gathers-then, IsCut-more}
use Rattle.tripos_machine.specs.State.{steps_of}
use Rattle.tripos_machine.specs.Step.{run}
use Rattle.tripos_machine.proofs.StateRuns.{run-steps}
use Rattle.show_run.specs.ShownAnswers.{shown, skipped}
use Rattle.show_run.specs.WordWrites.{writes_text}
use Rattle.show_run.proofs.machines.gather_all_writes.Goals as goal

pub run_unheard-requires : goal.run_unheard-requires
run_unheard-requires g c = omega (arith, c.skipped-before.ensures, c.requires)

pub gather_steps_writing-requires : goal.gather_steps_writing-requires
gather_steps_writing-requires g c =
    let s = c.args.machine.now.state in
    omega (arith, c.shown-count.ensures, c.skipped-before.ensures, ap steps_of c.run_unheard.ensures.state, run-steps c.skipped-before.result s, c.requires)

pub returns-in_err-gather_boot_write-clause-text : goal.returns-in_err-gather_boot_write-clause-text
returns-in_err-gather_boot_write-clause-text g c =
    let s = c.args.machine.now.state in
    let p = err_from_is_err_and c.from_residual.result c.from_residual.ensures.1 in
    rw p.1 (IsCut-more (writes_text (shown c.args.first c.args.last c.args.go) c.args.address (run (skipped c.args.first c.args.go) s).state) c.in_err-gather_boot_write.ensures.text)

pub returns-clause-text : goal.returns-clause-text
returns-clause-text g c =
    let holds = g.K.Sink.holds in
    let s = c.args.machine.now.state in
    let a = c.args.address in
    let end = c.gather_steps_writing in
    let old = c.gather_boot_write.new in
    let after = subst (λ t. Gathers (holds old.out) (holds end.new.out) old.pending end.new.pending (writes_text c.shown-count.result a t) end.result) c.run_unheard.ensures.state end.ensures.text in
    let counted = subst (λ n. Gathers (holds old.out) (holds end.new.out) old.pending end.new.pending (writes_text n a (run c.skipped-before.result s).state) end.result) c.shown-count.ensures after in
    let all = subst (λ n. Gathers (holds old.out) (holds end.new.out) old.pending end.new.pending (writes_text (shown c.args.first c.args.last c.args.go) a (run n s).state) end.result) c.skipped-before.ensures counted in
    Gathers-then c.in_ok-gather_boot_write.ensures.text (holds end.new.out) end.new.pending (writes_text (shown c.args.first c.args.last c.args.go) a (run (skipped c.args.first c.args.go) s).state) end.result all
