use Rattle.std.proofs.Common.{ℕ, Ok, Err, ap, ◌∙◌, arith}
use Rattle.std.proofs.lemmas.Result.{err_from_is_err_and}
use Rattle.kernel_boot.proofs.StoresAfterCalls.{keeper-made}
use Rattle.shell.specs.ShellPrograms.StartedProgram.{load_program}
use Rattle.shell.proofs.ShellPrograms.StartedParts.{loaded-then, not-started}
use Rattle.shell.proofs.shell_programs.programs.start_program.Goals as goal

pub returns-in_err-module-clause-started : goal.returns-in_err-module-clause-started
returns-in_err-module-clause-started g c = λ l k.
    let p = err_from_is_err_and c.from_residual.result c.from_residual.ensures.1 in
    not-started c.args.disc.now c.args.program.now c.args.rest c.args.priority c.args.store.now c.load_program.new.store l (g.Q.KindKeeper.tells c.load_program.new.kinds) (g.Q.KindKeeper.room c.load_program.new.kinds)
    c.in_err-module.field-0.0 c.from_residual.result (p.1 ∙ ap Err p.2) (omega (arith, k.enough, c.load_program.ensures.room)) (c.in_err-module.ensures.made l k)

pub returns-clause-started : goal.returns-clause-started
returns-clause-started g c = λ l k.
    let m : ℕ = c.in_ok-module.module in
    let loaded = load_program c.args.disc.now c.args.program.now c.args.rest l in
    let made = c.in_ok-module.ensures.made l k in
    loaded-then c.args.disc.now c.args.program.now c.args.rest c.args.priority c.args.store.now c.load_program.new.store l (g.Q.KindKeeper.tells c.load_program.new.kinds) c.create_program.new.store
    (g.Q.KindKeeper.tells c.create_program.new.kinds) (g.Q.KindKeeper.room c.create_program.new.kinds) m c.create_program.result made
    (c.create_program.ensures.started loaded.lists
    (keeper-made c.args.store.now c.load_program.new.store (g.Q.KindKeeper.tells c.load_program.new.kinds) (Ok m) loaded made (g.Q.KindKeeper.room c.load_program.new.kinds) (omega (arith, k.enough, c.load_program.ensures.room))))
