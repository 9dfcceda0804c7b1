use Rattle.std.proofs.Common.{ℕ, List, sym, ◌∙◌}
use Rattle.shell.proofs.ShellPrograms.StartedParts.{found-made}
use Rattle.shell.proofs.shell_programs.programs.load_program.Goals as goal

pub returns-clause-made : goal.returns-clause-made
returns-clause-made g c = λ l k.
    let bytes : List ℕ = c.in-Some.text in
    found-made c.args.store.now c.load_module.new.store (g.Q.KindKeeper.tells c.load_module.new.kinds) c.load_module.result l bytes _ c.args.rest c.in_ok-rest.field-0 (sym c.in-Some.is ∙ c.file.ensures) c.in_ok-rest.was
    (λ m is. c.load_module.ensures.made l m k is) (λ code e. c.load_module.ensures.no_module l code k e)
