use Rattle.module_code.proofs.Causes.{reads_wrong_all}
use Rattle.module_code.proofs.unassembly.module_assembly.Goals as goal

pub returns-in-Err : goal.returns-in-Err
returns-in-Err c =
    let bundle = c.args.bundle.now in
    reads_wrong_all bundle c.told_end.result c.told_end.ensures.wrong (c.told_end.ensures.cause bundle c.in-Err.ensures.cause)
