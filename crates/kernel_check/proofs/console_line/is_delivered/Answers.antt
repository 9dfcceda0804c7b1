use Rattle.std.proofs.Common.{arith}
use Rattle.kernel_model.specs.KernelRecord.Recovered.{lists_in}
use Rattle.kernel_lists.proofs.GetvecChain.Tilings.{IsTiled-inside}
use Rattle.kernel_model.proofs.KernelRecord.WalkedLists.{can-walk}
use Rattle.kernel_check.proofs.ConsoleLine.{pending-empty}
use Rattle.kernel_check.proofs.console_line.is_delivered.Goals as goal

pub returns : goal.returns
returns c =
    let both = pending-empty c.args.store.now c.word.result c.requires.there
    (omega (arith, IsTiled-inside c.args.store.now (can-walk c.args.store.now (lists_in c.args.store.now) c.requires.lists).tiled)) c.word.ensures
    in (λ t e. both.0 t, λ h. both.1 (h c.if-not-finished.false))
