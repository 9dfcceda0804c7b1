use Rattle.std.proofs.Common.{◌≡◌, ◌∙◌, ◌<◌, ◌++◌, ◌∷◌, [], ap, arith, length}
use Rattle.show_run.specs.declared.step_log.packets.TheConstants.{MOST_TOLD}
use Rattle.show_run.specs.StepLog.Packets.{accepted}
use Rattle.show_run.proofs.StepLog.ToldPackets.{kept-full, kept-more}
use Rattle.show_run.proofs.step_log.packets.keep.Goals as goal

pub returns-then-len-ge-MOST_TOLD : goal.returns-then-len-ge-MOST_TOLD
returns-then-len-ge-MOST_TOLD c =
    let items = c.args.told.now.items in
    let full : length items ≡ MOST_TOLD = omega (arith, c.len.ensures.value, c.len.ensures.fits) in
    kept-full MOST_TOLD items (accepted c.args.e) full

pub returns : goal.returns
returns c =
    let items = c.args.told.now.items in
    let few : length items < MOST_TOLD = omega (arith, c.len.ensures.value, c.len.ensures.fits) in
    c.push.ensures.items ∙ ap (λ v. items ++ v ∷ []) c.accepted.ensures ∙ kept-more MOST_TOLD items (accepted c.args.e) few
