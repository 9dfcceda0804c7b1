use Rattle.std.proofs.Common.{◌∙◌, Err, sym, subst}
use Rattle.std.proofs.lemmas.Result.{err_from_is_err_and}
use Rattle.kernel_calls.proofs.CallAnswers.FoundTask.{reads}
use Rattle.kernel_calls.specs.CallAnswers.CallChange.{IsMade}
use Rattle.kernel_calls.proofs.CallAnswers.MadeCalls.{handed-on}
use Rattle.kernel_calls.specs.BlockCalls.Getvec.{getvec}
use Rattle.kernel_calls.proofs.BlockCalls.TakenBlock.{getvec-made, getvec-refused}
use Rattle.kernel_calls.proofs.block_calls.taking.getvec.Goals as goal

pub returns-in_err-run-clause-made : goal.returns-in_err-run-clause-made
returns-in_err-run-clause-made g c = λ l k.
    let s = c.args.store.now in
    let p = err_from_is_err_and c.from_residual.result c.from_residual.ensures.1 in
    handed-on s s (g.Q.KindKeeper.tells c.tell_take.new.kinds) c.from_residual.result p.0 1 (getvec l c.args.u) p.1 (p.2 ∙ c.in_err-run.ensures.code)
    (subst (λ q. IsMade s s (g.Q.KindKeeper.tells q) (Err 1) (getvec l c.args.u)) (sym c.in_err-run.ensures.unchanged)
    (getvec-refused s l c.args.u k.lists (g.Q.KindKeeper.tells c.args.kinds.now) k.knows c.in_err-run.ensures.no_room))

pub take_from-requires : goal.take_from-requires
take_from-requires g c = record { tiled = (reads c.args.store.now c.requires.0 c.requires.1.lists).tiled; first = c.in_ok-run.ensures.first }

pub returns-clause-made : goal.returns-clause-made
returns-clause-made g c = λ l k.
    getvec-made c.args.store.now l c.args.u k.lists c.take_from.new.store c.take_from.result (g.Q.KindKeeper.tells c.tell_take.new.kinds) (c.in_ok-run.ensures.knows l k)
    c.take_from.ensures.taken
