use Rattle.std.proofs.Common.{subst}
use Rattle.std.proofs.lemmas.Result.{err_from_is_err_and}
use Rattle.byte_streams.specs.Pending.{IsCut, IsGathered}
use Rattle.byte_streams.proofs.GatheredTexts.{Gathers-then, IsCut-more}
use Rattle.debugger.specs.Texts.{place_text}
use Rattle.debugger.proofs.places.gather_return.Goals as goal

pub returns-in_err-gather-clause-text : goal.returns-in_err-gather-clause-text
returns-in_err-gather-clause-text g c =
    let holds = g.K.Sink.holds in
    let p = err_from_is_err_and c.from_residual.result c.from_residual.ensures.1 in
    rw p.1 (IsCut-more (place_text c.args.first c.args.machine.now.state) (subst (IsCut (holds c.args.out.now) (holds c.gather.new.out) c.args.pending.now) c.no_more.ensures c.in_err-gather.ensures.text))

pub returns-clause-text : goal.returns-clause-text
returns-clause-text g c =
    let holds = g.K.Sink.holds in
    let end = c.gather_place in
    Gathers-then (subst (IsGathered (holds c.args.out.now) (holds c.gather.new.out) c.args.pending.now c.gather.new.pending) c.no_more.ensures c.in_ok-gather.ensures.text) (holds end.new.out) end.new.pending
    (place_text c.args.first c.args.machine.now.state) end.result end.ensures.text
