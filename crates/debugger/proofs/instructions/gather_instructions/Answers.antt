use Rattle.std.proofs.Common.{◌≡◌, ◌∙◌, ◌+◌, ◌-◌, ◌≤◌, [], ◌++◌, sym, ap, arith, append_assoc, List, ℕ}
use Rattle.std.proofs.lemmas.Result.{err_from_is_err_and}
use Rattle.word_store.specs.Bytes.{byte_at}
use Rattle.byte_streams.proofs.GatheredTexts.{IsCut-more, IsCut-then, IsGathered-nothing, IsGathered-then}
use Rattle.assembly.specs.ModuleListing.Listing.{listed}
use Rattle.assembly.specs.ModuleListing.HunkListing.{lines_from}
use Rattle.debugger.specs.Texts.{code_end}
use Rattle.assembly.proofs.ModuleListing.HunkLines.{byte_some}
use Rattle.debugger.proofs.ListedStore.{lines_end, lines_more, lines_none}
use Rattle.debugger.proofs.instructions.gather_instructions.Goals as goal

pub loop-init : goal.loop-init
loop-init g c =
    let words = c.args.store.now in
    let all : c.args.count - 0 ≡ c.args.count = omega arith in
    let lines = ap (λ n. lines_from (byte_at words) (code_end words) n c.from-place.result) all ∙ ap (lines_from (byte_at words) (code_end words) c.args.count) c.from-place.ensures in
    ([], record { all = lines; text = IsGathered-nothing _ _; short = omega arith; later = omega arith })

pub gather_line-requires : goal.gather_line-requires
gather_line-requires g c = byte_some c.args.store.now c.loop.place (omega (arith, c.code_end-end.ensures, c.if-place-end.false))

pub returns-in_err-length-clause-text : goal.returns-in_err-length-clause-text
returns-in_err-length-clause-text g c =
    let words = c.args.store.now in
    let p = err_from_is_err_and c.from_residual.result c.from_residual.ensures.1 in
    let kept = c.loop.invariant.1 in
    let more = lines_more (byte_at words) (code_end words) (c.args.count - c.loop.counter) (c.args.count - (c.loop.counter + 1)) c.loop.place (omega (arith, c.code_end-end.ensures, c.if-place-end.false)) (omega arith) in
    rw p.1 (rw (← kept.all, more) (IsCut-then kept.text (IsCut-more _ c.in_err-length.ensures.text)))

pub loop-preserved : goal.loop-preserved
loop-preserved g c =
    let words = c.args.store.now in
    let front = c.loop.invariant.0 in
    let kept = c.loop.invariant.1 in
    let line = listed (byte_at words) c.loop.place in
    let more = lines_more (byte_at words) (code_end words) (c.args.count - c.loop.counter) (c.args.count - (c.loop.counter + 1)) c.loop.place (omega (arith, c.code_end-end.ensures, c.if-place-end.false)) (omega arith) in
    let rest = lines_from (byte_at words) (code_end words) (c.args.count - (c.loop.counter + 1)) (c.loop.place + line.length) in
    let bounds = c.in_ok-length.ensures.bounds in (
      front ++ line.text,
      record {
        all = rw (c.from-place-in-loop.ensures, c.in_ok-length.ensures.length) (append_assoc front line.text rest ∙ ap (λ (t : List ℕ). front ++ t) (sym more) ∙ kept.all);
        text = IsGathered-then kept.text c.in_ok-length.ensures.text;
        short = omega arith;
        later = omega arith;
      },
    )

pub returns-then-place-end-clause-text : goal.returns-then-place-end-clause-text
returns-then-place-end-clause-text g c =
    let words = c.args.store.now in
    let kept = c.loop.invariant.1 in
    let past : code_end words ≤ c.loop.place = omega (arith, c.code_end-end.ensures, c.if-place-end.true) in
    rw (← lines_end c.loop.invariant.0 _ _ kept.all (lines_none (byte_at words) (code_end words) (c.args.count - c.loop.counter) c.loop.place past)) kept.text

pub returns-clause-text : goal.returns-clause-text
returns-clause-text g c =
    let words = c.args.store.now in
    let kept = c.loop.invariant.1 in
    let none : c.args.count - c.loop.counter ≡ 0 = omega arith in
    rw (← lines_end c.loop.invariant.0 _ _ kept.all (ap (λ n. lines_from (byte_at words) (code_end words) n c.loop.place) none)) kept.text
