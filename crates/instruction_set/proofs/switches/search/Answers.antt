use Rattle.std.proofs.Common.{◌≡◌, ◌≤◌, ◌<◌, ◌∙◌, ◌+◌, ◌*◌, Ok, Err, sym, refl, arith}
use Rattle.std.proofs.lemmas.Result.{err_from_is_err_and}
use Rattle.word_store.specs.Arithmetic.{add}
use Rattle.instruction_set.specs.Switch.{halfword}
use Rattle.instruction_set.proofs.KeySearch.{begins, ends, faults, finds, goes_on}
use Rattle.instruction_set.proofs.switches.search.Goals as goal

pub loop-i-init : goal.loop-i-init
loop-i-init c = record { searching = begins c.args.store.now c.args.r c.args.t c.args.count; small = omega arith }

pub returns-in_err-key : goal.returns-in_err-key
returns-in_err-key c =
    let key : halfword c.args.store.now (add c.args.t (4 * c.loop-i.i)) ≡ Err c.in_err-key.field-0.0 = rw (← c.add.ensures) (sym c.halfword.ensures ∙ c.in_err-key.was) in
    let p = err_from_is_err_and c.from_residual.result c.from_residual.ensures.1 in
    rw (p.1, p.2) (faults c.args.store.now c.args.r c.args.t c.args.count c.loop-i.i c.in_err-key.field-0.0 c.loop-i-test.true key c.loop-i.invariant.searching)

pub returns-then-r-key : goal.returns-then-r-key
returns-then-r-key c =
    let key : halfword c.args.store.now (add c.args.t (4 * c.loop-i.i)) ≡ Ok c.in_ok-key.field-0 = rw (← c.add.ensures) (sym c.halfword.ensures ∙ c.in_ok-key.was) in
    rw c.add-then-r-key.ensures at c.jump_by.ensures
    ∙ finds c.args.store.now c.args.r c.args.t c.args.count c.loop-i.i c.in_ok-key.field-0 c.loop-i-test.true key c.if-r-key.true c.loop-i.invariant.searching

pub loop-i-preserved-then-r-key-2 : goal.loop-i-preserved-then-r-key-2
loop-i-preserved-then-r-key-2 c =
    let key : halfword c.args.store.now (add c.args.t (4 * c.loop-i.i)) ≡ Ok c.in_ok-key.field-0 = rw (← c.add.ensures) (sym c.halfword.ensures ∙ c.in_ok-key.was) in
    record {
      searching = goes_on c.args.store.now c.args.r c.args.t c.args.count c.loop-i.i c.in_ok-key.field-0 (2 * c.loop-i.i) c.loop-i-test.true key
          (λ _. refl) (λ (h : c.in_ok-key.field-0 ≤ c.args.r.a). absurd (omega (arith, h, c.if-r-key-2.true))) c.if-r-key.false c.loop-i.invariant.searching;
      small = omega arith;
    }

pub loop-i-preserved : goal.loop-i-preserved
loop-i-preserved c =
    let key : halfword c.args.store.now (add c.args.t (4 * c.loop-i.i)) ≡ Ok c.in_ok-key.field-0 = rw (← c.add.ensures) (sym c.halfword.ensures ∙ c.in_ok-key.was) in
    record {
      searching = goes_on c.args.store.now c.args.r c.args.t c.args.count c.loop-i.i c.in_ok-key.field-0 (2 * c.loop-i.i + 1) c.loop-i-test.true key
          (λ (h : c.args.r.a < c.in_ok-key.field-0). absurd (omega (arith, h, c.if-r-key-2.false))) (λ _. refl) c.if-r-key.false c.loop-i.invariant.searching;
      small = omega arith;
    }

pub returns : goal.returns
returns c =
    rw c.add-2.ensures at c.jump_by-2.ensures
    ∙ ends c.args.store.now c.args.r c.args.t c.args.count c.loop-i.i c.loop-i-test.false c.loop-i.invariant.searching
