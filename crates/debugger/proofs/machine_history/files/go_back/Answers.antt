use Rattle.std.proofs.Common.{◌≡◌, ◌+◌, ◌-◌, length, suc, sym, ap, ◌∙◌, arith}
use Rattle.circular_buffer.specs.Buffer.{Buffer}
use Rattle.debugger.specs.MachineHistory.FilesBefore.{gone_back}
use Rattle.debugger.specs.declared.machine_history.files.KeptFiles.{KeptFiles}
use Rattle.debugger.proofs.MachineHistory.FilesThen.{back-nothing, back-once, front-length}
use Rattle.debugger.proofs.machine_history.files.go_back.Goals as goal

pub loop-i-preserved : goal.loop-i-preserved
loop-i-preserved c =
    let kept = c.loop-i.invariant in
    let i = c.loop-i._i in
    let n = c.args.n in
    let count : 17 - i ≡ suc (17 - (i + 1)) = omega (arith, c.loop-i-test.true) in
    record {
      back =
          ap (λ (b : Buffer KeptFiles). gone_back (17 - (i + 1)) n b.items) c.forget_last.ensures ∙ sym (back-once (17 - (i + 1)) n c.loop-i.ring.items)
          ∙ sym (ap (λ m. gone_back m n c.loop-i.ring.items) count) ∙ kept.back;
      room = ap (λ (b : Buffer KeptFiles). b.capacity) c.forget_last.ensures ∙ kept.room;
      fits = omega (arith, kept.fits, ap (λ (b : Buffer KeptFiles). length b.items) c.forget_last.ensures, ap (λ (b : Buffer KeptFiles). b.capacity) c.forget_last.ensures, front-length n c.loop-i.ring.items);
    }

pub returns : goal.returns
returns c =
    let kept = c.loop-i.invariant in
    let i = c.loop-i._i in
    let none : 17 - i ≡ 0 = omega (arith, c.loop-i-test.false) in
    let items = sym (back-nothing c.args.n c.loop-i.ring.items) ∙ sym (ap (λ m. gone_back m c.args.n c.loop-i.ring.items) none) ∙ kept.back in
    λ j. record { items = items j; capacity = kept.room j }
