use Rattle.std.proofs.Common.{◌≡◌, ◌<◌, ◌∙◌, length, sym, subst, arith}
use Rattle.std.proofs.lemmas.List.{get_or_read}
use Rattle.std.proofs.lemmas.List.Elements.{All-set}
use Rattle.resident_tasks.specs.PipeHandler.Slots.{IsRing}
use Rattle.resident_tasks.specs.declared.pipe_handler.slots.Slot.{Slot}
use Rattle.resident_tasks.proofs.PipeHandler.SlotPipes.{same-lists, same-more}
use Rattle.resident_tasks.proofs.pipe_handler.slots.copy_slots.Goals as goal

pub copy_from-requires-clause-old : goal.copy_from-requires-clause-old
copy_from-requires-clause-old c = c.loop-i.invariant.rings c.loop-i.i c.index-slots-i.result (omega arith)

pub copy_from-requires-clause-other : goal.copy_from-requires-clause-other
copy_from-requires-clause-other c =
    subst (λ (s : Slot). IsRing s.held) (sym c.index-others-i.is) (c.requires.others c.loop-i.i c.index-others-i.result (omega arith))

pub loop-i-preserved : goal.loop-i-preserved
loop-i-preserved c =
    let inside : c.loop-i.i < length c.loop-i.slots = omega arith in
    let beside : c.loop-i.i < length c.args.others.now = omega arith in
    let other = subst (λ (s : Slot). IsRing s.held) (sym c.index-others-i.is) (c.requires.others c.loop-i.i c.index-others-i.result beside) in
    record {
      rings = All-set (λ s. IsRing s.held) c.loop-i.slots c.loop-i.i c.copy_from.new.self (subst (λ (s : Slot). IsRing s.held) (sym c.copy_from.ensures) other) c.loop-i.invariant.rings;
      done =
          same-more c.loop-i.slots c.args.others.now c.loop-i.i c.copy_from.new.self inside
          (λ d. c.copy_from.ensures ∙ get_or_read c.args.others.now c.loop-i.i c.index-others-i.result beside c.index-others-i.is d) c.loop-i.invariant.done;
    }

pub returns : goal.returns
returns c =
    let size : length c.loop-i.slots ≡ length c.args.others.now = omega arith in
    same-lists c.loop-i.slots c.args.others.now size (λ k d h. c.loop-i.invariant.done k d (omega (arith, h, c.loop-i-test.false)))
