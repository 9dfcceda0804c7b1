use Rattle.std.proofs.Common.{[], ◌∷◌, ◌++◌, ap, sym, ◌∙◌, arith}
use Rattle.ram_disc.proofs.SlotLemmas.{range-more}
use Rattle.ram_disc.proofs.directory.all_slots.Goals as goal

pub loop-slot-preserved : goal.loop-slot-preserved
loop-slot-preserved c = record {
  sofar = c.push.ensures.items ∙ ap (λ xs. xs ++ c.loop-slot.slot ∷ []) c.loop-slot.invariant.sofar ∙ sym (range-more c.loop-slot.slot);
  len = omega (arith, c.push.ensures.len, c.loop-slot.invariant.len);
}
