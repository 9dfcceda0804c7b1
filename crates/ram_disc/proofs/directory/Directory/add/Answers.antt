use Rattle.std.proofs.Common.{[], ◌∷◌, refl, ap, arith}
use Rattle.word_store.specs.Count.{times}
use Rattle.word_store.proofs.Counts.{hit-same, times-append}
use Rattle.ram_disc.proofs.directory.Directory.add.Goals as goal

pub index_mut-requires : goal.index_mut-requires
index_mut-requires c =
    let d = c.args.self.now in
    let s = c.in_ok-slot.slot in
    omega (
      arith,
      d.names.ok.0,
      c.requires.slots.table,
      c.requires.slots.below s
          (omega (arith, ap (times s) c.in_ok-slot.ensures.items, times-append s c.pop.new.self.items (s ∷ []), hit-same s s refl)),
    )
