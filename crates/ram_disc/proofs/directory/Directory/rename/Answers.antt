use Rattle.std.proofs.Common.{arith}
use Rattle.std.proofs.lemmas.List.{get_or_read}
use Rattle.ram_disc.proofs.SlotLemmas.{used-inside}
use Rattle.ram_disc.proofs.directory.Directory.rename.Goals as goal

pub index_mut-requires : goal.index_mut-requires
index_mut-requires c =
    let d = c.args.self.now in
    let read = get_or_read d.used.items c.args.place _ c.requires.place c.remove-slot.ensures.value 0 in
    omega (arith, d.names.ok.0, read, used-inside d.names.items d.used.items d.unused.items c.requires.slots c.args.place c.requires.place)
