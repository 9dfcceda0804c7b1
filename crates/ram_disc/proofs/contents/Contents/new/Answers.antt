use Rattle.std.proofs.Common.{refl, arith}
use Rattle.ram_disc.specs.Disc.{most_files}
use Rattle.ram_disc.proofs.ContentsLemmas.{area-new, bytes-new}
use Rattle.ram_disc.proofs.contents.Contents.new.Goals as goal

pub invariant_of-result : goal.invariant_of-result
invariant_of-result c =
    area-new c.in_ok-bytes.bytes.items c.in_ok-sectors.sectors most_files refl (omega (arith, c.in_ok-bytes.bytes.ok.0, c.in_ok-bytes.ensures))
    c.in_ok-sectors.ensures c.left-left.ensures.apart

pub returns : goal.returns
returns c = bytes-new c.in_ok-bytes.bytes.items c.in_ok-sectors.sectors most_files c.in_ok-sectors.ensures
