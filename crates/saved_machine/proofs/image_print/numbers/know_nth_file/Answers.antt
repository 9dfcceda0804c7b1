use Rattle.std.proofs.Common.{◌∙◌, Option, sym, subst}
use Rattle.std.specs.List.{AllByRecursion}
use Rattle.std.specs.Option.{option_to_list}
use Rattle.hex.specs.Hex.{IsBytes}
use Rattle.ram_disc.specs.Disc.{File}
use Rattle.saved_machine.proofs.ImagePrint.FileTexts.{nth-named}
use Rattle.saved_machine.proofs.image_print.numbers.know_nth_file.Goals as goal

pub returns : goal.returns
returns c =
    let same = nth-named c.args.disc.now c.args.k c.requires.from_one (c.in-Some.name, c.in-Some._size) c.requires.valid (sym c.in-Some.is ∙ c.nth.ensures) in
    subst (λ (o : Option File). AllByRecursion (λ (f : File). IsBytes f.bytes) (option_to_list o)) same c.know_named_file.ensures
