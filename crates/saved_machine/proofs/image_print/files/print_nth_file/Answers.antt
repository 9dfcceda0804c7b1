use Rattle.std.proofs.Common.{◌∙◌, Option, sym, subst}
use Rattle.std.specs.Option.{option_to_list}
use Rattle.ram_disc.specs.Disc.{File}
use Rattle.byte_streams.specs.Pending.{Gathers}
use Rattle.saved_machine.specs.ImagePrint.Private.Texts.{files_text}
use Rattle.saved_machine.proofs.ImagePrint.FileTexts.{nth-named}
use Rattle.saved_machine.proofs.image_print.files.print_nth_file.Goals as goal

pub returns-clause-text : goal.returns-clause-text
returns-clause-text g c =
    let same = nth-named c.args.disc.now c.args.k c.requires.from_one (c.in-Some.name, c.in-Some._size) c.requires.valid (sym c.in-Some.is ∙ c.nth.ensures) in
    subst (λ (o : Option File). Gathers (g.K.Sink.holds c.args.out.now) (g.K.Sink.holds c.print_named_file.new.out) c.args.pending.now c.print_named_file.new.pending (files_text (option_to_list o)) c.print_named_file.result) same
    c.print_named_file.ensures.text
