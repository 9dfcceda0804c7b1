use Rattle.std.proofs.Common.{◌∙◌, sym}
use Rattle.module_text.specs.TextReader.Lines.{lines_of}
use Rattle.assembly.specs.AssemblyText.KeptCode.{kept_code}
use Rattle.assembly.specs.AssemblyText.KeptLabels.{layout_of, table_of}
use Rattle.assembly.proofs.AssemblyText.Printable.{code_size}
use Rattle.assembly.proofs.assembly_text.assembly.assemble_module.Goals as goal

pub hunk_words-requires : goal.hunk_words-requires
hunk_words-requires c =
    code_size (table_of c.in_ok-known.known.labels) (layout_of c.in_ok-known.known) (lines_of c.args.text.now) (kept_code c.in_ok-code.code) c.in_ok-known.ensures.value c.in_ok-code.ensures ∙ sym c.hunk_size-size.ensures
