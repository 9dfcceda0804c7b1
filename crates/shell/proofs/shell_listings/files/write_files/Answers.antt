use Rattle.std.proofs.Common.{◌∙◌, sym, arith}
use Rattle.shell.proofs.ShellListings.ListedFiles.{files-end, files-next}
use Rattle.shell.proofs.shell_listings.files.write_files.Goals as goal

pub returns-in_default-clause-text : goal.returns-in_default-clause-text
returns-in_default-clause-text c =
    files-end c.args.disc.now c.loop-k.k c.loop-k.bytes c.args.bytes.now (omega arith) (sym c.nth.ensures ∙ c.in_default.is) c.loop-k.invariant.text

pub loop-k-preserved : goal.loop-k-preserved
loop-k-preserved c = record {
  text =
      files-next c.args.disc.now c.loop-k.k (c.in-Some.name, c.in-Some.size) c.loop-k.bytes c.write_file.new.bytes c.args.bytes.now (omega arith)
      (sym c.nth.ensures ∙ c.in-Some.is) c.write_file.ensures.text c.loop-k.invariant.text;
  room = omega (arith, c.loop-k.invariant.room, c.write_file.ensures.short);
}
