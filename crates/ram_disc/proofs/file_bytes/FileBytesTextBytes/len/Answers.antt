use Rattle.std.proofs.Common.{length, sym, ap, ◌∙◌}
use Rattle.ram_disc.proofs.ContentsLemmas.{length-bytes}
use Rattle.ram_disc.proofs.file_bytes.FileBytesTextBytes.len.Goals as goal

pub returns : goal.returns
returns c = sym (ap length (sym c.self.view_is) ∙ length-bytes _ _ c.self.inside.size)
