use Rattle.assembly.specs.AssemblyText.KeptCode.{kept_code}
use Rattle.assembly.proofs.AssemblyText.HunkSizes.{hunk_made}
use Rattle.assembly.proofs.assembly_text.hunks.hunk_words.Goals as goal

pub returns : goal.returns
returns c =
    hunk_made (kept_code c.args.code.now) c.args.size c.push.new.self.items c.push_code.new.words.items c.push_closing.new.words.items c.requires
    (rw c.new-words.ensures.items at c.in_ok-push.ensures.items)
    (rw c.deref.ensures.value at c.in_ok-push_code.ensures)
    (rw c.deref-2.ensures.value at c.in_ok-push_closing.ensures)
