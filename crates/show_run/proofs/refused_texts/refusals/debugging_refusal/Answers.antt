use Rattle.std.proofs.Common.{arith}
use Rattle.module_text.specs.TextReader.Lines.{lines_of}
use Rattle.session_text.specs.Front.{front_count}
use Rattle.session_text.proofs.FrontLines.{place_after-within}
use Rattle.show_run.proofs.refused_texts.refusals.debugging_refusal.Goals as goal

pub text_behind-lines-requires : goal.text_behind-lines-requires
text_behind-lines-requires c = omega (arith, c.in-Ok.ensures.end, place_after-within (front_count (lines_of c.args.text.now)) c.args.text.now)
