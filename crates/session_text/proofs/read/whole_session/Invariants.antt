use Rattle.std.proofs.Common.{◌≡◌, ◌^◌, ◌<◌, ◌≤◌, ◌+◌, ◌⊎◌, length}
use Rattle.module_text.specs.TextReader.Lines.{lines_of}
use Rattle.session_text.specs.SessionOfText.{read_on, session_of}
use Rattle.session_text.specs.declared.drafts.Place.TheVariants.{Version}
use Rattle.session_text.proofs.read.whole_session.Given as goal

abbrev pub invariant-loop-line : goal.invariant-loop-line
invariant-loop-line l = record {
  session : read_on l.draft l.n (lines_of l.rest) ≡ session_of l.text;
  fits : l.n + length l.rest ≤ 2 ^ 32;
  number : (l.n + length l.rest < 2 ^ 32) ⊎ ((l.draft.place ≡ Version) × (l.n ≡ 1));
}

abbrev pub decreases-loop-line : goal.decreases-loop-line
decreases-loop-line l = length l.rest
