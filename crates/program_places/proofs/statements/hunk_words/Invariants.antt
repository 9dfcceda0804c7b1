use Rattle.std.proofs.Common.{◌≡◌, length}
use Rattle.session_text.specs.Statements.{fields}
use Rattle.program_places.specs.Statements.{words_of}
use Rattle.program_places.proofs.HunkWords.{after_words}
use Rattle.program_places.proofs.statements.hunk_words.Given as goal

abbrev pub invariant-loop-field : goal.invariant-loop-field
invariant-loop-field l = after_words l.n l.words (fields l.rest) ≡ words_of l.n (fields l.text)

abbrev pub decreases-loop-field : goal.decreases-loop-field
decreases-loop-field l = length l.rest
