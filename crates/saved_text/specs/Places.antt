-- What may come at a place between the lines of a saved machine's text.
use Rattle.std.specs.Prelude.{ℕ, Bool, true, false, Option, Some, None}
use Rattle.saved_text.specs.declared.drafts.Place.{Place}
use Rattle.saved_text.specs.declared.drafts.Place.TheVariants.{File as AtFile, Stream as AtStream, Pipe as AtPipe, Key as AtKey, Word as AtWord}

-- files, and their bytes
abbrev pub has_files : Place → Bool
has_files AtFile = true
has_files _ = false

-- the least number of a stream that may come, if one may
abbrev pub stream_floor : Place → Option ℕ
stream_floor AtFile = Some 0
stream_floor (AtStream k) = Some k
stream_floor _ = None

-- the least number of a pipe that may come, if one may
abbrev pub pipe_floor : Place → Option ℕ
pipe_floor AtFile = Some 0
pipe_floor (AtStream k) = Some 0
pipe_floor (AtPipe k) = Some k
pipe_floor _ = None

-- keys
abbrev pub has_keys : Place → Bool
has_keys AtFile = true
has_keys (AtStream k) = true
has_keys (AtPipe k) = true
has_keys AtKey = true
has_keys _ = false

-- the least address of a word that may come, if one may
abbrev pub word_floor : Place → Option ℕ
word_floor AtFile = Some 0
word_floor (AtStream k) = Some 0
word_floor (AtPipe k) = Some 0
word_floor AtKey = Some 0
word_floor (AtWord a) = Some a
word_floor _ = None

-- the last line
abbrev pub has_go : Place → Bool
has_go AtFile = true
has_go (AtStream k) = true
has_go (AtPipe k) = true
has_go AtKey = true
has_go (AtWord a) = true
has_go _ = false
