-- The statements that the code makes, as the definitions see them.
use Rattle.std.specs.Prelude.{IsTrue}
use Rattle.saved_text.specs.SavedLines.HexText.{bytes_of, is_hex}
use Rattle.saved_text.specs.SavedLines.Statements.{Statement as Stated, File, Bytes, Stream, Pipe, Key, Word, Go}
use Rattle.saved_text.specs.declared.saved_lines.statements.Statement.{Statement}
use Rattle.saved_text.specs.declared.saved_lines.statements.Statement.TheVariants.{File as FileSlice, Bytes as BytesSlice, Stream as StreamSlice, Pipe as PipeSlices, Key as KeyByte, Word as WordAt, Go as GoSteps}

-- each statement, with its slices of the line as bytes
abbrev pub seen : Statement → Stated
seen (FileSlice name) = File name.now
seen (BytesSlice digits) = Bytes (bytes_of digits.now)
seen (StreamSlice k mode position name) = Stream k mode position name.now
seen (PipeSlices k reading writing written name digits) = Pipe k reading writing written name.now (bytes_of digits.now)
seen (KeyByte step byte) = Key step byte
seen (WordAt address word) = Word address word
seen (GoSteps steps) = Go steps

-- the digits of a statement are hex
abbrev pub HasHex : Statement → Type 0
HasHex (BytesSlice digits) = IsTrue (is_hex digits.now)
HasHex (PipeSlices k reading writing written name digits) = IsTrue (is_hex digits.now)
HasHex _ = Unit {0}
