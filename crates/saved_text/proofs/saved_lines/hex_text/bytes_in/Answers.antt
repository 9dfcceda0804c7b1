use Rattle.saved_text.proofs.SavedLines.HexTexts.{decoded_into}
use Rattle.saved_text.proofs.saved_lines.hex_text.bytes_in.Goals as goal

pub unwrap-requires : goal.unwrap-requires
unwrap-requires g c = (decoded_into c.args.digits.now g.row.N _ _ c.requires.hex c.requires.twice c.decode_to_slice.ensures.value).0

pub returns : goal.returns
returns g c = (decoded_into c.args.digits.now g.row.N _ _ c.requires.hex c.requires.twice c.decode_to_slice.ensures.value).1
