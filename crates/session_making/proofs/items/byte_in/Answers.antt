use Rattle.std.proofs.Common.{Err, refl, sym}
use Rattle.session_text.proofs.HexByte.{one_byte-err}
use Rattle.session_making.proofs.items.byte_in.Goals as goal

pub returns-in-Err : goal.returns-in-Err
returns-in-Err c =
    sym (one_byte-err c.args.digits.now (Err c.in-Err.field-0) c.decode_to_slice.new.out c.in-Err.field-0 c.in-Err.ensures.value refl)
