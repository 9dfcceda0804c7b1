use Rattle.std.proofs.Common.{◌≤◌, ◌^◌, arith}
use Rattle.std.proofs.Math.Nat.{pow-le-pow_right}
use Rattle.assembly_errors.proofs.number_words.hex_number.Goals as goal

pub overflow_mul-value : goal.overflow_mul-value
overflow_mul-value c =
    let few : c.loop-byte.byte-index ≤ 8 = omega arith in
    let low : 16 ^ c.loop-byte.byte-index ≤ 16 ^ 8 = pow-le-pow_right (omega arith) few in
    omega arith

pub overflow_add-value : goal.overflow_add-value
overflow_add-value c =
    let few : c.loop-byte.byte-index ≤ 8 = omega arith in
    let low : 16 ^ c.loop-byte.byte-index ≤ 16 ^ 8 = pow-le-pow_right (omega arith) few in
    omega arith
