-- A byte of a word, by a shift.
use Rattle.std.proofs.Common.{◌≡◌, ℕ, zero, suc, ◌<◌, ◌*◌, ◌/◌, ◌%◌, ◌^◌, refl, arith}
use Rattle.word_store.specs.Bytes.{byte_of}

pub byte_of_by_shift : (w i : ℕ) → i < 4 → byte_of w i ≡ w / 2 ^ (8 * i) % 256
byte_of_by_shift w zero h = grind arith
byte_of_by_shift w (suc zero) h = refl
byte_of_by_shift w (suc (suc zero)) h = refl
byte_of_by_shift w (suc (suc (suc zero))) h = refl
byte_of_by_shift w (suc (suc (suc (suc i)))) h = omega arith
