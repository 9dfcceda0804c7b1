-- The size of a store that a session may name.
use Rattle.std.proofs.Common.{◌≡◌, ℕ, ◌%◌, ◌≤◌, true, eqb, ◌&&◌}
use Rattle.std.proofs.lemmas.Bool.{and_parts, eqb-true, leb-true}
use Rattle.std.specs.Prelude.{IsTrue, nat_le}
use Rattle.kernel_model.specs.KernelRecord.Ranges.{is_store_size, most_words}

module _ (v n : ℕ) (size : IsTrue (is_store_size v n)) where
  parts : ((nat_le 1024 n && nat_le n (most_words v)) ≡ true) × (eqb (n % 2) 0 ≡ true)
  parts = and_parts (nat_le 1024 n && nat_le n (most_words v)) (eqb (n % 2) 0) size

  pub size-low : 1024 ≤ n
  size-low = leb-true 1024 n (and_parts (nat_le 1024 n) (nat_le n (most_words v)) parts.0).0

  pub size-even : n % 2 ≡ 0
  size-even = eqb-true (n % 2) 0 parts.1
