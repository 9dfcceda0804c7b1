-- What is shown of the table by trying each of its entries.
use Rattle.std.proofs.Common.{◌≡◌, ◌∙◌, sym, ap, zero-add, ℕ, zero, suc, ◌<◌, ◌≤◌, ◌/◌, ◌%◌, Bool, true, ◌&&◌, inl, inr, List, Option, Some, None, IfSome, map, get_or, arith, refl}
use Rattle.std.proofs.lemmas.List.FromFn.{get_or-map-range_with_len}
use Rattle.std.specs.List.{range_with_len}
use Rattle.std.specs.Option.{option_and_then, option_map}
use Rattle.std.proofs.lemmas.Bool.{cases_lt}
use Rattle.std.proofs.lemmas.Bool.Decides.{Decides-below_and}
use Rattle.std.proofs.lemmas.Option.{slice_get_past, MatchOption-from_none}
use Rattle.instruction_set.specs.InstructionTable.Table.{Entry, at, columns, entry}

-- whether each number below n passes
unfoldable pub passes_below : (ℕ → Bool) → ℕ → Bool
passes_below test zero = true
passes_below test (suc n) = test n && passes_below test n

-- and then each passes
pub passes_at : (test : ℕ → Bool) (n k : ℕ) → passes_below test n ≡ true → k < n → test k ≡ true
unfolding passes_below
passes_at test n k h = (Decides-below_and test (λ k. test k ≡ true) (passes_below test) (λ k. (λ p. p, λ p. p)) refl (λ _. refl) n).0 h k

-- no byte past 255 has an entry
pub entry_past : (byte : ℕ) → 256 ≤ byte → entry byte ≡ None
unfolding entry
entry_past byte h = let past : 8 ≤ byte / 32 = omega arith in ap (option_and_then (λ column. at column (byte % 32))) (slice_get_past columns (byte / 32) past)

-- what two functions of a byte give, where they give the same for all 256
pub same_at : {X : Type 0} (f g : ℕ → Option X) → map f (range_with_len 0 256) ≡ map g (range_with_len 0 256) → (byte : ℕ) → byte < 256 → f byte ≡ g byte
same_at {X = X} f g all byte h =
    sym (get_or-map-range_with_len f 0 256 byte byte None h (zero-add byte)) ∙
    ap (λ (l : List (Option X)). get_or l byte None) all ∙
    get_or-map-range_with_len g 0 256 byte byte None h (zero-add byte)

-- two functions of an entry, where they agree on all entries
pub agrees_at : {X : Type 0} (f g : Entry → X) → map (λ byte. option_map f (entry byte)) (range_with_len 0 256) ≡ map (λ byte. option_map g (entry byte)) (range_with_len 0 256) → (byte : ℕ) → IfSome (entry byte) (λ e. f e ≡ g e)
agrees_at f g all byte =
    elim (cases_lt byte 256) [
      | inl lt ↦ on_entry (entry byte) (same_at (λ b. option_map f (entry b)) (λ b. option_map g (entry b)) all byte lt)
      | inr past ↦ MatchOption-from_none (entry byte) (λ e. f e ≡ g e) (entry_past byte past)
    ]
  where
    on_entry : (o : Option Entry) → option_map f o ≡ option_map g o → IfSome o (λ e. f e ≡ g e)
    on_entry None h = tt
    on_entry (Some e) h = cc
