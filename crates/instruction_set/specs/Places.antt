-- The addresses that an instruction writes, if it is executed: told before it is, from its effect.
use Rattle.std.specs.Prelude.{◌≢◌, ℕ, ◌/◌, List, [], ◌∷◌, Option, Some, None, slice_get, slice_index}
use Rattle.std.specs.List.{Contains}
use Rattle.word_store.specs.Arithmetic.{add}
use Rattle.word_store.specs.declared.registers.Regs.{Regs}
use Rattle.instruction_set.specs.declared.instruction_table.effects.Effect.{Effect}
use Rattle.instruction_set.specs.declared.instruction_table.effects.Effect.TheVariants.{StoreP, StoreG, StoreG0, StorePk, StoreTarget, St, StP, Pbyt, Xpbyt, Call, CallG}
use Rattle.instruction_set.specs.Change.{byte_place}
use Rattle.instruction_set.specs.declared.places.Places.{Places}
use Rattle.instruction_set.specs.declared.places.Places.TheVariants.{Nowhere, Word, Frame}

-- the addresses of these places
abbrev pub addresses : Places → List ℕ
addresses Nowhere = []
addresses (Word a) = a ∷ []
addresses (Frame a) = a ∷ add a 1 ∷ add a 2 ∷ add a 3 ∷ []

-- the words are the same but at these addresses
abbrev pub DifferAt : List ℕ → List ℕ → List ℕ → Type 0
DifferAt at old new = (a : ℕ) → slice_index old a ≢ slice_index new a → Contains at a

-- word k from where a pointer points, if there is one
abbrev pub place_from : Option ℕ → ℕ → Places
place_from None k = Nowhere
place_from (Some x) k = Word (add x k)

-- one line an effect that writes; n is the operand, and t the target
abbrev pub places_by : Effect → List ℕ → Regs → ℕ → ℕ → Places
places_by StoreP words r n t = Word (add r.p n)
places_by StoreG words r n t = Word (add r.g n)
places_by StoreG0 words r n t = place_from (slice_get words (add r.g n)) 0
places_by (StorePk k) words r n t = place_from (slice_get words (add r.p n)) k
places_by StoreTarget words r n t = Word (t / 4)
places_by St words r n t = Word (add r.a n)
places_by StP words r n t = place_from (slice_get words (add r.p n)) r.a
places_by Pbyt words r n t = Word (byte_place r.b r.a / 4)
places_by Xpbyt words r n t = Word (byte_place r.a r.b / 4)
places_by Call words r n t = Frame (add r.p n)
places_by (CallG k) words r n t = Frame (add r.p k)
places_by _ words r n t = Nowhere
