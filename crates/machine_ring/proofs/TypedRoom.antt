-- Whether there is room for a byte that is typed ahead.
use Rattle.std.proofs.Common.{◌≡◌, ℕ, Bool, true, false, List, length, refl, sym, ap, ◌∙◌, arith}
use Rattle.std.specs.Prelude.{is_none, nat_lt, slice_get}
use Rattle.std.proofs.lemmas.Bool.{ltb-false, ltb-true}
use Rattle.std.proofs.lemmas.Option.{slice_get-get_or, slice_get_past}
use Rattle.kernel_machine.specs.declared.running_machine.parts.Parts.{Parts as KernelParts}
use Rattle.tripos_machine.specs.State.{RepresentsFullState, State}
use Rattle.tripos_machine.specs.State.State.{Bare, Full}
use Rattle.machine_ring.specs.Rounds.{has_room}

pub room-is : (p : KernelParts) (s : State) → RepresentsFullState p s → is_none (slice_get p.tty 127) ≡ has_room s
room-is p (Bare m) represents = absurd represents
room-is p (Full k) represents = ap (λ l. is_none (slice_get l 127)) represents.type_ahead ∙ past k.type_ahead
  where
    past : (l : List ℕ) → is_none (slice_get l 127) ≡ nat_lt (length l) 128
    past l = on (nat_lt (length l) 128) refl
      where
        on : (b : Bool) → nat_lt (length l) 128 ≡ b → is_none (slice_get l 127) ≡ nat_lt (length l) 128
        on true is =
            let less = ltb-true (length l) 128 is in
            ap is_none (slice_get_past l 127 (omega arith)) ∙ sym is
        on false is =
            let more = ltb-false (length l) 128 is in
            ap is_none (slice_get-get_or l 127 0 (omega arith)) ∙ sym is
