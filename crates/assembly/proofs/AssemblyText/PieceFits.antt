-- What a line gives: where it ends, how many pairs it has, and what it relocates.
use Rattle.std.proofs.Common.{◌≡◌, ℕ, ◌+◌, ◌-◌, ◌*◌, ◌/◌, ◌≤◌, Result, Ok, List, [], ◌∷◌, ◌++◌, length, refl, subst, arith, add-zero, length-append}
use Rattle.std.specs.Prelude.{Some, None, option_to_list}
use Rattle.std.specs.List.{AllByRecursion}
use Rattle.std.proofs.lemmas.List.{length-replicate}
use Rattle.std.specs.Int.{w16, w32, to_le_bytes}
use Rattle.assembly.specs.AssemblyText.Labels.{Table}
use Rattle.assembly.specs.AssemblyText.Pieces.{address, distance, found, global_pair, half_distance, indirect, piece_of, plain, relative, reserved, word_address, zeros}
use Rattle.assembly.specs.AssemblyText.Places.{end_of, pairs_of, rounded_up}
use Rattle.module_text.specs.TextReader.Steps.{◌>>=◌}
use Rattle.assembly.specs.declared.assembly_text.errors.LineError.{LineError}
use Rattle.assembly.specs.declared.assembly_text.pieces.Piece.{Piece}
use Rattle.assembly.specs.declared.assembly_text.places.Place.{Place}
use Rattle.assembly.specs.declared.assembly_text.statements.Boundary.{Boundary}
use Rattle.assembly.specs.declared.assembly_text.statements.Boundary.TheVariants.{Half, Word}
use Rattle.assembly.specs.declared.assembly_text.statements.Statement.{Statement}
use Rattle.assembly.specs.declared.assembly_text.statements.Statement.TheVariants.{Fixed, Relative, Indirect, Reserve, Address, Align, Global}
use Rattle.module_text.proofs.TextReader.StepLemmas.{bind-ok}

-- an offset, and then the next on a boundary
pub later : (boundary : Boundary) (offset : ℕ) → offset ≤ rounded_up boundary offset
later Half offset = omega arith
later Word offset = omega arith

-- what a piece is, beside its bytes: it ends there, has so many pairs, and what it relocates lies between
pub record PieceFits (offset end pairs : ℕ) (p : Piece) : Type 0 where
  pub ends : offset + length p.bytes ≡ end
  pub counts : length (option_to_list p.pair) ≡ pairs
  pub inside : AllByRecursion (λ r. 4 * r + 4 ≤ end) (option_to_list p.relocation)
  pub behind : AllByRecursion (λ r. offset ≤ 4 * r) (option_to_list p.relocation)
  pub few : 4 * length (option_to_list p.relocation) ≤ length p.bytes

abbrev ok_piece : Piece → Result Piece LineError
ok_piece p = Ok p

-- what was made is the piece
made : (offset end pairs : ℕ) (p q : Piece) → ok_piece p ≡ Ok q → PieceFits offset end pairs p → PieceFits offset end pairs q
made offset end pairs p q e h = let same : p ≡ q = cc e in subst (λ (r : Piece). PieceFits offset end pairs r) same h

plain_fits : (offset end : ℕ) (bytes : List ℕ) → offset + length bytes ≡ end → PieceFits offset end 0 (plain bytes)
plain_fits offset end bytes h = record { ends = h; counts = refl; inside = tt; behind = tt; few = omega arith }

-- zero bytes, and then bytes of their own
padded : (from to : ℕ) (bytes : List ℕ) → from ≤ to → from + length (zeros from to ++ bytes) ≡ to + length bytes
padded from to bytes h = simp (length-append) (omega (arith, length-replicate {A = ℕ} (to - from) 0))

relative_fits : (table : Table) (offset byte : ℕ) (label : List ℕ) (p : Piece) → relative table offset byte label ≡ Ok p → PieceFits offset (offset + 2) 0 p
relative_fits table offset byte label p e =
    let a = bind-ok (found table label) (λ place. distance 128 (offset + 1) place.offset >>= λ operand. Ok (plain (byte ∷ operand ∷ []))) p e in
    let b = bind-ok (distance 128 (offset + 1) a.0.offset) (λ operand. Ok (plain (byte ∷ operand ∷ []))) p a.2 in
    made offset (offset + 2) 0 (plain (byte ∷ b.0 ∷ [])) p b.2 (plain_fits offset (offset + 2) (byte ∷ b.0 ∷ []) refl)

indirect_fits : (table : Table) (offset byte : ℕ) (label : List ℕ) (p : Piece) → indirect table offset byte label ≡ Ok p → PieceFits offset (offset + 2) 0 p
indirect_fits table offset byte label p e =
    let a = bind-ok (found table label) (λ place. half_distance (offset + 1) place >>= λ operand. Ok (plain (byte ∷ operand ∷ []))) p e in
    let b = bind-ok (half_distance (offset + 1) a.0) (λ operand. Ok (plain (byte ∷ operand ∷ []))) p a.2 in
    made offset (offset + 2) 0 (plain (byte ∷ b.0 ∷ [])) p b.2 (plain_fits offset (offset + 2) (byte ∷ b.0 ∷ []) refl)

reserved_fits : (table : Table) (offset : ℕ) (label : List ℕ) (p : Piece) → reserved table offset label ≡ Ok p → PieceFits offset (rounded_up Half offset + 2) 0 p
reserved_fits table offset label p e =
    let begin = rounded_up Half offset in
    let a = bind-ok (found table label) (λ place. distance 32768 begin place.offset >>= λ half. Ok (plain (zeros offset begin ++ to_le_bytes w16 half))) p e in
    let b = bind-ok (distance 32768 begin a.0.offset) (λ half. Ok (plain (zeros offset begin ++ to_le_bytes w16 half))) p a.2 in
    let bytes = zeros offset begin ++ to_le_bytes w16 b.0 in
    made offset (begin + 2) 0 (plain bytes) p b.2 (plain_fits offset (begin + 2) bytes (padded offset begin (to_le_bytes w16 b.0) (later Half offset)))

-- a word to be relocated
abbrev address_piece : ℕ → ℕ → Piece
address_piece offset word = record {
  bytes = zeros offset (rounded_up Word offset) ++ to_le_bytes w32 word;
  relocation = Some (rounded_up Word offset / 4);
  pair = None;
}

address_fits : (table : Table) (offset : ℕ) (label : List ℕ) (p : Piece) → address table offset label ≡ Ok p → PieceFits offset (rounded_up Word offset + 4) 0 p
address_fits table offset label p e =
    let begin = rounded_up Word offset in
    let a = bind-ok (found table label) (λ place. word_address place >>= λ word. Ok (address_piece offset word)) p e in
    let b = bind-ok (word_address a.0) (λ word. Ok (address_piece offset word)) p a.2 in
    let ends = padded offset begin (to_le_bytes w32 b.0) (later Word offset) in
    made offset (begin + 4) 0 (address_piece offset b.0) p b.2 (record {
      ends = ends;
      counts = refl;
      inside = (omega arith, tt);
      behind = (omega arith, tt);
      few = let four : length (to_le_bytes w32 b.0) ≡ 4 = refl in omega (arith, four, length-append (zeros offset begin) (to_le_bytes w32 b.0));
    })

-- a global's number and its value
abbrev global_piece : ℕ → Place → Piece
global_piece number place = record { bytes = []; relocation = None; pair = Some (number, place.offset) }

global_fits : (table : Table) (offset number : ℕ) (label : List ℕ) (p : Piece) → global_pair table number label ≡ Ok p → PieceFits offset offset 1 p
global_fits table offset number label p e =
    let a = bind-ok (found table label) (λ place. Ok (global_piece number place)) p e in
    made offset offset 1 (global_piece number a.0) p a.2 (record { ends = add-zero offset; counts = refl; inside = tt; behind = tt; few = omega arith })

pub piece_fits : (table : Table) (offset : ℕ) (s : Statement) (p : Piece) → piece_of table offset s ≡ Ok p → PieceFits offset (end_of s offset) (pairs_of s) p
unfolding piece_of
piece_fits table offset (Fixed bytes) p e = made offset (offset + length bytes) 0 (plain bytes) p e (plain_fits offset (offset + length bytes) bytes refl)
piece_fits table offset (Relative byte label) p e = relative_fits table offset byte label p e
piece_fits table offset (Indirect byte label) p e = indirect_fits table offset byte label p e
piece_fits table offset (Reserve label) p e = reserved_fits table offset label p e
piece_fits table offset (Address label) p e = address_fits table offset label p e
piece_fits table offset (Align boundary) p e =
    let end = rounded_up boundary offset in
    made offset end 0 (plain (zeros offset end)) p e (plain_fits offset end (zeros offset end) (omega (arith, later boundary offset, length-replicate {A = ℕ} (end - offset) 0)))
piece_fits table offset (Global number label) p e = global_fits table offset number label p e
