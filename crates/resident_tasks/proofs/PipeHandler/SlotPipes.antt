-- Pipes that are kept in slots.
use Rattle.std.proofs.Common.{◌≡◌, ℕ, zero, suc, ◌+◌, ◌<◌, Bool, true, false, cond, not, ltb, ◌||◌, Option, Some, None, List, [], ◌∷◌, length, get_or, set, refl, sym, ap, subst, ◌∙◌, arith, inl, inr}
use Rattle.std.specs.List.{list_any, position, position_or_len}
use Rattle.std.specs.Option.{is_none, is_some, option_or}
use Rattle.std.proofs.lemmas.Bool.{cases_eq, true≢false}
use Rattle.std.proofs.lemmas.List.{get_or-map, get_or-set_other, get_or-set_same, length-map, map-set}
use Rattle.std.proofs.lemmas.List.Elements.{All-set}
use Rattle.circular_buffer.specs.Buffer.{buffer}
use Rattle.kernel_model.specs.KernelRecord.Kernel.{Pipe}
use Rattle.kernel_model.specs.KernelRecord.Pipes.{ArePipes, pipe_at}
use Rattle.resident_tasks.specs.PipeHandler.Ends.{is_named, is_open, place_for}
use Rattle.resident_tasks.specs.PipeHandler.PipeCalls.{held_by, holding}
use Rattle.resident_tasks.specs.PipeHandler.Slots.{AreSlots, IsRing, pipe_in, pipes_in, told}
use Rattle.resident_tasks.specs.declared.pipe_handler.slots.Slot.{Slot}

-- the pipe at a place
pub at-slot : (slots : List Slot) (i : ℕ) (s : Slot) → i < length slots → s ≡ get_or slots i s → pipe_at (pipes_in slots) i ≡ pipe_in s
at-slot slots i s inside is = get_or-map pipe_in slots i s None inside ∙ ap pipe_in (sym is)

pub ring-at : (slots : List Slot) (i : ℕ) (s : Slot) → AreSlots slots → i < length slots → s ≡ get_or slots i s → IsRing s.held
ring-at slots i s a inside is = subst (λ (z : Slot). IsRing z.held) (sym is) (a.rings i s inside)

-- one slot changes
pub set-slot : (slots : List Slot) (i : ℕ) (s : Slot) → pipes_in (set slots i s) ≡ set (pipes_in slots) i (pipe_in s)
set-slot slots i s = map-set pipe_in slots i s

pub slots-set : (slots : List Slot) (i : ℕ) (s : Slot) (o : Option Pipe) → AreSlots slots → IsRing s.held → pipe_in s ≡ o → ArePipes (set (pipes_in slots) i o) → AreSlots (set slots i s)
slots-set slots i s o a ring is kept =
    record {
      rings = All-set (λ z. IsRing z.held) slots i s ring a.rings;
      pipes = subst ArePipes (sym (set-slot slots i s ∙ ap (set (pipes_in slots) i) is)) kept;
    }

-- ---- other bytes

pub hold-slot : (s : Slot) (bytes : List ℕ) (capacity : ℕ) → pipe_in (record s { held = buffer bytes capacity }) ≡ holding bytes (pipe_in s)
hold-slot s bytes capacity = on (s.reading || s.writing)
  where
    on : (b : Bool) → cond b (Some (told (record s { held = buffer bytes capacity }))) None ≡ holding bytes (cond b (Some (told s)) None)
    on true = refl
    on false = refl

-- where an end is open the pipe is there
pub held-slot : (s : Slot) (writes : Bool) → is_open writes (pipe_in s) ≡ true → held_by (pipe_in s) ≡ s.held.items
held-slot s writes e = on (s.reading || s.writing) e
  where
    on : (b : Bool) → is_open writes (cond b (Some (told s)) None) ≡ true → held_by (cond b (Some (told s)) None) ≡ s.held.items
    on true e = refl
    on false e = absurd (true≢false (sym e))

-- ---- places

first-in : (g : Option Pipe → Bool) (slots : List Slot) → position_or_len (λ s. g (pipe_in s)) slots ≡ position_or_len g (pipes_in slots)
first-in g [] = refl
first-in g (s ∷ slots) = ap (λ n. cond (not (g (pipe_in s))) (1 + n) 0) (first-in g slots)

pub position-in : (g : Option Pipe → Bool) (slots : List Slot) → position (λ s. g (pipe_in s)) slots ≡ position g (pipes_in slots)
position-in g slots =
    ap (λ n. cond (ltb n (length slots)) (Some n) None) (first-in g slots)
    ∙ ap (λ l. cond (ltb (position_or_len g (pipes_in slots)) l) (Some (position_or_len g (pipes_in slots))) None) (sym (length-map slots pipe_in))

pub any-in : (g : Option Pipe → Bool) (slots : List Slot) → list_any (λ s. g (pipe_in s)) slots ≡ list_any g (pipes_in slots)
any-in g [] = refl
any-in g (s ∷ slots) = ap (λ b. g (pipe_in s) || b) (any-in g slots)

pub place-named : (slots : List Slot) (name : List ℕ) (i : ℕ) → position (λ s. is_named name (pipe_in s)) slots ≡ Some i → place_for (pipes_in slots) name ≡ Some i
place-named slots name i e = ap (λ o. option_or o (position is_none (pipes_in slots))) (sym (position-in (is_named name) slots) ∙ e)

pub place-free : (slots : List Slot) (name : List ℕ) → position (λ s. is_named name (pipe_in s)) slots ≡ None → place_for (pipes_in slots) name ≡ position (λ s. not (is_some (pipe_in s))) slots
place-free slots name e = ap (λ o. option_or o (position is_none (pipes_in slots))) (sym (position-in (is_named name) slots) ∙ e) ∙ sym (position-in is_none slots)

-- ---- copying

-- lists of the same length that have the same in each place are the same
pub same-lists : {X : Type 0} (xs ys : List X) → length xs ≡ length ys → ((k : ℕ) (d : X) → k < length xs → get_or xs k d ≡ get_or ys k d) → xs ≡ ys
same-lists [] [] long each = refl
same-lists [] (y ∷ ys) long each = absurd (omega (arith, long))
same-lists (x ∷ xs) [] long each = absurd (omega (arith, long))
same-lists (x ∷ xs) (y ∷ ys) long each =
    ap (λ z. z ∷ xs) (each zero x (omega arith)) ∙ ap (λ zs. y ∷ zs) (same-lists xs ys (omega (arith, long)) (λ k d h. each (suc k) d (omega (arith, h))))

pub same-more : {X : Type 0} (xs ys : List X) (i : ℕ) (x : X) → i < length xs → ((d : X) → x ≡ get_or ys i d) → ((k : ℕ) (d : X) → k < i → get_or xs k d ≡ get_or ys k d)
    → (k : ℕ) (d : X) → k < i + 1 → get_or (set xs i x) k d ≡ get_or ys k d
same-more xs ys i x inside is same k d h =
    elim (cases_eq k i) [
      | inl at ↦ ap (λ n. get_or (set xs i x) n d) at ∙ (get_or-set_same xs i x d inside ∙ (is d ∙ ap (λ n. get_or ys n d) (sym at)))
      | inr ne ↦ get_or-set_other xs i k x d ne ∙ same k d (omega (arith, h, ne))
    ]
