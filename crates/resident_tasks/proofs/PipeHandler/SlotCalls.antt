-- What the requests come to, for pipes that are kept in slots.
use Rattle.std.proofs.Common.{Bool, List, None, Option, Some, ap, arith, cond, drop, eqb, false, get_or, leb, length, length-append, ltb, not, refl, set, subst, sym, take, true, ℕ, [], ◌&&◌, ◌++◌, ◌-◌, ◌<◌, ◌||◌, ◌∙◌, ◌∷◌, ◌≡◌, ◌≤◌}
use Rattle.std.specs.List.{list_any}
use Rattle.std.specs.Option.{is_none, is_some, unwrap_or}
use Rattle.std.proofs.lemmas.Bool.{and_parts, le-leb, leb-true, ne_eqb, true≢false, not-true}
use Rattle.std.proofs.lemmas.List.{length-drop, length-take, length-map}
use Rattle.circular_buffer.specs.Buffer.{buffer}
use Rattle.kernel_model.specs.KernelRecord.Kernel.{Pipe}
use Rattle.kernel_model.specs.KernelRecord.Pipes.{most_held, most_pipes, pipe_at}
use Rattle.ram_disc.specs.Name.{IsName}
use Rattle.resident_tasks.specs.PipeHandler.Ends.{is_end, is_named, is_open, names_writer, opened, pipe_of, place_for, place_of, without_end}
use Rattle.resident_tasks.specs.PipeHandler.PipeCalls.{Outcome, accepted, after_close, after_open, after_read, after_restore, after_write, are_ends, can_restore, has_more, held_by, holding, pipe_in_place, pipe_numbered, pipe_with, refused, unless_refused, with_end}
use Rattle.resident_tasks.specs.PipeHandler.Slots.{AreSlots, IsPlaceOf, IsRing, pipe_in, pipes_in}
use Rattle.resident_tasks.specs.declared.pipe_handler.slots.Slot.{Slot}
use Rattle.resident_tasks.proofs.PipeHandler.KeptPipes.{close-kept, hold-kept, open-kept, place-for, restore-kept}
use Rattle.resident_tasks.proofs.PipeHandler.SlotPipes.{any-in, at-slot, held-slot, hold-slot, ring-at, set-slot, slots-set}

-- a handle and the pipe that it names
module _ (slots : List Slot) (h : ℕ) (w : Bool) (i : ℕ) (x : IsPlaceOf slots h w i) where
  abbrev ps : List (Option Pipe)
  ps = pipes_in slots

  pub pipe-is : pipe_of ps h ≡ pipe_at ps i
  pipe-is = ap (λ b. cond b None (pipe_at ps (place_of h))) (ne_eqb h 0 x.number) ∙ ap (pipe_at ps) (sym x.is)

  pub end-is : is_end ps h w ≡ true
  end-is = ap (λ b. b && is_open w (pipe_of ps h)) x.names ∙ (ap (is_open w) pipe-is ∙ x.open_there)

  pub place-inside : AreSlots slots → i < length (pipes_in slots)
  place-inside a = omega (arith, x.inside, length-map slots pipe_in)

  -- the slot there
  module _ (s : Slot) (at : s ≡ get_or slots i s) where
    pub slot-is : pipe_at ps i ≡ pipe_in s
    slot-is = at-slot slots i s x.inside at

    pub slot-open : is_open w (pipe_in s) ≡ true
    slot-open = ap (is_open w) (sym slot-is) ∙ x.open_there

    pub slot-held : held_by (pipe_at ps i) ≡ s.held.items
    slot-held = ap held_by slot-is ∙ held-slot s w slot-open

    -- it holds other bytes then
    pub holds-more : (t : Slot) (bytes : List ℕ) → t ≡ record s { held = buffer bytes s.held.capacity } → pipe_in t ≡ holding bytes (pipe_at ps i)
    holds-more t bytes is = ap pipe_in is ∙ (hold-slot s bytes s.held.capacity ∙ ap (holding bytes) (sym slot-is))

    pub holds-kept : (t : Slot) (bytes : List ℕ) → t ≡ record s { held = buffer bytes s.held.capacity } → AreSlots slots → length bytes ≤ most_held → AreSlots (set slots i t)
    holds-kept t bytes is a few =
        slots-set slots i t (holding bytes (pipe_at ps i)) a
        (record { room = ap (λ (z : Slot). z.held.capacity) is ∙ (ring-at slots i s a x.inside at).room; most = omega (arith, few, ap (λ (z : Slot). length z.held.items) is) })
        (holds-more t bytes is) (hold-kept ps i bytes a.pipes (place-inside a) few)

-- ---- reading

module _ (slots : List Slot) (h i : ℕ) (x : IsPlaceOf slots h false i) (n : ℕ) where
  -- a reading, by its first and last tests, its pipe with the bytes that it holds, and the pipe's place
  abbrev read-of : Bool → Bool → Option Pipe → List ℕ → ℕ → Outcome
  read-of e m o held j =
      unless_refused (pipes_in slots) ((e, 46) ∷ (true, 48) ∷ (m, 70) ∷ [])
      (accepted (length (take n held)) (take n held) (set (pipes_in slots) j (holding (drop n held) o)))

  pub read-done : (s t r : Slot) → s ≡ get_or slots i s → r ≡ get_or slots i r → has_more (pipe_in r) ≡ true → t ≡ record s { held = buffer (drop n s.held.items) s.held.capacity }
      → after_read (pipes_in slots) h true n ≡ accepted (length (take n s.held.items)) (take n s.held.items) (pipes_in (set slots i t))
  read-done s t r at at' more is =
      ap (λ e. read-of e (has_more (pipe_of (pipes_in slots) h)) (pipe_of (pipes_in slots) h) (held_by (pipe_of (pipes_in slots) h)) (place_of h)) (end-is slots h false i x)
      ∙ ap (λ o. read-of true (has_more o) o (held_by o) (place_of h)) (pipe-is slots h false i x)
      ∙ ap (λ j. read-of true (has_more (pipe_at (pipes_in slots) i)) (pipe_at (pipes_in slots) i) (held_by (pipe_at (pipes_in slots) i)) j) (sym x.is)
      ∙ ap (λ m. read-of true m (pipe_at (pipes_in slots) i) (held_by (pipe_at (pipes_in slots) i)) i) (ap has_more (slot-is slots h false i x r at') ∙ more)
      ∙ ap (λ held. read-of true true (pipe_at (pipes_in slots) i) held i) (slot-held slots h false i x s at)
      ∙ ap (λ ps. accepted (length (take n s.held.items)) (take n s.held.items) ps)
      (ap (set (pipes_in slots) i) (sym (holds-more slots h false i x s at t (drop n s.held.items) is)) ∙ sym (set-slot slots i t))

  pub read-kept : (s t : Slot) → s ≡ get_or slots i s → t ≡ record s { held = buffer (drop n s.held.items) s.held.capacity } → AreSlots slots → AreSlots (set slots i t)
  read-kept s t at is a = holds-kept slots h false i x s at t (drop n s.held.items) is a (omega (arith, length-drop n s.held.items, (ring-at slots i s a x.inside at).most))

-- ---- writing

module _ (slots : List Slot) (h i : ℕ) (x : IsPlaceOf slots h true i) (bytes : List ℕ) where
  -- the bytes that have room behind these
  abbrev more : List ℕ → List ℕ
  more held = take (most_held - length held) bytes

  abbrev write-of : Bool → Bool → Option Pipe → List ℕ → ℕ → Outcome
  write-of e m o held j =
      unless_refused (pipes_in slots) ((e, 46) ∷ (true, 48) ∷ (m, 73) ∷ [])
      (accepted (length (more held)) [] (set (pipes_in slots) j (holding (held ++ more held) o)))

  pub write-done : (s t r : Slot) → s ≡ get_or slots i s → r ≡ get_or slots i r → ltb (length r.held.items) most_held ≡ true
      → t ≡ record s { held = buffer (s.held.items ++ more s.held.items) s.held.capacity }
      → after_write (pipes_in slots) h true bytes ≡ accepted (length (more s.held.items)) [] (pipes_in (set slots i t))
  write-done s t r at at' room is =
      ap (λ e. write-of e (ltb (length (held_by (pipe_of (pipes_in slots) h))) most_held) (pipe_of (pipes_in slots) h) (held_by (pipe_of (pipes_in slots) h)) (place_of h))
      (end-is slots h true i x)
      ∙ ap (λ o. write-of true (ltb (length (held_by o)) most_held) o (held_by o) (place_of h)) (pipe-is slots h true i x)
      ∙ ap (λ j. write-of true (ltb (length (held_by (pipe_at (pipes_in slots) i))) most_held) (pipe_at (pipes_in slots) i) (held_by (pipe_at (pipes_in slots) i)) j) (sym x.is)
      ∙ ap (λ m. write-of true m (pipe_at (pipes_in slots) i) (held_by (pipe_at (pipes_in slots) i)) i)
      (ap (λ b. ltb (length b) most_held) (slot-held slots h true i x r at') ∙ room)
      ∙ ap (λ held. write-of true true (pipe_at (pipes_in slots) i) held i) (slot-held slots h true i x s at)
      ∙ ap (λ ps. accepted (length (more s.held.items)) [] ps)
      (ap (set (pipes_in slots) i) (sym (holds-more slots h true i x s at t (s.held.items ++ more s.held.items) is)) ∙ sym (set-slot slots i t))

  pub write-kept : (s t : Slot) → s ≡ get_or slots i s → t ≡ record s { held = buffer (s.held.items ++ more s.held.items) s.held.capacity } → AreSlots slots → AreSlots (set slots i t)
  write-kept s t at is a =
      holds-kept slots h true i x s at t (s.held.items ++ more s.held.items) is a
      (omega (arith, length-append s.held.items (more s.held.items), length-take (most_held - length s.held.items) bytes, (ring-at slots i s a x.inside at).most))

-- ---- closing

module _ (slots : List Slot) (h i : ℕ) (w : Bool) (named : w ≡ names_writer h) (x : IsPlaceOf slots h w i) (s : Slot) (at : s ≡ get_or slots i s) (t : Slot) (is : pipe_in t ≡ without_end w (pipe_in s)) where
  abbrev close-of : Bool → Bool → Option Pipe → ℕ → Outcome
  close-of e v o j = unless_refused (pipes_in slots) ((e, 46) ∷ []) (accepted 0 [] (set (pipes_in slots) j (without_end v o)))

  slot-left : pipe_in t ≡ without_end w (pipe_at (pipes_in slots) i)
  slot-left = is ∙ ap (without_end w) (sym (slot-is slots h w i x s at))

  pub close-done : after_close (pipes_in slots) h ≡ accepted 0 [] (pipes_in (set slots i t))
  close-done =
      ap (λ v. close-of (is_end (pipes_in slots) h v) v (pipe_of (pipes_in slots) h) (place_of h)) (sym named)
      ∙ ap (λ e. close-of e w (pipe_of (pipes_in slots) h) (place_of h)) (end-is slots h w i x)
      ∙ ap (λ o. close-of true w o (place_of h)) (pipe-is slots h w i x)
      ∙ ap (λ j. close-of true w (pipe_at (pipes_in slots) i) j) (sym x.is)
      ∙ ap (λ ps. accepted 0 [] ps) (ap (set (pipes_in slots) i) (sym slot-left) ∙ sym (set-slot slots i t))

  pub close-slots : t.held ≡ s.held → AreSlots slots → AreSlots (set slots i t)
  close-slots same a =
      slots-set slots i t (without_end w (pipe_at (pipes_in slots) i)) a (subst IsRing (sym same) (ring-at slots i s a x.inside at)) slot-left
      (close-kept (pipes_in slots) i w a.pipes (place-inside slots h w i x a))

-- ---- opening

module _ (ps : List (Option Pipe)) (name : List ℕ) (end : ℕ) (low : end ≤ 1) where
  -- an opening, by the answers of its first two tests and its place
  abbrev open-of : Bool → Bool → Option ℕ → Outcome
  open-of l u o = unless_refused ps ((l, 71) ∷ (not u, 47) ∷ (is_some o, 72) ∷ []) (with_end ps name (eqb end 1) (unwrap_or o 0))

  open-at : (o : Option ℕ) (u : Bool) → place_for ps name ≡ o → is_open (eqb end 1) (pipe_in_place ps o) ≡ u → after_open ps name end ≡ open-of true u o
  open-at o u e f =
      ap (λ l. open-of l (is_open (eqb end 1) (pipe_in_place ps (place_for ps name))) (place_for ps name)) (le-leb end 1 low)
      ∙ ap (λ p. open-of true (is_open (eqb end 1) (pipe_in_place ps p)) p) e
      ∙ ap (λ v. open-of true v o) f

  -- with no place, there is no pipe of the name
  pub open-none : place_for ps name ≡ None → after_open ps name end ≡ refused 72 ps
  open-none e = open-at None false e refl

  pub open-used : (i : ℕ) → place_for ps name ≡ Some i → is_open (eqb end 1) (pipe_at ps i) ≡ true → after_open ps name end ≡ refused 47 ps
  open-used i e there = open-at (Some i) true e there

  pub open-done : (i : ℕ) → place_for ps name ≡ Some i → is_open (eqb end 1) (pipe_at ps i) ≡ false → after_open ps name end ≡ with_end ps name (eqb end 1) i
  open-done i e there = open-at (Some i) false e there

pub open-slots : (slots : List Slot) (name : List ℕ) (w : Bool) (i : ℕ) (s t : Slot) → AreSlots slots → IsName name → place_for (pipes_in slots) name ≡ Some i → i < length slots → s ≡ get_or slots i s
    → pipe_in t ≡ Some (opened name w (pipe_in s)) → IsRing t.held → AreSlots (set slots i t)
open-slots slots name w i s t a lawful place inside at is ring =
    slots-set slots i t (Some (opened name w (pipe_at (pipes_in slots) i))) a ring (is ∙ ap (λ o. Some (opened name w o)) (sym (at-slot slots i s inside at)))
    (open-kept (pipes_in slots) i name w a.pipes lawful place)

pub open-pipes : (slots : List Slot) (name : List ℕ) (w : Bool) (i : ℕ) (s t : Slot) → i < length slots → s ≡ get_or slots i s → pipe_in t ≡ Some (opened name w (pipe_in s))
    → (with_end (pipes_in slots) name w i).pipes ≡ pipes_in (set slots i t)
open-pipes slots name w i s t inside at is =
    ap (λ o. set (pipes_in slots) i (Some (opened name w o))) (at-slot slots i s inside at) ∙ (ap (set (pipes_in slots) i) (sym is) ∙ sym (set-slot slots i t))

-- the place that was found
pub open-found : (slots lent : List Slot) (name bytes : List ℕ) (o : Option ℕ) (i : ℕ) → lent ≡ slots → bytes ≡ name → o ≡ place_for (pipes_in lent) bytes → o ≡ Some i → place_for (pipes_in slots) name ≡ Some i
open-found slots lent name bytes o i same named found is =
    ap (λ xs. place_for (pipes_in xs) name) (sym same) ∙ (ap (place_for (pipes_in lent)) (sym named) ∙ (sym found ∙ is))

pub found-inside : (slots : List Slot) (name : List ℕ) (i : ℕ) → place_for (pipes_in slots) name ≡ Some i → i < length slots
found-inside slots name i e = omega (arith, (place-for (pipes_in slots) name i e).0, length-map slots pipe_in)

-- whether its end is open
pub open-there : (slots : List Slot) (i : ℕ) (w b : Bool) (s : Slot) → i < length slots → s ≡ get_or slots i s → b ≡ is_open w (pipe_in s) → is_open w (pipe_at (pipes_in slots) i) ≡ b
open-there slots i w b s inside at e = ap (is_open w) (at-slot slots i s inside at) ∙ sym e

-- ---- restoring

-- the tests, one by one
module _ (slots : List Slot) (k : ℕ) (ends : Bool × Bool × Bool) (name bytes : List ℕ) where
  abbrev is-free : Bool
  is-free = leb 1 k && leb k most_pipes && is_none (pipe_numbered (pipes_in slots) k)

  pub restore-there : false ≡ is-free → false ≡ can_restore (pipes_in slots) k ends name bytes
  restore-there e = ap (λ a. a && not (list_any (is_named name) (pipes_in slots)) && are_ends ends && leb (length bytes) most_held) e

  pub restore-taken : true ≡ is-free → true ≡ list_any (λ z. is_named name (pipe_in z)) slots → false ≡ can_restore (pipes_in slots) k ends name bytes
  restore-taken e f =
      ap (λ b. not b && are_ends ends && leb (length bytes) most_held) (f ∙ any-in (is_named name) slots)
      ∙ ap (λ a. a && not (list_any (is_named name) (pipes_in slots)) && are_ends ends && leb (length bytes) most_held) e

  pub restore-tests : (b : Bool) → true ≡ is-free → false ≡ list_any (λ z. is_named name (pipe_in z)) slots → b ≡ are_ends ends
      → (b && leb (length bytes) most_held) ≡ can_restore (pipes_in slots) k ends name bytes
  restore-tests b e f g =
      ap (λ c. c && leb (length bytes) most_held) g
      ∙ (ap (λ c. not c && are_ends ends && leb (length bytes) most_held) (f ∙ any-in (is_named name) slots)
      ∙ ap (λ a. a && not (list_any (is_named name) (pipes_in slots)) && are_ends ends && leb (length bytes) most_held) e)

module _ (ps : List (Option Pipe)) (k : ℕ) (ends : Bool × Bool × Bool) (name bytes : List ℕ) (can : can_restore ps k ends name bytes ≡ true) where
  abbrev free : Bool
  free = leb 1 k && leb k most_pipes && is_none (pipe_numbered ps k)

  restore-new : (list_any (is_named name) ps ≡ false) × (are_ends ends ≡ true) × (length bytes ≤ most_held) × (free ≡ true)
  restore-new =
      let last = and_parts (free && not (list_any (is_named name) ps) && are_ends ends) (leb (length bytes) most_held) can in
      let third = and_parts (free && not (list_any (is_named name) ps)) (are_ends ends) last.0 in
      let first = and_parts free (not (list_any (is_named name) ps)) third.0 in
      (not-true (list_any (is_named name) ps) first.1, third.1, leb-true (length bytes) most_held last.1, first.0)

  pub restore-number : (1 ≤ k) × (k ≤ most_pipes)
  restore-number =
      let both = and_parts (leb 1 k && leb k most_pipes) (is_none (pipe_numbered ps k)) restore-new.3 in
      let low = and_parts (leb 1 k) (leb k most_pipes) both.0 in
      (leb-true 1 k low.0, leb-true k most_pipes low.1)

module _ (slots : List Slot) (k : ℕ) (ends : Bool × Bool × Bool) (name bytes : List ℕ) (s t : Slot) (can : can_restore (pipes_in slots) k ends name bytes ≡ true)
    (is : t ≡ record { name = name; held = buffer bytes s.held.capacity; reading = ends.0; writing = ends.1; written = ends.2 }) where
  tests : (list_any (is_named name) (pipes_in slots) ≡ false) × (are_ends ends ≡ true) × (length bytes ≤ most_held) × (free (pipes_in slots) k ends name bytes can ≡ true)
  tests = restore-new (pipes_in slots) k ends name bytes can

  restored-in : pipe_in t ≡ Some (pipe_with ends name bytes)
  restored-in = ap pipe_in is ∙ ap (λ b. cond b (Some (pipe_with ends name bytes)) None) (and_parts (ends.0 || ends.1) (not ends.1 || ends.2) tests.1).0

  pub restore-done : after_restore (pipes_in slots) k ends name bytes ≡ pipes_in (set slots (k - 1) t)
  restore-done =
      ap (λ b. cond b (set (pipes_in slots) (k - 1) (Some (pipe_with ends name bytes))) (pipes_in slots)) can
      ∙ (ap (set (pipes_in slots) (k - 1)) (sym restored-in) ∙ sym (set-slot slots (k - 1) t))

  pub restore-slots : AreSlots slots → IsName name → s ≡ get_or slots (k - 1) s → AreSlots (set slots (k - 1) t)
  restore-slots a lawful at =
      let size : length slots ≡ most_pipes = sym (length-map slots pipe_in) ∙ a.pipes.places in
      let number = restore-number (pipes_in slots) k ends name bytes can in
      let inside : k - 1 < length slots = omega (arith, size, number.0, number.1) in
      let few : length bytes ≤ most_held = tests.2 in
      slots-set slots (k - 1) t (Some (pipe_with ends name bytes)) a
      (record { room = ap (λ (z : Slot). z.held.capacity) is ∙ (ring-at slots (k - 1) s a inside at).room; most = omega (arith, few, ap (λ (z : Slot). length z.held.items) is) })
      restored-in (restore-kept (pipes_in slots) (k - 1) ends name bytes a.pipes (omega (arith, inside, length-map slots pipe_in)) lawful tests.0 tests.1 few)
