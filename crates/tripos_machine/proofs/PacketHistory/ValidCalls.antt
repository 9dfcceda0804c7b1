-- Every call on a valid disc leaves a valid disc.
use Rattle.std.proofs.Common.{◌≡◌, ℕ, inl, inr, ◌+◌, ◌-◌, ◌/◌, ◌⊎◌, not, Bool, true, false, cond, ltb, Option, Some, None, List, [], ◌∷◌, ◌++◌, length, get_or, set, take, drop, Ok, Err, Result, refl, sym, ap, ◌∙◌, subst, arith}
use Rattle.std.specs.List.{list_any, position, remove}
use Rattle.std.specs.Option.{is_none, is_some}
use Rattle.std.proofs.lemmas.Bool.{cases_lt}
use Rattle.std.proofs.lemmas.List.{length-drop, length-take}
use Rattle.ram_disc.specs.Contents.{Adds, Area, Empties, bytes_at}
use Rattle.ram_disc.specs.Disc.{Disc, IsDisc, sectors_of, stream_at}
use Rattle.ram_disc.specs.DiscCalls.{Outcome, after_append, after_close, after_delete, after_open_read, after_open_write, after_read_on, after_rename, has_room, is_reader, is_writer, unless_refused, with_more}
use Rattle.ram_disc.specs.Name.{IsName}
use Rattle.ram_disc.specs.Slots.{AreKept, HasPlace, IsAt, disc_in, is_on_slot, place_in, stream_in, writes_on}
use Rattle.ram_disc.specs.declared.places.Place.{Place}
use Rattle.ram_disc.proofs.Calls.{close-done, close-none, number-inside, open_read-done, open_read-full, open_read-kept, open_read-missing, open_read-written, outcome}
use Rattle.ram_disc.proofs.ChangeCalls.{delete-done, delete-missing, delete-used, place-without, rename-done, rename-missing, rename-there, rename-used, write-done, write-full, write-kept, write-new-done, write-new-full, write-new-kept, write-new-none, write-used}
use Rattle.ram_disc.proofs.KeptSlots.{keep-delete, keep-rename}
use Rattle.ram_disc.proofs.KeptStreams.{keep-none}
use Rattle.ram_disc.proofs.StreamLemmas.{stream_at-place}
use Rattle.ram_disc.proofs.TransferCalls.{append-done, append-full, append-kept, read-done, read-kept}
use Rattle.ram_disc.proofs.ValidDisc.{place-number, valid-kept}
use Rattle.tripos_machine.proofs.PacketHistory.FoundNames.{name-at-place}
use Rattle.tripos_machine.proofs.PacketHistory.KeptDiscs.{IsKept, disc-kept}

-- a list has no last one, or it has
abbrev Ends : List ℕ → Type 0
Ends xs = (xs ≡ []) ⊎ ((front : List ℕ) × (last : ℕ) × (xs ≡ front ++ last ∷ []))

ends : (xs : List ℕ) → Ends xs
ends [] = inl refl
ends (x ∷ xs) = on (ends xs)
  where
    on : Ends xs → Ends (x ∷ xs)
    on (inl none) = inr ([], x, ap (λ z. x ∷ z) none)
    on (inr r) = inr (x ∷ r.0, r.1, ap (λ z. x ∷ z) r.2)

module _ (names : List (List ℕ)) (a : Area) (used unused : List ℕ) (ps : List (Option Place)) (h : AreKept names a used unused ps) where
  abbrev D : Disc
  D = disc_in names a.bytes used ps

  abbrev S : ℕ → ℕ
  S i = get_or used i 0

  now : IsDisc D
  now = valid-kept names a used unused ps h

  -- what a call leaves
  by-answer : {A : Type 0} (o : Outcome A) (answer : Result A ℕ) (d : Disc) → o ≡ outcome answer d → IsDisc d → IsDisc o.disc
  by-answer o answer d is valid = subst IsDisc (sym (ap (λ z. z.disc) is)) valid

  -- it is refused by its first test
  refused-first : {A : Type 0} (test : Bool) (code : ℕ) (tests : List (Bool × ℕ)) (answer : A) (next : Disc) → test ≡ false
      → IsDisc (unless_refused D ((test, code) ∷ tests) answer next).disc
  refused-first test code tests answer next none = subst (λ b. IsDisc (unless_refused D ((b, code) ∷ tests) answer next).disc) (sym none) now

  -- the slot is empty
  abbrev emptied : ℕ → Area
  emptied slot = record { chains = a.chains; bytes = set a.bytes slot []; left = a.left + sectors_of (length (bytes_at a slot)) }

  empties : (slot : ℕ) → Empties a (emptied slot) slot
  empties slot = record { bytes = refl; others = λ j ne. refl; left = refl }

  open_read-left : (name : List ℕ) (shell : Bool) → IsDisc (after_open_read D name shell).disc
  open_read-left name shell =
      elim (name-at-place names name used h.slots.in_order) [
        | inl at ↦ on at.0 at.1 (list_any (writes_on (S at.0)) ps) refl
        | inr place ↦ by-answer (after_open_read D name shell) (Err 41) D (open_read-missing names a used unused ps h name shell place.0 place.1) now
      ]
    where
      on : (i : ℕ) → IsAt names used name i → (b : Bool) → list_any (writes_on (S i)) ps ≡ b → IsDisc (after_open_read D name shell).disc
      on i at true e = by-answer (after_open_read D name shell) (Err 47) D (open_read-written names a used unused ps h name shell i at e) now
      on i at false e = by (cond shell (Some 16) (position is_none (take 16 ps))) refl
        where
          by : (o : Option ℕ) → cond shell (Some 16) (position is_none (take 16 ps)) ≡ o → IsDisc (after_open_read D name shell).disc
          by None f = by-answer (after_open_read D name shell) (Err 45) D (open_read-full names a used unused ps h name shell i at e f) now
          by (Some k) f =
              let sector : ℕ = get_or (get_or a.chains (S i) []) 0 0 in
              let p : Place = record { slot = S i; position = 0; sector = sector; writes = false } in
              by-answer (after_open_read D name shell) (Ok (k + 1)) (disc_in names a.bytes used (set ps k (Some p))) (open_read-done names a used unused ps h name shell i k sector at e f)
              (valid-kept names a used unused (set ps k (Some p)) (open_read-kept names a used unused ps h name shell i k sector at e f (λ some. refl)))

  open_write-left : (name : List ℕ) → IsName name → IsDisc (after_open_write D name).disc
  open_write-left name lawful =
      elim (name-at-place names name used h.slots.in_order) [
        | inl at ↦ on at.0 at.1 (list_any (is_on_slot (S at.0)) ps) refl (position is_none (take 16 ps)) refl
        | inr place ↦ new place.0 place.1 (position is_none (take 16 ps)) refl (ends unused)
      ]
    where
      write_at : ℕ → Place
      write_at slot = record { slot = slot; position = 0; sector = 0; writes = true }

      on : (i : ℕ) → IsAt names used name i → (b : Bool) → list_any (is_on_slot (S i)) ps ≡ b → (o : Option ℕ) → position is_none (take 16 ps) ≡ o → IsDisc (after_open_write D name).disc
      on i at true e o f = by-answer (after_open_write D name) (Err 47) D (write-used names a used unused ps h name i at e) now
      on i at false e None f = by-answer (after_open_write D name) (Err 45) D (write-full names a used unused ps h name i at e f) now
      on i at false e (Some k) f =
          by-answer (after_open_write D name) (Ok (k + 1)) (disc_in names (emptied (S i)).bytes used (set ps k (Some (write_at (S i)))))
          (write-done names a used unused ps h (emptied (S i)) name i k at e f (empties (S i)))
          (valid-kept names (emptied (S i)) used unused (set ps k (Some (write_at (S i)))) (write-kept names a used unused ps h (emptied (S i)) i k at.within e f (empties (S i))))

      new : (i : ℕ) → HasPlace names used name i → (o : Option ℕ) → position is_none (take 16 ps) ≡ o → Ends unused → IsDisc (after_open_write D name).disc
      new i place None f end = by-answer (after_open_write D name) (Err 45) D (write-new-full names a used unused ps h name i place f) now
      new i place (Some k) f (inl none) = by-answer (after_open_write D name) (Err 44) D (write-new-none names a used unused ps h name i k place f none) now
      new i place (Some k) f (inr r) =
          by-answer (after_open_write D name) (Ok (k + 1)) _ (write-new-done names a used unused ps h r.0 r.1 name i k place f r.2)
          (valid-kept (set names r.1 name) a _ r.0 (set ps k (Some (write_at r.1))) (write-new-kept names a used unused ps h r.0 r.1 name i k place lawful f r.2))

  -- ---- open streams

  place-is : (k : ℕ) (o : Option Place) → place_in ps k ≡ o → stream_at D k ≡ stream_in names o
  place-is k o e = stream_at-place names ps D k refl ∙ ap (stream_in names) e

  read-left : (k count : ℕ) → IsDisc (after_read_on D k count).disc
  read-left k count = on (place_in ps k) refl
    where
      refused : is_reader (stream_at D k) ≡ false → IsDisc (after_read_on D k count).disc
      refused none = refused-first (is_reader (stream_at D k)) 46 [] _ _ none

      on : (o : Option Place) → place_in ps k ≡ o → IsDisc (after_read_on D k count).disc
      on None e = refused (ap is_reader (place-is k None e))
      on (Some p) e = by p.writes refl
        where
          by : (b : Bool) → p.writes ≡ b → IsDisc (after_read_on D k count).disc
          by true w = refused (ap is_reader (place-is k (Some p) e) ∙ ap not w)
          by false w =
              let n : ℕ = length (take count (drop p.position (bytes_at a p.slot))) in
              let q : Place = record { slot = p.slot; position = p.position + n; sector = get_or (get_or a.chains p.slot []) ((p.position + n) / 512) 0; writes = p.writes } in
              let st = h.streams (k - 1) p (place-number ps k p e).1 in
              by-answer (after_read_on D k count) (Ok n) (disc_in names a.bytes used (set ps (k - 1) (Some q))) (read-done names a used unused ps h k count n p q e w refl refl refl refl)
              (valid-kept names a used unused (set ps (k - 1) (Some q))
              (read-kept names a used unused ps h k n p q e w (omega (arith, st.within, length-take count (drop p.position (bytes_at a p.slot)), length-drop p.position (bytes_at a p.slot))) refl refl refl (λ less. refl)))

  append-left : (k : ℕ) (more : List ℕ) → IsDisc (after_append D k more).disc
  append-left k more = on (place_in ps k) refl
    where
      refused : is_writer (stream_at D k) ≡ false → IsDisc (after_append D k more).disc
      refused none = refused-first (is_writer (stream_at D k)) 46 ((has_room (with_more D (stream_at D k) more), 43) ∷ []) _ _ none

      on : (o : Option Place) → place_in ps k ≡ o → IsDisc (after_append D k more).disc
      on None e = refused (ap is_writer (place-is k None e))
      on (Some p) e = by p.writes refl
        where
          by : (b : Bool) → p.writes ≡ b → IsDisc (after_append D k more).disc
          by false w = refused (ap is_writer (place-is k (Some p) e) ∙ w)
          by true w =
              let before : ℕ = sectors_of (length (bytes_at a p.slot)) in
              let then' : ℕ = sectors_of (length (bytes_at a p.slot) + length more) in
              let b : Area = record { chains = a.chains; bytes = set a.bytes p.slot (bytes_at a p.slot ++ more); left = a.left + before - then' } in
              let q : Place = record { slot = p.slot; position = p.position + length more; sector = 0; writes = p.writes } in
              elim (cases_lt (before + a.left) then') [
                | inl full ↦ by-answer (after_append D k more) (Err 43) D (append-full names a used unused ps h k more p e w full) now
                | inr room ↦
                    let adds : Adds a b p.slot more = record { bytes = refl; others = λ j ne. refl; left = omega (arith, room) } in
                    by-answer (after_append D k more) (Ok tt) (disc_in names b.bytes used (set ps (k - 1) (Some q)))
                    (append-done names a used unused ps h b k more p q e w room adds refl refl refl)
                    (valid-kept names b used unused (set ps (k - 1) (Some q)) (append-kept names a used unused ps h b k more p q e w adds refl refl refl))
              ]

  close-left : (k : ℕ) → IsDisc (after_close D k).disc
  close-left k = on (is_some (place_in ps k)) refl
    where
      on : (b : Bool) → is_some (place_in ps k) ≡ b → IsDisc (after_close D k).disc
      on false e = by-answer (after_close D k) (Err 46) D (close-none names a used unused ps k e) now
      on true e =
          by-answer (after_close D k) (Ok tt) (disc_in names a.bytes used (set ps (k - 1) None)) (close-done names a used unused ps k e)
          (valid-kept names a used unused (set ps (k - 1) None) (keep-none names a used unused ps (k - 1) h (number-inside names a used unused ps k h e)))

  -- ---- names

  delete-left : (name : List ℕ) → IsDisc (after_delete D name).disc
  delete-left name =
      elim (name-at-place names name used h.slots.in_order) [
        | inl at ↦ on at.0 at.1 (list_any (is_on_slot (S at.0)) ps) refl
        | inr place ↦ by-answer (after_delete D name) (Err 41) D (delete-missing names a used unused ps h name place.0 place.1) now
      ]
    where
      on : (i : ℕ) → IsAt names used name i → (b : Bool) → list_any (is_on_slot (S i)) ps ≡ b → IsDisc (after_delete D name).disc
      on i at true e = by-answer (after_delete D name) (Err 47) D (delete-used names a used unused ps h name i at e) now
      on i at false e =
          by-answer (after_delete D name) (Ok tt) (disc_in names (emptied (S i)).bytes (remove used i) ps) (delete-done names a used unused ps h (emptied (S i)) name i at e (empties (S i)))
          (valid-kept names (emptied (S i)) (remove used i) (unused ++ S i ∷ []) ps (keep-delete names a used unused ps (emptied (S i)) i h at.within e (empties (S i))))

  rename-left : (from to : List ℕ) → IsName to → IsDisc (after_rename D from to).disc
  rename-left from to lawful =
      elim (name-at-place names from used h.slots.in_order) [
        | inl at ↦
            elim (name-at-place names to used h.slots.in_order) [
              | inl there ↦ by-answer (after_rename D from to) (Err 42) D (rename-there names a used unused ps h from to at.0 there.0 at.1 there.1) now
              | inr place ↦ on at.0 at.1 place.0 place.1 (list_any (is_on_slot (S at.0)) ps) refl
            ]
        | inr place ↦ by-answer (after_rename D from to) (Err 41) D (rename-missing names a used unused ps h from to place.0 place.1) now
      ]
    where
      on : (i : ℕ) → IsAt names used from i → (j : ℕ) → HasPlace names used to j → (b : Bool) → list_any (is_on_slot (S i)) ps ≡ b → IsDisc (after_rename D from to).disc
      on i at j place true e = by-answer (after_rename D from to) (Err 47) D (rename-used names a used unused ps h from to i j at place e) now
      on i at j place false e =
          let there : HasPlace names (remove used i) to (cond (ltb i j) (j - 1) j) = place-without names used to i j at.within place in
          by-answer (after_rename D from to) (Ok tt) _ (rename-done names a used unused ps h from to i j (cond (ltb i j) (j - 1) j) at place e there)
          (valid-kept (set names (S i) to) a _ unused ps (keep-rename names a used unused ps i (cond (ltb i j) (j - 1) j) to h at.within there lawful))

-- ---- the calls

module _ (d : Disc) (valid : IsDisc d) where
  abbrev k : IsKept d
  k = disc-kept d valid

  -- what holds of every disc that is kept in slots
  kept-holds : (P : Disc → Type 0) → ((names : List (List ℕ)) (a : Area) (used unused : List ℕ) (ps : List (Option Place)) → AreKept names a used unused ps → P (disc_in names a.bytes used ps)) → P d
  kept-holds P all = subst P k.is (all k.names k.area k.used k.unused k.places k.kept)

  pub open_read-valid : (name : List ℕ) (shell : Bool) → IsDisc (after_open_read d name shell).disc
  open_read-valid name shell = kept-holds (λ e. IsDisc (after_open_read e name shell).disc) (λ names a used unused ps h. open_read-left names a used unused ps h name shell)

  pub open_write-valid : (name : List ℕ) → IsName name → IsDisc (after_open_write d name).disc
  open_write-valid name lawful = kept-holds (λ e. IsDisc (after_open_write e name).disc) (λ names a used unused ps h. open_write-left names a used unused ps h name lawful)

  pub read-valid : (n count : ℕ) → IsDisc (after_read_on d n count).disc
  read-valid n count = kept-holds (λ e. IsDisc (after_read_on e n count).disc) (λ names a used unused ps h. read-left names a used unused ps h n count)

  pub append-valid : (n : ℕ) (more : List ℕ) → IsDisc (after_append d n more).disc
  append-valid n more = kept-holds (λ e. IsDisc (after_append e n more).disc) (λ names a used unused ps h. append-left names a used unused ps h n more)

  pub close-valid : (n : ℕ) → IsDisc (after_close d n).disc
  close-valid n = kept-holds (λ e. IsDisc (after_close e n).disc) (λ names a used unused ps h. close-left names a used unused ps h n)

  pub delete-valid : (name : List ℕ) → IsDisc (after_delete d name).disc
  delete-valid name = kept-holds (λ e. IsDisc (after_delete e name).disc) (λ names a used unused ps h. delete-left names a used unused ps h name)

  pub rename-valid : (from to : List ℕ) → IsName to → IsDisc (after_rename d from to).disc
  rename-valid from to lawful = kept-holds (λ e. IsDisc (after_rename e from to).disc) (λ names a used unused ps h. rename-left names a used unused ps h from to lawful)
