-- Where a packet comes to, among those of a queue that count.
use Rattle.std.proofs.Common.{◌≡◌, ℕ, ℤ, ◌&&◌, ◌||◌, Bool, true, false, cond, eqb, leb, List, [], ◌∷◌, ◌++◌, append-nil, refl, sym, ap, ◌∙◌, subst, arith, eqb-true, ne_eqb}
use Rattle.std.specs.List.{AllByRecursion, list_any}
use Rattle.std.proofs.lemmas.Bool.{leb-false}
use Rattle.std.proofs.lemmas.List.{append_assoc}
use Rattle.kernel_lists.specs.LinkedList.Places.{insert_after}
use Rattle.word_store.proofs.Elements.{all-back}
use Rattle.kernel_lists.proofs.LinkedList.Places.{IsPlace, place}
use Rattle.kernel_lists.specs.declared.packet_queue.events.KernelEvent.{KernelEvent}
use Rattle.tripos_machine.specs.EventHistory.Acceptances.{pair_of}
use Rattle.tripos_machine.specs.EventHistory.Ledger.{Entry, arrived, clock, is_on_queue, same_queue}
use Rattle.tripos_machine.proofs.EventHistory.Ends.{end_in}
use Rattle.tripos_machine.proofs.EventHistory.Kept.{counts, kept, kept-append}

module _ (t : Bool) (h : Entry → Bool) (x : Entry) (es : List KernelEvent) where
  abbrev Last : List Entry → List Entry → Type 0
  Last now ys = kept t h es now ≡ kept t h es ys ++ kept t h es (x ∷ [])

  at-end : (ys : List Entry) → Last (ys ++ x ∷ []) ys
  at-end ys = kept-append t h es ys (x ∷ [])

  -- where it counts and none behind it does
  none-kept : (zs : List Entry) → AllByRecursion (λ z. h z ≡ false) zs → kept t h es zs ≡ []
  none-kept [] all = refl
  none-kept (z ∷ zs) all = ap (λ b. cond (b && counts t (end_in z.packet es)) (pair_of z ∷ kept t h es zs) (kept t h es zs)) all.0 ∙ none-kept zs all.1

  before : (zs : List Entry) → (h x ≡ true → AllByRecursion (λ z. h z ≡ false) zs) → Last (x ∷ zs) zs
  before zs none = on (h x) refl
    where
      on : (b : Bool) → h x ≡ b
          → cond (b && counts t (end_in x.packet es)) (pair_of x ∷ kept t h es zs) (kept t h es zs) ≡ kept t h es zs ++ cond (b && counts t (end_in x.packet es)) (pair_of x ∷ []) []
      on true is =
          let c : Bool = counts t (end_in x.packet es) in
          ap (λ z. cond c (pair_of x ∷ z) z) (none-kept zs (none is)) ∙ sym (ap (λ z. z ++ cond c (pair_of x ∷ []) []) (none-kept zs (none is)))
      on false is = sym (append-nil (kept t h es zs))

  -- between two parts
  between : (front back : List Entry) → Last (x ∷ back) back → Last (front ++ x ∷ back) (front ++ back)
  between front back last =
      kept-append t h es front (x ∷ back) ∙ ap (λ z. kept t h es front ++ z) last ∙ sym (append_assoc (kept t h es front) (kept t h es back) (kept t h es (x ∷ [])))
      ∙ ap (λ z. z ++ kept t h es (x ∷ [])) (sym (kept-append t h es front back))

  -- at the clock
  inserted : (ys : List Entry) → ((zs : List Entry) → list_any (λ e. leb e.due x.due) zs ≡ false → ((P : Entry → Type 0) → AllByRecursion P ys → AllByRecursion P zs) → h x ≡ true → AllByRecursion (λ z. h z ≡ false) zs)
      → Last (insert_after (λ e. leb e.due x.due) x ys) ys
  inserted ys none =
      let r : IsPlace (λ e. leb e.due x.due) (λ _. 0) 0 x ys = place (λ e. leb e.due x.due) (λ _. 0) 0 x ys in
      subst (λ zs. Last zs ys) (sym r.list)
      (subst (Last (r.front ++ x ∷ r.back)) (sym r.whole)
      (between r.front r.back (before r.back (none r.back r.behind (λ P all. all-back P r.front r.back (subst (AllByRecursion P) r.whole all))))))

-- on any other queue it comes last
pub comes-last : (t : Bool) (h : Entry → Bool) (q : ℤ) → same_queue q clock ≡ false → (x : Entry) (es : List KernelEvent) (ys : List Entry) → is_on_queue x.packet ys ≡ false
    → kept t h es (arrived q x ys) ≡ kept t h es ys ++ kept t h es (x ∷ [])
comes-last t h q other x es ys new = subst (λ b. Last t h x es (cond b (insert_after (λ e. leb e.due x.due) x ys) (ys ++ x ∷ [])) ys) (sym other) (at-end t h x es ys)

-- at the clock it comes last among those that are due at one tick
pub comes-due : (t : Bool) (tick : ℕ) (x : Entry) (es : List KernelEvent) (ys : List Entry) → is_on_queue x.packet ys ≡ false
    → kept t (λ e. eqb e.due tick) es (arrived clock x ys) ≡ kept t (λ e. eqb e.due tick) es ys ++ kept t (λ e. eqb e.due tick) es (x ∷ [])
comes-due t tick x es ys new = inserted t (λ e. eqb e.due tick) x es ys (λ zs behind inside is. later zs behind is)
  where
    later : (zs : List Entry) → list_any (λ e. leb e.due x.due) zs ≡ false → eqb x.due tick ≡ true → AllByRecursion (λ z. eqb z.due tick ≡ false) zs
    later [] behind is = tt
    later (z ∷ zs) behind is = on (leb z.due x.due) refl behind (λ b. later zs b is)
      where
        on : (b : Bool) → leb z.due x.due ≡ b → (b || list_any (λ e. leb e.due x.due) zs) ≡ false → (list_any (λ e. leb e.due x.due) zs ≡ false → AllByRecursion (λ z. eqb z.due tick ≡ false) zs)
            → AllByRecursion (λ z. eqb z.due tick ≡ false) (z ∷ zs)
        on true g behind more = cc
        on false g behind more = (ne_eqb z.due tick (λ e. absurd (omega (arith, leb-false z.due x.due g, eqb-true x.due tick is, e))), more behind)

-- and on every queue it comes last among those with its address
pub comes-again : (t : Bool) (p : ℕ) (q : ℤ) (x : Entry) (es : List KernelEvent) (ys : List Entry) → is_on_queue x.packet ys ≡ false
    → kept t (λ e. eqb p e.packet) es (arrived q x ys) ≡ kept t (λ e. eqb p e.packet) es ys ++ kept t (λ e. eqb p e.packet) es (x ∷ [])
comes-again t p q x es ys new = on (same_queue q clock)
  where
    absent : (zs : List Entry) → is_on_queue x.packet zs ≡ false → AllByRecursion (λ z. eqb x.packet z.packet ≡ false) zs
    absent [] none = tt
    absent (z ∷ zs) none = by (eqb x.packet z.packet) refl none (absent zs)
      where
        by : (b : Bool) → eqb x.packet z.packet ≡ b → (b || is_on_queue x.packet zs) ≡ false → (is_on_queue x.packet zs ≡ false → AllByRecursion (λ z. eqb x.packet z.packet ≡ false) zs)
            → AllByRecursion (λ z. eqb x.packet z.packet ≡ false) (z ∷ zs)
        by true e none more = cc
        by false e none more = (e, more none)

    on : (b : Bool) → Last t (λ e. eqb p e.packet) x es (cond b (insert_after (λ e. leb e.due x.due) x ys) (ys ++ x ∷ [])) ys
    on true =
        inserted t (λ e. eqb p e.packet) x es ys
        (λ zs behind inside is.
        subst (λ z. AllByRecursion (λ e. eqb z e.packet ≡ false) zs) (sym (eqb-true p x.packet is)) (inside (λ z. eqb x.packet z.packet ≡ false) (absent ys new)))
    on false = at-end t (λ e. eqb p e.packet) x es ys
