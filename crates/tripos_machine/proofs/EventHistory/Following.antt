-- Events that lead from one ledger to another: joined, and what every event keeps.
use Rattle.std.proofs.Common.{◌≡◌, ◌≢◌, ℕ, ℤ, ◌≤◌, ◌⊎◌, inl, inr, true, false, cond, eqb, List, [], ◌∷◌, ◌++◌, drop, refl, sym, ◌∙◌, subst, arith, Bool, ◌||◌, eq-eqb, ap}
use Rattle.std.proofs.lemmas.Bool.{cases_eq}
use Rattle.word_store.proofs.Counts.{hit-other, hit-same}
use Rattle.kernel_lists.specs.LinkedList.Places.{without_first}
use Rattle.kernel_lists.specs.declared.packet_queue.events.KernelEvent.{KernelEvent}
use Rattle.kernel_lists.specs.declared.packet_queue.events.KernelEvent.TheVariants.{Accepted, Taken, Dequeued, Runs}
use Rattle.tripos_machine.specs.EventHistory.Ledger.{AreOnce, Entry, Follows, IsNowhere, Ledger, May, Timed, after_event, arrived, count_of, entry_on, same_queue, is_on_queue, with_queue, IsFirst}
use Rattle.tripos_machine.proofs.EventHistory.Packets.{count-arrived, count-rest, count-without, none-counted, some-counted, some-on-queue, none-on-queue}
use Rattle.tripos_machine.proofs.EventHistory.Queues.{queue-ways, same-self}

-- ---- joined

pub follows-join : (xs ys : List Timed) (b m a : Ledger) → Follows xs b m → Follows ys m a → Follows (xs ++ ys) b a
follows-join [] ys b m a e f = subst (λ z. Follows ys z a) (sym e) f
follows-join (x ∷ xs) ys b m a h f = (h.0, follows-join xs ys (after_event x.event x.due b) m a h.1 f)

-- ---- where a packet is

-- a packet that is on one queue is on no other
pub elsewhere : (b : Ledger) (h : AreOnce b) (p : ℕ) (r q : ℤ) → is_on_queue p (b r) ≡ true → same_queue q r ≡ false → is_on_queue p (b q) ≡ false
elsewhere b h p r q here other = on (is_on_queue p (b q)) refl
  where
    on : (c : Bool) → is_on_queue p (b q) ≡ c → c ≡ false
    on true some = clash (sym (ap (λ z. same_queue z r) (h.one q r p some here)) ∙ other)
      where
        clash : same_queue r r ≡ false → true ≡ false
        clash e = sym (same-self r) ∙ e
    on false none = refl

pub first-on-queue : (p : ℕ) (s : ℤ) (ys : List Entry) → IsFirst p s ys → is_on_queue p ys ≡ true
first-on-queue p s [] first = absurd first
first-on-queue p s (y ∷ ys) first = ap (λ b. b || is_on_queue p ys) (eq-eqb p y.packet (sym first.0))

-- ---- no packet twice

-- a queue with no more of any packet
once-fewer : (q : ℤ) (es : List Entry) (b : Ledger) → ((p : ℕ) → count_of p es ≤ count_of p (b q)) → AreOnce b → AreOnce (with_queue q es b)
once-fewer q es b fewer h =
    record {
      once = λ r p. queue-ways (λ c. count_of p (cond c es (b r)) ≤ 1) r q (λ is. omega (arith, fewer p, h.once q p)) (λ other. h.once r p);
      one = λ r z p here there. h.one r z p (stood r p here) (stood z p there);
    }
  where
    stood : (r : ℤ) (p : ℕ) → is_on_queue p (with_queue q es b r) ≡ true → is_on_queue p (b r) ≡ true
    stood r p =
        queue-ways (λ c. is_on_queue p (cond c es (b r)) ≡ true → is_on_queue p (b r) ≡ true) r q
        (λ is some. subst (λ z. is_on_queue p (b z) ≡ true) (sym is) (some-on-queue p (b q) (omega (arith, fewer p, some-counted p es some)))) (λ other some. some)

-- a packet comes that was nowhere
module _ (q : ℤ) (x : Entry) (b : Ledger) (h : AreOnce b) (new : IsNowhere x.packet b) where
  abbrev a : Ledger
  a = with_queue q (arrived q x (b q)) b

  came : (r : ℤ) (p : ℕ) → is_on_queue p (a r) ≡ true → ((p ≡ x.packet) × (r ≡ q)) ⊎ ((p ≢ x.packet) × (is_on_queue p (b r) ≡ true))
  came r p =
      queue-ways (λ c. is_on_queue p (cond c (arrived q x (b q)) (b r)) ≡ true → ((p ≡ x.packet) × (r ≡ q)) ⊎ ((p ≢ x.packet) × (is_on_queue p (b r) ≡ true))) r q here there
    where
      differs : is_on_queue p (b r) ≡ true → p ≢ x.packet
      differs some e = absurd (omega (arith, some-counted p (b r) some, none-counted p (b r) (subst (λ z. is_on_queue z (b r) ≡ false) (sym e) (new r))))

      here : r ≡ q → is_on_queue p (arrived q x (b q)) ≡ true → ((p ≡ x.packet) × (r ≡ q)) ⊎ ((p ≢ x.packet) × (is_on_queue p (b r) ≡ true))
      here is some =
          elim (cases_eq p x.packet) [
            | inl e ↦ inl (e, is)
            | inr ne ↦
                let old : is_on_queue p (b q) ≡ true = some-on-queue p (b q) (omega (arith, some-counted p (arrived q x (b q)) some, count-arrived p q x (b q), hit-other p x.packet ne)) in
                inr (ne, subst (λ z. is_on_queue p (b z) ≡ true) (sym is) old)
          ]

      there : same_queue r q ≡ false → is_on_queue p (b r) ≡ true → ((p ≡ x.packet) × (r ≡ q)) ⊎ ((p ≢ x.packet) × (is_on_queue p (b r) ≡ true))
      there other some = inr (differs some, some)

  once-arrived : AreOnce a
  once-arrived =
      record {
        once = λ r p.
            queue-ways (λ c. count_of p (cond c (arrived q x (b q)) (b r)) ≤ 1) r q
            (λ is.
            elim (cases_eq p x.packet) [
              | inl e ↦ omega (arith, count-arrived p q x (b q), hit-same p x.packet e, none-counted p (b q) (subst (λ z. is_on_queue z (b q) ≡ false) (sym e) (new q)))
              | inr ne ↦ omega (arith, count-arrived p q x (b q), hit-other p x.packet ne, h.once q p)
            ])
            (λ other. h.once r p);
        one = λ r z p here there.
            elim (came r p here) [
              | inl m ↦ elim (came z p there) [ inl n ↦ m.1 ∙ sym n.1 | inr n ↦ absurd (n.0 m.0) ]
              | inr m ↦ elim (came z p there) [ inl n ↦ absurd (m.0 n.0) | inr n ↦ h.one r z p m.1 n.1 ]
            ];
      }

pub once-after : (e : KernelEvent) (due : ℕ) (b : Ledger) → AreOnce b → May e b → AreOnce (after_event e due b)
once-after (Accepted q p s) due b h may = once-arrived q (entry_on q p s due) b h may
once-after (Taken q p s) due b h may = once-fewer q (drop 1 (b q)) b (λ r. count-rest r (b q)) h
once-after (Dequeued q p) due b h may = once-fewer q (without_first (λ e. eqb p e.packet) (b q)) b (λ r. count-without r (λ e. eqb p e.packet) (b q)) h
once-after (Runs t) due b h may = h

pub follows-once : (xs : List Timed) (b a : Ledger) → AreOnce b → Follows xs b a → AreOnce a
follows-once [] b a h e = subst AreOnce e h
follows-once (x ∷ xs) b a h f = follows-once xs (after_event x.event x.due b) a (once-after x.event x.due b h f.0) f.1

-- ---- what was just taken is nowhere

pub taken-nowhere : (q : ℤ) (p : ℕ) (s : ℤ) (due : ℕ) (b : Ledger) → AreOnce b → IsFirst p s (b q) → IsNowhere p (after_event (Taken q p s) due b)
taken-nowhere q p s due b h first r =
    queue-ways (λ c. is_on_queue p (cond c (drop 1 (b q)) (b r)) ≡ false) r q (λ is. gone (b q) first (h.once q p)) (λ other. elsewhere b h p q r (first-on-queue p s (b q) first) other)
  where
    gone : (es : List Entry) → IsFirst p s es → count_of p es ≤ 1 → is_on_queue p (drop 1 es) ≡ false
    gone [] first once = refl
    gone (e ∷ es) first once = none-on-queue p es (omega (arith, once, hit-same p e.packet (sym first.0)))
