-- Bytes that are written change the words that hold them, and no others.
use Rattle.std.proofs.Common.{◌≡◌, ℕ, zero, suc, ◌+◌, ◌/◌, ◌<◌, ◌≤◌, ◌⊎◌, ◌||◌, Bool, true, false, List, [], ◌∷◌, map, get_or, set, length, leb, inl, inr, refl, sym, ap, ◌∙◌, subst, arith, get_or-set_other, get_or-set_same, length-set}
use Rattle.std.specs.List.{range_with_len}
use Rattle.std.proofs.lemmas.Bool.{and_parts, cases_eq, cases_lt, leb-true}
use Rattle.kernel_lists.specs.OwnedWords.Owned.{owners, written}
use Rattle.kernel_lists.specs.OwnedWords.Written.{IsWritten}
use Rattle.kernel_lists.proofs.OwnedWords.OwnedWords.{Holds-same, length-written}
use Rattle.kernel_model.specs.KernelRecord.Changes.{AreUnowned}
use Rattle.kernel_model.specs.KernelRecord.HoldsLists.{HoldsLists}
use Rattle.kernel_model.specs.KernelRecord.Lists.{Lists}
use Rattle.kernel_model.specs.KernelRecord.Owned.{owned}
use Rattle.resident_tasks.specs.ResidentRequests.Buffers.{covered, is_count, is_readable, is_unowned, is_writable, lies_beside, lies_inside, with_byte_in, with_bytes, written_buffer}
use Rattle.resident_tasks.specs.ResidentRequests.Requests.{HasRequest}
use Rattle.resident_tasks.specs.ResidentRequests.Turns.{HasWritten}
use Rattle.resident_tasks.specs.declared.resident_requests.requests.Request.{Request}
use Rattle.resident_tasks.proofs.ResidentRequests.BufferTests.{unowned-words}

pub with_bytes-length : (s : List ℕ) (a i : ℕ) (bs : List ℕ) → length (with_bytes s a i bs) ≡ length s
with_bytes-length s a i [] = refl
with_bytes-length s a i (b ∷ bs) = with_bytes-length (with_byte_in s a i b) a (i + 1) bs ∙ length-set s (a + i / 4) _

next-byte : (i n : ℕ) → i + 1 + n ≡ i + suc n
next-byte i n = omega arith

byte-covered : (i n : ℕ) → i / 4 < covered (i + suc n)
byte-covered i n = omega arith

pub with_bytes-other : (s : List ℕ) (a i : ℕ) (bs : List ℕ) (c : ℕ) → (a ≤ c → c < a + covered (i + length bs) → ⊥) → get_or (with_bytes s a i bs) c 0 ≡ get_or s c 0
with_bytes-other s a i [] c out = refl
with_bytes-other s a i (b ∷ bs) c out =
    with_bytes-other (with_byte_in s a i b) a (i + 1) bs c (λ low high. out low (subst (λ n. c < a + covered n) (next-byte i (length bs)) high))
    ∙ get_or-set_other s (a + i / 4) c _ 0 (λ e. out (omega (arith, e)) (omega (arith, e, byte-covered i (length bs))))

-- ---- words that are written, each by its address

module _ (f : ℕ → ℕ) (s : List ℕ) (c : ℕ) where
  written-map : (n a : ℕ) → a ≤ c → c < a + n → c < length s → get_or (written (map (λ b. (b, f b)) (range_with_len a n)) s) c 0 ≡ f c
  written-map zero a low high inside = absurd (omega (arith, low, high))
  written-map (suc n) a low high inside =
      elim (cases_eq c a) [
        | inl e ↦
            ap (λ z. get_or (set (written (map (λ b. (b, f b)) (range_with_len (a + 1) n)) s) a (f a)) z 0) e
            ∙ (get_or-set_same (written (map (λ b. (b, f b)) (range_with_len (a + 1) n)) s) a (f a) 0 (omega (arith, inside, e, length-written (map (λ b. (b, f b)) (range_with_len (a + 1) n)) s))
            ∙ ap f (sym e))
        | inr ne ↦
            get_or-set_other (written (map (λ b. (b, f b)) (range_with_len (a + 1) n)) s) a c (f a) 0 ne
            ∙ written-map n (a + 1) (omega (arith, low, ne)) (omega (arith, high)) inside
      ]

  written-map_other : (n a : ℕ) → (a ≤ c → c < a + n → ⊥) → get_or (written (map (λ b. (b, f b)) (range_with_len a n)) s) c 0 ≡ get_or s c 0
  written-map_other zero a out = refl
  written-map_other (suc n) a out =
      get_or-set_other (written (map (λ b. (b, f b)) (range_with_len (a + 1) n)) s) a c (f a) 0 (λ e. out (omega (arith, e)) (omega (arith, e)))
      ∙ written-map_other n (a + 1) (λ low high. out (omega (arith, low)) (omega (arith, high)))

-- ---- a buffer that may be written

pub record IsFree (s : List ℕ) (l : Lists) (p a n : ℕ) : Type 0 where
  pub inside : a + covered n ≤ length s
  pub beside : (a + covered n ≤ p) ⊎ (p + 5 ≤ a)
  pub unowned : AreUnowned l a (a + covered n)

either : (a b : ℕ) (c d : ℕ) → (leb a b || leb c d) ≡ true → (a ≤ b) ⊎ (c ≤ d)
either a b c d e = on (leb a b) refl e
  where
    on : (x : Bool) → leb a b ≡ x → (x || leb c d) ≡ true → (a ≤ b) ⊎ (c ≤ d)
    on true is e = inl (leb-true a b is)
    on false is e = inr (leb-true c d e)

pub writable-free : (s : List ℕ) (l : Lists) (p a n : ℕ) → is_writable s l p a n ≡ true → IsFree s l p a n
writable-free s l p a n e =
    let both = and_parts (is_readable s a n) _ e in
    let rest = and_parts (lies_beside p a n) (is_unowned l a n) both.1 in
    record {
      inside = leb-true (a + covered n) (length s) (and_parts (is_count n) (lies_inside s a n) both.0).1;
      beside = either (a + covered n) p (p + 5) a rest.0;
      unowned = unowned-words l a n rest.1;
    }

covered-fewer : (k n : ℕ) → k ≤ n → covered k ≤ covered n
covered-fewer k n low = omega (arith, low)

module _ (s : List ℕ) (l : Lists) (r : Request) (a n : ℕ) (bytes : List ℕ) (h : HoldsLists s l) (q : HasRequest s l r) (free : IsFree s l r.packet a n) (fits : length bytes ≤ n) where
  abbrev t : List ℕ
  t = with_bytes s a 0 bytes

  few : covered (length bytes) ≤ covered n
  few = covered-fewer (length bytes) n fits

  zero-length : 0 + length bytes ≡ length bytes
  zero-length = omega arith

  other : (c : ℕ) → (a ≤ c → c < a + covered (length bytes) → ⊥) → get_or t c 0 ≡ get_or s c 0
  other c out = with_bytes-other s a 0 bytes c (λ low high. out low (subst (λ k. c < a + covered k) zero-length high))

  beside : (i : ℕ) → i < 5 → get_or t (r.packet + i) 0 ≡ get_or s (r.packet + i) 0
  beside i low =
      other (r.packet + i)
      (λ from to.
      elim free.beside [
        | inl before ↦ absurd (omega (arith, before, to, few))
        | inr behind ↦ absurd (omega (arith, behind, from, low))
      ])

  owned-stay : (c : ℕ) → 0 < owners c (owned l) → get_or t c 0 ≡ get_or s c 0
  owned-stay c some = other c (λ from to. absurd (omega (arith, some, free.unowned c from (omega (arith, to, few)))))

  is-written : (c : ℕ) → get_or t c 0 ≡ get_or (written (written_buffer s a bytes) s) c 0
  is-written c =
      elim (cases_lt c a) [
        | inl below ↦ outside (λ from to. absurd (omega (arith, below, from)))
        | inr from ↦
            elim (cases_lt c (a + covered (length bytes))) [
              | inl to ↦ sym (written-map (λ b. get_or t b 0) s c (covered (length bytes)) a from to (omega (arith, to, few, free.inside)))
              | inr behind ↦ outside (λ low high. absurd (omega (arith, behind, high)))
            ]
      ]
    where
      outside : (a ≤ c → c < a + covered (length bytes) → ⊥) → get_or t c 0 ≡ get_or (written (written_buffer s a bytes) s) c 0
      outside out = other c out ∙ sym (written-map_other (λ b. get_or t b 0) s c (covered (length bytes)) a out)

  pub has-written : HasWritten s t l r a bytes
  has-written =
      let long : length t ≡ length s = with_bytes-length s a 0 bytes in
      let words : IsWritten s t (owned l) (written_buffer s a bytes) = record { holds = Holds-same s t (owned l) h.holds owned-stay; others = λ c none. is-written c } in
      record {
        lists = record { lists = record { valid = h.valid; size = long ∙ h.size; holds = words.holds }; size = long; written = words };
        has_request = record { sender = beside 1 (omega arith) ∙ q.sender; kind = beside 2 (omega arith) ∙ q.kind; there = q.there; lodged = q.lodged; plain = q.plain };
      }
