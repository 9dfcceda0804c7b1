-- The kernel owns none of a guest's globals exactly where no queued packet has a word there.
use Rattle.std.proofs.Common.{◌≡◌, ℕ, zero, suc, ◌+◌, ◌<◌, ◌≤◌, ◌&&◌, ◌||◌, List, [], ◌∷◌, leb, ltb, Bool, true, false, inl, inr, refl, sym, ap, ◌∙◌, arith}
use Rattle.std.specs.List.{list_any, range_with_len}
use Rattle.std.proofs.lemmas.Bool.{and_parts, cases_eq, false≢true, le-leb, leb-true, lt-ltb, or_right}
use Rattle.std.proofs.lemmas.Bool.Decides.{nat_tests}
use Rattle.std.proofs.lemmas.List.Folds.{list_any-append}
use Rattle.kernel_lists.specs.PacketQueue.QueueWords.{QueuedPacket}
use Rattle.kernel_model.specs.KernelRecord.Changes.{AreUnowned}
use Rattle.kernel_model.specs.KernelRecord.HoldsLists.{HoldsLists}
use Rattle.kernel_model.specs.KernelRecord.KernelRanges.{is_kernel_word, list_ranges, meets, packet_ranges, packet_words_of}
use Rattle.kernel_model.specs.KernelRecord.Lists.{Lists, queued}
use Rattle.kernel_model.specs.KernelRecord.Task.{globals_of}
use Rattle.kernel_model.proofs.KernelRecord.AllThings.{all-fail}
use Rattle.kernel_model.proofs.KernelRecord.EachMember.{all-each}
use Rattle.kernel_model.proofs.KernelRecord.PacketRanges.{queued-packets}
use Rattle.kernel_model.proofs.KernelRecord.RangesOwned.{ranges-owned}
use Rattle.kernel_calls.specs.CallAnswers.Guests.{GuestAt}
use Rattle.kernel_calls.specs.ModuleCalls.AddModule.{lies_in_globals}
use Rattle.kernel_calls.proofs.ModuleCalls.AdditionTests.{facts, is-guest}
use Rattle.kernel_calls.proofs.ModuleCalls.GlobalOwners.{globals-unowned}
use Rattle.kernel_calls.proofs.ModuleCalls.TaskGlobals.{globals-behind}

-- ---- a test of some words in a row

any-range : (f : ℕ → Bool) (p n a : ℕ) → f a ≡ true → p ≤ a → a < p + n → list_any f (range_with_len p n) ≡ true
any-range f p zero a e low high = absurd (omega (arith, low, high))
any-range f p (suc n) a e low high =
    elim (cases_eq a p) [
      | inl same ↦ ap (λ b. b || list_any f (range_with_len (p + 1) n)) (ap f (sym same) ∙ e)
      | inr other ↦ or_right (f p) (list_any f (range_with_len (p + 1) n)) (any-range f (p + 1) n a e (omega (arith, low, other)) (omega (arith, high)))
    ]

record IsInRange (f : ℕ → Bool) (p n : ℕ) : Type 0 where
  pub word : ℕ
  pub low : p ≤ word
  pub high : word < p + n
  pub passes : f word ≡ true

range-found : (f : ℕ → Bool) (p n : ℕ) → list_any f (range_with_len p n) ≡ true → IsInRange f p n
range-found f p zero e = cc
range-found f p (suc n) e = on (f p) refl e (range-found f (p + 1) n)
  where
    on : (b : Bool) → f p ≡ b → (b || list_any f (range_with_len (p + 1) n)) ≡ true → (list_any f (range_with_len (p + 1) n) ≡ true → IsInRange f (p + 1) n) → IsInRange f p (suc n)
    on true is e more = record { word = p; low = omega arith; high = omega arith; passes = is }
    on false is e more = (let r = more e in record { word = r.word; low = omega (arith, r.low); high = omega (arith, r.high); passes = r.passes })

-- ---- packets

module _ (start : ℕ) where
  abbrev in_globals : ℕ → Bool
  in_globals a = leb start a && ltb a (start + 1001)

  record HasWord (ps : List QueuedPacket) : Type 0 where
    pub word : ℕ
    pub low : start ≤ word
    pub high : word < start + 1001
    pub met : list_any (meets word (word + 1)) (packet_words_of ps) ≡ true

  -- a word of a packet among the globals
  packet-word : (ps : List QueuedPacket) → list_any (lies_in_globals start) ps ≡ true → HasWord ps
  packet-word [] e = cc
  packet-word (p ∷ ps) e = on (lies_in_globals start p) refl e (packet-word ps)
    where
      low-of : (a : ℕ) → in_globals a ≡ true → (start ≤ a) × (a < start + 1001)
      low-of a e = (let both = and_parts (leb start a) (ltb a (start + 1001)) e in (leb-true start a both.0, less a (start + 1001) both.1))
        where
          less : (x y : ℕ) → ltb x y ≡ true → x < y
          less x y h = grind (arith, nat_tests)

      meets-it : (a : ℕ) → p.address ≤ a → a < p.address + 5 → meets a (a + 1) (record { first = p.address; count = 5 }) ≡ true
      meets-it a low high = λ i. ((lt-ltb a (a + 1) (omega arith) i && true) && lt-ltb p.address (a + 1) (omega (arith, low)) i) && lt-ltb a (p.address + 5) high i

      on : (b : Bool) → lies_in_globals start p ≡ b → (b || list_any (lies_in_globals start) ps) ≡ true → (list_any (lies_in_globals start) ps ≡ true → HasWord ps) → HasWord (p ∷ ps)
      on true is e more =
          let r : IsInRange in_globals p.address 5 = range-found in_globals p.address 5 is in
          let w = low-of r.word r.passes in
          record { word = r.word; low = w.0; high = w.1; met = ap (λ b. b || list_any (meets r.word (r.word + 1)) (packet_words_of ps)) (meets-it r.word r.low r.high) }
      on false is e more =
          let r : HasWord ps = more e in
          record { word = r.word; low = r.low; high = r.high; met = or_right (meets r.word (r.word + 1) (record { first = p.address; count = 5 })) (list_any (meets r.word (r.word + 1)) (packet_words_of ps)) r.met }

module _ (s : List ℕ) (l : Lists) (id address : ℕ) (h : HoldsLists s l) (g : GuestAt l id address) where
  abbrev start : ℕ
  start = globals_of l.version g.task

  pub empty-unowned : list_any (lies_in_globals start) (queued l) ≡ false → AreUnowned l start (start + 1001)
  empty-unowned e a low high =
      let behind = globals-behind s l id address h g in
      globals-unowned l h.valid g.front g.task g.back g.is (facts s l id address h g).guest (is-guest s l id address h g) a (omega (arith, behind, low)) (omega (arith, behind, high))
      (all-each (λ p. lies_in_globals start p ≡ false) (λ p. p.address ≤ a → a < p.address + 5 → ⊥)
      (λ p none below above. false≢true (sym none ∙ any-range (in_globals start) p.address 5 a (λ i. le-leb start a low i && lt-ltb a (start + 1001) high i) below above))
      (queued l) (all-fail (lies_in_globals start) (queued l) e))

  pub unowned-empty : AreUnowned l start (start + 1001) → list_any (lies_in_globals start) (queued l) ≡ false
  unowned-empty unowned = on (list_any (lies_in_globals start) (queued l)) refl
    where
      on : (b : Bool) → list_any (lies_in_globals start) (queued l) ≡ b → b ≡ false
      on false e = refl
      on true e =
          let w : HasWord start (queued l) = packet-word start (queued l) e in
          let met : list_any (meets w.word (w.word + 1)) (packet_ranges s) ≡ true = ap (list_any (meets w.word (w.word + 1))) (queued-packets s l h) ∙ w.met in
          let kernel : is_kernel_word s w.word ≡ true =
          list_any-append (meets w.word (w.word + 1)) (list_ranges s) (packet_ranges s)
          ∙ or_right (list_any (meets w.word (w.word + 1)) (list_ranges s)) (list_any (meets w.word (w.word + 1)) (packet_ranges s)) met
          in
          absurd (omega (arith, unowned w.word w.low w.high, (ranges-owned s l h w.word).0 kernel))
