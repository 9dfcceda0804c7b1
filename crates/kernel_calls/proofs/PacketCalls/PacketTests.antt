-- What the tests of a packet say of its words.
use Rattle.std.proofs.Common.{◌≡◌, ℕ, zero, suc, ◌+◌, ◌<◌, ◌≤◌, ◌&&◌, ◌||◌, Bool, true, false, not, Option, Some, None, Result, Err, List, [], ◌∷◌, cond, eqb, ltb, find, get_or, inl, inr, refl, sym, ap, ◌∙◌, arith}
use Rattle.std.specs.List.{list_any, range_with_len}
use Rattle.std.specs.Option.{option_map_or}
use Rattle.std.proofs.lemmas.Bool.{and_parts, cases_eq, cases_lt, lt-ltb, ltb-true, not-true, or_parts}
use Rattle.kernel_lists.specs.OwnedWords.Owned.{owners}
use Rattle.kernel_lists.specs.declared.getvec_chain.pieces.Block.{Block}
use Rattle.kernel_lists.specs.GetvecChain.Block.{block_end, has_data}
use Rattle.kernel_lists.specs.GetvecChain.Tiling.{holding}
use Rattle.kernel_lists.specs.PacketQueue.Queue.{no_queue}
use Rattle.kernel_model.specs.KernelRecord.Changes.{AreUnowned}
use Rattle.kernel_model.specs.KernelRecord.Lists.{Lists}
use Rattle.kernel_model.specs.KernelRecord.Owned.{owned}
use Rattle.kernel_model.specs.KernelRecord.ValidBlocks.{AreData}
use Rattle.kernel_calls.specs.CallAnswers.Refusals.{answer_of, first_refusal}
use Rattle.kernel_calls.specs.PacketCalls.Qpkt.{is_lodged, is_plain, packet_tests}
use Rattle.kernel_calls.proofs.CallAnswers.Refusals.{answer_of-err}

-- ---- data of one used block

pub lodged-data : (l : Lists) (p : ℕ) → is_lodged l p ≡ true → AreData l.blocks p 5
lodged-data l p e = on (holding p l.blocks) refl e
  where
    on : (o : Option Block) → holding p l.blocks ≡ o → option_map_or (λ b. not b.free && has_data b (p + 4)) o false ≡ true → AreData l.blocks p 5
    on None is e = cc
    on (Some b) is e =
        let both = and_parts (not b.free) (has_data b (p + 4)) e in
        record {
          block = b;
          holds = is;
          used = not-true b.free both.0;
          whole = omega (arith, ltb-true (p + 4) (block_end b) (and_parts (ltb b.start (p + 4)) (ltb (p + 4) (block_end b)) both.1).1);
        }

-- ---- plain words

pub any-none : (f : ℕ → Bool) (n a : ℕ) → ((c : ℕ) → a ≤ c → c < a + n → f c ≡ false) → list_any f (range_with_len a n) ≡ false
any-none f zero a none = refl
any-none f (suc n) a none =
    ap (λ b. b || list_any f (range_with_len (a + 1) n)) (none a (omega arith) (omega arith)) ∙ any-none f n (a + 1) (λ c low high. none c (omega (arith, low)) (omega (arith, high)))

pub none-each : (f : ℕ → Bool) (n a : ℕ) → list_any f (range_with_len a n) ≡ false → (c : ℕ) → a ≤ c → c < a + n → f c ≡ false
none-each f zero a none c low high = absurd (omega (arith, low, high))
none-each f (suc n) a none c low high =
    let both = or_parts (f a) (list_any f (range_with_len (a + 1) n)) none in
    elim (cases_eq c a) [
      | inl e ↦ ap f e ∙ both.0
      | inr ne ↦ none-each f n (a + 1) both.1 c (omega (arith, low, ne)) (omega (arith, high))
    ]

pub plain-unowned : (l : Lists) (p : ℕ) → is_plain l p ≡ true → AreUnowned l p (p + 5)
plain-unowned l p e c low high =
    elim (cases_lt 0 (owners c (owned l))) [
      | inl some ↦ absurd (clash (ltb 0 (owners c (owned l))) (lt-ltb 0 (owners c (owned l)) some) (none-each (λ a. ltb 0 (owners a (owned l))) 5 p (not-true _ e) c low high))
      | inr none ↦ omega (arith, none)
    ]
  where
    clash : (b : Bool) → b ≡ true → b ≡ false → ⊥
    clash b e f = cc

pub unowned-plain : (l : Lists) (p : ℕ) → AreUnowned l p (p + 5) → is_plain l p ≡ true
unowned-plain l p none = ap not (any-none (λ a. ltb 0 (owners a (owned l))) 5 p (λ c low high. ap (λ n. ltb 0 n) (none c low high)))

-- ---- in their order

pub tests-are : (s : List ℕ) (l : Lists) (p : ℕ) (lodged free plain : Bool) → is_lodged l p ≡ lodged → eqb (get_or s p 0) no_queue ≡ free → is_plain l p ≡ plain
    → first_refusal (packet_tests s l p) ≡ cond lodged (cond free (cond plain None (Some 5)) (Some 3)) (Some 5)
tests-are s l p lodged free plain a b c = λ i. cond (a i) (cond (b i) (cond (c i) None (Some 5)) (Some 3)) (Some 5)

-- a packet that passes them
pub record PassesTests (l : Lists) (p : ℕ) : Type 0 where
  pub lodged : AreData l.blocks p 5
  pub plain : AreUnowned l p (p + 5)

pub passes-tests : (s : List ℕ) (l : Lists) (p : ℕ) → first_refusal (packet_tests s l p) ≡ None → PassesTests l p
passes-tests s l p e = on (is_lodged l p) (eqb (get_or s p 0) no_queue) (is_plain l p) refl refl e
  where
    on : (a b c : Bool) → is_lodged l p ≡ a → is_plain l p ≡ c → ◌≡◌ {A = Option ℕ} (cond a (cond b (cond c None (Some 5)) (Some 3)) (Some 5)) None → PassesTests l p
    on true true true a c e = record { lodged = lodged-data l p a; plain = plain-unowned l p c }
    on true true false a c e = cc
    on true false c a d e = cc
    on false b c a d e = cc
