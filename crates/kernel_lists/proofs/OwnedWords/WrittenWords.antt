-- The words that a call writes, and what the store holds afterwards.
use Rattle.std.proofs.Common.{◌≡◌, ℕ, ◌+◌, ◌<◌, List, ◌++◌, get_or, sym, ◌∙◌, subst, arith, inl, inr, Some, Option}
use Rattle.std.proofs.lemmas.Bool.{cases_lt}
use Rattle.kernel_lists.specs.OwnedWords.Owned.{AreApart, AreInside, Holds, Pairs, owners, written}
use Rattle.kernel_lists.specs.OwnedWords.Written.{HoldsWrites, IsWritten, OrderedWrites, Writes}
use Rattle.kernel_lists.proofs.OwnedWords.OwnedWords.{Holds-append, Holds-same, Holds-written, length-written, owners-append, word_in-holds, written-append, written-other}

-- however the store came about
pub known-writes-hold : (s t : List ℕ) (before after old new plain : Pairs) → HoldsWrites s t before after old new plain → IsWritten s t after plain
known-writes-hold s t before after old new plain w =
    let rest : Pairs = w.exchange.rest in
    let count : (a : ℕ) → owners a after ≡ owners a rest + owners a new = λ a. w.exchange.then'.count a in
    let unwritten : (a : ℕ) → 0 < owners a after → owners a plain ≡ 0 = λ a h.
    elim (cases_lt 0 (owners a plain)) [ inl more ↦ absurd (omega (arith, w.unowned a more)) | inr none ↦ omega arith ]
    in
    let of_rest : Holds t rest =
    Holds-same s t rest (w.exchange.first.opens s w.holds).0
    (λ a h. w.others a (omega (arith, h, count a, w.apart a)) ∙ written-other a plain s (unwritten a (omega (arith, h, count a))))
    in
    record { holds = w.exchange.then'.closes t of_rest w.there; others = λ a none. w.others a (omega (arith, none, count a)) }

-- what is owned afterwards besides the rest, and that no plain word is among it
record AfterWrites (s : List ℕ) (after new kept plain rest : Pairs) : Type 0 where
  pub count : (a : ℕ) → owners a after ≡ owners a rest + (owners a new + owners a kept)
  pub unwritten : (a : ℕ) → 0 < owners a after → owners a plain ≡ 0

after_writes : (s : List ℕ) (before after old new kept plain : Pairs) (w : Writes s before after old new kept plain) → AfterWrites s after new kept plain w.exchange.rest
after_writes s before after old new kept plain w =
    record {
      count = λ a. omega (arith, w.exchange.then'.count a, owners-append a new kept);
      unwritten = λ a h. elim (cases_lt 0 (owners a plain)) [ inl more ↦ absurd (omega (arith, w.unowned a more)) | inr none ↦ omega arith ];
    }

-- the new words are written after the plain ones
pub writes-hold : (s : List ℕ) (before after old new kept plain : Pairs) → Writes s before after old new kept plain → IsWritten s (written (new ++ plain) s) after plain
writes-hold s before after old new kept plain w =
    let p : List ℕ = written plain s in
    let t : List ℕ = written new p in
    let c : AfterWrites s after new kept plain w.exchange.rest = after_writes s before after old new kept plain w in
    let apart : AreApart new = λ a. omega (arith, w.apart a, c.count a) in
    let inside : AreInside p new = λ a h. omega (arith, length-written plain s, w.inside a (omega (arith, h, c.count a))) in
    let of_kept : Holds t kept =
    Holds-same s t kept w.there
    (λ a h. written-other a new p (omega (arith, h, c.count a, w.apart a)) ∙ written-other a plain s (c.unwritten a (omega (arith, h, c.count a))))
    in
    subst (λ z. IsWritten s z after plain) (sym (written-append new plain s))
    (known-writes-hold s t before after old (new ++ kept) plain
    (record {
      holds = w.holds;
      exchange = w.exchange;
      there = Holds-append t new kept (Holds-written new p apart inside) of_kept;
      others = λ a none. written-other a new p (omega (arith, none, owners-append a new kept));
      apart = w.apart;
      unowned = w.unowned;
    }))

-- all are written in some order
pub ordered-hold : (s : List ℕ) (before after old new kept plain all : Pairs) → OrderedWrites s before after old new kept plain all → IsWritten s (written all s) after plain
ordered-hold s before after old new kept plain all o =
    let w : Writes s before after old new kept plain = o.writes in
    let t : List ℕ = written all s in
    let c : AfterWrites s after new kept plain w.exchange.rest = after_writes s before after old new kept plain w in
    let total : (a : ℕ) → owners a all ≡ owners a plain + owners a new = λ a. o.order.count a in
    let apart : AreApart all = λ a.
    elim (cases_lt 0 (owners a plain)) [
      | inl some ↦ omega (arith, total a, o.once a, w.unowned a some, c.count a)
      | inr none ↦ omega (arith, total a, w.apart a, c.count a)
    ]
    in
    let inside : AreInside s all = λ a h.
    elim (cases_lt 0 (owners a plain)) [
      | inl some ↦ o.plain_inside a some
      | inr none ↦ w.inside a (omega (arith, h, total a, c.count a))
    ]
    in
    let both : Holds t plain × Holds t new = o.order.opens t (Holds-written all s apart inside) in
    let of_kept : Holds t kept = Holds-same s t kept w.there
    (λ a h. written-other a all s (omega (arith, total a, c.unwritten a (omega (arith, h, c.count a)), h, c.count a, w.apart a)))
    in
    known-writes-hold s t before after old (new ++ kept) plain
    (record {
      holds = w.holds;
      exchange = w.exchange;
      there = Holds-append t new kept both.1 of_kept;
      others = λ a none.
          elim (cases_lt 0 (owners a plain)) [
            | inl some ↦ same (get_or t a 0) (get_or (written plain s) a 0)
                (sym (word_in-holds t a plain both.0 some) ∙ word_in-holds (written plain s) a plain (Holds-written plain s o.once o.plain_inside) some)
            | inr zero' ↦ written-other a all s (omega (arith, total a, none, owners-append a new kept)) ∙ sym (written-other a plain s (omega arith))
          ];
      apart = w.apart;
      unowned = w.unowned;
    })
  where
    same : (x y : ℕ) → ◌≡◌ {A = Option ℕ} (Some x) (Some y) → x ≡ y
    same x y e = cc
