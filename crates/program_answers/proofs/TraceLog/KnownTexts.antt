-- What a sink holds, known from the mere fact that it is so.
use Rattle.std.proofs.Common.{◌≡◌, ◌∙◌, ℕ, ◌-◌, List, [], ◌++◌, Option, None, Some, length, take, drop, refl, sym, ap, arith, length-append}
use Rattle.std.proofs.Math.Logic.{∥∥₁_elim, ∥∥₁_map}
use Rattle.std.proofs.Math.Seq.{drop-append_seam, take-append_seam}
use Rattle.std.specs.Coded.{Coded-set, coded_list, coded_ℕ}
use Rattle.std.specs.Io.KnownBytes.{Appends}
use Rattle.byte_streams.specs.Pending.{IsGathered}
use Rattle.byte_streams.specs.Write.{AppendsPrefix}

texts_same : {a b : List ℕ} → ∥ a ≡ b ∥₁ → a ≡ b
texts_same {a} {b} t = ∥∥₁_elim t (Coded-set (coded_list coded_ℕ) a b) (λ e. e)

pub Appends-known : (h k : Option (List ℕ)) (a : List ℕ) → ∥ Appends h k a ∥₁ → Appends h k a
Appends-known None k a t = tt
Appends-known (Some xs) None a t = ∥∥₁_elim t (λ x y. absurd x) (λ x. x)
Appends-known (Some xs) (Some ys) a t = texts_same t

-- the text without its end
abbrev front_of : List ℕ → List ℕ → List ℕ
front_of text end = take (length text - length end) text

front_of-append : (text front end : List ℕ) → text ≡ front ++ end → front_of text end ≡ front
front_of-append text front end is =
    let count : length text - length end ≡ length front = omega (arith, ap length is, length-append front end) in
    ap (λ n. take n text) count ∙ ap (take (length front)) is ∙ take-append_seam front end

pub IsGathered-known : (h k : Option (List ℕ)) (end text : List ℕ) → ∥ IsGathered h k [] end text ∥₁ → IsGathered h k [] end text
IsGathered-known h k end text t = record {
  front = front_of text end;
  whole = texts_same (∥∥₁_map t (λ g. g.whole ∙ ap (λ v. v ++ end) (sym (front_of-append text g.front end g.whole))));
  sent = Appends-known h k (front_of text end) (∥∥₁_map t (λ g. rw (front_of-append text g.front end g.whole) g.sent));
}

pub AppendsPrefix-known : (h k : Option (List ℕ)) (text : List ℕ) → ∥ AppendsPrefix h k text ∥₁ → AppendsPrefix h k text
AppendsPrefix-known None k text t = ([], text, refl, tt)
AppendsPrefix-known (Some xs) None text t = absurd (∥∥₁_elim t (λ x y. absurd x) (λ q. q.3))
AppendsPrefix-known (Some xs) (Some ys) text t =
    let front : List ℕ = drop (length xs) ys in (
      front,
      drop (length front) text,
      texts_same (∥∥₁_map t (λ q. let is : front ≡ q.0 = ap (drop (length xs)) q.3 ∙ drop-append_seam xs q.0 in
          let rest : drop (length q.0) text ≡ q.1 = ap (drop (length q.0)) q.2 ∙ drop-append_seam q.0 q.1 in
          rw (is, rest) q.2)),
      texts_same (∥∥₁_map t (λ q. rw (ap (drop (length xs)) q.3 ∙ drop-append_seam xs q.0) q.3)),
    )
