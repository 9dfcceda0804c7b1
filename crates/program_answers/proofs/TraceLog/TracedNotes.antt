-- A note in a log that gathers lines.
use Rattle.std.proofs.Common.{◌≡◌, ◌∙◌, ℕ, Bool, true, false, Option, Some, Result, Ok, Err, List, [], ◌∷◌, ◌++◌, refl, sym, ap, subst, append_assoc, append-nil, arith}
use Rattle.std.specs.Prelude.{is_err}
use Rattle.std.specs.Bool.{OnFalse}
use Rattle.std.specs.List.{flat_map}
use Rattle.std.specs.Coded.{Coded-set, coded_bool}
use Rattle.std.proofs.Math.Logic.{∥∥₁_elim, ∥∥₁_map}
use Rattle.std.proofs.lemmas.Grind.{flat_map-append}
use Rattle.byte_streams.specs.Pending.{Gathers}
use Rattle.byte_streams.specs.Write.{HasCause}
use Rattle.byte_streams.proofs.GatheredTexts.{IsCut-first, IsCut-then, IsGathered-then}
use Rattle.kernel_lists.specs.PacketQueue.Log.{Notes}
use Rattle.kernel_lists.specs.declared.packet_queue.events.KernelEvent.{KernelEvent}
use Rattle.program_answers.specs.TraceLog.Traced.{Traced}

-- the line of one event more
lines-more : (before : List ℕ) (line : KernelEvent → List ℕ) (es : List KernelEvent) (e : KernelEvent) → before ++ flat_map line (es ++ e ∷ []) ≡ (before ++ flat_map line es) ++ line e
lines-more before line es e =
    ap (λ v. before ++ v) (flat_map-append line es (e ∷ []) ∙ ap (λ v. flat_map line es ++ v) (append-nil (line e))) ∙ sym (append_assoc before (flat_map line es) (line e))

-- an event is lost, since the sink has failed
pub Traced-lost : {first now : Option (List ℕ)} {c d : ℕ} {before pending : List ℕ} {line : KernelEvent → List ℕ} {es : List KernelEvent} {cut failed : Bool} → cut ≡ true → ∥ Traced first now c d before pending line es cut failed ∥₁ → ∥ Traced first now c d before pending line es cut true ∥₁
Traced-lost {cut = cut} is t = ∥∥₁_map t (λ r. record { lines = r.lines; later = r.later; rose = r.rose; works = rw is tt })

-- the line of an event is gathered, or the sink fails at it
module _ {first m k : Option (List ℕ)} {a b : ℕ} {before p q : List ℕ} {line : KernelEvent → List ℕ} {es : List KernelEvent} {failed : Bool} (e : KernelEvent) where
  Traced-note : {c : ℕ} {T E : Type 0} (result : Result T E) → Traced first m a b before p line es false failed → Gathers m k p q (line e) result → HasCause b c result → Traced first k a c before q line (es ++ e ∷ []) (is_err result) failed
  Traced-note {c} (Ok x) r g h = record {
    lines = rw (lines-more before line es e) (IsGathered-then r.lines g);
    later = omega (arith, r.later, h.later);
    rose = tt;
    works = r.works;
  }
  Traced-note {c} (Err x) r g h = record {
    lines = rw (lines-more before line es e) (IsCut-first refl (IsCut-then r.lines g));
    later = omega (arith, r.later, h.later);
    rose = omega (arith, r.later, h.failed);
    works = tt;
  }

  pub Traced-more : {c : ℕ} {T E : Type 0} (result : Result T E) {cut now_cut : Bool} {fs : List KernelEvent} → cut ≡ false → now_cut ≡ is_err result → fs ≡ es ++ e ∷ [] → ∥ Traced first m a b before p line es cut failed ∥₁ → Gathers m k p q (line e) result → HasCause b c result → ∥ Traced first k a c before q line fs now_cut failed ∥₁
  Traced-more {c} result none is more t g h = ∥∥₁_map t (λ r. rw (is, more) (Traced-note result (subst (λ (v : Bool). Traced first m a b before p line es v failed) none r) g h))

-- a log that still gathers has lost nothing
pub failed-works : {first m : Option (List ℕ)} {a b : ℕ} {before p : List ℕ} {line : KernelEvent → List ℕ} {es : List KernelEvent} {cut failed : Bool} → cut ≡ false → ∥ Traced first m a b before p line es cut failed ∥₁ → failed ≡ false
failed-works {failed = failed} none t = ∥∥₁_elim t (Coded-set coded_bool failed false) (λ r. subst (λ (v : Bool). OnFalse v (failed ≡ false)) none r.works)

-- it tells an event more
pub Notes-more : (front es fs : List KernelEvent) (e : KernelEvent) (failed : Bool) → failed ≡ false → fs ≡ es ++ e ∷ [] → Notes (Some (front ++ es)) (Some (front ++ fs)) failed failed e
Notes-more front es fs e failed works more = rw works (record { for_good = λ f. absurd (cc f); added = ap Some (ap (λ v. front ++ v) more ∙ sym (append_assoc front es (e ∷ []))); kept = tt })
