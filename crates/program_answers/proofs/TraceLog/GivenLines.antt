-- What a log of lines gives back.
use Rattle.std.proofs.Common.{◌≡◌, ◌∙◌, ℕ, ◌≤◌, Bool, true, false, Option, Some, Result, Ok, Err, List, [], ◌++◌, sym, ap, subst, append_assoc, append-nil}
use Rattle.std.specs.Prelude.{MatchResult, OnOk}
use Rattle.std.specs.Bool.{OnFalse, OnTrue}
use Rattle.std.specs.List.{flat_map}
use Rattle.std.specs.Coded.{le_prop}
use Rattle.std.proofs.Math.Logic.{∥∥₁_elim, ∥∥₁_map}
use Rattle.std.proofs.lemmas.Grind.{flat_map-append}
use Rattle.byte_streams.specs.Faults.{Rose}
use Rattle.byte_streams.specs.Pending.{IsGathered}
use Rattle.byte_streams.specs.Write.{AppendsPrefix, HasCause}
use Rattle.kernel_lists.specs.declared.packet_queue.events.KernelEvent.{KernelEvent}
use Rattle.program_answers.specs.TraceLog.Traced.{GivesPending, Reaches, Traced}
use Rattle.kernel_model.specs.KernelRecord.NotedEvents.{NotesAll}
use Rattle.byte_streams.proofs.AppendedTexts.{AppendsPrefix-more}
use Rattle.program_answers.proofs.TraceLog.KnownTexts.{AppendsPrefix-known, IsGathered-known}
use Rattle.program_answers.proofs.TraceLog.TracedNotes.{failed-works}

-- what is pending is given back, unless the sink has failed
abbrev pub Unless : {E : Type 0} → List ℕ → Bool → Result (List ℕ) E → Type 0
Unless pending cut result = MatchResult result (λ p. (cut ≡ false) × (p ≡ pending)) (λ _. cut ≡ true)

module _ {first now : Option (List ℕ)} {a b : ℕ} {before pending : List ℕ} {line : KernelEvent → List ℕ} {es : List KernelEvent} {cut failed : Bool} where
  later-unless : ∥ Traced first now a b before pending line es cut failed ∥₁ → a ≤ b
  later-unless t = ∥∥₁_elim t le_prop (λ r. r.later)

  pub GivesPending-unless : {E : Type 0} (result : Result (List ℕ) E) → Unless pending cut result → ∥ Traced first now a b before pending line es cut failed ∥₁ → GivesPending first now (before ++ flat_map line es) result
  GivesPending-unless (Ok p) u t =
      IsGathered-known first now p (before ++ flat_map line es) (∥∥₁_map t (λ r. rw u.1 (subst (λ (v : Bool). Reaches first now pending (before ++ flat_map line es) v) u.0 r.lines)))
  GivesPending-unless (Err e) u t =
      AppendsPrefix-known first now (before ++ flat_map line es) (∥∥₁_map t (λ r. subst (λ (v : Bool). Reaches first now pending (before ++ flat_map line es) v) u r.lines))

  pub HasCause-unless : {E : Type 0} (result : Result (List ℕ) E) → Unless pending cut result → ∥ Traced first now a b before pending line es cut failed ∥₁ → HasCause a b result
  HasCause-unless (Ok p) u t = record { later = later-unless t; failed = tt }
  HasCause-unless (Err e) u t = record { later = later-unless t; failed = ∥∥₁_elim t le_prop (λ r. subst (λ (v : Bool). OnTrue v (Rose a b)) u r.rose) }

  pub OnOk-unless : {E : Type 0} (result : Result (List ℕ) E) → Unless pending cut result → ∥ Traced first now a b before pending line es cut failed ∥₁ → OnOk result (failed ≡ false)
  OnOk-unless (Ok p) u t = failed-works u.0 t
  OnOk-unless (Err e) u t = tt

-- The lines of all events, from those that the log has noted: it began with none.
module _ {E : Type 0} {h was : Option (List ℕ)} (k : Option (List ℕ)) {before pending : List ℕ} (line : KernelEvent → List ℕ) {bs es : List KernelEvent} {had_failed failed : Bool} {events : List KernelEvent} where
  pub GivesPending-all : (result : Result (List ℕ) E) → was ≡ h → before ≡ pending → bs ≡ [] → NotesAll (Some bs) (Some es) had_failed failed events → OnOk result (failed ≡ false)
      → GivesPending was k (before ++ flat_map line es) result → GivesPending h k (pending ++ flat_map line events) result
  GivesPending-all (Ok p) first same none all works gives =
      let rest : all.rest ≡ [] = subst (λ (v : Bool). OnFalse v (all.rest ≡ [])) works all.whole in
      let noted : es ≡ all.front = cc all.gained ∙ ap (λ v. v ++ all.front) none in
      let is : es ≡ events = noted ∙ sym (all.is ∙ ap (λ v. all.front ++ v) rest ∙ append-nil all.front) in
      subst (λ (v : Option (List ℕ)). IsGathered v k [] p (pending ++ flat_map line events)) first
      (subst (λ (v : List ℕ). IsGathered was k [] p (v ++ flat_map line events)) same (subst (λ (v : List KernelEvent). IsGathered was k [] p (before ++ flat_map line v)) is gives))
  GivesPending-all (Err e) first same none all works gives =
      let noted : es ≡ all.front = cc all.gained ∙ ap (λ v. v ++ all.front) none in
      let more : flat_map line events ≡ flat_map line es ++ flat_map line all.rest = ap (flat_map line) all.is ∙ flat_map-append line all.front all.rest ∙ ap (λ v. flat_map line v ++ flat_map line all.rest) (sym noted) in
      let whole : pending ++ flat_map line events ≡ (before ++ flat_map line es) ++ flat_map line all.rest = ap (λ v. pending ++ v) more ∙ ap (λ v. v ++ (flat_map line es ++ flat_map line all.rest)) (sym same) ∙ sym (append_assoc before (flat_map line es) (flat_map line all.rest)) in
      rw whole (subst (λ (v : Option (List ℕ)). AppendsPrefix v k ((before ++ flat_map line es) ++ flat_map line all.rest)) first (AppendsPrefix-more was k (before ++ flat_map line es) (flat_map line all.rest) gives))
