-- How far the rounds of a ring have come.
use Rattle.std.proofs.Common.{[], ◌≡◌, ℕ, ◌+◌, ◌-◌, ◌≤◌, ◌++◌, Bool, Option, Some, None, List, length, sym, ap, ◌∙◌, subst, arith, length-append, length-drop}
use Rattle.std.specs.Prelude.{unwrap_or}
use Rattle.byte_streams.specs.Pending.{IsCut, IsGathered}
use Rattle.byte_streams.proofs.GatheredTexts.{IsCut-more, IsCut-then, IsGathered-nothing, IsGathered-then}
use Rattle.kernel_model.specs.declared.kernel_record.stops.Stop.{Stop}
use Rattle.kernel_model.specs.declared.kernel_record.stops.Stop.TheVariants.{Steps}
use Rattle.tripos_machine.specs.Runs.{end_of_run}
use Rattle.tripos_machine.specs.State.{State, stop_of}
use Rattle.machine_ring.specs.Links.{Link, carried, carried_byte, carries_back}
use Rattle.machine_ring.specs.Outcomes.{outcome_of}
use Rattle.machine_ring.specs.Rings.{Left, Ring, first_ring}
use Rattle.machine_ring.specs.Rounds.{Rounded, after_answer, after_round, first_of, has_room, right_after, round, shown_by, stepped, with_typing}
use Rattle.machine_ring.specs.Runs.{and_then, run}
use Rattle.machine_ring.specs.declared.outcomes.RingOutcome.{RingOutcome}
use Rattle.machine_ring.specs.declared.terms.Terms.{Terms}
use Rattle.machine_ring.proofs.RingEvents.{rounds-acknowledged, rounds-count, rounds-outstanding, rounds-prefix, rounds-waiting}
use Rattle.machine_ring.proofs.RingRuns.{run-ended, run-more, run-one, run-zero}
use Rattle.tripos_machine.proofs.RunParts.{ends-all}

-- the rounds of a ring led to this one
abbrev pub Ran : Ring → Ring → Type 0
Ran f r = r ≡ (run r.link.rounds f).ring

pub ran-first : (f r : Ring) → r ≡ f → r.link.rounds ≡ 0 → Ran f r
ran-first f r is none = is ∙ sym (ap (λ (x : Rounded). x.ring) (ap (λ n. run n f) none ∙ run-zero f))

pub gathered-first : (f : Ring) (n : ℕ) → n ≡ 0 → (h : Option (List ℕ)) (p : List ℕ) → IsGathered h h p p (run n f).shown
gathered-first f n none h p = subst (IsGathered h h p p) (sym (ap (λ (x : Rounded). x.shown) (ap (λ m. run m f) none ∙ run-zero f))) (IsGathered-nothing h p)

-- ---- some rounds more

module _ (f r s : Ring) (ran : Ran f r) (m : ℕ) (rounds : s.link.rounds ≡ r.link.rounds + m) (is : s ≡ (run m r).ring) where
  all-rounds : run s.link.rounds f ≡ and_then (run r.link.rounds f) (run m)
  all-rounds = ap (λ n. run n f) rounds ∙ run-more r.link.rounds m f

  pub ran-then : Ran f s
  ran-then = is ∙ ap (λ (q : Ring). (run m q).ring) ran ∙ sym (ap (λ (x : Rounded). x.ring) all-rounds)

  shown-then : (run s.link.rounds f).shown ≡ (run r.link.rounds f).shown ++ (run m r).shown
  shown-then = ap (λ (x : Rounded). x.shown) all-rounds ∙ ap (λ (q : Ring). (run r.link.rounds f).shown ++ (run m q).shown) (sym ran)

  module _ {h0 h1 h2 : Option (List ℕ)} {p q : List ℕ} (gathered : IsGathered h0 h1 p q (run r.link.rounds f).shown) where
    pub gathered-then : {u : List ℕ} → IsGathered h1 h2 q u (run m r).shown → IsGathered h0 h2 p u (run s.link.rounds f).shown
    gathered-then {u} next = subst (IsGathered h0 h2 p u) (sym shown-then) (IsGathered-then gathered next)

    pub cut-then : (total : ℕ) → s.link.rounds ≤ total → IsCut h1 h2 q (run m r).shown → IsCut h0 h2 p (run total f).shown
    cut-then total few cut =
        let n = s.link.rounds in
        let whole : total ≡ n + (total - n) = omega (arith, few) in
        let all : (run total f).shown ≡ (run n f).shown ++ (run (total - n) (run n f).ring).shown = ap (λ k. (run k f).shown) whole ∙ ap (λ (x : Rounded). x.shown) (run-more n (total - n) f) in
        subst (IsCut h0 h2 p) (sym all)
        (IsCut-more (run (total - n) (run n f).ring).shown (subst (IsCut h0 h2 p) (sym shown-then) (IsCut-then gathered cut)))

-- ---- one round

module _ (r : Ring) (goes : stop_of r.right ≡ None) (room : Bool) (there : room ≡ has_room r.right)
    (byte : Option ℕ) (carries : byte ≡ carried_byte (first_of r) room r.link) (s : State) (types : s ≡ with_typing byte r.right) where
  typed-right : s ≡ with_typing (carried_byte (first_of r) (has_room r.right) r.link) r.right
  typed-right = types ∙ (λ i. with_typing ((carries ∙ ap (λ b. carried_byte (first_of r) b r.link) there) i) r.right)

  pub round-is : (l : Left) (k : Link) (t : State) → l ≡ after_answer (carries_back (first_of r) room r.link) (stepped r) → k ≡ carried (first_of r) room r.link
      → t ≡ right_after r.link.terms.right_steps s → record { left = l; link = k; right = t } ≡ (run 1 r).ring
  unfolding round
  round-is l k t left link right =
      let here : ◌≡◌ {A = Ring} (record { left = l; link = k; right = t }) (after_round r) = λ i. record {
        left = (left ∙ ap (λ b. after_answer (carries_back (first_of r) b r.link) (stepped r)) there) i;
        link = (link ∙ ap (λ b. carried (first_of r) b r.link) there) i;
        right = (right ∙ ap (right_after r.link.terms.right_steps) typed-right) i;
      } in
      here ∙ sym (ap (λ (x : Rounded). x.ring) (run-one r goes))

  pub shown-is : shown_by r.link.terms.right_steps s ≡ (run 1 r).shown
  unfolding round
  shown-is = ap (shown_by r.link.terms.right_steps) typed-right ∙ sym (ap (λ (x : Rounded). x.shown) (run-one r goes))

-- ---- the end

module _ (f : Ring) (terms : Terms) (left right : State) (new : f ≡ first_ring terms left right) (n : ℕ) where
  x : Rounded
  x = run n f

  pub acknowledged-few : (r : Ring) → r ≡ (run n f).ring → r.link.sender.acknowledged ≤ r.link.received
  acknowledged-few r is =
      subst (λ (q : Ring). q.link.sender.acknowledged ≤ q.link.received) (sym is)
      (subst (λ (g : Ring). (run n g).ring.link.sender.acknowledged ≤ (run n g).ring.link.received) (sym new) (rounds-acknowledged n terms left right))

  sent-first : let y = run n (first_ring terms left right) in y.ring.link.sender.acknowledged + length y.ring.left.waiting ≡ length y.offered
  sent-first =
      let y : Rounded = run n (first_ring terms left right) in
      let p = rounds-prefix n terms left right in
      let few = rounds-acknowledged n terms left right in
      omega (arith, few, rounds-count n terms left right, ap length (rounds-waiting n terms left right), length-drop y.ring.link.sender.acknowledged y.offered, ap length p.1, length-append y.delivered p.0)

  sent-is : (r : Ring) → r ≡ (run n f).ring → r.link.sender.acknowledged + length r.left.waiting ≡ length (run n f).offered
  sent-is r is =
      ap (λ (q : Ring). q.link.sender.acknowledged + length q.left.waiting) is
      ∙ subst (λ (g : Ring). (run n g).ring.link.sender.acknowledged + length (run n g).ring.left.waiting ≡ length (run n g).offered) (sym new) sent-first

  pub outcome-is : (r : Ring) → r ≡ (run n f).ring → (o : RingOutcome) → o.rounds ≡ r.link.rounds → o.sent ≡ r.link.sender.acknowledged + length r.left.waiting
      → o.delivered ≡ r.link.received → o.acknowledged ≡ r.link.sender.acknowledged → o.end ≡ end_of_run (stop_of r.right) → o ≡ outcome_of (run n f)
  outcome-is r is o rounds sent delivered acknowledged end = λ i. record {
    rounds = (rounds ∙ ap (λ (q : Ring). q.link.rounds) is) i;
    sent = (sent ∙ sent-is r is) i;
    delivered = (delivered ∙ ap (λ (q : Ring). q.link.received) is) i;
    acknowledged = (acknowledged ∙ ap (λ (q : Ring). q.link.sender.acknowledged) is) i;
    end = (end ∙ ap (λ (q : Ring). end_of_run (stop_of q.right)) is) i;
  }

  -- where nothing waits no byte is outstanding
  pub outstanding-none : (r : Ring) → r ≡ (run n f).ring → r.left.waiting ≡ [] → r.link.sender.outstanding ≡ None
  outstanding-none r is empty =
      subst (λ (q : Ring). q.link.sender.outstanding ≡ None) (sym is)
      (subst (λ (g : Ring). (run n g).ring.left.waiting ≡ [] → (run n g).ring.link.sender.outstanding ≡ None) (sym new) (rounds-outstanding n terms left right)
      (ap (λ (q : Ring). q.left.waiting) (sym is) ∙ empty))

-- the right machine has stopped before the last round
pub ended-early : (f r : Ring) (total : ℕ) → Ran f r → r.link.rounds ≤ total → (stop : Stop) → stop_of r.right ≡ Some stop → run total f ≡ run r.link.rounds f
ended-early f r total ran few stop is =
    run-ended r.link.rounds total f few
    (λ none. (let other : Some stop ≡ None = sym is ∙ ap (λ (q : Ring). stop_of q.right) ran ∙ none in cc other))
