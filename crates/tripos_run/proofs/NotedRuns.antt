-- The events of a run, from those that a log was given.
use Rattle.std.proofs.Common.{◌≡◌, ◌∙◌, ℕ, ◌+◌, ◌-◌, ◌≤◌, Bool, true, Option, Result, Ok, Err, List, [], ◌++◌, inl, inr, sym, ap, subst, append_assoc, arith}
use Rattle.std.specs.Bool.{OnFalse}
use Rattle.kernel_model.specs.declared.kernel_record.stops.Stop.{Stop}
use Rattle.kernel_lists.specs.declared.packet_queue.events.KernelEvent.{KernelEvent}
use Rattle.tripos_machine.specs.State.{State}
use Rattle.kernel_model.specs.KernelRecord.NotedEvents.{NotesAll}
use Rattle.tripos_machine.specs.Step.{Stepped, run}
use Rattle.tripos_machine.proofs.StateRuns.{run-more}
use Rattle.tripos_machine.specs.Runs.{EndsRun, HasCause}

-- the first steps of a run have its first events
first-events : (i n : ℕ) (k : State) → i ≤ n → (run n k).events ≡ (run i k).events ++ (run (n - i) (run i k).state).events
first-events i n k h =
    let all : n ≡ i + (n - i) = omega (arith, h) in
    ap (λ m. (run m k).events) all ∙ ap (λ (x : Stepped). x.events) (run-more i (n - i) k)

module _ (old new : Option (List KernelEvent)) (had_failed failed : Bool) where
  -- a log that has failed was given the first of more events
  notes-more : (xs ys : List KernelEvent) → failed ≡ true → NotesAll old new had_failed failed xs → NotesAll old new had_failed failed (xs ++ ys)
  notes-more xs ys is x = record {
    front = x.front;
    rest = x.rest ++ ys;
    is = ap (λ v. v ++ ys) x.is ∙ append_assoc x.front x.rest ys;
    gained = x.gained;
    whole = subst (λ v. OnFalse v (x.rest ++ ys ≡ [])) (sym is) tt;
    none = x.none;
    for_good = x.for_good;
  }

  -- a sink that never fails is no cause
  log-failed : HasCause 0 0 failed → failed ≡ true
  log-failed (inl rose) = absurd (omega (arith, rose))
  log-failed (inr is) = is

  -- a run to a sink that never fails gives the log its events
  pub notes-run : {E : Type 0} (n : ℕ) (k j : State) (result : Result Stop E) → EndsRun n k j old new had_failed failed 0 0 result → NotesAll old new had_failed failed (run n k).events
  notes-run n k j (Ok stop) e = e.0.events
  notes-run n k j (Err d) e =
      let i = e.0.0 in
      subst (NotesAll old new had_failed failed) (sym (first-events i n k e.0.1))
      (notes-more (run i k).events (run (n - i) (run i k).state).events (log-failed e.1) e.0.2.events)
