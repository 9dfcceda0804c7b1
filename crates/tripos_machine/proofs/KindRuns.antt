-- A run of a machine of one kind, as a run of its state.
use Rattle.std.proofs.Common.{◌≡◌, ℕ, ◌-◌, List, Bool, Option, None, sym, ap, arith, ◌∙◌, subst}
use Rattle.bare_machine.specs.Run.{Avoids as BareAvoids, run as bare_run}
use Rattle.bare_machine.specs.State.{BareState}
use Rattle.kernel_model.specs.KernelRecord.Kernel.{Kernel}
use Rattle.kernel_model.specs.KernelRecord.NotedEvents.{NotesAll}
use Rattle.kernel_lists.specs.declared.packet_queue.events.KernelEvent.{KernelEvent}
use Rattle.kernel_model.proofs.KernelRecord.NotedInTurn.{notes-none}
use Rattle.kernel_machine.specs.RunningMachine.Runs.{Avoids as KernelAvoids, IsQuietButLast}
use Rattle.kernel_machine.specs.KernelSteps.Step.{run as kernel_run}
use Rattle.tripos_machine.specs.Breakpoints.{Avoids, is_met}
use Rattle.tripos_machine.specs.State.{State, stop_of}
use Rattle.tripos_machine.specs.State.State.{Bare, Full}
use Rattle.tripos_machine.specs.Step.{Stepped, run}
use Rattle.tripos_machine.proofs.StateRuns.{run-bare, run-full}

module _ (n r : ℕ) (is : n ≡ r) (s : State) where
  module _ (m : BareState) (here : s ≡ Bare m) where
    bare-is : run n s ≡ run r (Bare m)
    bare-is = λ i. run (is i) (here i)

    pub bare-state : (j : BareState) → j ≡ (bare_run r m).state → Bare j ≡ (run n s).state
    bare-state j e = ap Bare e ∙ sym (ap (λ (x : Stepped). x.state) (bare-is ∙ run-bare r m))

    pub bare-bytes : (bytes : List ℕ) → bytes ≡ (bare_run r m).bytes → bytes ≡ (run n s).bytes
    bare-bytes bytes e = e ∙ sym (ap (λ (x : Stepped). x.bytes) (bare-is ∙ run-bare r m))

    pub bare-events : (o : Option (List KernelEvent)) (f : Bool) → NotesAll o o f f (run n s).events
    bare-events o f = subst (NotesAll o o f f) (sym (ap (λ (x : Stepped). x.events) (bare-is ∙ run-bare r m))) (notes-none o f)

    pub bare-last : (bare_run (r - 1) m).state.stop ≡ None → stop_of (run (n - 1) s).state ≡ None
    bare-last last = (λ i. stop_of (run (is i - 1) (here i)).state) ∙ ap (λ (x : Stepped). stop_of x.state) (run-bare (r - 1) m) ∙ last

    pub bare-before : (bs : List ℕ) → BareAvoids bs r m → Avoids bs n s
    bare-before bs before i some less =
        ap (λ (j : State). is_met bs (run i j).state) here ∙ ap (λ (x : Stepped). is_met bs x.state) (run-bare i m) ∙ before i some (omega (arith, less, is))

  module _ (k : Kernel) (here : s ≡ Full k) where
    full-is : run n s ≡ run r (Full k)
    full-is = λ i. run (is i) (here i)

    pub full-state : (j : Kernel) → j ≡ (kernel_run r k).kernel → Full j ≡ (run n s).state
    full-state j e = ap Full e ∙ sym (ap (λ (x : Stepped). x.state) (full-is ∙ run-full r k))

    pub full-bytes : (bytes : List ℕ) → bytes ≡ (kernel_run r k).bytes → bytes ≡ (run n s).bytes
    full-bytes bytes e = e ∙ sym (ap (λ (x : Stepped). x.bytes) (full-is ∙ run-full r k))

    pub full-events : (o p : Option (List KernelEvent)) (f g : Bool) → NotesAll o p f g (kernel_run r k).events → NotesAll o p f g (run n s).events
    full-events o p f g notes = subst (NotesAll o p f g) (sym (ap (λ (x : Stepped). x.events) (full-is ∙ run-full r k))) notes

    pub full-last : IsQuietButLast r k → stop_of (run (n - 1) s).state ≡ None
    full-last quiet = (λ i. stop_of (run (is i - 1) (here i)).state) ∙ ap (λ (x : Stepped). stop_of x.state) (run-full (r - 1) k) ∙ quiet.goes

    pub full-before : (bs : List ℕ) → KernelAvoids bs r k → Avoids bs n s
    full-before bs before i some less =
        ap (λ (j : State). is_met bs (run i j).state) here ∙ ap (λ (x : Stepped). is_met bs x.state) (run-full i k) ∙ before i some (omega (arith, less, is))
