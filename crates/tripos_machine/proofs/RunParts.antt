-- A run, part by part.
use Rattle.std.proofs.Common.{◌≡◌, ◌≢◌, ℕ, ◌+◌, ◌-◌, ◌<◌, ◌≤◌, ◌++◌, Bool, Option, Some, None, List, inl, inr, refl, sym, ap, ◌∙◌, subst, arith}
use Rattle.std.specs.Prelude.{unwrap_or}
use Rattle.std.proofs.lemmas.List.{append-nil}
use Rattle.byte_streams.specs.Faults.{Rose}
use Rattle.byte_streams.specs.Pending.{IsCut, IsGathered}
use Rattle.byte_streams.proofs.AppendedTexts.{AppendsPrefix-whole}
use Rattle.byte_streams.proofs.GatheredTexts.{IsCut-more, IsCut-then, IsGathered-nothing, IsGathered-then}
use Rattle.byte_streams.specs.Write.{AppendsPrefix}
use Rattle.kernel_lists.specs.declared.packet_queue.events.KernelEvent.{KernelEvent}
use Rattle.kernel_model.specs.KernelRecord.NotedEvents.{NotesAll}
use Rattle.kernel_model.proofs.KernelRecord.NotedInTurn.{notes-none, notes-then}
use Rattle.kernel_model.specs.declared.kernel_record.stops.Stop.{Stop}
use Rattle.kernel_model.specs.declared.kernel_record.stops.Stop.TheVariants.{Steps}
use Rattle.tripos_machine.specs.Runs.{HasRun, LeavesOutput, end_of_run}
use Rattle.tripos_machine.specs.State.{State, stop_of}
use Rattle.tripos_machine.specs.Step.{Stepped, and_then, quietly, run}
use Rattle.tripos_machine.proofs.StateRuns.{run-more, run-stopped}
use Rattle.tripos_machine.proofs.QuietSteps.{run-none}

and-quietly : (x : Stepped) → and_then x quietly ≡ x
and-quietly x = λ i. record { state = x.state; bytes = append-nil x.bytes i; events = append-nil x.events i }

run-split : (i n : ℕ) (s : State) → i ≤ n → run n s ≡ and_then (run i s) (run (n - i))
run-split i n s few = (let whole : n ≡ i + (n - i) = omega arith in ap (λ m. run m s) whole ∙ run-more i (n - i) s)

-- a machine that has stopped takes no more steps
run-ended : (i n : ℕ) (s : State) → i ≤ n → stop_of (run i s).state ≢ None → run n s ≡ run i s
run-ended i n s few stopped =
    run-split i n s few
    ∙ ap (λ (y : Stepped). record { state = y.state; bytes = (run i s).bytes ++ y.bytes; events = (run i s).events ++ y.events }) (run-stopped (n - i) (run i s).state stopped)
    ∙ and-quietly (run i s)

bytes-split : (i n : ℕ) (s : State) → i ≤ n → (run n s).bytes ≡ (run i s).bytes ++ (run (n - i) (run i s).state).bytes
bytes-split i n s few = ap (λ (x : Stepped). x.bytes) (run-split i n s few)

module _ (s : State) where
  -- nothing was done yet
  pub ran-none : (o : Option (List KernelEvent)) (f : Bool) → HasRun 0 s s o o f f
  ran-none o f = record { state = sym (ap (λ (x : Stepped). x.state) (run-none s)); events = subst (NotesAll o o f f) (sym (ap (λ (x : Stepped). x.events) (run-none s))) (notes-none o f) }

  pub gathered-none : (h : Option (List ℕ)) (p : List ℕ) → IsGathered h h p p (run 0 s).bytes
  gathered-none h p = subst (IsGathered h h p p) (sym (ap (λ (x : Stepped). x.bytes) (run-none s))) (IsGathered-nothing h p)

  -- one part after another
  module _ (i m : ℕ) (t : State) (a b : Option (List KernelEvent)) (f g : Bool) (one : HasRun i s t a b f g) where
    whole-run : run (i + m) s ≡ and_then (run i s) (run m)
    whole-run = run-more i m s

    pub ran-then : (u : State) (c : Option (List KernelEvent)) (h : Bool) → u ≡ (run m t).state → NotesAll b c g h (run m t).events → HasRun (i + m) s u a c f h
    ran-then u c h left noted =
        let last : run m t ≡ run m (run i s).state = ap (run m) one.state in
        record {
          state = left ∙ ap (λ (x : Stepped). x.state) last ∙ sym (ap (λ (x : Stepped). x.state) whole-run);
          events = subst (NotesAll a c f h) (sym (ap (λ (x : Stepped). x.events) whole-run))
              (notes-then a b c f g h (run i s).events (run m (run i s).state).events one.events (subst (λ (x : Stepped). NotesAll b c g h x.events) last noted));
        }

    bytes-then : (run (i + m) s).bytes ≡ (run i s).bytes ++ (run m t).bytes
    bytes-then = ap (λ (x : Stepped). x.bytes) whole-run ∙ ap (λ (z : State). (run i s).bytes ++ (run m z).bytes) (sym one.state)

    pub gathered-then : {h0 h1 h2 : Option (List ℕ)} {p q r text : List ℕ} → IsGathered h0 h1 p q (run i s).bytes → text ≡ (run m t).bytes → IsGathered h1 h2 q r text → IsGathered h0 h2 p r (run (i + m) s).bytes
    gathered-then {h0} {h1} {h2} {p} {q} {r} {text} first is second = subst (IsGathered h0 h2 p r) (sym bytes-then) (IsGathered-then first (subst (IsGathered h1 h2 q r) is second))

    pub cut-then : {h0 h1 h2 : Option (List ℕ)} {p q text : List ℕ} → IsGathered h0 h1 p q (run i s).bytes → text ≡ (run m t).bytes → IsCut h1 h2 q text → IsCut h0 h2 p (run (i + m) s).bytes
    cut-then {h0} {h1} {h2} {p} {q} {text} first is second = subst (IsCut h0 h2 p) (sym bytes-then) (IsCut-then first (subst (IsCut h1 h2 q) is second))

  -- what was cut off behind some steps was cut off in the whole
  pub cut-more : (i n : ℕ) → i ≤ n → {h0 h1 : Option (List ℕ)} {p : List ℕ} → IsCut h0 h1 p (run i s).bytes → IsCut h0 h1 p (run n s).bytes
  cut-more i n few {h0} {h1} {p} cut = subst (IsCut h0 h1 p) (sym (bytes-split i n s few)) (IsCut-more (run (n - i) (run i s).state).bytes cut)

-- what was gathered, where the rest is lost
pub cut-gathered : {h0 h1 : Option (List ℕ)} {p q text : List ℕ} → IsGathered h0 h1 p q text → IsCut h0 h1 p text
cut-gathered {h0} {h1} {p} {q} x = record { prefix = subst (AppendsPrefix h0 h1) (sym x.whole) (AppendsPrefix-whole h0 h1 x.front q x.sent) }

pub rose-later : (a b c : ℕ) → a ≤ b → Rose b c → Rose a c
rose-later a b c later rose = omega (arith, later, rose)

-- ---- the output of the last steps

pub left-more : (i n : ℕ) (s t : State) (old new : List ℕ) → i ≤ n → LeavesOutput i s t old new → LeavesOutput n s t old new
left-more i n s t old new few (inl x) = inl x
left-more i n s t old new few (inr x) = inr (x.0, x.1, x.2, omega (arith, few, x.3), x.4, x.5, x.6)

pub left-last : (i m n : ℕ) (s t u : State) (old new : List ℕ) → t ≡ (run i s).state → 0 < m → i + m ≤ n → stop_of (run (m - 1) t).state ≡ None → u ≡ (run m t).state → new ≡ (run m t).bytes
    → LeavesOutput n s u old new
left-last i m n s t u old new at some few last left wrote =
    inr (i, m, some, few, subst (λ (z : State). stop_of (run (m - 1) z).state ≡ None) at last, left ∙ ap (λ (z : State). (run m z).state) at ∙ sym (ap (λ (x : Stepped). x.state) (run-more i m s)), wrote ∙ ap (λ (z : State). (run m z).bytes) at)

-- ---- the end of a run, by how the machine is

pub ends-stopped : (o : Option Stop) (stop : Stop) → Some stop ≡ o → stop ≡ end_of_run o
ends-stopped None stop e = cc
ends-stopped (Some s) stop e = cc

pub no-stop : (o : Option Stop) (stop : Stop) → Some stop ≡ o → o ≢ None
no-stop o stop e none = (let other : Some stop ≡ None = e ∙ none in cc)

pub ends-all : (o r : Option Stop) (stop : Stop) → r ≡ o → stop ≡ unwrap_or r Steps → stop ≡ end_of_run o
ends-all None r stop e is = is ∙ ap (λ z. unwrap_or z Steps) e
ends-all (Some s) r stop e is = is ∙ ap (λ z. unwrap_or z Steps) e

-- ---- a machine that has stopped before its steps were taken

module _ (s t : State) (i n : ℕ) (few : i ≤ n) (o m : Option (List KernelEvent)) (f g : Bool) (ran : HasRun i s t o m f g) (stopped : stop_of t ≢ None) where
  same : run n s ≡ run i s
  same = run-ended i n s few (λ none. stopped (ap stop_of ran.state ∙ none))

  pub ran-ended : HasRun n s t o m f g
  ran-ended = record { state = ran.state ∙ ap (λ (x : Stepped). x.state) (sym same); events = subst (λ (x : Stepped). NotesAll o m f g x.events) (sym same) ran.events }

  pub gathered-ended : {h0 h1 : Option (List ℕ)} {p r : List ℕ} → IsGathered h0 h1 p r (run i s).bytes → IsGathered h0 h1 p r (run n s).bytes
  gathered-ended {h0} {h1} {p} {r} x = subst (λ (y : Stepped). IsGathered h0 h1 p r y.bytes) (sym same) x

-- all steps were taken
pub ran-all : (i n : ℕ) (s t : State) (o m : Option (List KernelEvent)) (f g : Bool) → i ≡ n → HasRun i s t o m f g → HasRun n s t o m f g
ran-all i n s t o m f g e = subst (λ z. HasRun z s t o m f g) e

pub gathered-all : (i n : ℕ) (s : State) (h0 h1 : Option (List ℕ)) (p r : List ℕ) → i ≡ n → IsGathered h0 h1 p r (run i s).bytes → IsGathered h0 h1 p r (run n s).bytes
gathered-all i n s h0 h1 p r e = subst (λ z. IsGathered h0 h1 p r (run z s).bytes) e
