-- A run leaves the pipes that the requests of its steps leave.
use Rattle.std.proofs.Common.{◌≡◌, ◌≢◌, ℕ, zero, suc, ◌≤◌, ◌&&◌, Bool, true, false, cond, eqb, Option, Some, None, Result, Ok, Err, List, [], ◌∷◌, ◌++◌, length, refl, sym, ap, ◌∙◌, subst, inl, inr}
use Rattle.std.specs.Prelude.{is_some}
use Rattle.std.specs.List.{AllByRecursion}
use Rattle.std.proofs.lemmas.Bool.{cases_eq, eq-eqb, ne_eqb}
use Rattle.kernel_model.specs.KernelRecord.Image.{image, word_of}
use Rattle.kernel_model.specs.KernelRecord.Kernel.{Kernel, Pipe}
use Rattle.kernel_model.specs.KernelRecord.Lists.{Lists}
use Rattle.kernel_model.specs.KernelRecord.Pipes.{most_held, most_pipes, no_pipes, pipe_at}
use Rattle.kernel_model.specs.KernelRecord.Task.{is_guest_id}
use Rattle.kernel_model.specs.KernelRecord.ValidKernel.{IsValid}
use Rattle.kernel_model.specs.declared.kernel_record.stops.Stop.{Stop}
use Rattle.resident_tasks.specs.ResidentRequests.Requests.{first_request, taken, words_taken, work}
use Rattle.resident_tasks.specs.declared.resident_requests.requests.Request.{Request}
use Rattle.resident_tasks.specs.PipeHandler.Histories.{History, IsHistoryOf, IsLawful, PipeRequest, after, history_after, no_history, pipes_after}
use Rattle.resident_tasks.specs.PipeHandler.PacketRequests.{asked, requests_by, requests_in_turn, requests_of}
use Rattle.resident_tasks.proofs.PipeHandler.Histories.{pipe-bytes, pipe-room}
use Rattle.resident_tasks.proofs.PipeHandler.RequestsInTurns.{asked-lawful, turn-asked}
use Rattle.session_text.specs.declared.sessions.Session.{Session}
use Rattle.kernel_machine.specs.MachineBoot.Boot.{HasKernel, boot}
use Rattle.kernel_machine.specs.KernelSteps.Parts.{HasSameResidents}
use Rattle.kernel_machine.specs.KernelSteps.ResidentSteps.{file_step, pipe_step, resident_step, serves_pipes}
use Rattle.kernel_machine.specs.KernelSteps.Step.{after_the_turn, run, step, turn, with_step}
use Rattle.kernel_machine.specs.KernelSteps.Stepped.{Stepped}
use Rattle.kernel_machine.proofs.KernelSteps.FilesKept.{rest-residents}
use Rattle.kernel_machine.proofs.KernelSteps.StepEnds.{step-ends, turned}
use Rattle.kernel_machine.proofs.KernelSteps.TurnWays.{turn-resident, turn-ways}
use Rattle.kernel_machine.proofs.MachineBoot.LoadedDiscs.{none-at}
use Rattle.tripos_machine.specs.PacketHistory.PipeRuns.{requests_of_run, requests_of_step, requests_of_turn}
use Rattle.tripos_machine.proofs.PacketHistory.BootedLists.{IsBooted, booted-is}

-- ---- a turn

-- whoever else runs leaves the pipes
other-turn : (k : Kernel) → k.lists.running ≢ 4 → (turn k).kernel.pipes ≡ k.pipes
other-turn k other =
    turn-ways (λ x. x.kernel.pipes ≡ k.pipes) k
    (record {
      guest = λ e. refl;
      shell = λ e. refl;
      reporter = λ e. refl;
      console = λ e. refl;
      files = λ e. absurd (other e);
      pipes = λ e f. absurd (other e);
      nobody = λ e. refl;
    })

turn-requests : (k : Kernel) → (turn k).kernel.pipes ≡ pipes_after k.pipes (requests_of_turn k)
turn-requests k =
    elim (cases_eq k.lists.running 4) [
      | inl four ↦
          ap (λ (x : Stepped). x.kernel.pipes) (turn-resident k (ap is_guest_id four) ∙ ap (λ i. resident_step i k) four) ∙ handler (serves_pipes k.lists)
          ∙ ap (λ b. pipes_after k.pipes (cond (b && serves_pipes k.lists) (requests_in_turn (image k) k.lists) [])) (sym (eq-eqb k.lists.running 4 four))
      | inr other ↦
          other-turn k other
          ∙ ap (λ b. pipes_after k.pipes (cond (b && serves_pipes k.lists) (requests_in_turn (image k) k.lists) [])) (sym (ne_eqb k.lists.running 4 other))
    ]
  where
    handler : (b : Bool) → (cond b (pipe_step k) (file_step k)).kernel.pipes ≡ pipes_after k.pipes (cond b (requests_in_turn (image k) k.lists) [])
    handler true = turn-asked k.pipes (image k) k.lists
    handler false = refl

-- ---- a step

counted-image : (k : Kernel) → image (with_step k) ≡ image k
unfolding image word_of
counted-image k = refl

counted-requests : (k : Kernel) → requests_of_turn (with_step k) ≡ requests_of_turn k
counted-requests k = ap (λ s. cond (eqb k.lists.running 4 && serves_pipes k.lists) (requests_in_turn s k.lists) []) (counted-image k)

stopped-none : (k : Kernel) → k.stop ≢ None → requests_of_step k ≡ []
stopped-none k stopped = on k.stop stopped
  where
    on : (o : Option Stop) → o ≢ None → cond (is_some o) [] (requests_of_turn k) ≡ []
    on None some = absurd (some refl)
    on (Some stop) some = refl

goes-requests : (k : Kernel) → k.stop ≡ None → requests_of_turn (with_step k) ≡ requests_of_step k
goes-requests k goes = counted-requests k ∙ ap (λ (o : Option Stop). cond (is_some o) [] (requests_of_turn k)) (sym goes)

pub step-requests : (k : Kernel) → (step k).kernel.pipes ≡ pipes_after k.pipes (requests_of_step k)
step-requests k =
    let made : k.stop ≡ None → (turned k).pipes ≡ pipes_after k.pipes (requests_of_step k) = λ goes. turn-requests (with_step k) ∙ ap (pipes_after k.pipes) (goes-requests k goes) in
    let rest : HasSameResidents (turned k) (after_the_turn (turned k)).kernel = rest-residents (turned k) in
    step-ends (λ j. j.pipes ≡ pipes_after k.pipes (requests_of_step k)) k
    (record {
      stopped = λ e. ap (pipes_after k.pipes) (sym (stopped-none k e));
      stops = λ e f. made e;
      whole = λ e f. rest.pipes ∙ made e;
    })

pub other-step : (k : Kernel) → k.lists.running ≢ 4 → (step k).kernel.pipes ≡ k.pipes
other-step k other =
    let rest : HasSameResidents (turned k) (after_the_turn (turned k)).kernel = rest-residents (turned k) in
    let same : (turned k).pipes ≡ k.pipes = other-turn (with_step k) other in
    step-ends (λ j. j.pipes ≡ k.pipes) k (record { stopped = λ e. refl; stops = λ e f. same; whole = λ e f. rest.pipes ∙ same })

-- ---- lawful names

turn-lawful : (s : List ℕ) (l : Lists) → AllByRecursion IsLawful (requests_in_turn s l)
turn-lawful s l = on (first_request (words_taken s l) (work l))
  where
    on : (o : Option Request) → AllByRecursion IsLawful (requests_by (words_taken s l) (taken l).lists o)
    on None = tt
    on (Some r) = by (asked (words_taken s l) (taken l).lists r) refl
      where
        by : (x : Result PipeRequest ℕ) → asked (words_taken s l) (taken l).lists r ≡ x → AllByRecursion IsLawful (requests_of x)
        by (Ok q) is = (asked-lawful (words_taken s l) (taken l).lists r q is, tt)
        by (Err code) is = tt

pub step-lawful : (k : Kernel) → AllByRecursion IsLawful (requests_of_step k)
step-lawful k = on (is_some k.stop) (eqb k.lists.running 4 && serves_pipes k.lists)
  where
    on : (a b : Bool) → AllByRecursion IsLawful (cond a [] (cond b (requests_in_turn (image k) k.lists) []))
    on true b = tt
    on false true = turn-lawful (image k) k.lists
    on false false = tt

both-lawful : (rs qs : List PipeRequest) → AllByRecursion IsLawful rs → AllByRecursion IsLawful qs → AllByRecursion IsLawful (rs ++ qs)
both-lawful [] qs x y = y
both-lawful (r ∷ rs) qs x y = (x.0, both-lawful rs qs x.1 y)

pub run-lawful : (n : ℕ) (k : Kernel) → AllByRecursion IsLawful (requests_of_run n k)
run-lawful zero k = tt
run-lawful (suc n) k = both-lawful (requests_of_step k) (requests_of_run n (step k).kernel) (step-lawful k) (run-lawful n (step k).kernel)

-- ---- a run

after-both : (ps : List (Option Pipe)) (rs qs : List PipeRequest) → pipes_after ps (rs ++ qs) ≡ pipes_after (pipes_after ps rs) qs
after-both ps [] qs = refl
after-both ps (r ∷ rs) qs = after-both (after ps r).pipes rs qs

pub run-requests : (n : ℕ) (k : Kernel) → (run n k).kernel.pipes ≡ pipes_after k.pipes (requests_of_run n k)
unfolding run
run-requests zero k = refl
run-requests (suc n) k =
    run-requests n (step k).kernel ∙ ap (λ ps. pipes_after ps (requests_of_run n (step k).kernel)) (step-requests k)
    ∙ sym (after-both k.pipes (requests_of_step k) (requests_of_run n (step k).kernel))

pub run-bytes : (n i : ℕ) (k : Kernel) (h : History) → IsHistoryOf h (pipe_at k.pipes i) → IsHistoryOf (history_after i k.pipes h (requests_of_run n k)) (pipe_at (run n k).kernel.pipes i)
run-bytes n i k h is-history =
    subst (λ ps. IsHistoryOf (history_after i k.pipes h (requests_of_run n k)) (pipe_at ps i)) (sym (run-requests n k)) (pipe-bytes k.pipes i h (requests_of_run n k) is-history)

pub run-room : (n i : ℕ) (k : Kernel) (p : Pipe) → IsValid k → pipe_at (run n k).kernel.pipes i ≡ Some p → length p.held ≤ most_held
run-room n i k p valid is = pipe-room k.pipes i (requests_of_run n k) p valid.residents.pipes.pipes (ap (λ ps. pipe_at ps i) (sym (run-requests n k)) ∙ is)

-- ---- from a boot on

no-pipe : (i : ℕ) → IsHistoryOf no_history (pipe_at no_pipes i)
no-pipe i = subst (IsHistoryOf no_history) (sym (none-at {X = Pipe} most_pipes i)) tt

pub booted-bytes : (n i : ℕ) (s : Session) (x : Stepped) → HasKernel s → boot s ≡ Ok x
    → IsHistoryOf (history_after i x.kernel.pipes no_history (requests_of_run n x.kernel)) (pipe_at (run n x.kernel).kernel.pipes i)
booted-bytes n i s x h is =
    let b : IsBooted x.kernel = booted-is s h x is in
    run-bytes n i x.kernel no_history (subst (λ ps. IsHistoryOf no_history (pipe_at ps i)) (sym b.pipes) (no-pipe i))
