-- The history of every run of a valid kernel.
use Rattle.std.proofs.Common.{◌≡◌, ℕ, zero, suc, ◌+◌, ◌≤◌, Option, Some, None, sym, ◌∙◌, subst, arith, refl}
use Rattle.std.specs.List.{AllByRecursion}
use Rattle.word_store.specs.Arithmetic.{signed}
use Rattle.kernel_model.specs.KernelRecord.HoldsLists.{HoldsLists}
use Rattle.kernel_model.specs.KernelRecord.Image.{image}
use Rattle.kernel_model.specs.KernelRecord.Kernel.{Kernel}
use Rattle.kernel_model.specs.KernelRecord.Ranges.{most_steps}
use Rattle.kernel_model.specs.KernelRecord.ValidKernel.{IsValid}
use Rattle.kernel_model.specs.declared.kernel_record.stops.Stop.{Stop}
use Rattle.kernel_machine.specs.KernelSteps.Step.{dispatch, key, output, run, step, tick, turn, with_step}
use Rattle.kernel_machine.specs.KernelSteps.Stepped.{Stepped}
use Rattle.kernel_machine.proofs.KernelSteps.Runs.{step-steps, step-stopped}
use Rattle.tripos_machine.specs.PacketHistory.Queues.{Moves, ledger_of}
use Rattle.tripos_machine.specs.PacketHistory.Senders.{HasSender, PartHolds, StepHolds}
use Rattle.tripos_machine.specs.PacketHistory.SentBy.{AreOfTurn}
use Rattle.tripos_machine.proofs.PacketHistory.Moves.{move-none}
use Rattle.tripos_machine.proofs.PacketHistory.ResidentTurns.{step-turn-valid}
use Rattle.tripos_machine.specs.PacketHistory.HistoryLaw.{HistoryLaw, StepLaw}
use Rattle.tripos_machine.specs.PacketHistory.Steps.{EachStep, StepMoves, due_in}
use Rattle.tripos_machine.proofs.PacketHistory.HeldSenders.{image-senders, valid-senders}
use Rattle.tripos_machine.proofs.PacketHistory.PartEvents.{dispatch-accepts, dispatch-takes, key-returns, key-takes, output-returns, output-takes, step-parts, tick-returns, tick-takes}
use Rattle.tripos_machine.proofs.PacketHistory.PlainWords.{HasValidImage, image-holds, key-left, output-left, plain-like, tick-left, turn-left}
use Rattle.tripos_machine.proofs.PacketHistory.Runs.{history-events, run-history}
use Rattle.tripos_machine.proofs.PacketHistory.StepMoved.{key-moved, output-moved, step-moved, tick-moved}
use Rattle.tripos_machine.proofs.PacketHistory.TakenMoves.{MovesInTurn}
use Rattle.tripos_machine.proofs.PacketHistory.TakenSenders.{dispatch-senders, first-senders, key-senders, ledger-senders, output-senders, tick-senders}
use Rattle.tripos_machine.proofs.PacketHistory.ValidSteps.{next-valid, run-valid}
use Rattle.tripos_machine.proofs.PacketHistory.TurnMoves.{turn-moves}

-- ---- one step

step-moves : (k : Kernel) → IsValid k → StepMoves k
step-moves k valid = on k.stop refl
  where
    on : (o : Option Stop) → k.stop ≡ o → StepMoves k
    on None is = step-moved (due_in k) k (record { moves = (turn-moves k valid is).moves; valid = step-turn-valid k valid is })
    on (Some stop) is =
        subst (λ x. Moves (due_in k) k.lists x.events x.kernel.lists)
        (sym (step-stopped k (λ none. (let clash : ◌≡◌ {A = Option Stop} (Some stop) None = sym is ∙ none in cc)))) (move-none (due_in k) k.lists k.lists refl)

-- before each part of a step the word 1 of each packet is its sender, while it is queued and when it is taken
module _ (k : Kernel) (valid : IsValid k) (goes : k.stop ≡ None) where
  abbrev turn_part : Stepped
  turn_part = turn (with_step k)

  abbrev clock_part : Stepped
  clock_part = tick turn_part.kernel

  abbrev keyboard_part : Stepped
  keyboard_part = key clock_part.kernel

  abbrev output_part : Stepped
  output_part = output keyboard_part.kernel

  part-holds : (j : Kernel) (x : Stepped) → HasValidImage j → (HoldsLists (image j) j.lists → AllByRecursion (HasSender (image j)) x.events) → PartHolds j x
  part-holds j x with-image taken = record { queued = image-senders j with-image; taken = taken (image-holds j with-image) }

  turned-valid : HasValidImage turn_part.kernel
  turned-valid = (let v = step-turn-valid k valid goes in record { lists = v; plain = turn-left (with_step k) (plain-like k (with_step k) valid.plain refl refl) v })

  ticked-valid : HasValidImage clock_part.kernel
  ticked-valid = (let v = (tick-moved (λ e. 0) turn_part.kernel turned-valid.lists).valid in record { lists = v; plain = tick-left turn_part.kernel turned-valid.plain v })

  typed-valid : HasValidImage keyboard_part.kernel
  typed-valid = (let v = (key-moved (λ e. 0) clock_part.kernel ticked-valid.lists).valid in record { lists = v; plain = key-left clock_part.kernel v })

  printed-valid : HasValidImage output_part.kernel
  printed-valid = (let v = (output-moved (λ e. 0) keyboard_part.kernel typed-valid.lists).valid in record { lists = v; plain = output-left keyboard_part.kernel v })

  step-holds : StepHolds k
  step-holds =
      let m : MovesInTurn (due_in k) (signed k.lists.running) k.lists turn_part.events turn_part.kernel.lists = turn-moves k valid goes in
      record {
        turn =
            part-holds k turn_part (record { lists = valid.lists; plain = valid.plain })
            (λ h. first-senders (image k) (due_in k) (signed k.lists.running) turn_part.events (ledger_of k.lists) (ledger_of turn_part.kernel.lists) (ledger-senders (image k) k.lists h) m.takes
            (m.turn.sent None) m.moves);
        clock = part-holds turn_part.kernel clock_part turned-valid (tick-senders turn_part.kernel);
        keyboard = part-holds clock_part.kernel keyboard_part ticked-valid (key-senders clock_part.kernel);
        output = part-holds keyboard_part.kernel output_part typed-valid (output-senders keyboard_part.kernel);
        dispatch = part-holds output_part.kernel (dispatch output_part.kernel) printed-valid (dispatch-senders output_part.kernel);
      }

step-law : (k : Kernel) → IsValid k → IsValid (step k).kernel → k.stop ≡ None → StepLaw k
step-law k valid next goes =
    let turns : AreOfTurn (signed k.lists.running) (turn (with_step k)).events = (turn-moves k valid goes).turn in
    let t : Stepped = turn (with_step k) in
    let c : Stepped = tick t.kernel in
    let y : Stepped = key c.kernel in
    let o : Stepped = output y.kernel in
    record {
      senders =
          record {
            parts = step-parts k goes;
            turn = turns.sent None;
            clock = tick-returns t.kernel;
            keyboard = key-returns c.kernel;
            output = output-returns y.kernel;
            dispatch = dispatch-accepts o.kernel;
          };
      due =
          record {
            takes = tick-takes t.kernel;
            turn = turns.takes;
            keyboard = key-takes c.kernel;
            output = output-takes y.kernel;
            dispatch = dispatch-takes o.kernel;
          };
      words = step-holds k valid goes;
      runs = λ on. next.running on;
    }

-- ---- a run

-- what holds of each step from a valid kernel holds of each of the run
each-step : (P : Kernel → Type 0) → ((k : Kernel) → IsValid k → IsValid (step k).kernel → P k) → (n : ℕ) (k : Kernel) → IsValid k → k.steps + n ≤ most_steps → EachStep P n k
each-step P one zero k valid few = tt
each-step P one (suc n) k valid few =
    let next : IsValid (step k).kernel = next-valid k valid (omega (arith, few)) in
    (one k valid next, each-step P one n (step k).kernel next (omega (arith, few, step-steps k)))

pub each-moves : (n : ℕ) (k : Kernel) → IsValid k → k.steps + n ≤ most_steps → EachStep StepMoves n k
each-moves n k valid few = each-step StepMoves (λ j v next. step-moves j v) n k valid few

pub whole-law : (n : ℕ) (k : Kernel) → IsValid k → k.steps + n ≤ most_steps → HistoryLaw n k
whole-law n k valid few =
    record {
      events = history-events n k;
      queues = run-history n k valid.lists (each-moves n k valid few);
      steps = each-step (λ j. j.stop ≡ None → StepLaw j) step-law n k valid few;
      left = valid-senders (run n k).kernel (run-valid n k valid few);
    }
