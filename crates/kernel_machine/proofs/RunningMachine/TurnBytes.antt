-- A guest's turn shows one byte at most.
use Rattle.std.proofs.Common.{◌≡◌, ℕ, ◌+◌, ◌*◌, ◌^◌, ◌<◌, ◌≤◌, List, [], ◌∷◌, length, Bool, true, false, Option, Some, None, Result, Ok, Err, cond, eqb, get_or, ap, arith}
use Rattle.word_store.specs.declared.registers.Regs.{Regs}
use Rattle.instruction_set.specs.Instruction.{After, instruction}
use Rattle.instruction_set.specs.declared.Outcome.{Outcome}
use Rattle.instruction_set.specs.declared.Outcome.TheVariants.{Next, Sys, Returned, Fault as Faulted}
use Rattle.kernel_lists.specs.PacketQueue.QueueWords.{QueuedPacket}
use Rattle.kernel_model.specs.KernelRecord.Changes.{queue_of}
use Rattle.kernel_model.specs.KernelRecord.Image.{image}
use Rattle.kernel_model.specs.KernelRecord.Kernel.{Kernel}
use Rattle.kernel_model.specs.KernelRecord.Lists.{Lists}
use Rattle.kernel_model.specs.KernelRecord.ValidQueues.Place.{Work}
use Rattle.kernel_calls.specs.CallAnswers.CallChange.{CallChange}
use Rattle.kernel_calls.specs.PacketCalls.TaskWait.{taskwait}
use Rattle.kernel_calls.specs.Calls.{kernel_call, made, of_wait, made_if_read}
use Rattle.kernel_calls.specs.CallNumbers.{call_of}
use Rattle.kernel_calls.specs.declared.call_numbers.CallOutcome.{CallOutcome}
use Rattle.kernel_calls.specs.declared.call_numbers.KernelCall.{KernelCall}
use Rattle.kernel_calls.specs.declared.call_numbers.KernelCall.TheVariants.{TaskWait}
use Rattle.guest_turns.specs.Guarded.{is_owned}
use Rattle.guest_turns.specs.GuestTurn.{after_instruction, turn_without_reporter}
use Rattle.kernel_machine.specs.KernelSteps.GuestSteps.{guest_step}
use Rattle.kernel_machine.proofs.KernelSteps.TurnWays.{guest-ways}
use Rattle.std.specs.List.{flat_map}
use Rattle.std.specs.Prelude.{codes, decimal}
use Rattle.std.proofs.lemmas.List.{length-append}
use Rattle.byte_streams.specs.Pieces.{joined}
use Rattle.kernel_lists.specs.TaskBlock.TaskChain.{tasks_in}
use Rattle.kernel_model.specs.KernelRecord.HoldsLists.{HoldsLists}
use Rattle.kernel_model.specs.KernelRecord.Residents.{fault_packet}
use Rattle.resident_tasks.specs.ResidentRequests.Requests.{first_request, taken, words_taken, work}
use Rattle.resident_tasks.specs.ResidentRequests.Turns.{Served, request_turn, turn_of}
use Rattle.resident_tasks.specs.declared.resident_requests.requests.Request.{Request}
use Rattle.resident_tasks.specs.FaultReporter.FaultTurns.{fault_turn, fault_turn_from, reported_turn, unknown}
use Rattle.resident_tasks.specs.FaultReporter.Texts.{is_unreported_word, most_in_line, report, report_at, reports, reports_in}
use Rattle.resident_tasks.proofs.FaultReporter.ReportLines.{few_digits, lines-room, reports-read}

wait-bytes : (r : Regs) (ps : List QueuedPacket) (m : CallChange) → length (of_wait r ps m).bytes ≤ 1
wait-bytes r [] m = omega arith
wait-bytes r (p ∷ ps) m = omega arith

call-bytes : (s : List ℕ) (l : Lists) (r : Regs) (call : KernelCall) → length (made s l r call).bytes ≤ 1
call-bytes s l r TaskWait = wait-bytes r (queue_of (Work l.running) l) (taskwait l)
call-bytes s l r _ = omega arith

read-bytes : (s : List ℕ) (l : Lists) (r : Regs) (q : Result KernelCall CallOutcome) → length (made_if_read s l r q).bytes ≤ 1
read-bytes s l r (Ok call) = call-bytes s l _ call
read-bytes s l r (Err outcome) = omega arith

kernel-bytes : (s : List ℕ) (l : Lists) (r : Regs) → length (kernel_call s l r).bytes ≤ 1
unfolding kernel_call
kernel-bytes s l r = read-bytes s l r (call_of s r)

after-bytes : (l : Lists) (s : List ℕ) (r : Regs) (outcome : Outcome) → length (after_instruction l s r outcome).bytes ≤ 1
after-bytes l s r Next = omega arith
after-bytes l s r Sys = kernel-bytes s l r
after-bytes l s r Returned = omega arith
after-bytes l s r (Faulted f) = omega arith

guest-bytes : (s : List ℕ) (l : Lists) (r : Regs) → length (turn_without_reporter s l r).bytes ≤ 1
unfolding turn_without_reporter
guest-bytes s l r = let x : After = instruction (is_owned l) s r in after-bytes l x.words x.regs x.outcome

pub turn-bytes : (k : Kernel) → length (guest_step k).bytes ≤ 1
turn-bytes k =
    guest-ways (λ x. length x.bytes ≤ 1) (image k) k.lists k.regs (guest-bytes (image k) k.lists k.regs) (λ f is. guest-bytes (image k) k.lists k.regs)

-- ---- the task that reports faults

-- a line has at most 47 bytes, and there are at most 64
seven : (a b c d e f g : List ℕ) → length (joined (a ∷ b ∷ c ∷ d ∷ e ∷ f ∷ g ∷ [])) ≡ length a + (length b + (length c + (length d + (length e + (length f + length g)))))
seven a b c d e f g =
    simp (length-append {A = ℕ}) (omega arith)

module _ (s : List ℕ) (words : (a : ℕ) → get_or s a 0 < 2 ^ 32) where
  line-short : (t : ℕ) → length (report_at s t) ≤ most_in_line
  line-short t = on (is_unreported_word (get_or s (t + 21) 0))
    where
      on : (b : Bool) → length (cond b (report (get_or s (t + 1) 0) (get_or s (t + 21) 0) (get_or s (t + 22) 0)) []) ≤ most_in_line
      on true =
          omega (
            arith,
            seven (codes "Task ") (decimal (get_or s (t + 1) 0)) (codes " fault ") (decimal (get_or s (t + 21) 0)) (codes " at ") (decimal (get_or s (t + 22) 0)) (codes "\n"),
            few_digits (get_or s (t + 1) 0) (words (t + 1)),
            few_digits (get_or s (t + 21) 0) (words (t + 21)),
            few_digits (get_or s (t + 22) 0) (words (t + 22)),
          )
      on false = omega arith

  lines-short : (ts : List ℕ) → length (flat_map (report_at s) ts) ≤ most_in_line * length ts
  lines-short [] = omega arith
  lines-short (t ∷ ts) = omega (arith, length-append (report_at s t) (flat_map (report_at s) ts), line-short t, lines-short ts)

  reports-short : (l : Lists) → HoldsLists s l → length (reports l) ≤ 3008
  unfolding reports_in
  reports-short l h = omega (arith, ap length (reports-read s l h), lines-short (tasks_in s), lines-room s l 5184 h (omega arith))

no-bytes : (serve : List ℕ → Lists → Request → Served) (s : List ℕ) (l : Lists) → length (request_turn serve s l).bytes ≤ 0
no-bytes serve s l = on (first_request (words_taken s l) (work l))
  where
    on : (o : Option Request) → length (turn_of o (serve (words_taken s l) (taken l).lists) s l).bytes ≤ 0
    on None = omega arith
    on (Some r) = omega arith

pub report-bytes : (s : List ℕ) (l : Lists) → HoldsLists s l → ((a : ℕ) → get_or s a 0 < 2 ^ 32) → length (fault_turn s l).bytes ≤ 3008
report-bytes s l h words = on (work l)
  where
    on : (ps : List QueuedPacket) → length (fault_turn_from ps s l).bytes ≤ 3008
    on [] = omega arith
    on (p ∷ ps) = by (eqb p.address fault_packet)
      where
        by : (b : Bool) → length (cond b (reported_turn p ps s l) (request_turn unknown s l)).bytes ≤ 3008
        by true = reports-short s words l h
        by false = omega (arith, no-bytes unknown s l)
