-- What a turn keeps: who runs, that no other task has the field of one that runs, and that C is a byte.
use Rattle.std.proofs.Common.{◌≡◌, ◌<◌, ℕ, List, Bool, true, false, Result, Ok, Err, cond, eqb, refl, sym, ap, ◌∙◌, subst}
use Rattle.std.specs.List.{AllByRecursion}
use Rattle.word_store.specs.Bytes.{byte_at}
use Rattle.word_store.specs.declared.registers.Regs.{Regs}
use Rattle.instruction_set.specs.OperandForms.Decoded.{decoded}
use Rattle.instruction_set.specs.declared.operand_forms.instructions.DecodeEnd.{DecodeEnd}
use Rattle.instruction_set.specs.declared.operand_forms.instructions.Instr.{Instr}
use Rattle.instruction_set.specs.Instruction.{After, after, decided, instruction}
use Rattle.instruction_set.specs.declared.Outcome.{Outcome}
use Rattle.instruction_set.specs.declared.Outcome.TheVariants.{Next, Sys, Returned, Fault as Faulted}
use Rattle.instruction_set.proofs.ByteRegister.{effected-byte}
use Rattle.kernel_lists.specs.Coroutines.CoroutineExchanges.{current_of}
use Rattle.kernel_model.specs.KernelRecord.Lists.{Lists}
use Rattle.kernel_model.specs.KernelRecord.Task.{is_guest_id}
use Rattle.kernel_model.specs.KernelDispatch.Dispatch.{CanDispatch}
use Rattle.kernel_calls.specs.CallAnswers.Callers.{HasCaller}
use Rattle.kernel_calls.specs.CoroutineCalls.CallersCoroutines.{coroutines_of_caller}
use Rattle.kernel_calls.specs.CoroutineCalls.CoWait.{ended, with_ended}
use Rattle.kernel_calls.specs.Calls.{kernel_call}
use Rattle.kernel_calls.specs.CallNumbers.{call_of}
use Rattle.guest_turns.specs.Guarded.{is_owned}
use Rattle.guest_turns.specs.GuestTurn.{GuestTurn, Numbers, after_instruction, died, dies, numbers_of, turn_without_reporter}
use Rattle.kernel_model.specs.KernelRecord.Running.{RunsAlone, RunsAs}
use Rattle.guest_turns.proofs.CallFields.{Keeps, KeepsSwitched, read-keeps, switched-keeps}
use Rattle.guest_turns.proofs.RunningField.{RunsIn, one-runs}

-- ---- the instruction

module _ (marks : ℕ → Bool) (s : List ℕ) (r : Regs) (byte : r.c < 256) where
  either-byte : (b : Bool) (x y : After) → x.regs.c < 256 → y.regs.c < 256 → (cond b x y).regs.c < 256
  either-byte true x y p q = p
  either-byte false x y p q = q

  decided-byte : (d : Result Instr DecodeEnd) → (decided marks s r d).regs.c < 256
  decided-byte (Err e) = byte
  decided-byte (Ok i) = effected-byte marks s r byte i

  instruction-byte : (instruction marks s r).regs.c < 256
  instruction-byte = either-byte (eqb r.pc 0) (after Returned s r) (decided marks s r (decoded (byte_at s) r.pc)) byte (decided-byte (decoded (byte_at s) r.pc))

-- ---- the turn

-- the lists that a turn leaves, and its registers where C was a byte
pub record Fits (nums : Numbers) (r : Regs) (m : GuestTurn) : Type 0 where
  pub lists : RunsIn nums m.lists
  pub byte : r.c < 256 → m.regs.c < 256

module _ (nums : Numbers) (l : Lists) (h : RunsIn nums l) where
  called-keeps : (s : List ℕ) (r : Regs) → Keeps nums r.c (kernel_call s l r)
  unfolding kernel_call
  called-keeps s r = read-keeps nums l h s r (call_of s r)

  returned-keeps : (r : Regs) (b : Bool) → KeepsSwitched nums r.c (cond b (dies l r) (ended l r))
  returned-keeps r true = record { lists = one-runs nums l l.running died (λ t one e. cc) h; same = refl }
  returned-keeps r false = switched-keeps nums l h with_ended r.a r

  instruction-fits : (s : List ℕ) (r : Regs) (outcome : Outcome) → Fits nums r (after_instruction l s r outcome)
  instruction-fits s r Next = record { lists = h; byte = λ small. small }
  instruction-fits s r Sys =
      let k : Keeps nums r.c (kernel_call s l r) = called-keeps s r in
      record { lists = k.lists; byte = λ small. subst (λ c. c < 256) (sym k.same) small }
  instruction-fits s r Returned =
      let k = returned-keeps r (eqb (current_of (coroutines_of_caller l)) 0) in
      record { lists = k.lists; byte = λ small. subst (λ c. c < 256) (sym k.same) small }
  instruction-fits s r (Faulted f) = record { lists = h; byte = λ small. small }

  turn-fits : (s : List ℕ) (r : Regs) → Fits nums r (turn_without_reporter s l r)
  unfolding turn_without_reporter
  turn-fits s r =
      let x : After = instruction (is_owned l) s r in
      let fits : Fits nums x.regs (after_instruction l x.words x.regs x.outcome) = instruction-fits x.words x.regs x.outcome in
      record { lists = fits.lists; byte = λ small. fits.byte (instruction-byte (is_owned l) s r small) }

module _ (s : List ℕ) (l : Lists) (r : Regs) (alone : RunsAlone l) where
  fits : Fits (numbers_of l) r (turn_without_reporter s l r)
  fits = turn-fits (numbers_of l) l (record { numbers = refl; alone = alone }) s r

  pub turn-numbers : numbers_of (turn_without_reporter s l r).lists ≡ numbers_of l
  turn-numbers = fits.lists.numbers

  turn-running : (turn_without_reporter s l r).lists.running ≡ l.running
  turn-running = ap (λ n. n.running) turn-numbers

  pub turn-dispatches : HasCaller l → r.c < 256 → CanDispatch (turn_without_reporter s l r).lists (turn_without_reporter s l r).regs
  turn-dispatches c small = record {
    field = subst (λ i. AllByRecursion (RunsAs i) (turn_without_reporter s l r).lists.tasks) (sym turn-running) fits.lists.alone;
    registers =
        record {
          byte = fits.byte small;
          idle = λ none. (let guest : is_guest_id (turn_without_reporter s l r).lists.running ≡ true = ap is_guest_id turn-running ∙ c.guest in cc);
        };
  }
