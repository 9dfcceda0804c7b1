-- Words and an input have at most one answer.
use Rattle.std.proofs.Common.{◌≡◌, ◌∙◌, ℕ, inl, inr, Bool, true, false, List, length, Option, None, Some, Result, Ok, Err, sym, ap}
use Rattle.std.specs.Prelude.{nat_le}
use Rattle.module_text.specs.TextReader.Lines.{lines_of}
use Rattle.module_text.specs.TextReader.Refusal.{Refusal}
use Rattle.session_text.specs.SessionOfText.{session_of}
use Rattle.session_text.specs.declared.sessions.Session.{Session}
use Rattle.tripos_machine.specs.Boot.{boot}
use Rattle.kernel_model.specs.declared.kernel_record.stops.Stop.{Stop}
use Rattle.tripos_machine.specs.State.{State, stop_of}
use Rattle.tripos_machine.specs.Step.{Stepped, run}
use Rattle.saved_text.specs.ImageOfText.{image_of}
use Rattle.saved_text.specs.declared.images.Image.{Image}
use Rattle.saved_machine.proofs.MachineImage.SavedMachines.{which-machine}
use Rattle.program_answers.specs.Answer.{Answer}
use Rattle.program_answers.specs.Input.{IsAnswerWithin, IsInputAnswer, limit}
use Rattle.tripos_run.specs.InputAnswers.{IsAnswer, IsJobAnswer, IsTextAnswer}
use Rattle.tripos_run.specs.SavedAnswers.{IsKept, IsResumed, IsResumedImage, IsSaved, IsSavedSession, resumed_answer}
use Rattle.tripos_run.specs.Words.{job_of}
use Rattle.tripos_run.specs.declared.commands.Command.{Command}
use Rattle.tripos_run.specs.declared.commands.Command.TheVariants.{Run, Dump, Trace, Asm, Disasm, Debug, Save, Resume, Ring}
use Rattle.tripos_run.specs.declared.commands.Job.{Job}
use Rattle.tripos_run.specs.declared.commands.Job.TheVariants.{Answer as AnswerJob, Generate as GenerateJob}

-- what is one thing is at most one
the-one : {A : Type 0} {x a b : A} → a ≡ x → b ≡ x → a ≡ b
the-one p q = p ∙ sym q

-- a saved machine goes on, or there is none
one-of-image : (last : ℕ) (x : Image) (a b : Answer) → IsResumedImage last x a → IsResumedImage last x b → a ≡ b
one-of-image last x a b (inl (s, is, p)) (inl (t, same, q)) = p ∙ ap (resumed_answer x.go) (which-machine x s is ∙ sym (which-machine x t same)) ∙ sym q
one-of-image last x a b (inl (s, is, p)) (inr (none, q)) = absurd (none (s, is))
one-of-image last x a b (inr (none, p)) (inl (t, same, q)) = absurd (none (t, same))
one-of-image last x a b (inr (none, p)) (inr (never, q)) = the-one p q

one-resumed : (last : ℕ) (r : Result Image Refusal) (a b : Answer) → IsResumed last r a → IsResumed last r b → a ≡ b
one-resumed last (Ok x) a b p q = one-of-image last x a b p q
one-resumed last (Err r) a b p q = the-one p q

-- a machine is kept so, or has stopped so
one-kept : (version go : ℕ) (s : State) (o : Option Stop) (a b : Answer) → IsKept version go s o a → IsKept version go s o b → a ≡ b
one-kept version go s None a b p q = the-one p.0 q.0
one-kept version go s (Some stop) a b p q = the-one p q

one-saved : (r : Result Session Refusal) (a b : Answer) → IsSaved r a → IsSaved r b → a ≡ b
one-saved (Err r) a b p q = the-one p q
one-saved (Ok s) a b p q = on (boot s) p q
  where
    on : (r : Result Stepped Refusal) → IsSavedSession s r a → IsSavedSession s r b → a ≡ b
    on (Ok x) p q = (let t : State = (run s.go x.state).state in one-kept s.version s.go t (stop_of t) a b p q)
    on (Err r) p q = the-one p q

pub one-of-text : (command : Command) (text : List ℕ) (a b : Answer) → IsTextAnswer command text a → IsTextAnswer command text b → a ≡ b
one-of-text Run text a b p q = the-one p q
one-of-text Dump text a b p q = the-one p q
one-of-text Trace text a b p q = the-one p q
one-of-text Asm text a b p q = the-one p q
one-of-text Disasm text a b p q = the-one p q
one-of-text Debug text a b p q = the-one p q
one-of-text Save text a b p q = one-saved (session_of text) a b p q
one-of-text Ring text a b p q = the-one p q
one-of-text Resume text a b p q = one-resumed (length (lines_of text)) (image_of text) a b p q

one-within : (within : Bool) (command : Command) (input : List ℕ) (a b : Answer) → IsAnswerWithin within (IsTextAnswer command) input a → IsAnswerWithin within (IsTextAnswer command) input b → a ≡ b
one-within true command input a b p q = one-of-text command input a b p q
one-within false command input a b p q = the-one p q

one-of-input : (command : Command) (input : List ℕ) (a b : Answer) → IsInputAnswer (IsTextAnswer command) input a → IsInputAnswer (IsTextAnswer command) input b → a ≡ b
unfolding IsInputAnswer
one-of-input command input a b p q = one-within (nat_le (length input) limit) command input a b p q

one-of-job : (job : Option Job) (input : List ℕ) (a b : Answer) → IsJobAnswer job input a → IsJobAnswer job input b → a ≡ b
one-of-job None input a b p q = the-one p q
one-of-job (Some (AnswerJob command)) input a b p q = one-of-input command input a b p q
one-of-job (Some (GenerateJob n)) input a b p q = the-one p q

pub one-answer : (words : List (List ℕ)) (input : List ℕ) (a b : Answer) → IsAnswer words input a → IsAnswer words input b → a ≡ b
one-answer words input a b p q = one-of-job (job_of words) input a b p q
