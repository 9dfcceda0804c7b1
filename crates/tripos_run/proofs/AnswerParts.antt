-- Answers, from what was read, run and written.
use Rattle.std.proofs.Common.{◌≡◌, ◌∙◌, ℕ, Option, None, Result, Ok, Err, List, [], ◌++◌, length, refl, sym, ap, subst}
use Rattle.std.specs.Io.KnownBytes.{Appends}
use Rattle.byte_streams.specs.Write.{AppendsPrefix, Prints}
use Rattle.byte_streams.specs.Pending.{IsGathered}
use Rattle.byte_streams.proofs.AppendedTexts.{AppendsPrefix-more}
use Rattle.byte_streams.proofs.GatheredTexts.{Prints-after}
use Rattle.session_text.specs.SessionOfText.{session_of}
use Rattle.tripos_run.specs.SessionGenerator.Generated.{generated}
use Rattle.kernel_model.specs.declared.kernel_record.stops.Stop.{Stop}
use Rattle.kernel_model.specs.declared.kernel_record.stops.Stop.TheVariants.{Steps, Quit, Finish, Fault}
use Rattle.program_answers.specs.Answer.{Answer, Answers}
use Rattle.program_answers.specs.Answered.{Answered}
use Rattle.program_answers.specs.Input.{IsInput}
use Rattle.program_answers.specs.declared.status.Status.{Status}
use Rattle.program_answers.specs.declared.status.Status.TheVariants.{Done, GuestFault, Usage, Refused, NoBoot, ReadFault, WriteFault, TooLong, WantMemory}
use Rattle.program_answers.proofs.AnswerParts.{Answers-any, Answers-usage_text, status_after}
use Rattle.tripos_run.specs.declared.commands.Job.{Job}
use Rattle.tripos_run.specs.declared.reports.Report.{Report}
use Rattle.tripos_run.specs.declared.reports.Report.TheVariants.{Sums}
use Rattle.tripos_run.specs.Answer.{AreEnd, RunEnd, closed_answer, session_answer, status_of, words_text}
use Rattle.tripos_run.specs.Input.{IsMachineEnd}
use Rattle.tripos_run.specs.InputAnswers.{IsJobAnswer, generated_answer, usage_answer}
use Rattle.tripos_run.specs.Texts.{closing_text, usage_text}

Answers-stop : (a : Answer) (h k : Option (List ℕ)) (stop : Stop) → a.status ≡ status_of stop → Appends h k a.bytes → Answers a h k (status_of stop)
Answers-stop a h k Steps e p = (e, p)
Answers-stop a h k (Quit code) e p = (e, p)
Answers-stop a h k Finish e p = (e, p)
Answers-stop a h k (Fault code address task) e p = (e, p)

pub Answers-run_text : {T E : Type 0} (a : Answer) (h k : Option (List ℕ)) (stop : Stop) (written : Result T E) → a.status ≡ status_of stop → Prints h k a.bytes written → Answers a h k (status_after written (status_of stop))
Answers-run_text a h k stop (Ok t) e p = Answers-stop a h k stop e p
Answers-run_text a h k stop (Err d) e p = p

-- the answer of the session that a number makes is that of its text
pub generated-is : (n size : ℕ) (text : List ℕ) → text ≡ generated n → size ≡ length text → session_answer (Sums size) (session_of text) ≡ generated_answer n
unfolding generated_answer
generated-is n size text is whole = ap (λ s. session_answer (Sums s) (session_of text)) whole ∙ ap (λ t. session_answer (Sums (length t)) (session_of t)) is

-- a text was gathered where nothing was pending, and another was printed after it
pub Prints-first : {T E : Type 0} {h m : Option (List ℕ)} {p q a : List ℕ} (k : Option (List ℕ)) (b : List ℕ) (written : Result T E) → p ≡ [] → IsGathered h m p q a → Prints m k (q ++ b) written
    → Prints h k (a ++ b) written
Prints-first {h = h} {a = a} k b written none gathered last =
    subst (λ (v : List ℕ). Prints h k (v ++ (a ++ b)) written) none (Prints-after gathered k b written last)

module _ (report : Report) (x : RunEnd) (before : List ℕ) where
  -- the text before was printed with the end of the run
  pub Answers-closed : {T E : Type 0} (h k : Option (List ℕ)) {steps : ℕ} {stop : Stop} {words : List ℕ} (written : Result T E) → AreEnd x steps stop words
      → Prints h k (before ++ (closing_text steps stop ++ words_text report words)) written → Answers (closed_answer report before x) h k (status_after written (status_of stop))
  Answers-closed h k {steps} {stop} {words} written end p =
      let text : closing_text steps stop ++ words_text report words ≡ closing_text x.steps x.stop ++ words_text report x.words = rw (end.steps_are, end.stop_is, end.words_are) refl in
      Answers-run_text (closed_answer report before x) h k stop written (ap status_of (sym end.stop_is)) (subst (λ (v : List ℕ). Prints h k (before ++ v) written) text p)

  -- the sink failed at the text before
  pub AppendsPrefix-closed : (h k : Option (List ℕ)) → AppendsPrefix h k before → AppendsPrefix h k (closed_answer report before x).bytes
  AppendsPrefix-closed h k p = AppendsPrefix-more h k before (closing_text x.steps x.stop ++ words_text report x.words) p

  -- the text before was gathered, and what was pending of it was printed with the end of the run
  pub Answers-behind : {h m : Option (List ℕ)} {p q : List ℕ} (k : Option (List ℕ)) (s : Status) → p ≡ [] → IsGathered h m p q before → IsMachineEnd s → Answers (closed_answer report q x) m k s
      → Answers (closed_answer report before x) h k s
  Answers-behind {h} {m} {p} {q} k s none gathered ends a = on s ends a
    where
      tail : List ℕ
      tail = closing_text x.steps x.stop ++ words_text report x.words

      whole : {T E : Type 0} (r : Result T E) → Prints m k (q ++ tail) r → Prints h k (before ++ tail) r
      whole r last = Prints-first k tail r none gathered last

      ok : Result (Unit {0}) (Unit {0})
      ok = Ok tt

      err : Result (Unit {0}) (Unit {0})
      err = Err tt

      on : (s : Status) → IsMachineEnd s → Answers (closed_answer report q x) m k s → Answers (closed_answer report before x) h k s
      on Done e b = (b.0, whole ok b.1)
      on GuestFault e b = (b.0, whole ok b.1)
      on WriteFault e b = whole err b
      on Usage e b = absurd e
      on Refused e b = absurd e
      on NoBoot e b = absurd e
      on ReadFault e b = absurd e
      on TooLong e b = absurd e
      on WantMemory e b = absurd e

-- words that ask for nothing get the usage
pub Answers-usage : {T E : Type 0} (job : Option Job) (left h k : Option (List ℕ)) (written : Result T E) → job ≡ None → Prints h k usage_text written → (input : List ℕ) × IsInput left input × Answered (IsJobAnswer job input) h k (status_after written Usage)
Answers-usage job left h k written is p =
    let x = Answers-any usage_answer left h k (status_after written Usage) (Answers-usage_text usage_answer h k written refl p) in
    (x.0, x.1, rw is x.2)

-- a job's answer to an input, where the job is known
pub Answers-job : {job other : Option Job} (left h k : Option (List ℕ)) (s : Status) → job ≡ other → (input : List ℕ) × IsInput left input × Answered (IsJobAnswer other input) h k s
    → (input : List ℕ) × IsInput left input × Answered (IsJobAnswer job input) h k s
Answers-job left h k s is x = (x.0, x.1, rw is x.2)
