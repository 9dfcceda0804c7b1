-- A machine that is saved goes on as it would have.
use Rattle.std.proofs.Common.{◌≡◌, ℕ, ◌+◌, ◌-◌, ◌<◌, ◌^◌, Option, None, Some, Ok, Err, Result, List, [], ◌++◌, append-nil, arith, get_or, inl, length, refl, subst, sym, ap, leb-true, ◌∙◌}
use Rattle.std.specs.Prelude.{IsTrue}
use Rattle.module_text.specs.TextReader.Lines.{lines_of}
use Rattle.module_text.specs.TextReader.Refusal.{Refusal}
use Rattle.session_text.specs.Canonical.{IsLawful as IsLawfulSession}
use Rattle.session_text.specs.Ranges.{is_step}
use Rattle.session_text.specs.SessionOfText.{session_of}
use Rattle.session_text.specs.declared.sessions.Session.{Session}
use Rattle.session_text.proofs.Lawful.{session_is_lawful}
use Rattle.session_text.proofs.Sound.{sound}
use Rattle.tripos_machine.specs.Boot.{boot}
use Rattle.kernel_model.specs.KernelRecord.Ranges.{is_store_size, most_steps}
use Rattle.kernel_model.specs.declared.kernel_record.stops.Stop.{Stop}
use Rattle.kernel_model.specs.declared.kernel_record.stops.Stop.TheVariants.{Steps, Quit, Finish, Fault}
use Rattle.tripos_machine.specs.Runs.{end_of_run}
use Rattle.tripos_machine.specs.State.{IsSound, State, steps_of, stop_of}
use Rattle.tripos_machine.specs.State.State.{Bare, Full}
use Rattle.tripos_machine.specs.Step.{Stepped, run}
use Rattle.tripos_machine.proofs.BootedStates.{HasWords, IsFirst, boot-alike, booted-first, words-after}
use Rattle.tripos_machine.proofs.StateRuns.{run-counts, run-later, run-more}
use Rattle.saved_text.specs.Canonical.{IsLawful, canonical, with_steps}
use Rattle.saved_text.specs.ImageOfText.{image_of}
use Rattle.saved_text.specs.declared.images.Image.{Image}
use Rattle.saved_machine.specs.ImagePrint.Numbers.{HasWordsAndBytes, IsSized, MayTake}
use Rattle.saved_machine.specs.ImagePrint.SavedImage.{saved_image}
use Rattle.saved_machine.proofs.ImagePrint.LawfulImages.{saved_lawful}
use Rattle.saved_machine.proofs.ImagePrint.ResumedMachines.{resumed}
use Rattle.saved_text.proofs.PrintedText.{printed}
use Rattle.saved_text.proofs.StepsInTexts.{with-steps}
use Rattle.program_answers.specs.Answer.{Answer, no_boot_answer}
use Rattle.program_answers.specs.declared.status.Status.{Status}
use Rattle.program_answers.specs.declared.status.Status.TheVariants.{Done}
use Rattle.tripos_run.specs.Answer.{machine_answer, session_answer, status_of}
use Rattle.tripos_run.specs.ContinuedAnswers.{IsContinued, IsMachineText}
use Rattle.tripos_run.specs.InputAnswers.{IsTextAnswer}
use Rattle.tripos_run.specs.SavedAnswers.{IsKept, IsResumed, IsResumedText, IsSaved, IsSavedSession, resumed_answer}
use Rattle.tripos_run.specs.Texts.{closing_text}
use Rattle.tripos_run.specs.declared.commands.Command.TheVariants.{Resume, Run, Save}
use Rattle.tripos_run.specs.declared.reports.Report.TheVariants.{Console}
use Rattle.tripos_run.proofs.OneAnswer.{one-of-text}

-- what is written of a machine says how many steps it is to take
steps-to-go : (version : ℕ) (s : State) (go : ℕ) → (saved_image version s go).go ≡ go
steps-to-go version (Bare m) go = refl
steps-to-go version (Full k) go = refl

pub saved-goes-on : (version : ℕ) (s : State) (go : ℕ) → IsSound s → stop_of s ≡ None → HasWordsAndBytes s → IsSized version s → MayTake s go → IsResumedText (canonical (saved_image version s go)) (resumed_answer go s)
saved-goes-on version s go sound goes numbers sized may =
    let x : Image = saved_image version s go in
    let read : image_of (canonical x) ≡ Ok x = printed x (saved_lawful version s go sound numbers sized may) in
    subst (λ (r : Result Image Refusal). IsResumed (length (lines_of (canonical x))) r (resumed_answer go s)) (sym read)
    (inl (s, resumed version s go sound goes, ap (λ n. resumed_answer n s) (sym (steps-to-go version s go))))

-- ---- what begins as the text of a machine

begins : (text : List ℕ) → IsMachineText text → get_or text 0 0 ≡ 84
begins text m = ap (λ (t : List ℕ). get_or t 0 0) m.1

-- no closing line does, and no refusal
not-closing : (a : Answer) (steps : ℕ) (stop : Stop) → a.bytes ≡ closing_text steps stop → IsMachineText a.bytes → ⊥
not-closing a steps Steps is m = (let ten : get_or a.bytes 0 0 ≡ 10 = ap (λ (t : List ℕ). get_or t 0 0) is in omega (arith, ten, begins a.bytes m))
not-closing a steps (Quit code) is m = (let ten : get_or a.bytes 0 0 ≡ 10 = ap (λ (t : List ℕ). get_or t 0 0) is in omega (arith, ten, begins a.bytes m))
not-closing a steps Finish is m = (let ten : get_or a.bytes 0 0 ≡ 10 = ap (λ (t : List ℕ). get_or t 0 0) is in omega (arith, ten, begins a.bytes m))
not-closing a steps (Fault code address task) is m = (let ten : get_or a.bytes 0 0 ≡ 10 = ap (λ (t : List ℕ). get_or t 0 0) is in omega (arith, ten, begins a.bytes m))

not-no_boot : (a : Answer) (r : Refusal) → a ≡ no_boot_answer r → IsMachineText a.bytes → ⊥
not-no_boot a r is m = (let star : get_or a.bytes 0 0 ≡ 42 = ap (λ (b : Answer). get_or b.bytes 0 0) is in omega (arith, star, begins a.bytes m))

-- ---- a store of the size that the session says

sized : (s : Session) (t : State) → IsLawfulSession s → HasWords s.store t → IsSized s.version t
sized s (Bare m) lawful words = (lawful.version, subst (λ (n : ℕ). IsTrue (is_store_size s.version n)) (sym words) lawful.store)
sized s (Full k) lawful words = tt

-- ---- the law

abbrev answer_of : Status → List ℕ → Answer
answer_of status bytes = record { status = status; bytes = bytes }

with-go : (version : ℕ) (s : State) (m n : ℕ) → (let x : Image = saved_image version s m in record x { go = n }) ≡ saved_image version s n
with-go version (Bare b) m n = refl
with-go version (Full k) m n = refl

-- A session that boots so, with n steps more in another text.
module _ (s : Session) (n : ℕ) (x : Stepped) (lawful : IsLawfulSession s) (few : IsTrue (is_step (s.go + n))) (booted : boot s ≡ Ok x) where
  first : IsFirst s.store x.state
  first = booted-first s x lawful booted

  abbrev a : Stepped
  a = run s.go x.state

  abbrev b : Stepped
  b = run n a.state

  module _ (goes : stop_of a.state ≡ None) where
    taken : steps_of a.state ≡ s.go
    taken = (let all = run-counts s.go x.state goes in omega (arith, all, first.steps))

    abbrev last : Stop
    last = end_of_run (stop_of b.state)

    abbrev new_steps : ℕ
    new_steps = steps_of b.state - steps_of a.state

    size : IsSized s.version a.state
    size = sized s a.state lawful (words-after s.go s.store x.state first.words)

    may : MayTake a.state n
    may = subst (λ (m : ℕ). IsTrue (is_step (m + n))) (sym taken) few

    before-is : (before : Answer) → before ≡ machine_answer Console s.go (Ok x) → before ≡ answer_of Done (a.bytes ++ closing_text s.go Steps)
    before-is before is =
        is ∙ ap (λ (o : Option Stop). answer_of (status_of (end_of_run o)) (a.bytes ++ (closing_text (steps_of a.state) (end_of_run o) ++ []))) goes
        ∙ ap (λ (m : ℕ). answer_of Done (a.bytes ++ (closing_text m Steps ++ []))) taken ∙ ap (λ (c : List ℕ). answer_of Done (a.bytes ++ c)) (append-nil (closing_text s.go Steps))

    after-is : (after : Answer) → after ≡ resumed_answer n a.state → after ≡ answer_of (status_of last) (b.bytes ++ closing_text new_steps last)
    after-is after is = is ∙ ap (λ (c : List ℕ). answer_of (status_of last) (b.bytes ++ c)) (append-nil (closing_text new_steps last))

    whole-is : (whole : Answer) → whole ≡ machine_answer Console (s.go + n) (Ok x) → whole ≡ answer_of (status_of last) ((a.bytes ++ b.bytes) ++ closing_text (s.go + new_steps) last)
    whole-is whole is =
        let count : steps_of b.state ≡ s.go + new_steps = (let later = run-later n a.state in omega (arith, later, taken)) in
        is ∙ ap (λ (y : Stepped). answer_of (status_of (end_of_run (stop_of y.state))) (y.bytes ++ (closing_text (steps_of y.state) (end_of_run (stop_of y.state)) ++ []))) (run-more s.go n x.state)
        ∙ ap (λ (m : ℕ). answer_of (status_of last) ((a.bytes ++ b.bytes) ++ (closing_text m last ++ []))) count
        ∙ ap (λ (c : List ℕ). answer_of (status_of last) ((a.bytes ++ b.bytes) ++ c)) (append-nil (closing_text (s.go + new_steps) last))

    -- the text with n steps is the one of the machine, which takes them
    resumes : (kept after : Answer) → kept.bytes ≡ canonical (saved_image s.version a.state s.go) → IsSound a.state → HasWordsAndBytes a.state → IsResumedText (with_steps n kept.bytes) after → after ≡ resumed_answer n a.state
    resumes kept after is sound numbers resumed =
        let image : Image = saved_image s.version a.state s.go in
        let lawful_image : IsLawful (saved_image s.version a.state n) = saved_lawful s.version a.state n sound numbers size may in
        let go : image.go < 2 ^ 64 = omega (arith, steps-to-go s.version a.state s.go, leb-true s.go most_steps lawful.steps) in
        let text : with_steps n kept.bytes ≡ canonical (saved_image s.version a.state n) =
        ap (with_steps n) is ∙ with-steps image n n go (subst IsLawful (sym (with-go s.version a.state s.go n)) lawful_image) ∙ ap canonical (with-go s.version a.state s.go n)
        in
        one-of-text Resume (canonical (saved_image s.version a.state n)) after (resumed_answer n a.state) (subst (λ (t : List ℕ). IsResumedText t after) text resumed)
        (saved-goes-on s.version a.state n sound goes numbers size may)

  continued-by : (o : Option Stop) → stop_of a.state ≡ o → (kept before after whole : Answer) → IsKept s.version s.go a.state o kept → IsMachineText kept.bytes
      → before ≡ machine_answer Console s.go (Ok x) → IsResumedText (with_steps n kept.bytes) after → whole ≡ machine_answer Console (s.go + n) (Ok x) → IsContinued s.go before after whole
  continued-by None goes kept before after whole is text one two both =
      record {
        first = a.bytes;
        rest = b.bytes;
        steps = new_steps goes;
        stop = last goes;
        before_is = before-is goes before one;
        after_is = after-is goes after (resumes goes kept after (ap (λ (k : Answer). k.bytes) is.0) is.1 is.2 two);
        whole_is = whole-is goes whole both;
      }
  continued-by (Some stop) goes kept before after whole is text one two both = absurd (not-closing kept (steps_of a.state) stop (ap (λ (k : Answer). k.bytes) is) text)

pub continued : (text longer : List ℕ) (s : Session) (n : ℕ) (kept before after whole : Answer) → session_of text ≡ Ok s → session_of longer ≡ Ok (record s { go = s.go + n })
    → IsTextAnswer Save text kept → IsMachineText kept.bytes → IsTextAnswer Run text before → IsTextAnswer Resume (with_steps n kept.bytes) after → IsTextAnswer Run longer whole
    → IsContinued s.go before after whole
continued text longer s n kept before after whole read more is machine one two both = on (boot s) refl (subst (λ (r : Result Session Refusal). IsSaved r kept) read is)
  where
    lawful : IsLawfulSession s
    lawful = session_is_lawful s (lines_of text) (sound text s read)

    few : IsTrue (is_step (s.go + n))
    few = (session_is_lawful (record s { go = s.go + n }) (lines_of longer) (sound longer (record s { go = s.go + n }) more)).steps

    on : (r : Result Stepped Refusal) → boot s ≡ r → IsSavedSession s r kept → IsContinued s.go before after whole
    on (Err r) booted saved = absurd (not-no_boot kept r saved machine)
    on (Ok x) booted saved =
        continued-by s n x lawful few booted (stop_of (run s.go x.state).state) refl kept before after whole saved machine
        (one ∙ ap (session_answer Console) read ∙ ap (machine_answer Console s.go) booted) two
        (both ∙ ap (session_answer Console) more ∙ ap (machine_answer Console (s.go + n)) (boot-alike s (s.go + n) ∙ booted))
