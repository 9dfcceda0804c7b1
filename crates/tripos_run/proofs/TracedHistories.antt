-- The lines that `trace` writes are those of a history.
use Rattle.std.proofs.Common.{◌≡◌, ℕ, ◌≤◌, ◌++◌, List, Ok, append-nil, leb-true, ap, ◌∙◌}
use Rattle.module_text.specs.TextReader.Lines.{lines_of as text_lines}
use Rattle.session_text.specs.Canonical.{IsLawful}
use Rattle.session_text.specs.SessionOfText.{session_of}
use Rattle.session_text.specs.declared.sessions.Session.{Session}
use Rattle.session_text.proofs.Lawful.{session_is_lawful}
use Rattle.session_text.proofs.Sound.{sound}
use Rattle.tripos_machine.specs.Boot.{boot}
use Rattle.kernel_model.specs.KernelRecord.Ranges.{most_steps}
use Rattle.tripos_machine.specs.Runs.{end_of_run}
use Rattle.tripos_machine.specs.State.{steps_of, stop_of}
use Rattle.tripos_machine.specs.Step.{Stepped, run}
use Rattle.tripos_machine.proofs.Histories.{has-boot-history}
use Rattle.program_answers.specs.TraceLog.Traced.{lines_of}
use Rattle.tripos_run.specs.declared.reports.Report.TheVariants.{Events}
use Rattle.program_answers.specs.Answer.{Answer}
use Rattle.tripos_run.specs.Answer.{machine_answer, session_answer}
use Rattle.tripos_run.specs.Texts.{closing_text}
use Rattle.tripos_run.specs.TracedHistory.{TracesHistory}

pub traced-history : (text : List ℕ) (s : Session) (x : Stepped) (a : Answer) → session_of text ≡ Ok s → boot s ≡ Ok x → a ≡ session_answer Events (session_of text) → TracesHistory s x a
traced-history text s x a read booted is =
    let lawful : IsLawful s = session_is_lawful s (text_lines text) (sound text s read) in
    let few : s.go ≤ most_steps = leb-true s.go most_steps lawful.steps in
    let y : Stepped = run s.go x.state in
    let closing : List ℕ = closing_text (steps_of y.state) (end_of_run (stop_of y.state)) in
    let answer : a ≡ machine_answer Events s.go (Ok x) = is ∙ ap (session_answer Events) read ∙ ap (machine_answer Events s.go) booted in
    record {
      lines = ap (λ (b : Answer). b.bytes) answer ∙ ap (λ (c : List ℕ). lines_of (x.events ++ y.events) ++ c) (append-nil closing);
      history = has-boot-history s.go s x lawful booted few;
    }
