use Rattle.std.proofs.Common.{ℕ, ◌+◌, ◌<◌}
use Rattle.std.specs.Prelude.{◌^◌}
use Rattle.module_text.specs.TextReader.Refusal.{refusal}
use Rattle.session_text.specs.declared.sessions.Session.{Session}
use Rattle.machine_ring.specs.RingLink.LawfulRing.{FitBehind}
use Rattle.session_text.specs.declared.boot_ends.BootEnd.{BootEnd}
use Rattle.session_text.specs.declared.boot_ends.BootEnd.TheVariants.{Line, WantMemory}
use Rattle.tripos_machine.specs.Boot.{EndsAs, boot}
use Rattle.tripos_machine.proofs.RefusedLines.{boot-refused}
use Rattle.machine_ring.specs.Boot.{FitsBehind}
use Rattle.machine_ring.proofs.start.boot_behind.Goals as goal

-- the line that is refused is one of the session's, and these fit
end-fits : (before : ℕ) (s : Session) (end : BootEnd) → FitBehind before s.lines → EndsAs end (boot s) → FitsBehind before end
end-fits before s (Line line code) fit is = boot-refused (λ n. before + n < 2 ^ 32) s (refusal line code) fit is
end-fits before s WantMemory fit is = tt

pub end_behind-requires : goal.end_behind-requires
end_behind-requires c = end-fits c.args.before c.args.session.now c.in-Err.end c.requires.fit c.in-Err.ensures
