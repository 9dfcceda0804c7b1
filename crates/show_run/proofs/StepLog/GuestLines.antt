-- The line of what a guest does.
use Rattle.std.proofs.Common.{◌≡◌, ℕ, ◌==◌, List, ap}
use Rattle.std.specs.Prelude.{codes, if◌then◌else◌}
use Rattle.word_store.specs.Bytes.{byte_at}
use Rattle.show_run.specs.declared.step_log.moments.Moment.{Moment}
use Rattle.show_run.specs.StepLog.Moments.{line}
use Rattle.show_run.specs.StepLog.StepLines.{guest_line, listed_line}

pub guest-dies : (m : Moment) (words : List ℕ) → m.pc ≡ 0 → guest_line m words ≡ line m (codes "die PC is 0")
guest-dies m words is = ap (λ n. if n == 0 then line m (codes "die PC is 0") else listed_line m (byte_at words m.pc) words) is
