-- Which steps a log tells.
use Rattle.std.specs.Prelude.{ℕ, ◌-◌, ◌≤◌, max}
use Rattle.show_run.specs.declared.worded_log.runs.Window.{Window}

-- after so many steps nothing more is told
abbrev pub window_end : Window → ℕ
window_end w = max (w.first - 1) w.last

-- the steps that are told, and those before them, are steps of a run of so many
abbrev pub IsWindow : ℕ → Window → Type 0
IsWindow go w = window_end w ≤ go
