-- When and where a step is taken, with which each of its lines begins.
use Rattle.std.specs.Prelude.{ℕ, List, [], ◌∷◌, ◌++◌, codes, decimal}
use Rattle.byte_streams.specs.Pieces.{joined}
use Rattle.show_run.specs.declared.step_log.moments.Moment.{Moment}

-- the step, the tick, the task and PC
unfoldable pub prefix : Moment → List ℕ
prefix m =
    joined (decimal m.step ∷ codes " " ∷ decimal m.tick ∷ codes " " ∷ decimal m.task ∷ codes " " ∷ decimal m.pc ∷ codes " " ∷ [])

-- a line of the step, up to where something else follows
unfoldable pub start : Moment → List ℕ → List ℕ
start m what = prefix m ++ what

-- a line of the step
unfoldable pub line : Moment → List ℕ → List ℕ
line m what = start m what ++ codes "\n"
