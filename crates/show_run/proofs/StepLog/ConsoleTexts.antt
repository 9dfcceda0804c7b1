-- The line of the bytes that a step writes.
use Rattle.std.proofs.Common.{◌≡◌, ◌≢◌, ℕ, List, [], ◌∷◌, ◌++◌, Bool, true, false, length, nat_eq, refl, sym, ◌∙◌}
use Rattle.std.specs.Prelude.{codes}
use Rattle.std.specs.List.{flat_map}
use Rattle.show_run.specs.declared.step_log.moments.Moment.{Moment}
use Rattle.show_run.specs.StepLog.Console.{console_lines, shown}
use Rattle.show_run.specs.StepLog.Moments.{start}

pub console-some : (m : Moment) (bytes : List ℕ) → bytes ≢ [] → console_lines m bytes ≡ start m (codes "console \"") ++ (flat_map shown bytes ++ codes "\"\n")
console-some m [] some = absurd (some refl)
console-some m (b ∷ bs) some = refl

pub bytes-some : (bytes : List ℕ) (b : Bool) → b ≡ nat_eq (length bytes) 0 → b ≡ false → bytes ≢ []
bytes-some [] b is none e = (let other : true ≡ false = sym is ∙ none in absurd (cc other))
bytes-some (x ∷ xs) b is none e = absurd (cc e)
