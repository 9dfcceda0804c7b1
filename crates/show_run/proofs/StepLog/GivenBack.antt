-- What a log of lines gives back, where something was pending before.
use Rattle.std.proofs.Common.{◌≡◌, ℕ, List, [], ◌∷◌, ◌++◌, Option}
use Rattle.byte_streams.specs.Pending.{IsCut}
use Rattle.byte_streams.specs.Write.{AppendsPrefix}
use Rattle.show_run.specs.declared.step_log.moments.Moment.{Moment}

pub cut-behind : (h k : Option (List ℕ)) (p text : List ℕ) → AppendsPrefix h k (p ++ text) → IsCut h k p text
cut-behind h k p text cut = record { prefix = cut }

-- a moment is known from its numbers
pub moments-same : (m n : Moment) → m.step ∷ m.tick ∷ m.task ∷ m.pc ∷ [] ≡ n.step ∷ n.tick ∷ n.task ∷ n.pc ∷ [] → m ≡ n
moments-same m n is =
    let steps : m.step ≡ n.step = cc is in
    let ticks : m.tick ≡ n.tick = cc is in
    let tasks : m.task ≡ n.task = cc is in
    let pcs : m.pc ≡ n.pc = cc is in
    λ i. record { step = steps i; tick = ticks i; task = tasks i; pc = pcs i }
