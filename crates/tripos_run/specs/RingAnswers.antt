-- What the rounds of a ring write.
use Rattle.std.specs.Prelude.{List, ℕ, [], ◌∷◌, ◌++◌, codes, decimal, Result, Ok, Err}
use Rattle.byte_streams.specs.Pieces.{joined}
use Rattle.module_text.specs.TextReader.Refusal.{Refusal}
use Rattle.machine_ring.specs.Boot.{booted_ring}
use Rattle.machine_ring.specs.Outcomes.{outcome_of}
use Rattle.machine_ring.specs.Rings.{Ring}
use Rattle.machine_ring.specs.RingLink.RingOfText.{ring_of}
use Rattle.machine_ring.specs.declared.ring_link.inputs.RingInput.{RingInput}
use Rattle.machine_ring.specs.Rounds.{Rounded}
use Rattle.machine_ring.specs.Runs.{run}
use Rattle.machine_ring.specs.declared.outcomes.RingOutcome.{RingOutcome}
use Rattle.program_answers.specs.Answer.{Answer, no_boot_answer, refused_answer}
use Rattle.tripos_run.specs.Answer.{status_of}

-- the closing line: the rounds, and how many bytes were sent, were typed at the right machine, and were acknowledged
abbrev pub ring_text : RingOutcome → List ℕ
ring_text o =
    joined (codes "\n* ring after " ∷ decimal o.rounds ∷ codes " rounds: sent " ∷ decimal o.sent ∷ codes " delivered " ∷ decimal o.delivered
    ∷ codes " acknowledged " ∷ decimal o.acknowledged ∷ codes "\n" ∷ [])

-- the console bytes of the right machine, and the closing line; a fault of the right machine is told by the status alone
abbrev pub rounds_answer : Rounded → Answer
rounds_answer x = record { status = status_of (outcome_of x).end; bytes = x.shown ++ ring_text (outcome_of x) }

-- all its rounds
abbrev pub run_ring_answer : Ring → Answer
run_ring_answer r = rounds_answer (run r.link.terms.rounds r)

-- the ring of an input, where both machines boot
abbrev pub booted_answer : Result Ring Refusal → Answer
booted_answer (Ok r) = run_ring_answer r
booted_answer (Err r) = no_boot_answer r

-- the answer to the text of a ring
abbrev pub input_answer : Result RingInput Refusal → Answer
input_answer (Ok input) = booted_answer (booted_ring input)
input_answer (Err r) = refused_answer r

-- the answer to the text of a ring
abbrev pub ring_answer : List ℕ → Answer
ring_answer text = input_answer (ring_of text)
