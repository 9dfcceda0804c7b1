-- The session of the left machine, and the lines behind it.
use Rattle.std.proofs.Common.{◌≡◌, ◌∙◌, ℕ, ◌≤◌, Ok, List, length, drop, sym, ap, arith}
use Rattle.module_text.specs.TextReader.Lines.{lines_of}
use Rattle.session_text.specs.Front.{front_count, front_end, front_lines}
use Rattle.session_text.specs.SessionOfText.{session_lines}
use Rattle.session_text.specs.declared.sessions.Session.{Session}
use Rattle.session_text.proofs.FrontLines.{length-front_lines, place_after-within}
use Rattle.machine_ring.specs.RingLink.Machines.{left_lines}
use Rattle.machine_ring.proofs.RingLink.LineCounts.{front_count-within, lines_of-drop, place_after-few}

module _ (text : List ℕ) where
  -- a front, and the lines behind its end
  pub left_is : (s : Session) (count : ℕ) (rest : List ℕ) → session_lines (front_lines text) ≡ Ok s → count ≡ length (front_lines text) → rest ≡ drop (front_end text) text
      → left_lines (lines_of text) ≡ Ok (s, (lines_of rest, count))
  left_is s count rest read number behind =
      let lines = sym (ap lines_of behind ∙ lines_of-drop (front_count (lines_of text)) text) in
      let same = sym (number ∙ length-front_lines text) in
      rw read (λ i. Ok (s, (lines i, same i)))

  pub front_end-within : front_end text ≤ length text
  front_end-within = place_after-within (front_count (lines_of text)) text

  -- it has no more lines than bytes
  pub front_lines-few : length (front_lines text) ≤ front_end text
  front_lines-few =
      let few = place_after-few (front_count (lines_of text)) text (front_count-within (lines_of text)) in
      omega (arith, length-front_lines text)

  pub front_lines-within : length (front_lines text) ≤ length text
  front_lines-within = omega (arith, front_lines-few, front_end-within)
