-- The ring of a text, read line by line, or the first line in error.
use Rattle.std.specs.Prelude.{ℕ, ◌+◌, List, Result, Ok, codes}
use Rattle.module_text.specs.TextReader.Lines.{lines_of}
use Rattle.module_text.specs.TextReader.Refusal.{Refusal}
use Rattle.module_text.specs.TextReader.Steps.{◌>>=◌}
use Rattle.machine_ring.specs.RingLink.Heads.{head_lines}
use Rattle.machine_ring.specs.RingLink.Machines.{behind, kernel_lines, left_lines}
use Rattle.machine_ring.specs.RingLink.NextLines.{line_after}
use Rattle.machine_ring.specs.declared.ring_link.inputs.RingInput.{RingInput}
use Rattle.machine_ring.specs.declared.ring_link.inputs.TheConstants.{LEFT_LINE}

-- the ring of these lines
abbrev pub ring_lines : List (List ℕ) → Result RingInput Refusal
ring_lines lines = do
  head ← head_lines lines
  left ← behind LEFT_LINE (left_lines head.1)
  rest ← line_after (codes "RIGHT") (LEFT_LINE + left.1.1 + 1) left.1.0
  right ← behind (LEFT_LINE + left.1.1 + 1) (kernel_lines rest)
  Ok (record {
    rounds = head.0.rounds;
    wait = head.0.wait;
    link = head.0.link;
    acks = head.0.acks;
    left = left.0;
    right = right;
    left_line = LEFT_LINE;
    right_line = LEFT_LINE + left.1.1 + 1;
  })

-- the ring of a text
unfoldable pub ring_of : List ℕ → Result RingInput Refusal
ring_of text = ring_lines (lines_of text)
