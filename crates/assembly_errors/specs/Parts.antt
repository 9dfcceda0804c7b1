-- The parts of a line, each with its columns.
use Rattle.std.specs.Prelude.{ℕ, ◌+◌, ◌-◌, ◌==◌, not, List, [], length, take, drop, Some, None}
use Rattle.std.specs.List.{position, position_or_len}
use Rattle.std.specs.Option.{option_map_or}
use Rattle.assembly_errors.specs.declared.parts.NextPart.{NextPart}
use Rattle.assembly_errors.specs.declared.parts.ThreeParts.{ThreeParts}

-- where the first space is, or the end
abbrev pub first_space : List ℕ → ℕ
first_space left = position_or_len (λ c. c == 32) left

-- the part with which this begins, and what follows it
abbrev pub part_from : List ℕ → List ℕ → NextPart
part_from line left = record {
  part = Some (record {
    text = take (first_space left) left;
    column = length line - length left + 1;
    end = length line - length (drop (first_space left) left) + 1;
  });
  rest = drop (first_space left) left;
}

-- the first part of what is left of a line, if there is one, and what follows it
abbrev pub next_part : List ℕ → List ℕ → NextPart
next_part line left =
    option_map_or (λ start. part_from line (drop start left)) (position (λ c. not (c == 32)) left) (record { part = None; rest = [] })

-- the first three parts of what is left of a line
abbrev pub parts_from : List ℕ → List ℕ → ThreeParts
parts_from line left =
    let first = next_part line left in
    let second = next_part line first.rest in
    let third = next_part line second.rest in
    record { first = first.part; second = second.part; third = third.part }
