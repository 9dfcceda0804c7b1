use Rattle.std.proofs.Common.{◌≡◌, ◌++◌, drop}
use Rattle.program_places.specs.Answers.{absent_places, found_places}
use Rattle.program_places.proofs.answers.answer_to.Given as goal

abbrev pub invariant-loop-entry : goal.invariant-loop-entry
invariant-loop-entry l = record {
  absent : l.absent.items ++ absent_places l.path l.map l.loaded l.is_alone (drop l.entry-index l.places)
      ≡ absent_places l.path l.map l.loaded l.is_alone l.places;
  found : l.found.items ++ found_places l.map l.loaded l.is_alone (drop l.entry-index l.places)
      ≡ found_places l.map l.loaded l.is_alone l.places;
}
