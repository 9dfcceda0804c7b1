-- The relocations of a program rise.
use Rattle.std.proofs.Common.{ℕ, zero, suc, ◌+◌, ◌*◌, ◌<◌, ◌≤◌, Option, Some, None, List, [], ◌∷◌, sym, subst, arith, add-one}
use Rattle.std.specs.Prelude.{option_to_list}
use Rattle.std.specs.List.{AllByRecursion, cons_option, filter_map}
use Rattle.std.specs.List.Sorted.{IsStrictlyIncreasing}
use Rattle.module_text.specs.declared.modules.Module.{Module}
use Rattle.assembly.specs.AssemblyText.AssemblyForm.{AreGiven, Assembles, RelocationsRise, code_of_pieces}
use Rattle.assembly.specs.AssemblyText.Labels.{Table}
use Rattle.assembly.specs.AssemblyText.Places.{end_of, first_offset}
use Rattle.assembly.specs.AssemblyText.Program.{placed}
use Rattle.assembly.specs.declared.assembly_text.pieces.Piece.{Piece}
use Rattle.assembly.specs.declared.assembly_text.statements.Line.{Line}
use Rattle.assembly.proofs.AssemblyText.PieceFits.{piece_fits}
use Rattle.assembly.proofs.AssemblyText.ProgramLemmas.{grows}

abbrev AllFrom : ℕ → List ℕ → Type 0
AllFrom offset rs = AllByRecursion (λ r. offset ≤ 4 * r) rs

from_later : (offset end : ℕ) (rs : List ℕ) → offset ≤ end → AllFrom end rs → AllFrom offset rs
from_later offset end [] h all = tt
from_later offset end (r ∷ rs) h all = let here = all.0 in (omega arith, from_later offset end rs h all.1)

from_by : (o : Option ℕ) (offset end : ℕ) (rs : List ℕ) → offset ≤ end → AllFrom offset (option_to_list o) → AllFrom end rs → AllFrom offset (cons_option o rs)
from_by None offset end rs h own others = from_later offset end rs h others
from_by (Some r) offset end rs h own others = (own.0, from_later offset end rs h others)

all_from : (table : Table) (offset : ℕ) (program : List Line) (pieces : List Piece) → AreGiven table (placed offset program) pieces → AllFrom offset (filter_map (λ piece. piece.relocation) pieces)
all_from table offset [] [] given = tt
all_from table offset [] (p ∷ ps) given = absurd given
all_from table offset (line ∷ lines) [] given = absurd given
all_from table offset (line ∷ lines) (p ∷ ps) given =
    from_by p.relocation offset (end_of line.statement offset) _ (grows line.statement offset) (piece_fits table offset line.statement p given.0).behind (all_from table (end_of line.statement offset) lines ps given.1)

-- each is below the next
abbrev Rises : List ℕ → Type 0
Rises [] = Unit {0}
Rises (r ∷ []) = Unit {0}
Rises (r ∷ s ∷ rs) = (r < s) × Rises (s ∷ rs)

rises_by : (o : Option ℕ) (end : ℕ) (rs : List ℕ) → AllByRecursion (λ r. 4 * r + 4 ≤ end) (option_to_list o) → AllFrom end rs → Rises rs → Rises (cons_option o rs)
rises_by None end rs own others rises = rises
rises_by (Some r) end [] own others rises = tt
rises_by (Some r) end (s ∷ rs) own others rises = let here = own.0 in let next = others.0 in (omega arith, rises)

rises : (table : Table) (offset : ℕ) (program : List Line) (pieces : List Piece) → AreGiven table (placed offset program) pieces → Rises (filter_map (λ piece. piece.relocation) pieces)
rises table offset [] [] given = tt
rises table offset [] (p ∷ ps) given = absurd given
rises table offset (line ∷ lines) [] given = absurd given
rises table offset (line ∷ lines) (p ∷ ps) given =
    let end = end_of line.statement offset in
    rises_by p.relocation end _ (piece_fits table offset line.statement p given.0).inside (all_from table end lines ps given.1) (rises table end lines ps given.1)

increasing : (rs : List ℕ) → Rises rs → IsStrictlyIncreasing rs
increasing [] h k lt = absurd (omega arith)
increasing (r ∷ []) h k lt = absurd (omega arith)
increasing (r ∷ s ∷ rs) h zero lt = h.0
increasing (r ∷ s ∷ rs) h (suc k) lt = rw (add-one (suc k)) (rw (add-one k) at (increasing (s ∷ rs) h.1 k (omega arith)))

pub relocations_rise : (text : List ℕ) (m : Module) → Assembles text m → RelocationsRise m
relocations_rise text m a =
    subst (λ (x : Module). RelocationsRise x) (sym a.made) (increasing (code_of_pieces a.pieces).relocations (rises a.table first_offset a.program a.pieces a.given), tt)
