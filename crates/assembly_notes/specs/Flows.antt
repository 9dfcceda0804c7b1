-- Where a run goes after a line.
use Rattle.std.specs.Prelude.{ℕ, ◌||◌, Bool, if◌then◌else◌, List, codes, Option, Some, None}
use Rattle.std.specs.Str.{bytes_eq}
use Rattle.assembly.specs.AssemblyText.Directives.{directive_named}
use Rattle.assembly.specs.declared.assembly_text.directives.Directive.{Directive}
use Rattle.assembly.specs.declared.assembly_text.directives.Directive.TheVariants.{Align, Global}
use Rattle.assembly_notes.specs.declared.flows.Flow.{Flow}
use Rattle.assembly_notes.specs.declared.flows.Flow.TheVariants.{Nothing, Data, GoesOn, Ends}

-- what a line with a directive is to a run
abbrev pub directive_flow : Directive → Flow
directive_flow Align = Nothing
directive_flow Global = Nothing
directive_flow _ = Data

-- the next instruction does not come after one of this name, but for a call that returns
abbrev pub ends_run : List ℕ → Bool
ends_run name =
    bytes_eq name (codes "J") || bytes_eq name (codes "J$") || bytes_eq name (codes "RTN") || bytes_eq name (codes "GOTO")
    || bytes_eq name (codes "SWB") || bytes_eq name (codes "SWL") || bytes_eq name (codes "SYS")

-- what a line with an instruction is to a run
abbrev pub instruction_flow : List ℕ → Flow
instruction_flow name = if ends_run name then Ends else GoesOn

-- what a line with this name is, by the directive that has the name
abbrev pub flow_by : List ℕ → Option Directive → Flow
flow_by name (Some directive) = directive_flow directive
flow_by name None = instruction_flow name

-- what a line with this name is to a run
abbrev pub flow_of : List ℕ → Flow
flow_of name = flow_by name (directive_named name)
