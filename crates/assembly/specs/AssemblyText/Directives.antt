-- The names that are no instructions.
use Rattle.std.specs.Prelude.{ℕ, if◌then◌else◌, List, codes, Option, Some, None}
use Rattle.std.specs.Str.{bytes_eq}
use Rattle.assembly.specs.declared.assembly_text.directives.Directive.{Directive}
use Rattle.assembly.specs.declared.assembly_text.directives.Directive.TheVariants.{Byte, Half, Word, Reserve, Address, Align, Global}

-- the directive that a name is, if it is one
abbrev pub directive_named : List ℕ → Option Directive
directive_named name =
    if bytes_eq name (codes "DB") then Some Byte else
    if bytes_eq name (codes "DH") then Some Half else
    if bytes_eq name (codes "DW") then Some Word else
    if bytes_eq name (codes "RES") then Some Reserve else
    if bytes_eq name (codes "DA") then Some Address else
    if bytes_eq name (codes "ALIGN") then Some Align else
    if bytes_eq name (codes "GLOBAL") then Some Global else
    None
