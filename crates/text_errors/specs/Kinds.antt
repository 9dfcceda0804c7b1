-- The kinds of texts that are read.
use Rattle.std.specs.Prelude.{ℕ, List, codes, Option, Some, None, if◌then◌else◌}
use Rattle.std.specs.Str.{bytes_eq}
use Rattle.text_errors.specs.declared.kinds.TextKind.{TextKind}
use Rattle.text_errors.specs.declared.kinds.TextKind.TheVariants.{Session, Debugging, Ring, Module}

-- the kind of this name, if there is one
abbrev pub kind_named : List ℕ → Option TextKind
kind_named name =
    if bytes_eq name (codes "session") then Some Session else
    if bytes_eq name (codes "debug") then Some Debugging else
    if bytes_eq name (codes "ring") then Some Ring else
    if bytes_eq name (codes "module") then Some Module else
    None
