-- The values that names have.
use Rattle.std.specs.Prelude.{ℕ, ℤ, List, Option, Result, Err}
use Rattle.std.specs.Option.{option_map_or}
use Rattle.std.specs.BTreeMap.{BTreeMap, get_by}
use Rattle.std.specs.Cmp.Lexicographic.{slice_cmp}
use Rattle.std.specs.Ordering.{nat_cmp}
use Rattle.lab_marks.specs.declared.wrongs.Wrong.{Wrong}
use Rattle.lab_marks.specs.declared.wrongs.Wrong.TheVariants.{NoName}
use Rattle.lab_marks.specs.Arithmetic.{short}
use denote.Ref.{Bor}

-- the value that a map has for a name
abbrev pub kept : BTreeMap (Bor (List ℕ)) ℤ → List ℕ → Option ℤ
kept m name = get_by (λ key. slice_cmp nat_cmp name key.now) m

-- what a name is worth
abbrev pub name_worth : (List ℕ → Option ℤ) → List ℕ → Result ℤ Wrong
name_worth known name = option_map_or short (known name) (Err (NoName name))
