-- A bundle: words, some of them with the bytes of the file that they name.
use Rattle.std.specs.Prelude.{ℕ, zero, suc, ◌≡◌, List, [], ◌∷◌, ◌++◌, length, Option, Some, None, option_and_then, Result, Ok, Err}
use Rattle.tool_bundles.specs.Entries.{entry_of}
use Rattle.tool_bundles.specs.declared.bundles.Entry.{Entry}
use Rattle.tool_bundles.specs.declared.ends.BundleEnd.{BundleEnd}
use Rattle.tool_bundles.specs.declared.ends.BundleEnd.TheVariants.{NoBundle, WantMemory}

-- The words that are read, with those of a text after them. The text has so many words at most.
abbrev pub entries_after : ℕ → List Entry → List ℕ → Option (List Entry)
entries_after zero read text = Some read
entries_after (suc most) read [] = Some read
entries_after (suc most) read (c ∷ cs) =
    option_and_then (λ entry. entries_after most (read ++ entry.0 ∷ []) entry.1) (entry_of (c ∷ cs))

-- the words of a bundle: each takes one byte of the text at least
abbrev pub bundle_of : List ℕ → Option (List Entry)
bundle_of text = entries_after (length text) [] text

-- there is no bundle, unless memory ran out
abbrev pub EndsAs : {X : Type 0} → BundleEnd → Option X → Type 0
EndsAs NoBundle read = read ≡ None
EndsAs WantMemory read = Unit {0}

-- what a call returned, seen by view, is what the definition reads, unless memory ran out
abbrev pub Reads : {X Y : Type 0} → (X → Y) → Result X BundleEnd → Option Y → Type 0
Reads view (Ok x) read = read ≡ Some (view x)
Reads view (Err e) read = EndsAs e read
