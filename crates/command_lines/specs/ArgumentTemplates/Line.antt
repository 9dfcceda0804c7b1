-- Command lines, cut into items.
use Rattle.std.specs.Prelude.{ℕ, ◌+◌, ◌==◌, if◌then◌else◌, List, [], ◌∷◌}
use Rattle.command_lines.specs.declared.argument_templates.items.Item.{Item}
use Rattle.command_lines.specs.declared.argument_templates.items.Form.{Form}
use Rattle.command_lines.specs.declared.argument_templates.items.Form.TheVariants.{Word, Quoted, Open}

-- an item's form, and the places in the line where it begins and ends
abbrev pub item : Form → ℕ → ℕ → Item
item form from to = record { form = form; from = from; to = to }

-- where a byte of a line is: between items, in a word that began at a place, or in quotes
pub data Place : Type 0 where
  between : Place
  in_word : ℕ → Place
  in_quotes : ℕ → Place

-- The items of the bytes from a place of the line on, whose number is at. Spaces separate items. A `"` opens quotes at the front of
-- an item, and is a byte as others inside a word. The next `"` closes them, and another item may follow directly.
abbrev pub items_in : Place → ℕ → List ℕ → List Item
items_in between at [] = []
items_in between at (c ∷ cs) =
    if c == 32 then items_in between (at + 1) cs else
    if c == 34 then items_in (in_quotes (at + 1)) (at + 1) cs else items_in (in_word at) (at + 1) cs
items_in (in_word from) at [] = item Word from at ∷ []
items_in (in_word from) at (c ∷ cs) =
    if c == 32 then item Word from at ∷ items_in between (at + 1) cs else items_in (in_word from) (at + 1) cs
items_in (in_quotes from) at [] = item Open from at ∷ []
items_in (in_quotes from) at (c ∷ cs) =
    if c == 34 then item Quoted from at ∷ items_in between (at + 1) cs else items_in (in_quotes from) (at + 1) cs

-- the items that begin at a place of a line or after it
abbrev pub items_from : ℕ → List ℕ → List Item
items_from at rest = items_in between at rest

-- the items of a line, in their order
abbrev pub items : List ℕ → List Item
items line = items_from 0 line
