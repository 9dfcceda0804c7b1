-- How a line is cut into items, rule by rule.
use Rattle.std.specs.Prelude.{◌≡◌, ◌≢◌, ℕ, ◌+◌, List, [], ◌∷◌, ◌++◌, length}
use Rattle.std.specs.List.{AllByRecursion}
use Rattle.command_lines.specs.declared.argument_templates.items.Item.{Item}
use Rattle.command_lines.specs.declared.argument_templates.items.Form.TheVariants.{Word, Quoted, Open}
use Rattle.command_lines.specs.ArgumentTemplates.Line.{item}

-- the byte is not in the text
abbrev pub IsFreeOf : ℕ → List ℕ → Type 0
IsFreeOf byte text = AllByRecursion (λ c. c ≢ byte) text

-- a word may end here: at the line's end, or before a space
abbrev pub MayEnd : List ℕ → Type 0
MayEnd [] = Unit {0}
MayEnd (c ∷ cs) = c ≡ 32

-- The bytes of a line from a place on, and the items that they are.
pub data Cut : ℕ → List ℕ → List Item → Type 0 where
  -- no byte is left
  at_end : {at : ℕ} → Cut at [] []
  -- a space between items
  space : {at : ℕ} {rest : List ℕ} {more : List Item} → Cut (at + 1) rest more → Cut at (32 ∷ rest) more
  -- a word has no space; its first byte is no quote, and quotes in it are bytes as others
  word : {at first : ℕ} (text : List ℕ) {rest : List ℕ} {more : List Item} → first ≢ 32 → first ≢ 34 → IsFreeOf 32 text → MayEnd rest →
      Cut (at + 1 + length text) rest more → Cut at (first ∷ (text ++ rest)) (item Word at (at + 1 + length text) ∷ more)
  -- a text between two quotes, which another item may follow directly
  quoted : {at : ℕ} (text : List ℕ) {rest : List ℕ} {more : List Item} → IsFreeOf 34 text →
      Cut (at + 1 + length text + 1) rest more → Cut at (34 ∷ (text ++ 34 ∷ rest)) (item Quoted (at + 1) (at + 1 + length text) ∷ more)
  -- a quote that no other closes, and all that follows it
  unclosed : {at : ℕ} {text : List ℕ} → IsFreeOf 34 text → Cut at (34 ∷ text) (item Open (at + 1) (at + 1 + length text) ∷ [])
