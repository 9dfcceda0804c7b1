-- How a line is read by a template, rule by rule.
use Rattle.std.specs.Prelude.{ℕ, ◌≡◌, true, false, List, [], ◌∷◌, slice_set, slice_index_or, replicate, Some, None, Result, Ok, Err}
use Rattle.std.specs.List.{list_any, position, zip}
use Rattle.command_lines.specs.declared.argument_templates.args.Arg.{Arg}
use Rattle.command_lines.specs.declared.argument_templates.args.Arg.TheVariants.{Unset, Switch}
use Rattle.command_lines.specs.declared.argument_templates.items.Item.{Item}
use Rattle.command_lines.specs.declared.argument_templates.entries.Role.TheVariants.{SwitchName, EntryName, NoName}
use Rattle.command_lines.specs.ArgumentTemplates.Answer.{is_free, is_open, is_unset, is_whole, role_of, span}
use Rattle.command_lines.specs.ArgumentTemplates.Line.{items}
use Rattle.command_lines.specs.ArgumentTemplates.Template.{entries, is_template}

-- Items, read from left to right by entries that hold args so far. The outcome is what the entries hold in the end, or the code of the
-- first item in error.
pub data Reads (all : List (List ℕ)) (line : List ℕ) : List Arg → List Item → Result (List Arg) ℕ → Type 0 where
  -- no item is left
  at_end : {args : List Arg} → Reads all line args [] (Ok args)
  -- the name of an unset switch sets it
  switch : {args : List Arg} {item : Item} {more : List Item} {outcome : Result (List Arg) ℕ} (k : ℕ) →
      role_of line all item ≡ SwitchName k → is_unset (slice_index_or args k Unset) ≡ true →
      Reads all line (slice_set args k Switch) more outcome → Reads all line args (item ∷ more) outcome
  -- the name of another unset entry takes the next item as its value, whatever that is
  named_value : {args : List Arg} {item value : Item} {more : List Item} {outcome : Result (List Arg) ℕ} (k : ℕ) →
      role_of line all item ≡ EntryName k → is_unset (slice_index_or args k Unset) ≡ true →
      Reads all line (slice_set args k (span value)) more outcome → Reads all line args (item ∷ value ∷ more) outcome
  -- any other item is the value of the first unset entry without `/K` and `/S`
  lone_value : {args : List Arg} {item : Item} {more : List Item} {outcome : Result (List Arg) ℕ} (k : ℕ) →
      role_of line all item ≡ NoName → position is_free (zip all args) ≡ Some k →
      Reads all line (slice_set args k (span item)) more outcome → Reads all line args (item ∷ more) outcome
  -- a name at the end lacks its value
  lacks_value : {args : List Arg} {item : Item} (k : ℕ) → role_of line all item ≡ EntryName k → Reads all line args (item ∷ []) (Err 53)
  -- a name whose entry is set
  switch_twice : {args : List Arg} {item : Item} {more : List Item} (k : ℕ) →
      role_of line all item ≡ SwitchName k → is_unset (slice_index_or args k Unset) ≡ false → Reads all line args (item ∷ more) (Err 53)
  name_twice : {args : List Arg} {item : Item} {more : List Item} (k : ℕ) →
      role_of line all item ≡ EntryName k → is_unset (slice_index_or args k Unset) ≡ false → Reads all line args (item ∷ more) (Err 53)
  -- an item too many
  surplus : {args : List Arg} {item : Item} {more : List Item} →
      role_of line all item ≡ NoName → position is_free (zip all args) ≡ None → Reads all line args (item ∷ more) (Err 52)

-- What a line gives the eight entries, or the first code that applies.
pub data Args (template line : List ℕ) : Result (List Arg) ℕ → Type 0 where
  no_template : is_template (entries template) ≡ false → Args template line (Err 50)
  open_quote : is_template (entries template) ≡ true → list_any is_open (items line) ≡ true → Args template line (Err 54)
  item_in_error : {code : ℕ} → is_template (entries template) ≡ true → list_any is_open (items line) ≡ false →
      Reads (entries template) line (replicate 8 Unset) (items line) (Err code) → Args template line (Err code)
  required_unset : {args : List Arg} → is_template (entries template) ≡ true → list_any is_open (items line) ≡ false →
      Reads (entries template) line (replicate 8 Unset) (items line) (Ok args) → is_whole (entries template) args ≡ false →
      Args template line (Err 51)
  given : {args : List Arg} → is_template (entries template) ≡ true → list_any is_open (items line) ≡ false →
      Reads (entries template) line (replicate 8 Unset) (items line) (Ok args) → is_whole (entries template) args ≡ true →
      Args template line (Ok args)
