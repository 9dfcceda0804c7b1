-- What a line gives the entries of a template.
use Rattle.std.specs.Prelude.{ℕ, ◌<◌, ◌&&◌, ◌||◌, not, if◌then◌else◌, Bool, true, false, List, [], ◌∷◌, slice_range, slice_set, slice_index_or, replicate, Option, Some, None, Result, Ok, Err}
use Rattle.std.specs.List.{list_any, list_all, position, zip}
use Rattle.command_lines.specs.declared.argument_templates.args.Arg.{Arg}
use Rattle.command_lines.specs.declared.argument_templates.args.Arg.TheVariants.{Unset, Switch, Span}
use Rattle.command_lines.specs.declared.argument_templates.items.Item.{Item}
use Rattle.command_lines.specs.declared.argument_templates.items.Form.TheVariants.{Word, Quoted, Open}
use Rattle.command_lines.specs.declared.argument_templates.entries.Role.{Role}
use Rattle.command_lines.specs.declared.argument_templates.entries.Role.TheVariants.{SwitchName, EntryName, NoName}
use Rattle.command_lines.specs.ArgumentTemplates.Line.{items}
use Rattle.command_lines.specs.ArgumentTemplates.Template.{entries, has_name, is_keyword, is_required, is_switch, is_template}

-- whether an entry was given nothing yet
abbrev pub is_unset : Arg → Bool
is_unset Unset = true
is_unset _ = false

-- whether an item begins with a quote that nothing closes
abbrev pub is_open : Item → Bool
is_open item = elim item.form [ Open ↦ true | Word ↦ false | Quoted ↦ false ]

-- whether an item is a word without quotes
abbrev pub is_word : Item → Bool
is_word item = elim item.form [ Word ↦ true | Open ↦ false | Quoted ↦ false ]

-- an item as a value
abbrev pub span : Item → Arg
span item = Span item.from item.to

-- the place of the switch that has this word among its names
abbrev pub switch_named : List ℕ → List (List ℕ) → Option ℕ
switch_named word all = position (λ entry. has_name word entry && is_switch entry) all

-- the place of the entry, not a switch, that has this word among its names
abbrev pub other_named : List ℕ → List (List ℕ) → Option ℕ
other_named word all = position (λ entry. has_name word entry && not (is_switch entry)) all

-- what a word is: the name of a switch, the name of another entry, or no name
abbrev pub word_role : List ℕ → List (List ℕ) → Role
word_role word all =
    elim (switch_named word all) [ Some k ↦ SwitchName k | None ↦ elim (other_named word all) [ Some k ↦ EntryName k | None ↦ NoName ] ]

-- what an item is: the name of a switch, the name of another entry, or no name, as always where it is quoted
abbrev pub role_of : List ℕ → List (List ℕ) → Item → Role
role_of line all item = if is_word item then word_role (slice_range line item.from item.to) all else NoName

-- the entry that it names is one of the first so many
abbrev pub IsBelow : ℕ → Role → Type 0
IsBelow n (SwitchName k) = k < n
IsBelow n (EntryName k) = k < n
IsBelow n NoName = Unit {0}

-- whether a value that is alone may be this entry's
abbrev pub is_free : List ℕ × Arg → Bool
is_free pair = is_unset pair.1 && not (is_keyword pair.0 || is_switch pair.0)

-- the entries after an item, and the entry whose name the item is, if that waits for its value
abbrev pub Step : Type 0
Step = Result (List Arg × Option ℕ) ℕ

-- the switch at place k is set, unless it was before (53)
abbrev pub switched : List Arg → ℕ → Step
switched args k = if is_unset (slice_index_or args k Unset) then Ok (slice_set args k Switch, None) else Err 53

-- the entry at place k gets the next item, unless it was given one before (53)
abbrev pub waits : List Arg → ℕ → Step
waits args k = if is_unset (slice_index_or args k Unset) then Ok (args, Some k) else Err 53

-- the item goes to the entry at this place; where no entry is left it is one too many (52)
abbrev pub placed : List Arg → Item → Option ℕ → Step
placed args item None = Err 52
placed args item (Some k) = Ok (slice_set args k (span item), None)

-- what an item of this role gives, where no name waits for it
abbrev pub act : List (List ℕ) → List Arg → Item → Role → Step
act all args item (SwitchName k) = switched args k
act all args item (EntryName k) = waits args k
act all args item NoName = placed args item (position is_free (zip all args))

-- an item is the value of the name before it, where that waits for one
abbrev pub step : List (List ℕ) → List ℕ → List Arg → Option ℕ → Item → Step
step all line args (Some k) item = Ok (slice_set args k (span item), None)
step all line args None item = act all args item (role_of line all item)

-- a step, and then the next one, unless the first is refused
abbrev pub and_then : Step → (List Arg → Option ℕ → Result (List Arg) ℕ) → Result (List Arg) ℕ
and_then (Ok next) f = f next.0 next.1
and_then (Err code) f = Err code

-- what the items give, one after another; a name at the end lacks its value
abbrev pub filled : List (List ℕ) → List ℕ → List Arg → Option ℕ → List Item → Result (List Arg) ℕ
filled all line args None [] = Ok args
filled all line args (Some k) [] = Err 53
filled all line args name (item ∷ items) =
    and_then (step all line args name item) (λ after waiting. filled all line after waiting items)

-- whether a required entry is unset
abbrev pub lacks : List ℕ × Arg → Bool
lacks pair = is_required pair.0 && is_unset pair.1

-- whether no required entry is unset
abbrev pub is_whole : List (List ℕ) → List Arg → Bool
is_whole all args = list_all (λ pair. not (lacks pair)) (zip all args)

-- the values of all entries, unless a required one has none (51)
abbrev pub whole : List (List ℕ) → Result (List Arg) ℕ → Result (List Arg) ℕ
whole all (Ok args) = if is_whole all args then Ok args else Err 51
whole all (Err code) = Err code

-- the entries of the template as the line sets them, or the first code that applies
abbrev pub answer : List ℕ → List ℕ → Result (List Arg) ℕ
answer template line =
    if not (is_template (entries template)) then Err 50 else
    if list_any is_open (items line) then Err 54 else
    whole (entries template) (filled (entries template) line (replicate 8 Unset) None (items line))
