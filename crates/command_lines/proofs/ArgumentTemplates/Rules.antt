-- The answer follows the rules, and the rules lead to it alone.
use Rattle.std.proofs.Common.{◌≡◌, ℕ, Bool, true, false, Option, Some, None, Result, Ok, Err, List, [], ◌∷◌, refl, replicate}
use Rattle.std.specs.List.{list_any, position, zip}
use Rattle.std.specs.Prelude.{slice_set, slice_index_or}
use Rattle.command_lines.specs.declared.argument_templates.args.Arg.{Arg}
use Rattle.command_lines.specs.declared.argument_templates.args.Arg.TheVariants.{Unset, Switch}
use Rattle.command_lines.specs.declared.argument_templates.items.Item.{Item}
use Rattle.command_lines.specs.declared.argument_templates.entries.Role.{Role}
use Rattle.command_lines.specs.declared.argument_templates.entries.Role.TheVariants.{SwitchName, EntryName, NoName}
use Rattle.command_lines.specs.ArgumentTemplates.Answer.{answer, filled, is_free, is_open, is_unset, is_whole, role_of, span}
use Rattle.command_lines.specs.ArgumentTemplates.Args.{Args, Reads}
use Rattle.command_lines.specs.ArgumentTemplates.Args.Reads.{at_end, switch, named_value, lone_value, lacks_value, switch_twice, name_twice, surplus}
use Rattle.command_lines.specs.ArgumentTemplates.Args.Args.{no_template, open_quote, item_in_error, required_unset, given}
use Rattle.command_lines.specs.ArgumentTemplates.Line.{items}
use Rattle.command_lines.specs.ArgumentTemplates.Template.{entries, is_template}

-- a name at the end lacks its value, whether its entry is set or not
name-at_end : (all : List (List ℕ)) (line : List ℕ) (args : List Arg) (item : Item) (k : ℕ) → role_of line all item ≡ EntryName k →
    (b : Bool) → is_unset (slice_index_or args k Unset) ≡ b → filled all line args None (item ∷ []) ≡ Err 53
name-at_end all line args item k role true e = rw (role, e) refl
name-at_end all line args item k role false e = rw (role, e) refl

-- what the rules lead to is what the items give
pub filled-complete : {all : List (List ℕ)} {line : List ℕ} {args : List Arg} {more : List Item} {outcome : Result (List Arg) ℕ} →
    Reads all line args more outcome → filled all line args None more ≡ outcome
filled-complete at_end = refl
filled-complete (switch k role unset rest) = rw (role, unset) (filled-complete rest)
filled-complete (named_value k role unset rest) = rw (role, unset) (filled-complete rest)
filled-complete (lone_value k role first rest) = rw (role, first) (filled-complete rest)
filled-complete {all} {line} (lacks_value {args} {item} k role) = name-at_end all line args item k role (is_unset (slice_index_or args k Unset)) refl
filled-complete (switch_twice k role set) = rw (role, set) refl
filled-complete (name_twice k role set) = rw (role, set) refl
filled-complete (surplus role none) = rw (role, none) refl

-- one item, by its role, where what comes behind it is read by the rules
module _ (all : List (List ℕ)) (line : List ℕ) (args : List Arg) (item : Item) (more : List Item)
    (next : (after : List Arg) → Reads all line after more (filled all line after None more))
    (value : (k : ℕ) → role_of line all item ≡ EntryName k → is_unset (slice_index_or args k Unset) ≡ true →
    Reads all line args (item ∷ more) (filled all line args (Some k) more)) where
  by_switch : (k : ℕ) → role_of line all item ≡ SwitchName k → (b : Bool) → is_unset (slice_index_or args k Unset) ≡ b →
      Reads all line args (item ∷ more) (filled all line args None (item ∷ more))
  by_switch k role true e = rw (role, e) (switch k role e (next (slice_set args k Switch)))
  by_switch k role false e = rw (role, e) (switch_twice k role e)

  by_name : (k : ℕ) → role_of line all item ≡ EntryName k → (b : Bool) → is_unset (slice_index_or args k Unset) ≡ b →
      Reads all line args (item ∷ more) (filled all line args None (item ∷ more))
  by_name k role true e = rw (role, e) (value k role e)
  by_name k role false e = rw (role, e) (name_twice k role e)

  by_place : role_of line all item ≡ NoName → (place : Option ℕ) → position is_free (zip all args) ≡ place →
      Reads all line args (item ∷ more) (filled all line args None (item ∷ more))
  by_place role (Some k) e = rw (role, e) (lone_value k role e (next (slice_set args k (span item))))
  by_place role None e = rw (role, e) (surplus role e)

  pub by_role : (role : Role) → role_of line all item ≡ role → Reads all line args (item ∷ more) (filled all line args None (item ∷ more))
  by_role (SwitchName k) e = by_switch k e (is_unset (slice_index_or args k Unset)) refl
  by_role (EntryName k) e = by_name k e (is_unset (slice_index_or args k Unset)) refl
  by_role NoName e = by_place e (position is_free (zip all args)) refl

-- what the items give follows the rules
pub filled-sound : (all : List (List ℕ)) (line : List ℕ) (args : List Arg) (more : List Item) →
    Reads all line args more (filled all line args None more)
filled-sound all line args [] = at_end
filled-sound all line args (item ∷ []) =
    by_role all line args item [] (λ after. at_end) (λ k role unset. lacks_value k role) (role_of line all item) refl
filled-sound all line args (item ∷ value ∷ more) =
    by_role all line args item (value ∷ more) (λ after. filled-sound all line after (value ∷ more))
    (λ k role unset. named_value k role unset (filled-sound all line (slice_set args k (span value)) more)) (role_of line all item) refl

-- the outcome of the rules is the answer
pub answer-complete : {template line : List ℕ} {outcome : Result (List Arg) ℕ} → Args template line outcome → answer template line ≡ outcome
answer-complete (no_template bad) = rw bad refl
answer-complete (open_quote lawful quote) = rw (lawful, quote) refl
answer-complete (item_in_error lawful closed reads) = rw (lawful, closed, filled-complete reads) refl
answer-complete (required_unset lawful closed reads lacks) = rw (lawful, closed, filled-complete reads, lacks) refl
answer-complete (given lawful closed reads whole) = rw (lawful, closed, filled-complete reads, whole) refl

-- and the answer follows the rules
module _ (template line : List ℕ) where
  by_whole : (args : List Arg) → is_template (entries template) ≡ true → list_any is_open (items line) ≡ false →
      filled (entries template) line (replicate 8 Unset) None (items line) ≡ Ok args →
      Reads (entries template) line (replicate 8 Unset) (items line) (Ok args) →
      (b : Bool) → is_whole (entries template) args ≡ b → Args template line (answer template line)
  by_whole args lawful closed e reads true whole = rw (lawful, closed, e, whole) (given lawful closed reads whole)
  by_whole args lawful closed e reads false lacks = rw (lawful, closed, e, lacks) (required_unset lawful closed reads lacks)

  by_outcome : is_template (entries template) ≡ true → list_any is_open (items line) ≡ false → (outcome : Result (List Arg) ℕ) →
      filled (entries template) line (replicate 8 Unset) None (items line) ≡ outcome →
      Reads (entries template) line (replicate 8 Unset) (items line) outcome → Args template line (answer template line)
  by_outcome lawful closed (Ok args) e reads = by_whole args lawful closed e reads (is_whole (entries template) args) refl
  by_outcome lawful closed (Err code) e reads = rw (lawful, closed, e) (item_in_error lawful closed reads)

  by_quotes : is_template (entries template) ≡ true → (b : Bool) → list_any is_open (items line) ≡ b → Args template line (answer template line)
  by_quotes lawful true quote = rw (lawful, quote) (open_quote lawful quote)
  by_quotes lawful false closed =
      by_outcome lawful closed (filled (entries template) line (replicate 8 Unset) None (items line)) refl
      (filled-sound (entries template) line (replicate 8 Unset) (items line))

  by_template : (b : Bool) → is_template (entries template) ≡ b → Args template line (answer template line)
  by_template true lawful = by_quotes lawful (list_any is_open (items line)) refl
  by_template false bad = rw bad (no_template bad)

pub answer-sound : (template line : List ℕ) → Args template line (answer template line)
answer-sound template line = by_template template line (is_template (entries template)) refl
