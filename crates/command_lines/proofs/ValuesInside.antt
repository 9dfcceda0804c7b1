-- The values that a line gives lie inside it.
use Rattle.std.proofs.Common.{◌≡◌, ℕ, ◌+◌, ◌≤◌, suc, zero, true, false, cond, Option, Some, None, Result, Ok, Err, List, [], ◌∷◌, length, subst, arith, replicate, set, get_or, nat_eq, not}
use Rattle.std.specs.List.{AllByRecursion, list_any, position, zip}
use Rattle.std.specs.Prelude.{slice_set, slice_index_or}
use Rattle.command_lines.specs.declared.argument_templates.args.Arg.{Arg}
use Rattle.command_lines.specs.declared.argument_templates.args.Arg.TheVariants.{Unset, Switch}
use Rattle.command_lines.specs.declared.argument_templates.items.Item.{Item}
use Rattle.command_lines.specs.declared.argument_templates.items.Form.TheVariants.{Word, Quoted}
use Rattle.command_lines.specs.declared.argument_templates.entries.Role.{Role}
use Rattle.command_lines.specs.declared.argument_templates.entries.Role.TheVariants.{SwitchName, EntryName, NoName}
use Rattle.command_lines.specs.ArgumentTemplates.Answer.{act, and_then, answer, filled, is_free, is_open, is_unset, is_whole, placed, role_of, span, step, whole}
use Rattle.command_lines.specs.ArgumentTemplates.Line.{Place, item, items, items_in}
use Rattle.command_lines.specs.ArgumentTemplates.Line.Place.{between, in_quotes, in_word}
use Rattle.command_lines.specs.ArgumentTemplates.Template.{entries, is_template}
use Rattle.command_lines.specs.Arguments.{AreInside, IsInside}

-- ---- items

-- an item's bytes lie among so many
abbrev IsItemIn : ℕ → Item → Type 0
IsItemIn n i = (i.from ≤ i.to) × (i.to ≤ n)

-- the item that a place is in began before it
abbrev HasBegun : Place → ℕ → Type 0
HasBegun between at = Unit {0}
HasBegun (in_word from) at = from ≤ at
HasBegun (in_quotes from) at = from ≤ at

items-inside : (n : ℕ) (place : Place) (at : ℕ) (cs : List ℕ) → HasBegun place at → at + length cs ≤ n → AllByRecursion (IsItemIn n) (items_in place at cs)
items-inside n between at [] begun all = tt
items-inside n between at (c ∷ cs) begun all =
    elim (nat_eq c 32) as (λ b. AllByRecursion (IsItemIn n) (cond b (items_in between (at + 1) cs) (cond (nat_eq c 34) (items_in (in_quotes (at + 1)) (at + 1) cs) (items_in (in_word at) (at + 1) cs)))) [
      | true ↦ items-inside n between (at + 1) cs tt (omega (arith, all))
      | false ↦
          elim (nat_eq c 34) as (λ b. AllByRecursion (IsItemIn n) (cond b (items_in (in_quotes (at + 1)) (at + 1) cs) (items_in (in_word at) (at + 1) cs))) [
            | true ↦ items-inside n (in_quotes (at + 1)) (at + 1) cs (omega arith) (omega (arith, all))
            | false ↦ items-inside n (in_word at) (at + 1) cs (omega arith) (omega (arith, all))
          ]
    ]
items-inside n (in_word from) at [] begun all = ((begun, omega (arith, all)), tt)
items-inside n (in_word from) at (c ∷ cs) begun all =
    elim (nat_eq c 32) as (λ b. AllByRecursion (IsItemIn n) (cond b (item Word from at ∷ items_in between (at + 1) cs) (items_in (in_word from) (at + 1) cs))) [
      | true ↦ ((begun, omega (arith, all)), items-inside n between (at + 1) cs tt (omega (arith, all)))
      | false ↦ items-inside n (in_word from) (at + 1) cs (omega (arith, begun)) (omega (arith, all))
    ]
items-inside n (in_quotes from) at [] begun all = ((begun, omega (arith, all)), tt)
items-inside n (in_quotes from) at (c ∷ cs) begun all =
    elim (nat_eq c 34) as (λ b. AllByRecursion (IsItemIn n) (cond b (item Quoted from at ∷ items_in between (at + 1) cs) (items_in (in_quotes from) (at + 1) cs))) [
      | true ↦ ((begun, omega (arith, all)), items-inside n between (at + 1) cs tt (omega (arith, all)))
      | false ↦ items-inside n (in_quotes from) (at + 1) cs (omega (arith, begun)) (omega (arith, all))
    ]

-- ---- what they give

set-inside : (n : ℕ) (args : List Arg) (k : ℕ) (arg : Arg) → AreInside n args → IsInside n arg → AreInside n (set args k arg)
set-inside n [] k arg all one = all
set-inside n (x ∷ xs) zero arg all one = at (λ j. all (suc j))
  where
    at : ((j : ℕ) → IsInside n (get_or xs j Unset)) → (j : ℕ) → IsInside n (get_or (arg ∷ xs) j Unset)
    at rest zero = one
    at rest (suc j) = rest j
set-inside n (x ∷ xs) (suc k) arg all one = at (set-inside n xs k arg (λ i. all (suc i)) one)
  where
    at : ((j : ℕ) → IsInside n (get_or (set xs k arg) j Unset)) → (j : ℕ) → IsInside n (get_or (x ∷ set xs k arg) j Unset)
    at rest zero = all zero
    at rest (suc j) = rest j

-- what a step or all items give, where they give entries
abbrev StepInside : ℕ → Result (List Arg × Option ℕ) ℕ → Type 0
StepInside n (Ok x) = AreInside n x.0
StepInside n (Err code) = Unit {0}

abbrev GivenInside : ℕ → Result (List Arg) ℕ → Type 0
GivenInside n (Ok args) = AreInside n args
GivenInside n (Err code) = Unit {0}

act-inside : (n : ℕ) (all : List (List ℕ)) (args : List Arg) (item : Item) (role : Role) → AreInside n args → IsItemIn n item → StepInside n (act all args item role)
act-inside n all args item (SwitchName k) inside here =
    elim (is_unset (slice_index_or args k Unset)) as (λ b. StepInside n (cond b (Ok (slice_set args k Switch, None)) (Err 53))) [ true ↦ set-inside n args k Switch inside tt | false ↦ tt ]
act-inside n all args item (EntryName k) inside here =
    elim (is_unset (slice_index_or args k Unset)) as (λ b. StepInside n (cond b (Ok (args, Some k)) (Err 53))) [ true ↦ inside | false ↦ tt ]
act-inside n all args item NoName inside here =
    elim (position is_free (zip all args)) as (λ o. StepInside n (placed args item o)) [ Some k ↦ set-inside n args k (span item) inside here | None ↦ tt ]

step-inside : (n : ℕ) (all : List (List ℕ)) (line : List ℕ) (args : List Arg) (name : Option ℕ) (item : Item) → AreInside n args → IsItemIn n item → StepInside n (step all line args name item)
step-inside n all line args (Some k) item inside here = set-inside n args k (span item) inside here
step-inside n all line args None item inside here = act-inside n all args item (role_of line all item) inside here

filled-inside : (n : ℕ) (all : List (List ℕ)) (line : List ℕ) (args : List Arg) (name : Option ℕ) (more : List Item) → AreInside n args → AllByRecursion (IsItemIn n) more → GivenInside n (filled all line args name more)
filled-inside n all line args None [] inside here = inside
filled-inside n all line args (Some k) [] inside here = tt
filled-inside n all line args name (item ∷ more) inside here =
    on (step all line args name item) (step-inside n all line args name item inside here.0) (λ after waiting ok. filled-inside n all line after waiting more ok here.1)
  where
    on : (next : Result (List Arg × Option ℕ) ℕ) → StepInside n next → ((after : List Arg) (waiting : Option ℕ) → AreInside n after → GivenInside n (filled all line after waiting more))
        → GivenInside n (and_then next (λ after waiting. filled all line after waiting more))
    on (Ok x) ok rest = rest x.0 x.1 ok
    on (Err code) ok rest = tt

-- ---- the answer

fresh-inside : (n : ℕ) → AreInside n (replicate 8 Unset)
fresh-inside n = λ k. at 8 k
  where
    at : (m k : ℕ) → IsInside n (get_or (replicate m Unset) k Unset)
    at zero k = tt
    at (suc m) zero = tt
    at (suc m) (suc k) = at m k

pub answer-inside : (template line : List ℕ) → GivenInside (length line) (answer template line)
answer-inside template line =
    elim (is_template (entries template)) as (λ b. GivenInside (length line) (cond (not b) (Err 50) (cond (list_any is_open (items line)) (Err 54) (whole (entries template) given)))) [
      | false ↦ tt
      | true ↦
          elim (list_any is_open (items line)) as (λ b. GivenInside (length line) (cond b (Err 54) (whole (entries template) given))) [
            | true ↦ tt
            | false ↦ on given (filled-inside (length line) (entries template) line (replicate 8 Unset) None (items line) (fresh-inside (length line)) (items-inside (length line) between 0 line tt (omega arith)))
          ]
    ]
  where
    given : Result (List Arg) ℕ
    given = filled (entries template) line (replicate 8 Unset) None (items line)

    on : (r : Result (List Arg) ℕ) → GivenInside (length line) r → GivenInside (length line) (whole (entries template) r)
    on (Ok args) ok = elim (is_whole (entries template) args) as (λ b. GivenInside (length line) (cond b (Ok args) (Err 51))) [ true ↦ ok | false ↦ tt ]
    on (Err code) ok = tt

-- where entries are given, they lie inside
pub given-inside : (template line : List ℕ) (args : List Arg) → answer template line ≡ Ok args → AreInside (length line) args
given-inside template line args e = subst (GivenInside (length line)) e (answer-inside template line)
