use Rattle.std.proofs.Common.{◌≡◌, ◌↔◌, ◌≤◌, Bool, true, false, List, [], ◌∷◌, ◌||◌, nat_lt, not, refl, sym, ap, ◌∙◌, arith}
use Rattle.std.specs.Prelude.{IsTrue}
use Rattle.std.specs.List.{AllByRecursion, list_any}
use Rattle.std.proofs.lemmas.Bool.{le-ltb}
use Rattle.std.proofs.lemmas.Bool.Decides.{nat_tests}
use Rattle.kernel_lists.specs.HunkLoader.Globals.{highest, most_globals}
use Rattle.kernel_lists.specs.HunkLoader.ModuleHunks.{PlacedHunk, hunks_in}
use Rattle.kernel_model.proofs.KernelRecord.AllThings.{all-fail}
use Rattle.kernel_model.proofs.KernelRecord.EachMember.{all-each}
use Rattle.kernel_calls.proofs.task_calls.module_tests.has_high_globals.Goals as goal

abbrev Fit : List PlacedHunk → Type 0
Fit hs = AllByRecursion (λ h. highest h.words ≤ most_globals) hs

abbrev is_high : PlacedHunk → Bool
is_high h = nat_lt most_globals (highest h.words)

none-high : (hs : List PlacedHunk) → Fit hs → list_any is_high hs ≡ false
none-high [] fit = refl
none-high (h ∷ hs) fit = ap (λ b. b || list_any is_high hs) (le-ltb most_globals (highest h.words) fit.0) ∙ none-high hs fit.1

high-any : (hs : List PlacedHunk) (r : Bool) → (IsTrue r ↔ Fit hs) → not r ≡ list_any is_high hs
high-any hs true both = sym (none-high hs (both.0 refl))
high-any hs false both = on (list_any is_high hs) refl
  where
    low : (h : PlacedHunk) → is_high h ≡ false → highest h.words ≤ most_globals
    low h e = grind (arith, nat_tests)

    on : (b : Bool) → list_any is_high hs ≡ b → true ≡ b
    on true e = refl
    on false e = sym (both.1 (all-each (λ h. is_high h ≡ false) (λ h. highest h.words ≤ most_globals) low hs (all-fail is_high hs e)))

pub returns : goal.returns
returns c = high-any (hunks_in c.args.store.now c.args.m) c.globals_fit.result c.globals_fit.ensures
