-- A store into which valid lists were written, after plain words, holds them.
use Rattle.std.proofs.Common.{◌≡◌, ℕ, Bool, Option, Some, None, List, length, refl, sym, ◌∙◌, subst, arith}
use Rattle.kernel_lists.specs.OwnedWords.Owned.{Pairs, written}
use Rattle.kernel_lists.proofs.OwnedWords.OwnedWords.{Holds-written, length-written, written-other}
use Rattle.kernel_model.specs.KernelRecord.HoldsLists.{HoldsLists}
use Rattle.kernel_model.specs.KernelRecord.Lists.{Lists}
use Rattle.kernel_model.specs.KernelRecord.Owned.{owned}
use Rattle.kernel_model.specs.KernelRecord.ValidLists.{AreValid}
use Rattle.kernel_calls.specs.CallAnswers.CallChange.{CallChange, by_refusal, unless_refused}
use Rattle.kernel_calls.specs.CallAnswers.Refusals.{first_refusal}
use Rattle.resident_tasks.specs.ConsoleHandler.TurnParts.{settled_words}
use Rattle.resident_tasks.proofs.ConsoleHandler.DoneParts.{settled-words}
use Rattle.shell.specs.ShellPrograms.StoresWithLists.{left_by}

module _ (s : List ℕ) (m : Lists) (plain : Pairs) (v : AreValid m) (size : length s ≡ m.size) where
  abbrev left : List ℕ
  left = written (owned m) (written plain s)

  long : length left ≡ length s
  long = length-written (owned m) (written plain s) ∙ length-written plain s

  -- the store itself
  pub left-holds : HoldsLists left m
  left-holds =
      record {
        valid = v;
        size = long ∙ size;
        holds = Holds-written (owned m) (written plain s) v.owns.apart (λ a some. omega (arith, v.owns.inside a some, size, length-written plain s));
      }

  -- and one with the words that the console's turn names
  pub settled-holds : HoldsLists (settled_words s m plain) m
  settled-holds =
      subst (λ t. HoldsLists t m)
      (settled-words s left m plain (record { lists = left-holds; size = long; written = record { holds = left-holds.holds; others = λ a none. written-other a (owned m) (written plain s) none } }))
      left-holds

-- where a call is refused the size stays too
pub made-size : (o : Option ℕ) (l : Lists) (m : CallChange) → m.lists.size ≡ l.size → (by_refusal o l m).lists.size ≡ l.size
made-size None l m same = same
made-size (Some code) l m same = refl

-- a call that leaves valid lists, refused or not, leaves a store that holds them
pub call-holds : (s : List ℕ) (l : Lists) (tests : List (Bool × ℕ)) (m : CallChange) → HoldsLists s l → AreValid (unless_refused tests l m).lists → m.lists.size ≡ l.size
    → HoldsLists (left_by s (unless_refused tests l m)).words (unless_refused tests l m).lists
call-holds s l tests m h v same =
    left-holds s (unless_refused tests l m).lists (unless_refused tests l m).plain v (h.size ∙ sym (made-size (first_refusal tests) l m same))
