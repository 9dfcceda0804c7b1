-- Words and an input have at most one answer.
use Rattle.std.proofs.Common.{◌≡◌, ◌∙◌, ℕ, Bool, true, false, List, length, Option, None, Some, sym}
use Rattle.std.specs.Prelude.{nat_le}
use Rattle.program_answers.specs.Answer.{Answer}
use Rattle.program_answers.specs.Input.{IsAnswerWithin, IsInputAnswer, limit}
use Rattle.show_run.specs.InputAnswers.{IsAnswer, IsAskedAnswer, IsShowAnswer, IsShown, IsTellingAnswer}
use Rattle.show_run.specs.Tellings.{telling_of}
use Rattle.show_run.specs.ValueTries.TriesAnswers.{IsTried}
use Rattle.show_run.specs.ValueTries.TryWords.{Asked, tries_of}
use Rattle.show_run.specs.Words.{show_of}
use Rattle.show_run.specs.declared.commands.Show.{Show}
use Rattle.show_run.specs.declared.tellings.Telling.{Telling}

one-within : (within : Bool) (IsText : List ℕ → Answer → Type 0) → ((text : List ℕ) (a b : Answer) → IsText text a → IsText text b → a ≡ b)
    → (input : List ℕ) (a b : Answer) → IsAnswerWithin within IsText input a → IsAnswerWithin within IsText input b → a ≡ b
one-within true IsText one input a b p q = one input a b p q
one-within false IsText one input a b p q = p ∙ sym q

one-of-input : (IsText : List ℕ → Answer → Type 0) → ((text : List ℕ) (a b : Answer) → IsText text a → IsText text b → a ≡ b)
    → (input : List ℕ) (a b : Answer) → IsInputAnswer IsText input a → IsInputAnswer IsText input b → a ≡ b
unfolding IsInputAnswer
one-of-input IsText one input a b p q = one-within (nat_le (length input) limit) IsText one input a b p q

one-shown : (asked : Option Show) (input : List ℕ) (a b : Answer) → IsShowAnswer asked input a → IsShowAnswer asked input b → a ≡ b
one-shown None input a b p q = p ∙ sym q
one-shown (Some asked) input a b p q = one-of-input (IsShown asked) (λ text c d e f. e ∙ sym f) input a b p q

one-told : (telling : Option Telling) (asked : Option Show) (input : List ℕ) (a b : Answer) → telling ≡ None → IsTellingAnswer telling asked input a → IsTellingAnswer telling asked input b → a ≡ b
one-told None asked input a b n p q = one-shown asked input a b p q
one-told (Some telling) asked input a b n p q = cc

one-asked : (tries : Option Asked) (telling : Option Telling) (asked : Option Show) (input : List ℕ) (a b : Answer) → telling ≡ None → IsAskedAnswer tries telling asked input a → IsAskedAnswer tries telling asked input b → a ≡ b
one-asked None telling asked input a b n p q = one-told telling asked input a b n p q
one-asked (Some tries) telling asked input a b n p q = one-of-input (IsTried tries) (λ text c d e f. e ∙ sym f) input a b p q

pub one-answer : (words : List (List ℕ)) (input : List ℕ) (a b : Answer) → telling_of words ≡ None → IsAnswer words input a → IsAnswer words input b → a ≡ b
one-answer words input a b n p q = one-asked (tries_of words) (telling_of words) (show_of words) input a b n p q
