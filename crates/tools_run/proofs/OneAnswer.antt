-- Words and an input have at most one answer.
use Rattle.std.proofs.Common.{◌≡◌, ◌∙◌, ℕ, Bool, true, false, List, length, Option, None, Some, sym}
use Rattle.std.proofs.lemmas.Bool.{false≢true}
use Rattle.std.specs.Prelude.{nat_le}
use Rattle.program_answers.specs.Answer.{Answer}
use Rattle.program_answers.specs.Input.{IsAnswerWithin, IsInputAnswer, limit}
use Rattle.tools_run.specs.InputAnswers.{IsAnswer, IsAskedAnswer}
use Rattle.tools_run.specs.ToolAnswers.{HasDefinition, IsAnswerOf, IsToolAnswer, is_defined}
use Rattle.tools_run.specs.Words.{asked_of}
use Rattle.tools_run.specs.declared.commands.Asked.{Asked}
use Rattle.tools_run.specs.declared.commands.Tool.{Tool}
use Rattle.tools_run.specs.declared.commands.Tool.TheVariants.{Asm, AsmErrors, AsmNotes, AsmPlaces, Marks, Needs, Partings, Picture, Session, Unasm}

one-told : (tool : Tool) (name text : List ℕ) (a b : Answer) → is_defined tool ≡ true → IsAnswerOf tool name text a → IsAnswerOf tool name text b → a ≡ b
one-told Asm name text a b d p q = p ∙ sym q
one-told AsmErrors name text a b d p q = p ∙ sym q
one-told AsmNotes name text a b d p q = p ∙ sym q
one-told AsmPlaces name text a b d p q = p ∙ sym q
one-told Session name text a b d p q = p ∙ sym q
one-told Picture name text a b d p q = absurd (false≢true d)
one-told Marks name text a b d p q = absurd (false≢true d)
one-told Unasm name text a b d p q = absurd (false≢true d)
one-told Needs name text a b d p q = absurd (false≢true d)
one-told Partings name text a b d p q = absurd (false≢true d)

one-within : (within : Bool) (asked : Asked) (input : List ℕ) (a b : Answer) → is_defined asked.tool ≡ true → IsAnswerWithin within (IsToolAnswer asked) input a → IsAnswerWithin within (IsToolAnswer asked) input b → a ≡ b
one-within true asked input a b d p q = one-told asked.tool asked.name input a b d p q
one-within false asked input a b d p q = p ∙ sym q

one-asked : (asked : Option Asked) (input : List ℕ) (a b : Answer) → HasDefinition asked → IsAskedAnswer asked input a → IsAskedAnswer asked input b → a ≡ b
unfolding IsInputAnswer
one-asked None input a b d p q = p ∙ sym q
one-asked (Some asked) input a b d p q = one-within (nat_le (length input) limit) asked input a b d p q

pub one-answer : (words : List (List ℕ)) (input : List ℕ) (a b : Answer) → HasDefinition (asked_of words) → IsAnswer words input a → IsAnswer words input b → a ≡ b
one-answer words input a b d p q = one-asked (asked_of words) input a b d p q
