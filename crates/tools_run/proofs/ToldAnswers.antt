-- Answers, from what a tool gives.
use Rattle.std.proofs.Common.{◌≡◌, ℕ, List, Option, None, Some, refl, ap}
use Rattle.told_answers.specs.ToldAnswers.{IsToldBy, told_answer}
use Rattle.tool_texts.specs.Told.{Told}
use Rattle.tools_run.specs.ToolAnswers.{IsAnswerOf, IsGiven, Tells, told}
use Rattle.tools_run.specs.declared.commands.Tool.{Tool}
use Rattle.tools_run.specs.declared.commands.Tool.TheVariants.{Asm, AsmErrors, AsmNotes, AsmPlaces, Marks, Needs, Partings, Picture, Session, Unasm}

given-by : (told : Option Told) (given : Told) → IsGiven told given → IsToldBy told (told_answer given)
given-by None given tells = (given, refl)
given-by (Some t) given tells = ap told_answer tells

-- what is given is an answer
pub told-by : (tool : Tool) (name text : List ℕ) (given : Told) → Tells tool name text given → IsAnswerOf tool name text (told_answer given)
told-by Asm name text given tells = given-by (told Asm name text) given tells
told-by AsmErrors name text given tells = given-by (told AsmErrors name text) given tells
told-by AsmNotes name text given tells = given-by (told AsmNotes name text) given tells
told-by AsmPlaces name text given tells = given-by (told AsmPlaces name text) given tells
told-by Session name text given tells = given-by (told Session name text) given tells
told-by Picture name text given tells = (given, refl)
told-by Marks name text given tells = (given, refl)
told-by Needs name text given tells = (given, refl)
told-by Partings name text given tells = (given, refl)
told-by Unasm name text given tells = (given, tells, refl)
