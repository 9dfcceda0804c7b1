-- What is said of the text of a bundle.
use Rattle.std.specs.Prelude.{ℕ, ◌≡◌, true, List, codes, Option, Some, None}
use Rattle.tool_texts.specs.Told.{Told}
use Rattle.text_errors.specs.Telling.{IsSaid}
use Rattle.show_run.specs.RefusedTexts.Refusals.{text_refusal}
use Rattle.show_run.specs.RefusedTexts.Requests.{request_in}
use Rattle.show_run.specs.declared.refused_texts.requests.Request.{Request}

-- what is said of a bundle that asks for nothing
abbrev pub no_bundle : Told
no_bundle = record {
  is_wrong = true;
  bytes = codes "* 2\ntext-errors: the input is no bundle of a kind and a text\n";
}

-- Nothing is said of a text that the program takes. What is said of another begins with the line and the code of the program's refusal.
abbrev pub AreErrorsOf : Option Request → Told → Type 0
AreErrorsOf (Some q) t = IsSaid q.name (text_refusal q.kind q.text) t
AreErrorsOf None t = t ≡ no_bundle

-- the errors of the text in a bundle
abbrev pub AreErrors : List ℕ → Told → Type 0
AreErrors bundle t = AreErrorsOf (request_in bundle) t
