-- What is told of a bundle, in words.
use Rattle.std.specs.Prelude.{ℕ, ◌≡◌, List, [], ◌∷◌, codes, Option, Some, None, if◌then◌else◌}
use Rattle.std.specs.Str.{bytes_eq}
use Rattle.program_answers.specs.Answer.{Answer}
use Rattle.told_answers.specs.ToldAnswers.{told_answer}
use Rattle.tool_texts.specs.Told.{Told}
use Rattle.show_run.specs.RefusedTexts.Answers.{AreErrors}
use Rattle.show_run.specs.declared.tellings.Telling.{Telling}
use Rattle.show_run.specs.declared.tellings.Telling.TheVariants.{Errors, Events, Moment, Outcomes, Places, Variant, Words}

-- what a word asks for, if it asks for something
abbrev pub telling_named : List ℕ → Option Telling
telling_named word =
    if bytes_eq word (codes "places") then Some Places else
    if bytes_eq word (codes "words") then Some Words else
    if bytes_eq word (codes "events") then Some Events else
    if bytes_eq word (codes "moment") then Some Moment else
    if bytes_eq word (codes "errors") then Some Errors else
    if bytes_eq word (codes "outcomes") then Some Outcomes else
    if bytes_eq word (codes "variant") then Some Variant else
    None

-- what all words together ask for, if they ask for something
abbrev pub telling_of : List (List ℕ) → Option Telling
telling_of (word ∷ []) = telling_named word
telling_of _ = None

-- What is told of a bundle. Of what words what a run did, no definition says which words it has.
abbrev pub Tells : Telling → List ℕ → Told → Type 0
Tells Errors text t = AreErrors text t
Tells _ text t = Unit {0}

-- an answer that tells this
abbrev pub IsTold : Telling → List ℕ → Answer → Type 0
IsTold asked text a = (t : Told) × Tells asked text t × a ≡ told_answer t
