-- The command of a line follows the rules, and the rules lead to it alone.
use Rattle.std.proofs.Common.{◌≡◌, ℕ, eqb, cond, ◌&&◌, Bool, true, false, List, [], ◌∷◌, length, codes, Option, Some, None, Result, Ok, Err, refl, ap, sym, subst, ◌∙◌, inl, inr}
use Rattle.std.specs.List.{list_all}
use Rattle.ram_disc.specs.Name.{is_name}
use Rattle.command_lines.specs.ArgumentTemplates.Answer.{answer}
use Rattle.command_lines.specs.ArgumentTemplates.Args.{Args}
use Rattle.command_lines.specs.declared.argument_templates.args.Arg.{Arg}
use Rattle.command_lines.proofs.ArgumentTemplates.Rules.{answer-complete, answer-sound}
use Rattle.command_lines.specs.declared.commands.Command.{Command}
use Rattle.command_lines.specs.declared.commands.Command.TheVariants.{Nothing, «Type», Examine, Delete, Rename, Status, Map, Hold, Release, ChangePriority, Break, Run, Finish, Start}
use Rattle.command_lines.specs.declared.command_names.CommandName.{CommandName}
use Rattle.command_lines.specs.declared.command_names.CommandName.TheVariants.{TypeFile, ListFiles, DeleteFile, RenameFile, ListTasks, CountBlocks, HoldTask, ReleaseTask, SetPriority, SetFlags, RunProgram, FinishMachine}
use Rattle.command_lines.specs.Arguments.{arguments, is_set_at, name_of, number_of, on_ok, option_number_at, text_at}
use Rattle.command_lines.specs.Command.{command_by, command_of, flags_or_b, named_command, nothing_in, program_named}
use Rattle.command_lines.specs.CommandForm.{Asks, Parts, Takes, is_number, made, names_in, numbers_in, template_of, value_of, without_arguments}
use Rattle.command_lines.specs.CommandForm.Asks.{nothing, command, program, no_program}
use Rattle.command_lines.specs.CommandForm.Takes.{refused, no_number, no_name, taken}
use Rattle.command_lines.specs.CommandNames.{command_named}
use Rattle.command_lines.specs.Words.{first_word, rest_of}
use Rattle.command_lines.proofs.LineParts.{IsSplit, blank-no_word, parts-of, parts-split}
use Rattle.command_lines.proofs.LineParts.IsSplit.{Split}

-- ---- what follows the name of a command

-- numbers and names, in their order, and the command that they make
abbrev checked : Bool → Bool → Command → Result Command ℕ
checked numbers names made = cond numbers (cond names (Ok made) (Err 40)) (Err 55)

abbrev by : CommandName → List ℕ → Result (List Arg) ℕ → Result Command ℕ
by name rest (Ok args) = checked (list_all is_number (numbers_in name rest args)) (list_all is_name (names_in name rest args)) (made name rest args)
by name rest (Err code) = Err code

one-name : (b : Bool) (t : List ℕ) (f : List ℕ → Command) → on_ok (cond b (Ok t) (Err 40)) (λ x. Ok (f x)) ≡ cond (b && true) (Ok (f t)) (Err 40)
one-name true t f = refl
one-name false t f = refl

two-names : (a b : Bool) (s t : List ℕ) → on_ok (cond a (Ok s) (Err 40)) (λ from. on_ok (cond b (Ok t) (Err 40)) (λ to. Ok (Rename from to))) ≡ cond (a && (b && true)) (Ok (Rename s t)) (Err 40)
two-names true true s t = refl
two-names true false s t = refl
two-names false b s t = refl

one-number : (b : Bool) (n : ℕ) (f : ℕ → Command) → on_ok (cond b (Ok n) (Err 55)) (λ x. Ok (f x)) ≡ cond (b && true) (Ok (f n)) (Err 55)
one-number true n f = refl
one-number false n f = refl

two-numbers : (a b : Bool) (m n : ℕ) → on_ok (cond a (Ok m) (Err 55)) (λ task. on_ok (cond b (Ok n) (Err 55)) (λ priority. Ok (ChangePriority task priority))) ≡ cond (a && (b && true)) (Ok (ChangePriority m n)) (Err 55)
two-numbers true true m n = refl
two-numbers true false m n = refl
two-numbers false b m n = refl

run-with : (b c : Bool) (n : ℕ) (t : List ℕ) → on_ok (on_ok (cond b (Ok n) (Err 55)) (λ m. Ok (Some m))) (λ priority. on_ok (cond c (Ok t) (Err 40)) (λ x. Ok (Run x priority)))
    ≡ checked (b && true) (c && true) (Run t (Some n))
run-with true true n t = refl
run-with true false n t = refl
run-with false c n t = refl

abbrev nothing_given : Result (Unit {0}) ℕ
nothing_given = Ok tt

module _ (rest : List ℕ) where
  alone-is : (made : Command) (r : Result (List Arg) ℕ) → on_ok (on_ok r (λ args. nothing_given)) (λ none. Ok made) ≡ on_ok r (λ args. Ok made)
  alone-is made (Ok args) = refl
  alone-is made (Err code) = refl

  file-is : (f : List ℕ → Command) (r : Result (List Arg) ℕ) → on_ok (on_ok r (λ args. name_of (text_at rest args 0))) (λ name. Ok (f name))
      ≡ on_ok r (λ args. cond (is_name (text_at rest args 0) && true) (Ok (f (text_at rest args 0))) (Err 40))
  file-is f (Ok args) = one-name (is_name (text_at rest args 0)) (text_at rest args 0) f
  file-is f (Err code) = refl

  task-is : (f : ℕ → Command) (r : Result (List Arg) ℕ) → on_ok (on_ok r (λ args. number_of (text_at rest args 0))) (λ task. Ok (f task))
      ≡ on_ok r (λ args. cond (is_number (text_at rest args 0) && true) (Ok (f (value_of (text_at rest args 0)))) (Err 55))
  task-is f (Ok args) = one-number (is_number (text_at rest args 0)) (value_of (text_at rest args 0)) f
  task-is f (Err code) = refl

  renaming-is : (r : Result (List Arg) ℕ) → on_ok r (λ args. on_ok (name_of (text_at rest args 0)) (λ from. on_ok (name_of (text_at rest args 1)) (λ to. Ok (Rename from to)))) ≡ by RenameFile rest r
  renaming-is (Ok args) = two-names (is_name (text_at rest args 0)) (is_name (text_at rest args 1)) (text_at rest args 0) (text_at rest args 1)
  renaming-is (Err code) = refl

  priority-is : (r : Result (List Arg) ℕ)
      → on_ok r (λ args. on_ok (number_of (text_at rest args 0)) (λ task. on_ok (number_of (text_at rest args 1)) (λ priority. Ok (ChangePriority task priority)))) ≡ by SetPriority rest r
  priority-is (Ok args) = two-numbers (is_number (text_at rest args 0)) (is_number (text_at rest args 1)) (value_of (text_at rest args 0)) (value_of (text_at rest args 1))
  priority-is (Err code) = refl

  flags-is : (r : Result (List Arg) ℕ) → on_ok r (λ args. on_ok (number_of (text_at rest args 0)) (λ task. Ok (Break task (flags_or_b args)))) ≡ by SetFlags rest r
  flags-is (Ok args) = one-number (is_number (text_at rest args 0)) (value_of (text_at rest args 0)) (λ task. Break task (flags_or_b args))
  flags-is (Err code) = refl

  program-is : (r : Result (List Arg) ℕ)
      → on_ok r (λ args. on_ok (option_number_at rest args 1) (λ priority. on_ok (name_of (text_at rest args 0)) (λ program. Ok (Run program priority)))) ≡ by RunProgram rest r
  program-is (Err code) = refl
  program-is (Ok args) = on (is_set_at args 1)
    where
      on : (b : Bool)
          → on_ok (cond b (on_ok (number_of (text_at rest args 1)) (λ n. Ok (Some n))) (Ok None)) (λ priority. on_ok (name_of (text_at rest args 0)) (λ program. Ok (Run program priority)))
          ≡ checked (list_all is_number (cond b (text_at rest args 1 ∷ []) [])) (is_name (text_at rest args 0) && true) (Run (text_at rest args 0) (cond b (Some (value_of (text_at rest args 1))) None))
      on true = run-with (is_number (text_at rest args 1)) (is_name (text_at rest args 0)) (value_of (text_at rest args 1)) (text_at rest args 0)
      on false = one-name (is_name (text_at rest args 0)) (text_at rest args 0) (λ program. Run program None)

  by-each : (name : CommandName) (f : List Arg → Result Command ℕ) (r : Result (List Arg) ℕ) → ((args : List Arg) → by name rest (Ok args) ≡ f args) → on_ok r f ≡ by name rest r
  by-each name f (Ok args) is = sym (is args)
  by-each name f (Err code) is = refl

  named-is : (name : CommandName) → named_command name rest ≡ by name rest (arguments (template_of name) rest)
  named-is TypeFile = file-is (λ x. «Type» x) (arguments (codes "FILE/A") rest) ∙ by-each TypeFile _ (arguments (codes "FILE/A") rest) (λ args. refl)
  named-is ListFiles = alone-is Examine (arguments (codes "") rest) ∙ by-each ListFiles _ (arguments (codes "") rest) (λ args. refl)
  named-is DeleteFile = file-is (λ x. Delete x) (arguments (codes "FILE/A") rest) ∙ by-each DeleteFile _ (arguments (codes "FILE/A") rest) (λ args. refl)
  named-is RenameFile = renaming-is (arguments (codes "FROM/A,TO=AS/A") rest)
  named-is ListTasks = alone-is Status (arguments (codes "") rest) ∙ by-each ListTasks _ (arguments (codes "") rest) (λ args. refl)
  named-is CountBlocks = alone-is Map (arguments (codes "") rest) ∙ by-each CountBlocks _ (arguments (codes "") rest) (λ args. refl)
  named-is HoldTask = task-is (λ x. Hold x) (arguments (codes "TASK/A") rest) ∙ by-each HoldTask _ (arguments (codes "TASK/A") rest) (λ args. refl)
  named-is ReleaseTask = task-is (λ x. Release x) (arguments (codes "TASK/A") rest) ∙ by-each ReleaseTask _ (arguments (codes "TASK/A") rest) (λ args. refl)
  named-is SetPriority = priority-is (arguments (codes "TASK/A,PRI/A") rest)
  named-is SetFlags = flags-is (arguments (codes "TASK/A,B/S,C/S,D/S,E/S") rest)
  named-is RunProgram = program-is (arguments (codes "PROGRAM/A,PRI/K") rest)
  named-is FinishMachine = alone-is Finish (arguments (codes "") rest) ∙ by-each FinishMachine _ (arguments (codes "") rest) (λ args. refl)

module _ (name : CommandName) (rest : List ℕ) where
  takes-on : (r : Result (List Arg) ℕ) → Args (template_of name) rest r → Takes name rest (by name rest r)
  takes-on (Err code) reads = refused reads
  takes-on (Ok args) reads = on (list_all is_number (numbers_in name rest args)) (list_all is_name (names_in name rest args)) refl refl
    where
      on : (b d : Bool) → list_all is_number (numbers_in name rest args) ≡ b → list_all is_name (names_in name rest args) ≡ d → Takes name rest (checked b d (made name rest args))
      on false d numbers names = no_number reads numbers
      on true false numbers names = no_name reads numbers names
      on true true numbers names = taken reads numbers names

  named-by : named_command name rest ≡ by name rest (answer (template_of name) rest)
  unfolding arguments
  named-by = named-is rest name

  takes-sound : Takes name rest (named_command name rest)
  takes-sound = subst (Takes name rest) (sym named-by) (takes-on (answer (template_of name) rest) (answer-sound (template_of name) rest))

  by-numbers : (args : List Arg) (b : Bool) → list_all is_number (numbers_in name rest args) ≡ b → by name rest (Ok args) ≡ checked b (list_all is_name (names_in name rest args)) (made name rest args)
  by-numbers args b e = ap (λ z. checked z (list_all is_name (names_in name rest args)) (made name rest args)) e

  takes-by : {outcome : Result Command ℕ} → Takes name rest outcome → by name rest (answer (template_of name) rest) ≡ outcome
  takes-by (refused reads) = ap (by name rest) (answer-complete reads)
  takes-by (no_number {args} reads numbers) = ap (by name rest) (answer-complete reads) ∙ by-numbers args false numbers
  takes-by (no_name {args} reads numbers names) =
      ap (by name rest) (answer-complete reads) ∙ (by-numbers args true numbers ∙ ap (λ z. checked true z (made name rest args)) names)
  takes-by (taken {args} reads numbers names) =
      ap (by name rest) (answer-complete reads) ∙ (by-numbers args true numbers ∙ ap (λ z. checked true z (made name rest args)) names)

  takes-complete : {outcome : Result Command ℕ} → Takes name rest outcome → named_command name rest ≡ outcome
  takes-complete takes = named-by ∙ takes-by takes

-- ---- the whole line

nothing-is : (r : Result (List Arg) ℕ) → on_ok r (λ args. nothing_given) ≡ without_arguments r
nothing-is (Ok args) = refl
nothing-is (Err code) = refl

nothing-by : (rest : List ℕ) → nothing_in rest ≡ without_arguments (answer (codes "") rest)
unfolding arguments
nothing-by rest = nothing-is (answer (codes "") rest)

program-by : (first rest : List ℕ) (b : Bool) → is_name first ≡ b → program_named first rest ≡ cond b (Ok (Start first (without_arguments (answer (codes "") rest)))) (Err 40)
program-by first rest true e = rw e (ap (λ z. Ok (Start first z)) (nothing-by rest))
program-by first rest false e = rw e refl

command-split : (line first rest : List ℕ) → IsSplit line first rest → command_of line ≡ command_by (command_named first) first rest
unfolding command_of
command-split line first rest (Split is behind some) =
    (λ i. cond (eqb (length (is i)) 0) (Ok Nothing) (command_by (command_named (is i)) (is i) (behind i)))
    ∙ ap (λ b. cond b (Ok Nothing) (command_by (command_named first) first rest)) some

module _ (line first rest : List ℕ) (parts : Parts line first rest) where
  asks-program : command_named first ≡ None → (b : Bool) → is_name first ≡ b → Asks line (program_named first rest)
  asks-program none true e = subst (Asks line) (sym (program-by first rest true e)) (program parts none e (answer-sound (codes "") rest))
  asks-program none false e = subst (Asks line) (sym (program-by first rest false e)) (no_program parts none e)

  asks-by : (named : Option CommandName) → command_named first ≡ named → Asks line (command_by named first rest)
  asks-by (Some name) e = command parts e (takes-sound name rest)
  asks-by None e = asks-program e (is_name first) refl

  asks-parts : Asks line (command_of line)
  asks-parts = subst (Asks line) (sym (command-split line first rest (parts-split parts))) (asks-by (command_named first) refl)

blank-nothing : (line : List ℕ) → first_word line ≡ [] → command_of line ≡ Ok Nothing
unfolding command_of
blank-nothing line none = ap (λ w. cond (eqb (length w) 0) (Ok Nothing) (command_by (command_named w) w (rest_of line))) none

pub command-asked : (line : List ℕ) → Asks line (command_of line)
command-asked line =
    elim (parts-of line) [
      | inl blank ↦ subst (Asks line) (sym (blank-nothing line blank.1)) (nothing blank.0)
      | inr parts ↦ asks-parts line (first_word line) (rest_of line) parts
    ]

pub asked-command : (line : List ℕ) (outcome : Result Command ℕ) → Asks line outcome → command_of line ≡ outcome
asked-command line outcome asks = on asks
  where
    on : {o : Result Command ℕ} → Asks line o → command_of line ≡ o
    on (nothing blank) = blank-nothing line (blank-no_word line blank)
    on (command {first} {rest} {name} parts named takes) =
        command-split line first rest (parts-split parts) ∙ (ap (λ z. command_by z first rest) named ∙ takes-complete name rest takes)
    on (program {first} {rest} parts none lawful reads) =
        command-split line first rest (parts-split parts)
        ∙ (ap (λ z. command_by z first rest) none ∙ (program-by first rest true lawful ∙ ap (λ z. Ok (Start first (without_arguments z))) (answer-complete reads)))
    on (no_program {first} {rest} parts none bad) =
        command-split line first rest (parts-split parts) ∙ (ap (λ z. command_by z first rest) none ∙ program-by first rest false bad)
