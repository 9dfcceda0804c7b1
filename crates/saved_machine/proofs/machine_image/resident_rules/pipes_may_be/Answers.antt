use Rattle.std.proofs.Common.{◌∙◌, ap, refl, sym}
use Rattle.std.proofs.lemmas.Bool.{false≢true, true_from_ne_false}
use Rattle.saved_machine.specs.MachineImage.Parts.{placed_pipes}
use Rattle.saved_machine.specs.MachineImage.Private.Rules.{lists_of}
use Rattle.saved_machine.proofs.MachineImage.ResidentRules.{is-empty, is-some, none-piped, some-piped}
use Rattle.saved_machine.proofs.machine_image.resident_rules.pipes_may_be.Goals as goal

pub returns-then-is_empty : goal.returns-then-is_empty
returns-then-is_empty c =
    let none = ap placed_pipes (is-empty c.as_slice.result.now c.args.image.now.pipes c.is_empty.result c.is_empty.ensures c.as_slice.ensures c.if-is_empty.true) ∙ none-piped in
    (λ t. (λ e. none, λ e. none), λ h. refl)

pub returns : goal.returns
returns c =
    let ps = c.args.image.now.pipes in
    let some = is-some c.as_slice.result.now ps c.is_empty.result c.is_empty.ensures c.as_slice.ensures c.if-is_empty.false in (
      λ t. let knows = c.knows_pipes.ensures.0 t in (λ e. absurd (false≢true (sym e ∙ knows.0)), λ e. absurd (knows.1 e)),
      λ h. c.knows_pipes.ensures.1 (
        true_from_ne_false (lists_of c.args.image.now).residents (λ f. some-piped ps some c.requires.pipes (h.0 f)),
        λ one. some-piped ps some c.requires.pipes (h.1 one),
      ),
    )
