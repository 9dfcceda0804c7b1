use Rattle.std.proofs.Common.{◌∙◌, sym, subst}
use Rattle.std.proofs.lemmas.Bool.{true_from_ne_false}
use Rattle.kernel_model.specs.KernelRecord.Between.{AreShut}
use Rattle.saved_machine.specs.MachineImage.Parts.{placed_streams}
use Rattle.saved_machine.proofs.MachineImage.ResidentRules.{is-empty, is-some, none-shut, some-open}
use Rattle.saved_machine.proofs.machine_image.resident_rules.streams_may_be.Goals as goal

pub returns : goal.returns
returns c =
    let ss = c.args.image.now.streams in
    let lent = c.as_slice.result.now in (
      λ t none. subst (λ xs. AreShut (placed_streams xs)) (sym (is-empty lent ss c.is_empty.result c.is_empty.ensures c.as_slice.ensures t)) none-shut,
      λ h. true_from_ne_false c.is_empty.result (λ f.
          some-open ss (is-some lent ss c.is_empty.result c.is_empty.ensures c.as_slice.ensures f) c.requires.streams (h (sym c.has_residents.ensures ∙ c.if-has_residents.false))),
    )
