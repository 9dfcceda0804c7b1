use Rattle.std.proofs.Common.{◌∙◌, sym, ap}
use Rattle.std.specs.Prelude.{Some}
use Rattle.kernel_model.specs.KernelRecord.ValidTasks.{resident_place}
use Rattle.kernel_check.proofs.ListPasses.GuestWords.{idle-resident, resident-idle}
use Rattle.kernel_check.proofs.list_passes.guests.is_valid_resident.Goals as goal

pub returns : goal.returns
returns c = (
  λ t. idle-resident c.args.store.now c.args.t c.requires.can c.requires.resident
      (ap resident_place (sym c.field.ensures) ∙ c.has_place.ensures.0 c.if-not-has_place.false ∙ ap (λ z. Some (c.args.t, z)) c.field-2.ensures) (c.is_idle.ensures.0 t),
  λ h. c.is_idle.ensures.1 (resident-idle c.args.store.now c.args.t c.requires.can c.requires.resident h),
)
