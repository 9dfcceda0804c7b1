use Rattle.std.proofs.Common.{◌∙◌, ap, arith, length, refl, sym}
use Rattle.std.proofs.lemmas.Bool.{false≢true}
use Rattle.saved_machine.specs.MachineImage.Private.Rules.{lists_of}
use Rattle.saved_machine.proofs.MachineImage.ResidentRules.{shell-mistaken, shell-types}
use Rattle.saved_machine.proofs.machine_image.resident_rules.is_valid_shell.Goals as goal

pub returns-then-types-is_typing : goal.returns-then-types-is_typing
returns-then-types-is_typing c = (
  λ t. absurd (false≢true t),
  λ h. absurd
      (shell-mistaken c.args.image.now c.as_slice.result.now c.as_slice.ensures c.types.result c.is_typing.result c.types.ensures c.is_typing.ensures (lists_of c.args.image.now)
      c.if-types-is_typing.true h),
)

pub returns-then-has_residents : goal.returns-then-has_residents
returns-then-has_residents c = (
  λ t. record {
    typing = shell-types c.args.image.now c.as_slice.result.now c.as_slice.ensures c.types.result c.is_typing.result c.types.ensures c.is_typing.ensures c.if-types-is_typing.false;
    awaited = c.is_awaited.ensures.0 c.if-not-is_awaited.false;
    line = omega (arith, c.if-as_slice-gt-MOST_LINE.false, ap length c.as_slice-2.ensures);
    absent = λ e. absurd (false≢true (sym e ∙ sym c.has_residents.ensures ∙ c.if-has_residents.true));
  },
  λ h. refl,
)

pub returns : goal.returns
returns c = (
  λ t. record {
    typing = shell-types c.args.image.now c.as_slice.result.now c.as_slice.ensures c.types.result c.is_typing.result c.types.ensures c.is_typing.ensures c.if-types-is_typing.false;
    awaited = c.is_awaited.ensures.0 c.if-not-is_awaited.false;
    line = omega (arith, c.if-as_slice-gt-MOST_LINE.false, ap length c.as_slice-2.ensures);
    absent = λ e. c.is_idle.ensures.0 t;
  },
  λ h. c.is_idle.ensures.1 (h.absent (sym c.has_residents.ensures ∙ c.if-has_residents.false)),
)
