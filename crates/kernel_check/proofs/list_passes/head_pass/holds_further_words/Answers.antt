use Rattle.std.proofs.Common.{◌-◌, refl, ap}
use Rattle.kernel_lists.specs.TaskBlock.TaskChain.{id_in}
use Rattle.kernel_check.proofs.ListPasses.FurtherModules.{further-none, further-words}
use Rattle.kernel_check.proofs.ListPasses.TaskWalks.{guest-is, guest-not}
use Rattle.kernel_check.proofs.list_passes.head_pass.holds_further_words.Goals as goal

pub returns-then-field-lt-FIRST_GUEST : goal.returns-then-field-lt-FIRST_GUEST
returns-then-field-lt-FIRST_GUEST c =
    (λ t. further-none c.args.store.now c.args.t (guest-not (id_in c.args.store.now c.args.t) c.field.result c.field.ensures c.if-field-lt-FIRST_GUEST.true), λ h. refl)

pub returns : goal.returns
returns c = (
  λ t. (further-words c.args.store.now c.args.t c.requires.can (guest-is (id_in c.args.store.now c.args.t) c.field.result c.field.ensures c.if-field-lt-FIRST_GUEST.false) c.requires.first
      c.in-Some.further.now c.address_of.result _ c.in-Some.ensures.inside c.address_of.ensures (ap (λ z. z - 23) c.head_words.ensures)).0 (c.are_dense.ensures.0 t),
  λ h. c.are_dense.ensures.1
      ((further-words c.args.store.now c.args.t c.requires.can (guest-is (id_in c.args.store.now c.args.t) c.field.result c.field.ensures c.if-field-lt-FIRST_GUEST.false) c.requires.first
      c.in-Some.further.now c.address_of.result _ c.in-Some.ensures.inside c.address_of.ensures (ap (λ z. z - 23) c.head_words.ensures)).1 h),
)
