use Rattle.std.proofs.Common.{◌-◌, ap}
use Rattle.kernel_lists.specs.TaskBlock.TaskChain.{id_in}
use Rattle.kernel_check.proofs.ListPasses.HeadWords.{first-absent}
use Rattle.kernel_check.proofs.ListPasses.TaskWalks.{guest-is}
use Rattle.kernel_check.proofs.list_passes.head_pass.is_dense_from_first.Goals as goal

pub returns : goal.returns
returns c =
    first-absent c.args.store.now c.args.t c.field.result c.field.ensures c.in-Some.further.now c.address_of.result _ c.has_word.result c.if-field-ne0.false
    (guest-is (id_in c.args.store.now c.args.t) c.field-2.result c.field-2.ensures c.if-field-lt-FIRST_GUEST.false) c.in-Some.ensures.inside c.address_of.ensures (ap (λ z. z - 23) c.head_words.ensures) c.has_word.ensures
