use Rattle.std.proofs.Common.{◌≡◌, ◌∙◌, ◌+◌, arith}
use Rattle.kernel_lists.specs.TaskBlock.TaskChain.{id_in}
use Rattle.kernel_lists.specs.TaskBlock.Versions.{head_words}
use Rattle.kernel_check.proofs.ListPasses.HeadWords.{guest-globals}
use Rattle.kernel_check.proofs.ListPasses.TaskWalks.{guest-is}
use Rattle.kernel_check.proofs.list_passes.head_pass.globals_of.Goals as goal

pub returns-then-field-ge-FIRST_GUEST : goal.returns-then-field-ge-FIRST_GUEST
returns-then-field-ge-FIRST_GUEST c =
    let e : c.from.result + c.from-then-field-ge-FIRST_GUEST.result ≡ c.args.t + head_words c.args.store.now = omega (arith, c.from.ensures, c.from-then-field-ge-FIRST_GUEST.ensures, c.head_words.ensures) in
    e ∙ guest-globals c.args.store.now c.args.t (guest-is (id_in c.args.store.now c.args.t) c.field.result c.field.ensures c.if-field-ge-FIRST_GUEST.true)
