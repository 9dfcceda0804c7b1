use Rattle.kernel_check.proofs.ListPasses.RootWords.{root-from, words-from}
use Rattle.kernel_check.proofs.list_passes.root_pass.is_valid_root.Goals as goal

pub returns : goal.returns
returns c = (
  λ t. root-from c.args.store.now (c.numbers_may_be.ensures.0 c.if-not-numbers_may_be.false) (c.has_root_words.ensures.0 t),
  λ r. c.has_root_words.ensures.1 (words-from c.args.store.now r),
)
