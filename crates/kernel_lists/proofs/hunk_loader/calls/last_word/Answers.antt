use Rattle.std.proofs.Common.{arith}
use Rattle.kernel_lists.proofs.HunkLoader.TextModules.{last_word_few, module_found}
use Rattle.kernel_lists.proofs.hunk_loader.calls.last_word.Goals as goal

pub overflow_add-result : goal.overflow_add-result
overflow_add-result g c =
    let text = g.X.TextBytes.text c.args.text.now in
    let m = module_found text c.args.shape c.requires in
    let few = last_word_few text m.hunks m.is in
    let all = m.words in
    omega (arith, c.len-bytes.ensures, c.len-bytes.type_inv)

pub overflow_add-result-2 : goal.overflow_add-result-2
overflow_add-result-2 g c =
    let text = g.X.TextBytes.text c.args.text.now in
    let m = module_found text c.args.shape c.requires in
    let few = last_word_few text m.hunks m.is in
    let all = m.words in
    omega (arith, c.len-bytes.ensures, c.len-bytes.type_inv)
