use Rattle.std.proofs.Common.{◌≡◌, ℕ, ◌+◌, ◌-◌, List, [], length, replicate, set, sym, ap, ◌∙◌, subst}
use Rattle.kernel_lists.specs.OwnedWords.Owned.{written}
use Rattle.kernel_lists.proofs.OwnedWords.OwnedWords.{length-written}
use Rattle.kernel_model.specs.KernelRecord.ChangedStore.{IsChanged}
use Rattle.kernel_boot.specs.Private.BootWords.{root_pairs}
use Rattle.kernel_boot.specs.EmptyKernel.{empty_lists}
use Rattle.kernel_boot.proofs.EmptyLists.{empty-changed}
use Rattle.kernel_boot.proofs.EmptyWords.{made-block, pairs}
use Rattle.kernel_boot.proofs.start.make_kernel.Goals as goal

pub returns : goal.returns
returns c =
    let s : List ℕ = c.args.store.now in
    let n : ℕ = length s in
    let v : ℕ = c.args.version in
    let p : ℕ = c.args.period in
    let root = c.write_root.ensures in
    let size : length c.write_root.new.store ≡ n = ap length root ∙ length-written (root_pairs n v p) s in
    subst (λ t. IsChanged s t (empty_lists v p n) [])
    (sym (c.make.ensures.words ∙ made-block c.write_root.new.store n size ∙ ap (λ z. set (set z 200 (n - 202 + 1)) (n - 2) 0) (root ∙ ap (written (root_pairs n v p)) c.requires.zeros)))
    (subst (λ z. IsChanged z (written (pairs n v p) (replicate n 0)) (empty_lists v p n) []) (sym c.requires.zeros)
    (empty-changed n v p c.requires.version c.requires.size c.requires.period))
