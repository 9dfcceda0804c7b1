use Rattle.std.proofs.Common.{◌≡◌, ℕ, Bool, List, [], ◌++◌, length, replicate, sym, ap, ◌∙◌, subst}
use Rattle.kernel_lists.specs.OwnedWords.Owned.{Pairs, written}
use Rattle.kernel_lists.proofs.OwnedWords.OwnedWords.{length-written, written-append}
use Rattle.kernel_model.specs.KernelRecord.ChangedStore.{IsChanged}
use Rattle.kernel_boot.specs.Private.BootWords.{block_pairs, chain_pairs, fault_pairs, key_pairs, resident_pairs, root_pairs, shell_pairs}
use Rattle.kernel_boot.specs.ResidentKernel.{resident_block_size, resident_lists}
use Rattle.kernel_boot.proofs.ResidentLists.{residents-changed}
use Rattle.kernel_boot.proofs.residents.make_resident_kernel.Goals as goal

pub returns : goal.returns
returns c =
    let s : List ℕ = c.args.store.now in
    let n : ℕ = length s in
    let v : ℕ = c.args.version in
    let p : ℕ = c.args.period in
    let r : Bool = c.args.reporter in
    let numbers : Pairs = root_pairs n v p in
    let size : length c.write_root.new.store ≡ n = ap length c.write_root.ensures ∙ length-written numbers s in
    let blocks : Pairs = block_pairs n (resident_block_size r) ++ numbers in
    let tiled : c.write_blocks.new.store ≡ written blocks s =
    c.write_blocks.ensures
    ∙ (λ i. written (block_pairs (size i) (c.block_size.ensures i)) (c.write_root.ensures i))
    in
    let tasks : Pairs = chain_pairs r ++ blocks in
    let chained : c.write_chain.new.store ≡ written tasks s = c.write_chain.ensures ∙ ap (written (chain_pairs r)) tiled ∙ sym (written-append (chain_pairs r) blocks s) in
    let queued : c.queue_shell_packet.new.store ≡ written (shell_pairs ++ (key_pairs ++ tasks)) s =
    c.queue_shell_packet.ensures ∙ ap (written shell_pairs) (c.queue_key_packet.ensures ∙ ap (written key_pairs) chained)
    in
    let all : c.free_fault_packet.new.store ≡ written (resident_pairs n v p r) s =
    c.free_fault_packet.ensures ∙ ap (written (fault_pairs r)) queued ∙ sym (written-append (fault_pairs r) (shell_pairs ++ (key_pairs ++ tasks)) s)
    in
    subst (λ t. IsChanged s t (resident_lists v p n r) []) (sym (all ∙ ap (written (resident_pairs n v p r)) c.requires.zeros))
    (subst (λ z. IsChanged z (written (resident_pairs n v p r) (replicate n 0)) (resident_lists v p n r) []) (sym c.requires.zeros)
    (residents-changed n v p c.requires.version c.requires.size c.requires.period r))
