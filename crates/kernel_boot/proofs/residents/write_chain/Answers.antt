use Rattle.std.proofs.Common.{◌≡◌, ℕ, Bool, List, [], ◌∷◌, ◌++◌, if◌then◌else◌, sym, ap, ◌∙◌}
use Rattle.kernel_lists.specs.OwnedWords.Owned.{Pairs, written}
use Rattle.kernel_lists.proofs.OwnedWords.OwnedWords.{written-append}
use Rattle.kernel_boot.specs.Private.BootWords.{reporter_pairs, waiting_pairs}
use Rattle.kernel_boot.proofs.residents.write_chain.Goals as goal

pub returns : goal.returns
returns c =
    let s : List ℕ = c.args.store.now in
    let r : Bool = c.args.reporter in
    let console : Pairs = waiting_pairs 3 224 6000 247 ++ (101, 224) ∷ [] in
    let files : Pairs = waiting_pairs 4 247 5000 (if r then 287 else 201) ++ console in
    let above : c.wait.new.store ≡ written console s = c.wait.ensures ∙ ap (written (waiting_pairs 3 224 6000 247)) c.set_root.ensures in
    let middle : c.wait-2.new.store ≡ written files s =
    c.wait-2.ensures ∙ (λ i. written (waiting_pairs 4 247 5000 (c.below_files.ensures i)) (above i))
    in
    let reporter : c.write_reporter.new.store ≡ written (reporter_pairs r ++ files) s =
    c.write_reporter.ensures ∙ ap (written (reporter_pairs r)) middle ∙ sym (written-append (reporter_pairs r) files s)
    in
    c.wait-3.ensures ∙ ap (written (waiting_pairs 1 201 1000 0)) reporter
