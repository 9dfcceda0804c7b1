use Rattle.std.proofs.Common.{◌∙◌, ◌+◌, ap, length, sym}
use Rattle.std.specs.Prelude.{nat_eq}
use Rattle.std.specs.List.{starts_with}
use Rattle.std.proofs.lemmas.List.{length-map}
use Rattle.module_text.specs.declared.modules.Hunk.{Hunk}
use Rattle.kernel_lists.specs.HunkLoader.ModuleRow.{hunks_image, lengths_of}
use Rattle.state_text.proofs.LoadedWords.{both-next, both-other}
use Rattle.state_text.proofs.programs.has_hunks.Goals as goal

pub returns-then-not-has_lengths : goal.returns-then-not-has_lengths
returns-then-not-has_lengths c =
    let hs = c.args.hunks.now in
    both-other c.args.words.now (lengths_of hs) (hunks_image (c.args.m + 2 + length hs) hs) (sym c.if-not-has_lengths.true ∙ c.has_lengths.ensures.words)

pub returns : goal.returns
returns c =
    let hs = c.args.hunks.now in
    let images = hunks_image (c.args.m + 2 + length hs) hs in
    let rest = both-next c.args.words.now (lengths_of hs) images (length hs) (length-map hs (λ (h : Hunk). length h.words)) (sym c.if-not-has_lengths.false ∙ c.has_lengths.ensures.words) in
    c.has_images.ensures ∙ (ap (λ ws. starts_with nat_eq ws images) c.words_after.ensures ∙ sym rest)
