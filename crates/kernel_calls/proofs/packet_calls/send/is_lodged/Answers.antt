use Rattle.std.proofs.Common.{false, not, ◌+◌, ◌&&◌, sym, ap, ◌∙◌}
use Rattle.std.specs.Option.{option_map_or}
use Rattle.kernel_lists.specs.GetvecChain.Block.{has_data}
use Rattle.kernel_lists.specs.GetvecChain.Tiling.{blocks_in, holding}
use Rattle.kernel_calls.proofs.CallAnswers.FoundTask.{reads}
use Rattle.word_store.proofs.Elements.{find-passes}
use Rattle.kernel_calls.proofs.packet_calls.send.is_lodged.Goals as goal

pub block_of-requires : goal.block_of-requires
block_of-requires c = (reads c.args.store.now c.requires.0 c.requires.1).tiled

pub has_packet_words-requires : goal.has_packet_words-requires
has_packet_words-requires c =
    find-passes (λ b. has_data b c.args.p) (blocks_in c.args.store.now) c.in-Some.block (sym c.block_of.ensures ∙ c.in-Some.is)

pub returns-in-Some : goal.returns-in-Some
returns-in-Some c = λ l h.
    c.has_packet_words.ensures
    ∙ ap (λ o. option_map_or (λ b. not b.free && has_data b (c.args.p + 4)) o false)
    (sym c.in-Some.is ∙ c.block_of.ensures ∙ ap (holding c.args.p) (reads c.args.store.now l h).blocks)

pub returns-in-None : goal.returns-in-None
returns-in-None c = λ l h.
    ap (λ o. option_map_or (λ b. not b.free && has_data b (c.args.p + 4)) o false)
    (sym c.in-None.is ∙ c.block_of.ensures ∙ ap (holding c.args.p) (reads c.args.store.now l h).blocks)
