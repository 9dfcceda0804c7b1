use Rattle.std.proofs.Common.{◌∙◌, false, length, replicate, sym, ap}
use Rattle.std.proofs.lemmas.Bool.{false≢true}
use Rattle.std.proofs.lemmas.List.{length-replicate}
use Rattle.store_claims.specs.AdoptionLaw.ClaimableStore.{OpensData}
use Rattle.store_claims.proofs.AdoptionLaw.ClaimableStore.{from-claimable, to-claimable, valid-claimable}
use Rattle.kernel_check.proofs.WholeCheck.{refuse}
use Rattle.kernel_check.proofs.check.holds_lists.Goals as goal

pub returns-then-not-is_valid_root : goal.returns-then-not-is_valid_root
returns-then-not-is_valid_root c = refuse c.args.store.now _ c.is_valid_root.result c.is_valid_root.ensures c.if-not-is_valid_root.true (λ p. p.root)

pub returns-then-not-are_tiled : goal.returns-then-not-are_tiled
returns-then-not-are_tiled c = refuse c.args.store.now _ c.are_tiled.result c.are_tiled.ensures c.if-not-are_tiled.true (λ p. p.tiled)

pub returns-then-not-claim_lists : goal.returns-then-not-claim_lists
returns-then-not-claim_lists c =
    let d : OpensData c.args.store.now c.open_blocks.new.claims = record {
      size = c.open_blocks.ensures.size ∙ ap length (c.in_ok-words.ensures ∙ ap (λ n. replicate n false) c.size.ensures) ∙ length-replicate (length c.args.store.now) false;
      are_open = c.open_blocks.ensures.used_data;
    } in (
      λ t. absurd (false≢true t),
      λ h. sym c.if-not-claim_lists.true
          ∙ c.claim_lists.ensures.1 (from-claimable c.args.store.now c.open_blocks.new.claims d (c.are_tiled.ensures.0 c.if-not-are_tiled.false) (valid-claimable c.args.store.now h)),
    )

pub holds_claimed-requires : goal.holds_claimed-requires
holds_claimed-requires c =
    let d : OpensData c.args.store.now c.open_blocks.new.claims = record {
      size = c.open_blocks.ensures.size ∙ ap length (c.in_ok-words.ensures ∙ ap (λ n. replicate n false) c.size.ensures) ∙ length-replicate (length c.args.store.now) false;
      are_open = c.open_blocks.ensures.used_data;
    } in
    record {
      root = c.is_valid_root.ensures.0 c.if-not-is_valid_root.false;
      tiled = c.are_tiled.ensures.0 c.if-not-are_tiled.false;
      claims = to-claimable c.args.store.now c.open_blocks.new.claims d (c.claim_lists.ensures.0 c.if-not-claim_lists.false);
    }
