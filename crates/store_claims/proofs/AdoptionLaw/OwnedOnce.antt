-- Words that are claimed once, among the data of used blocks, are owned once.
use Rattle.std.proofs.Common.{◌≡◌, ℕ, ◌+◌, ◌-◌, ◌<◌, ◌≤◌, true, List, [], ◌∷◌, length, refl, sym, subst, arith, inl, inr}
use Rattle.std.specs.List.{range_with_len}
use Rattle.std.proofs.lemmas.Bool.{cases_eq, cases_lt}
use Rattle.word_store.specs.Count.{hit, times}
use Rattle.word_store.proofs.Counts.{hit-le, hit-other, hit-same, range-apart, range-high}
use Rattle.kernel_lists.specs.OwnedWords.Owned.{owners}
use Rattle.kernel_lists.specs.declared.getvec_chain.pieces.Block.{Block}
use Rattle.kernel_lists.specs.GetvecChain.Block.{block_end}
use Rattle.kernel_lists.specs.GetvecChain.BlockWords.{blocks_words}
use Rattle.kernel_lists.specs.GetvecChain.Tiling.{Follow, IsTiled, Tiles, blocks_in}
use Rattle.kernel_model.specs.KernelRecord.HoldsLists.{HoldsLists}
use Rattle.kernel_model.specs.KernelRecord.Lists.{Lists}
use Rattle.kernel_model.specs.KernelRecord.Owned.{OwnsApart, owned}
use Rattle.kernel_model.specs.KernelRecord.Recovered.{lists_in}
use Rattle.kernel_model.specs.KernelRecord.UsedData.{OwnedWhere}
use Rattle.kernel_model.proofs.KernelRecord.BlockStarts.{Tiles-Follow, starts-once, starts-within}
use Rattle.kernel_model.proofs.KernelRecord.DataLaw.{owned-where}
use Rattle.kernel_model.proofs.KernelRecord.RootCounts.{owners-nodes}
use Rattle.store_claims.specs.ListClaims.BlockData.{is_used_data}
use Rattle.store_claims.specs.AdoptionLaw.Passes.{IsValidRoot}
use Rattle.store_claims.specs.AdoptionLaw.ClaimCounts.{AreUsed, claim_count}
use Rattle.store_claims.proofs.AdoptionLaw.BlockData.{LiesInData, held-used, lies-in-data}

-- what is owned: the root, the end word, the size words, and what is claimed
pub owners-claimed : (a : ℕ) (l : Lists) → owners a (owned l) ≡ times a (range_with_len 100 84) + (hit a (l.size - 2) + (owners a (blocks_words l.blocks) + claim_count a l))
owners-claimed a l = owners-nodes a l

module _ (s : List ℕ) where
  abbrev l : Lists
  l = lists_in s

  the-blocks : l.blocks ≡ blocks_in s
  unfolding lists_in
  the-blocks = refl

  tiles-inside : (at : ℕ) (bs : List Block) → Tiles s at bs → at + 2 ≤ length s
  tiles-inside at [] t = omega (arith, t.0)
  tiles-inside at (b ∷ bs) t = omega (arith, t.0, t.1.some, tiles-inside (block_end b) bs t.2)

  pub owned-once : IsValidRoot s → IsTiled s → ((a : ℕ) → claim_count a l ≤ 1) → AreUsed s → OwnsApart l
  owned-once root tiled once used = record { apart = apart; inside = inside }
    where
      end : ℕ
      end = l.size - 2

      room : 202 ≤ l.size
      room = omega (arith, tiles-inside 200 (blocks_in s) tiled, root.size)

      follow : Follow 200 l.blocks end
      follow = subst (λ bs. Follow 200 bs end) (sym the-blocks) (Tiles-Follow s 200 (blocks_in s) end tiled (omega (arith, room, root.size)))

      -- a claimed word is none of the others
      lies : (a : ℕ) → 0 < claim_count a l → LiesInData 200 end l.blocks a
      lies a some = lies-in-data 200 l.blocks end a follow (subst (λ bs. is_used_data a bs ≡ true) (sym the-blocks) (used a some))

      -- each of the others is one word
      others : (a : ℕ) → times a (range_with_len 100 84) + (hit a end + owners a (blocks_words l.blocks)) ≤ 1
      others a =
          elim (cases_lt 0 (times a (range_with_len 100 84))) [
            | inl some ↦
                let high : a < 184 = range-high a 100 84 some in
                omega (arith, range-apart 100 84 a, hit-other a end (λ e. absurd (omega (arith, e, high, room))), no-start a high)
            | inr none ↦ elim (cases_eq a end) [
              | inl e ↦ omega (arith, none, hit-le a end, no-end a e)
              | inr ne ↦ omega (arith, none, hit-other a end ne, starts-once 200 l.blocks end a follow)
            ]
          ]
        where
          no-start : (a : ℕ) → a < 184 → owners a (blocks_words l.blocks) ≡ 0
          no-start a high = elim (cases_lt 0 (owners a (blocks_words l.blocks))) [ inl some ↦ absurd (omega (arith, high, (starts-within 200 l.blocks end a follow some).0)) | inr none ↦ omega (arith, none) ]

          no-end : (a : ℕ) → a ≡ end → owners a (blocks_words l.blocks) ≡ 0
          no-end a e = elim (cases_lt 0 (owners a (blocks_words l.blocks))) [ inl some ↦ absurd (omega (arith, e, (starts-within 200 l.blocks end a follow some).1)) | inr none ↦ omega (arith, none) ]

      no-root : (a : ℕ) → 200 < a → times a (range_with_len 100 84) ≡ 0
      no-root a low = elim (cases_lt 0 (times a (range_with_len 100 84))) [ inl some ↦ absurd (omega (arith, low, range-high a 100 84 some)) | inr none ↦ omega (arith, none) ]

      apart : (a : ℕ) → owners a (owned l) ≤ 1
      apart a =
          elim (cases_lt 0 (claim_count a l)) [
            | inl some ↦
                let d : LiesInData 200 end l.blocks a = lies a some in
                omega (arith, owners-claimed a l, once a, d.no_start, no-root a d.low, hit-other a end (λ e. absurd (omega (arith, e, d.high))))
            | inr none ↦ omega (arith, owners-claimed a l, none, others a)
          ]

      inside : (a : ℕ) → 0 < owners a (owned l) → a < l.size
      inside a some =
          elim (cases_lt a l.size) [
            | inl low ↦ low
            | inr high ↦ absurd (omega (arith, some, owners-claimed a l, no-claim a (omega (arith, high)), far a (omega (arith, high))))
          ]
        where
          no-claim : (a : ℕ) → l.size ≤ a → claim_count a l ≡ 0
          no-claim a high = elim (cases_lt 0 (claim_count a l)) [ inl some ↦ absurd (omega (arith, high, (lies a some).high)) | inr none ↦ omega (arith, none) ]

          far : (a : ℕ) → l.size ≤ a → times a (range_with_len 100 84) + (hit a end + owners a (blocks_words l.blocks)) ≡ 0
          far a high = omega (arith, no-root a (omega (arith, high, room)), hit-other a end (λ e. absurd (omega (arith, e, high, room))), no-size a high)
            where
              no-size : (a : ℕ) → l.size ≤ a → owners a (blocks_words l.blocks) ≡ 0
              no-size a high = elim (cases_lt 0 (owners a (blocks_words l.blocks))) [ inl some ↦ absurd (omega (arith, high, (starts-within 200 l.blocks end a follow some).1)) | inr none ↦ omega (arith, none) ]

  module _ (h : HoldsLists s (lists_in s)) where
    pub claimed-once : (a : ℕ) → claim_count a l ≤ 1
    claimed-once a = omega (arith, owners-claimed a l, h.valid.owns.apart a)

    pub claimed-used : AreUsed s
    claimed-used a some = on (owned-where l h.valid a (omega (arith, some, owners-claimed a l)))
      where
        one : owners a (owned l) ≤ 1
        one = h.valid.owns.apart a

        on : OwnedWhere l a → is_used_data a (blocks_in s) ≡ true
        on (inl (inl root)) = absurd (omega (arith, root, one, some, owners-claimed a l))
        on (inl (inr end)) = absurd (omega (arith, one, some, owners-claimed a l, at-end))
          where
            at-end : hit a (l.size - 2) ≡ 1
            at-end = (let e : a ≡ l.size - 2 = omega (arith, end) in hit-same a (l.size - 2) e)
        on (inr (inl size)) = absurd (omega (arith, size, one, some, owners-claimed a l))
        on (inr (inr used)) = subst (λ bs. is_used_data a bs ≡ true) the-blocks (held-used l.blocks a used.block used.holds used.used)
