-- The streams of a saved machine, set one after the other.
use Rattle.std.proofs.Common.{◌≡◌, ℕ, ◌+◌, ◌<◌, ◌≤◌, List, [], ◌∷◌, length, get_or, take, drop, suc, cond, leb, ltb, ◌&&◌, true, false, sym, ap, ◌∙◌, subst}
use Rattle.std.proofs.lemmas.Bool.{and_parts, both_ways, leb-true}
use Rattle.ram_disc.specs.Disc.{Disc, IsDisc, most_streams}
use Rattle.ram_disc.specs.DiscCalls.{after_restore, can_restore, with_place}
use Rattle.kernel_boot.specs.BootFiles.{HasNoStreams}
use Rattle.saved_text.specs.ImageForm.{AreStreams, flag}
use Rattle.saved_text.specs.Ranges.{is_flag}
use Rattle.saved_text.specs.declared.images.SavedStream.{SavedStream}
use Rattle.saved_machine.specs.MachineImage.Parts.{stream_of, with_streams}
use Rattle.saved_machine.proofs.MachineImage.PlacedStreams.{added, can-add}
use Rattle.saved_machine.proofs.MachineImage.PlacedThings.{AreBelow, Rise, placed-none, rise-between, split-at, take-at}

-- the number of a stream
abbrev pub number : SavedStream → ℕ
number s = s.k

-- the numbers of streams rise
pub streams-rise : (floor : ℕ) (ss : List SavedStream) → AreStreams floor ss → Rise number stream_of most_streams floor ss
streams-rise floor [] are = tt
streams-rise floor (s ∷ ss) are =
    let inside = and_parts (leb 1 s.k && leb s.k 17 && is_flag (flag s.writes)) (ltb s.position 4294967296) are.1.0 in
    let numbers = and_parts (leb 1 s.k && leb s.k 17) (is_flag (flag s.writes)) inside.0 in
    let range = and_parts (leb 1 s.k) (leb s.k 17) numbers.0 in
    (are.0, leb-true 1 s.k range.0, leb-true s.k 17 range.1, streams-rise (s.k + 1) ss are.2)

-- none was set yet
pub none-set : (d : Disc) → HasNoStreams d → d ≡ with_streams d []
none-set d none = λ i. record { files = d.files; streams = (none ∙ sym (placed-none number stream_of most_streams)) i }

module _ (d : Disc) (ss : List SavedStream) (are : AreStreams 0 ss) (i : ℕ) (s : SavedStream) (low : i < length ss) (is : s ≡ get_or ss i s) where
  ranges : (0 ≤ s.k) × AreBelow number stream_of most_streams s.k (take i ss) × (1 ≤ s.k) × (s.k ≤ most_streams)
  ranges =
      rise-between number stream_of most_streams 0 (take i ss) (drop (suc i) ss) s
      (subst (Rise number stream_of most_streams 0) (split-at ss i s low is) (streams-rise 0 ss are))

  -- the next one was set
  pub next-set : (e f : Disc) → e ≡ with_streams d (take i ss) → can_restore e s.k s.name s.position s.writes ≡ true
      → f ≡ after_restore e s.k s.name s.position s.writes → f ≡ with_streams d (take (i + 1) ss)
  next-set e f before can after =
      after
      ∙ ap (λ t. cond t (with_place e s.k s.name s.position s.writes) e) can
      ∙ ap (λ g. with_place g s.k s.name s.position s.writes) before
      ∙ added number stream_of d.files (take i ss) s ranges.1 ranges.2 ranges.3
      ∙ ap (with_streams d) (sym (take-at ss i s low is))

  -- where it may not be set, the whole is no disc
  pub next-refused : (e : Disc) → e ≡ with_streams d (take i ss) → can_restore e s.k s.name s.position s.writes ≡ false → IsDisc (with_streams d ss) → ⊥
  next-refused e before cannot whole =
      both_ways (can_restore (with_streams d (take i ss)) s.k s.name s.position s.writes)
      (ap (λ g. can_restore g s.k s.name s.position s.writes) (sym before) ∙ cannot)
      (can-add number stream_of d.files (take i ss) s ranges.1 ranges.2 ranges.3 (drop (suc i) ss)
      (subst (λ xs. IsDisc (with_streams d xs)) (split-at ss i s low is) whole))
