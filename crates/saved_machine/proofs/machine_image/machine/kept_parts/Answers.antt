use Rattle.std.proofs.Common.{◌≡◌, ◌∙◌, sym, subst}
use Rattle.std.proofs.lemmas.Bool.{false≢true}
use Rattle.std.proofs.lemmas.Option.{MatchOption-at_some}
use Rattle.ram_disc.specs.Disc.{IsDisc}
use Rattle.kernel_model.specs.KernelRecord.Pipes.{ArePipes}
use Rattle.saved_machine.specs.MachineImage.Parts.{disc_with, placed_pipes}
use Rattle.saved_machine.proofs.MachineImage.AdoptedParts.{adopted-parts, machine-adopted, pipes-kept, residents-adopted, store-adopted}
use Rattle.saved_machine.proofs.machine_image.machine.kept_parts.Goals as goal

pub returns-then-not-branch : goal.returns-then-not-branch
returns-then-not-branch c = λ h.
    let x = c.args.image.now in
    false≢true (sym c.if-not-branch.true ∙ c.in_ok-is_valid_store.ensures.1 (store-adopted x (machine-adopted x c.requires.full h)))

pub returns-then-not-residents_keep : goal.returns-then-not-residents_keep
returns-then-not-residents_keep c = λ h.
    let x = c.args.image.now in
    false≢true (sym c.if-not-residents_keep.true ∙ c.residents_keep.ensures.1 (residents-adopted x (machine-adopted x c.requires.full h)))

pub returns : goal.returns
returns c =
    let x = c.args.image.now in
    let d =
    MatchOption-at_some (IsDisc (disc_with x.files x.streams) → ⊥) (λ d. (d ≡ disc_with x.files x.streams) × IsDisc d) c.in-Some.disc c.in-Some.is c.in_ok-disc.ensures in
    let p = pipes-kept x.pipes c.as_slice.result.now c.as_slice.ensures c.in-Some-2.pipes (MatchOption-at_some (ArePipes (placed_pipes c.as_slice.result.now) → ⊥)
    (λ ps. (ps ≡ placed_pipes c.as_slice.result.now) × ArePipes ps) c.in-Some-2.pipes c.in-Some-2.is c.in_ok-pipes.ensures) in
    record {
      adopted =
          adopted-parts x c.requires.lawful (c.in_ok-is_valid_store.ensures.0 c.if-not-branch.false) (c.residents_keep.ensures.0 c.if-not-residents_keep.false)
          (subst IsDisc d.0 d.1) (subst ArePipes p.0 p.1);
      disc = d.0;
      pipes = p.0;
    }
