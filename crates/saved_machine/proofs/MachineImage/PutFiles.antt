-- The files of a saved machine, put on a disc one after the other.
use Rattle.std.proofs.Common.{◌≡◌, ℕ, ◌+◌, ◌<◌, List, [], ◌∷◌, length, get_or, map, take, drop, suc, false, Ok, sym, ap, ◌∙◌, subst}
use Rattle.std.specs.Result.{is_ok}
use Rattle.std.proofs.lemmas.Bool.{both_ways}
use Rattle.std.proofs.lemmas.List.{map-append}
use Rattle.ram_disc.specs.Disc.{AreInOrder, Disc, File, IsDisc}
use Rattle.kernel_boot.specs.BootFiles.{with_new_file}
use Rattle.saved_text.specs.ImageForm.{AreFiles}
use Rattle.saved_text.specs.declared.images.SavedFile.{SavedFile}
use Rattle.saved_machine.specs.MachineImage.Parts.{HaveNoDisc, disc_of_files, file_of}
use Rattle.saved_machine.proofs.MachineImage.FiledDiscs.{AreBefore, Filed, before-between, in-order, put-can, put-last}
use Rattle.saved_machine.proofs.MachineImage.PlacedThings.{split-at, take-at}

module _ (fs : List SavedFile) (are : AreFiles fs) (i : ℕ) (f : SavedFile) (low : i < length fs) (is : f ≡ get_or fs i f) where
  before : AreBefore f.name (map file_of (take i fs))
  before =
      before-between (take i fs) (drop (suc i) fs) f
      (subst (λ xs. AreInOrder (map (λ (g : File). g.name) (map file_of xs))) (split-at fs i f low is) (in-order fs are))

  -- the next one was put on the disc
  pub next-put : (d e : Disc) → d ≡ disc_of_files (take i fs) → with_new_file d f.name f.bytes ≡ Ok e → e ≡ disc_of_files (take (i + 1) fs)
  next-put d e old made =
      put-last (map file_of (take i fs)) (map file_of (drop (suc i) fs)) (file_of f) before e (ap (λ g. with_new_file g f.name f.bytes) (sym old) ∙ made)
      ∙ ap Filed (sym (map-append file_of (take i fs) (f ∷ [])) ∙ ap (map file_of) (sym (take-at fs i f low is)))

  -- where it is refused, no disc has all of them
  pub next-refused : (d : Disc) → d ≡ disc_of_files (take i fs) → is_ok (with_new_file d f.name f.bytes) ≡ false → HaveNoDisc fs
  next-refused d old refused = λ streams whole.
      both_ways (is_ok (with_new_file (disc_of_files (take i fs)) f.name f.bytes))
      (ap (λ g. is_ok (with_new_file g f.name f.bytes)) (sym old) ∙ refused)
      (put-can (map file_of (take i fs)) (map file_of (drop (suc i) fs)) (file_of f) before streams
      (subst (λ (gs : List File). IsDisc (record { files = gs; streams = streams })) (ap (map file_of) (split-at fs i f low is) ∙ map-append file_of (take i fs) (f ∷ drop (suc i) fs)) whole))
