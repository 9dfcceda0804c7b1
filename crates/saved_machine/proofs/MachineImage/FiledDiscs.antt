-- Files that are put on a disc, one after the other in the order of their names.
use Rattle.std.proofs.Common.{◌≡◌, ℕ, ◌≤◌, List, [], ◌∷◌, ◌++◌, length, map, replicate, cond, leb, ltb, not, ◌||◌, Bool, true, false, Option, Some, None, Ok, refl, ap, ◌∙◌, arith}
use Rattle.std.specs.List.{AllByRecursion, filter, list_any, sum_by}
use Rattle.std.specs.Result.{is_ok}
use Rattle.std.proofs.lemmas.Bool.{le-leb, lt-ltb, not_from_false}
use Rattle.std.proofs.lemmas.List.{length-append}
use Rattle.std.proofs.lemmas.List.Sums.{sum_by-append, sum_by-cons}
use Rattle.ram_disc.specs.Disc.{AreInOrder, Disc, File, IsDisc, Stream, has_file, has_name, is_before, most_files, most_sectors, sectors_of, sectors_taken}
use Rattle.ram_disc.specs.DiscCalls.{has_room, with_bytes, with_file}
use Rattle.ram_disc.proofs.NameOrder.{bytes_eq-other, is_before-back, is_before-differ, is_before-trans}
use Rattle.kernel_boot.specs.BootFiles.{disc_or_code, file_tests, with_new_file}
use Rattle.kernel_calls.specs.CallAnswers.Refusals.{first_refusal}
use Rattle.saved_text.specs.ImageForm.{AreFiles}
use Rattle.saved_text.specs.declared.images.SavedFile.{SavedFile}
use Rattle.saved_machine.specs.MachineImage.Parts.{file_of}

-- the disc with these files, and no open stream
abbrev pub Filed : List File → Disc
Filed fs = record { files = fs; streams = replicate 17 None }

-- ---- order

-- a file is before all that are behind the next one
before-all : (f g : SavedFile) (fs : List SavedFile) → is_before f.name g.name ≡ true → AllByRecursion (λ name. is_before g.name name ≡ true) (map (λ (h : File). h.name) (map file_of fs))
    → AllByRecursion (λ name. is_before f.name name ≡ true) (map (λ (h : File). h.name) (map file_of fs))
before-all f g [] is all = tt
before-all f g (h ∷ fs) is all = (is_before-trans f.name g.name h.name is all.0, before-all f g fs is all.1)

-- names of which each is before the next are in order
pub in-order : (fs : List SavedFile) → AreFiles fs → AreInOrder (map (λ (f : File). f.name) (map file_of fs))
in-order [] files = tt
in-order (f ∷ []) files = (tt, tt)
in-order (f ∷ g ∷ fs) files =
    let rest = in-order (g ∷ fs) files.2 in
    ((files.1, before-all f g fs files.1 rest.0), rest)

-- all these files are before the one of this name
abbrev pub AreBefore : List ℕ → List File → Type 0
AreBefore name fs = AllByRecursion (λ (g : File). is_before g.name name ≡ true) fs

member-between : (P : List ℕ → Type 0) (xs ys : List SavedFile) (a : SavedFile) → AllByRecursion P (map (λ (f : File). f.name) (map file_of (xs ++ a ∷ ys))) → P a.name
member-between P [] ys a all = all.0
member-between P (x ∷ xs) ys a all = member-between P xs ys a all.1

pub before-between : (xs ys : List SavedFile) (a : SavedFile) → AreInOrder (map (λ (f : File). f.name) (map file_of (xs ++ a ∷ ys))) → AreBefore a.name (map file_of xs)
before-between [] ys a order = tt
before-between (x ∷ xs) ys a order = (member-between (λ name. is_before x.name name ≡ true) xs ys a order.0, before-between xs ys a order.1)

-- ---- one file more

front-kept : (name : List ℕ) (gs : List File) → AreBefore name gs → filter (λ (g : File). is_before g.name name) gs ≡ gs
front-kept name [] before = refl
front-kept name (g ∷ gs) before =
    ap (λ b. cond b (g ∷ filter (λ (h : File). is_before h.name name) gs) (filter (λ (h : File). is_before h.name name) gs)) before.0
    ∙ ap (λ hs. g ∷ hs) (front-kept name gs before.1)

none-behind : (name : List ℕ) (gs : List File) → AreBefore name gs → filter (λ (g : File). is_before name g.name) gs ≡ []
none-behind name [] before = refl
none-behind name (g ∷ gs) before =
    ap (λ b. cond b (g ∷ filter (λ (h : File). is_before name h.name) gs) (filter (λ (h : File). is_before name h.name) gs)) (is_before-back g.name name before.0)
    ∙ none-behind name gs before.1

-- a file that is behind all others comes in behind them
pub with-last : (gs : List File) (f : File) → AreBefore f.name gs → with_file f gs ≡ gs ++ f ∷ []
with-last gs f before =
    ap (λ hs. hs ++ f ∷ filter (λ (g : File). is_before f.name g.name) gs) (front-kept f.name gs before)
    ∙ ap (λ hs. gs ++ f ∷ hs) (none-behind f.name gs before)

-- and its name is a new one
new-name : (gs : List File) (name : List ℕ) → AreBefore name gs → list_any (has_name name) gs ≡ false
new-name [] name before = refl
new-name (g ∷ gs) name before =
    ap (λ b. b || list_any (has_name name) gs) (bytes_eq-other g.name name (is_before-differ g.name name before.0))
    ∙ new-name gs name before.1

-- what comes on the disc, whatever the tests say
pub put-is : (d : Disc) (name bytes : List ℕ) (e : Disc) → with_new_file d name bytes ≡ Ok e → e ≡ with_bytes d name bytes
put-is d name bytes e is = on (first_refusal (file_tests d name bytes)) is
  where
    on : (o : Option ℕ) → disc_or_code o (with_bytes d name bytes) ≡ Ok e → e ≡ with_bytes d name bytes
    on None f = cc
    on (Some code) f = cc

module _ (gs rest : List File) (f : File) (before : AreBefore f.name gs) where
  -- the file comes in behind the others
  pub put-last : (e : Disc) → with_new_file (Filed gs) f.name f.bytes ≡ Ok e → e ≡ Filed (gs ++ f ∷ [])
  put-last e is = put-is (Filed gs) f.name f.bytes e is ∙ ap Filed (with-last gs f before)

  -- where there are no more files than there may be, and sectors for all, there is room for it
  pub put-can : (streams : List (Option Stream)) → IsDisc (record { files = gs ++ f ∷ rest; streams = streams }) → is_ok (with_new_file (Filed gs) f.name f.bytes) ≡ true
  put-can streams d =
      let all : List File = gs ++ f ∷ rest in
      let new : Disc = with_bytes (Filed gs) f.name f.bytes in
      let away : not (has_file (Filed gs) f.name) ≡ true = not_from_false (has_file (Filed gs) f.name) (new-name gs f.name before) in
      let few : ltb (length gs) most_files ≡ true = lt-ltb (length gs) most_files (omega (arith, d.few, length-append gs (f ∷ rest))) in
      let fits : sectors_taken (gs ++ f ∷ []) ≤ most_sectors =
      omega (arith, d.room, sum_by-append size gs (f ∷ rest), sum_by-cons size f rest, sum_by-append size gs (f ∷ []), sum_by-cons size f [], sum_by-nil) in
      let room : has_room new ≡ true = ap (λ (fs : List File). leb (sectors_taken fs) most_sectors) (with-last gs f before) ∙ le-leb (sectors_taken (gs ++ f ∷ [])) most_sectors fits in
      ap (λ t. Put t (ltb (length gs) most_files) (has_room new)) away
      ∙ ap (λ t. Put true t (has_room new)) few
      ∙ ap (Put true true) room
    where
      size : File → ℕ
      size g = sectors_of (length g.bytes)

      sum_by-nil : sum_by size [] ≡ 0
      sum_by-nil = refl

      Put : Bool → Bool → Bool → Bool
      Put t u v = is_ok (disc_or_code (first_refusal ((t, 42) ∷ (u, 44) ∷ (v, 43) ∷ [])) (with_bytes (Filed gs) f.name f.bytes))
