-- The text of the files of a disc, one after another.
use Rattle.std.proofs.Common.{◌≡◌, ◌∙◌, ℕ, zero, suc, ◌+◌, ◌-◌, ◌<◌, ◌≤◌, Bool, true, false, cond, Option, Some, None, List, [], ◌∷◌, ◌++◌, length, map, drop, refl, sym, ap, subst, arith, append-nil}
use Rattle.std.specs.List.{AllByRecursion, flat_map}
use Rattle.std.specs.Option.{option_map, option_to_list}
use Rattle.std.specs.Prelude.{find, slice_get}
use Rattle.std.specs.Str.{bytes_eq}
use Rattle.std.proofs.lemmas.Bool.{ne_eqb}
use Rattle.std.proofs.lemmas.Grind.{flat_map-append}
use Rattle.std.proofs.lemmas.List.{drop_all, map-append}
use Rattle.std.proofs.lemmas.Slice.Eq.{bytes_eq-Decides}
use Rattle.ram_disc.specs.Disc.{AreInOrder, Disc, File, IsDisc, file_named, has_name, is_before}
use Rattle.ram_disc.specs.DiscCalls.{nth_of}
use Rattle.word_store.proofs.EqualTexts.{bytes_eq-self}
use Rattle.ram_disc.proofs.NameOrder.{bytes_eq-other, is_before-differ}
use Rattle.saved_text.specs.SavedLines.Canonical.{statement_text}
use Rattle.saved_text.proofs.SavedLines.LineFields.{Some-same}
use Rattle.saved_text.specs.SavedLines.Statements.{Bytes, File as FileLine}
use Rattle.saved_text.specs.ImageForm.{byte_lines, file_statements}
use Rattle.saved_machine.specs.ImagePrint.SavedImage.{saved_file}
use Rattle.saved_machine.specs.ImagePrint.Private.Texts.{bytes_text, files_text, statements_text}
use Rattle.saved_machine.proofs.ImagePrint.NumberedPlaces.{drop-step}
use Rattle.saved_machine.proofs.ImagePrint.StatementTexts.{statements_text-append}

-- ---- one after another

files_text-append : (a b : List File) → files_text (a ++ b) ≡ files_text a ++ files_text b
files_text-append a b =
    ap (λ fs. statements_text (flat_map file_statements fs)) (map-append saved_file a b)
    ∙ ap statements_text (flat_map-append file_statements (map saved_file a) (map saved_file b))
    ∙ statements_text-append (flat_map file_statements (map saved_file a)) (flat_map file_statements (map saved_file b))

-- the k-th file, from 1, and those behind it
pub files-at : (fs : List File) (k : ℕ) → 0 < k → files_text (drop (k - 1) fs) ≡ files_text (option_to_list (slice_get fs (k - 1))) ++ files_text (drop (k + 1 - 1) fs)
files-at fs k low =
    let next : suc (k - 1) ≡ k + 1 - 1 = omega (arith, low) in
    ap files_text (drop-step (k - 1) fs) ∙ files_text-append (option_to_list (slice_get fs (k - 1))) (drop (suc (k - 1)) fs)
    ∙ ap (λ (n : ℕ). files_text (option_to_list (slice_get fs (k - 1))) ++ files_text (drop n fs)) next

pub files-end : (fs : List File) (k : ℕ) → length fs ≤ k → files_text (drop k fs) ≡ []
files-end fs k le = ap files_text (drop_all k fs le)

-- a file: its name, and the lines of its bytes
pub file-parts : (f : File) → files_text (f ∷ []) ≡ (statement_text (FileLine f.name) ++ 10 ∷ []) ++ bytes_text f.bytes
file-parts f =
    ap (λ ss. (statement_text (FileLine f.name) ++ 10 ∷ []) ++ statements_text ss) (append-nil (map (λ line. Bytes line) (byte_lines f.bytes)))

-- ---- a file by its name

same-name : (a b : List ℕ) → bytes_eq a b ≡ true → a ≡ b
same-name a b e = (bytes_eq-Decides a b).0 e

found-name : (name : List ℕ) (fs : List File) (f : File) → find (has_name name) fs ≡ Some f → f.name ≡ name
found-name name [] f e = cc
found-name name (g ∷ fs) f e = by (bytes_eq g.name name) refl e (found-name name fs f)
  where
    by : (b : Bool) → bytes_eq g.name name ≡ b → cond b (Some g) (find (has_name name) fs) ≡ Some f → (find (has_name name) fs ≡ Some f → f.name ≡ name) → f.name ≡ name
    by true is e others = let eq : g ≡ f = Some-same g f e in sym (ap (λ (x : File). x.name) eq) ∙ same-name g.name name is
    by false is e others = others e

before-all : (name : List ℕ) (fs : List File) (i : ℕ) (f : File) → AllByRecursion (λ other. is_before name other ≡ true) (map (λ g. g.name) fs) → slice_get fs i ≡ Some f → is_before name f.name ≡ true
before-all name [] i f all e = cc
before-all name (g ∷ fs) zero f all e = let eq : g ≡ f = cc in subst (λ (x : File). is_before name x.name ≡ true) eq all.0
before-all name (g ∷ fs) (suc i) f all e = before-all name fs i f all.1 e

find-at : (fs : List File) (i : ℕ) (f : File) → AreInOrder (map (λ g. g.name) fs) → slice_get fs i ≡ Some f → find (has_name f.name) fs ≡ Some f
find-at [] i f order e = cc
find-at (g ∷ fs) zero f order e = let eq : g ≡ f = cc in subst (λ (x : File). find (has_name x.name) (g ∷ fs) ≡ Some x) eq (ap (λ b. cond b (Some g) (find (has_name g.name) fs)) (bytes_eq-self g.name))
find-at (g ∷ fs) (suc i) f order e =
    let other = bytes_eq-other g.name f.name (is_before-differ g.name f.name (before-all g.name fs i f order.0 e)) in
    ap (λ b. cond b (Some g) (find (has_name f.name) fs)) other ∙ find-at fs i f order.1 e

abbrev shown : File → List ℕ × ℕ
shown f = (f.name, length f.bytes)

-- the k-th file, from 1, is the one of its name
module _ (d : Disc) (k : ℕ) (low : 0 < k) where
  told : nth_of d k ≡ option_map shown (slice_get d.files (k - 1))
  told = ap (λ b. cond b None (option_map shown (slice_get d.files (k - 1)))) (ne_eqb k 0 (λ e. omega (arith, low, e)))

  pub nth-named : (x : List ℕ × ℕ) → IsDisc d → Some x ≡ nth_of d k → file_named d x.0 ≡ slice_get d.files (k - 1)
  nth-named x valid e = on (slice_get d.files (k - 1)) refl (e ∙ told)
    where
      on : (o : Option File) → slice_get d.files (k - 1) ≡ o → Some x ≡ option_map shown o → file_named d x.0 ≡ slice_get d.files (k - 1)
      on None is e = cc
      on (Some f) is e = ap (λ (y : List ℕ × ℕ). file_named d y.0) (Some-same x (shown f) e) ∙ find-at d.files (k - 1) f valid.in_order is ∙ sym is

  pub nth-none : None ≡ nth_of d k → slice_get d.files (k - 1) ≡ None
  nth-none e = on (slice_get d.files (k - 1)) (e ∙ told)
    where
      on : (o : Option File) → None ≡ option_map shown o → o ≡ None
      on None e = refl
      on (Some f) e = cc

-- the text of the file of a name
pub named-parts : (d : Disc) (name bytes : List ℕ) → Some bytes ≡ option_map (λ (f : File). f.bytes) (file_named d name) → files_text (option_to_list (file_named d name)) ≡ (statement_text (FileLine name) ++ 10 ∷ []) ++ bytes_text bytes
named-parts d name bytes e = on (file_named d name) refl e
  where
    on : (o : Option File) → file_named d name ≡ o → Some bytes ≡ option_map (λ (f : File). f.bytes) o → files_text (option_to_list (file_named d name)) ≡ (statement_text (FileLine name) ++ 10 ∷ []) ++ bytes_text bytes
    on None is e = cc
    on (Some f) is e =
        ap (λ (o : Option File). files_text (option_to_list o)) is ∙ file-parts f
        ∙ ap (λ (n : List ℕ). (statement_text (FileLine n) ++ 10 ∷ []) ++ bytes_text f.bytes) (found-name name d.files f is)
        ∙ ap (λ (bs : List ℕ). (statement_text (FileLine name) ++ 10 ∷ []) ++ bytes_text bs) (sym (Some-same bytes f.bytes e))
