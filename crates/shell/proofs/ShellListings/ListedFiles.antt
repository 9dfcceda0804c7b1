-- The lines of files, from one of them on.
use Rattle.std.proofs.Common.{◌≡◌, ℕ, zero, suc, ◌+◌, ◌-◌, ◌≤◌, cond, Option, Some, None, List, [], ◌∷◌, ◌++◌, drop, length, refl, sym, ap, ◌∙◌, append-nil, append_assoc, arith}
use Rattle.std.proofs.lemmas.Bool.{ne_eqb}
use Rattle.std.specs.List.{flat_map}
use Rattle.std.specs.Option.{option_map}
use Rattle.std.specs.Prelude.{slice_get}
use Rattle.ram_disc.specs.Disc.{Disc, File}
use Rattle.ram_disc.specs.DiscCalls.{nth_of}
use Rattle.shell.specs.ShellListings.FileLines.{file_line, file_lines, name_and_size}

-- the lines of the files from the i-th on, from 0
abbrev lines_from : ℕ → List File → List ℕ
lines_from i files = flat_map file_line (drop i files)

abbrev entry_at : List File → ℕ → Option (List ℕ × ℕ)
entry_at files i = option_map (λ f. (f.name, length f.bytes)) (slice_get files i)

none-left : (files : List File) (i : ℕ) → entry_at files i ≡ None → lines_from i files ≡ []
none-left [] zero e = refl
none-left [] (suc i) e = refl
none-left (f ∷ files) zero e = cc
none-left (f ∷ files) (suc i) e = none-left files i e

one-more : (files : List File) (i : ℕ) (entry : List ℕ × ℕ) → entry_at files i ≡ Some entry → lines_from i files ≡ name_and_size entry.0 entry.1 ++ lines_from (suc i) files
one-more [] i entry e = cc
one-more (f ∷ files) zero entry e = let same : (f.name, length f.bytes) ≡ entry = cc in ap (λ (x : List ℕ × ℕ). name_and_size x.0 x.1 ++ flat_map file_line files) same
one-more (f ∷ files) (suc i) entry e = one-more files i entry e

nth-entry : (d : Disc) (k : ℕ) → 1 ≤ k → nth_of d k ≡ entry_at d.files (k - 1)
nth-entry d k low = ap (λ b. cond b None (entry_at d.files (k - 1))) (ne_eqb k 0 (λ e. omega (arith, e, low)))

-- no file is left
pub files-end : (d : Disc) (k : ℕ) (out before : List ℕ) → 1 ≤ k → nth_of d k ≡ None → out ++ lines_from (k - 1) d.files ≡ before ++ flat_map file_line d.files → out ≡ before ++ file_lines d
unfolding file_lines
files-end d k out before low none text =
    sym (append-nil out) ∙ ap (λ rest. out ++ rest) (sym (none-left d.files (k - 1) (sym (nth-entry d k low) ∙ none))) ∙ text

-- the line of the k-th file is written
pub files-next : (d : Disc) (k : ℕ) (entry : List ℕ × ℕ) (out new before : List ℕ) → 1 ≤ k → nth_of d k ≡ Some entry → new ≡ out ++ name_and_size entry.0 entry.1
    → out ++ lines_from (k - 1) d.files ≡ before ++ flat_map file_line d.files → new ++ lines_from (k + 1 - 1) d.files ≡ before ++ flat_map file_line d.files
files-next d k entry out new before low some is text =
    let line : List ℕ = name_and_size entry.0 entry.1 in
    let next : k + 1 - 1 ≡ suc (k - 1) = omega (arith, low) in
    (λ i. is i ++ lines_from (next i) d.files) ∙ append_assoc out line (lines_from (suc (k - 1)) d.files)
    ∙ ap (λ rest. out ++ rest) (sym (one-more d.files (k - 1) entry (sym (nth-entry d k low) ∙ some))) ∙ text
