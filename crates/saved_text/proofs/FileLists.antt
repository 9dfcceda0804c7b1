-- The last of the files.
use Rattle.std.proofs.Common.{◌≡◌, ◌∙◌, ℕ, ◌+◌, ◌-◌, Some, List, [], ◌∷◌, ◌++◌, length, length-append, refl, ap, arith}
use Rattle.std.specs.Prelude.{slice_get}
use Rattle.saved_text.specs.Files.{last_of, with_bytes, with_more}
use Rattle.saved_text.specs.declared.images.SavedFile.{SavedFile}

-- more bytes go to the last file
pub with_bytes-push : (files : List SavedFile) (last : SavedFile) (bytes : List ℕ) → with_bytes (files ++ last ∷ []) bytes ≡ files ++ with_more last bytes ∷ []
with_bytes-push [] last bytes = refl
with_bytes-push (file ∷ []) last bytes = refl
with_bytes-push (file ∷ next ∷ files) last bytes = ap (λ (fs : List SavedFile). file ∷ fs) (with_bytes-push (next ∷ files) last bytes)

get_behind : (files : List SavedFile) (last : SavedFile) (more : List SavedFile) → slice_get (files ++ last ∷ more) (length files) ≡ Some last
get_behind [] last more = refl
get_behind (file ∷ files) last more = get_behind files last more

-- the one that was added last is the last
pub last_of-push : (files : List SavedFile) (last : SavedFile) → last_of (files ++ last ∷ []) ≡ Some last
last_of-push files last =
    let len : length (files ++ last ∷ []) ≡ length files + 1 = length-append files (last ∷ []) in
    let at : length (files ++ last ∷ []) - 1 ≡ length files = omega (arith, len) in
    ap (slice_get (files ++ last ∷ [])) at ∙ get_behind files last []
