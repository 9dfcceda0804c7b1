-- Text that is added to a file.
use Rattle.std.proofs.Common.{◌≡◌, ℕ, List, [], ◌∷◌, ◌++◌, refl, ap}
use Rattle.session_text.specs.FileText.{line_with_text, with_text}
use Rattle.session_text.specs.declared.sessions.SessionLine.{SessionLine}

-- it goes to the last line
pub with_text-push : (lines : List SessionLine) (last : SessionLine) (text : List ℕ) → with_text (lines ++ last ∷ []) text ≡ lines ++ line_with_text last text ∷ []
with_text-push [] last text = refl
with_text-push (line ∷ []) last text = refl
with_text-push (line ∷ next ∷ lines) last text = ap (λ (ls : List SessionLine). line ∷ ls) (with_text-push (next ∷ lines) last text)
