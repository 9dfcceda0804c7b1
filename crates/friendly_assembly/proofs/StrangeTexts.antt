-- Strange characters, byte by byte.
use Rattle.std.proofs.Common.{◌≡◌, ℕ, ◌+◌, ◌<◌, List, ◌∷◌, None, length, get_or, drop, drop-cons, refl, add-one}
use Rattle.friendly_assembly.specs.StrangeBytes.{strange_character, strange_flaw}

step : (k c : ℕ) (cs xs : List ℕ) → xs ≡ c ∷ cs → strange_character xs ≡ None → strange_flaw (k + 1) cs ≡ strange_flaw k xs
step k c cs xs e h = let here : strange_character (c ∷ cs) ≡ None = rw e at h in rw (e, here) refl

-- where there is none at a place, the first one is after it
pub strange_next : (i : ℕ) (text : List ℕ) → i < length text → strange_character (drop i text) ≡ None
    → strange_flaw ((i + 1) + 1) (drop (i + 1) text) ≡ strange_flaw (i + 1) (drop i text)
strange_next i text lt h =
    let parts : drop i text ≡ get_or text i 0 ∷ drop (i + 1) text = rw (add-one i) (drop-cons text i 0 lt) in
    step (i + 1) (get_or text i 0) (drop (i + 1) text) (drop i text) parts h
