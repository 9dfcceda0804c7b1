-- The fields of a text, one after another.
use Rattle.std.proofs.Common.{◌≡◌, ◌∙◌, ℕ, ◌+◌, ◌<◌, ◌≤◌, ◌==◌, Bool, true, false, cond, Option, Some, None, List, [], ◌∷◌, ◌++◌, length, take, drop, nat_lt, refl, sym, ap, append_assoc, arith}
use Rattle.std.specs.Prelude.{option_map}
use Rattle.std.specs.List.{list_all, position_or_len}
use Rattle.std.proofs.lemmas.Bool.Decides.{nat_tests}
use Rattle.std.proofs.lemmas.List.Elements.{All-from_get_or}
use Rattle.std.proofs.lemmas.List.Splits.{slice_split_first, slice_split_none}
use Rattle.std.proofs.lemmas.List.Sums.{fails_before_first}
use Rattle.std.proofs.lemmas.Option.{cond_some}
use Rattle.ram_disc.specs.Name.{is_name}
use Rattle.session_text.specs.Statements.{fields, split_at_blank}

abbrev blank : ℕ → Bool
blank c = c == 32

-- a text, cut at a place
abbrev cut : List ℕ → Option ℕ → Option (List ℕ × List ℕ)
cut text place = option_map (λ k. (take k text, drop (k + 1) text)) place

-- a place that was found
pub place_is : (text : List ℕ) (i : ℕ) (b : Bool) (x : List ℕ × List ℕ) → nat_lt i (length text) ≡ b
    → cut text (cond b (Some i) None) ≡ Some x → (i < length text) × ((take i text, drop (i + 1) text) ≡ x)
place_is text i true x e h = (grind (arith, nat_tests), cc)
place_is text i false x e h = cc h

-- and one that was not
no_place_is : (text : List ℕ) (i : ℕ) (b : Bool) → nat_lt i (length text) ≡ b
    → cut text (cond b (Some i) None) ≡ None → length text ≤ i
no_place_is text i true e h = cc h
no_place_is text i false e h = grind (arith, nat_tests)

-- the first field, and those after the blank behind it
pub fields-split : (text : List ℕ) (x : List ℕ × List ℕ) → split_at_blank text ≡ Some x → fields text ≡ x.0 ∷ fields x.1
fields-split text x e =
    let i = position_or_len blank text in
    let p = place_is text i (nat_lt i (length text)) x refl e in
    slice_split_first blank text 0 p.0 ∙ ap (λ (y : List ℕ × List ℕ). y.0 ∷ fields y.1) p.1

-- a text without a blank is one field
pub fields-whole : (text : List ℕ) → split_at_blank text ≡ None → fields text ≡ text ∷ []
fields-whole text e =
    let i = position_or_len blank text in
    let past : length text ≤ i = no_place_is text i (nat_lt i (length text)) refl e in
    slice_split_none blank text (All-from_get_or (λ c. blank c ≡ false) text 0 (λ k lt. fails_before_first blank text k 0 (omega arith)))

-- ---- names, one after another

-- names, where all are
abbrev pub checked : List (List ℕ) → Option (List (List ℕ))
checked parts = cond (list_all is_name parts) (Some parts) None

-- names that were read, and those after them
abbrev pub after_names : List (List ℕ) → List (List ℕ) → Option (List (List ℕ))
after_names names parts = option_map (λ more. names ++ more) (checked parts)

none_is : (b : Bool) (x : List ℕ) → None ≡ cond b (Some x) None → b ≡ false
none_is true x e = cc e
none_is false x e = refl

more_by : (b : Bool) (names parts : List (List ℕ)) (first : List ℕ)
    → option_map (λ more. names ++ more) (cond b (Some (first ∷ parts)) None) ≡ option_map (λ more. (names ++ first ∷ []) ++ more) (cond b (Some parts) None)
more_by true names parts first = ap (λ (ls : List (List ℕ)). Some ls) (sym (append_assoc names (first ∷ []) parts))
more_by false names parts first = refl

-- one name more
pub names-more : (names : List (List ℕ)) (all : Option (List (List ℕ))) (rest first others name : List ℕ) → Some (first, others) ≡ split_at_blank rest
    → Some name ≡ cond (is_name first) (Some first) None → after_names names (fields rest) ≡ all → after_names (names ++ name ∷ []) (fields others) ≡ all
names-more names all rest first others name e h before =
    let p = cond_some (is_name first) first name (sym h) in
    let parts : fields rest ≡ first ∷ fields others = fields-split rest (first, others) (sym e) in
    let one : after_names names (first ∷ fields others) ≡ after_names (names ++ first ∷ []) (fields others) = rw p.0 (more_by (list_all is_name (fields others)) names (fields others) first) in
    ap (λ (y : List ℕ). after_names (names ++ y ∷ []) (fields others)) (sym p.1) ∙ sym one ∙ ap (after_names names) (sym parts) ∙ before

-- a field that is no name
pub names-none : (names : List (List ℕ)) (all : Option (List (List ℕ))) (rest first others : List ℕ) → Some (first, others) ≡ split_at_blank rest
    → None ≡ cond (is_name first) (Some first) None → after_names names (fields rest) ≡ all → None ≡ all
names-none names all rest first others e h before =
    let bad = none_is (is_name first) first h in
    let parts : fields rest ≡ first ∷ fields others = fields-split rest (first, others) (sym e) in
    let one : after_names names (first ∷ fields others) ≡ None = rw bad refl in
    sym one ∙ ap (after_names names) (sym parts) ∙ before

-- the last name
pub names-last : (names : List (List ℕ)) (all : Option (List (List ℕ))) (rest name : List ℕ) → None ≡ split_at_blank rest
    → Some name ≡ cond (is_name rest) (Some rest) None → after_names names (fields rest) ≡ all → Some (names ++ name ∷ []) ≡ all
names-last names all rest name e h before =
    let p = cond_some (is_name rest) rest name (sym h) in
    let parts : fields rest ≡ rest ∷ [] = fields-whole rest (sym e) in
    let one : after_names names (rest ∷ []) ≡ Some (names ++ rest ∷ []) = rw p.0 refl in
    ap (λ (y : List ℕ). Some (names ++ y ∷ [])) (sym p.1) ∙ sym one ∙ ap (after_names names) (sym parts) ∙ before

-- a last field that is no name
pub names-none_last : (names : List (List ℕ)) (all : Option (List (List ℕ))) (rest : List ℕ) → None ≡ split_at_blank rest
    → None ≡ cond (is_name rest) (Some rest) None → after_names names (fields rest) ≡ all → None ≡ all
names-none_last names all rest e h before =
    let bad = none_is (is_name rest) rest h in
    let parts : fields rest ≡ rest ∷ [] = fields-whole rest (sym e) in
    let one : after_names names (rest ∷ []) ≡ None = rw bad refl in
    sym one ∙ ap (after_names names) (sym parts) ∙ before
