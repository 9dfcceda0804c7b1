-- Where items begin and end.
use Rattle.std.proofs.Common.{◌≡◌, ℕ, suc, ◌+◌, ◌<◌, ◌≤◌, ◌==◌, eqb, Bool, true, false, not, List, [], ◌∷◌, length, get_or, drop, refl, arith, add-one, add-zero}
use Rattle.std.specs.List.{position_or_len}
use Rattle.std.proofs.lemmas.Bool.Decides.{nat_tests}
use Rattle.std.proofs.Math.Seq.{drop-cons}
use Rattle.std.proofs.lemmas.List.{drop-drop, drop_all, get_or-drop, length-drop}
use Rattle.std.proofs.lemmas.List.Sums.{passes_at_first}
use Rattle.command_lines.specs.declared.argument_templates.items.Form.TheVariants.{Word, Quoted, Open}
use Rattle.command_lines.specs.ArgumentTemplates.Line.{item, items_from, items_in}
use Rattle.command_lines.specs.ArgumentTemplates.Line.Place.{between, in_word, in_quotes}
use Rattle.std.proofs.lemmas.Bool.{not-true}
use Rattle.command_lines.proofs.ArgumentTemplates.CutLines.{behind as passed-place}

passed-length : (k : ℕ) → 1 + k ≡ suc k
passed-length k = omega arith

-- spaces before an item are no part of it
abbrev spaces : List ℕ → ℕ
spaces cs = position_or_len (λ c. not (c == 32)) cs

spaces-step : (b : Bool) (at c : ℕ) (cs : List ℕ) → eqb c 32 ≡ b →
    items_in between (at + 1) cs ≡ items_in between (at + 1 + spaces cs) (drop (spaces cs) cs) →
    items_in between at (c ∷ cs) ≡ items_in between (at + spaces (c ∷ cs)) (drop (spaces (c ∷ cs)) (c ∷ cs))
spaces-step true at c cs e more = rw (e, passed-length (spaces cs), passed-place at (spaces cs)) more
spaces-step false at c cs e more = rw (e, add-zero, e) refl

pub between-spaces : (at : ℕ) (cs : List ℕ) → items_in between at cs ≡ items_in between (at + spaces cs) (drop (spaces cs) cs)
between-spaces at [] = refl
between-spaces at (c ∷ cs) = spaces-step (eqb c 32) at c cs refl (between-spaces (at + 1) cs)

-- a word ends before a space, or with the line
abbrev letters : List ℕ → ℕ
letters cs = position_or_len (λ c. c == 32) cs

word-step : (b : Bool) (from at c : ℕ) (cs : List ℕ) → eqb c 32 ≡ b →
    items_in (in_word from) (at + 1) cs ≡ item Word from (at + 1 + letters cs) ∷ items_in between (at + 1 + letters cs) (drop (letters cs) cs) →
    items_in (in_word from) at (c ∷ cs) ≡ item Word from (at + letters (c ∷ cs)) ∷ items_in between (at + letters (c ∷ cs)) (drop (letters (c ∷ cs)) (c ∷ cs))
word-step true from at c cs e more = rw (e, add-zero, e) refl
word-step false from at c cs e more = rw (e, passed-length (letters cs), passed-place at (letters cs)) more

pub in_word-end : (from at : ℕ) (cs : List ℕ) →
    items_in (in_word from) at cs ≡ item Word from (at + letters cs) ∷ items_in between (at + letters cs) (drop (letters cs) cs)
in_word-end from at [] = rw add-zero refl
in_word-end from at (c ∷ cs) = word-step (eqb c 32) from at c cs refl (in_word-end from (at + 1) cs)

-- quotes that are closed
abbrev quoted : List ℕ → ℕ
quoted cs = position_or_len (λ c. c == 34) cs

quotes-step : (b : Bool) (from at c : ℕ) (cs : List ℕ) → eqb c 34 ≡ b →
    (quoted cs < length cs → items_in (in_quotes from) (at + 1) cs ≡ item Quoted from (at + 1 + quoted cs) ∷ items_in between (at + 1 + quoted cs + 1) (drop (quoted cs + 1) cs)) →
    quoted (c ∷ cs) < length (c ∷ cs) →
    items_in (in_quotes from) at (c ∷ cs) ≡ item Quoted from (at + quoted (c ∷ cs)) ∷ items_in between (at + quoted (c ∷ cs) + 1) (drop (quoted (c ∷ cs) + 1) (c ∷ cs))
quotes-step true from at c cs e more less = rw (e, add-zero) refl
quotes-step false from at c cs e more less =
    let lt : 1 + quoted cs < suc (length cs) = rw e at less in
    let behind : 1 + quoted cs + 1 ≡ suc (quoted cs + 1) = omega arith in
    rw (e, behind, passed-length (quoted cs), passed-place at (quoted cs)) (more (omega arith))

pub in_quotes-closed : (from at : ℕ) (cs : List ℕ) → quoted cs < length cs →
    items_in (in_quotes from) at cs ≡ item Quoted from (at + quoted cs) ∷ items_in between (at + quoted cs + 1) (drop (quoted cs + 1) cs)
in_quotes-closed from at [] h = absurd (omega arith)
in_quotes-closed from at (c ∷ cs) h = quotes-step (eqb c 34) from at c cs refl (in_quotes-closed from (at + 1) cs) h

-- and quotes that are not
pub in_quotes-open : (from at : ℕ) (cs : List ℕ) → length cs ≤ position_or_len (λ c. c == 34) cs →
    items_in (in_quotes from) at cs ≡ item Open from (at + length cs) ∷ []
in_quotes-open from at [] h = rw add-zero refl
in_quotes-open from at (c ∷ cs) h = let more = in_quotes-open from (at + 1) cs in grind arith

-- the same at a place of a line
module _ (line : List ℕ) (from to : ℕ) (inside : from ≤ length line) where
  pub open-at : to ≡ from + position_or_len (λ c. c == 34) (drop from line) → to ≡ length line →
      items_in (in_quotes from) from (drop from line) ≡ item Open from to ∷ items_from to (drop to line)
  open-at e all =
      let n = length-drop from line in
      let le : length (drop from line) ≤ position_or_len (λ c. c == 34) (drop from line) = omega arith in
      let end : from + length (drop from line) ≡ to = omega arith in
      let none = drop_all to line (omega arith) in
      rw (in_quotes-open from from (drop from line) le, end, none) refl

  pub closed-at : to ≡ from + position_or_len (λ c. c == 34) (drop from line) → to < length line →
      items_in (in_quotes from) from (drop from line) ≡ item Quoted from to ∷ items_from (to + 1) (drop (to + 1) line)
  closed-at e less =
      let n = length-drop from line in
      let lt : position_or_len (λ c. c == 34) (drop from line) < length (drop from line) = omega arith in
      let sum : from + (position_or_len (λ c. c == 34) (drop from line) + 1) ≡ to + 1 = omega arith in
      rw (in_quotes-closed from from (drop from line) lt, drop-drop, sum, ← e) refl

  pub word-at : (start : ℕ) → to ≡ from + position_or_len (λ c. c == 32) (drop from line) →
      items_in (in_word start) from (drop from line) ≡ item Word start to ∷ items_from to (drop to line)
  word-at start e = rw (in_word-end start from (drop from line), drop-drop, ← e) refl

  pub between-at : to ≡ from + position_or_len (λ c. not (c == 32)) (drop from line) →
      items_from from (drop from line) ≡ items_from to (drop to line)
  between-at e = rw (between-spaces from (drop from line), drop-drop, ← e) refl

-- where an item begins
module _ (line : List ℕ) (at : ℕ) (inside : at < length line) where
  here : drop at line ≡ get_or line at 0 ∷ drop (at + 1) line
  here = rw add-one (drop-cons line at 0 inside)

  pub quote-at : get_or line at 0 ≡ 34 → items_from at (drop at line) ≡ items_in (in_quotes (at + 1)) (at + 1) (drop (at + 1) line)
  quote-at e = rw (here, e) refl

  pub start-at : eqb (get_or line at 0) 32 ≡ false → (get_or line at 0 ≡ 34 → ⊥) →
      items_from at (drop at line) ≡ items_in (in_word at) (at + 1) (drop (at + 1) line)
  start-at no_space not_34 =
      let no_quote : eqb (get_or line at 0) 34 ≡ false = grind (arith, nat_tests) in rw (here, no_space, no_quote) refl

-- the byte behind the spaces is none
pub no_space-behind : (line : List ℕ) (at to : ℕ) → to ≡ at + position_or_len (λ c. not (c == 32)) (drop at line) → to < length line →
    eqb (get_or line to 0) 32 ≡ false
no_space-behind line at to e less =
    let p : ℕ → Bool = λ c. not (c == 32) in
    let n = length-drop at line in
    let lt : position_or_len p (drop at line) < length (drop at line) = omega arith in
    let passes = passes_at_first p (drop at line) 0 lt in
    let same = get_or-drop at line (position_or_len p (drop at line)) 0 in
    let other : not (eqb (get_or line to 0) 32) ≡ true = rw (e, ← same) passes in
    not-true (eqb (get_or line to 0) 32) other
