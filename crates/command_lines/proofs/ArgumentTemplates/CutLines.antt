-- A line is cut into its items by the rules, and into no others.
use Rattle.std.proofs.Common.{◌≡◌, ◌≢◌, ℕ, suc, ◌+◌, eqb, cond, Bool, true, false, List, [], ◌∷◌, ◌++◌, length, refl, ap, sym, subst, ◌∙◌, add-zero, arith}
use Rattle.std.proofs.lemmas.Bool.{eq-eqb, ne_eqb}
use Rattle.std.proofs.lemmas.Bool.Decides.{nat_tests}
use Rattle.command_lines.specs.declared.argument_templates.items.Item.{Item}
use Rattle.command_lines.specs.declared.argument_templates.items.Form.TheVariants.{Word, Quoted, Open}
use Rattle.command_lines.specs.ArgumentTemplates.Cut.{Cut, IsFreeOf, MayEnd}
use Rattle.command_lines.specs.ArgumentTemplates.Cut.Cut.{at_end, space, word, quoted, unclosed}
use Rattle.command_lines.specs.ArgumentTemplates.Line.{item, items, items_in}
use Rattle.command_lines.specs.ArgumentTemplates.Line.Place.{between, in_word, in_quotes}

-- one byte more at the front of a text
pub behind : (at k : ℕ) → at + suc k ≡ at + 1 + k
behind at k = omega arith

-- ---- the items are cut by the rules

-- the rest of a word, from a place on
record WordCut (from at : ℕ) (cs : List ℕ) : Type 0 where
  text : List ℕ
  rest : List ℕ
  more : List Item
  is : cs ≡ text ++ rest
  free : IsFreeOf 32 text
  ends : MayEnd rest
  cuts : items_in (in_word from) at cs ≡ item Word from (at + length text) ∷ more
  cut : Cut (at + length text) rest more

-- what follows a quote, up to the next, or to the line's end
data QuotesCut (from at : ℕ) (cs : List ℕ) : Type 0 where
  Closed : (text rest : List ℕ) (more : List Item) → cs ≡ text ++ 34 ∷ rest → IsFreeOf 34 text →
      items_in (in_quotes from) at cs ≡ item Quoted from (at + length text) ∷ more → Cut (at + length text + 1) rest more → QuotesCut from at cs
  Unclosed : IsFreeOf 34 cs → items_in (in_quotes from) at cs ≡ item Open from (at + length cs) ∷ [] → QuotesCut from at cs

-- the bytes from a place on, wherever they are
record Cuts (at : ℕ) (cs : List ℕ) : Type 0 where
  cut : Cut at cs (items_in between at cs)
  word_cut : (from : ℕ) → WordCut from at cs
  quotes_cut : (from : ℕ) → QuotesCut from at cs

module _ (at c : ℕ) (cs : List ℕ) (next : Cuts (at + 1) cs) where
  spaced : c ≡ 32 → Cut at (c ∷ cs) (items_in between (at + 1) cs)
  spaced is = subst (λ z. Cut at (z ∷ cs) (items_in between (at + 1) cs)) (sym is) (space next.cut)

  quotes-begun : QuotesCut (at + 1) (at + 1) cs → Cut at (34 ∷ cs) (items_in (in_quotes (at + 1)) (at + 1) cs)
  quotes-begun (Closed text rest more is free cuts cut) =
      subst (λ z. Cut at (34 ∷ cs) z) (sym cuts)
      (subst (λ z. Cut at (34 ∷ z) (item Quoted (at + 1) (at + 1 + length text) ∷ more)) (sym is) (quoted text free cut))
  quotes-begun (Unclosed free cuts) = subst (λ z. Cut at (34 ∷ cs) z) (sym cuts) (unclosed free)

  word-begun : c ≢ 32 → c ≢ 34 → WordCut at (at + 1) cs → Cut at (c ∷ cs) (items_in (in_word at) (at + 1) cs)
  word-begun no_space no_quote w =
      subst (λ z. Cut at (c ∷ cs) z) (sym w.cuts)
      (subst (λ z. Cut at (c ∷ z) (item Word at (at + 1 + length w.text) ∷ w.more)) (sym w.is) (word w.text no_space no_quote w.free w.ends w.cut))

  cut-step : (b d : Bool) → eqb c 32 ≡ b → eqb c 34 ≡ d →
      Cut at (c ∷ cs) (cond b (items_in between (at + 1) cs) (cond d (items_in (in_quotes (at + 1)) (at + 1) cs) (items_in (in_word at) (at + 1) cs)))
  cut-step true d e f = let is : c ≡ 32 = grind (arith, nat_tests) in spaced is
  cut-step false true e f =
      let is : c ≡ 34 = grind (arith, nat_tests) in
      subst (λ z. Cut at (z ∷ cs) (items_in (in_quotes (at + 1)) (at + 1) cs)) (sym is) (quotes-begun (next.quotes_cut (at + 1)))
  cut-step false false e f =
      let no_space : c ≢ 32 = grind (arith, nat_tests) in
      let no_quote : c ≢ 34 = grind (arith, nat_tests) in
      word-begun no_space no_quote (next.word_cut at)

  word-step : (from : ℕ) (b : Bool) → eqb c 32 ≡ b → WordCut from at (c ∷ cs)
  word-step from true e =
      let is : c ≡ 32 = grind (arith, nat_tests) in
      record {
        text = [];
        rest = c ∷ cs;
        more = items_in between (at + 1) cs;
        is = refl;
        free = tt;
        ends = is;
        cuts = rw (e, add-zero) refl;
        cut = subst (λ z. Cut z (c ∷ cs) (items_in between (at + 1) cs)) (sym (add-zero at)) (spaced is);
      }
  word-step from false e =
      let no_space : c ≢ 32 = grind (arith, nat_tests) in
      let w = next.word_cut from in
      record {
        text = c ∷ w.text;
        rest = w.rest;
        more = w.more;
        is = ap (λ z. c ∷ z) w.is;
        free = (no_space, w.free);
        ends = w.ends;
        cuts = rw (e, behind at (length w.text)) w.cuts;
        cut = subst (λ z. Cut z w.rest w.more) (sym (behind at (length w.text))) w.cut;
      }

  quotes-on : (from : ℕ) → eqb c 34 ≡ false → c ≢ 34 → QuotesCut from (at + 1) cs → QuotesCut from at (c ∷ cs)
  quotes-on from e no_quote (Closed text rest more is free cuts cut) =
      Closed (c ∷ text) rest more (ap (λ z. c ∷ z) is) (no_quote, free) (rw (e, behind at (length text)) cuts)
      (subst (λ z. Cut (z + 1) rest more) (sym (behind at (length text))) cut)
  quotes-on from e no_quote (Unclosed free cuts) = Unclosed (no_quote, free) (rw (e, behind at (length cs)) cuts)

  quotes-step : (from : ℕ) (b : Bool) → eqb c 34 ≡ b → QuotesCut from at (c ∷ cs)
  quotes-step from true e =
      let is : c ≡ 34 = grind (arith, nat_tests) in
      Closed [] cs (items_in between (at + 1) cs) (ap (λ z. z ∷ cs) is) tt (rw (e, add-zero) refl)
      (subst (λ z. Cut (z + 1) cs (items_in between (at + 1) cs)) (sym (add-zero at)) next.cut)
  quotes-step from false e = let no_quote : c ≢ 34 = grind (arith, nat_tests) in quotes-on from e no_quote (next.quotes_cut from)

cuts-of : (cs : List ℕ) (at : ℕ) → Cuts at cs
cuts-of [] at = record {
  cut = at_end;
  word_cut = λ from. record {
    text = [];
    rest = [];
    more = [];
    is = refl;
    free = tt;
    ends = tt;
    cuts = rw add-zero refl;
    cut = at_end;
  };
  quotes_cut = λ from. Unclosed tt (rw add-zero refl);
}
cuts-of (c ∷ cs) at = record {
  cut = cut-step at c cs (cuts-of cs (at + 1)) (eqb c 32) (eqb c 34) refl refl;
  word_cut = λ from. word-step at c cs (cuts-of cs (at + 1)) from (eqb c 32) refl;
  quotes_cut = λ from. quotes-step at c cs (cuts-of cs (at + 1)) from (eqb c 34) refl;
}

pub items-cut : (line : List ℕ) → Cut 0 line (items line)
items-cut line = (cuts-of line 0).cut

-- ---- what the rules cut are the items

word-text : (from at : ℕ) (text rest : List ℕ) → IsFreeOf 32 text → MayEnd rest →
    items_in (in_word from) at (text ++ rest) ≡ item Word from (at + length text) ∷ items_in between (at + length text) rest
word-text from at [] [] free ends = rw add-zero refl
word-text from at [] (c ∷ rest) free ends = let e = eq-eqb c 32 ends in rw (e, add-zero) refl
word-text from at (c ∷ text) rest free ends = rw (ne_eqb c 32 free.0, behind at (length text)) (word-text from (at + 1) text rest free.1 ends)

quoted-text : (from at : ℕ) (text rest : List ℕ) → IsFreeOf 34 text →
    items_in (in_quotes from) at (text ++ 34 ∷ rest) ≡ item Quoted from (at + length text) ∷ items_in between (at + length text + 1) rest
quoted-text from at [] rest free = rw add-zero refl
quoted-text from at (c ∷ text) rest free = rw (ne_eqb c 34 free.0, behind at (length text)) (quoted-text from (at + 1) text rest free.1)

unclosed-text : (from at : ℕ) (text : List ℕ) → IsFreeOf 34 text → items_in (in_quotes from) at text ≡ item Open from (at + length text) ∷ []
unclosed-text from at [] free = rw add-zero refl
unclosed-text from at (c ∷ text) free = rw (ne_eqb c 34 free.0, behind at (length text)) (unclosed-text from (at + 1) text free.1)

cut-items : {at : ℕ} {bytes : List ℕ} {cut : List Item} → Cut at bytes cut → items_in between at bytes ≡ cut
cut-items at_end = refl
cut-items (space rest) = cut-items rest
cut-items (word {at} {first} text {rest} no_space no_quote free ends more) =
    rw (ne_eqb first 32 no_space, ne_eqb first 34 no_quote)
    (word-text at (at + 1) text rest free ends ∙ ap (λ z. item Word at (at + 1 + length text) ∷ z) (cut-items more))
cut-items (quoted {at} text {rest} free more) =
    quoted-text (at + 1) (at + 1) text rest free ∙ ap (λ z. item Quoted (at + 1) (at + 1 + length text) ∷ z) (cut-items more)
cut-items (unclosed {at} {text} free) = unclosed-text (at + 1) (at + 1) text free

pub items-complete : (line : List ℕ) (cut : List Item) → Cut 0 line cut → items line ≡ cut
items-complete line cut rules = cut-items rules
