-- Texts that are drawn one after another, behind a text that was drawn.
use Rattle.std.proofs.Common.{◌≡◌, ◌∙◌, ℕ, ◌+◌, List, [], sym, ap, append_assoc, append-nil, add-one}
use Rattle.tripos_run.specs.SessionGenerator.Draws.{Drawn, Drawing, and_then, choosing, draw, in_turn, plain, with_next}

module _ (d : Drawn (List ℕ)) where
  pub with_next-nothing : d ≡ with_next d (plain [])
  with_next-nothing = ap (λ v. record { value = v; state = d.state }) (sym (append-nil d.value))

  pub with_next-then : (first last : Drawing (List ℕ)) → with_next (with_next d first) last ≡ with_next d (and_then first last)
  with_next-then first last =
      let drawn = first d.state in
      let behind = last drawn.state in
      ap (λ v. record { value = v; state = behind.state }) (append_assoc d.value drawn.value behind.value)

  pub with_next-none : (text : ℕ → Drawing (List ℕ)) → d ≡ with_next d (in_turn 0 text)
  unfolding in_turn
  with_next-none text = with_next-nothing

  pub with_next-more : (text : ℕ → Drawing (List ℕ)) (n : ℕ) → with_next (with_next d (in_turn n text)) (text n) ≡ with_next d (in_turn (n + 1) text)
  unfolding in_turn
  with_next-more text n = rw add-one (with_next-then (in_turn n text) (text n))

  -- one text more, in turn
  pub with_next-turn : (text : ℕ → Drawing (List ℕ)) (n : ℕ) {m e : Drawn (List ℕ)} → m ≡ with_next d (in_turn n text) → e ≡ with_next m (text n) → e ≡ with_next d (in_turn (n + 1) text)
  with_next-turn text n so_far last = last ∙ ap (λ v. with_next v (text n)) so_far ∙ with_next-more text n

  -- two texts, one after the other
  pub with_next-both : (a b : Drawing (List ℕ)) {m e : Drawn (List ℕ)} → m ≡ with_next d a → e ≡ with_next m b → e ≡ with_next d (and_then a b)
  with_next-both a b first last = last ∙ ap (λ v. with_next v b) first ∙ with_next-then a b

  -- the text that a number chooses
  pub with_next-chosen : (bound : ℕ) (choice : ℕ → Drawing (List ℕ)) (m : Drawn (List ℕ)) (r : ℕ) {e : Drawn (List ℕ)} → r ≡ (draw bound d.state).value → m.state ≡ (draw bound d.state).state → m.value ≡ d.value → e ≡ with_next m (choice r) → e ≡ with_next d (choosing (draw bound) choice)
  with_next-chosen bound choice m r number state value last =
      let is : m ≡ record { value = d.value; state = (draw bound d.state).state } = λ i. record { value = value i; state = state i } in
      last ∙ ap (λ v. with_next v (choice r)) is ∙ ap (λ v. with_next (record { value = d.value; state = (draw bound d.state).state }) (choice v)) number
