-- Tokens that say an expression are worth what the expression is worth.
use Rattle.std.proofs.Common.{◌≡◌, ◌∙◌, ℕ, ℤ, pos, true, false, List, [], ◌∷◌, ◌++◌, Option, Result, Ok, Err, refl, sym, ap, append_assoc, append-nil}
use Rattle.module_text.specs.TextReader.Steps.{◌>>=◌}
use Rattle.lab_marks.specs.declared.arithmetic.By.{By}
use Rattle.lab_marks.specs.declared.arithmetic.By.TheVariants.{Times}
use Rattle.lab_marks.specs.declared.arithmetic.Sign.{Sign}
use Rattle.lab_marks.specs.declared.arithmetic.Sign.TheVariants.{Plus}
use Rattle.lab_marks.specs.declared.levels.Level.{Level}
use Rattle.lab_marks.specs.declared.tokens.Placed.{Placed}
use Rattle.lab_marks.specs.declared.tokens.Token.{Token}
use Rattle.lab_marks.specs.declared.tokens.Token.TheVariants.{Digits, Name, Open, Close, Sign as SignToken, By as ByToken, Other}
use Rattle.lab_marks.specs.declared.wrongs.Wrong.{Wrong}
use Rattle.lab_marks.specs.Arithmetic.{joined, made, number_worth, short}
use Rattle.lab_marks.specs.Known.{name_worth}
use Rattle.lab_marks.specs.Expressions.{value_after, value_of}
use Rattle.lab_marks.specs.Grammar.{AsFactor, AsProduct, AsSum, Expression, Number, Named, Enclosed, Product, Sum, IsEnclosed, IsJoined, IsOne, Say, worth}
use Rattle.lab_marks.specs.Levels.{start, total, with_factor, with_sign}
use Rattle.lab_marks.specs.Tokens.{tokens_of}
use Rattle.lab_marks.proofs.ShortValues.{IsShort, joined-IsShort, one-times, worth-IsShort, zero-plus}

-- steps one after another, in either grouping
bind-bind : {A B C : Type 0} (m : Result A Wrong) (f : A → Result B Wrong) (g : B → Result C Wrong) → ((m >>= f) >>= g) ≡ (m >>= (λ x. f x >>= g))
bind-bind (Ok x) f g = refl
bind-bind (Err e) f g = refl

-- the next steps need to be the same for what came alone
bind-same : {A B : Type 0} (m : Result A Wrong) (f g : A → Result B Wrong) → ((x : A) → m ≡ Ok x → f x ≡ g x) → (m >>= f) ≡ (m >>= g)
bind-same (Ok x) f g h = h x refl
bind-same (Err e) f g h = refl

-- a product of no factors, with a factor
one-factor : (sum : ℤ) (sign : Sign) (v : ℤ) → short v ≡ Ok v → with_factor (record { sum = sum; sign = sign; product = pos 1; by = Times }) v ≡ Ok (record { sum = sum; sign = sign; product = v; by = Times })
one-factor sum sign v is = rw (one-times v, is) refl

-- a sum of no products, with a product
one-product : (v : ℤ) → short v ≡ Ok v → total (record { sum = pos 0; sign = Plus; product = v; by = Times }) ≡ Ok v
one-product v is = rw (zero-plus v, is) refl

-- a sum ends at this token, where these sums are around it
abbrev pub EndsAt : Token → List Level → Type 0
EndsAt (SignToken sign) outer = Unit {0}
EndsAt Close (around ∷ outer) = Unit {0}
EndsAt token outer = ⊥

-- a sum ends before these tokens
abbrev pub EndsBefore : List Placed → List Level → Type 0
EndsBefore [] [] = Unit {0}
EndsBefore [] (around ∷ outer) = ⊥
EndsBefore (p ∷ others) outer = EndsAt p.token outer

bind-Ok : {A : Type 0} (m : Result A Wrong) → (m >>= (λ x. Ok x)) ≡ m
bind-Ok (Ok x) = refl
bind-Ok (Err e) = refl

module _ (known : List ℕ → Option ℤ) (text : List ℕ) where
  -- a factor is due
  abbrev pub due : Level → List Level → List Placed → Result ℤ Wrong
  due level outer tokens = value_after known text (record { level = level; outer = outer; due = true }) tokens

  -- a factor is read
  abbrev pub read : Level → List Level → List Placed → Result ℤ Wrong
  read level outer tokens = value_after known text (record { level = level; outer = outer; due = false }) tokens

  -- a sum so far, and a product that is taken into it
  abbrev pub so_far : ℤ → Sign → ℤ → Level
  so_far sum sign product = record { sum = sum; sign = sign; product = product; by = Times }

  -- these tokens say a factor of this worth
  abbrev pub IsFactorOf : Result ℤ Wrong → List Placed → Type 0
  IsFactorOf worth tokens = (level : Level) (outer : List Level) (rest : List Placed)
      → due level outer (tokens ++ rest) ≡ (worth >>= (λ v. with_factor level v >>= (λ level. read level outer rest)))

  -- they say a product of this worth
  abbrev pub IsProductOf : Result ℤ Wrong → List Placed → Type 0
  IsProductOf worth tokens = (sum : ℤ) (sign : Sign) (outer : List Level) (rest : List Placed)
      → due (so_far sum sign (pos 1)) outer (tokens ++ rest) ≡ (worth >>= (λ v. read (so_far sum sign v) outer rest))

  -- they say a sum of this worth
  abbrev pub IsSumOf : Result ℤ Wrong → List Placed → Type 0
  IsSumOf worth tokens = (outer : List Level) (rest : List Placed) → EndsBefore rest outer
      → due start outer (tokens ++ rest) ≡ (worth >>= (λ v. read (so_far (pos 0) Plus v) outer rest))

  -- a factor alone is a product
  product-of_factor : (worth : Result ℤ Wrong) (tokens : List Placed) → IsShort worth → IsFactorOf worth tokens → IsProductOf worth tokens
  product-of_factor worth tokens is_short factor sum sign outer rest =
      factor (so_far sum sign (pos 1)) outer rest
      ∙ bind-same worth _ _ (λ v e. ap (λ m. m >>= (λ level. read level outer rest)) (one-factor sum sign v (is_short v e)))

  -- a product alone is a sum
  sum-of_product : (worth : Result ℤ Wrong) (tokens : List Placed) → IsProductOf worth tokens → IsSumOf worth tokens
  sum-of_product worth tokens product outer rest ends = product (pos 0) Plus outer rest

  -- a number or a name
  factor-of_one : (token : Token) (worth : Result ℤ Wrong) (tokens : List Placed)
      → ((level : Level) (outer : List Level) (p : Placed) (others : List Placed) → p.token ≡ token
      → due level outer (p ∷ others) ≡ (worth >>= (λ v. with_factor level v >>= (λ level. read level outer others))))
      → IsOne token tokens → IsFactorOf worth tokens
  factor-of_one token worth tokens reads one level outer rest = rw one.1 (reads level outer one.0 rest one.2)

  reads-digits : (digits : List ℕ) (level : Level) (outer : List Level) (p : Placed) (others : List Placed) → p.token ≡ Digits digits
      → due level outer (p ∷ others) ≡ (number_worth digits >>= (λ v. with_factor level v >>= (λ level. read level outer others)))
  reads-digits digits level outer p others is =
      rw is (bind-bind (number_worth digits) _ _ ∙ bind-same (number_worth digits) _ _ (λ v e. bind-bind (with_factor level v) _ _))

  reads-name : (name : List ℕ) (level : Level) (outer : List Level) (p : Placed) (others : List Placed) → p.token ≡ Name name
      → due level outer (p ∷ others) ≡ (name_worth known name >>= (λ v. with_factor level v >>= (λ level. read level outer others)))
  reads-name name level outer p others is =
      rw is (bind-bind (name_worth known name) _ _ ∙ bind-same (name_worth known name) _ _ (λ v e. bind-bind (with_factor level v) _ _))

  -- a `)` after a sum
  reads-close : (v : ℤ) (level : Level) (outer : List Level) (p : Placed) (others : List Placed) → short v ≡ Ok v → p.token ≡ Close
      → read (so_far (pos 0) Plus v) (level ∷ outer) (p ∷ others) ≡ (with_factor level v >>= (λ level. read level outer others))
  reads-close v level outer p others is_short is = rw is (rw (one-product v is_short) (bind-bind (with_factor level v) _ _))

  -- a `+` or a `-` after a sum
  reads-sign : (v : ℤ) (sign : Sign) (outer : List Level) (p : Placed) (others : List Placed) → short v ≡ Ok v → p.token ≡ SignToken sign
      → read (so_far (pos 0) Plus v) outer (p ∷ others) ≡ due (so_far v sign (pos 1)) outer others
  reads-sign v sign outer p others is_short is = rw is (rw (one-product v is_short) refl)

  -- where a sum ends, what counts is what it is worth
  ends-at : (token : Token) (level : Level) (outer : List Level) (p : Placed) (others : List Placed) → p.token ≡ token → EndsAt token outer
      → read level outer (p ∷ others) ≡ (total level >>= (λ v. read (so_far (pos 0) Plus v) outer (p ∷ others)))
  ends-at (SignToken sign) level outer p others is ends =
      sym (bind-same (total level) _ _ (λ v e. reads-sign v sign outer p others (joined-IsShort level.sign level.sum level.product v e) is)
      ∙ rw is (sym (bind-bind (with_sign level sign) _ _ ∙ bind-bind (total level) _ _)))
  ends-at Close level (around ∷ outer) p others is ends =
      sym (bind-same (total level) _ _ (λ v e. reads-close v around outer p others (joined-IsShort level.sign level.sum level.product v e) is)
      ∙ rw is (sym (bind-bind (total level) _ _ ∙ bind-same (total level) _ _ (λ v e. bind-bind (with_factor around v) _ _))))
  ends-at Close level [] p others is ends = absurd ends
  ends-at (Digits digits) level outer p others is ends = absurd ends
  ends-at (Name name) level outer p others is ends = absurd ends
  ends-at Open level outer p others is ends = absurd ends
  ends-at (ByToken by) level outer p others is ends = absurd ends
  ends-at Other level outer p others is ends = absurd ends

  ends-before : (level : Level) (rest : List Placed) (outer : List Level) → EndsBefore rest outer
      → read level outer rest ≡ (total level >>= (λ v. read (so_far (pos 0) Plus v) outer rest))
  ends-before level [] [] ends =
      sym (bind-same (total level) _ (λ v. Ok v) (λ v e. one-product v (joined-IsShort level.sign level.sum level.product v e)) ∙ bind-Ok (total level))
  ends-before level [] (around ∷ outer) ends = absurd ends
  ends-before level (p ∷ others) outer ends = ends-at p.token level outer p others refl ends

  -- one in parentheses
  factor-of_enclosed : (worth : Result ℤ Wrong) (first last : Placed) (inner tokens : List Placed) → IsShort worth → tokens ≡ first ∷ (inner ++ last ∷ [])
      → first.token ≡ Open → last.token ≡ Close → IsSumOf worth inner → IsFactorOf worth tokens
  factor-of_enclosed worth first last inner tokens is_short is opens closes sum level outer rest =
      let ends : EndsBefore (last ∷ rest) (level ∷ outer) = rw closes tt in
      rw (is, opens, append_assoc inner (last ∷ []) rest)
      (sum (level ∷ outer) (last ∷ rest) ends ∙ bind-same worth _ _ (λ v e. reads-close v level outer last rest (is_short v e) closes))

  -- a product with a factor
  product-of_both : (by : By) (one two : Result ℤ Wrong) (before after tokens : List Placed) (p : Placed) → tokens ≡ before ++ p ∷ after → p.token ≡ ByToken by
      → IsProductOf one before → IsFactorOf two after → IsProductOf (one >>= (λ x. two >>= (λ y. made by x y))) tokens
  product-of_both by one two before after tokens p is token left right sum sign outer rest =
      rw (is, append_assoc before (p ∷ after) rest)
      (left sum sign outer (p ∷ (after ++ rest))
      ∙ bind-same one _ _ (λ x e. rw token (right (record { sum = sum; sign = sign; product = x; by = by }) outer rest
      ∙ bind-same two _ _ (λ y e. bind-bind (made by x y) _ _) ∙ sym (bind-bind two _ _)))
      ∙ sym (bind-bind one _ _))

  -- a sum with a product
  sum-of_both : (sign : Sign) (one two : Result ℤ Wrong) (before after tokens : List Placed) (p : Placed) → IsShort one → tokens ≡ before ++ p ∷ after → p.token ≡ SignToken sign
      → IsSumOf one before → IsProductOf two after → IsSumOf (one >>= (λ x. two >>= (λ y. joined sign x y))) tokens
  sum-of_both sign one two before after tokens p is_short is token left right outer rest ends =
      let here : EndsBefore (p ∷ (after ++ rest)) outer = rw token tt in
      rw (is, append_assoc before (p ∷ after) rest)
      (left outer (p ∷ (after ++ rest)) here
      ∙ bind-same one _ _ (λ x e. reads-sign x sign outer p (after ++ rest) (is_short x e) token ∙ right x sign outer rest
      ∙ bind-same two _ _ (λ y e. ends-before (so_far x sign y) rest outer ends) ∙ sym (bind-bind two _ _))
      ∙ sym (bind-bind one _ _))

  -- tokens that say an expression, wherever it stands, are of its worth
  abbrev pub IsRead : Expression → Type 0
  IsRead e =
      ((tokens : List Placed) → Say AsFactor e tokens → IsFactorOf (worth known e) tokens)
      × ((tokens : List Placed) → Say AsProduct e tokens → IsProductOf (worth known e) tokens)
      × ((tokens : List Placed) → Say AsSum e tokens → IsSumOf (worth known e) tokens)

  pub all-read : (e : Expression) → IsRead e
  all-read (Number digits) =
      let factor = λ (tokens : List Placed) (says : IsOne (Digits digits) tokens). factor-of_one (Digits digits) (number_worth digits) tokens (reads-digits digits) says in (
        factor,
        λ tokens says. product-of_factor _ tokens (worth-IsShort known (Number digits)) (factor tokens says),
        λ tokens says. sum-of_product _ tokens (product-of_factor _ tokens (worth-IsShort known (Number digits)) (factor tokens says)),
      )
  all-read (Named name) =
      let factor = λ (tokens : List Placed) (says : IsOne (Name name) tokens). factor-of_one (Name name) (name_worth known name) tokens (reads-name name) says in (
        factor,
        λ tokens says. product-of_factor _ tokens (worth-IsShort known (Named name)) (factor tokens says),
        λ tokens says. sum-of_product _ tokens (product-of_factor _ tokens (worth-IsShort known (Named name)) (factor tokens says)),
      )
  all-read (Enclosed e) =
      let factor = λ (tokens : List Placed) (says : IsEnclosed (Say AsSum e) tokens).
      factor-of_enclosed (worth known e) says.0 says.2 says.1 tokens (worth-IsShort known e) says.3 says.4 says.5 ((all-read e).2 says.1 says.6) in (
        factor,
        λ tokens says. product-of_factor _ tokens (worth-IsShort known e) (factor tokens says),
        λ tokens says. sum-of_product _ tokens (product-of_factor _ tokens (worth-IsShort known e) (factor tokens says)),
      )
  all-read (Product by a b) =
      let product = λ (tokens : List Placed) (says : IsJoined (ByToken by) (Say AsProduct a) (Say AsFactor b) tokens).
      product-of_both by (worth known a) (worth known b) says.0 says.2 tokens says.1 says.3 says.4 ((all-read a).1 says.0 says.5) ((all-read b).0 says.2 says.6) in (
        λ tokens says. absurd says,
        product,
        λ tokens says. sum-of_product _ tokens (product tokens says),
      )
  all-read (Sum sign a b) = (
    λ tokens says. absurd says,
    λ tokens says. absurd says,
    λ tokens says. sum-of_both sign (worth known a) (worth known b) says.0 says.2 tokens says.1 (worth-IsShort known a) says.3 says.4 ((all-read a).2 says.0 says.5) ((all-read b).1 says.2 says.6),
  )

  -- a text whose tokens say an expression is worth what the expression is worth
  pub said-worth : (e : Expression) → Say AsSum e (tokens_of text) → value_of known text ≡ worth known e
  said-worth e says =
      ap (due start []) (sym (append-nil (tokens_of text)))
      ∙ (all-read e).2 (tokens_of text) says [] [] tt
      ∙ bind-same (worth known e) _ (λ v. Ok v) (λ v is. one-product v (worth-IsShort known e v is))
      ∙ bind-Ok (worth known e)
