-- A text that is worth something says an expression.
use Rattle.std.proofs.Common.{◌≡◌, ◌⊎◌, inl, inr, ℕ, ℤ, Bool, true, false, List, [], ◌∷◌, ◌++◌, Option, Result, Ok, Err, refl, sym, subst, append_assoc, append-nil}
use Rattle.module_text.specs.TextReader.Steps.{◌>>=◌}
use Rattle.lab_marks.specs.declared.arithmetic.By.{By}
use Rattle.lab_marks.specs.declared.arithmetic.Sign.{Sign}
use Rattle.lab_marks.specs.declared.levels.Level.{Level}
use Rattle.lab_marks.specs.declared.tokens.Placed.{Placed}
use Rattle.lab_marks.specs.declared.tokens.Token.{Token}
use Rattle.lab_marks.specs.declared.tokens.Token.TheVariants.{Digits, Name, Open, Close, Sign as SignToken, By as ByToken, Other}
use Rattle.lab_marks.specs.declared.wrongs.Wrong.{Wrong}
use Rattle.lab_marks.specs.Arithmetic.{number_worth}
use Rattle.lab_marks.specs.Expressions.{Reading, beginning, closed, ended, value_after, value_of, with_operand, with_operator, with_token, with_value}
use Rattle.lab_marks.specs.Grammar.{AsFactor, AsProduct, AsSum, Expression, Number, Named, Enclosed, Product, Sum, Say}
use Rattle.lab_marks.specs.Known.{name_worth}
use Rattle.lab_marks.specs.Levels.{total, with_factor, with_sign}
use Rattle.lab_marks.specs.Tokens.{tokens_of}

-- steps that came to something: so did the first
bound-Ok : {A B : Type 0} (m : Result A Wrong) (f : A → Result B Wrong) (y : B) → (m >>= f) ≡ Ok y → (x : A) × (m ≡ Ok x) × (f x ≡ Ok y)
bound-Ok (Ok x) f y is = (x, refl, is)
bound-Ok (Err e) f y is = absurd (cc)

-- a sum with the sign after it
abbrev IsSumFront : List Placed → Type 0
IsSumFront tokens = (e : Expression) × (said : List Placed) × (p : Placed) × (sign : Sign) × (tokens ≡ said ++ p ∷ []) × (p.token ≡ SignToken sign) × Say AsSum e said

-- a product with the operator after it
abbrev IsProductFront : List Placed → Type 0
IsProductFront tokens = (e : Expression) × (said : List Placed) × (p : Placed) × (by : By) × (tokens ≡ said ++ p ∷ []) × (p.token ≡ ByToken by) × Say AsProduct e said

-- there are no tokens, or they are so
abbrev IsNoneOr : (List Placed → Type 0) → List Placed → Type 0
IsNoneOr P tokens = (tokens ≡ []) ⊎ P tokens

-- tokens after which a factor is due
abbrev Due : List Placed → Type 0
Due tokens = (a : List Placed) × (b : List Placed) × (tokens ≡ a ++ b) × IsNoneOr IsSumFront a × IsNoneOr IsProductFront b

-- tokens that end with a factor
abbrev Done : List Placed → Type 0
Done tokens = (e : Expression) × (a : List Placed) × (b : List Placed) × (tokens ≡ a ++ b) × IsNoneOr IsSumFront a × Say AsProduct e b

-- a factor alone is a product
factor-product : (e : Expression) (tokens : List Placed) → Say AsFactor e tokens → Say AsProduct e tokens
factor-product (Number digits) tokens says = says
factor-product (Named name) tokens says = says
factor-product (Enclosed e) tokens says = says
factor-product (Product by a b) tokens says = absurd says
factor-product (Sum sign a b) tokens says = absurd says

-- a product alone is a sum
product-sum : (e : Expression) (tokens : List Placed) → Say AsProduct e tokens → Say AsSum e tokens
product-sum (Number digits) tokens says = says
product-sum (Named name) tokens says = says
product-sum (Enclosed e) tokens says = says
product-sum (Product by a b) tokens says = says
product-sum (Sum sign a b) tokens says = absurd says

-- nothing is read yet
due-start : Due []
due-start = ([], [], refl, inl refl, inl refl)

-- a factor comes
done-factor : (e : Expression) (tokens factor : List Placed) → Due tokens → Say AsFactor e factor → Done (tokens ++ factor)
done-factor e tokens factor (a, b, is, front, inl none) says = (e, a, factor, rw (is, none, append-nil a) refl, front, factor-product e factor says)
done-factor e tokens factor (a, b, is, front, inr (e1, said, p, by, parts, token, says1)) says =
    (Product by e1 e, a, b ++ factor, rw (is, append_assoc a b factor) refl, front, (said, p, factor, rw (parts, append_assoc said (p ∷ []) factor) refl, token, says1, says))

-- an operator of a product comes
due-by : (by : By) (tokens : List Placed) (p : Placed) → p.token ≡ ByToken by → Done tokens → Due (tokens ++ p ∷ [])
due-by by tokens p token (e, a, b, is, front, says) = (a, b ++ p ∷ [], rw (is, append_assoc a b (p ∷ [])) refl, front, inr (e, b, p, by, refl, token, says))

-- what ends with a factor is a sum
done-sum : (tokens : List Placed) → Done tokens → (e : Expression) × Say AsSum e tokens
done-sum tokens (e, a, b, is, inl none, says) = let same : b ≡ tokens = sym (rw none at is) in (e, subst (λ (ts : List Placed). Say AsSum e ts) same (product-sum e b says))
done-sum tokens (e, a, b, is, inr (e1, said, p, sign, parts, token, says1), says) =
    (Sum sign e1 e, (said, p, b, rw (is, parts, append_assoc said (p ∷ []) b) refl, token, says1, says))

-- a sign comes
due-sign : (sign : Sign) (tokens : List Placed) (p : Placed) → p.token ≡ SignToken sign → Done tokens → Due (tokens ++ p ∷ [])
due-sign sign tokens p token done =
    let sum = done-sum tokens done in
    (tokens ++ p ∷ [], [], sym (append-nil (tokens ++ p ∷ [])), inr (sum.0, tokens, p, sign, refl, token, sum.1), inl refl)

-- the tokens of sums around, each up to its `(`
abbrev Around : List Level → List Placed → Type 0
Around [] tokens = tokens ≡ []
Around (level ∷ outer) tokens =
    (below : List Placed) × (here : List Placed) × (p : Placed) × (tokens ≡ (below ++ here) ++ p ∷ []) × (p.token ≡ Open) × Due here × Around outer below

-- the tokens of the sum that is read
abbrev At : Bool → List Placed → Type 0
At true tokens = Due tokens
At false tokens = Done tokens

-- what is read so far
abbrev IsReadTo : List Level → Bool → List Placed → Type 0
IsReadTo outer due tokens = (below : List Placed) × (here : List Placed) × (tokens ≡ below ++ here) × Around outer below × At due here

-- a factor comes next
next-factor : (e : Expression) (outer : List Level) (tokens factor : List Placed) → IsReadTo outer true tokens → Say AsFactor e factor → IsReadTo outer false (tokens ++ factor)
next-factor e outer tokens factor (below, here, is, around, due) says =
    (below, here ++ factor, rw (is, append_assoc below here factor) refl, around, done-factor e here factor due says)

-- a factor that has a worth
after_value : (level : Level) (outer : List Level) (worth : Result ℤ Wrong) (r : Reading) → (worth >>= (λ v. with_value level outer v)) ≡ Ok r → (r.outer ≡ outer) × (r.due ≡ false)
after_value level outer worth r is =
    let one = bound-Ok worth (λ v. with_value level outer v) r is in
    let two = bound-Ok (with_factor level one.0) (λ (level : Level). Ok (record { level = level; outer = outer; due = false })) r one.2 in
    (cc, cc)

-- a token where a factor is due
after_operand : (known : List ℕ → Option ℤ) (token : Token) (level : Level) (outer : List Level) (rest : List ℕ) (p : Placed) (r : Reading) (tokens : List Placed) → p.token ≡ token
    → with_operand known level outer rest token ≡ Ok r → IsReadTo outer true tokens → IsReadTo r.outer r.due (tokens ++ p ∷ [])
after_operand known (Digits digits) level outer rest p r tokens token is read =
    let same = after_value level outer (number_worth digits) r is in
    rw (same.0, same.1) (next-factor (Number digits) outer tokens (p ∷ []) read (p, refl, token))
after_operand known (Name name) level outer rest p r tokens token is read =
    let same = after_value level outer (name_worth known name) r is in
    rw (same.0, same.1) (next-factor (Named name) outer tokens (p ∷ []) read (p, refl, token))
after_operand known Open level outer rest p r tokens token is (below, here, parts, around, due) =
    let outer_is : r.outer ≡ level ∷ outer = cc in
    let due_is : r.due ≡ true = cc in
    rw (outer_is, due_is) (tokens ++ p ∷ [], [], sym (append-nil (tokens ++ p ∷ [])), (below, here, p, rw parts refl, token, due, around), due-start)
after_operand known Close level outer rest p r tokens token is read = absurd (cc)
after_operand known (SignToken sign) level outer rest p r tokens token is read = absurd (cc)
after_operand known (ByToken by) level outer rest p r tokens token is read = absurd (cc)
after_operand known Other level outer rest p r tokens token is read = absurd (cc)

-- a `)` comes
after_close : (text : List ℕ) (level : Level) (outer : List Level) (p : Placed) (r : Reading) (tokens : List Placed) → p.token ≡ Close
    → closed text level outer ≡ Ok r → IsReadTo outer false tokens → IsReadTo r.outer r.due (tokens ++ p ∷ [])
after_close text level [] p r tokens token is read = absurd (cc)
after_close text level (around ∷ outer) p r tokens token is (below, here, parts, (below1, here1, q, parts1, opens, due, others), done) =
    let same = after_value around outer (total level) r is in
    let sum = done-sum here done in
    let factor = next-factor (Enclosed sum.0) outer (below1 ++ here1) (q ∷ (here ++ p ∷ [])) (below1, here1, refl, others, due) (q, here, p, refl, opens, token, sum.1) in
    let all : tokens ++ p ∷ [] ≡ (below1 ++ here1) ++ (q ∷ (here ++ p ∷ [])) =
    rw (parts, parts1, append_assoc ((below1 ++ here1) ++ q ∷ []) here (p ∷ []), append_assoc (below1 ++ here1) (q ∷ []) (here ++ p ∷ [])) refl in
    rw (same.0, same.1, all) factor

-- a token where no factor is due
after_operator : (text : List ℕ) (token : Token) (level : Level) (outer : List Level) (p : Placed) (r : Reading) (tokens : List Placed) → p.token ≡ token
    → with_operator text level outer token ≡ Ok r → IsReadTo outer false tokens → IsReadTo r.outer r.due (tokens ++ p ∷ [])
after_operator text (ByToken by) level outer p r tokens token is (below, here, parts, around, done) =
    let outer_is : r.outer ≡ outer = cc in
    let due_is : r.due ≡ true = cc in
    rw (outer_is, due_is) (below, here ++ p ∷ [], rw (parts, append_assoc below here (p ∷ [])) refl, around, due-by by here p token done)
after_operator text (SignToken sign) level outer p r tokens token is (below, here, parts, around, done) =
    let one = bound-Ok (with_sign level sign) (λ (level : Level). Ok (record { level = level; outer = outer; due = true })) r is in
    let outer_is : r.outer ≡ outer = cc in
    let due_is : r.due ≡ true = cc in
    rw (outer_is, due_is) (below, here ++ p ∷ [], rw (parts, append_assoc below here (p ∷ [])) refl, around, due-sign sign here p token done)
after_operator text Close level outer p r tokens token is read = after_close text level outer p r tokens token is read
after_operator text (Digits digits) level outer p r tokens token is read = absurd (cc)
after_operator text (Name name) level outer p r tokens token is read = absurd (cc)
after_operator text Open level outer p r tokens token is read = absurd (cc)
after_operator text Other level outer p r tokens token is read = absurd (cc)

-- a token comes next
after_token : (known : List ℕ → Option ℤ) (text : List ℕ) (level : Level) (outer : List Level) (due : Bool) (p : Placed) (r : Reading) (tokens : List Placed)
    → with_token known text (record { level = level; outer = outer; due = due }) p ≡ Ok r → IsReadTo outer due tokens → IsReadTo r.outer r.due (tokens ++ p ∷ [])
after_token known text level outer true p r tokens is read = after_operand known p.token level outer p.rest p r tokens refl is read
after_token known text level outer false p r tokens is read = after_operator text p.token level outer p r tokens refl is read

-- the text ends
at_end : (level : Level) (outer : List Level) (due : Bool) (v : ℤ) (tokens : List Placed) → ended (record { level = level; outer = outer; due = due }) ≡ Ok v → IsReadTo outer due tokens
    → (e : Expression) × Say AsSum e tokens
at_end level outer true v tokens is read = absurd (cc)
at_end level (around ∷ outer) false v tokens is read = absurd (cc)
at_end level [] false v tokens is (below, here, parts, none, done) = let same : here ≡ tokens = sym (rw none at parts) in done-sum tokens (subst (λ (ts : List Placed). Done ts) same done)

-- the tokens that are read, and those after them, say a sum
all-say : (known : List ℕ → Option ℤ) (text : List ℕ) (others : List Placed) (r : Reading) (v : ℤ) (tokens : List Placed) → value_after known text r others ≡ Ok v → IsReadTo r.outer r.due tokens
    → (e : Expression) × Say AsSum e (tokens ++ others)
all-say known text [] r v tokens is read = rw (append-nil tokens) (at_end r.level r.outer r.due v tokens is read)
all-say known text (p ∷ others) r v tokens is read =
    let one = bound-Ok (with_token known text r p) (λ (r : Reading). value_after known text r others) v is in
    let rest = all-say known text others one.0 v (tokens ++ p ∷ []) one.2 (after_token known text r.level r.outer r.due p one.0 tokens one.1 read) in
    subst (λ (ts : List Placed). (e : Expression) × Say AsSum e ts) (append_assoc tokens (p ∷ []) others) rest

-- a text that is worth something says an expression
pub worth-said : (known : List ℕ → Option ℤ) (text : List ℕ) (v : ℤ) → value_of known text ≡ Ok v → (e : Expression) × Say AsSum e (tokens_of text)
worth-said known text v is = all-say known text (tokens_of text) beginning v [] is ([], [], refl, refl, due-start)
