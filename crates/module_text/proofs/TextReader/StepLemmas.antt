-- Steps that may fail, taken apart.
use Rattle.std.proofs.Common.{◌≡◌, ◌⊎◌, inl, inr, Bool, true, false, cond, Option, Some, None, Result, Ok, Err, refl, ap}
use Rattle.std.specs.Option.{ok_or}
use Rattle.module_text.specs.TextReader.Steps.{◌>>=◌}

-- a result that is a value, and one that is an error, whatever else it might be
abbrev pub succeeded : {A E : Type 0} → A → Result A E
succeeded x = Ok x

abbrev pub failed : {A E : Type 0} → E → Result A E
failed e = Err e

-- two values of one result are one value
pub Ok-same : {A E : Type 0} (x y : A) → succeeded {E = E} x ≡ succeeded y → x ≡ y
Ok-same x y e = cc

-- and two errors of one result are one error
pub Err-same : {A E : Type 0} (d e : E) → failed {A = A} d ≡ failed e → d ≡ e
Err-same d e p = cc

-- what comes out right came through both steps
pub bind-ok : {A B E : Type 0} (r : Result A E) (f : A → Result B E) (y : B) → (r >>= f) ≡ Ok y → (x : A) × (r ≡ Ok x) × (f x ≡ Ok y)
bind-ok (Ok x) f y e = (x, refl, e)
bind-ok (Err d) f y e = cc e

-- what fails failed in one of them
pub bind-err : {A B E : Type 0} (r : Result A E) (f : A → Result B E) (d : E) → (r >>= f) ≡ Err d → (r ≡ Err d) ⊎ ((x : A) × (r ≡ Ok x) × (f x ≡ Err d))
bind-err (Ok x) f d e = inr (x, refl, e)
bind-err {A} {B} (Err c) f d e = inl (ap Err (Err-same {A = B} c d e))

-- a choice, by its test
pub cond-cases : {A : Type 0} (b : Bool) (x y z : A) → cond b x y ≡ z → ((b ≡ true) × (x ≡ z)) ⊎ ((b ≡ false) × (y ≡ z))
cond-cases true x y z e = inl (refl, e)
cond-cases false x y z e = inr (refl, e)

-- a test that let a value through
pub guard-ok : {A E : Type 0} (b : Bool) (x y : A) (d : E) → cond b (Ok x) (Err d) ≡ Ok y → (b ≡ true) × (x ≡ y)
guard-ok true x y d e = (refl, cc)
guard-ok false x y d e = cc e

-- a test that refused one
pub guard-err : {A E : Type 0} (b : Bool) (x : A) (d e : E) → cond b (Ok x) (Err d) ≡ Err e → (b ≡ false) × (d ≡ e)
guard-err true x d e h = cc h
guard-err false x d e h = (refl, cc)

-- a value that is there
pub ok_or-ok : {A E : Type 0} (o : Option A) (d : E) (x : A) → ok_or o d ≡ Ok x → o ≡ Some x
ok_or-ok None d x e = cc e
ok_or-ok (Some y) d x e = cc

-- and one that is not
pub ok_or-err : {A E : Type 0} (o : Option A) (d e : E) → ok_or o d ≡ Err e → (o ≡ None) × (d ≡ e)
ok_or-err None d e h = (refl, cc)
ok_or-err (Some y) d e h = cc h
