-- What expressions are worth is short.
use Rattle.std.proofs.Common.{◌≡◌, ℕ, ℤ, pos, negsuc, zero, suc, ◌+ℤ◌, ◌*ℤ◌, Bool, true, false, List, Option, Some, None, Result, Ok, Err, refl, sym, arith}
use Rattle.std.proofs.lemmas.Int.{ints}
use Rattle.std.specs.Prelude.{◌-ℤ◌, if◌then◌else◌, int_div, int_rem}
use Rattle.std.specs.Str.Parse.{digits_value}
use Rattle.module_text.specs.TextReader.Numbers.{are_digits}
use Rattle.module_text.specs.TextReader.Steps.{◌>>=◌}
use Rattle.lab_marks.specs.declared.arithmetic.By.{By}
use Rattle.lab_marks.specs.declared.arithmetic.By.TheVariants.{Times, Over, Remainder}
use Rattle.lab_marks.specs.declared.arithmetic.Sign.{Sign}
use Rattle.lab_marks.specs.declared.arithmetic.Sign.TheVariants.{Plus, Minus}
use Rattle.lab_marks.specs.declared.wrongs.Wrong.{Wrong}
use Rattle.lab_marks.specs.declared.wrongs.Wrong.TheVariants.{DivisionByZero, LongValue}
use Rattle.lab_marks.specs.Arithmetic.{is_short, joined, made, short, unless_zero}
use Rattle.lab_marks.specs.Grammar.{Expression, Number, Named, Enclosed, Product, Sum, worth}
use Rattle.lab_marks.specs.Known.{name_worth}

-- a result whose value, if it has one, is short
abbrev pub IsShort : Result ℤ Wrong → Type 0
IsShort r = (v : ℤ) → r ≡ Ok v → short v ≡ Ok v

by_test : (z : ℤ) (test : Bool) → is_short z ≡ test → IsShort (if test then Ok z else Err LongValue)
by_test z true is v e = let same : z ≡ v = cc in rw (sym same, is) refl
by_test z false is v e = cc

pub short-IsShort : (z : ℤ) → IsShort (short z)
short-IsShort z = by_test z (is_short z) refl

wrong-IsShort : (wrong : Wrong) → IsShort (Err wrong)
wrong-IsShort wrong v e = cc

unless_zero-IsShort : (b : ℤ) (r : Result ℤ Wrong) → IsShort r → IsShort (unless_zero b r)
unless_zero-IsShort (pos zero) r h = wrong-IsShort DivisionByZero
unless_zero-IsShort (pos (suc n)) r h = h
unless_zero-IsShort (negsuc n) r h = h

made-IsShort : (by : By) (a b : ℤ) → IsShort (made by a b)
made-IsShort Times a b = short-IsShort (a *ℤ b)
made-IsShort Over a b = unless_zero-IsShort b (short (int_div a b)) (short-IsShort (int_div a b))
made-IsShort Remainder a b = unless_zero-IsShort b (short (int_rem a b)) (short-IsShort (int_rem a b))

pub joined-IsShort : (sign : Sign) (a b : ℤ) → IsShort (joined sign a b)
joined-IsShort Plus a b = short-IsShort (a +ℤ b)
joined-IsShort Minus a b = short-IsShort (a -ℤ b)

bound-IsShort : (m : Result ℤ Wrong) (f : ℤ → Result ℤ Wrong) → ((x : ℤ) → IsShort (f x)) → IsShort (m >>= f)
bound-IsShort (Ok x) f h = h x
bound-IsShort (Err wrong) f h = wrong-IsShort wrong

digits-IsShort : (test : Bool) (z : ℤ) → IsShort (if test then short z else Err LongValue)
digits-IsShort true z = short-IsShort z
digits-IsShort false z = wrong-IsShort LongValue

named-IsShort : (name : List ℕ) (known : List ℕ → Option ℤ) (value : Option ℤ) → known name ≡ value → IsShort (name_worth known name)
named-IsShort name known (Some z) is = rw is (short-IsShort z)
named-IsShort name known None is = rw is (wrong-IsShort _)

-- what an expression is worth is short
pub worth-IsShort : (known : List ℕ → Option ℤ) (e : Expression) → IsShort (worth known e)
worth-IsShort known (Number digits) = digits-IsShort (are_digits 10 digits) (pos (digits_value 10 digits))
worth-IsShort known (Named name) = named-IsShort name known (known name) refl
worth-IsShort known (Enclosed e) = worth-IsShort known e
worth-IsShort known (Product by a b) = bound-IsShort (worth known a) _ (λ x. bound-IsShort (worth known b) _ (λ y. made-IsShort by x y))
worth-IsShort known (Sum sign a b) = bound-IsShort (worth known a) _ (λ x. bound-IsShort (worth known b) _ (λ y. joined-IsShort sign x y))

-- a sum of no products, with a product
pub zero-plus : (v : ℤ) → pos 0 +ℤ v ≡ v
zero-plus v = omega (arith, ints)

-- a product of no factors, with a factor
pub one-times : (v : ℤ) → pos 1 *ℤ v ≡ v
one-times v = omega (arith, ints)
