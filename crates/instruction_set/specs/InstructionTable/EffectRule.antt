-- The rule by which a name tells the effect of its instruction.
use Prim.Native.String.{String}
use Rattle.std.specs.Prelude.{ℕ, ◌-◌, List, [], ◌∷◌, Option, Some, None, length, take, drop, codes, nat_eq, take_while, if◌then◌else◌}
use Rattle.std.specs.Char.{is_ascii_digit, is_ascii_uppercase}
use Rattle.std.specs.List.{starts_with}
use Rattle.std.specs.Option.{option_map, option_or}
use Rattle.std.specs.Str.{bytes_eq}
use Rattle.std.specs.Str.Parse.{digits_value}
use Rattle.instruction_set.specs.declared.instruction_table.effects.Test.{Test}
use Rattle.instruction_set.specs.declared.instruction_table.effects.Test.TheVariants.{Eq, Ne, Ls, Gr, Le, Ge}
use Rattle.instruction_set.specs.declared.instruction_table.effects.Effect.{Effect}
use Rattle.instruction_set.specs.declared.instruction_table.effects.Effect.TheVariants.{Load, LoadMinus, LoadP, LoadPAddress, LoadG, LoadGAddress, LoadGk, LoadPk, LoadTarget, LoadAtTarget, LoadTargetWord, StoreP, StoreG, StoreG0, StorePk, StoreTarget, AddP, AddG, AddN, SubN, Rv, RvP, St, StP, Gbyt, Pbyt, Xpbyt, Add, Sub, Mul, Div, Rem, And, Or, Xor, Lsh, Rsh, Neg, Not, Xch, Atb, Atc, Btc, Jump, JumpIf, JumpIfZero, Call, CallG, Rtn, Goto, Fhop, Swl, Swb, Nop, Brk, Sys}

-- A name begins with letters. Digits may follow, and then the rest, as in L1G, ST0P3 and JEQ0$.
pub record NameParts : Type 0 where
  -- the letters that it begins with
  pub letters : List ℕ
  -- the digits after them
  pub digits : List ℕ
  -- all after these
  pub rest : List ℕ

-- a name, cut into these three parts
abbrev pub parts_of : List ℕ → NameParts
parts_of name =
    let letters = take_while is_ascii_uppercase name in
    let behind = drop (length letters) name in
    let digits = take_while is_ascii_digit behind in
    record { letters = letters; digits = digits; rest = drop (length digits) behind }

-- what the list pairs with a text, if it has that text
abbrev pub meaning_in : {X : Type 0} → List (String × X) → List ℕ → Option X
meaning_in [] text = None
meaning_in (pair ∷ pairs) text = if bytes_eq (codes pair.0) text then Some pair.1 else meaning_in pairs text

-- loads, stores, sums, accesses by address, jumps by a target and calls, whose operand the rest of the name tells
abbrev pub with_operand : List (String × Effect)
with_operand =
    ("L", Load) ∷ ("LM", LoadMinus) ∷ ("LP", LoadP) ∷ ("LLP", LoadPAddress) ∷ ("LG", LoadG) ∷ ("LLG", LoadGAddress) ∷
    ("LF", LoadTarget) ∷ ("LL", LoadAtTarget) ∷ ("LLL", LoadTargetWord) ∷
    ("SP", StoreP) ∷ ("SG", StoreG) ∷ ("SL", StoreTarget) ∷ ("AP", AddP) ∷ ("AG", AddG) ∷ ("A", AddN) ∷ ("S", SubN) ∷
    ("RV", Rv) ∷ ("RVP", RvP) ∷ ("ST", St) ∷ ("STP", StP) ∷ ("J", Jump) ∷ ("K", Call) ∷ []

-- the instructions that are named by a word
abbrev pub words : List (String × Effect)
words =
    ("GBYT", Gbyt) ∷ ("PBYT", Pbyt) ∷ ("XPBYT", Xpbyt) ∷
    ("ADD", Add) ∷ ("SUB", Sub) ∷ ("MUL", Mul) ∷ ("DIV", Div) ∷ ("REM", Rem) ∷
    ("AND", And) ∷ ("OR", Or) ∷ ("XOR", Xor) ∷ ("LSH", Lsh) ∷ ("RSH", Rsh) ∷ ("NEG", Neg) ∷ ("NOT", Not) ∷
    ("XCH", Xch) ∷ ("ATB", Atb) ∷ ("ATC", Atc) ∷ ("BTC", Btc) ∷
    ("RTN", Rtn) ∷ ("GOTO", Goto) ∷ ("FHOP", Fhop) ∷ ("SWL", Swl) ∷ ("SWB", Swb) ∷ ("NOP", Nop) ∷ ("BRK", Brk) ∷ ("SYS", Sys) ∷ []

-- the conditions of jumps
abbrev pub tests : List (String × Test)
tests = ("JEQ", Eq) ∷ ("JNE", Ne) ∷ ("JLS", Ls) ∷ ("JGR", Gr) ∷ ("JLE", Le) ∷ ("JGE", Ge) ∷ []

-- the letters without the H or W that tells the size of an operand
abbrev pub without_size : List ℕ → List ℕ
without_size letters = take (length letters - 1) letters

-- G after the number k is a way through a global, as in L1G, and P one through a word of the frame, as in ST0P3. A jump
-- with a condition compares with 0 where a 0 follows. Else the letters alone tell the effect.
unfoldable pub effect_named : List ℕ → Option Effect
effect_named name =
    let parts = parts_of name in
    let k = digits_value 10 parts.digits in
    if starts_with nat_eq parts.rest (codes "G") then meaning_in (("L", LoadGk k) ∷ ("S", StoreG0) ∷ ("K", CallG k) ∷ []) parts.letters else
    if starts_with nat_eq parts.rest (codes "P") then meaning_in (("L", LoadPk k) ∷ ("ST", StorePk k) ∷ []) parts.letters else
    if bytes_eq parts.digits (codes "0") then option_or (option_map JumpIfZero (meaning_in tests parts.letters)) (meaning_in with_operand parts.letters) else
    option_or (option_map JumpIf (meaning_in tests parts.letters)) (option_or (meaning_in words name) (option_or (meaning_in with_operand parts.letters) (meaning_in with_operand (without_size parts.letters))))
