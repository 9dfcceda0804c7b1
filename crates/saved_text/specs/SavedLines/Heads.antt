-- The lines of a saved machine's registers, type-ahead, console and shell.
use Rattle.std.specs.Prelude.{ℕ, ◌≡◌, ◌^◌, ◌&&◌, if◌then◌else◌, Bool, List, ◌∷◌, ◌++◌, Option, Some, None, Result, Ok, Err, codes, nat_lt, option_and_then}
use Rattle.std.specs.Option.{option_map_or}
use Rattle.hex.specs.Hex.{IsBytes, encode_lower}
use Rattle.word_store.specs.declared.registers.Regs.{Regs}
use Rattle.module_text.specs.TextReader.Fields.{after_word}
use Rattle.module_text.specs.TextReader.Numbers.{IsNumber, number_of}
use Rattle.module_text.specs.TextReader.Refusal.{Refusal, refusal}
use Rattle.session_text.specs.Statements.{number_field}
use Rattle.saved_text.specs.SavedLines.HexText.{is_hex}

-- ---- which lines they are

-- six numbers between blanks, and the word before them
abbrev pub regs_text : List ℕ → List ℕ → List ℕ → List ℕ → List ℕ → List ℕ → List ℕ
regs_text a b c p g pc = codes "REGS " ++ (a ++ (32 ∷ (b ++ (32 ∷ (c ++ (32 ∷ (p ++ (32 ∷ (g ++ (32 ∷ pc))))))))))

-- the line has these numbers for the registers
pub record IsRegsLine (r : Regs) (line : List ℕ) : Type 0 where
  -- the digits of A
  pub a : List ℕ
  -- the digits of B
  pub b : List ℕ
  -- the digits of C
  pub c : List ℕ
  -- the digits of P
  pub p : List ℕ
  -- the digits of G
  pub g : List ℕ
  -- the digits of PC
  pub pc : List ℕ
  -- these are all
  pub all : line ≡ regs_text a b c p g pc
  -- A to C are these numbers
  pub front : IsNumber a r.a × IsNumber b r.b × IsNumber c r.c
  -- and P to PC these
  pub back : IsNumber p r.p × IsNumber g r.g × IsNumber pc r.pc

-- the line has these bytes of type-ahead
abbrev pub IsRingLine : List ℕ → List ℕ → Type 0
IsRingLine bytes line = IsBytes bytes × (line ≡ codes "RING :" ++ encode_lower bytes)

-- the line has this number and these bytes for the console
abbrev pub IsConsoleLine : ℕ → List ℕ → List ℕ → Type 0
IsConsoleLine d bytes line =
    (a : List ℕ) × IsNumber a d × IsBytes bytes × (line ≡ codes "CONSOLE " ++ (a ++ (32 ∷ (codes ":" ++ encode_lower bytes))))

-- the line has these two numbers and these bytes for the shell
abbrev pub IsShellLine : ℕ → ℕ → List ℕ → List ℕ → Type 0
IsShellLine m x bytes line =
    (a b : List ℕ) × IsNumber a m × IsNumber b x × IsBytes bytes
    × (line ≡ codes "SHELL " ++ (a ++ (32 ∷ (b ++ (32 ∷ (codes ":" ++ encode_lower bytes))))))

-- ---- what a line gives

infixl 10 ◌>>=◌
-- a step, and then the next one with what it gave, unless it gave nothing
abbrev ◌>>=◌ : {A B : Type 0} → Option A → (A → Option B) → Option B
o >>= f = option_and_then f o

-- six numbers between blanks
abbrev pub six_numbers : List ℕ → Option (ℕ × ℕ × ℕ × ℕ × ℕ × ℕ)
six_numbers text = do
  a ← number_field text
  b ← number_field a.1
  c ← number_field b.1
  p ← number_field c.1
  g ← number_field p.1
  pc ← number_of g.1
  Some (a.0, b.0, c.0, p.0, g.0, pc)

-- five words and a byte
abbrev pub are_regs : ℕ → ℕ → ℕ → ℕ → ℕ → ℕ → Bool
are_regs a b c p g pc =
    nat_lt a (2 ^ 32) && nat_lt b (2 ^ 32) && nat_lt c 256 && nat_lt p (2 ^ 32) && nat_lt g (2 ^ 32) && nat_lt pc (2 ^ 32)

-- registers that are in their ranges, or the refusal of line n
abbrev pub regs_or_refusal : ℕ → ℕ × ℕ × ℕ × ℕ × ℕ × ℕ → Result Regs Refusal
regs_or_refusal n x =
    if are_regs x.0 x.1 x.2 x.3 x.4 x.5
    then Ok (record { a = x.0; b = x.1; c = x.2; p = x.3; g = x.4; pc = x.5 })
    else Err (refusal n 2)

-- the registers of line n
abbrev pub regs_line : ℕ → List ℕ → Result Regs Refusal
regs_line n line =
    option_map_or (regs_or_refusal n) (option_and_then six_numbers (after_word (codes "REGS ") line)) (Err (refusal n 1))

-- the digits after a colon, where they are hex
abbrev pub hex_field : List ℕ → Option (List ℕ)
hex_field text = do
  digits ← after_word (codes ":") text
  if is_hex digits then Some digits else None

-- the digits of the type-ahead
abbrev pub ring_of : List ℕ → Option (List ℕ)
ring_of line = option_and_then hex_field (after_word (codes "RING ") line)

-- the number of the console's line, and the digits
abbrev pub console_of : List ℕ → Option (ℕ × List ℕ)
console_of line = do
  text ← after_word (codes "CONSOLE ") line
  d ← number_field text
  digits ← hex_field d.1
  Some (d.0, digits)

-- the two numbers of the shell's line, and the digits
abbrev pub shell_of : List ℕ → Option (ℕ × ℕ × List ℕ)
shell_of line = do
  text ← after_word (codes "SHELL ") line
  m ← number_field text
  x ← number_field m.1
  digits ← hex_field x.1
  Some (m.0, x.0, digits)
