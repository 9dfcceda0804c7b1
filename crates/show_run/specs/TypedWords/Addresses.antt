-- Addresses of words, by registers.
use Rattle.std.specs.Prelude.{ℕ, ◌==◌, ◌||◌, Bool, true, if◌then◌else◌, List, [], ◌∷◌, Option, Some, None, length, nat_le, option_map}
use Rattle.std.specs.Char.{is_ascii_digit}
use Rattle.std.specs.List.{list_all}
use Rattle.module_text.specs.TextReader.Numbers.{number_of}
use Rattle.word_store.specs.declared.registers.Regs.{Regs}
use Rattle.show_run.specs.declared.typed_words.registers.Away.{Away}
use Rattle.show_run.specs.declared.typed_words.registers.Away.TheVariants.{BadNumber, Less, More, NoNumber}
use Rattle.show_run.specs.declared.typed_words.registers.Register.{Register}
use Rattle.show_run.specs.declared.typed_words.registers.Register.TheVariants.{A, B, G, P}

-- whether a place is written as an address, in digits
abbrev pub is_address : List ℕ → Bool
is_address place = list_all is_ascii_digit place

-- the register with this letter
abbrev pub register_named : ℕ → Option Register
register_named c = if c == 65 then Some A else if c == 66 then Some B else if c == 71 then Some G else if c == 80 then Some P else None

-- whether this may come after a register: nothing, or what begins with + or -
abbrev pub is_away : List ℕ → Bool
is_away [] = true
is_away (c ∷ cs) = c == 43 || c == 45

-- the register that a place begins with, and what comes after it
abbrev pub register_place : List ℕ → Option (Register × List ℕ)
register_place [] = None
register_place (c ∷ away) = if is_away away then option_map (λ r. (r, away)) (register_named c) else None

-- what a register has
abbrev pub register_value : Register → Regs → ℕ
register_value A r = r.a
register_value B r = r.b
register_value G r = r.g
register_value P r = r.p

-- so many words more, or after a minus less
abbrev pub away_by : ℕ → ℕ → Away
away_by sign n = if sign == 45 then Less n else More n

-- the same, of a number that may be none
abbrev pub away_by_number : ℕ → Option ℕ → Away
away_by_number sign None = BadNumber
away_by_number sign (Some n) = away_by sign n

-- how far a place is from a register, by its sign and the digits after it, of which there are at most 9
abbrev pub away_after : ℕ → List ℕ → Away
away_after sign [] = NoNumber
away_after sign (c ∷ cs) =
    if is_ascii_digit c then (if nat_le (length (c ∷ cs)) 9 then away_by_number sign (number_of (c ∷ cs)) else BadNumber) else
    NoNumber

-- how far a place is from a register, by what comes after that
abbrev pub away_of : List ℕ → Away
away_of [] = More 0
away_of (sign ∷ digits) = away_after sign digits
