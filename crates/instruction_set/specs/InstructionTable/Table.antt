-- The table of instructions. It has eight columns of 32 entries, and a function byte is 32 times the number of its
-- column plus the number of its row there.
use Prim.Native.String.{String}
use Rattle.std.specs.Prelude.{ℕ, ◌/◌, ◌%◌, List, [], ◌∷◌, Option, Some, None, codes, slice_get}
use Rattle.std.specs.Option.{option_and_then}
use Rattle.instruction_set.specs.declared.instruction_table.forms.Form.{Form}
use Rattle.instruction_set.specs.declared.instruction_table.forms.Form.TheVariants.{Plain, Byte, BytePlus, Half, Word, Relative, Indirect, Switch}
use Rattle.instruction_set.specs.declared.instruction_table.effects.Test.TheVariants.{Eq, Ne, Ls, Gr, Le, Ge}
use Rattle.instruction_set.specs.declared.instruction_table.effects.Effect.{Effect}
use Rattle.instruction_set.specs.declared.instruction_table.effects.Effect.TheVariants.{Load, LoadMinus, LoadP, LoadPAddress, LoadG, LoadGAddress, LoadGk, LoadPk, LoadTarget, LoadAtTarget, LoadTargetWord, StoreP, StoreG, StoreG0, StorePk, StoreTarget, AddP, AddG, AddN, SubN, Rv, RvP, St, StP, Gbyt, Pbyt, Xpbyt, Add, Sub, Mul, Div, Rem, And, Or, Xor, Lsh, Rsh, Neg, Not, Xch, Atb, Atc, Btc, Jump, JumpIf, JumpIfZero, Call, CallG, Rtn, Goto, Fhop, Swl, Swb, Nop, Brk, Sys}
use Rattle.instruction_set.specs.declared.instruction_table.rows.Row.{Row}

-- what a row says, with its name as text
pub record Entry : Type 0 where
  -- its name in assembly text
  pub name : List ℕ
  -- the form of its operand
  pub form : Form
  -- what it does
  pub effect : Effect

-- a row of the code, seen as an entry
abbrev pub entry_of : Row → Entry
entry_of r = record { name = r.name.now; form = r.form; effect = r.effect }

-- an entry with a row
abbrev pub row : String → Form → Effect → Option Entry
row name form effect = Some (record { name = codes name; form = form; effect = effect })

-- an entry with none
abbrev pub empty : Option Entry
empty = None

-- the entry at a place of a column
abbrev pub at : List (Option Entry) → ℕ → Option Entry
at column r = option_and_then (λ e. e) (slice_get column r)

-- bytes 0 to 31
unfoldable pub column0 : List (Option Entry)
column0 =
    empty ∷
    empty ∷
    row "BRK" (Plain 0) Brk ∷
    row "K3" (Plain 3) Call ∷
    row "K4" (Plain 4) Call ∷
    row "K5" (Plain 5) Call ∷
    row "K6" (Plain 6) Call ∷
    row "K7" (Plain 7) Call ∷
    row "K8" (Plain 8) Call ∷
    row "K9" (Plain 9) Call ∷
    row "K10" (Plain 10) Call ∷
    row "K11" (Plain 11) Call ∷
    row "LF" Relative LoadTarget ∷
    row "LF$" Indirect LoadTarget ∷
    row "LM" Byte LoadMinus ∷
    row "LM1" (Plain 1) LoadMinus ∷
    row "L0" (Plain 0) Load ∷
    row "L1" (Plain 1) Load ∷
    row "L2" (Plain 2) Load ∷
    row "L3" (Plain 3) Load ∷
    row "L4" (Plain 4) Load ∷
    row "L5" (Plain 5) Load ∷
    row "L6" (Plain 6) Load ∷
    row "L7" (Plain 7) Load ∷
    row "L8" (Plain 8) Load ∷
    row "L9" (Plain 9) Load ∷
    row "L10" (Plain 10) Load ∷
    row "FHOP" (Plain 0) Fhop ∷
    row "JEQ" Relative (JumpIf Eq) ∷
    row "JEQ$" Indirect (JumpIf Eq) ∷
    row "JEQ0" Relative (JumpIfZero Eq) ∷
    row "JEQ0$" Indirect (JumpIfZero Eq) ∷
    []

-- bytes 32 to 63
unfoldable pub column1 : List (Option Entry)
column1 =
    row "K" Byte Call ∷
    row "KH" Half Call ∷
    row "KW" Word Call ∷
    row "K3G" Byte (CallG 3) ∷
    row "K4G" Byte (CallG 4) ∷
    row "K5G" Byte (CallG 5) ∷
    row "K6G" Byte (CallG 6) ∷
    row "K7G" Byte (CallG 7) ∷
    row "K8G" Byte (CallG 8) ∷
    row "K9G" Byte (CallG 9) ∷
    row "K10G" Byte (CallG 10) ∷
    row "K11G" Byte (CallG 11) ∷
    row "S0G" Byte StoreG0 ∷
    row "L0G" Byte (LoadGk 0) ∷
    row "L1G" Byte (LoadGk 1) ∷
    row "L2G" Byte (LoadGk 2) ∷
    row "LG" Byte LoadG ∷
    row "SG" Byte StoreG ∷
    row "LLG" Byte LoadGAddress ∷
    row "AG" Byte AddG ∷
    row "MUL" (Plain 0) Mul ∷
    row "DIV" (Plain 0) Div ∷
    row "REM" (Plain 0) Rem ∷
    row "XOR" (Plain 0) Xor ∷
    row "SL" Relative StoreTarget ∷
    row "SL$" Indirect StoreTarget ∷
    row "LL" Relative LoadAtTarget ∷
    row "LL$" Indirect LoadAtTarget ∷
    row "JNE" Relative (JumpIf Ne) ∷
    row "JNE$" Indirect (JumpIf Ne) ∷
    row "JNE0" Relative (JumpIfZero Ne) ∷
    row "JNE0$" Indirect (JumpIfZero Ne) ∷
    []

-- bytes 64 to 95
unfoldable pub column2 : List (Option Entry)
column2 =
    row "LLP" Byte LoadPAddress ∷
    row "LLPH" Half LoadPAddress ∷
    row "LLPW" Word LoadPAddress ∷
    row "K3G1" BytePlus (CallG 3) ∷
    row "K4G1" BytePlus (CallG 4) ∷
    row "K5G1" BytePlus (CallG 5) ∷
    row "K6G1" BytePlus (CallG 6) ∷
    row "K7G1" BytePlus (CallG 7) ∷
    row "K8G1" BytePlus (CallG 8) ∷
    row "K9G1" BytePlus (CallG 9) ∷
    row "K10G1" BytePlus (CallG 10) ∷
    row "K11G1" BytePlus (CallG 11) ∷
    row "S0G1" BytePlus StoreG0 ∷
    row "L0G1" BytePlus (LoadGk 0) ∷
    row "L1G1" BytePlus (LoadGk 1) ∷
    row "L2G1" BytePlus (LoadGk 2) ∷
    row "LG1" BytePlus LoadG ∷
    row "SG1" BytePlus StoreG ∷
    row "LLG1" BytePlus LoadGAddress ∷
    row "AG1" BytePlus AddG ∷
    row "ADD" (Plain 0) Add ∷
    row "SUB" (Plain 0) Sub ∷
    row "LSH" (Plain 0) Lsh ∷
    row "RSH" (Plain 0) Rsh ∷
    row "AND" (Plain 0) And ∷
    row "OR" (Plain 0) Or ∷
    row "LLL" Relative LoadTargetWord ∷
    row "LLL$" Indirect LoadTargetWord ∷
    row "JLS" Relative (JumpIf Ls) ∷
    row "JLS$" Indirect (JumpIf Ls) ∷
    row "JLS0" Relative (JumpIfZero Ls) ∷
    row "JLS0$" Indirect (JumpIfZero Ls) ∷
    []

-- bytes 96 to 127
unfoldable pub column3 : List (Option Entry)
column3 =
    row "L" Byte Load ∷
    row "LH" Half Load ∷
    row "LW" Word Load ∷
    row "K3GH" Half (CallG 3) ∷
    row "K4GH" Half (CallG 4) ∷
    row "K5GH" Half (CallG 5) ∷
    row "K6GH" Half (CallG 6) ∷
    row "K7GH" Half (CallG 7) ∷
    row "K8GH" Half (CallG 8) ∷
    row "K9GH" Half (CallG 9) ∷
    row "K10GH" Half (CallG 10) ∷
    row "K11GH" Half (CallG 11) ∷
    row "S0GH" Half StoreG0 ∷
    row "L0GH" Half (LoadGk 0) ∷
    row "L1GH" Half (LoadGk 1) ∷
    row "L2GH" Half (LoadGk 2) ∷
    row "LGH" Half LoadG ∷
    row "SGH" Half StoreG ∷
    row "LLGH" Half LoadGAddress ∷
    row "AGH" Half AddG ∷
    row "RV" (Plain 0) Rv ∷
    row "RV1" (Plain 1) Rv ∷
    row "RV2" (Plain 2) Rv ∷
    row "RV3" (Plain 3) Rv ∷
    row "RV4" (Plain 4) Rv ∷
    row "RV5" (Plain 5) Rv ∷
    row "RV6" (Plain 6) Rv ∷
    row "RTN" (Plain 0) Rtn ∷
    row "JGR" Relative (JumpIf Gr) ∷
    row "JGR$" Indirect (JumpIf Gr) ∷
    row "JGR0" Relative (JumpIfZero Gr) ∷
    row "JGR0$" Indirect (JumpIfZero Gr) ∷
    []

-- bytes 128 to 159
unfoldable pub column4 : List (Option Entry)
column4 =
    row "LP" Byte LoadP ∷
    row "LPH" Half LoadP ∷
    row "LPW" Word LoadP ∷
    row "LP3" (Plain 3) LoadP ∷
    row "LP4" (Plain 4) LoadP ∷
    row "LP5" (Plain 5) LoadP ∷
    row "LP6" (Plain 6) LoadP ∷
    row "LP7" (Plain 7) LoadP ∷
    row "LP8" (Plain 8) LoadP ∷
    row "LP9" (Plain 9) LoadP ∷
    row "LP10" (Plain 10) LoadP ∷
    row "LP11" (Plain 11) LoadP ∷
    row "LP12" (Plain 12) LoadP ∷
    row "LP13" (Plain 13) LoadP ∷
    row "LP14" (Plain 14) LoadP ∷
    row "LP15" (Plain 15) LoadP ∷
    row "LP16" (Plain 16) LoadP ∷
    row "SYS" (Plain 0) Sys ∷
    row "SWB" Switch Swb ∷
    row "SWL" Switch Swl ∷
    row "ST" (Plain 0) St ∷
    row "ST1" (Plain 1) St ∷
    row "ST2" (Plain 2) St ∷
    row "ST3" (Plain 3) St ∷
    row "STP3" (Plain 3) StP ∷
    row "STP4" (Plain 4) StP ∷
    row "STP5" (Plain 5) StP ∷
    row "GOTO" (Plain 0) Goto ∷
    row "JLE" Relative (JumpIf Le) ∷
    row "JLE$" Indirect (JumpIf Le) ∷
    row "JLE0" Relative (JumpIfZero Le) ∷
    row "JLE0$" Indirect (JumpIfZero Le) ∷
    []

-- bytes 160 to 191
unfoldable pub column5 : List (Option Entry)
column5 =
    row "SP" Byte StoreP ∷
    row "SPH" Half StoreP ∷
    row "SPW" Word StoreP ∷
    row "SP3" (Plain 3) StoreP ∷
    row "SP4" (Plain 4) StoreP ∷
    row "SP5" (Plain 5) StoreP ∷
    row "SP6" (Plain 6) StoreP ∷
    row "SP7" (Plain 7) StoreP ∷
    row "SP8" (Plain 8) StoreP ∷
    row "SP9" (Plain 9) StoreP ∷
    row "SP10" (Plain 10) StoreP ∷
    row "SP11" (Plain 11) StoreP ∷
    row "SP12" (Plain 12) StoreP ∷
    row "SP13" (Plain 13) StoreP ∷
    row "SP14" (Plain 14) StoreP ∷
    row "SP15" (Plain 15) StoreP ∷
    row "SP16" (Plain 16) StoreP ∷
    row "S1" (Plain 1) SubN ∷
    row "S2" (Plain 2) SubN ∷
    row "S3" (Plain 3) SubN ∷
    row "S4" (Plain 4) SubN ∷
    row "XCH" (Plain 0) Xch ∷
    row "GBYT" (Plain 0) Gbyt ∷
    row "PBYT" (Plain 0) Pbyt ∷
    row "ATC" (Plain 0) Atc ∷
    row "ATB" (Plain 0) Atb ∷
    row "J" Relative Jump ∷
    row "J$" Indirect Jump ∷
    row "JGE" Relative (JumpIf Ge) ∷
    row "JGE$" Indirect (JumpIf Ge) ∷
    row "JGE0" Relative (JumpIfZero Ge) ∷
    row "JGE0$" Indirect (JumpIfZero Ge) ∷
    []

-- bytes 192 to 223
unfoldable pub column6 : List (Option Entry)
column6 =
    row "AP" Byte AddP ∷
    row "APH" Half AddP ∷
    row "APW" Word AddP ∷
    row "AP3" (Plain 3) AddP ∷
    row "AP4" (Plain 4) AddP ∷
    row "AP5" (Plain 5) AddP ∷
    row "AP6" (Plain 6) AddP ∷
    row "AP7" (Plain 7) AddP ∷
    row "AP8" (Plain 8) AddP ∷
    row "AP9" (Plain 9) AddP ∷
    row "AP10" (Plain 10) AddP ∷
    row "AP11" (Plain 11) AddP ∷
    row "AP12" (Plain 12) AddP ∷
    row "XPBYT" (Plain 0) Xpbyt ∷
    row "LMH" Half LoadMinus ∷
    row "BTC" (Plain 0) Btc ∷
    row "NOP" (Plain 0) Nop ∷
    row "A1" (Plain 1) AddN ∷
    row "A2" (Plain 2) AddN ∷
    row "A3" (Plain 3) AddN ∷
    row "A4" (Plain 4) AddN ∷
    row "A5" (Plain 5) AddN ∷
    row "RVP3" (Plain 3) RvP ∷
    row "RVP4" (Plain 4) RvP ∷
    row "RVP5" (Plain 5) RvP ∷
    row "RVP6" (Plain 6) RvP ∷
    row "RVP7" (Plain 7) RvP ∷
    row "ST0P3" (Plain 3) (StorePk 0) ∷
    row "ST0P4" (Plain 4) (StorePk 0) ∷
    row "ST1P3" (Plain 3) (StorePk 1) ∷
    row "ST1P4" (Plain 4) (StorePk 1) ∷
    empty ∷
    []

-- bytes 224 to 255
unfoldable pub column7 : List (Option Entry)
column7 =
    row "A" Byte AddN ∷
    row "AH" Half AddN ∷
    row "AW" Word AddN ∷
    row "L0P3" (Plain 3) (LoadPk 0) ∷
    row "L0P4" (Plain 4) (LoadPk 0) ∷
    row "L0P5" (Plain 5) (LoadPk 0) ∷
    row "L0P6" (Plain 6) (LoadPk 0) ∷
    row "L0P7" (Plain 7) (LoadPk 0) ∷
    row "L0P8" (Plain 8) (LoadPk 0) ∷
    row "L0P9" (Plain 9) (LoadPk 0) ∷
    row "L0P10" (Plain 10) (LoadPk 0) ∷
    row "L0P11" (Plain 11) (LoadPk 0) ∷
    row "L0P12" (Plain 12) (LoadPk 0) ∷
    row "S" Byte SubN ∷
    row "SH" Half SubN ∷
    empty ∷
    empty ∷
    row "NEG" (Plain 0) Neg ∷
    row "NOT" (Plain 0) Not ∷
    row "L1P3" (Plain 3) (LoadPk 1) ∷
    row "L1P4" (Plain 4) (LoadPk 1) ∷
    row "L1P5" (Plain 5) (LoadPk 1) ∷
    row "L1P6" (Plain 6) (LoadPk 1) ∷
    row "L2P3" (Plain 3) (LoadPk 2) ∷
    row "L2P4" (Plain 4) (LoadPk 2) ∷
    row "L2P5" (Plain 5) (LoadPk 2) ∷
    row "L3P3" (Plain 3) (LoadPk 3) ∷
    row "L3P4" (Plain 4) (LoadPk 3) ∷
    row "L4P3" (Plain 3) (LoadPk 4) ∷
    row "L4P4" (Plain 4) (LoadPk 4) ∷
    empty ∷
    empty ∷
    []

-- the whole table
abbrev pub columns : List (List (Option Entry))
columns = column0 ∷ column1 ∷ column2 ∷ column3 ∷ column4 ∷ column5 ∷ column6 ∷ column7 ∷ []

-- the entry of a function byte
unfoldable pub entry : ℕ → Option Entry
entry byte = option_and_then (λ column. at column (byte % 32)) (slice_get columns (byte / 32))
