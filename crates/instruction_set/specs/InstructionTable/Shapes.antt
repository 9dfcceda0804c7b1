-- What a row says besides its name, and how the code keeps it.
use Rattle.std.specs.Prelude.{ℕ, Option, Some, None, slice_index_or}
use Rattle.instruction_set.specs.declared.instruction_table.effects.Test.TheVariants.{Eq, Ne, Ls, Gr, Le, Ge}
use Rattle.instruction_set.specs.declared.instruction_table.effects.Effect.{Effect}
use Rattle.instruction_set.specs.declared.instruction_table.effects.Effect.TheVariants.{Load, LoadMinus, LoadP, LoadPAddress, LoadG, LoadGAddress, LoadGk, LoadPk, LoadTarget, LoadAtTarget, LoadTargetWord, StoreP, StoreG, StoreG0, StorePk, StoreTarget, AddP, AddG, AddN, SubN, Rv, RvP, St, StP, Gbyt, Pbyt, Xpbyt, Add, Sub, Mul, Div, Rem, And, Or, Xor, Lsh, Rsh, Neg, Not, Xch, Atb, Atc, Btc, Jump, JumpIf, JumpIfZero, Call, CallG, Rtn, Goto, Fhop, Swl, Swb, Nop, Brk, Sys}
use Rattle.instruction_set.specs.declared.instruction_table.forms.Form.{Form}
use Rattle.instruction_set.specs.declared.instruction_table.forms.Form.TheVariants.{Plain, Byte, BytePlus, Half, Word, Relative, Indirect, Switch}
use Rattle.instruction_set.specs.declared.instruction_table.slots.Operation.{Operation}
use Rattle.instruction_set.specs.declared.instruction_table.slots.Operation.TheVariants.{Empty, LoadPlain, LoadByte, LoadHalf, LoadWord, LoadMinusPlain, LoadMinusByte, LoadMinusHalf, LoadPPlain, LoadPByte, LoadPHalf, LoadPWord, LoadPAddressByte, LoadPAddressHalf, LoadPAddressWord, LoadGByte, LoadGBytePlus, LoadGHalf, LoadGAddressByte, LoadGAddressBytePlus, LoadGAddressHalf, LoadGkByte, LoadGkBytePlus, LoadGkHalf, LoadPkPlain, LoadTargetRelative, LoadTargetIndirect, LoadAtTargetRelative, LoadAtTargetIndirect, LoadTargetWordRelative, LoadTargetWordIndirect, StorePPlain, StorePByte, StorePHalf, StorePWord, StoreGByte, StoreGBytePlus, StoreGHalf, StoreG0Byte, StoreG0BytePlus, StoreG0Half, StorePkPlain, StoreTargetRelative, StoreTargetIndirect, AddPPlain, AddPByte, AddPHalf, AddPWord, AddGByte, AddGBytePlus, AddGHalf, AddNPlain, AddNByte, AddNHalf, AddNWord, SubNPlain, SubNByte, SubNHalf, RvPlain, RvPPlain, StPlain, StPPlain, GbytPlain, PbytPlain, XpbytPlain, AddPlain, SubPlain, MulPlain, DivPlain, RemPlain, AndPlain, OrPlain, XorPlain, LshPlain, RshPlain, NegPlain, NotPlain, XchPlain, AtbPlain, AtcPlain, BtcPlain, JumpRelative, JumpIndirect, JumpIfEqRelative, JumpIfEqIndirect, JumpIfNeRelative, JumpIfNeIndirect, JumpIfLsRelative, JumpIfLsIndirect, JumpIfGrRelative, JumpIfGrIndirect, JumpIfLeRelative, JumpIfLeIndirect, JumpIfGeRelative, JumpIfGeIndirect, JumpIfZeroEqRelative, JumpIfZeroEqIndirect, JumpIfZeroNeRelative, JumpIfZeroNeIndirect, JumpIfZeroLsRelative, JumpIfZeroLsIndirect, JumpIfZeroGrRelative, JumpIfZeroGrIndirect, JumpIfZeroLeRelative, JumpIfZeroLeIndirect, JumpIfZeroGeRelative, JumpIfZeroGeIndirect, CallPlain, CallByte, CallHalf, CallWord, CallGByte, CallGBytePlus, CallGHalf, RtnPlain, GotoPlain, FhopPlain, SwlSwitch, SwbSwitch, NopPlain, BrkPlain, SysPlain}
use Rattle.instruction_set.specs.declared.instruction_table.rows.Shape.{Shape}
use Rattle.instruction_set.specs.declared.instruction_table.slots.Slot.{Slot}
use Rattle.instruction_set.specs.declared.instruction_table.slots.TheConstants.{SLOTS}
use Rattle.instruction_set.specs.InstructionTable.Table.{Entry}

-- the operand form and the effect of a row
abbrev pub shape_of : Entry → Shape
shape_of e = record { form = e.form; effect = e.effect }

-- the slot of a function byte
abbrev pub slot_at : ℕ → Slot
slot_at byte = slice_index_or SLOTS byte (Empty, 0, 0)

-- its operation
abbrev pub operation_at : ℕ → Operation
operation_at byte = (slot_at byte).0

-- the number of its form, where that is a plain one
abbrev pub number_at : ℕ → ℕ
number_at byte = (slot_at byte).1

-- the number of its effect, where that carries one
abbrev pub carried_at : ℕ → ℕ
carried_at byte = (slot_at byte).2

-- a form and an effect as one
abbrev pub shaped : Form → Effect → Option Shape
shaped form effect = Some (record { form = form; effect = effect })

-- the form and the effect that an operation names: n is the number of a plain form, and k the one that an effect carries
abbrev pub shape_by : Operation → ℕ → ℕ → Option Shape
shape_by Empty n k = None
shape_by LoadPlain n k = shaped (Plain n) Load
shape_by LoadByte n k = shaped Byte Load
shape_by LoadHalf n k = shaped Half Load
shape_by LoadWord n k = shaped Word Load
shape_by LoadMinusPlain n k = shaped (Plain n) LoadMinus
shape_by LoadMinusByte n k = shaped Byte LoadMinus
shape_by LoadMinusHalf n k = shaped Half LoadMinus
shape_by LoadPPlain n k = shaped (Plain n) LoadP
shape_by LoadPByte n k = shaped Byte LoadP
shape_by LoadPHalf n k = shaped Half LoadP
shape_by LoadPWord n k = shaped Word LoadP
shape_by LoadPAddressByte n k = shaped Byte LoadPAddress
shape_by LoadPAddressHalf n k = shaped Half LoadPAddress
shape_by LoadPAddressWord n k = shaped Word LoadPAddress
shape_by LoadGByte n k = shaped Byte LoadG
shape_by LoadGBytePlus n k = shaped BytePlus LoadG
shape_by LoadGHalf n k = shaped Half LoadG
shape_by LoadGAddressByte n k = shaped Byte LoadGAddress
shape_by LoadGAddressBytePlus n k = shaped BytePlus LoadGAddress
shape_by LoadGAddressHalf n k = shaped Half LoadGAddress
shape_by LoadGkByte n k = shaped Byte (LoadGk k)
shape_by LoadGkBytePlus n k = shaped BytePlus (LoadGk k)
shape_by LoadGkHalf n k = shaped Half (LoadGk k)
shape_by LoadPkPlain n k = shaped (Plain n) (LoadPk k)
shape_by LoadTargetRelative n k = shaped Relative LoadTarget
shape_by LoadTargetIndirect n k = shaped Indirect LoadTarget
shape_by LoadAtTargetRelative n k = shaped Relative LoadAtTarget
shape_by LoadAtTargetIndirect n k = shaped Indirect LoadAtTarget
shape_by LoadTargetWordRelative n k = shaped Relative LoadTargetWord
shape_by LoadTargetWordIndirect n k = shaped Indirect LoadTargetWord
shape_by StorePPlain n k = shaped (Plain n) StoreP
shape_by StorePByte n k = shaped Byte StoreP
shape_by StorePHalf n k = shaped Half StoreP
shape_by StorePWord n k = shaped Word StoreP
shape_by StoreGByte n k = shaped Byte StoreG
shape_by StoreGBytePlus n k = shaped BytePlus StoreG
shape_by StoreGHalf n k = shaped Half StoreG
shape_by StoreG0Byte n k = shaped Byte StoreG0
shape_by StoreG0BytePlus n k = shaped BytePlus StoreG0
shape_by StoreG0Half n k = shaped Half StoreG0
shape_by StorePkPlain n k = shaped (Plain n) (StorePk k)
shape_by StoreTargetRelative n k = shaped Relative StoreTarget
shape_by StoreTargetIndirect n k = shaped Indirect StoreTarget
shape_by AddPPlain n k = shaped (Plain n) AddP
shape_by AddPByte n k = shaped Byte AddP
shape_by AddPHalf n k = shaped Half AddP
shape_by AddPWord n k = shaped Word AddP
shape_by AddGByte n k = shaped Byte AddG
shape_by AddGBytePlus n k = shaped BytePlus AddG
shape_by AddGHalf n k = shaped Half AddG
shape_by AddNPlain n k = shaped (Plain n) AddN
shape_by AddNByte n k = shaped Byte AddN
shape_by AddNHalf n k = shaped Half AddN
shape_by AddNWord n k = shaped Word AddN
shape_by SubNPlain n k = shaped (Plain n) SubN
shape_by SubNByte n k = shaped Byte SubN
shape_by SubNHalf n k = shaped Half SubN
shape_by RvPlain n k = shaped (Plain n) Rv
shape_by RvPPlain n k = shaped (Plain n) RvP
shape_by StPlain n k = shaped (Plain n) St
shape_by StPPlain n k = shaped (Plain n) StP
shape_by GbytPlain n k = shaped (Plain n) Gbyt
shape_by PbytPlain n k = shaped (Plain n) Pbyt
shape_by XpbytPlain n k = shaped (Plain n) Xpbyt
shape_by AddPlain n k = shaped (Plain n) Add
shape_by SubPlain n k = shaped (Plain n) Sub
shape_by MulPlain n k = shaped (Plain n) Mul
shape_by DivPlain n k = shaped (Plain n) Div
shape_by RemPlain n k = shaped (Plain n) Rem
shape_by AndPlain n k = shaped (Plain n) And
shape_by OrPlain n k = shaped (Plain n) Or
shape_by XorPlain n k = shaped (Plain n) Xor
shape_by LshPlain n k = shaped (Plain n) Lsh
shape_by RshPlain n k = shaped (Plain n) Rsh
shape_by NegPlain n k = shaped (Plain n) Neg
shape_by NotPlain n k = shaped (Plain n) Not
shape_by XchPlain n k = shaped (Plain n) Xch
shape_by AtbPlain n k = shaped (Plain n) Atb
shape_by AtcPlain n k = shaped (Plain n) Atc
shape_by BtcPlain n k = shaped (Plain n) Btc
shape_by JumpRelative n k = shaped Relative Jump
shape_by JumpIndirect n k = shaped Indirect Jump
shape_by JumpIfEqRelative n k = shaped Relative (JumpIf Eq)
shape_by JumpIfEqIndirect n k = shaped Indirect (JumpIf Eq)
shape_by JumpIfNeRelative n k = shaped Relative (JumpIf Ne)
shape_by JumpIfNeIndirect n k = shaped Indirect (JumpIf Ne)
shape_by JumpIfLsRelative n k = shaped Relative (JumpIf Ls)
shape_by JumpIfLsIndirect n k = shaped Indirect (JumpIf Ls)
shape_by JumpIfGrRelative n k = shaped Relative (JumpIf Gr)
shape_by JumpIfGrIndirect n k = shaped Indirect (JumpIf Gr)
shape_by JumpIfLeRelative n k = shaped Relative (JumpIf Le)
shape_by JumpIfLeIndirect n k = shaped Indirect (JumpIf Le)
shape_by JumpIfGeRelative n k = shaped Relative (JumpIf Ge)
shape_by JumpIfGeIndirect n k = shaped Indirect (JumpIf Ge)
shape_by JumpIfZeroEqRelative n k = shaped Relative (JumpIfZero Eq)
shape_by JumpIfZeroEqIndirect n k = shaped Indirect (JumpIfZero Eq)
shape_by JumpIfZeroNeRelative n k = shaped Relative (JumpIfZero Ne)
shape_by JumpIfZeroNeIndirect n k = shaped Indirect (JumpIfZero Ne)
shape_by JumpIfZeroLsRelative n k = shaped Relative (JumpIfZero Ls)
shape_by JumpIfZeroLsIndirect n k = shaped Indirect (JumpIfZero Ls)
shape_by JumpIfZeroGrRelative n k = shaped Relative (JumpIfZero Gr)
shape_by JumpIfZeroGrIndirect n k = shaped Indirect (JumpIfZero Gr)
shape_by JumpIfZeroLeRelative n k = shaped Relative (JumpIfZero Le)
shape_by JumpIfZeroLeIndirect n k = shaped Indirect (JumpIfZero Le)
shape_by JumpIfZeroGeRelative n k = shaped Relative (JumpIfZero Ge)
shape_by JumpIfZeroGeIndirect n k = shaped Indirect (JumpIfZero Ge)
shape_by CallPlain n k = shaped (Plain n) Call
shape_by CallByte n k = shaped Byte Call
shape_by CallHalf n k = shaped Half Call
shape_by CallWord n k = shaped Word Call
shape_by CallGByte n k = shaped Byte (CallG k)
shape_by CallGBytePlus n k = shaped BytePlus (CallG k)
shape_by CallGHalf n k = shaped Half (CallG k)
shape_by RtnPlain n k = shaped (Plain n) Rtn
shape_by GotoPlain n k = shaped (Plain n) Goto
shape_by FhopPlain n k = shaped (Plain n) Fhop
shape_by SwlSwitch n k = shaped Switch Swl
shape_by SwbSwitch n k = shaped Switch Swb
shape_by NopPlain n k = shaped (Plain n) Nop
shape_by BrkPlain n k = shaped (Plain n) Brk
shape_by SysPlain n k = shaped (Plain n) Sys
