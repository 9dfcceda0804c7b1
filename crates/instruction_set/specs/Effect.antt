-- The effect of each row: one line a row's effect. n is the operand, t the target, and place the instruction's address.
use Rattle.std.specs.Prelude.{ℕ, ◌-◌, ◌/◌, ◌%◌, ◌^◌, List, Result, Err, bit_and, bit_or, bit_xor}
use Rattle.word_store.specs.Arithmetic.{add, sub, mul, div, rem, shl, shr}
use Rattle.word_store.specs.declared.registers.Regs.{Regs}
use Rattle.instruction_set.specs.declared.instruction_table.effects.Effect.{Effect}
use Rattle.instruction_set.specs.declared.instruction_table.effects.Effect.TheVariants.{Load, LoadMinus, LoadP, LoadPAddress, LoadG, LoadGAddress, LoadGk, LoadPk, LoadTarget, LoadAtTarget, LoadTargetWord, StoreP, StoreG, StoreG0, StorePk, StoreTarget, AddP, AddG, AddN, SubN, Rv, RvP, St, StP, Gbyt, Pbyt, Xpbyt, Add, Sub, Mul, Div, Rem, And, Or, Xor, Lsh, Rsh, Neg, Not, Xch, Atb, Atc, Btc, Jump, JumpIf, JumpIfZero, Call, CallG, Rtn, Goto, Fhop, Swl, Swb, Nop, Brk, Sys}
use Rattle.instruction_set.specs.OperandForms.Even.{even_above}
use Rattle.instruction_set.specs.declared.Fault.{Fault}
use Rattle.instruction_set.specs.Change.{Change, fault, keep, load, set_a, jump, write, load_at, load_through, add_at, set_a_at, set_a_through, write_through, get_byte, put_byte, divide, holds, jump_if, enter, enter_global, leave}
use Rattle.instruction_set.specs.Switch.{switch_by_label, switch_by_key}

-- r has PC at the next instruction
abbrev pub change_of : Effect → List ℕ → Regs → ℕ → ℕ → ℕ → Result Change Fault
change_of Load words r n t place = load r n
change_of LoadMinus words r n t place = load r (sub 0 n)
change_of LoadP words r n t place = load_at words r (add r.p n)
change_of LoadPAddress words r n t place = load r (add r.p n)
change_of LoadG words r n t place = load_at words r (add r.g n)
change_of LoadGAddress words r n t place = load r (add r.g n)
change_of (LoadGk k) words r n t place = load_through words r (add r.g n) k
change_of (LoadPk k) words r n t place = load_through words r (add r.p n) k
change_of LoadTarget words r n t place = load r t
change_of LoadAtTarget words r n t place = load_at words r (t / 4)
change_of LoadTargetWord words r n t place = load r (t / 4)
change_of StoreP words r n t place = write r (add r.p n) r.a
change_of StoreG words r n t place = write r (add r.g n) r.a
change_of StoreG0 words r n t place = write_through words r (add r.g n) 0 r.a
change_of (StorePk k) words r n t place = write_through words r (add r.p n) k r.a
change_of StoreTarget words r n t place = write r (t / 4) r.a
change_of AddP words r n t place = add_at words r (add r.p n)
change_of AddG words r n t place = add_at words r (add r.g n)
change_of AddN words r n t place = set_a r (add r.a n)
change_of SubN words r n t place = set_a r (sub r.a n)
change_of Rv words r n t place = set_a_at words r (add r.a n)
change_of RvP words r n t place = set_a_through words r (add r.p n) r.a
change_of St words r n t place = write r (add r.a n) r.b
change_of StP words r n t place = write_through words r (add r.p n) r.a r.b
change_of Gbyt words r n t place = get_byte words r r.b r.a
change_of Pbyt words r n t place = put_byte words r r.b r.a r.c
change_of Xpbyt words r n t place = put_byte words r r.a r.b r.c
change_of Add words r n t place = set_a r (add r.b r.a)
change_of Sub words r n t place = set_a r (sub r.b r.a)
change_of Mul words r n t place = set_a r (mul r.b r.a)
change_of Div words r n t place = divide (div r.b r.a) r place
change_of Rem words r n t place = divide (rem r.b r.a) r place
change_of And words r n t place = set_a r (bit_and r.b r.a)
change_of Or words r n t place = set_a r (bit_or r.b r.a)
change_of Xor words r n t place = set_a r (bit_xor r.b r.a)
change_of Lsh words r n t place = set_a r (shl r.b r.a)
change_of Rsh words r n t place = set_a r (shr r.b r.a)
change_of Neg words r n t place = set_a r (sub 0 r.a)
change_of Not words r n t place = set_a r (2 ^ 32 - 1 - r.a)
change_of Xch words r n t place = keep (record r { a = r.b; b = r.a })
change_of Atb words r n t place = keep (record r { b = r.a })
change_of Atc words r n t place = keep (record r { c = r.a % 256 })
change_of Btc words r n t place = keep (record r { c = r.b % 256 })
change_of Jump words r n t place = jump r t
change_of (JumpIf test) words r n t place = jump_if (holds test r.b r.a) r t
change_of (JumpIfZero test) words r n t place = jump_if (holds test r.a 0) r t
change_of Call words r n t place = enter r (add r.p n) r.a r.b r.pc
change_of (CallG k) words r n t place = enter_global words r (add r.g n) k r.pc
change_of Rtn words r n t place = leave words r
change_of Goto words r n t place = jump r r.a
change_of Fhop words r n t place = keep (record r { a = 0; pc = add r.pc 1 })
change_of Swl words r n t place = switch_by_label words r (even_above r.pc)
change_of Swb words r n t place = switch_by_key words r (even_above r.pc)
change_of Nop words r n t place = keep r
change_of Brk words r n t place = Err (fault 2 place)
change_of Sys words r n t place = keep r
