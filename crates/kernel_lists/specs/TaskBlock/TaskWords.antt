-- Which word of a task block has which name.
use Rattle.std.specs.Prelude.{ℕ}
use Rattle.kernel_lists.specs.declared.task_block.fields.TcbField.{TcbField}
use Rattle.kernel_lists.specs.declared.task_block.fields.TcbField.TheVariants.{Link, Id, Pri, Queue, State, Flags, Stack, StackTop, Globals, Maker, Module, SavedA, SavedB, SavedC, SavedP, SavedG, SavedPc, FirstCo, CurrentCo, RootP, RootPc, Extra1, Extra2}

-- which word of a task block has each name, from 0
abbrev pub word_index : TcbField → ℕ
word_index Link = 0
word_index Id = 1
word_index Pri = 2
word_index Queue = 3
word_index State = 4
word_index Flags = 5
word_index Stack = 6
word_index StackTop = 7
word_index Globals = 8
word_index Maker = 9
word_index Module = 10
word_index SavedA = 11
word_index SavedB = 12
word_index SavedC = 13
word_index SavedP = 14
word_index SavedG = 15
word_index SavedPc = 16
word_index FirstCo = 17
word_index CurrentCo = 18
word_index RootP = 19
word_index RootPc = 20
word_index Extra1 = 21
word_index Extra2 = 22
