-- What the calls on coroutines do to the words of the store and to the registers.
use Rattle.std.specs.Prelude.{ℕ, ◌==◌, if◌then◌else◌, List, slice_index, slice_set}
use Rattle.word_store.specs.declared.registers.Regs.{Regs}
use Rattle.kernel_lists.specs.Coroutines.CoroutineWords.{as_parent, bottom, current_cell, current_in, current_parent, function_in, parent_cell, parent_in, saved_p, saved_pc}

-- the store in which P and PC of the current coroutine are saved, and c is the current one
abbrev pub switched : List ℕ → ℕ → ℕ → ℕ → ℕ → List ℕ
switched s t p pc c = slice_set (slice_set (slice_set s (saved_p t (current_in s t)) p) (saved_pc t (current_in s t)) pc) (current_cell t) c

-- the registers that go on in c, of which v is the result
abbrev pub entered : List ℕ → ℕ → Regs → ℕ → ℕ → Regs
entered s t regs c v = record regs { a = v; b = 0; p = slice_index s (saved_p t c); pc = slice_index s (saved_pc t c) }

-- c is called: the current one becomes its parent
abbrev pub called : List ℕ → ℕ → Regs → ℕ → List ℕ
called s t regs c = slice_set (switched s t regs.p regs.pc c) (parent_cell c) (as_parent t (current_in s t))

-- the current one waits, with this P and PC: it has no parent any more, and its parent goes on
abbrev pub waited : List ℕ → ℕ → ℕ → ℕ → List ℕ
waited s t p pc = slice_set (switched s t p pc (current_parent s t)) (parent_cell (current_in s t)) 0

-- c takes the current one's place: it gets its parent, and the current one has none any more
abbrev pub replaced : List ℕ → ℕ → Regs → ℕ → List ℕ
replaced s t regs c =
    slice_set (slice_set (switched s t regs.p regs.pc c) (parent_cell c) (parent_in s (current_in s t))) (parent_cell (current_in s t)) 0

-- the store after c was resumed: where it is the current one, nothing is written
abbrev pub resumed : List ℕ → ℕ → Regs → ℕ → List ℕ
resumed s t regs c = if current_in s t == c then s else replaced s t regs c

-- the registers after c was resumed
abbrev pub resumed_regs : List ℕ → ℕ → Regs → ℕ → ℕ → Regs
resumed_regs s t regs c v = if current_in s t == c then record regs { a = v; b = 0 } else entered s t regs c v

-- the current one's function has returned: it will start again at its function, on its bottom frame
abbrev pub returned : List ℕ → ℕ → List ℕ
returned s t = waited s t (bottom (current_in s t)) (function_in s (current_in s t))
