-- The frames of functions that have called one another.
use Rattle.std.specs.Prelude.{ℕ, ◌+◌, ◌==◌, if◌then◌else◌, List, Option, Some, None, slice_index}
use Rattle.show_run.specs.declared.typed_words.frames.CallFrame.{CallFrame}

-- The frame at an address: the P of the caller, the place to go back to, and the function. The first function of a program goes back to 0.
abbrev pub frame_at : List ℕ → ℕ → Option CallFrame
frame_at s p =
    if slice_index s (p + 1) == 0 then None else
    Some (record { caller = slice_index s p; back = slice_index s (p + 1); function = slice_index s (p + 2) })
