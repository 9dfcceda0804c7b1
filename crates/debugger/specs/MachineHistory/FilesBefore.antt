-- The files and pipes of the moments before, the oldest first.
use Rattle.std.specs.Prelude.{ℕ, if◌then◌else◌, nat_le, nat_lt, Bool, false, List, [], ◌∷◌, length, take, ◌-◌, zero, suc, Some, None, Option}
use Rattle.circular_buffer.specs.Buffer.{last_item}
use Rattle.ram_disc.specs.Disc.{empty_disc}
use Rattle.kernel_model.specs.KernelRecord.Pipes.{no_pipes}
use Rattle.debugger.specs.MachineHistory.Pasts.{Files}
use Rattle.debugger.specs.declared.machine_history.files.KeptFiles.{KeptFiles}

-- the disc and the pipes that were kept
abbrev pub files_in : KeptFiles → Files
files_in f = record { disc = f.disc; pipes = f.pipes }

-- the files once n steps were taken: the last that were kept by then
abbrev pub files_from : ℕ → KeptFiles → List KeptFiles → Files
files_from n f [] = files_in f
files_from n f (g ∷ gs) = if nat_le g.since n then files_from n g gs else files_in f

-- the files that there were once n steps were taken; before any are kept, none
abbrev pub files_at : ℕ → List KeptFiles → Files
files_at n [] = record { disc = empty_disc; pipes = no_pipes }
files_at n (f ∷ fs) = files_from n f fs

-- the steps taken when the second of them came to be
abbrev pub second_since : List KeptFiles → ℕ
second_since [] = 0
second_since (f ∷ []) = 0
second_since (f ∷ g ∷ gs) = g.since

-- files of a moment that is gone are marked: as if they had been there from the start
abbrev pub forgotten : KeptFiles → KeptFiles
forgotten f = record f { since = 0 }

-- whether the files that were kept last came to be after n steps
abbrev pub is_later : ℕ → Option KeptFiles → Bool
is_later n None = false
is_later n (Some f) = nat_lt n f.since

-- the last of them goes to the front, marked so: its place is free to keep others
abbrev pub to_front : Option KeptFiles → List KeptFiles → List KeptFiles
to_front None fs = fs
to_front (Some f) fs = forgotten f ∷ take (length fs - 1) fs

-- files that came to be after n steps, where they are the last, go to the front
abbrev pub front_from_last : ℕ → Option KeptFiles → List KeptFiles → List KeptFiles
front_from_last n last fs = if is_later n last then to_front last fs else fs

-- files that came to be after n steps go to the front, from the last one on, at most `most` of them
unfoldable pub gone_back : ℕ → ℕ → List KeptFiles → List KeptFiles
gone_back zero n fs = fs
gone_back (suc most) n fs = gone_back most n (front_from_last n (last_item fs) fs)
