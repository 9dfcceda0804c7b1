-- A disc: its files, and the streams that are open on them.
use Rattle.std.specs.Prelude.{ℕ, ◌≡◌, ◌+◌, ◌-◌, ◌/◌, ◌≤◌, ◌==◌, ◌&&◌, Bool, true, false, if◌then◌else◌, Option, Some, None, List, [], ◌∷◌, length, replicate, find, map, slice_index_or, sum_by, unwrap_or}
use Rattle.std.specs.List.{AllByRecursion, list_any}
use Rattle.std.specs.Option.{option_map}
use Rattle.std.specs.Ordering.{is_lt, nat_cmp}
use Rattle.std.specs.Cmp.Lexicographic.{slice_cmp}
use Rattle.std.specs.Str.{bytes_eq}
use Rattle.ram_disc.specs.Name.{IsName}

-- a file: its name and its bytes
pub record File : Type 0 where
  -- its name, 1 to 12 bytes
  pub name : List ℕ
  -- its bytes, from the first
  pub bytes : List ℕ

-- an open stream: the name of its file, its position in it, and whether it writes
pub record Stream : Type 0 where
  -- the name of its file
  pub name : List ℕ
  -- how many bytes of the file come before it
  pub position : ℕ
  -- it writes, and does not read
  pub writes : Bool

-- the files in byte order of their names, and the streams from 1 on, each of them open or not
pub record Disc : Type 0 where
  -- the files, in byte order of their names
  pub files : List File
  -- the streams from 1 on, each of them open or not
  pub streams : List (Option Stream)

-- the most files
abbrev pub most_files : ℕ
most_files = 64

-- the sectors of a disc
abbrev pub most_sectors : ℕ
most_sectors = 4096

-- the streams of a disc
abbrev pub most_streams : ℕ
most_streams = 17

-- the shell's stream; those before it are the file handler's
abbrev pub shell_stream : ℕ
shell_stream = 17

-- the sectors of 512 bytes that so many bytes take
abbrev pub sectors_of : ℕ → ℕ
sectors_of n = (n + 511) / 512

-- the sectors that the files take
abbrev pub sectors_taken : List File → ℕ
sectors_taken files = sum_by (λ f. sectors_of (length f.bytes)) files

-- the one name comes before the other in byte order
abbrev pub is_before : List ℕ → List ℕ → Bool
is_before a b = is_lt (slice_cmp nat_cmp a b)

-- whether it is the name of the file
abbrev pub has_name : List ℕ → File → Bool
has_name name f = bytes_eq f.name name

-- the file of this name
abbrev pub file_named : Disc → List ℕ → Option File
file_named d name = find (has_name name) d.files

-- whether there is a file of this name
abbrev pub has_file : Disc → List ℕ → Bool
has_file d name = list_any (has_name name) d.files

-- the bytes of the file of this name
abbrev pub bytes_of : Disc → List ℕ → List ℕ
bytes_of d name = unwrap_or (option_map (λ f. f.bytes) (file_named d name)) []

-- stream k, where it is open
abbrev pub stream_at : Disc → ℕ → Option Stream
stream_at d k = if k == 0 then None else slice_index_or d.streams (k - 1) None

-- the stream is open on the file of this name
abbrev pub is_on : List ℕ → Option Stream → Bool
is_on name None = false
is_on name (Some s) = bytes_eq s.name name

-- whether a stream writes the file of this name
abbrev pub is_writer_of : List ℕ → Option Stream → Bool
is_writer_of name None = false
is_writer_of name (Some s) = bytes_eq s.name name && s.writes

-- some stream is open on the file of this name
abbrev pub is_used : Disc → List ℕ → Bool
is_used d name = list_any (is_on name) d.streams

-- some stream writes it
abbrev pub is_written : Disc → List ℕ → Bool
is_written d name = list_any (is_writer_of name) d.streams

-- an empty disc
abbrev pub empty_disc : Disc
empty_disc = record { files = []; streams = replicate most_streams None }

-- each name comes before all names after it
abbrev pub AreInOrder : List (List ℕ) → Type 0
AreInOrder [] = Unit {0}
AreInOrder (name ∷ names) = AllByRecursion (λ other. is_before name other ≡ true) names × AreInOrder names

-- Stream k is open on a file of the disc: a reader at most at its end, a writer at its end and with no other stream on
-- the file. The shell's stream reads.
pub record IsValidStream (d : Disc) (k : ℕ) (s : Stream) : Type 0 where
  -- its file is on the disc
  pub is_there : has_file d s.name ≡ true
  -- it is at most at the file's end
  pub within : s.position ≤ length (bytes_of d s.name)
  -- one that writes is at the end
  pub at_end : s.writes ≡ true → s.position ≡ length (bytes_of d s.name)
  -- one that writes is the only stream on its file
  pub alone : s.writes ≡ true → (j : ℕ) (other : Stream) → stream_at d j ≡ Some other → other.name ≡ s.name → j ≡ k
  -- the shell's stream reads
  pub shell_reads : k ≡ shell_stream → s.writes ≡ false

-- a valid disc
pub record IsDisc (d : Disc) : Type 0 where
  -- the names are distinct and in byte order
  pub in_order : AreInOrder (map (λ f. f.name) d.files)
  -- each name is lawful
  pub lawful : AllByRecursion (λ f. IsName f.name) d.files
  -- there are no more files than there may be
  pub few : length d.files ≤ most_files
  -- the files take no more sectors than there are
  pub room : sectors_taken d.files ≤ most_sectors
  -- there are as many streams as there have to be
  pub numbers : length d.streams ≡ most_streams
  -- each open stream is on its file
  pub streams : (k : ℕ) (s : Stream) → stream_at d k ≡ Some s → IsValidStream d k s
