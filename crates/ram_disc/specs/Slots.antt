-- The slots of a disc. A slot that is used has the name and the bytes of a file; the used ones are in byte order of
-- their names. A stream is open on a slot.
use Rattle.std.specs.Prelude.{ℕ, ◌≡◌, ◌+◌, ◌-◌, ◌/◌, ◌<◌, ◌≤◌, ◌==◌, ◌&&◌, if◌then◌else◌, Bool, true, false, Option, Some, None, List, [], length, map, slice_index, slice_index_or}
use Rattle.word_store.specs.Count.{times}
use Rattle.ram_disc.specs.Contents.{Area, bytes_at, chain_at}
use Rattle.ram_disc.specs.Disc.{AreInOrder, Disc, File, Stream, is_before, most_files, most_sectors, most_streams, sectors_taken, shell_stream}
use Rattle.ram_disc.specs.Name.{IsName}
use Rattle.ram_disc.specs.declared.places.Place.{Place}

-- the name in a slot
abbrev pub name_in : List (List ℕ) → ℕ → List ℕ
name_in names slot = slice_index_or names slot []

-- the file in a slot
abbrev pub file_in : List (List ℕ) → List (List ℕ) → ℕ → File
file_in names bytes slot = record { name = name_in names slot; bytes = slice_index_or bytes slot [] }

-- the files of these slots
abbrev pub files_in : List (List ℕ) → List (List ℕ) → List ℕ → List File
files_in names bytes used = map (file_in names bytes) used

-- the stream that is open at a place: the file of the place's slot, how far it is, and whether it writes
abbrev pub stream_in : List (List ℕ) → Option Place → Option Stream
stream_in names None = None
stream_in names (Some p) = Some (record { name = name_in names p.slot; position = p.position; writes = p.writes })

-- all streams, each open at its place or closed
abbrev pub streams_in : List (List ℕ) → List (Option Place) → List (Option Stream)
streams_in names places = map (stream_in names) places

-- the disc of these slots and streams
abbrev pub disc_in : List (List ℕ) → List (List ℕ) → List ℕ → List (Option Place) → Disc
disc_in names bytes used places = record { files = files_in names bytes used; streams = streams_in names places }

-- a stream is open on the slot
abbrev pub is_on_slot : ℕ → Option Place → Bool
is_on_slot slot None = false
is_on_slot slot (Some p) = p.slot == slot

-- whether a stream writes on the slot
abbrev pub writes_on : ℕ → Option Place → Bool
writes_on slot None = false
writes_on slot (Some p) = (p.slot == slot) && p.writes

-- the place of stream k, from 1, where it is open
abbrev pub place_in : List (Option Place) → ℕ → Option Place
place_in places k = if k == 0 then None else slice_index_or places (k - 1) None

-- the name is that of the used slot at this place
pub record IsAt (names : List (List ℕ)) (used : List ℕ) (name : List ℕ) (i : ℕ) : Type 0 where
  -- there is such a place
  pub within : i < length used
  -- the slot there has the name
  pub is : name_in names (slice_index used i) ≡ name

-- the name is that of no used slot, and this is its place: those before come before it, and it comes before the others
pub record HasPlace (names : List (List ℕ)) (used : List ℕ) (name : List ℕ) (i : ℕ) : Type 0 where
  -- it is a place, or the one after the last
  pub within : i ≤ length used
  -- the names before it come before this one
  pub before : (k : ℕ) → k < i → is_before (name_in names (slice_index used k)) name ≡ true
  -- this one comes before those from there on
  pub after : (k : ℕ) → i ≤ k → k < length used → is_before name (name_in names (slice_index used k)) ≡ true

-- each slot is used or not, and the used ones are in the order of their names
pub record AreSlots (names : List (List ℕ)) (used unused : List ℕ) : Type 0 where
  -- a slot is there once, among the used ones or among the others
  pub once : (s : ℕ) → times s used + times s unused ≤ 1
  -- what is in those lists is a slot
  pub below : (s : ℕ) → 0 < times s used + times s unused → s < most_files
  -- the used ones and the others are all
  pub all : length used + length unused ≡ most_files
  -- there is a name for each slot
  pub table : length names ≡ most_files
  -- the names of the used ones are distinct and in byte order
  pub in_order : AreInOrder (map (name_in names) used)
  -- the name of a used one is lawful
  pub lawful : (s : ℕ) → 0 < times s used → IsName (name_in names s)

-- the slots that are not used are empty, and the sectors that are left are those that no file takes
pub record AreFilled (names : List (List ℕ)) (a : Area) (used unused : List ℕ) : Type 0 where
  -- there are bytes for each slot
  pub table : length a.bytes ≡ most_files
  -- a slot that is not used has none
  pub empty : (s : ℕ) → 0 < times s unused → bytes_at a s ≡ []
  -- the sectors that are left and those that the files take are all
  pub room : a.left + sectors_taken (files_in names a.bytes used) ≡ most_sectors

-- Stream k, counted from 0, is open on a used slot: a reader at most at its end, a writer at its end and with no other
-- stream on the slot. The shell's stream reads. The place has the sector of its position.
pub record IsValidPlace (a : Area) (used : List ℕ) (places : List (Option Place)) (k : ℕ) (p : Place) : Type 0 where
  -- its slot is used
  pub is_there : 0 < times p.slot used
  -- it is at most after the slot's last byte
  pub within : p.position ≤ length (bytes_at a p.slot)
  -- one that writes is there
  pub at_end : p.writes ≡ true → p.position ≡ length (bytes_at a p.slot)
  -- one that writes is the only stream on its slot
  pub alone : p.writes ≡ true → (j : ℕ) (other : Place) → slice_index_or places j None ≡ Some other → other.slot ≡ p.slot → j ≡ k
  -- the shell's stream reads
  pub shell_reads : k + 1 ≡ shell_stream → p.writes ≡ false
  -- before the end its sector is that of its position
  pub sector : p.position < length (bytes_at a p.slot) → p.sector ≡ slice_index (chain_at a p.slot) (p.position / 512)

-- the parts in which the code keeps a disc fit together: slots, sectors and streams
pub record AreKept (names : List (List ℕ)) (a : Area) (used unused : List ℕ) (places : List (Option Place)) : Type 0 where
  -- the slots and their names
  pub slots : AreSlots names used unused
  -- the bytes of the slots
  pub filled : AreFilled names a used unused
  -- there are as many streams as there have to be
  pub numbers : length places ≡ most_streams
  -- each open stream is on a used slot
  pub streams : (k : ℕ) (p : Place) → slice_index_or places k None ≡ Some p → IsValidPlace a used places k p
