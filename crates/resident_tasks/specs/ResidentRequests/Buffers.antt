-- Bytes in the words of a store, from a word address on. Byte i of the words from a on is byte i % 4 of word a + i / 4.
use Rattle.std.specs.Prelude.{ℕ, ◌+◌, ◌/◌, ◌%◌, ◌&&◌, ◌||◌, Bool, not, List, [], ◌∷◌, length, map, nat_le, nat_lt, slice_index, slice_set}
use Rattle.std.specs.List.{list_any, range_with_len}
use Rattle.word_store.specs.Bytes.{byte_of, with_byte}
use Rattle.kernel_lists.specs.OwnedWords.Owned.{Pairs, owners}
use Rattle.kernel_model.specs.KernelRecord.Lists.{Lists}
use Rattle.kernel_model.specs.KernelRecord.Owned.{owned}
use Rattle.kernel_model.specs.declared.kernel_record.numbers.TheConstants.{PACKET_WORDS}

-- ---- reading

-- a byte outside the store is 0
abbrev pub byte_in : List ℕ → ℕ → ℕ → ℕ
byte_in s a i = byte_of (slice_index s (a + i / 4)) (i % 4)

-- n bytes, from byte i on
abbrev pub bytes_in : List ℕ → ℕ → ℕ → ℕ → List ℕ
bytes_in s a i n = map (byte_in s a) (range_with_len i n)

-- ---- writing

-- the words with another byte i
abbrev pub with_byte_in : List ℕ → ℕ → ℕ → ℕ → List ℕ
with_byte_in s a i b = slice_set s (a + i / 4) (with_byte (slice_index s (a + i / 4)) (i % 4) b)

-- the store with these bytes, from byte i on
abbrev pub with_bytes : List ℕ → ℕ → ℕ → List ℕ → List ℕ
with_bytes s a i [] = s
with_bytes s a i (b ∷ bs) = with_bytes (with_byte_in s a i b) a (i + 1) bs

-- ---- buffers

-- the words that hold the first n bytes
abbrev pub covered : ℕ → ℕ
covered n = (n + 3) / 4

-- whether the first n bytes from word a on lie in the store
abbrev pub lies_inside : List ℕ → ℕ → ℕ → Bool
lies_inside s a n = nat_le (a + covered n) (length s)

-- a number of bytes that a buffer may have: from 1 to 4,096
abbrev pub is_count : ℕ → Bool
is_count n = nat_le 1 n && nat_le n 4096

-- a buffer of n bytes, from 1 to 4,096, that may be read: it lies in the store
abbrev pub is_readable : List ℕ → ℕ → ℕ → Bool
is_readable s a n = is_count n && lies_inside s a n

-- whether the words of n bytes from word a on are none of the five of the packet at p
abbrev pub lies_beside : ℕ → ℕ → ℕ → Bool
lies_beside p a n = nat_le (a + covered n) p || nat_le (p + PACKET_WORDS) a

-- whether nobody owns the words of n bytes from word a on
abbrev pub is_unowned : Lists → ℕ → ℕ → Bool
is_unowned l a n = not (list_any (λ b. nat_lt 0 (owners b (owned l))) (range_with_len a (covered n)))

-- A buffer that may be written for the request at p besides: none of its words is the kernel's, of which the five of the request
-- are some, although it is on no queue.
abbrev pub is_writable : List ℕ → Lists → ℕ → ℕ → ℕ → Bool
is_writable s l p a n = is_readable s a n && (lies_beside p a n && is_unowned l a n)

-- the words that hold these bytes, as they are once they were written
abbrev pub written_buffer : List ℕ → ℕ → List ℕ → Pairs
written_buffer s a bytes = map (λ b. (b, slice_index (with_bytes s a 0 bytes) b)) (range_with_len a (covered (length bytes)))
