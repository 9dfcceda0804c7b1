-- Names in the store: a byte with their length, and then their bytes.
use Rattle.std.specs.Prelude.{ℕ, ◌+◌, ◌&&◌, Bool, if◌then◌else◌, Result, Ok, Err, List, length, nat_le}
use Rattle.std.specs.List.{list_all}
use Rattle.ram_disc.specs.Name.{is_name_byte}
use Rattle.ram_disc.specs.declared.codes.TheConstants.{BAD_NAME}
use Rattle.resident_tasks.specs.ResidentRequests.Buffers.{byte_in, bytes_in, lies_inside}

-- 1 to 12 bytes that may be in a name
abbrev pub is_name : List ℕ → Bool
is_name bytes = nat_le 1 (length bytes) && (nat_le (length bytes) 12 && list_all is_name_byte bytes)

-- the bytes after the first, as many as it says
abbrev pub string_in : List ℕ → ℕ → List ℕ
string_in s a = bytes_in s a 1 (byte_in s a 0)

-- whether the bytes at word a lie in the store and are a file's name
abbrev pub is_name_at : List ℕ → ℕ → Bool
is_name_at s a = lies_inside s a (byte_in s a 0 + 1) && is_name (string_in s a)

-- code 40 where it is no name, or does not lie in the store
abbrev pub name_at : List ℕ → ℕ → Result (List ℕ) ℕ
name_at s a = if is_name_at s a then Ok (string_in s a) else Err BAD_NAME
