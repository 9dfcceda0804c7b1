-- Templates of command lines.
use Rattle.std.specs.Prelude.{ℕ, ◌==◌, ◌&&◌, Bool, List, [], ◌∷◌, length, drop, codes, nat_le}
use Rattle.std.specs.Char.{is_ascii_alphanumeric}
use Rattle.std.specs.List.{list_any, list_all, count_by, slice_split, before_first, position_or_len}
use Rattle.std.specs.Str.{bytes_eq, str_eq_ignore_ascii_case}

-- a template is empty, or is entries separated by commas
abbrev pub entries : List ℕ → List (List ℕ)
entries [] = []
entries (c ∷ cs) = slice_split (λ b. b == 44) (c ∷ cs)

-- before an entry's first slash are its names, separated by `=`
abbrev pub names : List ℕ → List (List ℕ)
names entry = slice_split (λ b. b == 61) (before_first (λ b. b == 47) entry)

-- the qualifiers of an entry, from its first slash on
abbrev pub qualifiers : List ℕ → List ℕ
qualifiers entry = drop (position_or_len (λ b. b == 47) entry) entry

-- each of `/A` and `/K` at most once, in either order, or `/S` alone
abbrev pub are_qualifiers : List ℕ → Bool
are_qualifiers text =
    list_any (λ lawful. bytes_eq text lawful) ([] ∷ codes "/A" ∷ codes "/K" ∷ codes "/A/K" ∷ codes "/K/A" ∷ codes "/S" ∷ [])

-- whether an entry has to be given a value: it has the qualifier A
abbrev pub is_required : List ℕ → Bool
is_required entry = list_any (λ c. c == 65) (qualifiers entry)

-- whether an entry is given its value by its name alone: it has the qualifier K
abbrev pub is_keyword : List ℕ → Bool
is_keyword entry = list_any (λ c. c == 75) (qualifiers entry)

-- whether an entry is set by its name, and has no value: it has the qualifier S
abbrev pub is_switch : List ℕ → Bool
is_switch entry = list_any (λ c. c == 83) (qualifiers entry)

-- a name that an entry may have: one or more letters and digits
abbrev pub is_entry_name : List ℕ → Bool
is_entry_name text = nat_le 1 (length text) && list_all is_ascii_alphanumeric text

-- whether a word is one of an entry's names, case ignored
abbrev pub has_name : List ℕ → List ℕ → Bool
has_name word entry = list_any (λ name. str_eq_ignore_ascii_case name word) (names entry)

-- a name is there once among its entry's, and in no other entry
abbrev pub is_once : List (List ℕ) → List ℕ → List ℕ → Bool
is_once all entry name =
    (count_by (λ other. str_eq_ignore_ascii_case other name) (names entry) == 1) && (count_by (has_name name) all == 1)

-- an entry's names are names, and are nowhere else
abbrev pub are_names : List (List ℕ) → List ℕ → Bool
are_names all entry = list_all (λ name. is_entry_name name && is_once all entry name) (names entry)

-- whether it is an entry: its qualifiers and its names are lawful
abbrev pub is_entry : List (List ℕ) → List ℕ → Bool
is_entry all entry = are_qualifiers (qualifiers entry) && are_names all entry

-- at most 8 entries
abbrev pub is_template : List (List ℕ) → Bool
is_template all = nat_le (length all) 8 && list_all (is_entry all) all
