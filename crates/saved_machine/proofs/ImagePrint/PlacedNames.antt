-- Files, streams and pipes of a machine, within the rules of texts.
use Rattle.std.proofs.Common.{◌≡◌, ◌∙◌, ℕ, suc, ◌+◌, ◌-◌, ◌*◌, ◌<◌, ◌≤◌, ◌^◌, ◌||◌, Bool, true, false, cond, Option, Some, None, List, [], ◌∷◌, length, map, nat_le, nat_lt, refl, sym, ap, subst, arith}
use Rattle.std.specs.List.{AllByRecursion, list_any}
use Rattle.std.specs.Option.{option_map}
use Rattle.std.specs.Prelude.{find, slice_index_or, unwrap_or}
use Rattle.std.specs.Str.{bytes_eq}
use Rattle.std.proofs.lemmas.Bool.{and_from, ne_eqb}
use Rattle.std.proofs.lemmas.Bool.Decides.{nat_tests}
use Rattle.std.proofs.lemmas.List.Sums.{sum_by-cons}
use Rattle.std.proofs.lemmas.Slice.Eq.{bytes_eq-Decides}
use Rattle.ram_disc.specs.Disc.{AreInOrder, Disc, File, IsDisc, Stream, has_name, sectors_of, sectors_taken, stream_at}
use Rattle.ram_disc.specs.Name.{IsName, is_name}
use Rattle.ram_disc.proofs.NameLemmas.{name_read, is_name-from}
use Rattle.kernel_model.specs.KernelRecord.Kernel.{Pipe}
use Rattle.kernel_model.specs.KernelRecord.Pipes.{ArePipes as AreKeptPipes}
use Rattle.saved_text.specs.ImageForm.{AreFiles, ArePipes, AreStreams, flag}
use Rattle.saved_text.specs.Ranges.{are_pipe_numbers, are_stream_numbers, is_flag}
use Rattle.saved_machine.specs.ImagePrint.SavedImage.{with_places, numbered_pipes, numbered_streams, saved_file, saved_pipe, saved_stream}

-- ---- names

pub are-files : (fs : List File) → AreInOrder (map (λ f. f.name) fs) → AllByRecursion (λ f. IsName f.name) fs → AreFiles (map saved_file fs)
are-files [] order lawful = tt
are-files (f ∷ []) order lawful = is_name-from f.name lawful.0
are-files (f ∷ g ∷ fs) order lawful = (is_name-from f.name lawful.0, order.0.0, are-files (g ∷ fs) order.1 lawful.1)

-- the name of a file that is there is lawful
named-lawful : (name : List ℕ) (fs : List File) → AllByRecursion (λ f. IsName f.name) fs → list_any (has_name name) fs ≡ true → is_name name ≡ true
named-lawful name [] lawful there = cc
named-lawful name (f ∷ fs) lawful there = by (bytes_eq f.name name) (λ e. (bytes_eq-Decides f.name name).0 e) there (named-lawful name fs lawful.1)
  where
    by : (b : Bool) → (b ≡ true → f.name ≡ name) → (b || list_any (has_name name) fs) ≡ true → (list_any (has_name name) fs ≡ true → is_name name ≡ true) → is_name name ≡ true
    by true same there others = ap is_name (sym (same refl)) ∙ is_name-from f.name lawful.0
    by false same there others = others there

-- ---- sizes

-- a file has no more bytes than its sectors hold
few-bytes : (name : List ℕ) (fs : List File) → length (unwrap_or (option_map (λ (f : File). f.bytes) (find (has_name name) fs)) []) ≤ 512 * sectors_taken fs
few-bytes name [] = omega arith
few-bytes name (f ∷ fs) =
    subst (λ (n : ℕ). length (unwrap_or (option_map (λ (g : File). g.bytes) (find (has_name name) (f ∷ fs))) []) ≤ 512 * n) (sym (sum_by-cons (λ (g : File). sectors_of (length g.bytes)) f fs)) (by (bytes_eq f.name name) (few-bytes name fs))
  where
    by : (b : Bool) → length (unwrap_or (option_map (λ (f : File). f.bytes) (find (has_name name) fs)) []) ≤ 512 * sectors_taken fs
        → length (unwrap_or (option_map (λ (f : File). f.bytes) (cond b (Some f) (find (has_name name) fs))) []) ≤ 512 * (sectors_of (length f.bytes) + sectors_taken fs)
    by true others = omega arith
    by false others = omega (arith, others)

-- ---- streams

is-flag : (b : Bool) → is_flag (flag b) ≡ true
is-flag true = refl
is-flag false = refl

stream-numbers : (k position : ℕ) (writes : Bool) → 1 ≤ k → k ≤ 17 → position < 2 ^ 32 → are_stream_numbers k (flag writes) position ≡ true
stream-numbers k position writes low high few =
    let a : nat_le 1 k ≡ true = grind (arith, nat_tests) in
    let b : nat_le k 17 ≡ true = grind (arith, nat_tests) in
    let c : nat_lt position (2 ^ 32) ≡ true = grind (arith, nat_tests) in
    and_from _ _ (and_from _ _ (and_from _ _ a b) (is-flag writes)) c

-- its name is lawful, and its position is a word
abbrev IsFit : Stream → Type 0
IsFit s = (is_name s.name ≡ true) × (s.position < 2 ^ 32)

numbered-fit : (ss : List (Option Stream)) (k floor : ℕ) → floor ≤ k → 1 ≤ k → k + length ss ≤ 18 → ((i : ℕ) (s : Stream) → slice_index_or ss i None ≡ Some s → IsFit s) → AreStreams floor (with_places saved_stream k ss)
numbered-fit [] k floor low one few fit = tt
numbered-fit (None ∷ ss) k floor low one few fit = numbered-fit ss (k + 1) floor (omega (arith, low)) (omega arith) (omega (arith, few)) (λ i s e. fit (suc i) s e)
numbered-fit (Some s ∷ ss) k floor low one few fit =
    let is = fit 0 s refl in
    (low, (stream-numbers k s.position s.writes one (omega (arith, few)) is.1, is.0), numbered-fit ss (k + 1) (k + 1) (omega arith) (omega arith) (omega (arith, few)) (λ i t e. fit (suc i) t e))

pub are-streams : (d : Disc) → IsDisc d → AreStreams 0 (numbered_streams d.streams)
are-streams d valid =
    numbered-fit d.streams 1 0 (omega arith) (omega arith) (let n = valid.numbers in omega (arith, n)) fits
  where
    behind : (i : ℕ) → stream_at d (suc i) ≡ slice_index_or d.streams i None
    behind i =
        let low : suc i - 1 ≡ i = omega arith in
        ap (λ b. cond b None (slice_index_or d.streams (suc i - 1) None)) (ne_eqb (suc i) 0 (λ e. omega (arith, e))) ∙ ap (λ (n : ℕ). slice_index_or d.streams n None) low

    fits : (i : ℕ) (s : Stream) → slice_index_or d.streams i None ≡ Some s → IsFit s
    fits i s e =
        let valid-stream = valid.streams (suc i) s (behind i ∙ e) in
        let few = few-bytes s.name d.files in
        (named-lawful s.name d.files valid.lawful valid-stream.is_there, omega (arith, valid-stream.within, few, valid.room))

-- ---- pipes

pipe-numbers : (k : ℕ) (r w e : Bool) → 1 ≤ k → k ≤ 8 → are_pipe_numbers k (flag r) (flag w) (flag e) ≡ true
pipe-numbers k r w e low high =
    let a : nat_le 1 k ≡ true = grind (arith, nat_tests) in
    let b : nat_le k 8 ≡ true = grind (arith, nat_tests) in
    and_from _ _ (and_from _ _ (and_from _ _ (and_from _ _ a b) (is-flag r)) (is-flag w)) (is-flag e)

numbered-named : (ps : List (Option Pipe)) (k floor : ℕ) → floor ≤ k → 1 ≤ k → k + length ps ≤ 9 → ((i : ℕ) (p : Pipe) → slice_index_or ps i None ≡ Some p → IsName p.name) → ArePipes floor (with_places saved_pipe k ps)
numbered-named [] k floor low one few named = tt
numbered-named (None ∷ ps) k floor low one few named = numbered-named ps (k + 1) floor (omega (arith, low)) (omega arith) (omega (arith, few)) (λ i p e. named (suc i) p e)
numbered-named (Some p ∷ ps) k floor low one few named =
    (low, (pipe-numbers k p.reading p.writing p.written one (omega (arith, few)), is_name-from p.name (named 0 p refl)), numbered-named ps (k + 1) (k + 1) (omega arith) (omega arith) (omega (arith, few)) (λ i q e. named (suc i) q e))

pub are-pipes : (ps : List (Option Pipe)) → AreKeptPipes ps → ArePipes 0 (numbered_pipes ps)
are-pipes ps h = numbered-named ps 1 0 (omega arith) (omega arith) (let n = h.places in omega (arith, n)) (λ i p e. (h.each i p e).name)
