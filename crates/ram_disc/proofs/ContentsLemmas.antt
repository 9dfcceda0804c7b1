-- The bytes of slots.
use Rattle.std.proofs.Common.{◌≡◌, ◌≢◌, ℕ, ◌+◌, ◌-◌, ◌*◌, ◌/◌, ◌%◌, ◌<◌, ◌≤◌, List, [], ◌++◌, length, get_or, set, take, drop, replicate, sym, ap, ◌∙◌, subst, arith, inl, inr}
use Rattle.std.specs.List.{between}
use Rattle.std.proofs.lemmas.Bool.{cases_eq, cases_lt}
use Rattle.std.proofs.lemmas.List.{append_assoc, ext_get_or, get_or-append_right, get_or-drop, get_or-set_other, get_or-set_same, get_or-replicate, get_or-take, get_or_append_left, length-append, length-drop, length-replicate, length-set, length-take-le, set-set}
use Rattle.std.proofs.lemmas.List.Edits.{get_or-between, length-between}
use Rattle.std.proofs.lemmas.List.FromFn.{get_or-map-range_with_len, length-map-range_with_len}
use Rattle.std.proofs.lemmas.List.Sums.{get_or-le-sum_by}
use Rattle.word_store.specs.Count.{times}
use Rattle.ram_disc.specs.Chain.{AreApart, Chains, times_in}
use Rattle.ram_disc.specs.Contents.{Adds, Area, IsArea, Reserves, all_bytes, bytes_at, bytes_in, place_in, with_piece}
use Rattle.ram_disc.specs.Disc.{most_files, most_sectors, sectors_of}
use Rattle.ram_disc.proofs.ChainLemmas.{places-differ, times-get_or}
use Rattle.ram_disc.proofs.PutBytes.{get_or-with_piece, get_or-with_piece_other, length-with_piece}
use Rattle.ram_disc.proofs.SectorLemmas.{one-count, two-counts}

pub length-bytes : (stored chain : List ℕ) (n : ℕ) → length (bytes_in stored chain n) ≡ n
unfolding bytes_in
length-bytes stored chain n = length-map-range_with_len _ 0 n

pub get_or-bytes : (stored chain : List ℕ) (n p : ℕ) → p < n → get_or (bytes_in stored chain n) p 0 ≡ get_or stored (place_in chain p) 0
unfolding bytes_in
get_or-bytes stored chain n p h = get_or-map-range_with_len (λ q. get_or stored (place_in chain q) 0) 0 n p p 0 h (omega arith)

pub length-all_bytes : (stored : List ℕ) (chains : List (List ℕ)) (sizes : List ℕ) → length (all_bytes stored chains sizes) ≡ length sizes
unfolding all_bytes
length-all_bytes stored chains sizes = length-map-range_with_len _ 0 (length sizes)

pub get_or-all_bytes : (stored : List ℕ) (chains : List (List ℕ)) (sizes : List ℕ) (i : ℕ) → i < length sizes
    → get_or (all_bytes stored chains sizes) i [] ≡ bytes_in stored (get_or chains i []) (get_or sizes i 0)
unfolding all_bytes
get_or-all_bytes stored chains sizes i h =
    get_or-map-range_with_len (λ j. bytes_in stored (get_or chains j []) (get_or sizes j 0)) 0 (length sizes) i i [] h (omega arith)

-- the number of a slot's bytes
pub length-slot : (stored : List ℕ) (chains : List (List ℕ)) (sizes : List ℕ) (i : ℕ) → i < length sizes
    → length (get_or (all_bytes stored chains sizes) i []) ≡ get_or sizes i 0
length-slot stored chains sizes i h =
    ap length (get_or-all_bytes stored chains sizes i h) ∙ length-bytes stored (get_or chains i []) (get_or sizes i 0)

-- byte p of a slot
pub get_or-slot : (stored : List ℕ) (chains : List (List ℕ)) (sizes : List ℕ) (i p : ℕ) → i < length sizes → p < get_or sizes i 0
    → get_or (get_or (all_bytes stored chains sizes) i []) p 0 ≡ get_or stored (place_in (get_or chains i []) p) 0
get_or-slot stored chains sizes i p h k =
    ap (λ xs. get_or xs p 0) (get_or-all_bytes stored chains sizes i h) ∙ get_or-bytes stored (get_or chains i []) (get_or sizes i 0) p k

-- bytes that are in places with the same bytes are the same
pub bytes-agree : (stored other chain chain' : List ℕ) (n : ℕ)
    → ((p : ℕ) → p < n → get_or other (place_in chain' p) 0 ≡ get_or stored (place_in chain p) 0)
    → bytes_in other chain' n ≡ bytes_in stored chain n
bytes-agree stored other chain chain' n each =
    ext_get_or 0 (bytes_in other chain' n) (bytes_in stored chain n) (length-bytes other chain' n ∙ sym (length-bytes stored chain n))
    (λ p h. let lt : p < n = omega (arith, h, length-bytes other chain' n) in
    get_or-bytes other chain' n p lt ∙ each p lt ∙ sym (get_or-bytes stored chain n p lt))

-- different places of sectors, or different sectors, make different places
pub same-place : (s t p q : ℕ) → 512 * s + p % 512 ≡ 512 * t + q % 512 → s ≡ t
same-place s t p q e = omega arith

-- the places of two bytes in one chain differ
pub places-in : (chain : List ℕ) (p q : ℕ) → ((a : ℕ) → times a chain ≤ 1) → p / 512 < length chain → q / 512 < length chain → p ≢ q
    → place_in chain p ≢ place_in chain q
places-in chain p q once h k ne same =
    elim (cases_eq (p / 512) (q / 512)) [
      | inl e ↦ (let f : get_or chain (p / 512) 0 ≡ get_or chain (q / 512) 0 = ap (λ i. get_or chain i 0) e in ne (omega (arith, same, f, e)))
      | inr other ↦ places-differ chain (p / 512) (q / 512) once h k other (same-place (get_or chain (p / 512) 0) (get_or chain (q / 512) 0) p q same)
    ]

-- and so do those in the chains of two slots
pub places-apart : (chains : List (List ℕ)) (i j p q : ℕ) → ((a : ℕ) → times_in a chains ≤ 1) → i ≢ j → i < length chains → j < length chains
    → p / 512 < length (get_or chains i []) → q / 512 < length (get_or chains j []) → place_in (get_or chains i []) p ≢ place_in (get_or chains j []) q
places-apart chains i j p q once ne hi hj h k same =
    let x = get_or chains i [] in
    let y = get_or chains j [] in
    let e = same-place (get_or x (p / 512) 0) (get_or y (q / 512) 0) p q same in
    let some : 0 < times (get_or y (q / 512) 0) x = subst (λ z. 0 < times z x) e (times-get_or x (p / 512) h) in
    omega (arith, some, times-get_or y (q / 512) k, once (get_or y (q / 512) 0), two-counts (get_or y (q / 512) 0) i j chains ne hi hj)

-- what the chain of a slot has
pub apart-below : (c : Chains) (i k : ℕ) → AreApart c → i < length c.chains → k < length (get_or c.chains i [])
    → get_or (get_or c.chains i []) k 0 < most_sectors
apart-below c i k apart h within =
    let x = get_or c.chains i [] in
    apart.below (get_or x k 0) (omega (arith, times-get_or x k within, one-count (get_or x k 0) i c.chains h))

pub slot-once : (c : Chains) (i : ℕ) → AreApart c → i < length c.chains → (a : ℕ) → times a (get_or c.chains i []) ≤ 1
slot-once c i apart h a = omega (arith, apart.once a, one-count a i c.chains h)

-- a byte of a slot is among the disc's bytes
pub place-inside : (stored : List ℕ) (c : Chains) (sizes : List ℕ) (i p : ℕ) → IsArea stored c sizes → i < length sizes → p < get_or sizes i 0
    → place_in (get_or c.chains i []) p < length stored
place-inside stored c sizes i p area h within =
    let lt : p / 512 < length (get_or c.chains i []) = omega (arith, area.lengths i h) in
    omega (arith, area.size, apart-below c i (p / 512) area.apart (omega (arith, area.slots, area.apart.slots)) lt)

-- the size of a slot is at most that of the whole disc
pub size-below : (stored : List ℕ) (c : Chains) (sizes : List ℕ) (i : ℕ) → IsArea stored c sizes → i < length sizes → get_or sizes i 0 ≤ 512 * most_sectors
size-below stored c sizes i area h = omega (arith, area.lengths i h, area.apart.all, get_or-le-sum_by length c.chains i [] (omega (arith, area.slots, area.apart.slots, h)))

-- so many bytes of a slot, none of them in another sector, are in a row
pub piece-is : (stored : List ℕ) (chains : List (List ℕ)) (sizes : List ℕ) (i p n at : ℕ) → i < length sizes → p + n ≤ get_or sizes i 0 → p % 512 + n ≤ 512
    → at ≡ place_in (get_or chains i []) p → at + n ≤ length stored → between at (at + n) stored ≡ take n (drop p (get_or (all_bytes stored chains sizes) i []))
piece-is stored chains sizes i p n at h within inside is fits =
    let chain = get_or chains i [] in
    let xs = get_or (all_bytes stored chains sizes) i [] in
    let long : length (between at (at + n) stored) ≡ n = omega (arith, length-between stored at (at + n) fits) in
    let same : length (take n (drop p xs)) ≡ n = length-take-le n (drop p xs) (omega (arith, within, length-slot stored chains sizes i h, length-drop p xs)) in
    ext_get_or 0 (between at (at + n) stored) (take n (drop p xs)) (long ∙ sym same) (λ k more.
    let lt : k < n = omega (arith, more, long) in
    let row : (p + k) / 512 ≡ p / 512 = omega (arith, lt, inside) in
    let sector : get_or chain ((p + k) / 512) 0 ≡ get_or chain (p / 512) 0 = ap (λ r. get_or chain r 0) row in
    let place : at + k ≡ place_in chain (p + k) = omega (arith, is, sector, lt, inside) in
    get_or-between stored at (at + n) k 0 (omega (arith, lt)) ∙ ap (λ q. get_or stored q 0) place
    ∙ sym (get_or-take n (drop p xs) k 0 lt ∙ get_or-drop p xs k 0 ∙ get_or-slot stored chains sizes i (p + k) h (omega (arith, within, lt))))

-- and they are among the disc's bytes
pub row-inside : (stored : List ℕ) (c : Chains) (sizes : List ℕ) (i p n at : ℕ) → IsArea stored c sizes → i < length sizes → 0 < n → p + n ≤ get_or sizes i 0 → p % 512 + n ≤ 512
    → at ≡ place_in (get_or c.chains i []) p → at + n ≤ length stored
row-inside stored c sizes i p n at area h some within inside is =
    omega (
      arith,
      area.size,
      inside,
      is,
      apart-below c i (p / 512) area.apart (omega (arith, area.slots, area.apart.slots, h)) (omega (arith, area.lengths i h, some, within)),
    )

-- more bytes of a slot, for which one sector has room
module _ (stored : List ℕ) (c c' : Chains) (sizes : List ℕ) (slot n sector : ℕ) (more : List ℕ) where
  abbrev At : ℕ
  At = 512 * sector + n % 512

  abbrev Written : List ℕ
  Written = with_piece stored At more

  abbrev Sizes : List ℕ
  Sizes = set sizes slot (n + length more)

  pub record Pushes : Type 0 where
    pub area : IsArea stored c sizes
    pub reserves : Reserves c c' slot n sector
    pub inside : slot < length sizes
    pub is : get_or sizes slot 0 ≡ n
    pub some : 0 < length more
    pub fits : n % 512 + length more ≤ 512

  abbrev chain : List ℕ
  chain = get_or c'.chains slot []

  size-new : Pushes → length chain ≡ sectors_of (n + length more)
  size-new g = omega (arith, g.reserves.size, g.some, g.fits)

  slot-new : Pushes → slot < length c'.chains
  slot-new g = omega (arith, g.reserves.apart.slots, g.area.slots, g.inside)

  -- each of the bytes is in the chain
  in-chain : Pushes → (k : ℕ) → k < length more → (n + k) / 512 < length chain
  in-chain g k h = omega (arith, size-new g, h)

  at-new : Pushes → (k : ℕ) → k < length more → At + k ≡ place_in chain (n + k)
  at-new g k h =
      let row : (n + k) / 512 ≡ n / 512 = omega (arith, h, g.fits) in
      let same : get_or chain ((n + k) / 512) 0 ≡ get_or chain (n / 512) 0 = ap (λ r. get_or chain r 0) row in
      omega (arith, g.reserves.last, same, h, g.fits)

  pub at-inside : Pushes → At + length more ≤ length stored
  at-inside g =
      let lt : n / 512 < length chain = omega (arith, g.reserves.size) in
      omega (arith, g.area.size, g.fits, g.reserves.last, apart-below c' slot (n / 512) g.reserves.apart (slot-new g) lt)

  -- the old bytes are where they stood
  old-byte : Pushes → (p : ℕ) → p < n → get_or Written (place_in chain p) 0 ≡ get_or stored (place_in (get_or c.chains slot []) p) 0
  old-byte g p h =
      let lt : p / 512 < length (get_or c.chains slot []) = omega (arith, g.area.lengths slot g.inside, g.is, h) in
      let same : place_in chain p ≡ place_in (get_or c.chains slot []) p = omega (arith, g.reserves.before (p / 512) lt) in
      let early : p / 512 < length chain = omega (arith, g.reserves.size, h) in
      get_or-with_piece_other stored At more (at-inside g) (place_in chain p)
      (λ k low e. places-in chain p (n + k) (slot-once c' slot g.reserves.apart (slot-new g)) early (in-chain g k low) (λ f. omega (arith, h, f)) (e ∙ at-new g k low))
      ∙ ap (λ q. get_or stored q 0) same

  new-byte : Pushes → (k : ℕ) → k < length more → get_or Written (place_in chain (n + k)) 0 ≡ get_or more k 0
  new-byte g k h = ap (λ q. get_or Written q 0) (sym (at-new g k h)) ∙ get_or-with_piece stored At more (at-inside g) k h

  new-bytes : Pushes → bytes_in Written chain (n + length more) ≡ bytes_in stored (get_or c.chains slot []) n ++ more
  new-bytes g =
      let new = bytes_in Written chain (n + length more) in
      let old = bytes_in stored (get_or c.chains slot []) n in
      let long = length-bytes stored (get_or c.chains slot []) n in
      ext_get_or 0 new (old ++ more) (length-bytes Written chain (n + length more) ∙ omega (arith, length-append old more, long)) (λ p h.
      let lt : p < n + length more = omega (arith, h, length-bytes Written chain (n + length more)) in
      get_or-bytes Written chain (n + length more) p lt
      ∙ elim (cases_lt p n) [
        | inl early ↦ old-byte g p early ∙ sym (get_or_append_left old more 0 p (omega (arith, early, long)) ∙ get_or-bytes stored (get_or c.chains slot []) n p early)
        | inr late ↦ (
            let place : n + (p - n) ≡ p = omega (arith, late) in
            ap (λ q. get_or Written (place_in chain q) 0) (sym place) ∙ new-byte g (p - n) (omega (arith, late, lt))
            ∙ sym (get_or-append_right old more n p 0 long late)
            )
      ])

  other-bytes : Pushes → (j : ℕ) → j < length sizes → j ≢ slot
      → bytes_in Written (get_or c'.chains j []) (get_or sizes j 0) ≡ bytes_in stored (get_or c.chains j []) (get_or sizes j 0)
  other-bytes g j h ne =
      bytes-agree stored Written (get_or c.chains j []) (get_or c'.chains j []) (get_or sizes j 0) (λ p within.
      let same = g.reserves.others j ne in
      let lt : p / 512 < length (get_or c'.chains j []) = omega (arith, g.area.lengths j h, ap length same) in
      let there : j < length c'.chains = omega (arith, g.reserves.apart.slots, g.area.slots, h) in
      get_or-with_piece_other stored At more (at-inside g) (place_in (get_or c'.chains j []) p)
      (λ k low e. places-apart c'.chains j slot p (n + k) g.reserves.apart.once ne there (slot-new g) lt (in-chain g k low) (e ∙ at-new g k low))
      ∙ ap (λ x. get_or stored (place_in x p) 0) same)

  pub push-bytes : Pushes
      → all_bytes Written c'.chains Sizes ≡ set (all_bytes stored c.chains sizes) slot (get_or (all_bytes stored c.chains sizes) slot [] ++ more)
  push-bytes g =
      let old = all_bytes stored c.chains sizes in
      let new = get_or old slot [] ++ more in
      let lo = length-all_bytes stored c.chains sizes in
      let ln = length-all_bytes Written c'.chains Sizes in
      let ls = length-set sizes slot (n + length more) in
      ext_get_or [] (all_bytes Written c'.chains Sizes) (set old slot new) (omega (arith, lo, ln, ls, length-set old slot new)) (λ j h.
      let lt : j < length sizes = omega (arith, h, ln, ls) in
      get_or-all_bytes Written c'.chains Sizes j (omega (arith, lt, ls))
      ∙ elim (cases_eq j slot) [
        | inl e ↦ (
            let size : get_or Sizes j 0 ≡ n + length more = ap (λ i. get_or Sizes i 0) e ∙ get_or-set_same sizes slot (n + length more) 0 g.inside in
            let was : get_or old slot [] ≡ bytes_in stored (get_or c.chains slot []) n =
            get_or-all_bytes stored c.chains sizes slot g.inside ∙ ap (bytes_in stored (get_or c.chains slot [])) g.is in
            let now : get_or (set old slot new) j [] ≡ new =
            ap (λ i. get_or (set old slot new) i []) e ∙ get_or-set_same old slot new [] (omega (arith, lo, g.inside)) in
            ap (bytes_in Written (get_or c'.chains j [])) size ∙ ap (λ i. bytes_in Written (get_or c'.chains i []) (n + length more)) e
            ∙ new-bytes g ∙ ap (λ xs. xs ++ more) (sym was) ∙ sym now
            )
        | inr ne ↦ (
            let size : get_or Sizes j 0 ≡ get_or sizes j 0 = get_or-set_other sizes slot j (n + length more) 0 ne in
            ap (bytes_in Written (get_or c'.chains j [])) size ∙ other-bytes g j lt ne
            ∙ sym (get_or-all_bytes stored c.chains sizes j lt) ∙ sym (get_or-set_other old slot j new [] ne)
            )
      ])

  pub push-area : Pushes → IsArea Written c' Sizes
  push-area g = record {
    apart = g.reserves.apart;
    size = length-with_piece stored At more (at-inside g) ∙ g.area.size;
    slots = length-set sizes slot (n + length more) ∙ g.area.slots;
    lengths = λ j h.
        let lt : j < length sizes = omega (arith, h, length-set sizes slot (n + length more)) in
        elim (cases_eq j slot) [
          | inl e ↦ ap (λ i. length (get_or c'.chains i [])) e ∙ size-new g
              ∙ ap sectors_of (sym (ap (λ i. get_or Sizes i 0) e ∙ get_or-set_same sizes slot (n + length more) 0 g.inside))
          | inr ne ↦ ap length (g.reserves.others j ne) ∙ g.area.lengths j lt ∙ ap sectors_of (sym (get_or-set_other sizes slot j (n + length more) 0 ne))
        ];
  }

-- a slot is emptied
module _ (stored : List ℕ) (c c' : Chains) (sizes : List ℕ) (slot : ℕ) where
  pub record Clears : Type 0 where
    pub area : IsArea stored c sizes
    pub inside : slot < length sizes
    pub chains : c'.chains ≡ set c.chains slot []
    pub apart : AreApart c'

  chain-cleared : Clears → (j : ℕ) → j ≢ slot → get_or c'.chains j [] ≡ get_or c.chains j []
  chain-cleared g j ne = ap (λ xs. get_or xs j []) g.chains ∙ get_or-set_other c.chains slot j [] [] ne

  slot-cleared : Clears → get_or c'.chains slot [] ≡ []
  slot-cleared g = ap (λ xs. get_or xs slot []) g.chains ∙ get_or-set_same c.chains slot [] [] (omega (arith, g.area.slots, g.area.apart.slots, g.inside))

  pub clear-bytes : Clears → all_bytes stored c'.chains (set sizes slot 0) ≡ set (all_bytes stored c.chains sizes) slot []
  unfolding bytes_in
  clear-bytes g =
      let old = all_bytes stored c.chains sizes in
      let lo = length-all_bytes stored c.chains sizes in
      let ln = length-all_bytes stored c'.chains (set sizes slot 0) in
      let ls = length-set sizes slot 0 in
      ext_get_or [] (all_bytes stored c'.chains (set sizes slot 0)) (set old slot []) (omega (arith, lo, ln, ls, length-set old slot [])) (λ j h.
      let lt : j < length sizes = omega (arith, h, ln, ls) in
      get_or-all_bytes stored c'.chains (set sizes slot 0) j (omega (arith, lt, ls))
      ∙ elim (cases_eq j slot) [
        | inl e ↦ (
            let size : get_or (set sizes slot 0) j 0 ≡ 0 = ap (λ i. get_or (set sizes slot 0) i 0) e ∙ get_or-set_same sizes slot 0 0 g.inside in
            ap (bytes_in stored (get_or c'.chains j [])) size
            ∙ sym (ap (λ i. get_or (set old slot []) i []) e ∙ get_or-set_same old slot [] [] (omega (arith, lo, g.inside)))
            )
        | inr ne ↦ (
            let size : get_or (set sizes slot 0) j 0 ≡ get_or sizes j 0 = get_or-set_other sizes slot j 0 0 ne in
            ap (bytes_in stored (get_or c'.chains j [])) size ∙ ap (λ x. bytes_in stored x (get_or sizes j 0)) (chain-cleared g j ne)
            ∙ sym (get_or-all_bytes stored c.chains sizes j lt) ∙ sym (get_or-set_other old slot j [] [] ne)
            )
      ])

  pub clear-area : Clears → IsArea stored c' (set sizes slot 0)
  clear-area g = record {
    apart = g.apart;
    size = g.area.size;
    slots = length-set sizes slot 0 ∙ g.area.slots;
    lengths = λ j h.
        let lt : j < length sizes = omega (arith, h, length-set sizes slot 0) in
        elim (cases_eq j slot) [
          | inl e ↦ ap (λ i. length (get_or c'.chains i [])) e ∙ ap length (slot-cleared g)
              ∙ ap sectors_of (sym (ap (λ i. get_or (set sizes slot 0) i 0) e ∙ get_or-set_same sizes slot 0 0 g.inside))
          | inr ne ↦ ap length (chain-cleared g j ne) ∙ g.area.lengths j lt ∙ ap sectors_of (sym (get_or-set_other sizes slot j 0 0 ne))
        ];
  }

-- bytes come behind those of a slot, and others behind them
pub Adds-more : (old now new : Area) (slot : ℕ) (some more : List ℕ) → slot < length old.bytes → Adds old now slot some → Adds now new slot more
    → Adds old new slot (some ++ more)
Adds-more old now new slot some more h first second =
    let here : bytes_at now slot ≡ bytes_at old slot ++ some =
    ap (λ xs. get_or xs slot []) first.bytes ∙ get_or-set_same old.bytes slot (bytes_at old slot ++ some) [] h in
    let lens : length (bytes_at now slot) ≡ length (bytes_at old slot) + length some = ap length here ∙ length-append (bytes_at old slot) some in
    record {
      bytes = second.bytes ∙ ap (λ xs. set xs slot (bytes_at now slot ++ more)) first.bytes
          ∙ set-set old.bytes slot (bytes_at old slot ++ some) (bytes_at now slot ++ more)
          ∙ ap (λ xs. set old.bytes slot (xs ++ more)) here
          ∙ ap (set old.bytes slot) (append_assoc (bytes_at old slot) some more);
      others = λ j ne. second.others j ne ∙ first.others j ne;
      left = omega (arith, first.left, second.left, lens, length-append some more);
    }

-- slots with no bytes
pub area-new : (stored : List ℕ) (c : Chains) (k : ℕ) → k ≡ most_files → length stored ≡ 512 * most_sectors
    → c ≡ record { chains = replicate most_files []; left = most_sectors } → AreApart c → IsArea stored c (replicate k 0)
area-new stored c k e size is apart = record {
  apart = apart;
  size = size;
  slots = length-replicate {A = ℕ} k 0 ∙ e;
  lengths = λ i h.
      let lt : i < most_files = omega (arith, h, length-replicate {A = ℕ} k 0, e) in
      let under : i < k = omega (arith, h, length-replicate {A = ℕ} k 0) in
      ap (λ (x : Chains). length (get_or x.chains i [])) is ∙ ap length (get_or-replicate {A = List ℕ} most_files i [] [] lt)
      ∙ ap sectors_of (sym (get_or-replicate {A = ℕ} k i 0 0 under));
}

abbrev pub area : List (List ℕ) → List (List ℕ) → ℕ → Area
area chains bytes left = record { chains = chains; bytes = bytes; left = left }

pub bytes-new : (stored : List ℕ) (c : Chains) (k : ℕ) → c ≡ record { chains = replicate most_files []; left = most_sectors }
    → area c.chains (all_bytes stored c.chains (replicate k 0)) c.left ≡ area (replicate most_files []) (replicate k []) most_sectors
unfolding bytes_in
bytes-new stored c k is =
    let none : all_bytes stored c.chains (replicate k 0) ≡ replicate k [] =
    ext_get_or [] (all_bytes stored c.chains (replicate k 0)) (replicate k [])
    (length-all_bytes stored c.chains (replicate k 0) ∙ length-replicate {A = ℕ} k 0 ∙ sym (length-replicate {A = List ℕ} k []))
    (λ i h. let lt : i < k = omega (arith, h, length-all_bytes stored c.chains (replicate k 0), length-replicate {A = ℕ} k 0) in
    get_or-all_bytes stored c.chains (replicate k 0) i (omega (arith, lt, length-replicate {A = ℕ} k 0))
    ∙ ap (bytes_in stored (get_or c.chains i [])) (get_or-replicate {A = ℕ} k i 0 0 lt)
    ∙ sym (get_or-replicate {A = List ℕ} k i [] [] lt)) in
    ap (λ bs. area c.chains bs c.left) none ∙ ap (λ (x : Chains). area x.chains (replicate k []) x.left) is
