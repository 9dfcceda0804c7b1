-- The disc once a session's files are on it: it is valid, and no stream is open.
use Rattle.std.proofs.Common.{◌≡◌, ℕ, zero, suc, ◌+◌, ◌-◌, ◌<◌, ◌≤◌, List, [], ◌∷◌, ◌++◌, length, map, get_or, cond, eqb, ltb, not, Bool, true, false, Option, None, Result, Ok, Err, replicate, inl, inr, refl, sym, ap, ◌∙◌, subst, arith}
use Rattle.std.specs.List.{AllByRecursion, filter}
use Rattle.std.proofs.lemmas.Bool.{cases_lt, leb-true, ltb-true, true≢false}
use Rattle.std.proofs.lemmas.List.{get_or-replicate, get_or_past, length-append, length-replicate}
use Rattle.word_store.proofs.Elements.{all-append}
use Rattle.ram_disc.specs.Disc.{AreInOrder, Disc, File, IsDisc, Stream, has_file, is_before, most_files, most_sectors, most_streams, sectors_taken, stream_at}
use Rattle.ram_disc.specs.DiscCalls.{file, has_room, with_bytes, with_file}
use Rattle.ram_disc.specs.Name.{IsName}
use Rattle.ram_disc.proofs.NameOrder.{is_before-back, is_before-trans}
use Rattle.session_text.specs.Canonical.{IsLawfulForm}
use Rattle.session_text.specs.declared.sessions.LineForm.{LineForm}
use Rattle.session_text.specs.declared.sessions.LineForm.TheVariants.{Code, File as FileForm, Task}
use Rattle.session_text.specs.declared.sessions.SessionLine.{SessionLine}
use Rattle.ram_disc.proofs.NameLemmas.{IsName-from_test}
use Rattle.kernel_calls.specs.CallAnswers.Refusals.{first_refusal}
use Rattle.kernel_model.specs.KernelRecord.Between.{AreShut}
use Rattle.kernel_boot.specs.BootFiles.{HasNoStreams, at_line, disc_or_code, load_files, load_form, with_new_file}

-- ---- places where nothing is

pub none-at : {X : Type 0} (n i : ℕ) → get_or {A = Option X} (replicate n None) i None ≡ None
none-at {X} n i =
    elim (cases_lt i n) [
      | inl low ↦ get_or-replicate n i None None low
      | inr high ↦ get_or_past (replicate n None) i None (omega (arith, high, length-replicate {A = Option X} n None))
    ]

pub no-stream : (d : Disc) (k : ℕ) → HasNoStreams d → stream_at d k ≡ None
no-stream d k none = on (eqb k 0)
  where
    on : (b : Bool) → cond b None (get_or d.streams (k - 1) None) ≡ None
    on true = refl
    on false = ap (λ ss. get_or ss (k - 1) None) none ∙ none-at {X = Stream} most_streams (k - 1)

-- ---- files in the order of their names

abbrev names : List File → List (List ℕ)
names gs = map (λ f. f.name) gs

-- all their names come after this one
abbrev AreBehind : List ℕ → List File → Type 0
AreBehind name gs = AllByRecursion (λ other. is_before name other ≡ true) (names gs)

abbrev AreSorted : List File → Type 0
AreSorted gs = AreInOrder (names gs)

behind-filter : (name : List ℕ) (q : File → Bool) (gs : List File) → AreBehind name gs → AreBehind name (filter q gs)
behind-filter name q [] all = tt
behind-filter name q (g ∷ gs) all = on (q g) (behind-filter name q gs all.1)
  where
    on : (b : Bool) → AreBehind name (filter q gs) → AreBehind name (cond b (g ∷ filter q gs) (filter q gs))
    on true more = (all.0, more)
    on false more = more

behind-append : (name : List ℕ) (gs hs : List File) → AreBehind name gs → AreBehind name hs → AreBehind name (gs ++ hs)
behind-append name [] hs some all = all
behind-append name (g ∷ gs) hs some all = (some.0, behind-append name gs hs some.1 all)

behind-further : (name other : List ℕ) (gs : List File) → is_before name other ≡ true → AreBehind other gs → AreBehind name gs
behind-further name other [] before all = tt
behind-further name other (g ∷ gs) before all = (is_before-trans name other g.name before all.0, behind-further name other gs before all.1)

behind-self : (name : List ℕ) (gs : List File) → AreBehind name (filter (λ g. is_before name g.name) gs)
behind-self name [] = tt
behind-self name (g ∷ gs) = on (is_before name g.name) refl (behind-self name gs)
  where
    on : (b : Bool) → is_before name g.name ≡ b → AreBehind name (filter (λ g. is_before name g.name) gs)
        → AreBehind name (cond b (g ∷ filter (λ g. is_before name g.name) gs) (filter (λ g. is_before name g.name) gs))
    on true e more = (e, more)
    on false e more = more

sorted-filter : (q : File → Bool) (gs : List File) → AreSorted gs → AreSorted (filter q gs)
sorted-filter q [] all = tt
sorted-filter q (g ∷ gs) all = on (q g) (sorted-filter q gs all.1)
  where
    on : (b : Bool) → AreSorted (filter q gs) → AreSorted (cond b (g ∷ filter q gs) (filter q gs))
    on true more = (behind-filter g.name q gs all.0, more)
    on false more = more

sorted-append : (gs hs : List File) → AreSorted gs → AreSorted hs → AllByRecursion (λ g. AreBehind g.name hs) gs → AreSorted (gs ++ hs)
sorted-append [] hs front back all = back
sorted-append (g ∷ gs) hs front back all = (behind-append g.name gs hs front.0 all.0, sorted-append gs hs front.1 back all.1)

-- those before a name are before all that are behind it
each-before : (name : List ℕ) (hs gs : List File) → ((g : File) → is_before g.name name ≡ true → AreBehind g.name hs) → AllByRecursion (λ g. AreBehind g.name hs) (filter (λ g. is_before g.name name) gs)
each-before name hs [] each = tt
each-before name hs (g ∷ gs) each = on (is_before g.name name) refl (each-before name hs gs each)
  where
    on : (b : Bool) → is_before g.name name ≡ b → AllByRecursion (λ g. AreBehind g.name hs) (filter (λ g. is_before g.name name) gs)
        → AllByRecursion (λ g. AreBehind g.name hs) (cond b (g ∷ filter (λ g. is_before g.name name) gs) (filter (λ g. is_before g.name name) gs))
    on true e more = (each g e, more)
    on false e more = more

-- ---- a file more

all-filter : (P : File → Type 0) (q : File → Bool) (gs : List File) → AllByRecursion P gs → AllByRecursion P (filter q gs)
all-filter P q [] all = tt
all-filter P q (g ∷ gs) all = on (q g) (all-filter P q gs all.1)
  where
    on : (b : Bool) → AllByRecursion P (filter q gs) → AllByRecursion P (cond b (g ∷ filter q gs) (filter q gs))
    on true more = (all.0, more)
    on false more = more

module _ (name : List ℕ) where
  abbrev before : File → Bool
  before g = is_before g.name name

  abbrev after : File → Bool
  after g = is_before name g.name

  few-around : (gs : List File) → length (filter before gs) + length (filter after gs) ≤ length gs
  few-around [] = omega arith
  few-around (g ∷ gs) = on (before g) (after g) refl refl (few-around gs)
    where
      on : (b c : Bool) → before g ≡ b → after g ≡ c → length (filter before gs) + length (filter after gs) ≤ length gs
          → length (cond b (g ∷ filter before gs) (filter before gs)) + length (cond c (g ∷ filter after gs) (filter after gs)) ≤ length (g ∷ gs)
      on true true e f more = absurd (true≢false (sym f ∙ is_before-back g.name name e))
      on true false e f more = omega (arith, more)
      on false true e f more = omega (arith, more)
      on false false e f more = omega (arith, more)

  module _ (bytes : List ℕ) where
    abbrev new : File
    new = file name bytes

    sorted-with : (gs : List File) → AreSorted gs → AreSorted (with_file new gs)
    sorted-with gs all =
        sorted-append (filter before gs) (new ∷ filter after gs) (sorted-filter before gs all) (behind-self name gs, sorted-filter after gs all)
        (each-before name (new ∷ filter after gs) gs (λ g e. (e, behind-further g.name name (filter after gs) e (behind-self name gs))))

    length-with : (gs : List File) → length (with_file new gs) ≤ length gs + 1
    length-with gs = omega (arith, few-around gs, length-append (filter before gs) (new ∷ filter after gs))

    all-with : (P : File → Type 0) (gs : List File) → P new → AllByRecursion P gs → AllByRecursion P (with_file new gs)
    all-with P gs one all = all-append P (filter before gs) (new ∷ filter after gs) (all-filter P before gs all) (one, all-filter P after gs all)

-- ---- the files of a session

-- a disc between two files
pub record IsShutDisc (d : Disc) : Type 0 where
  pub valid : IsDisc d
  pub shut : HasNoStreams d

module _ (d : Disc) (h : IsShutDisc d) (name bytes : List ℕ) (lawful : IsName name) where
  shut-with : length d.files < most_files → sectors_taken (with_bytes d name bytes).files ≤ most_sectors → IsShutDisc (with_bytes d name bytes)
  shut-with few room = record {
    valid = record {
      in_order = sorted-with name bytes d.files h.valid.in_order;
      lawful = all-with name bytes (λ f. IsName f.name) d.files lawful h.valid.lawful;
      few = omega (arith, few, length-with name bytes d.files);
      room = room;
      numbers = h.valid.numbers;
      streams = λ k s e. (let none = no-stream (with_bytes d name bytes) k h.shut in cc);
    };
    shut = h.shut;
  }

  new-file : (e : Disc) → with_new_file d name bytes ≡ Ok e → IsShutDisc e
  new-file e is = on (not (has_file d name)) (ltb (length d.files) most_files) (has_room (with_bytes d name bytes)) refl refl is
    where
      on : (a b c : Bool) → ltb (length d.files) most_files ≡ b → has_room (with_bytes d name bytes) ≡ c
          → disc_or_code (first_refusal ((a, 42) ∷ (b, 44) ∷ (c, 43) ∷ [])) (with_bytes d name bytes) ≡ Ok e → IsShutDisc e
      on true true true few room f =
          let same : with_bytes d name bytes ≡ e = cc in
          subst IsShutDisc same (shut-with (ltb-true (length d.files) most_files few) (leb-true (sectors_taken (with_bytes d name bytes).files) most_sectors room))
      on false b c few room f = cc
      on true false c few room f = cc
      on true true false few room f = cc

form-shut : (version : ℕ) (d e : Disc) (form : LineForm) → IsLawfulForm false version form → IsShutDisc d → load_form d form ≡ Ok e → IsShutDisc e
form-shut version d e (FileForm name bytes) lawful h is = new-file d h name bytes (IsName-from_test name lawful.0) e is
form-shut version d e (Code bytes) lawful h is = (let same : d ≡ e = cc in subst IsShutDisc same h)
form-shut version d e (Task id pri stack ns) lawful h is = (let same : d ≡ e = cc in subst IsShutDisc same h)

pub files-shut : (version : ℕ) (lines : List SessionLine) (d e : Disc) → AllByRecursion (λ line. IsLawfulForm false version line.form) lines → IsShutDisc d → load_files d lines ≡ Ok e → IsShutDisc e
files-shut version [] d e lawful h is = (let same : d ≡ e = cc in subst IsShutDisc same h)
files-shut version (line ∷ lines) d e lawful h is = on (λ c shut more. files-shut version lines c e lawful.1 shut more) (load_form d line.form) refl is
  where
    on : ((c : Disc) → IsShutDisc c → load_files c lines ≡ Ok e → IsShutDisc e) → (r : Result Disc ℕ) → load_form d line.form ≡ r → at_line line.line r (λ c. load_files c lines) ≡ Ok e → IsShutDisc e
    on more (Ok c) f g = more c (form-shut version d c line.form lawful.0 h f) g
    on more (Err code) f g = cc

-- no stream is open
pub none-shut : (n : ℕ) → AreShut (replicate n None)
none-shut zero = tt
none-shut (suc n) = (refl, none-shut n)
