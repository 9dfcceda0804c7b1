-- The files and pipes that are kept for the states of a past: how a step, a cut and a way back keep them.
use Rattle.std.proofs.Common.{◌≡◌, ℕ, suc, ◌+◌, ◌-◌, ◌<◌, ◌≤◌, true, false, List, [], ◌∷◌, ◌++◌, length, drop, map, refl, sym, ap, subst, ◌∙◌, arith, ◌⊎◌, inl, inr, append_assoc, append-nil, length-append}
use Rattle.std.specs.List.{AllByRecursion}
use Rattle.circular_buffer.specs.Buffer.{Buffer, buffer, keep_last}
use Rattle.debugger.proofs.UndoJournal.RingLemmas.{keep_last_all}
use Rattle.tripos_machine.specs.State.{State, steps_of}
use Rattle.debugger.specs.MachineHistory.FilesBefore.{files_at, forgotten, gone_back, second_since}
use Rattle.debugger.specs.MachineHistory.Histories.{AreFilesOf, AreInOrder, IsFull, turn_steps}
use Rattle.debugger.specs.MachineHistory.Pasts.{file_turns, is_file_turn, most_turns}
use Rattle.debugger.specs.declared.machine_history.files.KeptFiles.{KeptFiles}
use Rattle.debugger.proofs.MachineHistory.FilesThen.{After, Until, back-is, earlier-all, later-at}
use Rattle.debugger.proofs.MachineHistory.StatesInOrder.{FirstTurn, all-back, all-front, all-joined, all-turned, first-turn, has-front, order-back, order-front, order-length, turns-bounds, turns-counted, turns-joined, turns-none, turns-one}

abbrev sinces : List KeptFiles → List ℕ
sinces fs = map (λ f. f.since) fs

abbrev Early : ℕ → ℕ → List KeptFiles → Type 0
Early n size fs = AllByRecursion (λ f. f.since + size ≤ n) fs

-- ---- lists of files, by the steps

-- those that came to be in the first of some turns, and in the others
pub record Parted (fs : List KeptFiles) (xs ys : List ℕ) : Type 0 where
  pub one : List KeptFiles
  pub two : List KeptFiles
  pub is : fs ≡ one ++ two
  pub first : sinces one ≡ xs
  pub second : sinces two ≡ ys

pub parted : (fs : List KeptFiles) (xs ys : List ℕ) → sinces fs ≡ xs ++ ys → Parted fs xs ys
parted fs [] ys e = record { one = []; two = fs; is = refl; first = refl; second = e }
parted [] (x ∷ xs) ys e = cc
parted (f ∷ fs) (x ∷ xs) ys e =
    let rest = parted fs xs ys cc in
    let head : f.since ≡ x = cc in
    record { one = f ∷ rest.one; two = rest.two; is = ap (λ l. f ∷ l) rest.is; first = λ i. head i ∷ rest.first i; second = rest.second }

all-since : (P : ℕ → Type 0) (fs : List KeptFiles) (xs : List ℕ) → sinces fs ≡ xs → AllByRecursion P xs → AllByRecursion (λ f. P f.since) fs
all-since P fs xs e all = on fs (subst (AllByRecursion P) (sym e) all)
  where
    on : (fs : List KeptFiles) → AllByRecursion P (sinces fs) → AllByRecursion (λ f. P f.since) fs
    on [] all = tt
    on (f ∷ fs) all = (all.0, on fs all.1)

pub length-map-since : (fs : List KeptFiles) → length (sinces fs) ≡ length fs
length-map-since [] = refl
length-map-since (f ∷ fs) = ap suc (length-map-since fs)

sinces-joined : (fs gs : List KeptFiles) → sinces (fs ++ gs) ≡ sinces fs ++ sinces gs
sinces-joined [] gs = refl
sinces-joined (f ∷ fs) gs = ap (λ l. f.since ∷ l) (sinces-joined fs gs)

forgotten-length : (fs : List KeptFiles) → length (map forgotten fs) ≡ length fs
forgotten-length [] = refl
forgotten-length (f ∷ fs) = ap suc (forgotten-length fs)

forgotten-early : (n size : ℕ) (fs : List KeptFiles) → size ≤ n → Early n size (map forgotten fs)
forgotten-early n size [] few = tt
forgotten-early n size (f ∷ fs) few = (omega (arith, few), forgotten-early n size fs few)

forgotten-until : (n : ℕ) (fs : List KeptFiles) → Until n (map forgotten fs)
forgotten-until n [] = tt
forgotten-until n (f ∷ fs) = (omega arith, forgotten-until n fs)

-- ---- all have come to be by now

module _ (b : Buffer KeptFiles) (n : ℕ) (ss : List State) (h : AreFilesOf b n ss) (order : AreInOrder n ss) where
  pub files-until : Until n b.items
  files-until =
      let early : Until n h.older = all-turned (λ f. f.since + length ss ≤ n) (λ f. f.since ≤ n) (λ f e. omega (arith, e)) h.older h.early in
      let turns = turns-bounds n (length ss) ss (omega arith) order in
      let live : Until n h.live = all-since (λ x. x ≤ n) h.live (turn_steps ss) h.turns (all-turned (λ x. (x ≤ n) × (n < x + length ss)) (λ x. x ≤ n) (λ x e. e.0) (turn_steps ss) turns) in
      subst (Until n) h.split (all-joined (λ f. f.since ≤ n) h.older h.live early live)

-- ---- a cut

module _ (b : Buffer KeptFiles) (n : ℕ) (ss ts : List State) (h : AreFilesOf b n (ss ++ ts)) (order : AreInOrder n (ss ++ ts)) where
  pub files-cut : AreFilesOf b n ts
  files-cut =
      let p = parted h.live (turn_steps ss) (turn_steps ts) (h.turns ∙ turns-joined ss ts) in
      let f = has-front n ss ts order in
      let end = f.is in
      let turns = turns-bounds f.end (length ss) ss (omega arith) f.order in
      let older : Early n (length ts) h.older = all-turned (λ g. g.since + length (ss ++ ts) ≤ n) (λ g. g.since + length ts ≤ n) (λ g e. omega (arith, e, length-append ss ts)) h.older h.early in
      let gone : Early n (length ts) p.one = all-since (λ x. x + length ts ≤ n) p.one (turn_steps ss) p.first (all-turned (λ x. (x ≤ f.end) × (f.end < x + length ss)) (λ x. x + length ts ≤ n) (λ x e. let low = e.0 in omega (arith, low, end)) (turn_steps ss) turns) in
      let some = h.some in
      record {
        places = h.places;
        room = h.room;
        older = h.older ++ p.one;
        live = p.two;
        split = append_assoc h.older p.one p.two ∙ ap (λ l. h.older ++ l) (sym p.is) ∙ h.split;
        some = omega (arith, some, length-append h.older p.one);
        early = all-joined (λ g. g.since + length ts ≤ n) h.older p.one older gone;
        turns = p.second;
        full = all-back IsFull ss ts h.full;
      }

-- ---- a step in which files stay

module _ (b : Buffer KeptFiles) (n : ℕ) (ss : List State) (h : AreFilesOf b n ss) (s : State) (full : IsFull s) where
  pub files-stay : is_file_turn s ≡ false → AreFilesOf b (n + 1) (ss ++ s ∷ [])
  files-stay stays = record {
    places = h.places;
    room = h.room;
    older = h.older;
    live = h.live;
    split = h.split;
    some = h.some;
    early = all-turned (λ g. g.since + length ss ≤ n) (λ g. g.since + length (ss ++ s ∷ []) ≤ n + 1) (λ g e. omega (arith, e, length-append ss (s ∷ []))) h.older h.early;
    turns = h.turns ∙ sym (append-nil (turn_steps ss)) ∙ ap (λ l. turn_steps ss ++ l) (sym (turns-none s stays)) ∙ sym (turns-joined ss (s ∷ []));
    full = all-joined IsFull ss (s ∷ []) h.full (full, tt);
  }

-- ---- a step in which they may change

-- what is past once there is room for one turn more
abbrev pub with_room : ℕ → List KeptFiles → List State → List State
with_room n fs ss = keep_last (n - second_since fs) ss

-- what has gone ends in a turn, behind which there are 16 with that of the last state
pub record EndsInTurn (gone rest : List State) (s : State) : Type 0 where
  pub front : List State
  pub turn : State
  pub is : gone ≡ front ++ turn ∷ []
  pub serves : is_file_turn turn ≡ true
  pub many : file_turns (rest ++ s ∷ []) ≡ most_turns

-- the files once a turn has left these, and what is left of the past
pub record HasTurned (b : Buffer KeptFiles) (n : ℕ) (new : KeptFiles) (ss : List State) (s : State) : Type 0 where
  pub gone : List State
  pub all : gone ++ with_room n b.items ss ≡ ss
  pub needed : (gone ≡ []) ⊎ EndsInTurn gone (with_room n b.items ss) s
  -- the files are those of what is left, and of the state before the turn
  pub files : AreFilesOf (buffer (drop 1 b.items ++ new ∷ []) b.capacity) (n + 1) (with_room n b.items ss ++ s ∷ [])
  -- the second files had come to be before what is left began
  pub second : second_since b.items + length (with_room n b.items ss) ≤ n

drop-front : {X : Type 0} (xs ys : List X) → drop (length xs) (xs ++ ys) ≡ ys
drop-front [] ys = refl
drop-front (x ∷ xs) ys = drop-front xs ys

keep-back : {X : Type 0} (k : ℕ) (xs ys : List X) → k ≡ length ys → keep_last k (xs ++ ys) ≡ ys
keep-back k xs ys e = let count : length (xs ++ ys) - k ≡ length xs = omega (arith, e, length-append xs ys) in ap (λ j. drop j (xs ++ ys)) count ∙ drop-front xs ys

module _ (n : ℕ) (new : KeptFiles) (s : State) (since : new.since ≡ n + 1) (now : steps_of s ≡ n) (serves : is_file_turn s ≡ true) (full : IsFull s) where
  new-turn : (ss : List State) (live : List KeptFiles) → sinces live ≡ turn_steps ss → sinces (live ++ new ∷ []) ≡ turn_steps (ss ++ s ∷ [])
  new-turn ss live e =
      let last : sinces (new ∷ []) ≡ turn_steps (s ∷ []) = (λ i. since i ∷ []) ∙ ap (λ m. (m + 1) ∷ []) (sym now) ∙ sym (turns-one s serves) in
      sinces-joined live (new ∷ []) ∙ (λ i. e i ++ last i) ∙ sym (turns-joined ss (s ∷ []))

  -- where there are two from before, nothing has to go
  roomy : (capacity : ℕ) (ss : List State) (f g : KeptFiles) (gs live : List KeptFiles) → capacity ≡ 17 → length (f ∷ g ∷ gs ++ live) ≡ 17 → Early n (length ss) (g ∷ gs)
      → sinces live ≡ turn_steps ss → AllByRecursion IsFull ss → HasTurned (buffer (f ∷ g ∷ gs ++ live) capacity) n new ss s
  roomy capacity ss f g gs live room places early turns fulls =
      let first = early.0 in
      let same : with_room n (f ∷ g ∷ gs ++ live) ss ≡ ss = keep_last_all (n - g.since) ss (omega (arith, first)) in
      let fit : AreFilesOf (buffer ((g ∷ gs ++ live) ++ new ∷ []) capacity) (n + 1) (ss ++ s ∷ []) =
      record {
        places = length-append (g ∷ gs ++ live) (new ∷ []) ∙ omega (arith, places);
        room = room;
        older = g ∷ gs;
        live = live ++ new ∷ [];
        split = sym (append_assoc (g ∷ gs) live (new ∷ []));
        some = omega arith;
        early = all-turned (λ e. e.since + length ss ≤ n) (λ e. e.since + length (ss ++ s ∷ []) ≤ n + 1) (λ e low. omega (arith, low, length-append ss (s ∷ []))) (g ∷ gs) early;
        turns = new-turn ss live turns;
        full = all-joined IsFull ss (s ∷ []) fulls (full, tt);
      } in
      record {
        gone = [];
        all = same;
        needed = inl refl;
        files = subst (λ l. AreFilesOf (buffer ((g ∷ gs ++ live) ++ new ∷ []) capacity) (n + 1) (l ++ s ∷ [])) (sym same) fit;
        second = subst (λ l. g.since + length l ≤ n) (sym same) first;
      }

  -- where there is one, all up to the first turn goes
  narrow : (capacity : ℕ) (ss : List State) (f g : KeptFiles) (gs : List KeptFiles) → capacity ≡ 17 → length (f ∷ g ∷ gs) ≡ 17 → sinces (g ∷ gs) ≡ turn_steps ss → AllByRecursion IsFull ss → AreInOrder n ss
      → HasTurned (buffer (f ∷ g ∷ gs) capacity) n new ss s
  narrow capacity ss f g gs room places turns fulls order =
      let t : FirstTurn ss g.since (sinces gs) = first-turn ss g.since (sinces gs) (sym turns) in
      let split : (t.front ++ t.turn ∷ []) ++ t.rest ≡ ss = append_assoc t.front (t.turn ∷ []) t.rest ∙ sym t.is in
      let behind : AreInOrder n (t.turn ∷ t.rest) = order-back n t.front (t.turn ∷ t.rest) (subst (AreInOrder n) t.is order) in
      let at = behind.0 in
      let over = t.over in
      let count : n - g.since ≡ length t.rest = omega (arith, at, over) in
      let same : with_room n (f ∷ g ∷ gs) ss ≡ t.rest = ap (keep_last (n - g.since)) (sym split) ∙ keep-back (n - g.since) (t.front ++ t.turn ∷ []) t.rest count in
      let size : length gs ≡ 15 = omega (arith, places) in
      let fit : AreFilesOf (buffer ((g ∷ gs) ++ new ∷ []) capacity) (n + 1) (t.rest ++ s ∷ []) =
      record {
        places = length-append (g ∷ gs) (new ∷ []) ∙ omega (arith, places);
        room = room;
        older = g ∷ [];
        live = gs ++ new ∷ [];
        split = refl;
        some = omega arith;
        early = (omega (arith, at, over, length-append t.rest (s ∷ [])), tt);
        turns = new-turn t.rest gs (sym t.others);
        full = all-joined IsFull t.rest (s ∷ []) (all-back IsFull (t.front ++ t.turn ∷ []) t.rest (subst (AllByRecursion IsFull) (sym split) fulls)) (full, tt);
      } in
      let many : file_turns (t.rest ++ s ∷ []) ≡ most_turns =
      sym (turns-counted (t.rest ++ s ∷ [])) ∙ ap length (sym (new-turn t.rest gs (sym t.others))) ∙ length-map-since (gs ++ new ∷ []) ∙ length-append gs (new ∷ []) ∙ omega (arith, size) in
      record {
        gone = t.front ++ t.turn ∷ [];
        all = ap (λ l. (t.front ++ t.turn ∷ []) ++ l) same ∙ split;
        needed = inr (record { front = t.front; turn = t.turn; is = refl; serves = t.serves; many = ap (λ l. file_turns (l ++ s ∷ [])) same ∙ many });
        files = subst (λ l. AreFilesOf (buffer ((g ∷ gs) ++ new ∷ []) capacity) (n + 1) (l ++ s ∷ [])) (sym same) fit;
        second = subst (λ l. g.since + length l ≤ n) (sym same) (omega (arith, at, over));
      }

  parts-turned : (capacity : ℕ) (ss : List State) (older live : List KeptFiles) → capacity ≡ 17 → length (older ++ live) ≡ 17 → 0 < length older → Early n (length ss) older → sinces live ≡ turn_steps ss → AllByRecursion IsFull ss → AreInOrder n ss
      → HasTurned (buffer (older ++ live) capacity) n new ss s
  parts-turned capacity ss [] live room places some early turns fulls order = absurd (omega (arith, some))
  parts-turned capacity ss (f ∷ []) [] room places some early turns fulls order = absurd (omega (arith, places))
  parts-turned capacity ss (f ∷ []) (g ∷ gs) room places some early turns fulls order = narrow capacity ss f g gs room places turns fulls order
  parts-turned capacity ss (f ∷ g ∷ gs) live room places some early turns fulls order = roomy capacity ss f g gs live room places early.1 turns fulls

  pub files-turned : (b : Buffer KeptFiles) (ss : List State) → AreFilesOf b n ss → AreInOrder n ss → HasTurned b n new ss s
  files-turned b ss h order =
      subst (λ l. HasTurned (buffer l b.capacity) n new ss s) h.split
      (parts-turned b.capacity ss h.older h.live h.room (ap length h.split ∙ h.places) h.some h.early h.turns h.full order)

-- ---- a way back

-- the files at the state that is gone back to, and those of the states before it
pub record HasGoneBack (b : Buffer KeptFiles) (n m : ℕ) (ss : List State) : Type 0 where
  pub files : AreFilesOf (buffer (gone_back 17 m b.items) b.capacity) m ss
  -- what had stood by then is found as before
  pub same : (x : ℕ) → x ≤ m → m ≤ x + length ss → files_at x (gone_back 17 m b.items) ≡ files_at x b.items

module _ (n : ℕ) (ss ts : List State) (s : State) (order : AreInOrder n (ss ++ s ∷ ts)) where
  abbrev m : ℕ
  m = steps_of s

  parts-back : (capacity : ℕ) (older live : List KeptFiles) → capacity ≡ 17 → length (older ++ live) ≡ 17 → 0 < length older → Early n (length (ss ++ s ∷ ts)) older → sinces live ≡ turn_steps (ss ++ s ∷ ts) → AllByRecursion IsFull (ss ++ s ∷ ts)
      → HasGoneBack (buffer (older ++ live) capacity) n m ss
  parts-back capacity [] live room places some early turns fulls = absurd (omega (arith, some))
  parts-back capacity (f ∷ fs) live room places some early turns fulls =
      let older : List KeptFiles = f ∷ fs in
      let p = parted live (turn_steps ss) (turn_steps (s ∷ ts)) (turns ∙ turns-joined ss (s ∷ ts)) in
      let front : AreInOrder m ss = order-front n ss s ts order in
      let back : AreInOrder n (s ∷ ts) = order-back n ss (s ∷ ts) order in
      let at = back.0 in
      let few : length ss ≤ m = order-length m ss front in
      let before : Early m (length ss) older = all-turned (λ g. g.since + length (ss ++ s ∷ ts) ≤ n) (λ g. g.since + length ss ≤ m) (λ g e. omega (arith, e, at, length-append ss (s ∷ ts))) older early in
      let until : Until m older = all-turned (λ g. g.since + length ss ≤ m) (λ g. g.since ≤ m) (λ g e. omega (arith, e)) older before in
      let first : Until m p.one = all-since (λ x. x ≤ m) p.one (turn_steps ss) p.first (all-turned (λ x. (x ≤ m) × (m < x + length ss)) (λ x. x ≤ m) (λ x e. e.0) (turn_steps ss) (turns-bounds m (length ss) ss (omega arith) front)) in
      let rest : After m p.two = all-since (λ x. m < x) p.two (turn_steps (s ∷ ts)) p.second (all-turned (λ x. (x ≤ n) × (n < x + length (s ∷ ts))) (λ x. m < x) (λ x e. let low = e.1 in omega (arith, low, at)) (turn_steps (s ∷ ts)) (turns-bounds n (length (s ∷ ts)) (s ∷ ts) (omega arith) back)) in
      let halves : older ++ live ≡ (older ++ p.one) ++ p.two = ap (λ l. older ++ l) p.is ∙ sym (append_assoc older p.one p.two) in
      let sizes = length-append (older ++ p.one) p.two in
      let count : length (older ++ p.one) + length p.two ≡ 17 = sym sizes ∙ ap length (sym halves) ∙ places in
      let is : gone_back 17 m (older ++ live) ≡ map forgotten p.two ++ (older ++ p.one) =
      ap (gone_back 17 m) halves ∙ back-is m (older ++ p.one) p.two (omega (arith, length-append older p.one)) (all-joined (λ g. g.since ≤ m) older p.one until first) rest (omega (arith, count)) in
      let fit : AreFilesOf (buffer (map forgotten p.two ++ (older ++ p.one)) capacity) m ss =
      record {
        places = length-append (map forgotten p.two) (older ++ p.one) ∙ omega (arith, count, forgotten-length p.two);
        room = room;
        older = map forgotten p.two ++ older;
        live = p.one;
        split = append_assoc (map forgotten p.two) older p.one;
        some = omega (arith, length-append (map forgotten p.two) older);
        early = all-joined (λ g. g.since + length ss ≤ m) (map forgotten p.two) older (forgotten-early m (length ss) p.two few) before;
        turns = p.first;
        full = all-front IsFull ss (s ∷ ts) fulls;
      } in
      let found : (x : ℕ) → x ≤ m → m ≤ x + length ss → files_at x (map forgotten p.two ++ (older ++ p.one)) ≡ files_at x (older ++ live) =
      λ x low high.
      let start = before.0 in
      earlier-all x (map forgotten p.two) f (fs ++ p.one) (forgotten-until x p.two) (omega (arith, start, high))
      ∙ sym (later-at x (older ++ p.one) p.two (omega (arith, length-append older p.one)) (all-turned (λ g. m < g.since) (λ g. x < g.since) (λ g e. omega (arith, e, low)) p.two rest))
      ∙ ap (files_at x) (sym halves) in
      record {
        files = subst (λ l. AreFilesOf (buffer l capacity) m ss) (sym is) fit;
        same = λ x low high. ap (files_at x) is ∙ found x low high;
      }

  pub files-back : (b : Buffer KeptFiles) → AreFilesOf b n (ss ++ s ∷ ts) → HasGoneBack b n m ss
  files-back b h =
      subst (λ l. HasGoneBack (buffer l b.capacity) n m ss) h.split
      (parts-back b.capacity h.older h.live h.room (ap length h.split ∙ h.places) h.some h.early h.turns h.full)
