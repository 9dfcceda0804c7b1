-- A history in which a step is noted.
use Rattle.std.proofs.Common.{◌≡◌, ℕ, zero, suc, ◌+◌, ◌-◌, ◌<◌, ◌≤◌, true, false, Option, Some, None, List, [], ◌∷◌, ◌++◌, length, drop, refl, sym, ap, subst, ◌∙◌, arith, length-append}
use Rattle.std.specs.List.{AllByRecursion}
use Rattle.circular_buffer.specs.Buffer.{Buffer, buffer, keep_last}
use Rattle.debugger.specs.UndoJournal.Journals.{Past, cut}
use Rattle.debugger.proofs.UndoJournal.CutLemmas.{suffix-cut}
use Rattle.tripos_machine.specs.State.{IsBare, State, steps_of, words_of}
use Rattle.tripos_machine.specs.State.State.{Bare, Full}
use Rattle.debugger.specs.MachineHistory.FilesBefore.{files_at, files_in, gone_back, second_since}
use Rattle.debugger.specs.MachineHistory.Histories.{AreFilesOf, AreInOrder, HasFiles, IsFull, IsMember, files_back, ring_of}
use Rattle.debugger.specs.MachineHistory.Moments.{number, read, states}
use Rattle.debugger.specs.MachineHistory.Pasts.{file_turns, is_file_turn, kept, most_changes, most_states, most_turns}
use Rattle.debugger.specs.declared.machine_history.files.KeptFiles.{KeptFiles}
use Rattle.debugger.specs.declared.machine_history.moments.Moment.{Moment}
use Rattle.debugger.proofs.MachineHistory.FilesOfStates.{files-back, files-cut, files-stay, files-turned, files-until, length-map-since, with_room}
use Rattle.debugger.proofs.MachineHistory.FilesThen.{earlier-one, last-at, later-at}
use Rattle.debugger.proofs.MachineHistory.KeptStates.{kept-read, room-kept}
use Rattle.debugger.proofs.MachineHistory.Members.{SameFiles, keep-states, members-same, numbers-hold, states-joined, states-same, steps-read}
use Rattle.debugger.proofs.MachineHistory.StatesInOrder.{all-back, all-front, all-joined, all-turned, order-back, order-bounds, order-front, order-pushed, turns-counted}

-- ---- what holds of the members, of which n steps lead to the state that is now

pub record AreKept (keys : List (ℕ × ℕ)) (size : ℕ) (o : Option (Buffer KeptFiles)) (n : ℕ) (ps : List (Past Moment)) : Type 0 where
  pub members : AllByRecursion (IsMember keys size (ring_of o)) ps
  pub order : AreInOrder n (states keys (ring_of o) ps)
  pub files : HasFiles o n (states keys (ring_of o) ps)

-- ---- few turns

bare-turns : (ss : List State) → AllByRecursion IsBare ss → file_turns ss ≡ 0
bare-turns [] all = refl
bare-turns (Bare m ∷ ss) all = omega (arith, bare-turns ss all.1)
bare-turns (Full k ∷ ss) all = absurd all.0

few-turns : (o : Option (Buffer KeptFiles)) (n : ℕ) (ss : List State) → HasFiles o n ss → file_turns ss ≤ most_turns
few-turns None n ss h = omega (arith, bare-turns ss h)
few-turns (Some b) n ss h =
    let count : length h.live ≡ file_turns ss = sym (length-map-since h.live) ∙ ap length h.turns ∙ turns-counted ss in
    let all : length h.older + length h.live ≡ 17 = sym (length-append h.older h.live) ∙ ap length h.split ∙ h.places in
    let some = h.some in
    omega (arith, count, all, some)

-- ---- a cut

module _ (keys : List (ℕ × ℕ)) (size : ℕ) (o : Option (Buffer KeptFiles)) (n : ℕ) where
  files-suffix : (ss ts : List State) → AreInOrder n (ss ++ ts) → HasFiles o n (ss ++ ts) → HasFiles o n ts
  files-suffix ss ts order h = on o h
    where
      on : (o : Option (Buffer KeptFiles)) → HasFiles o n (ss ++ ts) → HasFiles o n ts
      on None h = all-back IsBare ss ts h
      on (Some b) h = files-cut b n ss ts h order

  pub suffix-kept : (ps qs all : List (Past Moment)) → ps ++ qs ≡ all → AreKept keys size o n all → AreKept keys size o n qs
  suffix-kept ps qs all e h =
      let fs : List KeptFiles = ring_of o in
      let both : states keys fs all ≡ states keys fs ps ++ states keys fs qs = ap (states keys fs) (sym e) ∙ states-joined keys fs ps qs in
      let order : AreInOrder n (states keys fs ps ++ states keys fs qs) = subst (AreInOrder n) both h.order in
      record {
        members = all-back (IsMember keys size fs) ps qs (subst (AllByRecursion (IsMember keys size fs)) (sym e) h.members);
        order = order-back n (states keys fs ps) (states keys fs qs) order;
        files = files-suffix (states keys fs ps) (states keys fs qs) order (subst (HasFiles o n) both h.files);
      }

  pub record HasCut (all : List (Past Moment)) (now : State) (words : List ℕ) : Type 0 where
    pub left : AreKept keys size o n (cut most_states most_changes words all)
    pub is : states keys (ring_of o) (cut most_states most_changes words all) ≡ kept (states keys (ring_of o) all) now

  pub has-cut : (all : List (Past Moment)) (now : State) (words : List ℕ) → words_of now ≡ words → AreKept keys size o n all → HasCut all now words
  has-cut all now words same h =
      let fs : List KeptFiles = ring_of o in
      let parts = suffix-cut most_states most_changes words all in
      record {
        left = suffix-kept parts.0 (cut most_states most_changes words all) all parts.1 h;
        is = sym (kept-read keys fs now words same all (all-turned (IsMember keys size fs) (λ p. words_of (read keys fs p) ≡ p.words) (λ p m. m.words) all h.members) (few-turns o n (states keys fs all) h.files));
      }

-- ---- a step in which no files change

abbrev pub IsOf : Option (Buffer KeptFiles) → State → Type 0
IsOf None s = IsBare s
IsOf (Some b) s = IsFull s

-- what is known of the new member
pub record IsNew (keys : List (ℕ × ℕ)) (size : ℕ) (o : Option (Buffer KeptFiles)) (n : ℕ) (p : Past Moment) (s : State) : Type 0 where
  pub is : read keys (ring_of o) p ≡ s
  pub member : IsMember keys size (ring_of o) p
  pub now : steps_of s ≡ n
  pub kind : IsOf o s

module _ (keys : List (ℕ × ℕ)) (size : ℕ) (o : Option (Buffer KeptFiles)) (n : ℕ) (ps : List (Past Moment)) (p : Past Moment) (s : State) (h : AreKept keys size o n ps) (new : IsNew keys size o n p s) where
  pub pushed-states : states keys (ring_of o) (ps ++ p ∷ []) ≡ states keys (ring_of o) ps ++ s ∷ []
  pushed-states = states-joined keys (ring_of o) ps (p ∷ []) ∙ ap (λ t. states keys (ring_of o) ps ++ t ∷ []) new.is

  pub stay-kept : is_file_turn s ≡ false → AreKept keys size o (n + 1) (ps ++ p ∷ [])
  stay-kept stays = record {
    members = all-joined (IsMember keys size (ring_of o)) ps (p ∷ []) h.members (new.member, tt);
    order = subst (AreInOrder (n + 1)) (sym pushed-states) (order-pushed n (states keys (ring_of o) ps) s h.order new.now);
    files = subst (HasFiles o (n + 1)) (sym pushed-states) (on o (states keys (ring_of o) ps) h.files new.kind);
  }
    where
      on : (o : Option (Buffer KeptFiles)) (ss : List State) → HasFiles o n ss → IsOf o s → HasFiles o (n + 1) (ss ++ s ∷ [])
      on None ss h kind = all-joined IsBare ss (s ∷ []) h (kind, tt)
      on (Some b) ss h kind = files-stay b n ss h s kind stays

-- ---- a step in which they may change

module _ (keys : List (ℕ × ℕ)) (size : ℕ) (b : Buffer KeptFiles) (n : ℕ) (ps : List (Past Moment)) (p : Past Moment) (s : State) (h : AreKept keys size (Some b) n ps) (new : IsNew keys size (Some b) n p s)
    (left : KeptFiles) (since : left.since ≡ n + 1) (serves : is_file_turn s ≡ true) where
  abbrev after : Buffer KeptFiles
  after = buffer (drop 1 b.items ++ left ∷ []) b.capacity

  abbrev rest : List (Past Moment)
  rest = keep_last (n - second_since b.items) ps

  -- what is known of the files of those that are left, and of the new member
  pub record HasServed : Type 0 where
    pub kept_all : AreKept keys size (Some after) (n + 1) (rest ++ p ∷ [])
    pub same : (now : State) → kept (states keys b.items ps ++ s ∷ []) now ≡ kept (states keys after.items (rest ++ p ∷ [])) now
    pub latest : files_at (n + 1) after.items ≡ files_in left

  second-first : (fs : List KeptFiles) (x : ℕ) → 2 ≤ length fs → second_since fs ≤ x → x < left.since → files_at x fs ≡ files_at x (drop 1 fs ++ left ∷ [])
  second-first [] x two low high = absurd (omega (arith, two))
  second-first (f ∷ []) x two low high = absurd (omega (arith, two))
  second-first (f ∷ g ∷ gs) x two low high = earlier-one x f g gs low ∙ sym (later-at x (g ∷ gs) (left ∷ []) (omega arith) (high, tt))

  pub has-served : HasServed
  has-served =
      let fs : List KeptFiles = b.items in
      let ss : List State = states keys fs ps in
      let t = files-turned n left s since new.now serves new.kind b ss h.files h.order in
      let places = h.files.places in
      let room : with_room n fs ss ≡ states keys fs rest = keep-states keys fs (n - second_since fs) ps in
      let low = t.second in
      let whole : t.gone ++ states keys fs rest ≡ ss = ap (λ l. t.gone ++ l) (sym room) ∙ t.all in
      let order : AreInOrder n (states keys fs rest) = order-back n t.gone (states keys fs rest) (subst (AreInOrder n) (sym whole) h.order) in
      let bounds = order-bounds n (length (states keys fs rest)) (states keys fs rest) (omega arith) order in
      let found : (x : ℕ) → x ≤ n → second_since fs ≤ x → files_at x fs ≡ files_at x after.items = λ x high small. second-first fs x (omega (arith, places)) small (omega (arith, since, high)) in
      let small : second_since fs + length (states keys fs rest) ≤ n = subst (λ l. second_since fs + length l ≤ n) room low in
      let files : AllByRecursion (SameFiles keys fs after.items) rest =
      numbers-hold keys fs (λ x. files_at x fs ≡ files_at x after.items) rest
      (all-turned (λ s. (steps_of s < n) × (n ≤ steps_of s + length (states keys fs rest))) (λ s. files_at (steps_of s) fs ≡ files_at (steps_of s) after.items)
      (λ s e. let one = e.0 in let two = e.1 in found (steps_of s) (omega (arith, one)) (omega (arith, two, small))) (states keys fs rest) bounds) in
      let number-is : number p.side ≡ n = sym (steps-read keys fs p) ∙ ap steps_of new.is ∙ new.now in
      let mine : SameFiles keys fs after.items p = found (number p.side) (omega (arith, number-is)) (omega (arith, number-is, small)) in
      let all : AllByRecursion (SameFiles keys fs after.items) (rest ++ p ∷ []) = all-joined (SameFiles keys fs after.items) rest (p ∷ []) files (mine, tt) in
      let members : AllByRecursion (IsMember keys size fs) rest = all-last fs ps (n - second_since fs) h.members in
      let olds : states keys fs (rest ++ p ∷ []) ≡ states keys fs rest ++ s ∷ [] = states-joined keys fs rest (p ∷ []) ∙ ap (λ t. states keys fs rest ++ t ∷ []) new.is in
      let news : states keys after.items (rest ++ p ∷ []) ≡ states keys fs rest ++ s ∷ [] = sym (states-same keys fs after.items (rest ++ p ∷ []) all) ∙ olds in
      let fit : AreFilesOf after (n + 1) (states keys fs rest ++ s ∷ []) = subst (λ l. AreFilesOf after (n + 1) (l ++ s ∷ [])) room t.files in
      record {
        kept_all =
            record {
              members = members-same keys size fs after.items (rest ++ p ∷ []) all (all-joined (IsMember keys size fs) rest (p ∷ []) members (new.member, tt));
              order = subst (AreInOrder (n + 1)) (sym news) (order-pushed n (states keys fs rest) s order new.now);
              files = subst (AreFilesOf after (n + 1)) (sym news) fit;
            };
        same = λ now.
            ap (λ l. kept (l ++ s ∷ []) now) (sym t.all)
            ∙ room-kept now t.gone (with_room n fs ss) s t.needed
            ∙ ap (λ l. kept (l ++ s ∷ []) now) room
            ∙ ap (λ l. kept l now) (sym news);
        latest = last-at (n + 1) (drop 1 fs) left (all-tail fs (files-until-later b n ss h.files h.order)) (omega (arith, since));
      }
    where
      all-last : (fs : List KeptFiles) (ps : List (Past Moment)) (k : ℕ) → AllByRecursion (IsMember keys size fs) ps → AllByRecursion (IsMember keys size fs) (keep_last k ps)
      all-last fs ps k all = dropped (length ps - k) ps all
        where
          dropped : (j : ℕ) (ps : List (Past Moment)) → AllByRecursion (IsMember keys size fs) ps → AllByRecursion (IsMember keys size fs) (drop j ps)
          dropped zero [] all = tt
          dropped (suc j) [] all = tt
          dropped zero (p ∷ ps) all = all
          dropped (suc j) (p ∷ ps) all = dropped j ps all.1

      all-tail : (fs : List KeptFiles) → AllByRecursion (λ f. f.since ≤ n + 1) fs → AllByRecursion (λ f. f.since ≤ n + 1) (drop 1 fs)
      all-tail [] all = tt
      all-tail (f ∷ fs) all = all.1

      files-until-later : (b : Buffer KeptFiles) (n : ℕ) (ss : List State) → AreFilesOf b n ss → AreInOrder n ss → AllByRecursion (λ f. f.since ≤ n + 1) b.items
      files-until-later b n ss h order = all-turned (λ f. f.since ≤ n) (λ f. f.since ≤ n + 1) (λ f e. omega (arith, e)) b.items (files-until b n ss h order)

-- ---- going back to a state

-- the states before it, and the files that stand for them and for it
pub record HasReturned (keys : List (ℕ × ℕ)) (size : ℕ) (o : Option (Buffer KeptFiles)) (m : ℕ) (ps : List (Past Moment)) : Type 0 where
  pub before : AreKept keys size (files_back m o) m ps
  pub same : states keys (ring_of (files_back m o)) ps ≡ states keys (ring_of o) ps
  pub latest : files_at m (ring_of (files_back m o)) ≡ files_at m (ring_of o)

module _ (keys : List (ℕ × ℕ)) (size n : ℕ) (ps : List (Past Moment)) (p : Past Moment) (qs : List (Past Moment)) where
  pub has-returned : (o : Option (Buffer KeptFiles)) → AreKept keys size o n (ps ++ p ∷ qs) → HasReturned keys size o (number p.side) ps
  has-returned o h =
      let fs : List KeptFiles = ring_of o in
      let both : states keys fs (ps ++ p ∷ qs) ≡ states keys fs ps ++ read keys fs p ∷ states keys fs qs = states-joined keys fs ps (p ∷ qs) in
      let order : AreInOrder n (states keys fs ps ++ read keys fs p ∷ states keys fs qs) = subst (AreInOrder n) both h.order in
      let front : AreInOrder (steps_of (read keys fs p)) (states keys fs ps) = order-front n (states keys fs ps) (read keys fs p) (states keys fs qs) order in
      subst (λ m. HasReturned keys size o m ps) (steps-read keys fs p)
      (on o (all-front (IsMember keys size fs) ps (p ∷ qs) h.members) order front (subst (HasFiles o n) both h.files))
    where
      on : (o : Option (Buffer KeptFiles)) → AllByRecursion (IsMember keys size (ring_of o)) ps → AreInOrder n (states keys (ring_of o) ps ++ read keys (ring_of o) p ∷ states keys (ring_of o) qs)
          → AreInOrder (steps_of (read keys (ring_of o) p)) (states keys (ring_of o) ps) → HasFiles o n (states keys (ring_of o) ps ++ read keys (ring_of o) p ∷ states keys (ring_of o) qs)
          → HasReturned keys size o (steps_of (read keys (ring_of o) p)) ps
      on None members order front files = record {
        before = record { members = members; order = front; files = all-front IsBare (states keys [] ps) (read keys [] p ∷ states keys [] qs) files };
        same = refl;
        latest = refl;
      }
      on (Some b) members order front files =
          let fs : List KeptFiles = b.items in
          let m : ℕ = steps_of (read keys fs p) in
          let back = files-back n (states keys fs ps) (states keys fs qs) (read keys fs p) order b files in
          let ring : List KeptFiles = gone_back 17 m fs in
          let bounds = order-bounds m (length (states keys fs ps)) (states keys fs ps) (omega arith) front in
          let found : AllByRecursion (SameFiles keys fs ring) ps =
          numbers-hold keys fs (λ x. files_at x fs ≡ files_at x ring) ps
          (all-turned (λ s. (steps_of s < m) × (m ≤ steps_of s + length (states keys fs ps))) (λ s. files_at (steps_of s) fs ≡ files_at (steps_of s) ring)
          (λ s e. let low = e.0 in sym (back.same (steps_of s) (omega (arith, low)) e.1)) (states keys fs ps) bounds) in
          let same : states keys fs ps ≡ states keys ring ps = states-same keys fs ring ps found in
          record {
            before =
                record {
                  members = members-same keys size fs ring ps found members;
                  order = subst (AreInOrder m) same front;
                  files = subst (AreFilesOf (buffer ring b.capacity) m) same back.files;
                };
            same = sym same;
            latest = back.same m (omega arith) (omega arith);
          }
