-- A history and the parts of its machine, once they have gone back.
use Rattle.std.proofs.Common.{◌≡◌, ℕ, zero, suc, ◌-◌, ◌<◌, ◌≤◌, Option, Some, None, List, [], ◌∷◌, length, min, take, get_or, refl, sym, ap, subst, ◌∙◌, arith}
use Rattle.std.specs.Prelude.{slice_get}
use Rattle.std.specs.List.{AllByRecursion}
use Rattle.circular_buffer.specs.Buffer.{Buffer, buffer}
use Rattle.debugger.specs.UndoJournal.Journals.{Journal, Past, side_back, words_back}
use Rattle.tripos_machine.specs.State.{IsBare, IsSound, RepresentsState, State, keys_of, stop_of, words_of}
use Rattle.bare_machine.specs.declared.parts.BareParts.{BareParts}
use Rattle.kernel_model.specs.KernelRecord.KernelRanges.{CanWalkLists}
use Rattle.kernel_model.specs.KernelRecord.Lists.{Lists}
use Rattle.kernel_model.specs.WordKinds.ByteMap.{MarksAll}
use Rattle.kernel_model.specs.WordKinds.Keeper.{IsStoreOf}
use Rattle.kernel_machine.specs.declared.running_machine.parts.Parts.{Parts as KernelParts}
use Rattle.tripos_machine.specs.declared.parts.Parts.{Parts}
use Rattle.tripos_machine.specs.declared.parts.Parts.TheVariants.{Bare as BareMachine, Full as FullMachine}
use Rattle.kernel_model.proofs.KernelRecord.ImageWords.{image-list}
use Rattle.tripos_machine.specs.State.State.{Bare, Full}
use Rattle.debugger.specs.MachineHistory.FilesBefore.{files_at, files_in, gone_back}
use Rattle.debugger.specs.MachineHistory.Histories.{AreInOrder, HasCome, HasFiles, HasLastFiles, IsFull, IsHistory, IsMember, at_moment, bare_parts_back, files_back, journal_back, last_files, latest, moment_back, parts_back, ring_of, view_of, with_files_of}
use Rattle.debugger.specs.MachineHistory.Moments.{kernel_in, number, read, state_in, states}
use Rattle.debugger.specs.MachineHistory.Pasts.{Files, HistoryView, Now, files_of, now_of, past_back, state_back}
use Rattle.debugger.specs.declared.machine_history.files.KeptFiles.{KeptFiles}
use Rattle.debugger.specs.declared.machine_history.histories.History.TheInside.{Inside}
use Rattle.debugger.specs.declared.machine_history.moments.Moment.{Moment}
use Rattle.debugger.specs.declared.machine_history.moments.Moment.TheVariants.{Bare as BareKind, Full as FullKind}
use Rattle.debugger.proofs.MachineHistory.Members.{goes-in, states-length, steps-read}
use Rattle.debugger.proofs.MachineHistory.NotedStates.{AreKept, HasReturned, IsOf}
use Rattle.debugger.proofs.MachineHistory.ReturnedHistories.{GoesBack, goes-back}
use Rattle.debugger.proofs.MachineHistory.SteppedHistories.{kept_of}
use Rattle.debugger.proofs.MachineHistory.FilesOfStates.{files-until}
use Rattle.debugger.proofs.MachineHistory.FilesThen.{IsLatest, is-latest}
use Rattle.debugger.proofs.MachineHistory.RepresentedParts.{bare-represents, full-come, full-represents, full-walks}

-- what holds of all holds of one that is got
all-got : {X : Type 0} (P : X → Type 0) (k : ℕ) (xs : List X) (x : X) → slice_get xs k ≡ Some x → AllByRecursion P xs → P x
all-got P k [] x got all = cc
all-got P zero (y ∷ xs) x got all = (let same : y ≡ x = cc in subst P same all.0)
all-got P (suc k) (y ∷ xs) x got all = all-got P k xs x got all.1

states-hold : (P : State → Type 0) (keys : List (ℕ × ℕ)) (fs : List KeptFiles) (ps : List (Past Moment)) → AllByRecursion P (states keys fs ps) → AllByRecursion (λ p. P (read keys fs p)) ps
states-hold P keys fs [] all = tt
states-hold P keys fs (p ∷ ps) all = (all.0, states-hold P keys fs ps all.1)

-- ---- the files of a state, as they are found

kind-of : (keys : List (ℕ × ℕ)) (o : Option (Buffer KeptFiles)) (n at : ℕ) (ps : List (Past Moment)) (p : Past Moment) → slice_get ps at ≡ Some p → HasFiles o n (states keys (ring_of o) ps) → IsOf o (read keys (ring_of o) p)
kind-of keys None n at ps p got files = all-got (λ q. IsBare (read keys [] q)) at ps p got (states-hold IsBare keys [] ps files)
kind-of keys (Some b) n at ps p got files = all-got (λ q. IsFull (read keys b.items q)) at ps p got (states-hold IsFull keys b.items ps files.full)

bare-files : (s : State) → IsBare s → files_of s ≡ None
bare-files (Bare m) bare = refl
bare-files (Full k) bare = absurd bare

full-files : (keys : List (ℕ × ℕ)) (words : List ℕ) (f : Files) (m : Moment) → IsFull (state_in keys words f m) → files_of (state_in keys words f m) ≡ Some f
unfolding kernel_in
full-files keys words f (BareKind m) full = absurd full
full-files keys words f (FullKind m) full = refl

files-are : (keys : List (ℕ × ℕ)) (p : Past Moment) (o : Option (Buffer KeptFiles)) → files_at (number p.side) (ring_of (files_back (number p.side) o)) ≡ files_at (number p.side) (ring_of o) → IsOf o (read keys (ring_of o) p)
    → latest (number p.side) (files_back (number p.side) o) ≡ files_of (read keys (ring_of o) p)
files-are keys p None same kind = sym (bare-files (read keys [] p) kind)
files-are keys p (Some b) same kind = ap (λ f. Some f) same ∙ sym (full-files keys p.words (files_at (number p.side) b.items) p.side kind)

module _ (h : Inside) (k : IsHistory h) (n : ℕ) (some : 0 < n) (few : n ≤ length h.journal.past) (now : State) where
  abbrev all_keys : List (ℕ × ℕ)
  all_keys = h.keys.items

  abbrev at : ℕ
  at = length h.journal.past - n

  pub goes : GoesBack all_keys (length h.journal.words) h.files at h.journal.past now
  goes = goes-back all_keys (length h.journal.words) h.files h.steps at h.journal.past (kept_of h k) (omega (arith, some, few)) now

  -- the state that is gone back to
  abbrev back : State
  back = read all_keys (ring_of h.files) goes.member

  abbrev after : Inside
  after = record { journal = journal_back n h.journal; files = files_back (number goes.member.side) h.files; steps = number goes.member.side; keys = h.keys }

  pub state-is : state_back n (view_of h).past now ≡ back
  state-is = ap (λ l. get_or (states all_keys (ring_of h.files) h.journal.past) (l - n) now) (states-length all_keys (ring_of h.files) h.journal.past) ∙ goes.state

  -- what the journal gives
  pub moment-is : moment_back n h.journal ≡ Some goes.member.side
  moment-is = ap side_back goes.got

  pub words-are : (journal_back n h.journal).words ≡ goes.member.words
  words-are = ap (words_back h.journal.words) goes.got

  -- the member was one of those that are kept
  member-of : IsMember all_keys (length h.journal.words) (ring_of h.files) goes.member
  member-of = all-got (IsMember all_keys (length h.journal.words) (ring_of h.files)) at h.journal.past goes.member goes.got k.members

  pub back-goes : stop_of back ≡ None
  back-goes = goes-in all_keys goes.member.words (files_at (number goes.member.side) (ring_of h.files)) goes.member.side

  -- it has as many words as the state that was left
  pub back-size : length goes.member.words ≡ length h.journal.words
  back-size = member-of.size

  same-size : length (journal_back n h.journal).words ≡ length h.journal.words
  same-size = ap length words-are ∙ member-of.size

  pub returned-is : IsHistory after
  returned-is =
      let left = subst (λ m. AreKept all_keys m after.files after.steps (take at h.journal.past)) (sym same-size) goes.rest.before in
      record { members = left.members; order = left.order; files = left.files; most = k.most; changes = k.changes }

  pub returned-past : (view_of after).past ≡ past_back n (view_of h).past
  returned-past = sym goes.past ∙ ap (λ l. take (l - n) (states all_keys (ring_of h.files) h.journal.past)) (sym (states-length all_keys (ring_of h.files) h.journal.past))

  pub returned-now : (view_of after).now ≡ now_of back all_keys
  returned-now =
      let kind : IsOf h.files back = kind-of all_keys h.files h.steps at h.journal.past goes.member goes.got k.files in
      let files = files-are all_keys goes.member h.files goes.rest.latest kind in
      λ i. record { words = (words-are ∙ sym member-of.words) i; files = files i; steps = sym (steps-read all_keys (ring_of h.files) goes.member) i; keys = all_keys }

-- ---- the whole

-- the history that has gone back, and the state that the machine's parts represent then
pub record IsReturned (h new : Inside) (parts : Parts) (n : ℕ) (now : State) : Type 0 where
  pub history : IsHistory new
  pub past : (view_of new).past ≡ past_back n (view_of h).past
  pub now_is : (view_of new).now ≡ now_of (state_back n (view_of h).past now) h.keys.items
  pub represents : RepresentsState parts (state_back n (view_of h).past now)
  pub sound : IsSound (state_back n (view_of h).past now)
  pub goes_on : stop_of (state_back n (view_of h).past now) ≡ None
  pub keys : keys_of parts ≡ h.keys.items

no-files : (o : Option (Buffer KeptFiles)) (m : ℕ) → o ≡ None → files_back m o ≡ o
no-files None m none = refl
no-files (Some b) m none = cc

-- a machine of a kind has files or not
without-files : (o : Option (Buffer KeptFiles)) (n : ℕ) (p : BareParts) (now : State) → RepresentsState (BareMachine p) now → latest n o ≡ files_of now → o ≡ None
without-files None n p now st files = refl
without-files (Some b) n p (Bare m) st files = cc
without-files (Some b) n p (Full k) st files = absurd st

pub record HasRing (o : Option (Buffer KeptFiles)) : Type 0 where
  pub ring : Buffer KeptFiles
  pub is : o ≡ Some ring

with-files : (o : Option (Buffer KeptFiles)) (n : ℕ) (p : KernelParts) (now : State) → RepresentsState (FullMachine p) now → latest n o ≡ files_of now → HasRing o
with-files (Some b) n p now st files = record { ring = b; is = refl }
with-files None n p (Bare m) st files = absurd st
with-files None n p (Full k) st files = cc

bare-step : (all : List (ℕ × ℕ)) (words : List ℕ) (f : Files) (m : Moment) (p : BareParts) → IsBare (state_in all words f m) → (bare_parts_back (Some m) words p).step ≡ number m
bare-step all words f (BareKind m) p bare = refl
bare-step all words f (FullKind m) p bare = absurd bare

files-step : (o : Option KeptFiles) (p : KernelParts) → (with_files_of o p).step ≡ p.step
files-step None p = refl
files-step (Some f) p = refl

full-step : (all : List (ℕ × ℕ)) (words : List ℕ) (f : Files) (m : Moment) (b : Buffer KeptFiles) (p : KernelParts) → IsFull (state_in all words f m) → (parts_back (Some m) words (Some b) p).step ≡ number m
full-step all words f (BareKind m) b p full = absurd full
full-step all words f (FullKind m) b p full = files-step (last_files (gone_back 17 m.step b.items)) (at_moment (Some (FullKind m)) words p)

some-files : (f g : Files) → Some f ≡ Some g → f ≡ g
some-files f g is = cc

-- the files that were kept last are those that the machine has
has-last-files : (o : Option (Buffer KeptFiles)) (n : ℕ) (ss : List State) (p : KernelParts) (now : State) → RepresentsState (FullMachine p) now → latest n o ≡ files_of now → HasFiles o n ss → AreInOrder n ss
    → HasLastFiles o p
has-last-files None n ss p now st files has order = tt
has-last-files (Some b) n ss p (Bare m) st files has order = absurd st
has-last-files (Some b) n ss p (Full k) st files has order =
    let l = is-latest n b.items (omega (arith, has.places)) (files-until b n ss has order) in
    let these : files_in l.files ≡ record { disc = k.disc; pipes = k.pipes } = sym l.is ∙ some-files (files_at n b.items) (record { disc = k.disc; pipes = k.pipes }) files in
    ap (λ o. with_files_of o p) l.last
    ∙ (λ i. record p { disc = (ap (λ (f : Files). f.disc) these ∙ sym st.disc) i; pipes = (ap (λ (f : Files). f.pipes) these ∙ sym st.pipes) i })

store-words : (p : KernelParts) (now : State) → RepresentsState (FullMachine p) now → p.store ≡ words_of now
store-words p (Bare m) st = absurd st
store-words p (Full k) st = image-list p.store k st.image

marks-count : (p : KernelParts) (now : State) → RepresentsState (FullMachine p) now → length p.kinds ≡ length p.store
marks-count p (Bare m) st = absurd st
marks-count p (Full k) st = st.marks

pub files-store : (o : Option KeptFiles) (p : KernelParts) → (with_files_of o p).store ≡ p.store
files-store None p = refl
files-store (Some f) p = refl

full-store : (m : Moment) (words : List ℕ) (b : Buffer KeptFiles) (p : KernelParts) → (parts_back (Some m) words (Some b) p).store ≡ words
full-store (BareKind m) words b p = files-store (last_files (gone_back 17 p.step b.items)) (at_moment (Some (BareKind m)) words p)
full-store (FullKind m) words b p = files-store (last_files (gone_back 17 m.step b.items)) (at_moment (Some (FullKind m)) words p)

files-keys : (o : Option KeptFiles) (p : KernelParts) → (with_files_of o p).keys.keys ≡ p.keys.keys
files-keys None p = refl
files-keys (Some f) p = refl

full-keys : (m : Moment) (words : List ℕ) (b : Buffer KeptFiles) (p : KernelParts) → (parts_back (Some m) words (Some b) p).keys.keys ≡ p.keys.keys
full-keys (BareKind m) words b p = files-keys (last_files (gone_back 17 p.step b.items)) (at_moment (Some (BareKind m)) words p)
full-keys (FullKind m) words b p = files-keys (last_files (gone_back 17 m.step b.items)) (at_moment (Some (FullKind m)) words p)

-- the last files that are kept are those that stood then
ring-latest : (keys : List (ℕ × ℕ)) (size : ℕ) (o : Option (Buffer KeptFiles)) (b : Buffer KeptFiles) → o ≡ Some b → (m : ℕ) (ps : List (Past Moment)) → HasReturned keys size o m ps
    → IsLatest m (gone_back 17 m b.items) × (files_at m (gone_back 17 m b.items) ≡ files_at m (ring_of o))
ring-latest keys size None b is m ps r = cc
ring-latest keys size (Some c) b is m ps r =
    let same : c ≡ b = cc in
    subst (λ (d : Buffer KeptFiles). IsLatest m (gone_back 17 m d.items) × (files_at m (gone_back 17 m d.items) ≡ files_at m c.items)) same
    (let places = r.before.files.places in
    (is-latest m (gone_back 17 m c.items) (omega (arith, places)) (files-until (buffer (gone_back 17 m c.items) c.capacity) m (states keys (gone_back 17 m c.items) ps) r.before.files r.before.order), r.latest))

is-kind-none : (o : Option (Buffer KeptFiles)) (s : State) → o ≡ None → IsOf o s → IsBare s
is-kind-none None s none kind = kind
is-kind-none (Some b) s none kind = cc

is-kind-some : (o : Option (Buffer KeptFiles)) (b : Buffer KeptFiles) (s : State) → o ≡ Some b → IsOf o s → IsFull s
is-kind-some None b s some kind = cc
is-kind-some (Some c) b s some kind = kind

module _ (h : Inside) (k : IsHistory h) (n : ℕ) (some : 0 < n) (few : n ≤ length h.journal.past) (now : State) where
  abbrev side : Moment
  side = (goes h k n some few now).member.side

  abbrev words : List ℕ
  words = (goes h k n some few now).member.words

  abbrev stood : Files
  stood = files_at (number side) (ring_of h.files)

  kind : IsOf h.files (back h k n some few now)
  kind = kind-of h.keys.items h.files h.steps (length h.journal.past - n) h.journal.past (goes h k n some few now).member (goes h k n some few now).got k.files

  -- the new history, whatever it is called
  returned : (new : Inside) (parts : Parts) → new ≡ after h k n some few now → RepresentsState parts (back h k n some few now) → keys_of parts ≡ h.keys.items → IsReturned h new parts n now
  returned new parts eq represents same =
      let is = state-is h k n some few now in
      record {
        history = subst IsHistory (sym eq) (returned-is h k n some few now);
        past = ap (λ (x : Inside). (view_of x).past) eq ∙ returned-past h k n some few now;
        now_is = ap (λ (x : Inside). (view_of x).now) eq ∙ returned-now h k n some few now ∙ ap (λ s. now_of s h.keys.items) (sym is);
        represents = subst (RepresentsState parts) (sym is) represents;
        sound = subst IsSound (sym is) (member-of h k n some few now).sound;
        goes_on = ap stop_of is ∙ back-goes h k n some few now;
        keys = same;
      }

  pub bare-returned : (p q : BareParts) (j : Journal Moment) (keys : List (ℕ × ℕ)) → RepresentsState (BareMachine p) now → [] ≡ keys → (view_of h).now ≡ now_of now keys → j ≡ journal_back n h.journal
      → q ≡ bare_parts_back (moment_back n h.journal) (journal_back n h.journal).words p → IsReturned h (record { journal = j; files = h.files; steps = q.step; keys = h.keys }) (BareMachine q) n now
  bare-returned p q j keys st without seen journal_is is =
      let none : h.files ≡ None = without-files h.files h.steps p now st (ap (λ (x : Now). x.files) seen) in
      let bare : IsBare (back h k n some few now) = is-kind-none h.files (back h k n some few now) none kind in
      let parts : q ≡ bare_parts_back (Some side) words p = is ∙ (λ i. bare_parts_back (moment-is h k n some few now i) (words-are h k n some few now i) p) in
      let steps : q.step ≡ number side = ap (λ (x : BareParts). x.step) parts ∙ bare-step h.keys.items words stood side p bare in
      returned (record { journal = j; files = h.files; steps = q.step; keys = h.keys }) (BareMachine q)
      (λ i. record { journal = journal_is i; files = sym (no-files h.files (number side) none) i; steps = steps i; keys = h.keys })
      (subst (λ (x : BareParts). RepresentsState (BareMachine x) (back h k n some few now)) (sym parts) (bare-represents h.keys.items words stood side p bare)) (without ∙ sym (ap (λ (x : Now). x.keys) seen))

  -- what the parts of a machine with a kernel need to go back
  module _ (p : KernelParts) (keys : List (ℕ × ℕ)) (st : RepresentsState (FullMachine p) now) (seen : (view_of h).now ≡ now_of now keys) (same : p.keys.keys ≡ keys) where
    has : HasRing h.files
    has = with-files h.files h.steps p now st (ap (λ (x : Now). x.files) seen)

    full : IsFull (back h k n some few now)
    full = is-kind-some h.files has.ring (back h k n some few now) has.is kind

    same-keys : p.keys.keys ≡ h.keys.items
    same-keys = same ∙ sym (ap (λ (x : Now). x.keys) seen)

    pub words-before : p.store ≡ h.journal.words
    words-before = store-words p now st ∙ sym (ap (λ (x : Now). x.words) seen)

    pub walk-before : CanWalkLists (journal_back n h.journal).words
    walk-before = subst CanWalkLists (sym (words-are h k n some few now)) (full-walks h.keys.items words stood side (member-of h k n some few now).holds (member-of h k n some few now).sound full)

    pub last-before : HasLastFiles h.files p
    last-before = has-last-files h.files h.steps (states h.keys.items (ring_of h.files) h.journal.past) p now st (ap (λ (x : Now). x.files) seen) k.files k.order

    pub come-before : HasCome (moment_back n h.journal) p
    come-before = subst (λ o. HasCome o p) (sym (moment-is h k n some few now)) (full-come h.keys.items words stood side (member-of h k n some few now).holds (member-of h k n some few now).sound full p same-keys)

    pub full-returned : (q : KernelParts) (j : Journal Moment) (f : Option (Buffer KeptFiles)) → j ≡ journal_back n h.journal → f ≡ files_back q.step h.files
        → q ≡ record (parts_back (moment_back n h.journal) (journal_back n h.journal).words h.files p) { kinds = q.kinds } → length q.kinds ≡ length p.kinds
        → ((known : List ℕ) (l : Lists) → IsStoreOf q.store known l → length q.store ≡ length p.kinds → MarksAll q.kinds known)
        → IsReturned h (record { journal = j; files = f; steps = q.step; keys = h.keys }) (FullMachine q) n now
    full-returned q j f journal_is files_is is size marks =
        let b : Buffer KeptFiles = has.ring in
        let parts : q ≡ record (parts_back (Some side) words (Some b) p) { kinds = q.kinds } =
        is ∙ (λ i. record (parts_back (moment-is h k n some few now i) (words-are h k n some few now i) (has.is i) p) { kinds = q.kinds }) in
        let steps : q.step ≡ number side = ap (λ (x : KernelParts). x.step) parts ∙ full-step h.keys.items words stood side b p full in
        let store : q.store ≡ words = ap (λ (x : KernelParts). x.store) parts ∙ full-store side words b p in
        let member = member-of h k n some few now in
        let count : length p.kinds ≡ length words = marks-count p now st ∙ ap length words-before ∙ sym member.size in
        let ring = ring-latest h.keys.items (length h.journal.words) h.files b has.is (number side) (take (length h.journal.past - n) h.journal.past) (goes h k n some few now).rest in
        let marked : (known : List ℕ) (l : Lists) → IsStoreOf words known l → MarksAll q.kinds known =
        λ known l represents. marks known l (subst (λ s. IsStoreOf s known l) (sym store) represents) (ap length store ∙ sym count) in
        returned (record { journal = j; files = f; steps = q.step; keys = h.keys }) (FullMachine q)
        (λ i. record { journal = journal_is i; files = (files_is ∙ ap (λ m. files_back m h.files) steps) i; steps = steps i; keys = h.keys })
        (subst (λ (x : KernelParts). RepresentsState (FullMachine x) (back h k n some few now)) (sym parts)
        (full-represents h.keys.items words stood side member.holds member.sound full b p q.kinds ring.0 ring.1 same-keys (size ∙ count) marked))
        (ap (λ (x : KernelParts). x.keys.keys) parts ∙ full-keys side words b p ∙ same-keys)

-- ---- as the caller sees it

-- n steps were undone, or as many as could be
pub record HasGone (old new : HistoryView) (parts : Parts) (n : ℕ) (now : State) (keys : List (ℕ × ℕ)) : Type 0 where
  pub past : new.past ≡ past_back n old.past
  pub now_is : new.now ≡ now_of (state_back n old.past now) keys
  pub represents : RepresentsState parts (state_back n old.past now)
  pub sound : IsSound (state_back n old.past now)
  pub goes_on : stop_of (state_back n old.past now) ≡ None
  pub keys_are : keys_of parts ≡ keys

back-min : (n : ℕ) (past : List State) (now : State) → state_back (min n (length past)) past now ≡ state_back n past now
back-min n past now = (let same : length past - min n (length past) ≡ length past - n = omega arith in ap (λ k. get_or past k now) same)

past-min : (n : ℕ) (past : List State) → past_back (min n (length past)) past ≡ past_back n past
past-min n past = (let same : length past - min n (length past) ≡ length past - n = omega arith in ap (λ k. take k past) same)

pub has-gone : (h new : Inside) (parts left : Parts) (n m : ℕ) (now : State) (keys : List (ℕ × ℕ)) (old seen : HistoryView) → IsReturned h new parts m now → m ≡ min n (length h.journal.past) → view_of h ≡ old → h.keys.items ≡ keys → seen ≡ view_of new → left ≡ parts
    → HasGone old seen left n now keys
has-gone h new parts left n m now keys old seen r count view_is same seen_is left_is =
    let steps : m ≡ min n (length (view_of h).past) = count ∙ ap (min n) (sym (states-length h.keys.items (ring_of h.files) h.journal.past)) in
    let back : state_back m (view_of h).past now ≡ state_back n old.past now = ap (λ k. state_back k (view_of h).past now) steps ∙ back-min n (view_of h).past now ∙ ap (λ (v : HistoryView). state_back n v.past now) view_is in
    record {
      past = ap (λ (v : HistoryView). v.past) seen_is ∙ r.past ∙ ap (λ k. past_back k (view_of h).past) steps ∙ past-min n (view_of h).past ∙ ap (λ (v : HistoryView). past_back n v.past) view_is;
      now_is = ap (λ (v : HistoryView). v.now) seen_is ∙ r.now_is ∙ (λ i. now_of (back i) (same i));
      represents = subst (λ p. RepresentsState p (state_back n old.past now)) (sym left_is) (subst (RepresentsState parts) back r.represents);
      sound = subst IsSound back r.sound;
      goes_on = sym (ap stop_of back) ∙ r.goes_on;
      keys_are = ap keys_of left_is ∙ r.keys ∙ same;
    }
