-- A history once a step was noted.
use Rattle.std.proofs.Common.{◌≡◌, ◌≢◌, ℕ, ◌+◌, ◌≤◌, ◌||◌, Bool, true, false, Option, Some, None, List, [], ◌∷◌, ◌++◌, length, eqb, refl, sym, ap, subst, ◌∙◌, arith}
use Rattle.std.proofs.lemmas.Bool.{eq-eqb}
use Rattle.circular_buffer.specs.Buffer.{Buffer}
use Rattle.debugger.specs.UndoJournal.Journals.{Journal, Past, cut}
use Rattle.kernel_model.specs.KernelRecord.Kernel.{Kernel, Pipe}
use Rattle.kernel_machine.specs.KernelSteps.Step.{step as kernel_step}
use Rattle.ram_disc.specs.Disc.{Disc}
use Rattle.kernel_machine.proofs.KernelSteps.FilesKept.{step-files}
use Rattle.tripos_machine.specs.State.{IsSound, State, steps_of, stop_of, words_of}
use Rattle.tripos_machine.specs.State.State.{Bare, Full}
use Rattle.tripos_machine.specs.Step.{step}
use Rattle.debugger.specs.MachineHistory.FilesBefore.{files_at}
use Rattle.debugger.specs.MachineHistory.Histories.{latest, ring_of, roomy, with_files}
use Rattle.debugger.specs.MachineHistory.Moments.{AreFiles, HoldsState, IsMomentOf, number, read, state_in, states}
use Rattle.debugger.specs.MachineHistory.Pasts.{Files, files_of, is_file_turn, kept, most_changes, most_states}
use Rattle.debugger.specs.declared.machine_history.files.KeptFiles.{KeptFiles}
use Rattle.debugger.specs.declared.machine_history.moments.Moment.{Moment}
use Rattle.debugger.proofs.MachineHistory.FilesOfStates.{files-until}
use Rattle.debugger.proofs.MachineHistory.FilesThen.{Until, same-at}
use Rattle.debugger.proofs.MachineHistory.NotedStates.{AreKept, IsNew, IsOf, has-cut, has-served, pushed-states, stay-kept}
use Rattle.debugger.proofs.MachineHistory.StatesInOrder.{all-turned}

-- ---- the new member

module _ (keys : List (ℕ × ℕ)) (o : Option (Buffer KeptFiles)) (n : ℕ) (words : List ℕ) (m : Moment) (s : State) (t : IsMomentOf keys m s)
    (goes : stop_of s ≡ None) (is : words ≡ words_of s) (files : latest n o ≡ files_of s) (steps : n ≡ steps_of s) where
  number-is : number m ≡ n
  number-is = t.steps ∙ sym steps

  are-files : AreFiles (files_at (number m) (ring_of o)) (files_of s)
  are-files = subst (λ x. AreFiles (files_at x (ring_of o)) (files_of s)) (sym number-is) (subst (AreFiles (files_at n (ring_of o))) files (on o))
    where
      on : (o : Option (Buffer KeptFiles)) → AreFiles (files_at n (ring_of o)) (latest n o)
      on None = tt
      on (Some b) = refl

  read-is : read keys (ring_of o) (record { words = words; side = m }) ≡ s
  read-is = ap (λ w. state_in keys w (files_at (number m) (ring_of o)) m) is ∙ t.reads goes (files_at (number m) (ring_of o)) are-files

  kind-is : IsOf o s
  kind-is = on o s files
    where
      on : (o : Option (Buffer KeptFiles)) (s : State) → latest n o ≡ files_of s → IsOf o s
      on None (Bare m) e = tt
      on None (Full k) e = cc
      on (Some b) (Bare m) e = cc
      on (Some b) (Full k) e = tt

  pub is-new : IsNew keys (length words) o n (record { words = words; side = m }) s
  is-new = record {
    is = read-is;
    member =
        record {
          size = refl;
          words = ap words_of read-is ∙ sym is;
          holds = subst (λ w. HoldsState keys w m (read keys (ring_of o) (record { words = words; side = m }))) (sym is) (subst (HoldsState keys (words_of s) m) (sym read-is) t.holds);
          sound = subst IsSound (sym read-is) t.sound;
        };
    now = sym steps;
    kind = kind-is;
  }

-- ---- a turn in which no files change

files-stay : (k : Kernel) → is_file_turn (Full k) ≡ false → files_of (Full k) ≡ files_of (step (Full k)).state
files-stay k stays =
    let shell : k.lists.running ≢ 1 = λ e. not-either (eqb k.lists.running 1) (eqb k.lists.running 4) (eq-eqb k.lists.running 1 e) stays in
    let handler : k.lists.running ≢ 4 = λ e. not-other (eqb k.lists.running 1) (eqb k.lists.running 4) (eq-eqb k.lists.running 4 e) stays in
    let same = step-files k shell handler in
    λ i. Some (record { disc = sym same.disc i; pipes = sym same.pipes i })
  where
    not-either : (a b : Bool) → a ≡ true → (a || b) ≡ false → ⊥
    not-either a b one none = cc

    not-other : (a b : Bool) → b ≡ true → (a || b) ≡ false → ⊥
    not-other true b one none = cc
    not-other false b one none = cc

abbrev kernel_disc : Kernel → Disc
kernel_disc k = (kernel_step k).kernel.disc

abbrev kernel_pipes : Kernel → List (Option Pipe)
kernel_pipes k = (kernel_step k).kernel.pipes

-- ---- the members, once they are cut

-- what is kept, and how it is seen
pub record HasNoted (keys : List (ℕ × ℕ)) (size : ℕ) (n : ℕ) (old : List State) (s t : State) (o : Option (Buffer KeptFiles)) (ps : List (Past Moment)) : Type 0 where
  pub left : AreKept keys size o (n + 1) ps
  pub is : states keys (ring_of o) ps ≡ kept (old ++ s ∷ []) t
  pub latest_is : latest (n + 1) o ≡ files_of t

module _ (keys : List (ℕ × ℕ)) (size : ℕ) (n : ℕ) (ps : List (Past Moment)) (p : Past Moment) where
  abbrev cut_to : State → List (Past Moment) → List (Past Moment)
  cut_to t qs = cut most_states most_changes (words_of t) (qs ++ p ∷ [])

  -- what came to be by now stays
  same-latest : (b : Buffer KeptFiles) → AreKept keys size (Some b) n ps → files_at n b.items ≡ files_at (n + 1) b.items
  same-latest b h =
      let until : Until n b.items = files-until b n (states keys b.items ps) h.files h.order in
      same-at n (n + 1) b.items until (all-turned (λ f. f.since ≤ n) (λ f. f.since ≤ n + 1) (λ f e. omega (arith, e)) b.items until)

  noted-stay : (o : Option (Buffer KeptFiles)) (s t : State) → AreKept keys size o n ps → IsNew keys size o n p s → is_file_turn s ≡ false → latest (n + 1) o ≡ files_of t → HasNoted keys size n (states keys (ring_of o) ps) s t o (cut_to t ps)
  noted-stay o s t h new stays files =
      let c = has-cut keys size o (n + 1) (ps ++ p ∷ []) t (words_of t) refl (stay-kept keys size o n ps p s h new stays) in
      record { left = c.left; is = c.is ∙ ap (λ l. kept l t) (pushed-states keys size o n ps p s h new); latest_is = files }

  noted-turn : (b : Buffer KeptFiles) (k : Kernel) (t : State) (f : Files) → AreKept keys size (Some b) n ps → IsNew keys size (Some b) n p (Full k) → is_file_turn (Full k) ≡ true → files_of t ≡ Some f
      → (j : Journal Moment) → j.past ≡ ps → HasNoted keys size n (states keys b.items ps) (Full k) t (with_files true (Some b) (n + 1) (Some f)) (cut_to t (roomy true (Some b) n j).past)
  noted-turn b k t f h new serves files j past =
      let left : KeptFiles = record { since = n + 1; disc = f.disc; pipes = f.pipes } in
      let s = has-served keys size b n ps p (Full k) h new left refl serves in
      subst (λ (l : List (Past Moment)). HasNoted keys size n (states keys b.items ps) (Full k) t (with_files true (Some b) (n + 1) (Some f)) (cut_to t (roomy true (Some b) n (record j { past = l })).past)) (sym past)
      (let c = has-cut keys size (with_files true (Some b) (n + 1) (Some f)) (n + 1) _ t (words_of t) refl s.kept_all in
      record { left = c.left; is = c.is ∙ sym (s.same t); latest_is = ap (λ g. Some g) s.latest ∙ sym files })

  -- a step of the machine, whichever turn it was
  pub has-noted : (b : Bool) (o : Option (Buffer KeptFiles)) (s : State) → AreKept keys size o n ps → IsNew keys size o n p s → latest n o ≡ files_of s → (j : Journal Moment) → j.past ≡ ps → b ≡ is_file_turn s
      → HasNoted keys size n (states keys (ring_of o) ps) s (step s).state (with_files b o (n + 1) (files_of (step s).state)) (cut_to (step s).state (roomy b o n j).past)
  has-noted false None (Bare m) h new files j past serves =
      subst (λ l. HasNoted keys size n (states keys [] ps) (Bare m) (step (Bare m)).state None (cut_to (step (Bare m)).state l)) (sym past) (noted-stay None (Bare m) (step (Bare m)).state h new refl refl)
  has-noted false (Some b) (Bare m) h new files j past serves = cc
  has-noted false None (Full k) h new files j past serves = cc
  has-noted false (Some b) (Full k) h new files j past serves =
      subst (λ l. HasNoted keys size n (states keys b.items ps) (Full k) (step (Full k)).state (Some b) (cut_to (step (Full k)).state l)) (sym past)
      (noted-stay (Some b) (Full k) (step (Full k)).state h new (sym serves) (ap (λ f. Some f) (sym (same-latest b h)) ∙ files ∙ files-stay k (sym serves)))
  has-noted true o (Bare m) h new files j past serves = cc
  has-noted true None (Full k) h new files j past serves = cc
  has-noted true (Some b) (Full k) h new files j past serves =
      let t : State = (step (Full k)).state in
      noted-turn b k t (record { disc = kernel_disc k; pipes = kernel_pipes k }) h new (sym serves) refl j past
