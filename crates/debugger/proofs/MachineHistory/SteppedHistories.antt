-- A history once its machine has taken a step.
use Rattle.std.proofs.Common.{◌≡◌, ℕ, ◌+◌, Bool, true, false, Option, Some, None, List, [], ◌∷◌, ◌++◌, length, refl, sym, ap, subst, ◌∙◌}
use Rattle.circular_buffer.specs.Buffer.{Buffer}
use Rattle.debugger.specs.UndoJournal.Journals.{Journal, Past, cut, noted}
use Rattle.tripos_machine.specs.State.{State, steps_of, stop_of, words_of}
use Rattle.tripos_machine.specs.Step.{step}
use Rattle.tripos_machine.proofs.StepSizes.{step-count, step-size}
use Rattle.debugger.specs.MachineHistory.Histories.{IsHistory, ring_of, roomy, view_of, with_files}
use Rattle.debugger.specs.MachineHistory.Moments.{IsMomentOf, states}
use Rattle.debugger.specs.MachineHistory.Pasts.{Now, files_of, is_file_turn, most_changes, most_states, now_of, remembered}
use Rattle.debugger.specs.declared.machine_history.files.KeptFiles.{KeptFiles}
use Rattle.debugger.specs.declared.machine_history.histories.History.TheInside.{Inside}
use Rattle.debugger.specs.declared.machine_history.moments.Moment.{Moment}
use Rattle.debugger.proofs.MachineHistory.NotedHistories.{HasNoted, has-noted, is-new}
use Rattle.debugger.proofs.MachineHistory.NotedStates.{AreKept}

-- what room does not change
pub roomy-words : (b : Bool) (o : Option (Buffer KeptFiles)) (n : ℕ) (j : Journal Moment) → (roomy b o n j).words ≡ j.words
roomy-words true (Some b) n j = refl
roomy-words true None n j = refl
roomy-words false o n j = refl

roomy-steps : (b : Bool) (o : Option (Buffer KeptFiles)) (n : ℕ) (j : Journal Moment) → (roomy b o n j).steps ≡ j.steps
roomy-steps true (Some b) n j = refl
roomy-steps true None n j = refl
roomy-steps false o n j = refl

roomy-changes : (b : Bool) (o : Option (Buffer KeptFiles)) (n : ℕ) (j : Journal Moment) → (roomy b o n j).changes ≡ j.changes
roomy-changes true (Some b) n j = refl
roomy-changes true None n j = refl
roomy-changes false o n j = refl

-- what is kept of a history
abbrev pub kept_of : (h : Inside) → IsHistory h → AreKept h.keys.items (length h.journal.words) h.files h.steps h.journal.past
kept_of h k = record { members = k.members; order = k.order; files = k.files }

-- the history after a step from a state to another
pub record IsStepped (h new : Inside) (s t : State) (keys : List (ℕ × ℕ)) : Type 0 where
  pub history : IsHistory new
  pub past : (view_of new).past ≡ remembered (view_of h).past s t
  pub now : (view_of new).now ≡ now_of t keys

module _ (h : Inside) (k : IsHistory h) (s : State) (keys : List (ℕ × ℕ)) (now : (view_of h).now ≡ now_of s keys) (goes : stop_of s ≡ None) (m : Moment) (taken : IsMomentOf keys m s) (b : Bool) (serves : b ≡ is_file_turn s) where
  abbrev t : State
  t = (step s).state

  abbrev room : Journal Moment
  room = roomy b h.files h.steps h.journal

  abbrev after : Inside
  after = record { journal = noted room (words_of t) m; files = with_files b h.files (h.steps + 1) (files_of t); steps = h.steps + 1; keys = h.keys }

  same-keys : h.keys.items ≡ keys
  same-keys = ap (λ (n : Now). n.keys) now

  same-words : h.journal.words ≡ words_of s
  same-words = ap (λ (n : Now). n.words) now

  pub same-size : length (words_of t) ≡ length h.journal.words
  same-size = step-size s taken.sound ∙ ap length (sym same-words)

  pub note-size : length (words_of t) ≡ length room.words
  note-size = same-size ∙ ap length (sym (roomy-words b h.files h.steps h.journal))

  abbrev member : Past Moment
  member = record { words = h.journal.words; side = m }

  cut-is : (noted room (words_of t) m).past ≡ cut most_states most_changes (words_of t) (room.past ++ member ∷ [])
  cut-is = λ i. cut ((roomy-steps b h.files h.steps h.journal ∙ k.most) i) ((roomy-changes b h.files h.steps h.journal ∙ k.changes) i) (words_of t) (room.past ++ (record { words = roomy-words b h.files h.steps h.journal i; side = m }) ∷ [])

  all-noted : HasNoted h.keys.items (length h.journal.words) h.steps (states h.keys.items (ring_of h.files) h.journal.past) s t (with_files b h.files (h.steps + 1) (files_of t)) (cut most_states most_changes (words_of t) (room.past ++ member ∷ []))
  all-noted =
      let files = ap (λ (n : Now). n.files) now in
      let new = is-new h.keys.items h.files h.steps h.journal.words m s (subst (λ l. IsMomentOf l m s) (sym same-keys) taken) goes same-words files (ap (λ (n : Now). n.steps) now) in
      has-noted h.keys.items (length h.journal.words) h.steps h.journal.past member b h.files s (kept_of h k) new files h.journal refl serves

  whole : HasNoted h.keys.items (length h.journal.words) h.steps (states h.keys.items (ring_of h.files) h.journal.past) s t (with_files b h.files (h.steps + 1) (files_of t)) (noted room (words_of t) m).past
  whole = subst (HasNoted h.keys.items (length h.journal.words) h.steps (states h.keys.items (ring_of h.files) h.journal.past) s t (with_files b h.files (h.steps + 1) (files_of t))) (sym cut-is) all-noted

  pub stepped-is : IsHistory after
  stepped-is =
      let left = subst (λ n. AreKept h.keys.items n after.files after.steps after.journal.past) (sym same-size) whole.left in
      record {
        members = left.members;
        order = left.order;
        files = left.files;
        most = roomy-steps b h.files h.steps h.journal ∙ k.most;
        changes = roomy-changes b h.files h.steps h.journal ∙ k.changes;
      }

  pub stepped-past : (view_of after).past ≡ remembered (view_of h).past s t
  stepped-past = whole.is

  pub stepped-now : (view_of after).now ≡ now_of t keys
  stepped-now = λ i. record { words = words_of t; files = whole.latest_is i; steps = counted i; keys = same-keys i }
    where
      counted : h.steps + 1 ≡ steps_of t
      counted = ap (λ (n : Now). n.steps + 1) now ∙ sym (step-count s goes)

  -- whatever it is called
  pub is-stepped : (j : Journal Moment) (f : Option (Buffer KeptFiles)) (u : State) (others : List (ℕ × ℕ)) → u ≡ t → others ≡ keys → j ≡ noted room (words_of t) m → f ≡ with_files b h.files (h.steps + 1) (files_of t)
      → IsStepped h (record { journal = j; files = f; steps = h.steps + 1; keys = h.keys }) s u others
  is-stepped j f u others state same journal_is files_is =
      let eq : ◌≡◌ {A = Inside} (record { journal = j; files = f; steps = h.steps + 1; keys = h.keys }) after = λ i. record { journal = journal_is i; files = files_is i; steps = h.steps + 1; keys = h.keys } in
      record {
        history = subst IsHistory (sym eq) stepped-is;
        past = ap (λ (x : Inside). (view_of x).past) eq ∙ stepped-past ∙ ap (remembered (view_of h).past s) (sym state);
        now = ap (λ (x : Inside). (view_of x).now) eq ∙ stepped-now ∙ (λ i. now_of (sym state i) (sym same i));
      }
