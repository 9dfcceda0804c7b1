-- A turn of the console, part after part.
use Rattle.std.proofs.Common.{◌≡◌, ℕ, true, Option, List, ◌++◌, append-nil, append_assoc, length, get_or, refl, sym, ap, ◌∙◌, arith, inl, inr}
use Rattle.std.specs.Prelude.{unwrap_or, Bool}
use Rattle.std.proofs.lemmas.Bool.{cases_lt}
use Rattle.std.proofs.lemmas.List.{ext_get_or}
use Rattle.std.proofs.lemmas.List.FromFn.{get_or-map-range_with_len, length-map-range_with_len}
use Rattle.kernel_lists.specs.OwnedWords.Owned.{Pairs, owners, word_in, written}
use Rattle.kernel_lists.proofs.OwnedWords.OwnedWords.{length-written, written-append, word_in-holds, word_in-none}
use Rattle.kernel_lists.specs.declared.packet_queue.events.KernelEvent.{KernelEvent}
use Rattle.kernel_model.specs.KernelRecord.ChangedStore.{HasKeeper, IsChanged, Knows}
use Rattle.kernel_model.specs.KernelRecord.Kernel.{Console}
use Rattle.kernel_model.specs.KernelRecord.Lists.{Lists, has_task}
use Rattle.kernel_model.specs.KernelRecord.NotedEvents.{NotesAll}
use Rattle.kernel_model.specs.KernelRecord.Owned.{owned}
use Rattle.kernel_model.proofs.KernelRecord.ChangedLists.{changed-none, changed-then, knows-same}
use Rattle.kernel_model.proofs.KernelRecord.NotedInTurn.{notes-none, notes-then}
use Rattle.kernel_calls.specs.CallAnswers.Outside.{Outside, outside}
use Rattle.kernel_model.specs.declared.kernel_record.numbers.TheConstants.{CONSOLE}
use Rattle.resident_tasks.specs.ConsoleHandler.ConsoleTurn.{ended, turn_done}
use Rattle.resident_tasks.specs.ResidentRequests.Answers.{IsFinished, finished}
use Rattle.resident_tasks.specs.ResidentRequests.Turns.{IsResidentTurn}
use Rattle.resident_tasks.specs.ConsoleHandler.TurnParts.{ConsoleStart, ConsoleTurn, IsDone, and_then, begun, settled_words}
use Rattle.resident_tasks.specs.ResidentRequests.Requests.{RunsResident}
use Rattle.resident_tasks.proofs.ResidentRequests.ResidentTurns.{written-same}

-- ---- the words of a store

pub settled-words : (s t : List ℕ) (l : Lists) (plain : Pairs) → IsChanged s t l plain → t ≡ settled_words s l plain
unfolding settled_words
settled-words s t l plain x =
    ext_get_or 0 t (settled_words s l plain) (x.size ∙ sym (length-map-range_with_len word 0 (length s)))
    (λ a low. here a ∙ sym (get_or-map-range_with_len word 0 (length s) a a 0 (omega (arith, low, x.size)) (omega arith)))
  where
    word : ℕ → ℕ
    word a = unwrap_or (word_in a (owned l)) (get_or (written plain s) a 0)

    here : (a : ℕ) → get_or t a 0 ≡ word a
    here a =
        elim (cases_lt 0 (owners a (owned l))) [
          | inl some ↦ sym (ap (λ o. unwrap_or o (get_or (written plain s) a 0)) (word_in-holds t a (owned l) x.written.holds some))
          | inr few ↦
              let none : owners a (owned l) ≡ 0 = omega (arith, few) in
              x.written.others a none ∙ sym (ap (λ o. unwrap_or o (get_or (written plain s) a 0)) (word_in-none a (owned l) none))
        ]

-- ---- one part more

pub done-none : (s : List ℕ) (l : Lists) (o : Outside) (tells : List ℕ → Type 0) (room : ℕ) (c : Console) (k : List ℕ) → HasKeeper s tells room l → RunsResident l → l.running ≡ CONSOLE
    → IsDone (record { words = s; lists = l; outside = o }) s tells room o c k (begun s l c k)
done-none s l o tells room c k h runs is =
    record {
      words = refl;
      lists = changed-none s l h.lists;
      knows = h.knows;
      enough = h.enough;
      same = λ a. refl;
      bytes = sym (append-nil o.shown);
      notes = notes-none o.noted o.failed;
      line = refl;
      shell = refl;
      runs = runs;
      is = is;
    }

module _ (b : ConsoleStart) (t : List ℕ) (tells : List ℕ → Type 0) (room : ℕ) (now : Outside) (c : Console) (k : List ℕ) (g : ConsoleTurn) (x : IsDone b t tells room now c k g) where
  pub done-keeper : HasKeeper t tells room g.lists
  done-keeper = record { lists = x.lists.lists; knows = x.knows; enough = x.enough }

  pub done-residents : g.lists.residents ≡ true
  done-residents = sym x.lists.lists.valid.tasks.console ∙ (ap (λ i. has_task i g.lists.tasks) (sym x.is) ∙ x.runs.there)

  -- bytes go to the output
  pub bytes-done : (bytes shown : List ℕ) → shown ≡ now.shown ++ bytes → IsDone b t tells room (outside shown now.noted now.failed) c k (record g { bytes = g.bytes ++ bytes })
  bytes-done bytes shown is_shown =
      record {
        words = x.words;
        lists = x.lists;
        knows = x.knows;
        enough = x.enough;
        same = x.same;
        bytes = is_shown ∙ (ap (λ z. z ++ bytes) x.bytes ∙ append_assoc b.outside.shown g.bytes bytes);
        notes = x.notes;
        line = x.line;
        shell = x.shell;
        runs = x.runs;
        is = x.is;
      }

  module _ (u : List ℕ) (told : List ℕ → Type 0) (after : ℕ) (noted : Option (List KernelEvent)) (failed : Bool) (m : Lists) (plain : Pairs) (events : List KernelEvent)
      (room_is : after ≡ room) (y : IsChanged t u m plain) (knows : Knows told m) (same : (a : ℕ) → owners a (owned m) ≡ owners a (owned g.lists)) (notes : NotesAll now.noted noted now.failed failed events) where
    changed : IsChanged b.words u m (plain ++ g.plain)
    changed =
        record {
          lists = y.lists;
          size = y.size ∙ x.lists.size;
          written =
              record {
                holds = y.written.holds;
                others = λ a none.
                    y.written.others a none
                    ∙ (written-same plain (written g.plain b.words) t a (x.lists.size ∙ sym (length-written g.plain b.words)) (x.lists.written.others a (sym (same a) ∙ none))
                    ∙ sym (ap (λ z. get_or z a 0) (written-append plain g.plain b.words)));
              };
        }

    pub done-then : RunsResident m → m.running ≡ g.lists.running → IsDone b u told after (outside now.shown noted failed) c k (and_then g m plain events)
    done-then runs still =
        record {
          words = settled-words t u m plain y ∙ ap (λ z. settled_words z m plain) x.words;
          lists = changed;
          knows = knows;
          enough = omega (arith, x.enough, y.size, room_is);
          same = λ a. same a ∙ x.same a;
          bytes = x.bytes;
          notes = notes-then b.outside.noted now.noted noted b.outside.failed now.failed failed g.events events x.notes notes;
          line = x.line;
          shell = x.shell;
          runs = runs;
          is = still ∙ x.is;
        }

-- ---- the end

module _ (b : ConsoleStart) (t : List ℕ) (tells : List ℕ → Type 0) (room : ℕ) (now : Outside) (c : Console) (k : List ℕ) (g : ConsoleTurn) (x : IsDone b t tells room now c k g) where
  pub done-ended : (u : List ℕ) → IsFinished t u g.lists → IsResidentTurn u tells b.outside now (turn_done b.words (ended g))
  done-ended u y =
      record {
        lists = changed-then b.words t u g.lists (finished g.lists) g.plain x.lists y.lists (λ a none. sym (y.same a) ∙ none);
        knows = knows-same tells g.lists (finished g.lists) y.same x.knows;
        bytes = x.bytes;
        notes = x.notes;
      }
