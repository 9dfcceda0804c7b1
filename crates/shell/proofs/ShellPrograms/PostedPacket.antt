-- The shell's packet is sent.
use Rattle.std.proofs.Common.{◌≡◌, ℕ, ◌<◌, ◌≤◌, ◌^◌, ◌%◌, List, [], ◌∷◌, cond, Bool, true, Option, Ok, inl, refl, ap, ◌∙◌, subst, arith, ℤ, pos, ◌-ℤ◌}
use Rattle.std.specs.List.{AllByRecursion, range_with_len}
use Rattle.std.proofs.lemmas.Bool.{lt-ltb}
use Rattle.word_store.specs.Arithmetic.{signed, word_of}
use Rattle.word_store.specs.Count.{times}
use Rattle.word_store.proofs.Counts.{hit-same, range-high, range-low}
use Rattle.kernel_lists.specs.OwnedWords.Owned.{Pairs, owners, written}
use Rattle.kernel_lists.proofs.OwnedWords.OwnedWords.{length-written}
use Rattle.kernel_lists.proofs.OwnedWords.RowWords.{owners-row}
use Rattle.kernel_lists.specs.declared.packet_queue.events.KernelEvent.{KernelEvent}
use Rattle.kernel_model.specs.KernelRecord.ChangedStore.{HasKeeper}
use Rattle.kernel_model.specs.KernelRecord.HoldsLists.{HoldsLists}
use Rattle.kernel_model.specs.KernelRecord.Lists.{Lists, has_task}
use Rattle.kernel_model.specs.KernelRecord.NotedEvents.{NotesAll}
use Rattle.kernel_model.specs.KernelRecord.Owned.{owned}
use Rattle.kernel_model.specs.KernelRecord.ValidLists.{AreValid}
use Rattle.kernel_model.proofs.KernelRecord.AllThings.{all-here}
use Rattle.kernel_model.proofs.KernelRecord.RootCounts.{highest-high}
use Rattle.kernel_model.proofs.KernelRecord.TaskPlaces.{TaskPlace, task-places}
use Rattle.kernel_calls.specs.CallAnswers.CallChange.{IsMade, minus_one}
use Rattle.kernel_calls.proofs.CallAnswers.RunningTask.{there-at}
use Rattle.kernel_calls.specs.PacketCalls.SendOwn.{CanSendOwn, send_own}
use Rattle.kernel_calls.proofs.TaskCalls.PlainRows.{plain-set}
use Rattle.kernel_model.specs.KernelRecord.StoreWithLists.{store_with_lists}
use Rattle.shell.specs.ShellPrograms.ShellPacket.{CanPost, post_events, posted, request_words}
use Rattle.shell.specs.ShellPrograms.StoresWithLists.{RepresentsStoreWithLists}
use Rattle.shell.proofs.ShellPrograms.StoresAfterCalls.{made-represents}
use Rattle.shell.proofs.ShellPrograms.PacketPlace.{packet-arguments, packet-five, packet-residents}

-- ---- the number of a task

pub number-low : (l : Lists) (id : ℕ) → AreValid l → has_task id l.tasks ≡ true → id ≤ 63
number-low l id v there =
    let t = there-at id l.tasks there in
    let p : TaskPlace l t.task = all-here (TaskPlace l) t.front t.task t.back (subst (AllByRecursion (TaskPlace l)) t.is (task-places l v)) in
    omega (arith, p.high_id, t.number, highest-high l.version)

-- it is a word that is no device's
word-low : (n : ℕ) → n ≤ 63 → word_of (signed n) ≡ n
word-low n low = ap word_of (signed-low n low) ∙ small
  where
    signed-low : (n : ℕ) → n ≤ 63 → signed n ≡ pos n
    signed-low n low = ap (λ b. cond b (pos n) (pos n -ℤ pos (2 ^ 32))) (lt-ltb n (2 ^ 31) (omega (arith, low)))

    small : n % 2 ^ 32 ≡ n
    small = omega (arith, low)

-- ---- it is sent

module _ (s : List ℕ) (l : Lists) (to : ℕ) (z : ℤ) (tells : List ℕ → Type 0) (room : ℕ) (k : HasKeeper s tells room l) (r : CanPost l to) (is : z ≡ signed to) where
  word-is : word_of z ≡ to
  word-is = ap word_of is ∙ word-low to (number-low l to k.lists.valid r.there)

  pub can-post : CanSendOwn l 279 1 (word_of z)
  can-post =
      inl (record {
        sender = r.packet.shell;
        there = ap (λ i. has_task i l.tasks) word-is ∙ r.there;
        lodged = packet-five l k.lists.valid (packet-residents l k.lists.valid r.packet);
        plain = r.packet.words;
      })

  pub posted-represents : (t : List ℕ) (told : List ℕ → Type 0) (after : ℕ) → after ≡ room → IsMade s t told (Ok minus_one) (send_own s l 279 1 (word_of z)) → RepresentsStoreWithLists t told after (posted to (store_with_lists s l))
  posted-represents t told after same made =
      made-represents s t told after (Ok minus_one) (send_own s l 279 1 to) (subst (λ n. IsMade s t told (Ok minus_one) (send_own s l 279 1 n)) word-is made) (omega (arith, same, k.enough))

  pub posted-notes : (before now : Option (List KernelEvent)) (f h : Bool) → NotesAll before now f h (send_own s l 279 1 (word_of z)).events → NotesAll before now f h (post_events to)
  posted-notes before now f h notes = subst (λ n. NotesAll before now f h (post_events n)) word-is notes

-- ---- its words are written

written-holds : (ws : Pairs) (s : List ℕ) (l : Lists) → HoldsLists s l → ((a : ℕ) → 0 < owners a ws → owners a (owned l) ≡ 0) → HoldsLists (written ws s) l
written-holds [] s l h free = h
written-holds (e ∷ es) s l h free =
    plain-set (written es s) l e.0 e.1 (written-holds es s l h (λ a some. free a (omega (arith, some)))) (free e.0 (omega (arith, hit-same e.0 e.0 refl)))

pub request-keeper : (s : List ℕ) (l : Lists) (to kind : ℕ) (tells : List ℕ → Type 0) (room : ℕ) → HasKeeper s tells room l → CanPost l to → HasKeeper (written (request_words kind) s) tells room l
request-keeper s l to kind tells room k r =
    record {
      lists = written-holds (request_words kind) s l k.lists free;
      knows = k.knows;
      enough = omega (arith, k.enough, length-written (request_words kind) s);
    }
  where
    free : (a : ℕ) → 0 < owners a (request_words kind) → owners a (owned l) ≡ 0
    free a some =
        let within : 0 < times a (range_with_len 281 6) = omega (arith, some, owners-row a 279 2 (kind ∷ 0 ∷ 0 ∷ 0 ∷ 0 ∷ 0 ∷ [])) in
        packet-arguments l k.lists.valid r.packet a (omega (arith, range-low a 281 6 within)) (omega (arith, range-high a 281 6 within))
