-- The queue in which a packet is found.
use Rattle.std.proofs.Common.{◌≡◌, ◌≢◌, ℕ, ◌&&◌, ◌||◌, Bool, true, false, not, Option, Some, None, Result, Ok, Err, ok_or, List, [], ◌∷◌, ◌++◌, cond, eqb, find, get_or, is_some, option_map, refl, sym, ap, ◌∙◌, subst}
use Rattle.std.proofs.lemmas.Bool.{eq-eqb, ne_eqb}
use Rattle.kernel_lists.specs.TaskBlock.TaskChain.{task_with, tasks_in}
use Rattle.kernel_model.specs.KernelRecord.Changes.{queue_of}
use Rattle.kernel_model.specs.KernelRecord.HoldsLists.{HoldsLists}
use Rattle.kernel_model.specs.KernelRecord.Lists.{Lists, has_task}
use Rattle.kernel_model.specs.KernelRecord.Residents.{fault_packet, key_packet}
use Rattle.kernel_model.specs.KernelRecord.ValidQueues.Place.{Pending, Work}
use Rattle.kernel_model.proofs.KernelRecord.WalkedLists.{residents-read}
use Rattle.kernel_calls.proofs.CallAnswers.FoundTask.{Finds, find-task, found-there}
use Rattle.kernel_model.specs.KernelRecord.ValidLists.{AreValid}
use Rattle.kernel_calls.specs.PacketCalls.Destinations.{is_destination, place_of}
use Rattle.kernel_calls.specs.PacketCalls.Dqpkt.{Search, found_in, found_in_own, further_searches, is_residents_packet, located, pending_number}
use Rattle.kernel_calls.specs.PacketCalls.PacketMoves.{is_on_queue}
use Rattle.kernel_calls.specs.declared.packet_calls.dequeue.Found.{Found}

-- ---- the searches in their order

module _ (l : Lists) (id p : ℕ) where
  abbrev test : Search → Bool
  test w = is_on_queue p (queue_of w.place l)

  abbrev named : Search
  named = record { place = place_of id; number = id; answer = id }

  abbrev reads : Search
  reads = record { place = Pending; number = pending_number; answer = id }

  abbrev own : Search
  own = record { place = Work l.running; number = l.running; answer = l.running }

  pub found-named : is_on_queue p (queue_of (place_of id) l) ≡ true → found_in l id p ≡ Some named
  found-named e = ap (λ b. cond b (Some named) (find test (further_searches id ++ own ∷ []))) e

  pub found-reads : is_on_queue p (queue_of (place_of id) l) ≡ false → id ≡ 3 → is_on_queue p l.pending ≡ true → found_in l id p ≡ Some reads
  found-reads e console f =
      let three : eqb id 3 ≡ true = eq-eqb id 3 console in
      (λ i. cond (e i) (Some named) (find test (cond (three i) (reads ∷ []) [] ++ own ∷ []))) ∙ ap (λ b. cond b (Some reads) (find test (own ∷ []))) f

  pub found-own : is_on_queue p (queue_of (place_of id) l) ≡ false → id ≢ 3 → found_in l id p ≡ found_in_own l p
  found-own e other =
      let three : eqb id 3 ≡ false = ne_eqb id 3 other in
      λ i. cond (e i) (Some named) (find test (cond (three i) (reads ∷ []) [] ++ own ∷ []))

  pub found-behind : is_on_queue p (queue_of (place_of id) l) ≡ false → id ≡ 3 → is_on_queue p l.pending ≡ false → found_in l id p ≡ found_in_own l p
  found-behind e console f =
      let three : eqb id 3 ≡ true = eq-eqb id 3 console in
      (λ i. cond (e i) (Some named) (find test (cond (three i) (reads ∷ []) [] ++ own ∷ []))) ∙ ap (λ b. cond b (Some reads) (find test (own ∷ []))) f

-- what the code has found
pub record IsFound (l : Lists) (id p : ℕ) (f : Found) : Type 0 where
  pub search : Search
  pub found : found_in l id p ≡ Some search
  pub located : f ≡ located l search

pub is-found : (l : Lists) (id p : ℕ) (f : Found) → Some f ≡ option_map (located l) (found_in l id p) → IsFound l id p f
is-found l id p f e = on (found_in l id p) refl e
  where
    on : (o : Option Search) → found_in l id p ≡ o → Some f ≡ option_map (located l) o → IsFound l id p f
    on None is e = cc
    on (Some w) is e = record { search = w; found = is; located = cc }

pub not-found : (l : Lists) (id p : ℕ) → None ≡ option_map (located l) (found_in l id p) → is_some (found_in l id p) ≡ false
not-found l id p e = on (found_in l id p) e
  where
    on : (o : Option Search) → None ≡ option_map (located l) o → is_some o ≡ false
    on None e = refl
    on (Some w) e = cc

-- ---- the residents' own packets

first-only : (b c : Bool) → ((b && true) || (c && false)) ≡ b
first-only true true = refl
first-only true false = refl
first-only false true = refl
first-only false false = refl

last-only : (b c : Bool) → ((b && false) || (c && true)) ≡ c
last-only true true = refl
last-only true false = refl
last-only false true = refl
last-only false false = refl

pub key-told : (s : List ℕ) (l : Lists) (p : ℕ) → HoldsLists s l → p ≡ key_packet → not (eqb (get_or s 112 0) 0) ≡ is_residents_packet l p
key-told s l p h e = residents-read s l h ∙ sym (first-only l.residents (has_task 2 l.tasks)) ∙ ap (is_residents_packet l) (sym e)

some-found : (id : ℕ) (l : Lists) (o : Option ℕ) → Finds id l.tasks o → is_some o ≡ has_task id l.tasks
some-found id l None none = sym none
some-found id l (Some a) t = sym (found-there l id a t)

pub fault-told : (s : List ℕ) (l : Lists) (p : ℕ) → HoldsLists s l → p ≡ fault_packet → is_some (task_with s 2 (tasks_in s)) ≡ is_residents_packet l p
fault-told s l p h e = some-found 2 l (task_with s 2 (tasks_in s)) (find-task s l 2 h) ∙ sym (last-only l.residents (has_task 2 l.tasks)) ∙ ap (is_residents_packet l) (sym e)

-- where the console is there, so are the reads that wait for a line
pub console-there : (l : Lists) (id : ℕ) → AreValid l → is_destination l id ≡ true → id ≡ 3 → l.residents ≡ true
console-there l id v names e = sym v.tasks.console ∙ subst (λ i. is_destination l i ≡ true) e names

-- a place where it was found, or the code where there is none
pub found-some : (o : Option Found) (f : Found) (code : ℕ) → ◌≡◌ {A = Result Found ℕ} (Ok f) (ok_or o code) → o ≡ Some f
found-some None f code e = cc
found-some (Some z) f code e = cc

pub found-none : (o : Option Found) (n code : ℕ) → ◌≡◌ {A = Result Found ℕ} (Err n) (ok_or o code) → (o ≡ None) × (n ≡ code)
found-none None n code e = (refl, cc)
found-none (Some z) n code e = cc
