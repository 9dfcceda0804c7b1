-- The queue that a number names.
use Rattle.std.proofs.Common.{◌≡◌, ◌≢◌, ℕ, ◌||◌, Bool, true, false, Option, Some, None, Result, Ok, Err, ok_or, map, cond, eqb, option_map, refl, sym, ap, ◌∙◌}
use Rattle.std.proofs.lemmas.Bool.{ne_eqb}
use Rattle.word_store.specs.Count.{IsApart}
use Rattle.kernel_model.specs.KernelRecord.Changes.{HasPlace}
use Rattle.kernel_model.specs.KernelRecord.Lists.{Lists, address_of_task, has_task}
use Rattle.kernel_model.specs.KernelRecord.Residents.{device}
use Rattle.kernel_model.specs.KernelRecord.Task.{task_id}
use Rattle.kernel_model.specs.KernelRecord.ValidQueues.Place.{Clock, Keyboard, Output, Work}
use Rattle.kernel_calls.proofs.CallAnswers.FoundTask.{Finds, found-address, found-there}
use Rattle.kernel_calls.specs.PacketCalls.Destinations.{destination_of, is_destination, place_of, queue_for}
use Rattle.kernel_calls.specs.declared.packet_calls.queues.Queue.{Queue}
use Rattle.kernel_calls.specs.declared.packet_calls.queues.Queue.TheVariants as queues

module _ (l : Lists) (n : ℕ) (no_clock : n ≢ device 1) (no_keyboard : n ≢ device 2) (no_output : n ≢ device 3) where
  pub no-device : destination_of l n ≡ cond (has_task n l.tasks) (Some (queues.Work (address_of_task l n))) None
  no-device =
      let a : eqb n (device 1) ≡ false = ne_eqb n (device 1) no_clock in
      let b : eqb n (device 2) ≡ false = ne_eqb n (device 2) no_keyboard in
      let c : eqb n (device 3) ≡ false = ne_eqb n (device 3) no_output in
      λ i. cond (a i || (b i || (c i || has_task n l.tasks))) (Some (queue_for l (cond (a i) Clock (cond (b i) Keyboard (cond (c i) Output (Work n)))))) None

  pub names-task : (o : Option ℕ) → IsApart (map task_id l.tasks) → Finds n l.tasks o → option_map queues.Work o ≡ destination_of l n
  names-task None apart none = sym (no-device ∙ ap (λ b. cond b (Some (queues.Work (address_of_task l n))) None) none)
  names-task (Some a) apart t =
      sym (no-device ∙ ap (λ b. cond b (Some (queues.Work (address_of_task l n))) None) (found-there l n a t) ∙ ap (λ z. Some (queues.Work z)) (found-address l n a apart t))

-- what such a number says
pub record Names (l : Lists) (n : ℕ) (q : Queue) : Type 0 where
  pub is : is_destination l n ≡ true
  pub queue : q ≡ queue_for l (place_of n)
  pub place : HasPlace l (place_of n)

pub named-place : (l : Lists) (n : ℕ) → is_destination l n ≡ true → HasPlace l (place_of n)
named-place l n e = on (eqb n (device 1)) (eqb n (device 2)) (eqb n (device 3)) e
  where
    on : (a b c : Bool) → (a || (b || (c || has_task n l.tasks))) ≡ true → HasPlace l (cond a Clock (cond b Keyboard (cond c Output (Work n))))
    on true b c e = tt
    on false true c e = tt
    on false false true e = tt
    on false false false e = e

pub names-some : (l : Lists) (n : ℕ) (q : Queue) → destination_of l n ≡ Some q → Names l n q
names-some l n q e = on (is_destination l n) refl e
  where
    on : (b : Bool) → is_destination l n ≡ b → cond b (Some (queue_for l (place_of n))) None ≡ Some q → Names l n q
    on true is e = record { is = is; queue = cc; place = named-place l n is }
    on false is e = cc

-- a queue, or the code where there is none
pub queue-some : (o : Option Queue) (q : Queue) (code : ℕ) → ◌≡◌ {A = Result Queue ℕ} (Ok q) (ok_or o code) → o ≡ Some q
queue-some None q code e = cc
queue-some (Some z) q code e = cc

pub queue-none : (o : Option Queue) (n code : ℕ) → ◌≡◌ {A = Result Queue ℕ} (Err n) (ok_or o code) → (o ≡ None) × (n ≡ code)
queue-none None n code e = (refl, cc)
queue-none (Some z) n code e = cc

pub names-none : (l : Lists) (n : ℕ) → destination_of l n ≡ None → is_destination l n ≡ false
names-none l n e = on (is_destination l n) e
  where
    on : (b : Bool) → cond b (Some (queue_for l (place_of n))) None ≡ None → b ≡ false
    on true e = cc
    on false e = refl
