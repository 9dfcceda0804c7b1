-- The words of a task's head.
use Rattle.std.proofs.Common.{◌≡◌, ◌≢◌, ◌↔◌, ℕ, zero, suc, ◌+◌, ◌-◌, ◌<◌, ◌≤◌, ◌/◌, ◌%◌, Bool, true, false, List, [], ◌∷◌, cond, eqb, get_or, length, map, not, refl, sym, ap, ◌∙◌, arith}
use Rattle.std.specs.Prelude.{filter, slice_range}
use Rattle.std.proofs.lemmas.Bool.{eq-eqb, eqb-true, false≢true, ne_eqb}
use Rattle.kernel_lists.specs.LinkedList.Chain.{IsChain}
use Rattle.kernel_lists.proofs.LinkedList.Walks.{walk-ends}
use Rattle.kernel_lists.specs.OwnedWords.LinkedWords.{first_of}
use Rattle.kernel_lists.specs.OwnedWords.Owned.{Holds}
use Rattle.kernel_lists.specs.PacketQueue.Queue.{link_of, queue_at}
use Rattle.kernel_lists.specs.PacketQueue.QueueWords.{QueuedPacket}
use Rattle.kernel_lists.specs.TaskBlock.TaskChain.{id_in}
use Rattle.kernel_lists.specs.TaskBlock.Versions.{head_words}
use Rattle.kernel_model.specs.KernelRecord.Recovered.{lists_in, packet_in, task_in}
use Rattle.kernel_model.specs.KernelRecord.Task.{globals_of, is_guest_id, queue_bit, queue_head, stack_of, state_words}
use Rattle.kernel_model.specs.KernelRecord.Versions.{head_words_of}
use Rattle.kernel_check.specs.ListPasses.Private.CanPass.{CanPass}
use Rattle.kernel_check.specs.ListPasses.Private.TaskRules.{HasWord}
use Rattle.kernel_check.proofs.ListPasses.GuestWords.{filter-some, head-is}

-- ---- the bit of the queue

pub no-packets : (s : List ℕ) (t : ℕ) → get_or s (t + 3) 0 ≡ 0 → 0 ≡ queue_bit (task_in s t).queue
no-packets s t e = ap (λ ps. queue_bit (map (packet_in s) ps)) (sym (walk-ends s link_of (queue_head t) e))

pub some-packets : (s : List ℕ) (t : ℕ) → CanPass s t → get_or s (t + 3) 0 ≢ 0 → 1 ≡ queue_bit (task_in s t).queue
some-packets s t can some = on (queue_at s (queue_head t)) can.queue.chain
  where
    on : (ps : List ℕ) → IsChain s link_of (queue_head t) ps → 1 ≡ queue_bit (map (packet_in s) ps)
    on [] chain = absurd (some chain)
    on (p ∷ ps) chain = refl

bit-low : (s : List ℕ) (t : ℕ) → queue_bit (task_in s t).queue ≤ 1
bit-low s t = on (task_in s t).queue
  where
    on : (q : List QueuedPacket) → queue_bit q ≤ 1
    on [] = omega arith
    on (p ∷ ps) = omega arith

-- ---- the addresses of stack and globals

pub guest-stack : (s : List ℕ) (t : ℕ) → is_guest_id (id_in s t) ≡ true → t + head_words s + 1001 ≡ stack_of (lists_in s).version (task_in s t)
guest-stack s t is = (let e : t + head_words s + 1001 ≡ t + head_words_of (lists_in s).version + 1001 = omega (arith, head-is s) in e ∙ ap (λ b. cond b (t + head_words_of (lists_in s).version + 1001) 0) (sym is))

pub guest-globals : (s : List ℕ) (t : ℕ) → is_guest_id (id_in s t) ≡ true → t + head_words s ≡ globals_of (lists_in s).version (task_in s t)
guest-globals s t is = (let e : t + head_words s ≡ t + head_words_of (lists_in s).version = omega (arith, head-is s) in e ∙ ap (λ b. cond b (t + head_words_of (lists_in s).version) 0) (sym is))

-- ---- the first module

first-filter : (w : ℕ) (ws : List ℕ) → w ≢ 0 → w ≡ first_of (λ m. m) (filter (λ m. not (eqb m 0)) (w ∷ ws)) 0
first-filter w ws some = ap (λ b. first_of (λ m. m) (cond (not b) (w ∷ filter (λ m. not (eqb m 0)) ws) (filter (λ m. not (eqb m 0)) ws)) 0) (sym (ne_eqb w 0 some))

pub skip-first : (w : ℕ) (ws : List ℕ) → w ≡ 0 → first_of (λ m. m) (filter (λ m. not (eqb m 0)) (w ∷ ws)) 0 ≡ first_of (λ m. m) (filter (λ m. not (eqb m 0)) ws) 0
skip-first w ws none = ap (λ b. first_of (λ m. m) (cond (not b) (w ∷ filter (λ m. not (eqb m 0)) ws) (filter (λ m. not (eqb m 0)) ws)) 0) (eq-eqb w 0 none)

-- the first of words that are not 0 is 0 only where there is none
first-none : (ws : List ℕ) → (HasWord ws → ⊥) → first_of (λ m. m) (filter (λ m. not (eqb m 0)) ws) 0 ≡ 0
first-none ws none = on (filter (λ m. not (eqb m 0)) ws) (λ some. none (filter-some ws some))
  where
    on : (xs : List ℕ) → (1 ≤ length xs → ⊥) → first_of (λ m. m) xs 0 ≡ 0
    on [] h = refl
    on (x ∷ xs) h = absurd (h (omega arith))

pub first-some : (ws : List ℕ) → HasWord ws → first_of (λ m. m) (filter (λ m. not (eqb m 0)) ws) 0 ≢ 0
first-some [] h = absurd (omega (arith, h.low))
first-some (w ∷ ws) h = on (eqb w 0) refl h (λ k. first-some ws k)
  where
    on : (b : Bool) → eqb w 0 ≡ b → HasWord (w ∷ ws) → (HasWord ws → first_of (λ m. m) (filter (λ m. not (eqb m 0)) ws) 0 ≢ 0)
        → first_of (λ m. m) (cond (not b) (w ∷ filter (λ m. not (eqb m 0)) ws) (filter (λ m. not (eqb m 0)) ws)) 0 ≢ 0
    on true e h more = at h.at h.low h.some
      where
        at : (k : ℕ) → k < length (w ∷ ws) → get_or (w ∷ ws) k 0 ≢ 0 → first_of (λ m. m) (filter (λ m. not (eqb m 0)) ws) 0 ≢ 0
        at zero low some = absurd (some (eqb-true w 0 e))
        at (suc k) low some = more (record { at = k; low = omega (arith, low); some = some })
    on false e h more = λ z. false≢true (sym e ∙ eq-eqb w 0 z)

module _ (s : List ℕ) (t first : ℕ) (read : first ≡ get_or s (t + 10) 0) where
  pub first-here : first ≢ 0 → get_or s (t + 10) 0 ≡ first_of (λ m. m) (task_in s t).modules 0
  first-here some = first-filter (get_or s (t + 10) 0) (cond (is_guest_id (id_in s t)) (slice_range s (t + 23) (t + head_words s)) []) (λ e. some (read ∙ e))

  behind : first ≡ 0 → first_of (λ m. m) (task_in s t).modules 0 ≡ first_of (λ m. m) (filter (λ m. not (eqb m 0)) (cond (is_guest_id (id_in s t)) (slice_range s (t + 23) (t + head_words s)) [])) 0
  behind none = skip-first (get_or s (t + 10) 0) (cond (is_guest_id (id_in s t)) (slice_range s (t + 23) (t + head_words s)) []) (sym read ∙ none)

  pub first-alone : first ≡ 0 → is_guest_id (id_in s t) ≡ false → get_or s (t + 10) 0 ≡ first_of (λ m. m) (task_in s t).modules 0
  first-alone none resident =
      sym read ∙ none
      ∙ sym (behind none ∙ ap (λ b. first_of (λ m. m) (filter (λ m. not (eqb m 0)) (cond b (slice_range s (t + 23) (t + head_words s)) [])) 0) resident)

  pub first-absent : (ws : List ℕ) (a n : ℕ) (b : Bool) → first ≡ 0 → is_guest_id (id_in s t) ≡ true → ws ≡ slice_range s a (a + n) → a ≡ t + 23 → n ≡ head_words s - 23 → ((b ≡ true) ↔ HasWord ws)
      → (not b ≡ true) ↔ (get_or s (t + 10) 0 ≡ first_of (λ m. m) (task_in s t).modules 0)
  first-absent ws a n b none guest is at size answer =
      let end : t + head_words s ≡ a + n = omega (arith, at, size, low (eqb (get_or s 111 0) 2)) in
      let e : slice_range s (t + 23) (t + head_words s) ≡ ws = (λ i. slice_range s (sym at i) (end i)) ∙ sym is in
      let same : first_of (λ m. m) (task_in s t).modules 0 ≡ first_of (λ m. m) (filter (λ m. not (eqb m 0)) ws) 0 =
      behind none ∙ ap (λ g. first_of (λ m. m) (filter (λ m. not (eqb m 0)) (cond g (slice_range s (t + 23) (t + head_words s)) [])) 0) guest ∙ ap (λ z. first_of (λ m. m) (filter (λ m. not (eqb m 0)) z) 0) e
      in
      on b answer same
    where
      low : (v : Bool) → 23 ≤ cond v 30 23
      low true = omega arith
      low false = omega arith

      on : (b : Bool) → ((b ≡ true) ↔ HasWord ws) → first_of (λ m. m) (task_in s t).modules 0 ≡ first_of (λ m. m) (filter (λ m. not (eqb m 0)) ws) 0
          → (not b ≡ true) ↔ (get_or s (t + 10) 0 ≡ first_of (λ m. m) (task_in s t).modules 0)
      on true answer same = (λ h. absurd (false≢true h), λ h. absurd (first-some ws (answer.0 refl) (sym same ∙ sym h ∙ sym read ∙ none)))
      on false answer same = (λ h. sym read ∙ none ∙ sym (same ∙ first-none ws (λ w. false≢true (answer.1 w))), λ h. refl)

-- ---- all of them

state-is : (w bit : ℕ) → w % 2 ≡ bit → w ≡ w - w % 4 + bit + cond (eqb (w / 2 % 2) 1) 2 0
state-is w bit e = on (eqb (w / 2 % 2) 1) refl
  where
    on : (b : Bool) → eqb (w / 2 % 2) 1 ≡ b → w ≡ w - w % 4 + bit + cond b 2 0
    on true h = (let k : w / 2 % 2 ≡ 1 = eqb-true (w / 2 % 2) 1 h in omega (arith, e, k))
    on false h = (let k : w / 2 % 2 ≢ 1 = λ z. false≢true (sym h ∙ eq-eqb (w / 2 % 2) 1 z) in omega (arith, e, k))

is-state : (w bit : ℕ) → bit ≤ 1 → w ≡ w - w % 4 + bit + cond (eqb (w / 2 % 2) 1) 2 0 → w % 2 ≡ bit
is-state w bit low e = on (eqb (w / 2 % 2) 1) e
  where
    on : (b : Bool) → w ≡ w - w % 4 + bit + cond b 2 0 → w % 2 ≡ bit
    on true e = omega (arith, e, low)
    on false e = omega (arith, e, low)

pub record HasState (s : List ℕ) (t : ℕ) : Type 0 where
  pub bit : get_or s (t + 4) 0 % 2 ≡ queue_bit (task_in s t).queue
  pub stack : get_or s (t + 6) 0 ≡ stack_of (lists_in s).version (task_in s t)
  pub globals : get_or s (t + 8) 0 ≡ globals_of (lists_in s).version (task_in s t)
  pub first : get_or s (t + 10) 0 ≡ first_of (λ m. m) (task_in s t).modules 0

pub holds-state : (s : List ℕ) (t : ℕ) → HasState s t ↔ Holds s (state_words (lists_in s).version (task_in s t))
holds-state s t = (
  λ h. (state-is (get_or s (t + 4) 0) (queue_bit (task_in s t).queue) h.bit, (refl, (h.stack, (refl, (h.globals, (refl, (h.first, (refl, (refl, (refl, (refl, (refl, (refl, tt))))))))))))),
  λ h. record {
    bit = is-state (get_or s (t + 4) 0) (queue_bit (task_in s t).queue) (bit-low s t) h.0;
    stack = h.1.1.0;
    globals = h.1.1.1.1.0;
    first = h.1.1.1.1.1.1.0;
  },
)
