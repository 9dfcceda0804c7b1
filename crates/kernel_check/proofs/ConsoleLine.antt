-- The rules of the console's line.
use Rattle.std.proofs.Common.{◌≡◌, ◌≢◌, ◌↔◌, ℕ, zero, suc, ◌<◌, ◌≤◌, Bool, true, false, not, List, [], ◌∷◌, cond, eqb, get_or, length, map, refl, sym, ap, ◌∙◌, subst, arith}
use Rattle.std.specs.Prelude.{is_some}
use Rattle.std.proofs.lemmas.Bool.{false≢true}
use Rattle.kernel_lists.specs.LinkedList.Chain.{links_from}
use Rattle.kernel_lists.specs.PacketQueue.Queue.{link_of}
use Rattle.kernel_model.specs.KernelRecord.Between.{IsValidConsole}
use Rattle.kernel_model.specs.KernelRecord.Kernel.{no_line}
use Rattle.kernel_model.specs.KernelRecord.Lists.{Lists}
use Rattle.kernel_model.specs.KernelRecord.Recovered.{lists_in, packet_in}
use Rattle.kernel_check.specs.ConsoleLine.{console_of}
use Rattle.kernel_check.proofs.QueueRules.{key-free, key-other, pending-some}

-- ---- an empty queue

links-first : (n : ℕ) (s : List ℕ) (at : ℕ) → links_from (suc n) s link_of at ≡ cond (eqb (get_or s at 0) 0) [] (get_or s at 0 ∷ links_from n s link_of (get_or s at 0))
unfolding links_from
links-first n s at = refl

empty-from : (n : ℕ) (s : List ℕ) (at : ℕ) → 0 < n → (eqb (get_or s at 0) 0 ≡ true) ↔ (map (packet_in s) (links_from n s link_of at) ≡ [])
empty-from zero s at some = absurd (omega (arith, some))
empty-from (suc n) s at some = subst (λ ps. (eqb (get_or s at 0) 0 ≡ true) ↔ (map (packet_in s) ps ≡ [])) (sym (links-first n s at)) (on (eqb (get_or s at 0) 0))
  where
    on : (b : Bool) → (b ≡ true) ↔ (map (packet_in s) (cond b [] (get_or s at 0 ∷ links_from n s link_of (get_or s at 0))) ≡ [])
    on true = (λ t. refl, λ e. refl)
    on false = (λ t. absurd (false≢true t), λ e. cc)

pub pending-empty : (s : List ℕ) (w : ℕ) → (lists_in s).residents ≡ true → 0 < length s → w ≡ get_or s 270 0 → (eqb w 0 ≡ true) ↔ ((lists_in s).pending ≡ [])
pending-empty s w there some read =
    let both = empty-from (length s) s 270 some in (
      λ t. sym (pending-some s there) ∙ both.0 (ap (λ z. eqb z 0) (sym read) ∙ t),
      λ e. ap (λ z. eqb z 0) read ∙ both.1 (pending-some s there ∙ e),
    )

-- ---- the key packet

pub free-tells : (s : List ℕ) (w : ℕ) (f : Bool) → (lists_in s).residents ≡ true → w ≡ get_or s 271 0 → w ≡ 4294967295 → (f ≡ true) ↔ (f ≡ is_some (lists_in s).key)
free-tells s w f there read is = (let k : is_some (lists_in s).key ≡ true = key-free s w read is there in (λ t. t ∙ sym k, λ e. e ∙ k))

pub queued-tells : (s : List ℕ) (w : ℕ) (f : Bool) → w ≡ get_or s 271 0 → w ≢ 4294967295 → (not f ≡ true) ↔ (f ≡ is_some (lists_in s).key)
queued-tells s w f read other =
    let k : is_some (lists_in s).key ≡ false = key-other s w read other in (
      λ t. turn f t ∙ sym k,
      λ e. ap not (e ∙ k),
    )
  where
    turn : (b : Bool) → not b ≡ true → b ≡ false
    turn true e = absurd (false≢true e)
    turn false e = refl

-- ---- all rules

module _ (l : Lists) (line : List ℕ) (finished : Bool) (short : length line ≤ 120) where
  pub absent-valid : l.residents ≡ false → (b : Bool) → ((b ≡ true) ↔ (console_of line finished ≡ no_line)) → (b ≡ true) ↔ IsValidConsole l (console_of line finished)
  absent-valid none b answer = (
    λ t. record {
      finished = λ e. absurd (false≢true (sym none ∙ e));
      delivered = λ e. absurd (false≢true (sym (ap (λ c. c.finished) (answer.0 t)) ∙ e));
      line = short;
      absent = λ e. answer.0 t;
    },
    λ h. answer.1 (h.absent none),
  )

  pub line-valid : l.residents ≡ true → finished ≡ is_some l.key → (finished ≡ true → l.pending ≡ []) → IsValidConsole l (console_of line finished)
  line-valid there told delivered = record { finished = λ e. told; delivered = delivered; line = short; absent = λ e. absurd (false≢true (sym e ∙ there)) }
