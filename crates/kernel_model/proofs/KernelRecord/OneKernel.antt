-- At most one valid kernel has a given image and given other parts.
use Rattle.std.proofs.Common.{◌≡◌, ℕ, ◌<◌, List, length, None, sym, ap, ◌∙◌, arith, inl, inr}
use Rattle.std.proofs.lemmas.Bool.{cases_lt}
use Rattle.std.proofs.lemmas.List.{ext_get_or}
use Rattle.kernel_lists.specs.OwnedWords.Owned.{owners}
use Rattle.kernel_model.specs.KernelRecord.Image.{HasPlainWords, IsImage, plain_at}
use Rattle.kernel_model.specs.KernelRecord.Kernel.{Kernel}
use Rattle.kernel_model.specs.KernelRecord.OneKernel.{HaveSameParts}
use Rattle.kernel_model.specs.KernelRecord.Owned.{owned}
use Rattle.kernel_model.specs.KernelRecord.Recovered.{lists_in}
use Rattle.kernel_model.specs.KernelRecord.ValidKernel.{IsValid}
use Rattle.kernel_model.proofs.KernelRecord.RecoveredLists.{lists-back}

-- the lists are those of the store
lists-of : (s : List ℕ) (k : Kernel) → IsValid k → IsImage s k → k.lists ≡ lists_in s
lists-of s k v is = sym (lists-back s k.lists v.lists is.size is.holds)

pub one-kernel : (s : List ℕ) (k j : Kernel) → IsValid k → IsValid j → IsImage s k → IsImage s j → HaveSameParts k j → k ≡ j
one-kernel s k j v w is js same =
    let lists : k.lists ≡ j.lists = lists-of s k v is ∙ sym (lists-of s j w js) in
    let words : owned k.lists ≡ owned j.lists = ap owned lists in
    let p : HasPlainWords k = v.plain in
    let q : HasPlainWords j = w.plain in
    let each : (a : ℕ) → a < length k.plain → plain_at k a ≡ plain_at j a = λ a low.
    elim (cases_lt 0 (owners a (owned k.lists))) [
      | inl some ↦ p.owned a some ∙ sym (q.owned a (omega (arith, some, ap (owners a) words)))
      | inr few ↦
          let none : owners a (owned k.lists) ≡ 0 = omega (arith, few) in
          let inside : a < length s = omega (arith, low, p.size, is.size) in
          is.plain a inside none ∙ sym (js.plain a inside (sym (ap (owners a) words) ∙ none))
    ]
    in
    let plain : k.plain ≡ j.plain = ext_get_or None k.plain j.plain (p.size ∙ sym is.size ∙ js.size ∙ sym q.size) each in
    let whole : ◌≡◌ {A = Kernel} k j = λ i. record {
      lists = lists i;
      plain = plain i;
      regs = same.regs i;
      steps = same.steps i;
      console = same.console i;
      shell = same.shell i;
      disc = same.disc i;
      type_ahead = same.type_ahead i;
      keys = same.keys i;
      pipes = same.pipes i;
      stop = same.stop i;
    } in
    whole
