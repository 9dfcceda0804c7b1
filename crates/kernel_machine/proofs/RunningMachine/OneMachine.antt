-- The parts of a machine stand for one kernel alone.
use Rattle.std.proofs.Common.{◌≡◌, ℕ, ◌<◌, List, [], length, Option, None, refl, sym, ap, ◌∙◌, subst, arith, inl, inr}
use Rattle.std.proofs.lemmas.Bool.{cases_lt}
use Rattle.std.proofs.lemmas.List.{ext_get_or}
use Rattle.kernel_lists.specs.OwnedWords.Owned.{owners}
use Rattle.kernel_model.specs.KernelRecord.Image.{HasPlainWords, IsImage, plain_at, plain_words}
use Rattle.kernel_model.specs.KernelRecord.Kernel.{Kernel}
use Rattle.kernel_model.specs.KernelRecord.Owned.{owned}
use Rattle.kernel_model.specs.KernelRecord.Recovered.{lists_in}
use Rattle.kernel_model.specs.KernelRecord.ValidKernel.{IsValid}
use Rattle.kernel_model.proofs.KernelRecord.RecoveredLists.{lists-back}
use Rattle.kernel_model.specs.declared.kernel_record.stops.Stop.{Stop}
use Rattle.kernel_machine.specs.declared.running_machine.parts.Parts.{Parts}
use Rattle.kernel_machine.specs.RunningMachine.RepresentedKernels.{RepresentsKernel}
use Rattle.kernel_machine.specs.KernelSteps.Stepped.{with_store}
use Rattle.kernel_machine.proofs.KernelSteps.StoredWords.{image-stored, plain-stored}
use Rattle.kernel_machine.specs.RunningMachine.Machine.{IsWhole, kernel_of}

-- the plain words are those of the store that nobody owns
module _ (s : List ℕ) (k j : Kernel) (p : HasPlainWords k) (q : HasPlainWords j) (is : IsImage s k) (js : IsImage s j) (words : owned k.lists ≡ owned j.lists) where
  same-at : (a : ℕ) → a < length k.plain → plain_at k a ≡ plain_at j a
  same-at a low = elim (cases_lt 0 (owners a (owned k.lists))) [
    | inl some ↦ p.owned a some ∙ sym (q.owned a (omega (arith, some, ap (owners a) words)))
    | inr few ↦
        let none : owners a (owned k.lists) ≡ 0 = omega (arith, few) in
        let inside : a < length s = omega (arith, low, p.size, is.size) in
        is.plain a inside none ∙ sym (js.plain a inside (sym (ap (owners a) words) ∙ none))
  ]

  pub same-plain : k.plain ≡ j.plain
  same-plain = ext_get_or None k.plain j.plain (p.size ∙ sym is.size ∙ js.size ∙ sym q.size) same-at

pub stop-of : (p : Parts) (stop : Option Stop) → (kernel_of p stop).stop ≡ stop
unfolding kernel_of
stop-of p stop = refl

module _ (p : Parts) (k : Kernel) (st : RepresentsKernel p k) where
  lists-one : lists_in p.store ≡ k.lists
  lists-one = let h = st.keeper.lists in lists-back p.store k.lists h.valid h.size h.holds

  -- nothing is written
  pub plain-one : k.plain ≡ plain_words p.store k.lists
  plain-one =
      let h = st.keeper.lists in
      let words : Kernel = with_store p.store k.lists k in
      same-plain p.store k words st.plain (plain-stored p.store k.lists k h.valid.owns) st.image
      (image-stored p.store p.store k.lists k [] h.size (record { holds = h.holds; others = λ a none. refl })) refl

  pub one-machine : (stop : Option Stop) → k.stop ≡ stop → kernel_of p stop ≡ k
  unfolding kernel_of
  one-machine stop e =
      let lists : lists_in p.store ≡ k.lists = lists-one in
      let plain : plain_words p.store (lists_in p.store) ≡ k.plain = ap (plain_words p.store) lists ∙ sym plain-one in
      let whole : ◌≡◌ {A = Kernel} (kernel_of p stop) k = λ i. record {
        lists = lists i;
        plain = plain i;
        regs = st.regs i;
        steps = st.steps i;
        console = st.console i;
        shell = st.shell i;
        disc = st.disc i;
        type_ahead = st.type_ahead i;
        keys = st.keys i;
        pipes = st.pipes i;
        stop = sym e i;
      } in
      whole

  -- and is a whole machine with it
  pub whole : IsValid k → (stop : Option Stop) → k.stop ≡ stop → IsWhole p stop
  whole h stop e = record { represents = subst (RepresentsKernel p) (sym (one-machine stop e)) st; valid = subst IsValid (sym (one-machine stop e)) h }
