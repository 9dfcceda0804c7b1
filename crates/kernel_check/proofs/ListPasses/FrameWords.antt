-- The words of coroutines, and their parents.
use Rattle.std.proofs.Common.{◌≡◌, ◌≢◌, ◌⊎◌, inl, inr, ℕ, zero, suc, ◌+◌, ◌<◌, ◌≤◌, ◌||◌, Bool, true, false, not, List, [], ◌∷◌, cond, eqb, get_or, length, map, refl, sym, ap, ◌∙◌, subst, arith}
use Rattle.std.specs.List.{AllByRecursion}
use Rattle.std.proofs.lemmas.Bool.{cases_eq, eq-eqb, eqb-true, false≢true, ne_eqb}
use Rattle.word_store.specs.Count.{times}
use Rattle.word_store.proofs.Counts.{IsApart-cons, hit-other}
use Rattle.kernel_lists.specs.LinkedList.Chain.{IsChain}
use Rattle.kernel_lists.specs.LinkedList.Places.{has}
use Rattle.kernel_lists.proofs.LinkedList.Chains.{length-apart}
use Rattle.kernel_lists.proofs.LinkedList.AllMembers.{all-has}
use Rattle.kernel_model.proofs.KernelRecord.EachMember.{all-each}
use Rattle.kernel_lists.specs.OwnedWords.LinkedWords.{headed_words, linked_words}
use Rattle.kernel_lists.specs.OwnedWords.Owned.{Holds}
use Rattle.kernel_lists.proofs.OwnedWords.OwnedWords.{Holds-append, Holds-left, Holds-right}
use Rattle.kernel_lists.specs.TaskBlock.Lists.{coroutine_link, coroutines_in, first_coroutine}
use Rattle.kernel_lists.specs.Coroutines.Active.{active_in, outwards}
use Rattle.kernel_lists.specs.Coroutines.CoroutineExchanges.{words_of_coroutines}
use Rattle.kernel_lists.specs.Coroutines.HeldCoroutines.{address_of, coroutine_words, first_active, parent_of}
use Rattle.kernel_lists.specs.Coroutines.CoroutineWords.{current_cell}
use Rattle.kernel_model.specs.KernelRecord.BlockUse.{coroutine_addresses}
use Rattle.kernel_model.specs.KernelRecord.Recovered.{coroutine_in, coroutines_of, task_in}
use Rattle.kernel_check.specs.ListPasses.Private.CanPass.{CanPass}
use Rattle.kernel_check.specs.ListPasses.Frames.{HasFrame, HasParent, OwnsCoroutines, TellsParent}
use Rattle.kernel_check.proofs.ListPasses.CoroutineWalks.{members-read}
use Rattle.store_claims.proofs.ListClaims.OutwardWalk.{goes, ends}

-- ---- the walk outwards

out-step : (m : ℕ) (s : List ℕ) (t at d : ℕ) → d ≡ get_or s at 0 → outwards (suc m) s t at ≡ cond (eqb d 0 || eqb d t) [] (d ∷ outwards m s t (d + 1))
unfolding outwards
out-step m s t at d read = ap (λ w. cond (eqb w 0 || eqb w t) [] (w ∷ outwards m s t (w + 1))) (sym read)

out-zero : (s : List ℕ) (t at : ℕ) → outwards 0 s t at ≡ []
unfolding outwards
out-zero s t at = refl

out-ends : (n : ℕ) (s : List ℕ) (t at d : ℕ) → d ≡ get_or s at 0 → (d ≡ 0) ⊎ (d ≡ t) → outwards n s t at ≡ []
out-ends zero s t at d read end = out-zero s t at
out-ends (suc n) s t at d read end = out-step n s t at d read ∙ ap (λ b. cond b [] (d ∷ outwards n s t (d + 1))) (ends d t end)

out-goes : (n : ℕ) (s : List ℕ) (t at d : ℕ) → d ≡ get_or s at 0 → d ≢ 0 → d ≢ t → outwards (suc n) s t at ≡ d ∷ outwards n s t (d + 1)
out-goes n s t at d read some other = out-step n s t at d read ∙ ap (λ b. cond b [] (d ∷ outwards n s t (d + 1))) (goes d t some other)

-- each of them is some address
out-some : (n : ℕ) (s : List ℕ) (t at : ℕ) → AllByRecursion (λ c. c ≢ 0) (outwards n s t at)
out-some zero s t at = subst (AllByRecursion (λ c. c ≢ 0)) (sym (out-zero s t at)) tt
out-some (suc n) s t at =
    let d : ℕ = get_or s at 0 in
    elim (cases_eq d 0) [
      | inl none ↦ subst (AllByRecursion (λ c. c ≢ 0)) (sym (out-ends (suc n) s t at d refl (inl none))) tt
      | inr some ↦ elim (cases_eq d t) [
        | inl root ↦ subst (AllByRecursion (λ c. c ≢ 0)) (sym (out-ends (suc n) s t at d refl (inr root))) tt
        | inr other ↦ subst (AllByRecursion (λ c. c ≢ 0)) (sym (out-goes n s t at d refl some other)) (some, out-some n s t (d + 1))
      ]
    ]

has-none : (c : ℕ) (cs : List ℕ) → cs ≡ [] → has c cs ≡ true → ⊥
has-none c cs is h = false≢true (sym (ap (has c) is) ∙ h)

-- the parent of an active coroutine that has one is its word 1
out-parent : (n : ℕ) (s : List ℕ) (t at c : ℕ) → has c (outwards n s t at) ≡ true → length (outwards n s t at) < n → get_or s (c + 1) 0 ≢ 0 → parent_of t (outwards n s t at) c ≡ get_or s (c + 1) 0
out-parent zero s t at c h few some = absurd (omega (arith, few))
out-parent (suc n) s t at c h few some =
    let d : ℕ = get_or s at 0 in
    elim (cases_eq d 0) [
      | inl none ↦ absurd (has-none c (outwards (suc n) s t at) (out-ends (suc n) s t at d refl (inl none)) h)
      | inr here ↦ elim (cases_eq d t) [
        | inl root ↦ absurd (has-none c (outwards (suc n) s t at) (out-ends (suc n) s t at d refl (inr root)) h)
        | inr other ↦
            let step : outwards (suc n) s t at ≡ d ∷ outwards n s t (d + 1) = out-goes n s t at d refl here other in
            let short : length (outwards n s t (d + 1)) < n = (let e : length (outwards (suc n) s t at) ≡ suc (length (outwards n s t (d + 1))) = ap length step in omega (arith, e, few)) in
            ap (λ cs. parent_of t cs c) step
            ∙ elim (cases_eq c d) [
              | inl same ↦
                  ap (λ b. cond b (first_active (outwards n s t (d + 1)) t) (parent_of t (outwards n s t (d + 1)) c)) (eq-eqb c d same)
                  ∙ after n s t d (get_or s (c + 1) 0) short (ap (λ z. get_or s (z + 1) 0) same) some
              | inr ne ↦
                  let rest : has c (outwards n s t (d + 1)) ≡ true = ap (λ b. b || has c (outwards n s t (d + 1))) (sym (ne_eqb c d ne)) ∙ ap (has c) (sym step) ∙ h in
                  ap (λ b. cond b (first_active (outwards n s t (d + 1)) t) (parent_of t (outwards n s t (d + 1)) c)) (ne_eqb c d ne)
                  ∙ out-parent n s t (d + 1) c rest short some
            ]
      ]
    ]
  where
    after : (n : ℕ) (s : List ℕ) (t d w : ℕ) → length (outwards n s t (d + 1)) < n → w ≡ get_or s (d + 1) 0 → w ≢ 0 → first_active (outwards n s t (d + 1)) t ≡ w
    after zero s t d w few read some = absurd (omega (arith, few))
    after (suc m) s t d w few read some = elim (cases_eq w t) [
      | inl root ↦ ap (λ cs. first_active cs t) (out-ends (suc m) s t (d + 1) w read (inr root)) ∙ sym root
      | inr other ↦ ap (λ cs. first_active cs t) (out-goes m s t (d + 1) w read some other)
    ]

-- one that is not active has none
no-parent : (t c : ℕ) (cs : List ℕ) → has c cs ≡ false → parent_of t cs c ≡ 0
no-parent t c [] h = refl
no-parent t c (d ∷ ds) h = on (eqb c d) h (λ k. no-parent t c ds k)
  where
    on : (b : Bool) → (b || has c ds) ≡ false → (has c ds ≡ false → parent_of t ds c ≡ 0) → cond b (first_active ds t) (parent_of t ds c) ≡ 0
    on true h later = absurd (false≢true (sym h))
    on false h later = later h

-- one that is active has one
some-parent : (t c : ℕ) (cs : List ℕ) → t ≢ 0 → AllByRecursion (λ c. c ≢ 0) cs → has c cs ≡ true → parent_of t cs c ≢ 0
some-parent t c [] root some h = absurd (false≢true h)
some-parent t c (d ∷ ds) root some h = on (eqb c d) h (λ k. some-parent t c ds root some.1 k)
  where
    first-some : (ds : List ℕ) → AllByRecursion (λ c. c ≢ 0) ds → first_active ds t ≢ 0
    first-some [] all = root
    first-some (e ∷ es) all = all.0

    on : (b : Bool) → (b || has c ds) ≡ true → (has c ds ≡ true → parent_of t ds c ≢ 0) → cond b (first_active ds t) (parent_of t ds c) ≢ 0
    on true h later = first-some ds some.1
    on false h later = later h

-- ---- fewer are active than the store has words

none-zero : (xs : List ℕ) → AllByRecursion (λ c. c ≢ 0) xs → times 0 xs ≡ 0
none-zero [] all = refl
none-zero (x ∷ xs) all = omega (arith, hit-other 0 x (λ e. all.0 (sym e)), none-zero xs all.1)

module _ (s : List ℕ) (t : ℕ) (can : CanPass s t) where
  few-active : OwnsCoroutines s t → length (active_in s t) < length s
  few-active own =
      let all : suc (length (active_in s t)) ≤ length s =
      length-apart (length s) (0 ∷ active_in s t)
      (IsApart-cons 0 (active_in s t) (none-zero (active_in s t) (out-some (length s) s t (current_cell t))) own.valid.distinct)
      (omega (arith, can.block), all-each (λ c. has c (coroutine_addresses (task_in s t)) ≡ true) (λ c. c < length s) below (active_in s t) own.valid.members)
      in
      omega (arith, all)
    where
      below : (q : ℕ) → has q (coroutine_addresses (task_in s t)) ≡ true → q < length s
      below q there =
          let low : q + 10 ≤ length s = all-has (λ a. a + 10 ≤ length s) q (coroutines_in s t) can.bodies (sym (ap (has q) (members-read s t)) ∙ there) in
          omega (arith, low)

  -- so each has its parent
  pub parents-are : OwnsCoroutines s t → AllByRecursion (HasParent s t) (coroutines_in s t)
  parents-are own = all-each (TellsParent s t) (HasParent s t) each (coroutines_in s t) own.parents
    where
      each : (c : ℕ) → TellsParent s t c → HasParent s t c
      each c tells = on (has c (active_in s t)) refl tells
        where
          on : (b : Bool) → has c (active_in s t) ≡ b → eqb (get_or s (c + 1) 0) 0 ≡ not b → HasParent s t c
          on true is tells =
              sym (out-parent (length s) s t (current_cell t) c is (few-active own) (λ e. absurd (false≢true (sym tells ∙ eq-eqb (get_or s (c + 1) 0) 0 e))))
          on false is tells = eqb-true (get_or s (c + 1) 0) 0 tells ∙ sym (no-parent t c (active_in s t) is)

-- and each that has its parent tells whether it is active
pub parents-tell : (s : List ℕ) (t : ℕ) → t ≢ 0 → (cs : List ℕ) → AllByRecursion (HasParent s t) cs → AllByRecursion (TellsParent s t) cs
parents-tell s t root cs all = all-each (HasParent s t) (TellsParent s t) each cs all
  where
    each : (c : ℕ) → HasParent s t c → TellsParent s t c
    each c is = on (has c (active_in s t)) refl
      where
        on : (b : Bool) → has c (active_in s t) ≡ b → eqb (get_or s (c + 1) 0) 0 ≡ not b
        on true there = ne_eqb (get_or s (c + 1) 0) 0 (λ e. some-parent t c (active_in s t) root (out-some (length s) s t (current_cell t)) there (sym is ∙ e))
        on false none = eq-eqb (get_or s (c + 1) 0) 0 (is ∙ no-parent t c (active_in s t) none)

-- ---- the words of each

abbrev pub Frame : List ℕ → ℕ → ℕ → Type 0
Frame s t c = HasFrame s c × HasParent s t c

module _ (s : List ℕ) (t : ℕ) where
  frame-row : (c n : ℕ) → get_or s (c + 2) 0 ≡ n → Frame s t c → Holds s (coroutine_words t (active_in s t) (coroutine_in s c) n)
  frame-row c n link h = (
    (let e : c + 0 ≡ c = omega arith in ap (λ z. get_or s z 0) e),
    (h.1, (link, (refl, (refl, (h.0.own, (refl, (h.0.frame_p, (h.0.frame_pc, (h.0.frame_g, tt))))))))),
  )

  row-frame : (c n : ℕ) → Holds s (coroutine_words t (active_in s t) (coroutine_in s c) n) → Frame s t c
  row-frame c n h = (record { own = h.1.1.1.1.1.0; frame_p = h.1.1.1.1.1.1.1.0; frame_pc = h.1.1.1.1.1.1.1.1.0; frame_g = h.1.1.1.1.1.1.1.1.1.0 }, h.1.0)

  frames-held : (at : ℕ) (cs : List ℕ) → IsChain s coroutine_link at cs → AllByRecursion (Frame s t) cs
      → Holds s (headed_words address_of (coroutine_words t (active_in s t)) at (map (coroutine_in s) cs) 0)
  frames-held at [] chain all = (chain, tt)
  frames-held at (c ∷ cs) chain all =
      let rest = frames-held (c + 2) cs chain.1 all.1 in
      (chain.0, Holds-append s (coroutine_words t (active_in s t) (coroutine_in s c) _) (linked_words address_of (coroutine_words t (active_in s t)) (map (coroutine_in s) cs) 0) (frame-row c _ rest.0 all.0) rest.1)

  held-frames : (cs : List ℕ) → Holds s (linked_words address_of (coroutine_words t (active_in s t)) (map (coroutine_in s) cs) 0) → AllByRecursion (Frame s t) cs
  held-frames [] h = tt
  held-frames (c ∷ cs) h = (
    row-frame c _ (Holds-left s (coroutine_words t (active_in s t) (coroutine_in s c) _) (linked_words address_of (coroutine_words t (active_in s t)) (map (coroutine_in s) cs) 0) h),
    held-frames cs (Holds-right s (coroutine_words t (active_in s t) (coroutine_in s c) _) (linked_words address_of (coroutine_words t (active_in s t)) (map (coroutine_in s) cs) 0) h),
  )

  current-of : (n : ℕ) → 0 < n → (get_or s (t + 18) 0 ≡ 0) ⊎ (get_or s (t + 18) 0 ≢ t) → get_or s (t + 18) 0 ≡ first_active (outwards n s t (t + 18)) 0
  current-of zero some h = absurd (omega (arith, some))
  current-of (suc n) some (inl e) = e ∙ ap (λ z. first_active z 0) (sym (out-ends (suc n) s t (t + 18) (get_or s (t + 18) 0) refl (inl e)))
  current-of (suc n) some (inr ne) = elim (cases_eq (get_or s (t + 18) 0) 0) [
    | inl e ↦ e ∙ ap (λ z. first_active z 0) (sym (out-ends (suc n) s t (t + 18) (get_or s (t + 18) 0) refl (inl e)))
    | inr here ↦ ap (λ z. first_active z 0) (sym (out-goes n s t (t + 18) (get_or s (t + 18) 0) refl here ne))
  ]

  pub all-frames : CanPass s t → (get_or s (t + 18) 0 ≡ 0) ⊎ (get_or s (t + 18) 0 ≢ t) → AllByRecursion (Frame s t) (coroutines_in s t) → Holds s (words_of_coroutines t (coroutines_of s t))
  all-frames can current all = (current-of (length s) (omega (arith, can.block)) current, (refl, (refl, frames-held (first_coroutine t) (coroutines_in s t) can.coroutines.chain all)))

  pub frames-all : Holds s (words_of_coroutines t (coroutines_of s t)) → AllByRecursion (Frame s t) (coroutines_in s t)
  frames-all h = held-frames (coroutines_in s t) h.1.1.1.1

  pub no-frames : get_or s (t + 18) 0 ≢ 0 → get_or s (t + 18) 0 ≡ t → Holds s (words_of_coroutines t (coroutines_of s t)) → ⊥
  no-frames some e h = some (h.0 ∙ ap (λ z. first_active z 0) (out-ends (length s) s t (t + 18) (get_or s (t + 18) 0) refl (inr e)))
