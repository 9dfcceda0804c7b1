-- The words of one guest, and of one resident.
use Rattle.std.proofs.Common.{◌≡◌, ◌≢◌, ◌↔◌, ℕ, zero, suc, ◌+◌, ◌-◌, ◌<◌, ◌≤◌, ◌/◌, ◌%◌, ◌⊎◌, ◌||◌, Bool, true, false, List, [], ◌∷◌, cond, eqb, get_or, length, map, not, refl, sym, ap, ◌∙◌, subst, arith, inl, inr}
use Rattle.std.specs.Prelude.{Some, drop, filter, slice_range}
use Rattle.std.proofs.lemmas.List.{length-take}
use Rattle.std.specs.List.{AllByRecursion}
use Rattle.std.proofs.lemmas.Bool.{cases_eq, eq-eqb, eqb-true, false≢true, ne_eqb}
use Rattle.kernel_lists.specs.LinkedList.Chain.{IsChain}
use Rattle.kernel_lists.specs.LinkedList.Places.{has}
use Rattle.kernel_lists.proofs.LinkedList.AllMembers.{all-has}
use Rattle.kernel_lists.proofs.LinkedList.Walks.{walk-ends}
use Rattle.kernel_lists.specs.GetvecChain.Tiling.{blocks_in}
use Rattle.kernel_lists.specs.HunkLoader.HeldModules.{module_address}
use Rattle.kernel_lists.specs.TaskBlock.Lists.{coroutine_link, coroutines_in, first_coroutine, modules_in}
use Rattle.kernel_lists.specs.TaskBlock.TaskChain.{id_in}
use Rattle.kernel_lists.specs.TaskBlock.Versions.{head_words}
use Rattle.kernel_lists.specs.Coroutines.Active.{outwards}
use Rattle.kernel_model.specs.KernelRecord.KernelRanges.{IsModuleIn}
use Rattle.kernel_model.specs.KernelRecord.Recovered.{coroutine_in, lists_in, module_in, task_in}
use Rattle.kernel_model.specs.KernelRecord.Task.{is_guest_id}
use Rattle.kernel_model.specs.KernelRecord.ValidBlocks.{HasBlock}
use Rattle.kernel_model.specs.KernelRecord.ValidTasks.{IsResident, resident_place}
use Rattle.kernel_model.specs.KernelRecord.Versions.{head_words_of, most_modules_of}
use Rattle.store_claims.specs.WordClaims.Marks.{is_open}
use Rattle.store_claims.proofs.WordClaims.ClaimedWords.{open-low}
use Rattle.kernel_check.specs.ListPasses.ClaimedStore.{IsClaimed}
use Rattle.kernel_check.specs.ListPasses.StartMarks.{OpensMembers}
use Rattle.kernel_check.specs.ListPasses.Private.CanPass.{CanPass}
use Rattle.kernel_check.specs.ListPasses.Private.TaskRules.{AreNamed, HasModules, HasWord, IsIdle}
use Rattle.kernel_check.proofs.ListPasses.CoroutineWalks.{the-blocks}

-- ---- words that are not 0

pub all-filter : (P : ℕ → Type 0) (ws : List ℕ) → ((k : ℕ) → k < length ws → get_or ws k 0 ≢ 0 → P (get_or ws k 0)) → AllByRecursion P (filter (λ m. not (eqb m 0)) ws)
all-filter P [] h = tt
all-filter P (w ∷ ws) h = on (eqb w 0) refl (all-filter P ws (λ k low some. h (suc k) (omega (arith, low)) some))
  where
    on : (b : Bool) → eqb w 0 ≡ b → AllByRecursion P (filter (λ m. not (eqb m 0)) ws) → AllByRecursion P (cond (not b) (w ∷ filter (λ m. not (eqb m 0)) ws) (filter (λ m. not (eqb m 0)) ws))
    on true e rest = rest
    on false e rest = (h 0 (omega arith) (λ z. false≢true (sym e ∙ eq-eqb w 0 z)), rest)

pub filter-all : (P : ℕ → Type 0) (ws : List ℕ) → AllByRecursion P (filter (λ m. not (eqb m 0)) ws) → (k : ℕ) → k < length ws → get_or ws k 0 ≢ 0 → P (get_or ws k 0)
filter-all P [] all k low some = absurd (omega (arith, low))
filter-all P (w ∷ ws) all k low some = on (eqb w 0) refl all k low some (λ r j l s. filter-all P ws r j l s)
  where
    on : (b : Bool) → eqb w 0 ≡ b → AllByRecursion P (cond (not b) (w ∷ filter (λ m. not (eqb m 0)) ws) (filter (λ m. not (eqb m 0)) ws))
        → (k : ℕ) → k < length (w ∷ ws) → get_or (w ∷ ws) k 0 ≢ 0
        → (AllByRecursion P (filter (λ m. not (eqb m 0)) ws) → (j : ℕ) → j < length ws → get_or ws j 0 ≢ 0 → P (get_or ws j 0)) → P (get_or (w ∷ ws) k 0)
    on true e all zero low some more = absurd (some (eqb-true w 0 e))
    on true e all (suc k) low some more = more all k (omega (arith, low)) some
    on false e all zero low some more = all.0
    on false e all (suc k) low some more = more all.1 k (omega (arith, low)) some

pub some-filter : (ws : List ℕ) → HasWord ws → 1 ≤ length (filter (λ m. not (eqb m 0)) ws)
some-filter [] h = absurd (omega (arith, h.low))
some-filter (w ∷ ws) h = on (eqb w 0) refl h (λ k. some-filter ws k)
  where
    on : (b : Bool) → eqb w 0 ≡ b → HasWord (w ∷ ws) → (HasWord ws → 1 ≤ length (filter (λ m. not (eqb m 0)) ws)) → 1 ≤ length (cond (not b) (w ∷ filter (λ m. not (eqb m 0)) ws) (filter (λ m. not (eqb m 0)) ws))
    on true e h more = at h.at h.low h.some
      where
        at : (k : ℕ) → k < length (w ∷ ws) → get_or (w ∷ ws) k 0 ≢ 0 → 1 ≤ length (filter (λ m. not (eqb m 0)) ws)
        at zero low some = absurd (some (eqb-true w 0 e))
        at (suc k) low some = more (record { at = k; low = omega (arith, low); some = some })
    on false e h more = omega arith

pub filter-some : (ws : List ℕ) → 1 ≤ length (filter (λ m. not (eqb m 0)) ws) → HasWord ws
filter-some [] h = absurd (omega (arith, h))
filter-some (w ∷ ws) h = on (eqb w 0) refl h (λ k. filter-some ws k)
  where
    on : (b : Bool) → eqb w 0 ≡ b → 1 ≤ length (cond (not b) (w ∷ filter (λ m. not (eqb m 0)) ws) (filter (λ m. not (eqb m 0)) ws)) → (1 ≤ length (filter (λ m. not (eqb m 0)) ws) → HasWord ws) → HasWord (w ∷ ws)
    on true e h more = (let r : HasWord ws = more h in record { at = suc r.at; low = omega (arith, r.low); some = r.some })
    on false e h more = record { at = 0; low = omega arith; some = λ z. false≢true (sym e ∙ eq-eqb w 0 z) }

pub filter-few : (ws : List ℕ) → length (filter (λ m. not (eqb m 0)) ws) ≤ length ws
filter-few [] = omega arith
filter-few (w ∷ ws) = on (eqb w 0) (filter-few ws)
  where
    on : (b : Bool) → length (filter (λ m. not (eqb m 0)) ws) ≤ length ws → length (cond (not b) (w ∷ filter (λ m. not (eqb m 0)) ws) (filter (λ m. not (eqb m 0)) ws)) ≤ length (w ∷ ws)
    on true few = omega (arith, few)
    on false few = omega (arith, few)

-- ---- the modules of a guest

map-modules : (s : List ℕ) (ms : List ℕ) → map module_address (map (module_in s) ms) ≡ ms
map-modules s [] = refl
map-modules s (m ∷ ms) = ap (λ z. m ∷ z) (map-modules s ms)

modules-are : (s : List ℕ) → map module_address (lists_in s).modules ≡ modules_in s
unfolding lists_in
modules-are s = map-modules s (modules_in s)

version-is : (s : List ℕ) → (lists_in s).version ≡ get_or s 111 0
unfolding lists_in
version-is s = refl

pub head-is : (s : List ℕ) → head_words_of (lists_in s).version ≡ head_words s
unfolding lists_in
head-is s = refl

head-low : (s : List ℕ) → 23 ≤ head_words s
head-low s = on (eqb (get_or s 111 0) 2)
  where
    on : (b : Bool) → 23 ≤ cond b 30 23
    on true = omega arith
    on false = omega arith

most-is : (s : List ℕ) → 1 + (head_words s - 23) ≤ most_modules_of (lists_in s).version
most-is s = subst (λ v. 1 + (head_words s - 23) ≤ most_modules_of v) (sym (version-is s)) (on (eqb (get_or s 111 0) 2))
  where
    on : (b : Bool) → 1 + (cond b 30 23 - 23) ≤ cond b 8 1
    on true = omega arith
    on false = omega arith

range-few : (s : List ℕ) (a n : ℕ) → length (slice_range s a (a + n)) ≤ n
range-few s a n = omega (arith, length-take (a + n - a) (drop a s))

module _ (s : List ℕ) (marks : List Bool) (t first a n : ℕ) (ws : List ℕ) (claimed : IsClaimed s) (o : OpensMembers s (modules_in s) marks) (guest : is_guest_id (id_in s t) ≡ true)
    (read : first ≡ get_or s (t + 10) 0) (is : ws ≡ slice_range s a (a + n)) (at : a ≡ t + 23) (size : n ≡ head_words s - 23) where
  whole : ℕ → List ℕ
  whole m = m ∷ ws

  list-is : (task_in s t).modules ≡ filter (λ m. not (eqb m 0)) (first ∷ ws)
  list-is =
      let end : t + head_words s ≡ a + n = omega (arith, at, size, head-low s) in
      let e : slice_range s (t + 23) (t + head_words s) ≡ ws = (λ i. slice_range s (sym at i) (end i)) ∙ sym is in
      ap (λ g. filter (λ m. not (eqb m 0)) (get_or s (t + 10) 0 ∷ cond g (slice_range s (t + 23) (t + head_words s)) [])) guest
      ∙ (λ i. filter (λ m. not (eqb m 0)) (sym read i ∷ e i))

  open-has : (w : ℕ) → is_open marks w ≡ true → has w (map module_address (lists_in s).modules) ≡ true
  open-has w shown = ap (has w) (modules-are s) ∙ sym (o.are_open w (omega (arith, o.size, open-low marks w shown))) ∙ shown

  has-open : (w : ℕ) → has w (map module_address (lists_in s).modules) ≡ true → is_open marks w ≡ true
  has-open w there =
      let h : has w (modules_in s) ≡ true = sym (ap (has w) (modules-are s)) ∙ there in
      let low : IsModuleIn s w = all-has (IsModuleIn s) w (modules_in s) claimed.claims.ends.lengths h in
      o.are_open w (omega (arith, low)) ∙ h

  all-named : AreNamed marks ws → (first ≢ 0 → is_open marks first ≡ true) → (k : ℕ) → k < length (first ∷ ws) → get_or (first ∷ ws) k 0 ≢ 0 → has (get_or (first ∷ ws) k 0) (map module_address (lists_in s).modules) ≡ true
  all-named named here zero low some = open-has first (here some)
  all-named named here (suc k) low some = open-has (get_or ws k 0) (named k (omega (arith, low)) some)

  pub modules-had : AreNamed marks ws → (first ≢ 0 → is_open marks first ≡ true) → HasWord (first ∷ ws) → HasModules (lists_in s) (task_in s t)
  modules-had named here some = record {
    some_module = subst (λ z. 1 ≤ length z) (sym list-is) (some-filter (first ∷ ws) some);
    most = omega (arith, ap length list-is, filter-few (first ∷ ws), ap length is, range-few s a n, size, most-is s);
    modules = subst (AllByRecursion (λ m. has m (map module_address (lists_in s).modules) ≡ true)) (sym list-is)
        (all-filter (λ m. has m (map module_address (lists_in s).modules) ≡ true) (first ∷ ws) (all-named named here));
  }

  members : HasModules (lists_in s) (task_in s t) → (k : ℕ) → k < length (first ∷ ws) → get_or (first ∷ ws) k 0 ≢ 0 → has (get_or (first ∷ ws) k 0) (map module_address (lists_in s).modules) ≡ true
  members h = filter-all (λ m. has m (map module_address (lists_in s).modules) ≡ true) (first ∷ ws) (subst (AllByRecursion (λ m. has m (map module_address (lists_in s).modules) ≡ true)) list-is h.modules)

  pub had-named : HasModules (lists_in s) (task_in s t) → AreNamed marks ws
  had-named h k low some = has-open (get_or ws k 0) (members h (suc k) (omega (arith, low)) some)

  pub had-first : HasModules (lists_in s) (task_in s t) → first ≢ 0 → is_open marks first ≡ true
  had-first h some = has-open first (members h 0 (omega arith) some)

  pub had-word : HasModules (lists_in s) (task_in s t) → first ≡ 0 → HasWord ws
  had-word h none = on (filter-some (first ∷ ws) (subst (λ z. 1 ≤ length z) list-is h.some_module))
    where
      at-word : (k : ℕ) → k < length (first ∷ ws) → get_or (first ∷ ws) k 0 ≢ 0 → HasWord ws
      at-word zero low some = absurd (some none)
      at-word (suc k) low some = record { at = k; low = omega (arith, low); some = some }

      on : HasWord (first ∷ ws) → HasWord ws
      on r = at-word r.at r.low r.some

pub word-behind : (first : ℕ) (ws : List ℕ) → HasWord ws → HasWord (first ∷ ws)
word-behind first ws h = record { at = suc h.at; low = omega (arith, h.low); some = h.some }

pub word-here : (first : ℕ) (ws : List ℕ) → first ≢ 0 → HasWord (first ∷ ws)
word-here first ws some = record { at = 0; low = omega arith; some = some }

-- ---- the block of a guest

pub guest-block : (s : List ℕ) (t u : ℕ) → u ≡ head_words s + 1001 + get_or s (t + 7) 0 → HasBlock (blocks_in s) t u ↔ HasBlock (lists_in s).blocks t (head_words_of (lists_in s).version + 1001 + (task_in s t).highest)
guest-block s t u is =
    let e : u ≡ head_words_of (lists_in s).version + 1001 + (task_in s t).highest = omega (arith, is, head-is s) in (
      λ h. subst (λ bs. HasBlock bs t (head_words_of (lists_in s).version + 1001 + (task_in s t).highest)) (sym (the-blocks s)) (subst (HasBlock (blocks_in s) t) e h),
      λ h. subst (HasBlock (blocks_in s) t) (sym e) (subst (λ bs. HasBlock bs t (head_words_of (lists_in s).version + 1001 + (task_in s t).highest)) (the-blocks s) h),
    )

-- ---- a resident

none-filter : (w : ℕ) → w ≡ 0 → filter (λ m. not (eqb m 0)) (w ∷ []) ≡ []
none-filter w e = ap (λ b. cond (not b) (w ∷ []) []) (eq-eqb w 0 e)

filter-none : (w : ℕ) → filter (λ m. not (eqb m 0)) (w ∷ []) ≡ [] → w ≡ 0
filter-none w = on (eqb w 0) refl
  where
    on : (b : Bool) → eqb w 0 ≡ b → cond (not b) (w ∷ []) [] ≡ [] → w ≡ 0
    on true e h = eqb-true w 0 e
    on false e h = cc

module _ (s : List ℕ) (t : ℕ) (can : CanPass s t) (resident : is_guest_id (id_in s t) ≡ false) where
  alone : (task_in s t).modules ≡ filter (λ m. not (eqb m 0)) (get_or s (t + 10) 0 ∷ [])
  alone = ap (λ g. filter (λ m. not (eqb m 0)) (get_or s (t + 10) 0 ∷ cond g (slice_range s (t + 23) (t + head_words s)) [])) resident

  out-none : (n : ℕ) → (get_or s (t + 18) 0 ≡ 0) ⊎ (get_or s (t + 18) 0 ≡ t) → outwards n s t (t + 18) ≡ []
  unfolding outwards
  out-none zero h = refl
  out-none (suc n) (inl e) = ap (λ b. cond (b || eqb (get_or s (t + 18) 0) t) [] (get_or s (t + 18) 0 ∷ outwards n s t (get_or s (t + 18) 0 + 1))) (eq-eqb (get_or s (t + 18) 0) 0 e)
  out-none (suc n) (inr e) = on (eqb (get_or s (t + 18) 0) 0)
    where
      on : (b : Bool) → cond (b || eqb (get_or s (t + 18) 0) t) [] (get_or s (t + 18) 0 ∷ outwards n s t (get_or s (t + 18) 0 + 1)) ≡ []
      on true = refl
      on false = ap (λ b. cond b [] (get_or s (t + 18) 0 ∷ outwards n s t (get_or s (t + 18) 0 + 1))) (eq-eqb (get_or s (t + 18) 0) t e)

  none-out : (n : ℕ) → 0 < n → outwards n s t (t + 18) ≡ [] → (get_or s (t + 18) 0 ≡ 0) ⊎ (get_or s (t + 18) 0 ≡ t)
  unfolding outwards
  none-out zero some h = absurd (omega (arith, some))
  none-out (suc n) some h = on (eqb (get_or s (t + 18) 0) 0) refl (eqb (get_or s (t + 18) 0) t) refl h
    where
      on : (b : Bool) → eqb (get_or s (t + 18) 0) 0 ≡ b → (d : Bool) → eqb (get_or s (t + 18) 0) t ≡ d → cond (b || d) [] (get_or s (t + 18) 0 ∷ outwards n s t (get_or s (t + 18) 0 + 1)) ≡ [] → (get_or s (t + 18) 0 ≡ 0) ⊎ (get_or s (t + 18) 0 ≡ t)
      on true e d f h = inl (eqb-true (get_or s (t + 18) 0) 0 e)
      on false e true f h = inr (eqb-true (get_or s (t + 18) 0) t f)
      on false e false f h = cc

  list-none : get_or s (t + 17) 0 ≡ 0 → map (coroutine_in s) (coroutines_in s t) ≡ []
  list-none e = ap (map (coroutine_in s)) (walk-ends s coroutine_link (first_coroutine t) e)

  none-list : map (coroutine_in s) (coroutines_in s t) ≡ [] → get_or s (t + 17) 0 ≡ 0
  none-list h = on (coroutines_in s t) can.coroutines.chain h
    where
      on : (cs : List ℕ) → IsChain s coroutine_link (first_coroutine t) cs → map (coroutine_in s) cs ≡ [] → get_or s (t + 17) 0 ≡ 0
      on [] chain h = chain
      on (k ∷ cs) chain h = cc

  pub idle-resident : resident_place (id_in s t) ≡ Some (t, get_or s (t + 2) 0) → IsIdle s t → IsResident (task_in s t)
  idle-resident place k = record {
    place = place;
    modules = alone ∙ none-filter (get_or s (t + 10) 0) k.code;
    stack = k.stack;
    fault = k.fault;
    fault_address = k.fault_address;
    saved = λ i. record {
      a = k.saved 11 (omega arith) (omega arith) i;
      b = k.saved 12 (omega arith) (omega arith) i;
      c = k.saved 13 (omega arith) (omega arith) i;
      p = k.saved 14 (omega arith) (omega arith) i;
      g = k.saved 15 (omega arith) (omega arith) i;
      pc = k.saved 16 (omega arith) (omega arith) i;
    };
    coroutines = list-none k.first;
    active = out-none (length s) k.current;
    alive = λ e. k.alive (omega (arith, e));
    free = k.free;
  }

  pub resident-idle : IsResident (task_in s t) → IsIdle s t
  resident-idle r = record {
    alive = λ e. r.alive (omega (arith, e));
    free = r.free;
    code = filter-none (get_or s (t + 10) 0) (sym alone ∙ r.modules);
    stack = r.stack;
    fault = r.fault;
    fault_address = r.fault_address;
    first = none-list r.coroutines;
    current = none-out (length s) (omega (arith, can.block)) r.active;
    saved = saved;
  }
    where
      at : (i j : ℕ) → i ≡ j → get_or s (t + j) 0 ≡ 0 → get_or s (t + i) 0 ≡ 0
      at i j e h = ap (λ z. get_or s (t + z) 0) e ∙ h

      saved : (i : ℕ) → 11 ≤ i → i < 17 → get_or s (t + i) 0 ≡ 0
      saved i low high =
          elim (cases_eq i 11) [
            | inl e ↦ at i 11 e (ap (λ x. x.a) r.saved)
            | inr n1 ↦ elim (cases_eq i 12) [
              | inl e ↦ at i 12 e (ap (λ x. x.b) r.saved)
              | inr n2 ↦ elim (cases_eq i 13) [
                | inl e ↦ at i 13 e (ap (λ x. x.c) r.saved)
                | inr n3 ↦ elim (cases_eq i 14) [
                  | inl e ↦ at i 14 e (ap (λ x. x.p) r.saved)
                  | inr n4 ↦ elim (cases_eq i 15) [
                    | inl e ↦ at i 15 e (ap (λ x. x.g) r.saved)
                    | inr n5 ↦ at i 16 (omega (arith, low, high, n1, n2, n3, n4, n5)) (ap (λ x. x.pc) r.saved)
                  ]
                ]
              ]
            ]
          ]
