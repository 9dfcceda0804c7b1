-- The walks over the coroutines of a task.
use Rattle.std.proofs.Common.{◌≡◌, ◌≢◌, ◌↔◌, ℕ, ◌+◌, ◌<◌, ◌≤◌, ◌&&◌, ◌||◌, Bool, true, false, not, List, [], ◌∷◌, cond, eqb, get_or, leb, ltb, length, map, refl, sym, ap, ◌∙◌, subst, arith, inl, inr}
use Rattle.std.specs.Bool.{OnFalse, OnTrue}
use Rattle.std.specs.List.{AllByRecursion}
use Rattle.std.proofs.lemmas.Bool.{cases_eq, cases_lt, eq-eqb, eqb-true, false≢true, ne_eqb}
use Rattle.std.proofs.lemmas.Bool.Decides.{nat_tests}
use Rattle.word_store.specs.Count.{times}
use Rattle.kernel_lists.specs.LinkedList.Places.{has}
use Rattle.kernel_lists.proofs.LinkedList.AllMembers.{all-has, all-members}
use Rattle.kernel_lists.proofs.LinkedList.Members.{has-times, times-has, none-times}
use Rattle.kernel_lists.specs.GetvecChain.Tiling.{blocks_in}
use Rattle.kernel_lists.specs.TaskBlock.Lists.{coroutines_in}
use Rattle.kernel_lists.specs.Coroutines.Active.{active_in}
use Rattle.kernel_lists.specs.Coroutines.HeldCoroutines.{address_of}
use Rattle.kernel_model.specs.KernelRecord.BlockUse.{coroutine_addresses}
use Rattle.kernel_model.specs.KernelRecord.Recovered.{coroutine_in, lists_in, task_in}
use Rattle.kernel_model.specs.KernelRecord.ValidBlocks.{HasBlock}
use Rattle.kernel_model.specs.KernelRecord.ValidTasks.{AreValidCoroutines, IsCoroutine}
use Rattle.store_claims.specs.WordClaims.Marks.{AreClaimed, AreOpen, IsSet, is_open}
use Rattle.store_claims.proofs.WordClaims.ClaimedWords.{open-low}
use Rattle.store_claims.specs.ListClaims.ListWords.{Claimable}
use Rattle.kernel_check.specs.ListPasses.StartMarks.{IsShut, OpensMembers}
use Rattle.kernel_check.specs.ListPasses.Private.CanPass.{CanPass}
use Rattle.kernel_check.specs.ListPasses.Frames.{TellsParent}
use Rattle.kernel_check.proofs.ListPasses.ClaimedWalks.{of-map}
use Rattle.store_claims.proofs.AdoptionLaw.WordCounts.{map-coroutines}

abbrev pub Body : List ℕ → ℕ → Type 0
Body s c = IsCoroutine (lists_in s) (coroutine_in s c)

abbrev pub Own : List ℕ → ℕ → Type 0
Own s t = AreValidCoroutines (lists_in s) (task_in s t)

-- ---- one coroutine

pub the-blocks : (s : List ℕ) → (lists_in s).blocks ≡ blocks_in s
unfolding lists_in
the-blocks s = refl

pub body-is : (s : List ℕ) (c h : ℕ) → h ≡ (coroutine_in s c).highest → 16 ≤ h → HasBlock (blocks_in s) c h → Body s c
body-is s c h read high block = record { block = subst (λ bs. HasBlock bs c (coroutine_in s c).highest) (sym (the-blocks s)) (subst (HasBlock (blocks_in s) c) read block); high = omega (arith, read, high) }

pub is-body : (s : List ℕ) (c h : ℕ) → h ≡ (coroutine_in s c).highest → Body s c → (16 ≤ h) × HasBlock (blocks_in s) c h
is-body s c h read b = (omega (arith, read, b.high), subst (HasBlock (blocks_in s) c) (sym read) (subst (λ bs. HasBlock bs c (coroutine_in s c).highest) (the-blocks s) b.block))

-- ---- those of one task

pub members-read : (s : List ℕ) (t : ℕ) → coroutine_addresses (task_in s t) ≡ coroutines_in s t
members-read s t = map-coroutines s (coroutines_in s t)

module _ (s : List ℕ) (t : ℕ) (marks : List Bool) (can : CanPass s t) (o : OpensMembers s (coroutines_in s t) marks) where
  members-are : coroutine_addresses (task_in s t) ≡ coroutines_in s t
  members-are = map-coroutines s (coroutines_in s t)

  pub own-coroutines : AllByRecursion (Body s) (coroutines_in s t) → Claimable marks (active_in s t) → Own s t
  own-coroutines bodies c = record {
    each = (of-map (IsCoroutine (lists_in s)) (coroutine_in s) (coroutines_in s t)).0 bodies;
    members = all-members (λ a. has a (coroutine_addresses (task_in s t)) ≡ true) (active_in s t)
        (λ a there. (let shown : is_open marks a ≡ true = c.are_open a (has-times a (active_in s t) there) in
        ap (has a) members-are ∙ sym (o.are_open a (omega (arith, o.size, open-low marks a shown))) ∙ shown));
    distinct = c.apart;
  }

  pub own-claimable : Own s t → Claimable marks (active_in s t)
  own-claimable k = record {
    are_open = λ a some.
        let there : has a (coroutines_in s t) ≡ true = sym (ap (has a) members-are) ∙ all-has (λ a. has a (coroutine_addresses (task_in s t)) ≡ true) a (active_in s t) k.members (times-has a (active_in s t) some) in
        let low : a + 10 ≤ length s = all-has (λ a. a + 10 ≤ length s) a (coroutines_in s t) can.bodies there in
        o.are_open a (omega (arith, low)) ∙ there;
    apart = k.distinct;
  }

  -- of the coroutines those are left open that are not active
  pub left-idle : (new : List Bool) → AreClaimed marks new (active_in s t) → AllByRecursion (λ a. is_open new a ≡ not (has a (active_in s t))) (coroutines_in s t)
  left-idle new c = all-members (λ a. is_open new a ≡ not (has a (active_in s t))) (coroutines_in s t) each
    where
      each : (a : ℕ) → has a (coroutines_in s t) ≡ true → is_open new a ≡ not (has a (active_in s t))
      each a there =
          let low : a + 10 ≤ length s = all-has (λ a. a + 10 ≤ length s) a (coroutines_in s t) can.bodies there in
          let before : is_open marks a ≡ true = o.are_open a (omega (arith, low)) ∙ there in
          on (has a (active_in s t)) refl before
        where
          on : (b : Bool) → has a (active_in s t) ≡ b → is_open marks a ≡ true → is_open new a ≡ not b
          on true is before = shut (is_open new a) refl
            where
              shut : (x : Bool) → is_open new a ≡ x → is_open new a ≡ false
              shut true e = absurd (omega (arith, ((c.marks a).0 e).1, has-times a (active_in s t) is))
              shut false e = e
          on false is before = (c.marks a).1 (before, none-times a (active_in s t) is)

  -- what is left open are coroutines
  pub left-open : (new : List Bool) → AreClaimed marks new (active_in s t) → (a : ℕ) → is_open new a ≡ true → has a (coroutines_in s t) ≡ true
  left-open new c a shown =
      let before : is_open marks a ≡ true = ((c.marks a).0 shown).0 in
      sym (o.are_open a (omega (arith, o.size, open-low marks a before))) ∙ before

pub own-bodies : (s : List ℕ) (t : ℕ) → Own s t → AllByRecursion (Body s) (coroutines_in s t)
own-bodies s t k = (of-map (IsCoroutine (lists_in s)) (coroutine_in s) (coroutines_in s t)).1 k.each

-- ---- they are shut

pub record IsShutting (s : List ℕ) (m : List Bool) (rest : List ℕ) : Type 0 where
  pub size : length m ≡ length s
  pub only : (a : ℕ) → is_open m a ≡ true → has a rest ≡ true

has-or : (a c : ℕ) (cs : List ℕ) → a ≢ c → has a (c ∷ cs) ≡ true → has a cs ≡ true
has-or a c cs other h = on (eqb a c) refl h
  where
    on : (b : Bool) → eqb a c ≡ b → (b || has a cs) ≡ true → has a cs ≡ true
    on true is h = absurd (other (eqb-true a c is))
    on false is h = h

pub shut-one : (s : List ℕ) (m v : List Bool) (c : ℕ) (bs rest : List ℕ) → IsShutting s m bs → bs ≡ c ∷ rest → IsSet m v c 1 false → IsShutting s v rest
shut-one s m v c bs rest g is set = record {
  size = set.size ∙ g.size;
  only = λ a shown.
      let low : a < length m = omega (arith, open-low v a shown, set.size) in
      elim (cases_eq a c) [
        | inl e ↦ absurd (false≢true (sym (closed a e low) ∙ shown))
        | inr other ↦ has-or a c rest other (ap (has a) (sym is) ∙ g.only a (sym (same a other low) ∙ shown))
      ];
}
  where
    closed : (a : ℕ) → a ≡ c → a < length m → is_open v a ≡ false
    closed a e low = set.marks a low ∙ ap (λ b. cond b false (is_open m a)) (inside a e)
      where
        inside : (a : ℕ) → a ≡ c → (leb c a && ltb a (c + 1)) ≡ true
        inside a e = grind (arith, nat_tests)

    same : (a : ℕ) → a ≢ c → a < length m → is_open v a ≡ is_open m a
    same a other low = set.marks a low ∙ ap (λ b. cond b false (is_open m a)) (outside a other)
      where
        outside : (a : ℕ) → a ≢ c → (leb c a && ltb a (c + 1)) ≡ false
        outside a other = grind (arith, nat_tests)

pub shut-none : (s : List ℕ) (m v : List Bool) (c : ℕ) (bs rest : List ℕ) → IsShutting s m bs → bs ≡ c ∷ rest → v ≡ m → (AreOpen m c 1 → ⊥) → IsShutting s v rest
shut-none s m v c bs rest g is same closed = record {
  size = ap length same ∙ g.size;
  only = λ a shown.
      let before : is_open m a ≡ true = sym (ap (λ z. is_open z a) same) ∙ shown in
      elim (cases_eq a c) [
        | inl e ↦ absurd (closed (λ b low high. (let at : b ≡ a = omega (arith, low, high, e) in ap (is_open m) at ∙ before)))
        | inr other ↦ has-or a c rest other (ap (has a) (sym is) ∙ g.only a before)
      ];
}

pub shut-next : (s : List ℕ) (m v : List Bool) (c : ℕ) (bs rest : List ℕ) (b : Bool) → IsShutting s m bs → bs ≡ c ∷ rest → ((b ≡ true) ↔ AreOpen m c 1) → OnTrue b (IsSet m v c 1 false) → OnFalse b (v ≡ m)
    → IsShutting s v rest
shut-next s m v c bs rest true g is answer set none = shut-one s m v c bs rest g is set
shut-next s m v c bs rest false g is answer set none = shut-none s m v c bs rest g is none (λ open_words. false≢true (answer.1 open_words))

-- ---- their parents

pub tells-open : (s : List ℕ) (t c : ℕ) (m : List Bool) (b : Bool) → is_open m c ≡ not (has c (active_in s t)) → ((b ≡ true) ↔ (eqb (get_or s (c + 1) 0) 0 ≡ is_open m c)) → (b ≡ true) ↔ TellsParent s t c
tells-open s t c m b idle answer = (λ y. answer.0 y ∙ idle, λ h. answer.1 (h ∙ sym idle))

pub some-word : (w : ℕ) (v : ℕ) (b : Bool) → w ≡ v → w ≢ 0 → (not b ≡ true) ↔ (eqb v 0 ≡ b)
some-word w v b read some =
    let z : eqb v 0 ≡ false = ne_eqb v 0 (λ e. some (read ∙ e)) in (
      λ t. z ∙ turn b t,
      λ e. ap not (sym e ∙ z),
    )
  where
    turn : (b : Bool) → not b ≡ true → false ≡ b
    turn true e = absurd (false≢true e)
    turn false e = refl
