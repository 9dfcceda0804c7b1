-- The use of a block, as a store tells it.
use Rattle.std.proofs.Common.{◌≡◌, ℕ, ◌+◌, ◌-◌, List, [], ◌∷◌, map, cond, eqb, ◌&&◌, ◌||◌, Bool, true, false, Option, Some, None, Ok, refl, sym, ap, ◌∙◌, arith}
use Rattle.std.specs.Prelude.{is_some}
use Rattle.std.specs.List.{AllByRecursion, flat_map, list_any}
use Rattle.std.proofs.lemmas.Bool.{false≢true}
use Rattle.std.proofs.lemmas.List.Folds.{list_any-append}
use Rattle.std.proofs.Math.Bool.{and-false}
use Rattle.kernel_lists.specs.LinkedList.Places.{has}
use Rattle.kernel_lists.specs.declared.getvec_chain.pieces.Block.{Block}
use Rattle.kernel_lists.specs.GetvecChain.Block.{is_used_at}
use Rattle.kernel_lists.specs.GetvecChain.Tiling.{blocks_in, holding, used_at}
use Rattle.kernel_lists.proofs.GetvecChain.UsedBlocks.{is_used_at-true}
use Rattle.kernel_lists.specs.HunkLoader.HeldModules.{module_address}
use Rattle.kernel_lists.specs.TaskBlock.Lists.{coroutines_in}
use Rattle.kernel_lists.specs.TaskBlock.TaskChain.{tasks_in}
use Rattle.kernel_model.specs.KernelRecord.BlockUse.{coroutine_addresses, use_of_data}
use Rattle.kernel_model.specs.declared.kernel_record.uses.Use.{Use}
use Rattle.kernel_model.specs.declared.kernel_record.uses.Use.TheVariants.{Free, OfCoroutine, OfModule, OfResidents, OfTask, User}
use Rattle.kernel_model.specs.KernelRecord.HoldsLists.{HoldsLists}
use Rattle.kernel_model.specs.KernelRecord.KernelRanges.{has_residents}
use Rattle.kernel_model.specs.KernelRecord.Lists.{Lists}
use Rattle.kernel_model.specs.KernelRecord.Task.{Task, task_address}
use Rattle.kernel_model.proofs.KernelRecord.BlockStarts.{holding-used_at}
use Rattle.word_store.proofs.Elements.{find-passes}
use Rattle.kernel_model.proofs.KernelRecord.FollowedBlocks.{IsWithin, found-holding, found-within}
use Rattle.kernel_model.proofs.KernelRecord.ListRanges.{TaskReads}
use Rattle.kernel_model.proofs.KernelRecord.WalkedLists.{residents-read, tasks-read}
use Rattle.kernel_calls.proofs.CallAnswers.FoundTask.{reads}
use Rattle.kernel_calls.specs.BlockCalls.Freevec.{IsUsersBlock, is_user, is_users_block}

-- ---- what the store tells

module _ (s : List ℕ) (l : Lists) (v : ℕ) (h : HoldsLists s l) where
  pub residents-told : (has_residents s && eqb v 201) ≡ (l.residents && eqb v 201)
  residents-told = ap (λ b. b && eqb v 201) (residents-read s l h)

  pub tasks-told : has v (tasks_in s) ≡ has v (map task_address l.tasks)
  tasks-told = ap (has v) (reads s l h).tasks.chain

  pub coroutines-told : list_any (λ t. has v (coroutines_in s t)) (tasks_in s) ≡ has v (flat_map coroutine_addresses l.tasks)
  coroutines-told = ap (list_any (λ t. has v (coroutines_in s t))) (reads s l h).tasks.chain ∙ among l.tasks (tasks-read s l h)
    where
      among : (ts : List Task) → AllByRecursion (TaskReads s l.version) ts → list_any (λ t. has v (coroutines_in s t)) (map task_address ts) ≡ has v (flat_map coroutine_addresses ts)
      among [] all = refl
      among (t ∷ ts) all = (λ i. has v (all.0.list i) || among ts all.1 i) ∙ sym (list_any-append (λ q. eqb v q) (coroutine_addresses t) (flat_map coroutine_addresses ts))

-- ---- the use by these tests

module _ (l : Lists) (v : ℕ) where
  abbrev use_by : Bool → Bool → Bool → Bool → Use
  use_by r t m c = cond r OfResidents (cond t OfTask (cond m OfModule (cond c OfCoroutine User)))

  abbrev r' : Bool
  r' = l.residents && eqb v 201

  abbrev t' : Bool
  t' = has v (map task_address l.tasks)

  abbrev m' : Bool
  m' = has v (map module_address l.modules)

  abbrev c' : Bool
  c' = has v (flat_map coroutine_addresses l.tasks)

  pub use-residents : r' ≡ true → OfResidents ≡ use_of_data l v
  use-residents r = ap (λ x. use_by x t' m' c') (sym r)

  pub use-task : r' ≡ false → t' ≡ true → OfTask ≡ use_of_data l v
  use-task r t = λ i. use_by (sym r i) (sym t i) m' c'

  pub use-module : r' ≡ false → t' ≡ false → m' ≡ true → OfModule ≡ use_of_data l v
  use-module r t m = λ i. use_by (sym r i) (sym t i) (sym m i) c'

  pub use-coroutine : r' ≡ false → t' ≡ false → m' ≡ false → c' ≡ true → OfCoroutine ≡ use_of_data l v
  use-coroutine r t m c = λ i. use_by (sym r i) (sym t i) (sym m i) (sym c i)

  pub use-user : r' ≡ false → t' ≡ false → m' ≡ false → c' ≡ false → User ≡ use_of_data l v
  use-user r t m c = λ i. use_by (sym r i) (sym t i) (sym m i) (sym c i)

-- a block of a user is none of the others
pub user-is : (u : Use) → is_user u ≡ true → u ≡ User
user-is Free e = cc
user-is User e = refl
user-is OfTask e = cc
user-is OfModule e = cc
user-is OfCoroutine e = cc
user-is OfResidents e = cc

-- ---- the used block at v is the one that holds v

module _ (s : List ℕ) (l : Lists) (v : ℕ) (h : HoldsLists s l) where
  used-held : (b : Block) → used_at v l.blocks ≡ Some b → (holding v (blocks_in s) ≡ Some b) × (is_used_at v b ≡ true)
  used-held b used =
      let w : IsWithin 200 (l.size - 2) b = found-within (is_used_at v) 200 l.blocks (l.size - 2) b h.valid.blocks used in
      let test : is_used_at v b ≡ true = find-passes (is_used_at v) l.blocks b used in
      let start : b.start + 1 ≡ v = (is_used_at-true v b test).1 in (
        ap (holding v) (reads s l h).blocks
            ∙ found-holding (is_used_at v) 200 l.blocks (l.size - 2) b v h.valid.blocks used (omega (arith, start)) (omega (arith, start, w.some)),
        test,
      )

  unused : (used_at v l.blocks ≡ None) → is_users_block l v ≡ false
  unused none = ap (λ o. is_user (use_of_data l v) && is_some o) none ∙ and-false (is_user (use_of_data l v))

  -- no block holds v
  pub no-block : (o : Option Block) → o ≡ holding v (blocks_in s) → o ≡ None → is_users_block l v ≡ false
  no-block o is none = unused (on (used_at v l.blocks) refl)
    where
      on : (u : Option Block) → used_at v l.blocks ≡ u → u ≡ None
      on None e = refl
      on (Some b) e = (let f : holding v (blocks_in s) ≡ Some b = (used-held b e).0 in cc)

  -- another block holds it
  pub other-block : (o : Option Block) (b : Block) → o ≡ holding v (blocks_in s) → o ≡ Some b → is_used_at v b ≡ false → is_users_block l v ≡ false
  other-block o b is some test = unused (on (used_at v l.blocks) refl)
    where
      same : (x y : Block) → ◌≡◌ {A = Option Block} (Some x) (Some y) → x ≡ y
      same x y e = cc

      on : (u : Option Block) → used_at v l.blocks ≡ u → u ≡ None
      on None e = refl
      on (Some c) e =
          let f = used-held c e in
          let it : c ≡ b = same c b (sym f.0 ∙ sym is ∙ some) in
          absurd (false≢true (sym test ∙ ap (is_used_at v) (sym it) ∙ f.1))

  -- it begins there, and is not a user's
  pub not-users : is_user (use_of_data l v) ≡ false → is_users_block l v ≡ false
  not-users e = ap (λ b. b && is_some (used_at v l.blocks)) e

  -- or is
  pub users-here : (o : Option Block) (b : Block) → o ≡ holding v (blocks_in s) → o ≡ Some b → is_used_at v b ≡ true → is_user (use_of_data l v) ≡ true → IsUsersBlock l v (Ok b)
  users-here o b is some test e =
      let t = is_used_at-true v b test in (
        ap (λ z. used_at z l.blocks) (sym t.1)
            ∙ holding-used_at 200 l.blocks (l.size - 2) v b h.valid.blocks (ap (holding v) (sym (reads s l h).blocks) ∙ sym is ∙ some) t.0,
        user-is (use_of_data l v) e,
      )
