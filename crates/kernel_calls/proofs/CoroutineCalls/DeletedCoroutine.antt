-- The call that deletes a coroutine, by its tests.
use Rattle.std.specs.Prelude.{OnOk, not}
use Rattle.std.proofs.Common.{◌≡◌, ℕ, ◌+◌, ◌-◌, ◌≤◌, List, [], ◌∷◌, cond, get_or, length, Bool, true, false, Some, None, Option, Ok, Err, Result, refl, sym, ap, ◌∙◌, subst, arith}
use Rattle.std.specs.List.{AllByRecursion, range_with_len}
use Rattle.word_store.specs.Count.{IsApart}
use Rattle.kernel_lists.specs.declared.getvec_chain.pieces.Block.{Block}
use Rattle.kernel_lists.specs.GetvecChain.Block.{block_end, used_block}
use Rattle.kernel_lists.specs.GetvecChain.Run.{need}
use Rattle.kernel_lists.specs.GetvecChain.Tiling.{blocks_in, used_at}
use Rattle.kernel_lists.proofs.GetvecChain.UsedBlocks.{UsedBlock, used_at-is}
use Rattle.kernel_lists.specs.Coroutines.CoroutineExchanges.{HoldsCoroutines, TaskCoroutines}
use Rattle.kernel_lists.specs.Coroutines.Creation.{deleted}
use Rattle.kernel_lists.specs.Coroutines.Refusals.{idle_answer}
use Rattle.kernel_lists.specs.declared.coroutine_lists.ends.CoEnd.{CoEnd}
use Rattle.kernel_model.specs.KernelRecord.ChangedStore.{HasKeeper}
use Rattle.kernel_model.specs.KernelRecord.Changes.{AreUnowned}
use Rattle.kernel_model.specs.KernelRecord.HoldsLists.{HoldsLists}
use Rattle.kernel_model.specs.KernelRecord.Lists.{Lists}
use Rattle.kernel_model.specs.KernelRecord.ReadsLists.{ReadsLists}
use Rattle.kernel_model.specs.KernelRecord.ValidTasks.{IsCoroutine}
use Rattle.kernel_model.proofs.KernelRecord.AllThings.{all-here}
use Rattle.kernel_model.specs.WordKinds.Keeper.{AreTogether}
use Rattle.kernel_model.proofs.WordKinds.KnownWords.{knows-released}
use Rattle.kernel_calls.specs.CallAnswers.Guests.{GuestAt}
use Rattle.kernel_calls.specs.CallAnswers.CallChange.{CallChange, IsMade, done, minus_one, plain_answer}
use Rattle.kernel_calls.specs.CallAnswers.Refusals.{first_refusal}
use Rattle.kernel_calls.proofs.CallAnswers.FoundTask.{reads}
use Rattle.kernel_calls.proofs.CallAnswers.MadeCalls.{made-accepted, made-refused}
use Rattle.kernel_calls.proofs.CallAnswers.Refusals.{answer_of-err, answer_of-ok, first_refusal-failed, first_refusal-passed}
use Rattle.kernel_calls.specs.BlockCalls.Freevec.{has_packet_in}
use Rattle.kernel_calls.specs.CoroutineCalls.CallCo.{idle_tests}
use Rattle.kernel_calls.specs.CoroutineCalls.CallersCoroutines.{coroutines_of_caller}
use Rattle.kernel_calls.specs.CoroutineCalls.DeleteCo.{IsRoomy, delete_tests, deleteco, with_deleted_at}
use Rattle.kernel_calls.specs.CoroutineCalls.Private.Refusals.{coded}
use Rattle.kernel_calls.proofs.CoroutineCalls.CallersTask.{callers-found, callers-held, callers-valid}
use Rattle.kernel_calls.proofs.CoroutineCalls.CodedAnswers.{IsIdle, idle-coded, idle-passed}
use Rattle.kernel_calls.proofs.CoroutineCalls.GoneCoroutine.{OneOf, deleted-changed, deleted-less, one-of, packet-none, packet-some}

-- a block with room for a coroutine's words, as a store has it
pub record RoomyBlock (s : List ℕ) (c : ℕ) (b : Block) : Type 0 where
  pub low : 201 ≤ c
  pub word : get_or s (c - 1) 0 ≡ b.size
  pub room : 11 ≤ b.size
  pub end : c + b.size ≡ block_end b + 1
  pub inside : block_end b + 2 ≤ length s

pub roomy-block : (s : List ℕ) (l : Lists) (c : ℕ) (b : Block) → HoldsLists s l → IsRoomy l c b → RoomyBlock s c b
roomy-block s l c b h roomy =
    let r : ReadsLists s l = reads s l h in
    let u : UsedBlock s 200 c b = used_at-is s 200 (blocks_in s) c b r.tiled (ap (used_at c) r.blocks ∙ roomy.used) in
    let at : c - 1 ≡ b.start = omega (arith, u.start) in
    record {
      low = omega (arith, u.start, u.low);
      word = ap (λ a. get_or s a 0) at ∙ u.word;
      room = roomy.room;
      end = omega (arith, u.start);
      inside = u.inside;
    }

module _ (s : List ℕ) (tells : List ℕ → Type 0) (room : ℕ) (l : Lists) (k : HasKeeper s tells room l) (t : ℕ) (g : GuestAt l l.running t) (c : ℕ) where
  abbrev own : TaskCoroutines
  own = g.task.coroutines

  held : HoldsCoroutines s t own
  held = callers-held s l t k.lists g

  abbrev packet_test : List (Bool × ℕ)
  packet_test = (not (has_packet_in l c), 24) ∷ []

  abbrev made : CallChange
  made = done (with_deleted_at c l)

  tests-found : (o : Option ℕ) → first_refusal (idle_tests c own) ≡ o → first_refusal (idle_tests c (coroutines_of_caller l)) ≡ o
  tests-found o e = ap (λ z. first_refusal (idle_tests c z)) (callers-found s l t k.lists g) ∙ e

  -- it is none of the caller's, or has a parent
  pub deleteco-not_idle : (result : Result (Unit {0}) ℕ) (code other : ℕ) (answer : Result (Unit {0}) CoEnd) → result ≡ Err other → other ≡ code → answer ≡ idle_answer s t c
      → ◌≡◌ {A = Result (Unit {0}) ℕ} (Err code) (coded answer) → IsMade s s tells (plain_answer result) (deleteco l c)
  deleteco-not_idle result code other answer is same by e =
      subst (λ r. IsMade s s tells (plain_answer r) (deleteco l c)) (sym (is ∙ ap Err same))
      (made-refused s l (delete_tests l c) made tells code k.lists k.knows
      (first_refusal-failed (idle_tests c (coroutines_of_caller l)) packet_test code
      (tests-found (Some code) (answer_of-err (first_refusal (idle_tests c own)) code (e ∙ ap coded by ∙ idle-coded s t own held c)))))

  module _ (answer : idle_answer s t c ≡ Ok tt) where
    none : first_refusal (idle_tests c own) ≡ None
    none = answer_of-ok (first_refusal (idle_tests c own)) tt (ap coded (sym answer) ∙ idle-coded s t own held c)

    is_idle : IsIdle s t own held c
    is_idle = idle-passed s t own held c none

    -- its block
    pub block-there : (b : Block) × IsRoomy l c b
    block-there =
        let o : OneOf c own.list = one-of c own.list is_idle.known in
        let i : IsCoroutine l o.one = all-here (IsCoroutine l) o.front o.one o.back (subst (AllByRecursion (IsCoroutine l)) o.is (callers-valid s l t k.lists g).each) in (
          used_block i.block.start (need o.one.highest),
          record { used = ap (λ a. used_at a l.blocks) (sym o.at) ∙ i.block.block; room = large o.one.highest i.high },
        )
      where
        large : (u : ℕ) → 16 ≤ u → 11 ≤ need u
        large u high = omega arith

    tests-by : (b : Bool) → has_packet_in l c ≡ b → first_refusal (delete_tests l c) ≡ cond (not b) None (Some 24)
    tests-by b e = first_refusal-passed (idle_tests c (coroutines_of_caller l)) packet_test (tests-found None none) ∙ ap (λ z. cond (not z) None (Some 24)) e

    module _ (b : Block) (roomy : IsRoomy l c b) where
      pub deleteco-packet : (AreUnowned l (c + 10) (block_end b) → ⊥) → IsMade s s tells (Err 24) (deleteco l c)
      deleteco-packet owned =
          made-refused s l (delete_tests l c) made tells 24 k.lists k.knows (tests-by true (packet-some s l t k.lists g c is_idle.known is_idle.alone answer b roomy owned))

      -- the keeper is told that its words are the kernel's no more
      pub deleteco-made : (v : List ℕ) (told : List ℕ → Type 0) → AreUnowned l (c + 10) (block_end b) → v ≡ deleted s t c
          → ((known after : List ℕ) → tells known → IsApart known → AreTogether known after (range_with_len c 10) → told after) → IsMade s v told (Ok minus_one) (deleteco l c)
      deleteco-made v told clear is release =
          let empty : has_packet_in l c ≡ false = packet-none s l t k.lists g c is_idle.known is_idle.alone answer b roomy clear in
          made-accepted s l (delete_tests l c) made v told (Ok minus_one) (tests-by false empty)
          (subst (λ z. IsMade s z told (Ok minus_one) made) (sym is)
          (record {
            leaves = record { lists = deleted-changed s l t k.lists g c is_idle.known is_idle.alone answer b roomy empty; answered = refl };
            knows =
                knows-released tells told l (with_deleted_at c l) c 10 k.lists.valid.owns (deleted-less s l t k.lists g c is_idle.known is_idle.alone answer b roomy empty) k.knows release;
          }))

-- ---- answers

pub coded-ok : (r : Result (Unit {0}) CoEnd) (u : Unit {0}) → ◌≡◌ {A = Result (Unit {0}) ℕ} (Ok u) (coded r) → r ≡ Ok tt
coded-ok (Ok v) u e = refl
coded-ok (Err reason) u e = cc

pub ended-ok : (r : Result (Unit {0}) CoEnd) (u : Unit {0}) (P : Type 0) → r ≡ Ok u → OnOk r P → P
ended-ok (Ok v) u P e p = p
ended-ok (Err reason) u P e p = cc
