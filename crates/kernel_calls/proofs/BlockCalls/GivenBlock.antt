-- What the call that gives a block back makes, by its tests.
use Rattle.std.proofs.Common.{◌≡◌, ◌≢◌, ℕ, ◌+◌, ◌-◌, List, cond, not, Bool, true, false, Some, None, Ok, Err, refl, sym, ap, ◌∙◌, subst, arith}
use Rattle.std.specs.Prelude.{◌&&◌, is_some}
use Rattle.std.specs.List.{list_any}
use Rattle.std.proofs.lemmas.Bool.{ne_eqb}
use Rattle.kernel_lists.specs.declared.getvec_chain.pieces.Block.{Block}
use Rattle.kernel_lists.specs.GetvecChain.Block.{block_end, is_used_at}
use Rattle.kernel_lists.specs.GetvecChain.Give.{given_store}
use Rattle.kernel_lists.proofs.GetvecChain.UsedBlocks.{is_used_at-true}
use Rattle.kernel_model.specs.KernelRecord.BlockUse.{use_of_data}
use Rattle.kernel_model.specs.declared.kernel_record.uses.Use.TheVariants.{User}
use Rattle.kernel_model.specs.KernelRecord.ChangedStore.{HasKeeper}
use Rattle.kernel_model.specs.KernelRecord.Changes.{AreUnowned, IsIdleBlock}
use Rattle.kernel_model.specs.KernelRecord.Lists.{Lists, queued}
use Rattle.kernel_model.proofs.KernelRecord.ChangedLists.{knows-same}
use Rattle.word_store.proofs.Elements.{find-passes}
use Rattle.kernel_model.proofs.KernelRecord.FollowedBlocks.{IsWithin, found-within}
use Rattle.kernel_calls.specs.CallAnswers.CallChange.{CallChange, IsMade, done, minus_one, unless_refused}
use Rattle.kernel_calls.specs.CallAnswers.Refusals.{first_refusal}
use Rattle.kernel_calls.proofs.CallAnswers.MadeCalls.{made-accepted, made-refused}
use Rattle.kernel_calls.specs.BlockCalls.Freevec.{IsUsersBlock, freevec, freevec_tests, has_packet_in, holds_packet, is_user, is_users_block, lies_in, with_given}
use Rattle.kernel_calls.proofs.BlockCalls.IdleBlocks.{idle-unowned, none-idle, unowned-empty}
use Rattle.kernel_calls.proofs.BlockCalls.TakenStore.{given-changed, given-owners}

module _ (s : List ℕ) (tells : List ℕ → Type 0) (room : ℕ) (l : Lists) (v : ℕ) (k : HasKeeper s tells room l) where
  abbrev made : CallChange
  made = done (with_given v l)

  -- else the tests decide
  by-tests : v ≢ 0 → freevec l v ≡ unless_refused (freevec_tests l v) l made
  by-tests some = ap (λ b. cond b (done l) (unless_refused (freevec_tests l v) l made)) (ne_eqb v 0 some)

  refused-by : (code : ℕ) → v ≢ 0 → first_refusal (freevec_tests l v) ≡ Some code → IsMade s s tells (Err code) (freevec l v)
  refused-by code some e = subst (IsMade s s tells (Err code)) (sym (by-tests some)) (made-refused s l (freevec_tests l v) made tells code k.lists k.knows e)

  pub given-no_users : (code : ℕ) → v ≢ 0 → (is_users_block l v ≡ false) × (code ≡ 6) → IsMade s s tells (Err code) (freevec l v)
  given-no_users code some e =
      refused-by code some (ap (λ b. cond b (cond (not (has_packet_in l v)) None (Some 7)) (Some 6)) e.0 ∙ ap Some (sym e.1))

  module _ (b : Block) (users : IsUsersBlock l v (Ok b)) where
    end-is : v + (b.size - 1) ≡ block_end b
    end-is =
        let w : IsWithin 200 (l.size - 2) b = found-within (is_used_at v) 200 l.blocks (l.size - 2) b k.lists.valid.blocks users.0 in
        omega (arith, (is_used_at-true v b (find-passes (is_used_at v) l.blocks b users.0)).1, w.some)

    tests-are : (x : Bool) → list_any (lies_in b) (queued l) ≡ x → first_refusal (freevec_tests l v) ≡ cond (not x) None (Some 7)
    tests-are x e =
        (λ i. cond (is_user (user i) && is_some (users.0 i)) (cond (not (holds_packet l (users.0 i))) None (Some 7)) (Some 6)) ∙ ap (λ z. cond (not z) None (Some 7)) e
      where
        user : use_of_data l v ≡ User
        user = users.1

    pub given-packet : v ≢ 0 → (AreUnowned l v (v + (b.size - 1)) → ⊥) → IsMade s s tells (Err 7) (freevec l v)
    given-packet some owned = on (list_any (lies_in b) (queued l)) refl
      where
        on : (x : Bool) → list_any (lies_in b) (queued l) ≡ x → IsMade s s tells (Err 7) (freevec l v)
        on true e = refused-by 7 some (tests-are true e)
        on false e = absurd (owned (subst (AreUnowned l v) (sym end-is) (idle-unowned l v b k.lists.valid users.0 (none-idle l v b k.lists.valid users.0 users.1 e))))

    pub given-made : (t : List ℕ) → v ≢ 0 → AreUnowned l v (v + (b.size - 1)) → t ≡ given_store s v → IsMade s t tells (Ok minus_one) (freevec l v)
    given-made t some unowned is =
        let empty : list_any (lies_in b) (queued l) ≡ false = unowned-empty l v b k.lists.valid users.0 (subst (AreUnowned l v) end-is unowned) in
        let idle : IsIdleBlock l v = none-idle l v b k.lists.valid users.0 users.1 empty in
        subst (IsMade s t tells (Ok minus_one)) (sym (by-tests some))
        (made-accepted s l (freevec_tests l v) made t tells (Ok minus_one) (tests-are false empty)
        (subst (λ z. IsMade s z tells (Ok minus_one) made) (sym is)
        (record {
          leaves = record { lists = given-changed s l v k.lists idle; answered = refl };
          knows = knows-same tells l (with_given v l) (λ a. given-owners s l v k.lists idle a) k.knows;
        })))
