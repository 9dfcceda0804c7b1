-- A block is taken, or given back.
use Rattle.std.proofs.Common.{◌≡◌, ℕ, Bool, true, false, cond, eqb, Option, Some, None, Ok, [], refl, sym, ap, ◌∙◌}
use Rattle.std.specs.Prelude.{is_some}
use Rattle.std.proofs.lemmas.Bool.{and_parts, not-true}
use Rattle.kernel_lists.specs.declared.getvec_chain.pieces.Block.{Block}
use Rattle.kernel_lists.specs.GetvecChain.Tiling.{used_at}
use Rattle.kernel_model.specs.KernelRecord.BlockUse.{use_of_data}
use Rattle.kernel_model.specs.declared.kernel_record.uses.Use.TheVariants.{User}
use Rattle.kernel_model.specs.KernelRecord.Lists.{Lists}
use Rattle.kernel_model.specs.KernelRecord.ValidLists.{AreValid}
use Rattle.kernel_model.proofs.KernelRecord.GivenBlocks.{given-valid}
use Rattle.kernel_model.proofs.KernelRecord.TakenBlocks.{take-valid}
use Rattle.kernel_calls.specs.CallAnswers.CallChange.{done, unless_refused}
use Rattle.kernel_calls.specs.CallAnswers.Refusals.{first_refusal}
use Rattle.kernel_calls.specs.BlockCalls.FreeStore.{data_taken, with_taken}
use Rattle.kernel_calls.specs.BlockCalls.Freevec.{freevec, freevec_tests, has_packet_in, holds_packet, is_user, with_given}
use Rattle.kernel_calls.specs.BlockCalls.Getvec.{getvec, getvec_tests}
use Rattle.kernel_calls.proofs.BlockCalls.BlockUses.{user-is}
use Rattle.kernel_calls.proofs.BlockCalls.IdleBlocks.{none-idle}
use Rattle.kernel_calls.proofs.CallAnswers.Refusals.{passed-tests}
use Rattle.tripos_machine.proofs.PacketHistory.TestedCalls.{unless-valid}

pub getvec-valid : (l : Lists) (u : ℕ) → AreValid l → AreValid (getvec l u).lists
getvec-valid l u v =
    unless-valid (getvec_tests l u) l (record { answer = Ok (data_taken u l); lists = with_taken u l; plain = []; events = [] }) v (λ e. take-valid l u v)

-- a user's block in which no packet lies
pub given-back-valid : (l : Lists) (a : ℕ) (b : Block) → AreValid l → used_at a l.blocks ≡ Some b → use_of_data l a ≡ User → has_packet_in l a ≡ false → AreValid (with_given a l)
given-back-valid l a b v used user empty = given-valid l a v (none-idle l a b v used user (sym (ap (holds_packet l) used) ∙ empty))

pub freevec-valid : (l : Lists) (a : ℕ) → AreValid l → AreValid (freevec l a).lists
freevec-valid l a v = on (eqb a 0)
  where
    given-back : first_refusal (freevec_tests l a) ≡ None → AreValid (with_given a l)
    given-back e =
        let ok = passed-tests (freevec_tests l a) e in
        let parts = and_parts (is_user (use_of_data l a)) (is_some (used_at a l.blocks)) ok.0 in
        by (used_at a l.blocks) refl parts.1 (user-is (use_of_data l a) parts.0) (not-true (has_packet_in l a) ok.1.0)
      where
        by : (o : Option Block) → used_at a l.blocks ≡ o → is_some o ≡ true → use_of_data l a ≡ User → has_packet_in l a ≡ false → AreValid (with_given a l)
        by (Some b) used some user empty = given-back-valid l a b v used user empty
        by None used some user empty = cc

    on : (b : Bool) → AreValid (cond b (done l) (unless_refused (freevec_tests l a) l (done (with_given a l)))).lists
    on true = v
    on false = unless-valid (freevec_tests l a) l (done (with_given a l)) v given-back
