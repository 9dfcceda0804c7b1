-- The plain words of a kernel after a step are those that nobody owns.
use Rattle.std.proofs.Common.{◌≡◌, ℕ, ◌%◌, List, None, eqb, get_or, length, ◌<◌, refl, sym, ap, ◌∙◌, subst, arith}
use Rattle.kernel_lists.specs.OwnedWords.Owned.{owners}
use Rattle.kernel_model.specs.KernelRecord.Image.{HasPlainWords, IsImage, image, settled}
use Rattle.kernel_model.specs.KernelRecord.HoldsLists.{HoldsLists}
use Rattle.kernel_model.specs.KernelRecord.Kernel.{Kernel}
use Rattle.kernel_model.specs.KernelRecord.Lists.{Lists}
use Rattle.kernel_model.specs.KernelRecord.Owned.{owned}
use Rattle.kernel_model.specs.KernelRecord.ValidLists.{AreValid}
use Rattle.kernel_calls.specs.PacketCalls.Returned.{DeviceChange}
use Rattle.kernel_model.proofs.KernelRecord.ImageWords.{image-of}
use Rattle.kernel_devices.specs.Keys.{left_typed, met}
use Rattle.kernel_devices.specs.Printed.{finished}
use Rattle.kernel_devices.specs.Tick.{ticked}
use Rattle.kernel_machine.specs.KernelSteps.Step.{dispatch, key, output, served, step, tick, turn, with_key_typed, with_step}
use Rattle.kernel_machine.specs.KernelSteps.Stepped.{with_store}
use Rattle.kernel_machine.proofs.KernelSteps.StepEnds.{step-ends}
use Rattle.kernel_machine.proofs.KernelSteps.StoredWords.{plain-stored}
use Rattle.kernel_machine.proofs.KernelSteps.TurnWays.{due-or-not, turn-ways}

-- a kernel with the lists and the plain words of another
pub plain-like : (i j : Kernel) → HasPlainWords i → j.lists ≡ i.lists → j.plain ≡ i.plain → HasPlainWords j
plain-like i j h lists plain =
    record {
      size = ap length plain ∙ h.size ∙ sym (ap (λ (l : Lists). l.size) lists);
      plain = λ a low none.
          let p = h.plain a (omega (arith, low, ap (λ (l : Lists). l.size) lists)) (ap (λ l. owners a (owned l)) (sym lists) ∙ none) in
          (p.0, ap (λ ps. get_or ps a None) plain ∙ p.1);
      owned = λ a some. ap (λ ps. get_or ps a None) plain ∙ h.owned a (subst (λ l. 0 < owners a (owned l)) lists some);
    }

-- its lists are valid, and its plain words are those that nobody owns
pub record HasValidImage (k : Kernel) : Type 0 where
  pub lists : AreValid k.lists
  pub plain : HasPlainWords k

-- so its image holds them
pub image-holds : (k : Kernel) → HasValidImage k → HoldsLists (image k) k.lists
image-holds k h = (let i : IsImage (image k) k = image-of k h.lists.owns.apart h.lists.owns.inside h.plain in record { valid = h.lists; size = i.size; holds = i.holds })

-- what a part leaves has plain words, if its lists are valid
abbrev IsLeft : Kernel → Type 0
IsLeft j = AreValid j.lists → HasPlainWords j

stored-left : (s : List ℕ) (l : Lists) (k j : Kernel) → j.lists ≡ l → j.plain ≡ (with_store s l k).plain → IsLeft j
stored-left s l k j lists plain v = plain-like (with_store s l k) j (plain-stored s l k (subst AreValid lists v).owns) lists plain

pub turn-left : (k : Kernel) → HasPlainWords k → IsLeft (turn k).kernel
turn-left k h =
    turn-ways (λ x. IsLeft x.kernel) k
    (record {
      guest = λ e. stored-left _ _ k _ refl refl;
      shell = λ e. stored-left _ _ k _ refl refl;
      reporter = λ e. stored-left _ _ k _ refl refl;
      console = λ e. stored-left _ _ k _ refl refl;
      files = λ e. stored-left _ _ k _ refl refl;
      pipes = λ e f. stored-left _ _ k _ refl refl;
      nobody = λ e v. h;
    })

served-left : (k : Kernel) (m : DeviceChange) → IsLeft (served k m).kernel
unfolding settled
served-left k m = stored-left _ _ k _ refl refl

pub tick-left : (k : Kernel) → HasPlainWords k → IsLeft (tick k).kernel
unfolding tick
tick-left k h = due-or-not (λ x. IsLeft x.kernel) (eqb (k.steps % k.lists.period) 0) (λ j. served j (ticked j.lists)) k (λ due. served-left k (ticked k.lists)) (λ none v. h)

pub key-left : (k : Kernel) → IsLeft (key k).kernel
unfolding key
key-left k =
    let j : Kernel = with_key_typed k in
    served-left (record j { type_ahead = left_typed j.type_ahead j.lists.keyboard }) (met j.type_ahead j.lists)

pub output-left : (k : Kernel) → IsLeft (output k).kernel
unfolding output
output-left k = served-left k (finished k.lists)

pub dispatch-left : (k : Kernel) → IsLeft (dispatch k).kernel
unfolding dispatch settled
dispatch-left k = stored-left _ _ k _ refl refl

pub step-plain : (k : Kernel) → HasPlainWords k → IsLeft (step k).kernel
step-plain k h =
    step-ends IsLeft k
    (record {
      stopped = λ e v. h;
      stops = λ e f. turn-left (with_step k) (plain-like k (with_step k) h refl refl);
      whole = λ e f. dispatch-left _;
    })
