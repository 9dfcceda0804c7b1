-- The packets that are told of a step's events.
use Rattle.std.proofs.Common.{◌≡◌, ◌∙◌, ℕ, zero, suc, List, [], ◌∷◌, ◌++◌, ◌<◌, arith, length, length-append, map, take, refl, sym, ap, subst}
use Rattle.std.proofs.Math.Seq.{take_all, take-append_seam, take-nil}
use Rattle.kernel_lists.specs.declared.packet_queue.events.KernelEvent.{KernelEvent}
use Rattle.show_run.specs.declared.step_log.packets.TheConstants.{MOST_TOLD}
use Rattle.show_run.specs.StepLog.Packets.{accepted, told_of}

take-mapped : {X Y : Type 0} (f : X → Y) (n : ℕ) (xs : List X) (x : X) → map f (take n (xs ++ x ∷ [])) ≡ take n (map f (take n xs) ++ f x ∷ [])
take-mapped f zero xs x = refl
take-mapped f (suc n) [] x = ap (λ ys. f x ∷ ys) (ap (map f) (take-nil n) ∙ sym (take-nil n))
take-mapped f (suc n) (y ∷ xs) x = ap (λ ys. f y ∷ ys) (take-mapped f n xs x)

-- where there is no room, and where there is
pub kept-full : {X : Type 0} (n : ℕ) (xs : List X) (x : X) → length xs ≡ n → xs ≡ take n (xs ++ x ∷ [])
kept-full n xs x full = sym (subst (λ (k : ℕ). take k (xs ++ x ∷ []) ≡ xs) full (take-append_seam xs (x ∷ [])))

pub kept-more : {X : Type 0} (n : ℕ) (xs : List X) (x : X) → length xs < n → xs ++ x ∷ [] ≡ take n (xs ++ x ∷ [])
kept-more n xs x few = sym (take_all n (xs ++ x ∷ []) (omega (arith, few, length-append xs (x ∷ []))))

-- those of one event more
pub told-more : (es fs : List KernelEvent) (e : KernelEvent) → fs ≡ es ++ e ∷ [] → told_of fs ≡ take MOST_TOLD (told_of es ++ accepted e ∷ [])
told-more es fs e is = ap told_of is ∙ take-mapped accepted MOST_TOLD es e
