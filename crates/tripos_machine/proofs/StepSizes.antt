-- A step leaves as many words as there were, and is one more.
use Rattle.std.proofs.Common.{◌≡◌, ◌+◌, None, length, sym, ◌∙◌}
use Rattle.std.proofs.lemmas.List.FromFn.{length-map-range_with_len}
use Rattle.bare_machine.proofs.Runs.{step-counts as bare-counts}
use Rattle.bare_machine.proofs.WordCounts.{step-count as bare-size}
use Rattle.kernel_model.specs.KernelRecord.Image.{image, word_of}
use Rattle.kernel_model.specs.KernelRecord.Kernel.{Kernel}
use Rattle.kernel_machine.specs.KernelSteps.Step.{step as kernel_step}
use Rattle.kernel_machine.proofs.KernelSteps.NumbersKept.{step-size as kernel-size}
use Rattle.kernel_machine.proofs.KernelSteps.Runs.{step-counts as kernel-counts}
use Rattle.tripos_machine.specs.State.{IsSound, State, steps_of, stop_of, words_of}
use Rattle.tripos_machine.specs.State.State.{Bare, Full}
use Rattle.tripos_machine.specs.Step.{step}

image-size : (k : Kernel) → length (image k) ≡ k.lists.size
unfolding image
image-size k = length-map-range_with_len (word_of k) 0 k.lists.size

pub step-size : (s : State) → IsSound s → length (words_of (step s).state) ≡ length (words_of s)
step-size (Bare m) sound = bare-size m
step-size (Full k) sound = image-size (kernel_step k).kernel ∙ kernel-size k sound ∙ sym (image-size k)

pub step-count : (s : State) → stop_of s ≡ None → steps_of (step s).state ≡ steps_of s + 1
step-count (Bare m) goes = bare-counts m goes
step-count (Full k) goes = kernel-counts k goes
