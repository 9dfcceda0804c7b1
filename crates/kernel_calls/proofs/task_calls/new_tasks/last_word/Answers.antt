use Rattle.std.proofs.Common.{◌≡◌, ℕ, ◌+◌, ◌^◌, refl, ◌∙◌, arith, inl, inr}
use Rattle.std.proofs.lemmas.Bool.{cases_lt}
use Rattle.kernel_model.specs.KernelRecord.Versions.{head_words_of}
use Rattle.kernel_calls.specs.TaskCalls.CreateTask.{last_word_of}
use Rattle.kernel_calls.proofs.TaskCalls.ReadNumbers.{head-read}
use Rattle.kernel_calls.proofs.TaskCalls.NewBlock.{no_room}
use Rattle.kernel_calls.proofs.task_calls.new_tasks.last_word.Goals as goal

last : (u w h : ℕ) → w ≡ h → u + (w + 1001) ≡ h + 1001 + u
last u w h is = omega (arith, is)

pub returns-in-Some : goal.returns-in-Some
returns-in-Some c = λ l h. c.in-Some.ensures.1 ∙ last c.args.u c.head_words.result (head_words_of l.version) (c.head_words.ensures ∙ head-read c.args.store.now l h)

pub returns-in-None : goal.returns-in-None
returns-in-None c = λ l h. (
  no_room l c.args.u (last_word_of l.version c.args.u) h.valid refl
      (elim (cases_lt (c.args.u + (c.head_words.result + 1001)) (2 ^ 32)) [
        | inl few ↦ absurd (c.in-None.ensures few)
        | inr many ↦ omega (arith, many, last c.args.u c.head_words.result (head_words_of l.version) (c.head_words.ensures ∙ head-read c.args.store.now l h))
      ]),
  refl,
)
