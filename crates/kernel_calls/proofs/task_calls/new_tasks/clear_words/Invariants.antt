use Rattle.std.proofs.Common.{◌≡◌, suc, ◌+◌, ◌-◌, replicate}
use Rattle.word_store.specs.Row.{with_words}
use Rattle.kernel_calls.proofs.task_calls.new_tasks.clear_words.Given as goal

abbrev pub invariant-loop-i : goal.invariant-loop-i
invariant-loop-i l = with_words l.store (l.a + l.i) (replicate (suc (l.last - l.i)) 0) ≡ with_words l.fn.store l.a (replicate (suc l.last) 0)
