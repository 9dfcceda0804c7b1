use Rattle.std.proofs.Common.{◌≡◌, ℕ, suc, ◌+◌, ◌-◌, ◌<◌, List, replicate, set, sym, ap, ◌∙◌, arith}
use Rattle.word_store.specs.Row.{with_words}
use Rattle.kernel_calls.proofs.task_calls.new_tasks.clear_words.Goals as goal

clear-more : (s t u : List ℕ) (a i last : ℕ) → i < last → u ≡ set s (a + i) 0 → with_words s (a + i) (replicate (suc (last - i)) 0) ≡ t → with_words u (a + (i + 1)) (replicate (suc (last - (i + 1))) 0) ≡ t
clear-more s t u a i last lt is h =
    let more : last - i ≡ suc (last - (i + 1)) = omega (arith, lt) in
    let next : a + (i + 1) ≡ a + i + 1 = omega arith in
    (λ j. with_words (is j) (next j) (replicate (suc (last - (i + 1))) 0)) ∙ ap (λ z. with_words s (a + i) (replicate (suc z) 0)) (sym more) ∙ h

pub loop-i-preserved : goal.loop-i-preserved
loop-i-preserved c = clear-more c.loop-i.store _ c.set_word_at.new.store c.args.a c.loop-i.i c.args.last c.loop-i-test.true c.set_word_at.ensures c.loop-i.invariant
