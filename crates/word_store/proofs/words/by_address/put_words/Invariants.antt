use Rattle.std.proofs.Common.{◌≡◌, ◌+◌, length, drop}
use Rattle.word_store.specs.Row.{with_words}
use Rattle.word_store.proofs.words.by_address.put_words.Given as goal

abbrev pub invariant-loop-i : goal.invariant-loop-i
invariant-loop-i l =
    (with_words l.all (l.at + l.i) (drop l.i l.words) ≡ with_words l.fn.all l.at l.words) × (length l.all ≡ length l.fn.all)
