use Rattle.std.proofs.Common.{◌-◌, arith, refl, vec_len}
use Rattle.module_text.proofs.HunkLists.{word_pushed}
use Rattle.module_text.proofs.read.push_word.Goals as goal

pub returns-in_ok-push-clause-added : goal.returns-in_ok-push-clause-added
returns-in_ok-push-clause-added c =
    let hunks = c.args.hunks.now in
    let some = c.in-Some.ensures.variant.0 refl in
    λ q. rw c.in_ok-push.ensures.ok (word_pushed hunks.items (vec_len hunks - 1) c.in-Some.hunk.now c.args.word q (omega (arith, some)) c.in-Some.ensures.value)
