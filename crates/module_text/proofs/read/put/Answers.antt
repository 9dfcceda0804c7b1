use Rattle.module_text.proofs.HunkLists.{hunk_begun}
use Rattle.module_text.proofs.read.put.Goals as goal

pub returns-in_ok-push-in-Length-clause-added : goal.returns-in_ok-push-in-Length-clause-added
returns-in_ok-push-in-Length-clause-added c =
    λ q. rw (c.in_ok-push-in-Length.ensures.items, c.no_words.ensures, c.in-Length.is) (hunk_begun c.args.hunks.now.items q)
