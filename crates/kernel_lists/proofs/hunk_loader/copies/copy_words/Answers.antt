use Rattle.std.proofs.Common.{refl, sym, arith, subst, ◌+◌, List, ℕ}
use Rattle.word_store.specs.Row.{with_words}
use Rattle.kernel_lists.proofs.HunkLoader.CopiedWords.{CopyLeft, copy_done, copy_more, copy_some}
use Rattle.kernel_lists.proofs.hunk_loader.copies.copy_words.Goals as goal

pub loop-a-init : goal.loop-a-init
loop-a-init g c = λ words others f. record { left = words; follow = f; all = refl }

pub read_word-next-requires : goal.read_word-next-requires
read_word-next-requires g c =
    let w = c.requires in
    copy_some _ _ _ _ _ _ _ (c.loop-a.invariant w.0 w.1 w.2) c.loop-a-test.true

pub loop-a-preserved : goal.loop-a-preserved
loop-a-preserved g c = λ words others f.
    (let more = copy_more _ _ _ _ _ _ _ c.read_word-next.result (c.loop-a.invariant words others f) c.loop-a-test.true c.read_word-next.ensures in
    let P : List ℕ → Type 0 = λ s. CopyLeft (g.X.TextBytes.text c.args.text.now) s c.read_word-next.result.end (c.loop-a.a + 1) c.args.end others (with_words c.args.store.now c.args.at words) in
    subst P (sym c.set.ensures.after) more)

pub returns-clause-words : goal.returns-clause-words
returns-clause-words g c = λ words others f.
    (copy_done _ _ _ _ _ _ _ (c.loop-a.invariant words others f) (omega arith)).0

pub returns-clause-others : goal.returns-clause-others
returns-clause-others g c = λ words others f.
    (copy_done _ _ _ _ _ _ _ (c.loop-a.invariant words others f) (omega arith)).1
