use Rattle.std.proofs.Common.{◌≡◌, ◌∙◌, ◌-◌, ◌+◌, ℕ, List, length, get_or, refl, sym, subst, arith, length-set}
use Rattle.word_store.specs.Arithmetic.{add}
use Rattle.kernel_lists.specs.HunkLoader.Private.Follow.{places}
use Rattle.kernel_lists.specs.HunkLoader.RelocatedWords.{relocated}
use Rattle.kernel_lists.proofs.HunkLoader.CopiedWords.{read_further}
use Rattle.kernel_lists.proofs.HunkLoader.RelocationLists.{OffsetsLeft, inside_begin, inside_more, offsets_begin, offsets_done, offsets_more, offsets_some}
use Rattle.kernel_lists.proofs.hunk_loader.relocation.relocate_by_list.Goals as goal

pub read_word-count-requires : goal.read_word-count-requires
read_word-count-requires g c = offsets_some _ _ _ _ c.requires.2

pub loop-init : goal.loop-init
loop-init g c =
    let text = g.X.TextBytes.text c.args.text.now in
    let r = c.read_word-count.result in
    record {
      all = λ offsets others f. offsets_begin text c.args.store.now c.args.from c.args.base (r.word - 0) r offsets others f c.read_word-count.ensures (omega arith);
      inside = inside_begin text c.args.store.now c.args.from c.args.base (r.word - 0) r _ _ c.requires.2 c.requires.3 c.read_word-count.ensures (omega arith);
      size = refl;
      further = (read_further text c.args.from r c.read_word-count.ensures).0;
    }

pub read_word-offset-requires : goal.read_word-offset-requires
read_word-offset-requires g c = (inside_more _ _ _ _ _ (c.read_word-count.result.word - (c.loop.counter + 1)) c.loop.invariant.inside (omega arith)).some

pub loop-preserved : goal.loop-preserved
loop-preserved g c =
    let text = g.X.TextBytes.text c.args.text.now in
    let r = c.read_word-offset.result in
    let left = c.read_word-count.result.word - (c.loop.counter + 1) in
    let o = inside_more _ _ _ _ _ left c.loop.invariant.inside (omega arith) in
    let a = c.args.base + r.word in
    let size : length c.relocate_word.new.store ≡ length c.loop.store = rw c.relocate_word.ensures (length-set c.loop.store a (add (get_or c.loop.store a 0) c.args.base)) in
    record {
      all = λ offsets others f.
          (let now = c.loop.invariant.all offsets others f in
          let result = relocated c.args.base c.args.store.now (places c.args.base offsets) in
          let many = c.read_word-count.result.word - c.loop.counter in
          let more = offsets_more text c.loop.store c.loop.place c.args.base many left others result r now (omega arith) c.read_word-offset.ensures in
          let P : List ℕ → Type 0 = λ s. OffsetsLeft text s r.end c.args.base left others (relocated c.args.base c.args.store.now (places c.args.base offsets)) in
          subst P (sym c.relocate_word.ensures) more);
      inside = o.after r c.relocate_word.new.store c.read_word-offset.ensures size;
      size = size ∙ c.loop.invariant.size;
      further = let lt = (read_further text c.loop.place r c.read_word-offset.ensures).0 in omega arith;
    }

pub returns-clause-words : goal.returns-clause-words
returns-clause-words g c = λ offsets others f.
    (offsets_done _ _ _ _ _ _ _ (c.loop.invariant.all offsets others f) (omega arith)).0

pub returns-clause-others : goal.returns-clause-others
returns-clause-others g c = λ offsets others f.
    (offsets_done _ _ _ _ _ _ _ (c.loop.invariant.all offsets others f) (omega arith)).1
