use Rattle.std.proofs.Common.{◌≡◌, ◌∙◌, length, ap, refl, arith}
use Rattle.kernel_lists.specs.HunkLoader.Private.Follow.{places}
use Rattle.module_text.specs.ModuleForm.{relocation_items}
use Rattle.std.specs.Prelude.{◌++◌}
use Rattle.kernel_lists.proofs.HunkLoader.CopiedWords.{read_further}
use Rattle.kernel_lists.proofs.HunkLoader.RelocationLists.{inside_same, length-relocated, list_inside, lists_done, lists_more, lists_some}
use Rattle.kernel_lists.proofs.hunk_loader.relocation.relocate.Goals as goal

pub loop-next-init : goal.loop-next-init
loop-next-init g c =
    let r = c.requires in
    record {
      all = λ lists others f. record { lists = lists; follow = f; all = refl };
      inside = record { lists = r.0; others = r.1; follow = r.2; inside = r.3 };
      size = refl;
    }

pub read_word-next-requires : goal.read_word-next-requires
read_word-next-requires g c = lists_some _ _ _ _ c.loop-next.invariant.inside.follow

pub returns-then-next-ne-RELOCATIONS-clause-words : goal.returns-then-next-ne-RELOCATIONS-clause-words
returns-then-next-ne-RELOCATIONS-clause-words g c = λ lists others f.
    (lists_done _ _ _ _ c.read_word-next.result _ _ (c.loop-next.invariant.all lists others f) c.read_word-next.ensures c.if-next-ne-RELOCATIONS.true).0

pub returns-then-next-ne-RELOCATIONS-clause-others : goal.returns-then-next-ne-RELOCATIONS-clause-others
returns-then-next-ne-RELOCATIONS-clause-others g c = λ lists others f.
    (lists_done _ _ _ _ c.read_word-next.result _ _ (c.loop-next.invariant.all lists others f) c.read_word-next.ensures c.if-next-ne-RELOCATIONS.true).1

pub relocate_by_list-place-requires : goal.relocate_by_list-place-requires
relocate_by_list-place-requires g c =
    let k = list_inside _ _ _ _ c.read_word-next.result c.loop-next.invariant.inside c.read_word-next.ensures c.if-next-ne-RELOCATIONS.false in
    (k.first.offsets, relocation_items k.first.more ++ c.loop-next.invariant.inside.others, k.first.follow, k.inside)

pub loop-next-smaller : goal.loop-next-smaller
loop-next-smaller g c =
    let text = g.X.TextBytes.text c.args.text.now in
    let r = read_further text c.loop-next.place c.read_word-next.result c.read_word-next.ensures in
    let further = c.relocate_by_list-place.ensures.further in
    omega (arith, r.0, r.1)

pub loop-next-preserved : goal.loop-next-preserved
loop-next-preserved g c =
    let text = g.X.TextBytes.text c.args.text.now in
    let inside = c.loop-next.invariant.inside in
    let k = list_inside text c.loop-next.store c.loop-next.place c.args.base c.read_word-next.result inside c.read_word-next.ensures c.if-next-ne-RELOCATIONS.false in
    let e = c.relocate_by_list-place.ensures in
    let others = relocation_items k.first.more ++ inside.others in
    let size : length c.relocate_by_list-place.new.store ≡ length c.loop-next.store
    = ap length (e.words k.first.offsets others k.first.follow) ∙ length-relocated c.args.base c.loop-next.store (places c.args.base k.first.offsets) in
    record {
      all = λ lists others f.
          lists_more _ _ _ _ _ _ c.read_word-next.result _ _ (c.loop-next.invariant.all lists others f) c.read_word-next.ensures c.if-next-ne-RELOCATIONS.false e.words e.others;
      inside = record {
        lists = k.first.more;
        others = inside.others;
        follow = record { reads = e.others k.first.offsets others k.first.follow; other = inside.follow.other };
        inside = inside_same c.loop-next.store c.relocate_by_list-place.new.store _ size k.after;
      };
      size = size ∙ c.loop-next.invariant.size;
    }
