use Rattle.std.proofs.Common.{ap, false, length, sym, ◌∙◌}
use Rattle.std.proofs.lemmas.List.{length-replicate}
use Rattle.kernel_model.specs.WordKinds.ByteMap.{is_marked}
use Rattle.kernel_model.proofs.WordKinds.Marks.{none-marked, shown-known}
use Rattle.kernel_model.proofs.word_kinds.byte_kinds.ByteKinds.of_store.Goals as goal

pub returns-clause-size : goal.returns-clause-size
returns-clause-size c = c.show_kernel.ensures.size ∙ ap length c.in_ok-kinds.ensures ∙ length-replicate c.size.result false ∙ c.size.ensures

pub returns-clause-marks : goal.returns-clause-marks
returns-clause-marks c known l is =
    let none = c.in_ok-kinds.ensures in
    shown-known c.in_ok-kinds.kinds c.show_kernel.new.visitor c.args.store.now known l (λ a. ap (λ marks. is_marked marks a) none ∙ none-marked _ a) c.show_kernel.ensures is
    (sym (ap length none ∙ length-replicate c.size.result false ∙ c.size.ensures))
