use Rattle.std.proofs.Common.{◌≡◌, ap, length, rules, ◌∙◌}
use Rattle.kernel_model.specs.WordKinds.ByteMap.{is_marked}
use Rattle.kernel_model.proofs.WordKinds.Marks.{none-marked, shown-known}
use Rattle.kernel_model.proofs.word_kinds.byte_kinds.ByteKinds.rebuild.Goals as goal

pub returns-clause-marks : goal.returns-clause-marks
returns-clause-marks c = λ known l is size.
    let empty = c.fill.ensures.items (λ y e. e) in
    let same : length c.args.self.now ≡ length c.fill.new.self.items = search rules in
    shown-known c.fill.new.self.items c.show_kernel.new.visitor c.args.store.now known l (λ a. ap (λ marks. is_marked marks a) empty ∙ none-marked _ a) c.show_kernel.ensures is (size ∙ same)
