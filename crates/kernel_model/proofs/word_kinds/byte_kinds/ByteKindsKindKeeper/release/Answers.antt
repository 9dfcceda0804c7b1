use Rattle.kernel_model.proofs.WordKinds.Marks.{released-marks}
use Rattle.kernel_model.proofs.word_kinds.byte_kinds.ByteKindsKindKeeper.release.Goals as goal

pub returns-clause-tells : goal.returns-clause-tells
returns-clause-tells c = λ before after known apart all. released-marks c.args.self.now c.set.new.self c.args.a c.args.n before after known c.set.ensures apart all
