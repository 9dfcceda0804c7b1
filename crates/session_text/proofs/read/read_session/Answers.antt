use Rattle.session_text.proofs.Lawful.{is_lawful}
use Rattle.session_text.proofs.LineNumbers.{is_numbered}
use Rattle.session_text.proofs.read.read_session.Goals as goal

pub returns-clause-lawful : goal.returns-clause-lawful
returns-clause-lawful c = is_lawful c.args.text.now _ c.whole_session.ensures

pub returns-clause-numbered : goal.returns-clause-numbered
returns-clause-numbered c = is_numbered c.args.text.now _ c.whole_session.ensures
