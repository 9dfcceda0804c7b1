use Rattle.assembly.proofs.ListingAgain.{again, printed_again}
use Rattle.assembly.proofs.listing_law.Goals as goal

pub returns-clause-again : goal.returns-clause-again
returns-clause-again c = again

pub returns-clause-printed : goal.returns-clause-printed
returns-clause-printed c = printed_again
