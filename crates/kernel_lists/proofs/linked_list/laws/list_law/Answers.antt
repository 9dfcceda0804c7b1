use Rattle.kernel_lists.proofs.LinkedList.Chains.{list_at-is}
use Rattle.kernel_lists.proofs.linked_list.laws.list_law.Goals as goal

pub returns : goal.returns
returns c = list_at-is
