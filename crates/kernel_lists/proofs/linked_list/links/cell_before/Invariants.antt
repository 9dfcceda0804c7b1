use Rattle.std.proofs.Common.{◌≡◌, ◌+◌, ◌<◌, length}
use Rattle.std.specs.List.{AllByRecursion}
use Rattle.kernel_lists.specs.LinkedList.Chain.{list_at}
use Rattle.kernel_lists.specs.LinkedList.Places.{cell_before, has}
use Rattle.kernel_lists.proofs.linked_list.links.cell_before.Given as goal

abbrev pub invariant-loop-q : goal.invariant-loop-q
invariant-loop-q l = record {
  found : has l.p (list_at l.store (λ q. q + l.offset) l.head) ≡ has l.p l.q-iterator;
  before : cell_before (λ q. q + l.offset) l.p l.head (list_at l.store (λ q. q + l.offset) l.head)
      ≡ cell_before (λ q. q + l.offset) l.p l.cell l.q-iterator;
  inside : AllByRecursion (λ q. q + l.offset < length l.store) l.q-iterator;
}
