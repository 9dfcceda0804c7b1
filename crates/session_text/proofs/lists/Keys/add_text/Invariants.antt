use Rattle.std.proofs.Common.{◌≡◌, ◌++◌, map, take}
use Rattle.session_text.proofs.lists.Keys.add_text.Given as goal

abbrev pub invariant-loop-byte : goal.invariant-loop-byte
invariant-loop-byte l = l.self-inside.list.items ≡ l.fn.self ++ map (λ c. (l.step, c)) (take l.byte-index l.text)
