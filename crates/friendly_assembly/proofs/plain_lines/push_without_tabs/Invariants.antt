use Rattle.std.proofs.Common.{◌≡◌, ◌==◌, ◌++◌, drop, if◌then◌else◌, map}
use Rattle.friendly_assembly.proofs.plain_lines.push_without_tabs.Given as goal

abbrev pub invariant-loop-byte : goal.invariant-loop-byte
invariant-loop-byte l =
    l.text.items ++ map (λ c. (if c == 9 then 32 else c)) (drop l.byte-index l.bytes)
    ≡ l.fn.text.items ++ map (λ c. (if c == 9 then 32 else c)) l.bytes
