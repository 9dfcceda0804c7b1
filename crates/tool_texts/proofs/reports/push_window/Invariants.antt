use Rattle.std.proofs.Common.{◌≡◌, ◌++◌, drop, map}
use Rattle.tool_texts.specs.Reports.{shown_byte}
use Rattle.tool_texts.proofs.reports.push_window.Given as goal

abbrev pub invariant-loop-byte : goal.invariant-loop-byte
invariant-loop-byte l = l.text.items ++ map shown_byte (drop l.byte-index l.bytes) ≡ l.fn.text.items ++ map shown_byte l.bytes
