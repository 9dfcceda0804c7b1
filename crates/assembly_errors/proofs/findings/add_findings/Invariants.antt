use Rattle.std.proofs.Common.{◌≡◌, ◌++◌, drop}
use Rattle.std.specs.List.{filter_map}
use Rattle.assembly.specs.AssemblyText.KeptLabels.{table_of}
use Rattle.assembly_errors.specs.Findings.{finding_of}
use Rattle.assembly_errors.proofs.findings.add_findings.Given as goal

abbrev pub invariant-loop-lead : goal.invariant-loop-lead
invariant-loop-lead l =
    l.found.items ++ filter_map (finding_of (table_of l.labels) l.is_right) (drop l.lead-index l.leads)
    ≡ l.fn.found.items ++ filter_map (finding_of (table_of l.labels) l.is_right) l.leads
