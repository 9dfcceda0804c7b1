use Rattle.assembly.proofs.AssemblyText.NameLemmas.{name_is_text, ok_from_cases}
use Rattle.assembly.proofs.assembly_text.read.name_text.Goals as goal

pub unwrap-requires : goal.unwrap-requires
unwrap-requires c =
    ok_from_cases c.from_utf8.result _ _ c.from_utf8.ensures.cases (λ e h. h.0 (name_is_text c.args.name.now c.requires))
