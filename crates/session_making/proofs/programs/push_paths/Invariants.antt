use Rattle.std.proofs.Common.{◌≡◌, ◌∷◌, ◌++◌, drop}
use Rattle.std.specs.List.{flat_map}
use Rattle.session_making.proofs.programs.push_paths.Given as goal

abbrev pub invariant-loop-file : goal.invariant-loop-file
invariant-loop-file l = l.paths.items ++ flat_map (λ file. 32 ∷ file.word) (drop l.file-index l.files) ≡ l.fn.paths.items ++ flat_map (λ file. 32 ∷ file.word) l.files
