use Rattle.std.proofs.Common.{◌≡◌, ◌∙◌, ℕ, sym, ap}
use Rattle.kernel_lists.specs.GetvecChain.Run.{first_run, need}
use Rattle.kernel_lists.specs.GetvecChain.Tiling.{blocks_in}
use Rattle.kernel_lists.specs.HunkLoader.ModuleRow.{last_word}
use Rattle.kernel_lists.proofs.HunkLoader.TextModules.{module_found}
use Rattle.kernel_lists.proofs.HunkLoader.LoadCall.{done, taken_for}
use Rattle.kernel_lists.proofs.hunk_loader.calls.load.Goals as goal

pub returns-in_default-clause-refused : goal.returns-in_default-clause-refused
returns-in_default-clause-refused g c =
    let f = module_found _ _ (sym c.in-Ok.ensures) in
    let size : last_word f.hunks.hunks ≡ c.last_word.result = sym (c.last_word.ensures ∙ f.words) in
    (f.hunks, f.is, ap (λ (u : ℕ). first_run (need u) (blocks_in c.args.store.now)) size ∙ c.in_default.ensures.no_room)

pub place_module-requires : goal.place_module-requires
place_module-requires g c =
    let k = taken_for _ _ _ _ _ _ c.requires.tiled c.in-Ok.ensures c.last_word.ensures c.in-Ok-take.ensures.taken in
    (k.found.hunks, k.fits)

pub returns-clause-loaded : goal.returns-clause-loaded
returns-clause-loaded g c =
    let k = taken_for _ _ _ _ _ _ c.requires.tiled c.in-Ok.ensures c.last_word.ensures c.in-Ok-take.ensures.taken in
    (done _ _ _ _ _ _ _ _ c.requires k c.root-link.ensures (c.place_module.ensures k.found.hunks k.fits) c.set_root.ensures).loaded

pub returns-clause-first : goal.returns-clause-first
returns-clause-first g c =
    let k = taken_for _ _ _ _ _ _ c.requires.tiled c.in-Ok.ensures c.last_word.ensures c.in-Ok-take.ensures.taken in
    (done _ _ _ _ _ _ _ _ c.requires k c.root-link.ensures (c.place_module.ensures k.found.hunks k.fits) c.set_root.ensures).modules

pub returns-clause-modules : goal.returns-clause-modules
returns-clause-modules g c =
    let k = taken_for _ _ _ _ _ _ c.requires.tiled c.in-Ok.ensures c.last_word.ensures c.in-Ok-take.ensures.taken in
    (done _ _ _ _ _ _ _ _ c.requires k c.root-link.ensures (c.place_module.ensures k.found.hunks k.fits) c.set_root.ensures).valid
