use Rattle.std.proofs.Common.{◌≡◌, ◌∙◌, Ok, sym, ap}
use Rattle.session_text.specs.declared.sessions.Session.{Session}
use Rattle.kernel_model.specs.KernelRecord.Kernel.{Kernel}
use Rattle.kernel_machine.specs.MachineBoot.Boot.{first_kernel, started, with_lines}
use Rattle.kernel_machine.proofs.MachineBoot.BegunKernels.{begun-dispatches, boot-ok, boot-refused, first-begun, first-loads, lines-begun}
use Rattle.kernel_machine.proofs.MachineBoot.BootedKernels.{booted-full, booted-goes}
use Rattle.kernel_machine.proofs.MachineBoot.LoadedParts.{reached-kernel}
use Rattle.kernel_machine.proofs.machine_boot.start.boot.Goals as goal

pub put_lines-requires : goal.put_lines-requires
put_lines-requires c =
    let s : Session = c.args.session.now in
    (first_kernel s, c.in_ok-parts.ensures.represents, first-loads s c.requires c.as_slice.result.now c.as_slice.ensures)

pub returns-in-Err-clause-boots : goal.returns-in-Err-clause-boots
returns-in-Err-clause-boots c =
    let s : Session = c.args.session.now in
    let loads = first-loads s c.requires c.as_slice.result.now c.as_slice.ensures in
    boot-refused s c.in-Err.refusal (ap (λ ls. with_lines ls (first_kernel s)) (sym c.as_slice.ensures) ∙ c.in-Err.ensures.reached (first_kernel s) c.in_ok-parts.ensures.represents loads)

pub dispatch-requires : goal.dispatch-requires
dispatch-requires c =
    let s : Session = c.args.session.now in
    let k : Kernel = first_kernel s in
    let loads = first-loads s c.requires c.as_slice.result.now c.as_slice.ensures in
    let loaded = reached-kernel c.put_lines.new.parts c.put_lines.result (with_lines c.as_slice.result.now k) c.in_default.not-Err (c.put_lines.ensures.reached k c.in_ok-parts.ensures.represents loads) in
    let is : with_lines s.lines k ≡ Ok loaded.0 = ap (λ ls. with_lines ls k) (sym c.as_slice.ensures) ∙ loaded.1 in
    (loaded.0, loaded.2, begun-dispatches s c.requires loaded.0 (lines-begun s c.requires k loaded.0 (first-begun s) is))

pub returns-clause-boots : goal.returns-clause-boots
returns-clause-boots c =
    let s : Session = c.args.session.now in
    let k : Kernel = first_kernel s in
    let loads = first-loads s c.requires c.as_slice.result.now c.as_slice.ensures in
    let loaded = reached-kernel c.put_lines.new.parts c.put_lines.result (with_lines c.as_slice.result.now k) c.in_default.not-Err (c.put_lines.ensures.reached k c.in_ok-parts.ensures.represents loads) in
    let is : with_lines s.lines k ≡ Ok loaded.0 = ap (λ ls. with_lines ls k) (sym c.as_slice.ensures) ∙ loaded.1 in
    let begun = lines-begun s c.requires k loaded.0 (first-begun s) is in
    let represents = c.dispatch.ensures.represents loaded.0 loaded.2 (begun-dispatches s c.requires loaded.0 begun) in (
      started loaded.0,
      boot-ok s loaded.0 is,
      record {
        represents = represents;
        valid = booted-full s c.requires loaded.0 begun represents.keeper.lists.valid represents.plain;
        goes = booted-goes s c.requires loaded.0 begun;
      },
    )
