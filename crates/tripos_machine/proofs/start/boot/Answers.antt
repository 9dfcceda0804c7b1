use Rattle.std.proofs.Common.{◌∙◌, ap, refl}
use Rattle.kernel_machine.specs.MachineBoot.Boot.{HasKernel}
use Rattle.tripos_machine.specs.Boot.{bare_booted, kernel_booted}
use Rattle.tripos_machine.specs.State.State.{Bare, Full}
use Rattle.tripos_machine.specs.Step.{of_kernel, quietly}
use Rattle.kernel_machine.proofs.MachineBoot.BootedKernels.{booted-events}
use Rattle.tripos_machine.proofs.BootedSteps.{all-to-come, bare-goes, bare-no-steps, boot-bare, boot-full, booted-steps}
use Rattle.bare_machine.proofs.WordCounts.{any-size}
use Rattle.tripos_machine.proofs.start.boot.Goals as goal

pub boot-requires : goal.boot-requires
boot-requires c = any-size c.args.session.now.version c.args.session.now.store c.requires.store

pub returns-then-session : goal.returns-then-session
returns-then-session c =
    let m = c.in_ok-machine.machine.state in (
      quietly (Bare m),
      boot-bare c.args.session.now c.if-session.true ∙ ap bare_booted c.in_ok-machine.ensures.state,
      record {
        state = refl;
        output = c.in_ok-machine.ensures.output;
        events = refl;
        keys = refl;
        steps = bare-no-steps c.args.session.now m c.in_ok-machine.ensures.state;
        goes = bare-goes c.args.session.now m c.in_ok-machine.ensures.state;
      },
    )

pub returns : goal.returns
returns c =
    let s = c.args.session.now in
    let h : HasKernel s = record { lawful = c.requires; full = c.if-session.false } in
    let (x, is, booted) = c.in_ok-boot.ensures.boots in
    let kernel = c.from_parts-machine.ensures.kernel x.kernel booted.represents booted.valid booted.goes in (
      of_kernel x,
      boot-full s c.if-session.false ∙ ap kernel_booted is,
      record {
        state = ap (λ k. Full k) kernel;
        output = c.from_parts-machine.ensures.output;
        events = booted-events s h x is;
        keys = c.from_parts-machine.ensures.keys ∙ all-to-come _ x.kernel booted.represents c.in_ok-boot.ensures.keys;
        steps = booted-steps s h x is;
        goes = booted.goes;
      },
    )
