use Rattle.std.proofs.Common.{◌≡◌, Ok, false}
use Rattle.std.specs.Result.{is_ok}
use Rattle.std.proofs.lemmas.Bool.{MatchBool-at_false, MatchBool-at_true}
use Rattle.kernel_boot.specs.BootFiles.{with_new_file}
use Rattle.saved_machine.proofs.MachineImage.PutFiles.{next-put, next-refused}
use Rattle.saved_machine.proofs.machine_image.files.put_files.Goals as goal

pub returns-then-not-branch : goal.returns-then-not-branch
returns-then-not-branch c =
    let f = c.file-item.result in
    let d = c.loop-file.disc in
    next-refused c.args.files.now c.requires.order c.loop-file.file-index f c.loop-file-test.true c.file-item.is d c.loop-file.invariant
    (MatchBool-at_false (with_new_file d f.name f.bytes ≡ Ok c.put_file.new.disc) (is_ok (with_new_file d f.name f.bytes) ≡ false) c.if-not-branch.true c.in_ok-put_file.ensures)

pub loop-file-preserved : goal.loop-file-preserved
loop-file-preserved c =
    let f = c.file-item.result in
    let d = c.loop-file.disc in
    next-put c.args.files.now c.requires.order c.loop-file.file-index f c.loop-file-test.true c.file-item.is d c.put_file.new.disc c.loop-file.invariant
    (MatchBool-at_true (with_new_file d f.name f.bytes ≡ Ok c.put_file.new.disc) (is_ok (with_new_file d f.name f.bytes) ≡ false) c.if-not-branch.false c.in_ok-put_file.ensures)
