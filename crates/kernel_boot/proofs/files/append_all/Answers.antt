use Rattle.std.proofs.Common.{◌∙◌, List, ℕ, take, sym, subst, arith, Result, Ok, Err}
use Rattle.std.proofs.lemmas.Result.{err_from_is_err_and}
use Rattle.kernel_boot.specs.BootFiles.{IsAppended, writing}
use Rattle.kernel_boot.proofs.WrittenFiles.{appended-piece, no-room}
use Rattle.kernel_boot.proofs.files.append_all.Goals as goal

pub returns-in_err-append : goal.returns-in_err-append
returns-in_err-append c = λ others name is.
    let bytes : List ℕ = c.args.bytes.now in
    let before = c.loop-done.invariant.written others name is in
    let p = err_from_is_err_and c.from_residual.result c.from_residual.ensures.1 in
    let code : ℕ = c.in_err-append.field-0.0 in
    let piece : IsAppended c.append.new.self (Err code) (writing others name (take c.min-end.result bytes)) =
    appended-piece others name bytes c.loop-done.done c.min-end.result c.args.stream c.loop-done.disc c.append.new.self (Err code) (omega arith) c.requires.first before.0 c.in_err-append.ensures.answer c.in_err-append.ensures.disc in
    subst (λ (r : Result (Unit {0}) ℕ). IsAppended c.append.new.self r (writing others name bytes)) (sym p.1) (p.2 ∙ piece.0, no-room others name bytes c.min-end.result piece.1)

pub loop-done-preserved : goal.loop-done-preserved
loop-done-preserved c = record {
  within = omega arith;
  written = λ others name is.
      appended-piece others name c.args.bytes.now c.loop-done.done c.min-end.result c.args.stream c.loop-done.disc c.append.new.self (Ok tt) (omega arith) c.requires.first
      (c.loop-done.invariant.written others name is).0 c.in_ok-append.ensures.answer c.in_ok-append.ensures.disc;
}
