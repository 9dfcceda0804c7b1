use Rattle.std.proofs.Common.{◌∙◌, ℕ, List, refl, sym, ap, subst, false, true, Result, Ok, Err}
use Rattle.std.proofs.lemmas.Result.{err_from_is_err_and}
use Rattle.ram_disc.specs.DiscCalls.{after_close}
use Rattle.kernel_boot.specs.BootFiles.{IsAppended, IsNewDisc, with_new_file, writing}
use Rattle.kernel_boot.proofs.NewFiles.{has_file-size, new-closed, new-full, new-there, opened}
use Rattle.kernel_boot.proofs.WrittenFiles.{sectors-empty}
use Rattle.kernel_boot.proofs.files.load_file.Goals as goal

pub returns-then-is_some : goal.returns-then-is_some
returns-then-is_some c =
    new-there c.args.disc.now c.args.name.now c.requires c.args.bytes.now (has_file-size c.args.disc.now c.args.name.now c.size.result true c.size.ensures.value (sym c.is_some.ensures ∙ c.if-is_some.true))

pub append_all-requires-clause-empty : goal.append_all-requires-clause-empty
append_all-requires-clause-empty c =
    let d = c.args.disc.now in
    let name : List ℕ = c.args.name.now in
    let away = has_file-size d name c.size.result false c.size.ensures.value (sym c.is_some.ensures ∙ c.if-is_some.false) in
    let there = opened d name c.requires c.open_write.new.self (Ok c.in_ok-stream.stream) c.in_ok-stream.stream away c.in_ok-stream.ensures.answer c.in_ok-stream.ensures.disc refl in
    (d.files, name, there.1, sectors-empty name d.files c.size.ensures.valid.room)

pub append_all-requires-clause-first : goal.append_all-requires-clause-first
append_all-requires-clause-first c =
    let d = c.args.disc.now in
    let name : List ℕ = c.args.name.now in
    let away = has_file-size d name c.size.result false c.size.ensures.value (sym c.is_some.ensures ∙ c.if-is_some.false) in
    (opened d name c.requires c.open_write.new.self (Ok c.in_ok-stream.stream) c.in_ok-stream.stream away c.in_ok-stream.ensures.answer c.in_ok-stream.ensures.disc refl).0

pub returns-in_err-append_all : goal.returns-in_err-append_all
returns-in_err-append_all c =
    let d = c.args.disc.now in
    let name : List ℕ = c.args.name.now in
    let bytes : List ℕ = c.args.bytes.now in
    let away = has_file-size d name c.size.result false c.size.ensures.value (sym c.is_some.ensures ∙ c.if-is_some.false) in
    let there = opened d name c.requires c.open_write.new.self (Ok c.in_ok-stream.stream) c.in_ok-stream.stream away c.in_ok-stream.ensures.answer c.in_ok-stream.ensures.disc refl in
    let p = err_from_is_err_and c.from_residual-in_err-append_all.result c.from_residual-in_err-append_all.ensures.1 in
    let full : IsAppended c.append_all.new.disc (Err c.in_err-append_all.field-0.0) (writing d.files name bytes) = c.in_err-append_all.ensures d.files name there.1 in
    subst (λ (r : Result (Unit {0}) ℕ). IsNewDisc c.append_all.new.disc r (with_new_file d name bytes)) (sym p.1)
    (new-full d name c.requires bytes away there.2 full.1 ∙ ap Err (sym (p.2 ∙ full.0)))

pub returns : goal.returns
returns c =
    let d = c.args.disc.now in
    let name : List ℕ = c.args.name.now in
    let bytes : List ℕ = c.args.bytes.now in
    let away = has_file-size d name c.size.result false c.size.ensures.value (sym c.is_some.ensures ∙ c.if-is_some.false) in
    let there = opened d name c.requires c.open_write.new.self (Ok c.in_ok-stream.stream) c.in_ok-stream.stream away c.in_ok-stream.ensures.answer c.in_ok-stream.ensures.disc refl in
    let whole : IsAppended c.append_all.new.disc (Ok tt) (writing d.files name bytes) = c.in_ok-append_all.ensures d.files name there.1 in
    new-closed d name c.requires bytes c.append_all.new.disc c.close.new.self c.close.result away there.2 whole.1 whole.0
    (c.close.ensures.answer ∙ ap (λ k. (after_close c.append_all.new.disc k).answer) there.0)
    (c.close.ensures.disc ∙ ap (λ k. (after_close c.append_all.new.disc k).disc) there.0)
