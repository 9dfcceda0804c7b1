use Rattle.std.proofs.Common.{Err, [], ◌∙◌, ap}
use Rattle.std.proofs.lemmas.Result.{err_from_is_err_and}
use Rattle.ram_disc.specs.DiscCalls.{after_rename}
use Rattle.resident_tasks.specs.FileHandler.FileRequests.{answer_with, by_silent_call, handled}
use Rattle.resident_tasks.proofs.FileHandler.NamedFiles.{both-named}
use Rattle.resident_tasks.proofs.file_handler.files.rename.Goals as goal

pub returns-in_err-rename : goal.returns-in_err-rename
returns-in_err-rename c =
    let p = err_from_is_err_and c.from_residual-in_err-rename.result c.from_residual-in_err-rename.ensures.1 in
    let is = p.1 ∙ ap Err p.2 in
    (λ k. handled c.rename.new.self (is k) [])
    ∙ ((λ k. handled (c.in_err-rename.ensures.disc k) (answer_with 0 (c.in_err-rename.ensures.answer k)) [])
    ∙ both-named c.args.store.now c.args.disc.now c.args.request.first c.args.request.second c.in_ok-name.name c.in_ok-new_name.new_name
    (λ name other. by_silent_call 0 (after_rename c.args.disc.now name other)) c.in_ok-name.ensures c.in_ok-new_name.ensures)

pub returns : goal.returns
returns c =
    (λ k. handled (c.in_ok-rename.ensures.disc k) (answer_with 0 (c.in_ok-rename.ensures.answer k)) [])
    ∙ both-named c.args.store.now c.args.disc.now c.args.request.first c.args.request.second c.in_ok-name.name c.in_ok-new_name.new_name
    (λ name other. by_silent_call 0 (after_rename c.args.disc.now name other)) c.in_ok-name.ensures c.in_ok-new_name.ensures
