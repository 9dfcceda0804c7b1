use Rattle.std.proofs.Common.{◌+◌, ap, ◌∙◌}
use Rattle.debugger.specs.UndoJournal.Journals.{Journal, noted}
use Rattle.tripos_machine.specs.State.{words_of}
use Rattle.debugger.specs.MachineHistory.Histories.{with_files}
use Rattle.debugger.specs.MachineHistory.Pasts.{HistoryView, Now, files_of, remembered}
use Rattle.debugger.specs.declared.machine_history.moments.Moment.{Moment}
use Rattle.debugger.proofs.MachineHistory.SteppedHistories.{IsStepped, is-stepped, roomy-words}
use Rattle.debugger.proofs.machine_history.histories.History.step.Goals as goal

pub note_step-requires-clause-words : goal.note_step-requires-clause-words
note_step-requires-clause-words c =
    let now = ap (λ (v : HistoryView). v.now) c.self.view_is ∙ c.requires.now in
    ap (λ (j : Journal Moment). j.words) c.make_room.ensures ∙ roomy-words c.is_file_turn-may_change.result c.self.inside.files c.self.inside.steps c.self.inside.journal ∙ ap (λ (n : Now). n.words) now

-- the history once the step was noted
left : (c : goal.After-keep_files) → IsStepped c.self.inside (record { journal = c.note_step.new.journal; files = c.keep_files.new.files; steps = c.self.inside.steps + 1; keys = c.self.inside.keys }) c.args.machine.now.state c.note_step.new.machine.state c.note_step.new.machine.keys
left c =
    let now = ap (λ (v : HistoryView). v.now) c.self.view_is ∙ c.requires.now in
    let words = ap words_of c.note_step.ensures.state in
    is-stepped c.self.inside c.self.invariant c.args.machine.now.state c.args.machine.now.keys now c.requires.goes c.moment_of-moment.result c.moment_of-moment.ensures c.is_file_turn-may_change.result c.is_file_turn-may_change.ensures
    c.note_step.new.journal c.keep_files.new.files c.note_step.new.machine.state c.note_step.new.machine.keys c.note_step.ensures.state c.note_step.ensures.keys
    (c.note_step.ensures.journal ∙ (λ i. noted (c.make_room.ensures i) (words i) c.moment_of-moment.result))
    (c.keep_files.ensures ∙ ap (λ t. with_files c.is_file_turn-may_change.result c.self.inside.files (c.self.inside.steps + 1) (files_of t)) c.note_step.ensures.state)

pub invariant_of-self : goal.invariant_of-self
invariant_of-self c = (left c).history

pub returns-clause-past : goal.returns-clause-past
returns-clause-past c = (left c).past ∙ ap (λ (v : HistoryView). remembered v.past c.args.machine.now.state c.note_step.new.machine.state) c.self.view_is

pub returns-clause-now : goal.returns-clause-now
returns-clause-now c = (left c).now
