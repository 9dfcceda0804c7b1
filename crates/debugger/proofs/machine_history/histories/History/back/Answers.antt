use Rattle.std.proofs.Common.{◌≡◌, ℕ, zero, suc, ◌<◌, ◌≤◌, length, min, sym, ap, ◌∙◌, arith}
use Rattle.tripos_machine.specs.declared.parts.Parts.TheVariants.{Bare as BareMachine, Full as FullMachine}
use Rattle.debugger.specs.MachineHistory.Pasts.{HistoryView, Now, now_of}
use Rattle.debugger.proofs.MachineHistory.ReturnedParts.{HasGone, bare-returned, come-before, full-returned, has-gone, last-before, walk-before, words-before}
use Rattle.debugger.proofs.machine_history.histories.History.back.Goals as goal
use Rattle.debugger.proofs.machine_history.histories.History.back.Goals.{in-Bare, in-Full}

not-none : (n : ℕ) → (n ≡ 0 → ⊥) → 0 < n
not-none zero other = absurd (other (omega arith))
not-none (suc n) other = omega arith

-- ---- a machine without a kernel

pub invariant_of-self : goal.invariant_of-self
invariant_of-self c =
    let h = c.self.inside in
    let few : c.min-n.result ≤ length h.journal.past = omega (arith, c.min-n.ensures, c.len.ensures) in
    let seen = ap (λ (v : HistoryView). v.now) c.self.view_is ∙ c.requires in
    (bare-returned h c.self.invariant c.min-n.result (not-none c.min-n.result c.if-n-eq0.false) few c.args.machine.state c.in-Bare.parts c.bare_back.new.parts c.bare_back.new.journal c.args.machine.keys c.in-Bare.ensures.represents c.in-Bare.ensures.keys seen
    c.bare_back.ensures.journal c.bare_back.ensures.parts).history

-- ---- a machine with one

pub full_back-requires-clause-words : goal.full_back-requires-clause-words
full_back-requires-clause-words c =
    let h = c.self.inside in
    let few : c.min-n.result ≤ length h.journal.past = omega (arith, c.min-n.ensures, c.len.ensures) in
    let seen = ap (λ (v : HistoryView). v.now) c.self.view_is ∙ c.requires in
    words-before h c.self.invariant c.min-n.result (not-none c.min-n.result c.if-n-eq0.false) few c.args.machine.state c.in-Full.parts c.args.machine.keys c.in-Full.ensures.represents seen c.in-Full.ensures.keys

pub full_back-requires-clause-walk : goal.full_back-requires-clause-walk
full_back-requires-clause-walk c =
    let h = c.self.inside in
    let few : c.min-n.result ≤ length h.journal.past = omega (arith, c.min-n.ensures, c.len.ensures) in
    let seen = ap (λ (v : HistoryView). v.now) c.self.view_is ∙ c.requires in
    walk-before h c.self.invariant c.min-n.result (not-none c.min-n.result c.if-n-eq0.false) few c.args.machine.state c.in-Full.parts c.args.machine.keys c.in-Full.ensures.represents seen c.in-Full.ensures.keys

pub full_back-requires-clause-last : goal.full_back-requires-clause-last
full_back-requires-clause-last c =
    let h = c.self.inside in
    let few : c.min-n.result ≤ length h.journal.past = omega (arith, c.min-n.ensures, c.len.ensures) in
    let seen = ap (λ (v : HistoryView). v.now) c.self.view_is ∙ c.requires in
    last-before h c.self.invariant c.min-n.result (not-none c.min-n.result c.if-n-eq0.false) few c.args.machine.state c.in-Full.parts c.args.machine.keys c.in-Full.ensures.represents seen c.in-Full.ensures.keys

pub full_back-requires-clause-come : goal.full_back-requires-clause-come
full_back-requires-clause-come c =
    let h = c.self.inside in
    let few : c.min-n.result ≤ length h.journal.past = omega (arith, c.min-n.ensures, c.len.ensures) in
    let seen = ap (λ (v : HistoryView). v.now) c.self.view_is ∙ c.requires in
    come-before h c.self.invariant c.min-n.result (not-none c.min-n.result c.if-n-eq0.false) few c.args.machine.state c.in-Full.parts c.args.machine.keys c.in-Full.ensures.represents seen c.in-Full.ensures.keys

pub invariant_of-self-in-Full : goal.invariant_of-self-in-Full
invariant_of-self-in-Full c =
    let h = c.self.inside in
    let few : c.min-n.result ≤ length h.journal.past = omega (arith, c.min-n.ensures, c.len.ensures) in
    let seen = ap (λ (v : HistoryView). v.now) c.self.view_is ∙ c.requires in
    (full-returned h c.self.invariant c.min-n.result (not-none c.min-n.result c.if-n-eq0.false) few c.args.machine.state c.in-Full.parts c.args.machine.keys c.in-Full.ensures.represents seen c.in-Full.ensures.keys c.full_back.new.parts c.full_back.new.journal
    c.full_back.new.files c.full_back.ensures.journal c.full_back.ensures.files c.full_back.ensures.parts c.full_back.ensures.size c.full_back.ensures.marks).history

-- ---- either

gone : (c : goal.Joined-into_parts) → HasGone c.args.self.now c.match-into_parts.self c.match-into_parts.parts c.args.n c.args.machine.state c.args.machine.keys
gone c =
    let h = c.self.inside in
    let few : c.min-n.result ≤ length h.journal.past = omega (arith, c.min-n.ensures, c.len.ensures) in
    let seen = ap (λ (v : HistoryView). v.now) c.self.view_is ∙ c.requires in
    let count = c.min-n.ensures ∙ ap (min c.args.n) c.len.ensures in
    let same = ap (λ (x : Now). x.keys) seen in
    elim c.match-into_parts.branch [
      | in-Bare w ↦
          has-gone h _ (BareMachine w.bare_back.new.parts) c.match-into_parts.parts c.args.n c.min-n.result c.args.machine.state c.args.machine.keys c.args.self.now c.match-into_parts.self
          (bare-returned h c.self.invariant c.min-n.result (not-none c.min-n.result c.if-n-eq0.false) few c.args.machine.state w.in-Bare.parts w.bare_back.new.parts w.bare_back.new.journal c.args.machine.keys w.in-Bare.ensures.represents w.in-Bare.ensures.keys
          seen w.bare_back.ensures.journal w.bare_back.ensures.parts)
          count c.self.view_is same w.self-is w.parts-is
      | in-Full w ↦
          has-gone h _ (FullMachine w.full_back.new.parts) c.match-into_parts.parts c.args.n c.min-n.result c.args.machine.state c.args.machine.keys c.args.self.now c.match-into_parts.self
          (full-returned h c.self.invariant c.min-n.result (not-none c.min-n.result c.if-n-eq0.false) few c.args.machine.state w.in-Full.parts c.args.machine.keys w.in-Full.ensures.represents seen w.in-Full.ensures.keys w.full_back.new.parts
          w.full_back.new.journal w.full_back.new.files w.full_back.ensures.journal w.full_back.ensures.files w.full_back.ensures.parts w.full_back.ensures.size w.full_back.ensures.marks)
          count c.self.view_is same w.self-is w.parts-is
    ]

pub from_parts-requires : goal.from_parts-requires
from_parts-requires c = let r = gone c in (_, r.represents, r.sound, r.goes_on)

pub returns-clause-state : goal.returns-clause-state
returns-clause-state c = let r = gone c.before in c.from_parts.ensures.state _ r.represents r.sound r.goes_on

pub returns-clause-past : goal.returns-clause-past
returns-clause-past c = (gone c.before).past

pub returns-clause-now : goal.returns-clause-now
returns-clause-now c =
    let r = gone c.before in
    r.now_is ∙ (λ i. now_of (sym (c.from_parts.ensures.state _ r.represents r.sound r.goes_on) i) (sym (c.from_parts.ensures.keys ∙ r.keys_are) i))

pub returns-clause-keys : goal.returns-clause-keys
returns-clause-keys c = c.from_parts.ensures.keys ∙ (gone c.before).keys_are
