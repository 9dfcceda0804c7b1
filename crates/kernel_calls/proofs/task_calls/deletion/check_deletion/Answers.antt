use Rattle.std.proofs.Common.{◌≡◌, ◌+◌, ◌≤◌, ℕ, List, true, false, get_or, refl, sym, ap, ◌∙◌, arith}
use Rattle.kernel_calls.specs.CallAnswers.Guests.{GuestAt}
use Rattle.kernel_calls.specs.CallAnswers.Refusals.{answer_of}
use Rattle.kernel_model.specs.KernelRecord.HoldsLists.{HoldsLists}
use Rattle.kernel_model.specs.KernelRecord.Lists.{Lists}
use Rattle.kernel_model.proofs.KernelRecord.WalkedLists.{can-walk}
use Rattle.kernel_calls.specs.TaskCalls.DeleteTask.{HasEnded, has_packet_out}
use Rattle.kernel_model.specs.KernelRecord.Running.{RunsAlive}
use Rattle.kernel_calls.proofs.TaskCalls.EndTests.{alive, at-address, dead, ended, served, several, single, tests-are, waiting}
use Rattle.kernel_calls.proofs.TaskCalls.SentPackets.{out-told}
use Rattle.kernel_calls.proofs.task_calls.deletion.check_deletion.Goals as goal

has-ended : (s : List ℕ) (l : Lists) (id task : ℕ) → HoldsLists s l → RunsAlive l → (g : GuestAt l id task) → 12 ≤ get_or s (task + 4) 0 → get_or s (task + 3) 0 ≡ 0 → has_packet_out l id ≡ false
    → get_or s (task + 17) 0 ≡ 0 → HasEnded l id task
has-ended s l id task h runs g state work out single_is =
    record { guest = g; accepted = ended l id (dead s l id task h g state) (served s l id task h g work) out (single s l id task h g single_is); runs_alive = runs }

pub returns-then-field-lt-DEAD : goal.returns-then-field-lt-DEAD
returns-then-field-lt-DEAD g c = λ l k runs x.
    let s : List ℕ = c.args.store.now in
    let low : get_or s (c.args.task + 4) 0 ≡ c.field.result = sym c.field.ensures in
    ap answer_of (sym (tests-are l c.args.id c.args.task false _ _ _ _ (alive s l c.args.id c.args.task k.lists x (omega (arith, low, c.if-field-lt-DEAD.true))) refl refl refl refl
    (at-address s l c.args.id c.args.task k.lists x)))

pub returns-then-field-ne0 : goal.returns-then-field-ne0
returns-then-field-ne0 g c = λ l k runs x.
    let s : List ℕ = c.args.store.now in
    ap answer_of (sym (tests-are l c.args.id c.args.task true false _ _ _ (dead s l c.args.id c.args.task k.lists x (omega (arith, c.field.ensures, c.if-field-lt-DEAD.false)))
    (waiting s l c.args.id c.args.task k.lists x (λ none. c.if-field-ne0.true (c.field-2.ensures ∙ none))) refl refl refl
    (at-address s l c.args.id c.args.task k.lists x)))

pub has_packet_out-requires : goal.has_packet_out-requires
has_packet_out-requires g c = can-walk c.args.store.now c.requires.0 c.requires.1.lists

pub returns-then-has_packet_out : goal.returns-then-has_packet_out
returns-then-has_packet_out g c = λ l k runs x.
    let s : List ℕ = c.args.store.now in
    ap answer_of (sym (tests-are l c.args.id c.args.task true true true _ _ (dead s l c.args.id c.args.task k.lists x (omega (arith, c.field.ensures, c.if-field-lt-DEAD.false)))
    (served s l c.args.id c.args.task k.lists x (sym c.field-2.ensures ∙ c.if-field-ne0.false)) (sym (out-told s l c.args.id k.lists) ∙ sym c.has_packet_out.ensures ∙ c.if-has_packet_out.true) refl refl
    (at-address s l c.args.id c.args.task k.lists x)))

pub returns-then-field-ne0-2 : goal.returns-then-field-ne0-2
returns-then-field-ne0-2 g c = λ l k runs x.
    let s : List ℕ = c.args.store.now in
    ap answer_of (sym (tests-are l c.args.id c.args.task true true false false _ (dead s l c.args.id c.args.task k.lists x (omega (arith, c.field.ensures, c.if-field-lt-DEAD.false)))
    (served s l c.args.id c.args.task k.lists x (sym c.field-2.ensures ∙ c.if-field-ne0.false)) (sym (out-told s l c.args.id k.lists) ∙ sym c.has_packet_out.ensures ∙ c.if-has_packet_out.false)
    (several s l c.args.id c.args.task k.lists x (λ none. c.if-field-ne0-2.true (c.field-3.ensures ∙ none))) refl
    (at-address s l c.args.id c.args.task k.lists x)))

pub has_packet_inside-requires : goal.has_packet_inside-requires
has_packet_inside-requires g c =
    let s : List ℕ = c.args.store.now in
    let l : Lists = c.requires.0 in
    let k = c.requires.1 in (
      l,
      c.args.id,
      k,
      has-ended s l c.args.id c.args.task k.lists c.requires.2 c.requires.3 (omega (arith, c.field.ensures, c.if-field-lt-DEAD.false)) (sym c.field-2.ensures ∙ c.if-field-ne0.false)
          (sym (out-told s l c.args.id k.lists) ∙ sym c.has_packet_out.ensures ∙ c.if-has_packet_out.false) (sym c.field-3.ensures ∙ c.if-field-ne0-2.false),
    )

pub returns-then-has_packet_inside : goal.returns-then-has_packet_inside
returns-then-has_packet_inside g c = λ l k runs x.
    let s : List ℕ = c.args.store.now in
    let out = sym (out-told s l c.args.id k.lists) ∙ sym c.has_packet_out.ensures ∙ c.if-has_packet_out.false in
    let state : 12 ≤ get_or s (c.args.task + 4) 0 = omega (arith, c.field.ensures, c.if-field-lt-DEAD.false) in
    let work = sym c.field-2.ensures ∙ c.if-field-ne0.false in
    let alone = sym c.field-3.ensures ∙ c.if-field-ne0-2.false in
    ap answer_of (sym (tests-are l c.args.id c.args.task true true false true true (dead s l c.args.id c.args.task k.lists x state) (served s l c.args.id c.args.task k.lists x work) out
    (single s l c.args.id c.args.task k.lists x alone)
    (sym (c.has_packet_inside.ensures l c.args.id k (has-ended s l c.args.id c.args.task k.lists runs x state work out alone)) ∙ c.if-has_packet_inside.true)
    (at-address s l c.args.id c.args.task k.lists x)))

pub returns : goal.returns
returns g c = λ l k runs x.
    let s : List ℕ = c.args.store.now in
    let out = sym (out-told s l c.args.id k.lists) ∙ sym c.has_packet_out.ensures ∙ c.if-has_packet_out.false in
    let state : 12 ≤ get_or s (c.args.task + 4) 0 = omega (arith, c.field.ensures, c.if-field-lt-DEAD.false) in
    let work = sym c.field-2.ensures ∙ c.if-field-ne0.false in
    let alone = sym c.field-3.ensures ∙ c.if-field-ne0-2.false in
    ap answer_of (sym (tests-are l c.args.id c.args.task true true false true false (dead s l c.args.id c.args.task k.lists x state) (served s l c.args.id c.args.task k.lists x work) out
    (single s l c.args.id c.args.task k.lists x alone)
    (sym (c.has_packet_inside.ensures l c.args.id k (has-ended s l c.args.id c.args.task k.lists runs x state work out alone)) ∙ c.if-has_packet_inside.false)
    (at-address s l c.args.id c.args.task k.lists x)))
