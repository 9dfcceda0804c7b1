use Rattle.std.proofs.Common.{◌≡◌, ℕ, Bool, false, List, [], Option, length, refl, sym, ap, ◌∙◌, subst}
use Rattle.ram_disc.specs.Disc.{Disc, empty_disc}
use Rattle.session_text.specs.declared.sessions.Session.{Session}
use Rattle.kernel_machine.specs.RunningMachine.Script.{KeyScript, still_to_come}
use Rattle.kernel_model.specs.KernelRecord.Kernel.{Pipe}
use Rattle.kernel_model.specs.KernelRecord.Lists.{Lists}
use Rattle.kernel_model.specs.KernelRecord.Pipes.{no_pipes}
use Rattle.kernel_model.proofs.KernelRecord.WalkedLists.{can-walk}
use Rattle.kernel_model.specs.WordKinds.ByteMap.{MarksAll}
use Rattle.kernel_model.specs.WordKinds.Keeper.{IsStoreOf}
use Rattle.kernel_machine.specs.MachineBoot.Boot.{first_lists}
use Rattle.kernel_machine.proofs.MachineBoot.FirstParts.{made-changed, made-ok, made-represents}
use Rattle.kernel_machine.proofs.machine_boot.start.empty_machine.Goals as goal

pub of_store-requires : goal.of_store-requires
of_store-requires c = can-walk _ _ c.make_lists.ensures.lists

pub returns-clause-represents : goal.returns-clause-represents
returns-clause-represents c =
    let s : Session = c.args.session.now in
    let t = c.make_lists.new.store in
    let size : length c.in_ok-kinds.kinds ≡ length t =
    made-ok (λ (k : List Bool). length k ≡ length t) _ c.of_store.result c.in_ok-kinds.kinds c.in_ok-kinds.ensures.cases c.in_ok-kinds.ensures.variant c.of_store.ensures.size in
    let marks =
    made-ok (λ (k : List Bool). (known : List ℕ) (l : Lists) → IsStoreOf t known l → MarksAll k known) _ c.of_store.result c.in_ok-kinds.kinds c.in_ok-kinds.ensures.cases
    c.in_ok-kinds.ensures.variant c.of_store.ensures.marks
    in
    made-represents s _
    (record {
      store = made-changed s.store (first_lists s) c.in_ok-store.store c.make_lists.new.store c.store.inside.words.items c.in_ok-store.ensures c.store.view_is c.make_lists.ensures;
      marks = λ known l is. marks known l (subst (λ t. IsStoreOf t known l) c.store.view_is is);
      kinds = size ∙ sym (ap length c.store.view_is);
      regs = refl;
      type_ahead = made-ok (λ (t : List ℕ). t ≡ []) _ c.new-2.result c.in_ok-map_err.field-0 c.in_ok-map_err.ensures.cases c.in_ok-map_err.ensures.variant c.new-2.ensures;
      disc = made-ok (λ (d : Disc). d ≡ empty_disc) _ c.new-3.result c.in_ok-map_err-2.field-0 c.in_ok-map_err-2.ensures.cases c.in_ok-map_err-2.ensures.variant c.new-3.ensures;
      console = c.new-6.ensures ∙ ap (λ l. record { line = l; finished = false }) c.new-5.ensures;
      shell = c.begin.ensures;
      pipes =
          made-ok (λ (ps : List (Option Pipe)). ps ≡ no_pipes) _ c.new-7.result c.in_ok-map_err-3.field-0 c.in_ok-map_err-3.ensures.cases c.in_ok-map_err-3.ensures.variant c.new-7.ensures;
      keys =
          ap still_to_come
          (made-ok (λ (k : KeyScript). k ≡ record { keys = c.as_slice.result.now; come = 0 }) _ c.new-8.result c.in_ok-map_err-4.field-0 c.in_ok-map_err-4.ensures.cases c.in_ok-map_err-4.ensures.variant c.new-8.ensures)
          ∙ c.as_slice.ensures;
      step = refl;
      period = refl;
    })

pub returns-clause-keys : goal.returns-clause-keys
returns-clause-keys c =
    ap (λ (k : KeyScript). k.come)
    (made-ok (λ (k : KeyScript). k ≡ record { keys = c.as_slice.result.now; come = 0 }) _ c.new-8.result c.in_ok-map_err-4.field-0 c.in_ok-map_err-4.ensures.cases c.in_ok-map_err-4.ensures.variant c.new-8.ensures)
