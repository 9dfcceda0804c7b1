-- What starting a program, and letting it begin, leaves.
use Rattle.std.proofs.Common.{◌≡◌, ℕ, ◌≤◌, Result, Ok, List, [], refl, sym, ap, ◌∙◌, subst, arith}
use Rattle.std.proofs.lemmas.Bool.{le-leb}
use Rattle.ram_disc.specs.Disc.{Disc}
use Rattle.kernel_model.specs.KernelRecord.ChangedStore.{IsChanged}
use Rattle.kernel_model.specs.KernelRecord.Kernel.{Shell}
use Rattle.kernel_model.specs.KernelRecord.Lists.{Lists}
use Rattle.kernel_model.specs.KernelRecord.ValidQueues.{HasGuest}
use Rattle.kernel_model.proofs.KernelRecord.RootCounts.{highest-high}
use Rattle.kernel_calls.specs.CallAnswers.Outside.{Outside}
use Rattle.kernel_boot.specs.BegunTask.{with_begun}
use Rattle.kernel_model.specs.KernelRecord.StoreWithLists.{store_with_lists}
use Rattle.shell.specs.ShellPrograms.StartedProgram.{IsStarted, Started, begun, start_program}
use Rattle.shell.specs.ShellPrograms.StoresWithLists.{RepresentsStoreWithLists}
use Rattle.shell.specs.declared.shell_programs.programs.Priority.{Priority}
use Rattle.shell.proofs.ShellPrograms.KeptRules.{begun-packets, begun-residents, begun-runs, started-packets, started-residents, started-runs}
use Rattle.shell.proofs.ShellPrograms.KeptSteps.{started-there}
use Rattle.shell.proofs.ShellPrograms.StoresAfterCalls.{begun-represents}
use Rattle.shell.proofs.ShellPrograms.PacketPlace.{packet-kept}
use Rattle.shell.specs.Commands.{with_program_begun, with_started}
use Rattle.shell.specs.DoneParts.{IsReady, ShellStart}
use Rattle.shell.specs.TurnParts.{ShellTurn}
use Rattle.shell.proofs.DoneParts.{done-quietly, store_with_lists-is}

-- ---- a program is started, or refused

started-is : {b : ShellStart} {t : List ℕ} {tells : List ℕ → Type 0} {room : ℕ} {now : Outside} {sh : Shell} {d : Disc} {x : ShellTurn}
    → IsReady b t tells room now sh d x → (name : List ℕ) (rest : Result (Unit {0}) ℕ) (pri : Priority) → start_program d name rest pri (store_with_lists t x.store.lists) ≡ start_program x.disc name rest pri x.store
started-is r name rest pri = λ i. start_program (r.done.disc i) name rest pri (store_with_lists-is r.done.represents i)

pub ready-started : {b : ShellStart} {t : List ℕ} {tells : List ℕ → Type 0} {room : ℕ} {now : Outside} {sh : Shell} {d : Disc} {x : ShellTurn}
    → IsReady b t tells room now sh d x → (name : List ℕ) (rest : Result (Unit {0}) ℕ) (pri : Priority) (u : List ℕ) (told : List ℕ → Type 0) (after : ℕ) (answer : Result ℕ ℕ)
    → IsStarted u told after answer (start_program d name rest pri (store_with_lists t x.store.lists)) → after ≡ room → IsReady b u told after now sh d (with_started (start_program x.disc name rest pri x.store) x)
ready-started {x = x} r name rest pri u told after answer y room_is =
    let z : IsStarted u told after answer (start_program x.disc name rest pri x.store) = subst (IsStarted u told after answer) (started-is r name rest pri) y in
    let kept = started-residents x.disc name rest pri x.store in
    record {
      done = done-quietly r.done z.represents room_is (started-runs x.disc name rest pri x.store r.done.runs) (ap (λ (l : Lists). l.running) kept.rest);
      packet = packet-kept x.store.lists _ r.done.represents.keeper.lists.valid z.represents.keeper.lists.valid kept (started-packets x.disc name rest pri x.store) r.packet;
    }

pub started-answer : {b : ShellStart} {t : List ℕ} {tells : List ℕ → Type 0} {room : ℕ} {now : Outside} {sh : Shell} {d : Disc} {x : ShellTurn}
    → IsReady b t tells room now sh d x → (name : List ℕ) (rest : Result (Unit {0}) ℕ) (pri : Priority) (u : List ℕ) (told : List ℕ → Type 0) (after : ℕ) (answer : Result ℕ ℕ)
    → IsStarted u told after answer (start_program d name rest pri (store_with_lists t x.store.lists)) → answer ≡ (start_program x.disc name rest pri x.store).answer
started-answer r name rest pri u told after answer y = y.answered ∙ ap (λ (m : Started). m.answer) (started-is r name rest pri)

-- it is a guest then
pub started-guest : (x : ShellTurn) (name : List ℕ) (rest : Result (Unit {0}) ℕ) (pri : Priority) (id : ℕ) → Ok id ≡ (start_program x.disc name rest pri x.store).answer
    → HasGuest (start_program x.disc name rest pri x.store).left.lists id
started-guest x name rest pri id e = (let there = started-there x.disc name rest pri x.store id (sym e) in (le-leb 5 id there.low, there.there))

pub started-low : (x : ShellTurn) (name : List ℕ) (rest : Result (Unit {0}) ℕ) (pri : Priority) (id : ℕ) → Ok id ≡ (start_program x.disc name rest pri x.store).answer → id ≤ 63
started-low x name rest pri id e = omega (arith, (started-there x.disc name rest pri x.store id (sym e)).high, highest-high x.store.lists.version)

-- ---- it begins

pub ready-begun : {b : ShellStart} {t : List ℕ} {tells : List ℕ → Type 0} {room : ℕ} {now : Outside} {sh : Shell} {d : Disc} {x : ShellTurn}
    → IsReady b t tells room now sh d x → (id : ℕ) (u : List ℕ) → HasGuest x.store.lists id → IsChanged t u (with_begun t id x.store.lists) [] → IsReady b u tells room now sh d (with_program_begun id x)
ready-begun {t = t} {tells = tells} {room = room} {x = x} r id u guest y =
    let represents : RepresentsStoreWithLists u tells room (begun id x.store) =
    subst (λ k. RepresentsStoreWithLists u tells room (begun id k)) (store_with_lists-is r.done.represents) (begun-represents t u tells room id x.store.lists r.done.represents.keeper guest y)
    in
    let kept = begun-residents id x.store in
    record {
      done = done-quietly r.done represents refl (begun-runs id x.store guest.0 r.done.runs) (ap (λ (l : Lists). l.running) kept.rest);
      packet = packet-kept x.store.lists _ r.done.represents.keeper.lists.valid represents.keeper.lists.valid kept (begun-packets id x.store) r.packet;
    }
