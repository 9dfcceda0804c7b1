-- The lines of a report, as the words of a store say them.
use Rattle.std.proofs.Common.{◌≡◌, ℕ, ◌+◌, ◌*◌, ◌^◌, ◌<◌, ◌≤◌, true, false, List, [], ◌∷◌, ◌++◌, map, cond, eqb, get_or, length, refl, ap, ◌∙◌, subst, arith}
use Rattle.std.specs.List.{AllByRecursion, flat_map}
use Rattle.std.proofs.lemmas.Fmt.{length-decimal-le}
use Rattle.std.proofs.lemmas.List.{length-map}
use Rattle.std.specs.Fmt.{decimal}
use Rattle.kernel_lists.proofs.LinkedList.Chains.{length-apart}
use Rattle.kernel_lists.specs.TaskBlock.TaskChain.{tasks_in}
use Rattle.kernel_model.specs.KernelRecord.Task.{Task, task_address, task_id, task_words}
use Rattle.kernel_model.proofs.KernelRecord.EachMember.{all-each, holds-each}
use Rattle.resident_tasks.specs.FaultReporter.Texts.{is_unreported_word, most_in_line, most_reported, report, report_at, report_of, reports, reports_in}
use Rattle.kernel_lists.specs.PacketQueue.QueueWords.{QueuedPacket}
use Rattle.kernel_model.specs.KernelRecord.Changes.{with_work}
use Rattle.kernel_model.specs.KernelRecord.HoldsLists.{HoldsLists}
use Rattle.kernel_model.specs.KernelRecord.Lists.{Lists}
use Rattle.kernel_model.proofs.KernelRecord.ReadCoroutines.{HoldsTask, holds-task}
use Rattle.kernel_calls.proofs.CallAnswers.FoundTask.{reads}
use Rattle.resident_tasks.specs.FaultReporter.FaultTurns.{packet_taken}

-- a number of 32 bits has at most 10 digits
pub few_digits : (n : ℕ) → n < 2 ^ 32 → length (decimal n) ≤ 10
few_digits n low = length-decimal-le 10 n (omega arith) (omega (arith, low)) (omega (arith, low))

-- no more tasks than numbers
few-tasks : (s : List ℕ) (l : Lists) → HoldsLists s l → length l.tasks ≤ 64
few-tasks s l h =
    subst (λ n. n ≤ 64) (length-map l.tasks task_id)
    (length-apart 64 (map task_id l.tasks) h.valid.tasks.distinct
    (low l.tasks (all-each (λ t. (1 ≤ t.id) × (t.id ≤ get_or s 120 0)) (λ t. t.id < 64) (λ t own. omega (arith, own.1, (reads s l h).held_tasks.highest)) l.tasks (reads s l h).held_tasks.numbers)))
  where
    low : (ts : List Task) → AllByRecursion (λ t. t.id < 64) ts → AllByRecursion (λ n. n < 64) (map task_id ts)
    low [] all = tt
    low (t ∷ ts) all = (all.0, low ts all.1)

-- so there is room for their lines
pub lines-room : (s : List ℕ) (l : Lists) (n : ℕ) → HoldsLists s l → n + most_reported ≤ 8192 → n + most_in_line * length (tasks_in s) ≤ 8192
lines-room s l n h room =
    omega (arith, room, few-tasks s l h, ap length (reads s l h).tasks.chain, length-map l.tasks task_address)

-- the words of a task that its line says
abbrev Says : List ℕ → Task → Type 0
Says s t = (get_or s (t.address + 1) 0 ≡ t.id) × (get_or s (t.address + 21) 0 ≡ t.fault) × (get_or s (t.address + 22) 0 ≡ t.fault_address)

lines-read : (s : List ℕ) (ts : List Task) → AllByRecursion (Says s) ts → flat_map (report_at s) (map task_address ts) ≡ flat_map report_of ts
lines-read s [] all = refl
lines-read s (t ∷ ts) all = λ i. cond (is_unreported_word (all.0.1 i)) (report (all.0.0 i) (all.0.1 i) (all.0.2 i)) [] ++ lines-read s ts all.1 i

pub reports-read : (s : List ℕ) (l : Lists) → HoldsLists s l → reports_in s ≡ reports l
unfolding reports reports_in
reports-read s l h =
    ap (flat_map (report_at s)) (reads s l h).tasks.chain
    ∙ lines-read s l.tasks
    (holds-each task_address (task_words l.version) s (Says s) (λ u n own. (let x : HoldsTask s l.version u = holds-task s l.version u n own in (x.names.0, x.fault.0, x.fault.1.0))) l.tasks 0
    (reads s l h).held_tasks.holds.1)

-- a queue changes no line
lines-work : (id : ℕ) (ps : List QueuedPacket) (ts : List Task) → flat_map report_of (map (with_work id ps) ts) ≡ flat_map report_of ts
lines-work id ps [] = refl
lines-work id ps (t ∷ ts) = λ i. (elim (eqb t.id id) as (λ b. report_of (cond b (record t { queue = ps }) t) ≡ report_of t) [ true ↦ refl | false ↦ refl ]) i ++ lines-work id ps ts i

pub reports-taken : (l : Lists) (ps : List QueuedPacket) → reports (packet_taken ps l) ≡ reports l
unfolding reports
reports-taken l ps = lines-work 2 ps l.tasks
