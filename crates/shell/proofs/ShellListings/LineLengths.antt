-- How long the lines are.
use Rattle.std.proofs.Common.{◌≡◌, ℕ, ◌+◌, ◌-◌, ◌*◌, ◌^◌, ◌<◌, ◌≤◌, Bool, true, false, cond, not, eqb, List, [], ◌∷◌, ◌++◌, length, map, replicate, codes, arith}
use Rattle.std.proofs.lemmas.List.{length-append, length-map, length-replicate}
use Rattle.std.proofs.lemmas.List.Sums.{sum_by-cons}
use Rattle.std.specs.Fmt.{decimal}
use Rattle.std.specs.List.{AllByRecursion, flat_map}
use Rattle.byte_streams.specs.Pieces.{joined}
use Rattle.kernel_lists.proofs.LinkedList.Chains.{length-apart}
use Rattle.ram_disc.specs.Disc.{Disc, File, IsDisc, sectors_of, sectors_taken}
use Rattle.ram_disc.specs.Name.{IsName}
use Rattle.kernel_model.specs.KernelRecord.Between.{is_empty_queue}
use Rattle.kernel_model.specs.KernelRecord.Lists.{Lists}
use Rattle.kernel_model.specs.KernelRecord.Task.{Task, task_id}
use Rattle.kernel_model.specs.KernelRecord.ValidLists.{AreValid}
use Rattle.kernel_model.specs.KernelRecord.ValidTasks.{IsTask, interrupted, runs, waits}
use Rattle.kernel_model.proofs.KernelRecord.EachMember.{all-both, all-each}
use Rattle.kernel_model.proofs.KernelRecord.RootCounts.{highest-high}
use Rattle.kernel_model.proofs.KernelRecord.TaskPlaces.{TaskPlace, task-places}
use Rattle.shell.specs.ShellListings.Columns.{left_in, right_in}
use Rattle.shell.specs.ShellListings.FileLines.{file_line, file_lines, most_in_file_line, most_in_files, name_and_size}
use Rattle.shell.specs.ShellListings.NumberLines.{most_in_number_line, number_line}
use Rattle.shell.specs.ShellListings.TaskLines.{field_name, line_with, mark, most_in_task_line, most_in_tasks, state_text, task_line, task_lines}
use Rattle.resident_tasks.proofs.FaultReporter.ReportLines.{few_digits}

-- a line for each of some things
pub each-short : {X : Type 0} (line : X → List ℕ) (m : ℕ) (xs : List X) → AllByRecursion (λ x. length (line x) ≤ m) xs → length (flat_map line xs) ≤ m * length xs
each-short line m [] all = omega arith
each-short line m (x ∷ xs) all =
    let rest : length (flat_map line xs) ≤ m * length xs = each-short line m xs all.1 in
    let whole : length (line x ++ flat_map line xs) ≡ length (line x) + length (flat_map line xs) = length-append (line x) (flat_map line xs) in
    let more : m * length (x ∷ xs) ≡ m * length xs + m = omega arith in
    omega (arith, whole, rest, all.0, more)

-- a number right in at most 10 places
pub right-short : (places n : ℕ) → places ≤ 10 → n < 2 ^ 32 → length (right_in places (decimal n)) ≤ 10
right-short places n few low =
    let text : List ℕ = decimal n in
    omega (arith, few_digits n low, length-append (replicate (places - length text) 32) text, length-replicate {A = ℕ} (places - length text) 32)

-- a short text left in 12 places
pub left-short : (text : List ℕ) → length text ≤ 12 → length (left_in 12 text) ≤ 12
left-short text few = omega (arith, few, length-append text (replicate (12 - length text) 32), length-replicate {A = ℕ} (12 - length text) 32)

-- ---- files

-- two columns
columns-length : (a b : List ℕ) → length (joined (a ∷ codes " " ∷ b ∷ codes "\n" ∷ [])) ≡ length a + length b + 2
columns-length a b = simp length-append (omega arith)

name_and_size-short : (name : List ℕ) (size : ℕ) → length name ≤ 12 → size < 2 ^ 32 → length (name_and_size name size) ≤ most_in_file_line
name_and_size-short name size few low =
    omega (arith, columns-length (left_in 12 name) (right_in 8 (decimal size)), left-short name few, right-short 8 size (omega arith) low)

-- a file has no more bytes than the sectors of the disc
files-low : (files : List File) (m : ℕ) → sectors_taken files ≤ m → AllByRecursion (λ f. length f.bytes ≤ m * 512) files
files-low [] m room = tt
files-low (f ∷ files) m room =
    let sum : sectors_taken (f ∷ files) ≡ sectors_of (length f.bytes) + sectors_taken files = sum_by-cons (λ (g : File). sectors_of (length g.bytes)) f files in
    (omega (arith, sum, room), files-low files m (omega (arith, sum, room)))

pub file_lines-short : (d : Disc) → IsDisc d → length (file_lines d) ≤ most_in_files
unfolding file_lines
file_lines-short d v =
    let each : AllByRecursion (λ f. length (file_line f) ≤ most_in_file_line) d.files =
    all-each (λ (f : File). IsName f.name × (length f.bytes ≤ 4096 * 512)) (λ f. length (file_line f) ≤ most_in_file_line)
    (λ f x. name_and_size-short f.name (length f.bytes) x.0.1 (omega (arith, x.1))) d.files
    (all-both (λ (f : File). IsName f.name) (λ f. length f.bytes ≤ 4096 * 512) d.files v.lawful (files-low d.files 4096 v.room)) in
    omega (arith, each-short file_line most_in_file_line d.files each, v.few)

-- ---- tasks

pub field_name-short : (field : ℕ) → length (field_name field) ≤ 4
field_name-short field = elim (eqb field runs) as (λ b. length (cond b (codes "run") (cond (eqb field waits) (codes "wait") (cond (eqb field interrupted) (codes "int") (codes "dead")))) ≤ 4) [
  | true ↦ omega arith
  | false ↦
      elim (eqb field waits) as (λ b. length (cond b (codes "wait") (cond (eqb field interrupted) (codes "int") (codes "dead"))) ≤ 4) [
        | true ↦ omega arith
        | false ↦ elim (eqb field interrupted) as (λ b. length (cond b (codes "int") (codes "dead")) ≤ 4) [ true ↦ omega arith | false ↦ omega arith ]
      ]
]

mark-short : (text : List ℕ) (set : Bool) → length (mark text set) ≤ length text
mark-short text true = omega arith
mark-short text false = omega arith

state-length : (name waiting held : List ℕ) → length (joined (name ∷ waiting ∷ held ∷ [])) ≡ length name + length waiting + length held
state-length name waiting held = simp length-append (omega arith)

-- three columns
line-length : (a b c : List ℕ) → length (joined (a ∷ codes " " ∷ b ∷ codes " " ∷ c ∷ codes "\n" ∷ [])) ≡ length a + length b + length c + 3
line-length a b c = simp length-append (omega arith)

task_line-short : (id priority field : ℕ) (waiting held : Bool) → id < 2 ^ 32 → priority < 2 ^ 32 → length (line_with id priority (state_text field waiting held)) ≤ most_in_task_line
task_line-short id priority field waiting held a b =
    omega (
      arith,
      line-length (right_in 3 (decimal id)) (right_in 5 (decimal priority)) (state_text field waiting held),
      right-short 3 id (omega arith) a,
      right-short 5 priority (omega arith) b,
      state-length (field_name field) (mark (codes " pkt") waiting) (mark (codes " held") held),
      field_name-short field,
      mark-short (codes " pkt") waiting,
      mark-short (codes " held") held,
    )

-- no more tasks than numbers
pub few-tasks : (l : Lists) → AreValid l → length l.tasks ≤ 64
few-tasks l v =
    omega (arith, length-apart 64 (map task_id l.tasks) v.tasks.distinct (ids l.tasks (all-each (TaskPlace l) (λ t. t.id < 64) (λ t p. omega (arith, p.high_id, highest-high l.version)) l.tasks (task-places l v))), length-map l.tasks task_id)
  where
    ids : (ts : List Task) → AllByRecursion (λ t. t.id < 64) ts → AllByRecursion (λ n. n < 64) (map task_id ts)
    ids [] all = tt
    ids (t ∷ ts) all = (all.0, ids ts all.1)

pub task_lines-short : (l : Lists) → AreValid l → length (task_lines l.tasks) ≤ most_in_tasks
unfolding task_lines
task_lines-short l v =
    let each : AllByRecursion (λ t. length (task_line t) ≤ most_in_task_line) l.tasks =
    all-each (λ t. TaskPlace l t × IsTask l t) (λ t. length (task_line t) ≤ most_in_task_line)
    (λ t x. task_line-short t.id t.priority t.field (not (is_empty_queue t.queue)) t.held (omega (arith, x.0.high_id, highest-high l.version)) (omega (arith, x.1.high))) l.tasks
    (all-both (TaskPlace l) (IsTask l) l.tasks (task-places l v) v.tasks.each) in
    omega (arith, each-short task_line most_in_task_line l.tasks each, few-tasks l v)

-- ---- one number

pub number_line-short : (text : List ℕ) (n : ℕ) → length text ≤ 12 → n < 2 ^ 32 → length (number_line text n) ≤ most_in_number_line
number_line-short text n few low = simp length-append (omega (arith, few_digits n low, few))
