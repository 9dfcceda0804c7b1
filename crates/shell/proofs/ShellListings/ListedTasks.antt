-- The lines of tasks, as the words of a store say them.
use Rattle.std.proofs.Common.{◌≡◌, ℕ, ◌+◌, ◌*◌, ◌≤◌, Bool, true, false, not, cond, List, [], ◌∷◌, ◌++◌, get_or, inl, inr, length, map, refl, sym, ap, ◌∙◌, subst, arith}
use Rattle.std.proofs.lemmas.List.{length-map}
use Rattle.std.specs.List.{AllByRecursion, flat_map}
use Rattle.kernel_lists.specs.PacketQueue.QueueWords.{QueuedPacket}
use Rattle.kernel_lists.specs.TaskBlock.TaskChain.{tasks_in}
use Rattle.kernel_model.specs.KernelRecord.Between.{is_empty_queue}
use Rattle.kernel_model.specs.KernelRecord.HoldsLists.{HoldsLists}
use Rattle.kernel_model.specs.KernelRecord.Lists.{Lists}
use Rattle.kernel_model.specs.KernelRecord.ReadsLists.{ReadsLists}
use Rattle.kernel_model.specs.KernelRecord.Task.{Task, field_of_state, is_held_state, queue_bit, state_word, task_address, task_words}
use Rattle.kernel_model.specs.KernelRecord.ValidTasks.{IsField, IsTask}
use Rattle.kernel_model.proofs.KernelRecord.EachMember.{all-both, all-each, holds-each}
use Rattle.kernel_model.proofs.KernelRecord.ReadCoroutines.{HoldsTask, holds-task}
use Rattle.kernel_model.proofs.KernelRecord.Reading.{read-lists}
use Rattle.shell.specs.ShellListings.TaskLines.{has_packets, line_with, most_in_task_line, most_in_tasks, state_text, task_line, task_line_at, task_lines, task_lines_in}
use Rattle.shell.proofs.ShellListings.LineLengths.{few-tasks}

-- ---- the state

-- what a state of this field and these marks says
abbrev Says : List QueuedPacket → Bool → ℕ → Type 0
Says ps held f =
    let w = f + queue_bit ps + cond held 2 0 in
    state_text (field_of_state w) (has_packets w) (is_held_state w) ≡ state_text f (not (is_empty_queue ps)) held

each-says : (ps : List QueuedPacket) (held : Bool) → Says ps held 0 × Says ps held 4 × Says ps held 8 × Says ps held 12
each-says [] true = (refl, refl, refl, refl)
each-says [] false = (refl, refl, refl, refl)
each-says (p ∷ ps) true = (refl, refl, refl, refl)
each-says (p ∷ ps) false = (refl, refl, refl, refl)

field-says : (ps : List QueuedPacket) (held : Bool) (f : ℕ) → IsField f → Says ps held f
field-says ps held f (inl e) = subst (Says ps held) (sym e) (each-says ps held).0
field-says ps held f (inr (inl e)) = subst (Says ps held) (sym e) (each-says ps held).1
field-says ps held f (inr (inr (inl e))) = subst (Says ps held) (sym e) (each-says ps held).2
field-says ps held f (inr (inr (inr e))) = subst (Says ps held) (sym e) (each-says ps held).3

-- ---- the words

-- the words of a task that its line says
record HasWords (s : List ℕ) (t : Task) : Type 0 where
  pub id : get_or s (t.address + 1) 0 ≡ t.id
  pub priority : get_or s (t.address + 2) 0 ≡ t.priority
  pub state : get_or s (t.address + 4) 0 ≡ state_word t

lines-read : (s : List ℕ) (ts : List Task) → AllByRecursion (λ t. task_line_at s t.address ≡ task_line t) ts → flat_map (task_line_at s) (map task_address ts) ≡ flat_map task_line ts
lines-read s [] all = refl
lines-read s (t ∷ ts) all = λ i. all.0 i ++ lines-read s ts all.1 i

module _ (s : List ℕ) (l : Lists) (h : HoldsLists s l) where
  reads : ReadsLists s l
  reads = read-lists s l h.valid h.size h.holds

  words-read : AllByRecursion (HasWords s) l.tasks
  words-read =
      holds-each task_address (task_words l.version) s (HasWords s)
      (λ u n own. (let x : HoldsTask s l.version u = holds-task s l.version u n own in record { id = x.names.0; priority = x.names.1.0; state = x.state.0 })) l.tasks 0
      reads.held_tasks.holds.1

  line-read : (t : Task) → HasWords s t × IsTask l t → task_line_at s t.address ≡ task_line t
  line-read t x =
      let text = ap (λ w. state_text (field_of_state w) (has_packets w) (is_held_state w)) x.0.state ∙ field-says t.queue t.held t.field x.1.field in
      λ i. line_with (x.0.id i) (x.0.priority i) (text i)

  pub tasks-read : task_lines_in s ≡ task_lines l.tasks
  unfolding task_lines_in task_lines
  tasks-read =
      ap (flat_map (task_line_at s)) reads.tasks.chain
      ∙ lines-read s l.tasks (all-each (λ t. HasWords s t × IsTask l t) (λ t. task_line_at s t.address ≡ task_line t) line-read l.tasks (all-both (HasWords s) (IsTask l) l.tasks words-read h.valid.tasks.each))

  -- there is room for a line of each
  pub tasks-room : most_in_task_line * length (tasks_in s) ≤ most_in_tasks
  tasks-room = omega (arith, few-tasks l h.valid, ap length reads.tasks.chain, length-map l.tasks task_address)
