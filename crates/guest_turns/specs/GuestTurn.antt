-- What the running guest does in a step, before the clock, the devices and dispatch: its instruction, its call, or the end of its
-- function.
use Rattle.std.specs.Prelude.{◌≡◌, ℕ, ◌==◌, Bool, if◌then◌else◌, List, [], ◌++◌, Ok}
use Rattle.word_store.specs.declared.registers.Regs.{Regs}
use Rattle.instruction_set.specs.Change.{fault}
use Rattle.instruction_set.specs.Instruction.{instruction}
use Rattle.instruction_set.specs.declared.Outcome.{Outcome}
use Rattle.instruction_set.specs.declared.Outcome.TheVariants.{Next, Sys, Returned, Fault as Faulted}
use Rattle.kernel_lists.specs.OwnedWords.Owned.{Pairs}
use Rattle.kernel_lists.specs.declared.packet_queue.events.KernelEvent.{KernelEvent}
use Rattle.kernel_lists.specs.Coroutines.CoroutineExchanges.{current_of}
use Rattle.kernel_model.specs.KernelRecord.ChangedStore.{IsChanged, Knows}
use Rattle.kernel_model.specs.KernelRecord.Changes.{with_task}
use Rattle.kernel_model.specs.KernelRecord.Lists.{Lists}
use Rattle.kernel_model.specs.KernelRecord.NotedEvents.{NotesAll}
use Rattle.kernel_model.specs.KernelRecord.Task.{Task}
use Rattle.kernel_model.specs.KernelRecord.ValidTasks.{dead}
use Rattle.kernel_calls.specs.CoroutineCalls.CallersCoroutines.{coroutines_of_caller}
use Rattle.kernel_calls.specs.CoroutineCalls.CoWait.{ended}
use Rattle.kernel_calls.specs.CoroutineCalls.SwitchChange.{SwitchChange}
use Rattle.kernel_calls.specs.CallAnswers.Outside.{Outside}
use Rattle.kernel_calls.specs.Calls.{CallTurn, kernel_call}
use Rattle.kernel_calls.specs.declared.call_numbers.CallOutcome.{CallOutcome}
use Rattle.kernel_calls.specs.declared.call_numbers.CallOutcome.TheVariants.{Done, Outside as OutsideStore, Quit, Unknown, Waits}
use Rattle.guest_turns.specs.Guarded.{is_owned}
use Rattle.guest_turns.specs.declared.turns.TurnEnd.{TurnEnd}
use Rattle.guest_turns.specs.declared.turns.TurnEnd.TheVariants.{Faults, Goes, Quits}

-- What a guest's turn leaves: the words that its instruction left, the parts of a KernelChange of these, the registers, the bytes that
-- went to the console, and how the turn ended.
pub record GuestTurn : Type 0 where
  -- the words that its instruction left
  pub words : List ℕ
  -- the lists
  pub lists : Lists
  -- the plain words that were written over those words
  pub plain : Pairs
  -- the events, in their order
  pub events : List KernelEvent
  -- the registers
  pub regs : Regs
  -- the bytes that went to the console
  pub bytes : List ℕ
  -- how it ended
  pub ends : TurnEnd

-- the turn ends so, and the lists stay
abbrev pub ended_with : TurnEnd → List ℕ → Lists → Regs → GuestTurn
ended_with ends s l r = record { words = s; lists = l; plain = []; regs = r; bytes = []; events = []; ends = ends }

-- ---- a call

-- An unknown call is a fault at the byte address of its SYS, and one of which a word is outside the store a fault at that word.
abbrev pub end_of_call : ℕ → CallOutcome → TurnEnd
end_of_call place Done = Goes
end_of_call place Waits = Goes
end_of_call place (Quit result) = Quits result
end_of_call place Unknown = Faults (fault 7 place)
end_of_call place (OutsideStore a) = Faults (fault 3 a)

-- the turn of a call, whose SYS is at the place
abbrev pub called : List ℕ → ℕ → CallTurn → GuestTurn
called s place c = record {
  words = s;
  lists = c.lists;
  plain = c.plain;
  regs = c.regs;
  bytes = c.bytes;
  events = c.events;
  ends = end_of_call place c.outcome;
}

-- ---- a function that has returned

-- a task whose function has returned, and which begins anew with its next packet
abbrev pub died : Task → Task
died t = record t { field = dead }

-- the running task is dead, and nothing else changes
abbrev pub dies : Lists → Regs → SwitchChange
dies l r = record { answer = Ok tt; lists = with_task l.running died l; regs = r }

-- In its root the task dies; in a coroutine the parent goes on.
abbrev pub returned : Lists → Regs → SwitchChange
returned l r = if current_of (coroutines_of_caller l) == 0 then dies l r else ended l r

-- what a turn leaves where another coroutine of the task goes on, or the task has died: no word is written besides those of lists
abbrev pub goes_on : List ℕ → SwitchChange → GuestTurn
goes_on s m = record { words = s; lists = m.lists; plain = []; regs = m.regs; bytes = []; events = []; ends = Goes }

-- ---- the turn

-- where an instruction left these words and registers, and ended so; these are as they were but where it was executed
abbrev pub after_instruction : Lists → List ℕ → Regs → Outcome → GuestTurn
after_instruction l s r Next = ended_with Goes s l r
after_instruction l s r Sys = called s r.pc (kernel_call s l r)
after_instruction l s r Returned = goes_on s (returned l r)
after_instruction l s r (Faulted f) = ended_with (Faults f) s l r

-- The turn in a machine without a task that reports faults: each fault stops it.
unfoldable pub turn_without_reporter : List ℕ → Lists → Regs → GuestTurn
turn_without_reporter s l r = let x = instruction (is_owned l) s r in after_instruction l x.words x.regs x.outcome

-- ---- what the code leaves

-- What the code leaves is what the turn leaves. The store is t.
pub record IsTurned (t : List ℕ) (after : Regs) (tells : List ℕ → Type 0) (old new : Outside) (result : TurnEnd) (m : GuestTurn) : Type 0 where
  -- the store holds the lists, and of the other words the plain ones alone have changed since the instruction
  pub lists : IsChanged m.words t m.lists m.plain
  -- the registers
  pub regs : after ≡ m.regs
  -- how the turn ended
  pub ends : result ≡ m.ends
  -- the keeper knows the words of those lists
  pub knows : Knows tells m.lists
  -- its bytes went to the console
  pub bytes : new.shown ≡ old.shown ++ m.bytes
  -- its events went to the log
  pub notes : NotesAll old.noted new.noted old.failed new.failed m.events

-- ---- what a turn keeps

-- the task that runs, and the numbers that no turn changes
pub record Numbers : Type 0 where
  -- the number of the running task, 0 where nobody runs
  pub running : ℕ
  -- the steps from one tick to the next
  pub period : ℕ
  -- the ticks so far
  pub tick : ℕ
  -- the version, 1 or 2
  pub version : ℕ
  -- whether there are residents
  pub residents : Bool
  -- the words of the store
  pub size : ℕ

-- these numbers of the lists
abbrev pub numbers_of : Lists → Numbers
numbers_of l = record { running = l.running; period = l.period; tick = l.tick; version = l.version; residents = l.residents; size = l.size }

-- nothing has changed, shown or noted
pub record IsUntouched (s : List ℕ) (l : Lists) (r : Regs) (m : GuestTurn) : Type 0 where
  -- the words of the store
  pub words : m.words ≡ s
  -- the lists
  pub lists : m.lists ≡ l
  -- no plain word was written
  pub plain : m.plain ≡ []
  -- the registers
  pub regs : m.regs ≡ r
  -- nothing went to the console
  pub bytes : m.bytes ≡ []
  -- nothing was noted
  pub events : m.events ≡ []
