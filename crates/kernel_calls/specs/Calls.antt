-- The kernel call: what each of them makes, and how the caller's registers answer.
use Rattle.std.specs.Prelude.{◌≡◌, ℕ, ◌%◌, List, [], ◌∷◌, ◌++◌, Result, Ok, Err}
use Rattle.word_store.specs.Arithmetic.{add, mul_div}
use Rattle.word_store.specs.declared.registers.Regs.{Regs}
use Rattle.kernel_lists.specs.OwnedWords.Owned.{Pairs}
use Rattle.kernel_lists.specs.PacketQueue.QueueWords.{QueuedPacket}
use Rattle.kernel_lists.specs.declared.packet_queue.events.KernelEvent.{KernelEvent}
use Rattle.kernel_model.specs.KernelRecord.ChangedStore.{IsChanged, Knows}
use Rattle.kernel_model.specs.KernelRecord.Changes.{queue_of}
use Rattle.kernel_model.specs.KernelRecord.Lists.{Lists}
use Rattle.kernel_model.specs.KernelRecord.NotedEvents.{NotesAll}
use Rattle.kernel_model.specs.KernelRecord.ValidQueues.Place.{Work}
use Rattle.kernel_calls.specs.CallAnswers.CallChange.{CallChange, minus_one}
use Rattle.kernel_calls.specs.CallAnswers.Outside.{Outside}
use Rattle.kernel_calls.specs.BlockCalls.Freevec.{freevec}
use Rattle.kernel_calls.specs.BlockCalls.Getvec.{getvec}
use Rattle.kernel_calls.specs.ModuleCalls.AddModule.{add_module}
use Rattle.kernel_calls.specs.ModuleCalls.UnloadModule.{unload_module}
use Rattle.kernel_calls.specs.PacketCalls.Dqpkt.{dqpkt}
use Rattle.kernel_calls.specs.PacketCalls.Qpkt.{qpkt}
use Rattle.kernel_calls.specs.PacketCalls.TaskWait.{taskwait}
use Rattle.kernel_calls.specs.TaskCalls.ChangePri.{change_pri}
use Rattle.kernel_calls.specs.TaskCalls.CreateTask.{create_task}
use Rattle.kernel_calls.specs.TaskCalls.DeleteTask.{delete_task}
use Rattle.kernel_calls.specs.TaskCalls.HoldTask.{hold}
use Rattle.kernel_calls.specs.TaskCalls.ReleaseTask.{release}
use Rattle.kernel_calls.specs.TaskCalls.SetFlags.{set_flags}
use Rattle.kernel_calls.specs.TaskCalls.TestFlags.{test_flags}
use Rattle.kernel_calls.specs.CoroutineCalls.CallCo.{callco}
use Rattle.kernel_calls.specs.CoroutineCalls.CoWait.{cowait}
use Rattle.kernel_calls.specs.CoroutineCalls.CreateCo.{createco}
use Rattle.kernel_calls.specs.CoroutineCalls.DeleteCo.{deleteco}
use Rattle.kernel_calls.specs.CoroutineCalls.ResumeCo.{resumeco}
use Rattle.kernel_calls.specs.CoroutineCalls.SwitchChange.{SwitchChange}
use Rattle.kernel_calls.specs.CallNumbers.{call_of}
use Rattle.kernel_calls.specs.declared.call_numbers.CallOutcome.{CallOutcome}
use Rattle.kernel_calls.specs.declared.call_numbers.CallOutcome.TheVariants.{Done, Waits, Quit as Quits}
use Rattle.kernel_calls.specs.declared.call_numbers.KernelCall.{KernelCall}
use Rattle.kernel_calls.specs.declared.call_numbers.KernelCall.TheVariants.{AddModule, CallCo, ChangePri, CoWait, CreateCo, CreateTask, DeleteCo, DeleteTask, Dqpkt, Freevec, Getvec, Hold, MulDiv, Qpkt, Quit, Release, ResumeCo, SetFlags, TaskWait, TestFlags, Unload, Wrch}

-- What a call leaves of its guest's turn: the parts of a KernelChange, the registers, the bytes that went to the console, and how the
-- call ended.
pub record CallTurn : Type 0 where
  -- the lists
  pub lists : Lists
  -- the plain words that were written
  pub plain : Pairs
  -- the events, in their order
  pub events : List KernelEvent
  -- the registers of the guest
  pub regs : Regs
  -- the bytes that went to the console
  pub bytes : List ℕ
  -- how the call ends
  pub outcome : CallOutcome

-- ---- registers

-- SYS has one byte
abbrev pub past_call : Regs → Regs
past_call r = record r { pc = add r.pc 1 }

-- an accepted call sets A to its answer and B to 0, and a refused one sets A to 0 and B to the code
abbrev pub answered : Regs → Result ℕ ℕ → Regs
answered r (Ok a) = record r { a = a; b = 0 }
answered r (Err code) = record r { a = 0; b = code }

-- ---- the kinds of calls

-- a call ends so, and nothing but these registers has changed
abbrev pub ended_with : CallOutcome → Lists → Regs → CallTurn
ended_with outcome l r = record { lists = l; plain = []; regs = r; bytes = []; events = []; outcome = outcome }

-- a call gives its answer in the registers, and the caller goes on
abbrev pub of_made : Regs → CallChange → CallTurn
of_made r m = record { lists = m.lists; plain = m.plain; regs = answered r m.answer; bytes = []; events = m.events; outcome = Done }

-- the caller goes on in one of its coroutines, or is refused
abbrev pub regs_of_switch : Regs → Result (Unit {0}) ℕ → Regs
regs_of_switch r (Ok u) = r
regs_of_switch r (Err code) = answered r (Err code)

-- what a call leaves that goes on in another coroutine: it writes no plain word, and neither shows bytes nor notes events
abbrev pub of_switched : SwitchChange → CallTurn
of_switched m = record { lists = m.lists; plain = []; regs = regs_of_switch m.regs m.answer; bytes = []; events = []; outcome = Done }

-- the caller has a packet, or waits for one and keeps its registers
abbrev pub of_wait : Regs → List QueuedPacket → CallChange → CallTurn
of_wait r [] m = record { lists = m.lists; plain = m.plain; regs = r; bytes = []; events = m.events; outcome = Waits }
of_wait r (p ∷ ps) m = of_made r m

-- a byte goes to the console
abbrev pub of_byte : ℕ → CallTurn → CallTurn
of_byte b c = record c { bytes = b ∷ [] }

-- A is the quotient and B the remainder
abbrev pub divided : Regs → (ℕ × ℕ) → Regs
divided r q = record r { a = q.0; b = q.1 }

-- ---- the calls

-- what each call makes of the lists and of the caller's registers
abbrev pub made : List ℕ → Lists → Regs → KernelCall → CallTurn
made s l r (Quit result) = ended_with (Quits result) l (answered r (Ok minus_one))
made s l r (Getvec u) = of_made r (getvec l u)
made s l r (Freevec v) = of_made r (freevec l v)
made s l r (CreateTask m u pri) = of_made r (create_task s l 0 (m ∷ []) u pri l.running)
made s l r (DeleteTask id) = of_made r (delete_task l id)
made s l r (ChangePri id pri) = of_made r (change_pri l id pri)
made s l r (SetFlags id flags) = of_made r (set_flags l id flags)
made s l r (TestFlags mask) = of_made r (test_flags l mask)
made s l r (Hold id) = of_made r (hold l id)
made s l r (Release id) = of_made r (release l id)
made s l r TaskWait = of_wait r (queue_of (Work l.running) l) (taskwait l)
made s l r (Qpkt p) = of_made r (qpkt s l p)
made s l r (Dqpkt id p) = of_made r (dqpkt l id p)
made s l r (Unload m) = of_made r (unload_module l m)
made s l r (CreateCo fn u) = of_made r (createco l fn u)
made s l r (DeleteCo c) = of_made r (deleteco l c)
made s l r (CallCo c v) = of_switched (callco l r c v)
made s l r (ResumeCo c v) = of_switched (resumeco l r c v)
made s l r (CoWait v) = of_switched (cowait l r v)
made s l r (Wrch ch) = of_byte (ch % 256) (ended_with Done l (answered r (Ok ch)))
made s l r (MulDiv a b c) = ended_with Done l (divided r (mul_div a b c))
made s l r (AddModule id m) = of_made r (add_module s l id m)

-- A call is made with PC past its SYS. Where there is no such call, or an argument is outside the store, nothing changes.
abbrev pub made_if_read : List ℕ → Lists → Regs → Result KernelCall CallOutcome → CallTurn
made_if_read s l r (Ok call) = made s l (past_call r) call
made_if_read s l r (Err outcome) = ended_with outcome l r

-- the call that the caller's registers and its frame ask for
unfoldable pub kernel_call : List ℕ → Lists → Regs → CallTurn
kernel_call s l r = made_if_read s l r (call_of s r)

-- ---- what the code leaves

-- The store that was s is t: it holds the lists that the call leaves, its plain words and no others have changed besides; these are
-- its registers and its end; the keeper knows the words of those lists; its bytes went to the console, and its events to the log.
pub record IsCalled (s t : List ℕ) (regs : Regs) (tells : List ℕ → Type 0) (old new : Outside) (outcome : CallOutcome) (c : CallTurn) : Type 0 where
  -- the store holds these lists, and these plain words alone have changed
  pub lists : IsChanged s t c.lists c.plain
  -- the registers
  pub registers : regs ≡ c.regs
  -- how the call ends
  pub ends : outcome ≡ c.outcome
  -- the keeper knows the words of the lists
  pub knows : Knows tells c.lists
  -- its bytes went to the console
  pub bytes : new.shown ≡ old.shown ++ c.bytes
  -- its events went to the log
  pub notes : NotesAll old.noted new.noted old.failed new.failed c.events
