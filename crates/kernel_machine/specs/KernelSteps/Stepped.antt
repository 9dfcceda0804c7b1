-- What a part of a step leaves, and parts one after the other.
use Rattle.std.specs.Prelude.{ℕ, Bool, if◌then◌else◌, List, [], ◌++◌}
use Rattle.kernel_lists.specs.declared.packet_queue.events.KernelEvent.{KernelEvent}
use Rattle.kernel_model.specs.KernelRecord.Image.{plain_words}
use Rattle.kernel_model.specs.KernelRecord.Kernel.{Kernel}
use Rattle.kernel_model.specs.KernelRecord.Lists.{Lists}

-- what a part of a step leaves
pub record Stepped : Type 0 where
  -- the kernel
  pub kernel : Kernel
  -- the bytes that went to the console
  pub bytes : List ℕ
  -- the events, in their order
  pub events : List KernelEvent

-- nothing is shown or noted
abbrev pub quietly : Kernel → Stepped
quietly k = record { kernel = k; bytes = []; events = [] }

-- what steps come to, with the bytes and the events of those before them
abbrev pub behind : List ℕ → List KernelEvent → Stepped → Stepped
behind bytes events x = record x { bytes = bytes ++ x.bytes; events = events ++ x.events }

-- first the one, and then what follows on it
abbrev pub and_then : Stepped → (Kernel → Stepped) → Stepped
and_then x next = behind x.bytes x.events (next x.kernel)

-- something that is due now or never
abbrev pub where_due : Bool → (Kernel → Stepped) → Kernel → Stepped
where_due due part k = if due then part k else quietly k

-- the kernel with these lists, of which the other words are those of a store
abbrev pub with_store : List ℕ → Lists → Kernel → Kernel
with_store words l k = record k { lists = l; plain = plain_words words l }
