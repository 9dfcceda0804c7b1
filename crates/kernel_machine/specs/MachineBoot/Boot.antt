-- What a session puts into a machine with a kernel before its first step.
use Rattle.std.specs.Prelude.{◌≡◌, false, if◌then◌else◌, None, List, [], Result, Ok, replicate}
use Rattle.ram_disc.specs.Disc.{empty_disc}
use Rattle.module_text.specs.TextReader.Steps.{◌>>=◌}
use Rattle.session_text.specs.Canonical.{IsLawful}
use Rattle.session_text.specs.declared.sessions.Session.{Session}
use Rattle.session_text.specs.declared.sessions.SessionLine.{SessionLine}
use Rattle.kernel_model.specs.KernelRecord.Image.{image, plain_words}
use Rattle.kernel_model.specs.KernelRecord.Kernel.{Kernel, no_command, no_line}
use Rattle.kernel_model.specs.KernelRecord.Lists.{Lists}
use Rattle.kernel_model.specs.KernelRecord.Pipes.{no_pipes}
use Rattle.kernel_model.specs.KernelRecord.ValidTasks.{no_regs}
use Rattle.kernel_boot.specs.BootFiles.{load_files}
use Rattle.kernel_model.specs.KernelRecord.StoreWithLists.{StoreWithLists, store_with_lists}
use Rattle.kernel_boot.specs.BootTasks.{start_tasks}
use Rattle.kernel_boot.specs.EmptyKernel.{empty_lists}
use Rattle.kernel_boot.specs.ResidentKernel.{resident_lists}
use Rattle.kernel_boot.specs.declared.refusals.BootRefusal.{BootRefusal}
use Rattle.kernel_machine.specs.KernelSteps.ResidentSteps.{with_disc}
use Rattle.kernel_machine.specs.KernelSteps.Step.{dispatch, first_events}
use Rattle.kernel_machine.specs.KernelSteps.Stepped.{Stepped, behind, with_store}

-- a session of a machine with a kernel
pub record HasKernel (s : Session) : Type 0 where
  -- the session is lawful
  pub lawful : IsLawful s
  -- its machine has a kernel
  pub full : s.bare ≡ false

-- the lists before the lines: those of the residents, where the session has them, or none
abbrev pub first_lists : Session → Lists
first_lists s = if s.resident then resident_lists s.version s.period s.store s.debug else empty_lists s.version s.period s.store

-- The kernel before the lines: all words that its lists do not own are 0; no key has come, and the disc is empty.
unfoldable pub first_kernel : Session → Kernel
first_kernel s = record {
  lists = first_lists s;
  plain = plain_words (replicate s.store 0) (first_lists s);
  regs = no_regs;
  steps = 0;
  console = no_line;
  shell = no_command;
  disc = empty_disc;
  type_ahead = [];
  keys = s.keys;
  pipes = no_pipes;
  stop = None;
}

-- the lines' files are on the disc
unfoldable pub with_files : List SessionLine → Kernel → Result Kernel BootRefusal
with_files lines k = do
  d ← load_files k.disc lines
  Ok (with_disc d k)

-- the machine with these words and lists
abbrev pub with_store_of : StoreWithLists → Kernel → Kernel
with_store_of x k = with_store x.words x.lists k

-- the tasks of these lines of the session are created, one after another, or the first is refused that can't be
unfoldable pub with_tasks : List SessionLine → Kernel → Result Kernel BootRefusal
with_tasks lines k = do
  x ← start_tasks k.disc lines (store_with_lists (image k) k.lists)
  Ok (with_store_of x k)

-- the files of all lines come first, and then the tasks of all lines
unfoldable pub with_lines : List SessionLine → Kernel → Result Kernel BootRefusal
with_lines lines k = do
  j ← with_files lines k
  with_tasks lines j

-- the first ready task runs; the residents' packets were sent before
abbrev pub started : Kernel → Stepped
started k = behind [] (first_events k.lists.residents) (dispatch k)

-- the kernel before its first step; or the first line that is refused, with its code
unfoldable pub boot : Session → Result Stepped BootRefusal
boot s = do
  k ← with_lines s.lines (first_kernel s)
  Ok (started k)
