-- The call that gives a block back.
use Rattle.std.specs.Prelude.{◌≡◌, ℕ, ◌==◌, ◌&&◌, if◌then◌else◌, Bool, true, false, not, Option, Some, None, Result, Ok, Err, List, [], ◌∷◌, is_some}
use Rattle.std.specs.List.{list_any, range_with_len}
use Rattle.kernel_lists.specs.PacketQueue.QueueWords.{QueuedPacket}
use Rattle.kernel_lists.specs.declared.getvec_chain.pieces.Block.{Block}
use Rattle.kernel_lists.specs.GetvecChain.Block.{has_data}
use Rattle.kernel_lists.specs.GetvecChain.Give.{given}
use Rattle.kernel_lists.specs.GetvecChain.Tiling.{used_at}
use Rattle.kernel_model.specs.KernelRecord.BlockUse.{use_of_data}
use Rattle.kernel_model.specs.declared.kernel_record.uses.Use.{Use}
use Rattle.kernel_model.specs.declared.kernel_record.uses.Use.TheVariants.{Free, OfCoroutine, OfModule, OfResidents, OfTask, User}
use Rattle.kernel_model.specs.KernelRecord.Changes.{with_blocks}
use Rattle.kernel_model.specs.KernelRecord.Lists.{Lists, queued}
use Rattle.kernel_calls.specs.CallAnswers.CallChange.{CallChange, done, unless_refused}

-- a block of a user, and of nothing that the lists have
abbrev pub is_user : Use → Bool
is_user Free = false
is_user User = true
is_user OfTask = false
is_user OfModule = false
is_user OfCoroutine = false
is_user OfResidents = false

-- a used block of a user begins its data there
abbrev pub is_users_block : Lists → ℕ → Bool
is_users_block l v = is_user (use_of_data l v) && is_some (used_at v l.blocks)

-- the used block of a user whose data begin there, or the code where there is none
abbrev pub IsUsersBlock : Lists → ℕ → Result Block ℕ → Type 0
IsUsersBlock l v (Ok b) = (used_at v l.blocks ≡ Some b) × (use_of_data l v ≡ User)
IsUsersBlock l v (Err code) = (is_users_block l v ≡ false) × (code ≡ 6)

-- whether one of the words 0 to 4 of a packet lies in the data of a block
abbrev pub lies_in : Block → QueuedPacket → Bool
lies_in b p = list_any (has_data b) (range_with_len p.address 5)

-- a word of a queued packet lies in the block, if there is one
abbrev pub holds_packet : Lists → Option Block → Bool
holds_packet l None = false
holds_packet l (Some b) = list_any (lies_in b) (queued l)

-- the used block whose data begin at v holds a word of a queued packet
abbrev pub has_packet_in : Lists → ℕ → Bool
has_packet_in l v = holds_packet l (used_at v l.blocks)

-- the tests of the call: the block is a user's (code 6), and no packet lies in it (code 7)
abbrev pub freevec_tests : Lists → ℕ → List (Bool × ℕ)
freevec_tests l v = (is_users_block l v, 6) ∷ (not (has_packet_in l v), 7) ∷ []

-- the lists once the block whose data begin at v is free, and is joined with free blocks beside it
abbrev pub with_given : ℕ → Lists → Lists
with_given v l = with_blocks (given v l.blocks) l

-- no block begins at 0, and to give none back is no error
abbrev pub freevec : Lists → ℕ → CallChange
freevec l v = if v == 0 then done l else unless_refused (freevec_tests l v) l (done (with_given v l))
