-- The end that sends: what it knows, its turns, and what it does at an acknowledgement.
use Rattle.std.specs.Prelude.{ℕ, ◌+◌, Bool, if◌then◌else◌, nat_lt, Option, Some, None}

-- what the end that sends knows
pub record Sender : Type 0 where
  -- how many bytes were acknowledged
  pub acknowledged : ℕ
  -- the byte that was sent and is not acknowledged yet
  pub outstanding : Option ℕ
  -- the turns since it was last sent
  pub timer : ℕ

-- nothing was sent
abbrev pub new_sender : Sender
new_sender = record { acknowledged = 0; outstanding = None; timer = 0 }

-- ---- a turn

-- the sender after it sent a byte
abbrev pub sender_after_sending : Sender → ℕ → Sender
sender_after_sending s byte = record { acknowledged = s.acknowledged; outstanding = Some byte; timer = 0 }

-- by the byte that is outstanding, and the first that waits: the timer grows, or that byte becomes outstanding, or nothing happens
abbrev pub sender_by : Option ℕ → Option ℕ → Sender → ℕ → Sender
sender_by (Some byte) first s wait = record s { timer = if nat_lt (s.timer + 1) wait then s.timer + 1 else 0 }
sender_by None (Some byte) s wait = sender_after_sending s byte
sender_by None None s wait = s

-- the sender after a turn
abbrev pub sender_after_turn : Sender → Option ℕ → ℕ → Sender
sender_after_turn s first wait = sender_by s.outstanding first s wait

-- by the same two: the outstanding byte is sent again once the timer comes to the wait, and a new one at once
abbrev pub sent_by : Option ℕ → Option ℕ → Sender → ℕ → Option (ℕ × ℕ)
sent_by (Some byte) first s wait = if nat_lt (s.timer + 1) wait then None else Some (s.acknowledged, byte)
sent_by None (Some byte) s wait = Some (s.acknowledged, byte)
sent_by None None s wait = None

-- what is sent in a turn: a byte, after its number
abbrev pub sent_in_turn : Sender → Option ℕ → ℕ → Option (ℕ × ℕ)
sent_in_turn s first wait = sent_by s.outstanding first s wait

-- ---- an acknowledgement

-- whether a count acknowledges more than was acknowledged
abbrev pub is_new_count : Sender → ℕ → Bool
is_new_count s count = nat_lt s.acknowledged count

-- the sender after it: a new one leaves nothing outstanding
abbrev pub sender_after_count : Sender → ℕ → Sender
sender_after_count s count = if is_new_count s count then record s { acknowledged = count; outstanding = None } else s
