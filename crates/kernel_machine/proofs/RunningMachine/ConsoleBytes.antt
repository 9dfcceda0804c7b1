-- How many bytes a turn of the console shows.
use Rattle.std.proofs.Common.{◌≡◌, ℕ, ◌+◌, ◌-◌, ◌≤◌, ◌&&◌, ◌||◌, ◌++◌, List, [], ◌∷◌, length, Bool, true, false, not, Option, Some, None, cond, eqb, leb, ltb, take, is_some, refl, ap, ◌∙◌, arith}
use Rattle.std.proofs.lemmas.Bool.{and_parts, leb-true}
use Rattle.std.proofs.lemmas.List.{length-append}
use Rattle.std.proofs.lemmas.List.FromFn.{length-map-range_with_len}
use Rattle.kernel_lists.specs.PacketQueue.QueueWords.{QueuedPacket}
use Rattle.kernel_model.specs.KernelRecord.Image.{image}
use Rattle.kernel_model.specs.KernelRecord.Kernel.{Console, Kernel}
use Rattle.kernel_model.specs.KernelRecord.Lists.{Lists}
use Rattle.kernel_model.specs.KernelRecord.ValidQueues.{is_key_packet}
use Rattle.resident_tasks.specs.ResidentRequests.Buffers.{byte_in, bytes_in, is_count, is_readable, lies_inside}
use Rattle.resident_tasks.specs.ResidentRequests.Answers.{returned}
use Rattle.resident_tasks.specs.ResidentRequests.Requests.{first_request, taken, words_taken, work}
use Rattle.resident_tasks.specs.declared.resident_requests.requests.Request.{Request}
use Rattle.resident_tasks.specs.ConsoleHandler.ConsoleTurn.{answer_of, bytes_of, key_of, keys_sent, treated, with_first, with_key, with_keys_sent, with_request, with_taken}
use Rattle.resident_tasks.specs.ConsoleHandler.Deliveries.{delivered, delivery, handed, with_read}
use Rattle.resident_tasks.specs.ConsoleHandler.KeyPacket.{keys_taken}
use Rattle.resident_tasks.specs.ConsoleHandler.Line.{flags_of, is_printed, key, keyed, with_end, with_finish, without_end}
use Rattle.resident_tasks.specs.ConsoleHandler.TurnParts.{ConsoleTurn, and_then, begun}
use Rattle.resident_tasks.specs.ConsoleHandler.Reads.{put_off, read_taken, words_read_from}
use Rattle.shell.specs.Modes.{awaited}
use Rattle.kernel_machine.specs.KernelSteps.ResidentSteps.{console_step}

few-echoed : (c : Console) (b : ℕ) → length (key c b).echo ≤ 3
few-echoed c b = on (is_printed b) (eqb b 8 || eqb b 127) (eqb b 10 || eqb b 13)
  where
    appended : (d : Bool) → length (cond d (keyed (record c { line = c.line ++ b ∷ [] }) (b ∷ []) 0) (keyed c (7 ∷ []) 0)).echo ≤ 3
    appended true = omega arith
    appended false = omega arith

    rubbed : (d : Bool) → length (cond d (keyed c [] 0) (keyed (record c { line = take (length c.line - 1) c.line }) (8 ∷ 32 ∷ 8 ∷ []) 0)).echo ≤ 3
    rubbed true = omega arith
    rubbed false = omega arith

    on : (x y z : Bool) → length (cond x (with_end b c) (cond y (without_end c) (cond z (with_finish c) (keyed c [] (flags_of b))))).echo ≤ 3
    on true y z = appended (ltb (length c.line) 120)
    on false true z = rubbed (eqb (length c.line) 0)
    on false false true = omega arith
    on false false false = omega arith

few-written : (s : List ℕ) (r : Request) → length (bytes_of s r) ≤ 4096
few-written s r = on (eqb r.kind 2)
  where
    counted : (b : Bool) → is_readable s r.first r.second ≡ b → length (cond b (bytes_in s r.first 0 r.second) []) ≤ 4096
    counted true e =
        let count = and_parts (is_count r.second) (lies_inside s r.first r.second) e in
        let most = and_parts (leb 1 r.second) (leb r.second 4096) count.0 in
        omega (arith, length-map-range_with_len (byte_in s r.first) 0 r.second, leb-true r.second 4096 most.1)
    counted false e = omega arith

    on : (b : Bool) → length (cond b (cond (is_readable s r.first r.second) (bytes_in s r.first 0 r.second) []) []) ≤ 4096
    on true = counted (is_readable s r.first r.second) refl
    on false = omega arith

-- ---- the parts of a turn

request-bytes : (s : List ℕ) (l : Lists) (r : Request) (g : ConsoleTurn) → length (with_request s l r g).bytes ≤ length g.bytes + 4096
request-bytes s l r g = on (eqb r.kind 1)
  where
    on : (b : Bool)
        → length (cond b (and_then g (put_off s l r).lists [] ((taken g.lists).events ++ (put_off s l r).events))
        (record (and_then g (returned l r (answer_of s r)).lists [] ((taken g.lists).events ++ (returned l r (answer_of s r)).events)) { bytes = g.bytes ++ bytes_of s r })).bytes ≤ length g.bytes + 4096
    on true = omega arith
    on false = omega (arith, length-append g.bytes (bytes_of s r), few-written s r)

first-bytes : (g : ConsoleTurn) → length (with_first g).bytes ≤ length g.bytes + 4096
first-bytes g = on (first_request (words_taken g.words g.lists) (work g.lists))
  where
    on : (o : Option Request) → length (with_taken o (words_taken g.words g.lists) (taken g.lists).lists g).bytes ≤ length g.bytes + 4096
    on None = omega arith
    on (Some r) = request-bytes (words_taken g.words g.lists) (taken g.lists).lists r g

key-bytes : (id : ℕ) (g : ConsoleTurn) → length (with_key id g).bytes ≤ length g.bytes + 4096
key-bytes id g =
    let b : ℕ = key_of (keys_taken g.lists).answer in
    omega (arith, length-append g.bytes (key g.console b).echo, few-echoed g.console b)

treated-bytes : (id : ℕ) (ps : List QueuedPacket) (g : ConsoleTurn) → length (treated id ps g).bytes ≤ length g.bytes + 4096
treated-bytes id [] g = omega arith
treated-bytes id (p ∷ ps) g = on (is_key_packet g.lists p)
  where
    on : (b : Bool) → length (cond b (with_key id g) (with_first g)).bytes ≤ length g.bytes + 4096
    on true = key-bytes id g
    on false = first-bytes g

handed-bytes : (g : ConsoleTurn) → (handed g).bytes ≡ g.bytes
handed-bytes g = on (first_request (words_read_from g.lists.pending g.words) g.lists.pending)
  where
    on : (o : Option Request) → (with_read o (words_read_from g.lists.pending g.words) (read_taken g.lists).lists g).bytes ≡ g.bytes
    on None = refl
    on (Some r) = refl

delivered-bytes : (ps : List QueuedPacket) (g : ConsoleTurn) → (delivered ps g).bytes ≡ g.bytes
delivered-bytes [] g = refl
delivered-bytes (p ∷ ps) g = on g.console.finished (delivered-bytes ps (handed g) ∙ handed-bytes g)
  where
    on : (b : Bool) → (delivered ps (handed g)).bytes ≡ g.bytes → (cond b (delivered ps (handed g)) g).bytes ≡ g.bytes
    on true more = more
    on false more = refl

sent-bytes : (g : ConsoleTurn) → (with_keys_sent g).bytes ≡ g.bytes
sent-bytes g = on (is_some g.lists.key && not g.console.finished)
  where
    on : (b : Bool) → (cond b (keys_sent g) g).bytes ≡ g.bytes
    on true = refl
    on false = refl

pub console-bytes : (k : Kernel) → length (console_step k).bytes ≤ 4096
console-bytes k =
    let g : ConsoleTurn = begun (image k) k.lists k.console k.shell.line in
    let t : ConsoleTurn = treated (awaited k.shell.mode) (work k.lists) g in
    omega (arith, ap length (sent-bytes (delivery t)), ap length (delivered-bytes t.lists.pending t), treated-bytes (awaited k.shell.mode) (work k.lists) g)
