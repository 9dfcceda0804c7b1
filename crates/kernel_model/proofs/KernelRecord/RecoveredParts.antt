-- Packets, coroutines and modules are what a store that holds their words says.
use Rattle.std.proofs.Common.{◌≡◌, ℕ, suc, ◌+◌, ◌<◌, List, [], ◌∷◌, length, map, get_or, sym, ap, ◌∙◌, arith, add-zero}
use Rattle.std.specs.Prelude.{slice_range}
use Rattle.std.specs.List.{AllByRecursion}
use Rattle.word_store.proofs.Counts.{times-within}
use Rattle.kernel_lists.specs.OwnedWords.Owned.{AreInside, Holds}
use Rattle.kernel_lists.proofs.OwnedWords.RowWords.{Holds-range, owners-row}
use Rattle.kernel_lists.specs.HunkLoader.HeldModules.{HeldModules, LoadedModule, module_address, module_words}
use Rattle.kernel_lists.specs.HunkLoader.ModuleHunks.{lengths_in}
use Rattle.kernel_lists.proofs.HunkLoader.HeldModuleLists.{held-modules}
use Rattle.kernel_lists.specs.PacketQueue.QueueWords.{HeldQueue, QueuedPacket, address_of as packet_address, packet_words}
use Rattle.kernel_lists.proofs.PacketQueue.HeldQueues.{held-queue}
use Rattle.kernel_lists.specs.TaskBlock.Lists.{modules_in}
use Rattle.kernel_lists.specs.Coroutines.CoroutineExchanges.{HoldsCoroutines, TaskCoroutines}
use Rattle.kernel_lists.specs.Coroutines.HeldCoroutines.{Coroutine, address_of as coroutine_address, coroutine_words}
use Rattle.kernel_lists.proofs.Coroutines.CoroutineLists.{Built}
use Rattle.kernel_lists.proofs.Coroutines.HeldCoroutineLists.{held-coroutines}
use Rattle.kernel_model.specs.KernelRecord.Recovered.{coroutine_in, coroutines_of, module_in, packet_in, packets_at}
use Rattle.kernel_model.proofs.KernelRecord.EachMember.{held-each, holds-each, map-back}

-- ---- packets

packet-back : (s : List ℕ) (p : QueuedPacket) (n : ℕ) → Holds s (packet_words p n) → packet_in s p.address ≡ p
packet-back s p n own =
    let is : ◌≡◌ {A = QueuedPacket} (packet_in s p.address) p = λ i. record {
      address = p.address;
      sender = own.1.0 i;
      kind = own.1.1.0 i;
      res1 = own.1.1.1.0 i;
      last = own.1.1.1.1.0 i;
    } in
    is

pub queue-back : (s : List ℕ) (head : ℕ) (ps : List QueuedPacket) → HeldQueue s head ps → packets_at s head ≡ ps
queue-back s head ps h =
    ap (map (packet_in s)) (held-queue s head ps h).list
    ∙ map-back (packet_in s) packet_address ps (holds-each packet_address packet_words s (λ p. packet_in s p.address ≡ p) (packet-back s) ps 0 h.holds.1)

-- ---- coroutines

coroutine-back : (s : List ℕ) (t : ℕ) (act : List ℕ) (c : Coroutine) (n : ℕ) → Holds s (coroutine_words t act c n) → coroutine_in s c.address ≡ c
coroutine-back s t act c n own =
    let first : get_or s c.address 0 ≡ c.saved_p = ap (λ z. get_or s z 0) (sym (add-zero c.address)) ∙ own.0 in
    let is : ◌≡◌ {A = Coroutine} (coroutine_in s c.address) c = λ i. record {
      address = c.address;
      function = own.1.1.1.0 i;
      highest = own.1.1.1.1.0 i;
      saved_p = first i;
      saved_pc = own.1.1.1.1.1.1.0 i;
    } in
    is

pub coroutines-back : (s : List ℕ) (t : ℕ) (k : TaskCoroutines) → HoldsCoroutines s t k → coroutines_of s t ≡ k
coroutines-back s t k h =
    let b : Built s t (map coroutine_address k.list) k.active = held-coroutines s t k.active k.list h.coroutines in
    let list : map (coroutine_in s) (map coroutine_address k.list) ≡ k.list =
    map-back (coroutine_in s) coroutine_address k.list
    (holds-each coroutine_address (coroutine_words t k.active) s (λ c. coroutine_in s c.address ≡ c) (coroutine-back s t k.active) k.list 0 h.coroutines.held.holds.1)
    in
    let all = ap (map (coroutine_in s)) b.list ∙ list in
    let is : ◌≡◌ {A = TaskCoroutines} (coroutines_of s t) k = λ i. record { list = all i; active = b.active i; root_p = h.root_p i; root_pc = h.root_pc i } in
    is

-- ---- modules

module-back : (s : List ℕ) (m : LoadedModule) (n : ℕ) → Holds s (module_words m n) → AreInside s (module_words m n) → module_in s m.address ≡ m
module-back s m n own inside =
    let last : ℕ = m.address + 1 + length m.lengths in
    let fits : last < length s =
    inside last (omega (
      arith,
      owners-row last m.address 1 (length m.lengths ∷ m.lengths),
      times-within last (m.address + 1) (suc (length m.lengths)) (omega arith) (omega arith),
    ))
    in
    let lengths : lengths_in s m.address ≡ m.lengths =
    ap (λ z. slice_range s (m.address + 2) (m.address + 2 + z)) own.1.0 ∙ Holds-range s m.address 2 m.lengths own.1.1 (omega (arith, fits))
    in
    let is : ◌≡◌ {A = LoadedModule} (module_in s m.address) m = λ i. record { address = m.address; lengths = lengths i } in
    is

pub modules-back : (s : List ℕ) (ms : List LoadedModule) → HeldModules s ms → map (module_in s) (modules_in s) ≡ ms
modules-back s ms h =
    ap (map (module_in s)) (held-modules s ms h).list
    ∙ map-back (module_in s) module_address ms
    (held-each module_address module_words s (λ m. Unit {0}) (λ m. module_in s m.address ≡ m) (λ m n own apart inside all. module-back s m n own inside) ms 0 h.held.holds.1
    (λ a. omega (arith, h.held.apart a)) (λ a some. h.held.inside a (omega (arith, some))) (anything ms))
  where
    anything : (ms : List LoadedModule) → AllByRecursion (λ m. Unit {0}) ms
    anything [] = tt
    anything (m ∷ ms) = (tt, anything ms)
