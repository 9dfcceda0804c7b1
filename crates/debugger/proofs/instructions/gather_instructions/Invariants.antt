use Rattle.std.proofs.Common.{◌≡◌, ◌≤◌, ◌-◌, ◌+◌, ◌^◌, ℕ, List, ◌++◌}
use Rattle.byte_streams.specs.Pending.{IsGathered}
use Rattle.word_store.specs.Bytes.{byte_at}
use Rattle.assembly.specs.ModuleListing.HunkListing.{lines_from}
use Rattle.debugger.specs.Texts.{code_end, instructions_text}
use Rattle.debugger.proofs.instructions.gather_instructions.Given as goal

abbrev pub invariant-loop : goal.invariant-loop
invariant-loop g l =
    (front : List ℕ)
    × record {
      all : front ++ lines_from (byte_at l.store) (code_end l.store) (l.count - l.counter) l.place ≡ instructions_text l.from l.count l.store;
      text : IsGathered (g.K.Sink.holds l.fn.out) (g.K.Sink.holds l.out) l.fn.pending l.pending front;
      short : l.place ≤ 2 ^ 32 + 5;
      later : g.K.Sink.faults l.fn.out ≤ g.K.Sink.faults l.out;
    }
