use Rattle.std.proofs.Common.{◌≡◌, ◌≤◌, ◌-◌, ◌+◌, ◌*◌, ℕ, List, ◌++◌, length}
use Rattle.byte_streams.specs.Pending.{IsGathered}
use Rattle.word_store.specs.Bytes.{byte_at}
use Rattle.assembly.specs.ModuleListing.HunkListing.{lines_from, lines_of_words}
use Rattle.assembly.proofs.module_listing.listing.gather_lines.Given as goal

abbrev pub invariant-loop-place : goal.invariant-loop-place
invariant-loop-place g l =
    (front : List ℕ) × (most : ℕ)
    × record {
      all : front ++ lines_from (byte_at l.code) (4 * length l.code) most l.place ≡ lines_of_words l.code;
      enough : 4 * length l.code ≤ l.place + most;
      text : IsGathered (g.K.Sink.holds l.fn.out) (g.K.Sink.holds l.out) l.fn.pending l.pending front;
      later : g.K.Sink.faults l.fn.out ≤ g.K.Sink.faults l.out;
    }

abbrev pub decreases-loop-place : goal.decreases-loop-place
decreases-loop-place g l = l.end - l.place
