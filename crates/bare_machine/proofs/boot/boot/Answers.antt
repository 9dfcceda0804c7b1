use Rattle.std.proofs.Common.{◌∙◌, ◌≤◌, ℕ, ap, arith, length, replicate, subst, sym}
use Rattle.std.specs.Prelude.{IsTrue}
use Rattle.std.proofs.lemmas.List.{length-replicate}
use Rattle.kernel_model.specs.KernelRecord.Ranges.{is_store_size}
use Rattle.bare_machine.proofs.CodeLines.{with_lines-length}
use Rattle.bare_machine.proofs.WordCounts.{sized-most}
use Rattle.bare_machine.proofs.boot.boot.Goals as goal

pub load_lines-requires : goal.load_lines-requires
load_lines-requires c =
    subst (λ n. n ≤ 4194304) (sym (ap length c.in_ok-store.ensures ∙ length-replicate c.args.session.now.store 0)) (sized-most c.args.session.now.store c.requires)

pub from_parts-requires : goal.from_parts-requires
from_parts-requires c =
    record {
      byte = omega arith;
      steps = omega arith;
      size =
          subst (λ n. IsTrue (is_store_size 2 n))
          (sym (with_lines-length c.as_slice.result.now c.in_ok-store.store 800 c.load_lines.new.store c.in_ok-load_lines.ensures ∙ ap length c.in_ok-store.ensures ∙ length-replicate c.args.session.now.store 0)) c.requires;
    }
