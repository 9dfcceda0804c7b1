use Rattle.std.proofs.Common.{◌∙◌, false, replicate, ap}
use Rattle.store_claims.proofs.AdoptionLaw.OwnedOnce.{owned-once}
use Rattle.store_claims.proofs.AdoptionLaw.AllPasses.{holds-lists, passes}
use Rattle.kernel_check.proofs.WholeCheck.{all-owned, owned-valid, is-shut, refuse}
use Rattle.kernel_check.proofs.check.holds_claimed.Goals as goal

pub open_starts-requires-clause-shut : goal.open_starts-requires-clause-shut
open_starts-requires-clause-shut c = is-shut c.args.store.now c.in_ok-starts.starts (c.in_ok-starts.ensures ∙ ap (λ n. replicate n false) c.size.ensures)

pub open_modules-requires-clause-shut : goal.open_modules-requires-clause-shut
open_modules-requires-clause-shut c = is-shut c.args.store.now c.in_ok-modules.modules (c.in_ok-modules.ensures ∙ ap (λ n. replicate n false) c.size-2.ensures)

pub are_valid_coroutines-requires-clause-shut : goal.are_valid_coroutines-requires-clause-shut
are_valid_coroutines-requires-clause-shut c = is-shut c.args.store.now c.in_ok-own.own (c.in_ok-own.ensures ∙ ap (λ n. replicate n false) c.size-3.ensures)

pub returns-then-not-holds_table : goal.returns-then-not-holds_table
returns-then-not-holds_table c = refuse c.args.store.now _ c.holds_table.result c.holds_table.ensures c.if-not-holds_table.true (λ p. p.table)

pub returns-then-not-is_valid_running : goal.returns-then-not-is_valid_running
returns-then-not-is_valid_running c = refuse c.args.store.now _ c.is_valid_running.result c.is_valid_running.ensures c.if-not-is_valid_running.true (λ p. p.running)

pub returns-then-not-holds_words_of_tasks : goal.returns-then-not-holds_words_of_tasks
returns-then-not-holds_words_of_tasks c = refuse c.args.store.now _ c.holds_words_of_tasks.result c.holds_words_of_tasks.ensures c.if-not-holds_words_of_tasks.true (λ p. p.heads)

pub returns : goal.returns
returns c = (
  λ t. holds-lists c.args.store.now (record {
    root = c.requires.root;
    tiled = c.requires.tiled;
    ends = c.requires.claims.ends;
    owns = owned-once c.args.store.now c.requires.root c.requires.tiled c.requires.claims.once c.requires.claims.used;
    modules = c.are_valid_modules.ensures.0 c.if-not-are_valid_modules.false;
    tasks = c.are_valid_tasks.ensures.0 c.if-not-are_valid_tasks.false;
    table = c.holds_table.ensures.0 c.if-not-holds_table.false;
    running = c.is_valid_running.ensures.0 c.if-not-is_valid_running.false;
    coroutines = owned-valid c.args.store.now (c.are_valid_coroutines.ensures.0 c.if-not-are_valid_coroutines.false);
    heads = c.holds_words_of_tasks.ensures.0 c.if-not-holds_words_of_tasks.false;
    resident_block = c.has_resident_block.ensures.0 c.if-not-has_resident_block.false;
    queues = c.are_valid_queues.ensures.0 c.if-not-are_valid_queues.false;
    resident_words = c.holds_resident_words.ensures.0 t;
  }),
  λ h. c.holds_resident_words.ensures.1 (passes c.args.store.now h).resident_words,
)

pub are_valid_queues-requires-clause-known : goal.are_valid_queues-requires-clause-known
are_valid_queues-requires-clause-known c = record {
  claimed = c.requires;
  tasks = c.are_valid_tasks.ensures.0 c.if-not-are_valid_tasks.false;
  table = c.holds_table.ensures.0 c.if-not-holds_table.false;
}

pub are_valid_queues-requires-clause-running : goal.are_valid_queues-requires-clause-running
are_valid_queues-requires-clause-running c = c.is_valid_running.ensures.0 c.if-not-is_valid_running.false

pub holds_words_of_tasks-requires-clause-own : goal.holds_words_of_tasks-requires-clause-own
holds_words_of_tasks-requires-clause-own c = c.are_valid_coroutines.ensures.0 c.if-not-are_valid_coroutines.false

pub returns-then-not-are_valid_coroutines : goal.returns-then-not-are_valid_coroutines
returns-then-not-are_valid_coroutines c =
    refuse c.args.store.now _ c.are_valid_coroutines.result c.are_valid_coroutines.ensures c.if-not-are_valid_coroutines.true (λ p. all-owned c.args.store.now c.requires p)
