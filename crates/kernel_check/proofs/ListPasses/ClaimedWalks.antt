-- Lists whose words were claimed can be walked.
use Rattle.std.proofs.Common.{◌≡◌, ◌↔◌, ℕ, ◌+◌, ◌-◌, ◌<◌, ◌≤◌, ◌||◌, Bool, true, List, [], ◌∷◌, length, map, refl, sym, ap, subst, arith}
use Rattle.std.specs.List.{AllByRecursion, flat_map, list_any}
use Rattle.kernel_lists.specs.LinkedList.Chain.{IsChain}
use Rattle.word_store.specs.Count.{times, words_of}
use Rattle.kernel_lists.specs.LinkedList.Walk.{CanWalk}
use Rattle.word_store.proofs.Counts.{times-append, times-within, times-words_more}
use Rattle.kernel_lists.specs.GetvecChain.Tiling.{Follow, blocks_in}
use Rattle.kernel_lists.proofs.GetvecChain.Tilings.{IsTiled-inside}
use Rattle.kernel_lists.specs.PacketQueue.Queue.{link_of, packet_size, queue_at}
use Rattle.kernel_lists.specs.TaskBlock.Lists.{coroutine_link, coroutines_in, first_coroutine}
use Rattle.kernel_lists.specs.TaskBlock.TaskChain.{task_link, tasks_in}
use Rattle.kernel_lists.specs.Coroutines.CoroutineWords.{coroutine_size}
use Rattle.kernel_model.specs.KernelRecord.KernelRanges.{task_size_in}
use Rattle.kernel_model.specs.KernelRecord.Recovered.{lists_in, task_in}
use Rattle.kernel_model.specs.KernelRecord.Task.{Task, queue_head}
use Rattle.kernel_model.proofs.KernelRecord.BlockStarts.{Tiles-Follow}
use Rattle.store_claims.specs.ListClaims.BlockData.{is_used_data}
use Rattle.store_claims.specs.ListClaims.ListWords.{all_words, chain_words, coroutine_words_at, device_rest, module_rest, module_words_in, queue_words_at, task_list_words, task_rest}
use Rattle.store_claims.specs.ListClaims.ListEnds.{TaskListsEnd}
use Rattle.store_claims.proofs.ListClaims.ListAnswers.{task-size}
use Rattle.store_claims.proofs.AdoptionLaw.BlockData.{lies-in-data}
use Rattle.store_claims.proofs.AdoptionLaw.ClaimableStore.{counted}
use Rattle.kernel_check.specs.ListPasses.ClaimedStore.{IsClaimed}
use Rattle.kernel_check.specs.ListPasses.Private.CanPass.{CanPass}

-- ---- nodes whose words lie in the store

nodes-low : (k n : ℕ) (size : ℕ → ℕ) (ps : List ℕ) → 0 < k → ((p : ℕ) → k ≤ size p) → ((a : ℕ) → 0 < times a (words_of size ps) → a < n) → AllByRecursion (λ p. p + k ≤ n) ps
nodes-low k n size [] some big all = tt
nodes-low k n size (p ∷ ps) some big all =
    let last : p + (k - 1) < n = all (p + (k - 1)) (omega (arith, times-words_more size (p + (k - 1)) p ps, times-within (p + (k - 1)) p (size p) (omega arith) (omega (arith, big p, some)))) in
    (omega (arith, last, some), nodes-low k n size ps some big (λ a more. all a (omega (arith, more, times-words_more size a p ps))))

blocks-low : (s : List ℕ) (n : ℕ) (ts : List ℕ) → ((a : ℕ) → 0 < times a (words_of (task_size_in s) ts) → a < n) → AllByRecursion (λ t. t + task_size_in s t ≤ n) ts
blocks-low s n [] all = tt
blocks-low s n (t ∷ ts) all =
    let size : ℕ = task_size_in s t in
    let last : t + (size - 1) < n = all (t + (size - 1)) (omega (arith, times-words_more (task_size_in s) (t + (size - 1)) t ts, times-within (t + (size - 1)) t size (omega arith) (omega (arith, task-size s t)))) in
    (omega (arith, last, task-size s t), blocks-low s n ts (λ a more. all a (omega (arith, more, times-words_more (task_size_in s) a t ts))))

all-weaker : (P Q : ℕ → Type 0) → ((p : ℕ) → P p → Q p) → (ps : List ℕ) → AllByRecursion P ps → AllByRecursion Q ps
all-weaker P Q more [] all = tt
all-weaker P Q more (p ∷ ps) all = (more p all.0, all-weaker P Q more ps all.1)

module _ (s : List ℕ) (c : IsClaimed s) where
  used-low : (a : ℕ) → is_used_data a (blocks_in s) ≡ true → a < length s
  used-low a used =
      let room : 202 ≤ length s = IsTiled-inside s c.tiled in
      let f : Follow 200 (blocks_in s) (length s - 2) = Tiles-Follow s 200 (blocks_in s) (length s - 2) c.tiled (omega (arith, room)) in
      omega (arith, (lies-in-data 200 (blocks_in s) (length s - 2) a f used).high)

  all-low : (a : ℕ) → 0 < times a (all_words s) → a < length s
  all-low a some = used-low a (c.claims.used a (omega (arith, some, counted s a c.claims.ends.lengths)))

  rest-low : (a : ℕ) → 0 < times a (task_rest s) → a < length s
  rest-low a some = all-low a (omega (arith, some, times-append a (chain_words s) (module_rest s), times-append a (module_words_in s) (task_rest s)))

  pub blocks : AllByRecursion (λ t. t + task_size_in s t ≤ length s) (tasks_in s)
  blocks = blocks-low s (length s) (tasks_in s) (λ a some. all-low a (omega (arith, some, times-append a (chain_words s) (module_rest s))))

  pub heads : AllByRecursion (λ t. t + 23 ≤ length s) (tasks_in s)
  heads = all-weaker (λ t. t + task_size_in s t ≤ length s) (λ t. t + 23 ≤ length s) (λ t low. omega (arith, low, task-size s t)) (tasks_in s) blocks

  pub chain-walk : CanWalk s task_link 101
  chain-walk = record { chain = c.claims.ends.chain; inside = all-weaker (λ t. t + 23 ≤ length s) (λ t. t < length s) (λ t low. omega (arith, low)) (tasks_in s) heads }

  packets-low : (head : ℕ) → ((a : ℕ) → 0 < times a (queue_words_at s head) → a < length s) → AllByRecursion (λ p. p + 5 ≤ length s) (queue_at s head)
  packets-low head low = nodes-low 5 (length s) packet_size (queue_at s head) (omega arith) (λ p. omega arith) low

  queue-walk : (head : ℕ) → IsChain s link_of head (queue_at s head) → ((a : ℕ) → 0 < times a (queue_words_at s head) → a < length s) → CanWalk s link_of head
  queue-walk head chain low = record { chain = chain; inside = all-weaker (λ p. p + 5 ≤ length s) (λ p. p < length s) (λ p l. omega (arith, l)) (queue_at s head) (packets-low head low) }

  coroutines-low : (t : ℕ) → ((a : ℕ) → 0 < times a (coroutine_words_at s t) → a < length s) → AllByRecursion (λ k. k + 10 ≤ length s) (coroutines_in s t)
  coroutines-low t low = nodes-low 10 (length s) coroutine_size (coroutines_in s t) (omega arith) (λ p. omega arith) low

  coroutine-walk : (t : ℕ) → IsChain s coroutine_link (first_coroutine t) (coroutines_in s t) → ((a : ℕ) → 0 < times a (coroutine_words_at s t) → a < length s) → CanWalk s coroutine_link (first_coroutine t)
  coroutine-walk t chain low = record { chain = chain; inside = all-weaker (λ p. p + 10 ≤ length s) (λ p. coroutine_link p < length s) (λ p l. omega (arith, l)) (coroutines_in s t) (coroutines-low t low) }

  tasks-pass : (ts : List ℕ) → AllByRecursion (TaskListsEnd s) ts → AllByRecursion (λ t. t + task_size_in s t ≤ length s) ts → AllByRecursion (λ t. t + 23 ≤ length s) ts
      → ((a : ℕ) → 0 < times a (flat_map (task_list_words s) ts) → a < length s) → AllByRecursion (CanPass s) ts
  tasks-pass [] ends whole heads low = tt
  tasks-pass (t ∷ ts) ends whole heads low =
      let queue : (a : ℕ) → 0 < times a (queue_words_at s (queue_head t)) → a < length s = λ a some. low a (omega (arith, some, times-append a (task_list_words s t) (flat_map (task_list_words s) ts), times-append a (queue_words_at s (queue_head t)) (coroutine_words_at s t))) in
      let own : (a : ℕ) → 0 < times a (coroutine_words_at s t) → a < length s = λ a some. low a (omega (arith, some, times-append a (task_list_words s t) (flat_map (task_list_words s) ts), times-append a (queue_words_at s (queue_head t)) (coroutine_words_at s t))) in (
        record {
          block = heads.0;
          whole = whole.0;
          queue = queue-walk (queue_head t) ends.0.queue queue;
          packets = packets-low (queue_head t) queue;
          coroutines = coroutine-walk t ends.0.coroutines own;
          bodies = coroutines-low t own;
        },
        tasks-pass ts ends.1 whole.1 heads.1 (λ a some. low a (omega (arith, some, times-append a (task_list_words s t) (flat_map (task_list_words s) ts)))),
      )

  pub can-pass : AllByRecursion (CanPass s) (tasks_in s)
  can-pass = tasks-pass (tasks_in s) c.claims.ends.tasks blocks heads (λ a some. rest-low a (omega (arith, some, times-append a (flat_map (task_list_words s) (tasks_in s)) (device_rest s))))

-- ---- walks over the tasks

-- what holds of the tasks that are left holds of all exactly where it holds of all; and a fact is known of each
pub record IsGoing (P Q : ℕ → Type 0) (rest all : List ℕ) : Type 0 where
  pub left : AllByRecursion P rest → AllByRecursion P all
  pub whole : AllByRecursion P all → AllByRecursion P rest
  pub known : AllByRecursion Q rest

pub going : (P Q : ℕ → Type 0) (ts all : List ℕ) → ts ≡ all → AllByRecursion Q all → IsGoing P Q ts all
going P Q ts all is known = record { left = subst (AllByRecursion P) is; whole = subst (AllByRecursion P) (sym is); known = subst (AllByRecursion Q) (sym is) known }

module _ (P Q : ℕ → Type 0) (bs all : List ℕ) (t : ℕ) (rest : List ℕ) (g : IsGoing P Q bs all) (is : bs ≡ t ∷ rest) where
  pub first : AllByRecursion P all → P t
  first h = (subst (AllByRecursion P) is (g.whole h)).0

  pub known-first : Q t
  known-first = (subst (AllByRecursion Q) is g.known).0

  pub goes : P t → IsGoing P Q rest all
  goes h = record {
    left = λ k. g.left (subst (AllByRecursion P) (sym is) (h, k));
    whole = λ k. (subst (AllByRecursion P) is (g.whole k)).1;
    known = (subst (AllByRecursion Q) is g.known).1;
  }

pub gone : (P Q : ℕ → Type 0) (bs all : List ℕ) → IsGoing P Q bs all → bs ≡ [] → AllByRecursion P all
gone P Q bs all g none = g.left (subst (AllByRecursion P) (sym none) tt)

-- what holds of what is read off at addresses
pub of-map : {X : Type 0} (P : X → Type 0) (f : ℕ → X) (ts : List ℕ) → AllByRecursion (λ t. P (f t)) ts ↔ AllByRecursion P (map f ts)
of-map P f [] = (λ h. tt, λ h. tt)
of-map P f (t ∷ ts) = (λ h. (h.0, (of-map P f ts).0 h.1), λ h. (h.0, (of-map P f ts).1 h.1))

pub of-tasks : (s : List ℕ) (P : Task → Type 0) → AllByRecursion (λ t. P (task_in s t)) (tasks_in s) ↔ AllByRecursion P (lists_in s).tasks
unfolding lists_in
of-tasks s P = of-map P (task_in s) (tasks_in s)

pub in-lists : (s : List ℕ) (f : Task → Bool) → list_any (λ t. f (task_in s t)) (tasks_in s) ≡ list_any f (lists_in s).tasks
unfolding lists_in
in-lists s f = any-map (tasks_in s)
  where
    any-map : (ts : List ℕ) → list_any (λ t. f (task_in s t)) ts ≡ list_any f (map (task_in s) ts)
    any-map [] = refl
    any-map (t ∷ ts) = ap (λ b. f (task_in s t) || b) (any-map ts)

pub all-any : (ts : List ℕ) → AllByRecursion (λ t. Unit {0}) ts
all-any [] = tt
all-any (t ∷ ts) = (tt, all-any ts)
