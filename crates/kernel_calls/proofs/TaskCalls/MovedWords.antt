-- A guest goes out of the chain, gets another priority, and comes in again: what the store holds then.
use Rattle.std.proofs.Common.{◌≡◌, ◌≢◌, ℕ, ◌+◌, ◌<◌, ◌≤◌, List, [], ◌∷◌, ◌++◌, length, get_or, set, map, cond, eqb, true, refl, sym, ap, ◌∙◌, subst, arith, inl, inr}
use Rattle.std.specs.List.{AllByRecursion}
use Rattle.std.proofs.lemmas.Bool.{cases_eq, eq-eqb, or_left, or_right}
use Rattle.word_store.specs.Count.{times}
use Rattle.kernel_lists.specs.LinkedList.Places.{has}
use Rattle.word_store.proofs.Counts.{hit-other, hit-same, times-append}
use Rattle.kernel_lists.proofs.LinkedList.MappedLists.{map-append}
use Rattle.kernel_lists.specs.OwnedWords.Exchange.{Exchange}
use Rattle.kernel_lists.specs.OwnedWords.LinkedWords.{first_of, headed_words, linked_words}
use Rattle.kernel_lists.specs.OwnedWords.Owned.{Holds, Pairs, owners, written}
use Rattle.kernel_lists.specs.OwnedWords.Written.{IsWritten}
use Rattle.kernel_lists.proofs.OwnedWords.Exchanges.{exchange-left, exchange-right, exchange-row}
use Rattle.kernel_lists.proofs.OwnedWords.OwnedWords.{Holds-left, Holds-right, Holds-same, length-written, written-other}
use Rattle.kernel_lists.proofs.OwnedWords.WrittenWords.{ordered-hold, writes-hold}
use Rattle.kernel_lists.specs.GetvecChain.BlockWords.{blocks_words}
use Rattle.kernel_lists.specs.HunkLoader.ModuleExchanges.{modules_words}
use Rattle.kernel_lists.specs.TaskBlock.ChainWords.{InsertExchange, UnlinkExchange, absent_words, entries, listed_words, present_words}
use Rattle.kernel_lists.specs.TaskBlock.HeldTasks.{HeldTasks, address_with}
use Rattle.kernel_lists.specs.TaskBlock.Moves.{HasNewPriority, with_priority as priority_set, with_task as task_in, without_task}
use Rattle.kernel_lists.specs.TaskBlock.RootWords.{first_task}
use Rattle.kernel_lists.specs.TaskBlock.TaskChain.{tasks_in}
use Rattle.kernel_lists.proofs.TaskBlock.ChainExchanges.{insert-exchange, unlink-exchange}
use Rattle.kernel_lists.proofs.TaskBlock.NewTask.{new-priority}
use Rattle.kernel_model.specs.KernelRecord.ChangedStore.{IsChanged}
use Rattle.kernel_model.specs.KernelRecord.Changes.{with_tasks}
use Rattle.kernel_model.specs.KernelRecord.HoldsLists.{HoldsLists}
use Rattle.kernel_model.specs.KernelRecord.Lists.{Lists, address_of_task}
use Rattle.kernel_model.specs.KernelRecord.MovedTask.{with_moved_task, with_priority}
use Rattle.kernel_model.specs.KernelRecord.Owned.{device_words, owned}
use Rattle.kernel_model.specs.KernelRecord.Residents.{resident_words}
use Rattle.kernel_model.specs.KernelRecord.Root.{root_words}
use Rattle.kernel_model.specs.KernelRecord.Task.{Task, is_guest_id, name_words, other_words, state_words, task_address, task_id, task_priority, task_words}
use Rattle.kernel_model.specs.KernelRecord.ValidLists.{AreValid}
use Rattle.kernel_model.specs.KernelRecord.Versions.{highest_id_of}
use Rattle.kernel_model.proofs.KernelRecord.AllThings.{all-beside}
use Rattle.kernel_model.proofs.KernelRecord.ChainRules.{times-id}
use Rattle.kernel_model.proofs.KernelRecord.MovedTask.{moved_task-valid}
use Rattle.kernel_model.proofs.KernelRecord.OwnedParts.{holds-parts}
use Rattle.kernel_model.proofs.KernelRecord.OwnerCounts.{owners-linked_between, owners-task_between}
use Rattle.kernel_model.proofs.KernelRecord.RootCounts.{Holds-entry, RootWords, highest-high, root-held}
use Rattle.kernel_model.proofs.KernelRecord.TaskKind.{are_tasks}
use Rattle.kernel_calls.proofs.TaskCalls.AroundChain.{address_with-out, around, around-count, around-exchange, listed, owned-around, owned-chain}
use Rattle.kernel_calls.proofs.CallAnswers.FoundTask.{reads}
use Rattle.kernel_calls.proofs.TaskCalls.Held.{behind_state}

module _ (s : List ℕ) (l : Lists) (front : List Task) (x : Task) (back : List Task) (pri : ℕ) (h : HoldsLists s l) (is : l.tasks ≡ front ++ x ∷ back) where
  abbrev words : Task → ℕ → Pairs
  words = task_words l.version

  abbrev whole : List Task
  whole = front ++ x ∷ back

  abbrev rest : List Task
  rest = front ++ back

  abbrev y : Task
  y = with_priority pri x

  abbrev n : ℕ
  n = first_of task_address back 0

  abbrev there : Pairs
  there = present_words task_address task_id front x

  abbrev gone : Pairs
  gone = absent_words task_address task_id front x back

  abbrev own : Pairs
  own = (x.address + 2, pri) ∷ []

  -- the store with the task out of the chain, and of the other priority
  abbrev out : List ℕ
  out = priority_set s x.address pri

  held : HeldTasks task_address task_id words s whole
  held = subst (HeldTasks task_address task_id words s) is (reads s l h).held_tasks

  root : RootWords s l
  root = root-held s l (address_of_task l l.running) (holds-parts s l h.holds).root

  unlinked : UnlinkExchange task_address task_id words s (without_task s x.address) front x back
  unlinked = unlink-exchange task_address task_id words (are_tasks l.version) s front x back held

  out-is : out ≡ written (own ++ gone) s
  out-is = ap (λ z. set z (x.address + 2) pri) unlinked.writes

  first-exchange : Exchange (listed l whole) (listed l rest) (there ++ words x n) gone
  first-exchange =
      subst (λ top. Exchange (listed_words task_address task_id words top whole) (listed_words task_address task_id words top rest) (there ++ words x n) gone) root.highest unlinked.exchange

  owned-before : owned l ≡ around l (listed l whole)
  owned-before = owned-around l ∙ ap (λ ts. around l (listed l ts)) is

  holds-before : Holds s (around l (listed l whole))
  holds-before = subst (Holds s) owned-before h.holds

  -- its words are owned besides those of the others
  first-count : (a : ℕ) → owners a (around l (listed l whole)) ≡ owners a (around l (listed l rest)) + owners a (words x 0)
  first-count a = around-count l a (listed l whole) (listed l rest) (owners a (words x 0)) (owners-task_between a l.version (highest_id_of l.version) front x back)

  apart : (a : ℕ) → owners a (around l (listed l rest)) + owners a (words x 0) ≤ 1
  apart a = omega (arith, first-count a, h.valid.owns.apart a, ap (owners a) owned-before)

  inside : (a : ℕ) → 0 < owners a (around l (listed l rest)) + owners a (words x 0) → a < length s
  inside a some = (let all : 0 < owners a (owned l) = omega (arith, some, first-count a, ap (owners a) owned-before) in omega (arith, h.size, h.valid.owns.inside a all))

  mine : (a : ℕ) → a ≡ x.address + 2 → 1 ≤ owners a (words x 0)
  mine a e = omega (arith, hit-same a (x.address + 2) e)

  -- what it owns besides the priority is as it was
  out-written : IsWritten s out (around l (listed l rest)) own
  out-written =
      subst (λ t. IsWritten s t (around l (listed l rest)) own) (sym out-is)
      (ordered-hold s (around l (listed l whole)) (around l (listed l rest)) (there ++ words x n) gone [] own (own ++ gone)
      (record {
        writes =
            record {
              holds = holds-before;
              exchange = around-exchange l (listed l whole) (listed l rest) (there ++ words x n) gone first-exchange;
              there = tt;
              apart = λ a. omega (arith, apart a);
              inside = λ a some. inside a (omega (arith, some));
              unowned = λ a some. elim (cases_eq a (x.address + 2)) [ inl e ↦ omega (arith, apart a, mine a e) | inr ne ↦ absurd (omega (arith, some, hit-other a (x.address + 2) ne)) ];
            };
        order = record { count = λ a. omega arith; opens = λ s h. ((h.0, tt), h.1); closes = λ s h k. (h.0, k) };
        once = λ a. elim (cases_eq a (x.address + 2)) [ inl e ↦ omega (arith, hit-same a (x.address + 2) e) | inr ne ↦ omega (arith, hit-other a (x.address + 2) ne) ];
        plain_inside = λ a some. elim (cases_eq a (x.address + 2)) [ inl e ↦ inside a (omega (arith, mine a e)) | inr ne ↦ absurd (omega (arith, some, hit-other a (x.address + 2) ne)) ];
      }))

  out-size : length out ≡ length s
  out-size = ap length out-is ∙ length-written (own ++ gone) s

  own-exchange : Exchange (words x n) (words y n) ((x.address + 2, x.priority) ∷ []) own
  own-exchange =
      exchange-right ((x.address, n) ∷ []) _ _ _ _
      (exchange-left (name_words x) (name_words y) (state_words l.version x ++ behind_state l.version x) _ _
      (exchange-row x.address 1 x.priority pri (x.id ∷ []) []))

  own-held : Holds out (words y n)
  own-held =
      let before : Holds s (words x n) = ((around-exchange l (listed l whole) (listed l rest) (there ++ words x n) gone first-exchange).first.opens s holds-before).1.1.1 in
      let now : IsWritten s (set s (x.address + 2) pri) (words y n) [] =
      writes-hold s (words x n) (words y n) ((x.address + 2, x.priority) ∷ []) own [] []
      (record {
        holds = before;
        exchange = own-exchange;
        there = tt;
        apart = λ a. omega (arith, apart a);
        inside = λ a some. inside a (omega (arith, some));
        unowned = λ a some. absurd (omega (arith, some));
      })
      in
      Holds-same (set s (x.address + 2) pri) out (words y n) now.holds (λ a some. out-written.others a (omega (arith, some, apart a)))

  -- ---- the others are held

  root-now : RootWords out l
  root-now = root-held out l (address_of_task l l.running) (Holds-left out (root_words l (address_of_task l l.running)) _ out-written.holds)

  listed-now : Holds out (listed l rest)
  listed-now =
      let last : Pairs = modules_words l.modules ++ (device_words l ++ resident_words l) in
      Holds-left out (listed l rest) last
      (Holds-right out (blocks_words l.blocks) (listed l rest ++ last) (Holds-right out (root_words l (address_of_task l l.running)) (blocks_words l.blocks ++ (listed l rest ++ last)) out-written.holds))

  others-held : HeldTasks task_address task_id words out rest
  others-held =
      let table : Pairs = entries (address_with task_address task_id rest) 1 (highest_id_of l.version) in
      let chain : Pairs = headed_words task_address words first_task rest 0 in
      let count : (a : ℕ) → owners a (linked_words task_address words whole 0) ≡ owners a (linked_words task_address words rest 0) + owners a (words x 0) =
      λ a. owners-linked_between a task_address words (λ t n k. refl) front x back 0
      in
      record {
        root = omega (arith, held.root, out-size);
        holds = Holds-right out table chain listed-now;
        apart = λ a. omega (arith, held.apart a, count a);
        inside = λ a some. omega (arith, out-size, held.inside a (omega (arith, some, count a)));
        some = all-beside (λ t. 0 < t.address) front x back held.some;
        highest = omega (arith, root-now.highest, highest-high l.version);
        numbers =
            subst (λ z. AllByRecursion (λ t. (1 ≤ t.id) × (t.id ≤ z)) rest) (root.highest ∙ sym root-now.highest)
            (all-beside (λ t. (1 ≤ t.id) × (t.id ≤ get_or s 120 0)) front x back held.numbers);
        distinct = λ a. omega (arith, held.distinct a, times-id a front x back);
        table = λ i low high. Holds-entry out (address_with task_address task_id rest) 1 (highest_id_of l.version) i (Holds-left out table chain listed-now) low (omega (arith, high, root-now.highest));
      }

  pub in-chain : has x.address (tasks_in s) ≡ true
  in-chain = subst (λ z. has x.address z ≡ true) (sym (reads s l h).tasks.chain) (subst (λ ts. has x.address (map task_address ts) ≡ true) (sym is) (here front))
    where
      here : (zs : List Task) → has x.address (map task_address (zs ++ x ∷ back)) ≡ true
      here [] = or_left (eqb x.address x.address) (has x.address (map task_address back)) (eq-eqb x.address x.address refl)
      here (z ∷ zs) = or_right (eqb x.address z.address) (has x.address (map task_address (zs ++ x ∷ back))) (here zs)

  may-come : HasNewPriority s out x.address pri
  may-come = new-priority s x.address pri (reads s l h).tasks.tasks in-chain

  inserted : InsertExchange task_address task_id task_priority words out (task_in out x.address) rest y
  inserted =
      insert-exchange task_address task_id words (are_tasks l.version) task_priority (record { level = λ s t n h. h.1.1.0 }) out rest y others-held
      (record { task = may-come.task; number = own-held.1.0; level = own-held.1.1.0 })

  abbrev chain : List Task
  chain = inserted.front ++ y ∷ inserted.back

  abbrev m : ℕ
  m = first_of task_address inserted.back 0

  abbrev there-now : Pairs
  there-now = present_words task_address task_id inserted.front y

  second-exchange : Exchange (listed l rest) (listed l chain) (absent_words task_address task_id inserted.front y inserted.back) (there-now ++ words y m)
  second-exchange =
      subst (λ ts. Exchange (listed l ts) (listed l chain) (absent_words task_address task_id inserted.front y inserted.back) (there-now ++ words y m)) (sym inserted.is)
      (subst (λ top. Exchange (listed_words task_address task_id words top (inserted.front ++ inserted.back)) (listed_words task_address task_id words top chain)
      (absent_words task_address task_id inserted.front y inserted.back) (there-now ++ words y m)) root-now.highest inserted.exchange)

  second-count : (a : ℕ) → owners a (around l (listed l chain)) ≡ owners a (around l (listed l rest)) + owners a (words x 0)
  second-count a =
      around-count l a (listed l chain) (listed l rest) (owners a (words x 0))
      (owners-task_between a l.version (highest_id_of l.version) inserted.front y inserted.back ∙ ap (λ z. owners a (listed l z) + owners a (words x 0)) (sym inserted.is))

  -- no other task has the number
  none-before : (before after : List Task) → rest ≡ before ++ after → times x.id (map task_id before) ≡ 0
  none-before before after e =
      omega (
        arith,
        held.distinct x.id,
        times-id x.id front x back,
        hit-same x.id x.id refl,
        ap (λ z. times x.id (map task_id z)) e,
        ap (times x.id) (map-append task_id before after),
        times-append x.id (map task_id before) (map task_id after),
      )

  same-address : (i : ℕ) → address_with task_address task_id chain i ≡ address_with task_address task_id l.tasks i
  same-address i =
      address_with-out inserted.front y inserted.back i (none-before inserted.front inserted.back inserted.is)
      ∙ ap (λ z. cond (eqb x.id i) x.address (address_with task_address task_id z i)) (sym inserted.is)
      ∙ sym (address_with-out front x back i (none-before front back refl))
      ∙ ap (λ z. address_with task_address task_id z i) (sym is)

  owned-after : owned (with_moved_task pri x rest l) ≡ around l (listed l chain)
  owned-after = ap (λ ts. owned (with_tasks ts l)) inserted.becomes ∙ owned-chain l chain (same-address l.running)

  -- the same words are owned
  pub moved-owners : (a : ℕ) → owners a (owned (with_moved_task pri x rest l)) ≡ owners a (owned l)
  moved-owners a =
      omega (
        arith,
        ap (owners a) owned-after,
        second-count a,
        first-count a,
        ap (owners a) owned-before,
        ap (λ ts. owners a (around l (listed l ts))) is,
      )

  pub moved-changed : is_guest_id x.id ≡ true → 1 ≤ pri → pri ≤ 10000 → AllByRecursion (λ u. u.priority ≢ pri) rest → IsChanged s (task_in out x.address) (with_moved_task pri x rest l) []
  moved-changed guest low high unused =
      let valid : AreValid (with_moved_task pri x rest l) = moved_task-valid l front back x pri h.valid is guest low high unused in
      let t : List ℕ = task_in out x.address in
      let second : IsWritten out t (around l (listed l chain)) [] =
      subst (λ z. IsWritten out z (around l (listed l chain)) []) (sym inserted.writes)
      (writes-hold out (around l (listed l rest)) (around l (listed l chain)) (absent_words task_address task_id inserted.front y inserted.back) (there-now ++ (x.address, m) ∷ []) (other_words l.version y) []
      (record {
        holds = out-written.holds;
        exchange = around-exchange l (listed l rest) (listed l chain) (absent_words task_address task_id inserted.front y inserted.back) (there-now ++ words y m) second-exchange;
        there = own-held.1;
        apart = λ a. omega (arith, second-count a, apart a);
        inside = λ a some. (let more : a < length s = inside a (omega (arith, some, second-count a)) in omega (arith, more, out-size));
        unowned = λ a some. absurd (omega (arith, some));
      }))
      in
      let size : length t ≡ length s = ap length inserted.writes ∙ length-written (there-now ++ (x.address, m) ∷ []) out ∙ out-size in
      let holds = subst (Holds t) (sym owned-after) second.holds in
      record {
        lists = record { valid = valid; size = size ∙ h.size; holds = holds };
        size = size;
        written =
            record {
              holds = holds;
              others = λ a none.
                  let nobody : owners a (around l (listed l chain)) ≡ 0 = sym (ap (owners a) owned-after) ∙ none in
                  second.others a nobody
                  ∙ out-written.others a (omega (arith, nobody, second-count a))
                  ∙ written-other a own s (omega (arith, hit-other a (x.address + 2) (λ e. absurd (omega (arith, mine a e, nobody, second-count a)))));
            };
      }
