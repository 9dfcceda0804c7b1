-- A new task is put into the block that was taken for it: its words are written, and it comes into the chain.
use Rattle.std.proofs.Common.{◌≡◌, ℕ, suc, ◌+◌, ◌-◌, ◌<◌, ◌≤◌, ◌^◌, ◌⊎◌, List, [], ◌∷◌, ◌++◌, cond, eqb, get_or, length, map, replicate, true, false, Some, None, Ok, inl, inr, refl, sym, ap, ◌∙◌, subst, arith}
use Rattle.std.specs.Prelude.{is_some}
use Rattle.std.specs.List.{AllByRecursion, flat_map, range_with_len}
use Rattle.std.proofs.lemmas.Bool.{false≢true, le-leb}
use Rattle.std.proofs.lemmas.List.{append-nil, length-append, replicate-append-replicate}
use Rattle.word_store.specs.Count.{times}
use Rattle.kernel_lists.specs.LinkedList.Places.{has}
use Rattle.kernel_lists.proofs.LinkedList.AllMembers.{all-has}
use Rattle.word_store.proofs.Counts.{range-apart, range-high}
use Rattle.word_store.specs.Row.{with_words}
use Rattle.word_store.proofs.Rows.{get_or-with_words_outside, length-with_words}
use Rattle.kernel_lists.specs.OwnedWords.Owned.{Holds, Pairs, owners, row_from, written}
use Rattle.kernel_lists.proofs.OwnedWords.OwnedWords.{Holds-written, written-append, written-other}
use Rattle.kernel_lists.proofs.OwnedWords.RowWords.{owners-row, with_words-written}
use Rattle.kernel_lists.specs.GetvecChain.Block.{is_used_at, used_block}
use Rattle.kernel_lists.specs.GetvecChain.Run.{need}
use Rattle.kernel_lists.specs.GetvecChain.Tiling.{blocks_in, used_at}
use Rattle.kernel_lists.proofs.GetvecChain.UsedBlocks.{AreDisjoint, used_at-apart}
use Rattle.kernel_lists.specs.TaskBlock.Lists.{modules_in}
use Rattle.kernel_lists.specs.TaskBlock.Moves.{with_task as task_in}
use Rattle.kernel_lists.specs.TaskBlock.TaskChain.{HasTasks, IsNewTask}
use Rattle.kernel_lists.specs.TaskBlock.Versions.{head_words, most_modules}
use Rattle.kernel_lists.specs.HunkLoader.Globals.{Global, globals_in, with_globals}
use Rattle.kernel_lists.specs.HunkLoader.GlobalWords.{AreClear}
use Rattle.kernel_lists.specs.HunkLoader.HeldModules.{module_address}
use Rattle.kernel_lists.specs.HunkLoader.ModuleHunks.{module_end}
use Rattle.kernel_lists.specs.HunkLoader.Modules.{IsModuleAt}
use Rattle.kernel_lists.proofs.HunkLoader.GlobalLists.{AreGlobals, length-with_globals}
use Rattle.kernel_lists.proofs.HunkLoader.HeldModuleLists.{held-modules}
use Rattle.kernel_lists.proofs.HunkLoader.HunkWalk.{module_inside}
use Rattle.kernel_lists.proofs.HunkLoader.ModuleBlocks.{InBlock, in_block}
use Rattle.kernel_model.specs.KernelRecord.BlockUse.{use_of_data}
use Rattle.kernel_model.specs.declared.kernel_record.uses.Use.TheVariants.{User}
use Rattle.kernel_model.specs.KernelRecord.ChangedStore.{IsChanged, Knows}
use Rattle.kernel_model.specs.KernelRecord.Changes.{AreUnowned, with_new_task}
use Rattle.kernel_model.specs.KernelRecord.HoldsLists.{HoldsLists}
use Rattle.kernel_model.specs.KernelRecord.Lists.{Lists}
use Rattle.kernel_model.specs.KernelRecord.Owned.{owned}
use Rattle.kernel_model.specs.KernelRecord.Task.{Task, is_guest_id}
use Rattle.kernel_model.specs.KernelRecord.ValidBlocks.{HasBlock}
use Rattle.kernel_model.specs.KernelRecord.ValidLists.{AreValid}
use Rattle.kernel_model.specs.KernelRecord.ValidTasks.{IsTask}
use Rattle.kernel_model.specs.KernelRecord.Versions.{head_words_of, most_modules_of}
use Rattle.kernel_model.proofs.KernelRecord.ChainMoves.{new_task-valid}
use Rattle.kernel_model.proofs.KernelRecord.DataInside.{HasBlock-inside}
use Rattle.kernel_model.proofs.KernelRecord.EachMember.{all-each}
use Rattle.kernel_model.proofs.KernelRecord.RootCounts.{head-low}
use Rattle.kernel_model.proofs.KernelRecord.UnownedBlocks.{unowned-user}
use Rattle.kernel_model.specs.WordKinds.Keeper.{AreTogether}
use Rattle.kernel_model.proofs.WordKinds.KnownWords.{knows-claimed}
use Rattle.kernel_calls.specs.CallAnswers.CallChange.{IsMade}
use Rattle.kernel_calls.proofs.CallAnswers.ChangedTwice.{changed-twice}
use Rattle.kernel_calls.proofs.CallAnswers.FoundTask.{reads}
use Rattle.kernel_calls.proofs.CallAnswers.MadeCalls.{made-accepted}
use Rattle.kernel_calls.specs.BlockCalls.FreeStore.{data_of_front, with_taken}
use Rattle.kernel_calls.specs.BlockCalls.Getvec.{getvec, getvec_tests}
use Rattle.kernel_model.proofs.WordKinds.OwnedMarks.{size-low}
use Rattle.kernel_calls.proofs.BlockCalls.TakenStore.{HasTakenBlock}
use Rattle.kernel_calls.specs.TaskCalls.CreateTask.{globals_row, last_word_of, new_task, row_behind, with_created}
use Rattle.kernel_calls.specs.TaskCalls.Private.NewTasks.{MayPlace, MaySetGlobals, head_row, place_task}
use Rattle.kernel_calls.proofs.TaskCalls.ReadNumbers.{head-read, most-read}
use Rattle.kernel_calls.proofs.TaskCalls.InsertedTask.{ComesNew, has-tasks, inserted-changed, may-come, new-count}
use Rattle.kernel_calls.proofs.TaskCalls.ModuleGlobals.{all_globals-are, globals-same, has-modules}
use Rattle.kernel_calls.proofs.TaskCalls.NewBlock.{no-module, took-block}
use Rattle.kernel_calls.proofs.TaskCalls.NewTaskRow.{length-row}
use Rattle.kernel_calls.proofs.TaskCalls.NewTaskWords.{new_words-held}
use Rattle.kernel_calls.proofs.TaskCalls.RowsInRows.{globals-before, globals-row_behind, length-zeros}
use Rattle.kernel_calls.proofs.TaskCalls.PlainRows.{row-changed, row-holds}
use Rattle.kernel_calls.proofs.TaskCalls.StayingData.{data-no_start, data-stays}
use Rattle.kernel_lists.proofs.HunkLoader.ModuleExchanges.{row-append}

-- the block has its data
module _ (l : Lists) (number : ℕ) (modules : List ℕ) (u pri maker : ℕ) (s v : List ℕ) (t : ℕ) (h : HoldsLists s l) (may : MayPlace l number modules pri maker)
    (k : HasTakenBlock s v l (last_word_of l.version u) t) where
  abbrev head : ℕ
  head = head_words_of l.version

  abbrev last : ℕ
  last = last_word_of l.version u

  abbrev m : Lists
  m = with_taken last l

  abbrev x : Task
  x = new_task l number modules u pri maker

  abbrev row : List ℕ
  row = head_row head t number modules u pri maker

  abbrev stack : List ℕ
  stack = replicate (u + 1) 0

  -- the words behind the first global, before the modules' globals are set
  abbrev rest : List ℕ
  rest = replicate 1000 0 ++ stack

  abbrev sets : List Global
  sets = flat_map (globals_in s) modules

  guest : is_guest_id number ≡ true
  guest = le-leb 5 number may.low

  at : x.address ≡ t
  at = sym (k.front ∙ ap data_of_front (sym k.first))

  high : 23 ≤ head
  high = head-low l.version

  few : length modules + 22 ≤ head
  few = room l.version may.most
    where
      room : (version : ℕ) → length modules ≤ most_modules_of version → length modules + 22 ≤ head_words_of version
      room version = elim (eqb version 2) as (λ b. length modules ≤ cond b 8 1 → length modules + 22 ≤ cond b 30 23) [ true ↦ λ le. omega (arith, le) | false ↦ λ le. omega (arith, le) ]

  m-valid : AreValid m
  m-valid = k.changed.lists.valid

  inside : t + last < length v
  inside = omega (arith, k.changed.lists.size, HasBlock-inside m t last (t + last) m-valid.blocks k.block (omega arith))

  -- ---- its words, before the globals of modules are set

  pub zeros-row : (w : List ℕ) → w ≡ with_words v t (replicate (last + 1) 0) → w ≡ with_words v t (replicate head 0 ++ 0 ∷ rest)
  zeros-row w is =
      let one : suc (1000 + (u + 1)) ≡ 1002 + u = omega arith in
      let whole : last + 1 ≡ head + (1002 + u) = omega arith in
      let behind : 0 ∷ rest ≡ replicate (1002 + u) 0 = ap (λ z. 0 ∷ z) (replicate-append-replicate 1000 (u + 1) 0) ∙ ap (λ n. replicate n 0) one in
      is ∙ ap (λ n. with_words v t (replicate n 0)) whole
      ∙ ap (with_words v t) (sym (replicate-append-replicate head (1002 + u) 0) ∙ ap (λ z. replicate head 0 ++ z) (sym behind))

  pub zeros-hold : (w : List ℕ) → w ≡ with_words v t (replicate (last + 1) 0) → HoldsLists w m
  zeros-hold w is =
      subst (λ z. HoldsLists z m) (sym is)
      (row-holds v m t (replicate (last + 1) 0) k.changed.lists (λ c low less. k.unowned c low (omega (arith, less, length-zeros (last + 1)))))

  long-row : (g : ℕ) → length (row ++ g ∷ rest) ≡ last + 1
  long-row g =
      omega (
        arith,
        length-append row (g ∷ rest),
        length-row v t head number modules u pri maker rest high few,
        length-append (replicate 1000 0) stack,
        length-zeros 1000,
        length-zeros (u + 1),
      )

  abbrev before : List ℕ
  before = with_words v t (row ++ 1000 ∷ rest)

  pub before-holds : HoldsLists before m
  before-holds = row-holds v m t (row ++ 1000 ∷ rest) k.changed.lists (λ c low less. k.unowned c low (omega (arith, less, long-row 1000)))

  -- ---- the modules, apart from the block

  user-block : use_of_data m t ≡ User
  user-block = unowned-user m t m-valid (k.unowned t (omega arith) (omega arith))

  listed-before : AllByRecursion (λ n. has n (modules_in before) ≡ true) modules
  listed-before = subst (λ z. AllByRecursion (λ n. has n z ≡ true) modules) (sym (held-modules before m.modules (reads before m before-holds).modules).list) may.listed

  -- where a module lies in the store
  record Apart (n : ℕ) : Type 0 where
    clear : AreClear (t + head) n (module_end before n)
    same : (a : ℕ) → n ≤ a → a < module_end before n → get_or before a 0 ≡ get_or s a 0

  module-apart : (n : ℕ) → has n (map module_address l.modules) ≡ true → has n (modules_in before) ≡ true → Apart n
  module-apart n some there = on (used_at-apart before 200 (blocks_in before) n t is.block (used_block k.block.start (need last)) (reads before m before-holds).tiled is.used here)
    where
      is : IsModuleAt before n
      is = all-has (IsModuleAt before) n (modules_in before) (has-modules before m before-holds).modules there

      b : InBlock before n is.block
      b = in_block before n (reads before m before-holds).tiled is

      here : used_at t (blocks_in before) ≡ Some (used_block k.block.start (need last))
      here = ap (used_at t) (reads before m before-holds).blocks ∙ k.block.block

      in_lists : used_at n m.blocks ≡ Some is.block
      in_lists = ap (used_at n) (sym (reads before m before-holds).blocks) ∙ is.used

      wide : last + 2 ≤ need last
      wide = by last
        where
          by : (u : ℕ) → u + 2 ≤ need u
          by u = omega arith

      stays : (a : ℕ) → n ≤ a → a < module_end before n → (a < t) ⊎ (t + (last + 1) ≤ a) → get_or before a 0 ≡ get_or s a 0
      stays a low less out =
          get_or-with_words_outside v t (row ++ 1000 ∷ rest) a (subst (λ z. (a < t) ⊎ (t + z ≤ a)) (sym (long-row 1000)) out)
          ∙ data-stays s v l m.blocks a h k.changed (data-no_start (is_used_at n) 200 m.blocks (m.size - 2) is.block a m-valid.blocks in_lists (omega (arith, low, b.start)) (omega (arith, less, b.words)))

      on : (n ≡ t) ⊎ AreDisjoint is.block (used_block k.block.start (need last)) → Apart n
      on (inl e) = absurd (no-module m t n user-block some e)
      on (inr (inl first)) =
          record {
            clear = λ i le. inr (omega (arith, b.words, first, k.block.here));
            same = λ a low less. stays a low less (inl (omega (arith, less, b.words, first, k.block.here)));
          }
      on (inr (inr after)) =
          record {
            clear = λ i le. inl (omega (arith, le, after, wide, k.block.here, b.start));
            same = λ a low less. stays a low less (inr (omega (arith, low, after, wide, k.block.here, b.start)));
          }

  clear-modules : (ns : List ℕ) → AllByRecursion (λ n. has n (map module_address l.modules) ≡ true) ns → AllByRecursion (λ n. has n (modules_in before) ≡ true) ns
      → AllByRecursion (λ n. AreClear (t + head) n (module_end before n)) ns
  clear-modules [] some there = tt
  clear-modules (n ∷ ns) some there = ((module-apart n some.0 there.0).clear, clear-modules ns some.1 there.1)

  same-sets : (ns : List ℕ) → AllByRecursion (λ n. has n (map module_address l.modules) ≡ true) ns → AllByRecursion (λ n. has n (modules_in before) ≡ true) ns
      → flat_map (globals_in before) ns ≡ flat_map (globals_in s) ns
  same-sets [] some there = refl
  same-sets (n ∷ ns) some there =
      let w : Apart n = module-apart n some.0 there.0 in
      let fits : module_end before n + 2 ≤ length before = module_inside before n (has-modules before m before-holds) there.0 in
      let long : length s ≡ length before = sym (length-with_words v t (row ++ 1000 ∷ rest) ∙ k.changed.size) in
      λ i. sym (globals-same before s n long fits (λ a low less. sym (w.same a low less))) i ++ same-sets ns some.1 there.1 i

  pub may-set : MaySetGlobals before m modules (t + head)
  may-set =
      record {
        unowned = λ c low less. k.unowned c (omega (arith, low)) (omega (arith, less));
        listed = listed-before;
        clear = clear-modules modules may.listed listed-before;
      }

  -- ---- all its words

  abbrev after : List ℕ
  after = with_words v t (row ++ row_behind s modules u)

  low-numbers : (gs : List Global) → AreGlobals gs → (n : ℕ) → 1001 ≤ n → AllByRecursion (λ g. g.number < n) gs
  low-numbers gs all n long = all-each (λ g. g.number ≤ 1000) (λ g. g.number < n) (λ g le. omega (arith, le, long)) gs all

  pub globals-set : (w : List ℕ) → w ≡ with_globals before (t + head) (flat_map (globals_in before) modules) → w ≡ after
  globals-set w is =
      let here : t + length row ≡ t + head = ap (λ z. t + z) (length-row v t head number modules u pri maker rest high few) in
      is ∙ ap (with_globals before (t + head)) (same-sets modules may.listed listed-before) ∙ ap (λ z. with_globals before z sets) (sym here)
      ∙ globals-row_behind v t row (1000 ∷ rest) sets
      (low-numbers sets (all_globals-are s modules) (length (1000 ∷ rest)) (omega (arith, length-append (replicate 1000 0) stack, length-zeros 1000)))
      ∙ ap (λ z. with_words v t (row ++ z))
      (globals-before (1000 ∷ replicate 1000 0) stack sets (low-numbers sets (all_globals-are s modules) (length {A = ℕ} (1000 ∷ replicate 1000 0)) (omega (arith, length-zeros 1000))))

  long-after : length (row ++ row_behind s modules u) ≡ last + 1
  long-after =
      omega (
        arith,
        length-append row (row_behind s modules u),
        length-row v t head number modules u pri maker rest high few,
        length-append (globals_row s modules) stack,
        length-with_globals (1000 ∷ replicate 1000 0) 0 sets,
        length-zeros 1000,
        length-zeros (u + 1),
      )

  held-after : Holds after (row_from t 0 (row ++ row_behind s modules u))
  held-after =
      let W : List ℕ = row ++ row_behind s modules u in
      let count : (a : ℕ) → owners a (row_from t 0 W) ≡ times a (range_with_len (t + 0) (length W)) = λ a. owners-row a t 0 W in
      subst (λ z. Holds z (row_from t 0 W)) (sym (with_words-written v t W))
      (Holds-written (row_from t 0 W) v (λ a. omega (arith, count a, range-apart (t + 0) (length W) a))
      (λ a some. omega (arith, range-high a (t + 0) (length W) (omega (arith, some, count a)), long-after, inside)))

  pub after-changed : IsChanged v after m (row_from t 0 (row ++ row_behind s modules u))
  after-changed = row-changed v m t (row ++ row_behind s modules u) k.changed.lists (λ c low less. k.unowned c low (omega (arith, less, long-after)))

  -- ---- it comes into the chain

  task : IsTask m x
  task =
      record {
        low = may.lowest;
        high = may.most_pri;
        maker = may.made_by;
        field = inr (inr (inr refl));
        byte = omega arith;
        guest = λ _. record {
          high = may.high;
          block = subst (λ z. HasBlock m.blocks z last) (sym at) k.block;
          some_module = may.some_module;
          most = may.most;
          modules = may.listed;
          fault = inl (refl, refl);
          unreported = λ _. refl;
        };
        resident = λ r. absurd (false≢true (sym r ∙ guest));
      }

  free-head : AreUnowned m x.address (x.address + head)
  free-head = λ c low less. k.unowned c (omega (arith, low, at)) (omega (arith, less, at))

  pub comes : ComesNew after m x
  comes =
      record {
        lists = after-changed.lists;
        own = new_words-held after l number modules u pri maker guest (row_behind s modules u)
            (subst (λ z. Holds after (row_from z 0 (head_row head z number modules u pri maker ++ row_behind s modules u))) (sym at) held-after);
        unowned = free-head;
        inside = omega (arith, at, inside, after-changed.size);
        some = omega (arith, at, k.front);
        guest = guest;
        low = omega (arith, may.low);
        high = may.high;
        absent = may.unused;
        queue = refl;
        list = refl;
        valid = new_task-valid m x m-valid task guest may.unused may.untaken refl refl refl free-head;
      }

  pub placed-made : (w : List ℕ) (tells told : List ℕ → Type 0) → w ≡ task_in after t → Knows tells m
      → ((known all : List ℕ) → tells known → AreTogether all known (range_with_len t head) → told all)
      → IsMade s w told (Ok number) (place_task s l x)
  placed-made w tells told is knows claim =
      made-accepted s l (getvec_tests l last) (with_created s l x) w told (Ok number) (ap (λ o. cond (is_some o) None (Some 1)) k.first)
      (record {
        leaves = record { lists = subst (λ z. IsChanged s z n plain) (sym (is ∙ ap (task_in after) (sym at))) whole; answered = refl };
        knows = knows-claimed tells told m n t head (λ a. new-count after m x comes a ∙ ap (λ z. owners a (owned m) + times a (range_with_len z head)) at) knows claim;
      })
    where
      n : Lists
      n = with_new_task x m

      behind : List ℕ
      behind = row_behind s modules u

      plain : Pairs
      plain = row_from x.address head behind

      all : Pairs
      all = row_from t 0 (row ++ behind)

      keeps : (a : ℕ) → owners a (owned n) ≡ 0 → owners a (owned m) ≡ 0
      keeps a none = omega (arith, none, new-count after m x comes a)

      both : IsChanged s (task_in after x.address) n (all ++ [])
      both =
          changed-twice s v (task_in after x.address) m n [] all k.changed
          (changed-twice v after (task_in after x.address) m n all [] after-changed (inserted-changed after m x comes) keeps) keeps

      -- the words of the task block are owned, so those behind it are what else was written
      behind-head : (a : ℕ) → owners a (owned n) ≡ 0 → get_or (written (all ++ []) s) a 0 ≡ get_or (written plain s) a 0
      behind-head a none =
          let end : 0 + length row ≡ head = omega (arith, length-row v t head number modules u pri maker rest high few) in
          let start : t + 0 ≡ x.address = omega (arith, at) in
          let mine : times a (range_with_len (t + 0) (length row)) ≡ times a (range_with_len x.address head) =
          λ i. times a (range_with_len (start i) (length-row v t head number modules u pri maker rest high few i))
          in
          ap (λ z. get_or (written z s) a 0) (append-nil all ∙ row-append t 0 row behind)
          ∙ ap (λ z. get_or z a 0) (written-append (row_from t 0 row) (row_from t (0 + length row) behind) s)
          ∙ written-other a (row_from t 0 row) (written (row_from t (0 + length row) behind) s) (omega (arith, owners-row a t 0 row, mine, new-count after m x comes a, none))
          ∙ (λ i. get_or (written (row_from (sym at i) (end i) behind) s) a 0)

      whole : IsChanged s (task_in after x.address) n plain
      whole =
          record {
            lists = both.lists;
            size = both.size;
            written = record { holds = both.written.holds; others = λ a none. both.written.others a none ∙ behind-head a none };
          }

-- ---- the same, step by step

module _ (l : Lists) (number : ℕ) (modules : List ℕ) (u pri maker : ℕ) (s v : List ℕ) (t last hw : ℕ) (tells : List ℕ → Type 0) (h : HoldsLists s l) (may : MayPlace l number modules pri maker)
    (is_last : last ≡ last_word_of l.version u) (is_head : hw ≡ head_words s) (made : IsMade s v tells (Ok t) (getvec l last)) where
  abbrev n : Lists
  n = with_taken (last_word_of l.version u) l

  taken : HasTakenBlock s v l (last_word_of l.version u) t
  taken = subst (λ z. HasTakenBlock s v l z t) is_last (took-block s v l last t tells h.valid made).0

  knows-taken : Knows tells n
  knows-taken = subst (λ z. Knows tells (with_taken z l)) is_last (took-block s v l last t tells h.valid made).1

  head-is : hw ≡ head_words_of l.version
  head-is = is_head ∙ head-read s l h

  pub head-fits : t + hw < 2 ^ 32
  head-fits = omega (arith, head-is, inside l number modules u pri maker s v t h may taken, size-low n taken.changed.lists.valid, taken.changed.lists.size)

  pub head-room : (room : ℕ) → length s ≤ room → t + hw ≤ room
  head-room room enough = omega (arith, enough, head-is, inside l number modules u pri maker s v t h may taken, taken.changed.size)

  module _ (w : List ℕ) (cleared : w ≡ with_words v t (replicate (last + 1) 0)) where
    zeros : w ≡ with_words v t (replicate (last_word_of l.version u + 1) 0)
    zeros = cleared ∙ ap (λ z. with_words v t (replicate (z + 1) 0)) is_last

    holds-zeros : HoldsLists w n
    holds-zeros = zeros-hold l number modules u pri maker s v t h may taken w zeros

    pub write-inside : t + head_words w + 1001 ≤ length w
    write-inside =
        omega (
          arith,
          head-read w n holds-zeros,
          inside l number modules u pri maker s v t h may taken,
          ap length zeros,
          length-with_words v t (replicate (last_word_of l.version u + 1) 0),
        )

    pub write-most : length modules ≤ most_modules w
    write-most = omega (arith, most-read w n holds-zeros, may.most)

    module _ (z : List ℕ) (headed : (r ws : List ℕ) → w ≡ with_words r t (replicate (head_words w) 0 ++ 0 ∷ ws) → z ≡ with_words r t (head_row (head_words w) t number modules u pri maker ++ 1000 ∷ ws)) where
      z-is : z ≡ before l number modules u pri maker s v t h may taken
      z-is =
          headed v (replicate 1000 0 ++ replicate (u + 1) 0)
          (zeros-row l number modules u pri maker s v t h may taken w zeros ∙ ap (λ k. with_words v t (replicate k 0 ++ 0 ∷ (replicate 1000 0 ++ replicate (u + 1) 0))) (sym (head-read w n holds-zeros)))
          ∙ ap (λ k. with_words v t (head_row k t number modules u pri maker ++ 1000 ∷ (replicate 1000 0 ++ replicate (u + 1) 0))) (head-read w n holds-zeros)

      pub set-holds : HoldsLists z n
      set-holds = subst (λ r. HoldsLists r n) (sym z-is) (before-holds l number modules u pri maker s v t h may taken)

      pub set-may : MaySetGlobals z n modules (t + hw)
      set-may = subst (λ r. MaySetGlobals r n modules (t + hw)) (sym z-is) (subst (λ k. MaySetGlobals (before l number modules u pri maker s v t h may taken) n modules (t + k)) (sym head-is) (may-set l number modules u pri maker s v t h may taken))

      module _ (y : List ℕ) (set_is : y ≡ with_globals z (t + hw) (flat_map (globals_in z) modules)) where
        y-is : y ≡ after l number modules u pri maker s v t h may taken
        y-is =
            globals-set l number modules u pri maker s v t h may taken y
            (set_is ∙ (λ i. with_globals (z-is i) (t + head-is i) (flat_map (globals_in (z-is i)) modules)))

        comes-y : ComesNew (after l number modules u pri maker s v t h may taken) n (new_task l number modules u pri maker)
        comes-y = comes l number modules u pri maker s v t h may taken

        at-y : (new_task l number modules u pri maker).address ≡ t
        at-y = at l number modules u pri maker s v t h may taken

        pub insert-tasks : HasTasks y
        insert-tasks = subst HasTasks (sym y-is) (has-tasks _ n (new_task l number modules u pri maker) comes-y)

        pub insert-task : IsNewTask y t
        insert-task = subst (λ r. IsNewTask r t) (sym y-is) (subst (IsNewTask (after l number modules u pri maker s v t h may taken)) at-y (may-come _ n (new_task l number modules u pri maker) comes-y))

        pub placed : (x : List ℕ) (told : List ℕ → Type 0) → x ≡ task_in y t → ((known all : List ℕ) → tells known → AreTogether all known (range_with_len t hw) → told all)
            → IsMade s x told (Ok number) (place_task s l (new_task l number modules u pri maker))
        placed x told is claim =
            placed-made l number modules u pri maker s v t h may taken x tells told (is ∙ ap (λ r. task_in r t) y-is) knows-taken
            (subst (λ k. (known all : List ℕ) → tells known → AreTogether all known (range_with_len t k) → told all) head-is claim)
