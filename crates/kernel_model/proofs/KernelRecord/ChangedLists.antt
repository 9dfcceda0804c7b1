-- A store whose lists change: the words of one task, who runs, and two changes one after the other.
use Rattle.std.proofs.Common.{◌≡◌, ℕ, ◌<◌, List, [], ◌∷◌, ◌++◌, length, set, refl, sym, ap, ◌∙◌, subst, arith}
use Rattle.std.proofs.lemmas.List.{append-nil}
use Rattle.kernel_lists.specs.OwnedWords.Exchange.{Exchange, Splits}
use Rattle.kernel_lists.specs.OwnedWords.LinkedWords.{first_of}
use Rattle.kernel_lists.specs.OwnedWords.Owned.{AreApart, AreInside, Pairs, owners, written}
use Rattle.kernel_lists.specs.OwnedWords.Written.{IsWritten}
use Rattle.kernel_lists.proofs.OwnedWords.OwnedWords.{length-written}
use Rattle.kernel_lists.proofs.OwnedWords.WrittenWords.{ordered-hold}
use Rattle.kernel_model.specs.KernelRecord.ChangedStore.{IsChanged, Knows}
use Rattle.kernel_model.specs.KernelRecord.Changes.{with_tasks}
use Rattle.kernel_model.specs.KernelRecord.HoldsLists.{HoldsLists}
use Rattle.kernel_model.specs.KernelRecord.Lists.{Lists, address_of_task}
use Rattle.kernel_model.specs.KernelRecord.Owned.{owned}
use Rattle.kernel_model.specs.KernelRecord.Task.{Task, task_address, task_words}
use Rattle.kernel_model.specs.KernelRecord.ValidLists.{AreValid}
use Rattle.kernel_model.proofs.KernelRecord.OneTaskExchange.{one_task-exchange, running-exchange}
use Rattle.kernel_model.proofs.KernelRecord.RunningTask.{with_running}

-- ---- in general

-- owned words are exchanged, and these words are written, plain ones among them
pub exchange-changed : (s t : List ℕ) (l m : Lists) (old new plain all : Pairs) → HoldsLists s l → AreValid m → m.size ≡ l.size → Exchange (owned l) (owned m) old new
    → Splits all plain new → AreApart plain → AreInside s plain → ((a : ℕ) → 0 < owners a plain → owners a (owned m) ≡ 0) → t ≡ written all s → IsChanged s t m plain
exchange-changed s t l m old new plain all h valid size x order once inside unowned is =
    let long : length t ≡ length s = ap length is ∙ length-written all s in
    let whole : Exchange (owned l) (owned m) old (new ++ []) = subst (Exchange (owned l) (owned m) old) (sym (append-nil new)) x in
    let w : IsWritten s (written all s) (owned m) plain =
    ordered-hold s (owned l) (owned m) old new [] plain all
    (record {
      writes =
          record {
            holds = h.holds;
            exchange = whole;
            there = tt;
            apart = valid.owns.apart;
            inside = λ a some. omega (arith, valid.owns.inside a some, size, h.size);
            unowned = unowned;
          };
      order = order;
      once = once;
      plain_inside = inside;
    })
    in
    let v : IsWritten s t (owned m) plain = subst (λ z. IsWritten s z (owned m) plain) (sym is) w in
    record { lists = record { valid = valid; size = long ∙ h.size ∙ sym size; holds = v.holds }; size = long; written = v }

-- without plain words
pub exchange-owned : (s t : List ℕ) (l m : Lists) (old new : Pairs) → HoldsLists s l → AreValid m → m.size ≡ l.size → Exchange (owned l) (owned m) old new → t ≡ written new s → IsChanged s t m []
exchange-owned s t l m old new h valid size x is =
    exchange-changed s t l m old new [] new h valid size x
    (record { count = λ a. omega arith; opens = λ v k. (tt, k); closes = λ v j k. k })
    (λ a. omega arith) (λ a some. absurd (omega (arith, some))) (λ a some. absurd (omega (arith, some))) is

-- an exchange of the same addresses
pub owners-exchanged : (L M old new : Pairs) (a : ℕ) → Exchange L M old new → owners a old ≡ owners a new → owners a L ≡ owners a M
owners-exchanged L M old new a x same = omega (arith, x.first.count a, x.then'.count a, same)

-- ---- one task, and who runs

pub one_task-owned : (l : Lists) (front : List Task) (t u : Task) (back : List Task) (old new : Pairs) → l.tasks ≡ front ++ t ∷ back → t.id ≡ u.id → t.address ≡ u.address
    → Exchange (task_words l.version t (first_of task_address back 0)) (task_words l.version u (first_of task_address back 0)) old new
    → Exchange (owned l) (owned (with_tasks (front ++ u ∷ back) l)) old new
one_task-owned l front t u back old new is id address inner =
    subst (λ ts. Exchange (owned (with_tasks ts l)) (owned (with_tasks (front ++ u ∷ back) l)) old new) (sym is) (one_task-exchange l front t u back old new id address inner)

pub running-changed : (s t : List ℕ) (l : Lists) (id : ℕ) → HoldsLists s l → AreValid (with_running id l) → t ≡ set s 102 (address_of_task l id) → IsChanged s t (with_running id l) []
running-changed s t l id h valid is = exchange-owned s t l (with_running id l) _ _ h valid refl (running-exchange l id) is

-- ---- two changes

-- what nobody owns after both was owned by nobody between them
pub changed-then : (s t u : List ℕ) (l m : Lists) (plain : Pairs) → IsChanged s t l plain → IsChanged t u m [] → ((a : ℕ) → owners a (owned m) ≡ 0 → owners a (owned l) ≡ 0) → IsChanged s u m plain
changed-then s t u l m plain x y keeps =
    record {
      lists = y.lists;
      size = y.size ∙ x.size;
      written = record { holds = y.written.holds; others = λ a none. y.written.others a none ∙ x.written.others a (keeps a none) };
    }

-- no change
pub changed-none : (s : List ℕ) (l : Lists) → HoldsLists s l → IsChanged s s l []
changed-none s l h = record { lists = h; size = refl; written = record { holds = h.holds; others = λ a none. refl } }

-- a keeper that knows the words knows them where the same are owned
pub knows-same : (tells : List ℕ → Type 0) (l m : Lists) → ((a : ℕ) → owners a (owned m) ≡ owners a (owned l)) → Knows tells l → Knows tells m
knows-same tells l m same k known count = k known (λ a. count a ∙ same a)
