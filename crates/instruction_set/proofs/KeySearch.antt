-- The search for a key, a turn at a time.
use Rattle.std.proofs.Common.{◌≡◌, ◌≢◌, ◌∙◌, ℕ, zero, suc, ◌<◌, ◌≤◌, ◌+◌, ◌*◌, List, Result, Ok, Err, refl, sym, ap, arith}
use Rattle.std.proofs.lemmas.Bool.Decides.{nat_tests}
use Rattle.word_store.specs.Arithmetic.{add}
use Rattle.word_store.specs.declared.registers.Regs.{Regs}
use Rattle.instruction_set.specs.OperandForms.Steps.{◌>>=◌}
use Rattle.instruction_set.specs.declared.Fault.{Fault}
use Rattle.instruction_set.specs.Switch.{compared, halfword, jump_by, search_from}

-- The search has come to pair i, and has turns left for all pairs that it may still meet.
pub record IsSearching (words : List ℕ) (r : Regs) (t count i : ℕ) : Type 0 where
  pub turns : ℕ
  pub enough : count < i + turns
  pub numbered : 1 ≤ i
  pub same : search_from turns words r t count i ≡ search_from count words r t count 1

pub begins : (words : List ℕ) (r : Regs) (t count : ℕ) → IsSearching words r t count 1
begins words r t count = record { turns = count; enough = omega arith; numbered = omega arith; same = refl }

pub past_last : (k : ℕ) (words : List ℕ) (r : Regs) (t count i : ℕ) → count < i → search_from k words r t count i ≡ jump_by words r (add t 2)
unfolding search_from
past_last zero words r t count i h = refl
past_last (suc k) words r t count i h = grind (arith, nat_tests)

pub ends : (words : List ℕ) (r : Regs) (t count i : ℕ) → count < i → IsSearching words r t count i → jump_by words r (add t 2) ≡ search_from count words r t count 1
ends words r t count i h s = sym (past_last s.turns words r t count i h) ∙ s.same

pub turn : (k : ℕ) (words : List ℕ) (r : Regs) (t count i : ℕ) → i ≤ count → search_from (suc k) words r t count i ≡ (halfword words (add t (4 * i)) >>= λ key. compared (search_from k words r t count) words r t i key)
unfolding search_from
turn k words r t count i h = grind (arith, nat_tests)

-- what a turn at pair i gives, for some turns left afterwards
pub record Turns (words : List ℕ) (r : Regs) (t count i : ℕ) : Type 0 where
  pub left : ℕ
  pub enough : count < i + suc left
  pub same : (halfword words (add t (4 * i)) >>= λ key. compared (search_from left words r t count) words r t i key) ≡ search_from count words r t count 1

pub takes_turn : (words : List ℕ) (r : Regs) (t count i : ℕ) → i ≤ count → IsSearching words r t count i → Turns words r t count i
takes_turn words r t count i h s = split s.turns s.enough s.same
  where
    split : (k : ℕ) → count < i + k → search_from k words r t count i ≡ search_from count words r t count 1 → Turns words r t count i
    split zero e q = absurd (omega arith)
    split (suc k) e q = record { left = k; enough = e; same = sym (turn k words r t count i h) ∙ q }

pub faults : (words : List ℕ) (r : Regs) (t count i : ℕ) (f : Fault) → i ≤ count → halfword words (add t (4 * i)) ≡ Err f → IsSearching words r t count i → Err f ≡ search_from count words r t count 1
faults words r t count i f h e s =
    let u = takes_turn words r t count i h s in
    sym (ap (λ (o : Result ℕ Fault). o >>= λ key. compared (search_from u.left words r t count) words r t i key) e) ∙ u.same

reads : (words : List ℕ) (r : Regs) (t count i key : ℕ) (u : Turns words r t count i) → halfword words (add t (4 * i)) ≡ Ok key → compared (search_from u.left words r t count) words r t i key ≡ search_from count words r t count 1
reads words r t count i key u e =
    sym (ap (λ (o : Result ℕ Fault). o >>= λ key. compared (search_from u.left words r t count) words r t i key) e) ∙ u.same

pub finds : (words : List ℕ) (r : Regs) (t count i key : ℕ) → i ≤ count → halfword words (add t (4 * i)) ≡ Ok key → r.a ≡ key → IsSearching words r t count i → jump_by words r (add t (4 * i + 2)) ≡ search_from count words r t count 1
finds words r t count i key h e q s =
    let u = takes_turn words r t count i h s in
    let same = reads words r t count i key u e in
    grind (arith, nat_tests)

pub goes_on : (words : List ℕ) (r : Regs) (t count i key j : ℕ) → i ≤ count → halfword words (add t (4 * i)) ≡ Ok key → (r.a < key → j ≡ 2 * i) → (key ≤ r.a → j ≡ 2 * i + 1) → r.a ≢ key → IsSearching words r t count i → IsSearching words r t count j
goes_on words r t count i key j h e below above other s =
    let u = takes_turn words r t count i h s in
    let same = reads words r t count i key u e in
    let enough = u.enough in
    let numbered = s.numbered in
    record {
      turns = u.left;
      enough = grind arith;
      numbered = grind arith;
      same = grind (arith, nat_tests);
    }
