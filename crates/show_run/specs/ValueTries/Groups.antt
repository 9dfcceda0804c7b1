-- Tries, in groups of the same outcome.
use Rattle.std.specs.Prelude.{ℕ, ◌≡◌, ◌-◌, ◌^◌, if◌then◌else◌, not, min, max, Bool, List, [], ◌∷◌, map, length}
use Rattle.std.specs.List.{filter}
use Rattle.byte_streams.specs.Faults.{one_more}
use Rattle.show_run.specs.ValueTries.Outcomes.{is_same_outcome}
use Rattle.show_run.specs.ValueTries.Spans.{span_of, spans_of, spans_with}
use Rattle.show_run.specs.declared.value_tries.groups.Gathering.{Gathering}
use Rattle.show_run.specs.declared.value_tries.groups.Group.{Group}
use Rattle.show_run.specs.declared.value_tries.outcomes.Try.{Try}

-- two tries came to the same
abbrev pub is_alike : Try → Try → Bool
is_alike a b = is_same_outcome a.outcome b.outcome

-- the first try of each outcome, in their order
abbrev pub first_tries : List Try → List Try
first_tries [] = []
first_tries (one ∷ tries) = one ∷ filter (λ other. not (is_alike one other)) (first_tries tries)

-- how many these are: at 2 ^ 64 - 1 the count stays as it is
abbrev pub count_of : {X : Type 0} → List X → ℕ
count_of xs = min (length xs) (2 ^ 64 - 1)

-- the least of a number and of numbers
abbrev pub least_of : ℕ → List ℕ → ℕ
least_of n [] = n
least_of n (m ∷ ms) = least_of (min n m) ms

-- the most of them
abbrev pub most_of : ℕ → List ℕ → ℕ
most_of n [] = n
most_of n (m ∷ ms) = most_of (max n m) ms

-- the group of tries of which this one is the first
abbrev pub group_of : Try → List Try → Group
group_of first tries = record {
  outcome = first.outcome;
  count = count_of tries;
  least = least_of first.steps (map (λ one. one.steps) tries);
  most = most_of first.steps (map (λ one. one.steps) tries);
  spans = spans_of (map (λ one. one.value) tries);
}

-- The groups of tries, in the order of the first try of each: all tries that came to what the first did.
abbrev pub groups_of : List Try → List Group
groups_of tries = map (λ first. group_of first (filter (is_alike first) tries)) (first_tries tries)

-- they are gathered
pub record Gathered (g : Gathering) (tries : List Try) : Type 0 where
  -- their groups
  pub groups : g.groups.items ≡ groups_of tries
  -- how many they are
  pub tried : g.tried ≡ count_of tries

-- ---- one try more

-- the group of one try
abbrev pub new_group : Try → Group
new_group one = record { outcome = one.outcome; count = 1; least = one.steps; most = one.steps; spans = span_of one.value ∷ [] }

-- a group, and one try more
abbrev pub group_with : ℕ → ℕ → Group → Group
group_with value steps group = record {
  outcome = group.outcome;
  count = one_more group.count;
  least = min group.least steps;
  most = max group.most steps;
  spans = spans_with value group.spans;
}

-- groups, and one try more: it comes into the first group of its outcome, or else into one of its own
abbrev pub groups_with : Try → List Group → List Group
groups_with one [] = new_group one ∷ []
groups_with one (group ∷ groups) =
    if is_same_outcome group.outcome one.outcome then group_with one.value one.steps group ∷ groups
    else group ∷ groups_with one groups
