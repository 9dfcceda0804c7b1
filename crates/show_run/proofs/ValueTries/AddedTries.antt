-- Groups, of which one gets a try more.
use Rattle.std.proofs.Common.{◌≡◌, ◌∙◌, ℕ, suc, ◌+◌, ◌<◌, true, List, ◌∷◌, ◌++◌, length, get_or, set, take, drop, cond, sym, ap, arith}
use Rattle.std.proofs.lemmas.List.{drop_more, set_split}
use Rattle.show_run.specs.ValueTries.Groups.{group_with, groups_with}
use Rattle.show_run.specs.ValueTries.Outcomes.{is_same_outcome}
use Rattle.show_run.specs.declared.value_tries.groups.Group.{Group}
use Rattle.show_run.specs.declared.value_tries.outcomes.Try.{Try}

-- the group at a place is the first of the outcome
pub add-there : (one : Try) (gs : List Group) (i : ℕ) (group : Group) → i < length gs → groups_with one gs ≡ take i gs ++ groups_with one (drop i gs) → group ≡ get_or gs i group → is_same_outcome group.outcome one.outcome ≡ true
    → set gs i (group_with one.value one.steps group) ≡ groups_with one gs
add-there one gs i group lt before read same =
    let next : suc i ≡ i + 1 = omega arith in
    let longer = group_with one.value one.steps group in
    let rest = drop (i + 1) gs in
    let split : drop i gs ≡ group ∷ rest = drop_more gs i group lt ∙ ap (λ g. g ∷ rest) (sym read) in
    let there : groups_with one (group ∷ rest) ≡ longer ∷ rest = ap (λ b. cond b (longer ∷ rest) (group ∷ groups_with one rest)) same in
    set_split gs i longer lt ∙ ap (λ n. take i gs ++ longer ∷ drop n gs) next ∙ sym (before ∙ ap (λ r. take i gs ++ groups_with one r) split ∙ ap (λ r. take i gs ++ r) there)
