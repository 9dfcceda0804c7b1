use Rattle.std.proofs.Common.{[], ◌∷◌, ◌≡◌, ◌++◌, ◌/◌, ◌-◌, ◌<◌, length, get_or, refl, sym, ap, ◌∙◌, arith}
use Rattle.std.proofs.lemmas.List.{get_or_append_left, get_or_push, get_or-set_other, get_or-set_same, length_push}
use Rattle.ram_disc.proofs.contents.sector_to_write.Goals as goal

pub returns-then-size-eq0 : goal.returns-then-size-eq0
returns-then-size-eq0 c =
    let old = c.args.sectors.now.chains in
    let x = get_or old c.args.slot [] in
    let y = x ++ c.grow.result ∷ [] in
    let new = c.grow.new.self.chains in
    let lt : c.args.slot < length old = omega arith in
    let here : get_or new c.args.slot [] ≡ y = ap (λ xs. get_or xs c.args.slot []) c.grow.ensures.chain ∙ get_or-set_same old c.args.slot y [] lt in
    let at : length x ≡ c.args.size / 512 = omega (arith, c.requires.size, c.if-size-eq0.true) in
    record {
      others = λ j ne. ap (λ xs. get_or xs j []) c.grow.ensures.chain ∙ get_or-set_other old c.args.slot j y [] ne;
      before = λ k h. ap (λ xs. get_or xs k 0) here ∙ get_or_append_left x (c.grow.result ∷ []) 0 k h;
      size = omega (arith, ap length here, length_push x c.grow.result, c.requires.size, c.if-size-eq0.true);
      last = sym (ap (λ xs. get_or xs (c.args.size / 512) 0) here ∙ get_or_push x c.grow.result 0 (c.args.size / 512) at);
      left = omega (arith, c.grow.ensures.left, c.requires.size, c.if-size-eq0.true);
      apart = c.grow.ensures.apart;
    }

pub returns-else-size-eq0 : goal.returns-else-size-eq0
returns-else-size-eq0 c =
    let x = get_or c.args.sectors.now.chains c.args.slot [] in
    let at : length x - 1 ≡ c.args.size / 512 = omega (arith, c.requires.size, c.if-size-eq0.false) in
    record {
      others = λ j ne. refl;
      before = λ k h. refl;
      size = omega (arith, c.requires.size, c.if-size-eq0.false);
      last = c.last.ensures.last ∙ ap (λ i. get_or x i 0) at;
      left = omega (arith, c.if-size-eq0.false);
      apart = c.last.ensures.apart;
    }

pub grow-requires-clause-room : goal.grow-requires-clause-room
grow-requires-clause-room c = omega (arith, c.requires.room, c.if-size-eq0.true)
