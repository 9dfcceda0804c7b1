use Rattle.std.proofs.Common.{[], ◌≡◌, ℕ, ◌<◌, length, map, get_or, true, sym, subst, ap, ◌∙◌, arith, inl, inr}
use Rattle.std.proofs.lemmas.Bool.{cases_eq}
use Rattle.std.proofs.lemmas.List.{get_or-map, get_or_read, length-map}
use Rattle.ram_disc.specs.Disc.{is_before}
use Rattle.ram_disc.specs.Slots.{name_in}
use Rattle.ram_disc.proofs.NameOrder.{is_before-greater, is_before-trans, order-get_or, same-cmp}
use Rattle.ram_disc.proofs.SlotLemmas.{used-inside}
use Rattle.ram_disc.proofs.directory.Directory.place_of.Goals as goal

pub index-requires : goal.index-requires
index-requires c =
    let d = c.args.self.now in
    let lt : c.loop-i.i < length d.used.items = omega (arith, c.loop-i-test.true, ap length c.as_slice-slot-items.ensures.value) in
    omega (
      arith,
      d.names.ok.0,
      ap (λ xs. get_or xs c.loop-i.i 0) c.as_slice-slot-items.ensures.value,
      used-inside d.names.items d.used.items d.unused.items c.requires c.loop-i.i lt,
    )

pub returns-in-Equal-clause-place : goal.returns-in-Equal-clause-place
returns-in-Equal-clause-place c =
    let d = c.args.self.now in
    let i = c.loop-i.i in
    let lt : i < length d.used.items = omega (arith, c.loop-i-test.true, ap length c.as_slice-slot-items.ensures.value) in
    let slot = get_or c.as_slice-slot-items.result.now i 0 in
    let same : slot ≡ get_or d.used.items i 0 = ap (λ xs. get_or xs i 0) c.as_slice-slot-items.ensures.value in
    let inside : slot < length d.names.items = omega (arith, same, used-inside d.names.items d.used.items d.unused.items c.requires i lt) in
    let read : name_in d.names.items (get_or d.used.items i 0) ≡ c.bytes.result.now =
    ap (name_in d.names.items) (sym same)
    ∙ sym (c.bytes.ensures.value ∙ get_or_read d.names.items slot _ inside c.index.ensures []) in
    record { within = lt; is = read ∙ same-cmp c.bytes.result.now c.bytes-bytes.result.now (sym c.cmp.ensures ∙ c.in-Equal.is) ∙ c.bytes-bytes.ensures.value }

pub returns-in-Greater-clause-place : goal.returns-in-Greater-clause-place
returns-in-Greater-clause-place c =
    let d = c.args.self.now in
    let names = d.names.items in
    let used = d.used.items in
    let name = c.args.name.now in
    let i = c.loop-i.i in
    let lt : i < length used = omega (arith, c.loop-i-test.true, ap length c.as_slice-slot-items.ensures.value) in
    let slot = get_or c.as_slice-slot-items.result.now i 0 in
    let same : slot ≡ get_or used i 0 = ap (λ xs. get_or xs i 0) c.as_slice-slot-items.ensures.value in
    let inside : slot < length names = omega (arith, same, used-inside names used d.unused.items c.requires i lt) in
    let read : name_in names (get_or used i 0) ≡ c.bytes.result.now =
    ap (name_in names) (sym same) ∙ sym (c.bytes.ensures.value ∙ get_or_read names slot _ inside c.index.ensures []) in
    let here : is_before name (name_in names (get_or used i 0)) ≡ true =
    ap (λ n. is_before n (name_in names (get_or used i 0))) (sym c.bytes-bytes.ensures.value)
    ∙ ap (is_before c.bytes-bytes.result.now) read ∙ is_before-greater c.bytes.result.now c.bytes-bytes.result.now (sym c.cmp.ensures ∙ c.in-Greater.is) in
    let at : (k : ℕ) → k < length used → get_or (map (name_in names) used) k [] ≡ name_in names (get_or used k 0) =
    λ k h. get_or-map (name_in names) used k 0 [] h in
    record {
      within = omega (arith, lt);
      before = λ k low. ap (is_before (name_in names (get_or used k 0))) (sym c.bytes-bytes.ensures.value) ∙ c.loop-i.invariant k low;
      after = λ k low h. elim (cases_eq k i) [
        | inl e ↦ subst (λ j. is_before name (name_in names (get_or used j 0)) ≡ true) (sym e) here
        | inr ne ↦ (
            let later = order-get_or (map (name_in names) used) i k c.requires.in_order (omega arith) (omega (arith, h, length-map used (name_in names))) in
            let next : is_before (name_in names (get_or used i 0)) (name_in names (get_or used k 0)) ≡ true =
            ap (λ n. is_before n (name_in names (get_or used k 0))) (sym (at i lt))
            ∙ ap (is_before (get_or (map (name_in names) used) i [])) (sym (at k h)) ∙ later in
            is_before-trans name (name_in names (get_or used i 0)) (name_in names (get_or used k 0)) here next
            )
      ];
    }
