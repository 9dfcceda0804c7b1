use Rattle.std.proofs.Common.{◌≡◌, ◌∙◌, ℕ, ◌+◌, ◌-◌, List, get_or, reverse, refl, sym, ap, arith}
use Rattle.std.specs.Prelude.{slice_range}
use Rattle.word_store.specs.Arithmetic.{add, mul}
use Rattle.kernel_lists.specs.HunkLoader.Globals.{global_of_number, globals_of_pairs, with_globals}
use Rattle.kernel_lists.proofs.HunkLoader.GlobalLists.{globals-none, globals-some, number-is, pairs-end, pairs-more, pairs-stop, some_words, with_globals-append, with_globals-other}
use Rattle.kernel_lists.proofs.hunk_loader.globals.init_hunk.Goals as goal

pub returns-then-highest-eq0 : goal.returns-then-highest-eq0
returns-then-highest-eq0 c =
    let s = c.args.store.now in
    let none = globals-none s c.args.base c.args.count c.requires.hunk (sym c.highest.ensures ∙ c.if-highest-eq0.true) in
    sym (ap (λ xs. with_globals s c.args.g xs) none)

pub loop-left-init : goal.loop-left-init
loop-left-init c =
    let s = c.args.store.now in
    let base = c.args.base in
    let n = c.args.count in
    let top = c.highest.ensures in
    let many = some_words s base n c.requires.hunk (λ e. c.if-highest-eq0.false (top ∙ e)) in
    record {
      all = sym (ap (λ xs. with_globals s c.args.g xs) (globals-some s base n (base + (n - 1)) c.requires.hunk (omega arith) (omega arith) (λ e. c.if-highest-eq0.false (top ∙ e))));
      same = λ a above below. refl;
      few = omega arith;
    }

pub returns-then-offset-eq0 : goal.returns-then-offset-eq0
returns-then-offset-eq0 c =
    let s = c.args.store.now in
    let l = c.loop-left.invariant in
    let few = l.few in
    let left = c.loop-left.left in
    let same = l.same (c.args.base + (left - 1)) (omega arith) (omega arith) in
    let stop = pairs-stop s c.args.base left (omega arith) (omega (arith, c.requires.hunk)) (sym same ∙ sym c.word_at-offset.ensures ∙ c.if-offset-eq0.true) in
    sym (ap (λ xs. with_globals c.loop-left.store c.args.g xs) stop) ∙ l.all

pub loop-left-preserved : goal.loop-left-preserved
loop-left-preserved c =
    let s = c.args.store.now in
    let t = c.loop-left.store in
    let g = c.args.g in
    let base = c.args.base in
    let l = c.loop-left.invariant in
    let few = l.few in
    let left = c.loop-left.left in
    let offset = c.word_at-offset.result in
    let number = c.word_at-number.result in
    let offset-is : offset ≡ get_or s (base + (left - 1)) 0 = c.word_at-offset.ensures ∙ l.same (base + (left - 1)) (omega arith) (omega arith) in
    let number-is' : number ≡ get_or s (base + (left - 2)) 0 = c.word_at-number.ensures ∙ l.same (base + (left - 2)) (omega arith) (omega arith) in
    let value : c.add.result ≡ add (mul 4 base) offset = c.add.ensures ∙ ap (λ (x : ℕ). add x offset) c.mul.ensures in
    let more = pairs-more s base left (left - 2) (omega arith) (omega (arith, c.requires.hunk)) (λ e. c.if-offset-eq0.false (offset-is ∙ e)) in
    let this = global_of_number (get_or s (base + (left - 2)) 0) (add (mul 4 base) (get_or s (base + (left - 1)) 0)) in
    let now : c.init_global.new.store ≡ with_globals t g this
    = c.init_global.ensures ∙ ap (λ (x : ℕ). with_globals t g (global_of_number number x)) value
    ∙ (λ i. with_globals t g (global_of_number (number-is' i) (add (mul 4 base) (offset-is i)))) in
    let rest = globals_of_pairs base (reverse (slice_range s base (base + (left - 2)))) in
    record {
      all = ap (λ (x : List ℕ). with_globals x g rest) now ∙ sym (with_globals-append t g this rest) ∙ sym (ap (λ xs. with_globals t g xs) more) ∙ l.all;
      same = λ a above below.
          ap (λ (x : List ℕ). get_or x a 0) now
          ∙ with_globals-other t g base (base + c.args.count) this a (number-is (get_or s (base + (left - 2)) 0) (add (mul 4 base) (get_or s (base + (left - 1)) 0))) c.requires.clear above below ∙ l.same a above below;
      few = omega arith;
    }

pub returns : goal.returns
returns c =
    let s = c.args.store.now in
    let l = c.loop-left.invariant in
    let few = l.few in
    let stop = pairs-end s c.args.base c.loop-left.left (omega (arith, c.requires.hunk)) (omega arith) in
    sym (ap (λ xs. with_globals c.loop-left.store c.args.g xs) stop) ∙ l.all
