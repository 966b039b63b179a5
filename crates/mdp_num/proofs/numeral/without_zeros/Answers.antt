use Rattle.std.proofs.{Common.{arith, ◌==◌}, lemmas.List.Sums.{suffix_len-le-length}}
use Rattle.mdp_num.proofs.Zeros.{significant-some, significant-none}
use Rattle.mdp_num.proofs.numeral.without_zeros.Goals as goal

pub returns-then-zeros-places : goal.returns-then-zeros-places
returns-then-zeros-places c = significant-some c.args.whole.now c.args.places.now _ c.count_zeros-zeros.ensures c.if-zeros-places.true

pub slice_bounds-result-count-2 : goal.slice_bounds-result-count-2
slice_bounds-result-count-2 c = omega (arith, c.count_zeros.ensures, suffix_len-le-length (λ d. d == 48) c.args.whole.now)

pub returns : goal.returns
returns c = significant-none c.args.whole.now c.args.places.now _ c.count_zeros.ensures
    (omega (arith, c.count_zeros-zeros.ensures, c.if-zeros-places.false, suffix_len-le-length (λ d. d == 48) c.args.places.now))
