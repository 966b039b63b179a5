use Rattle.std.proofs.{Common.{pos, ◌<ℤ◌, ℤ, sym, subst, arith}, lemmas.Int.{ints}}
use Rattle.mdp_math.proofs.Laws.{den-pos}
use Rattle.mdp_num.proofs.Values.{den-bits, narrow_value}
use Rattle.mdp_num.proofs.frac.Frac.den.Goals as goal

pub returns : goal.returns
returns c =
    let e = den-bits _ _ c.self.view_is c.self.invariant in
    record {
      value = e;
      positive = subst (λ (z : ℤ). pos 0 <ℤ z) (sym e) (omega (arith, ints, den-pos c.args.self.now));
      narrow = narrow_value _ _ c.self.view_is c.self.invariant;
    }
