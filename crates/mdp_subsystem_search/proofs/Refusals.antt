-- What the errors of the exact query say of the search.
use Rattle.std.proofs.Common.{ℕ, Bool, List, Err, inl}
use Rattle.mdp_math.specs.Rational.{ℚ}
use Rattle.mdp_spec.specs.Mdp.{Mdp}
use Rattle.mdp_spec.proofs.Reach.{reach_max_between, reach_min_between}
use Rattle.mdp_rows.specs.{declared.dir.Dir.{Dir}, declared.dir.Dir.TheVariants.{Max, Min}}
use Rattle.mdp_wide.specs.Term.{shown}
use Rattle.mdp_witness.specs.{Code.{plain, Answers}, Query.{EndsSo}, Shown.{IsBestBelow}, declared.subsystem.WitnessError.{WitnessError}}
use Rattle.mdp_witness.specs.Code as exact
use Rattle.mdp_witness.specs.declared.subsystem.WitnessError.TheVariants as refused
use Rattle.mdp_subsystem_search.specs.{Shown.{IsBelow, IsUndecided, IsWide}, Steps.{IsOpen}, Code.{IfBelow, IfUndecided, unshown_of}}

module _ (dir : Dir) (m : Mdp) (goals : List Bool) (start : ℕ) (threshold : ℚ) where
  -- a best probability below the threshold is an upper value below it
  pub below_of_best : (d : Dir) → (v : ℚ) → IsBestBelow d m goals start threshold v → IsBelow d m goals start threshold v
  below_of_best Max v b = record { lower = b.values; upper = b.values; policy = b.policy; between = reach_max_between m goals b.values b.policy b.best; value = b.value; less = b.less }
  below_of_best Min v b = record { lower = b.values; upper = b.values; policy = b.policy; between = reach_min_between m goals b.values b.policy b.best; value = b.value; less = b.less }

  pub below_of : (error : WitnessError) (low high : ℚ) → exact.IfBelow error (IsBestBelow dir m goals start threshold)
      → IfBelow (unshown_of error low high) (IsBelow dir m goals start threshold)
  below_of (refused.Below v) low high b = below_of_best dir v b
  below_of (refused.TooWide w) low high b = tt
  below_of refused.Memory low high b = tt

  -- what is open, and wide, is undecided
  pub undecided_of : (low high : ℚ) → IsOpen dir m goals start threshold low high → IsWide dir m goals start threshold → IsUndecided dir m goals start threshold low high
  undecided_of low high o wide = record {
    lower = o.lower;
    upper = o.upper;
    policy = o.policy;
    between = o.between;
    lowest = o.lowest;
    highest = o.highest;
    under = o.under;
    over = o.over;
    wide = wide;
  }

  pub undecided_by : (error : WitnessError) (low high : ℚ) → IsOpen dir m goals start threshold low high → Answers plain (EndsSo dir m goals start threshold) (Err error)
      → IfUndecided (unshown_of error low high) (IsUndecided dir m goals start threshold)
  undecided_by (refused.Below v) low high o end = tt
  undecided_by (refused.TooWide w) low high o end = undecided_of low high o (inl (shown w end.0, end.2))
  undecided_by refused.Memory low high o end = tt
