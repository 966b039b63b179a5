-- A text that is due to `bounds` within a number of steps is that of bounds.
use Rattle.std.proofs.Common.{◌≡◌, ℕ, ◌*◌, ◌≤◌, nat_lt, List, Option, Ok, pos, refl, sym}
use Rattle.mdp_math.specs.Result.{◌>>=◌}
use Rattle.mdp_spec.specs.{Labels.{place_of}, Mdp.{Mdp, states_of}, Row.{IsMdp}}
use Rattle.mdp_rows.specs.{declared.dir.Dir.{Dir}, declared.dir.Dir.TheVariants.{Max, Min}}
use Rattle.mdp_horizon.specs.{Objective.{Objective}, Objective.Objective.{until as until_objective, total as total_objective}}
use Rattle.mdp_horizon.specs.{Columns.{bounds_of}, Finer.{unit_of}}
use Rattle.mdp_horizon.specs.{BoundsSpelling.{PlainClaim, bounds_text}, BoundsSpelling.PlainClaim.{until as until_claim, total as total_claim}}
use Rattle.mdp_horizon.proofs.{Turns.{ok_same, ok_part}, Between.{bounds-max, bounds-min}}
use Rattle.mdp_horizon.proofs.{Finite.{finite_by}, Gap.{near_by}, Fineness.{unit-positive, unit-narrow}}
use Rattle.mdp_command_horizon.specs.BoundsDue.{said_of_bounds, IsUntilBoundsDue, IsTotalBoundsDue}
use Rattle.mdp_command_horizon.specs.BoundsPrinted.{AreBetween, AreBoundsPrinted, AreUntilBoundsPrinted, AreTotalBoundsPrinted}
use Rattle.mdp_command_horizon.specs.Due.{most_choices, states_with, states_that_stay, stay_word}
use Rattle.mdp_command_horizon.proofs.Printing.{not_long, place_part}

module _ (steps digits : ℕ) (m : Mdp) (mdp : IsMdp m) where
  between_of : (dir : Dir) (o : Objective) → AreBetween dir m o steps (bounds_of dir (pos (unit_of m o digits steps)) m o steps)
  between_of Max o = bounds-max (unit_of m o digits steps) m o steps (unit-positive m o digits steps) mdp
  between_of Min o = bounds-min (unit_of m o digits steps) m o steps (unit-positive m o digits steps) mdp

  printed_of : (dir : Dir) (asked : PlainClaim) (o : Objective) (text : List ℕ) → said_of_bounds dir asked o steps digits m ≡ Ok text
      → AreBoundsPrinted dir asked o steps digits m text
  printed_of dir asked o text due =
      let one : ℕ = unit_of m o digits steps in
      let found : List ℕ = bounds_text dir asked m (bounds_of dir (pos one) m o steps) in
      record {
        bounds = bounds_of dir (pos one) m o steps;
        spelled = sym (ok_same found text (not_long (nat_lt most_choices (steps * states_of m)) (Ok found) text due));
        between = between_of dir o;
        near = near_by dir digits one m o steps (bounds_of dir (pos one) m o steps) (unit-positive m o digits steps) mdp refl;
      }

  pub printed_of_until : (dir : Dir) (stay : Option (List ℕ)) (label : List ℕ) (text : List ℕ) → digits ≤ 30
      → IsUntilBoundsDue dir stay label steps digits m (Ok text) → AreUntilBoundsPrinted dir stay label steps digits m text
  unfolding printed_of
  printed_of_until dir stay label text few due =
      let asked : PlainClaim = until_claim (stay_word stay) label in
      let a =
      ok_part (states_that_stay m stay) (λ stays. states_with m label >>= (λ goals. said_of_bounds dir asked (until_objective stays goals) steps digits m)) text
      (sym due)
      in
      let b = ok_part (states_with m label) (λ goals. said_of_bounds dir asked (until_objective a.0 goals) steps digits m) text a.2 in
      let o : Objective = until_objective a.0 b.0 in
      record {
        stays = a.0;
        stays_are = a.1;
        goals = b.0;
        goals_are = b.1;
        printed = printed_of dir asked o text b.2;
        finite = finite_by dir (unit_of m o digits steps) m a.0 b.0 steps _ (unit-positive m o digits steps) (unit-narrow m o digits steps few) mdp refl;
      }

  pub printed_of_total : (dir : Dir) (name : List ℕ) (text : List ℕ) → IsTotalBoundsDue dir name steps digits m (Ok text)
      → AreTotalBoundsPrinted dir name steps digits m text
  printed_of_total dir name text due =
      let r = place_part (place_of name m.names) (λ r. said_of_bounds dir (total_claim name) (total_objective r) steps digits m) text (sym due) in
      record { place = r.0; place_is = r.1; printed = printed_of dir (total_claim name) (total_objective r.0) text r.2 }
