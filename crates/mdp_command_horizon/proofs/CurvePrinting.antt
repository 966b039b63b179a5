-- A text that is due to `curve` is that of a curve.
use Rattle.std.proofs.Common.{◌≡◌, ℕ, ◌≤◌, Bool, List, Option, Some, None, Ok, pos, refl, sym}
use Rattle.mdp_math.specs.Result.{◌>>=◌}
use Rattle.mdp_spec.specs.{Labels.{place_of, initial_of}, Mdp.{Mdp}, Row.{IsMdp}}
use Rattle.mdp_rows.specs.{declared.dir.Dir.{Dir}, declared.dir.Dir.TheVariants.{Max, Min}}
use Rattle.mdp_text.proofs.InitialState.{initial_below}
use Rattle.mdp_horizon.specs.{Objective.{Objective}, Objective.Objective.{until as until_objective, total as total_objective}}
use Rattle.mdp_horizon.specs.{Finer.{unit_of}, Curve.{curve_of, IsFiniteCurve}, CurveSpelling.{curve_text}}
use Rattle.mdp_horizon.specs.{BoundsSpelling.{PlainClaim}, BoundsSpelling.PlainClaim.{until as until_claim, total as total_claim}}
use Rattle.mdp_horizon.proofs.{Turns.{ok_same, ok_part}, Curves.{length_by, bounds_by, max_by, min_by, near_by, finite_by}, Fineness.{unit-positive, unit-narrow}}
use Rattle.mdp_command_horizon.specs.{CurveDue.{said_of_curve, IsUntilCurveDue, IsTotalCurveDue}, Due.{states_with, states_that_stay, stay_word}}
use Rattle.mdp_command_horizon.specs.CurvePrinted.{IsCurveBetween, IsCurvePrinted, IsUntilCurvePrinted, IsTotalCurvePrinted}
use Rattle.mdp_command_horizon.proofs.Printing.{place_part}

module _ (steps digits : ℕ) (m : Mdp) (mdp : IsMdp m) where
  between_of : (dir : Dir) (o : Objective) (s : ℕ) → initial_of m ≡ Some s → IsCurveBetween dir m o s steps (curve_of dir (pos (unit_of m o digits steps)) m o s steps)
  between_of Max o s is = max_by (unit_of m o digits steps) (unit-positive m o digits steps) m o mdp s steps (initial_below m s is) _ Max refl refl
  between_of Min o s is = min_by (unit_of m o digits steps) (unit-positive m o digits steps) m o mdp s steps (initial_below m s is) _ Min refl refl

  -- what is said of a state that is the initial one
  printed_at : (dir : Dir) (asked : PlainClaim) (o : Objective) (text : List ℕ) (start : Option ℕ) → initial_of m ≡ start → said_of_curve dir asked o steps digits m start ≡ Ok text
      → IsCurvePrinted dir asked o steps digits m text
  printed_at dir asked o text None is due = cc due
  printed_at dir asked o text (Some s) is due =
      let one : ℕ = unit_of m o digits steps in
      let above = unit-positive m o digits steps in
      let h = initial_below m s is in
      record {
        start = s;
        start_is = is;
        curve = curve_of dir (pos one) m o s steps;
        spelled = sym (ok_same (curve_text dir asked s (curve_of dir (pos one) m o s steps)) text due);
        one_each = length_by one above m o mdp s steps h (curve_of dir (pos one) m o s steps) dir refl;
        between = between_of dir o s is;
        bounds = bounds_by one above m o mdp s steps h (curve_of dir (pos one) m o s steps) dir refl;
        near = near_by one above m o mdp s steps h (curve_of dir (pos one) m o s steps) dir digits refl;
      }

  -- of a bounded until each value is there
  finite_at : (dir : Dir) (asked : PlainClaim) (stays goals : List Bool) (text : List ℕ) (start : Option ℕ) (is : initial_of m ≡ start)
      (due : said_of_curve dir asked (until_objective stays goals) steps digits m start ≡ Ok text) → digits ≤ 30
      → IsFiniteCurve steps (IsCurvePrinted.curve (printed_at dir asked (until_objective stays goals) text start is due))
  unfolding printed_at curve_of
  finite_at dir asked stays goals text None is due few = cc due
  finite_at dir asked stays goals text (Some s) is due few =
      let o : Objective = until_objective stays goals in
      finite_by (unit_of m o digits steps) m stays goals dir s steps _ (unit-positive m o digits steps) (unit-narrow m o digits steps few) mdp (initial_below m s is) refl

pub printed_of_until : (dir : Dir) (stay : Option (List ℕ)) (label : List ℕ) (steps digits : ℕ) (m : Mdp) (text : List ℕ) → IsMdp m → digits ≤ 30
    → IsUntilCurveDue dir stay label steps digits m (Ok text) → IsUntilCurvePrinted dir stay label steps digits m text
printed_of_until dir stay label steps digits m text mdp few due =
    let asked : PlainClaim = until_claim (stay_word stay) label in
    let a = ok_part (states_that_stay m stay) (λ stays. states_with m label >>= (λ goals. said_of_curve dir asked (until_objective stays goals) steps digits m (initial_of m))) text (sym due) in
    let b = ok_part (states_with m label) (λ goals. said_of_curve dir asked (until_objective a.0 goals) steps digits m (initial_of m)) text a.2 in
    record {
      stays = a.0;
      stays_are = a.1;
      goals = b.0;
      goals_are = b.1;
      printed = printed_at steps digits m mdp dir asked (until_objective a.0 b.0) text (initial_of m) refl b.2;
      finite = finite_at steps digits m mdp dir asked a.0 b.0 text (initial_of m) refl b.2 few;
    }

pub printed_of_total : (dir : Dir) (name : List ℕ) (steps digits : ℕ) (m : Mdp) (text : List ℕ) → IsMdp m → IsTotalCurveDue dir name steps digits m (Ok text)
    → IsTotalCurvePrinted dir name steps digits m text
printed_of_total dir name steps digits m text mdp due =
    let r = place_part (place_of name m.names) (λ r. said_of_curve dir (total_claim name) (total_objective r) steps digits m (initial_of m)) text (sym due) in
    record { place = r.0; place_is = r.1; printed = printed_at steps digits m mdp dir (total_claim name) (total_objective r.0) text (initial_of m) refl r.2 }
