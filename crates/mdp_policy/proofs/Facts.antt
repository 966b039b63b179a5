-- What the answer of the written computation means.
use Rattle.std.proofs.Common.{◌≡◌, ℕ, ◌<◌, Bool, List, length, Option, Some, None, Result, Ok, subst}
use Rattle.mdp_math.specs.{Rational.{ℚ}, Result.{◌>>=◌}}
use Rattle.mdp_spec.specs.{Mdp.{Mdp, states_of}, Row.{IsMdp}, Tree.{IsPolicy}}
use Rattle.mdp_rows.specs.declared.dir.Dir.TheVariants.{Max, Min}
use Rattle.mdp_elim.specs.Laws.{GivesSolutions}
use Rattle.mdp_graph.specs.Laws.{RowsFall, RowsStay}
use Rattle.mdp_policy_iteration.specs.Places.{Place}
use Rattle.mdp_policy_iteration.proofs.Results.{ok_same, ok_part}
use Rattle.mdp_reach.specs.Query.{AreMaxRanks}
use Rattle.mdp_policy.specs.{Bounds.{PolicyBound, AreGreatest, Raises, Lowers}, Written.{Answer, evaluated, first_change, with_changes, written_value}}
use Rattle.mdp_policy.specs.declared.value.Change.{Change}
use Rattle.mdp_policy.proofs.Values.{MeetsPolicyValue, IsBetterChoice, policy_bound_of_rules, reach_max_of_policy, passes_of_better, stays_below_of_better}
use Rattle.mdp_policy.proofs.{Choosing.{IsFound, first_change-is}, Solving.{evaluated_meets}}

pub record IsValued (m : Mdp) (stay : Option (List Bool)) (goals : List Bool) (policy : List ℕ) (a : Answer) : Type 0 where
  pub each : length a.values ≡ states_of m
  pub bound : PolicyBound m stay goals a.values policy
  pub none_up : a.up ≡ None → AreGreatest m stay goals a.values policy
  pub up : Raises m stay goals a
  pub down : Lowers m stay goals a
  pub up_in : (change : Change) → a.up ≡ Some change → change.state < states_of m
  pub down_in : (change : Change) → a.down ≡ Some change → change.state < states_of m

module _ (m : Mdp) (goals : List Bool) (policy ranks : List ℕ) (known_ : IsMdp m) (is : IsPolicy m policy) (along : AreMaxRanks m goals policy ranks)
    (falls : RowsFall) (stays : RowsStay) (gives : GivesSolutions) where
  abbrev marks_ : List Bool
  marks_ = AreMaxRanks.marks along

  valued : (z : List ℚ) (up down : Option Change) → MeetsPolicyValue m goals z policy marks_ ranks → IsFound Max m goals z (states_of m) up → IsFound Min m goals z (states_of m) down
      → IsValued m None goals policy (record { values = z; up = up; down = down })
  valued z up down rules found lower = record {
    each = rules.lengths;
    bound = policy_bound_of_rules m goals z policy marks_ ranks known_ rules;
    none_up = λ e. reach_max_of_policy m goals z policy marks_ ranks known_ rules (subst (IsFound Max m goals z (states_of m)) e found);
    up = λ change e. let b = subst (IsFound Max m goals z (states_of m)) e found in passes_of_better m goals z policy marks_ ranks known_ rules change.state change.choice b;
    down = λ change e. let b = subst (IsFound Min m goals z (states_of m)) e lower in stays_below_of_better m goals z policy marks_ ranks known_ rules change.state change.choice b;
    up_in = λ change e. IsBetterChoice.state (subst (IsFound Max m goals z (states_of m)) e found);
    down_in = λ change e. IsBetterChoice.state (subst (IsFound Min m goals z (states_of m)) e lower);
  }

  pub written_valued : (a : Answer) → written_value m goals marks_ policy ≡ Ok a → IsValued m None goals policy a
  written_valued a made =
      let last : List ℚ → Option Change → Option Change → Result Answer Place = λ z up down. Ok (record { values = z; up = up; down = down }) in
      let p = ok_part (evaluated m goals marks_ policy) (with_changes m goals) a made in
      let q = ok_part (first_change Max m goals p.0 (states_of m)) (λ up. first_change Min m goals p.0 (states_of m) >>= last p.0 up) a p.2 in
      let r = ok_part (first_change Min m goals p.0 (states_of m)) (last p.0 q.0) a q.2 in
      let made : Answer = record { values = p.0; up = q.0; down = r.0 } in
      subst (IsValued m None goals policy) (ok_same made a r.2)
      (valued p.0 q.0 r.0 (evaluated_meets m goals policy ranks known_ is along falls stays gives p.0 p.1) (first_change-is Max m goals p.0 q.0 q.1)
      (first_change-is Min m goals p.0 r.0 r.1))
