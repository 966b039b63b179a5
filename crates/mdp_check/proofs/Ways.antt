-- The model on which an until is checked: it has the states of the model, and what a yes says there of reaching a goal, it says of until.
use Rattle.std.proofs.Common.{◌≡◌, ℕ, ◌<◌, Bool, List, [], Option, Some, None, refl, sym, ap, subst, ◌∙◌}
use Rattle.std.specs.{Prelude.{Result, Ok, Err, IfOk}, List.{All}}
use Rattle.mdp_math.specs.Rational.{ℚ}
use Rattle.mdp_spec.specs.{Mdp.{Mdp, states_of}, Row.{IsMdp}, Sub.{sub_of}, Bounds.{ReachMax, ReachMin, SubMax, SubMaxWithin, SubMin}, Between.{ReachMaxBetween, ReachMinBetween}}
use Rattle.mdp_spec.specs.Until.{UntilMax, UntilMin, UntilMaxBetween, UntilMinBetween}
use Rattle.mdp_spec.proofs.{Subsystem.{sub-states}, Until.{until_max_exact, until_min_exact, until_max_of_sub, until_min_of_sub}}
use Rattle.mdp_claims.specs.{declared.verdict.Verdict.{Verdict}, declared.verdict.Verdict.TheVariants.{Yes, No, Wide}}
use Rattle.mdp_claims.specs.declared.subsystem.Flow.{Flow}
use Rattle.mdp_cert.specs.Cert.{PlainClaim, witness}
use Rattle.mdp_farkas.specs.Verdict.{IfYes}
use Rattle.mdp_subsystem_rules.specs.{Kept.{kept_marks}, Shape.{IsFlowShape, IsFloorShape}, Until.{SubUntilMax, SubUntilMaxWithin, SubUntilMin}}
use Rattle.mdp_subsystem_rules.proofs.Untils.{sub_until_max, sub_until_within, sub_until_min}
use Rattle.mdp_check.specs.Check.{stay_marks, way_of, way_by}

pub way_states : {E : Type 0} (m : Mdp) (goals kept : List Bool) (r : Result Mdp E) → IfOk r (λ way. way ≡ sub_of m goals kept) → IfOk r (λ way. states_of way ≡ states_of m)
way_states m goals kept (Ok way) e = ap states_of e ∙ sub-states m goals kept
way_states m goals kept (Err f) e = tt

pub if_yes_so : (v : Verdict) (P Q : Type 0) → (P → Q) → IfYes v P → IfYes v Q
if_yes_so Yes P Q f h = f h
if_yes_so (No fault) P Q f h = tt
if_yes_so (Wide state choice) P Q f h = tt

module _ (m : Mdp) (goals : List Bool) (stay : List ℕ) (known : IsMdp m) (way : Mdp) (is : way ≡ way_of m goals stay) (v : Verdict) where
  pub yes_max : (z : List ℚ) (choices : List ℕ) → IfYes v (ReachMax way goals z choices) → IfYes v (UntilMax m (stay_marks m stay) goals z choices)
  yes_max z choices = if_yes_so v _ _ (λ h. until_max_exact m (stay_marks m stay) goals known z choices (subst (λ (k : Mdp). ReachMax k goals z choices) is h))

  pub yes_min : (z : List ℚ) (choices : List ℕ) → IfYes v (ReachMin way goals z choices) → IfYes v (UntilMin m (stay_marks m stay) goals z choices)
  yes_min z choices = if_yes_so v _ _ (λ h. until_min_exact m (stay_marks m stay) goals known z choices (subst (λ (k : Mdp). ReachMin k goals z choices) is h))

  pub yes_max_between : (low high : List ℚ) (choices : List ℕ) → IfYes v (ReachMaxBetween way goals low high choices) → IfYes v (UntilMaxBetween m (stay_marks m stay) goals low high choices)
  yes_max_between low high choices =
      if_yes_so v _ _ (λ h. until_max_of_sub m (stay_marks m stay) goals known low high choices (subst (λ (k : Mdp). ReachMaxBetween k goals low high choices) is h))

  pub yes_min_between : (low high : List ℚ) (choices : List ℕ) → IfYes v (ReachMinBetween way goals low high choices) → IfYes v (UntilMinBetween m (stay_marks m stay) goals low high choices)
  yes_min_between low high choices =
      if_yes_so v _ _ (λ h. until_min_of_sub m (stay_marks m stay) goals known low high choices (subst (λ (k : Mdp). ReachMinBetween k goals low high choices) is h))

-- ---- subsystems

-- with or without a way named, there are the states of the model
pub way_by_states : (m : Mdp) (goals : List Bool) (stay : Option (List ℕ)) → states_of (way_by m goals stay) ≡ states_of m
way_by_states m goals None = refl
way_by_states m goals (Some stay) = sub-states m goals (stay_marks m stay)

-- what is listed for a model has the same shape for another one with as many states
module _ (m way : Mdp) (size : states_of way ≡ states_of m) (kept : List ℕ) (wide : List Bool) where
  pub flow_shape_on : (flows : List Flow) → IsFlowShape m kept wide flows → IsFlowShape way kept wide flows
  flow_shape_on flows h = record {
    kept_ascends = h.kept_ascends;
    kept_in_range = subst (λ (n : ℕ). All (λ s. s < n) kept) (sym size) h.kept_in_range;
    one_wide_each = h.one_wide_each;
    flows_ascend = h.flows_ascend;
    flows_in_range = subst (λ (n : ℕ). All (λ f. f.state < n) flows) (sym size) h.flows_in_range;
  }

  pub floor_shape_on : (values : List ℚ) (ranks : List ℕ) → IsFloorShape m kept wide values ranks → IsFloorShape way kept wide values ranks
  floor_shape_on values ranks h = record {
    kept_ascends = h.kept_ascends;
    kept_in_range = subst (λ (n : ℕ). All (λ s. s < n) kept) (sym size) h.kept_in_range;
    one_wide_each = h.one_wide_each;
    one_value_each = h.one_value_each;
    one_rank_each = h.one_rank_each;
  }

-- what the kept states show on the way, they show on the model of until
module _ (m : Mdp) (goals : List Bool) (stay kept : List ℕ) (start : ℕ) (t : ℚ) (known : IsMdp m) where
  abbrev the_way : Mdp
  the_way = way_of m goals stay

  abbrev stays_ : List Bool
  stays_ = stay_marks m stay

  same_marks : kept_marks (states_of the_way) kept ≡ kept_marks (states_of m) kept
  same_marks = ap (λ (n : ℕ). kept_marks n kept) (sub-states m goals stays_)

  pub way_sub_max : SubMax the_way goals (kept_marks (states_of the_way) kept) start t → SubUntilMax m stays_ goals (kept_marks (states_of m) kept) start t
  way_sub_max h = sub_until_max m stays_ goals (kept_marks (states_of m) kept) start t known (subst (λ (marks : List Bool). SubMax the_way goals marks start t) same_marks h)

  pub way_sub_within : (flows : ℚ) → SubMaxWithin the_way goals (kept_marks (states_of the_way) kept) start t flows
      → SubUntilMaxWithin m stays_ goals (kept_marks (states_of m) kept) start t flows
  way_sub_within flows h =
      sub_until_within m stays_ goals (kept_marks (states_of m) kept) start t flows known (subst (λ (marks : List Bool). SubMaxWithin the_way goals marks start t flows) same_marks h)

  pub way_sub_min : SubMin the_way goals (kept_marks (states_of the_way) kept) start t → SubUntilMin m stays_ goals (kept_marks (states_of m) kept) start t
  way_sub_min h = sub_until_min m stays_ goals (kept_marks (states_of m) kept) start t known (subst (λ (marks : List Bool). SubMin the_way goals marks start t) same_marks h)

  -- so a yes on the model that is the way shows it
  module _ (way : Mdp) (is : way ≡ the_way) (v : Verdict) where
    pub yes_sub_max : IfYes v (SubMax way goals (kept_marks (states_of way) kept) start t) → IfYes v (SubUntilMax m stays_ goals (kept_marks (states_of m) kept) start t)
    yes_sub_max = if_yes_so v _ _ (λ h. way_sub_max (subst (λ (b : Mdp). SubMax b goals (kept_marks (states_of b) kept) start t) is h))

    pub yes_sub_within : (flows : ℚ) → IfYes v (SubMaxWithin way goals (kept_marks (states_of way) kept) start t flows)
        → IfYes v (SubUntilMaxWithin m stays_ goals (kept_marks (states_of m) kept) start t flows)
    yes_sub_within flows = if_yes_so v _ _ (λ h. way_sub_within flows (subst (λ (b : Mdp). SubMaxWithin b goals (kept_marks (states_of b) kept) start t flows) is h))

    pub yes_sub_min : IfYes v (SubMin way goals (kept_marks (states_of way) kept) start t) → IfYes v (SubUntilMin m stays_ goals (kept_marks (states_of m) kept) start t)
    yes_sub_min = if_yes_so v _ _ (λ h. way_sub_min (subst (λ (b : Mdp). SubMin b goals (kept_marks (states_of b) kept) start t) is h))

-- the label in the claim of a subsystem
abbrev pub label_in : PlainClaim → List ℕ
label_in (witness dir stay label t) = label
label_in claim = []

-- two facts after yes are one
both_yes_so : (v : Verdict) (P Q : Type 0) → IfYes v P → IfYes v Q → IfYes v (P × Q)
both_yes_so Yes P Q p q = (p, q)
both_yes_so (No fault) P Q p q = tt
both_yes_so (Wide state choice) P Q p q = tt

pub both_ok : {E : Type 0} (r : Result Verdict E) (P Q : Type 0) → IfOk r (λ v. IfYes v P) → IfOk r (λ v. IfYes v Q) → IfOk r (λ v. IfYes v (P × Q))
both_ok (Ok v) P Q p q = both_yes_so v P Q p q
both_ok (Err f) P Q p q = tt
