use Rattle.std.proofs.Common.{◌≡◌, ℕ, Bool, [], ◌∷◌, ◌++◌, List, Option, refl}
use Rattle.std.specs.Prelude.{Result, Ok, Err}
use Rattle.mdp_math.specs.{Rational.{ℚ}, Result.{◌>>=◌}}
use Rattle.mdp_spec.specs.Mdp.{Mdp}
use Rattle.mdp_rows.specs.declared.dir.Dir.{Dir}
use Rattle.mdp_farkas.specs.{Reach.{choice_exists}, Verdict.{objection_to}}
use Rattle.mdp_claims.specs.declared.verdict.Objection.{Objection}
use Rattle.mdp_bounds.specs.Reward.{order_check, lower_checks, upper_value_checks, sign_checks, reward_bounds_at}
use Rattle.mdp_bounds.proofs.Parts.{both, handed}
use Rattle.mdp_bounds.proofs.reward.RewardBoundsClaim.state_at.Goals as goal

-- what stands against the rules at a state, by their parts
parts : (dir : Dir) (m : Mdp) (r : ℕ) (goals : List Bool) (lower upper : List (Option ℚ)) (ranks : List ℕ) (s choice : ℕ) (exists order below above signs : Result (Unit {0}) Objection)
    → exists ≡ objection_to (choice_exists m s choice ∷ []) → order ≡ objection_to (order_check lower upper s ∷ [])
    → below ≡ objection_to (lower_checks dir m r goals lower ranks s choice) → above ≡ objection_to (upper_value_checks dir m r goals upper ranks s choice) → signs ≡ objection_to (sign_checks m r s)
    → exists >>= (λ ok. order >>= (λ ok. below >>= (λ ok. above >>= (λ ok. signs)))) ≡ objection_to (reward_bounds_at dir m r goals lower upper ranks s choice)
parts dir m r goals lower upper ranks s choice exists order below above signs e o l u n =
    let low = lower_checks dir m r goals lower ranks s choice in
    let high = upper_value_checks dir m r goals upper ranks s choice in
    let last = sign_checks m r s in
    both (choice_exists m s choice ∷ []) (order_check lower upper s ∷ (low ++ (high ++ last))) exists _ e
    (both (order_check lower upper s ∷ []) (low ++ (high ++ last)) order _ o (both low (high ++ last) below _ l (both high last above signs u n)))

pub returns-in_err-lower : goal.returns-in_err-lower
returns-in_err-lower c =
    let x = c.args.self in
    handed _ _ _ c.from_residual-in_err-lower.ensures.1
    (parts x.dir x.model.now x.name x.goals.now x.lower.now x.upper.now x.ranks.now c.args.s c.args.choice (Ok tt) (Ok tt) (Err _) _ _
    (c.in_ok-choice_at.ensures {u = tt}) (c.in_ok-order_at.ensures {u = tt}) (c.in_err-lower.ensures {u = tt}) refl refl)

pub returns-in_err-upper : goal.returns-in_err-upper
returns-in_err-upper c =
    let x = c.args.self in
    handed _ _ _ c.from_residual-in_err-upper.ensures.1
    (parts x.dir x.model.now x.name x.goals.now x.lower.now x.upper.now x.ranks.now c.args.s c.args.choice (Ok tt) (Ok tt) (Ok tt) (Err _) _
    (c.in_ok-choice_at.ensures {u = tt}) (c.in_ok-order_at.ensures {u = tt}) (c.in_ok-lower.ensures {u = tt}) (c.in_err-upper.ensures {u = tt}) refl)

pub returns : goal.returns
returns c =
    let x = c.args.self in
    parts x.dir x.model.now x.name x.goals.now x.lower.now x.upper.now x.ranks.now c.args.s c.args.choice (Ok tt) (Ok tt) (Ok tt) (Ok tt) _
    (c.in_ok-choice_at.ensures {u = tt}) (c.in_ok-order_at.ensures {u = tt}) (c.in_ok-lower.ensures {u = tt}) (c.in_ok-upper.ensures {u = tt}) c.signs_at.ensures
