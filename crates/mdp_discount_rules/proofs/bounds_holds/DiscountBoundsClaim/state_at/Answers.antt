use Rattle.std.proofs.Common.{◌≡◌, ℕ, [], ◌∷◌, ◌++◌, List, Option, refl}
use Rattle.std.specs.Prelude.{Result, Ok, Err}
use Rattle.mdp_math.specs.{Rational.{ℚ}, Result.{◌>>=◌}}
use Rattle.mdp_spec.specs.Mdp.{Mdp}
use Rattle.mdp_rows.specs.declared.dir.Dir.{Dir}
use Rattle.mdp_farkas.specs.{Reach.{other, choice_exists}, Verdict.{Check, at_choices, objection_to}}
use Rattle.mdp_claims.specs.declared.verdict.Objection.{Objection}
use Rattle.mdp_bounds.specs.Says.{covering_rewards}
use Rattle.mdp_bounds.proofs.Parts.{both, handed}
use Rattle.mdp_discount_rules.specs.BoundsChecks.{each_check, policy_check, bounds_at}
use Rattle.mdp_discount_rules.proofs.bounds_holds.DiscountBoundsClaim.state_at.Goals as goal

-- what stands against the rules at a state, by their parts
parts : (dir : Dir) (m : Mdp) (r : ℕ) (f : ℚ) (lower upper : List (Option ℚ)) (s choice : ℕ) (exists covers follows : Result (Unit {0}) Objection)
    → exists ≡ objection_to (choice_exists m s choice ∷ []) → covers ≡ objection_to (at_choices m s (each_check dir m r f (covering_rewards dir lower upper) s))
    → follows ≡ objection_to (policy_check (other dir) m r f (covering_rewards (other dir) lower upper) s choice ∷ [])
    → exists >>= (λ ok. covers >>= (λ ok. follows)) ≡ objection_to (bounds_at dir m r f lower upper s choice)
parts dir m r f lower upper s choice exists covers follows e c p =
    let cover = at_choices m s (each_check dir m r f (covering_rewards dir lower upper) s) in
    let policy : List Check = policy_check (other dir) m r f (covering_rewards (other dir) lower upper) s choice ∷ [] in
    both (choice_exists m s choice ∷ []) (cover ++ policy) exists _ e (both cover policy covers follows c p)

pub returns-in_err-covers : goal.returns-in_err-covers
returns-in_err-covers c =
    let x = c.args.self in
    handed _ _ _ c.from_residual-in_err-covers.ensures.1
    (parts x.dir x.model.now x.name x.factor.now x.lower.now x.upper.now c.args.s c.args.choice (Ok tt) (Err _) _ (c.in_ok-choice_at.ensures {u = tt}) (c.in_err-covers.ensures {u = tt}) refl)

pub returns : goal.returns
returns c =
    let x = c.args.self in
    parts x.dir x.model.now x.name x.factor.now x.lower.now x.upper.now c.args.s c.args.choice (Ok tt) (Ok tt) _ (c.in_ok-choice_at.ensures {u = tt}) (c.in_ok-covers.ensures {u = tt}) c.follows.ensures
