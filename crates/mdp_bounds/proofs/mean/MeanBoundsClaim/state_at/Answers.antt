use Rattle.std.proofs.Common.{◌≡◌, ℕ, [], ◌∷◌, ◌++◌, List, refl}
use Rattle.std.specs.Prelude.{Result, Ok, Err}
use Rattle.mdp_math.specs.{Rational.{ℚ}, Result.{◌>>=◌}}
use Rattle.mdp_spec.specs.Mdp.{Mdp}
use Rattle.mdp_rows.specs.declared.dir.Dir.{Dir}
use Rattle.mdp_farkas.specs.{Reach.{choice_exists}, Verdict.{objection_to}}
use Rattle.mdp_claims.specs.declared.verdict.Objection.{Objection}
use Rattle.mdp_bounds.specs.{Reach.{covering, followed}, Mean.{gains_cover, gains_follow, mean_bounds_at}}
use Rattle.mdp_bounds.proofs.Parts.{both, handed}
use Rattle.mdp_bounds.proofs.mean.MeanBoundsClaim.state_at.Goals as goal

-- what stands against the rules at a state, by their parts
parts : (dir : Dir) (m : Mdp) (r : ℕ) (lower upper a b : List ℚ) (s choice : ℕ) (exists covers follows : Result (Unit {0}) Objection)
    → exists ≡ objection_to (choice_exists m s choice ∷ []) → covers ≡ objection_to (gains_cover dir m r (covering dir lower upper) a s)
    → follows ≡ objection_to (gains_follow dir m r (followed dir lower upper) b s choice)
    → exists >>= (λ ok. covers >>= (λ ok. follows)) ≡ objection_to (mean_bounds_at dir m r lower upper a b s choice)
parts dir m r lower upper a b s choice exists covers follows e c f =
    let cover = gains_cover dir m r (covering dir lower upper) a s in
    let follow = gains_follow dir m r (followed dir lower upper) b s choice in
    both (choice_exists m s choice ∷ []) (cover ++ follow) exists _ e (both cover follow covers follows c f)

pub returns-in_err-covers : goal.returns-in_err-covers
returns-in_err-covers c =
    let x = c.args.self in
    handed _ _ _ c.from_residual-in_err-covers.ensures.1
    (parts x.dir x.model.now x.name x.lower.values.now x.upper.values.now x.bound.now x.bias.now c.args.s c.args.choice (Ok tt) (Err _) _
    (c.in_ok-choice_at.ensures {u = tt}) (c.in_err-covers.ensures {u = tt}) refl)

pub returns : goal.returns
returns c =
    let x = c.args.self in
    parts x.dir x.model.now x.name x.lower.values.now x.upper.values.now x.bound.now x.bias.now c.args.s c.args.choice (Ok tt) (Ok tt) _
    (c.in_ok-choice_at.ensures {u = tt}) (c.in_ok-covers.ensures {u = tt}) c.follows.ensures
