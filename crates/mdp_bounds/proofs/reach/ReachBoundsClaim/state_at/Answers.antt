use Rattle.std.proofs.Common.{◌≡◌, ℕ, Bool, [], ◌∷◌, ◌++◌, List, refl}
use Rattle.std.specs.Prelude.{Result, Ok, Err}
use Rattle.mdp_math.specs.{Rational.{ℚ}, Result.{◌>>=◌}}
use Rattle.mdp_spec.specs.Mdp.{Mdp}
use Rattle.mdp_rows.specs.declared.dir.Dir.{Dir}
use Rattle.mdp_farkas.specs.{Reach.{choice_exists, rank_checks}, Verdict.{objection_to}}
use Rattle.mdp_claims.specs.declared.verdict.Objection.{Objection}
use Rattle.mdp_bounds.specs.Reach.{covering, followed, cover_at, follow_at, bounds_at}
use Rattle.mdp_bounds.proofs.Parts.{both, handed}
use Rattle.mdp_bounds.proofs.reach.ReachBoundsClaim.state_at.Goals as goal

-- what stands against the rules at a state, by their parts
parts : (dir : Dir) (m : Mdp) (goals : List Bool) (lower upper : List ℚ) (ranks : List ℕ) (s choice : ℕ) (exists covers follows falls : Result (Unit {0}) Objection)
    → exists ≡ objection_to (choice_exists m s choice ∷ []) → covers ≡ objection_to (cover_at dir m goals (covering dir lower upper) s)
    → follows ≡ objection_to (follow_at dir m goals (followed dir lower upper) s choice) → falls ≡ objection_to (rank_checks dir m goals lower ranks s choice)
    → exists >>= (λ ok. covers >>= (λ ok. follows >>= (λ ok. falls))) ≡ objection_to (bounds_at dir m goals lower upper ranks s choice)
parts dir m goals lower upper ranks s choice exists covers follows falls e c f r =
    let follow = follow_at dir m goals (followed dir lower upper) s choice in
    let rank = rank_checks dir m goals lower ranks s choice in
    let cover = cover_at dir m goals (covering dir lower upper) s in
    both (choice_exists m s choice ∷ []) (cover ++ (follow ++ rank)) exists _ e (both cover (follow ++ rank) covers _ c (both follow rank follows falls f r))

pub returns-in_err-covers : goal.returns-in_err-covers
returns-in_err-covers c =
    let x = c.args.self in
    handed _ _ _ c.from_residual-in_err-covers.ensures.1
    (parts x.dir x.model.now x.goals.now x.lower.now x.upper.now x.ranks.now c.args.s c.args.choice (Ok tt) (Err _) _ _ (c.in_ok-choice_at.ensures {u = tt}) (c.in_err-covers.ensures {u = tt}) refl refl)

pub returns-in_err-follows : goal.returns-in_err-follows
returns-in_err-follows c =
    let x = c.args.self in
    handed _ _ _ c.from_residual-in_err-follows.ensures.1
    (parts x.dir x.model.now x.goals.now x.lower.now x.upper.now x.ranks.now c.args.s c.args.choice (Ok tt) (Ok tt) (Err _) _
    (c.in_ok-choice_at.ensures {u = tt}) (c.in_ok-covers.ensures {u = tt}) (c.in_err-follows.ensures {u = tt}) refl)

pub returns : goal.returns
returns c =
    let x = c.args.self in
    parts x.dir x.model.now x.goals.now x.lower.now x.upper.now x.ranks.now c.args.s c.args.choice (Ok tt) (Ok tt) (Ok tt) _
    (c.in_ok-choice_at.ensures {u = tt}) (c.in_ok-covers.ensures {u = tt}) (c.in_ok-follows.ensures {u = tt}) c.rank_at_state.ensures
