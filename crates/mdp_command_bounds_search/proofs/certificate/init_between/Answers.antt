use Rattle.std.proofs.{Common.{◌≡◌, ℕ, ◌<◌, List, length, get_or, Option, Some, sym, ap₂, subst, ◌∙◌, arith, pos}, lemmas.List.{get_or_default}}
use Rattle.mdp_math.specs.Rational.{ℚ, of_int}
use Rattle.mdp_spec.specs.{Labels.{initial_of}, Mdp.{Mdp, states_of}}
use Rattle.mdp_cert.specs.{BoundsCert.{plain_body}, declared.bounds_body.BoundsBody.{BoundsBody}, declared.init.BoundsInit.TheVariants.{Between}}
use Rattle.mdp_text.proofs.InitialState.{initial_below}
use Rattle.mdp_command_bounds_search.specs.Certificate.{HasValues, init_between}
use Rattle.mdp_command_bounds_search.proofs.certificate.init_between.Goals as goal

module _ (m : Mdp) where
  -- a body of this kind has its values
  valued : (body kind : BoundsBody) → body ≡ kind → HasValues (states_of m) (plain_body body) → HasValues (states_of m) (plain_body kind)
  valued body kind is has = subst (λ (b : BoundsBody). HasValues (states_of m) (plain_body b)) is has

  -- the initial state has one of them
  inside : {V : Type 0} (values : List V) (s : ℕ) → Some s ≡ initial_of m → length values ≡ states_of m → s < length values
  inside values s is size = let lt = initial_below m s (sym is) in omega (arith, lt, size)

  value_of : {V : Type 0} (values : List V) (s : ℕ) (v other : V) → Some s ≡ initial_of m → length values ≡ states_of m → v ≡ get_or values s v → v ≡ get_or values s other
  value_of values s v other is size read = read ∙ get_or_default values s v other (inside values s is size)

pub index-requires : goal.index-requires
index-requires c =
    let m = c.args.model.now in
    let lt = inside m c.in-Reach.bounds.lower.items c.in-Some.state c.in-Some.ensures (valued m _ _ c.in-Reach.is c.requires).0 in
    omega (arith, lt)

pub index-requires-in-Reach : goal.index-requires-in-Reach
index-requires-in-Reach c =
    let m = c.args.model.now in
    let lt = inside m c.in-Reach.bounds.upper.items c.in-Some.state c.in-Some.ensures (valued m _ _ c.in-Reach.is c.requires).1 in
    omega (arith, lt)

pub index-requires-in-Reward : goal.index-requires-in-Reward
index-requires-in-Reward c =
    let m = c.args.model.now in
    let lt = inside m c.in-Reward.bounds.lower.items c.in-Some.state c.in-Some.ensures (valued m _ _ c.in-Reward.is c.requires).0 in
    omega (arith, lt)

pub index-requires-in-Reward-2 : goal.index-requires-in-Reward-2
index-requires-in-Reward-2 c =
    let m = c.args.model.now in
    let lt = inside m c.in-Reward.bounds.upper.items c.in-Some.state c.in-Some.ensures (valued m _ _ c.in-Reward.is c.requires).1 in
    omega (arith, lt)

pub index-requires-in-Mean : goal.index-requires-in-Mean
index-requires-in-Mean c =
    let m = c.args.model.now in
    let lt = inside m c.in-Mean.bounds.lower.items c.in-Some.state c.in-Some.ensures (valued m _ _ c.in-Mean.is c.requires).0 in
    omega (arith, lt)

pub index-requires-in-Mean-2 : goal.index-requires-in-Mean-2
index-requires-in-Mean-2 c =
    let m = c.args.model.now in
    let lt = inside m c.in-Mean.bounds.upper.items c.in-Some.state c.in-Some.ensures (valued m _ _ c.in-Mean.is c.requires).1 in
    omega (arith, lt)

-- the line of the model's initial state and of a body of this kind is that of the body
same_line : (m : Mdp) (s : ℕ) (body kind : BoundsBody) → Some s ≡ initial_of m → body ≡ kind → init_between (Some s) (plain_body kind) ≡ init_between (initial_of m) (plain_body body)
same_line m s body kind initial is = ap₂ (λ (o : Option ℕ) (b : BoundsBody). init_between o (plain_body b)) initial (sym is)

pub returns-in-Reach : goal.returns-in-Reach
returns-in-Reach c =
    let m = c.args.model.now in
    let s = c.in-Some.state in
    let is = c.in-Some.ensures in
    let has = valued m _ _ c.in-Reach.is c.requires in
    ap₂ (λ (x y : ℚ). Between s (Some x) (Some y)) (value_of m c.in-Reach.bounds.lower.items s _ (of_int (pos 0)) is has.0 c.index.ensures)
    (value_of m c.in-Reach.bounds.upper.items s _ (of_int (pos 0)) is has.1 c.index-in-Reach.ensures)
    ∙ same_line m s _ _ is c.in-Reach.is

pub returns-in-Reward : goal.returns-in-Reward
returns-in-Reward c =
    let m = c.args.model.now in
    let s = c.in-Some.state in
    let is = c.in-Some.ensures in
    let has = valued m _ _ c.in-Reward.is c.requires in
    ap₂ (λ (x y : Option ℚ). Between s x y) (value_of m c.in-Reward.bounds.lower.items s _ (Some (of_int (pos 0))) is has.0 c.index-in-Reward.ensures)
    (value_of m c.in-Reward.bounds.upper.items s _ (Some (of_int (pos 0))) is has.1 c.index-in-Reward-2.ensures)
    ∙ same_line m s _ _ is c.in-Reward.is

pub returns-in-Mean : goal.returns-in-Mean
returns-in-Mean c =
    let m = c.args.model.now in
    let s = c.in-Some.state in
    let is = c.in-Some.ensures in
    let has = valued m _ _ c.in-Mean.is c.requires in
    ap₂ (λ (x y : ℚ). Between s (Some x) (Some y)) (value_of m c.in-Mean.bounds.lower.items s _ (of_int (pos 0)) is has.0 c.index-in-Mean.ensures)
    (value_of m c.in-Mean.bounds.upper.items s _ (of_int (pos 0)) is has.1 c.index-in-Mean-2.ensures)
    ∙ same_line m s _ _ is c.in-Mean.is
