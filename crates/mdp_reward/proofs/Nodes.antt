-- The nodes of the problem of the reward until a goal.
use Rattle.std.proofs.Common.{◌≡◌, ℕ, ◌<◌, Bool, true, false, List, length, map, if◌then◌else◌, refl, sym, ◌∙◌, ap, subst, arith, pos, zero-add, Some}
use Rattle.std.proofs.lemmas.List.FromFn.{get_or-map-range_with_len, length-map-range_with_len}
use Rattle.std.specs.{List.{range_with_len}, Prelude.{slice_index_or}}
use Rattle.mdp_math.specs.Rational.{ℚ, of_int}
use Rattle.mdp_spec.specs.{Mdp.{Mdp, states_of, row_at, choices_at}, Row.{IsMdp}, Unit.{reward_of}, Written.{written_sum}}
use Rattle.mdp_spec.specs.Mdp as model
use Rattle.mdp_rows.specs.declared.dir.Dir.{Dir}
use Rattle.mdp_policy_iteration.specs.Problem.{Problem, Node, given, Choice, go, worth, no_choice, count, node_at, choices_of, choice_at, goes_on, amount, row_from, move_by, fits_by, LeadsWithin, IsProblem}
use Rattle.mdp_policy_iteration.specs.Code.{CanTake, move_at, fits_at}
use Rattle.mdp_policy_iteration.specs.Problem as path
use Rattle.mdp_policy_iteration.proofs.Compares.{plain-exact}
use Rattle.mdp_reward.specs.Problem.{may_take, going, node_by, is_transient, reward_node, reward_problem}

-- ---- a node, by whether its state is transient

module _ (dir : Dir) (m : Mdp) (r : ℕ) (finite : List Bool) (s : ℕ) where
  -- what choice c earns
  abbrev pub earned : ℕ → ℚ
  earned c = reward_of (model.choice_at m s c) r

  abbrev pub goings : List Choice
  goings = map (going dir m r finite s) (range_with_len 0 (length (choices_at m s)))

  pub going-at : (c : ℕ) → c < length (choices_at m s) → slice_index_or goings c no_choice ≡ going dir m r finite s c
  going-at c l = get_or-map-range_with_len (going dir m r finite s) 0 (length (choices_at m s)) c c no_choice l (zero-add c)

  pub goings-len : length goings ≡ length (choices_at m s)
  goings-len = length-map-range_with_len (going dir m r finite s) 0 (length (choices_at m s))

  abbrev node : Bool → Node
  node b = node_by dir m r finite s b

  by-choices : (b : Bool) → length (choices_of (node b)) ≡ (if b then length (choices_at m s) else 0)
  by-choices true = goings-len
  by-choices false = refl

  by-choice : (b : Bool) (c : ℕ) → c < length (choices_of (node b)) → (c < length (choices_at m s)) × (slice_index_or (choices_of (node b)) c no_choice ≡ going dir m r finite s c)
  by-choice true c l = let h : c < length (choices_at m s) = omega (arith, goings-len) in (h, going-at c h)
  by-choice false c l = absurd (omega arith)

  by-goes : (b : Bool) (c : ℕ) → CanTake (node b) c → goes_on (move_by (node b) c) ≡ b
  by-goes true c l = ap (λ (x : Choice). goes_on x.move) (going-at c (omega (arith, goings-len, l)))
  by-goes false c l = refl

  by-take : (b : Bool) (c : ℕ) → CanTake (node b) c → b ≡ true → c < length (choices_at m s)
  by-take true c l e = omega (arith, goings-len, l)
  by-take false c l e = cc

  by-amount : (b : Bool) (c : ℕ) → CanTake (node b) c → amount (move_by (node b) c) ≡ (if b then earned c else of_int (pos 0))
  by-amount true c l = ap (λ (x : Choice). amount x.move) (going-at c (omega (arith, goings-len, l)))
  by-amount false c l = refl

  by-fits : (b : Bool) (c : ℕ) → CanTake (node b) c → fits_by (node b) c ≡ true
  by-fits true c l = ap Choice.fits (going-at c (omega (arith, goings-len, l)))
  by-fits false c l = refl

  by-row : (b : Bool) (c : ℕ) → CanTake (node b) c → goes_on (move_by (node b) c) ≡ true → (c < length (choices_at m s)) × (row_from s (move_by (node b) c) ≡ row_at m s c)
  by-row true c l e = let h : c < length (choices_at m s) = omega (arith, goings-len, l) in (h, ap (λ (x : Choice). row_from s x.move) (going-at c h))
  by-row false c l e = cc

-- ---- the problem

module _ (dir : Dir) (m : Mdp) (r : ℕ) (goals finite : List Bool) where
  abbrev p : Problem
  p = reward_problem dir m r goals finite

  pub reward-count : count p ≡ states_of m
  reward-count = length-map-range_with_len (reward_node dir m r goals finite) 0 (states_of m)

  pub reward-at : (s : ℕ) → s < count p → node_at p s ≡ reward_node dir m r goals finite s
  reward-at s l = get_or-map-range_with_len (reward_node dir m r goals finite) 0 (states_of m) s s (given (of_int (pos 0))) (omega (arith, reward-count)) (zero-add s)

  -- a choice of the problem
  pub reward-choice : (s c : ℕ) → s < count p → c < length (path.choices_at p s) → (c < length (choices_at m s)) × (choice_at p s c ≡ going dir m r finite s c)
  reward-choice s c l h =
      let e = reward-at s l in
      let b = by-choice dir m r finite s (is_transient goals finite s) c (subst (λ (n : Node). c < length (choices_of n)) e h) in
      (b.0, ap (λ (n : Node). slice_index_or (choices_of n) c no_choice) e ∙ b.1)

  exact_by : (x : Choice) (y : List ℚ) (v : ℚ) (s c : ℕ) → x ≡ going dir m r finite s c → x.written y ≡ Some v → v ≡ worth y x.move
  exact_by x y v s c e h =
      subst (λ (x : Choice). v ≡ worth y x.move) (sym e)
      (plain-exact y (go (earned dir m r finite s c) (row_at m s c)) v (subst (λ (x : Choice). x.written y ≡ Some v) e h))

  pub reward-known : IsMdp m → IsProblem p
  reward-known known = record {
    rows = λ s c l h.
        let n = reward-count in
        let b = reward-choice s c l h in
        subst (λ (k : ℕ). LeadsWithin k (choice_at p s c).move) (sym n) (subst (λ (x : Choice). LeadsWithin (states_of m) x.move) (sym b.1) (known.row s c (omega arith) b.0));
    exact = λ s c y v l h e. exact_by (choice_at p s c) y v s c (reward-choice s c l h).1 e;
  }

  module _ (s : ℕ) (l : s < count p) where
    abbrev transient : Bool
    transient = is_transient goals finite s

    pub reward-choices : length (path.choices_at p s) ≡ (if transient then length (choices_at m s) else 0)
    reward-choices = ap (λ (n : Node). length (choices_of n)) (reward-at s l) ∙ by-choices dir m r finite s transient

    pub reward-candidate : (c : ℕ) → c < length (path.choices_at p s) → (choice_at p s c).candidate ≡ may_take dir finite (row_at m s c)
    reward-candidate c h = ap Choice.candidate (reward-choice s c l h).1

    pub reward-written : (c : ℕ) (x : List ℚ) → c < length (path.choices_at p s) → (choice_at p s c).written x ≡ written_sum x (earned dir m r finite s c) (row_at m s c)
    reward-written c x h = ap (λ (y : Choice). y.written x) (reward-choice s c l h).1

    module _ (c : ℕ) (can : CanTake (node_at p s) c) where
      can_by : CanTake (reward_node dir m r goals finite s) c
      can_by = subst (λ (n : Node). CanTake n c) (reward-at s l) can

      pub reward-take : transient ≡ true → c < length (choices_at m s)
      reward-take e = by-take dir m r finite s transient c can_by e

      pub reward-goes : goes_on (move_at p s c) ≡ transient
      reward-goes = ap (λ (n : Node). goes_on (move_by n c)) (reward-at s l) ∙ by-goes dir m r finite s transient c can_by

      pub reward-amount : amount (move_at p s c) ≡ (if transient then earned dir m r finite s c else of_int (pos 0))
      reward-amount = ap (λ (n : Node). amount (move_by n c)) (reward-at s l) ∙ by-amount dir m r finite s transient c can_by

      pub reward-fits : fits_at p s c ≡ true
      reward-fits = ap (λ (n : Node). fits_by n c) (reward-at s l) ∙ by-fits dir m r finite s transient c can_by

      pub reward-row : goes_on (move_at p s c) ≡ true → (c < length (choices_at m s)) × (row_from s (move_at p s c) ≡ row_at m s c)
      reward-row e =
          let b = by-row dir m r finite s transient c can_by (sym (ap (λ (n : Node). goes_on (move_by n c)) (reward-at s l)) ∙ e) in
          (b.0, ap (λ (n : Node). row_from s (move_by n c)) (reward-at s l) ∙ b.1)
