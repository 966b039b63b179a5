-- The nodes of the problem of reaching a goal, and that what is earned never helps.
use Rattle.std.proofs.Common.{◌≡◌, ℕ, ◌<◌, Bool, true, false, ◌&&◌, not, List, length, map, if◌then◌else◌, refl, sym, ◌∙◌, ap, subst, arith, pos}
use Rattle.std.proofs.{Common.{zero-add, inr, Some}, lemmas.List.FromFn.{get_or-map-range_with_len, length-map-range_with_len}}
use Rattle.std.specs.{List.{range_with_len}, Prelude.{slice_index_or}}
use Rattle.mdp_math.specs.Rational.{ℚ, of_int}
use Rattle.mdp_math.proofs.Order.{0ℚ, ≤ℚ_refl}
use Rattle.mdp_spec.specs.{Mdp.{Mdp, Entry, states_of, row_at, choices_at}, Row.{IsMdp}, Tree.{is_marked}, Written.{written_sum}}
use Rattle.mdp_rows.specs.{declared.dir.Dir.{Dir}, declared.dir.Dir.TheVariants.{Max, Min}}
use Rattle.mdp_policy_iteration.specs.Problem.{Problem, Node, given, Choice, go, worth, no_choice, count, node_at, choices_of, choice_at, goes_on, amount, row_from, move_by, fits_by, LeadsWithin, IsProblem}
use Rattle.mdp_policy_iteration.specs.{Values.{EarnsNoGood, KeepsLeaving}, Code.{CanTake, move_at, fits_at}}
use Rattle.mdp_policy_iteration.specs.Problem as path
use Rattle.mdp_policy_iteration.proofs.Compares.{plain-exact}
use Rattle.mdp_reach.specs.Problem.{is_open, going, node_by, reach_node, reach_problem}

-- ---- a node, by whether its state is a goal and whether it is open

module _ (m : Mdp) (s : ℕ) where
  abbrev pub goings : List Choice
  goings = map (going m s) (range_with_len 0 (length (choices_at m s)))

  pub going-at : (c : ℕ) → c < length (choices_at m s) → slice_index_or goings c no_choice ≡ going m s c
  going-at c l = get_or-map-range_with_len (going m s) 0 (length (choices_at m s)) c c no_choice l (zero-add c)

  pub goings-len : length goings ≡ length (choices_at m s)
  goings-len = length-map-range_with_len (going m s) 0 (length (choices_at m s))

  by-choices : (g o : Bool) → length (choices_of (node_by m s g o)) ≡ (if not g && o then length (choices_at m s) else 0)
  by-choices true o = refl
  by-choices false true = goings-len
  by-choices false false = refl

  by-choice : (g o : Bool) (c : ℕ) → c < length (choices_of (node_by m s g o))
      → (c < length (choices_at m s)) × (slice_index_or (choices_of (node_by m s g o)) c no_choice ≡ going m s c)
  by-choice true o c l = absurd (omega arith)
  by-choice false true c l = let h : c < length (choices_at m s) = omega (arith, goings-len) in (h, going-at c h)
  by-choice false false c l = absurd (omega arith)

  by-goes : (g o : Bool) (c : ℕ) → CanTake (node_by m s g o) c → goes_on (move_by (node_by m s g o) c) ≡ (not g && o)
  by-goes true o c l = refl
  by-goes false true c l = ap (λ (x : Choice). goes_on x.move) (going-at c (omega (arith, goings-len, l)))
  by-goes false false c l = refl

  by-amount : (g o : Bool) (c : ℕ) → CanTake (node_by m s g o) c → amount (move_by (node_by m s g o) c) ≡ (if g then of_int (pos 1) else of_int (pos 0))
  by-amount true o c l = refl
  by-amount false true c l = ap (λ (x : Choice). amount x.move) (going-at c (omega (arith, goings-len, l)))
  by-amount false false c l = refl

  by-fits : (g o : Bool) (c : ℕ) → CanTake (node_by m s g o) c → fits_by (node_by m s g o) c ≡ true
  by-fits true o c l = refl
  by-fits false true c l = ap Choice.fits (going-at c (omega (arith, goings-len, l)))
  by-fits false false c l = refl

  by-row : (g o : Bool) (c : ℕ) → CanTake (node_by m s g o) c → goes_on (move_by (node_by m s g o) c) ≡ true
      → (c < length (choices_at m s)) × (row_from s (move_by (node_by m s g o) c) ≡ row_at m s c)
  by-row true o c l e = cc
  by-row false true c l e =
      let h : c < length (choices_at m s) = omega (arith, goings-len, l) in (h, ap (λ (x : Choice). row_from s x.move) (going-at c h))
  by-row false false c l e = cc

-- ---- the problem

module _ (dir : Dir) (m : Mdp) (goals marks : List Bool) where
  abbrev p : Problem
  p = reach_problem dir m goals marks

  pub reach-count : count p ≡ states_of m
  reach-count = length-map-range_with_len (reach_node dir m goals marks) 0 (states_of m)

  pub reach-at : (s : ℕ) → s < count p → node_at p s ≡ reach_node dir m goals marks s
  reach-at s l = get_or-map-range_with_len (reach_node dir m goals marks) 0 (states_of m) s s (given (of_int (pos 0))) (omega (arith, reach-count)) (zero-add s)

  abbrev open_at : ℕ → Bool
  open_at s = is_open dir (is_marked marks s)

  -- a choice of the problem
  pub reach-choice : (s c : ℕ) → s < count p → c < length (path.choices_at p s) → (c < length (choices_at m s)) × (choice_at p s c ≡ going m s c)
  reach-choice s c l h =
      let e = reach-at s l in
      let b = by-choice m s (is_marked goals s) (open_at s) c (subst (λ (n : Node). c < length (choices_of n)) e h) in
      (b.0, ap (λ (n : Node). slice_index_or (choices_of n) c no_choice) e ∙ b.1)

  exact_by : (x : Choice) (y : List ℚ) (v : ℚ) (s c : ℕ) → x ≡ going m s c → x.written y ≡ Some v → v ≡ worth y x.move
  exact_by x y v s c e h =
      subst (λ (x : Choice). v ≡ worth y x.move) (sym e) (plain-exact y (go (of_int (pos 0)) (row_at m s c)) v (subst (λ (x : Choice). x.written y ≡ Some v) e h))

  pub reach-known : IsMdp m → IsProblem p
  reach-known known = record {
    rows = λ s c l h.
        let n = reach-count in
        let b = reach-choice s c l h in
        subst (λ (k : ℕ). LeadsWithin k (choice_at p s c).move) (sym n) (subst (λ (x : Choice). LeadsWithin (states_of m) x.move) (sym b.1) (known.row s c (omega arith) b.0));
    exact = λ s c y v l h e. exact_by (choice_at p s c) y v s c (reach-choice s c l h).1 e;
  }

  earns_nothing : (d : Dir) (row : List Entry) → EarnsNoGood d (go (of_int (pos 0)) row)
  earns_nothing Max row = ≤ℚ_refl 0ℚ
  earns_nothing Min row = ≤ℚ_refl 0ℚ

  -- so its path has one end, at a best policy, from each start that leaves
  pub reach-keeps : KeepsLeaving p
  reach-keeps = inr (λ s c l h e. subst (λ (x : Choice). EarnsNoGood dir x.move) (sym (reach-choice s c l h).1) (earns_nothing dir (row_at m s c)))

  module _ (s : ℕ) (l : s < count p) where
    abbrev decides : Bool
    decides = not (is_marked goals s) && open_at s

    pub reach-choices : length (path.choices_at p s) ≡ (if decides then length (choices_at m s) else 0)
    reach-choices = ap (λ (n : Node). length (choices_of n)) (reach-at s l) ∙ by-choices m s (is_marked goals s) (open_at s)

    pub reach-candidate : (c : ℕ) → c < length (path.choices_at p s) → (choice_at p s c).candidate ≡ true
    reach-candidate c h = ap Choice.candidate (reach-choice s c l h).1

    pub reach-written : (c : ℕ) (x : List ℚ) → c < length (path.choices_at p s) → (choice_at p s c).written x ≡ written_sum x (of_int (pos 0)) (row_at m s c)
    reach-written c x h = ap (λ (y : Choice). y.written x) (reach-choice s c l h).1

    module _ (c : ℕ) (can : CanTake (node_at p s) c) where
      can_by : CanTake (reach_node dir m goals marks s) c
      can_by = subst (λ (n : Node). CanTake n c) (reach-at s l) can

      pub reach-goes : goes_on (move_at p s c) ≡ decides
      reach-goes = ap (λ (n : Node). goes_on (move_by n c)) (reach-at s l) ∙ by-goes m s (is_marked goals s) (open_at s) c can_by

      pub reach-amount : amount (move_at p s c) ≡ (if is_marked goals s then of_int (pos 1) else of_int (pos 0))
      reach-amount = ap (λ (n : Node). amount (move_by n c)) (reach-at s l) ∙ by-amount m s (is_marked goals s) (open_at s) c can_by

      pub reach-fits : fits_at p s c ≡ true
      reach-fits = ap (λ (n : Node). fits_by n c) (reach-at s l) ∙ by-fits m s (is_marked goals s) (open_at s) c can_by

      pub reach-row : goes_on (move_at p s c) ≡ true → (c < length (choices_at m s)) × (row_from s (move_at p s c) ≡ row_at m s c)
      reach-row e =
          let b = by-row m s (is_marked goals s) (open_at s) c can_by (sym (ap (λ (n : Node). goes_on (move_by n c)) (reach-at s l)) ∙ e) in
          (b.0, ap (λ (n : Node). row_from s (move_by n c)) (reach-at s l) ∙ b.1)
