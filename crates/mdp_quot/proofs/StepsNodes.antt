-- The nodes of the problem of the greatest number of exits.
use Rattle.std.proofs.Common.{◌≡◌, ℕ, ◌<◌, Bool, true, false, not, ◌==◌, List, length, map, if◌then◌else◌, refl, sym, ◌∙◌, ap, subst, arith, pos, zero-add, Some}
use Rattle.std.proofs.{lemmas.Bool.{eqb-true}, lemmas.List.FromFn.{get_or-map-range_with_len, length-map-range_with_len}}
use Rattle.std.specs.{List.{range_with_len}, Prelude.{slice_index_or}}
use Rattle.mdp_math.specs.Rational.{ℚ, of_int}
use Rattle.mdp_spec.specs.Written.{written_sum}
use Rattle.mdp_policy_iteration.specs.Problem.{Problem, Node, given, Choice, go, worth, no_choice, count, node_at, choices_of, choices_at, choice_at}
use Rattle.mdp_policy_iteration.specs.{Problem.{goes_on, amount, row_from, move_by, fits_by, LeadsWithin, IsProblem}, Code.{CanTake, move_at, fits_at}}
use Rattle.mdp_policy_iteration.proofs.Compares.{plain-exact}
use Rattle.mdp_quot.specs.{Quotient.{Quotient, exits_at, row_of, IsShaped}, Problem.{counted, steps_by, steps_node, steps_problem}}

-- ---- a node, by whether it has no exits

module _ (q : Quotient) (k : ℕ) where
  abbrev pub exit_count : ℕ
  exit_count = length (exits_at q k)

  abbrev pub is_exitless : Bool
  is_exitless = exit_count == 0

  abbrev pub goings : List Choice
  goings = map (counted q k) (range_with_len 0 exit_count)

  pub going-at : (i : ℕ) → i < exit_count → slice_index_or goings i no_choice ≡ counted q k i
  going-at i l = get_or-map-range_with_len (counted q k) 0 exit_count i i no_choice l (zero-add i)

  pub goings-len : length goings ≡ exit_count
  goings-len = length-map-range_with_len (counted q k) 0 exit_count

  abbrev node : Bool → Node
  node b = steps_by q k b

  by-choices : (b : Bool) → is_exitless ≡ b → length (choices_of (node b)) ≡ exit_count
  by-choices true e = sym (eqb-true exit_count 0 e)
  by-choices false e = goings-len

  by-choice : (b : Bool) (c : ℕ) → c < length (choices_of (node b)) → (c < exit_count) × (slice_index_or (choices_of (node b)) c no_choice ≡ counted q k c)
  by-choice true c l = absurd (omega (arith, l))
  by-choice false c l = let h : c < exit_count = omega (arith, goings-len, l) in (h, going-at c h)

  by-goes : (b : Bool) (c : ℕ) → CanTake (node b) c → goes_on (move_by (node b) c) ≡ not b
  by-goes true c l = refl
  by-goes false c l = ap (λ (x : Choice). goes_on x.move) (going-at c (omega (arith, goings-len, l)))

  by-amount : (b : Bool) (c : ℕ) → CanTake (node b) c → amount (move_by (node b) c) ≡ (if not b then of_int (pos 1) else of_int (pos 0))
  by-amount true c l = refl
  by-amount false c l = ap (λ (x : Choice). amount x.move) (going-at c (omega (arith, goings-len, l)))

  by-fits : (b : Bool) (c : ℕ) → CanTake (node b) c → fits_by (node b) c ≡ true
  by-fits true c l = refl
  by-fits false c l = ap Choice.fits (going-at c (omega (arith, goings-len, l)))

  by-row : (b : Bool) (c : ℕ) → CanTake (node b) c → goes_on (move_by (node b) c) ≡ true → (c < exit_count) × (row_from k (move_by (node b) c) ≡ row_of q k c)
  by-row true c l e = cc
  by-row false c l e = let h : c < exit_count = omega (arith, goings-len, l) in (h, ap (λ (x : Choice). row_from k x.move) (going-at c h))

-- ---- the problem

module _ (q : Quotient) where
  abbrev pub p : Problem
  p = steps_problem q

  pub steps-count : count p ≡ length q.exits
  steps-count = length-map-range_with_len (steps_node q) 0 (length q.exits)

  pub steps-at : (s : ℕ) → s < count p → node_at p s ≡ steps_node q s
  steps-at s l = get_or-map-range_with_len (steps_node q) 0 (length q.exits) s s (given (of_int (pos 0))) (omega (arith, l, steps-count)) (zero-add s)

  -- a choice of the problem is an exit
  pub steps-choice : (s c : ℕ) → s < count p → c < length (choices_at p s) → (c < exit_count q s) × (choice_at p s c ≡ counted q s c)
  steps-choice s c l h =
      let e = steps-at s l in
      let b = by-choice q s (is_exitless q s) c (subst (λ (n : Node). c < length (choices_of n)) e h) in
      (b.0, ap (λ (n : Node). slice_index_or (choices_of n) c no_choice) e ∙ b.1)

  exact_by : (x : Choice) (y : List ℚ) (v : ℚ) (s c : ℕ) → x ≡ counted q s c → x.written y ≡ Some v → v ≡ worth y x.move
  exact_by x y v s c e h =
      subst (λ (x : Choice). v ≡ worth y x.move) (sym e)
      (plain-exact y (go (of_int (pos 1)) (row_of q s c)) v (subst (λ (x : Choice). x.written y ≡ Some v) e h))

  pub steps-known : IsShaped q → IsProblem p
  steps-known known = record {
    rows = λ s c l h.
        let b = steps-choice s c l h in
        let ls : s < length q.exits = omega (arith, l, steps-count) in
        subst (λ (k : ℕ). LeadsWithin k (choice_at p s c).move) (sym steps-count)
        (subst (λ (x : Choice). LeadsWithin (length q.exits) x.move) (sym b.1) (known.are_rows s c ls (let k = known.each s ls in omega (arith, k.1, b.0))));
    exact = λ s c y v l h e. exact_by (choice_at p s c) y v s c (steps-choice s c l h).1 e;
  }

  module _ (s : ℕ) (l : s < count p) where
    pub steps-choices : length (choices_at p s) ≡ exit_count q s
    steps-choices = ap (λ (n : Node). length (choices_of n)) (steps-at s l) ∙ by-choices q s (is_exitless q s) refl

    pub steps-candidate : (c : ℕ) → c < length (choices_at p s) → (choice_at p s c).candidate ≡ true
    steps-candidate c h = ap Choice.candidate (steps-choice s c l h).1

    pub steps-written : (c : ℕ) (x : List ℚ) → c < length (choices_at p s) → (choice_at p s c).written x ≡ written_sum x (of_int (pos 1)) (row_of q s c)
    steps-written c x h = ap (λ (y : Choice). y.written x) (steps-choice s c l h).1

    module _ (c : ℕ) (can : CanTake (node_at p s) c) where
      can_by : CanTake (steps_node q s) c
      can_by = subst (λ (n : Node). CanTake n c) (steps-at s l) can

      pub steps-goes : goes_on (move_at p s c) ≡ not (is_exitless q s)
      steps-goes = ap (λ (n : Node). goes_on (move_by n c)) (steps-at s l) ∙ by-goes q s (is_exitless q s) c can_by

      pub steps-amount : amount (move_at p s c) ≡ (if not (is_exitless q s) then of_int (pos 1) else of_int (pos 0))
      steps-amount = ap (λ (n : Node). amount (move_by n c)) (steps-at s l) ∙ by-amount q s (is_exitless q s) c can_by

      pub steps-fits : fits_at p s c ≡ true
      steps-fits = ap (λ (n : Node). fits_by n c) (steps-at s l) ∙ by-fits q s (is_exitless q s) c can_by

      pub steps-row : goes_on (move_at p s c) ≡ true → (c < exit_count q s) × (row_from s (move_at p s c) ≡ row_of q s c)
      steps-row e =
          let b = by-row q s (is_exitless q s) c can_by (sym (ap (λ (n : Node). goes_on (move_by n c)) (steps-at s l)) ∙ e) in
          (b.0, ap (λ (n : Node). row_from s (move_by n c)) (steps-at s l) ∙ b.1)
