-- The nodes of the problem of the best gains.
use Rattle.std.proofs.Common.{◌≡◌, ℕ, zero, suc, ◌<◌, ◌+◌, ◌-◌, true, false, ◌==◌, nat_lt, List, ◌∷◌, length, map, refl, sym, ◌∙◌, ap, subst, arith, pos, zero-add, Some}
use Rattle.std.proofs.{lemmas.Bool.{ne_eqb, lt-ltb, ltb-true}, lemmas.List.FromFn.{get_or-map-range_with_len, length-map-range_with_len}}
use Rattle.std.specs.{List.{range_with_len}, Prelude.{slice_index_or}}
use Rattle.mdp_math.specs.Rational.{ℚ, of_int}
use Rattle.mdp_rows.specs.declared.dir.Dir.{Dir}
use Rattle.mdp_policy_iteration.specs.Problem.{Problem, Node, given, Choice, stop, go, worth, no_choice, count, node_at, choices_of, choices_at}
use Rattle.mdp_policy_iteration.specs.{Problem.{choice_at, goes_on, row_from, move_by, fits_by, LeadsWithin, IsProblem}, Code.{CanTake, move_at, fits_at}}
use Rattle.mdp_policy_iteration.proofs.Compares.{plain-exact}
use Rattle.mdp_quot.specs.{Quotient.{Quotient, exits_at, row_of, IsShaped}, Problem.{component_of, gain_of, stopping, leaving, outer_node, outer_problem}}

-- 1 + i isn't 0
pub suc_eqb : (i : ℕ) → (suc i == 0) ≡ false
suc_eqb i = ne_eqb (suc i) 0 (λ z. omega (arith, z))

pub positive : (c : ℕ) → (c ≡ 0 → ⊥) → 0 < c
positive zero h = absurd (h refl)
positive (suc i) h = omega arith

-- ---- what choice c of a node is

module _ (q : Quotient) (gains : List ℚ) (k : ℕ) where
  abbrev pub exit_count : ℕ
  exit_count = length (exits_at q k)

  abbrev pub leavings : List Choice
  leavings = map (leaving q k) (range_with_len 0 exit_count)

  -- it stops, or takes an exit
  abbrev pub entry : ℕ → Choice
  entry zero = stopping gains (component_of q k)
  entry (suc i) = leaving q k i

  abbrev pub choices : List Choice
  choices = stopping gains (component_of q k) ∷ leavings

  pub choices-len : length choices ≡ exit_count + 1
  choices-len = omega (arith, length-map-range_with_len (leaving q k) 0 exit_count)

  pub choices-at : (c : ℕ) → c < exit_count + 1 → slice_index_or choices c no_choice ≡ entry c
  choices-at zero l = refl
  choices-at (suc i) l = get_or-map-range_with_len (leaving q k) 0 exit_count i i no_choice (omega (arith, l)) (zero-add i)

  pub entry-stop : (c : ℕ) → c ≡ 0 → entry c ≡ stopping gains (component_of q k)
  entry-stop c e = ap entry e

  pub entry-exit : (c : ℕ) → 0 < c → entry c ≡ leaving q k (c - 1)
  entry-exit zero l = absurd (omega (arith, l))
  entry-exit (suc i) l = let n : suc i - 1 ≡ i = omega arith in ap (leaving q k) (sym n)

  by-goes : (c : ℕ) → goes_on (entry c).move ≡ nat_lt 0 c
  by-goes zero = refl
  by-goes (suc i) = sym (lt-ltb 0 (suc i) (omega arith))

  by-fits : (c : ℕ) → (entry c).fits ≡ true
  by-fits zero = refl
  by-fits (suc i) = refl

  by-exact : (c : ℕ) (y : List ℚ) (v : ℚ) → (entry c).written y ≡ Some v → v ≡ worth y (entry c).move
  by-exact zero y v h = plain-exact y (stop (gain_of gains (component_of q k))) v h
  by-exact (suc i) y v h = plain-exact y (go (of_int (pos 0)) (row_of q k i)) v h

  by-leads : IsShaped q → k < length q.exits → (c : ℕ) → c < exit_count + 1 → LeadsWithin (length q.exits) (entry c).move
  by-leads known l zero h = tt
  by-leads known l (suc i) h = known.are_rows k i l (let w = known.each k l in omega (arith, w.1, h))

-- ---- the problem

module _ (dir : Dir) (q : Quotient) (gains : List ℚ) where
  abbrev pub p : Problem
  p = outer_problem dir q gains

  pub outer-count : count p ≡ length q.exits
  outer-count = length-map-range_with_len (outer_node q gains) 0 (length q.exits)

  pub outer-at : (s : ℕ) → s < count p → node_at p s ≡ outer_node q gains s
  outer-at s l = get_or-map-range_with_len (outer_node q gains) 0 (length q.exits) s s (given (of_int (pos 0))) (omega (arith, l, outer-count)) (zero-add s)

  module _ (s : ℕ) (l : s < count p) where
    pub outer-choices : length (choices_at p s) ≡ exit_count q gains s + 1
    outer-choices = ap (λ (n : Node). length (choices_of n)) (outer-at s l) ∙ choices-len q gains s

    pub outer-choice : (c : ℕ) → c < length (choices_at p s) → (c < exit_count q gains s + 1) × (choice_at p s c ≡ entry q gains s c)
    outer-choice c h =
        let k : c < exit_count q gains s + 1 = subst (λ (n : ℕ). c < n) outer-choices h in
        (k, ap (λ (n : Node). slice_index_or (choices_of n) c no_choice) (outer-at s l) ∙ choices-at q gains s c k)

    pub outer-can : (c : ℕ) → CanTake (node_at p s) c → (c < exit_count q gains s + 1) × (move_at p s c ≡ (entry q gains s c).move)
    outer-can c can =
        let k : c < exit_count q gains s + 1 = subst (λ (n : ℕ). c < n) (choices-len q gains s) (subst (λ (n : Node). CanTake n c) (outer-at s l) can) in
        (k, ap (λ (n : Node). move_by n c) (outer-at s l) ∙ ap Choice.move (choices-at q gains s c k))

    -- choice 0 stops, any other takes an exit
    pub outer-stop : (c : ℕ) → c < length (choices_at p s) → c ≡ 0 → choice_at p s c ≡ stopping gains (component_of q s)
    outer-stop c h e = (outer-choice c h).1 ∙ entry-stop q gains s c e

    pub outer-exit : (c : ℕ) → c < length (choices_at p s) → 0 < c → (c - 1 < exit_count q gains s) × (choice_at p s c ≡ leaving q s (c - 1))
    outer-exit c h e = let w = outer-choice c h in (omega (arith, w.0, e), w.1 ∙ entry-exit q gains s c e)

    module _ (c : ℕ) (can : CanTake (node_at p s) c) where
      pub outer-goes : goes_on (move_at p s c) ≡ nat_lt 0 c
      outer-goes = ap goes_on (outer-can c can).1 ∙ by-goes q gains s c

      pub outer-stops : c ≡ 0 → move_at p s c ≡ stop (gain_of gains (component_of q s))
      outer-stops e = (outer-can c can).1 ∙ ap Choice.move (entry-stop q gains s c e)

      pub outer-leaves : 0 < c → (c - 1 < exit_count q gains s) × (move_at p s c ≡ go (of_int (pos 0)) (row_of q s (c - 1)))
      outer-leaves l = let w = outer-can c can in (omega (arith, w.0, l), w.1 ∙ ap Choice.move (entry-exit q gains s c l))

      pub outer-fits : fits_at p s c ≡ true
      outer-fits = ap (λ (n : Node). fits_by n c) (outer-at s l) ∙ ap Choice.fits (choices-at q gains s c (outer-can c can).0) ∙ by-fits q gains s c

      pub outer-row : goes_on (move_at p s c) ≡ true → (0 < c) × (c - 1 < exit_count q gains s) × (row_from s (move_at p s c) ≡ row_of q s (c - 1))
      outer-row e = let h = ltb-true 0 c (sym outer-goes ∙ e) in let w = outer-leaves h in (h, w.0, ap (row_from s) w.1)

  pub outer-known : IsShaped q → IsProblem p
  outer-known known = record {
    rows = λ s c l h.
        let w = outer-choice s l c h in
        subst (λ (k : ℕ). LeadsWithin k (choice_at p s c).move) (sym outer-count)
        (subst (λ (x : Choice). LeadsWithin (length q.exits) x.move) (sym w.1) (by-leads q gains s known (omega (arith, l, outer-count)) c w.0));
    exact = λ s c y v l h e.
        let w = outer-choice s l c h in
        subst (λ (x : Choice). v ≡ worth y x.move) (sym w.1) (by-exact q gains s c y v (subst (λ (x : Choice). x.written y ≡ Some v) w.1 e));
  }
