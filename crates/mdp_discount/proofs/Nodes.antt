-- The nodes of the problem of the discounted reward.
use Rattle.std.proofs.Common.{◌≡◌, ℕ, ◌+◌, ◌<◌, ◌≤◌, Bool, true, false, true≢false, List, [], ◌∷◌, length, map, refl, sym, ◌∙◌, ap, ap₂, subst, not, arith, Option, Some, None, cond}
use Rattle.std.proofs.{Common.{zero-add, ltb, ltb-true, ltb-false, pos}, lemmas.List.FromFn.{get_or-map-range_with_len, length-map-range_with_len}}
use Rattle.std.proofs.{lemmas.List.{get_or_append_left, length-append}, Math.Seq.{get_or-append_seam}}
use Rattle.std.specs.{List.{range_with_len}, Prelude.{slice_index_or}}
use Rattle.mdp_math.specs.Rational.{ℚ, ◌+ℚ◌, ◌*ℚ◌, ◌-ℚ◌}
use Rattle.mdp_math.proofs.{Ring.{◌⊕◌, ◌⊗◌, ⊖, lit, ring}, Laws.{rat_ring}}
use Rattle.mdp_num.specs.{Equal.{eq_ℚ}, OrderView.{equal_decides}}
use Rattle.mdp_spec.specs.{Mdp.{Mdp, states_of, row_at, choices_at, value_at}, Row.{IsMdp, row_sum}, Unit.{reward_of}}
use Rattle.mdp_spec.specs.Mdp as model
use Rattle.mdp_rows.specs.declared.dir.Dir.{Dir}
use Rattle.mdp_policy_iteration.specs.Problem.{Problem, Node, given, Choice, Move, go, stop, worth, no_choice, count, node_at, choices_of, choice_at, goes_on, amount, row_from, move_by, fits_by}
use Rattle.mdp_policy_iteration.specs.{Problem.{LeadsWithin, IsProblem, IsCandidate}, Code.{CanTake, move_at, fits_at}}
use Rattle.mdp_policy_iteration.specs.Problem as path
use Rattle.mdp_discount_rules.specs.{Rules.{IsFactor, discounted}, Checks.{written_discounted}}
use Rattle.mdp_discount.specs.Problem.{0ℚ, 1ℚ, discounted_row, row_fits, discount_choice, discount_node, discount_problem}
use Rattle.mdp_discount_rules.proofs.DiscountRules.{written_discounted-some}
use Rattle.mdp_discount.proofs.ScaledRows.{discounted-row, discounted-sum}

module _ (dir : Dir) (m : Mdp) (r : ℕ) (f : ℚ) where
  abbrev p : Problem
  p = discount_problem dir m r f

  abbrev states : List Node
  states = map (discount_node m r f) (range_with_len 0 (states_of m))

  states-len : length states ≡ states_of m
  states-len = length-map-range_with_len (discount_node m r f) 0 (states_of m)

  pub node-count : count p ≡ states_of m + 1
  node-count = let n = length-append states (given 0ℚ ∷ []) in omega (arith, n, states-len)

  -- ---- a state, and the node behind the states

  pub state-node : (s : ℕ) → s < states_of m → node_at p s ≡ discount_node m r f s
  state-node s l =
      get_or_append_left states (given 0ℚ ∷ []) (given 0ℚ) s (omega (arith, states-len))
      ∙ get_or-map-range_with_len (discount_node m r f) 0 (states_of m) s s (given 0ℚ) l (zero-add s)

  pub end-node : node_at p (states_of m) ≡ given 0ℚ
  end-node = subst (λ (k : ℕ). node_at p k ≡ given 0ℚ) states-len (get_or-append_seam states (given 0ℚ) [] (given 0ℚ))

  pub is-end : (s : ℕ) → s < count p → states_of m ≤ s → s ≡ states_of m
  is-end s l h = omega (arith, node-count)

  abbrev choosing : ℕ → List Choice
  choosing s = map (discount_choice m r f s) (range_with_len 0 (length (choices_at m s)))

  choosing-at : (s c : ℕ) → c < length (choices_at m s) → slice_index_or (choosing s) c no_choice ≡ discount_choice m r f s c
  choosing-at s c l = get_or-map-range_with_len (discount_choice m r f s) 0 (length (choices_at m s)) c c no_choice l (zero-add c)

  choosing-len : (s : ℕ) → length (choosing s) ≡ length (choices_at m s)
  choosing-len s = length-map-range_with_len (discount_choice m r f s) 0 (length (choices_at m s))

  pub state-candidate : (s c : ℕ) → c < length (choices_at m s) → IsCandidate (discount_node m r f s) c
  state-candidate s c i = ((let n = choosing-len s in omega (arith, i, n)), ap Choice.candidate (choosing-at s c i))

  pub state-choices : (s : ℕ) → s < states_of m → length (path.choices_at p s) ≡ length (choices_at m s)
  state-choices s l = ap (λ (n : Node). length (choices_of n)) (state-node s l) ∙ choosing-len s

  pub state-choice : (s c : ℕ) → s < states_of m → c < length (choices_at m s) → choice_at p s c ≡ discount_choice m r f s c
  state-choice s c l i = ap (λ (n : Node). slice_index_or (choices_of n) c no_choice) (state-node s l) ∙ choosing-at s c i

  pub end-choices : length (path.choices_at p (states_of m)) ≡ 0
  end-choices = ap (λ (n : Node). length (choices_of n)) end-node

  -- a node that has a choice is a state
  pub has-choice : (s c : ℕ) → s < count p → c < length (path.choices_at p s) → (s < states_of m) × (c < length (choices_at m s))
  has-choice s c l h = by (ltb s (states_of m)) refl
    where
      by : (b : Bool) → ltb s (states_of m) ≡ b → (s < states_of m) × (c < length (choices_at m s))
      by true e = let k = ltb-true s (states_of m) e in (k, subst (λ (n : ℕ). c < n) (state-choices s k) h)
      by false e = let k = is-end s l (ltb-false s (states_of m) e) in absurd (let none = end-choices in let i = subst (λ (k : ℕ). c < length (path.choices_at p k)) k h in omega (arith, none, i))

  module _ (s c : ℕ) (l : s < states_of m) where
    pub state-can : CanTake (node_at p s) c → c < length (choices_at m s)
    state-can can = let i : c < length (choosing s) = subst (λ (n : Node). CanTake n c) (state-node s l) can in omega (arith, choosing-len s)

    pub state-move : c < length (choices_at m s) → move_at p s c ≡ go (reward_of (model.choice_at m s c) r) (discounted_row (states_of m) f (row_at m s c))
    state-move i = ap (λ (n : Node). move_by n c) (state-node s l) ∙ ap Choice.move (choosing-at s c i)

    pub state-fits : c < length (choices_at m s) → fits_at p s c ≡ row_fits f (row_at m s c)
    state-fits i = ap (λ (n : Node). fits_by n c) (state-node s l) ∙ ap Choice.fits (choosing-at s c i)

  pub end-move : (c : ℕ) → move_at p (states_of m) c ≡ stop 0ℚ
  end-move c = ap (λ (n : Node). move_by n c) end-node

  pub end-fits : (c : ℕ) → fits_at p (states_of m) c ≡ true
  end-fits c = ap (λ (n : Node). fits_by n c) end-node

  -- ---- going on

  pub goes-is : (s c : ℕ) → s < count p → CanTake (node_at p s) c → goes_on (move_at p s c) ≡ ltb s (states_of m)
  goes-is s c l can = by (ltb s (states_of m)) refl
    where
      by : (b : Bool) → ltb s (states_of m) ≡ b → goes_on (move_at p s c) ≡ b
      by true e = let k = ltb-true s (states_of m) e in ap goes_on (state-move s c k (state-can s c k can))
      by false e = subst (λ (k : ℕ). goes_on (move_at p k c) ≡ false) (sym (is-end s l (ltb-false s (states_of m) e))) (ap goes_on (end-move c))

  pub goes-state : (s c : ℕ) → s < count p → CanTake (node_at p s) c → goes_on (move_at p s c) ≡ true → s < states_of m
  goes-state s c l can e = ltb-true s (states_of m) (sym (goes-is s c l can) ∙ e)

  pub goes-row : (s c : ℕ) → s < states_of m → CanTake (node_at p s) c → row_from s (move_at p s c) ≡ discounted_row (states_of m) f (row_at m s c)
  goes-row s c l can = ap (row_from s) (state-move s c l (state-can s c l can))

  -- ---- the problem

  -- what a choice is worth, where the node behind the states is worth 0
  pub worth-is : (s c : ℕ) (x : List ℚ) → value_at x (states_of m) ≡ 0ℚ → worth x (discount_choice m r f s c).move ≡ discounted m r f s c x
  worth-is s c x e =
      ap (λ (w : ℚ). reward_of (model.choice_at m s c) r +ℚ w)
      (discounted-sum (states_of m) f (row_at m s c) x
      ∙ ap (λ (w : ℚ). f *ℚ row_sum (row_at m s c) x +ℚ (1ℚ -ℚ f) *ℚ w) e
      ∙ ring rat_ring 2 (λ w f. w ⊕ (lit (pos 1) ⊕ ⊖ f) ⊗ lit (pos 0)) (λ w f. w) refl (f *ℚ row_sum (row_at m s c) x) f)

  -- what the code computes for a choice

  none_by : (b : Bool) (o : Option ℚ) → not b ≡ true → None ≡ cond b o None
  none_by true o h = absurd (true≢false (sym h))
  none_by false o h = refl

  some_by : (b : Bool) (o : Option ℚ) → not b ≡ false → o ≡ cond b o None
  some_by true o h = refl
  some_by false o h = absurd (true≢false h)

  module _ (s c : ℕ) (l : s < states_of m) (i : c < length (choices_at m s)) (x : List ℚ) (y z : ℚ) (is : y ≡ value_at x (states_of m)) (zero : z ≡ 0ℚ) where
    test-is : eq_ℚ y z ≡ eq_ℚ (value_at x (states_of m)) 0ℚ
    test-is = ap₂ eq_ℚ is zero

    written-is : (choice_at p s c).written x ≡ cond (eq_ℚ (value_at x (states_of m)) 0ℚ) (written_discounted m r f s c x) None
    written-is = ap (λ (y : Choice). y.written x) (state-choice s c l i)

    pub written-none : not (eq_ℚ y z) ≡ true → None ≡ (choice_at p s c).written x
    written-none h = none_by (eq_ℚ (value_at x (states_of m)) 0ℚ) (written_discounted m r f s c x) (sym (ap not test-is) ∙ h) ∙ sym written-is

    pub written-some : not (eq_ℚ y z) ≡ false → written_discounted m r f s c x ≡ (choice_at p s c).written x
    written-some h = some_by (eq_ℚ (value_at x (states_of m)) 0ℚ) (written_discounted m r f s c x) (sym (ap not test-is) ∙ h) ∙ sym written-is

  exact_by : (s c : ℕ) (x : List ℚ) (v : ℚ) (b : Bool) → eq_ℚ (value_at x (states_of m)) 0ℚ ≡ b → cond b (written_discounted m r f s c x) None ≡ Some v → v ≡ worth x (discount_choice m r f s c).move
  exact_by s c x v true e h = written_discounted-some m r f s c x v (sym h) ∙ sym (worth-is s c x ((equal_decides (value_at x (states_of m)) 0ℚ).0 e))
  exact_by s c x v false e h = cc

  pub discount-known : IsMdp m → IsFactor f → IsProblem p
  discount-known known factor = record {
    rows = λ s c l h.
        let b = has-choice s c l h in
        let n = node-count in
        subst (λ (k : ℕ). LeadsWithin k (choice_at p s c).move) (sym n)
        (subst (λ (x : Choice). LeadsWithin (states_of m + 1) x.move) (sym (state-choice s c b.0 b.1)) (discounted-row (states_of m) f factor (row_at m s c) (known.row s c b.0 b.1)));
    exact = λ s c x v l h e.
        let b = has-choice s c l h in
        let is = state-choice s c b.0 b.1 in
        subst (λ (y : Choice). v ≡ worth x y.move) (sym is)
        (exact_by s c x v (eq_ℚ (value_at x (states_of m)) 0ℚ) refl (subst (λ (y : Choice). y.written x ≡ Some v) is e));
  }
