-- The problem of the discounted reward is solvable from any policy, and what is found solves the discounted reward.
use Rattle.std.proofs.Common.{◌≡◌, ◌⊎◌, inl, ℕ, zero, suc, ◌+◌, ◌<◌, ◌≤◌, Bool, true, false, List, []}
use Rattle.std.proofs.Common.{◌∷◌, length, take, replicate, refl, sym, ◌∙◌, ap, subst, arith, ltb, ltb-true, ltb-false}
use Rattle.std.proofs.lemmas.List.{get_or-take, get_or-replicate, length-replicate}
use Rattle.std.specs.{Prelude.{slice_index, slice_index_or}, List.{Any}}
use Rattle.mdp_math.specs.Rational.{ℚ, ◌+ℚ◌, ◌*ℚ◌}
use Rattle.mdp_math.proofs.Sums.{sum_of-same_all}
use Rattle.mdp_spec.specs.{Mdp.{Mdp, Entry, states_of, row_at, choices_at, value_at}, Row.{IsMdp, IsRow, row_sum}, Unit.{reward_of}}
use Rattle.mdp_spec.specs.Mdp as model
use Rattle.mdp_rows.specs.{declared.dir.Dir.{Dir}, Better.{IsAsGood}}
use Rattle.mdp_elim.specs.System.{is_active}
use Rattle.mdp_policy_iteration.specs.Problem.{Problem, Node, given, decision, Choice, Move, worth, count, node_at, choice_at, goes_on, row_from, rows_of, active_of, taken, IsCandidate, IsPolicy}
use Rattle.mdp_policy_iteration.specs.{Code.{CanTake}, Values.{CanLeave}, Laws.{IsSolvable, IsBestFrom}}
use Rattle.mdp_policy_iteration.specs.Problem as path
use Rattle.mdp_policy_iteration.proofs.Chain.{row-at, active-at, active-below}
use Rattle.mdp_discount_rules.specs.Rules.{IsFactor, discounted}
use Rattle.mdp_discount.specs.{Problem.{0ℚ, discount_problem}, Query.{start_of}, Code.{IsFound}}
use Rattle.mdp_discount.proofs.ScaledRows.{leads-out}
use Rattle.mdp_discount.proofs.Nodes.{node-count, state-candidate, state-node, end-node, is-end, state-choices, state-choice, state-can, state-move, end-move, goes-state, goes-row}
use Rattle.mdp_discount.proofs.Nodes.{worth-is, discount-known}

can-of : (node : Node) (c : ℕ) → IsCandidate node c → CanTake node c
can-of (given v) c h = tt
can-of (decision choices) c h = h.0

-- the first values of a list
pub cut-len : {A : Type 0} (n : ℕ) (xs : List A) → n ≤ length xs → length (take n xs) ≡ n
cut-len zero xs h = refl
cut-len (suc n) [] h = absurd (omega arith)
cut-len (suc n) (x ∷ xs) h = ap suc (cut-len n xs (omega arith))

pub cut-sum : (n : ℕ) (row : List Entry) (x : List ℚ) → IsRow n row → row_sum row (take n x) ≡ row_sum row x
cut-sum n row x is =
    sum_of-same_all (λ e. e.prob *ℚ value_at (take n x) e.target) (λ e. e.prob *ℚ value_at x e.target) row
    (λ k e l. ap (λ (y : ℚ). (slice_index_or row k e).prob *ℚ y) (get_or-take n x (slice_index_or row k e).target 0ℚ (is.in_range k e l)))

module _ (dir : Dir) (m : Mdp) (r : ℕ) (f : ℚ) (known : IsMdp m) (factor : IsFactor f) where
  abbrev p : Problem
  p = discount_problem dir m r f

  below : states_of m < count p
  below = let n = node-count dir m r f in omega (arith, n)

  state-below : (s : ℕ) → s < states_of m → s < count p
  state-below s l = let n = node-count dir m r f in omega (arith, n)

  module _ (policy : List ℕ) (is : IsPolicy p policy) where
    takes : (s : ℕ) → s < count p → CanTake (node_at p s) (slice_index policy s)
    takes s l = can-of (node_at p s) (slice_index policy s) (is.candidate s l)

    end-inactive : is_active (active_of p policy) (states_of m) ≡ false
    end-inactive = active-at p policy (states_of m) below ∙ ap goes_on (end-move dir m r f (slice_index policy (states_of m)))

    all-leave : CanLeave p policy
    all-leave = (
      replicate (count p) 0,
      length-replicate (count p) 0,
      record {
        falls = λ s l active.
            let k = active-below p policy s active in
            let goes : goes_on (taken p policy s) ≡ true = sym (active-at p policy s k) ∙ active in
            let state = goes-state dir m r f s (slice_index policy s) k (takes s k) goes in
            subst (λ (row : List Entry). Any (λ e. (is_active (active_of p policy) e.target ≡ false) ⊎ (slice_index (replicate (count p) 0) e.target < slice_index (replicate (count p) 0) s)) row)
            (sym (row-at p policy s k ∙ goes-row dir m r f s (slice_index policy s) state (takes s k)))
            (leads-out (λ e. (is_active (active_of p policy) e.target ≡ false) ⊎ (slice_index (replicate (count p) 0) e.target < slice_index (replicate (count p) 0) s)) (states_of m) f
            (row_at m s (slice_index policy s)) (inl end-inactive));
      },
    )

  -- ---- the start

  start-at : (s : ℕ) → s < states_of m + 1 → slice_index (start_of m) s ≡ 0
  start-at s l = get_or-replicate (states_of m + 1) s 0 0 l

  start-candidate : (s : ℕ) (b : Bool) → s < count p → ltb s (states_of m) ≡ b → IsCandidate (node_at p s) (slice_index (start_of m) s)
  start-candidate s true l e =
      let k = ltb-true s (states_of m) e in
      let n = node-count dir m r f in
      subst (λ (c : ℕ). IsCandidate (node_at p s) c) (sym (start-at s (omega (arith, n))))
      (subst (λ (node : Node). IsCandidate node 0) (sym (state-node dir m r f s k)) (state-candidate dir m r f s 0 (known.choice s k)))
  start-candidate s false l e =
      let end = is-end dir m r f s l (ltb-false s (states_of m) e) in
      subst (λ (k : ℕ). IsCandidate (node_at p k) (slice_index (start_of m) s)) (sym end)
      (subst (λ (node : Node). IsCandidate node (slice_index (start_of m) s)) (sym (end-node dir m r f)) tt)

  start-policy : IsPolicy p (start_of m)
  start-policy = record {
    one_each = length-replicate (states_of m + 1) 0 ∙ sym (node-count dir m r f);
    candidate = λ s l. start-candidate s (ltb s (states_of m)) l refl;
  }

  pub start-solvable : IsSolvable p (start_of m)
  start-solvable = record { problem = discount-known dir m r f known factor; policy = start-policy; leaves = all-leave (start_of m) start-policy; keeps = inl (λ policy is. all-leave policy is) }

  -- ---- what is found

  module _ (start policy : List ℕ) (x : List ℚ) (found : IsBestFrom p start policy x) where
    abbrev n : ℕ
    n = states_of m

    end-zero : value_at x n ≡ 0ℚ
    end-zero = found.best.values.at n below ∙ ap (worth x) (end-move dir m r f (slice_index policy n))

    cut-value : (s : ℕ) → s < n → value_at (take n x) s ≡ value_at x s
    cut-value s l = get_or-take n x s 0ℚ l

    cut-choice : (s : ℕ) → s < n → slice_index (take n policy) s ≡ slice_index policy s
    cut-choice s l = get_or-take n policy s 0 l

    cut-discounted : (s c : ℕ) → s < n → c < length (choices_at m s) → discounted m r f s c (take n x) ≡ discounted m r f s c x
    cut-discounted s c l i = ap (λ (w : ℚ). reward_of (model.choice_at m s c) r +ℚ f *ℚ w) (cut-sum n (row_at m s c) x (known.row s c l i))

    takes-choice : (s : ℕ) → s < n → slice_index policy s < length (choices_at m s)
    takes-choice s l = state-can dir m r f s (slice_index policy s) l (takes policy found.best.is s (state-below s l))

    own-value : (s : ℕ) → s < n → value_at x s ≡ discounted m r f s (slice_index policy s) x
    own-value s l =
        found.best.values.at s (state-below s l)
        ∙ ap (worth x) (state-move dir m r f s (slice_index policy s) l (takes-choice s l))
        ∙ worth-is dir m r f s (slice_index policy s) x end-zero

    none-better : (s c : ℕ) → s < n → c < length (choices_at m s) → IsAsGood dir (value_at x s) (discounted m r f s c x)
    none-better s c l i =
        let j : c < length (path.choices_at p s) = (let k = state-choices dir m r f s l in omega (arith, k)) in
        subst (IsAsGood dir (value_at x s)) (ap (λ (y : Choice). worth x y.move) (state-choice dir m r f s c l i) ∙ worth-is dir m r f s c x end-zero)
        (found.best.none_better s c (state-below s l) j (ap (λ (y : Choice). y.candidate) (state-choice dir m r f s c l i)))

    values-len : n ≤ length x
    values-len = let k = node-count dir m r f in let l = found.best.values.len in omega (arith, k, l)

    policy-len : n ≤ length policy
    policy-len = let k = node-count dir m r f in let l = found.best.is.one_each in omega (arith, k, l)

    pub found-is : IsFound dir m r f (take n policy) (take n x)
    found-is = record {
      one_each = cut-len n x values-len;
      choices = record {
        one_each = cut-len n policy policy-len;
        in_range = λ s l. subst (λ (c : ℕ). c < length (choices_at m s)) (sym (cut-choice s l)) (takes-choice s l);
      };
      covers = λ s c l i.
          subst (λ (v : ℚ). IsAsGood dir v (discounted m r f s c (take n x))) (sym (cut-value s l))
          (subst (λ (w : ℚ). IsAsGood dir (value_at x s) w) (sym (cut-discounted s c l i)) (none-better s c l i));
      reached = λ s l.
          cut-value s l
          ∙ own-value s l
          ∙ sym (cut-discounted s (slice_index policy s) l (takes-choice s l))
          ∙ ap (λ (c : ℕ). discounted m r f s c (take n x)) (sym (cut-choice s l));
    }
