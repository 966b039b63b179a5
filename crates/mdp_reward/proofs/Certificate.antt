-- The values of a certificate: those of the path at finite states, infinite at the others. As numbers they are those of the path.
use Rattle.std.proofs.Common.{◌≡◌, ℕ, ◌<◌, Bool, true, false, not, ◌&&◌, List, length, Option, Some, None, refl, sym, ◌∙◌, ap, arith, zero-add, if◌then◌else◌, pos}
use Rattle.std.proofs.{lemmas.List.{get_or-map, length-map}, lemmas.List.FromFn.{get_or-map-range_with_len, length-map-range_with_len}}
use Rattle.std.specs.Prelude.{slice_index_or, is_some, unwrap_or}
use Rattle.mdp_math.specs.Rational.{ℚ, of_int}
use Rattle.mdp_math.proofs.Order.{0ℚ}
use Rattle.mdp_spec.specs.{Mdp.{Mdp, states_of, value_at}, Tree.{is_marked}, Bounds.{reward_at, finite_part, infinite}, RewardRules.{IsInfinite, IsTransient}}
use Rattle.mdp_graph.proofs.OnePass.{same_list}
use Rattle.mdp_reward.specs.{Problem.{is_transient}, Query.{reward_by, rewards_of}}

module _ (m : Mdp) (goals finite : List Bool) (x : List ℚ) where
  abbrev v : List (Option ℚ)
  v = rewards_of m finite x

  pub rewards-len : length v ≡ states_of m
  rewards-len = length-map-range_with_len (reward_by finite x) 0 (states_of m)

  at_or : (d : Option ℚ) (s : ℕ) → s < states_of m → slice_index_or v s d ≡ reward_by finite x s
  at_or d s l = get_or-map-range_with_len (reward_by finite x) 0 (states_of m) s s d l (zero-add s)

  by_true : (s : ℕ) → is_marked finite s ≡ true → reward_by finite x s ≡ Some (value_at x s)
  by_true s e = ap (λ (b : Bool). if b then Some (value_at x s) else None) e

  by_false : (s : ℕ) → is_marked finite s ≡ false → reward_by finite x s ≡ None
  by_false s e = ap (λ (b : Bool). if b then Some (value_at x s) else None) e

  pub reward-finite : (s : ℕ) → s < states_of m → is_marked finite s ≡ true → reward_at v s ≡ Some (value_at x s)
  reward-finite s l e = at_or (Some (of_int (pos 0))) s l ∙ by_true s e

  -- a state is infinite where it isn't finite
  infinite_at : (s : ℕ) → s < states_of m → is_marked (infinite v) s ≡ not (is_some (reward_by finite x s))
  infinite_at s l =
      let n = rewards-len in
      get_or-map (λ (o : Option ℚ). not (is_some o)) v s None false (omega (arith, n)) ∙ ap (λ (o : Option ℚ). not (is_some o)) (at_or None s l)

  pub infinite-not : (s : ℕ) → s < states_of m → is_marked finite s ≡ true → is_marked (infinite v) s ≡ false
  infinite-not s l e = infinite_at s l ∙ ap (λ (o : Option ℚ). not (is_some o)) (by_true s e)

  pub infinite-is : (s : ℕ) → s < states_of m → is_marked finite s ≡ false → is_marked (infinite v) s ≡ true
  infinite-is s l e = infinite_at s l ∙ ap (λ (o : Option ℚ). not (is_some o)) (by_false s e)

  finite_by : (s : ℕ) (b : Bool) → s < states_of m → is_marked finite s ≡ b → is_marked (infinite v) s ≡ false → is_marked finite s ≡ true
  finite_by s true l e f = e
  finite_by s false l e f = absurd (let g : true ≡ false = sym (infinite-is s l e) ∙ f in cc)

  pub finite-of : (s : ℕ) → s < states_of m → is_marked (infinite v) s ≡ false → is_marked finite s ≡ true
  finite-of s l f = finite_by s (is_marked finite s) l refl f

  none_by : (s : ℕ) (b : Bool) → s < states_of m → is_marked finite s ≡ b → is_marked (infinite v) s ≡ true → is_marked finite s ≡ false
  none_by s true l e f = absurd (let g : true ≡ false = sym f ∙ infinite-not s l e in cc)
  none_by s false l e f = e

  pub infinite-state : (s : ℕ) → IsInfinite m v s → is_marked finite s ≡ false
  infinite-state s h = none_by s (is_marked finite s) h.0 refl h.1

  both : (a b : Bool) → a ≡ false → b ≡ true → (not a && b) ≡ true
  both true b e f = cc
  both false b e f = f

  pub transient-state : (s : ℕ) → IsTransient m goals v s → is_transient goals finite s ≡ true
  transient-state s h = both (is_marked goals s) (is_marked finite s) h.1 (finite-of s h.0 h.2)

  -- ---- as numbers

  some_by : (s : ℕ) (b : Bool) (y : ℚ) → s < states_of m → is_marked finite s ≡ b → reward_at v s ≡ Some y → y ≡ value_at x s
  some_by s true y l e h = value_of (sym h ∙ reward-finite s l e)
    where
      value_of : (let a : Option ℚ = Some y in a) ≡ Some (value_at x s) → y ≡ value_at x s
      value_of f = ap (λ (o : Option ℚ). unwrap_or o y) f
  some_by s false y l e h = absurd (none (sym h ∙ at_or (Some (of_int (pos 0))) s l ∙ by_false s e))
    where
      none : (let a : Option ℚ = Some y in a) ≡ None → ⊥
      none f = cc

  -- a finite value is that of the path
  pub some-value : (s : ℕ) (y : ℚ) → s < states_of m → reward_at v s ≡ Some y → y ≡ value_at x s
  some-value s y l h = some_by s (is_marked finite s) y l refl h

  module _ (len : length x ≡ states_of m) (zero : (s : ℕ) → s < states_of m → is_marked finite s ≡ false → value_at x s ≡ 0ℚ) where
    number_by : (s : ℕ) (b : Bool) → s < states_of m → is_marked finite s ≡ b → unwrap_or (reward_by finite x s) 0ℚ ≡ value_at x s
    number_by s true l e = ap (λ (o : Option ℚ). unwrap_or o 0ℚ) (by_true s e)
    number_by s false l e = ap (λ (o : Option ℚ). unwrap_or o 0ℚ) (by_false s e) ∙ sym (zero s l e)

    pub finite-part : finite_part v ≡ x
    finite-part =
        let n = rewards-len in
        let k : length (finite_part v) ≡ states_of m = length-map v (λ (o : Option ℚ). unwrap_or o 0ℚ) ∙ n in
        same_list (states_of m) (finite_part v) x 0ℚ k len
        (λ s l. get_or-map (λ (o : Option ℚ). unwrap_or o 0ℚ) v s None 0ℚ (omega (arith, n)) ∙ ap (λ (o : Option ℚ). unwrap_or o 0ℚ) (at_or None s l)
        ∙ number_by s (is_marked finite s) l refl)
