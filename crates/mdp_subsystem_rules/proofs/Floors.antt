-- A floor bounds the least probability of its subsystem from below.
use Rattle.std.proofs.Common.{◌≡◌, ℕ, ◌<◌, ⊎_elim, Bool, true, false, true≢false, cond, get_or, ltb, lt-ltb, ltb-true, List, length, T, refl, sym, subst}
use Rattle.std.specs.List.{Any}
use Rattle.mdp_math.specs.Rational.{ℚ, lt_ℚ, ◌≤ℚ◌, ◌<ℚ◌}
use Rattle.mdp_math.proofs.{Order.{0ℚ, 1ℚ, ≤ℚ_or_gt, ≤ℚ_of_lt, ≤ℚ_of_eq, ≤ℚ_refl, ≤ℚ_trans, <ℚ_irrefl}, Whole.{one-pos}}
use Rattle.mdp_spec.specs.{Mdp.{Entry, Choice, Mdp, states_of, choices_at, row_at, value_at}, Row.{IsMdp}, Tree.{is_marked}, Sub.{sub_of}, Hit.{hit}}
use Rattle.mdp_spec.specs.Bounds.{SubMin}
use Rattle.mdp_spec.proofs.{Keeping.{HasChoice, keeps_of_Fits}, Above.{row_weigh}, Close.{RowsShrink, deficit-le, deficit-fades}, Ranks.{shrinks_of_ranks}}
use Rattle.mdp_spec.proofs.Subsystem.{stays-kept, sub-states, sub-stays, stays-row, sub_is_mdp}
use Rattle.mdp_subsystem_rules.specs.Floor.{counted_value, counted_rank, MeetsFloor}

-- ---- what a state counts as

pub as_kept : {A : Type 0} (g k : Bool) (x y z : A) → g ≡ false → k ≡ true → cond g x (cond k y z) ≡ y
as_kept true k x y z e f = absurd (true≢false e)
as_kept false true x y z e f = refl
as_kept false false x y z e f = absurd (true≢false (sym f))

pub as_neither : {A : Type 0} (g k : Bool) (x y z : A) → g ≡ false → k ≡ false → cond g x (cond k y z) ≡ z
as_neither true k x y z e f = absurd (true≢false e)
as_neither false true x y z e f = absurd (true≢false f)
as_neither false false x y z e f = refl

-- a count is a probability, where the value of a kept state is
count-le : (g k : Bool) (y : ℚ) → (k ≡ true → y ≤ℚ 1ℚ) → cond g 1ℚ (cond k y 0ℚ) ≤ℚ 1ℚ
count-le true k y h = ≤ℚ_refl 1ℚ
count-le false true y h = h refl
count-le false false y h = ≤ℚ_of_lt 0ℚ 1ℚ one-pos

-- what isn't a goal and counts as more than 0 is kept
count-kept : (g k : Bool) (y : ℚ) → g ≡ false → 0ℚ <ℚ cond g 1ℚ (cond k y 0ℚ) → k ≡ true
count-kept true k y e p = absurd (true≢false e)
count-kept false true y e p = refl
count-kept false false y e p = absurd (<ℚ_irrefl 0ℚ p)

-- ---- the states of the subsystem that are no goal and count as more than 0

abbrev is_active : ℕ → List Bool → (ℕ → ℚ) → ℕ → Bool
is_active n goals z s = cond (ltb s n) (cond (is_marked goals s) false (lt_ℚ 0ℚ (z s))) false

all_three : (a b c : Bool) → cond a (cond b false c) false ≡ true → (a ≡ true) × (b ≡ false) × (c ≡ true)
all_three true true c e = absurd (true≢false (sym e))
all_three true false c e = (refl, refl, e)
all_three false b c e = absurd (true≢false (sym e))

third : (a b c : Bool) → a ≡ true → b ≡ false → cond a (cond b false c) false ≡ false → c ≡ false
third true true c e f g = absurd (true≢false f)
third true false c e f g = g
third false b c e f g = absurd (true≢false (sym e))

pub lt_of_test : (x y : ℚ) → lt_ℚ x y ≡ true → x <ℚ y
lt_of_test x y e = record { lt = subst T (sym e) tt }

pub le_of_no_test : (x y : ℚ) → lt_ℚ x y ≡ false → y ≤ℚ x
le_of_no_test x y e = ⊎_elim (λ l. l) (λ l. absurd (subst T e l.lt)) (≤ℚ_or_gt y x)

active_parts : (n : ℕ) (goals : List Bool) (z : ℕ → ℚ) (s : ℕ) → is_active n goals z s ≡ true → (s < n) × (is_marked goals s ≡ false) × (0ℚ <ℚ z s)
active_parts n goals z s a =
    let p = all_three (ltb s n) (is_marked goals s) (lt_ℚ 0ℚ (z s)) a in
    (ltb-true s n p.0, p.1, lt_of_test 0ℚ (z s) p.2)

inactive_value : (n : ℕ) (goals : List Bool) (z : ℕ → ℚ) (s : ℕ) → s < n → is_marked goals s ≡ false → is_active n goals z s ≡ false → z s ≤ℚ 0ℚ
inactive_value n goals z s h g a = le_of_no_test 0ℚ (z s) (third (ltb s n) (is_marked goals s) (lt_ℚ 0ℚ (z s)) (lt-ltb s n h) g a)

-- ---- the bound

module _ (m : Mdp) (goals kept : List Bool) (z : List ℚ) (ranks : List ℕ) (start : ℕ) (threshold : ℚ) (known_ : IsMdp m) (f : MeetsFloor m goals kept z ranks start threshold) where
  abbrev sub : Mdp
  sub = sub_of m goals kept

  abbrev value : ℕ → ℚ
  value s = counted_value goals kept z s

  abbrev rank : ℕ → ℕ
  rank s = counted_rank goals kept ranks s

  abbrev active : ℕ → Bool
  active s = is_active (states_of m) goals (counted_value goals kept z) s

  -- an active state is kept, and counts as its value and rank
  kept_parts : (s : ℕ) → active s ≡ true → (s < states_of m) × (is_marked kept s ≡ true) × (value s ≡ value_at z s) × (rank s ≡ get_or ranks s 0)
  kept_parts s a =
      let p = active_parts (states_of m) goals (counted_value goals kept z) s a in
      let k : is_marked kept s ≡ true = count-kept (is_marked goals s) (is_marked kept s) (value_at z s) p.1 p.2 in
      (p.0, k, as_kept (is_marked goals s) (is_marked kept s) 1ℚ (value_at z s) 0ℚ p.1 k, as_kept (is_marked goals s) (is_marked kept s) 0 (get_or ranks s 0) 0 p.1 k)

  sub_row : (s c : ℕ) → s < states_of m → is_marked kept s ≡ true → row_at sub s c ≡ row_at m s c
  sub_row s c h k = stays-row m goals kept s c h (stays-kept goals kept s k)

  sub_has : (s c : ℕ) → s < states_of m → is_marked kept s ≡ true → c < length (choices_at sub s) → c < length (choices_at m s)
  sub_has s c h k l = subst (λ (cs : List Choice). c < length cs) (sub-stays m goals kept s h (stays-kept goals kept s k)) l

  inside : (s : ℕ) → s < states_of sub → s < states_of m
  inside s h = subst (λ (n : ℕ). s < n) (sub-states m goals kept) h

  inside_back : (s : ℕ) → s < states_of m → s < states_of sub
  inside_back s h = subst (λ (n : ℕ). s < n) (sym (sub-states m goals kept)) h

  at_most_one : (s : ℕ) → s < states_of sub → value s ≤ℚ 1ℚ
  at_most_one s h = count-le (is_marked goals s) (is_marked kept s) (value_at z s) (λ k. f.at_most_one s (inside s h) k)

  covered : (s c : ℕ) → s < states_of sub → active s ≡ true → HasChoice sub s c → c < length (choices_at sub s) → value s ≤ℚ row_weigh (counted_value goals kept z) (row_at sub s c)
  covered s c h a has l =
      let p = kept_parts s a in
      subst (λ (row : List Entry). value s ≤ℚ row_weigh (counted_value goals kept z) row) (sym (sub_row s c p.0 p.1))
      (≤ℚ_trans _ _ _ (≤ℚ_of_eq _ _ p.2) (f.covered s c p.0 p.1 (sub_has s c p.0 p.1 l)))

  falls : (s c : ℕ) → active s ≡ true → HasChoice sub s c → c < length (choices_at sub s) → Any (λ y. rank y.target < rank s) (row_at sub s c)
  falls s c a has l =
      let p = kept_parts s a in
      let q = active_parts (states_of m) goals (counted_value goals kept z) s a in
      subst (λ (row : List Entry). Any (λ y. rank y.target < rank s) row) (sym (sub_row s c p.0 p.1))
      (subst (λ (r : ℕ). Any (λ y. rank y.target < r) (row_at m s c)) (sym p.3)
      (f.falls s c p.0 p.1 (subst (λ (x : ℚ). 0ℚ <ℚ x) p.2 q.2) (sub_has s c p.0 p.1 l)))

  shrinks : RowsShrink sub (λ s. active s) (HasChoice sub)
  shrinks = shrinks_of_ranks sub (λ s. active s) (HasChoice sub) (λ s. rank s) (sub_is_mdp m goals kept known_) (λ s a. inside_back s (kept_parts s a).0) falls

  -- each deep tree comes close to what the start counts as, and so to the threshold
  pub sub_min_of_floor : start < states_of m → SubMin m goals kept start threshold
  sub_min_of_floor h = record {
    starts = h;
    close = λ k hk.
        let fades = deficit-fades sub (λ s. active s) (HasChoice sub) shrinks k hk in (
          fades.0,
          λ d u t l strategy.
              ≤ℚ_trans _ _ _ f.reached
              (fades.1 d start (value start) (hit sub goals u d t start) l
              (deficit-le sub goals u (sub_is_mdp m goals kept known_) strategy.mixes (HasChoice sub) (λ s. active s) shrinks (counted_value goals kept z) at_most_one
              (λ s i g a. inactive_value (states_of m) goals (counted_value goals kept z) s (inside s i) g a) covered
              d t start (inside_back start h) (keeps_of_Fits sub u d t start strategy.fits))),
        );
  }
