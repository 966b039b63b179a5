-- Trees that keep a rule: each choice of weight above 0 meets it. Each tree keeps a rule that all choices meet, and the tree that follows a
-- policy keeps the rule of the policy's choices. So a bound is proved once, for trees that keep a rule.
use Rattle.std.proofs.Common.{◌≡◌, ℕ, zero, suc, ◌<◌, ◌≤◌, ⊎_elim, Bool, true, false, cond, eqb, List, [], ◌∷◌, length, get_or, refl, sym, ◌∙◌, ap, subst, arith, pos}
use Rattle.std.proofs.{lemmas.List.{get_or_default}, lemmas.Bool.{cases_eq, eqb-true, eq-eqb, ne_eqb}}
use Rattle.mdp_math.specs.{Rational.{ℚ, of_int, ratio, ◌*ℚ◌, inv_ℚ, ◌≤ℚ◌, ◌<ℚ◌}, Sum.{sum_at, EachAt}}
use Rattle.mdp_math.proofs.{Laws.{one-*ℚ}, Order.{0ℚ, 1ℚ, <ℚ_irrefl, ratio-nonneg}, Whole.{of_nat-pos}, Division.{ratio-div, mul-inv_pos}}
use Rattle.mdp_math.proofs.SumsAt.{sum_at-same, sum_at-scale_right, sum_at-weighted_le, EachAt_all, EachAt_mono, EachAt_both, EachAt-from_places}
use Rattle.mdp_spec.specs.{Mdp.{Entry, Choice, Mdp, states_of, choices_at, row_at}, Row.{IsRow, IsMdp}, Unit.{count_at}}
use Rattle.mdp_spec.specs.{Tree.{Tree, Fits, IsStrategy, IsPolicy, unfolded, target_at}, Tree.Tree.{leaf, node}}
use Rattle.mdp_spec.proofs.{Units.{of_nat-count_at}, Rows.{rows_known, placed, targets_at}, Hits.{share, mixed, ratio-none}}

abbrev pub Keeps : Mdp → (ℕ → ℕ → Type 0) → ℕ → ℕ → Tree → ℕ → Type 0
Keeps m P u zero t s = Unit {0}
Keeps m P u (suc n) leaf s = ⊥
Keeps m P u (suc n) (node weights kids) s =
    (count_at (choices_at m s) (λ c x. weights c) ≡ u)
    × EachAt (choices_at m s) (λ c x. (0 < weights c → P s c) × EachAt x.row (λ e y. Keeps m P u n (kids c e) y.target))

-- ---- all trees

-- the choices that a state has
abbrev pub HasChoice : Mdp → ℕ → ℕ → Type 0
HasChoice m s c = c < length (choices_at m s)

pub keeps_of_Fits : (m : Mdp) (u n : ℕ) (t : Tree) (s : ℕ) → Fits m u n t s → Keeps m (HasChoice m) u n t s
keeps_of_Fits m u zero t s fits = tt
keeps_of_Fits m u (suc n) leaf s fits = absurd fits
keeps_of_Fits m u (suc n) (node weights kids) s fits = (
  fits.0,
  EachAt_mono (choices_at m s)
      (λ c x. ((c < length (choices_at m s)) × (row_at m s c ≡ x.row)) × EachAt x.row (λ e y. Fits m u n (kids c e) y.target))
      (λ c x. (0 < weights c → HasChoice m s c) × EachAt x.row (λ e y. Keeps m (HasChoice m) u n (kids c e) y.target))
      (λ c x q. (
        λ above. q.0.0,
        EachAt_mono x.row (λ e y. Fits m u n (kids c e) y.target) (λ e y. Keeps m (HasChoice m) u n (kids c e) y.target)
            (λ e y f. keeps_of_Fits m u n (kids c e) y.target f) q.1,
      ))
      (EachAt_both (choices_at m s) (λ c x. (c < length (choices_at m s)) × (row_at m s c ≡ x.row)) (λ c x. EachAt x.row (λ e y. Fits m u n (kids c e) y.target)) (placed m s) fits.1),
)

-- ---- the tree that follows a policy

abbrev pub Follows : List ℕ → ℕ → ℕ → Type 0
Follows policy s c = c ≡ get_or policy s 0

eqb-suc : (p c : ℕ) → eqb (suc p) (suc c) ≡ eqb p c
eqb-suc p c =
    ⊎_elim (λ e. eq-eqb (suc p) (suc c) (ap suc e) ∙ sym (eq-eqb p c e))
    (λ n. ne_eqb (suc p) (suc c) (λ e. n (omega arith)) ∙ sym (ne_eqb p c n)) (cases_eq p c)

-- no place of a list that begins later is 0
pub count_at-none : {A : Type 0} (xs : List A) (f : ℕ → A → ℕ) → ((i : ℕ) (a : A) → f i a ≡ 0) → count_at xs f ≡ 0
count_at-none [] f none = refl
count_at-none (x ∷ xs) f none = omega (arith, none 0 x, count_at-none xs (λ i a. f (suc i) a) (λ i a. none (suc i) a))

pub count_at-one : {A : Type 0} (xs : List A) (p : ℕ) → p < length xs → count_at xs (λ c a. cond (eqb p c) 1 0) ≡ 1
count_at-one [] p less = absurd (omega arith)
count_at-one (x ∷ xs) zero less = omega (arith, count_at-none xs (λ c a. cond (eqb 0 (suc c)) 1 0) (λ i a. rw (ne_eqb 0 (suc i) (λ e. omega arith)) refl))
count_at-one (x ∷ xs) (suc p) less = rw (ne_eqb (suc p) 0 (λ e. omega arith)) (simp eqb-suc (omega (arith, count_at-one xs p (omega arith))))

chosen_by : (b : Bool) → 0 < cond b 1 0 → b ≡ true
chosen_by true h = refl
chosen_by false h = absurd (omega arith)

pub chosen : (p c : ℕ) → 0 < cond (eqb p c) 1 0 → c ≡ p
chosen p c h = sym (eqb-true p c (chosen_by (eqb p c) h))

-- where each entry of a row leads, by its place
pub target_placed : (m : Mdp) (s c : ℕ) (row : List Entry) → row_at m s c ≡ row → EachAt row (λ e y. target_at m s c e ≡ y.target)
target_placed m s c row same =
    EachAt-from_places row (λ e y. target_at m s c e ≡ y.target)
    (λ e d l. ap (λ (r : List Entry). (get_or r e (record { target = 0; prob = of_int (pos 0) })).target) same
    ∙ ap (λ (y : Entry). y.target) (get_or_default row e (record { target = 0; prob = of_int (pos 0) }) d l))

pub keeps_unfolded : (m : Mdp) (policy : List ℕ) (n s : ℕ) → IsMdp m → IsPolicy m policy → s < states_of m → Keeps m (Follows policy) 1 n (unfolded m policy n s) s
keeps_unfolded m policy zero s known choice h = tt
keeps_unfolded m policy (suc n) s known choice h = (
  count_at-one (choices_at m s) (get_or policy s 0) (choice.in_range s h),
  EachAt_mono (choices_at m s)
      (λ c x. ((c < length (choices_at m s)) × (row_at m s c ≡ x.row)) × IsRow (states_of m) x.row)
      (λ c x. (0 < cond (eqb (get_or policy s 0) c) 1 0 → Follows policy s c) × EachAt x.row (λ e y. Keeps m (Follows policy) 1 n (unfolded m policy n (target_at m s c e)) y.target))
      (λ c x q. (
        chosen (get_or policy s 0) c,
        EachAt_mono x.row (λ e y. (target_at m s c e ≡ y.target) × (y.target < states_of m)) (λ e y. Keeps m (Follows policy) 1 n (unfolded m policy n (target_at m s c e)) y.target)
            (λ e y r. subst (λ (t : ℕ). Keeps m (Follows policy) 1 n (unfolded m policy n t) y.target) (sym r.0) (keeps_unfolded m policy n y.target known choice r.1))
            (EachAt_both x.row (λ e y. target_at m s c e ≡ y.target) (λ e y. y.target < states_of m) (target_placed m s c x.row q.0.1) (targets_at (states_of m) x.row q.1)),
      ))
      (EachAt_both (choices_at m s) (λ c x. (c < length (choices_at m s)) × (row_at m s c ≡ x.row)) (λ c x. IsRow (states_of m) x.row) (placed m s) (rows_known m s known)),
)

-- and it fits
pub unfolded_fits : (m : Mdp) (policy : List ℕ) (n s : ℕ) → IsMdp m → IsPolicy m policy → s < states_of m → Fits m 1 n (unfolded m policy n s) s
unfolded_fits m policy zero s known choice h = tt
unfolded_fits m policy (suc n) s known choice h = (
  count_at-one (choices_at m s) (get_or policy s 0) (choice.in_range s h),
  EachAt_mono (choices_at m s)
      (λ c x. ((c < length (choices_at m s)) × (row_at m s c ≡ x.row)) × IsRow (states_of m) x.row)
      (λ c x. EachAt x.row (λ e y. Fits m 1 n (unfolded m policy n (target_at m s c e)) y.target))
      (λ c x q.
      EachAt_mono x.row (λ e y. (target_at m s c e ≡ y.target) × (y.target < states_of m)) (λ e y. Fits m 1 n (unfolded m policy n (target_at m s c e)) y.target)
      (λ e y r. subst (λ (t : ℕ). Fits m 1 n (unfolded m policy n t) y.target) (sym r.0) (unfolded_fits m policy n y.target known choice r.1))
      (EachAt_both x.row (λ e y. target_at m s c e ≡ y.target) (λ e y. y.target < states_of m) (target_placed m s c x.row q.0.1) (targets_at (states_of m) x.row q.1)))
      (EachAt_both (choices_at m s) (λ c x. (c < length (choices_at m s)) × (row_at m s c ≡ x.row)) (λ c x. IsRow (states_of m) x.row) (placed m s) (rows_known m s known)),
)

-- so it is a strategy tree
pub unfolded_is_strategy : (m : Mdp) (policy : List ℕ) (n s : ℕ) → IsMdp m → IsPolicy m policy → s < states_of m → IsStrategy m 1 n (unfolded m policy n s) s
unfolded_is_strategy m policy n s known choice h = record { mixes = omega arith; fits = unfolded_fits m policy n s known choice h }

-- ---- averages over the choices

pub share-nonneg : (u : ℕ) (weights : ℕ → ℕ) (c : ℕ) → 1 ≤ u → 0ℚ ≤ℚ share u weights c
share-nonneg u weights c h = ratio-nonneg (weights c) u h

share_by-pos : (u k : ℕ) → 1 ≤ u → 0ℚ <ℚ ratio (pos k) u → 0 < k
share_by-pos u zero h p = absurd (<ℚ_irrefl 0ℚ (subst (λ (x : ℚ). 0ℚ <ℚ x) (ratio-none u h) p))
share_by-pos u (suc k) h p = omega arith

pub share-pos : (u : ℕ) (weights : ℕ → ℕ) (c : ℕ) → 1 ≤ u → 0ℚ <ℚ share u weights c → 0 < weights c
share-pos u weights c h p = share_by-pos u (weights c) h p

pub shares-total : (cs : List Choice) (u : ℕ) (weights : ℕ → ℕ) → 1 ≤ u → count_at cs (λ c x. weights c) ≡ u → sum_at cs (λ c x. share u weights c) ≡ 1ℚ
shares-total cs u weights h e =
    sum_at-same cs (λ c x. share u weights c) (λ c x. of_int (pos (weights c)) *ℚ inv_ℚ (of_int (pos u)))
    (EachAt_all cs (λ c x. share u weights c ≡ of_int (pos (weights c)) *ℚ inv_ℚ (of_int (pos u))) (λ c x. ratio-div (pos (weights c)) u h))
    ∙ sum_at-scale_right (inv_ℚ (of_int (pos u))) cs (λ c x. of_int (pos (weights c)))
    ∙ ap (λ (x : ℚ). x *ℚ inv_ℚ (of_int (pos u))) (sym (of_nat-count_at cs (λ c x. weights c)) ∙ ap (λ (k : ℕ). of_int (pos k)) e)
    ∙ mul-inv_pos (of_int (pos u)) (of_nat-pos u h)

-- an average of sums is at most y, where each sum of a choice of weight above 0 is
pub mixed-le : (m : Mdp) (u : ℕ) (weights : ℕ → ℕ) (f : ℕ → ℕ → Entry → ℚ) (s : ℕ) (y : ℚ) → 1 ≤ u → count_at (choices_at m s) (λ c x. weights c) ≡ u
    → EachAt (choices_at m s) (λ c x. 0 < weights c → sum_at x.row (λ e t. t.prob *ℚ f c e t) ≤ℚ y) → mixed m u weights f s ≤ℚ y
mixed-le m u weights f s y h total each =
    subst (λ (w : ℚ). mixed m u weights f s ≤ℚ w) (ap (λ (w : ℚ). w *ℚ y) (shares-total (choices_at m s) u weights h total) ∙ one-*ℚ y)
    (sum_at-weighted_le (choices_at m s) (λ c x. share u weights c) (λ c x. sum_at x.row (λ e t. t.prob *ℚ f c e t)) y
    (EachAt_all (choices_at m s) (λ c x. 0ℚ ≤ℚ share u weights c) (λ c x. share-nonneg u weights c h))
    (EachAt_mono (choices_at m s) (λ c x. 0 < weights c → sum_at x.row (λ e t. t.prob *ℚ f c e t) ≤ℚ y) (λ c x. 0ℚ <ℚ share u weights c → sum_at x.row (λ e t. t.prob *ℚ f c e t) ≤ℚ y)
    (λ c x k p. k (share-pos u weights c h p)) each))
