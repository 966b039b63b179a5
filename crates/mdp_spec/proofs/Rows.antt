-- What is known of each row of a model, by the row's state and place, and what functions of the state weigh in a row.
use Rattle.std.proofs.{Common.{◌≡◌, ℕ, ◌<◌, ◌≤◌, ⊎_elim, List, [], length, get_or, refl, ◌∙◌, ap, subst, arith, pos}, lemmas.List.{get_or_past, get_or_default}}
use Rattle.std.proofs.lemmas.Bool.{cases_lt}
use Rattle.std.specs.List.{All}
use Rattle.mdp_math.specs.{Rational.{ℚ, ◌+ℚ◌, ◌*ℚ◌, ◌-ℚ◌, ◌≤ℚ◌}, Sum.{sum_at, EachAt}, Kernel.{weigh}}
use Rattle.mdp_math.proofs.{Ring.{◌⊗◌, lit, ring}, Laws.{rat_ring}}
use Rattle.mdp_math.proofs.SumsAt.{sum_at-le, sum_at-sum_of, EachAt_mono, EachAt_both, EachAt-from_places, EachAt-from_All}
use Rattle.mdp_math.proofs.{Kernel.{weigh-add, weigh-sub, weigh-scale, weigh-const}, Order.{0ℚ, ≤ℚ_of_lt, mul-le-mul_left_ℚ}}
use Rattle.mdp_spec.specs.{Mdp.{Entry, Choice, State, Mdp, states_of, choices_at, row_at, no_choice, no_state}, Row.{IsRow, IsMdp}}

-- past the last state there is no choice
pub choices_at-past : (m : Mdp) (s : ℕ) → states_of m ≤ s → choices_at m s ≡ []
choices_at-past m s h = ap (λ (x : State). x.choices) (get_or_past m.states s no_state h)

pub rows_known : (m : Mdp) (s : ℕ) → IsMdp m → EachAt (choices_at m s) (λ c x. IsRow (states_of m) x.row)
rows_known m s k =
    EachAt-from_places (choices_at m s) (λ c x. IsRow (states_of m) x.row)
    (λ c d l. ⊎_elim
    (λ inside. subst (λ (x : Choice). IsRow (states_of m) x.row) (get_or_default (choices_at m s) c no_choice d l) (IsMdp.row k s c inside l))
    (λ past. let e : length (choices_at m s) ≡ 0 = ap length (choices_at-past m s past) in absurd (omega arith))
    (cases_lt s (states_of m)))

-- the place of each choice, and its row by that place
pub placed : (m : Mdp) (s : ℕ) → EachAt (choices_at m s) (λ c x. (c < length (choices_at m s)) × (row_at m s c ≡ x.row))
placed m s =
    EachAt-from_places (choices_at m s) (λ c x. (c < length (choices_at m s)) × (row_at m s c ≡ x.row))
    (λ c d l. (l, ap (λ (x : Choice). x.row) (get_or_default (choices_at m s) c no_choice d l)))

-- no probability is below 0
pub probs_nonneg : (n : ℕ) (row : List Entry) → IsRow n row → All (λ y. 0ℚ ≤ℚ y.prob) row
probs_nonneg n row r = λ k d l. ≤ℚ_of_lt 0ℚ (Entry.prob (get_or row k d)) (r.distribution.positive k d l)

pub nonneg_at : (n : ℕ) (row : List Entry) → IsRow n row → EachAt row (λ e y. 0ℚ ≤ℚ y.prob)
nonneg_at n row r = EachAt-from_All row (λ y. 0ℚ ≤ℚ y.prob) (probs_nonneg n row r)

pub targets_at : (n : ℕ) (row : List Entry) → IsRow n row → EachAt row (λ e y. y.target < n)
targets_at n row r = EachAt-from_All row (λ y. y.target < n) r.in_range

-- ---- what a row weighs

-- what a function of the state weighs in a row
abbrev pub row_weigh : (ℕ → ℚ) → List Entry → ℚ
row_weigh z row = weigh (λ (y : Entry). y.target) (λ (y : Entry). y.prob) z row

-- a sum over a row of numbers that are at most z at the entries' targets
pub row_sum-le : (k : ℕ) (row : List Entry) (f : ℕ → Entry → ℚ) (z : ℕ → ℚ) → IsRow k row
    → EachAt row (λ e y. f e y ≤ℚ z y.target) → sum_at row (λ e y. y.prob *ℚ f e y) ≤ℚ row_weigh z row
row_sum-le k row f z known each =
    subst (λ (w : ℚ). sum_at row (λ e y. y.prob *ℚ f e y) ≤ℚ w) (sum_at-sum_of row (λ y. y.prob *ℚ z y.target))
    (sum_at-le row (λ e y. y.prob *ℚ f e y) (λ e y. y.prob *ℚ z y.target)
    (EachAt_mono row (λ e y. (0ℚ ≤ℚ y.prob) × (f e y ≤ℚ z y.target)) (λ e y. y.prob *ℚ f e y ≤ℚ y.prob *ℚ z y.target) (λ e y q. mul-le-mul_left_ℚ y.prob (f e y) (z y.target) q.0 q.1)
    (EachAt_both row (λ e y. 0ℚ ≤ℚ y.prob) (λ e y. f e y ≤ℚ z y.target) (nonneg_at k row known) each)))

-- what a constant weighs
pub row_weigh-const : (k : ℕ) (row : List Entry) (c : ℚ) → IsRow k row → row_weigh (λ v. c) row ≡ c
row_weigh-const k row c known =
    weigh-const (λ (y : Entry). y.target) (λ (y : Entry). y.prob) c row
    ∙ ap (λ (w : ℚ). c *ℚ w) known.distribution.total
    ∙ ring rat_ring 1 (λ c. c ⊗ lit (pos 1)) (λ c. c) refl c

-- a multiple
pub row_weigh-scale : (row : List Entry) (c : ℚ) (z : ℕ → ℚ) → row_weigh (λ v. c *ℚ z v) row ≡ c *ℚ row_weigh z row
row_weigh-scale row c z = weigh-scale (λ (y : Entry). y.target) (λ (y : Entry). y.prob) c z row

-- a multiple less another function
pub row_weigh-sub_scaled : (row : List Entry) (c : ℚ) (w z : ℕ → ℚ) → row_weigh (λ v. c *ℚ w v -ℚ z v) row ≡ c *ℚ row_weigh w row -ℚ row_weigh z row
row_weigh-sub_scaled row c w z = weigh-sub (λ (y : Entry). y.target) (λ (y : Entry). y.prob) (λ v. c *ℚ w v) z row ∙ ap (λ (x : ℚ). x -ℚ row_weigh z row) (row_weigh-scale row c w)

-- what is left of a constant
pub row_weigh-from : (k : ℕ) (row : List Entry) (c : ℚ) (z : ℕ → ℚ) → IsRow k row → row_weigh (λ v. c -ℚ z v) row ≡ c -ℚ row_weigh z row
row_weigh-from k row c z known = weigh-sub (λ (y : Entry). y.target) (λ (y : Entry). y.prob) (λ v. c) z row ∙ ap (λ (w : ℚ). w -ℚ row_weigh z row) (row_weigh-const k row c known)

-- a multiple of g and another function less a constant
pub row_weigh-line : (k : ℕ) (row : List Entry) (n c : ℚ) (g a : ℕ → ℚ) → IsRow k row → row_weigh (λ v. n *ℚ g v +ℚ (a v -ℚ c)) row ≡ n *ℚ row_weigh g row +ℚ (row_weigh a row -ℚ c)
row_weigh-line k row n c g a known =
    weigh-add (λ (y : Entry). y.target) (λ (y : Entry). y.prob) (λ v. n *ℚ g v) (λ v. a v -ℚ c) row
    ∙ ap (λ (w : ℚ). w +ℚ row_weigh (λ v. a v -ℚ c) row) (row_weigh-scale row n g)
    ∙ ap (λ (w : ℚ). n *ℚ row_weigh g row +ℚ w)
    (weigh-sub (λ (y : Entry). y.target) (λ (y : Entry). y.prob) a (λ v. c) row ∙ ap (λ (w : ℚ). row_weigh a row -ℚ w) (row_weigh-const k row c known))
