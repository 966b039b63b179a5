-- Ranks that fall give a weight: where each choice that meets a rule has, from each active state, an entry at a state of smaller rank.
use Rattle.std.proofs.Common.{◌≡◌, ℕ, suc, ◌<◌, ◌⊎◌, inr, Bool, true, false, List, length, subst, arith}
use Rattle.std.specs.List.{All, Any}
use Rattle.mdp_math.specs.{Rational.{ℚ, ◌≤ℚ◌}, Sum.{sum_of}}
use Rattle.mdp_math.proofs.{Order.{0ℚ, 1ℚ, ≤ℚ_trans, ≤ℚ_of_eq}, Floors.{ForSmall, small_for_below, positive_floor, greatest_rank}, Kernel.{Any-and}}
use Rattle.mdp_math.proofs.Weight.{shrinks_by_ranks}
use Rattle.mdp_spec.specs.{Mdp.{Entry, Mdp, states_of, choices_at, row_at}, Row.{IsMdp}}
use Rattle.mdp_spec.proofs.{Rows.{probs_nonneg}, Close.{Allowed, RowsShrink}}

abbrev AllAtLeast : Mdp → ℕ → ℕ → ℚ → Type 0
AllAtLeast m s c e = All (λ y. e ≤ℚ y.prob) (row_at m s c)

-- a positive number that is at most each probability of the model
pub smallest_prob : (m : Mdp) → IsMdp m → ForSmall (λ e. (s : ℕ) → s < states_of m → (c : ℕ) → c < length (choices_at m s) → All (λ y. e ≤ℚ y.prob) (row_at m s c))
smallest_prob m known =
    small_for_below (λ s e. (c : ℕ) → c < length (choices_at m s) → AllAtLeast m s c e) (λ s d e l h c i k x j. ≤ℚ_trans d e _ l (h c i k x j)) (states_of m)
    (λ s h. small_for_below (λ c e. AllAtLeast m s c e) (λ c d e l p k x j. ≤ℚ_trans d e _ l (p k x j)) (length (choices_at m s))
    (λ c i. positive_floor (λ (y : Entry). y.prob) (row_at m s c) (IsMdp.row known s c h i).distribution.positive))

pub shrinks_of_ranks : (m : Mdp) (active : ℕ → Bool) (P : ℕ → ℕ → Type 0) (rank : ℕ → ℕ) → IsMdp m → ((s : ℕ) → active s ≡ true → s < states_of m)
    → ((s c : ℕ) → active s ≡ true → P s c → c < length (choices_at m s) → Any (λ y. rank y.target < rank s) (row_at m s c)) → RowsShrink m active P
shrinks_of_ranks m active P rank known inside falls =
    let small = smallest_prob m known in
    let most = greatest_rank (λ s. suc (rank s)) (states_of m) in
    shrinks_by_ranks {index = λ (y : Entry). y.target} {entry = λ (y : Entry). y.prob} {active = active} {Allowed = Allowed m P} {eps = small.0} {rank = λ s. suc (rank s)} {most = most.0}
    (record {
      eps_positive = small.1;
      eps_at_most_one = small.2;
      rank_positive = λ s a. omega arith;
      rank_at_most = λ s a. most.1 s (inside s a);
      entries = λ s row a ok. subst (λ (r : List Entry). All (λ y. 0ℚ ≤ℚ y.prob) r) ok.3 (probs_nonneg (states_of m) (row_at m s ok.0) (IsMdp.row known s ok.0 (inside s a) ok.2));
      mass = λ s row a ok. subst (λ (r : List Entry). sum_of (λ (y : Entry). y.prob) r ≤ℚ 1ℚ) ok.3 (≤ℚ_of_eq _ _ (IsMdp.row known s ok.0 (inside s a) ok.2).distribution.total);
      falls = λ s row a ok.
          let both = Any-and (λ (y : Entry). small.0 ≤ℚ y.prob) (λ (y : Entry). rank y.target < rank s) (row_at m s ok.0) (small.3 s (inside s a) ok.0 ok.2) (falls s ok.0 a ok.1 ok.2) in
          subst (λ (r : List Entry). Any (λ y. (small.0 ≤ℚ y.prob) × ((active y.target ≡ false) ⊎ (suc (rank y.target) < suc (rank s)))) r) ok.3
          (both.0, both.1, both.2, both.3, (both.4.0, inr (omega (arith, both.4.1))));
    })
