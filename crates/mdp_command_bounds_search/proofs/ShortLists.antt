-- Choices of a policy, and ranks of at most the number of states, are below 2^32; so are ranks along a policy.
use Rattle.std.proofs.Common.{ℕ, ◌<◌, ◌≤◌, ◌^◌, Bool, List, length, replicate, sym, subst, arith, lit<}
use Rattle.std.proofs.lemmas.{List.Elements.{All-from_get_or, All-get_or, All-replicate}, List.Sums.{get_or-le-sum_by}}
use Rattle.std.specs.List.{All}
use Rattle.mdp_spec.specs.{Mdp.{State, Mdp, Entry, no_state, states_of}, Row.{IsMdp}, Tree.{IsPolicy, is_marked}}
use Rattle.mdp_rows.specs.Limits.{max_choices, IsModel}
use Rattle.mdp_rows.proofs.Queries.Policies.{chosen_rows, row-known, row-is}
use Rattle.mdp_graph.specs.{Layers.{AreLeastRanks}, Reach.{row_step}}
use Rattle.mdp_graph.proofs.{Rising.{row_rises}, Settling.{Rises}}
use Rattle.mdp_command_bounds_search.proofs.FewSteps.{few_ranks}

abbrev pub AreShort : List ℕ → Type 0
AreShort numbers = All (λ n. n < 2 ^ 32) numbers

pub zeros_short : (n : ℕ) → AreShort (replicate n 0)
zeros_short n = All-replicate (λ k. k < 2 ^ 32) n 0 (lit< tt)

pub policy_short : (m : Mdp) (policy : List ℕ) → IsModel m → IsPolicy m policy → AreShort policy
policy_short m policy model is = All-from_get_or (λ n. n < 2 ^ 32) policy 0 (λ s l.
    let c = is.one_each in
    let inside = is.in_range s (omega (arith, l, c)) in
    let all = get_or-le-sum_by (λ (x : State). length x.choices) m.states s no_state (omega (arith, l, c)) in
    let few = model.few_choices in
    let p : max_choices < 2 ^ 32 = lit< tt in
    omega (arith, inside, all, few, p))

pub ranks_short : (m : Mdp) (ranks : List ℕ) → IsMdp m → All (λ r. r ≤ states_of m) ranks → AreShort ranks
ranks_short m ranks ok each = All-from_get_or (λ n. n < 2 ^ 32) ranks 0 (λ s l.
    let r = All-get_or (λ r. r ≤ states_of m) ranks s 0 l each in
    let few = ok.few in
    let p : 2 ^ 20 < 2 ^ 32 = lit< tt in
    omega (arith, r, few, p))

module _ (m : Mdp) (ok : IsMdp m) (policy : List ℕ) (is : IsPolicy m policy) where
  pub policy_rises : Rises (row_step (chosen_rows m policy)) (states_of m)
  policy_rises =
      row_rises (chosen_rows m policy) (states_of m)
      (λ s h. let row = row-known m policy ok is s h in subst (λ (es : List Entry). All (λ y. y.target < states_of m) es) (sym (row-is m policy s h)) row.in_range)

  -- the ranks along a policy
  pub few_along : (goals marks : List Bool) (ranks : List ℕ) → AreLeastRanks (row_step (chosen_rows m policy)) (is_marked goals) (states_of m) marks ranks → All (λ r. r ≤ states_of m) ranks
  few_along goals marks ranks are = few_ranks (row_step (chosen_rows m policy)) (is_marked goals) (states_of m) policy_rises marks ranks are
