-- A query has one end at most: marks, ranks and choices of its passes are determined, and so are its path and the verdict.
use Rattle.std.proofs.Common.{◌≡◌, ℕ, Bool, false, List, Option, Result, Ok, Err, sym, ◌∙◌, ap, subst}
use Rattle.mdp_math.specs.Rational.{ℚ}
use Rattle.mdp_math.proofs.Booleans.{same_truth}
use Rattle.mdp_spec.specs.{Mdp.{Mdp, states_of}, Tree.{is_marked}}
use Rattle.mdp_rows.specs.{declared.dir.Dir.{Dir}, declared.dir.Dir.TheVariants.{Max, Min}}
use Rattle.mdp_graph.specs.{Choices.{AreLeast}, Reach.{may_step, row_step, falls}, Meet.{must_step}, Sure.{inside_step, IsGreatestSure, stays_and_falls}}
use Rattle.mdp_graph.specs.Avoid.{IsGreatestAvoiding, keeps}
use Rattle.mdp_policy_iteration.specs.{Path.{Found, Refusal, path_step}, Laws.{first}, Iteration.{EndsWith}}
use Rattle.mdp_wide.specs.Term.{WideTerm}
use Rattle.mdp_policy_iteration.proofs.Iterations.{one_end}
use Rattle.mdp_farkas.specs.{Verdict.{verdict_of}, Reward.{reward_checks}}
use Rattle.mdp_claims.specs.{declared.verdict.Verdict.{Verdict}, declared.verdict.Verdict.TheVariants.{Yes, No, Wide}}
use Rattle.mdp_reward.specs.Problem.{reward_problem}
use Rattle.mdp_reward.specs.Query.{Answer, split, unmarked, MaxPasses, IsMaxStart, IsMinStart, IsStart, policy_rows, rewards_of, AreRanks, Held, AfterPath, EndsSo}
use Rattle.mdp_graph.proofs.OnePass.{same_list, one_reached, one_ranks, both_ranks, one_choices}
use Rattle.mdp_reward.proofs.Rounds.{one_rounds}

-- ---- the start

-- what a start is made of
pub record IsSame (finite others : List Bool) (start policy known ranks : List ℕ) : Type 0 where
  pub finite_same : others ≡ finite
  pub start_same : policy ≡ start
  pub known_same : ranks ≡ known

module _ (m : Mdp) (goals : List Bool) where
  one_avoiding : (xs ys : List Bool) → IsGreatestAvoiding m goals xs → IsGreatestAvoiding m goals ys → ys ≡ xs
  one_avoiding xs ys a b =
      same_list (states_of m) ys xs false b.count a.count
      (λ s l. same_truth (is_marked ys s) (is_marked xs s) (λ e. a.greatest (is_marked ys) b.avoiding s l e) (λ e. b.greatest (is_marked xs) a.avoiding s l e))

  max_from : (avoiding infinite : List Bool) (keep far go near policy ways others closest : List ℕ) → MaxPasses m goals avoiding infinite keep far go near
      → MaxPasses m goals avoiding infinite policy ways others closest → (policy ≡ keep) × (ways ≡ far) × (others ≡ go) × (closest ≡ near)
  max_from avoiding infinite keep far go near policy ways others closest a b =
      let w : ways ≡ far = one_ranks (may_step m goals) (is_marked avoiding) (states_of m) infinite ways far b.far_ranks a.far_ranks in (
        one_choices m goals avoiding (keeps m avoiding) policy keep b.keeps a.keeps,
        w,
        one_choices m avoiding infinite (falls m infinite far) others go (subst (λ (ranks : List ℕ). AreLeast m avoiding infinite (falls m infinite ranks) others) w b.goes) a.goes,
        both_ranks (must_step m) (is_marked goals) (states_of m) b.met a.met closest near b.meets b.near_ranks a.meets a.near_ranks,
      )

  max_infinite : (avoiding infinite others : List Bool) (keep far go near policy ways choices closest : List ℕ) → MaxPasses m goals avoiding infinite keep far go near
      → MaxPasses m goals avoiding others policy ways choices closest → others ≡ infinite
  max_infinite avoiding infinite others keep far go near policy ways choices closest a b =
      one_reached (may_step m goals) (is_marked avoiding) (states_of m) others infinite b.comes a.comes

  max_same : (finite others : List Bool) (start policy known ranks : List ℕ) → IsMaxStart m goals finite start known → IsMaxStart m goals others policy ranks
      → IsSame finite others start policy known ranks
  max_same finite others start policy known ranks a b =
      let avoiding : b.avoiding ≡ a.avoiding = one_avoiding a.avoiding b.avoiding a.passes.avoids b.passes.avoids in
      let p : MaxPasses m goals a.avoiding b.infinite b.keep b.far b.go b.near = subst (λ (xs : List Bool). MaxPasses m goals xs b.infinite b.keep b.far b.go b.near) avoiding b.passes in
      let infinite : b.infinite ≡ a.infinite = max_infinite a.avoiding a.infinite b.infinite a.keep a.far a.go a.near b.keep b.far b.go b.near a.passes p in
      let e = max_from a.avoiding a.infinite a.keep a.far a.go a.near b.keep b.far b.go b.near a.passes
      (subst (λ (xs : List Bool). MaxPasses m goals a.avoiding xs b.keep b.far b.go b.near) infinite p) in
      let finite_same : others ≡ finite = b.finite_is ∙ ap (unmarked m) infinite ∙ sym a.finite_is in
      record {
        finite_same = finite_same;
        start_same = b.start_is ∙ ap (λ (xs : List Bool). split m xs b.keep b.go) avoiding ∙ ap (λ (xs : List ℕ). split m a.avoiding xs b.go) e.0
            ∙ ap (λ (xs : List ℕ). split m a.avoiding a.keep xs) e.2 ∙ sym a.start_is;
        known_same = b.known_is ∙ ap (λ (xs : List Bool). split m xs b.near b.far) finite_same ∙ ap (λ (xs : List ℕ). split m finite xs b.far) e.3
            ∙ ap (λ (xs : List ℕ). split m finite a.near xs) e.1 ∙ sym a.known_is;
      }

  one_sure : (xs ys : List Bool) → IsGreatestSure m goals xs → IsGreatestSure m goals ys → ys ≡ xs
  one_sure xs ys a b =
      same_list (states_of m) ys xs false b.count a.count
      (λ s l. same_truth (is_marked ys s) (is_marked xs s) (λ e. a.greatest (is_marked ys) b.sure s l e) (λ e. b.greatest (is_marked xs) a.sure s l e))

  min_choices : (finite : List Bool) (start policy known ranks : List ℕ) → IsMinStart m goals finite start known → IsMinStart m goals finite policy ranks → policy ≡ start
  min_choices finite start policy known ranks a b =
      let near : b.near ≡ a.near = one_ranks (inside_step m (is_marked finite)) (is_marked goals) (states_of m) finite b.near a.near b.near_ranks a.near_ranks in
      one_choices m goals finite (stays_and_falls m finite a.near) policy start (subst (λ (ranks : List ℕ). AreLeast m goals finite (stays_and_falls m finite ranks) policy) near b.choices) a.choices

  min_same : (finite others : List Bool) (start policy known ranks : List ℕ) → IsMinStart m goals finite start known → IsMinStart m goals others policy ranks
      → IsSame finite others start policy known ranks
  min_same finite others start policy known ranks a b =
      let finite_same : others ≡ finite = one_sure finite others a.sure b.sure in
      record {
        finite_same = finite_same;
        start_same = min_choices finite start policy known ranks a (subst (λ (xs : List Bool). IsMinStart m goals xs policy ranks) finite_same b);
        known_same = one_rounds m goals ranks known b.rounds a.rounds;
      }

  one_start : (dir : Dir) (finite others : List Bool) (start policy known ranks : List ℕ) → IsStart dir m goals finite start known → IsStart dir m goals others policy ranks
      → IsSame finite others start policy known ranks
  one_start Max = max_same
  one_start Min = min_same

-- ---- the end

one_are_ranks : (dir : Dir) (m : Mdp) (goals finite : List Bool) (known policy xs ys : List ℕ) → AreRanks dir m goals finite known policy xs → AreRanks dir m goals finite known policy ys → xs ≡ ys
one_are_ranks Max m goals finite known policy xs ys a b = a ∙ sym b
one_are_ranks Min m goals finite known policy xs ys a b =
    a.ranks_are
    ∙ ap (λ (along : List ℕ). split m finite along known)
    (both_ranks (row_step (policy_rows m policy)) (is_marked goals) (states_of m) a.marks b.marks a.along b.along a.reached a.least b.reached b.least)
    ∙ sym b.ranks_are

one_held : (f : Found) (values : List (Option ℚ)) (ranks : List ℕ) (v : Verdict) (p q : Result Answer WideTerm) → Held f values ranks v p → Held f values ranks v q → q ≡ p
one_held f values ranks Yes p q a b = b ∙ sym a
one_held f values ranks (No fault) p q a b = absurd a
one_held f values ranks (Wide state choice) p q a b = b ∙ sym a

module _ (dir : Dir) (m : Mdp) (r : ℕ) (goals : List Bool) (p q : Result Answer WideTerm) where
  one_after : (finite : List Bool) (known : List ℕ) (e : Result Found Refusal) → AfterPath dir m r goals finite known e p → AfterPath dir m r goals finite known e q → q ≡ p
  one_after finite known (Err w) a b = b ∙ sym a
  one_after finite known (Ok f) a b =
      let same : b.0 ≡ a.0 = one_are_ranks dir m goals finite known f.policy b.0 a.0 b.1 a.1 in
      one_held f (rewards_of m finite f.values) a.0 (verdict_of (reward_checks dir m r goals (rewards_of m finite f.values) f.policy a.0)) p q a.2
      (subst (λ (ranks : List ℕ). Held f (rewards_of m finite f.values) ranks (verdict_of (reward_checks dir m r goals (rewards_of m finite f.values) f.policy ranks)) q) same b.2)

  one_path : (finite : List Bool) (start known : List ℕ) (e f : Result Found Refusal) → EndsWith (path_step (reward_problem dir m r goals finite)) (first start) e
      → EndsWith (path_step (reward_problem dir m r goals finite)) (first start) f → AfterPath dir m r goals finite known e p → AfterPath dir m r goals finite known f q → q ≡ p
  one_path finite start known e f h k a b =
      let same : f ≡ e = one_end (path_step (reward_problem dir m r goals finite)) (first start) f e k h in
      one_after finite known e a (subst (λ (e : Result Found Refusal). AfterPath dir m r goals finite known e q) same b)

  pub one_query_end : EndsSo dir m r goals p → EndsSo dir m r goals q → q ≡ p
  one_query_end a b =
      let same = one_start m goals dir a.finite b.finite a.start b.start a.known b.known a.is_start b.is_start in
      let path : EndsWith (path_step (reward_problem dir m r goals a.finite)) (first b.start) b.end =
      subst (λ (finite : List Bool). EndsWith (path_step (reward_problem dir m r goals finite)) (first b.start) b.end) same.finite_same b.path in
      let after : AfterPath dir m r goals a.finite b.known b.end q = subst (λ (finite : List Bool). AfterPath dir m r goals finite b.known b.end q) same.finite_same b.after in
      one_path a.finite a.start a.known a.end b.end a.path
      (subst (λ (start : List ℕ). EndsWith (path_step (reward_problem dir m r goals a.finite)) (first start) b.end) same.start_same path) a.after
      (subst (λ (known : List ℕ). AfterPath dir m r goals a.finite known b.end q) same.known_same after)
