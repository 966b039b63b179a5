-- A query has one end at most: marks, ranks and choices of its passes are determined, and so are its path and the verdict.
use Rattle.std.proofs.Common.{◌≡◌, ℕ, Bool, false, List, Result, Ok, Err, sym, ap, ◌∙◌, subst}
use Rattle.mdp_math.proofs.Booleans.{same_truth}
use Rattle.mdp_spec.specs.{Mdp.{Mdp, states_of}, Tree.{is_marked}}
use Rattle.mdp_rows.specs.{declared.dir.Dir.{Dir}, declared.dir.Dir.TheVariants.{Max, Min}}
use Rattle.mdp_graph.specs.{Sets.{marked}, Choices.{AreLeast}, Reach.{may_step, row_step, falls}, Meet.{must_step}, Avoid.{keeps}}
use Rattle.mdp_graph.proofs.OnePass.{same_list, one_reached, one_ranks, both_ranks, one_choices}
use Rattle.mdp_policy_iteration.specs.{Path.{Found, Refusal, path_step}, Laws.{first}, Iteration.{EndsWith}}
use Rattle.mdp_wide.specs.Term.{WideTerm}
use Rattle.mdp_policy_iteration.proofs.Iterations.{one_end}
use Rattle.mdp_farkas.specs.{Verdict.{verdict_of}, Reach.{reach_checks}}
use Rattle.mdp_claims.specs.{declared.verdict.Verdict.{Verdict}, declared.verdict.Verdict.TheVariants.{Yes, No, Wide}}
use Rattle.mdp_reach.specs.Problem.{reach_problem}
use Rattle.mdp_reach.specs.Query.{Answer, none_blocked, policy_rows, ending, IsMaxStart, IsMinStart, IsStart, AreRanks, Held, AfterPath, EndsSo}
use Rattle.mdp_reach.specs.Round.{last_round, EndsWithRound}

-- ---- the start

module _ (m : Mdp) (goals : List Bool) where
  max_marks : (marks others : List Bool) (xs ys : List ℕ) → IsMaxStart m goals marks xs → IsMaxStart m goals others ys → marks ≡ others
  max_marks marks others xs ys a b = one_reached (may_step m (none_blocked m)) (is_marked goals) (states_of m) marks others a.reached b.reached

  max_starts : (marks : List Bool) (xs ys : List ℕ) → IsMaxStart m goals marks xs → IsMaxStart m goals marks ys → xs ≡ ys
  max_starts marks xs ys a b =
      let r = one_ranks (may_step m (none_blocked m)) (is_marked goals) (states_of m) marks b.ranks a.ranks b.least a.least in
      one_choices m goals marks (falls m marks a.ranks) xs ys a.choices (subst (λ (ranks : List ℕ). AreLeast m goals marks (falls m marks ranks) ys) r b.choices)

  min_marks : (marks others : List Bool) (xs ys : List ℕ) → IsMinStart m goals marks xs → IsMinStart m goals others ys → marks ≡ others
  min_marks marks others xs ys a b =
      same_list (states_of m) marks others false a.avoids.count b.avoids.count
      (λ s l. same_truth (marked marks s) (marked others s) (λ e. b.avoids.greatest (marked marks) a.avoids.avoiding s l e) (λ e. a.avoids.greatest (marked others) b.avoids.avoiding s l e))

  min_starts : (marks : List Bool) (xs ys : List ℕ) → IsMinStart m goals marks xs → IsMinStart m goals marks ys → xs ≡ ys
  min_starts marks xs ys a b = one_choices m goals marks (keeps m marks) xs ys a.choices b.choices

  one_marks : (dir : Dir) (marks others : List Bool) (xs ys : List ℕ) → IsStart dir m goals marks xs → IsStart dir m goals others ys → marks ≡ others
  one_marks Max = max_marks
  one_marks Min = min_marks

  one_start : (dir : Dir) (marks : List Bool) (xs ys : List ℕ) → IsStart dir m goals marks xs → IsStart dir m goals marks ys → xs ≡ ys
  one_start Max = max_starts
  one_start Min = min_starts

-- ---- the end

one_are_ranks : (dir : Dir) (m : Mdp) (goals : List Bool) (f : Found) (xs ys : List ℕ) → AreRanks dir m goals f.values f.policy xs → AreRanks dir m goals f.values f.policy ys → xs ≡ ys
one_are_ranks Max m goals f xs ys a b =
    both_ranks (row_step (policy_rows m f.policy)) (is_marked goals) (states_of m) a.marks b.marks xs ys a.reached a.least b.reached b.least
one_are_ranks Min m goals f xs ys a b = both_ranks (must_step m) (is_marked (ending m goals f.values)) (states_of m) a.marks b.marks xs ys a.reached a.least b.reached b.least

one_held : (f : Found) (ranks : List ℕ) (v : Verdict) (r q : Result Answer WideTerm) → Held f ranks v r → Held f ranks v q → q ≡ r
one_held f ranks Yes r q a b = b ∙ sym a
one_held f ranks (No fault) r q a b = absurd a
one_held f ranks (Wide state choice) r q a b = b ∙ sym a

one_after : (dir : Dir) (m : Mdp) (goals : List Bool) (e : Result Found Refusal) (r q : Result Answer WideTerm) → AfterPath dir m goals e r → AfterPath dir m goals e q → q ≡ r
one_after dir m goals (Err w) r q a b = b ∙ sym a
one_after dir m goals (Ok f) r q a b =
    let same : b.0 ≡ a.0 = one_are_ranks dir m goals f b.0 a.0 b.1 a.1 in
    one_held f a.0 (verdict_of (reach_checks dir m goals f.values f.policy a.0)) r q a.2
    (subst (λ (ranks : List ℕ). Held f ranks (verdict_of (reach_checks dir m goals f.values f.policy ranks)) q) same b.2)

module _ (dir : Dir) (m : Mdp) (goals : List Bool) (r q : Result Answer WideTerm) where
  one_path_end : (a : EndsSo dir m goals r) (b : EndsSo dir m goals q) → b.end ≡ a.end
  one_path_end a b =
      let marks : b.marks ≡ a.marks = one_marks m goals dir b.marks a.marks b.start a.start b.is_start a.is_start in
      let is_start : IsStart dir m goals a.marks b.start = subst (λ (marks : List Bool). IsStart dir m goals marks b.start) marks b.is_start in
      let start : b.start ≡ a.start = one_start m goals dir a.marks b.start a.start is_start a.is_start in
      let path : EndsWith (path_step (reach_problem dir m goals a.marks)) (first b.start) b.end =
      subst (λ (marks : List Bool). EndsWith (path_step (reach_problem dir m goals marks)) (first b.start) b.end) marks b.path in
      one_end (path_step (reach_problem dir m goals a.marks)) (first a.start) b.end a.end
      (subst (λ (start : List ℕ). EndsWith (path_step (reach_problem dir m goals a.marks)) (first start) b.end) start path) a.path

  pub one_query_end : EndsSo dir m goals r → EndsSo dir m goals q → q ≡ r
  one_query_end a b = one_after dir m goals a.end r q a.after (subst (λ (e : Result Found Refusal). AfterPath dir m goals e q) (one_path_end a b) b.after)

  pub one_round_end : (n k : ℕ) → EndsWithRound dir m goals n r → EndsWithRound dir m goals k q → (k ≡ n) × (q ≡ r)
  one_round_end n k a b = (sym b.round ∙ ap last_round (one_path_end a.ends b.ends) ∙ a.round, one_query_end a.ends b.ends)
