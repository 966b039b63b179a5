-- Bounds of probabilities exist that are as near as any digits say, unless the exact query is too wide: its answer, or where it is too wide 0 and 1.
use Rattle.std.proofs.Common.{◌≡◌, ◌⊎◌, inl, inr, ℕ, Bool, true, false, List, length, map, replicate, Result, Ok, Err, refl, sym, subst, ◌∙◌, if◌then◌else◌, lit<}
use Rattle.std.proofs.lemmas.{List.{length-replicate}, List.Elements.{All-map, All-from_get_or, All-replicate}, List.FromFn.{length-map-range_with_len}}
use Rattle.std.specs.{List.{All, range_with_len}}
use Rattle.mdp_math.specs.Rational.{ℚ}
use Rattle.mdp_num.specs.Value.{IsNarrow}
use Rattle.mdp_spec.specs.{Mdp.{Mdp, states_of}, Tree.{is_marked}}
use Rattle.mdp_spec.specs.Tree as tree
use Rattle.mdp_rows.specs.{Limits.{IsModel}, declared.dir.Dir.{Dir}, declared.dir.Dir.TheVariants.{Max, Min}}
use Rattle.mdp_wide.specs.Term.{WideTerm}
use Rattle.mdp_farkas.specs.{Compare.{0ℚ, 1ℚ}, Verdict.{verdict_of}, Reach.{reach_checks, IsReach}}
use Rattle.mdp_claims.specs.{declared.verdict.Verdict.{Verdict}, declared.verdict.Verdict.TheVariants.{Yes, No, Wide}}
use Rattle.mdp_graph.specs.{Laws.{RestMeets}, Meet.{must_step}}
use Rattle.mdp_graph.proofs.Rising.{must_rises}
use Rattle.mdp_policy_iteration.specs.{Iteration.{EndsWith}, Laws.{EndsAtBest, first}, Path.{Found, Refusal, path_step}}
use Rattle.mdp_reach.specs.{Laws.{HasAnEnd, AnswersMeetRules}, Problem.{reach_problem}}
use Rattle.mdp_reach.specs.Query.{Answer, HasOneEach, ending, AreRanks, Held, AfterPath, EndsSo}
use Rattle.mdp_reach.proofs.{Answering.{ranks-count}, Kept.{found-policy}, Nodes.{reach-count}, Starts.{start-solvable, start-choices}}
use Rattle.mdp_bounds.specs.Reach.{IsReachBounds}
use Rattle.mdp_bounds.proofs.{Exact.{bounds_of_exact}, ReachRules.{bounds_rules}, Trivial.{trivial_yes}}
use Rattle.mdp_search_bounds.specs.{Near.{AreNear}, Wide.{IsReachWide}}
use Rattle.mdp_search_bounds.proofs.{Nearness.{near_each}, Outermost.{trivial_of}}
use Rattle.mdp_command_bounds_search.proofs.{ExactWidth.{reach_narrow}, FewSteps.{few_ranks}, Narrow.{whole_narrow}, ShortLists.{AreShort, zeros_short, policy_short, ranks_short, few_along}}

pub record SomeReach (digits : ℕ) (dir : Dir) (m : Mdp) (goals : List Bool) : Type 0 where
  pub lower : List ℚ
  pub upper : List ℚ
  pub choices : List ℕ
  pub ranks : List ℕ
  pub rules : IsReachBounds dir m goals lower upper choices ranks
  pub lower_each : length lower ≡ states_of m
  pub upper_each : length upper ≡ states_of m
  pub choices_each : length choices ≡ states_of m
  pub ranks_each : length ranks ≡ states_of m
  pub width : All IsNarrow lower × All IsNarrow upper × AreShort choices × AreShort ranks
  pub near : AreNear digits m lower upper ⊎ IsReachWide dir m goals

module _ (m : Mdp) (model : IsModel m) (goals : List Bool) where
  -- ---- ranks of what is found

  few : (dir : Dir) (z : List ℚ) (policy ranks : List ℕ) → tree.IsPolicy m policy → AreRanks dir m goals z policy ranks → AreShort ranks
  few Max z policy ranks is are = ranks_short m ranks model.mdp (few_along m model.mdp policy is goals are.marks ranks are.least)
  few Min z policy ranks is are =
      ranks_short m ranks model.mdp (few_ranks (must_step m) (is_marked (ending m goals z)) (states_of m) (must_rises m model.mdp) are.marks ranks are.least)

  -- ---- an answer

  record Shaped (a : Answer) : Type 0 where
    each : HasOneEach m a
    ranks : AreShort a.ranks

  held_answer : (f : Found) (ranks : List ℕ) (a : Answer) (v : Verdict) → Held f ranks v (Ok a) → (let b : Answer = record { values = f.values; choices = f.policy; ranks = ranks } in b) ≡ a
  held_answer f ranks a Yes h = cc
  held_answer f ranks a (No fault) h = absurd h
  held_answer f ranks a (Wide state choice) h = cc

  module _ (best : EndsAtBest) (meets : RestMeets) (dir : Dir) (a : Answer) (end : EndsSo dir m goals (Ok a)) where
    shape_by : (e : Result Found Refusal) → EndsWith (path_step (reach_problem dir m goals end.marks)) (first end.start) e → AfterPath dir m goals e (Ok a) → Shaped a
    shape_by (Err w) p h = cc
    shape_by (Ok f) p h =
        let b = best (reach_problem dir m goals end.marks) end.start f (start-solvable dir m goals end.marks end.start model.mdp meets end.is_start) p in
        let is = found-policy dir m goals end.marks end.start f.policy f.values (start-choices dir m goals end.marks end.start end.is_start) b in
        let count = reach-count dir m goals end.marks in
        subst Shaped (held_answer f h.0 a (verdict_of (reach_checks dir m goals f.values f.policy h.0)) h.2) (record {
          each = record { values = b.best.values.len ∙ count; choices = is.one_each; ranks = ranks-count dir m goals f.values f.policy h.0 h.1 };
          ranks = few dir f.values f.policy h.0 is h.1;
        })

    shape : Shaped a
    shape = shape_by end.end end.path end.after

  policy_of : (dir : Dir) (z : List ℚ) (policy ranks : List ℕ) → IsReach dir m goals z policy ranks → tree.IsPolicy m policy
  policy_of Max z policy ranks is = is.rules.choices
  policy_of Min z policy ranks is = is.rules.choices

  exact_bounds : (digits : ℕ) (dir : Dir) (a : Answer) → IsReach dir m goals a.values a.choices a.ranks → Shaped a → SomeReach digits dir m goals
  exact_bounds digits dir a is shape =
      let narrow = reach_narrow dir m goals a.values a.choices a.ranks is shape.each.values in
      record {
        lower = a.values;
        upper = a.values;
        choices = a.choices;
        ranks = a.ranks;
        rules = bounds_of_exact dir m goals a.values a.values a.choices a.ranks refl is;
        lower_each = shape.each.values;
        upper_each = shape.each.values;
        choices_each = shape.each.choices;
        ranks_each = shape.each.ranks;
        width = (narrow, narrow, policy_short m a.choices model (policy_of dir a.values a.choices a.ranks is), shape.ranks);
        near = inl (near_each digits m a.values a.values refl);
      }

  -- ---- 0 and 1

  abbrev least_at : ℕ → ℚ
  least_at s = if is_marked goals s then 1ℚ else 0ℚ

  least_narrow : (b : Bool) → IsNarrow (if b then 1ℚ else 0ℚ)
  least_narrow true = whole_narrow 1 (lit< tt)
  least_narrow false = whole_narrow 0 (lit< tt)

  trivial_bounds : (digits : ℕ) (dir : Dir) → IsReachWide dir m goals → SomeReach digits dir m goals
  trivial_bounds digits dir wide =
      let n : ℕ = states_of m in
      let lower : List ℚ = map least_at (range_with_len 0 (states_of m)) in
      let zeros : List ℕ = replicate (states_of m) 0 in
      let ones : List ℚ = replicate (states_of m) 1ℚ in
      let t = trivial_of m model.mdp goals lower ones zeros zeros refl refl refl refl in
      let each = length-replicate (states_of m) 0 in
      record {
        lower = lower;
        upper = ones;
        choices = zeros;
        ranks = zeros;
        rules = (bounds_rules m model.mdp goals lower ones zeros zeros dir Yes each (sym (trivial_yes m goals lower ones zeros zeros t dir))).0 refl;
        lower_each = length-map-range_with_len least_at 0 n;
        upper_each = length-replicate (states_of m) 1ℚ;
        choices_each = each;
        ranks_each = each;
        width = (
          All-map IsNarrow least_at (range_with_len 0 (states_of m)) (All-from_get_or (λ s. IsNarrow (least_at s)) (range_with_len 0 (states_of m)) 0 (λ s l. least_narrow (is_marked goals _))),
          All-replicate IsNarrow (states_of m) 1ℚ (least_narrow true),
          zeros_short n,
          zeros_short n,
        );
        near = inr wide;
      }

  module _ (ends : HasAnEnd) (rules : AnswersMeetRules) (best : EndsAtBest) (meets : RestMeets) (digits : ℕ) (dir : Dir) where
    by_end : (r : Result Answer WideTerm) → EndsSo dir m goals r → SomeReach digits dir m goals
    by_end (Ok a) e = exact_bounds digits dir a (rules dir m goals a model.mdp e) (shape best meets dir a e)
    by_end (Err w) e = trivial_bounds digits dir (w, e)

    pub some_reach : SomeReach digits dir m goals
    some_reach = let e = ends dir m goals model.mdp in by_end e.0 e.1
