-- Bounds of mean payoffs exist that are as near as any digits say, unless the exact query is too wide: its answer, or where it is too wide two numbers
-- that no reward of a model passes.
use Rattle.std.proofs.Common.{◌≡◌, ◌⊎◌, inl, inr, ℕ, ◌<◌, List, length, replicate, slice_index, Result, Ok, Err, refl, sym, ap, subst, ◌∙◌, lit<}
use Rattle.std.proofs.lemmas.{List.{length-replicate, get_or-replicate}, List.Elements.{All-replicate}, List.FromFn.{length-map-range_with_len}}
use Rattle.std.specs.List.{All}
use Rattle.mdp_math.specs.Rational.{ℚ, neg_ℚ}
use Rattle.mdp_num.specs.Value.{IsNarrow}
use Rattle.mdp_spec.specs.{Mdp.{Mdp, states_of, choices_at, value_at}}
use Rattle.mdp_rows.specs.{declared.dir.Dir.{Dir}}
use Rattle.mdp_wide.specs.Term.{WideTerm}
use Rattle.mdp_farkas.specs.{Compare.{0ℚ}, Mean.{IsMean}}
use Rattle.mdp_mean.specs.{Laws.{HasReward, HasAnEnd, AnswersAreJoined, AnswersMeetRules, IsAcceptedJoin}, Query.{Answer, EndsSo}, Terms.{Joining}}
use Rattle.mdp_bounds.specs.Mean.{IsMeanBounds, IsTrivialMean}
use Rattle.mdp_bounds.proofs.MeanExact.{mean_of_exact}
use Rattle.mdp_search_bounds.specs.{Near.{AreNear}, Wide.{IsMeanWide}}
use Rattle.mdp_search_bounds.proofs.{Accepted.{mean-accepted}, Nearness.{near_each}, Sizes.{spread_each, policy_each}}
use Rattle.mdp_command_bounds_search.proofs.ExactWidth.{earned_small, gains_narrow, bounds_narrow, biases_narrow, spread_narrow}
use Rattle.mdp_command_bounds_search.proofs.{Narrow.{whole_narrow, most, most_narrow, least_narrow, small_le_most, least_le_small}, ShortLists.{AreShort, zeros_short, policy_short}}

pub record SomeMean (digits : ℕ) (dir : Dir) (m : Mdp) (r : ℕ) : Type 0 where
  pub lower : List ℚ
  pub upper : List ℚ
  pub bound : List ℚ
  pub bias : List ℚ
  pub spread : ℚ
  pub choices : List ℕ
  pub rules : IsMeanBounds dir m r lower upper bound bias spread choices
  pub lower_each : length lower ≡ states_of m
  pub upper_each : length upper ≡ states_of m
  pub bound_each : length bound ≡ states_of m
  pub bias_each : length bias ≡ states_of m
  pub choices_each : length choices ≡ states_of m
  pub width : All IsNarrow lower × All IsNarrow upper × All IsNarrow bound × All IsNarrow bias × AreShort choices × IsNarrow spread
  pub near : AreNear digits m lower upper ⊎ IsMeanWide dir m r

module _ (digits : ℕ) (dir : Dir) (m : Mdp) (r : ℕ) (has : HasReward m r) where
  -- ---- an answer

  gains_each : (a : Answer) → IsAcceptedJoin dir m r a → length a.gains ≡ states_of m
  gains_each a accepted =
      let own = accepted.joining in
      ap (λ (a : Answer). length a.gains) accepted.is
      ∙ ap (λ (j : Joining). length j.gains) own.is
      ∙ length-map-range_with_len (λ s. value_at own.exits.values (slice_index own.quotient.nodes s)) 0 (states_of m)

  exact_bounds : (a : Answer) → IsMean dir m r a.gains a.bound a.bias a.spread a.choices → length a.gains ≡ states_of m → SomeMean digits dir m r
  exact_bounds a is count =
      let each = spread_each m r a.gains a.bound a.bias a.spread a.choices dir is.rules in
      let policy = policy_each m r a.gains a.bound a.bias a.spread a.choices dir is.rules in
      let narrow = gains_narrow dir m has.model r a.gains a.bound a.bias a.spread a.choices is count in
      record {
        lower = a.gains;
        upper = a.gains;
        bound = a.bound;
        bias = a.bias;
        spread = a.spread;
        choices = a.choices;
        rules = mean_of_exact dir m r a.gains a.gains a.bound a.bias a.spread a.choices refl is;
        lower_each = count;
        upper_each = count;
        bound_each = each.bounds;
        bias_each = each.biases;
        choices_each = policy.one_each;
        width = (
          narrow,
          narrow,
          bounds_narrow dir m has.model r a.gains a.bound a.bias a.spread a.choices is each.bounds,
          biases_narrow dir m has.model r a.gains a.bound a.bias a.spread a.choices is each.biases,
          policy_short m a.choices has.model policy,
          spread_narrow dir m has.model r a.gains a.bound a.bias a.spread a.choices is,
        );
        near = inl (near_each digits m a.gains a.gains refl);
      }

  -- ---- two numbers that no reward passes

  abbrev each_state : ℚ → List ℚ
  each_state x = replicate (states_of m) x

  abbrev zeros : List ℕ
  zeros = replicate (states_of m) 0

  value_same : (x : ℚ) (s : ℕ) → s < states_of m → value_at (each_state x) s ≡ x
  value_same x s l = get_or-replicate (states_of m) s x 0ℚ l

  trivial : IsTrivialMean m r (each_state (neg_ℚ most)) (each_state most) (each_state 0ℚ) (each_state 0ℚ) 0ℚ zeros
  trivial = record {
    takes = record {
      one_each = length-replicate (states_of m) 0;
      in_range = λ s i. subst (λ (c : ℕ). c < length (choices_at m s)) (sym (get_or-replicate (states_of m) s 0 0 i)) (has.model.mdp.choice s i);
    };
    low = neg_ℚ most;
    high = most;
    lower_values = λ s i. value_same (neg_ℚ most) s i;
    upper_values = λ s i. value_same most s i;
    rewards = λ s c i j. (let small = earned_small m has.model s c r i j in (least_le_small _ small, small_le_most _ small));
    bounds = All-replicate (λ x. x ≡ 0ℚ) (states_of m) 0ℚ refl;
    biases = All-replicate (λ x. x ≡ 0ℚ) (states_of m) 0ℚ refl;
    no_spread = refl;
  }

  trivial_bounds : IsMeanWide dir m r → SomeMean digits dir m r
  trivial_bounds wide =
      let n : ℕ = states_of m in
      let zero_narrow : IsNarrow 0ℚ = whole_narrow 0 (lit< tt) in
      record {
        lower = each_state (neg_ℚ most);
        upper = each_state most;
        bound = each_state 0ℚ;
        bias = each_state 0ℚ;
        spread = 0ℚ;
        choices = zeros;
        rules = mean-accepted m r (each_state (neg_ℚ most)) (each_state most) (each_state 0ℚ) (each_state 0ℚ) 0ℚ zeros has.model.mdp has.named (length-replicate (states_of m) 0ℚ)
            (length-replicate (states_of m) 0ℚ) trivial dir;
        lower_each = length-replicate (states_of m) (neg_ℚ most);
        upper_each = length-replicate (states_of m) most;
        bound_each = length-replicate (states_of m) 0ℚ;
        bias_each = length-replicate (states_of m) 0ℚ;
        choices_each = length-replicate (states_of m) 0;
        width = (
          All-replicate IsNarrow (states_of m) (neg_ℚ most) least_narrow,
          All-replicate IsNarrow (states_of m) most most_narrow,
          All-replicate IsNarrow (states_of m) 0ℚ zero_narrow,
          All-replicate IsNarrow (states_of m) 0ℚ zero_narrow,
          zeros_short n,
          zero_narrow,
        );
        near = inr wide;
      }

  module _ (ends : HasAnEnd) (rules : AnswersMeetRules) (joined : AnswersAreJoined) where
    by_end : (p : Result Answer WideTerm) → EndsSo dir m r p → SomeMean digits dir m r
    by_end (Ok a) e = exact_bounds a (rules dir m r a has e) (gains_each a (joined dir m r a e))
    by_end (Err w) e = trivial_bounds (w, e)

    pub some_mean : SomeMean digits dir m r
    some_mean = let e = ends dir m r has in by_end e.0 e.1
