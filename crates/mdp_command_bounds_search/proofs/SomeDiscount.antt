-- Bounds of discounted rewards exist that are as near as any digits say, unless the exact query, or a check of its answer as bounds, is too wide: its
-- answer, or else no value at all.
use Rattle.std.proofs.Common.{◌∙◌, ◌⊎◌, inl, inr, ℕ, ◌<◌, Bool, List, [], ◌∷◌, ◌++◌, map, replicate, slice_index, slice_index_or, Option, Some, None}
use Rattle.std.proofs.Common.{Result, Ok, Err, refl, sym, subst, arith, lit<}
use Rattle.std.proofs.lemmas.{Bool.{true≢false}, List.{length-replicate}, List.Elements.{All-map, All-from_get_or, All-from_recursion, recursion_from_All}, List.FromFn.{length-map-range_with_len}}
use Rattle.std.specs.{List.{All, AllByRecursion, range_with_len}, Option.{IsSome}}
use Rattle.mdp_math.specs.{Rational.{ℚ}, Written.{written_mul}}
use Rattle.mdp_math.proofs.Options.{step_told}
use Rattle.mdp_num.specs.Value.{IsNarrow}
use Rattle.mdp_spec.specs.{Bounds.{finite_part}, Mdp.{Mdp, states_of, choice_at, row_at, value_at}, Unit.{reward_of}, Written.{written_sum}}
use Rattle.mdp_rows.specs.{Limits.{IsModel}, declared.dir.Dir.{Dir}}
use Rattle.mdp_wide.specs.Term.{WideTerm}
use Rattle.mdp_farkas.specs.{Compare.{0ℚ, is_equal}, Verdict.{Check, InWidth, at_choices}}
use Rattle.mdp_farkas.proofs.Holds.{Each, each_left, each_right, each_flat_at}
use Rattle.mdp_claims.specs.declared.verdict.Verdict.TheVariants.{Yes}
use Rattle.mdp_discount_rules.specs.{Cert.{Certificate}, Checks.{written_discounted, IsDiscount}, Rules.{magnitude}}
use Rattle.mdp_discount_rules.specs.Checks as exact
use Rattle.mdp_discount_rules.proofs.DiscountRules.{written_discounted-some}
use Rattle.mdp_discount.specs.{Laws.{CanAsk, HasAnEnd, AnswersMeetRules}, Query.{EndsSo}}
use Rattle.mdp_discount_rules.specs.{BoundsCert.{IsValueNarrow}, BoundsChecks.{discount_bounds_checks, IsDiscountBounds}, BoundsRules.{greatest_magnitude}}
use Rattle.mdp_discount_rules.proofs.{BoundsRules.{bounds_rules}, Trivial.{trivial_yes}}
use Rattle.mdp_search_bounds.specs.{Near.{AreValuesNear}, Wide.{IsInWidth, IsDiscountWide}}
use Rattle.mdp_search_bounds.proofs.{DiscountExact.{exact-near, meets_between}, Nothing.{nothing_said}}
use Rattle.mdp_command_bounds_search.proofs.{Narrow.{sum_took, whole_narrow, greatest_narrow, magnitude_narrow}, ExactWidth.{some_told}, ShortLists.{AreShort, zeros_short, policy_short}}

pub record SomeDiscount (digits : ℕ) (dir : Dir) (m : Mdp) (r : ℕ) (f : ℚ) : Type 0 where
  pub lower : List (Option ℚ)
  pub upper : List (Option ℚ)
  pub remainder : ℚ
  pub choices : List ℕ
  pub rules : IsDiscountBounds dir m r f lower upper remainder choices
  pub lower_narrow : All IsValueNarrow lower
  pub upper_narrow : All IsValueNarrow upper
  pub remainder_narrow : IsNarrow remainder
  pub choices_short : AreShort choices
  pub near : AreValuesNear digits m lower upper ⊎ IsDiscountWide dir m r f

zero_narrow : IsNarrow 0ℚ
zero_narrow = whole_narrow 0 (lit< tt)

-- ---- an answer

module _ (dir : Dir) (m : Mdp) (r : ℕ) (f : ℚ) (v : List ℚ) (remainder : ℚ) (policy : List ℕ) (is : IsDiscount dir m r f v remainder policy) where
  discounted_narrow : All IsNarrow v
  discounted_narrow = All-from_get_or IsNarrow v 0ℚ (λ s l.
      let c = is.rules.one_each in
      let h : s < states_of m = omega (arith, l, c) in
      let choice : ℕ = slice_index policy s in
      let all = recursion_from_All InWidth (exact.discount_checks dir m r f v remainder policy) is.in_width in
      let states = each_left InWidth (exact.state_checks dir m r f v policy) (exact.remainder_check v remainder ∷ []) all in
      let w = each_flat_at InWidth (λ s. exact.checks_at dir m r f v s (slice_index policy s)) (states_of m) s states h in
      let reached = each_right InWidth (at_choices m s (exact.covers_check dir m r f v s)) (exact.reached_check m r f v s (slice_index policy s) ∷ []) w.1 in
      let told = some_told (is_equal (value_at v s)) (written_discounted m r f s (slice_index policy s) v) reached.0 in
      let sum = step_told (written_sum v 0ℚ (row_at m s (slice_index policy s))) _ told.0 told.1 in
      let later = step_told (written_mul f sum.0) _ told.0 sum.2 in
      subst IsNarrow (written_discounted-some m r f s (slice_index policy s) v told.0 told.1 ∙ sym (is.rules.reached s h))
      (sum_took (reward_of (choice_at m s (slice_index policy s)) r) later.0 told.0 later.2).made)

magnitudes_narrow : (v : List (Option ℚ)) → AllByRecursion IsValueNarrow v → AllByRecursion IsNarrow (map magnitude (finite_part v))
magnitudes_narrow [] h = tt
magnitudes_narrow (None ∷ v) h = (magnitude_narrow 0ℚ zero_narrow, magnitudes_narrow v h.1)
magnitudes_narrow (Some x ∷ v) h = (magnitude_narrow x h.0, magnitudes_narrow v h.1)

both_narrow : (lower upper : List (Option ℚ)) → AllByRecursion IsValueNarrow lower → AllByRecursion IsValueNarrow upper → AllByRecursion IsValueNarrow (lower ++ upper)
both_narrow [] upper h k = k
both_narrow (x ∷ lower) upper h k = (h.0, both_narrow lower upper h.1 k)

widest_narrow : (lower upper : List (Option ℚ)) → All IsValueNarrow lower → All IsValueNarrow upper → IsNarrow (greatest_magnitude lower upper)
widest_narrow lower upper h k =
    greatest_narrow 0ℚ (map magnitude (finite_part (lower ++ upper)))
    (All-from_recursion IsNarrow (0ℚ ∷ map magnitude (finite_part (lower ++ upper)))
    (zero_narrow, magnitudes_narrow (lower ++ upper) (both_narrow lower upper (recursion_from_All IsValueNarrow lower h) (recursion_from_All IsValueNarrow upper k))))

-- ---- whether no term of some checks is past width

told_or_not : (o : Option Bool) → IsSome o ⊎ (IsSome o → ⊥)
told_or_not None = inr (λ w. absurd (true≢false (sym w)))
told_or_not (Some b) = inl refl

all_or_not : (cs : List Check) → Each InWidth cs ⊎ (Each InWidth cs → ⊥)
all_or_not [] = inl tt
all_or_not (c ∷ cs) = elim (told_or_not c.holds) as (λ _. Each InWidth (c ∷ cs) ⊎ (Each InWidth (c ∷ cs) → ⊥)) [
  | inr past ↦ inr (λ w. past w.0)
  | inl told ↦ elim (all_or_not cs) as (λ _. Each InWidth (c ∷ cs) ⊎ (Each InWidth (c ∷ cs) → ⊥)) [
    | inl rest ↦ inl (told, rest)
    | inr past ↦ inr (λ w. past w.1)
  ]
]

module _ (digits : ℕ) (dir : Dir) (m : Mdp) (model : IsModel m) (r : ℕ) (f : ℚ) (ask : CanAsk m r f) where
  -- ---- no value

  none : ℕ → Option ℚ
  none s = None

  trivial_bounds : IsDiscountWide dir m r f → SomeDiscount digits dir m r f
  unfolding none
  trivial_bounds wide =
      let missing : List (Option ℚ) = map none (range_with_len 0 (states_of m)) in
      let zeros : List ℕ = replicate (states_of m) 0 in
      let each = length-map-range_with_len none 0 (states_of m) in
      let t = nothing_said m ask.model missing missing zeros (range_with_len 0 (states_of m)) refl refl refl in
      let narrow = All-map IsValueNarrow none (range_with_len 0 (states_of m)) (All-from_get_or (λ s. IsValueNarrow (none s)) (range_with_len 0 (states_of m)) 0 (λ i l. tt)) in
      record {
        lower = missing;
        upper = missing;
        remainder = 0ℚ;
        choices = zeros;
        rules = (bounds_rules dir m r f missing missing 0ℚ zeros ask.model Yes ask.named each each (length-replicate (states_of m) 0)
            (sym (trivial_yes m missing missing 0ℚ zeros t each each r f dir))).0 refl;
        lower_narrow = narrow;
        upper_narrow = narrow;
        remainder_narrow = zero_narrow;
        choices_short = zeros_short (states_of m);
        near = inr wide;
      }

  -- ---- exact values

  exact_bounds : (a : Certificate) → IsDiscount dir m r f a.values a.remainder a.choices → IsInWidth dir m r f (map Some a.values) a.choices → SomeDiscount digits dir m r f
  exact_bounds a is all =
      let values : List (Option ℚ) = map Some a.values in
      let narrow : All IsValueNarrow values = All-map IsValueNarrow Some a.values (discounted_narrow dir m r f a.values a.remainder a.choices is) in
      record {
        lower = values;
        upper = values;
        remainder = greatest_magnitude values values;
        choices = a.choices;
        rules = record { rules = meets_between m r f a.values a.remainder a.choices dir is.rules; in_width = all };
        lower_narrow = narrow;
        upper_narrow = narrow;
        remainder_narrow = widest_narrow values values narrow narrow;
        choices_short = policy_short m a.choices model is.rules.choices;
        near = inl (exact-near digits m a.values values values refl refl);
      }

  module _ (ends : HasAnEnd) (rules : AnswersMeetRules) where
    abbrev name : List ℕ
    name = slice_index_or m.names r []

    by_answer : (a : Certificate) → EndsSo dir m r name f (Ok a)
        → Each InWidth (discount_bounds_checks dir m r f (map Some a.values) (map Some a.values) (greatest_magnitude (map Some a.values) (map Some a.values)) a.choices)
        ⊎ (Each InWidth (discount_bounds_checks dir m r f (map Some a.values) (map Some a.values) (greatest_magnitude (map Some a.values) (map Some a.values)) a.choices) → ⊥)
        → SomeDiscount digits dir m r f
    by_answer a e (inl all) =
        exact_bounds a (rules dir m r name f a ask e) (All-from_recursion InWidth _ all)
    by_answer a e (inr past) = trivial_bounds (inr (a, e, λ all. past (recursion_from_All InWidth _ all)))

    by_end : (q : Result Certificate WideTerm) → EndsSo dir m r name f q → SomeDiscount digits dir m r f
    by_end (Ok a) e = by_answer a e (all_or_not _)
    by_end (Err w) e = trivial_bounds (inl (w, e))

    pub some_discount : SomeDiscount digits dir m r f
    some_discount = let e = ends dir m r name f ask in by_end e.0 e.1
