-- A model of three states: from state 0 a choice goes to the bad state 1, and another one to the goal 2 or to state 1, with 1/2 each; and from
-- state 1 the goal is next. So each policy reaches the goal, and by way of state 0 alone the greatest probability is 1/2, and the least 0.
use Rattle.std.proofs.Common.{◌≡◌, ℕ, zero, suc, ◌<◌, ◌⊎◌, Bool, true, false, true≢false, List, [], ◌∷◌, length, slice_index, refl, sym, arith, inl, inr}
use Rattle.std.proofs.lemmas.List.Elements.{All-from_recursion}
use Rattle.std.specs.List.{Any}
use Rattle.mdp_math.specs.{Gcd.{gcd, gcd_with_fuel}, Rational.{ℚ, of_int, ratio, ◌+ℚ◌, ◌*ℚ◌, le_ℚ, lt_ℚ, ◌≤ℚ◌, ◌<ℚ◌}}
use Rattle.mdp_math.proofs.{Order.{≤ℚ_of_eq}, Tables.{AreEqual}}
use Rattle.mdp_spec.specs.{Mdp.{Mdp, choices_at, row_at, value_at}, Row.{IsRow, IsMdp, row_sum}, Unit.{unit_of}, Tree.{unfolded, is_marked}}
use Rattle.mdp_spec.specs.{Hit.{hit}, Sub.{sub_of}, Rules.{AreProbabilities, MeetsReachMax, MeetsReachMin}, Until.{until, UntilMax, UntilMin}, Bounds.{ReachMax}}
use Rattle.mdp_spec.proofs.{Until.{until_max_of_rules, until_min_of_rules, until_is_unique}, Reach.{reach_max_of_rules}, Subsystem.{loop_is_row}}
use Rattle.mdp_spec.proofs.{ExamplesBounds.{below_3}, Small.{entry, choice, state, nought, one, half}}

abbrev risky : Mdp
risky = record {
  names = [];
  labels = [];
  states =
      state (choice (entry 1 one ∷ []) ∷ choice (entry 1 half ∷ entry 2 half ∷ []) ∷ [])
      ∷ state (choice (entry 2 one ∷ []) ∷ [])
      ∷ state (choice (entry 2 one ∷ []) ∷ [])
      ∷ [];
}

-- state 2 is the goal; state 0 stays, and state 1 doesn't
abbrev goals : List Bool
goals = false ∷ false ∷ true ∷ []

abbrev safe : List Bool
safe = true ∷ false ∷ false ∷ []

abbrev tries : List ℕ
tries = 1 ∷ 0 ∷ 0 ∷ []

abbrev strays : List ℕ
strays = 0 ∷ 0 ∷ 0 ∷ []

-- ---- computed

untils : AreEqual (
    (until risky safe goals 1 2 (unfolded risky tries 2 0) 0, half) ∷
    (until risky safe goals 1 2 (unfolded risky strays 2 0) 0, nought) ∷
    (hit risky goals 1 2 (unfolded risky tries 2 0) 0, one) ∷
    (hit risky goals 1 2 (unfolded risky strays 2 0) 0, one) ∷
    -- on the subsystem state 1 is left in its loop
    (hit (sub_of risky goals safe) goals 1 2 (unfolded (sub_of risky goals safe) tries 2 0) 0, half) ∷
    -- at a goal that doesn't stay the goal is met; at the bad state nothing is, though the goal is next
    (until risky safe goals 1 0 (unfolded risky tries 0 2) 2, one) ∷
    (until risky safe goals 1 1 (unfolded risky tries 1 1) 1, nought) ∷
    []
    )
unfolding gcd gcd_with_fuel ratio of_int unit_of hit until sub_of
untils = refl

-- ---- it is a model

half_row : IsRow 3 (row_at risky 0 1)
unfolding gcd gcd_with_fuel ratio of_int ◌+ℚ◌ lt_ℚ
half_row = record {
  distribution = record { ascending = refl; positive = All-from_recursion (λ x. nought <ℚ x.prob) (row_at risky 0 1) (record { lt = tt }, (record { lt = tt }, tt)); total = refl };
  in_range = All-from_recursion (λ x. x.target < 3) (row_at risky 0 1) (omega arith, (omega arith, tt));
}

risky_model : IsMdp risky
risky_model = record { some = omega arith; few = omega arith; choice = below_3 (λ s. 0 < length (choices_at risky s)) (omega arith) (omega arith) (omega arith); row = rows }
  where
    rows : (s c : ℕ) → s < 3 → c < length (choices_at risky s) → IsRow 3 (row_at risky s c)
    rows zero zero h l = loop_is_row 3 1 (omega arith)
    rows zero (suc zero) h l = half_row
    rows zero (suc (suc c)) h l = absurd (omega arith)
    rows (suc zero) zero h l = loop_is_row 3 2 (omega arith)
    rows (suc zero) (suc c) h l = absurd (omega arith)
    rows (suc (suc zero)) zero h l = loop_is_row 3 2 (omega arith)
    rows (suc (suc zero)) (suc c) h l = absurd (omega arith)
    rows (suc (suc (suc s))) c h l = absurd (omega arith)

-- ---- on the subsystem: the rules of reaching a goal

-- z at state 0
abbrev chances : ℚ → List ℚ
chances z = z ∷ nought ∷ one ∷ []

abbrev cut : Mdp
cut = sub_of risky goals safe

each_choice : (C : ℕ → ℕ → Type 0) → C 0 0 → C 0 1 → C 1 0 → (s c : ℕ) → s < 3 → is_marked goals s ≡ false → c < length (choices_at cut s) → C s c
unfolding sub_of
each_choice C a b d zero zero h g l = a
each_choice C a b d zero (suc zero) h g l = b
each_choice C a b d zero (suc (suc c)) h g l = absurd (omega arith)
each_choice C a b d (suc zero) zero h g l = d
each_choice C a b d (suc zero) (suc c) h g l = absurd (omega arith)
each_choice C a b d (suc (suc zero)) c h g l = absurd (true≢false g)
each_choice C a b d (suc (suc (suc s))) c h g l = absurd (omega arith)

probabilities : (z : ℚ) → nought ≤ℚ z → z ≤ℚ one → AreProbabilities cut goals (chances z)
unfolding of_int le_ℚ sub_of
probabilities z low high = record {
  at_least_zero = below_3 (λ s. nought ≤ℚ value_at (chances z) s) low (record { le = tt }) (record { le = tt });
  at_most_one = below_3 (λ s. value_at (chances z) s ≤ℚ one) high (record { le = tt }) (record { le = tt });
  at_goal = below_3 (λ s. is_marked goals s ≡ true → value_at (chances z) s ≡ one) (λ g. absurd (true≢false (sym g))) (λ g. absurd (true≢false (sym g))) (λ g. refl);
}

max_rules : MeetsReachMax cut goals (chances half) tries tries
unfolding gcd gcd_with_fuel ratio of_int ◌+ℚ◌ ◌*ℚ◌ le_ℚ lt_ℚ sub_of
max_rules = record {
  choices = record { one_each = refl; in_range = below_3 (λ s. slice_index tries s < length (choices_at cut s)) (omega arith) (omega arith) (omega arith) };
  probabilities = probabilities half (record { le = tt }) (record { le = tt });
  covers = each_choice (λ s c. row_sum (row_at cut s c) (chances half) ≤ℚ value_at (chances half) s) (record { le = tt }) (record { le = tt }) (record { le = tt });
  reached = below_3 (λ s. is_marked goals s ≡ false → value_at (chances half) s ≤ℚ row_sum (row_at cut s (slice_index tries s)) (chances half))
      (λ g. record { le = tt }) (λ g. record { le = tt }) (λ g. absurd (true≢false g));
  ends = λ s h which. ranks s h which;
  falls = below_3
      (λ s. is_marked goals s ≡ false → nought <ℚ value_at (chances half) s
      → Any (λ y. (nought <ℚ value_at (chances half) y.target) × (slice_index tries y.target < slice_index tries s)) (row_at cut s (slice_index tries s)))
      (λ g p. (1, entry 2 half, omega arith, refl, (record { lt = tt }, omega arith)))
      (λ g p. absurd p.lt) (λ g p. absurd (true≢false g));
}
  where
    ranks : (s : ℕ) → s < 3 → (is_marked goals s ≡ true) ⊎ (value_at (chances half) s ≡ nought) → slice_index tries s ≡ 0
    ranks zero h (inl g) = absurd (true≢false (sym g))
    ranks zero h (inr e) = let le : half ≤ℚ nought = ≤ℚ_of_eq half nought e in absurd le.le
    ranks (suc zero) h which = refl
    ranks (suc (suc zero)) h which = refl
    ranks (suc (suc (suc s))) h which = absurd (omega arith)

risky_max : UntilMax risky safe goals (chances half) tries
risky_max = until_max_of_rules risky safe goals risky_model (chances half) tries tries max_rules

min_rules : MeetsReachMin cut goals (chances nought) strays strays
unfolding gcd gcd_with_fuel ratio of_int ◌+ℚ◌ ◌*ℚ◌ le_ℚ lt_ℚ sub_of
min_rules = record {
  choices = record { one_each = refl; in_range = below_3 (λ s. slice_index strays s < length (choices_at cut s)) (omega arith) (omega arith) (omega arith) };
  probabilities = probabilities nought (record { le = tt }) (record { le = tt });
  covered = each_choice (λ s c. value_at (chances nought) s ≤ℚ row_sum (row_at cut s c) (chances nought)) (record { le = tt }) (record { le = tt }) (record { le = tt });
  reached = below_3 (λ s. is_marked goals s ≡ false → row_sum (row_at cut s (slice_index strays s)) (chances nought) ≤ℚ value_at (chances nought) s)
      (λ g. record { le = tt }) (λ g. record { le = tt }) (λ g. absurd (true≢false g));
  ends = λ s h which. below_3 (λ s. slice_index strays s ≡ 0) refl refl refl s h;
  falls = λ s c h g p l.
      below_3 (λ s. is_marked goals s ≡ false → nought <ℚ value_at (chances nought) s → Any (λ y. slice_index strays y.target < slice_index strays s) (row_at cut s c))
      (λ g p. absurd p.lt) (λ g p. absurd p.lt) (λ g p. absurd (true≢false g)) s h g p;
}

risky_min : UntilMin risky safe goals (chances nought) strays
risky_min = until_min_of_rules risky safe goals risky_model (chances nought) strays strays min_rules

-- ---- what is refused

-- from state 0 each policy reaches the goal, so 1 is the greatest probability of that; of until it isn't
one_refused : (x : ℚ) (policy : List ℕ) → UntilMax risky safe goals (one ∷ x ∷ one ∷ []) policy → ⊥
unfolding gcd gcd_with_fuel ratio of_int le_ℚ
one_refused x policy b =
    let h : one ≤ℚ half = ≤ℚ_of_eq one half ((until_is_unique risky safe goals (one ∷ x ∷ one ∷ []) (chances half) policy tries 0 risky_model (omega arith)).0 b risky_max) in
    h.le

-- nor are the greatest values the least ones
half_refused : (policy : List ℕ) → UntilMin risky safe goals (chances half) policy → ⊥
unfolding gcd gcd_with_fuel ratio of_int le_ℚ
half_refused policy b =
    let h : half ≤ℚ nought = ≤ℚ_of_eq half nought ((until_is_unique risky safe goals (chances half) (chances nought) policy strays 0 risky_model (omega arith)).1 b risky_min) in
    h.le

-- ---- where state 1 stays too, the goal is reached by each policy

all_rules : MeetsReachMax risky goals (one ∷ one ∷ one ∷ []) strays (2 ∷ 1 ∷ 0 ∷ [])
unfolding gcd gcd_with_fuel ratio of_int ◌+ℚ◌ ◌*ℚ◌ le_ℚ lt_ℚ
all_rules = record {
  choices = record { one_each = refl; in_range = below_3 (λ s. slice_index strays s < length (choices_at risky s)) (omega arith) (omega arith) (omega arith) };
  probabilities = record {
    at_least_zero = below_3 (λ s. nought ≤ℚ value_at (one ∷ one ∷ one ∷ []) s) (record { le = tt }) (record { le = tt }) (record { le = tt });
    at_most_one = below_3 (λ s. value_at (one ∷ one ∷ one ∷ []) s ≤ℚ one) (record { le = tt }) (record { le = tt }) (record { le = tt });
    at_goal = below_3 (λ s. is_marked goals s ≡ true → value_at (one ∷ one ∷ one ∷ []) s ≡ one) (λ g. refl) (λ g. refl) (λ g. refl);
  };
  covers = λ s c h g l. covered s c h l;
  reached = below_3 (λ s. is_marked goals s ≡ false → value_at (one ∷ one ∷ one ∷ []) s ≤ℚ row_sum (row_at risky s (slice_index strays s)) (one ∷ one ∷ one ∷ []))
      (λ g. record { le = tt }) (λ g. record { le = tt }) (λ g. record { le = tt });
  ends = λ s h which. ranks s h which;
  falls = below_3
      (λ s. is_marked goals s ≡ false → nought <ℚ value_at (one ∷ one ∷ one ∷ []) s
      → Any (λ y. (nought <ℚ value_at (one ∷ one ∷ one ∷ []) y.target) × (slice_index (2 ∷ 1 ∷ 0 ∷ []) y.target < slice_index (2 ∷ 1 ∷ 0 ∷ []) s)) (row_at risky s (slice_index strays s)))
      (λ g p. (0, entry 1 one, omega arith, refl, (record { lt = tt }, omega arith)))
      (λ g p. (0, entry 2 one, omega arith, refl, (record { lt = tt }, omega arith)))
      (λ g p. absurd (true≢false g));
}
  where
    covered : (s c : ℕ) → s < 3 → c < length (choices_at risky s) → row_sum (row_at risky s c) (one ∷ one ∷ one ∷ []) ≤ℚ value_at (one ∷ one ∷ one ∷ []) s
    covered zero zero h l = record { le = tt }
    covered zero (suc zero) h l = record { le = tt }
    covered zero (suc (suc c)) h l = absurd (omega arith)
    covered (suc zero) zero h l = record { le = tt }
    covered (suc zero) (suc c) h l = absurd (omega arith)
    covered (suc (suc zero)) zero h l = record { le = tt }
    covered (suc (suc zero)) (suc c) h l = absurd (omega arith)
    covered (suc (suc (suc s))) c h l = absurd (omega arith)

    ranks : (s : ℕ) → s < 3 → (is_marked goals s ≡ true) ⊎ (value_at (one ∷ one ∷ one ∷ []) s ≡ nought) → slice_index (2 ∷ 1 ∷ 0 ∷ []) s ≡ 0
    ranks zero h (inl g) = absurd (true≢false (sym g))
    ranks zero h (inr e) = let le : one ≤ℚ nought = ≤ℚ_of_eq one nought e in absurd le.le
    ranks (suc zero) h (inl g) = absurd (true≢false (sym g))
    ranks (suc zero) h (inr e) = let le : one ≤ℚ nought = ≤ℚ_of_eq one nought e in absurd le.le
    ranks (suc (suc zero)) h which = refl
    ranks (suc (suc (suc s))) h which = absurd (omega arith)

risky_reach : ReachMax risky goals (one ∷ one ∷ one ∷ []) strays
risky_reach = reach_max_of_rules risky goals (one ∷ one ∷ one ∷ []) strays (2 ∷ 1 ∷ 0 ∷ []) risky_model all_rules
