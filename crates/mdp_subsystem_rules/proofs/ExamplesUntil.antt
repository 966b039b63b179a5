-- Subsystems for until, on the model of four states: state 0 goes to 1 or to 3 with 1/2 each, or by its second choice to 1; state 1 goes back to 0
-- with 1/2 and to 2, the goal, with 1/2; 3 fails.
use Rattle.std.proofs.Common.{◌≡◌, ℕ, zero, suc, ◌<◌, Bool, true, false, true≢false, List, [], ◌∷◌, length, refl, sym, subst, pos, arith}
use Rattle.std.proofs.lemmas.List.Elements.{All-from_recursion}
use Rattle.mdp_math.specs.{Gcd.{gcd, gcd_with_fuel}, Rational.{ℚ, of_int, ratio, le_ℚ, lt_ℚ, ◌+ℚ◌, ◌*ℚ◌, ◌≤ℚ◌, ◌<ℚ◌}}
use Rattle.mdp_math.proofs.{Ring.{◌⊕◌}, Linear.{linear, known}, Order.{0ℚ, ≤ℚ_trans, ≤ℚ_of_eq}, Tables.{AreEqual}}
use Rattle.mdp_spec.specs.{Mdp.{Mdp, states_of, choices_at, row_at}, Row.{IsRow, IsMdp}, Unit.{unit_of}, Tree.{IsStrategy, unfolded, is_marked}}
use Rattle.mdp_spec.specs.{Hit.{hit}, Sub.{sub_of}, Until.{until}, Bounds.{part}}
use Rattle.mdp_spec.proofs.{Small.{half, nought, one, back, back_goals}, Subsystem.{loop_is_row, sub_is_mdp}, Untils.{until-away}, Until.{until_is_hit_kept}}
use Rattle.mdp_claims.specs.declared.subsystem.Flow.{Flow}
use Rattle.mdp_subsystem_rules.specs.{Flow.{IsFlow, MeetsFlow, outflow, inflow, goal_flow, source, goal_source}, Until.{SubUntilMax}}
use Rattle.mdp_subsystem_rules.proofs.{Fewer.{lost-none}, Flows.{sub_max_of_flow}, Picks.{greatest_place, greatest_place-below}, Untils.{sub_until_max}}
use Rattle.mdp_subsystem_rules.proofs.Extremal.{hit-le_best}

-- the states 0 and 1, and state 1 alone
abbrev both : List Bool
both = true ∷ true ∷ false ∷ false ∷ []

abbrev second : List Bool
second = false ∷ true ∷ false ∷ false ∷ []

-- the second choice of state 0
abbrev onward : List ℕ
onward = 1 ∷ 0 ∷ 0 ∷ 0 ∷ []

-- what two steps of this policy come to from state 0, where these states stay and these are kept
abbrev in_two : List Bool → List Bool → List ℕ → ℚ
in_two stay kept policy = until (sub_of back back_goals kept) stay back_goals 1 2 (unfolded (sub_of back back_goals kept) policy 2 0) 0

in_two_steps : AreEqual (
    (in_two both both onward, half) ∷
    -- where state 0 doesn't stay, the goal isn't met from there, though it is kept
    (in_two second both onward, nought) ∷
    (hit (sub_of back back_goals both) back_goals 1 2 (unfolded (sub_of back back_goals both) onward 2 0) 0, half) ∷
    -- nor where it stays and isn't kept: there it has its loop alone
    (in_two both second (0 ∷ 0 ∷ 0 ∷ 0 ∷ []), nought) ∷
    -- of the kept states only 1 needs to stay from state 1 on
    (until (sub_of back back_goals both) second back_goals 1 1 (unfolded (sub_of back back_goals both) onward 1 1) 1, half) ∷
    []
    )
unfolding gcd gcd_with_fuel ratio of_int unit_of hit until sub_of
in_two_steps = refl

-- ---- it is a model

first_row : IsRow 4 (row_at back 0 0)
unfolding gcd gcd_with_fuel ratio of_int ◌+ℚ◌ lt_ℚ
first_row = record {
  distribution = record { ascending = refl; positive = All-from_recursion (λ x. nought <ℚ x.prob) (row_at back 0 0) (record { lt = tt }, (record { lt = tt }, tt)); total = refl };
  in_range = All-from_recursion (λ x. x.target < 4) (row_at back 0 0) (omega arith, (omega arith, tt));
}

back_row : IsRow 4 (row_at back 1 0)
unfolding gcd gcd_with_fuel ratio of_int ◌+ℚ◌ lt_ℚ
back_row = record {
  distribution = record { ascending = refl; positive = All-from_recursion (λ x. nought <ℚ x.prob) (row_at back 1 0) (record { lt = tt }, (record { lt = tt }, tt)); total = refl };
  in_range = All-from_recursion (λ x. x.target < 4) (row_at back 1 0) (omega arith, (omega arith, tt));
}

past : (s : ℕ) → suc (suc (suc (suc s))) < 4 → ⊥
past s h = omega arith

back_model : IsMdp back
back_model = record { some = omega arith; few = omega arith; choice = some; row = rows }
  where
    some : (s : ℕ) → s < 4 → 0 < length (choices_at back s)
    some zero h = omega arith
    some (suc zero) h = omega arith
    some (suc (suc zero)) h = omega arith
    some (suc (suc (suc zero))) h = omega arith
    some (suc (suc (suc (suc s)))) h = absurd (past s h)

    rows : (s c : ℕ) → s < 4 → c < length (choices_at back s) → IsRow 4 (row_at back s c)
    rows zero zero h l = first_row
    rows zero (suc zero) h l = loop_is_row 4 1 (omega arith)
    rows zero (suc (suc c)) h l = absurd (omega arith)
    rows (suc zero) zero h l = back_row
    rows (suc zero) (suc c) h l = absurd (omega arith)
    rows (suc (suc zero)) zero h l = loop_is_row 4 2 (omega arith)
    rows (suc (suc zero)) (suc c) h l = absurd (omega arith)
    rows (suc (suc (suc zero))) zero h l = loop_is_row 4 3 (omega arith)
    rows (suc (suc (suc zero))) (suc c) h l = absurd (omega arith)
    rows (suc (suc (suc (suc s)))) c h l = absurd (past s h)

-- ---- where 0 and 1 stay and are kept, some trees come to the goal as surely as one asks

abbrev way : Mdp
way = sub_of back back_goals both

abbrev flow : ℕ → ℕ → ℚ → Flow
flow s c a = record { state = s; choice = c; amount = a }

abbrev flows : List Flow
flows = flow 0 1 (of_int (pos 2)) ∷ flow 1 0 (of_int (pos 2)) ∷ []

positive : of_int (pos 0) <ℚ of_int (pos 2)
unfolding gcd gcd_with_fuel ratio of_int lt_ℚ
positive = record { lt = tt }

no_goal : (s : ℕ) → s < states_of way → is_marked both s ≡ true → is_marked back_goals s ≡ false
unfolding sub_of
no_goal zero h k = refl
no_goal (suc zero) h k = refl
no_goal (suc (suc zero)) h k = absurd (true≢false (sym k))
no_goal (suc (suc (suc zero))) h k = refl
no_goal (suc (suc (suc (suc s)))) h k = absurd (past s h)

balanced : (s : ℕ) → s < states_of way → is_marked both s ≡ true → outflow flows s ≤ℚ source 0 s +ℚ inflow way flows s
unfolding gcd gcd_with_fuel ratio of_int le_ℚ ◌+ℚ◌ ◌*ℚ◌ sub_of
balanced zero h k = record { le = tt }
balanced (suc zero) h k = record { le = tt }
balanced (suc (suc zero)) h k = absurd (true≢false (sym k))
balanced (suc (suc (suc zero))) h k = absurd (true≢false (sym k))
balanced (suc (suc (suc (suc s)))) h k = absurd (past s h)

arrives : of_int (pos 1) ≤ℚ goal_source back_goals 0 +ℚ goal_flow way back_goals flows
unfolding gcd gcd_with_fuel ratio of_int le_ℚ ◌+ℚ◌ ◌*ℚ◌ sub_of
arrives = record { le = tt }

each_flow : (f : Flow) → f.state < 2 → f.choice < length (choices_at way f.state) → of_int (pos 0) <ℚ f.amount → IsFlow way both f
each_flow f l c p = record { keeps = kept f.state l; choice = c; positive = p }
  where
    kept : (s : ℕ) → s < 2 → is_marked both s ≡ true
    kept zero h = refl
    kept (suc zero) h = refl
    kept (suc (suc s)) h = absurd (omega arith)

meets : MeetsFlow way back_goals both flows 0 one
unfolding sub_of
meets = record {
  no_goal = no_goal;
  each = All-from_recursion (IsFlow way both) flows (each_flow (flow 0 1 (of_int (pos 2))) (omega arith) (omega arith) positive, (each_flow (flow 1 0 (of_int (pos 2))) (omega arith) (omega arith) positive, tt));
  balanced = balanced;
  reached = arrives;
}

way_known : IsMdp way
way_known = sub_is_mdp back back_goals both back_model

starts : (kept : List Bool) → 0 < states_of (sub_of back back_goals kept)
unfolding sub_of
starts kept = omega arith

surely : SubUntilMax back both back_goals both 0 one
surely = sub_until_max back both back_goals both 0 one back_model (sub_max_of_flow way back_goals both flows 0 one way_known (starts both) meets)

-- ---- what is refused

third_below_half : half ≤ℚ 0ℚ +ℚ part 3 → ⊥
unfolding gcd gcd_with_fuel ratio of_int le_ℚ ◌+ℚ◌
third_below_half h = h.le

-- where state 0 doesn't stay, no tree comes to the goal from there, whatever is kept
no_stay_refused : (kept : List Bool) → SubUntilMax back second back_goals kept 0 half → ⊥
no_stay_refused kept b =
    let c = b.close 3 (omega arith) in
    third_below_half (subst (λ (x : ℚ). half ≤ℚ x +ℚ part 3) (until-away (sub_of back back_goals kept) second back_goals c.1 c.0 c.2 0 (IsStrategy.mixes c.3) refl refl) c.4)

second_stays : (s : ℕ) → s < states_of back → is_marked second s ≡ true → is_marked both s ≡ true
second_stays zero h e = refl
second_stays (suc zero) h e = refl
second_stays (suc (suc zero)) h e = e
second_stays (suc (suc (suc zero))) h e = e
second_stays (suc (suc (suc (suc s)))) h e = absurd (past s h)

-- where it stays and state 1 alone is kept, none does either
not_kept_refused : SubUntilMax back both back_goals second 0 half → ⊥
not_kept_refused b =
    let small : Mdp = sub_of back back_goals second in
    let is : IsMdp small = sub_is_mdp back back_goals second back_model in
    let c = b.close 3 (omega arith) in
    let none : until small both back_goals c.1 c.0 c.2 0 ≤ℚ 0ℚ =
    ≤ℚ_trans _ _ _ (≤ℚ_of_eq _ _ (until_is_hit_kept back both back_goals second c.1 c.0 c.2 0 back_model second_stays (omega arith) c.3))
    (≤ℚ_trans _ _ _ (hit-le_best small back_goals c.1 is (IsStrategy.mixes c.3) c.0 c.2 0 (starts second) (IsStrategy.fits c.3))
    (≤ℚ_of_eq _ _ (lost-none back back_goals second greatest_place back_model greatest_place-below c.0 0 (omega arith) refl)))
    in
    third_below_half
    (linear 4 (λ h p x z. h) (λ h p x z. z ⊕ p) (λ h p x z. known h (x ⊕ p) ∷ known x z ∷ []) refl half (part 3) (until small both back_goals c.1 c.0 c.2 0) 0ℚ c.4 none)
