-- A component of two states, computed. At state 0 one can stay and earn 1, or earn nothing and come to state 1 with probability 1/2; at state 1 stay and
-- earn 3, or go to state 0. The policy that stays at 0 earns 1 in each step. Staying at 1 is better there, and then {0} and {1} are closed classes: {1}
-- holds the changed state, so the next policy keeps it and goes toward it from 0, and earns 3.
use Rattle.std.proofs.Common.{◌≡◌, ◌≢◌, ℕ, zero, suc, ◌<◌, ◌≤◌, inr, Bool, true, false, true≢false, List, [], ◌∷◌, refl, sym, ap, arith, pos, negsuc, rules}
use Rattle.std.proofs.{lemmas.Bool.{false≢true}, lemmas.List.Elements.{All-nil, All-cons}}
use Rattle.std.specs.{List.{All, Any}, Prelude.{slice_index}}
use Rattle.mdp_math.specs.{Gcd.{gcd, gcd_with_fuel}, Rational.{ℚ, of_int, ratio, ◌+ℚ◌, ◌*ℚ◌, neg_ℚ, inv_ℚ, ◌<ℚ◌}}
use Rattle.mdp_math.proofs.Whole.{one-pos, ratio-pos}
use Rattle.mdp_spec.specs.{Mdp.{Entry}, Row.{IsDistribution}}
use Rattle.mdp_rows.specs.declared.dir.Dir.TheVariants.{Max}
use Rattle.mdp_unichain.specs.Chain.{AllLeadTo, IsClosedClass}
use Rattle.mdp_unichain.specs.{Component.{Component, Choice, choice_at, is_state, IsInner, row_by, reward_by, CanReach, IsComponent}, Improvement.{worth}}
use Rattle.mdp_unichain.specs.Next.{HoldsChanged, IsPicked, LeadsNearer, AreRanksToward, IsNearest, IsExactNext}
use Rattle.mdp_unichain.proofs.{Chains.{earned_by}, Gains.{gain_by, bias_by}}

abbrev to : ℕ → ℚ → Entry
to s q = record { target = s; prob = q }

abbrev by : ℚ → List Entry → Choice
by r row = record { inner = true; reward = r; row = row }

abbrev stay_0 : Choice
stay_0 = by (of_int (pos 1)) (to 0 (of_int (pos 1)) ∷ [])

abbrev try_1 : Choice
try_1 = by (of_int (pos 0)) (to 0 (ratio (pos 1) 2) ∷ to 1 (ratio (pos 1) 2) ∷ [])

abbrev stay_1 : Choice
stay_1 = by (of_int (pos 3)) (to 1 (of_int (pos 1)) ∷ [])

abbrev go_0 : Choice
go_0 = by (of_int (pos 0)) (to 0 (of_int (pos 1)) ∷ [])

abbrev two : Component
two = record { dir = Max; states = (stay_0 ∷ try_1 ∷ []) ∷ (stay_1 ∷ go_0 ∷ []) ∷ [] }

-- ---- evaluation

-- stay at 0, go from 1 to 0
abbrev first : List ℕ
first = 0 ∷ 1 ∷ []

gain-first : gain_by (is_state two) 2 (row_by two first) 0 (reward_by two first) ≡ of_int (pos 1)
unfolding gain_by earned_by gcd gcd_with_fuel of_int ratio ◌+ℚ◌ ◌*ℚ◌ inv_ℚ
gain-first = refl

-- a start at 1 is behind by the one step that earns nothing
bias-first : bias_by (is_state two) 2 (row_by two first) 0 (reward_by two first) 1 ≡ of_int (negsuc 0)
unfolding gain_by bias_by earned_by gcd gcd_with_fuel of_int ratio ◌+ℚ◌ ◌*ℚ◌ inv_ℚ neg_ℚ
bias-first = refl

-- under this bias staying at 1 is worth 2, more than the gain and the bias there, and trying 1 is worth less at 0
worth-stay_1 : worth (bias_by (is_state two) 2 (row_by two first) 0 (reward_by two first)) (choice_at two 1 0) ≡ of_int (pos 2)
unfolding gain_by bias_by earned_by gcd gcd_with_fuel of_int ratio ◌+ℚ◌ ◌*ℚ◌ inv_ℚ neg_ℚ
worth-stay_1 = refl

worth-try_1 : worth (bias_by (is_state two) 2 (row_by two first) 0 (reward_by two first)) (choice_at two 0 1) ≡ ratio (negsuc 0) 2
unfolding gain_by bias_by earned_by gcd gcd_with_fuel of_int ratio ◌+ℚ◌ ◌*ℚ◌ inv_ℚ neg_ℚ
worth-try_1 = refl

-- the next policy, with the reference 1
abbrev second : List ℕ
second = 1 ∷ 0 ∷ []

gain-second : gain_by (is_state two) 2 (row_by two second) 1 (reward_by two second) ≡ of_int (pos 3)
unfolding gain_by earned_by gcd gcd_with_fuel of_int ratio ◌+ℚ◌ ◌*ℚ◌ inv_ℚ
gain-second = refl

-- from 0 it takes two steps that earn nothing
bias-second : bias_by (is_state two) 2 (row_by two second) 1 (reward_by two second) 0 ≡ of_int (negsuc 5)
unfolding gain_by bias_by earned_by gcd gcd_with_fuel of_int ratio ◌+ℚ◌ ◌*ℚ◌ inv_ℚ neg_ℚ
bias-second = refl

-- ---- it is a component

-- the number of steps to state 1
abbrev rank_1 : ℕ → ℕ
rank_1 zero = 1
rank_1 (suc s) = 0

one_entry : (s : ℕ) → is_state two s ≡ true → All (λ y. is_state two y.target ≡ true) (to s (of_int (pos 1)) ∷ [])
one_entry s h = All-cons (λ y. is_state two y.target ≡ true) (to s (of_int (pos 1))) [] h (All-nil (λ y. is_state two y.target ≡ true))

half_total : ratio (pos 1) 2 +ℚ (ratio (pos 1) 2 +ℚ of_int (pos 0)) ≡ of_int (pos 1)
unfolding gcd gcd_with_fuel of_int ratio ◌+ℚ◌
half_total = refl

one_total : of_int (pos 1) +ℚ of_int (pos 0) ≡ of_int (pos 1)
unfolding gcd gcd_with_fuel of_int ratio ◌+ℚ◌
one_total = refl

single : (s : ℕ) → IsDistribution (to s (of_int (pos 1)) ∷ [])
single s = record {
  ascending = search rules;
  positive = All-cons (λ x. of_int (pos 0) <ℚ x.prob) (to s (of_int (pos 1))) [] one-pos (All-nil (λ x. of_int (pos 0) <ℚ x.prob));
  total = one_total;
}

halves : IsDistribution (Choice.row try_1)
halves = record {
  ascending = search rules;
  positive = All-cons (λ x. of_int (pos 0) <ℚ x.prob) (to 0 (ratio (pos 1) 2)) (to 1 (ratio (pos 1) 2) ∷ []) (ratio-pos 1 2 (omega arith) (omega arith))
      (All-cons (λ x. of_int (pos 0) <ℚ x.prob) (to 1 (ratio (pos 1) 2)) [] (ratio-pos 1 2 (omega arith) (omega arith)) (All-nil (λ x. of_int (pos 0) <ℚ x.prob)));
  total = half_total;
}

rows_two : (s c : ℕ) → IsInner two s c → IsDistribution (choice_at two s c).row
rows_two zero zero h = single 0
rows_two zero (suc zero) h = halves
rows_two zero (suc (suc c)) h = absurd (false≢true h)
rows_two (suc zero) zero h = single 1
rows_two (suc zero) (suc zero) h = single 0
rows_two (suc zero) (suc (suc c)) h = absurd (false≢true h)
rows_two (suc (suc s)) c h = absurd (false≢true h)

stays_two : (s c : ℕ) → IsInner two s c → All (λ y. is_state two y.target ≡ true) (choice_at two s c).row
stays_two zero zero h = one_entry 0 refl
stays_two zero (suc zero) h =
    All-cons (λ y. is_state two y.target ≡ true) (to 0 (ratio (pos 1) 2)) (to 1 (ratio (pos 1) 2) ∷ []) refl
    (All-cons (λ y. is_state two y.target ≡ true) (to 1 (ratio (pos 1) 2)) [] refl (All-nil (λ y. is_state two y.target ≡ true)))
stays_two zero (suc (suc c)) h = absurd (false≢true h)
stays_two (suc zero) zero h = one_entry 1 refl
stays_two (suc zero) (suc zero) h = one_entry 0 refl
stays_two (suc zero) (suc (suc c)) h = absurd (false≢true h)
stays_two (suc (suc s)) c h = absurd (false≢true h)

reach_two : (t : ℕ) → is_state two t ≡ true → CanReach two t
reach_two zero h = record { rank = λ s. s; falls = falls }
  where
    falls : (s : ℕ) → is_state two s ≡ true → s ≢ zero → (c : ℕ) × IsInner two s c × Any (λ y. y.target < s) (choice_at two s c).row
    falls zero k o = absurd (o refl)
    falls (suc zero) k o = (1, refl, (0, to 0 (of_int (pos 1)), omega arith, refl, omega arith))
    falls (suc (suc s)) k o = absurd (false≢true k)
reach_two (suc zero) h = record { rank = rank_1; falls = falls }
  where
    falls : (s : ℕ) → is_state two s ≡ true → s ≢ 1 → (c : ℕ) × IsInner two s c × Any (λ y. rank_1 y.target < rank_1 s) (choice_at two s c).row
    falls zero k o = (1, refl, (1, to 1 (ratio (pos 1) 2), omega arith, refl, omega arith))
    falls (suc zero) k o = absurd (o refl)
    falls (suc (suc s)) k o = absurd (false≢true k)
reach_two (suc (suc t)) h = absurd (false≢true h)

two-is : IsComponent two
two-is = record { rows = rows_two; stays = stays_two; connected = reach_two }

-- ---- the next policy of the improved one, which stays at both

abbrev both : List ℕ
both = 0 ∷ 0 ∷ []

-- {1}, the class that holds the changed state
abbrev one : ℕ → Bool
one zero = false
one (suc zero) = true
one (suc (suc s)) = false

one_class : IsClosedClass (is_state two) (row_by two both) one
one_class = record { some = (1, refl); states = states; closed = closed; connected = connected }
  where
    states : (s : ℕ) → one s ≡ true → is_state two s ≡ true
    states zero h = absurd (false≢true h)
    states (suc zero) h = refl
    states (suc (suc s)) h = absurd (false≢true h)

    closed : (s : ℕ) → one s ≡ true → All (λ y. one y.target ≡ true) (row_by two both s)
    closed zero h = absurd (false≢true h)
    closed (suc zero) h = All-cons (λ y. one y.target ≡ true) (to 1 (of_int (pos 1))) [] refl (All-nil (λ y. one y.target ≡ true))
    closed (suc (suc s)) h = absurd (false≢true h)

    same : (s t : ℕ) → one s ≡ true → one t ≡ true → s ≡ t
    same (suc zero) (suc zero) h k = refl
    same zero t h k = absurd (false≢true h)
    same (suc zero) zero h k = absurd (false≢true k)
    same (suc zero) (suc (suc t)) h k = absurd (false≢true k)
    same (suc (suc s)) t h k = absurd (false≢true h)

    connected : (t : ℕ) → one t ≡ true → AllLeadTo one (row_by two both) t
    connected t h = record { state = h; rank = λ s. 0; falls = λ s k o. absurd (o (same s t k h)) }

goes : IsExactNext two first both second
goes = inr (one, rank_1, record { picked = picked; ranks = ranks; kept = kept; toward = toward; is = record { len = refl; inner = inner; outside = outside } })
  where
    changed_1 : slice_index both 1 ≢ slice_index first 1
    changed_1 e = cc

    kept : (s : ℕ) → one s ≡ true → slice_index second s ≡ slice_index both s
    kept zero h = absurd (false≢true h)
    kept (suc zero) h = refl
    kept (suc (suc s)) h = absurd (false≢true h)

    -- the other class holds no changed state
    least : (other : ℕ → Bool) → IsClosedClass (is_state two) (row_by two both) other → HoldsChanged first both other → (u : ℕ) → other u ≡ true → 1 ≤ u
    least other c d zero h = absurd (stuck (d.0) d.1 d.2)
      where
        -- from 0 the class has 0 alone
        alone : (s : ℕ) → other s ≡ true → s ≢ 0 → ⊥
        alone s k o = let a = AllLeadTo.falls (c.connected s k) 0 h (λ e. o (sym e)) in loops (AllLeadTo.rank (c.connected s k)) a
          where
            loops : (rank : ℕ → ℕ) → Any (λ y. rank y.target < rank 0) (to 0 (of_int (pos 1)) ∷ []) → ⊥
            loops rank (zero, y, l, e, f) = let q : rank y.target ≡ rank 0 = ap (λ (x : Entry). rank x.target) (sym e) in absurd (omega arith)
            loops rank (suc k, y, l, e, f) = absurd (omega arith)

        stuck : (s : ℕ) → other s ≡ true → slice_index both s ≢ slice_index first s → ⊥
        stuck zero k o = o refl
        stuck (suc s) k o = alone (suc s) k (λ e. cc)
    least other c d (suc u) h = omega arith

    picked : IsPicked two first both one
    picked = record { class_is = one_class; changed = (1, refl, changed_1); least = (1, refl, least) }

    nearer : LeadsNearer two rank_1 0 1
    nearer = (refl, (1, to 1 (ratio (pos 1) 2), omega arith, refl, omega arith))

    ranks : AreRanksToward two one rank_1
    ranks = record { zero = zeros; falls = falls; least = small }
      where
        zeros : (s : ℕ) → one s ≡ true → rank_1 s ≡ 0
        zeros zero h = absurd (false≢true h)
        zeros (suc s) h = refl

        falls : (s : ℕ) → is_state two s ≡ true → one s ≡ false → (c : ℕ) × LeadsNearer two rank_1 s c
        falls zero h k = (1, nearer)
        falls (suc zero) h k = absurd (true≢false k)
        falls (suc (suc s)) h k = absurd (false≢true h)

        at_most : (s : ℕ) → rank_1 s ≤ 1
        at_most zero = omega arith
        at_most (suc s) = omega arith

        small : (s c : ℕ) → IsInner two s c → All (λ y. rank_1 s ≤ suc (rank_1 y.target)) (choice_at two s c).row
        small s c h = λ k d l. let a = at_most s in omega arith

    toward : (s : ℕ) → is_state two s ≡ true → one s ≡ false → IsNearest two rank_1 s (slice_index second s)
    toward zero h k = record { nearer = nearer; least = least_choice }
      where
        least_choice : (d : ℕ) → LeadsNearer two rank_1 0 d → 1 ≤ d
        least_choice zero (i, (zero, y, l, e, f)) = let q : rank_1 y.target ≡ 1 = ap (λ (x : Entry). rank_1 x.target) (sym e) in absurd (omega arith)
        least_choice zero (i, (suc k, y, l, e, f)) = absurd (omega arith)
        least_choice (suc d) n = omega arith
    toward (suc zero) h k = absurd (true≢false k)
    toward (suc (suc s)) h k = absurd (false≢true h)

    inner : (s : ℕ) → is_state two s ≡ true → IsInner two s (slice_index second s)
    inner zero h = refl
    inner (suc zero) h = refl
    inner (suc (suc s)) h = absurd (false≢true h)

    outside : (s : ℕ) → is_state two s ≡ false → slice_index second s ≡ 0
    outside zero h = absurd (true≢false h)
    outside (suc zero) h = absurd (true≢false h)
    outside (suc (suc s)) h = refl
