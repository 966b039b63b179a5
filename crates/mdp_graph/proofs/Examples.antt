-- Worked models: what the passes find on them.
use Rattle.std.proofs.Common.{◌≡◌, ◌⊎◌, inl, inr, ℕ, zero, suc, ◌+◌, ◌<◌, ◌≤◌, ◌↔◌, Bool, true, false, List, [], ◌∷◌, length, get_or, map, refl, sym, ◌∙◌, arith, pos}
use Rattle.std.proofs.{Common.{Option, Some, None, is_some, cond}, lemmas.Bool.{false≢true, cases_Bool}, lemmas.List.Elements.{All-from_recursion}}
use Rattle.mdp_math.specs.{Gcd.{gcd, gcd_with_fuel}, Rational.{of_int, ratio, ◌+ℚ◌, ◌<ℚ◌, lt_ℚ}}
use Rattle.mdp_spec.specs.{Mdp.{Entry, State, Mdp, states_of, choices_at}, Row.{IsRow, IsMdp}}
use Rattle.mdp_graph.proofs.{ModelBy.{model_by, one_row}, Avoiding.{avoid_marks}}
use Rattle.mdp_graph.proofs.{ByTest.{ranks_to, ranks_test, same_below, agree, tested_ranks, may_respects, inside_respects}, Dropping.{sure_marks}}
use Rattle.mdp_graph.proofs.{Meeting.{must_respects}, Passes.{reached_marks, least_ranks}, LeftAfter.{left-top, stays-alike}}
use Rattle.mdp_graph.specs.{Sets.{marked, can_enter}, Layers.{reached, rank_at, AreRanks, AreReached, AreLeastRanks}, Choices.{AreLeast}}
use Rattle.mdp_graph.specs.{Reach.{may_step, row_step, falls}, Meet.{must_step}, Avoid.{IsGreatestAvoiding, keeps}, Rounds.{left_after, CanStay, AreRounds}}
use Rattle.mdp_graph.specs.{Sure.{inside_step, IsSure, IsGreatestSure, stays_and_falls}, SureAll.{IsSureAll}, Laws.{earlier}}

abbrev halves : ℕ → ℕ → List Entry
halves s t = record { target = s; prob = ratio (pos 1) 2 } ∷ record { target = t; prob = ratio (pos 1) 2 } ∷ []

abbrev only : ℕ → List Entry
only t = record { target = t; prob = of_int (pos 1) } ∷ []

abbrev state : List Entry → State
state row = record { labels = []; choices = record { row = row; rewards = [] } ∷ [] }

abbrev state_of_two : List Entry → List Entry → State
state_of_two row other = record { labels = []; choices = record { row = row; rewards = [] } ∷ record { row = other; rewards = [] } ∷ [] }

-- state 0 goes to states 1 and 2 with 1/2 each, and these stay
abbrev splits : Mdp
splits = record { names = []; labels = []; states = state (halves 1 2) ∷ state (only 1) ∷ state (only 2) ∷ [] }

-- state 0 goes to state 1, which stays, or with 1/2 each to itself and to state 2, which stays
abbrev trap : Mdp
trap = record { names = []; labels = []; states = state_of_two (only 1) (halves 0 2) ∷ state (only 1) ∷ state (only 2) ∷ [] }

-- state 2 is the goal
abbrev goal : List Bool
goal = false ∷ false ∷ true ∷ []

-- states 0 and 2; ranks 1 and 0 at them, and a rank at state 2 alone
abbrev ends : List Bool
ends = true ∷ false ∷ true ∷ []

abbrev end_ranks : List (Option ℕ)
end_ranks = Some 1 ∷ None ∷ Some 0 ∷ []

abbrev last_rank : List (Option ℕ)
last_rank = None ∷ None ∷ Some 0 ∷ []

-- 1 at state 0
abbrev first_one : List ℕ
first_one = 1 ∷ 0 ∷ 0 ∷ []

-- the rounds of the two models
abbrev two_rounds : List ℕ
two_rounds = 2 ∷ 1 ∷ 0 ∷ []

abbrev one_round : List ℕ
one_round = 0 ∷ 1 ∷ 0 ∷ []

-- ---- both are models

one_two : IsRow 3 (halves 1 2)
unfolding gcd gcd_with_fuel ratio of_int ◌+ℚ◌ lt_ℚ
one_two = record {
  distribution = record { ascending = refl; positive = All-from_recursion (λ x. of_int (pos 0) <ℚ x.prob) (halves 1 2) (record { lt = tt }, (record { lt = tt }, tt)); total = refl };
  in_range = All-from_recursion (λ x. x.target < 3) (halves 1 2) (omega arith, (omega arith, tt));
}

zero_two : IsRow 3 (halves 0 2)
unfolding gcd gcd_with_fuel ratio of_int ◌+ℚ◌ lt_ℚ
zero_two = record {
  distribution = record { ascending = refl; positive = All-from_recursion (λ x. of_int (pos 0) <ℚ x.prob) (halves 0 2) (record { lt = tt }, (record { lt = tt }, tt)); total = refl };
  in_range = All-from_recursion (λ x. x.target < 3) (halves 0 2) (omega arith, (omega arith, tt));
}

pub splits_model : IsMdp splits
splits_model = model_by splits (omega arith) (omega arith) ((omega arith, (one_two, tt)), ((omega arith, (one_row 3 1 (omega arith), tt)), ((omega arith, (one_row 3 2 (omega arith), tt)), tt)))

pub trap_model : IsMdp trap
trap_model = model_by trap (omega arith) (omega arith) ((omega arith, (one_row 3 1 (omega arith), (zero_two, tt))), ((omega arith, (one_row 3 1 (omega arith), tt)), ((omega arith, (one_row 3 2 (omega arith), tt)), tt)))

-- ---- state 0 that splits

-- may_reach marks states 0 and 2, with ranks 1 and 0
may_split : AreRanks (may_step splits []) (marked goal) 3 end_ranks
unfolding reached ranks_to ranks_test same_below agree
may_split = tested_ranks (may_step splits []) (marked goal) 3 end_ranks (may_respects splits [] splits_model) refl 1 refl

pub may_split_marks : AreReached (may_step splits []) (marked goal) 3 ends
may_split_marks = reached_marks (may_step splits []) (marked goal) 3 end_ranks may_split

pub may_split_ranks : AreLeastRanks (may_step splits []) (marked goal) 3 ends first_one
may_split_ranks = least_ranks (may_step splits []) (marked goal) 3 end_ranks may_split

-- where state 0 is blocked, it marks state 2 alone; where state 2 is, this makes no difference
pub blocked_marks : AreReached (may_step splits ends) (marked goal) 3 (false ∷ false ∷ true ∷ [])
unfolding reached ranks_to ranks_test same_below agree
blocked_marks =
    reached_marks (may_step splits ends) (marked goal) 3 last_rank
    (tested_ranks (may_step splits ends) (marked goal) 3 last_rank (may_respects splits ends splits_model) refl 0 refl)

-- without a target it marks none
pub no_target : AreReached (may_step splits []) (marked (false ∷ false ∷ false ∷ [])) 3 (false ∷ false ∷ false ∷ [])
unfolding reached ranks_to ranks_test same_below agree
no_target =
    reached_marks (may_step splits []) (marked (false ∷ false ∷ false ∷ [])) 3 (None ∷ None ∷ None ∷ [])
    (tested_ranks (may_step splits []) (marked (false ∷ false ∷ false ∷ [])) 3 (None ∷ None ∷ None ∷ []) (may_respects splits [] splits_model) refl 0 refl)

-- must_meet marks states 0 and 2, with ranks 1 and 0: state 0 comes to state 2 with probability 1/2
must_split : AreRanks (must_step splits) (marked goal) 3 end_ranks
unfolding reached ranks_to ranks_test same_below agree
must_split = tested_ranks (must_step splits) (marked goal) 3 end_ranks (must_respects splits splits_model) refl 1 refl

pub must_split_marks : AreReached (must_step splits) (marked goal) 3 ends
must_split_marks = reached_marks (must_step splits) (marked goal) 3 end_ranks must_split

pub must_split_ranks : AreLeastRanks (must_step splits) (marked goal) 3 ends first_one
must_split_ranks = least_ranks (must_step splits) (marked goal) 3 end_ranks must_split

-- may_avoid marks state 1
pub avoids_split : IsGreatestAvoiding splits goal (false ∷ true ∷ false ∷ [])
avoids_split = avoid_marks splits splits_model goal end_ranks must_split

-- sure_all marks state 2 alone, since state 0 may come to state 1
pub all_sure_split : IsSureAll splits goal (false ∷ false ∷ true ∷ [])
unfolding reached ranks_to ranks_test same_below agree
all_sure_split = (
  false ∷ true ∷ false ∷ [],
  avoids_split,
  sure_marks splits goal end_ranks must_split (true ∷ true ∷ false ∷ [])
      (reached_marks (may_step splits goal) (marked (false ∷ true ∷ false ∷ [])) 3 (Some 1 ∷ Some 0 ∷ None ∷ [])
      (tested_ranks (may_step splits goal) (marked (false ∷ true ∷ false ∷ [])) 3 (Some 1 ∷ Some 0 ∷ None ∷ []) (may_respects splits goal splits_model) refl 1 refl))
      last_rank refl left,
)
  where
    left : (s : ℕ) → s < 3 → rank_at last_rank s ≡ cond (marked (true ∷ true ∷ false ∷ []) s) None (rank_at end_ranks s)
    left zero h = refl
    left (suc zero) h = refl
    left (suc (suc zero)) h = refl
    left (suc (suc (suc s))) h = absurd (omega arith)

-- the states that can stay in a set, by the ranks inside it
can_stay : (m : Mdp) (set : ℕ → Bool) (ranks : List (Option ℕ)) → AreRanks (inside_step m set) (marked goal) (states_of m) ranks → (s : ℕ)
    → s < states_of m → (marked (map is_some ranks) s ≡ true) ↔ CanStay m goal set s
can_stay m set ranks a s h = let r = reached_marks (inside_step m set) (marked goal) (states_of m) ranks a in r.marks_reached s h

-- rounds_outside: state 1 is removed in the first round and state 0 in the second, since it may come to state 1
first_round : AreRanks (inside_step splits (left_after two_rounds 0)) (marked goal) 3 end_ranks
unfolding reached ranks_to ranks_test same_below agree
first_round = tested_ranks (inside_step splits (left_after two_rounds 0)) (marked goal) 3 end_ranks (inside_respects splits (left_after two_rounds 0) splits_model) refl 1 refl

second_round : AreRanks (inside_step splits (left_after two_rounds 1)) (marked goal) 3 last_rank
unfolding reached ranks_to ranks_test same_below agree
second_round = tested_ranks (inside_step splits (left_after two_rounds 1)) (marked goal) 3 last_rank (inside_respects splits (left_after two_rounds 1) splits_model) refl 0 refl

later_round : AreRanks (inside_step splits (left_after two_rounds 2)) (marked goal) 3 last_rank
unfolding reached ranks_to ranks_test same_below agree
later_round = tested_ranks (inside_step splits (left_after two_rounds 2)) (marked goal) 3 last_rank (inside_respects splits (left_after two_rounds 2) splits_model) refl 0 refl

-- from round k on, which is the last, nothing changes
ended : (m : Mdp) → IsMdp m → (rounds : List ℕ) (k : ℕ) → ((t : ℕ) → t < states_of m → get_or rounds t 0 ≤ k)
    → ((s : ℕ) → s < states_of m → (left_after rounds (k + 1) s ≡ true) ↔ CanStay m goal (left_after rounds k) s)
    → (i s : ℕ) → k ≤ i → s < states_of m → (left_after rounds (i + 1) s ≡ true) ↔ CanStay m goal (left_after rounds i) s
ended m ok rounds k low last i s l h =
    let same : (j t : ℕ) → k ≤ j → t < states_of m → left_after rounds j t ≡ left_after rounds k t = λ j t u v.
    (let w = low t v in left-top (get_or rounds t 0) j (omega (arith, w, u)) ∙ sym (left-top (get_or rounds t 0) k w)) in
    let p = last s h in (
      λ e. stays-alike m ok goal (left_after rounds k) (left_after rounds i) (λ t v. sym (same i t l v)) s h (p.0 (same (k + 1) s (omega arith) h ∙ sym (same (i + 1) s (omega (arith, l)) h) ∙ e)),
      λ w. same (i + 1) s (omega (arith, l)) h ∙ sym (same (k + 1) s (omega arith) h) ∙ p.1 (stays-alike m ok goal (left_after rounds i) (left_after rounds k) (λ t v. same i t l v) s h w),
    )

pub split_rounds : AreRounds splits goal two_rounds
split_rounds = record { count = refl; next = next }
  where
    low : (t : ℕ) → t < 3 → get_or two_rounds t 0 ≤ 2
    low zero h = omega arith
    low (suc zero) h = omega arith
    low (suc (suc zero)) h = omega arith
    low (suc (suc (suc t))) h = absurd (omega arith)

    first : (s : ℕ) → s < 3 → (left_after two_rounds 1 s ≡ true) ↔ CanStay splits goal (left_after two_rounds 0) s
    first zero h = can_stay splits (left_after two_rounds 0) end_ranks first_round 0 h
    first (suc zero) h = can_stay splits (left_after two_rounds 0) end_ranks first_round 1 h
    first (suc (suc zero)) h = can_stay splits (left_after two_rounds 0) end_ranks first_round 2 h
    first (suc (suc (suc s))) h = absurd (omega arith)

    second : (s : ℕ) → s < 3 → (left_after two_rounds 2 s ≡ true) ↔ CanStay splits goal (left_after two_rounds 1) s
    second zero h = can_stay splits (left_after two_rounds 1) last_rank second_round 0 h
    second (suc zero) h = can_stay splits (left_after two_rounds 1) last_rank second_round 1 h
    second (suc (suc zero)) h = can_stay splits (left_after two_rounds 1) last_rank second_round 2 h
    second (suc (suc (suc s))) h = absurd (omega arith)

    third : (s : ℕ) → s < 3 → (left_after two_rounds 3 s ≡ true) ↔ CanStay splits goal (left_after two_rounds 2) s
    third zero h = can_stay splits (left_after two_rounds 2) last_rank later_round 0 h
    third (suc zero) h = can_stay splits (left_after two_rounds 2) last_rank later_round 1 h
    third (suc (suc zero)) h = can_stay splits (left_after two_rounds 2) last_rank later_round 2 h
    third (suc (suc (suc s))) h = absurd (omega arith)

    next : (i s : ℕ) → s < 3 → (left_after two_rounds (i + 1) s ≡ true) ↔ CanStay splits goal (left_after two_rounds i) s
    next zero s h = first s h
    next (suc zero) s h = second s h
    next (suc (suc i)) s h = ended splits splits_model two_rounds 2 low third (suc (suc i)) s (omega arith) h

-- ---- state 0 that can be caught

-- the states from which a goal is reached by choices that stay with states 0 and 2
trap_inside : AreRanks (inside_step trap (marked ends)) (marked goal) 3 end_ranks
unfolding reached ranks_to ranks_test same_below agree
trap_inside = tested_ranks (inside_step trap (marked ends)) (marked goal) 3 end_ranks (inside_respects trap (marked ends) trap_model) refl 1 refl

-- state 1 comes to no goal whatever it stays with
never_out : (set : ℕ → Bool) (k : ℕ) → reached (inside_step trap set) (marked goal) k 1 ≡ true → false ≡ true
unfolding reached
never_out set zero e = e
never_out set (suc k) e = elim (cases_Bool (reached (inside_step trap set) (marked goal) k 1)) [
  | inl before ↦ never_out set k before
  | inr not_before ↦ elim (cases_Bool (set 1)) [ inl is ↦ sym (rw (not_before, is) refl) ∙ e | inr out ↦ sym (rw (not_before, out) refl) ∙ e ]
]

-- sure_some marks states 0 and 2, with ranks 1 and 0 and choice 1 at state 0
pub trap_sure : IsGreatestSure trap goal ends
unfolding reached
trap_sure = record { count = refl; sure = record { goals_in = goals_in; reaches = reaches }; greatest = greatest }
  where
    goals_in : (s : ℕ) → s < 3 → marked goal s ≡ true → marked ends s ≡ true
    goals_in zero h e = refl
    goals_in (suc zero) h e = e
    goals_in (suc (suc zero)) h e = refl
    goals_in (suc (suc (suc s))) h e = absurd (omega arith)

    reaches : (s : ℕ) → s < 3 → marked ends s ≡ true → (k : ℕ) × (reached (inside_step trap (marked ends)) (marked goal) k s ≡ true)
    reaches zero h e = (1, refl)
    reaches (suc zero) h e = absurd (false≢true e)
    reaches (suc (suc zero)) h e = (0, refl)
    reaches (suc (suc (suc s))) h e = absurd (omega arith)

    greatest : (set : ℕ → Bool) → IsSure trap goal set → (s : ℕ) → s < 3 → set s ≡ true → marked ends s ≡ true
    greatest set sure zero h e = refl
    greatest set sure (suc zero) h e = (let w = sure.reaches 1 h e in never_out set w.0 w.1)
    greatest set sure (suc (suc zero)) h e = refl
    greatest set sure (suc (suc (suc s))) h e = absurd (omega arith)

pub trap_ranks : AreLeastRanks (inside_step trap (marked ends)) (marked goal) 3 ends first_one
trap_ranks = least_ranks (inside_step trap (marked ends)) (marked goal) 3 end_ranks trap_inside

pub trap_choices : AreLeast trap goal ends (stays_and_falls trap ends first_one) first_one
trap_choices = record { count = refl; in_range = in_range; passes = passes; least = least; zero = zero_at }
  where
    in_range : (s : ℕ) → s < 3 → get_or first_one s 0 < length (choices_at trap s)
    in_range zero h = omega arith
    in_range (suc zero) h = omega arith
    in_range (suc (suc zero)) h = omega arith
    in_range (suc (suc (suc s))) h = absurd (omega arith)

    passes : (s : ℕ) → s < 3 → marked ends s ≡ true → marked goal s ≡ false → stays_and_falls trap ends first_one s (get_or first_one s 0) ≡ true
    passes zero h e g = refl
    passes (suc zero) h e g = absurd (false≢true e)
    passes (suc (suc zero)) h e g = absurd (false≢true (sym g))
    passes (suc (suc (suc s))) h e g = absurd (omega arith)

    least : (s c : ℕ) → s < 3 → stays_and_falls trap ends first_one s c ≡ true → c < length (choices_at trap s) → get_or first_one s 0 ≤ c
    least zero zero h e k = absurd (false≢true e)
    least zero (suc c) h e k = omega arith
    least (suc zero) c h e k = omega arith
    least (suc (suc zero)) c h e k = omega arith
    least (suc (suc (suc s))) c h e k = absurd (omega arith)

    zero_at : (s : ℕ) → s < 3 → (marked ends s ≡ false) ⊎ (marked goal s ≡ true) → get_or first_one s 0 ≡ 0
    zero_at zero h e = elim e [ inl unmarked ↦ absurd (false≢true (sym unmarked)) | inr is_goal ↦ absurd (false≢true is_goal) ]
    zero_at (suc zero) h e = refl
    zero_at (suc (suc zero)) h e = refl
    zero_at (suc (suc (suc s))) h e = absurd (omega arith)

-- rounds_outside: state 1 is removed in the first round, and state 0 never
trap_first : AreRanks (inside_step trap (left_after one_round 0)) (marked goal) 3 end_ranks
unfolding reached ranks_to ranks_test same_below agree
trap_first = tested_ranks (inside_step trap (left_after one_round 0)) (marked goal) 3 end_ranks (inside_respects trap (left_after one_round 0) trap_model) refl 1 refl

trap_later : AreRanks (inside_step trap (left_after one_round 1)) (marked goal) 3 end_ranks
unfolding reached ranks_to ranks_test same_below agree
trap_later = tested_ranks (inside_step trap (left_after one_round 1)) (marked goal) 3 end_ranks (inside_respects trap (left_after one_round 1) trap_model) refl 1 refl

pub trap_rounds : AreRounds trap goal one_round
trap_rounds = record { count = refl; next = next }
  where
    low : (t : ℕ) → t < 3 → get_or one_round t 0 ≤ 1
    low zero h = omega arith
    low (suc zero) h = omega arith
    low (suc (suc zero)) h = omega arith
    low (suc (suc (suc t))) h = absurd (omega arith)

    first : (s : ℕ) → s < 3 → (left_after one_round 1 s ≡ true) ↔ CanStay trap goal (left_after one_round 0) s
    first zero h = can_stay trap (left_after one_round 0) end_ranks trap_first 0 h
    first (suc zero) h = can_stay trap (left_after one_round 0) end_ranks trap_first 1 h
    first (suc (suc zero)) h = can_stay trap (left_after one_round 0) end_ranks trap_first 2 h
    first (suc (suc (suc s))) h = absurd (omega arith)

    second : (s : ℕ) → s < 3 → (left_after one_round 2 s ≡ true) ↔ CanStay trap goal (left_after one_round 1) s
    second zero h = can_stay trap (left_after one_round 1) end_ranks trap_later 0 h
    second (suc zero) h = can_stay trap (left_after one_round 1) end_ranks trap_later 1 h
    second (suc (suc zero)) h = can_stay trap (left_after one_round 1) end_ranks trap_later 2 h
    second (suc (suc (suc s))) h = absurd (omega arith)

    next : (i s : ℕ) → s < 3 → (left_after one_round (i + 1) s ≡ true) ↔ CanStay trap goal (left_after one_round i) s
    next zero s h = first s h
    next (suc i) s h = ended trap trap_model one_round 1 low second (suc i) s (omega arith) h

-- must_meet marks state 2 alone, since state 0 has a choice that never comes to it; may_reach marks state 0 as well
pub must_trap : AreReached (must_step trap) (marked goal) 3 (false ∷ false ∷ true ∷ [])
unfolding reached ranks_to ranks_test same_below agree
must_trap = reached_marks (must_step trap) (marked goal) 3 last_rank (tested_ranks (must_step trap) (marked goal) 3 last_rank (must_respects trap trap_model) refl 0 refl)

pub may_trap : AreReached (may_step trap []) (marked goal) 3 ends
unfolding reached ranks_to ranks_test same_below agree
may_trap = reached_marks (may_step trap []) (marked goal) 3 end_ranks (tested_ranks (may_step trap []) (marked goal) 3 end_ranks (may_respects trap [] trap_model) refl 1 refl)

-- ---- single definitions

pub by_rows : reached (row_step (halves 1 2 ∷ only 1 ∷ only 2 ∷ [])) (marked goal) 1 0 ≡ true
unfolding reached
by_rows = refl

pub takes_first : falls splits ends first_one 0 0 ≡ true
takes_first = refl

pub avoids_goal : keeps splits (false ∷ true ∷ false ∷ []) 1 0 ≡ true
avoids_goal = refl

pub one_leaves : keeps splits (true ∷ true ∷ false ∷ []) 0 0 ≡ false
one_leaves = refl

-- the rounds 2, 1, 0: the successor of state 0 with the smaller round is state 1, and that of state 1 is itself
pub falls_to_first : can_enter (earlier two_rounds 0) (halves 1 2) ≡ true
falls_to_first = refl

pub no_earlier : can_enter (earlier two_rounds 1) (only 1) ≡ false
no_earlier = refl
