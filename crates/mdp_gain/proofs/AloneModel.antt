-- The model of one end component alone keeps within the limits of models, where the component hasn't all states: what one state outside has is room enough
-- for the one more state.
use Rattle.std.proofs.Common.{◌≡◌, ◌⊎◌, inl, inr, ℕ, ◌+◌, ◌<◌, ◌≤◌, Bool, true, false, not, List, [], ◌∷◌, ◌++◌, length, map}
use Rattle.std.proofs.{Common.{filter, get_or, Option, refl, sym, ap, subst, ◌∙◌, arith, pos}, lemmas.Int.{ints}, lemmas.List.{length-map, get_or_past}}
use Rattle.std.proofs.lemmas.List.Elements.{All-from_recursion, All-map, All-append, All-weaker, All-filter, All-from_get_or, All-head, All-tail}
use Rattle.std.proofs.{lemmas.List.Filters.{length-filter_both, sum_by-filter_both}, lemmas.List.FromFn.{length-range_with_len, fill_by_all}}
use Rattle.std.proofs.lemmas.List.Sums.{sum_by-cons, sum_by_push, get_or-le-sum_by}
use Rattle.std.specs.{Prelude.{slice_index, slice_index_or, sum_by}, List.{All, range_with_len}}
use Rattle.mdp_math.specs.{Gcd.{gcd, gcd_with_fuel}, Rational.{ℚ, of_int, ratio}}
use Rattle.mdp_math.proofs.{Laws.{num-of_int}, Numbers.{le_or}, Order.{0ℚ}}
use Rattle.mdp_num.specs.Numeral.{limit}
use Rattle.mdp_spec.specs.Mdp.{Entry, Choice, State, Mdp, no_state, no_choice, states_of, state_at, choices_at, choice_at, row_at}
use Rattle.mdp_spec.specs.{Row.{IsDistribution, IsRow, IsMdp}, Unit.{lcm, row_den, reward_of}}
use Rattle.mdp_rows.specs.{Name.{IsRewardName, AreRewardNames}, Limits.{in_order_of_sight, HasSmallTerms, IsChoiceWithin, IsStateWithin, IsModel}}
use Rattle.mdp_rows.specs.Sound.{IsClosedState, choice_count, entry_count}
use Rattle.mdp_rows.proofs.{ReplayStates.{closed_at}, SoundCalls.Rewards.{small_by}}
use Rattle.mdp_ends.specs.Ends.{in_part}
use Rattle.mdp_unichain.specs.Part.{IsPart, members, is_inner}
use Rattle.mdp_gain.specs.Alone.{placed_entry, to, row_alone, choice_alone, state_alone, elsewhere, only_name, alone}
use Rattle.mdp_gain.proofs.{MemberPlaces.{range_below, listed-below}, AloneRows.{alone-mdp}}

-- ---- sums

sum_by-map : {A B : Type 0} (g : B → ℕ) (f : A → B) (xs : List A) → sum_by g (map f xs) ≡ sum_by (λ x. g (f x)) xs
sum_by-map g f [] = refl
sum_by-map g f (x ∷ xs) = sum_by-cons g (f x) (map f xs) ∙ ap (λ (n : ℕ). g (f x) + n) (sum_by-map g f xs) ∙ sym (sum_by-cons (λ x. g (f x)) x xs)

sum_by-le_each : {A : Type 0} (f g : A → ℕ) (xs : List A) → All (λ x. f x ≤ g x) xs → sum_by f xs ≤ sum_by g xs
sum_by-le_each f g [] all = omega arith
sum_by-le_each f g (x ∷ xs) all =
    let a = sum_by-cons f x xs in
    let b = sum_by-cons g x xs in
    let here = All-head (λ x. f x ≤ g x) x xs all in
    let rest = sum_by-le_each f g xs (All-tail (λ x. f x ≤ g x) x xs all) in
    omega (arith, a, b, here, rest)

-- what passes a test, and one number that doesn't, sum up to at most the whole
sum_by-but_one : (p : ℕ → Bool) (w : ℕ → ℕ) (n : ℕ) → ((s : ℕ) → s < n → 1 ≤ w s) → length (filter p (range_with_len 0 n)) < n
    → sum_by w (filter p (range_with_len 0 n)) + 1 ≤ sum_by w (range_with_len 0 n)
sum_by-but_one p w n some room =
    let others : List ℕ = filter (λ s. not (p s)) (range_with_len 0 n) in
    let len = length-filter_both p (λ s. not (p s)) (λ s. refl) (range_with_len 0 n) in
    let all = length-range_with_len 0 n in
    let l : 0 < length others = omega (arith, len, all, room) in
    let below = All-filter (λ s. not (p s)) (λ s. s < n) (range_with_len 0 n) (range_below n) 0 0 l in
    let least = some (get_or others 0 0) below in
    let one = get_or-le-sum_by w others 0 0 l in
    let both = sum_by-filter_both p (λ s. not (p s)) (λ s. refl) w (range_with_len 0 n) in
    omega (arith, least, one, both)

-- a sum over the states, by their numbers
sum_by-numbers : (m : Mdp) (w : State → ℕ) → sum_by (λ s. w (state_at m s)) (range_with_len 0 (states_of m)) ≡ sum_by w m.states
sum_by-numbers m w =
    sym (sum_by-map w (state_at m) (range_with_len 0 (states_of m)))
    ∙ ap (λ (xs : List State). sum_by w xs) (sym (fill_by_all (state_at m) m.states (states_of m) no_state refl (λ k l. refl)))

-- ---- rows

zero_isnt_one : 0ℚ ≡ of_int (pos 1) → ⊥
zero_isnt_one e = let z : pos 0 ≡ pos 1 = sym (num-of_int (pos 0)) ∙ ap (λ (q : ℚ). q.num) e ∙ num-of_int (pos 1) in absurd (omega (arith, ints))

some_entry : (row : List Entry) → IsDistribution row → 1 ≤ length row
some_entry [] d = absurd (zero_isnt_one d.total)
some_entry (x ∷ row) d = omega arith

length-row_alone : (b : Bool) (states : List ℕ) (row : List Entry) → 1 ≤ length row → length (row_alone b states row) ≤ length row
length-row_alone true states row some = let e = length-map row (placed_entry states) in omega (arith, e)
length-row_alone false states row some = omega (arith, some)

to_den : (s : ℕ) → row_den (to s) ≡ 1
unfolding gcd gcd_with_fuel of_int
to_den s = refl

placed_den : (states : List ℕ) (row : List Entry) → row_den (map (placed_entry states) row) ≡ row_den row
placed_den states [] = refl
placed_den states (x ∷ row) = ap (λ (d : ℕ). lcm d x.prob.den) (placed_den states row)

den-row_alone : (b : Bool) (states : List ℕ) (row : List Entry) → row_den row ≤ limit → row_den (row_alone b states row) ≤ limit
den-row_alone true states row h = let e = placed_den states row in omega (arith, e, h)
den-row_alone false states row h = let e = to_den (length states) in omega (arith, e)

-- ---- rewards

zero_small : HasSmallTerms (of_int (pos 0))
unfolding gcd gcd_with_fuel ratio of_int
zero_small = small_by 0ℚ refl

reward_by : (rewards : List ℚ) (r : ℕ) → All HasSmallTerms rewards → (length rewards ≤ r) ⊎ (r < length rewards)
    → HasSmallTerms (slice_index_or rewards r (of_int (pos 0)))
reward_by rewards r all (inl past) = subst HasSmallTerms (sym (get_or_past rewards r (of_int (pos 0)) past)) zero_small
reward_by rewards r all (inr l) = all r (of_int (pos 0)) l

reward_small : (rewards : List ℚ) (r : ℕ) → All HasSmallTerms rewards → HasSmallTerms (slice_index_or rewards r (of_int (pos 0)))
reward_small rewards r all = reward_by rewards r all (le_or (length rewards) r)

-- ---- states

module _ (m : Mdp) (parts : List (Option ℕ)) (i r : ℕ) (ok : IsModel m) where
  abbrev states : List ℕ
  states = members m parts i

  abbrev own : ℕ → State
  own s = state_alone m parts i r states s

  abbrev width : ℕ → ℕ
  width s = length (choices_at m s)

  choice-within : (s c : ℕ) → s < states_of m → c < width s → IsChoiceWithin 1 (choice_alone m parts i r states s c)
  choice-within s c l h =
      let known = IsStateWithin.choices (IsClosedState.within (closed_at m ok s no_state l)) c no_choice h in
      record {
        den = den-row_alone (is_inner m parts i s c) states (row_at m s c) (IsChoiceWithin.den known);
        rewards = refl;
        terms = All-from_recursion HasSmallTerms (reward_of (choice_at m s c) r ∷ [])
            (reward_small (Choice.rewards (choice_at m s c)) r (IsChoiceWithin.terms known), tt);
      }

  state-within : (s : ℕ) → s < states_of m → IsStateWithin 1 (own s)
  state-within s l = record {
    ascending = refl;
    few_labels = omega arith;
    choices = All-map (IsChoiceWithin 1) (choice_alone m parts i r states s) (range_with_len 0 (width s))
        (All-weaker (λ c. c < width s) (λ c. IsChoiceWithin 1 (choice_alone m parts i r states s c)) (λ c h. choice-within s c l h)
        (range_with_len 0 (width s)) (range_below (width s)));
  }

  elsewhere-within : (n : ℕ) → IsStateWithin 1 (elsewhere n)
  elsewhere-within n = record {
    ascending = refl;
    few_labels = omega arith;
    choices = All-from_recursion (IsChoiceWithin 1) (State.choices (elsewhere n)) (
      record {
        den = (let e = to_den n in omega (arith, e));
        rewards = refl;
        terms = All-from_recursion HasSmallTerms (of_int (pos 0) ∷ []) (zero_small, tt);
      },
      tt,
    );
  }

  below : All (λ s. s < states_of m) states
  below = All-from_get_or (λ s. s < states_of m) states 0 (listed-below m parts i)

  states-within : All (IsStateWithin 1) (Mdp.states (alone m parts i r))
  states-within =
      All-append (IsStateWithin 1) (map own states) (elsewhere (length states) ∷ [])
      (All-map (IsStateWithin 1) own states (All-weaker (λ s. s < states_of m) (λ s. IsStateWithin 1 (own s)) state-within states below))
      (All-from_recursion (IsStateWithin 1) (elsewhere (length states) ∷ []) (elsewhere-within (length states), tt))

  -- no state has a label
  sight-alone : (xs : List ℕ) (n : ℕ) → in_order_of_sight 0 (map own xs ++ elsewhere n ∷ []) 0 ≡ true
  sight-alone [] n = refl
  sight-alone (x ∷ xs) n = sight-alone xs n

  -- ---- how many choices and entries there are

  abbrev row_count : List Choice → ℕ
  row_count choices = sum_by (λ c. length c.row) choices

  some_row : (s c : ℕ) → s < states_of m → c < width s → 1 ≤ length (row_at m s c)
  some_row s c l h = some_entry (row_at m s c) (IsRow.distribution (IsMdp.row (IsModel.mdp ok) s c l h))

  fewer_entries : (s : ℕ) → s < states_of m → row_count (State.choices (own s)) ≤ row_count (choices_at m s)
  fewer_entries s l =
      let numbers : List ℕ = range_with_len 0 (width s) in
      let a = sum_by-map (λ (c : Choice). length c.row) (choice_alone m parts i r states s) numbers in
      let b = sum_by-map (λ (c : Choice). length c.row) (choice_at m s) numbers in
      let same = ap (λ (cs : List Choice). row_count cs) (fill_by_all (choice_at m s) (choices_at m s) (width s) no_choice refl (λ k l. refl)) in
      let le =
      sum_by-le_each (λ c. length (row_alone (is_inner m parts i s c) states (row_at m s c))) (λ c. length (row_at m s c)) numbers
      (All-weaker (λ c. c < width s) (λ c. length (row_alone (is_inner m parts i s c) states (row_at m s c)) ≤ length (row_at m s c))
      (λ c h. length-row_alone (is_inner m parts i s c) states (row_at m s c) (some_row s c l h)) numbers (range_below (width s)))
      in
      omega (arith, a, b, same, le)

  some_entries : (s : ℕ) → s < states_of m → 1 ≤ row_count (choices_at m s)
  some_entries s l =
      let w = IsMdp.choice (IsModel.mdp ok) s l in
      let a = some_row s 0 l w in
      let b = get_or-le-sum_by (λ (c : Choice). length c.row) (choices_at m s) 0 no_choice w in
      omega (arith, a, b)

  same_width : (s : ℕ) → length (State.choices (own s)) ≤ width s
  same_width s =
      let e = length-map (range_with_len 0 (width s)) (choice_alone m parts i r states s) in
      let n = length-range_with_len 0 (width s) in
      omega (arith, e, n)

  choices-own : choice_count (map own states) ≤ sum_by width states
  choices-own =
      let a = sum_by-map (λ (x : State). length x.choices) own states in
      let le =
      sum_by-le_each (λ s. length (State.choices (own s))) width states
      (All-from_get_or (λ s. length (State.choices (own s)) ≤ width s) states 0 (λ k l. same_width (slice_index states k)))
      in
      omega (arith, a, le)

  entries-own : entry_count (map own states) ≤ sum_by (λ s. row_count (choices_at m s)) states
  entries-own =
      let a = sum_by-map (λ (x : State). row_count x.choices) own states in
      let le =
      sum_by-le_each (λ s. row_count (State.choices (own s))) (λ s. row_count (choices_at m s)) states
      (All-weaker (λ s. s < states_of m) (λ s. row_count (State.choices (own s)) ≤ row_count (choices_at m s)) fewer_entries states below)
      in
      omega (arith, a, le)

  module _ (room : length (members m parts i) < states_of m) where
    choices-alone : choice_count (Mdp.states (alone m parts i r)) ≤ choice_count m.states
    choices-alone =
        let a = sum_by_push (λ (x : State). length x.choices) (map own states) (elsewhere (length states)) in
        let b = choices-own in
        let c = sum_by-but_one (in_part parts i) width (states_of m) (λ s l. IsMdp.choice (IsModel.mdp ok) s l) room in
        let d = sum_by-numbers m (λ (x : State). length x.choices) in
        omega (arith, a, b, c, d)

    entries-alone : entry_count (Mdp.states (alone m parts i r)) ≤ entry_count m.states
    entries-alone =
        let a = sum_by_push (λ (x : State). row_count x.choices) (map own states) (elsewhere (length states)) in
        let b = entries-own in
        let c = sum_by-but_one (in_part parts i) (λ s. row_count (choices_at m s)) (states_of m) some_entries room in
        let d = sum_by-numbers m (λ (x : State). row_count x.choices) in
        omega (arith, a, b, c, d)

    module _ (k : IsPart m parts i) where
      one_name : AreRewardNames (only_name ∷ [])
      one_name = record { some = omega arith; few = omega arith; each = All-from_recursion IsRewardName (only_name ∷ []) (refl, tt); different = refl; first = refl }

      pub alone-model : IsModel (alone m parts i r)
      alone-model = record {
        mdp = alone-mdp m parts i k r room;
        names = one_name;
        labels = All-from_recursion _ [] tt;
        different = refl;
        few_labels = omega arith;
        sight = sight-alone states (length states);
        states = states-within;
        few_choices = let l = choices-alone in let f = IsModel.few_choices ok in omega (arith, l, f);
        few_entries = let l = entries-alone in let f = IsModel.few_entries ok in omega (arith, l, f);
      }
