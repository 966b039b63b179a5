-- A subsystem of a model is a model.
pub mod Handing
use Rattle.std.proofs.Common.{◌≡◌, ℕ, zero, suc, ◌+◌, ◌≤◌, ◌<◌, ◌^◌, Bool, true, false, ◌||◌, ◌&&◌, le-leb}
use Rattle.std.proofs.{Common.{List, [], ◌∷◌, length, map, sum_by, drop, get_or, pos, refl, sym, ap, subst, ◌∙◌, arith}, lemmas.Int.{ints}}
use Rattle.std.proofs.{lemmas.List.{length-map, drop_more, drop_all}, lemmas.List.Elements.{All-from_recursion, recursion_from_All, All-get_or}}
use Rattle.std.proofs.lemmas.List.Sums.{sum_by-cons}
use Rattle.std.specs.{List.{All, AllByRecursion}, Prelude.{Result, Ok}}
use Rattle.mdp_math.specs.{Gcd.{gcd, gcd_with_fuel}, Rational.{ℚ, of_int, ratio, lt_ℚ, le_ℚ, ◌+ℚ◌, ◌<ℚ◌}, Sum.{sum_of}}
use Rattle.mdp_math.proofs.{Laws.{num-of_int}, Order.{0ℚ}}
use Rattle.mdp_num.specs.{Meaning.{IsWithinLimit}, Numeral.{limit}}
use borrow.Author.Tests.{leb-true}
use Rattle.mdp_spec.specs.{Mdp.{Entry, Choice, State, Mdp, no_state, no_choice, states_of, state_at, choices_at, row_at}, Row.{IsDistribution, IsRow, IsMdp}}
use Rattle.mdp_spec.specs.{Sub.{loop_at, cut_from, sub_of}, Tree.{is_marked}, Unit.{row_den}}
use Rattle.mdp_rows.specs.{Limits.{known_after, all_below, in_order_of_sight, HasSmallTerms, IsChoiceWithin, IsStateWithin, IsModel}, Cut.{cut_state}}
use Rattle.mdp_rows.specs.{Draft.{Draft, new_draft, after_finish, ◌>>=◌}, Replay.{with_states, replayed}, declared.error.RowsError.{RowsError}}
use Rattle.mdp_rows.specs.{declared.rule.RowRule.TheVariants.{Exact}, Sound.{IsClosedState, choice_count, entry_count}}
use Rattle.mdp_rows.proofs.{SoundCalls.Rewards.{small_by}, ReplayStates.{closed_at, row_count, is_replayed}, ClosedRows.Within.{probs_within}}
use Rattle.mdp_rows.proofs.Calls.Steps.{ok_same}

-- ---- a loop

zero_small : HasSmallTerms 0ℚ
unfolding gcd gcd_with_fuel ratio of_int
zero_small = small_by 0ℚ refl

pub one_within : IsWithinLimit (of_int (pos 1))
unfolding gcd gcd_with_fuel ratio of_int le_ℚ
one_within = record { nonnegative = record { le = tt }; num = leb-true 1 limit refl; den = leb-true 1 limit refl }

zeros_small : (names : List (List ℕ)) → AllByRecursion HasSmallTerms (map (λ name. 0ℚ) names)
zeros_small [] = tt
zeros_small (name ∷ names) = (zero_small, zeros_small names)

abbrev loop_row : ℕ → List Entry
loop_row s = record { target = s; prob = of_int (pos 1) } ∷ []

loop_positive : of_int (pos 0) <ℚ of_int (pos 1)
unfolding of_int lt_ℚ
loop_positive = record { lt = tt }

loop_total : (s : ℕ) → sum_of (λ x. x.prob) (loop_row s) ≡ of_int (pos 1)
unfolding gcd gcd_with_fuel ratio of_int ◌+ℚ◌
loop_total s = refl

loop_den : (s : ℕ) → row_den (loop_row s) ≡ 1
unfolding gcd gcd_with_fuel of_int
loop_den s = refl

loop_is_row : (n s : ℕ) → s < n → IsRow n (loop_row s)
loop_is_row n s h = record {
  distribution = record {
    ascending = ap (λ (b : Bool). b && true) (le-leb 0 s (omega arith));
    positive = All-from_recursion (λ x. of_int (pos 0) <ℚ x.prob) (loop_row s) (loop_positive, tt);
    total = loop_total s;
  };
  in_range = All-from_recursion (λ x. x.target < n) (loop_row s) (h, tt);
}

loop_within : (names : List (List ℕ)) (s : ℕ) → IsChoiceWithin (length names) (loop_at names s)
loop_within names s = record {
  den = let e = loop_den s in omega (arith, e);
  rewards = length-map names (λ name. 0ℚ);
  terms = All-from_recursion HasSmallTerms (map (λ name. 0ℚ) names) (zeros_small names);
}

-- ---- one state

same_labels : (names : List (List ℕ)) (s : ℕ) (x : State) (stays : Bool) → State.labels (cut_state names s x stays) ≡ x.labels
same_labels names s x true = refl
same_labels names s x false = refl

closed_state : (n : ℕ) (names : List (List ℕ)) (s : ℕ) (x : State) (stays : Bool) → s < n → IsClosedState n (length names) x → IsClosedState n (length names) (cut_state names s x stays)
closed_state n names s x true h ok = ok
closed_state n names s x false h ok = record {
  some = omega arith;
  within = record {
    ascending = ok.within.ascending;
    few_labels = ok.within.few_labels;
    choices = All-from_recursion (IsChoiceWithin (length names)) (loop_at names s ∷ []) (loop_within names s, tt);
  };
  rows = All-from_recursion (λ c. IsRow n c.row) (loop_at names s ∷ []) (loop_is_row n s h, tt);
}

zero_isnt_one : 0ℚ ≡ of_int (pos 1) → ⊥
zero_isnt_one e = let z : pos 0 ≡ pos 1 = sym (num-of_int (pos 0)) ∙ ap (λ (q : ℚ). q.num) e ∙ num-of_int (pos 1) in absurd (omega (arith, ints))

has_entry : (row : List Entry) → IsDistribution row → 0 < length row
has_entry [] d = absurd (zero_isnt_one d.total)
has_entry (x ∷ row) d = omega arith

some_entries : (n : ℕ) (choices : List Choice) → 0 < length choices → AllByRecursion (λ c. IsRow n c.row) choices → 0 < row_count choices
some_entries n [] h all = absurd (omega arith)
some_entries n (c ∷ choices) h all =
    let s : row_count (c ∷ choices) ≡ length c.row + row_count choices = sum_by-cons (λ (x : Choice). length x.row) c choices in
    let l = has_entry c.row all.0.distribution in
    omega (arith, s, l)

fewer_choices : (n : ℕ) (names : List (List ℕ)) (s : ℕ) (x : State) (stays : Bool) → IsClosedState n (length names) x → length (State.choices (cut_state names s x stays)) ≤ length x.choices
fewer_choices n names s x true ok = omega arith
fewer_choices n names s x false ok = let h = ok.some in omega (arith, h)

fewer_entries : (n : ℕ) (names : List (List ℕ)) (s : ℕ) (x : State) (stays : Bool) → IsClosedState n (length names) x → row_count (State.choices (cut_state names s x stays)) ≤ row_count x.choices
fewer_entries n names s x true ok = omega arith
fewer_entries n names s x false ok =
    let h = some_entries n x.choices ok.some (recursion_from_All (λ c. IsRow n c.row) x.choices ok.rows) in
    let one : row_count (loop_at names s ∷ []) ≡ 1 = refl in
    omega (arith, h, one)

-- ---- all states

module _ (names : List (List ℕ)) (stays : ℕ → Bool) where
  pub length-cut : (s : ℕ) (states : List State) → length (cut_from names s states stays) ≡ length states
  length-cut s [] = refl
  length-cut s (x ∷ states) = let h = length-cut (suc s) states in omega (arith, h)

  pub cut_at : (s k : ℕ) (states : List State) (d : State) → k < length states → get_or (cut_from names s states stays) k d ≡ cut_state names (s + k) (get_or states k d) (stays (s + k))
  cut_at s k [] d h = absurd (omega arith)
  cut_at s zero (x ∷ states) d h = ap (λ (i : ℕ). cut_state names i x (stays i)) (let e : s ≡ s + 0 = omega arith in e)
  cut_at s (suc k) (x ∷ states) d h =
      cut_at (suc s) k states d (omega arith) ∙ ap (λ (i : ℕ). cut_state names i (get_or states k d) (stays i)) (let e : suc s + k ≡ s + suc k = omega arith in e)

  sight-cut : (s n total : ℕ) (states : List State) → in_order_of_sight n (cut_from names s states stays) total ≡ in_order_of_sight n states total
  sight-cut s n total [] = refl
  sight-cut s n total (x ∷ states) =
      ap (λ (ls : List ℕ). all_below (known_after n ls) ls && in_order_of_sight (known_after n ls) (cut_from names (suc s) states stays) total) (same_labels names s x (stays s))
      ∙ ap (λ (b : Bool). all_below (known_after n x.labels) x.labels && b) (sight-cut (suc s) (known_after n x.labels) total states)

  closed-cut : (n s : ℕ) (states : List State) → s + length states ≤ n → AllByRecursion (IsClosedState n (length names)) states
      → AllByRecursion (IsClosedState n (length names)) (cut_from names s states stays)
  closed-cut n s [] h all = tt
  closed-cut n s (x ∷ states) h all = (closed_state n names s x (stays s) (omega arith) all.0, closed-cut n (suc s) states (omega arith) all.1)

  -- what no state has more of when it is cut, all states together don't have more of
  total-cut : (of : List Choice → ℕ) → ((n s : ℕ) (x : State) → IsClosedState n (length names) x → of (State.choices (cut_state names s x (stays s))) ≤ of x.choices) → (n s : ℕ) (states : List State)
      → AllByRecursion (IsClosedState n (length names)) states → sum_by (λ x. of x.choices) (cut_from names s states stays) ≤ sum_by (λ x. of x.choices) states
  total-cut of fewer n s [] all = omega arith
  total-cut of fewer n s (x ∷ states) all =
      let y : State = cut_state names s x (stays s) in
      let rest : List State = cut_from names (suc s) states stays in
      let a = sum_by-cons (λ (z : State). of z.choices) y rest in
      let b = sum_by-cons (λ (z : State). of z.choices) x states in
      let f = fewer n s x all.0 in
      let g = total-cut of fewer n (suc s) states all.1 in
      omega (arith, a, b, f, g)

-- ---- the model

-- states that are closed make a model of their number
mdp_of_closed : (m : Mdp) → 0 < states_of m → states_of m ≤ 2 ^ 20 → All (IsClosedState (states_of m) (length m.names)) m.states → IsMdp m
mdp_of_closed m some few all = record {
  some = some;
  few = few;
  choice = λ s h. IsClosedState.some (All-get_or (IsClosedState (states_of m) (length m.names)) m.states s no_state h all);
  row = λ s c h l. IsClosedState.rows (All-get_or (IsClosedState (states_of m) (length m.names)) m.states s no_state h all) c no_choice l;
}

pub sub_is_model : (m : Mdp) (goals kept : List Bool) → IsModel m → IsModel (sub_of m goals kept)
unfolding sub_of
sub_is_model m goals kept ok =
    let stays : ℕ → Bool = λ s. is_marked goals s || is_marked kept s in
    let states : List State = cut_from m.names 0 m.states stays in
    let n : length states ≡ length m.states = length-cut m.names stays 0 m.states in
    let closed = recursion_from_All (IsClosedState (states_of m) (length m.names)) m.states (closed_at m ok) in
    let all : All (IsClosedState (length states) (length m.names)) states =
    subst (λ (k : ℕ). All (IsClosedState k (length m.names)) states) (sym n)
    (All-from_recursion (IsClosedState (states_of m) (length m.names)) states (closed-cut m.names stays (states_of m) 0 m.states (omega arith) closed))
    in
    let fewer : choice_count states ≤ choice_count m.states = total-cut m.names stays length (λ n s x. fewer_choices n m.names s x (stays s)) (states_of m) 0 m.states closed in
    let less : entry_count states ≤ entry_count m.states = total-cut m.names stays row_count (λ n s x. fewer_entries n m.names s x (stays s)) (states_of m) 0 m.states closed in
    let some = ok.mdp.some in
    let few = ok.mdp.few in
    record {
      mdp = mdp_of_closed (record m { states = states }) (omega (arith, n, some)) (omega (arith, n, few)) all;
      names = ok.names;
      labels = ok.labels;
      different = ok.different;
      few_labels = ok.few_labels;
      sight = sight-cut m.names stays 0 0 (length m.labels) m.states ∙ ok.sight;
      states = λ k d l. IsClosedState.within (all k d l);
      few_choices = let h = ok.few_choices in omega (arith, fewer, h);
      few_entries = let h = ok.few_entries in omega (arith, less, h);
    }

-- ---- what the model knows of its rows

pub row_within : (m : Mdp) (s c : ℕ) → IsModel m → s < states_of m → c < length (choices_at m s) → AllByRecursion (λ x. IsWithinLimit x.prob) (row_at m s c)
row_within m s c ok h l =
    let x = closed_at m ok s no_state h in
    recursion_from_All (λ x. IsWithinLimit x.prob) (row_at m s c) (probs_within (row_at m s c) (IsRow.distribution (x.rows c no_choice l)) (IsChoiceWithin.den (x.within.choices c no_choice l)))

pub rewards_each : (m : Mdp) (s c : ℕ) → IsModel m → s < states_of m → c < length (choices_at m s) → length (get_or (choices_at m s) c no_choice).rewards ≡ length m.names
rewards_each m s c ok h l = IsChoiceWithin.rewards (IsStateWithin.choices (ok.states s no_state h) c no_choice l)

-- ---- the subsystem, state by state

pub sub_at : (m : Mdp) (goals kept : List Bool) (s : ℕ) → s < states_of m
    → drop s (Mdp.states (sub_of m goals kept)) ≡ cut_state m.names s (state_at m s) (is_marked goals s || is_marked kept s) ∷ drop (s + 1) (Mdp.states (sub_of m goals kept))
unfolding sub_of
sub_at m goals kept s h =
    let stays : ℕ → Bool = λ i. is_marked goals i || is_marked kept i in
    let n : length (cut_from m.names 0 m.states stays) ≡ length m.states = length-cut m.names stays 0 m.states in
    drop_more (cut_from m.names 0 m.states stays) s no_state (omega (arith, n, h))
    ∙ ap (λ (x : State). x ∷ drop (s + 1) (cut_from m.names 0 m.states stays))
    (cut_at m.names stays 0 s m.states no_state h ∙ ap (λ (i : ℕ). cut_state m.names i (state_at m s) (stays i)) (let e : 0 + s ≡ s = omega arith in e))

pub sub_end : (m : Mdp) (goals kept : List Bool) (s : ℕ) → states_of m ≤ s → drop s (Mdp.states (sub_of m goals kept)) ≡ []
unfolding sub_of
sub_end m goals kept s h =
    let stays : ℕ → Bool = λ i. is_marked goals i || is_marked kept i in
    let n : length (cut_from m.names 0 m.states stays) ≡ length m.states = length-cut m.names stays 0 m.states in
    drop_all s (cut_from m.names 0 m.states stays) (omega (arith, n, h))

-- what a builder ends as that was given all of the subsystem's states
pub sub_comes_out : (m : Mdp) (goals kept : List Bool) (d : Draft) (cut : Mdp) → IsModel m
    → with_states m.names m.labels (Mdp.states (sub_of m goals kept)) (new_draft (states_of m) Exact m.names) ≡ Ok d
    → after_finish d ≡ Ok cut → cut ≡ sub_of m goals kept
unfolding sub_of
sub_comes_out m goals kept d cut ok given ends =
    let stays : ℕ → Bool = λ i. is_marked goals i || is_marked kept i in
    let states : List State = cut_from m.names 0 m.states stays in
    let n : length states ≡ length m.states = length-cut m.names stays 0 m.states in
    let g : replayed (sub_of m goals kept) ≡ Ok cut =
    ap (λ (k : ℕ). with_states m.names m.labels states (new_draft k Exact m.names) >>= after_finish) n ∙ ap (λ (r : Result Draft RowsError). r >>= after_finish) given ∙ ends
    in
    ok_same cut (sub_of m goals kept) (sym g ∙ is_replayed (sub_of m goals kept) (sub_is_model m goals kept ok))
