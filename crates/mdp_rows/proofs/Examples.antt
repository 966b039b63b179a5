-- Drafts made call by call, and what is refused, computed.
pub mod Cut
pub mod Words
use Rattle.std.proofs.Common.{◌≡◌, ℕ, zero, suc, ◌<◌, arith, length, true, false, List, [], ◌∷◌, Some, None, refl, pos, neg_ℤ}
use Rattle.std.proofs.lemmas.List.Elements.{All-from_recursion}
use Rattle.std.specs.{Prelude.{Result, Ok, Err}, List.{All, concat}}
use borrow.Author.Tests.{leb-true}
use Rattle.mdp_math.specs.{Gcd.{gcd, gcd_with_fuel}, Rational.{ℚ, of_int, ratio, inv_ℚ, le_ℚ, lt_ℚ, ◌<ℚ◌, ◌+ℚ◌, ◌*ℚ◌}, Written.{narrow, narrow_ℚ, written_add}}
use Rattle.mdp_math.proofs.{Order.{0ℚ}, Tables.{AreEqual}}
use Rattle.mdp_num.specs.Numeral.{limit}
use Rattle.mdp_spec.specs.{Mdp.{Entry, Choice, Mdp, choices_at, row_at}, Row.{IsRow, IsMdp}}
use Rattle.mdp_spec.proofs.Small.{entry, half, one, third, two_thirds}
use Rattle.mdp_rows.specs.{Name.{IsName, IsRewardName}, Limits.{in_order_of_sight, HasSmallTerms, IsChoiceWithin, IsStateWithin, IsModel}}
use Rattle.mdp_rows.specs.Draft.{Draft, new_draft, ◌>>=◌, closed_row, kept_sum, after_state, after_label, after_choice, after_entry, after_finish}
use Rattle.mdp_rows.specs.{GivenRow.{in_order}, Negative.{has_negative}, Replay.{replayed}, declared.error.RowsError.{RowsError}}
use Rattle.mdp_rows.specs.declared.error.RowsError.TheVariants.{RowSum, RowWide, Twice, NoChoice, TooMany, Target, Large, Count}
use Rattle.mdp_rows.specs.{declared.rule.RowRule.{RowRule}, declared.rule.RowRule.TheVariants.{Exact, Scaled}}
use Rattle.mdp_rows.proofs.{SoundCalls.Rewards.{small_by}, Examples.Words.{minus_half, cost, init, goal, of_states}}

-- ---- the calls, and numbers

abbrev state : ℚ → Draft → Result Draft RowsError
state reward d = after_state d (reward ∷ [])

abbrev label : List ℕ → Draft → Result Draft RowsError
label name d = after_label d name

abbrev choice : ℚ → Draft → Result Draft RowsError
choice reward d = after_choice d (reward ∷ [])

abbrev add_entry : ℕ → ℚ → Draft → Result Draft RowsError
add_entry target value d = after_entry d target value

abbrev draft : ℕ → RowRule → Result Draft RowsError
draft states rule = Ok (new_draft states rule (cost ∷ []))

-- ---- a model of two states

abbrev made : Result Mdp RowsError
made =
    draft 2 Exact >>= state half >>= label init >>= choice one >>= add_entry 1 two_thirds >>= add_entry 0 third >>= choice 0ℚ >>= add_entry 1 one
    >>= state 0ℚ >>= label goal >>= label init >>= choice (of_int (pos 2)) >>= add_entry 0 0ℚ >>= add_entry 1 one >>= after_finish

abbrev mixed : List Entry
mixed = entry 0 third ∷ entry 1 two_thirds ∷ []

abbrev sure : List Entry
sure = entry 1 one ∷ []

abbrev first_choices : List Choice
first_choices = record { row = mixed; rewards = ratio (pos 3) 2 ∷ [] } ∷ record { row = sure; rewards = half ∷ [] } ∷ []

abbrev last_choices : List Choice
last_choices = record { row = sure; rewards = of_int (pos 2) ∷ [] } ∷ []

abbrev two : Mdp
two = of_states (record { labels = 0 ∷ []; choices = first_choices } ∷ record { labels = 0 ∷ 1 ∷ []; choices = last_choices } ∷ [])

-- the rewards of state 0 are added to those of its choices; the label `goal` is given first in state 1, and has the second place; the entry
-- of value 0 goes
two-made : made ≡ Ok two
unfolding gcd gcd_with_fuel ratio of_int ◌+ℚ◌ le_ℚ narrow narrow_ℚ written_add
two-made = refl

two-replayed : replayed two ≡ Ok two
unfolding gcd gcd_with_fuel ratio of_int ◌+ℚ◌ le_ℚ narrow narrow_ℚ written_add
two-replayed = refl

-- a cost of -1/2 behind one of 1/2 is 0, and behind none it is below 0
abbrev paid : ℚ → Result Mdp RowsError
paid own = draft 1 Exact >>= state own >>= choice minus_half >>= add_entry 0 one >>= after_finish

abbrev earns : ℚ → Mdp
earns reward = record { names = cost ∷ []; labels = []; states = record { labels = []; choices = record { row = entry 0 one ∷ []; rewards = reward ∷ [] } ∷ [] } ∷ [] }

sums_paid : AreEqual (
    (paid half, Ok (earns 0ℚ)) ∷  -- half cancels
    (paid 0ℚ, Ok (earns minus_half)) ∷  -- half below 0
    []
    )
unfolding gcd gcd_with_fuel ratio of_int ◌+ℚ◌ le_ℚ narrow narrow_ℚ written_add
sums_paid = refl

half-replayed : replayed (earns minus_half) ≡ Ok (earns minus_half)
unfolding gcd gcd_with_fuel ratio of_int ◌+ℚ◌ le_ℚ narrow narrow_ℚ written_add
half-replayed = refl

negative_sums : AreEqual (
    (has_negative (earns minus_half) 0, true) ∷  -- below 0
    (has_negative two 0, false) ∷  -- none below 0
    -- 0 isn't below 0
    (has_negative (earns 0ℚ) 0, false) ∷
    []
    )
unfolding gcd gcd_with_fuel ratio of_int lt_ℚ
negative_sums = refl

-- it is a model: its rows are distributions over its two states
mixed_row : IsRow 2 mixed
unfolding gcd gcd_with_fuel ratio of_int ◌+ℚ◌ lt_ℚ
mixed_row = record {
  distribution = record {
    ascending = refl;
    positive = All-from_recursion (λ x. of_int (pos 0) <ℚ x.prob) mixed (record { lt = tt }, (record { lt = tt }, tt));
    total = refl;
  };
  in_range = All-from_recursion (λ x. x.target < 2) mixed (omega arith, (omega arith, tt));
}

sure_row : IsRow 2 sure
unfolding gcd gcd_with_fuel ratio of_int ◌+ℚ◌ lt_ℚ
sure_row = record {
  distribution = record {
    ascending = refl;
    positive = All-from_recursion (λ x. of_int (pos 0) <ℚ x.prob) sure (record { lt = tt }, tt);
    total = refl;
  };
  in_range = All-from_recursion (λ x. x.target < 2) sure (omega arith, tt);
}

two-states : All (IsStateWithin 1) two.states
unfolding gcd gcd_with_fuel ratio of_int le_ℚ
two-states =
    All-from_recursion (IsStateWithin 1) two.states (
      record {
        ascending = refl;
        few_labels = omega arith;
        choices =
            All-from_recursion (IsChoiceWithin 1) first_choices (
              record { den = leb-true 3 limit refl; rewards = refl; terms = All-from_recursion HasSmallTerms (ratio (pos 3) 2 ∷ []) (small_by (ratio (pos 3) 2) refl, tt) },
              (record { den = leb-true 1 limit refl; rewards = refl; terms = All-from_recursion HasSmallTerms (half ∷ []) (small_by half refl, tt) }, tt),
            );
      },
      (
        record {
          ascending = refl;
          few_labels = omega arith;
          choices =
              All-from_recursion (IsChoiceWithin 1) last_choices
              (record { den = leb-true 1 limit refl; rewards = refl; terms = All-from_recursion HasSmallTerms (of_int (pos 2) ∷ []) (small_by (of_int (pos 2)) refl, tt) }, tt);
        },
        tt,
      ),
    )

two-mdp : IsMdp two
two-mdp = record { some = omega arith; few = omega arith; choice = choices; row = rows }
  where
    choices : (s : ℕ) → s < 2 → 0 < length (choices_at two s)
    choices zero h = omega arith
    choices (suc zero) h = omega arith
    choices (suc (suc s)) h = absurd (omega arith)

    rows : (s c : ℕ) → s < 2 → c < length (choices_at two s) → IsRow 2 (row_at two s c)
    rows zero zero h l = mixed_row
    rows zero (suc zero) h l = sure_row
    rows zero (suc (suc c)) h l = absurd (omega arith)
    rows (suc zero) zero h l = sure_row
    rows (suc zero) (suc c) h l = absurd (omega arith)
    rows (suc (suc s)) c h l = absurd (omega arith)

two-model : IsModel two
two-model = record {
  mdp = two-mdp;
  names = record { some = omega arith; few = omega arith; each = All-from_recursion IsRewardName (cost ∷ []) (refl, tt); different = refl; first = refl };
  labels = All-from_recursion IsName (init ∷ goal ∷ []) (refl, (refl, tt));
  different = refl;
  few_labels = omega arith;
  sight = refl;
  states = two-states;
  few_choices = omega arith;
  few_entries = omega arith;
}

-- labels in another order than that of their first sight
other-order : in_order_of_sight 0 (record { labels = 1 ∷ []; choices = [] } ∷ record { labels = 0 ∷ []; choices = [] } ∷ []) 2 ≡ false
other-order = refl

-- ---- rows

abbrev near_third : ℚ
near_third = ratio (pos 333333) 1000000

abbrev three_of : ℚ → List Entry
three_of x = entry 0 x ∷ entry 1 x ∷ entry 2 x ∷ []

closed_rows : AreEqual (
    -- 0.333333 three times adds to 0.999999
    (closed_row Exact 0 0 (three_of near_third), Err (RowSum 0 0)) ∷
    (closed_row Scaled 0 0 (three_of near_third), Ok (three_of third)) ∷  -- thirds scaled
    -- 0.333 three times adds to 0.999, which is near enough, and 0.334 three times to 1.002, which isn't
    (closed_row Scaled 0 0 (three_of (ratio (pos 333) 1000)), Ok (three_of third)) ∷
    (closed_row Scaled 0 0 (three_of (ratio (pos 334) 1000)), Err (RowSum 0 0)) ∷  -- thirds past bound
    -- no entry at all adds to 0
    (closed_row Exact 3 1 [], Err (RowSum 3 1)) ∷
    -- 1/10^36 and 1/(10^36 - 1) have no common denominator within the limit, and don't add to 1
    (closed_row Exact 0 0 (entry 0 (ratio (pos 1) limit) ∷ entry 1 (ratio (pos 1) 999999999999999999999999999999999999) ∷ []), Err (RowWide 0 0)) ∷
    -- 1/10^36 and 1 have one, but not 1/(10^36 + 1) and 10^36/(10^36 + 1)
    (closed_row Scaled 0 0 (entry 0 (ratio (pos 1) limit) ∷ entry 1 one ∷ []), Err (RowWide 0 0)) ∷
    []
    )
unfolding gcd gcd_with_fuel ratio of_int ◌+ℚ◌ le_ℚ inv_ℚ ◌*ℚ◌
closed_rows = refl

-- ---- what the calls refuse

rows_refused : AreEqual (
    -- the second choice of state 1 ends the first, whose row adds to 2/3
    ((draft 2 Exact >>= state 0ℚ >>= choice 0ℚ >>= add_entry 1 one >>= state 0ℚ >>= choice 0ℚ >>= add_entry 0 two_thirds >>= choice 0ℚ), Err (RowSum 1 0)) ∷
    -- an entry of value 0 stands until its row ends
    ((draft 2 Exact >>= state 0ℚ >>= choice 0ℚ >>= add_entry 1 0ℚ >>= add_entry 0 third >>= add_entry 1 two_thirds), Err Twice) ∷
    ((draft 2 Exact >>= state 0ℚ >>= choice 0ℚ >>= add_entry 2 one), Err Target) ∷  -- past target
    -- 10^36 and 1 add to more than 10^36
    ((draft 1 Exact >>= state (of_int (pos limit)) >>= choice one), Err Large) ∷
    -- the common denominator of 1/10^36 and 1/(10^36 - 1) is past width
    ((draft 1 Exact >>= state (ratio (pos 1) limit) >>= choice (ratio (pos 1) 999999999999999999999999999999999999)), Err Large) ∷
    -- and so do -10^36 and -1 in magnitude, while -10^36 and 0 stay
    ((draft 1 Exact >>= state (of_int (neg_ℤ (pos limit))) >>= choice (of_int (neg_ℤ (pos 1)))), Err Large) ∷
    []
    )
unfolding gcd gcd_with_fuel ratio of_int ◌+ℚ◌ le_ℚ narrow narrow_ℚ written_add
rows_refused = refl

least_kept : kept_sum (written_add (of_int (neg_ℤ (pos limit))) 0ℚ) ≡ Ok (of_int (neg_ℤ (pos limit)))
unfolding gcd gcd_with_fuel ratio of_int ◌+ℚ◌ narrow narrow_ℚ written_add
least_kept = refl

states_refused : AreEqual (
    ((draft 2 Exact >>= state 0ℚ >>= label init >>= state 0ℚ), Err (NoChoice 0)) ∷  -- no choice
    ((draft 1 Exact >>= state 0ℚ >>= choice 0ℚ >>= add_entry 0 one >>= state 0ℚ), Err Count) ∷  -- too many
    []
    )
unfolding gcd gcd_with_fuel ratio of_int ◌+ℚ◌ le_ℚ narrow narrow_ℚ written_add
states_refused = refl

ends_refused : AreEqual (
    ((draft 1 Exact >>= state 0ℚ >>= after_finish), Err (NoChoice 0)) ∷  -- no choice at end
    ((draft 2 Exact >>= state 0ℚ >>= choice 0ℚ >>= add_entry 0 one >>= after_finish), Err Count) ∷  -- too few
    []
    )
unfolding gcd gcd_with_fuel ratio of_int ◌+ℚ◌ le_ℚ narrow narrow_ℚ written_add
ends_refused = refl

-- the same label 64 times is one place, and once more is too often
abbrev label_often : List ℕ → Draft → Result Draft RowsError
label_often [] d = Ok d
label_often (n ∷ times) d = label init d >>= label_often times

abbrev eight : List ℕ
eight = 1 ∷ 2 ∷ 3 ∷ 4 ∷ 5 ∷ 6 ∷ 7 ∷ 8 ∷ []

abbrev times_64 : List ℕ
times_64 = concat (eight ∷ eight ∷ eight ∷ eight ∷ eight ∷ eight ∷ eight ∷ eight ∷ [])

labels_often : AreEqual (
    -- often label
    (
      (draft 1 Exact >>= state 0ℚ >>= label_often times_64),
      Ok (record (new_draft 1 Exact (cost ∷ [])) { labels = init ∷ []; state = Some (record { rewards = 0ℚ ∷ []; labels = 0 ∷ []; label_calls = 64; choices = []; choice = None }) }),
    ) ∷
    ((draft 1 Exact >>= state 0ℚ >>= label_often times_64 >>= label init), Err TooMany) ∷  -- too often
    []
    )
labels_often = refl

-- ---- entries given in other orders

orders : AreEqual (
    (in_order (entry 2 third ∷ entry 1 half ∷ entry 0 one ∷ []), entry 0 one ∷ entry 1 half ∷ entry 2 third ∷ []) ∷  -- descending
    (in_order (entry 1 half ∷ entry 2 third ∷ entry 0 one ∷ []), entry 0 one ∷ entry 1 half ∷ entry 2 third ∷ []) ∷  -- first last
    []
    )
orders = refl
