-- The open row while it closes: sorted, and then with the values that it closes with.
use Rattle.std.proofs.{Common.{◌≡◌, ℕ, ◌<◌, Bool, false, not, ◌&&◌, IsTrue, List, [], ◌∷◌, get_or, length, sym, ap, subst, ◌∙◌}, lemmas.List.{length-map}}
use Rattle.std.proofs.{lemmas.List.Elements.{All-from_recursion}, lemmas.List.Sorted.{All-permutation, length_permutation}}
use Rattle.std.specs.{Prelude.{Result, Ok}, Global.{Vec}, Vec.{with_items}, List.{All, AllByRecursion}}
use Rattle.mdp_math.specs.Rational.{◌≤ℚ◌}
use Rattle.mdp_math.proofs.Order.{0ℚ}
use Rattle.mdp_spec.specs.{Mdp.{Entry}, Row.{ascends_from, IsDistribution}}
use Rattle.mdp_rows.specs.{Draft.{has_target, closed_row}, FlatDraft.{IsDraft}, Given.{row_of, entry_of}, GivenRow.{in_order, IsGivenRow}}
use Rattle.mdp_rows.specs.{declared.assembly.Assembly.TheInside.{Inside}, declared.assembly.Stage.TheVariants.{InRow}, declared.error.RowsError.{RowsError}}
use Rattle.mdp_rows.specs.{declared.given.Given.{Given}, declared.rule.RowRule.{RowRule}}
use Rattle.mdp_rows.proofs.{Assembled.Drafts.{items_are, is_with_values}, Assembled.GivenRows.{in_its_place, cleared}}
use Rattle.mdp_rows.proofs.{Assembled.InOrder.{in_order-permutes, in_order-has}, SoundCalls.Rows.{AreValues, closed_row-sound}}
use Rattle.mdp_rows.proofs.Assembled.Targets.{targets, same_length, same_ascending, same_range, same_has}

-- the open row was sorted, and then its values may have changed
pub record IsClosing (b : Inside) (sorted row : List Given) : Type 0 where
  pub sorted_is : row_of sorted ≡ in_order (row_of b.row.items)
  pub same : targets row ≡ targets sorted

sorted_len : (b : Inside) (sorted : List Given) → row_of sorted ≡ in_order (row_of b.row.items) → length sorted ≡ length b.row.items
sorted_len b sorted e =
    sym (length-map sorted entry_of) ∙ ap length e ∙ length_permutation (row_of b.row.items) (in_order (row_of b.row.items)) (in_order-permutes (row_of b.row.items)) ∙ length-map b.row.items entry_of

module _ (b : Inside) (sorted row before after : List Given) (is_before : before ≡ b.row.items) (order : row_of sorted ≡ in_order (row_of before))
    (is_after : after ≡ (let w : Vec Given = with_items b.row sorted in w.items)) where
  sorted_here : row_of sorted ≡ in_order (row_of b.row.items)
  sorted_here = order ∙ ap (λ (r : List Given). in_order (row_of r)) is_before

  after_is : after ≡ sorted
  after_is = is_after ∙ items_are b.row sorted (sorted_len b sorted sorted_here)

  pub is_closing : targets row ≡ targets after → IsClosing b sorted row
  is_closing same = record { sorted_is = sorted_here; same = same ∙ ap targets after_is }

  pub closes_as : (rule : RowRule) (s c : ℕ) (r : Result (List Entry) RowsError) → closed_row rule s c (row_of after) ≡ r → closed_row rule s c (in_order (row_of b.row.items)) ≡ r
  closes_as rule s c r h = ap (closed_row rule s c) (sym sorted_here ∙ ap row_of (sym after_is)) ∙ h

module _ (b : Inside) (sorted row : List Given) (ok : IsDraft b) (h : IsClosing b sorted row) where
  pub closing_len : length row ≡ length b.row.items
  closing_len = same_length row sorted h.same ∙ sorted_len b sorted h.sorted_is

  pub closing_items : (let w : Vec Given = with_items (with_items b.row sorted) row in w.items) ≡ row
  closing_items = items_are (with_items b.row sorted) row (same_length row sorted h.same ∙ ap length (sym (items_are b.row sorted (sorted_len b sorted h.sorted_is))))

  pub closing_ascends : IsTrue (ascends_from 0 (row_of row))
  closing_ascends = same_ascending row sorted h.same 0 (subst (λ (r : List Entry). IsTrue (ascends_from 0 r)) (sym h.sorted_is) ok.row.given.ascending)

  pub closing_has : (t : ℕ) → has_target (row_of row) t ≡ has_target (row_of b.row.items) t
  closing_has t = same_has row sorted h.same t ∙ ap (λ (r : List Entry). has_target r t) h.sorted_is ∙ in_order-has (row_of b.row.items) t

  pub closing_row : IsGivenRow b.announced (row_of row) b.targets
  closing_row =
      in_its_place b.announced (row_of b.row.items) b.targets ok.row.given (row_of row) closing_ascends
      (same_range row sorted h.same b.announced
      (subst (All (λ x. x.target < b.announced)) (sym h.sorted_is)
      (All-permutation (λ x. x.target < b.announced) (row_of b.row.items) (in_order (row_of b.row.items)) (in_order-permutes (row_of b.row.items)) ok.row.given.in_range)))
      closing_has

  pub is_with_closing : b.stage ≡ InRow → IsDraft (record b { row = with_items (with_items b.row sorted) row })
  is_with_closing stage =
      is_with_values b (with_items (with_items b.row sorted) row) ok (subst (λ (r : List Given). IsGivenRow b.announced (row_of r) b.targets) (sym closing_items) closing_row)
      (ap length closing_items ∙ closing_len) stage

-- the marks are taken away of the row that closed
pub unmarked : (b : Inside) (sorted row there : List Given) (marks : List Bool) → IsDraft b → IsClosing b sorted row → there ≡ row → length marks ≡ length b.targets
    → ((t : ℕ) → get_or marks t false ≡ (get_or b.targets t false && not (has_target (row_of there) t))) → IsGivenRow b.announced [] marks
unmarked b sorted row there marks ok h is as_many each =
    cleared b.announced (row_of b.row.items) b.targets ok.row.given (row_of row) marks (closing_has b sorted row ok h)
    (record { as_many = as_many; unmarked = λ t. each t ∙ ap (λ (r : List Given). get_or b.targets t false && not (has_target (row_of r) t)) is })

-- what it closes as is a distribution
values_nonnegative : (row : List Given) → AllByRecursion (λ x. 0ℚ ≤ℚ x.prob) (row_of row)
values_nonnegative [] = tt
values_nonnegative (g ∷ row) = (g.term.nonnegative, values_nonnegative row)

are_values : (b : Inside) → IsDraft b → AreValues b.announced (in_order (row_of b.row.items))
are_values b ok =
    let p = in_order-permutes (row_of b.row.items) in
    record {
      ascending = ok.row.given.ascending;
      in_range = All-permutation (λ x. x.target < b.announced) (row_of b.row.items) (in_order (row_of b.row.items)) p ok.row.given.in_range;
      nonnegative = All-permutation (λ x. 0ℚ ≤ℚ x.prob) (row_of b.row.items) (in_order (row_of b.row.items)) p
          (All-from_recursion (λ x. 0ℚ ≤ℚ x.prob) (row_of b.row.items) (values_nonnegative b.row.items));
    }

pub closing_distribution : (b : Inside) (rule : RowRule) (s c : ℕ) (k : List Entry) → IsDraft b → closed_row rule s c (in_order (row_of b.row.items)) ≡ Ok k → IsDistribution k
closing_distribution b rule s c k ok e = let f = closed_row-sound rule s c b.announced (in_order (row_of b.row.items)) k (are_values b ok) e in f.is_row.distribution
