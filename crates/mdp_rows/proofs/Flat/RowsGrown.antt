-- Rows with one more.
use Rattle.std.proofs.Common.{◌≡◌, ℕ, zero, suc, ◌+◌, ◌-◌, ◌<◌, ◌^◌, List, [], ◌∷◌, ◌++◌, length, map, sum_by, refl, sym, ap, ap₂, subst, ◌∙◌, arith, length-append}
use Rattle.std.proofs.{lemmas.List.{length-map}, lemmas.List.Elements.{All-append, All-nil}}
use Rattle.std.specs.{List.{All}, Prelude.{Result, Ok, Err, OnErr}}
use Rattle.mdp_spec.specs.{Mdp.{Entry}, Row.{entries, IsDistribution}}
use Rattle.mdp_rows.specs.{Draft.{kept}, Given.{row_of, kept_given}, Pieces.{pieces, ArePlaces}, FlatRows.{rows_in, all_entries, AreRows}}
use Rattle.mdp_rows.specs.{declared.given.Given.{Given}, declared.rows.Rows.TheInside.{Inside}}
use Rattle.mdp_rows.proofs.{Flat.Growth.{one_place, pieces-more, pieces-sum, places-more, entries-append}, Flat.Kept.{kept_row, entries_of, kept-le}}
use Rattle.mdp_rows.proofs.Flat.Pieces.{length-entries}

-- the same contents
pub record AreSame (r s : Inside) : Type 0 where
  pub starts : s.starts.items ≡ r.starts.items
  pub targets : s.targets.items ≡ r.targets.items
  pub probs : s.probs.items ≡ r.probs.items

pub same_rows : (r s : Inside) → AreSame r s → rows_in s ≡ rows_in r
unfolding rows_in
same_rows r s e = ap₂ pieces (ap₂ entries e.targets e.probs) e.starts

pub same_are_rows : (r s : Inside) → AreSame r s → AreRows r → AreRows s
same_are_rows r s e ok = record {
  same_length = rw (e.targets, e.probs) ok.same_length;
  places = rw (e.starts, e.targets) ok.places;
  few_rows = rw e.starts ok.few_rows;
  few_entries = rw e.targets ok.few_entries;
  distributions = rw (same_rows r s e) ok.distributions;
}

-- one row more
pub record IsGrown (r s : Inside) (row : List Given) : Type 0 where
  pub targets : s.targets.items ≡ r.targets.items ++ map (λ g. g.target) (kept_given row)
  pub probs : s.probs.items ≡ r.probs.items ++ map (λ g. g.value) (kept_given row)
  pub starts : s.starts.items ≡ r.starts.items ++ length s.targets.items ∷ []

pub all_one : {X : Type 0} → (P : X → Type 0) (x : X) → P x → All P (x ∷ [])
all_one P x p zero d l = p
all_one P x p (suc i) d l = absurd (omega arith)

module _ (r : Inside) (ok : AreRows r) where
  places_of_entries : ArePlaces r.starts.items (length (all_entries r))
  places_of_entries = subst (λ (n : ℕ). ArePlaces r.starts.items n) (sym (length-entries r.targets.items r.probs.items ok.same_length)) ok.places

  pub total_entries : sum_by length (rows_in r) ≡ length r.targets.items
  unfolding rows_in
  total_entries = pieces-sum (all_entries r) r.starts.items places_of_entries ∙ length-entries r.targets.items r.probs.items ok.same_length

targets_grown : (ts us : List ℕ) (row : List Given) → us ≡ ts ++ map (λ g. g.target) (kept_given row) → length us ≡ length ts + length (kept_given row)
targets_grown ts us row e = ap length e ∙ length-append ts (map (λ x. x.target) (kept_given row)) ∙ ap (λ (n : ℕ). length ts + n) (length-map (kept_given row) (λ x. x.target))

pub few_targets : (r : Inside) (us : List ℕ) (row : List Given) → AreRows r → us ≡ r.targets.items ++ map (λ g. g.target) (kept_given row) → sum_by length (rows_in r) + length row < 2 ^ 32
    → length us < 2 ^ 32
few_targets r us row ok e h = let a = total_entries r ok in let b = targets_grown r.targets.items us row e in let k = kept-le row in omega arith

module _ (r s : Inside) (row : List Given) (g : IsGrown r s row) (ok : AreRows r) where
  all_entries_grown : all_entries s ≡ all_entries r ++ kept (row_of row)
  all_entries_grown =
      ap₂ entries g.targets g.probs
      ∙ entries-append r.targets.items (map (λ x. x.target) (kept_given row)) r.probs.items (map (λ x. x.value) (kept_given row)) ok.same_length
      ∙ ap (λ (e : List Entry). all_entries r ++ e) (entries_of (kept_given row) ∙ kept_row row)

  same_grown : length s.targets.items ≡ length s.probs.items
  same_grown =
      ap length g.targets ∙ length-append r.targets.items (map (λ x. x.target) (kept_given row))
      ∙ ap₂ ◌+◌ ok.same_length (length-map (kept_given row) (λ x. x.target) ∙ sym (length-map (kept_given row) (λ x. x.value)))
      ∙ sym (length-append r.probs.items (map (λ x. x.value) (kept_given row))) ∙ ap length (sym g.probs)

  end_grown : length s.targets.items ≡ length (all_entries r ++ kept (row_of row))
  end_grown = sym (length-entries s.targets.items s.probs.items same_grown) ∙ ap length all_entries_grown

  pub rows_grown : rows_in s ≡ rows_in r ++ kept (row_of row) ∷ []
  unfolding rows_in
  rows_grown =
      ap₂ pieces all_entries_grown g.starts
      ∙ pieces-more (all_entries r) (kept (row_of row)) r.starts.items (length s.targets.items) (places_of_entries r ok) end_grown

  pub are_rows_grown : IsDistribution (kept (row_of row)) → length r.starts.items < 2 ^ 32 - 1 → sum_by length (rows_in r) + length row < 2 ^ 32 → AreRows s
  are_rows_grown d few h = record {
    same_length = same_grown;
    places = rw g.starts (places-more r.starts.items (length r.targets.items) (length s.targets.items) ok.places (let b = targets_grown r.targets.items s.targets.items row g.targets in omega arith));
    few_rows = let l = ap length g.starts ∙ length-append r.starts.items (length s.targets.items ∷ []) in omega arith;
    few_entries = few_targets r s.targets.items row ok g.targets h;
    distributions = rw rows_grown (All-append IsDistribution (rows_in r) (kept (row_of row) ∷ []) ok.distributions (all_one IsDistribution (kept (row_of row)) d));
  }

-- a fact that holds in any case
pub on_err_of : {T E P : Type 0} → (r : Result T E) → P → OnErr r P
on_err_of (Ok x) p = tt
on_err_of (Err e) p = p

-- ---- no rows yet

module _ (r : Inside) (starts : r.starts.items ≡ 0 ∷ []) (targets : r.targets.items ≡ []) (probs : r.probs.items ≡ []) where
  pub no_rows : rows_in r ≡ []
  unfolding rows_in
  no_rows = ap₂ pieces (ap₂ entries targets probs) starts

  pub are_no_rows : AreRows r
  are_no_rows = record {
    same_length = rw (targets, probs) refl;
    places = rw (starts, targets) one_place;
    few_rows = rw starts (omega arith);
    few_entries = rw targets (omega arith);
    distributions = rw no_rows (All-nil IsDistribution);
  }
