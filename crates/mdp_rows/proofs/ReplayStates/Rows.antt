-- The entries of a row, given in the order of its targets, make that row; and it closes as it is.
use Rattle.std.proofs.Common.{◌≡◌, ℕ, ◌+◌, ◌≤◌, ◌<◌, ◌^◌, Bool, true, false, cond, not, IsTrue, leb, le-ltb, List, [], ◌∷◌, ◌++◌, length, Option, Some, None}
use Rattle.std.proofs.{Common.{unsigned_abs, refl, sym, ap, ap₂, ◌∙◌, subst, arith, if◌then◌else◌, append_assoc, append-nil}, lemmas.Int.{ints}}
use Rattle.std.proofs.{lemmas.Bool.{ne_eqb, lt-leb}, lemmas.List.Elements.{recursion_from_All}}
use Rattle.std.specs.{Prelude.{Result, Ok, Err}, List.{AllByRecursion}}
use Rattle.mdp_math.specs.Rational.{ℚ, of_int, le_ℚ, ◌<ℚ◌}
use Rattle.mdp_math.proofs.Order.{0ℚ, 1ℚ, positive}
use Rattle.mdp_num.specs.Numeral.{limit}
use Rattle.mdp_spec.specs.{Mdp.{Entry, State}, Row.{ascends_from, IsDistribution}, Unit.{row_den}}
use Rattle.mdp_rows.specs.Draft.{Draft, OpenState, is_one, is_zero, kept, ruled_row, closed_row, has_target, with_entry, after_entry, ◌>>=◌}
use Rattle.mdp_rows.specs.{Replay.{with_entries}, declared.error.RowsError.{RowsError}}
use Rattle.mdp_rows.specs.{declared.error.RowsError.TheVariants.{RowSum, RowWide, Target, Twice, TooMany}, declared.rule.RowRule.TheVariants.{Exact}}
use Rattle.mdp_rows.proofs.Assembled.InOrder.{all_before, not_there, goes_last}

-- a draft that has refused nothing
abbrev pub draft_of : ℕ → List (List ℕ) → List (List ℕ) → List State → Option OpenState → ℕ → Draft
draft_of announced names labels closed state entries =
    record { announced = announced; rule = Exact; names = names; labels = labels; closed = closed; state = state; entries = entries; refused = None }

-- ---- the entries

module _ (announced : ℕ) (names labels : List (List ℕ)) (closed : List State) (o : OpenState) (rewards : List ℚ) where
  abbrev in_row : List Entry → ℕ → Draft
  in_row row entries = draft_of announced names labels closed (Some (record o { choice = Some (record { rewards = rewards; row = row }) })) entries

  one_entry : (row : List Entry) (x : Entry) (rest : List Entry) (entries : ℕ) → IsTrue (ascends_from 0 (row ++ x ∷ rest)) → x.target < announced → entries < 2 ^ 24
      → after_entry (in_row row entries) x.target x.prob ≡ Ok (in_row (row ++ x ∷ []) (entries + 1))
  one_entry row x rest entries a l h =
      let all = all_before 0 row x rest a in
      let v : List Entry → Draft = λ r. in_row r (entries + 1) in
      ap (λ (b : Bool). if b then Err Target else (if has_target row x.target then Err Twice else (if leb (2 ^ 24) entries then Err TooMany else Ok (v (with_entry x row)))))
      (lt-leb announced x.target l)
      ∙ ap (λ (b : Bool). if b then Err Twice else (if leb (2 ^ 24) entries then Err TooMany else Ok (v (with_entry x row)))) (not_there x.target row all)
      ∙ ap (λ (b : Bool). if b then Err TooMany else Ok (v (with_entry x row))) (lt-leb (2 ^ 24) entries h)
      ∙ ap (λ (r : List Entry). Ok (v r)) (goes_last x row all)

  pub all_entries : (row rest : List Entry) (entries : ℕ) → IsTrue (ascends_from 0 (row ++ rest)) → AllByRecursion (λ x. x.target < announced) rest → entries + length rest ≤ 2 ^ 24
      → with_entries rest (in_row row entries) ≡ Ok (in_row (row ++ rest) (entries + length rest))
  all_entries row [] entries a all h = ap₂ (λ (r : List Entry) (n : ℕ). Ok (in_row r n)) (sym (append-nil row)) (omega arith)
  all_entries row (x ∷ rest) entries a all h =
      let same : (row ++ x ∷ []) ++ rest ≡ row ++ x ∷ rest = append_assoc row (x ∷ []) rest in
      ap (λ (r : Result Draft RowsError). r >>= with_entries rest) (one_entry row x rest entries a all.0 (omega arith))
      ∙ all_entries (row ++ x ∷ []) rest (entries + 1) (subst (λ (r : List Entry). IsTrue (ascends_from 0 r)) (sym same) a) all.1 (omega arith)
      ∙ ap₂ (λ (r : List Entry) (n : ℕ). Ok (in_row r n)) same (omega arith)

-- ---- the row closes as it is

one_is : is_one 1ℚ ≡ true
unfolding le_ℚ of_int
one_is = refl

not_zero : (x : ℚ) → 0ℚ <ℚ x → is_zero x ≡ false
not_zero x h = ne_eqb (unsigned_abs x.num) 0 (λ e. (let p = positive x h in absurd (omega (arith, ints))))

all_kept : (row : List Entry) → AllByRecursion (λ x. 0ℚ <ℚ x.prob) row → kept row ≡ row
all_kept [] all = refl
all_kept (x ∷ row) all = ap₂ (λ (b : Bool) (r : List Entry). cond (not b) (x ∷ r) r) (not_zero x.prob all.0) (all_kept row all.1)

pub closed_row-same : (s c : ℕ) (row : List Entry) → IsDistribution row → row_den row ≤ limit → closed_row Exact s c row ≡ Ok row
closed_row-same s c row d h =
    ap (λ (b : Bool). (if b then Err (RowWide s c) else Ok row) >>= λ given. ruled_row Exact s c given >>= λ values. Ok (kept values)) (le-ltb limit (row_den row) h)
    ∙ ap (λ (b : Bool). (if b then Ok row else Err (RowSum s c)) >>= λ values. Ok (kept values)) (ap is_one d.total ∙ one_is)
    ∙ ap (λ (r : List Entry). Ok r) (all_kept row (recursion_from_All (λ x. 0ℚ <ℚ x.prob) row d.positive))
