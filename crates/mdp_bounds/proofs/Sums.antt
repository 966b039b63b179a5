-- A sum that is told is the sum; and the outermost values stand to the sum over any row.
use Rattle.std.proofs.Common.{◌≡◌, ℕ, ◌<◌, Bool, true, false, List, [], ◌∷◌, Option, Some, None, refl, sym, ap}
use Rattle.std.proofs.Common.{ap₂, subst, ◌∙◌, pos, if◌then◌else◌, get_or, length, arith}
use Rattle.std.specs.{List.{list_all}, Option.{IsSome, option_map}}
use Rattle.mdp_math.specs.{Rational.{ℚ, ◌+ℚ◌, ◌*ℚ◌, ◌≤ℚ◌}, Written.{written_add}, Sum.{sum_of}}
use Rattle.mdp_math.proofs.{Options.{Some_same}, Booleans.{and-parts}, Written.{written_add-some}, Ring.{◌⊕◌, ◌⊗◌, lit, ring}, Laws.{rat_ring, zero-+ℚ}}
use Rattle.mdp_math.proofs.Kernel.{weigh-le_const, weigh-ge_const}
use Rattle.mdp_num.specs.{Equal.{eq_ℚ}, OrderView.{equal_decides}}
use Rattle.mdp_spec.specs.{Mdp.{Entry, value_at}, Row.{IsRow, entries, row_sum}, Written.{written_sum}}
use Rattle.mdp_spec.proofs.{Rows.{probs_nonneg, row_weigh-const}, Summed.{written_sum-some}}
use Rattle.mdp_farkas.specs.Compare.{0ℚ}
use Rattle.mdp_bounds.specs.Sum.{first_value, have_one_value, plain_add, targets_of, one_sum, or_else, told_sum}

pub plain_add-zero : (x : ℚ) → x +ℚ 0ℚ ≡ x
plain_add-zero x = ring rat_ring 1 (λ x. x ⊕ lit (pos 0)) (λ x. x) refl x

plain_by : (a b : Bool) (x y v : ℚ) → eq_ℚ x 0ℚ ≡ a → eq_ℚ y 0ℚ ≡ b → Some v ≡ (if a then Some y else (if b then Some x else written_add x y)) → v ≡ x +ℚ y
plain_by true b x y v e f h = Some_same v y h ∙ sym (zero-+ℚ y) ∙ ap (λ (u : ℚ). u +ℚ y) (sym ((equal_decides x 0ℚ).0 e))
plain_by false true x y v e f h = Some_same v x h ∙ sym (plain_add-zero x) ∙ ap (λ (u : ℚ). x +ℚ u) (sym ((equal_decides y 0ℚ).0 f))
plain_by false false x y v e f h = written_add-some x y v h

pub plain_add-some : (x y v : ℚ) → Some v ≡ plain_add x y → v ≡ x +ℚ y
plain_add-some x y v h = plain_by (eq_ℚ x 0ℚ) (eq_ℚ y 0ℚ) x y v refl refl h

pub plain_zero_left : (v : ℚ) → plain_add 0ℚ v ≡ Some v
plain_zero_left v = ap (λ (b : Bool). if b then Some v else (if eq_ℚ v 0ℚ then Some 0ℚ else written_add 0ℚ v)) ((equal_decides 0ℚ 0ℚ).1 refl)

-- ---- a row whose targets have one value

same_values : (z : List ℚ) (v : ℚ) (row : List Entry) → list_all (λ t. eq_ℚ (value_at z t) v) (targets_of row) ≡ true → row_sum row z ≡ sum_of (λ (x : Entry). x.prob *ℚ v) row
same_values z v [] e = refl
same_values z v (x ∷ row) e =
    let p = and-parts (eq_ℚ (value_at z x.target) v) (list_all (λ t. eq_ℚ (value_at z t) v) (targets_of row)) e in
    ap₂ (λ (a b : ℚ). x.prob *ℚ a +ℚ b) ((equal_decides (value_at z x.target) v).0 p.0) (same_values z v row p.1)

module _ (n : ℕ) (row : List Entry) (known : IsRow n row) (z : List ℚ) where
  pub one_value_sum : have_one_value z (targets_of row) ≡ true → row_sum row z ≡ first_value z (targets_of row)
  one_value_sum e = same_values z (first_value z (targets_of row)) row e ∙ row_weigh-const n row (first_value z (targets_of row)) known

  one_by : (b : Bool) (start v : ℚ) → have_one_value z (targets_of row) ≡ b
      → Some v ≡ (if b then plain_add start (first_value z (targets_of row)) else None) → v ≡ start +ℚ row_sum row z
  one_by true start v e h = plain_add-some start (first_value z (targets_of row)) v h ∙ ap (λ (u : ℚ). start +ℚ u) (sym (one_value_sum e))
  one_by false start v e h = cc

  told_by : (o : Option ℚ) (start v : ℚ) → one_sum z start (targets_of row) ≡ o → Some v ≡ or_else o (written_sum z start row) → v ≡ start +ℚ row_sum row z
  told_by (Some x) start v e h = one_by (have_one_value z (targets_of row)) start v refl (h ∙ sym e)
  told_by None start v e h = written_sum-some z start row v h

  pub told_sum-some : (start v : ℚ) → Some v ≡ told_sum z start row → v ≡ start +ℚ row_sum row z
  told_sum-some start v h = told_by (one_sum z start (targets_of row)) start v refl h

  -- ---- bounds on the sum

  times_total : (c : ℚ) → c *ℚ sum_of (λ (x : Entry). x.prob) row ≡ c
  times_total c = ap (λ (w : ℚ). c *ℚ w) known.distribution.total ∙ ring rat_ring 1 (λ c. c ⊗ lit (pos 1)) (λ c. c) refl c

  pub sum_at_most : (c : ℚ) → ((s : ℕ) → s < n → value_at z s ≤ℚ c) → row_sum row z ≤ℚ c
  sum_at_most c h =
      subst (λ (w : ℚ). row_sum row z ≤ℚ w) (times_total c)
      (weigh-le_const (λ (x : Entry). x.target) (λ (x : Entry). x.prob) (value_at z) c row (probs_nonneg n row known) (λ k d l. h (Entry.target (get_or row k d)) (known.in_range k d l)))

  pub sum_at_least : (c : ℚ) → ((s : ℕ) → s < n → c ≤ℚ value_at z s) → c ≤ℚ row_sum row z
  sum_at_least c h =
      subst (λ (w : ℚ). w ≤ℚ row_sum row z) (times_total c)
      (weigh-ge_const (λ (x : Entry). x.target) (λ (x : Entry). x.prob) (value_at z) c row (probs_nonneg n row known) (λ k d l. h (Entry.target (get_or row k d)) (known.in_range k d l)))

-- ---- a row that two lists spell

targets_of-entries : (ts : List ℕ) (ps : List ℚ) → length ts ≡ length ps → targets_of (entries ts ps) ≡ ts
targets_of-entries [] ps e = refl
targets_of-entries (t ∷ ts) [] e = absurd (omega arith)
targets_of-entries (t ∷ ts) (q ∷ ps) e = ap (λ (us : List ℕ). t ∷ us) (targets_of-entries ts ps (omega arith))

module _ (z : List ℚ) (start : ℚ) (ts : List ℕ) (ps : List ℚ) (same : length ts ≡ length ps) where
  pub told_as : (o : Option ℚ) → o ≡ one_sum z start ts → or_else o (written_sum z start (entries ts ps)) ≡ told_sum z start (entries ts ps)
  told_as o e =
      ap (λ (p : Option ℚ). or_else p (written_sum z start (entries ts ps))) e
      ∙ ap (λ (us : List ℕ). or_else (one_sum z start us) (written_sum z start (entries ts ps))) (sym (targets_of-entries ts ps same))

-- ---- what is asked of a value that may be missing

pub mapped_holds : (f : ℚ → Bool) (x : ℚ) (o : Option ℚ) → ((v : ℚ) → Some v ≡ o → v ≡ x) → option_map f o ≡ Some true → f x ≡ true
mapped_holds f x (Some v) means h = ap f (sym (means v refl)) ∙ Some_same (f v) true h
mapped_holds f x o means h = absurd cc

pub mapped_sound : (f : ℚ → Bool) (x : ℚ) (o : Option ℚ) → ((v : ℚ) → Some v ≡ o → v ≡ x) → f x ≡ true → IsSome (option_map f o) → option_map f o ≡ Some true
mapped_sound f x (Some v) means h w = ap Some (ap f (means v refl) ∙ h)
mapped_sound f x o means h w = absurd cc
