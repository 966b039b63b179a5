-- What a check of a value and a row says of the numbers, where the values are probabilities.
use Rattle.std.proofs.Common.{◌≡◌, ℕ, ◌<◌, Bool, true, false, List, Some, length, refl, sym, subst, option_map, if◌then◌else◌}
use Rattle.std.specs.Option.{IsSome}
use Rattle.mdp_math.specs.Rational.{ℚ, ◌+ℚ◌, ◌≤ℚ◌}
use Rattle.mdp_math.proofs.Laws.{zero-+ℚ}
use Rattle.mdp_num.specs.{Equal.{eq_ℚ}, OrderView.{equal_decides}}
use Rattle.mdp_spec.specs.{Mdp.{Entry, Mdp, states_of, choices_at, row_at, value_at}, Row.{IsRow, IsMdp, row_sum}}
use Rattle.mdp_farkas.specs.Compare.{0ℚ, 1ℚ}
use Rattle.mdp_farkas.proofs.Inequalities.{Stands}
use Rattle.mdp_rows.specs.{declared.dir.Dir.{Dir}, declared.dir.Dir.TheVariants.{Max, Min}}
use Rattle.mdp_bounds.specs.{Sum.{stands, told_sum}, Reach.{outermost, stands_to_row, stands_at}}
use Rattle.mdp_bounds.proofs.{Comparing.{stands_of, of_stands}, Sums.{told_sum-some, sum_at_most, sum_at_least, mapped_holds, mapped_sound}}

-- each value is from 0 to 1
abbrev pub AreWithin : ℕ → List ℚ → Type 0
AreWithin n z = (s : ℕ) → s < n → (0ℚ ≤ℚ value_at z s) × (value_at z s ≤ℚ 1ℚ)

module _ (n : ℕ) (row : List Entry) (known : IsRow n row) (z : List ℚ) where
  -- the outermost value stands to any row
  outer : (dir : Dir) → AreWithin n z → Stands dir (outermost dir) (row_sum row z)
  outer Max h = sum_at_most n row known z 1ℚ (λ s l. (h s l).1)
  outer Min h = sum_at_least n row known z 0ℚ (λ s l. (h s l).0)

  means : (v : ℚ) → Some v ≡ told_sum z 0ℚ row → v ≡ 0ℚ +ℚ row_sum row z
  means v e = told_sum-some n row known z 0ℚ v e

  holds_by : (dir : Dir) (x : ℚ) (b : Bool) → AreWithin n z → eq_ℚ x (outermost dir) ≡ b → (if b then Some true else option_map (stands dir x) (told_sum z 0ℚ row)) ≡ Some true
      → Stands dir x (row_sum row z)
  holds_by dir x true within e h = subst (λ (u : ℚ). Stands dir u (row_sum row z)) (sym ((equal_decides x (outermost dir)).0 e)) (outer dir within)
  holds_by dir x false within e h =
      subst (λ (u : ℚ). Stands dir x u) (zero-+ℚ (row_sum row z))
      (stands_of dir x (0ℚ +ℚ row_sum row z) (mapped_holds (stands dir x) (0ℚ +ℚ row_sum row z) (told_sum z 0ℚ row) means h))

  pub row_holds : (dir : Dir) (x : ℚ) → AreWithin n z → stands_to_row dir x z row ≡ Some true → Stands dir x (row_sum row z)
  row_holds dir x within h = holds_by dir x (eq_ℚ x (outermost dir)) within refl h

  sound_by : (dir : Dir) (x : ℚ) (b : Bool) → Stands dir x (row_sum row z) → IsSome (if b then Some true else option_map (stands dir x) (told_sum z 0ℚ row))
      → (if b then Some true else option_map (stands dir x) (told_sum z 0ℚ row)) ≡ Some true
  sound_by dir x true h w = refl
  sound_by dir x false h w =
      mapped_sound (stands dir x) (0ℚ +ℚ row_sum row z) (told_sum z 0ℚ row) means
      (of_stands dir x (0ℚ +ℚ row_sum row z) (subst (λ (u : ℚ). Stands dir x u) (sym (zero-+ℚ (row_sum row z))) h)) w

  pub row_sound : (dir : Dir) (x : ℚ) → Stands dir x (row_sum row z) → IsSome (stands_to_row dir x z row) → stands_to_row dir x z row ≡ Some true
  row_sound dir x h w = sound_by dir x (eq_ℚ x (outermost dir)) h w

module _ (m : Mdp) (known : IsMdp m) (z : List ℚ) where
  pub stands_at_of : (dir : Dir) (s c : ℕ) → s < states_of m → c < length (choices_at m s) → AreWithin (states_of m) z → stands_at dir m z s c ≡ Some true
      → Stands dir (value_at z s) (row_sum (row_at m s c) z)
  stands_at_of dir s c l i within h = row_holds (states_of m) (row_at m s c) (known.row s c l i) z dir (value_at z s) within h

  pub of_stands_at : (dir : Dir) (s c : ℕ) → s < states_of m → c < length (choices_at m s) → Stands dir (value_at z s) (row_sum (row_at m s c) z) → IsSome (stands_at dir m z s c)
      → stands_at dir m z s c ≡ Some true
  of_stands_at dir s c l i h w = row_sound (states_of m) (row_at m s c) (known.row s c l i) z dir (value_at z s) h w
