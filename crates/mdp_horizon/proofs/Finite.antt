-- Values of a bounded until are there, from 0 to 1, whatever rows are wide.
use Rattle.std.proofs.Common.{◌≡◌, ◌∙◌, ℕ, zero, suc, ◌+◌, ◌*◌, ◌<◌, ◌^◌, Bool, true, refl, sym, ap, subst, arith, ℤ, pos, negsuc, int_lt, ◌+ℤ◌, ◌≤ℤ◌}
use Rattle.std.proofs.{Common.{false, if◌then◌else◌, List, [], ◌∷◌, map, length, slice_index_or, Option, Some, None, unwrap_or}, lemmas.Int.{ints}}
use Rattle.std.proofs.{lemmas.List.{get_or-map}}
use Rattle.mdp_math.specs.{Rational.{ℚ, of_int, ratio, ◌+ℚ◌, ◌*ℚ◌, ◌≤ℚ◌, ◌<ℚ◌}, Sum.{EachAt}, Written.{narrow, ◌>>=◌}}
use Rattle.mdp_math.proofs.{Laws.{of_int-+ℤ}, Linear.{linear, linear_lt, known}, Options.{Some_same}, Order.{0ℚ, 1ℚ, of_int-le, ratio-nonneg, sub-pos}}
use Rattle.mdp_math.proofs.{Ring.{◌⊕◌, ◌⊗◌, ⊖, lit}, SumsAt.{sum_at-sum_of, EachAt_mono}, Written.{narrow-kept}}
use Rattle.mdp_spec.specs.{Mdp.{Entry, Mdp, states_of, row_at}, Row.{IsRow, IsMdp}, Tree.{is_marked}, Bounds.{reward_at}}
use Rattle.mdp_spec.proofs.Rows.{row_weigh, row_weigh-const, targets_at}
use Rattle.mdp_rows.specs.{declared.dir.Dir.{Dir}, declared.dir.Dir.TheVariants.{Max, Min}}
use Rattle.mdp_horizon.specs.{Objective.Objective.{until}, declared.choice.Scale.{Scale}, declared.choice.Term.{Term}}
use Rattle.mdp_horizon.specs.Whole.{in_units, whole_at, rounded, opposite, farther}
use Rattle.mdp_horizon.specs.Scaled.{scaled, scale_of, terms_of, no_term, divided, farthest_from, farthest, start_to, trivial, or_else, rounded_start, rounded_sum}
use Rattle.mdp_horizon.specs.{Columns.{cover, follow, shown, Bounds, bounds_of}, Finite.{AreProbabilities}}
use Rattle.mdp_horizon.proofs.{Directions.{NoBetter, row_sum-no_better}, Both.{AreBoth, next_both, ended_both}, Fractions.{kept}, Gap.{whole_le, between_of}}
use Rattle.mdp_horizon.proofs.{StepsLemmas.{cover_states, follow_states}, Totals.{number_at, weighed, exact, IsRounded, divided-is, start_to-is}}
use Rattle.mdp_horizon.proofs.Units.{units-one, in_units-is, no_better_in_units}

-- from 0 to one
abbrev pub IsInside : ℕ → ℤ → Type 0
IsInside one k = (pos 0 ≤ℤ k) × (k ≤ℤ pos one)

abbrev pub BothInside : ℕ → ℤ → ℤ → Type 0
BothInside one k j = IsInside one k × IsInside one j

-- a value that is there and inside
abbrev pub IsThere : ℕ → Option ℤ → Type 0
IsThere one o = (k : ℤ) × (o ≡ Some k) × IsInside one k

one_of : (one : ℕ) (b : Bool) (x y : ℤ) → IsInside one x → IsInside one y → IsInside one (if b then y else x)
one_of one true x y p q = q
one_of one false x y p q = p

farther_inside : (side : Dir) (one : ℕ) (x y : ℤ) → IsInside one x → IsInside one y → IsInside one (farther side x y)
farther_inside Max one x y p q = one_of one (int_lt x y) x y p q
farther_inside Min one x y p q = one_of one (int_lt y x) x y p q

-- ---- the exact sum

weighed_beyond : (dir : Dir) (n : ℕ) (row : List Entry) (column : List (Option ℤ)) (c : ℚ) → IsRow n row
    → ((t : ℕ) → t < n → NoBetter dir (number_at column t) c) → NoBetter dir (weighed column row) c
weighed_beyond dir n row column c known_ h =
    subst (λ (x : ℚ). NoBetter dir (weighed column row) x) (row_weigh-const n row c known_)
    (subst (λ (x : ℚ). NoBetter dir x (row_weigh (λ v. c) row)) (sum_at-sum_of row (λ y. y.prob *ℚ number_at column y.target))
    (row_sum-no_better dir n row (λ e y. number_at column y.target) (λ v. c) known_
    (EachAt_mono row (λ e y. y.target < n) (λ e y. NoBetter dir (number_at column y.target) c) (λ e y l. h y.target l) (targets_at n row known_))))

number_inside : (one : ℕ) (column : List (Option ℤ)) (t : ℕ) → IsThere one (whole_at column t) → (0ℚ ≤ℚ number_at column t) × (number_at column t ≤ℚ of_int (pos one))
number_inside one column t p =
    let is : number_at column t ≡ of_int p.0 = ap (λ (o : Option ℤ). of_int (unwrap_or o (pos 0))) p.1 in (
      subst (λ (x : ℚ). 0ℚ ≤ℚ x) (sym is) (of_int-le (pos 0) p.0 p.2.0),
      subst (λ (x : ℚ). x ≤ℚ of_int (pos one)) (sym is) (of_int-le p.0 (pos one) p.2.1),
    )

-- below the next whole number
below_next : (b a : ℤ) → of_int b <ℚ of_int a +ℚ of_int (pos 1) → b ≤ℤ a
below_next b a h =
    let l : b ≤ℤ ((a +ℤ negsuc 0) +ℤ pos 1) =
    between_of (a +ℤ negsuc 0) b 0
    (subst (λ (x : ℚ). of_int b <ℚ x +ℚ (of_int (pos 0) +ℚ of_int (pos 2))) (sym (of_int-+ℤ a (negsuc 0)))
    (linear_lt 2 (λ b a. b) (λ b a. (a ⊕ lit (negsuc 0)) ⊕ (lit (pos 0) ⊕ lit (pos 2))) (λ b a. (a ⊕ lit (pos 1)) ⊕ ⊖ b) (λ b a. []) refl (of_int b) (of_int a)
    (sub-pos (of_int b) (of_int a +ℚ 1ℚ) h)))
    in
    omega (arith, ints)

narrow_inside : (one : ℕ) (k : ℤ) → one < 2 ^ 127 → IsInside one k → narrow (pos 0 +ℤ k) ≡ Some k
narrow_inside one (pos k) small i = let top = i.1 in let z : 0 + k ≡ k = omega arith in ap (λ (j : ℕ). narrow (pos j)) z ∙ narrow-kept (pos k) (omega (arith, ints))
narrow_inside one (negsuc k) small i = let low = i.0 in absurd (omega (arith, ints))

start_zero : (side : Dir) (one : ℕ) → rounded_start side (pos one) 0ℚ ≡ Some (pos 0)
unfolding narrow of_int
start_zero Max one = let z : 0 * one ≡ 0 = omega arith in ap (λ (j : ℕ). narrow (pos j) >>= (λ n. let o : Option ℤ = Some (rounded Max n (pos 1)) in o)) z
start_zero Min one = let z : 0 * one ≡ 0 = omega arith in ap (λ (j : ℕ). narrow (pos j) >>= (λ n. let o : Option ℤ = Some (rounded Min n (pos 1)) in o)) z

module _ (n one : ℕ) (row : List Entry) (column : List (Option ℤ)) (known_ : IsRow n row) (there : (t : ℕ) → t < n → IsThere one (whole_at column t)) where
  exact_low : 0ℚ ≤ℚ exact one 0ℚ row column
  exact_low =
      linear 2 (λ o w. lit (pos 0)) (λ o w. o ⊗ lit (pos 0) ⊕ w) (λ o w. known (lit (pos 0)) w ∷ []) refl (of_int (pos one)) (weighed column row)
      (weighed_beyond Min n row column 0ℚ known_ (λ t l. (number_inside one column t (there t l)).0))

  exact_high : exact one 0ℚ row column ≤ℚ of_int (pos one)
  exact_high =
      linear 2 (λ o w. o ⊗ lit (pos 0) ⊕ w) (λ o w. o) (λ o w. known w o ∷ []) refl (of_int (pos one)) (weighed column row)
      (weighed_beyond Max n row column (of_int (pos one)) known_ (λ t l. (number_inside one column t (there t l)).1))

  -- rounded it stays inside
  rounded_inside : (side : Dir) (k : ℤ) → IsRounded side one 0ℚ row column k → IsInside one k
  rounded_inside Max k r = (
    whole_le (pos 0) k
        (linear 2 (λ e k. lit (pos 0)) (λ e k. k) (λ e k. known (lit (pos 0)) e ∷ known e k ∷ []) refl (exact one 0ℚ row column) (of_int k) exact_low r.beyond),
    let p : of_int k <ℚ of_int (pos one) +ℚ of_int (pos 1) =
        linear_lt 3 (λ e k o. k) (λ e k o. o ⊕ lit (pos 1)) (λ e k o. (e ⊕ lit (pos 1)) ⊕ ⊖ k) (λ e k o. known e o ∷ []) refl (exact one 0ℚ row column) (of_int k) (of_int (pos one))
        (sub-pos (of_int k) (exact one 0ℚ row column +ℚ 1ℚ) r.close) exact_high
        in
        below_next k (pos one) p,
  )
  rounded_inside Min k r = (
    let p : of_int (pos 0) <ℚ of_int k +ℚ of_int (pos 1) =
        linear_lt 2 (λ e k. lit (pos 0)) (λ e k. k ⊕ lit (pos 1)) (λ e k. (k ⊕ lit (pos 1)) ⊕ ⊖ e) (λ e k. known (lit (pos 0)) e ∷ []) refl (exact one 0ℚ row column) (of_int k)
        (sub-pos (exact one 0ℚ row column) (of_int k +ℚ 1ℚ) r.close) exact_low
        in
        below_next (pos 0) k p,
    whole_le k (pos one)
        (linear 3 (λ e k o. k) (λ e k o. o) (λ e k o. known k e ∷ known e o ∷ []) refl (exact one 0ℚ row column) (of_int k) (of_int (pos one)) r.beyond exact_high),
  )

  -- ---- the trivial value

  start_inside : (side : Dir) → start_to side (scaled (pos one) 0ℚ row) ≡ Some (pos 0)
  start_inside side = start_to-is side one 0ℚ row ∙ start_zero side one

  farthest_inside : (side : Dir) (common : ℤ) (row : List Entry) (far : ℤ) → EachAt row (λ e y. y.target < n) → IsInside one far → IsThere one (farthest_from side column far (terms_of common row))
  farthest_inside side common [] far all h = (far, refl, h)
  farthest_inside side common (x ∷ row) far all h =
      let p = there x.target all.0 in
      let rest = farthest_inside side common row (farther side far p.0) all.1 (farther_inside side one far p.0 h p.2) in
      (rest.0, ap (λ (o : Option ℤ). (o >>= (λ k. let r : Option ℤ = Some (farther side far k) in r)) >>= (λ far. farthest_from side column far (terms_of common row))) p.1 ∙ rest.1, rest.2)

  first_target : (common : ℤ) (row : List Entry) → 0 < n → EachAt row (λ e y. y.target < n) → Term.target (slice_index_or (terms_of common row) 0 no_term) < n
  first_target common [] some all = some
  first_target common (x ∷ row) some all = all.0

  trivial_inside : (side : Dir) → 0 < n → one < 2 ^ 127 → IsThere one (trivial side column (scaled (pos one) 0ℚ row))
  trivial_inside side some small =
      let common : ℤ = Scale.common (scale_of (pos one) 0ℚ row) in
      let first = there (Term.target (slice_index_or (terms_of common row) 0 no_term)) (first_target common row some (targets_at n row known_)) in
      let far = farthest_inside side common row first.0 (targets_at n row known_) first.2 in
      let f : farthest side column (terms_of common row) ≡ Some far.0 = ap (λ (o : Option ℤ). o >>= (λ far. farthest_from side column far (terms_of common row))) first.1 ∙ far.1 in (
        far.0,
        ap (λ (o : Option ℤ). o >>= (λ start. farthest side column (terms_of common row) >>= (λ far. narrow (start +ℤ far)))) (start_inside side)
            ∙ ap (λ (o : Option ℤ). o >>= (λ far. narrow (pos 0 +ℤ far))) f ∙ narrow_inside one far.0 small far.2,
        far.2,
      )

  sum_by : (side : Dir) (o : Option ℤ) → divided side column (scaled (pos one) 0ℚ row) ≡ o → 0 < n → one < 2 ^ 127 → IsThere one (or_else o (trivial side column (scaled (pos one) 0ℚ row)))
  sum_by side None e some small = trivial_inside side some small
  sum_by side (Some k) e some small = (k, refl, rounded_inside side k (divided-is side one 0ℚ row column k e))

  pub sum_inside : (side : Dir) → 0 < n → one < 2 ^ 127 → IsThere one (rounded_sum side column (scaled (pos one) 0ℚ row))
  unfolding rounded_sum
  sum_inside side some small = sum_by side (divided side column (scaled (pos one) 0ℚ row)) refl some small

-- ---- all steps

ended_inside : (one : ℕ) (b : Bool) → IsInside one (if b then pos one else pos 0)
ended_inside one true = (omega (arith, ints), omega (arith, ints))
ended_inside one false = (omega (arith, ints), omega (arith, ints))

stopped_inside : (one : ℕ) (b c : Bool) (k : ℤ) → (if b then Some (pos one) else if c then None else Some (pos 0)) ≡ Some k → IsInside one k
stopped_inside one true c k e = subst (IsInside one) (Some_same (pos one) k e) (ended_inside one true)
stopped_inside one false true k e = cc
stopped_inside one false false k e = subst (IsInside one) (Some_same (pos 0) k e) (ended_inside one false)

module _ (dir : Dir) (one : ℕ) (m : Mdp) (stay goals : List Bool) (known_ : IsMdp m) (small : one < 2 ^ 127) where
  pub inside_each : (n s : ℕ) → s < states_of m → AreBoth (BothInside one) (whole_at (cover dir (pos one) m (until stay goals) n) s) (whole_at (follow dir (pos one) m (until stay goals) n) s)
  inside_each zero s h =
      ended_both dir (BothInside one) (pos one) m (until stay goals) s h (ended_inside one (is_marked goals s), ended_inside one (is_marked goals s))
  inside_each (suc n) s h =
      next_both dir (BothInside one) (λ k j a b p q. (farther_inside dir one k a p.0 q.0, farther_inside dir one j b p.1 q.1)) (pos one) m (until stay goals) known_ n s h
      (λ k e. let i = stopped_inside one (is_marked goals s) (is_marked stay s) k e in (i, i))
      (λ c l.
      let a =
      sum_inside (states_of m) one (row_at m s c) (cover dir (pos one) m (until stay goals) n) (known_.row s c h l) (λ t i. let p = inside_each n t i in (p.0, p.2, p.4.0)) dir known_.some small in
      let b =
      sum_inside (states_of m) one (row_at m s c) (follow dir (pos one) m (until stay goals) n) (known_.row s c h l) (λ t i. let p = inside_each n t i in (p.1, p.3, p.4.1)) (opposite dir) known_.some small
      in (a.0, b.0, a.1, b.1, (a.2, b.2)))

-- ---- as fractions

shown_inside : (one : ℕ) (column : List (Option ℤ)) (s : ℕ) (k : ℤ) → 0 < one → one < 2 ^ 127 → s < length column → whole_at column s ≡ Some k → IsInside one k
    → (x : ℚ) × (reward_at (map (shown (pos one)) column) s ≡ Some x) × (0ℚ ≤ℚ x) × (x ≤ℚ 1ℚ)
shown_inside one column s (negsuc k) above small h e i = let p = i.0 in absurd (omega (arith, ints))
shown_inside one column s (pos k) above small h e i =
    let top = i.1 in (
      ratio (pos k) one,
      get_or-map (shown (pos one)) column s (Some (pos 0)) (Some 0ℚ) h ∙ ap (shown (pos one)) e ∙ kept (pos k) one above (omega (arith, ints)) small,
      ratio-nonneg k one above,
      subst (λ (x : ℚ). ratio (pos k) one ≤ℚ x) (units-one one above)
          (subst (λ (x : ℚ). x ≤ℚ in_units (pos one) (pos one)) (sym (in_units-is one (pos k) above)) (no_better_in_units Max one (of_int (pos k)) (pos one) above (of_int-le (pos k) (pos one) top))),
    )

pub finite_is : (dir : Dir) (one : ℕ) (m : Mdp) (stay goals : List Bool) (n : ℕ) → 0 < one → one < 2 ^ 127 → IsMdp m
    → AreProbabilities (states_of m) (Bounds.lower (bounds_of dir (pos one) m (until stay goals) n)) × AreProbabilities (states_of m) (Bounds.upper (bounds_of dir (pos one) m (until stay goals) n))
unfolding bounds_of
finite_is Max one m stay goals n above small known_ = (
  λ s h. let p = inside_each Max one m stay goals known_ small n s h in
      shown_inside one (follow Max (pos one) m (until stay goals) n) s p.1 above small (omega (arith, follow_states Max (pos one) m (until stay goals) n)) p.3 p.4.1,
  λ s h. let p = inside_each Max one m stay goals known_ small n s h in
      shown_inside one (cover Max (pos one) m (until stay goals) n) s p.0 above small (omega (arith, cover_states Max (pos one) m (until stay goals) n)) p.2 p.4.0,
)
finite_is Min one m stay goals n above small known_ = (
  λ s h. let p = inside_each Min one m stay goals known_ small n s h in
      shown_inside one (cover Min (pos one) m (until stay goals) n) s p.0 above small (omega (arith, cover_states Min (pos one) m (until stay goals) n)) p.2 p.4.0,
  λ s h. let p = inside_each Min one m stay goals known_ small n s h in
      shown_inside one (follow Min (pos one) m (until stay goals) n) s p.1 above small (omega (arith, follow_states Min (pos one) m (until stay goals) n)) p.3 p.4.1,
)

-- the same of what the code answers
pub finite_by : (dir : Dir) (one : ℕ) (m : Mdp) (stay goals : List Bool) (n : ℕ) (b : Bounds) → 0 < one → one < 2 ^ 127 → IsMdp m → b ≡ bounds_of dir (pos one) m (until stay goals) n
    → AreProbabilities (states_of m) b.lower × AreProbabilities (states_of m) b.upper
finite_by dir one m stay goals n b above small known_ e =
    subst (λ (b : Bounds). AreProbabilities (states_of m) b.lower × AreProbabilities (states_of m) b.upper) (sym e) (finite_is dir one m stay goals n above small known_)
