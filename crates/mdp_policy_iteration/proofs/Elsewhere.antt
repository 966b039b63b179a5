-- Two policies that differ at some nodes alone, to which no other node leads: the other nodes keep their rows, their constants and their equations.
use Rattle.std.proofs.Common.{◌≡◌, ℕ, ◌<◌, inl, inr, Bool, true, false, not, if◌then◌else◌, List, [], ◌∷◌, length, get_or}
use Rattle.std.proofs.{Common.{Option, Some, None, refl, sym, ◌∙◌, ap, ap₂, subst, arith, zero-add, pos}, lemmas.List.{get_or_past}}
use Rattle.std.proofs.lemmas.List.Elements.{All-nil, All-head, All-tail, All-weaker, All-filter}
use Rattle.std.proofs.lemmas.List.FromFn.{get_or-map-range_with_len, length-map-range_with_len}
use Rattle.std.specs.List.{All}
use Rattle.mdp_math.specs.{Rational.{ℚ, of_int}, Written.{written_add, written_mul, ◌>>=◌}}
use Rattle.mdp_math.proofs.Numbers.{le_or}
use Rattle.mdp_wide.specs.declared.too_wide.Kind.TheVariants.{Evaluate}
use Rattle.mdp_spec.specs.{Mdp.{Entry, value_at}, Written.{written_sum}}
use Rattle.mdp_rows.specs.Preds.{is_among}
use Rattle.mdp_elim.specs.{Equation.{Equation, no_equation}, Predecessors.{at}, System.{is_active, row_of, inner, equation_of}}
use Rattle.mdp_elim.specs.Kept as elimination
use Rattle.mdp_policy_iteration.specs.Problem.{Problem, Move, stop, go, count, node_at, goes_on, row_from, move_by, fits_by, taken, active_of, rows_of}
use Rattle.mdp_policy_iteration.specs.{Places.{Place, at_place}, Path.{fits, stop_value, boundary, outer, constant_by, constant}}
use Rattle.mdp_policy_iteration.specs.Evaluated.{equations_of, DifferAt}
use Rattle.mdp_policy_iteration.proofs.Chain.{row-at, active-at, rows-len, active-len}

-- ---- sums over the entries to nodes that aren't active: of the values only those of such nodes count

module _ (a b : List Bool) (v w : List ℚ) where
  -- at this target the same is active, and it has the same value where it is not
  pub record AreAlike (t : ℕ) : Type 0 where
    pub active : is_active a t ≡ is_active b t
    pub value : is_active b t ≡ false → value_at v t ≡ value_at w t

  module _ (x : Entry) (row : List Entry) (here : AreAlike x.target) (rest : (acc : ℚ) → written_sum v acc (outer a row) ≡ written_sum w acc (outer b row)) where
    then_rest : (o : Option ℚ) → (o >>= (λ sum. written_sum v sum (outer a row))) ≡ (o >>= (λ sum. written_sum w sum (outer b row)))
    then_rest None = refl
    then_rest (Some sum) = rest sum

    with_term : (acc : ℚ) (o : Option ℚ)
        → (o >>= (λ term. written_add acc term >>= (λ sum. written_sum v sum (outer a row)))) ≡ (o >>= (λ term. written_add acc term >>= (λ sum. written_sum w sum (outer b row))))
    with_term acc None = refl
    with_term acc (Some term) = then_rest (written_add acc term)

    outer_by : (acc : ℚ) (c : Bool) → is_active b x.target ≡ c
        → written_sum v acc (if not c then x ∷ outer a row else outer a row) ≡ written_sum w acc (if not c then x ∷ outer b row else outer b row)
    outer_by acc true e = rest acc
    outer_by acc false e =
        with_term acc (written_mul x.prob (value_at v x.target))
        ∙ ap (λ (z : ℚ). written_mul x.prob z >>= (λ term. written_add acc term >>= (λ sum. written_sum w sum (outer b row)))) (here.value e)

    outer-more : (acc : ℚ) → written_sum v acc (outer a (x ∷ row)) ≡ written_sum w acc (outer b (x ∷ row))
    outer-more acc =
        ap (λ (c : Bool). written_sum v acc (if not c then x ∷ outer a row else outer a row)) here.active ∙ outer_by acc (is_active b x.target) refl

  outer_sum-same : (acc : ℚ) (row : List Entry) → All (λ x. AreAlike x.target) row → written_sum v acc (outer a row) ≡ written_sum w acc (outer b row)
  outer_sum-same acc [] h = refl
  outer_sum-same acc (x ∷ row) h =
      outer-more x row (All-head (λ x. AreAlike x.target) x row h) (λ acc. outer_sum-same acc row (All-tail (λ x. AreAlike x.target) x row h)) acc

  -- the constant of a node's equation
  pub constant_by-same : (s : ℕ) (m : Move) → All (λ x. AreAlike x.target) (row_from s m) → constant_by a v m ≡ constant_by b w m
  constant_by-same s (stop u) h = refl
  constant_by-same s (go r row) h = outer_sum-same r row h

-- the entries to active nodes
inner-same : (a b : List Bool) (row : List Entry) → All (λ x. is_active a x.target ≡ is_active b x.target) row → inner a row ≡ inner b row
inner-same a b [] h = refl
inner-same a b (x ∷ row) h =
    let IsSame : Entry → Type 0 = λ x. is_active a x.target ≡ is_active b x.target in
    ap₂ (λ (c : Bool) (r : List Entry). if c then x ∷ r else r) (All-head IsSame x row h) (inner-same a b row (All-tail IsSame x row h))

module _ (p : Problem) (policy : List ℕ) where
  boundary-len : length (boundary p policy) ≡ count p
  boundary-len = length-map-range_with_len (λ s. stop_value (taken p policy s)) 0 (count p)

  boundary-at : (s : ℕ) → s < count p → value_at (boundary p policy) s ≡ stop_value (taken p policy s)
  boundary-at s l = get_or-map-range_with_len (λ s. stop_value (taken p policy s)) 0 (count p) s s (of_int (pos 0)) l (zero-add s)

  -- the constant by values that are right where nodes stop
  module _ (active : List Bool) (values : List ℚ) (marks : active ≡ active_of p policy) (len : length values ≡ count p)
      (stops : (s : ℕ) → s < count p → goes_on (taken p policy s) ≡ false → value_at values s ≡ stop_value (taken p policy s)) where
    outside : (t : ℕ) → is_active (active_of p policy) t ≡ false → value_at values t ≡ value_at (boundary p policy) t
    outside t e = elim (le_or (count p) t) [
      | inl past ↦
          (let n = boundary-len in
          get_or_past values t (of_int (pos 0)) (omega arith) ∙ sym (get_or_past (boundary p policy) t (of_int (pos 0)) (omega arith)))
      | inr l ↦ stops t l (sym (active-at p policy t l) ∙ e) ∙ sym (boundary-at t l)
    ]

    pub constant_by-is : (s : ℕ) (m : Move) → constant_by active values m ≡ constant_by (active_of p policy) (boundary p policy) m
    constant_by-is s m =
        constant_by-same active (active_of p policy) values (boundary p policy) s m
        (λ k d l. let t = (get_or (row_from s m) k d).target in record { active = ap (λ (a : List Bool). is_active a t) marks; value = outside t })

pub equations-len : (p : Problem) (policy : List ℕ) (constants : List ℚ) → length (equations_of p policy constants) ≡ count p
equations-len p policy constants =
    length-map-range_with_len (equation_of (rows_of p policy) (active_of p policy) (constants ∷ [])) 0 (length (rows_of p policy)) ∙ rows-len p policy

module _ (p : Problem) (nodes before policy : List ℕ) (differ : DifferAt p nodes before policy) where
  pub taken-same : (s : ℕ) → s < count p → is_among s nodes ≡ false → taken p policy s ≡ taken p before s
  taken-same s l out = ap (move_by (node_at p s)) (differ.same s l out)

  pub fits-same : (s : ℕ) → s < count p → is_among s nodes ≡ false → fits p policy s ≡ fits p before s
  fits-same s l out = ap (fits_by (node_at p s)) (differ.same s l out)

  active-same : (s : ℕ) → is_among s nodes ≡ false → is_active (active_of p policy) s ≡ is_active (active_of p before) s
  active-same s out = elim (le_or (count p) s) [
    | inl past ↦
        (let m = active-len p policy in
        let n = active-len p before in
        get_or_past (active_of p policy) s false (omega arith) ∙ sym (get_or_past (active_of p before) s false (omega arith)))
    | inr l ↦ active-at p policy s l ∙ ap goes_on (taken-same s l out) ∙ sym (active-at p before s l)
  ]

  boundary-same : (s : ℕ) → is_among s nodes ≡ false → value_at (boundary p policy) s ≡ value_at (boundary p before) s
  boundary-same s out = elim (le_or (count p) s) [
    | inl past ↦
        (let m = boundary-len p policy in
        let n = boundary-len p before in
        get_or_past (boundary p policy) s _ (omega arith) ∙ sym (get_or_past (boundary p before) s _ (omega arith)))
    | inr l ↦ boundary-at p policy s l ∙ ap stop_value (taken-same s l out) ∙ sym (boundary-at p before s l)
  ]

  pub constant-same : (s : ℕ) → s < count p → is_among s nodes ≡ false → constant p policy s ≡ constant p before s
  constant-same s l out =
      ap₂ (λ (r : Place) (o : Option ℚ). at_place r o) (ap (λ (c : ℕ). let r : Place = record { kind = Evaluate; node = s; choice = c } in r) (differ.same s l out))
      (constant_by-same (active_of p policy) (active_of p before) (boundary p policy) (boundary p before) s (taken p policy s)
      (All-weaker (λ (x : Entry). is_among x.target nodes ≡ false) (λ (x : Entry). AreAlike (active_of p policy) (active_of p before) (boundary p policy) (boundary p before) x.target)
      (λ x e. record { active = active-same x.target e; value = λ _. boundary-same x.target e }) (row_from s (taken p policy s)) (differ.closed s l out))
      ∙ ap (constant_by (active_of p before) (boundary p before)) (taken-same s l out))

  -- ---- equations

  row-same : (s : ℕ) → s < count p → is_among s nodes ≡ false → row_of (rows_of p policy) s ≡ row_of (rows_of p before) s
  row-same s l out = row-at p policy s l ∙ ap (row_from s) (taken-same s l out) ∙ sym (row-at p before s l)

  row-closed : (s : ℕ) → s < count p → is_among s nodes ≡ false → All (λ x. is_among x.target nodes ≡ false) (row_of (rows_of p policy) s)
  row-closed s l out = subst (λ (r : List Entry). All (λ x. is_among x.target nodes ≡ false) r) (sym (row-at p policy s l)) (differ.closed s l out)

  module _ (old new : List ℚ) (s : ℕ) (l : s < count p) (out : is_among s nodes ≡ false) where
    abbrev equation_by : Bool → List Entry → ℚ → Equation
    equation_by b es c = if b then record { entries = es; first = c; second = value_at [] s } else no_equation

    equation-same : value_at new s ≡ value_at old s
        → equation_of (rows_of p policy) (active_of p policy) (new ∷ []) s ≡ equation_of (rows_of p before) (active_of p before) (old ∷ []) s
    unfolding equation_of
    equation-same e =
        ap (λ (b : Bool). equation_by b (inner (active_of p policy) (row_of (rows_of p policy) s)) (value_at new s)) (active-same s out)
        ∙ ap₂ (λ (es : List Entry) (c : ℚ). equation_by (is_active (active_of p before) s) es c)
        (inner-same (active_of p policy) (active_of p before) (row_of (rows_of p policy) s)
        (All-weaker (λ (x : Entry). is_among x.target nodes ≡ false) (λ (x : Entry). is_active (active_of p policy) x.target ≡ is_active (active_of p before) x.target)
        (λ x k. active-same x.target k) (row_of (rows_of p policy) s) (row-closed s l out))
        ∙ ap (inner (active_of p before)) (row-same s l out))
        e

    equation-closed : All (λ x. is_among x.target nodes ≡ false) (equation_of (rows_of p policy) (active_of p policy) (new ∷ []) s).entries
    unfolding equation_of
    equation-closed = by (is_active (active_of p policy) s)
      where
        by : (b : Bool) → All (λ x. is_among x.target nodes ≡ false) (equation_by b (inner (active_of p policy) (row_of (rows_of p policy) s)) (value_at new s)).entries
        by true = All-filter (λ x. is_active (active_of p policy) x.target) (λ x. is_among x.target nodes ≡ false) (row_of (rows_of p policy) s) (row-closed s l out)
        by false = All-nil (λ x. is_among x.target nodes ≡ false)

  equation-at : (policy : List ℕ) (constants : List ℚ) (s : ℕ) → s < count p
      → at (equations_of p policy constants) s ≡ equation_of (rows_of p policy) (active_of p policy) (constants ∷ []) s
  equation-at policy constants s l =
      let n = rows-len p policy in
      get_or-map-range_with_len (equation_of (rows_of p policy) (active_of p policy) (constants ∷ [])) 0 (length (rows_of p policy)) s s no_equation (omega arith) (zero-add s)

  -- where the constants of the others are the same, so are their equations
  pub equations-differ : (old new : List ℚ) → ((s : ℕ) → s < count p → is_among s nodes ≡ false → value_at new s ≡ value_at old s)
      → elimination.DifferAt nodes (equations_of p before old) (equations_of p policy new)
  equations-differ old new h =
      let n = equations-len p policy new in
      record {
        count = n ∙ sym (equations-len p before old);
        same = λ t l out.
            let k : t < count p = omega arith in
            equation-at policy new t k ∙ equation-same old new t k out (h t k out) ∙ sym (equation-at before old t k);
        closed = λ t l out.
            let k : t < count p = omega arith in
            subst (λ (e : Equation). All (λ x. is_among x.target nodes ≡ false) e.entries) (sym (equation-at policy new t k)) (equation-closed old new t k out);
      }

-- ---- values with which nodes stop

-- the one with which the node stops, if it does; at a node that is not among these, the old one
pub record IsStopValue (p : Problem) (policy nodes : List ℕ) (old : List ℚ) (s : ℕ) (v : ℚ) : Type 0 where
  pub stops : goes_on (taken p policy s) ≡ false → v ≡ stop_value (taken p policy s)
  pub other : is_among s nodes ≡ false → v ≡ value_at old s
