-- The solved equations of some states are evaluated, from the least of these states on.
use Rattle.std.proofs.Common.{◌≡◌, ◌≢◌, ℕ, zero, suc, ◌+◌, ◌-◌, ◌<◌, ◌≤◌, ◌⊎◌, inl, inr, false, true, List, [], ◌∷◌}
use Rattle.std.proofs.{Common.{◌++◌, length, take, get_or, Option, Some, None, Result, Ok, Err, refl, sym, ◌∙◌, ap, ap₂, subst, arith}, Math.ListN.{set}}
use Rattle.std.proofs.{Math.Seq.{take-suc}, lemmas.Bool.{false≢true}, lemmas.List.{get_or-take, get_or-set_same, get_or-set_other, length-set, take_all}}
use Rattle.mdp_math.specs.{Rational.{ℚ}, Written.{◌>>=◌}}
use Rattle.mdp_math.proofs.{Numbers.{le_or}, Order.{0ℚ}}
use Rattle.mdp_spec.specs.{Mdp.{Entry, value_at}, Written.{written_sum}}
use Rattle.mdp_rows.specs.Preds.{is_among}
use Rattle.mdp_elim.specs.{Equation.{Equation, Values}, Entries.{Between}, Elimination.{evaluated, at_state, ◌and_then◌}, Predecessors.{at}}
use Rattle.mdp_elim.specs.Kept.{LeadToSmaller, AreValues, HasValue, Ascend, StayOutside, OthersHaveValues, values_by}
use Rattle.mdp_elim.proofs.{RowSums.{between-below}, Targets.{Targets, to_targets}, Lists.{one_or_two}, Equations.{evaluated-some}}
use Rattle.mdp_elim.proofs.Others.{not-among, among-at, written_sum-same}

more_targets : (P Q : ℕ → Type 0) → ((t : ℕ) → P t → Q t) → (row : List Entry) → Targets P row → Targets Q row
more_targets P Q f [] h = tt
more_targets P Q f (x ∷ row) h = (f x.target h.0, more_targets P Q f row h.1)

below_targets : (s : ℕ) (row : List Entry) → Between 0 s row → Targets (λ t. t < s) row
below_targets s row h = to_targets (λ t. t < s) row (between-below 0 s row h)

-- ---- the values of the states below n

none_by : (o p : Option ℚ) (f g : ℚ → ℚ → Values) → (o >>= (λ x. p >>= (λ y. Some (f x y)))) ≡ None → (o >>= (λ x. p >>= (λ y. Some (g x y)))) ≡ None
none_by None p f g h = refl
none_by (Some x) None f g h = refl
none_by (Some x) (Some y) f g h = cc

evaluated-none : (e : Equation) (v w : Values) → written_sum v.first e.first e.entries ≡ written_sum w.first e.first e.entries
    → written_sum v.second e.second e.entries ≡ written_sum w.second e.second e.entries → evaluated e v ≡ None → evaluated e w ≡ None
unfolding evaluated
evaluated-none e v w p q h =
    none_by (written_sum w.first e.first e.entries) (written_sum w.second e.second e.entries)
    (λ x y. record { first = v.first ++ x ∷ []; second = v.second ++ y ∷ [] }) (λ x y. record { first = w.first ++ x ∷ []; second = w.second ++ y ∷ [] })
    (ap₂ (λ (a b : Option ℚ). a >>= (λ x. b >>= (λ y. Some (let z : Values = record { first = v.first ++ x ∷ []; second = v.second ++ y ∷ [] } in z)))) (sym p) (sym q) ∙ h)

taken-sum : (s : ℕ) (values : List ℚ) (start : ℚ) (row : List Entry) → Between 0 s row → written_sum (take s values) start row ≡ written_sum values start row
taken-sum s values start row h =
    written_sum-same (take s values) values start row (more_targets (λ t. t < s) (λ t. value_at (take s values) t ≡ value_at values t) (λ t l. get_or-take s values t 0ℚ l) row (below_targets s row h))

module _ (solved : List Equation) (first second : List ℚ) (down : LeadToSmaller solved) (first_len : length first ≡ length solved) (second_len : length second ≡ length solved) where
  abbrev taken : ℕ → Values
  taken s = record { first = take s first; second = take s second }

  -- the values that the states below s have
  values-so_far : (s : ℕ) → s ≤ length solved → ((u : ℕ) → u < s → HasValue Equation.first solved first u)
      → ((u : ℕ) → u < s → HasValue Equation.second solved second u) → values_by solved s ≡ Ok (taken s)
  values-so_far zero l h k = refl
  values-so_far (suc s) l h k =
      let e = at solved s in
      let d = down s (omega arith) in
      let a = taken-sum s first (Equation.first (at solved s)) (Equation.entries (at solved s)) d ∙ h s (omega arith) in
      let b = taken-sum s second (Equation.second (at solved s)) (Equation.entries (at solved s)) d ∙ k s (omega arith) in
      ap (λ (r : Result Values ℕ). r and_then (λ v. at_state s (evaluated (at solved s) v))) (values-so_far s (omega arith) (λ u m. h u (omega arith)) (λ u m. k u (omega arith)))
      ∙ ap (λ (o : Option Values). at_state s o) (evaluated-some (at solved s) (taken s) (value_at first s) (sym a) (value_at second s) (sym b))
      ∙ ap₂ (λ (x y : List ℚ). let v : Values = record { first = x; second = y } in let r : Result Values ℕ = Ok v in r)
      (sym (take-suc first s 0ℚ (omega (arith, l, first_len)))) (sym (take-suc second s 0ℚ (omega (arith, l, second_len))))

  pub values-all : AreValues Equation.first solved first → AreValues Equation.second solved second → values_by solved (length solved) ≡ Ok (record { first = first; second = second })
  values-all h k =
      values-so_far (length solved) (omega arith) h.each k.each
      ∙ ap₂ (λ (x y : List ℚ). let v : Values = record { first = x; second = y } in let r : Result Values ℕ = Ok v in r)
      (take_all (length solved) first (omega (arith, first_len))) (take_all (length solved) second (omega (arith, second_len)))

  later_err : (s d : ℕ) → values_by solved (suc s) ≡ Err s → values_by solved (suc s + d) ≡ Err s
  later_err s zero h = let z : suc s ≡ suc s + 0 = omega arith in subst (λ n. values_by solved n ≡ Err s) z h
  later_err s (suc d) h =
      let z : suc (suc s + d) ≡ suc s + suc d = omega arith in
      subst (λ n. values_by solved n ≡ Err s) z (ap (λ (r : Result Values ℕ). r and_then (λ v. at_state (suc s + d) (evaluated (at solved (suc s + d)) v))) (later_err s d h))

  pub values-stop : (s : ℕ) → s < length solved → ((u : ℕ) → u < s → HasValue Equation.first solved first u) → ((u : ℕ) → u < s → HasValue Equation.second solved second u)
      → evaluated (at solved s) (record { first = first; second = second }) ≡ None → values_by solved (length solved) ≡ Err s
  values-stop s l h k none =
      let d = down s l in
      let z : suc s + (length solved - suc s) ≡ length solved = omega arith in
      let v : Values = record { first = first; second = second } in
      let stop : evaluated (at solved s) (taken s) ≡ None = evaluated-none (at solved s) v (taken s)
      (sym (taken-sum s first (Equation.first (at solved s)) (Equation.entries (at solved s)) d)) (sym (taken-sum s second (Equation.second (at solved s)) (Equation.entries (at solved s)) d)) none in
      subst (λ n. values_by solved n ≡ Err s) z
      (later_err s (length solved - suc s)
      (ap (λ (r : Result Values ℕ). r and_then (λ v. at_state s (evaluated (at solved s) v))) (values-so_far s (omega arith) h k) ∙ ap (λ (o : Option Values). at_state s o) stop))

-- ---- some states, one after the other

-- s is none of the states from the one at place i on
abbrev pub NotFrom : ℕ → List ℕ → ℕ → Type 0
NotFrom i states s = (k : ℕ) → i ≤ k → k < length states → get_or states k 0 ≢ s

module _ (states : List ℕ) (solved : List Equation) where
  -- all states but those have their values
  pub record HaveValues (constant : Equation → ℚ) (i : ℕ) (values : List ℚ) : Type 0 where
    pub count : length values ≡ length solved
    pub each : (s : ℕ) → s < length solved → NotFrom i states s → HasValue constant solved values s

  module _ (constant : Equation → ℚ) where
    pub values_first : (values : List ℚ) → length values ≡ length solved → OthersHaveValues constant states solved values → HaveValues constant 0 values
    values_first values count h = record { count = count; each = λ s l o. h s l (not-among s states (λ k m. o k (omega arith) m)) }

    pub values_last : (i : ℕ) (values : List ℚ) → length states ≤ i → HaveValues constant i values → AreValues constant solved values
    values_last i values e h = record { count = h.count; each = λ s l. h.each s l (λ k m n. absurd (omega arith)) }

  module _ (down : LeadToSmaller solved) (outside : StayOutside states solved) (ascend : Ascend states) (i t : ℕ) (here : get_or states i 0 ≡ t) (within : i < length states) (small : t < length solved) where
    not_after : (s : ℕ) → s < t → NotFrom i states s
    not_after s l k m n e = elim (le_or (suc i) k) as (λ _. ⊥) [
      | inl a ↦ (let b = ascend.each i k a n in omega (arith, b, here, e))
      | inr a ↦ (let z : k ≡ i = omega arith in let h = sym here ∙ sym (ap (λ j. get_or states j 0) z) ∙ e in omega (arith, h))
    ]

    before_here : (s : ℕ) → NotFrom (suc i) states s → s ≢ t → NotFrom i states s
    before_here s o h k m n e = elim (le_or (suc i) k) as (λ _. ⊥) [
      | inl a ↦ o k a n e
      | inr a ↦ (let z : k ≡ i = omega arith in h (sym e ∙ ap (λ j. get_or states j 0) z ∙ here))
    ]

    -- a greater state that is none of the later ones is none of them all
    other_above : (s : ℕ) → NotFrom (suc i) states s → t < s → is_among s states ≡ false
    other_above s o l = not-among s states (λ k n e. elim (le_or (suc i) k) as (λ _. ⊥) [
      | inl a ↦ o k a n e
      | inr a ↦ elim (le_or i k) as (λ _. ⊥) [
        | inl b ↦ (let z : k ≡ i = omega arith in let h = sym here ∙ sym (ap (λ j. get_or states j 0) z) ∙ e in omega (arith, h))
        | inr b ↦ (let c = ascend.each k i b within in omega (arith, c, here, e))
      ]
    ])

    here_among : is_among t states ≡ true
    here_among = subst (λ s. is_among s states ≡ true) here (among-at states i within)

    -- no entry of a state that has its value leads to t
    elsewhere : (s : ℕ) → s < length solved → NotFrom (suc i) states s → (s ≤ t) ⊎ (t < s) → Targets (λ u. u ≢ t) (Equation.entries (at solved s))
    elsewhere s l o (inl a) = more_targets (λ u. u < s) (λ u. u ≢ t) (λ u m e. omega (arith, m, a, e)) (Equation.entries (at solved s)) (below_targets s (Equation.entries (at solved s)) (down s l))
    elsewhere s l o (inr a) =
        more_targets (λ u. is_among u states ≡ false) (λ u. u ≢ t) (λ u m e. false≢true (sym m ∙ ap (λ j. is_among j states) e ∙ here_among)) (Equation.entries (at solved s))
        (to_targets (λ u. is_among u states ≡ false) (Equation.entries (at solved s)) (outside s l (other_above s o a)))

    module _ (constant : Equation → ℚ) (values : List ℚ) (have : HaveValues constant i values) where
      pub smaller_have : (u : ℕ) → u < t → HasValue constant solved values u
      smaller_have u l = have.each u (omega (arith, l, small)) (not_after u l)

      module _ (x : ℚ) (is : written_sum values (constant (at solved t)) (Equation.entries (at solved t)) ≡ Some x) where
        same_sum : (s : ℕ) → s < length solved → NotFrom (suc i) states s
            → written_sum (set values t x) (constant (at solved s)) (Equation.entries (at solved s)) ≡ written_sum values (constant (at solved s)) (Equation.entries (at solved s))
        same_sum s l o =
            written_sum-same (set values t x) values (constant (at solved s)) (Equation.entries (at solved s))
            (more_targets (λ u. u ≢ t) (λ u. value_at (set values t x) u ≡ value_at values u) (λ u h. get_or-set_other values t u x 0ℚ h) (Equation.entries (at solved s)) (elsewhere s l o (le_or s t)))

        value_by : (s : ℕ) → s < length solved → NotFrom (suc i) states s → (s ≡ t) ⊎ (s ≢ t) → HasValue constant solved (set values t x) s
        value_by s l o (inl e) =
            same_sum s l o ∙ ap (λ j. written_sum values (constant (at solved j)) (Equation.entries (at solved j))) e ∙ is
            ∙ ap Some (sym (get_or-set_same values t x 0ℚ (omega (arith, small, have.count))) ∙ sym (ap (value_at (set values t x)) e))
        value_by s l o (inr h) = same_sum s l o ∙ have.each s l (before_here s o h) ∙ ap Some (sym (get_or-set_other values t s x 0ℚ h))

        pub values_next : HaveValues constant (suc i) (set values t x)
        values_next = record { count = length-set values t x ∙ have.count; each = λ s l o. value_by s l o (one_or_two t s) }
