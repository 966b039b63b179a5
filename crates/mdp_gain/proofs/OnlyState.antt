-- An end component of one state: its policies, its values, and its improved choices.
use Rattle.std.proofs.Common.{◌≡◌, ◌≢◌, ℕ, zero, suc, ◌+◌, ◌<◌, ◌≤◌, ◌⊎◌, inl, inr, Bool, true, false, not, ◌&&◌, ◌==◌, eqb, if◌then◌else◌, List}
use Rattle.std.proofs.{Common.{[], ◌∷◌, ◌++◌, map, Result, Ok, Err, pos, refl, sym, ◌∙◌, ap, subst, arith, zero-add}, Math.ListN.{get_or-eq_default}}
use Rattle.std.proofs.{lemmas.Bool.{eq-eqb, ne_eqb}, lemmas.List.FromFn.{get_or-map-range_with_len, length-map-range_with_len}}
use Rattle.std.specs.{List.{range_with_len}, Prelude.{slice_index}, Result.{result_ok}}
use Rattle.mdp_math.specs.{Rational.{ℚ, of_int}, Result.{◌>>=◌}, Written.{written_add}}
use Rattle.mdp_math.proofs.{Lists.{map_more}, Numbers.{le_or, eqb-same}, Order.{0ℚ}}
use Rattle.mdp_num.specs.declared.errors.Wide.{Wide}
use Rattle.mdp_spec.specs.Mdp.{Entry}
use Rattle.mdp_elim.specs.System.{is_active}
use Rattle.mdp_wide.specs.declared.too_wide.Kind.TheVariants.{Evaluate}
use Rattle.mdp_policy_iteration.specs.{Places.{Place, at_place, up_to}, Path.{evaluating, placed, comparing}, Faults.{placed_at, Answers}, Errors.{RoundError}}
use Rattle.mdp_policy_iteration.proofs.Answering.{up_to-refused}
use Rattle.mdp_unichain.specs.{Component.{Component, count, choice_at, IsInner, is_state, row_by, IsPolicy, IsComponent}, Evaluation.{active}}
use Rattle.mdp_unichain.specs.{Chain.{AllLeadTo, IsReference, IsClosedClass}, Next.{IsPicked, AreRanksToward, IsExactNext}, Path.{IsFirst}, Sums.{written_ratio}}
use Rattle.mdp_unichain.specs.Written.{rows_of, row_or_loop, active_of, columns_of, written_columns, bias_of, written_values, improved_choice, improved_at, written_improved}
use Rattle.mdp_unichain.specs.Written as written
use Rattle.mdp_unichain.proofs.{Chains.{same_number}, Improving.{state-below}, Reaching.{clash_test}}
use Rattle.mdp_gain.specs.{Code.{choice_over}, Only.{IsOnly, policy_of, values_of}, OnlyTerms.{zeros, ratio_of}}
use Rattle.mdp_wide.specs.declared.unfinished.Unfinished.TheVariants as fault
use Rattle.mdp_gain.proofs.{OnlyColumns.{no-solution}, OnlySums.{zero-at}, Told.{bias-zero}}

-- ---- lists of answers

module _ {A R : Type 0} (f : ℕ → Result A R) (g : ℕ → A) where
  abbrev after_next : ℕ → Result (List A) R → Result (List A) R
  after_next n r = r >>= (λ xs. f n >>= (λ x. Ok (xs ++ x ∷ [])))

  abbrev with_next : List A → Result A R → Result (List A) R
  with_next xs r = r >>= (λ x. Ok (xs ++ x ∷ []))

  pub up_to-listed : (n : ℕ) → ((s : ℕ) → s < n → f s ≡ Ok (g s)) → up_to f n ≡ Ok (map g (range_with_len 0 n))
  up_to-listed zero h = refl
  up_to-listed (suc n) h =
      let e : n + 1 ≡ suc n = omega arith in
      ap (after_next n) (up_to-listed n (λ s l. h s (omega arith))) ∙ ap (with_next (map g (range_with_len 0 n))) (h n (omega arith))
      ∙ ap Ok (sym (map_more g n) ∙ ap (λ k. map g (range_with_len 0 k)) e)

then_same : {A B R : Type 0} (r : Result A R) (f g : A → Result B R) → ((x : A) → f x ≡ g x) → (r >>= f) ≡ (r >>= g)
then_same (Ok x) f g h = h x
then_same (Err e) f g h = refl

pub answers_mapped : {A B : Type 0} (f : A → B) (result : Result A RoundError) (r : Result A Place) (w : Result B Place) → Answers (λ x. x) result r → w ≡ (r >>= (λ x. Ok (f x)))
    → Answers f result w
answers_mapped f (Ok x) r w h e = e ∙ ap (λ (q : Result _ Place). q >>= (λ x. Ok (f x))) h
answers_mapped f (Err (fault.TooWide place)) r w h e = e ∙ ap (λ (q : Result _ Place). q >>= (λ x. Ok (f x))) h
answers_mapped f (Err fault.Memory) r w h e = tt

module _ (p : Component) (s : ℕ) (o : IsOnly p s) where
  below : s < count p
  below = state-below p s o.state

  -- ---- a policy

  pub policy-at : (c : ℕ) → slice_index (policy_of p s c) s ≡ c
  policy-at c =
      get_or-map-range_with_len (λ t. if t == s then c else 0) 0 (count p) s s 0 below (zero-add s) ∙ ap (λ (b : Bool). if b then c else 0) (eq-eqb s s refl)

  policy_past : (c t : ℕ) → t ≢ s → (count p ≤ t) ⊎ (t < count p) → slice_index (policy_of p s c) t ≡ 0
  policy_past c t n (inl l) =
      let k = length-map-range_with_len (λ t. if t == s then c else 0) 0 (count p) in
      get_or-eq_default (policy_of p s c) 0 (omega (arith, k, l))
  policy_past c t n (inr l) =
      get_or-map-range_with_len (λ t. if t == s then c else 0) 0 (count p) t t 0 l (zero-add t) ∙ ap (λ (b : Bool). if b then c else 0) (ne_eqb t s n)

  other_than : (t : ℕ) → is_state p t ≡ false → t ≢ s
  other_than t h e = clash_test (is_state p t) (ap (is_state p) e ∙ o.state) h

  no_state : (t : ℕ) → t ≢ s → (b : Bool) → is_state p t ≡ b → is_state p t ≡ false
  no_state t n true e = absurd (n (o.only t e))
  no_state t n false e = e

  pub policy-is : (c : ℕ) → IsInner p s c → IsPolicy p (policy_of p s c)
  policy-is c i = record {
    len = length-map-range_with_len (λ t. if t == s then c else 0) 0 (count p);
    inner = λ t h. subst (λ (u : ℕ). IsInner p u (slice_index (policy_of p s c) u)) (sym (o.only t h)) (subst (IsInner p s) (sym (policy-at c)) i);
    outside = λ t h. policy_past c t (other_than t h) (le_or (count p) t);
  }

  pub only-leads : (row : ℕ → List Entry) → AllLeadTo (is_state p) row s
  only-leads row = record { state = o.state; rank = λ t. 0; falls = λ t h n. absurd (n (o.only t h)) }

  pub only-reference : (row : ℕ → List Entry) → IsReference (is_state p) row s
  only-reference row = record { leads = only-leads row; least = λ u l. let e = o.only u (AllLeadTo.state l) in omega arith }

  ranks : AreRanksToward p (λ t. eqb t s) (λ t. 0)
  ranks = record {
    zero = λ t h. refl;
    falls = λ t h n. absurd (clash_test (eqb t s) (ap (λ (u : ℕ). eqb u s) (o.only t h) ∙ eqb-same s) n);
    least = λ t c i k d l. omega arith;
  }

  pub only-first : (c : ℕ) → IsInner p s c → ((d : ℕ) → IsInner p s d → c ≤ d) → IsFirst p (policy_of p s c)
  only-first c i l = record {
    least = s;
    is_least = (o.state, λ t h. let e = o.only t h in omega arith);
    own = (subst (IsInner p s) (sym (policy-at c)) i, λ d k. subst (λ (x : ℕ). x ≤ d) (sym (policy-at c)) (l d k));
    rank = λ t. 0;
    ranks = ranks;
    toward = λ t h n. absurd (n (o.only t h));
    is = policy-is c i;
  }

  -- ---- the next policy

  module _ (known : IsComponent p) (c d : ℕ) (i : IsInner p s d) (other : d ≢ c) where
    only-class : IsClosedClass (is_state p) (row_by p (policy_of p s d)) (λ t. eqb t s)
    only-class = record {
      some = (s, eqb-same s);
      states = λ t h. subst (λ (u : ℕ). is_state p u ≡ true) (sym (same_number t s h)) o.state;
      closed = λ t h k x l.
          let is = policy-is d i in
          let state : is_state p t ≡ true = subst (λ (u : ℕ). is_state p u ≡ true) (sym (same_number t s h)) o.state in
          let stays = known.stays t (slice_index (policy_of p s d) t) (IsPolicy.inner is t state) k x l in
          ap (λ (u : ℕ). eqb u s) (o.only _ stays) ∙ eqb-same s;
      connected = λ t h. record { state = h; rank = λ u. 0; falls = λ u k n. absurd (n (same_number u s k ∙ sym (same_number t s h))) };
    }

    changed_at : slice_index (policy_of p s d) s ≢ slice_index (policy_of p s c) s
    changed_at e = other (sym (policy-at d) ∙ e ∙ policy-at c)

    only-picked : IsPicked p (policy_of p s c) (policy_of p s d) (λ t. eqb t s)
    only-picked = record {
      class_is = only-class;
      changed = (s, eqb-same s, changed_at);
      least = (s, eqb-same s, λ class is h u e. let q = o.only u (IsClosedClass.states is u e) in omega arith);
    }

    pub only-next : IsExactNext p (policy_of p s c) (policy_of p s d) (policy_of p s d)
    only-next = inr (
      (λ t. eqb t s),
      (λ t. 0),
      record {
        picked = only-picked;
        ranks = ranks;
        kept = λ t h. refl;
        toward = λ t h n. absurd (clash_test (eqb t s) (ap (λ (u : ℕ). eqb u s) (o.only t h) ∙ eqb-same s) n);
        is = policy-is d i;
      },
    )

    pub only-changed : policy_of p s d ≢ policy_of p s c
    only-changed e = changed_at (ap (λ (xs : List ℕ). slice_index xs s) e)

  -- ---- the values of a policy

  none_active : (t : ℕ) → active (is_state p) s t ≡ false
  none_active t = by (is_state p t) refl
    where
      by : (b : Bool) → is_state p t ≡ b → active (is_state p) s t ≡ false
      by true e = ap (λ (u : ℕ). is_state p t && not (eqb t u)) (sym (o.only t e)) ∙ ap (λ (b : Bool). is_state p t && not b) (eqb-same t) ∙ and_false (is_state p t)
        where
          and_false : (b : Bool) → (b && false) ≡ false
          and_false true = refl
          and_false false = refl
      by false e = ap (λ (b : Bool). b && not (eqb t s)) e

  inactive_by : (t : ℕ) → (count p ≤ t) ⊎ (t < count p) → is_active (active_of p s) t ≡ false
  inactive_by t (inl l) =
      let k = length-map-range_with_len (active (is_state p) s) 0 (count p) in
      get_or-eq_default (active_of p s) false (omega (arith, k, l))
  inactive_by t (inr l) = get_or-map-range_with_len (active (is_state p) s) 0 (count p) t t false l (zero-add t) ∙ none_active t

  module _ (c : ℕ) where
    abbrev policy : List ℕ
    policy = policy_of p s c

    columns : written_columns p (policy_of p s c) s ≡ Ok (zeros (count p) ∷ zeros (count p) ∷ [])
    columns =
        ap (placed policy) (no-solution (rows_of p policy) (active_of p s) (columns_of p policy) (λ t. inactive_by t (le_or (count p) t)))
        ∙ ap (λ (n : ℕ). (let r : Result (List (List ℚ)) Place = Ok (zeros n ∷ zeros n ∷ []) in r))
        (length-map-range_with_len (λ t. row_or_loop (is_state p t) t (row_by p policy t)) 0 (count p))

    biases : (gain : ℚ) (x y : List ℚ) → written.written_bias_list p policy s gain x y ≡ Ok (zeros (count p))
    biases gain x y = up_to-listed (bias_of p policy s gain x y) (λ t. of_int (pos 0)) (count p) (λ t l. bias-zero p policy s gain x y t (none_active t))

    ratio : written_ratio p (policy_of p s c) s (zeros (count p)) (zeros (count p)) ≡ ratio_of (count p) (choice_at p s c)
    ratio = ap (λ (d : ℕ). ratio_of (count p) (choice_at p s d)) (policy-at c)

    abbrev with_gain : Result ℚ Place → Result written.Values Place
    with_gain r = r >>= (λ gain. Ok (values_of p gain))

    values : written_values p (policy_of p s c) s ≡ with_gain (at_place (evaluating policy s) (ratio_of (count p) (choice_at p s c)))
    values =
        ap (λ (r : Result (List (List ℚ)) Place). r >>= written.from_columns p policy s) columns
        ∙ then_same (written.written_gain p policy s (zeros (count p)) (zeros (count p))) (written.with_biases p policy s (zeros (count p)) (zeros (count p))) (λ gain. Ok (values_of p gain))
        (λ gain. ap (λ (r : Result (List ℚ) Place). r >>= (λ bias. Ok (let v : written.Values = record { gain = gain; bias = bias } in v))) (biases gain (zeros (count p)) (zeros (count p))))
        ∙ ap (λ o. with_gain (at_place (evaluating policy s) o)) ratio

    pub gain-told : (step : Result ℚ Wide) → result_ok step ≡ ratio_of (count p) (choice_at p s c) → Answers (values_of p) (placed_at Evaluate s c step) (written_values p (policy_of p s c) s)
    gain-told (Ok gain) h = values ∙ ap (λ o. with_gain (at_place (evaluating policy s) o)) (sym h)
    gain-told (Err w) h =
        values ∙ ap (λ o. with_gain (at_place (evaluating policy s) o)) (sym h)
        ∙ ap (λ (d : ℕ). (let r : Result written.Values Place = Err (record { kind = Evaluate; node = s; choice = d }) in r)) (policy-at c)

    -- ---- the comparison

    module _ (gain : ℚ) where
      abbrev v : written.Values
      v = values_of p gain

      over_same : (present : ℚ) → written.choice_over p policy v s present ≡ choice_over p (zeros (count p)) s c present
      over_same present = ap (λ (d : ℕ). choice_over p (zeros (count p)) s d present) (policy-at c)

      choice-is : improved_choice p policy v s ≡ (at_place (comparing s c) (written_add gain 0ℚ) >>= choice_over p (zeros (count p)) s c)
      choice-is =
          ap (λ (x : ℚ). at_place (comparing s (slice_index policy s)) (written_add gain x) >>= written.choice_over p policy v s) (zero-at (count p) s)
          ∙ ap (λ (d : ℕ). at_place (comparing s d) (written_add gain 0ℚ) >>= written.choice_over p policy v s) (policy-at c)
          ∙ then_same (at_place (comparing s c) (written_add gain 0ℚ)) (written.choice_over p policy v s) (choice_over p (zeros (count p)) s c) over_same

      here : (r : Result ℕ Place) → improved_choice p policy v s ≡ r → improved_at p policy v s ≡ r
      here r e = ap (λ (b : Bool). if b then improved_choice p policy v s else Ok 0) o.state ∙ e

      there : (t : ℕ) → t ≢ s → improved_at p policy v t ≡ Ok 0
      there t n = ap (λ (b : Bool). if b then improved_choice p policy v t else Ok 0) (no_state t n (is_state p t) refl)

      listed_by : (d t : ℕ) (b : Bool) → (t == s) ≡ b → improved_choice p policy v s ≡ Ok d → improved_at p policy v t ≡ Ok (if b then d else 0)
      listed_by d t true q e = subst (λ (u : ℕ). improved_at p policy v u ≡ Ok d) (sym (same_number t s q)) (here (Ok d) e)
      listed_by d t false q e = there t (λ same. clash_test (t == s) (eq-eqb t s same) q)

      improved_by : (r : Result ℕ Place) → improved_choice p policy v s ≡ r → written_improved p policy v ≡ (r >>= (λ d. Ok (policy_of p s d)))
      improved_by (Ok d) e = up_to-listed (improved_at p policy v) (λ t. if t == s then d else 0) (count p) (λ t l. listed_by d t (t == s) refl e)
      improved_by (Err w) e =
          up_to-refused (improved_at p policy v) s (count p) (map (λ t. 0) (range_with_len 0 s)) w
          (up_to-listed (improved_at p policy v) (λ t. 0) s (λ t l. there t (λ same. omega (arith, l, same)))) (here (Err w) e) below

      pub improved-is : written_improved p (policy_of p s c) (values_of p gain) ≡
          ((at_place (comparing s c) (written_add gain 0ℚ) >>= choice_over p (zeros (count p)) s c) >>= (λ d. Ok (policy_of p s d)))
      improved-is = improved_by _ choice-is
