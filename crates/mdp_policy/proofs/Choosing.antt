-- What the choice that is taken at a state says in exact numbers, and what it says where none is taken.
use Rattle.std.proofs.Common.{◌≡◌, ℕ, zero, suc, ◌<◌, ◌≤◌, inl, inr, Bool, true, false, if◌then◌else◌, List, length, Option, Some, None, Result, Ok, refl, ◌∙◌, sym, ap, subst, arith}
use Rattle.std.specs.Option.{is_some}
use Rattle.mdp_math.specs.{Rational.{ℚ}, Result.{◌>>=◌}, Written.{written_compare, cmp_ℚ}}
use Rattle.mdp_math.proofs.{Laws.{zero-+ℚ}, Numbers.{last_or}, Options.{Some_same, step_told}, Order.{0ℚ, ≤ℚ_trans, ≤ℚ_of_lt, ≤ℚ_of_eq, ≤ℚ-<ℚ_trans}}
use Rattle.mdp_math.proofs.Written.{written_compare-some}
use Rattle.mdp_spec.specs.{Mdp.{Mdp, states_of, choices_at, row_at, value_at}, Row.{row_sum}, Tree.{is_marked}}
use Rattle.mdp_rows.specs.{declared.dir.Dir.{Dir}, declared.dir.Dir.TheVariants.{Max, Min}, Better.{is_better, IsBetter}}
use Rattle.mdp_policy_iteration.specs.{Candidates.{Best, judged}, Path.{comparing}, Places.{Place}}
use Rattle.mdp_policy_iteration.proofs.{Turned.{better_by, worse_by}, Results.{ok_same, ok_part, place_part}}
use Rattle.mdp_spec.proofs.Summed.{written_sum-some}
use Rattle.mdp_policy.specs.{Choices.{sum_of_choice, compared}, Written.{next_choice, own, best_of, taken_at, change_at, next_state, first_change}}
use Rattle.mdp_policy.specs.declared.value.Change.{Change}
use Rattle.mdp_horizon.specs.Written.{in_turn}
use Rattle.mdp_horizon.proofs.Turns.{in_turn-keeps, in_turn-more}
use Rattle.mdp_policy.proofs.Values.{NoBetter, IsBetterChoice}

-- ---- better and no better

no_better_of_eq : (dir : Dir) (x y : ℚ) → x ≡ y → NoBetter dir x y
no_better_of_eq Max x y e = ≤ℚ_of_eq x y e
no_better_of_eq Min x y e = ≤ℚ_of_eq y x (sym e)

-- x is no better than y, of which z is better
no_better_then : (dir : Dir) (x y z : ℚ) → NoBetter dir x y → IsBetter dir z y → NoBetter dir x z
no_better_then Max x y z p q = ≤ℚ_trans x y z p (≤ℚ_of_lt y z q)
no_better_then Min x y z p q = ≤ℚ_trans z y x (≤ℚ_of_lt z y q) p

-- z is better than y, which is better than x
better_then : (dir : Dir) (x y z : ℚ) → IsBetter dir y x → IsBetter dir z y → IsBetter dir z x
better_then Max x y z p q = ≤ℚ-<ℚ_trans x y z (≤ℚ_of_lt x y p) q
better_then Min x y z p q = ≤ℚ-<ℚ_trans z y x (≤ℚ_of_lt z y q) p

-- ---- a state

-- whether a choice is taken: a better one, or the state's own value still leads
abbrev IsLed : Dir → Mdp → List ℚ → ℕ → ℕ → ℚ → Option ℕ → Type 0
IsLed dir m x s k v None = v ≡ value_at x s
IsLed dir m x s k v (Some c) = (c < k) × (v ≡ row_sum (row_at m s c) x) × IsBetter dir v (value_at x s)

-- of the first k choices none is better than the best value so far
record IsBestOf (dir : Dir) (m : Mdp) (x : List ℚ) (s k : ℕ) (b : Best) : Type 0 where
  led : IsLed dir m x s k b.value b.choice
  covers : (c : ℕ) → c < k → NoBetter dir (row_sum (row_at m s c) x) b.value

led_longer : (dir : Dir) (m : Mdp) (x : List ℚ) (s k : ℕ) (v : ℚ) (o : Option ℕ) → IsLed dir m x s k v o → IsLed dir m x s (suc k) v o
led_longer dir m x s k v None h = h
led_longer dir m x s k v (Some c) h = (omega (arith, h.0), h.1, h.2)

led_better : (dir : Dir) (m : Mdp) (x : List ℚ) (s k : ℕ) (v w : ℚ) (o : Option ℕ) → IsLed dir m x s k v o → IsBetter dir w v → IsBetter dir w (value_at x s)
led_better dir m x s k v w None h b = subst (λ (y : ℚ). IsBetter dir w y) h b
led_better dir m x s k v w (Some c) h b = better_then dir (value_at x s) v w h.2 b

module _ (dir : Dir) (m : Mdp) (x : List ℚ) (s : ℕ) where
  summed : (c : ℕ) (v : ℚ) → sum_of_choice m x s c ≡ Some v → v ≡ row_sum (row_at m s c) x
  summed c v h = written_sum-some x 0ℚ (row_at m s c) v (sym h) ∙ zero-+ℚ (row_sum (row_at m s c) x)

  -- one choice more
  more_covered : (k : ℕ) (v : ℚ) → ((c : ℕ) → c < k → NoBetter dir (row_sum (row_at m s c) x) v) → NoBetter dir (row_sum (row_at m s k) x) v
      → (c : ℕ) → c < suc k → NoBetter dir (row_sum (row_at m s c) x) v
  more_covered k v before here c l = elim (last_or k c l) as (λ _. NoBetter dir (row_sum (row_at m s c) x) v) [
    | inl e ↦ subst (λ (j : ℕ). NoBetter dir (row_sum (row_at m s j) x) v) (sym e) here
    | inr j ↦ before c j
  ]

  judged_by : (k : ℕ) (b after : Best) (v : ℚ) (t : Bool) → IsBestOf dir m x s k b → v ≡ row_sum (row_at m s k) x → is_better dir (cmp_ℚ v b.value) ≡ t
      → (if t then (let w : Best = record { value = v; choice = Some k } in w) else b) ≡ after → IsBestOf dir m x s (suc k) after
  judged_by k b after v true h e test made =
      let better : IsBetter dir v b.value = better_by dir v b.value (cmp_ℚ v b.value) refl test in
      subst (IsBestOf dir m x s (suc k)) made (record {
        led = (omega arith, e, led_better dir m x s k b.value v b.choice h.led better);
        covers = more_covered k v (λ c l. no_better_then dir _ b.value v (h.covers c l) better) (no_better_of_eq dir _ _ (sym e));
      })
  judged_by k b after v false h e test made =
      subst (IsBestOf dir m x s (suc k)) made (record {
        led = led_longer dir m x s k b.value b.choice h.led;
        covers = more_covered k b.value h.covers (subst (λ (y : ℚ). NoBetter dir y b.value) e (worse_by dir v b.value (cmp_ℚ v b.value) refl test));
      })

  next_is_best : (k : ℕ) (b after : Best) → IsBestOf dir m x s k b → next_choice dir m x s k b ≡ Ok after → IsBestOf dir m x s (suc k) after
  next_is_best k b after h made =
      let told = place_part (comparing s k) (compared dir m x s k b) after made in
      let p = step_told (sum_of_choice m x s k) (judged dir k b) after (sym told) in
      let q = step_told (written_compare p.0 b.value) (λ order. Some (if is_better dir order then (let w : Best = record { value = p.0; choice = Some k } in w) else b)) after p.2 in
      let order : q.0 ≡ cmp_ℚ p.0 b.value = written_compare-some p.0 b.value q.0 q.1 in
      judged_by k b after p.0 (is_better dir q.0) h (summed k p.0 (sym p.1)) (ap (is_better dir) (sym order)) (sym (Some_same after _ q.2))

  best_of-is : (n : ℕ) (b : Best) → best_of dir m x s n ≡ Ok b → IsBestOf dir m x s n b
  best_of-is n b made =
      in_turn-keeps (next_choice dir m x s) (Ok (own x s)) (λ k b. IsBestOf dir m x s k b) n
      (λ b e. subst (IsBestOf dir m x s 0) (ok_same (own x s) b e) (record { led = refl; covers = λ c l. absurd (omega arith) }))
      (λ k b c l p e. next_is_best k b c p e) n b (omega arith) made

-- ---- all states

-- what each later step keeps
in_turn-kept : {A R : Type 0} (f : ℕ → A → Result A R) (start : Result A R) (n m : ℕ) (b : A) → in_turn f start n ≡ Ok b → ((k : ℕ) → f k b ≡ Ok b) → n ≤ m → in_turn f start m ≡ Ok b
in_turn-kept f start n zero b h same l = let e : n ≡ 0 = omega arith in subst (λ k. in_turn f start k ≡ Ok b) e h
in_turn-kept f start n (suc m) b h same l = elim (last_or (suc m) n (omega arith)) as (λ _. in_turn f start (suc m) ≡ Ok b) [
  | inl q ↦ subst (λ k. in_turn f start k ≡ Ok b) q h
  | inr k ↦ ap (λ (x : Result _ _). x >>= f m) (in_turn-kept f start n m b h same (omega arith)) ∙ same m
]

-- what is found among the first k states: a better choice, or no choice of theirs is better
abbrev pub IsFound : Dir → Mdp → List Bool → List ℚ → ℕ → Option Change → Type 0
IsFound dir m goals x k (Some change) = IsBetterChoice dir m goals x change.state change.choice
IsFound dir m goals x k None = (s c : ℕ) → s < k → is_marked goals s ≡ false → c < length (choices_at m s) → NoBetter dir (row_sum (row_at m s c) x) (value_at x s)

module _ (dir : Dir) (m : Mdp) (goals : List Bool) (x : List ℚ) where
  -- what is taken at one state
  abbrev TakenSo : ℕ → Option ℕ → Type 0
  TakenSo s None = is_marked goals s ≡ false → (c : ℕ) → c < length (choices_at m s) → NoBetter dir (row_sum (row_at m s c) x) (value_at x s)
  TakenSo s (Some c) = (is_marked goals s ≡ false) × (c < length (choices_at m s)) × IsBetter dir (row_sum (row_at m s c) x) (value_at x s)

  led_taken : (s : ℕ) (v : ℚ) (o : Option ℕ) → is_marked goals s ≡ false → IsLed dir m x s (length (choices_at m s)) v o
      → ((c : ℕ) → c < length (choices_at m s) → NoBetter dir (row_sum (row_at m s c) x) v) → TakenSo s o
  led_taken s v None g led covers = λ _ c l. subst (λ (y : ℚ). NoBetter dir (row_sum (row_at m s c) x) y) led (covers c l)
  led_taken s v (Some c) g led covers = (g, led.0, subst (λ (y : ℚ). IsBetter dir y (value_at x s)) led.1 led.2)

  taken_by : (s : ℕ) (g : Bool) (choice : Option ℕ) → is_marked goals s ≡ g
      → (let r : Result (Option ℕ) Place = if g then Ok None else (best_of dir m x s (length (choices_at m s)) >>= (λ best. Ok best.choice)) in r) ≡ Ok choice → TakenSo s choice
  taken_by s true choice g made = subst (TakenSo s) (ok_same None choice made) (λ k c l. let clash : true ≡ false = sym g ∙ k in cc)
  taken_by s false choice g made =
      let p = ok_part (best_of dir m x s (length (choices_at m s))) (λ best. let r : Result (Option ℕ) Place = Ok best.choice in r) choice made in
      let b = best_of-is dir m x s (length (choices_at m s)) p.0 p.1 in
      subst (TakenSo s) (ok_same (Best.choice p.0) choice p.2) (led_taken s (Best.value p.0) (Best.choice p.0) g b.led b.covers)

  taken_so : (s : ℕ) (choice : Option ℕ) → taken_at dir m goals x s ≡ Ok choice → TakenSo s choice
  taken_so s choice made = taken_by s (is_marked goals s) choice refl made

  -- one state more
  found_by : (k : ℕ) (choice : Option ℕ) → k < states_of m → IsFound dir m goals x k None → TakenSo k choice → IsFound dir m goals x (suc k) (change_at k choice)
  found_by k None l before here = λ s c h g i. elim (last_or k s h) as (λ _. NoBetter dir (row_sum (row_at m s c) x) (value_at x s)) [
    | inl e ↦ subst (λ (j : ℕ). NoBetter dir (row_sum (row_at m j c) x) (value_at x j)) (sym e)
        (here (subst (λ (j : ℕ). is_marked goals j ≡ false) e g) c (subst (λ (j : ℕ). c < length (choices_at m j)) e i))
    | inr j ↦ before s c j g i
  ]
  found_by k (Some c) l before here = record { state = l; no_goal = here.0; choice = here.1; better = here.2 }

  next_found : (k : ℕ) (o after : Option Change) → k < states_of m → IsFound dir m goals x k o → next_state dir m goals x k o ≡ Ok after → IsFound dir m goals x (suc k) after
  next_found k (Some change) after l before made = subst (IsFound dir m goals x (suc k)) (ok_same (Some change) after made) before
  next_found k None after l before made =
      let p = ok_part (taken_at dir m goals x k) (λ choice. let r : Result (Option Change) Place = Ok (change_at k choice) in r) after made in
      subst (IsFound dir m goals x (suc k)) (ok_same (change_at k p.0) after p.2) (found_by k p.0 l before (taken_so k p.0 p.1))

  pub first_change-is : (o : Option Change) → first_change dir m goals x (states_of m) ≡ Ok o → IsFound dir m goals x (states_of m) o
  first_change-is o made =
      in_turn-keeps (next_state dir m goals x) (Ok None) (λ k o. IsFound dir m goals x k o) (states_of m)
      (λ o e. subst (IsFound dir m goals x 0) (ok_same None o e) (λ s c l g i. absurd (omega arith)))
      (λ k b c l p e. next_found k b c l p e) (states_of m) o (omega arith) made

  found_by_test : (s n : ℕ) (choice : Option ℕ) (o : Option Change) → first_change dir m goals x s ≡ Ok None → taken_at dir m goals x s ≡ Ok choice → o ≡ change_at s choice
      → is_some (change_at s choice) ≡ true → s < n → first_change dir m goals x n ≡ Ok o
  found_by_test s n None o before here e test l = cc
  found_by_test s n (Some c) o before here e test l =
      in_turn-kept (next_state dir m goals x) (Ok None) (suc s) n (Some (record { state = s; choice = c }))
      (in_turn-more (next_state dir m goals x) (Ok None) s (suc s) None (Some (record { state = s; choice = c })) before
      (ap (λ (r : Result (Option ℕ) Place). let q : Result (Option Change) Place = r >>= (λ choice. Ok (change_at s choice)) in q) here) refl) (λ k. refl) l
      ∙ ap (λ (o : Option Change). let q : Result (Option Change) Place = Ok o in q) (sym e)

  -- the first state at which a choice is taken decides
  pub found_first : (s n : ℕ) (choice : Option ℕ) (o : Option Change) → first_change dir m goals x s ≡ Ok None → taken_at dir m goals x s ≡ Ok choice → o ≡ change_at s choice
      → is_some o ≡ true → s < n → first_change dir m goals x n ≡ Ok o
  found_first s n choice o before here e test l = found_by_test s n choice o before here e (ap is_some (sym e) ∙ test) l
