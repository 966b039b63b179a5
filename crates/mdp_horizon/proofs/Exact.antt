-- Written backward induction is backward induction in exact numbers, where no term is past width.
use Rattle.std.proofs.Common.{◌≡◌, ℕ, suc, ◌<◌, inl, inr, List, [], ◌∷◌, ◌++◌, length, map, get_or, slice_index}
use Rattle.std.proofs.{Common.{Option, Some, None, Result, Ok, Err, refl, sym, ◌∙◌, ap, ap₂, subst, arith, length-append}, lemmas.List.{get_or_append_left}}
use Rattle.std.proofs.{lemmas.List.FromFn.{get_or-map-range_with_len, length-map-range_with_len}, Math.Seq.{get_or-append_seam}}
use Rattle.mdp_math.specs.{Rational.{ℚ}, Result.{◌>>=◌}}
use Rattle.mdp_math.proofs.{Numbers.{last_or}, Order.{0ℚ}}
use Rattle.mdp_spec.specs.{Mdp.{Mdp, states_of, choices_at, value_at}, Row.{IsMdp}, Bounds.{finite_part}, RewardRules.{StaysFinite}}
use Rattle.mdp_rows.specs.declared.dir.Dir.{Dir}
use Rattle.mdp_horizon.specs.{Objective.{Objective, stops, ending}, Choices.{Best, best}}
use Rattle.mdp_horizon.specs.Written.{Place, Row, Answer, best_choice, stopped_or, backup, with_state, next_state, no_states, backups, endings, no_steps, with_step, next_step, written_values}
use Rattle.mdp_horizon.proofs.{Directions.{NoBetter, no_better_of_eq}, Claims.{claim_all, stays_finite-some, finite_part-some}}
use Rattle.mdp_horizon.proofs.{Halves.{backed_up, CoversStep, FollowsStep, IsCovering, IsFollowing}, Choosing.{IsBestOf, best_choice-is}}
use Rattle.mdp_horizon.proofs.Turns.{ok_same, ok_part, in_turn-keeps}

-- ---- a list with one more

longer : {A : Type 0} (xs : List A) (x : A) (n : ℕ) → length xs ≡ n → length (xs ++ x ∷ []) ≡ suc n
longer xs x n e = omega (arith, length-append xs (x ∷ []), e)

last_is : {A : Type 0} (xs : List A) (x d : A) (n : ℕ) → length xs ≡ n → get_or (xs ++ x ∷ []) n d ≡ x
last_is xs x d n e = subst (λ (k : ℕ). get_or (xs ++ x ∷ []) k d ≡ x) e (get_or-append_seam xs x [] d)

first_are : {A : Type 0} (xs : List A) (x d : A) (n k : ℕ) → length xs ≡ n → k < n → get_or (xs ++ x ∷ []) k d ≡ get_or xs k d
first_are xs x d n k e l = get_or_append_left xs (x ∷ []) d k (omega (arith, e))

-- the row's values and choices are those of the first n states
record AreOf (f : ℕ → Result Best Place) (n : ℕ) (row : Row) : Type 0 where
  values : length row.values ≡ n
  choices : length row.choices ≡ n
  at : (s : ℕ) → s < n → f s ≡ Ok (best (value_at row.values s) (get_or row.choices s 0))

grown : (f : ℕ → Result Best Place) (n : ℕ) (row : Row) (x : Best) → AreOf f n row → f n ≡ Ok x → AreOf f (suc n) (with_state row x)
grown f n row x h e = record {
  values = longer row.values x.value n h.values;
  choices = longer row.choices x.choice n h.choices;
  at = λ s l. elim (last_or n s l) as (λ _. f s ≡ Ok (best (value_at (row.values ++ x.value ∷ []) s) (get_or (row.choices ++ x.choice ∷ []) s 0))) [
    | inl q ↦ subst (λ (k : ℕ). f k ≡ Ok (best (value_at (row.values ++ x.value ∷ []) k) (get_or (row.choices ++ x.choice ∷ []) k 0))) (sym q)
        (e
        ∙ ap (λ (v : ℚ). let r : Result Best Place = Ok (best v x.choice) in r) (sym (last_is row.values x.value 0ℚ n h.values))
        ∙ ap (λ (c : ℕ). let r : Result Best Place = Ok (best (value_at (row.values ++ x.value ∷ []) n) c) in r) (sym (last_is row.choices x.choice 0 n h.choices)))
    | inr k ↦ h.at s k
        ∙ ap (λ (v : ℚ). let r : Result Best Place = Ok (best v (get_or row.choices s 0)) in r) (sym (first_are row.values x.value 0ℚ n s h.values k))
        ∙ ap (λ (c : ℕ). let r : Result Best Place = Ok (best (value_at (row.values ++ x.value ∷ []) s) c) in r) (sym (first_are row.choices x.choice 0 n s h.choices k))
  ];
}

module _ (dir : Dir) (m : Mdp) (o : Objective) where
  -- ---- all states

  backups-are : (depth : ℕ) (z : List ℚ) (row : Row) → backups dir m o depth z ≡ Ok row → AreOf (backup dir m o depth z) (states_of m) row
  backups-are depth z row made =
      in_turn-keeps (next_state dir m o depth z) (Ok no_states) (AreOf (backup dir m o depth z)) (states_of m)
      (λ b e. subst (AreOf (backup dir m o depth z) 0) (ok_same no_states b e) (record { values = refl; choices = refl; at = λ s l. absurd (omega arith) }))
      (λ n b c l h e.
      let a = ok_part (backup dir m o depth z n) (λ x. let r : Result Row Place = Ok (with_state b x) in r) c e in
      subst (AreOf (backup dir m o depth z) (suc n)) (ok_same (with_state b a.0) c a.2) (grown (backup dir m o depth z) n b a.0 h a.1))
      (states_of m) row (omega arith) made

  pub backups-length : (depth : ℕ) (z : List ℚ) (row : Row) → backups dir m o depth z ≡ Ok row → length row.values ≡ states_of m
  backups-length depth z row made = AreOf.values (backups-are depth z row made)

  -- a step, from where the code computes it
  pub step_made : (n d : ℕ) (z : List ℚ) (a : Answer) (row : Row) → d ≡ suc n → z ≡ a.values → backups dir m o d z ≡ Ok row → next_step dir m o n a ≡ Ok (with_step a row)
  step_made n d z a row e q made =
      ap (λ (r : Result Row Place). let p : Result Answer Place = r >>= (λ x. Ok (with_step a x)) in p) (ap₂ (backups dir m o) (sym e) (sym q) ∙ made)

  pub step_refused : (n d : ℕ) (z : List ℚ) (a : Answer) (w : Place) → d ≡ suc n → z ≡ a.values → backups dir m o d z ≡ Err w → next_step dir m o n a ≡ Err w
  step_refused n d z a w e q made =
      ap (λ (r : Result Row Place). let p : Result Answer Place = r >>= (λ x. Ok (with_step a x)) in p) (ap₂ (backups dir m o) (sym e) (sym q) ∙ made)

  -- ---- one state

  module _ (known_ : IsMdp m) (depth : ℕ) (z : List ℚ) (s : ℕ) (h : s < states_of m) (x : Best) (made : backup dir m o depth z s ≡ Ok x) where
    by_stop : (stop : Option ℚ) → stops m o s ≡ stop → stopped_or stop (best_choice dir m o depth z s) ≡ Ok x
    by_stop stop e = ap (λ (stop : Option ℚ). stopped_or stop (best_choice dir m o depth z s)) (sym e) ∙ made

    stopped : (y : ℚ) → stops m o s ≡ Some y → best y 0 ≡ x
    stopped y e = ok_same (best y 0) x (by_stop (Some y) e)

    chosen : stops m o s ≡ None → IsBestOf dir m o z s (length (choices_at m s)) x
    chosen e = best_choice-is dir m o depth z s x (known_.choice s h) (by_stop None e)

    in_range_by : (stop : Option ℚ) → stops m o s ≡ stop → x.choice < length (choices_at m s)
    in_range_by (Some y) e = subst (λ (b : Best). b.choice < length (choices_at m s)) (stopped y e) (known_.choice s h)
    in_range_by None e = IsBestOf.inside (chosen e)

    in_range : x.choice < length (choices_at m s)
    in_range = in_range_by (stops m o s) refl

  -- ---- one step, and all steps

  module _ (known_ : IsMdp m) (depth : ℕ) (z : List ℚ) (row : Row) (made : backups dir m o depth z ≡ Ok row) where
    are : AreOf (backup dir m o depth z) (states_of m) row
    are = backups-are depth z row made

    -- the values of exact numbers as values that may be missing
    backed_up_all : (s c : ℕ) → backed_up m o (finite_part (map Some z)) s c ≡ backed_up m o z s c
    backed_up_all s c = ap (λ (z : List ℚ). backed_up m o z s c) (finite_part-some z)

    backups_cover : CoversStep dir m o (map Some z) (map Some row.values)
    backups_cover = record {
      stopped = λ s x h e.
          claim_all row.values s (λ y. NoBetter dir x y) (no_better_of_eq dir _ _ (ap Best.value (stopped known_ depth z s h _ (are.at s h) x e)));
      each = λ s c h e l.
          claim_all row.values s (λ y. StaysFinite m (map Some z) s c × NoBetter dir (backed_up m o (finite_part (map Some z)) s c) y)
          (stays_finite-some m z s c, subst (λ (w : ℚ). NoBetter dir w (value_at row.values s)) (sym (backed_up_all s c)) (IsBestOf.covers (chosen known_ depth z s h _ (are.at s h) e) c l));
    }

    backups_follow : FollowsStep dir m o (map Some z) row.choices (map Some row.values)
    backups_follow = record {
      policy = record { one_each = are.choices; in_range = λ s h. in_range known_ depth z s h _ (are.at s h) };
      stopped = λ s x h e.
          claim_all row.values s (λ y. NoBetter dir y x) (no_better_of_eq dir _ _ (sym (ap Best.value (stopped known_ depth z s h _ (are.at s h) x e))));
      taken = λ s h e.
          claim_all row.values s
          (λ y. StaysFinite m (map Some z) s (slice_index row.choices s) × NoBetter dir y (backed_up m o (finite_part (map Some z)) s (slice_index row.choices s))) (
            stays_finite-some m z s (slice_index row.choices s),
            no_better_of_eq dir _ _ (IsBestOf.value (chosen known_ depth z s h _ (are.at s h) e) ∙ sym (backed_up_all s (slice_index row.choices s))),
          );
    }

  endings-at : (s : ℕ) → s < states_of m → value_at (endings m o) s ≡ ending m o s
  endings-at s h = get_or-map-range_with_len (ending m o) 0 (states_of m) s s 0ℚ h (omega arith)

  pub length-endings : length (endings m o) ≡ states_of m
  length-endings = length-map-range_with_len (ending m o) 0 (states_of m)

  -- both halves of n steps
  abbrev pub AreExact : ℕ → Answer → Type 0
  AreExact n a = IsCovering dir m o n (map Some a.values) × IsFollowing dir m o n (map Some a.values) a.steps

  pub written_is_exact : IsMdp m → (n : ℕ) (a : Answer) → written_values dir m o n ≡ Ok a → AreExact n a
  written_is_exact known_ n a made =
      in_turn-keeps (next_step dir m o) (Ok (no_steps m o)) AreExact n
      (λ b e. subst (AreExact 0) (ok_same (no_steps m o) b e) (
        λ s h. claim_all (endings m o) s (λ y. NoBetter dir (ending m o s) y) (no_better_of_eq dir _ _ (sym (endings-at s h))),
        λ s h. claim_all (endings m o) s (λ y. NoBetter dir y (ending m o s)) (no_better_of_eq dir _ _ (endings-at s h)),
      ))
      (λ k b c l h e.
      let p = ok_part (backups dir m o (suc k) b.values) (λ row. let r : Result Answer Place = Ok (with_step b row) in r) c e in
      subst (AreExact (suc k)) (ok_same (with_step b p.0) c p.2)
      ((map Some b.values, h.0, backups_cover known_ (suc k) b.values p.0 p.1), (map Some b.values, h.1, backups_follow known_ (suc k) b.values p.0 p.1)))
      n a (omega arith) made
