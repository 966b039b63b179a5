-- What a step of the path says: it goes on with the improved policy where some choice is taken, and is done where none is.
use Rattle.std.proofs.Common.{◌≡◌, ℕ, ◌+◌, ◌<◌, Bool, true, false, if◌then◌else◌, List, length, get_or, Option, Some, None, Result, Ok, Err, refl, sym, ap}
use Rattle.std.proofs.lemmas.List.Folds.{list_any_at}
use Rattle.std.specs.{List.{list_any}, Option.{is_some}}
use Rattle.mdp_math.specs.Rational.{ℚ}
use Rattle.mdp_policy_iteration.specs.{Iteration.{Step, next, done}, Problem.{Problem}, Places.{Place}}
use Rattle.mdp_policy_iteration.specs.Path.{Round, Found, Refusal, written_values, improvements, improved, after_comparison, after_evaluation, path_step}

module _ (p : Problem) where
  -- ---- a step that goes on

  pub record GoesOn (a b : Round) : Type 0 where
    pub x : List ℚ
    pub takes : List (Option ℕ)
    pub values : written_values p a.policy ≡ Ok x
    pub choices : improvements p x ≡ Ok takes
    pub some : list_any is_some takes ≡ true
    pub policy : b.policy ≡ improved a.policy takes

  -- what a comparison makes, by whether a choice is taken
  abbrev made : Round → List ℚ → List (Option ℕ) → Bool → Step Round Found Refusal
  made a x takes t =
      if t then next (record { number = a.number + 1; policy = improved a.policy takes }) else done (record { number = a.number; policy = a.policy; values = x })

  next_by : (a b : Round) (x : List ℚ) (takes : List (Option ℕ)) (t : Bool) → made a x takes t ≡ next b → (t ≡ true) × (b.policy ≡ improved a.policy takes)
  next_by a b x takes true h =
      let same : (let r : Round = record { number = a.number + 1; policy = improved a.policy takes } in r) ≡ b = cc in (refl, ap Round.policy (sym same))
  next_by a b x takes false h = cc

  comparison_next : (a b : Round) (x : List ℚ) (q : Result (List (Option ℕ)) Place) → written_values p a.policy ≡ Ok x → improvements p x ≡ q
      → after_comparison a x q ≡ next b → GoesOn a b
  comparison_next a b x (Err place) v e h = cc
  comparison_next a b x (Ok takes) v e h =
      let n = next_by a b x takes (list_any is_some takes) h in record { x = x; takes = takes; values = v; choices = e; some = n.0; policy = n.1 }

  evaluation_next : (a b : Round) (r : Result (List ℚ) Place) → written_values p a.policy ≡ r → after_evaluation p a r ≡ next b → GoesOn a b
  evaluation_next a b (Err place) e h = cc
  evaluation_next a b (Ok x) e h = comparison_next a b x (improvements p x) e refl h

  pub goes_on : (a b : Round) → path_step p a ≡ next b → GoesOn a b
  goes_on a b h = evaluation_next a b (written_values p a.policy) refl h

  -- ---- a step that is done

  pub record IsDone (a : Round) (found : Found) : Type 0 where
    pub x : List ℚ
    pub takes : List (Option ℕ)
    pub values : written_values p a.policy ≡ Ok x
    pub choices : improvements p x ≡ Ok takes
    pub none : list_any is_some takes ≡ false
    pub found_is : (let f : Found = record { number = a.number; policy = a.policy; values = x } in f) ≡ found

  done_by : (a : Round) (found : Found) (x : List ℚ) (takes : List (Option ℕ)) (t : Bool) → made a x takes t ≡ done found
      → (t ≡ false) × ((let f : Found = record { number = a.number; policy = a.policy; values = x } in f) ≡ found)
  done_by a found x takes true h = cc
  done_by a found x takes false h = (refl, cc)

  comparison_done : (a : Round) (found : Found) (x : List ℚ) (q : Result (List (Option ℕ)) Place) → written_values p a.policy ≡ Ok x → improvements p x ≡ q
      → after_comparison a x q ≡ done found → IsDone a found
  comparison_done a found x (Err place) v e h = cc
  comparison_done a found x (Ok takes) v e h =
      let n = done_by a found x takes (list_any is_some takes) h in record { x = x; takes = takes; values = v; choices = e; none = n.0; found_is = n.1 }

  evaluation_done : (a : Round) (found : Found) (r : Result (List ℚ) Place) → written_values p a.policy ≡ r → after_evaluation p a r ≡ done found → IsDone a found
  evaluation_done a found (Err place) e h = cc
  evaluation_done a found (Ok x) e h = comparison_done a found x (improvements p x) e refl h

  pub is_done : (a : Round) (found : Found) → path_step p a ≡ done found → IsDone a found
  is_done a found h = evaluation_done a found (written_values p a.policy) refl h

-- ---- whether a choice is taken

pub some_at : (o : Option ℕ) → is_some o ≡ true → (c : ℕ) × (o ≡ Some c)
some_at None e = cc
some_at (Some c) e = (c, refl)

pub none_taken : (takes : List (Option ℕ)) (s : ℕ) (o : Option ℕ) → get_or takes s None ≡ o → s < length takes → list_any is_some takes ≡ false → o ≡ None
none_taken takes s None e l h = refl
none_taken takes s (Some c) e l h = let t = list_any_at is_some takes s None l (ap is_some e) in cc
