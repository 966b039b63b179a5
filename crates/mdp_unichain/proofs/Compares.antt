-- What the written comparison says in exact numbers: a choice that is taken is one of the component and better than the present value, and where none
-- is taken none is better.
use Rattle.std.proofs.Common.{◌≡◌, ℕ, zero, suc, ◌<◌, ◌≤◌, ◌⊎◌, inl, inr, Bool, true, false, if◌then◌else◌}
use Rattle.std.proofs.{Common.{List, length, Option, Some, None, Result, Ok, refl, sym, ◌∙◌, ap, subst, arith}, Math.ListN.{get_or-eq_default}}
use Rattle.std.specs.Prelude.{slice_index}
use Rattle.mdp_math.specs.{Rational.{ℚ, ◌+ℚ◌, ◌≤ℚ◌, ◌<ℚ◌}, Written.{written_add, written_compare, cmp_ℚ, ◌>>=◌}}
use Rattle.mdp_math.proofs.{Written.{written_add-some, written_compare-some}, Order.{≤ℚ_trans, ≤ℚ_of_lt, ≤ℚ_of_eq, ≤ℚ-<ℚ_trans}, Numbers.{last_or, le_or}}
use Rattle.mdp_spec.specs.Mdp.{value_at}
use Rattle.mdp_unichain.specs.Component.{Component, Choice, count, choices_at, choice_at, is_state, IsInner, IsPolicy}
use Rattle.mdp_unichain.specs.{Improvement.{worth, IsBetterChoice, NoneBetterAt, IsImproved}, Sums.{written_worth, compared}}
use Rattle.mdp_unichain.specs.{Written.{then_compared, best_of, Values, present_of, choice_over, improved_choice, improved_at}, WrittenLaws.{ImprovesExactly}}
use Rattle.mdp_policy_iteration.specs.{Places.{Place}, Candidates.{Best, judged}, Path.{comparing, or_kept}}
use Rattle.mdp_rows.specs.Better.{is_better}
use Rattle.mdp_policy_iteration.proofs.Turned.{turn, better_turned, as_good_turned, better_of_test, worse_of_test}
use Rattle.mdp_policy_iteration.proofs.{Results.{ok_same, ok_part, place_part, IsUpTo, up_to-is}, Compares.{written_sum-is}}
use Rattle.mdp_unichain.proofs.Improving.{state-below, inner-below}
use Rattle.mdp_elim.proofs.RowSums.{some_part}

-- ---- the choices of a state

module _ (p : Component) (x : List ℚ) (s : ℕ) (present : ℚ) where
  abbrev pub value_of : ℕ → ℚ
  value_of c = turn p.dir (worth (value_at x) (choice_at p s c))

  -- the best value v after the first c choices: it is the present one, or that of a choice which is better
  abbrev pub IsOf : ℕ → ℚ → Option ℕ → Type 0
  IsOf c v None = v ≡ present
  IsOf c v (Some d) = (d < c) × ((choice_at p s d).inner ≡ true) × (v ≡ worth (value_at x) (choice_at p s d)) × (turn p.dir present <ℚ turn p.dir v)

  pub record IsBest (c : ℕ) (best : Best) : Type 0 where
    pub is : IsOf c best.value best.choice
    pub most : (d : ℕ) → d < c → (choice_at p s d).inner ≡ true → value_of d ≤ℚ turn p.dir best.value

  grown : (c : ℕ) (v : ℚ) (o : Option ℕ) → IsOf c v o → IsOf (suc c) v o
  grown c v None h = h
  grown c v (Some d) h = (omega (arith, h.0), h.1, h.2, h.3)

  above_value : (c : ℕ) (v : ℚ) (o : Option ℕ) → IsOf c v o → turn p.dir present ≤ℚ turn p.dir v
  above_value c v None h = ≤ℚ_of_eq _ _ (ap (turn p.dir) (sym h))
  above_value c v (Some d) h = ≤ℚ_of_lt _ _ h.3

  -- one more that isn't better
  stays : (c : ℕ) (best : Best) → IsBest c best → ((choice_at p s c).inner ≡ true → value_of c ≤ℚ turn p.dir best.value) → IsBest (suc c) best
  stays c best h k = record {
    is = grown c best.value best.choice h.is;
    most = λ d l e. elim (last_or c d l) as (λ _. value_of d ≤ℚ turn p.dir best.value) [
      | inl q ↦ subst (λ j. value_of j ≤ℚ turn p.dir best.value) (sym q) (k (subst (λ j. (choice_at p s j).inner ≡ true) q e))
      | inr m ↦ h.most d m e
    ];
  }

  -- one more that is better
  takes : (c : ℕ) (best : Best) (v : ℚ) → IsBest c best → (choice_at p s c).inner ≡ true → v ≡ worth (value_at x) (choice_at p s c) → turn p.dir best.value <ℚ turn p.dir v
      → IsBest (suc c) (record { value = v; choice = Some c })
  takes c best v h cand e better = record {
    is = (omega arith, cand, e, ≤ℚ-<ℚ_trans _ _ _ (above_value c best.value best.choice h.is) better);
    most = λ d l k. elim (last_or c d l) as (λ _. value_of d ≤ℚ turn p.dir v) [
      | inl q ↦ ≤ℚ_of_eq _ _ (subst (λ j. value_of j ≡ turn p.dir v) (sym q) (ap (turn p.dir) (sym e)))
      | inr m ↦ ≤ℚ_trans _ _ _ (h.most d m k) (≤ℚ_of_lt _ _ better)
    ];
  }

  judged_by : (c : ℕ) (best after : Best) (v : ℚ) (b : Bool) → IsBest c best → (choice_at p s c).inner ≡ true → v ≡ worth (value_at x) (choice_at p s c) → is_better p.dir (cmp_ℚ v best.value) ≡ b
      → (let o : Option Best = Some (if b then record { value = v; choice = Some c } else best) in o) ≡ Some after → IsBest (suc c) after
  judged_by c best after v true h cand e test made =
      let same : (let r : Best = record { value = v; choice = Some c } in r) ≡ after = cc in subst (IsBest (suc c)) same (takes c best v h cand e (better_of_test p.dir v best.value test))
  judged_by c best after v false h cand e test made =
      let same : best ≡ after = cc in
      subst (IsBest (suc c)) same (stays c best h (λ _. subst (λ (u : ℚ). turn p.dir u ≤ℚ turn p.dir best.value) e (worse_of_test p.dir v best.value test)))

  compared_by : (c : ℕ) (best after : Best) (choice : Choice) (b : Bool) → choice_at p s c ≡ choice → choice.inner ≡ b → IsBest c best
      → (if b then (written_worth x choice >>= judged p.dir c best) else Some best) ≡ Some after
      → IsBest (suc c) after
  compared_by c best after choice false is cand h made =
      let same : best ≡ after = cc in subst (IsBest (suc c)) same (stays c best h (λ e. absurd (let q : true ≡ false = sym e ∙ ap Choice.inner is ∙ cand in cc)))
  compared_by c best after choice true is cand h made =
      let a = some_part (written_worth x choice) (judged p.dir c best) after made in
      let b = some_part (written_compare a.0 best.value) (λ order. (let o : Option Best = Some (if is_better p.dir order then record { value = a.0; choice = Some c } else best) in o)) after a.2 in
      let order : b.0 ≡ cmp_ℚ a.0 best.value = written_compare-some a.0 best.value b.0 (sym b.1) in
      judged_by c best after a.0 (is_better p.dir b.0) h (ap Choice.inner is ∙ cand) (subst (λ (k : Choice). a.0 ≡ worth (value_at x) k) (sym is) (written_sum-is x choice.reward a.0 choice.row a.1))
      (ap (is_better p.dir) (sym order)) b.2

  pub best_of-is : (c : ℕ) (best : Best) → best_of p x s present c ≡ Ok best → IsBest c best
  best_of-is zero best h =
      let same : (let r : Best = record { value = present; choice = None } in r) ≡ best = ok_same _ best h in
      subst (IsBest 0) same (record { is = refl; most = λ d l. absurd (omega arith) })
  best_of-is (suc c) best h =
      let a = ok_part (best_of p x s present c) (then_compared p x s c) best h in
      compared_by c a.0 best (choice_at p s c) (choice_at p s c).inner refl refl (best_of-is c a.0 a.1) (place_part (comparing s c) (compared p.dir x c (choice_at p s c) a.0) best a.2)

-- ---- the improved policy

module _ (p : Component) (policy : List ℕ) (v : Values) (is : IsPolicy p policy) where
  abbrev bias : ℕ → ℚ
  bias = value_at v.bias

  abbrev Improves : ℕ → ℕ → Type 0
  Improves s c = ((c ≡ slice_index policy s) × NoneBetterAt p v.gain bias s) ⊎ IsBetterChoice p v.gain bias s c

  taken : (s : ℕ) (value u : ℚ) (o : Option ℕ) → value ≡ v.gain +ℚ bias s → IsOf p v.bias s value (length (choices_at p s)) u o
      → ((d : ℕ) → d < length (choices_at p s) → (choice_at p s d).inner ≡ true → turn p.dir (worth bias (choice_at p s d)) ≤ℚ turn p.dir u) → Improves s (or_kept o (slice_index policy s))
  taken s value u None e h most = inl (refl, λ c k. as_good_turned p.dir _ _ (subst (λ (w : ℚ). turn p.dir (worth bias (choice_at p s c)) ≤ℚ turn p.dir w) (h ∙ e) (most c (inner-below p s c k) k)))
  taken s value u (Some c) e h most =
      inr (h.1, better_turned p.dir _ _ (subst (λ (w : ℚ). turn p.dir w <ℚ turn p.dir (worth bias (choice_at p s c))) e (subst (λ (w : ℚ). turn p.dir value <ℚ turn p.dir w) h.2 h.3)))

  improved_by : (s c : ℕ) (b : Bool) → (let r : Result ℕ Place = if b then improved_choice p policy v s else Ok 0 in r) ≡ Ok c → (b ≡ true → Improves s c) × (b ≡ false → c ≡ 0)
  improved_by s c false h = (λ k. absurd (let q : true ≡ false = sym k in cc), λ k. sym (ok_same 0 c h))
  improved_by s c true h =
      let a = ok_part (present_of policy v s) (choice_over p policy v s) c h in
      let b = ok_part (best_of p v.bias s a.0 (length (choices_at p s))) (λ best. (let r : Result ℕ Place = Ok (or_kept (Best.choice best) (slice_index policy s)) in r)) c a.2 in
      let k = best_of-is p v.bias s a.0 (length (choices_at p s)) b.0 b.1 in
      let value : a.0 ≡ v.gain +ℚ bias s =
      written_add-some v.gain (value_at v.bias s) a.0 (sym (place_part (comparing s (slice_index policy s)) (written_add v.gain (value_at v.bias s)) a.0 a.1)) in (
        λ q. subst (Improves s) (ok_same (or_kept (Best.choice b.0) (slice_index policy s)) c b.2)
            (taken s a.0 (Best.value b.0) (Best.choice b.0) value (IsBest.is k) (IsBest.most k)),
        λ q. absurd (let r : true ≡ false = q in cc),
      )

  module _ (improved : List ℕ) (h : IsUpTo (improved_at p policy v) (count p) improved) where
    at : (s : ℕ) → s < count p → (is_state p s ≡ true → Improves s (slice_index improved s)) × (is_state p s ≡ false → slice_index improved s ≡ 0)
    at s l = improved_by s (slice_index improved s) (is_state p s) (IsUpTo.at h s 0 l)

    inner_by : (s c : ℕ) → is_state p s ≡ true → Improves s c → IsInner p s c
    inner_by s c k (inl q) = subst (IsInner p s) (sym q.0) (IsPolicy.inner is s k)
    inner_by s c k (inr b) = b.0

    outside_by : (s : ℕ) → is_state p s ≡ false → (count p ≤ s) ⊎ (s < count p) → slice_index improved s ≡ 0
    outside_by s k (inl l) = let n = IsUpTo.len h in let i : length improved ≤ s = omega arith in get_or-eq_default improved 0 i
    outside_by s k (inr l) = (at s l).1 k

    improves : IsImproved p policy v.gain bias improved
    improves = record {
      is = record {
        len = IsUpTo.len h;
        inner = λ s k. inner_by s (slice_index improved s) k ((at s (state-below p s k)).0 k);
        outside = λ s k. outside_by s k (le_or (count p) s);
      };
      better = λ s k. (at s (state-below p s k)).0 k;
    }

pub improves_exactly : ImprovesExactly
improves_exactly p policy improved v is h = improves p policy v is improved (up_to-is (improved_at p policy v) (count p) improved h)
