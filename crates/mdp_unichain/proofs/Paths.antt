-- The path has exactly one end, and where no term is past width this is a policy of the best gain.
use Rattle.std.proofs.Common.{◌≡◌, ◌≢◌, ℕ, zero, suc, ◌+◌, ◌<◌, ◌⊎◌, inl, inr, true, false, true≢false, List, Result, Ok, Err, refl, sym, ◌∙◌, ap, subst, arith}
use Rattle.std.proofs.lemmas.List.FromFn.{fill_by_all}
use Rattle.std.specs.Prelude.{slice_index}
use Rattle.mdp_math.specs.Rational.{ℚ}
use Rattle.mdp_spec.specs.Mdp.{value_at}
use Rattle.mdp_elim.specs.Laws.{GivesSolutions}
use Rattle.mdp_unichain.specs.{Chain.{IsReference}, Component.{Component, count, is_state, row_by, IsPolicy, IsComponent}}
use Rattle.mdp_unichain.specs.{Improvement.{IsEvaluated, IsImproved, IsChanged}, Next.{IsNearest, IsExactNext}, Iteration.{EndsWith}}
use Rattle.mdp_unichain.specs.Written.{Values, written_values, written_improved}
use Rattle.mdp_unichain.specs.Path.{Found, refused_at, AfterComparison, AfterEvaluation, Makes, IsStart, FirstIsStart, HasOneEnd, IsBestGain, EndsAtBestGain}
use Rattle.mdp_policy_iteration.specs.{Iteration.{Step, next, done, refused}, Places.{Place}, Path.{Round, Refusal}, Laws.{first}}
use Rattle.mdp_unichain.proofs.{Chains.{same_or_other}, Reaching.{search_below, test_or_not}, Classes.{one_reference}}
use Rattle.mdp_unichain.proofs.{Improving.{next_is_evaluated, ends_at_none_better}, Ending.{none_twice}, Deciding.{has_reference}}
use Rattle.mdp_unichain.proofs.{Nexts.{exact_is_next, has_one_exact_next}, Exact.{evaluates_exactly}, Compares.{improves_exactly}}
use Rattle.mdp_unichain.proofs.Iterations.{one_end, holds_at_end}

-- two policies are the same, or differ at a state
changed_or_same : (p : Component) (policy improved : List ℕ) → IsPolicy p policy → IsPolicy p improved → (improved ≡ policy) ⊎ ((s : ℕ) × IsChanged p policy improved s)
changed_or_same p policy improved is now =
    elim (search_below (IsChanged p policy improved) (λ s. is_state p s ≡ true → slice_index improved s ≡ slice_index policy s) (count p)
    (λ s l. by s (test_or_not (is_state p s)) (same_or_other (slice_index improved s) (slice_index policy s)))) as (λ _. (improved ≡ policy) ⊎ ((s : ℕ) × IsChanged p policy improved s)) [
      | inl f ↦ inr (f.0, f.2)
      | inr q ↦ inl (fill_by_all (slice_index policy) improved (count p) 0 now.len (λ k l. at k (test_or_not (is_state p k)) (q k l)) ∙ sym
          (fill_by_all (slice_index policy) policy (count p) 0 is.len (λ k l. refl)))
    ]
  where
    by : (s : ℕ) → (is_state p s ≡ true) ⊎ (is_state p s ≡ false) → (slice_index improved s ≡ slice_index policy s) ⊎ (slice_index improved s ≢ slice_index policy s)
        → IsChanged p policy improved s ⊎ (is_state p s ≡ true → slice_index improved s ≡ slice_index policy s)
    by s (inl h) (inl e) = inr (λ k. e)
    by s (inl h) (inr o) = inl (h, o)
    by s (inr h) q = inr (λ k. absurd (true≢false (sym k ∙ h)))

    at : (s : ℕ) → (is_state p s ≡ true) ⊎ (is_state p s ≡ false) → (is_state p s ≡ true → slice_index improved s ≡ slice_index policy s) → slice_index improved s ≡ slice_index policy s
    at s (inl h) q = q h
    at s (inr h) q = IsPolicy.outside now s h ∙ sym (IsPolicy.outside is s h)

-- ---- the steps differ

next-done : (b : Round) (f : Found) → (let s : Step Round Found Refusal = next b in s) ≡ done f → ⊥
next-done b f e = cc

next-refused : (b : Round) (x : Refusal) → (let s : Step Round Found Refusal = next b in s) ≡ refused x → ⊥
next-refused b x e = cc

done-refused : (f : Found) (x : Refusal) → (let s : Step Round Found Refusal = done f in s) ≡ refused x → ⊥
done-refused f x e = cc

next_policy : (n : ℕ) (after : List ℕ) (b : Round) → (let s : Step Round Found Refusal = next b in s) ≡ next (record { number = n; policy = after }) → after ≡ b.policy
next_policy n after b e = let same : b ≡ (let r : Round = record { number = n; policy = after } in r) = cc in sym (ap Round.policy same)

done_found : (a : Round) (t : ℕ) (v : Values) (f : Found) → (let s : Step Round Found Refusal = done f in s) ≡ done (record { policy = a.policy; reference = t; values = v })
    → (let g : Found = record { policy = a.policy; reference = t; values = v } in g) ≡ f
done_found a t v f e = cc

module _ (p : Component) (known : IsComponent p) (gives : GivesSolutions) where
  abbrev P : Round → Type 0
  P a = IsStart p a.policy

  evaluated : (policy : List ℕ) (t : ℕ) (v : Values) → IsPolicy p policy → IsReference (is_state p) (row_by p policy) t → written_values p policy t ≡ Ok v
      → IsEvaluated p policy t v.gain (value_at v.bias)
  evaluated policy t v is r h = record { is = is; reference = r; values = evaluates_exactly gives p policy t v known is (IsReference.leads r) h }

  -- ---- a round makes one thing

  comparison_one : (a : Round) (t : ℕ) (v : Values) (r : Result (List ℕ) Place) (s q : Step Round Found Refusal) → P a → written_improved p a.policy v ≡ r → AfterComparison p a t v r s
      → AfterComparison p a t v r q → s ≡ q
  comparison_one a t v (Err place) s q k e h j = h ∙ sym j
  comparison_one a t v (Ok improved) s q k e (inl h) (inl j) = h.1 ∙ sym j.1
  comparison_one a t v (Ok improved) s q k e (inl h) (inr j) = absurd (j.0 h.0)
  comparison_one a t v (Ok improved) s q k e (inr h) (inl j) = absurd (h.0 j.0)
  comparison_one a t v (Ok improved) s q k e (inr h) (inr j) =
      let i = improves_exactly p a.policy improved v k.is e in
      let o = has_one_exact_next p a.policy improved known (IsImproved.is i) in
      h.1.2 ∙ ap (λ (after : List ℕ). (let s : Step Round Found Refusal = next (record { number = a.number + 1; policy = after }) in s)) (o.2 h.1.0 h.1.1 ∙ sym (o.2 j.1.0 j.1.1)) ∙ sym j.1.2

  evaluation_one : (a : Round) (t : ℕ) (r : Result Values Place) (s q : Step Round Found Refusal) → P a → AfterEvaluation p a t r s → AfterEvaluation p a t r q → s ≡ q
  evaluation_one a t (Err place) s q k h j = h ∙ sym j
  evaluation_one a t (Ok v) s q k h j = comparison_one a t v (written_improved p a.policy v) s q k refl h j

  pub one : (a : Round) (s q : Step Round Found Refusal) → P a → Makes p a s → Makes p a q → s ≡ q
  one a s q k h j =
      let e : j.0 ≡ h.0 = one_reference (is_state p) (row_by p a.policy) j.0 h.0 j.1 h.1 in
      evaluation_one a h.0 (written_values p a.policy h.0) s q k h.2 (subst (λ (t : ℕ). AfterEvaluation p a t (written_values p a.policy t) q) e j.2)

  -- ---- it makes something

  comparison_some : (a : Round) (t : ℕ) (v : Values) (r : Result (List ℕ) Place) → P a → written_improved p a.policy v ≡ r → (s : Step Round Found Refusal) × AfterComparison p a t v r s
  comparison_some a t v (Err place) k e = (refused_at a place, refl)
  comparison_some a t v (Ok improved) k e =
      let i = improves_exactly p a.policy improved v k.is e in
      elim (changed_or_same p a.policy improved k.is (IsImproved.is i)) as (λ _. (s : Step Round Found Refusal) × AfterComparison p a t v (Ok improved) s) [
        | inl same ↦ (done (record { policy = a.policy; reference = t; values = v }), inl (same, refl))
        | inr c ↦
            let o = has_one_exact_next p a.policy improved known (IsImproved.is i) in
            (next (record { number = a.number + 1; policy = o.0 }), inr (λ q. c.1.1 (ap (λ (xs : List ℕ). slice_index xs c.0) q), (o.0, o.1, refl)))
      ]

  evaluation_some : (a : Round) (t : ℕ) (r : Result Values Place) → P a → (s : Step Round Found Refusal) × AfterEvaluation p a t r s
  evaluation_some a t (Err place) k = (refused_at a place, refl)
  evaluation_some a t (Ok v) k = comparison_some a t v (written_improved p a.policy v) k refl

  some : (a : Round) → P a → (s : Step Round Found Refusal) × Makes p a s
  some a k = let r = k.reference in let s = evaluation_some a r.0 (written_values p a.policy r.0) k in (s.0, (r.0, r.1, s.1))

  -- ---- a round that goes on

  measure_of : (a : Round) → (t : ℕ) → ℕ
  measure_of a t = (none_twice p known).0 t a.policy

  pub record Goes_on (a b : Round) (t : ℕ) : Type 0 where
    pub v : Values
    pub improved : List ℕ
    pub values : written_values p a.policy t ≡ Ok v
    pub made : written_improved p a.policy v ≡ Ok improved
    pub changed : improved ≢ a.policy
    pub exact : IsExactNext p a.policy improved b.policy

  comparison_next : (a b : Round) (t : ℕ) (v : Values) (r : Result (List ℕ) Place) → written_values p a.policy t ≡ Ok v → written_improved p a.policy v ≡ r → AfterComparison p a t v r (next b)
      → Goes_on a b t
  comparison_next a b t v (Err place) w e h = absurd (next-refused b _ h)
  comparison_next a b t v (Ok improved) w e (inl h) = absurd (next-done b _ h.1)
  comparison_next a b t v (Ok improved) w e (inr h) =
      record {
        v = v;
        improved = improved;
        values = w;
        made = e;
        changed = h.0;
        exact = subst (λ (after : List ℕ). IsExactNext p a.policy improved after)
            (next_policy (a.number + 1) h.1.0 b h.1.2) h.1.1;
      }

  pub evaluation_next : (a b : Round) (t : ℕ) (r : Result Values Place) → written_values p a.policy t ≡ r → AfterEvaluation p a t r (next b) → Goes_on a b t
  evaluation_next a b t (Err place) w h = absurd (next-refused b _ h)
  evaluation_next a b t (Ok v) w h = comparison_next a b t v (written_improved p a.policy v) w refl h

  -- the next policy keeps one closed class, and fewer are better
  module _ (a b : Round) (k : P a) (t : ℕ) (r : IsReference (is_state p) (row_by p a.policy) t) (g : Goes_on a b t) where
    pub now : IsEvaluated p a.policy t g.v.gain (value_at g.v.bias)
    now = evaluated a.policy t g.v k.is r g.values

    pub imp : IsImproved p a.policy g.v.gain (value_at g.v.bias) g.improved
    imp = improves_exactly p a.policy g.improved g.v k.is g.made

    pub after : (u : ℕ) × (q : ℚ) × (h : ℕ → ℚ) × IsEvaluated p b.policy u q h
    after = next_is_evaluated p a.policy g.improved b.policy t g.v.gain (value_at g.v.bias) known now imp (exact_is_next p a.policy g.improved b.policy g.exact)

    pub keeps : P b
    keeps = record { is = IsEvaluated.is after.3; reference = (after.0, IsEvaluated.reference after.3) }

    pub some_changed : (s : ℕ) × IsChanged p a.policy g.improved s
    some_changed = elim (changed_or_same p a.policy g.improved k.is (IsImproved.is imp)) as (λ _. (s : ℕ) × IsChanged p a.policy g.improved s) [ inl e ↦ absurd (g.changed e) | inr c ↦ c ]

    fewer : (u : ℕ) → IsReference (is_state p) (row_by p b.policy) u → measure_of b u < measure_of a t
    unfolding measure_of
    fewer u h =
        let e : after.0 ≡ u = one_reference (is_state p) (row_by p b.policy) after.0 u (IsEvaluated.reference after.3) h in
        let c = some_changed in
        subst (λ (w : ℕ). (none_twice p known).0 w b.policy < (none_twice p known).0 t a.policy) e
        ((none_twice p known).1 a.policy g.improved b.policy t after.0 g.v.gain after.1 (value_at g.v.bias) after.2 now imp c.0 c.1 (exact_is_next p a.policy g.improved b.policy g.exact) after.3)

  pub kept : (a b : Round) → P a → Makes p a (next b) → P b
  kept a b k h = keeps a b k h.0 h.1 (evaluation_next a b h.0 (written_values p a.policy h.0) refl h.2)

  -- ---- the end

  comparison_done : (a : Round) (t : ℕ) (v : Values) (f : Found) (r : Result (List ℕ) Place) → P a → IsReference (is_state p) (row_by p a.policy) t → written_values p a.policy t ≡ Ok v
      → written_improved p a.policy v ≡ r → AfterComparison p a t v r (done f) → IsBestGain p f
  comparison_done a t v f (Err place) k w x e h = absurd (done-refused f _ h)
  comparison_done a t v f (Ok improved) k w x e (inr h) = absurd (next-done _ f (sym h.1.2))
  comparison_done a t v f (Ok improved) k w x e (inl h) =
      let now = evaluated a.policy t v k.is w x in
      let i = improves_exactly p a.policy improved v k.is e in
      subst (IsBestGain p) (done_found a t v f h.1)
      (record { evaluated = now; none_better = ends_at_none_better p a.policy improved t v.gain (value_at v.bias) known now i (λ s j. ap (λ (xs : List ℕ). slice_index xs s) h.0) })

  evaluation_done : (a : Round) (t : ℕ) (f : Found) (r : Result Values Place) → P a → IsReference (is_state p) (row_by p a.policy) t → written_values p a.policy t ≡ r
      → AfterEvaluation p a t r (done f) → IsBestGain p f
  evaluation_done a t f (Err place) k w x h = absurd (done-refused f _ h)
  evaluation_done a t f (Ok v) k w x h = comparison_done a t v f (written_improved p a.policy v) k w x refl h

  last : (a : Round) (f : Found) → P a → Makes p a (done f) → IsBestGain p f
  last a f k h = evaluation_done a h.0 f (written_values p a.policy h.0) k h.1 refl h.2

  -- ---- there is an end

  -- rounds from a policy with this reference, as long as the number falls
  ends_by : (fuel : ℕ) (a : Round) (t : ℕ) (s : Step Round Found Refusal) → P a → IsReference (is_state p) (row_by p a.policy) t → measure_of a t < suc fuel
      → AfterEvaluation p a t (written_values p a.policy t) s
      → ((b : Round) (u : ℕ) → P b → IsReference (is_state p) (row_by p b.policy) u → measure_of b u < fuel → (r : Result Found Refusal) × EndsWith (Makes p) b r)
      → (r : Result Found Refusal) × EndsWith (Makes p) a r
  ends_by fuel a t (done f) k w l h ih = (Ok f, (1, (done f, (t, w, h), refl)))
  ends_by fuel a t (refused x) k w l h ih = (Err x, (1, (refused x, (t, w, h), refl)))
  ends_by fuel a t (next b) k w l h ih =
      let g = evaluation_next a b t (written_values p a.policy t) refl h in
      let j = keeps a b k t w g in
      let u = IsStart.reference j in
      let f = fewer a b k t w g u.0 u.1 in
      let r = ih b u.0 j u.1 (omega arith) in (r.0, (suc r.1.0, (next b, (t, w, h), r.1.1)))

  ends_within : (fuel : ℕ) (a : Round) (t : ℕ) → P a → IsReference (is_state p) (row_by p a.policy) t → measure_of a t < fuel → (r : Result Found Refusal) × EndsWith (Makes p) a r
  ends_within zero a t k w l = absurd (omega arith)
  ends_within (suc fuel) a t k w l = let s = evaluation_some a t (written_values p a.policy t) k in ends_by fuel a t s.0 k w l s.1 (λ b u j v m. ends_within fuel b u j v m)

  pub has_end_of : (a : Round) → P a → (r : Result Found Refusal) × EndsWith (Makes p) a r
  has_end_of a k = let r = k.reference in ends_within (suc (measure_of a r.0)) a r.0 k r.1 (omega arith)

-- ---- the laws

pub has_one_end : GivesSolutions → HasOneEnd
has_one_end gives p start known s =
    let e = has_end_of p known gives (first start) s in
    (e.0, e.1, λ q h. one_end (Makes p) (λ (a : Round). IsStart p a.policy) (kept p known gives) (one p known gives) (first start) e.0 q s e.1 h)

pub ends_at_best_gain : GivesSolutions → EndsAtBestGain
ends_at_best_gain gives p start found known s h =
    holds_at_end (Makes p) (λ (a : Round). IsStart p a.policy) (kept p known gives) (IsBestGain p) (last p known gives) (first start) found s h

pub first_is_start : FirstIsStart
first_is_start p start known f =
    record {
      is = f.is;
      reference = has_reference p start f.least known f.is
          (record {
            state = f.is_least.0;
            rank = f.rank;
            falls = λ s h o. (IsNearest.nearer (f.toward s h o)).1;
          });
    }
