-- There is exactly one start of the path.
use Rattle.std.proofs.Common.{◌≡◌, ◌≢◌, ℕ, suc, ◌≤◌, ◌⊎◌, inl, inr, Bool, true, false, eqb, List, refl, sym, ◌∙◌, ap, subst, arith}
use Rattle.std.proofs.lemmas.List.FromFn.{fill_by_all}
use Rattle.std.specs.Prelude.{slice_index}
use Rattle.mdp_math.proofs.Numbers.{eqb-same}
use Rattle.mdp_unichain.specs.{Component.{Component, Choice, count, choice_at, IsInner, is_state, IsPolicy, IsComponent}, Next.{IsNearest}}
use Rattle.mdp_unichain.specs.Path.{IsFirst, HasOneFirst}
use Rattle.mdp_unichain.proofs.{Chains.{same_number, same_or_other, other_number}, Reaching.{test_or_not, clash_test, least_of}, Improving.{state-below}}
use Rattle.mdp_unichain.proofs.Best.{inner_of_state, listed, listed-at, listed-policy}
use Rattle.mdp_unichain.proofs.Nexts.{nearer_same, rank_of, ranks_toward, goes, goes-is, goes-kept, goes-toward}

module _ (p : Component) (known : IsComponent p) where
  -- the least choice of each state
  least_by : (s : ℕ) → (is_state p s ≡ true) ⊎ (is_state p s ≡ false) → ℕ
  least_by s (inl h) = let c = inner_of_state p s h in (least_of (λ d. Choice.inner (choice_at p s d)) (suc c.0) c.0 (omega arith) c.1).0
  least_by s (inr o) = 0

  least_inner : (s : ℕ) (a : (is_state p s ≡ true) ⊎ (is_state p s ≡ false)) → is_state p s ≡ true → IsInner p s (least_by s a)
  unfolding least_by
  least_inner s (inl h) k = let c = inner_of_state p s h in (least_of (λ d. Choice.inner (choice_at p s d)) (suc c.0) c.0 (omega arith) c.1).1
  least_inner s (inr o) k = absurd (clash_test (is_state p s) k o)

  least_le : (s : ℕ) (a : (is_state p s ≡ true) ⊎ (is_state p s ≡ false)) (d : ℕ) → IsInner p s d → least_by s a ≤ d
  unfolding least_by
  least_le s (inl h) d k = let c = inner_of_state p s h in (least_of (λ d. Choice.inner (choice_at p s d)) (suc c.0) c.0 (omega arith) c.1).2 d k
  least_le s (inr o) d k = omega arith

  least_outside : (s : ℕ) (a : (is_state p s ≡ true) ⊎ (is_state p s ≡ false)) → is_state p s ≡ false → least_by s a ≡ 0
  unfolding least_by
  least_outside s (inl h) k = absurd (clash_test (is_state p s) h k)
  least_outside s (inr o) k = refl

  least_at : ℕ → ℕ
  least_at s = least_by s (test_or_not (is_state p s))

  leasts : List ℕ
  leasts = listed p least_at

  leasts_is : IsPolicy p leasts
  unfolding leasts least_at
  leasts_is = listed-policy p least_at (λ s h. least_inner s (test_or_not (is_state p s)) h) (λ s h. least_outside s (test_or_not (is_state p s)) h)

  leasts-at : (s : ℕ) → is_state p s ≡ true → slice_index leasts s ≡ least_by s (test_or_not (is_state p s))
  unfolding leasts least_at
  leasts-at s h = listed-at p least_at s (state-below p s h)

  module _ (t : ℕ) (is : is_state p t ≡ true) where
    first : (u : ℕ) × (is_state p u ≡ true) × ((s : ℕ) → is_state p s ≡ true → u ≤ s)
    first = least_of (is_state p) (count p) t (state-below p t is) is

    abbrev u : ℕ
    u = first.0

    abbrev alone : ℕ → Bool
    alone s = eqb s u

    inside : (s : ℕ) → alone s ≡ true → is_state p s ≡ true
    inside s h = subst (λ (v : ℕ). is_state p v ≡ true) (sym (same_number s u h)) first.1

    start : List ℕ
    start = goes p known alone u (eqb-same u) first.1 leasts leasts_is inside

    own-at : slice_index start u ≡ least_by u (test_or_not (is_state p u))
    unfolding start
    own-at = goes-kept p known alone u (eqb-same u) first.1 leasts leasts_is inside u (eqb-same u) ∙ leasts-at u first.1

    start_first : IsFirst p start
    unfolding start
    start_first = record {
      least = u;
      is_least = (first.1, first.2);
      own = (
        subst (IsInner p u) (sym own-at) (least_inner u (test_or_not (is_state p u)) first.1),
        λ c k. subst (λ (d : ℕ). d ≤ c) (sym own-at) (least_le u (test_or_not (is_state p u)) c k),
      );
      rank = rank_of p known alone u (eqb-same u) first.1;
      ranks = ranks_toward p known alone u (eqb-same u) first.1;
      toward = λ s h o. goes-toward p known alone u (eqb-same u) first.1 leasts leasts_is inside s h (other_number s u (eqb s u) refl o);
      is = goes-is p known alone u (eqb-same u) first.1 leasts leasts_is inside;
    }

  -- ---- there is no other

  module _ (a b : List ℕ) (f : IsFirst p a) (g : IsFirst p b) where
    one_least : f.least ≡ g.least
    one_least = let l = f.is_least.1 g.least g.is_least.0 in let k = g.is_least.1 f.least f.is_least.0 in omega arith

    same : (s : ℕ) → eqb s f.least ≡ eqb s g.least
    same s = ap (λ (v : ℕ). eqb s v) one_least

    at_same : (s : ℕ) → (is_state p s ≡ true) ⊎ (is_state p s ≡ false) → (s ≡ f.least) ⊎ (s ≢ f.least) → slice_index a s ≡ slice_index b s
    at_same s (inr o) q = IsPolicy.outside f.is s o ∙ sym (IsPolicy.outside g.is s o)
    at_same s (inl h) (inl e) =
        let inner_b : IsInner p f.least (slice_index b f.least) = subst (λ (v : ℕ). IsInner p v (slice_index b v)) (sym one_least) g.own.0 in
        let inner_a : IsInner p g.least (slice_index a g.least) = subst (λ (v : ℕ). IsInner p v (slice_index a v)) one_least f.own.0 in
        let l : slice_index a f.least ≤ slice_index b f.least = f.own.1 (slice_index b f.least) inner_b in
        let k : slice_index b f.least ≤ slice_index a f.least = subst (λ (v : ℕ). slice_index b v ≤ slice_index a v) (sym one_least) (g.own.1 (slice_index a g.least) inner_a) in
        let m : slice_index a f.least ≡ slice_index b f.least = omega arith in
        subst (λ (v : ℕ). slice_index a v ≡ slice_index b v) (sym e) m
    at_same s (inl h) (inr o) =
        let x = f.toward s h o in
        let y = g.toward s h (λ q. o (q ∙ sym one_least)) in
        let l =
        IsNearest.least x (slice_index b s) (nearer_same p known a a f.is (λ v. eqb v g.least) (λ v. eqb v f.least) g.rank f.rank (λ v. sym (same v)) g.ranks f.ranks s (slice_index b s)
        (IsNearest.nearer y)) in
        let k =
        IsNearest.least y (slice_index a s) (nearer_same p known a a f.is (λ v. eqb v f.least) (λ v. eqb v g.least) f.rank g.rank same f.ranks g.ranks s (slice_index a s) (IsNearest.nearer x)) in
        omega arith

    one_first : a ≡ b
    one_first =
        fill_by_all (slice_index b) a (count p) 0 (IsPolicy.len f.is) (λ k l. at_same k (test_or_not (is_state p k)) (same_or_other k f.least))
        ∙ sym (fill_by_all (slice_index b) b (count p) 0 (IsPolicy.len g.is) (λ k l. refl))

pub has_one_first : HasOneFirst
has_one_first p t known is = (start p known t is, start_first p known t is, λ other f. one_first p known other (start p known t is) f (start_first p known t is))
