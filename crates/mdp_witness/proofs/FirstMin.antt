-- The first set of the least probability: the values of the whole model are a floor of its subsystem, so its least probability is at least theirs.
use Rattle.std.proofs.Common.{◌≡◌, ℕ, ◌+◌, ◌<◌, ◌≤◌, Bool, true, false, cond, List, [], ◌∷◌, length, get_or, refl, sym, ◌∙◌, ap, subst, arith}
use Rattle.std.proofs.lemmas.List.FromFn.{length-range_with_len, get_or-range_with_len}
use Rattle.std.specs.List.{All}
use Rattle.mdp_math.specs.Rational.{ℚ, ◌*ℚ◌, ◌≤ℚ◌, ◌<ℚ◌}
use Rattle.mdp_math.proofs.{Linear.{linear, known}, Order.{0ℚ, 1ℚ, ≤ℚ_trans, ≤ℚ_of_eq, <ℚ_irrefl}, Ring.{◌⊕◌}, Sums.{sum_of-same_all}}
use Rattle.mdp_spec.specs.{Mdp.{Entry, Mdp, states_of, choices_at, row_at, value_at}, Row.{IsMdp, row_sum}, Rules.{MeetsReachMin}}
use Rattle.mdp_spec.specs.{Bounds.{ReachMin, SubMin, part}, Hit.{hit}, Sub.{sub_of}, Tree.{is_marked, unfolded}}
use Rattle.mdp_spec.proofs.{Keeping.{unfolded_is_strategy}, Reach.{le_of_parts}, Subsystem.{sub-states, sub_is_mdp}}
use Rattle.mdp_rows.specs.declared.dir.Dir.TheVariants.{Min}
use Rattle.mdp_subsystem_rules.specs.Floor.{counted_value, counted_rank, counted_sum, MeetsFloor}
use Rattle.mdp_subsystem_rules.proofs.Floors.{sub_min_of_floor}
use Rattle.mdp_reach.specs.Laws.{AnswersAreLeast}
use Rattle.mdp_witness.specs.{First.{is_open, IsFirst}, TrialLaws.{CanBeLeastFirst}}
use Rattle.mdp_witness.proofs.FirstSet.{first-inside, first-no_goal, first-above, closed-zero, not_open}

-- where each deep tree of a subsystem comes close to the threshold, its least probability is at least the threshold
pub least_reaches : (m : Mdp) (goals kept : List Bool) (start : ℕ) (threshold : ℚ) (z : List ℚ) (policy : List ℕ) → IsMdp m → start < states_of m
    → SubMin m goals kept start threshold → ReachMin (sub_of m goals kept) goals z policy → threshold ≤ℚ value_at z start
least_reaches m goals kept start threshold z policy known_ inside sub least =
    let b : Mdp = sub_of m goals kept in
    let i : start < states_of b = subst (λ (n : ℕ). start < n) (sym (sub-states m goals kept)) inside in
    le_of_parts threshold (value_at z start)
    (λ k hk.
    let c = SubMin.close sub k hk in
    let strategy = unfolded_is_strategy b policy c.0 start (sub_is_mdp m goals kept known_) least.takes i in
    linear 4 (λ t v x q. t) (λ t v x q. v ⊕ q) (λ t v x q. known t (x ⊕ q) ∷ known x v ∷ []) refl
    threshold (value_at z start) (hit b goals 1 c.0 (unfolded b policy c.0 start) start) (part k)
    (c.1 c.0 1 (unfolded b policy c.0 start) (omega arith) strategy) (least.below c.0 start i))

module _ (m : Mdp) (goals : List Bool) (z : List ℚ) (policy ranks : List ℕ) (start : ℕ) (threshold : ℚ) (first : List Bool) (known_ : IsMdp m) (rules : MeetsReachMin m goals z policy ranks)
    (is : IsFirst Min m goals z policy start first) (inside : start < states_of m) (reaches : threshold ≤ℚ value_at z start) where
  abbrev Enters : ℕ → Type 0
  Enters s = is_open goals z s ≡ true → is_marked first s ≡ true

  -- a state that is in the first set, where it is open, counts as its value
  counted_by : (s : ℕ) (g f : Bool) → s < states_of m → is_marked goals s ≡ g → is_marked first s ≡ f → Enters s → cond g 1ℚ (cond f (value_at z s) 0ℚ) ≡ value_at z s
  counted_by s true f l eg ef o = sym (rules.probabilities.at_goal s l eg)
  counted_by s false true l eg ef o = refl
  counted_by s false false l eg ef o = sym (closed-zero m goals z s rules.probabilities l eg (not_open (is_open goals z s) (is_marked first s) o ef))

  counted-is : (s : ℕ) → s < states_of m → Enters s → counted_value goals first z s ≡ value_at z s
  counted-is s l o = counted_by s (is_marked goals s) (is_marked first s) l refl refl o

  rank_by : (g f : Bool) (rank : ℕ) → cond g 0 (cond f rank 0) ≤ rank
  rank_by true f rank = omega arith
  rank_by false true rank = omega arith
  rank_by false false rank = omega arith

  -- each open successor of a state of the first set is in it
  next : (s c : ℕ) → is_marked first s ≡ true → c < length (choices_at m s) → All (λ (x : Entry). Enters x.target) (row_at m s c)
  next s c h i =
      let n : ℕ = length (choices_at m s) in
      subst (λ (d : ℕ). All (λ (x : Entry). Enters x.target) (row_at m s d)) (get_or-range_with_len 0 n c 0 i ∙ (let e : 0 + c ≡ c = omega arith in e))
      (is.closed.has_next s (first-inside Min m goals z policy start first is s h) h c 0 (subst (λ (k : ℕ). c < k) (sym (length-range_with_len 0 n)) i))

  counted_sum-is : (s c : ℕ) → is_marked first s ≡ true → c < length (choices_at m s) → counted_sum goals first z (row_at m s c) ≡ row_sum (row_at m s c) z
  counted_sum-is s c h i =
      let row = known_.row s c (first-inside Min m goals z policy start first is s h) i in
      sum_of-same_all (λ (x : Entry). x.prob *ℚ counted_value goals first z x.target) (λ x. x.prob *ℚ value_at z x.target) (row_at m s c)
      (λ k d l.
      let x : Entry = get_or (row_at m s c) k d in
      ap (λ (u : ℚ). x.prob *ℚ u) (counted-is x.target (row.in_range k d l) (next s c h i k d l)))

  -- the values of the whole model are a floor of the subsystem
  pub floor : MeetsFloor m goals first z ranks start threshold
  floor = record {
    no_goal = λ s l h. first-no_goal Min m goals z policy start first is s h;
    at_least_zero = λ s l h. rules.probabilities.at_least_zero s l;
    at_most_one = λ s l h. rules.probabilities.at_most_one s l;
    covered = λ s c l h i.
        ≤ℚ_trans _ _ _ (rules.covered s c l (first-no_goal Min m goals z policy start first is s h) i) (≤ℚ_of_eq _ _ (sym (counted_sum-is s c h i)));
    ends = λ s l h e. absurd (<ℚ_irrefl 0ℚ (subst (λ (v : ℚ). 0ℚ <ℚ v) e (first-above Min m goals z policy start first is s h)));
    falls = λ s c l h p i.
        let any = rules.falls s c l (first-no_goal Min m goals z policy start first is s h) p i in
        let t : ℕ = Entry.target any.1 in
        let r : counted_rank goals first ranks t ≤ get_or ranks t 0 = rank_by (is_marked goals t) (is_marked first t) (get_or ranks t 0) in
        let q : get_or ranks t 0 < get_or ranks s 0 = any.4 in
        let below : counted_rank goals first ranks t < get_or ranks s 0 = omega (arith, r, q) in
        (any.0, any.1, any.2, any.3, below);
    reached = ≤ℚ_trans _ _ _ reaches (≤ℚ_of_eq _ _ (sym (counted-is start inside is.closed.has_start)));
  }

  pub can_be_least_first : AnswersAreLeast → CanBeLeastFirst m goals start threshold first
  can_be_least_first answers = record {
    one_each = is.one_each;
    no_goal = λ s l h. first-no_goal Min m goals z policy start first is s h;
    reaches = λ a e.
        least_reaches m goals first start threshold a.values a.choices known_ inside (sub_min_of_floor m goals first z ranks start threshold known_ floor inside)
        (answers (sub_of m goals first) goals a (sub_is_mdp m goals first known_) e);
  }
