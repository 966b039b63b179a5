-- Where an upper value of the best probability is below the threshold, no subsystem comes to it.
use Rattle.std.proofs.{Common.{◌≡◌, ℕ, ◌<◌, Bool, true, List, sym, subst, arith}, Math.ListN.{replicate}}
use Rattle.std.proofs.lemmas.List.{get_or-replicate}
use Rattle.mdp_math.specs.Rational.{ℚ, ◌≤ℚ◌}
use Rattle.mdp_math.proofs.Order.{≤ℚ_trans, ≤ℚ_refl, add-le-add_ℚ, clash_ℚ}
use Rattle.mdp_spec.specs.{Mdp.{Mdp, states_of}, Row.{IsMdp}, Sub.{sub_of}, Tree.{Tree, IsStrategy, is_marked, unfolded}, Hit.{hit}}
use Rattle.mdp_spec.specs.Bounds.{part, SubMax, SubMin}
use Rattle.mdp_spec.proofs.{Keeping.{unfolded_is_strategy}, Reach.{le_of_parts}, Subsystem.{stays-kept, sub-whole}}
use Rattle.mdp_rows.specs.{declared.dir.Dir.{Dir}, declared.dir.Dir.TheVariants.{Max, Min}}
use Rattle.mdp_subsystem_rules.specs.Fewer.{ReachesMore}
use Rattle.mdp_subsystem_rules.proofs.Fewer.{reaches_more}
use Rattle.mdp_subsystem_bounds.specs.Rules.{Reaches}
use Rattle.mdp_subsystem_search.specs.Shown.{IsBelow}

module _ (m : Mdp) (goals kept : List Bool) (known : IsMdp m) (start : ℕ) (inside : start < states_of m) (t v : ℚ) where
  -- each state is kept
  abbrev all : List Bool
  all = replicate (states_of m) true

  each : (s : ℕ) → s < states_of m → is_marked all s ≡ true
  each s l = get_or-replicate (states_of m) s true _ l

  whole : sub_of m goals all ≡ m
  whole = sub-whole m goals all (λ s l. stays-kept goals all s (each s l))

  more : ReachesMore m goals kept all
  more = reaches_more m goals kept all known (λ s l e. each s l)

  -- some trees of the subsystem come close to the threshold, and no tree of the model passes v
  max_at_most : ((n u : ℕ) (w : Tree) → IsStrategy m u n w start → hit m goals u n w start ≤ℚ v) → SubMax m goals kept start t → t ≤ℚ v
  max_at_most above sub =
      le_of_parts t v (λ k one.
      let c = sub.close k one in
      let w = more.most c.0 c.1 c.2 start inside c.3 in
      let bound = subst (λ (x : Mdp). IsStrategy x 1 c.0 w.0 start → hit x goals 1 c.0 w.0 start ≤ℚ v) (sym whole) (above c.0 1 w.0) w.1 in
      ≤ℚ_trans _ _ _ c.4 (add-le-add_ℚ _ _ _ _ (≤ℚ_trans _ _ _ w.2 bound) (≤ℚ_refl (part k))))

  -- each deep tree of the subsystem does, and a policy of the model never passes v
  min_at_most : ((n : ℕ) → (w : Tree) × IsStrategy m 1 n w start × (hit m goals 1 n w start ≤ℚ v)) → SubMin m goals kept start t → t ≤ℚ v
  min_at_most below sub =
      le_of_parts t v (λ k one.
      let c = sub.close k one in
      let w = subst (λ (x : Mdp). (w : Tree) × IsStrategy x 1 c.0 w start × (hit x goals 1 c.0 w start ≤ℚ v)) (sym whole) (below c.0) in
      let less = more.least c.0 1 w.0 start inside w.1 in
      ≤ℚ_trans _ _ _ (c.1 c.0 1 less.0 (omega arith) less.1) (add-le-add_ℚ _ _ _ _ (≤ℚ_trans _ _ _ less.2 w.2) (≤ℚ_refl (part k))))

at_most : (dir : Dir) (m : Mdp) (goals kept : List Bool) → IsMdp m → (start : ℕ) → start < states_of m → (t v : ℚ) → IsBelow dir m goals start t v → Reaches dir m goals kept start t → t ≤ℚ v
at_most Max m goals kept known start inside t v b sub =
    max_at_most m goals kept known start inside t v
    (λ n u w strategy. subst (λ (x : ℚ). hit m goals u n w start ≤ℚ x) (sym b.value) (b.between.above.above n u w start inside strategy)) sub
at_most Min m goals kept known start inside t v b sub =
    min_at_most m goals kept known start inside t v
    (λ n. (
      unfolded m b.policy n start,
      unfolded_is_strategy m b.policy n start known b.between.takes inside,
      subst (λ (x : ℚ). hit m goals 1 n (unfolded m b.policy n start) start ≤ℚ x) (sym b.value) (b.between.below n start inside),
    )) sub

pub none_below : (dir : Dir) (m : Mdp) (goals kept : List Bool) (start : ℕ) (t v : ℚ) → IsMdp m → start < states_of m → IsBelow dir m goals start t v → Reaches dir m goals kept start t → ⊥
none_below dir m goals kept start t v known inside b sub = clash_ℚ v t b.less (at_most dir m goals kept known start inside t v b sub)
