-- What sure_some answers, from the settled ranks.
use Rattle.std.proofs.{Common.{◌≡◌, ℕ, ◌<◌, Bool, true, ◌&&◌, List, map, sym, ap, ap₂, ◌∙◌, arith, Option, is_some}, lemmas.List.{length-map}}
use Rattle.mdp_spec.specs.{Mdp.{Mdp, states_of, row_at}, Row.{IsMdp}}
use Rattle.mdp_graph.specs.{Sets.{marked, stays_in}, Layers.{reached, rank_at, AreLeastRanks}, Choices.{plain_rank, may_fall, first_passing, AreLeast}}
use Rattle.mdp_graph.specs.{Sure.{inside_step, IsGreatestSure, stays_and_falls}, Settled.{IsSettled}}
use Rattle.mdp_graph.proofs.{Reached.{rank_of, at_most-some}, Passes.{mark-is, has_rank, least_ranks, least_choices, falls-is}, StepsInside.{inside-choice}}

module _ (m : Mdp) (goals : List Bool) (ranks : List (Option ℕ)) (f : IsSettled m goals ranks) where
  mark : (s : ℕ) → s < states_of m → marked (map is_some ranks) s ≡ is_some (rank_at ranks s)
  mark s h = mark-is ranks s (let c = f.ranked.count in omega (arith, c))

  goal-marked : (s : ℕ) → s < states_of m → marked goals s ≡ true → marked (map is_some ranks) s ≡ true
  unfolding reached
  goal-marked s h e = let w = rank_of 0 (rank_at ranks s) (f.ranked.least 0 s h ∙ e) in mark s h ∙ ap is_some w.1

  pub sure_marks : IsGreatestSure m goals (map is_some ranks)
  sure_marks = record {
    count = length-map ranks is_some ∙ f.ranked.count;
    sure = record {
      goals_in = goal-marked;
      reaches = λ s h e. (let w = has_rank (rank_at ranks s) (sym (mark s h) ∙ e) in (w.0, sym (f.ranked.least w.0 s h) ∙ at_most-some w.0 w.0 (rank_at ranks s) w.1 (omega arith)));
    };
    greatest = λ set sure s h e. mark s h ∙ f.greatest set sure s h e;
  }

  pub sure_ranks : AreLeastRanks (inside_step m (marked (map is_some ranks))) (marked goals) (states_of m) (map is_some ranks) (map plain_rank ranks)
  sure_ranks = least_ranks (inside_step m (marked (map is_some ranks))) (marked goals) (states_of m) ranks f.ranked

  pub sure_choices : (ok : IsMdp m) (choices : List ℕ) (inside : List Bool) (seen : List (Option ℕ)) → inside ≡ map is_some ranks → seen ≡ ranks
      → choices ≡ first_passing m (may_fall m inside seen) → AreLeast m goals (map is_some ranks) (stays_and_falls m (map is_some ranks) (map plain_rank ranks)) choices
  sure_choices ok choices inside seen ei es is =
      least_choices m ok (λ s c. stays_in (marked (map is_some ranks)) (row_at m s c)) goals (inside_step m (marked (map is_some ranks))) ranks f.ranked (λ set s h e. inside-choice m (marked (map is_some ranks)) set s e)
      (stays_and_falls m (map is_some ranks) (map plain_rank ranks)) (λ s c h k. ap (λ b. stays_in (marked (map is_some ranks)) (row_at m s c) && b)
      (falls-is m ok ranks f.ranked.count s c h k)) choices
      (is ∙ ap₂ (λ (x : List Bool) (y : List (Option ℕ)). first_passing m (may_fall m x y)) ei es)
