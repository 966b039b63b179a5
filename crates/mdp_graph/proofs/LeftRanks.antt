-- The ranks inside the set that the rounds leave.
use Rattle.std.proofs.Common.{◌≡◌, ℕ, zero, suc, ◌+◌, ◌<◌, Bool, true, false, ◌==◌, List, length, map, get_or, refl, sym, ap, subst, ◌∙◌, arith, Option, is_some}
use Rattle.std.proofs.{lemmas.List.{get_or-map, length-map}, lemmas.List.FromFn.{fill_by_all}}
use Rattle.std.specs.List.{range_with_len}
use Rattle.mdp_spec.specs.{Mdp.{Mdp, states_of}, Row.{IsMdp}}
use Rattle.mdp_graph.specs.{Sets.{marked}, Layers.{rank_at, AreRanks}, Rounds.{left_after, CanStay, AreRounds}, Settled.{IsSettled}, Sure.{inside_step, IsSure}}
use Rattle.mdp_graph.proofs.{Passes.{mark-is, has_rank}, Reached.{at_most-some}, RoundLaws.{greatest_round, zero_sure, zero_left}}
use Rattle.mdp_graph.proofs.{LeftAfter.{left-top, stays-alike}, StepsInside.{reached-more, rank-reached}}
use Rattle.mdp_math.proofs.Booleans.{same_truth}

set_left : (m : Mdp) (goals : List Bool) (rounds : List ℕ) (set : ℕ → Bool) → IsMdp m → AreRounds m goals rounds → IsSure m goals set
    → (i s : ℕ) → s < states_of m → set s ≡ true → left_after rounds i s ≡ true
set_left m goals rounds set ok a v zero s h e = zero_left (get_or rounds s 0)
set_left m goals rounds set ok a v (suc i) s h e =
    let w = v.reaches s h e in
    let back = a.next i s h in
    let z : i + 1 ≡ suc i = omega arith in
    ap (λ j. left_after rounds j s) (sym z) ∙ back.1 (w.0, reached-more m ok set (left_after rounds i) (marked goals) (set_left m goals rounds set ok a v i) w.0 s h w.1)

module _ (m : Mdp) (goals : List Bool) (rounds : List ℕ) (inside : List Bool) (ranks : List (Option ℕ)) (ok : IsMdp m) (a : AreRounds m goals rounds) (e : inside ≡ map (λ r. r == 0) rounds)
    (r : AreRanks (inside_step m (marked inside)) (marked goals) (states_of m) ranks) where
  at : (s : ℕ) → s < states_of m → marked inside s ≡ (get_or rounds s 0 == 0)
  at s h = ap (λ (x : List Bool). marked x s) e ∙ get_or-map (λ (x : ℕ). x == 0) rounds s 0 false (let count = a.count in omega (arith, h, count))

  ranked : (s : ℕ) → s < states_of m → is_some (rank_at ranks s) ≡ (get_or rounds s 0 == 0)
  ranked s h =
      let top = greatest_round rounds in
      let sure = zero_sure m goals rounds ok a in
      same_truth (is_some (rank_at ranks s)) (get_or rounds s 0 == 0)
      (λ i.
      (let w = has_rank (rank_at ranks s) i in
      let can : CanStay m goals (marked inside) s = (w.0, sym (r.least w.0 s h) ∙ at_most-some w.0 w.0 (rank_at ranks s) w.1 (omega arith)) in
      let back = a.next top.0 s h in
      let low = top.1 s in
      sym (left-top (get_or rounds s 0) (top.0 + 1) (omega (arith, low)))
      ∙ back.1 (stays-alike m ok goals (marked inside) (left_after rounds top.0) (λ t l. at t l ∙ sym (left-top (get_or rounds t 0) top.0 (top.1 t))) s h can)))
      (λ i.
      (let w = sure.reaches s h i in
      rank-reached m goals inside ranks r s w.0 h (reached-more m ok (λ t. get_or rounds t 0 == 0) (marked inside) (marked goals) (λ t l x. at t l ∙ x) w.0 s h w.1)))

  -- the states of round 0 are those that have a rank
  pub inside_ranked : inside ≡ map is_some ranks
  inside_ranked =
      let n = states_of m in
      let count = a.count in
      let rc = r.count in
      let first : inside ≡ map (marked inside) (range_with_len 0 n) = fill_by_all (marked inside) inside n false (ap length e ∙ length-map rounds (λ (x : ℕ). x == 0) ∙ count) (λ k h. refl) in
      let second : map is_some ranks ≡ map (marked inside) (range_with_len 0 n) =
      fill_by_all (marked inside) (map is_some ranks) n false (length-map ranks is_some ∙ rc) (λ k h. (let l : k < n = omega (arith, h) in mark-is ranks k (omega (arith, l, rc)) ∙ ranked k l ∙ sym (at k l))) in
      first ∙ sym second

  pub settled_left : IsSettled m goals ranks
  settled_left =
      let top = greatest_round rounds in
      record {
        ranked = subst (λ (x : List Bool). AreRanks (inside_step m (marked x)) (marked goals) (states_of m) ranks) inside_ranked r;
        greatest = λ set v s h i.
            (let low = top.1 s in ranked s h ∙ sym (left-top (get_or rounds s 0) top.0 low) ∙ set_left m goals rounds set ok a v top.0 s h i);
      }
