-- The states that reach none of the avoiding states without passing a goal.
use Rattle.std.proofs.Common.{◌≡◌, inl, inr, ℕ, ◌+◌, ◌<◌, ◌≤◌, Bool, true, false, cond, List, length, map, get_or, refl, sym, ap, ◌∙◌, arith, Option, Some, None, is_some, is_none}
use Rattle.std.proofs.{lemmas.Bool.{false≢true, cases_Bool, cases_eq}, lemmas.List.{length-map}}
use Rattle.mdp_spec.specs.Mdp.{Mdp, states_of}
use Rattle.mdp_graph.specs.{Sets.{marked}, Layers.{reached, rank_at, AreRanks, AreReached, AreLeastRanks}, Choices.{plain_rank}, Reach.{may_step}}
use Rattle.mdp_graph.specs.{Meet.{must_step}, SureAll.{AreSure}}
use Rattle.mdp_graph.proofs.{Reached.{rank_of, at_most-some}, Passes.{mark-is, plain-is, has_rank, no_rank}, Avoiding.{without-is}}

-- the ranks of the marked states below i were taken away
pub record AreDropped (old : List (Option ℕ)) (marks : List Bool) (i : ℕ) (new : List (Option ℕ)) : Type 0 where
  pub count : length new ≡ length old
  pub before : (s : ℕ) → s < i → rank_at new s ≡ cond (marked marks s) None (rank_at old s)
  pub after : (s : ℕ) → i ≤ s → rank_at new s ≡ rank_at old s

pub one_kept : (old : List (Option ℕ)) (marks : List Bool) (i : ℕ) (now : List (Option ℕ)) → AreDropped old marks i now → marked marks i ≡ false → AreDropped old marks (i + 1) now
one_kept old marks i now was is = record {
  count = was.count;
  before = λ s l. elim (cases_eq s i) [
    | inl same ↦ was.after s (omega (arith, same)) ∙ sym (ap (λ b. cond b None (rank_at old s)) (ap (marked marks) same ∙ is))
    | inr other ↦ was.before s (omega arith)
  ];
  after = λ s l. was.after s (omega arith);
}

kept_some : (b : Bool) (o : Option ℕ) → is_some (cond b None o) ≡ true → b ≡ false
kept_some true o e = absurd (false≢true e)
kept_some false o e = refl

none_some : (o : Option ℕ) → is_none o ≡ false → is_some o ≡ true
none_some None e = absurd (false≢true (sym e))
none_some (Some r) e = refl

module _ (m : Mdp) (goals : List Bool) (ranks : List (Option ℕ)) (a : AreRanks (must_step m) (marked goals) (states_of m) ranks) (reaching : List Bool)
    (r : AreReached (may_step m goals) (marked (map is_none ranks)) (states_of m) reaching) (new : List (Option ℕ)) (count : length new ≡ states_of m)
    (left : (s : ℕ) → s < states_of m → rank_at new s ≡ cond (marked reaching s) None (rank_at ranks s)) where
  here : (s : ℕ) → s < states_of m → s < length new
  here s h = omega (arith, h, count)

  -- a marked state reaches no avoiding state, and has its rank
  not_reaching : (s : ℕ) → s < states_of m → marked (map is_some new) s ≡ true → marked reaching s ≡ false
  not_reaching s h e = kept_some (marked reaching s) (rank_at ranks s) (sym (ap is_some (left s h)) ∙ sym (mark-is new s (here s h)) ∙ e)

  kept_rank : (s : ℕ) → s < states_of m → marked (map is_some new) s ≡ true → rank_at new s ≡ rank_at ranks s
  kept_rank s h e = left s h ∙ ap (λ b. cond b None (rank_at ranks s)) (not_reaching s h e)

  never : (s : ℕ) → s < states_of m → marked reaching s ≡ false → (k : ℕ) → reached (may_step m goals) (marked (map is_none ranks)) k s ≡ false
  never s h e k = elim (cases_Bool (reached (may_step m goals) (marked (map is_none ranks)) k s)) [
    | inl is ↦ (let p = r.marks_reached s h in absurd (false≢true (sym e ∙ p.1 (k, is))))
    | inr not ↦ not
  ]

  is_sure : (s : ℕ) → s < states_of m → ((k : ℕ) → reached (may_step m goals) (marked (map is_none ranks)) k s ≡ false) → marked (map is_some new) s ≡ true
  unfolding reached
  is_sure s h none = elim (cases_Bool (marked reaching s)) [
    | inl is ↦ (let p = r.marks_reached s h in let w = p.0 is in absurd (false≢true (sym (none w.0) ∙ w.1)))
    | inr not ↦
        mark-is new s (here s h) ∙ ap is_some (left s h ∙ ap (λ b. cond b None (rank_at ranks s)) not)
        ∙ none_some (rank_at ranks s) (sym (without-is ranks s (omega (arith, h, a.count))) ∙ none 0)
  ]

  pub sure_marks : AreSure m goals (map is_none ranks) (map is_some new)
  sure_marks = record { count = length-map new is_some ∙ count; never = λ s h. (λ e. never s h (not_reaching s h e), is_sure s h) }

  pub sure_ranks : AreLeastRanks (must_step m) (marked goals) (states_of m) (map is_some new) (map plain_rank new)
  sure_ranks = record {
    count = length-map new plain_rank ∙ count;
    reaches = λ s h e.
        (let w = has_rank (rank_at new s) (sym (mark-is new s (here s h)) ∙ e) in
        ap (λ k. reached (must_step m) (marked goals) k s) (plain-is new s (here s h) ∙ ap plain_rank w.1) ∙ sym (a.least w.0 s h)
        ∙ at_most-some w.0 w.0 (rank_at ranks s) (sym (kept_rank s h e) ∙ w.1) (omega arith));
    least = λ s k h e.
        (let w = rank_of k (rank_at ranks s) (a.least k s h ∙ e) in
        let p : get_or (map plain_rank new) s 0 ≡ plain_rank (rank_at new s) = plain-is new s (here s h) in
        elim (cases_Bool (marked reaching s)) [
          | inl is ↦ (let q : plain_rank (rank_at new s) ≡ 0 = ap plain_rank (left s h ∙ ap (λ b. cond b None (rank_at ranks s)) is) in omega (arith, p, q))
          | inr not ↦ (let q : plain_rank (rank_at new s) ≡ w.0 = ap plain_rank (left s h ∙ ap (λ b. cond b None (rank_at ranks s)) not ∙ w.1) in omega (arith, p, q, w.2))
        ]);
    zero = λ s h e. plain-is new s (here s h) ∙ ap plain_rank (no_rank (rank_at new s) (sym (mark-is new s (here s h)) ∙ e));
  }
