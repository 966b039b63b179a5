-- The rounds at the states outside the greatest sure set.
use Rattle.std.proofs.Common.{◌≡◌, ◌⊎◌, inl, inr, ℕ, suc, zero, ◌+◌, ◌<◌, ◌≤◌, Bool, true, false, ◌||◌, ◌&&◌, ◌==◌, nat_lt, lt-ltb, le-ltb, eq-eqb, List, [], ◌∷◌, length}
use Rattle.std.proofs.{Common.{get_or, refl, sym, ap, ◌∙◌, arith}, lemmas.Bool.{false≢true, cases_lt, ne_eqb, cases_Bool, cases_eq}}
use Rattle.mdp_spec.specs.{Mdp.{Mdp, states_of, choices_at, row_at}, Row.{IsMdp}}
use Rattle.mdp_graph.specs.{Sets.{marked, can_enter, stays_in}, Layers.{reached}, Sure.{inside_step, IsSure}, Rounds.{left_after, AreRounds}}
use Rattle.mdp_graph.specs.Laws.{earlier, RoundsFall, ZeroIsSure}
use Rattle.mdp_graph.proofs.{Reaching.{step-reaches}, StepsInside.{choice-inside, reached-more}, LeftAfter.{left-top, stays-alike}}
use Rattle.mdp_graph.proofs.RowSets.{enters-by, stays-outside, stays-fails}
use Rattle.mdp_math.proofs.Booleans.{or-true, and-both, same_truth}

-- a state that isn't earlier than one of round i + 1 was left after round i; where it has another round, also after round i + 1
later-left : (i r : ℕ) → (nat_lt 0 r && nat_lt r (suc i)) ≡ false → ((r == 0) || nat_lt i r) ≡ true
later-left i zero e = refl
later-left i (suc r) e = elim (cases_lt (suc r) (suc i)) [
  | inl l ↦ absurd (false≢true (sym e ∙ and-both (nat_lt 0 (suc r)) (nat_lt (suc r) (suc i)) (lt-ltb 0 (suc r) (omega arith)) (lt-ltb (suc r) (suc i) l)))
  | inr g ↦ ap (λ b. (suc r == 0) || b) (lt-ltb i (suc r) (omega (arith, g))) ∙ or-true (suc r == 0)
]

other-left : (i r : ℕ) → (nat_lt 0 r && nat_lt r (suc i)) ≡ false → (r == suc i) ≡ false → ((r == 0) || nat_lt (i + 1) r) ≡ true
other-left i zero e f = refl
other-left i (suc r) e f = elim (cases_lt (suc r) (suc i)) [
  | inl l ↦ absurd (false≢true (sym e ∙ and-both (nat_lt 0 (suc r)) (nat_lt (suc r) (suc i)) (lt-ltb 0 (suc r) (omega arith)) (lt-ltb (suc r) (suc i) l)))
  | inr g ↦ (elim (cases_eq (suc r) (suc i)) [
    | inl same ↦ absurd (false≢true (sym f ∙ eq-eqb (suc r) (suc i) same))
    | inr other ↦ ap (λ b. (suc r == 0) || b) (lt-ltb (i + 1) (suc r) (omega (arith, g, other))) ∙ or-true (suc r == 0)
  ])
]

gone : (i r : ℕ) → r ≡ suc i → ((r == 0) || nat_lt (i + 1) r) ≡ false
gone i r e = ap (λ b. b || nat_lt (i + 1) r) (ne_eqb r 0 (λ z. absurd (omega (arith, e, z)))) ∙ le-ltb (i + 1) r (omega (arith, e))

fall_at : (m : Mdp) (goals : List Bool) (rounds : List ℕ) → IsMdp m → AreRounds m goals rounds → (s c i : ℕ) → s < states_of m → get_or rounds s 0 ≡ suc i → c < length (choices_at m s)
    → (can_enter (earlier rounds s) (row_at m s c) ≡ true) ⊎ (stays_in (λ t. get_or rounds t 0 == get_or rounds s 0) (row_at m s c) ≡ true)
fall_at m goals rounds ok a s c i h e k =
    let row = ok.row s c h k in
    elim (cases_Bool (can_enter (earlier rounds s) (row_at m s c))) [
      | inl is ↦ inl is
      | inr out ↦ (elim (cases_Bool (stays_in (λ t. get_or rounds t 0 == get_or rounds s 0) (row_at m s c))) [
        | inl all ↦ inr all
        | inr other ↦
            (let w = stays-fails (λ t. get_or rounds t 0 == get_or rounds s 0) (row_at m s c) (states_of m) row.in_range other in
            let not_earlier : (t : ℕ) → earlier rounds s t ≡ false → (nat_lt 0 (get_or rounds t 0) && nat_lt (get_or rounds t 0) (suc i)) ≡ false =
            λ t f. ap (λ r. nat_lt 0 (get_or rounds t 0) && nat_lt (get_or rounds t 0) r) (sym e) ∙ f in
            let here : earlier rounds s w.0 ≡ false = elim (cases_Bool (earlier rounds s w.0)) [
              | inl is ↦ absurd (false≢true (sym out ∙ enters-by (earlier rounds s) (row_at m s c) w.0 w.2 is))
              | inr not ↦ not
            ] in
            let left = other-left i (get_or rounds w.0 0) (not_earlier w.0 here) (ap (λ r. get_or rounds w.0 0 == r) (sym e) ∙ w.3) in
            let next = a.next i w.0 w.1 in
            let stay = next.0 left in
            let inside = stays-outside (earlier rounds s) (left_after rounds i) (row_at m s c) (states_of m) row.in_range (λ t l f. later-left i (get_or rounds t 0) (not_earlier t f)) out in
            let set = reached (inside_step m (left_after rounds i)) (marked goals) stay.0 in
            let stepped = choice-inside m (left_after rounds i) set s c k inside (enters-by set (row_at m s c) w.0 w.2 stay.1) in
            let back = a.next i s h in
            absurd (false≢true (sym (gone i (get_or rounds s 0) e) ∙ back.1 (suc stay.0, step-reaches (inside_step m (left_after rounds i)) (marked goals) stay.0 s stepped))))
      ])
    ]

is_next : (r : ℕ) → 0 < r → (i : ℕ) × (r ≡ suc i)
is_next zero h = absurd (omega arith)
is_next (suc r) h = (r, refl)

pub rounds_fall : RoundsFall
rounds_fall m goals rounds ok a s c h some k = let w = is_next (get_or rounds s 0) some in fall_at m goals rounds ok a s c w.0 h w.1 k

top_round : (r : ℕ) (rounds : List ℕ) (k : ℕ) → ((t : ℕ) → get_or rounds t 0 ≤ k) → (t : ℕ) → get_or (r ∷ rounds) t 0 ≤ k + r
top_round r rounds k rest zero = omega arith
top_round r rounds k rest (suc t) = let l = rest t in omega (arith, l)

-- all rounds of a list are at most a number
pub greatest_round : (rounds : List ℕ) → (k : ℕ) × ((t : ℕ) → get_or rounds t 0 ≤ k)
greatest_round [] = (0, λ t. omega arith)
greatest_round (r ∷ rounds) = let w = greatest_round rounds in (w.0 + r, top_round r rounds w.0 w.1)

pub zero_left : (r : ℕ) → ((r == 0) || nat_lt 0 r) ≡ true
zero_left zero = refl
zero_left (suc r) = ap (λ b. (suc r == 0) || b) (lt-ltb 0 (suc r) (omega arith)) ∙ or-true (suc r == 0)

-- a sure set is left after each round
sure_left : (m : Mdp) (goals : List Bool) (rounds : List ℕ) (marks : List Bool) → IsMdp m → AreRounds m goals rounds → IsSure m goals (marked marks)
    → (i s : ℕ) → s < states_of m → marked marks s ≡ true → left_after rounds i s ≡ true
sure_left m goals rounds marks ok a v zero s h e = zero_left (get_or rounds s 0)
sure_left m goals rounds marks ok a v (suc i) s h e =
    let w = v.reaches s h e in
    let back = a.next i s h in
    let z : i + 1 ≡ suc i = omega arith in
    ap (λ j. left_after rounds j s) (sym z) ∙ back.1 (w.0, reached-more m ok (marked marks) (left_after rounds i) (marked goals) (sure_left m goals rounds marks ok a v i) w.0 s h w.1)

-- the states of round 0 are a sure set
pub zero_sure : (m : Mdp) (goals : List Bool) (rounds : List ℕ) → IsMdp m → AreRounds m goals rounds → IsSure m goals (λ s. get_or rounds s 0 == 0)
unfolding reached
zero_sure m goals rounds ok a =
    let top = greatest_round rounds in
    record {
      goals_in = λ s h e.
          (let back = a.next (get_or rounds s 0) s h in
          sym (left-top (get_or rounds s 0) (get_or rounds s 0 + 1) (omega arith)) ∙ back.1 (0, e));
      reaches = λ s h e.
          (let forth = a.next top.0 s h in
          let low = top.1 s in
          let stay = forth.0 (left-top (get_or rounds s 0) (top.0 + 1) (omega (arith, low)) ∙ e) in
          stays-alike m ok goals (left_after rounds top.0) (λ t. get_or rounds t 0 == 0) (λ t l. left-top (get_or rounds t 0) top.0 (top.1 t)) s h stay);
    }

pub zero_is_sure : ZeroIsSure
zero_is_sure m goals rounds marks ok a v s h =
    same_truth (get_or rounds s 0 == 0) (marked marks s)
    (λ e. v.greatest (λ t. get_or rounds t 0 == 0) (zero_sure m goals rounds ok a) s h e)
    (λ e. sym (left-top (get_or rounds s 0) (get_or rounds s 0) (omega arith)) ∙ sure_left m goals rounds marks ok a v.sure (get_or rounds s 0) s h e)
