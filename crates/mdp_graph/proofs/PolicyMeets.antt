-- From a state outside the greatest avoiding set each policy can come to a goal.
use Rattle.std.proofs.Common.{◌≡◌, inl, inr, ℕ, suc, zero, ◌+◌, ◌<◌, ◌≤◌, Bool, true, false, not, cond, List, get_or, refl, sym, ap, ◌∙◌, arith}
use Rattle.std.proofs.lemmas.Bool.{false≢true, cases_lt, cases_Bool, cases_eq}
use Rattle.mdp_spec.specs.{Mdp.{Mdp, Choice, no_choice, states_of, choices_at, row_at}, Row.{IsMdp}, Tree.{IsPolicy}}
use Rattle.mdp_graph.specs.{Sets.{marked, can_enter, stays_in}, Layers.{reached}, Avoid.{IsAvoiding}, Laws.{policy_step, RestMeets}}
use Rattle.mdp_graph.proofs.{Reaching.{step-reaches, one-later, first-reached}, RowSets.{list_any-by, stays-outside}}
use Rattle.mdp_math.proofs.Booleans.{not_true}

-- how many numbers below n are in a set
count_below : (ℕ → Bool) → ℕ → ℕ
count_below set zero = 0
count_below set (suc n) = cond (set n) 1 0 + count_below set n

one-more : (a b : Bool) → (a ≡ true → b ≡ true) → cond {A = ℕ} a 1 0 ≤ cond b 1 0
one-more true true f = omega arith
one-more true false f = absurd (false≢true (f refl))
one-more false b f = omega arith

at-most-one : (b : Bool) → cond {A = ℕ} b 1 0 ≤ 1
at-most-one true = omega arith
at-most-one false = omega arith

count-within : (set : ℕ → Bool) (n : ℕ) → count_below set n ≤ n
unfolding count_below
count-within set zero = omega arith
count-within set (suc n) = let l = count-within set n in let k = at-most-one (set n) in omega (arith, l, k)

count-more : (p q : ℕ → Bool) (n : ℕ) → ((t : ℕ) → t < n → p t ≡ true → q t ≡ true) → count_below p n ≤ count_below q n
unfolding count_below
count-more p q zero more = omega arith
count-more p q (suc n) more =
    let l = count-more p q n (λ t h. more t (omega (arith, h))) in
    let k = one-more (p n) (q n) (more n (omega arith)) in
    omega (arith, l, k)

-- a set with as many elements as a greater one has them all
count-all : (p q : ℕ → Bool) (n : ℕ) → ((t : ℕ) → t < n → p t ≡ true → q t ≡ true) → count_below q n ≤ count_below p n → (t : ℕ) → t < n → q t ≡ true → p t ≡ true
unfolding count_below
count-all p q zero more low t h e = absurd (omega (arith, h))
count-all p q (suc n) more low t h e =
    let rest : (j : ℕ) → j < n → p j ≡ true → q j ≡ true = λ j l. more j (omega (arith, l)) in
    elim (cases_eq t n) [
      | inl same ↦ (elim (cases_Bool (p t)) [
        | inl is ↦ is
        | inr out ↦
            (let l = count-more p q n rest in
            let one : cond {A = ℕ} (q n) 1 0 ≡ 1 = ap (λ b. cond {A = ℕ} b 1 0) (ap q (sym same) ∙ e) in
            let none : cond {A = ℕ} (p n) 1 0 ≡ 0 = ap (λ b. cond {A = ℕ} b 1 0) (ap p (sym same) ∙ out) in
            absurd (omega (arith, l, low, one, none)))
      ])
      | inr other ↦
          (let k = one-more (p n) (q n) (more n (omega arith)) in
          count-all p q n rest (omega (arith, low, k)) t (omega (arith, h, other)) e)
    ]

-- after some number of steps no further state below n is reached
ends : (step : (ℕ → Bool) → ℕ → Bool) (first : ℕ → Bool) (n d k : ℕ) → n ≤ count_below (reached step first k) n + d
    → (j : ℕ) × ((t : ℕ) → t < n → reached step first (suc j) t ≡ true → reached step first j t ≡ true)
ends step first n zero k low =
    let l = count-within (reached step first (suc k)) n in
    (k, count-all (reached step first k) (reached step first (suc k)) n (λ t h. one-later step first k t) (omega (arith, l, low)))
ends step first n (suc d) k low = elim (cases_lt (count_below (reached step first k) n) (count_below (reached step first (suc k)) n)) [
  | inl more ↦ ends step first n d (suc k) (omega (arith, low, more))
  | inr same ↦ (k, count-all (reached step first k) (reached step first (suc k)) n (λ t h. one-later step first k t) (omega (arith, same)))
]

-- the states that are not reached avoid the goals
unreached_avoids : (m : Mdp) (goals : List Bool) (policy : List ℕ) → IsMdp m → IsPolicy m policy → (j : ℕ)
    → ((t : ℕ) → t < states_of m → reached (policy_step m policy) (marked goals) (suc j) t ≡ true → reached (policy_step m policy) (marked goals) j t ≡ true)
    → IsAvoiding m goals (λ t. not (reached (policy_step m policy) (marked goals) j t))
unreached_avoids m goals policy ok p j last =
    let step = policy_step m policy in
    let set = reached step (marked goals) j in
    record {
      outside = λ s h e. elim (cases_Bool (marked goals s)) [
        | inl goal ↦ absurd (false≢true (sym (not_true (set s) e) ∙ first-reached step (marked goals) j s goal))
        | inr not_goal ↦ not_goal
      ];
      stays = λ s h e.
          (let c : ℕ = get_or policy s 0 in
          let row = ok.row s c h (p.in_range s h) in
          let never_enters : can_enter set (row_at m s c) ≡ false = elim (cases_Bool (can_enter set (row_at m s c))) [
            | inl enters ↦ absurd (false≢true (sym (not_true (set s) e) ∙ last s h (step-reaches step (marked goals) j s enters)))
            | inr never ↦ never
          ] in
          list_any-by (λ (x : Choice). stays_in (λ t. not (set t)) x.row) (choices_at m s) no_choice c (p.in_range s h)
          (stays-outside set (λ t. not (set t)) (row_at m s c) (states_of m) row.in_range (λ t l f. ap not f) never_enters));
    }

pub rest_meets : RestMeets
rest_meets m goals marks policy ok g p s h out =
    let step = policy_step m policy in
    let last = ends step (marked goals) (states_of m) (states_of m) 0 (omega arith) in
    elim (cases_Bool (reached step (marked goals) last.0 s)) [
      | inl is ↦ (last.0, is)
      | inr unreached ↦
          absurd (false≢true (sym out ∙ g.greatest (λ t. not (reached step (marked goals) last.0 t)) (unreached_avoids m goals policy ok p last.0 last.1) s h (ap not unreached)))
    ]
