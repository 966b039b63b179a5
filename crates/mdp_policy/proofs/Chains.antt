-- The chain of a policy, state by state: it is a model, with one choice at each state.
use Rattle.std.proofs.Common.{◌≡◌, ℕ, zero, suc, ◌<◌, Bool, List, [], ◌∷◌, length, map, get_or, refl, sym, ap, subst, ◌∙◌, arith}
use Rattle.std.specs.{List.{list_any}, Prelude.{◌==◌}}
use Rattle.mdp_spec.specs.{Mdp.{Choice, State, Mdp, no_state, no_choice, states_of, state_at, choices_at, choice_at, row_at}, Row.{IsRow, IsMdp}}
use Rattle.mdp_spec.specs.Tree.{IsPolicy}
use Rattle.mdp_policy.specs.{Chain.{with_choice, chain_states, chain_of}, ChainLaws.{KeepsChoices}}

pub chain-length : (states : List State) (policy : List ℕ) → length policy ≡ length states → length (chain_states states policy) ≡ length states
chain-length [] policy e = refl
chain-length (x ∷ states) [] e = absurd (omega arith)
chain-length (x ∷ states) (c ∷ policy) e = let h = chain-length states policy (omega arith) in omega (arith, h)

pub chain-at : (states : List State) (policy : List ℕ) (k : ℕ) (d : State) → length policy ≡ length states → k < length states
    → get_or (chain_states states policy) k d ≡ with_choice (get_or states k d) (get_or policy k 0)
chain-at [] policy k d e h = absurd (omega arith)
chain-at (x ∷ states) [] k d e h = absurd (omega arith)
chain-at (x ∷ states) (c ∷ policy) zero d e h = refl
chain-at (x ∷ states) (c ∷ policy) (suc k) d e h = chain-at states policy k d (omega arith) (omega arith)

module _ (m : Mdp) (policy : List ℕ) (is : IsPolicy m policy) where
  pub chain-states : states_of (chain_of m policy) ≡ states_of m
  unfolding chain_of
  chain-states = chain-length m.states policy is.one_each

  pub chain-state : (s : ℕ) → s < states_of m → state_at (chain_of m policy) s ≡ with_choice (state_at m s) (get_or policy s 0)
  unfolding chain_of
  chain-state s h = chain-at m.states policy s no_state is.one_each h

  -- the choices are the policy's alone
  pub chain-choices : (s : ℕ) → s < states_of m → choices_at (chain_of m policy) s ≡ choice_at m s (get_or policy s 0) ∷ []
  chain-choices s h = ap State.choices (chain-state s h)

  one_row : (known : IsMdp m) (s c : ℕ) → s < states_of m → c < length (choice_at m s (get_or policy s 0) ∷ [])
      → IsRow (states_of m) (Choice.row (get_or (choice_at m s (get_or policy s 0) ∷ []) c no_choice))
  one_row known s zero h l = known.row s (get_or policy s 0) h (is.in_range s h)
  one_row known s (suc c) h l = absurd (omega arith)

  pub chain_is_mdp : IsMdp m → IsMdp (chain_of m policy)
  chain_is_mdp known =
      let e : states_of (chain_of m policy) ≡ states_of m = chain-states in
      let some = known.some in
      let few = known.few in
      record {
        some = omega (arith, e, some);
        few = omega (arith, e, few);
        choice = λ s h. subst (λ (cs : List Choice). 0 < length cs) (sym (chain-choices s (omega (arith, e)))) (omega arith);
        row = λ s c h l.
            let same = chain-choices s (omega (arith, e)) in
            subst (λ (n : ℕ). IsRow n (row_at (chain_of m policy) s c)) (sym e)
            (subst (λ (cs : List Choice). IsRow (states_of m) (Choice.row (get_or cs c no_choice))) (sym same)
            (one_row known s c (omega (arith, e)) (subst (λ (cs : List Choice). c < length cs) same l)));
      }

-- the labels of each state stay
marks-same : (states : List State) (policy : List ℕ) (f : State → Bool) → ((x : State) (c : ℕ) → f (with_choice x c) ≡ f x) → length policy ≡ length states
    → map f (chain_states states policy) ≡ map f states
marks-same [] policy f same e = refl
marks-same (x ∷ states) [] f same e = absurd (omega arith)
marks-same (x ∷ states) (c ∷ policy) f same e = ap (λ (b : Bool). b ∷ map f (chain_states states policy)) (same x c) ∙ ap (λ (bs : List Bool). f x ∷ bs) (marks-same states policy f same (omega arith))

pub is_chain : KeepsChoices
unfolding chain_of
is_chain m policy is = record {
  names = refl;
  labels = refl;
  states = chain-length m.states policy is.one_each;
  marks = λ l. marks-same m.states policy (λ x. list_any (λ k. k == l) x.labels) (λ x c. refl) is.one_each;
  choice = λ s h. chain-choices m policy is s h;
}
