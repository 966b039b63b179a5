-- The chain of a policy keeps what each model keeps, and comes out of a builder as it is.
use Rattle.std.proofs.Common.{◌≡◌, ℕ, zero, suc, ◌+◌, ◌≤◌, ◌<◌, ◌&&◌, List, [], ◌∷◌, length, drop, get_or, refl, sym, ap, ◌∙◌, arith}
use Rattle.std.proofs.{lemmas.List.{drop_more, drop_all}, lemmas.List.Elements.{All-from_recursion, recursion_from_All}, lemmas.List.Sums.{sum_by-cons}}
use Rattle.std.specs.{Prelude.{Result, Ok}, List.{All, AllByRecursion}}
use Rattle.mdp_spec.specs.{Mdp.{Choice, State, Mdp, no_state, no_choice, states_of, state_at}, Row.{IsRow}, Tree.{IsPolicy}}
use Rattle.mdp_rows.specs.{Limits.{known_after, all_below, in_order_of_sight, IsChoiceWithin, IsModel}, Draft.{Draft, new_draft, after_finish, ◌>>=◌}}
use Rattle.mdp_rows.specs.{Replay.{with_states, replayed}, declared.error.RowsError.{RowsError}, declared.rule.RowRule.TheVariants.{Exact}}
use Rattle.mdp_rows.specs.Sound.{IsClosedState, choice_count, entry_count}
use Rattle.mdp_rows.proofs.{ReplayStates.{closed_at, row_count, is_replayed}, Calls.Steps.{ok_same}}
use Rattle.mdp_policy.specs.Chain.{with_choice, chain_states, chain_of}
use Rattle.mdp_policy.proofs.Chains.{chain-length, chain-at, chain_is_mdp}

-- ---- one state

closed_state : (n names : ℕ) (x : State) (c : ℕ) → c < length x.choices → IsClosedState n names x → IsClosedState n names (with_choice x c)
closed_state n names x c h ok = record {
  some = omega arith;
  within = record {
    ascending = ok.within.ascending;
    few_labels = ok.within.few_labels;
    choices = All-from_recursion (IsChoiceWithin names) (get_or x.choices c no_choice ∷ []) (ok.within.choices c no_choice h, tt);
  };
  rows = All-from_recursion (λ c. IsRow n c.row) (get_or x.choices c no_choice ∷ []) (ok.rows c no_choice h, tt);
}

-- a row has no more entries than all rows
one_of_rows : (choices : List Choice) (c : ℕ) → c < length choices → length (Choice.row (get_or choices c no_choice)) ≤ row_count choices
one_of_rows [] c h = absurd (omega arith)
one_of_rows (x ∷ choices) zero h =
    let s : row_count (x ∷ choices) ≡ length x.row + row_count choices = sum_by-cons (λ (y : Choice). length y.row) x choices in omega (arith, s)
one_of_rows (x ∷ choices) (suc c) h =
    let s : row_count (x ∷ choices) ≡ length x.row + row_count choices = sum_by-cons (λ (y : Choice). length y.row) x choices in
    let l = one_of_rows choices c (omega arith) in
    omega (arith, s, l)

one_row : (x : Choice) → row_count (x ∷ []) ≡ length x.row
one_row x = let s : row_count (x ∷ []) ≡ length x.row + row_count [] = sum_by-cons (λ (y : Choice). length y.row) x [] in let z : row_count [] ≡ 0 = refl in omega (arith, s, z)

-- ---- all states

-- each choice is one of the state at its place
abbrev Choose : List State → List ℕ → Type 0
Choose [] policy = Unit {0}
Choose (x ∷ states) [] = ⊥
Choose (x ∷ states) (c ∷ policy) = (c < length x.choices) × Choose states policy

choose : (states : List State) (policy : List ℕ) → length policy ≡ length states → ((s : ℕ) → s < length states → get_or policy s 0 < length (State.choices (get_or states s no_state)))
    → Choose states policy
choose [] policy e each = tt
choose (x ∷ states) [] e each = absurd (omega arith)
choose (x ∷ states) (c ∷ policy) e each = (each 0 (omega arith), choose states policy (omega arith) (λ s h. each (suc s) (omega (arith, h))))

sight : (n total : ℕ) (states : List State) (policy : List ℕ) → Choose states policy → in_order_of_sight n (chain_states states policy) total ≡ in_order_of_sight n states total
sight n total [] policy each = refl
sight n total (x ∷ states) [] each = absurd each
sight n total (x ∷ states) (c ∷ policy) each =
    ap (λ b. all_below (known_after n x.labels) x.labels && b) (sight (known_after n x.labels) total states policy each.1)

closed : (n names : ℕ) (states : List State) (policy : List ℕ) → Choose states policy → AllByRecursion (IsClosedState n names) states → AllByRecursion (IsClosedState n names) (chain_states states policy)
closed n names [] policy each all = tt
closed n names (x ∷ states) [] each all = absurd each
closed n names (x ∷ states) (c ∷ policy) each all = (closed_state n names x c each.0 all.0, closed n names states policy each.1 all.1)

fewer_choices : (states : List State) (policy : List ℕ) → Choose states policy → choice_count (chain_states states policy) ≤ choice_count states
fewer_choices [] policy each = omega arith
fewer_choices (x ∷ states) [] each = absurd each
fewer_choices (x ∷ states) (c ∷ policy) each =
    let y : State = with_choice x c in
    let rest : List State = chain_states states policy in
    let a : choice_count (y ∷ rest) ≡ length y.choices + choice_count rest = sum_by-cons (λ (z : State). length z.choices) y rest in
    let b : choice_count (x ∷ states) ≡ length x.choices + choice_count states = sum_by-cons (λ (z : State). length z.choices) x states in
    let l : c < length x.choices = each.0 in
    let g : choice_count rest ≤ choice_count states = fewer_choices states policy each.1 in
    omega (arith, a, b, l, g)

fewer_entries : (states : List State) (policy : List ℕ) → Choose states policy → entry_count (chain_states states policy) ≤ entry_count states
fewer_entries [] policy each = omega arith
fewer_entries (x ∷ states) [] each = absurd each
fewer_entries (x ∷ states) (c ∷ policy) each =
    let y : State = with_choice x c in
    let rest : List State = chain_states states policy in
    let a : entry_count (y ∷ rest) ≡ row_count y.choices + entry_count rest = sum_by-cons (λ (z : State). row_count z.choices) y rest in
    let b : entry_count (x ∷ states) ≡ row_count x.choices + entry_count states = sum_by-cons (λ (z : State). row_count z.choices) x states in
    let o = one_row (get_or x.choices c no_choice) in
    let l = one_of_rows x.choices c each.0 in
    let g : entry_count rest ≤ entry_count states = fewer_entries states policy each.1 in
    omega (arith, a, b, o, l, g)

-- ---- the model

module _ (m : Mdp) (policy : List ℕ) (is : IsPolicy m policy) where
  same_count : length (chain_states m.states policy) ≡ states_of m
  same_count = chain-length m.states policy is.one_each

  pub chain-next : (s : ℕ) → s < states_of m → drop s (Mdp.states (chain_of m policy)) ≡ with_choice (state_at m s) (get_or policy s 0) ∷ drop (s + 1) (Mdp.states (chain_of m policy))
  unfolding chain_of
  chain-next s h =
      drop_more (chain_states m.states policy) s no_state (omega (arith, same_count, h))
      ∙ ap (λ (x : State). x ∷ drop (s + 1) (chain_states m.states policy)) (chain-at m.states policy s no_state is.one_each h)

  pub chain-end : (s : ℕ) → states_of m ≤ s → drop s (Mdp.states (chain_of m policy)) ≡ []
  unfolding chain_of
  chain-end s h = drop_all s (chain_states m.states policy) (omega (arith, same_count, h))

module _ (m : Mdp) (policy : List ℕ) (ok : IsModel m) (is : IsPolicy m policy) where
  pub chain_is_model : IsModel (chain_of m policy)
  unfolding chain_of
  chain_is_model =
      let each : Choose m.states policy = choose m.states policy is.one_each is.in_range in
      let whole : AllByRecursion (IsClosedState (states_of m) (length m.names)) m.states = recursion_from_All (IsClosedState (states_of m) (length m.names)) m.states (closed_at m ok) in
      let all : All (IsClosedState (states_of m) (length m.names)) (chain_states m.states policy) =
      All-from_recursion (IsClosedState (states_of m) (length m.names)) (chain_states m.states policy) (closed (states_of m) (length m.names) m.states policy each whole)
      in
      let fewer = fewer_choices m.states policy each in
      let less = fewer_entries m.states policy each in
      record {
        mdp = chain_is_mdp m policy is ok.mdp;
        names = ok.names;
        labels = ok.labels;
        different = ok.different;
        few_labels = ok.few_labels;
        sight = sight 0 (length m.labels) m.states policy each ∙ ok.sight;
        states = λ k d l. IsClosedState.within (all k d l);
        few_choices = let h = ok.few_choices in omega (arith, fewer, h);
        few_entries = let h = ok.few_entries in omega (arith, less, h);
      }

  -- what a builder ends as that was given all of the chain's states
  pub chain_comes_out : (d : Draft) (made : Mdp) → with_states m.names m.labels (Mdp.states (chain_of m policy)) (new_draft (states_of m) Exact m.names) ≡ Ok d
      → after_finish d ≡ Ok made → made ≡ chain_of m policy
  unfolding chain_of
  chain_comes_out d made given ends =
      let g : replayed (chain_of m policy) ≡ Ok made =
      ap (λ (k : ℕ). with_states m.names m.labels (chain_states m.states policy) (new_draft k Exact m.names) >>= after_finish) (same_count m policy is)
      ∙ ap (λ (r : Result Draft RowsError). r >>= after_finish) given
      ∙ ends
      in
      ok_same made (chain_of m policy) (sym g ∙ is_replayed (chain_of m policy) chain_is_model)
