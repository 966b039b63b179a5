-- A model handed over step by step: what is still to come makes of the draft now what all makes of the draft before.
use Rattle.std.proofs.Common.{◌≡◌, ℕ, zero, suc, ◌+◌, ◌<◌, IsTrue, List, [], ◌∷◌, length, drop, get_or, refl, sym, ap, subst, ◌∙◌, arith}
use Rattle.std.specs.{Prelude.{Result, Ok}, List.{AllByRecursion}}
use Rattle.mdp_math.proofs.Booleans.{and-left, and-right}
use Rattle.mdp_math.specs.Rational.{ℚ}
use Rattle.mdp_num.specs.Meaning.{IsWithinLimit}
use Rattle.mdp_spec.specs.{Mdp.{Entry, Choice, State, Mdp, states_of, state_at, no_state}, Row.{entries}}
use Rattle.mdp_rows.specs.Limits.{known_after, all_below, in_order_of_sight, IsModel}
use Rattle.mdp_rows.specs.Draft.{Draft, after_state, after_choice, after_entry, ◌>>=◌}
use Rattle.mdp_rows.specs.{Replay.{no_rewards, with_labels, with_entries, with_choices, with_states}, declared.error.RowsError.{RowsError}}
use Rattle.mdp_rows.proofs.{Calls.Steps.{ok_same, then_ok}, SoundCalls.Labels.{below_head, below_tail, known_by-le, known_by-total}}

-- ---- one step, and the others after it

pub entry_first : (x : Entry) (rest : List Entry) (d n : Draft) → after_entry d x.target x.prob ≡ Ok n → with_entries (x ∷ rest) d ≡ with_entries rest n
entry_first x rest d n e = ap (λ (r : Result Draft RowsError). r >>= with_entries rest) e

pub one_choice : (c : Choice) (d o n : Draft) → after_choice d c.rewards ≡ Ok o → with_entries c.row o ≡ Ok n → with_choices (c ∷ []) d ≡ Ok n
one_choice c d o n e f =
    ap (λ (r : Result Draft RowsError). r >>= λ opened. with_entries c.row opened >>= with_choices []) e ∙ ap (λ (r : Result Draft RowsError). r >>= with_choices []) f

pub choice_first : (c : Choice) (rest : List Choice) (d n : Draft) → with_choices (c ∷ []) d ≡ Ok n → with_choices (c ∷ rest) d ≡ with_choices rest n
choice_first c rest d n e =
    let a = then_ok (after_choice d c.rewards) (λ opened. with_entries c.row opened >>= with_choices []) n e in
    let b = then_ok (with_entries c.row a.0) (with_choices []) n a.2 in
    ap (λ (r : Result Draft RowsError). r >>= λ opened. with_entries c.row opened >>= with_choices rest) a.1
    ∙ ap (λ (r : Result Draft RowsError). r >>= with_choices rest) b.1
    ∙ ap (λ (k : Draft). with_choices rest k) (ok_same b.0 n b.2)

module _ (names labels : List (List ℕ)) where
  pub one_state : (x : State) (d o l n : Draft) → after_state d (no_rewards names) ≡ Ok o → with_labels labels x.labels o ≡ Ok l → with_choices x.choices l ≡ Ok n
      → with_states names labels (x ∷ []) d ≡ Ok n
  one_state x d o l n e f g =
      ap (λ (r : Result Draft RowsError). r >>= λ opened. with_labels labels x.labels opened >>= λ labelled. with_choices x.choices labelled >>= with_states names labels []) e
      ∙ ap (λ (r : Result Draft RowsError). r >>= λ labelled. with_choices x.choices labelled >>= with_states names labels []) f
      ∙ ap (λ (r : Result Draft RowsError). r >>= with_states names labels []) g

  pub state_first : (x : State) (rest : List State) (d n : Draft) → with_states names labels (x ∷ []) d ≡ Ok n → with_states names labels (x ∷ rest) d ≡ with_states names labels rest n
  state_first x rest d n e =
      let a = then_ok (after_state d (no_rewards names)) (λ opened. with_labels labels x.labels opened >>= λ labelled. with_choices x.choices labelled >>= with_states names labels []) n e in
      let b = then_ok (with_labels labels x.labels a.0) (λ labelled. with_choices x.choices labelled >>= with_states names labels []) n a.2 in
      let c = then_ok (with_choices x.choices b.0) (with_states names labels []) n b.2 in
      ap (λ (r : Result Draft RowsError). r >>= λ opened. with_labels labels x.labels opened >>= λ labelled. with_choices x.choices labelled >>= with_states names labels rest) a.1
      ∙ ap (λ (r : Result Draft RowsError). r >>= λ labelled. with_choices x.choices labelled >>= with_states names labels rest) b.1
      ∙ ap (λ (r : Result Draft RowsError). r >>= with_states names labels rest) c.1
      ∙ ap (λ (k : Draft). with_states names labels rest k) (ok_same c.0 n c.2)

-- ---- the entries that two lists spell

pub entry_at : (ts : List ℕ) (ps : List ℚ) (i : ℕ) (t : ℕ) (p : ℚ) → length ts ≡ length ps → i < length ts
    → drop i (entries ts ps) ≡ record { target = get_or ts i t; prob = get_or ps i p } ∷ drop (i + 1) (entries ts ps)
entry_at [] ps i t p e h = absurd (omega arith)
entry_at (t' ∷ ts) [] i t p e h = absurd (omega arith)
entry_at (t' ∷ ts) (p' ∷ ps) zero t p e h = refl
entry_at (t' ∷ ts) (p' ∷ ps) (suc i) t p e h =
    entry_at ts ps i t p (omega arith) (omega arith)
    ∙ ap (λ (k : ℕ). let x : Entry = record { target = get_or ts i t; prob = get_or ps i p } in x ∷ drop k (entries (t' ∷ ts) (p' ∷ ps))) (let n : suc (i + 1) ≡ suc i + 1 = omega arith in n)

pub prob_at : (ts : List ℕ) (ps : List ℚ) (i : ℕ) (p : ℚ) → length ts ≡ length ps → i < length ts → AllByRecursion (λ x. IsWithinLimit x.prob) (entries ts ps) → IsWithinLimit (get_or ps i p)
prob_at [] ps i p e h all = absurd (omega arith)
prob_at (t' ∷ ts) [] i p e h all = absurd (omega arith)
prob_at (t' ∷ ts) (p' ∷ ps) zero p e h all = all.0
prob_at (t' ∷ ts) (p' ∷ ps) (suc i) p e h all = prob_at ts ps i p (omega arith) (omega arith) all.1

-- ---- the labels of a state are known

place_below : (n : ℕ) (places : List ℕ) (i d : ℕ) → IsTrue (all_below n places) → i < length places → get_or places i d < n
place_below n [] i d a h = absurd (omega arith)
place_below n (k ∷ places) zero d a h = below_head n k places a
place_below n (k ∷ places) (suc i) d a h = place_below n places i d (below_tail n k places a) (omega arith)

label_below : (n total s i e : ℕ) (states : List State) (d : State) → IsTrue (in_order_of_sight n states total) → s < length states → i < length (State.labels (get_or states s d))
    → get_or (State.labels (get_or states s d)) i e < total
label_below n total s i e [] d sight h l = absurd (omega arith)
label_below n total zero i e (x ∷ states) d sight h l =
    let k : ℕ = known_after n x.labels in
    let f = place_below k x.labels i e (and-left (all_below k x.labels) (in_order_of_sight k states total) sight) l in
    let a = known_by-le k states in
    let b = known_by-total k total states (and-right (all_below k x.labels) (in_order_of_sight k states total) sight) in
    omega (arith, f, a, b)
label_below n total (suc s) i e (x ∷ states) d sight h l =
    label_below (known_after n x.labels) total s i e states d (and-right (all_below (known_after n x.labels) x.labels) (in_order_of_sight (known_after n x.labels) states total) sight) (omega arith) l

pub label_known : (m : Mdp) (s i e : ℕ) (places : List ℕ) → IsModel m → s < states_of m → places ≡ State.labels (state_at m s) → i < length places → get_or places i e < length m.labels
label_known m s i e places ok h is l =
    subst (λ (xs : List ℕ). get_or xs i e < length m.labels) (sym is)
    (label_below 0 (length m.labels) s i e m.states no_state ok.sight h (subst (λ (xs : List ℕ). i < length xs) is l))
