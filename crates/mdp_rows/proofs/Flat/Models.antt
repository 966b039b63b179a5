-- What the flat vectors say of the model.
use Rattle.std.proofs.Common.{◌≡◌, ℕ, zero, suc, ◌+◌, ◌-◌, ◌<◌, List, [], ◌∷◌, ◌++◌, length, drop, get_or, sum_by, refl, sym, ap, subst, ◌∙◌, arith}
use Rattle.std.proofs.{lemmas.List.{get_or-take, get_or-drop, get_or_default}, lemmas.List.Sums.{sum_by-cons}}
use Rattle.std.specs.List.{All}
use Rattle.mdp_math.specs.Rational.{ℚ}
use Rattle.mdp_spec.specs.{Mdp.{Choice, State, Mdp, no_choice, no_state, states_of, state_at, choices_at}, Row.{entries, IsDistribution, IsMdp}}
use Rattle.mdp_rows.specs.{ChoiceTable.{IsChoice}, Pieces.{piece, pieces}, FlatModel.{mdp_in, IsFlat, states_from}, declared.model.Model.TheInside.{Inside}}
use Rattle.mdp_rows.proofs.{Flat.Growth.{pieces-sum}, Flat.Pieces.{AreNext, next_places, piece_is, length-pieces, piece_len}}

pub length-states_from : (rows : List (List Choice)) (labels : List (List ℕ)) → length rows ≡ length labels → length (states_from rows labels) ≡ length rows
length-states_from [] labels e = refl
length-states_from (r ∷ rows) [] e = absurd (omega arith)
length-states_from (r ∷ rows) (l ∷ labels) e = let h = length-states_from rows labels (omega arith) in omega (arith, h)

pub states_from-more : (rows : List (List Choice)) (labels : List (List ℕ)) (row : List Choice) (label : List ℕ) → length rows ≡ length labels
    → states_from (rows ++ row ∷ []) (labels ++ label ∷ []) ≡ states_from rows labels ++ record { labels = label; choices = row } ∷ []
states_from-more [] [] row label e = refl
states_from-more [] (l ∷ labels) row label e = absurd (omega arith)
states_from-more (r ∷ rows) [] row label e = absurd (omega arith)
states_from-more (r ∷ rows) (l ∷ labels) row label e = ap (λ (s : List State). record { labels = l; choices = r } ∷ s) (states_from-more rows labels row label (omega arith))

get_or-states_from : (rows : List (List Choice)) (labels : List (List ℕ)) (s : ℕ) → length rows ≡ length labels
    → get_or (states_from rows labels) s no_state ≡ record { labels = get_or labels s []; choices = get_or rows s [] }
get_or-states_from [] [] s e = refl
get_or-states_from [] (l ∷ labels) s e = absurd (omega arith)
get_or-states_from (r ∷ rows) [] s e = absurd (omega arith)
get_or-states_from (r ∷ rows) (l ∷ labels) zero e = refl
get_or-states_from (r ∷ rows) (l ∷ labels) (suc s) e = get_or-states_from rows labels s (omega arith)

-- the rows of a state, and its labels
abbrev rows_of : Inside → ℕ → List Choice
rows_of m s = get_or (pieces m.choices.choices m.starts.items) s []

as_many : (m : Inside) → IsFlat m → length (pieces m.choices.choices m.starts.items) ≡ length m.labels.of_state
as_many m ok = length-pieces m.choices.choices m.starts.items ∙ sym ok.labels

state_is : (m : Inside) (v : Mdp) (s : ℕ) → IsFlat m → mdp_in m ≡ v → state_at v s ≡ record { labels = get_or m.labels.of_state s []; choices = rows_of m s }
unfolding mdp_in
state_is m v s ok is =
    ap (λ (x : Mdp). state_at x s) (sym is) ∙ get_or-states_from (pieces m.choices.choices m.starts.items) m.labels.of_state s (as_many m ok)

pub states_are : (m : Inside) (v : Mdp) → IsFlat m → mdp_in m ≡ v → states_of v ≡ length m.starts.items - 1
unfolding mdp_in
states_are m v ok is =
    ap states_of (sym is) ∙ length-states_from (pieces m.choices.choices m.starts.items) m.labels.of_state (as_many m ok) ∙ length-pieces m.choices.choices m.starts.items

pub label_names_are : (m : Inside) (v : Mdp) → mdp_in m ≡ v → m.labels.names ≡ v.labels
unfolding mdp_in
label_names_are m v is = ap (λ (x : Mdp). x.labels) is

pub labels_are : (m : Inside) (v : Mdp) (s : ℕ) → IsFlat m → mdp_in m ≡ v → get_or m.labels.of_state s [] ≡ (state_at v s).labels
labels_are m v s ok is = sym (ap (λ (x : State). x.labels) (state_is m v s ok is))

choices_are : (m : Inside) (v : Mdp) (s : ℕ) → IsFlat m → mdp_in m ≡ v → choices_at v s ≡ rows_of m s
choices_are m v s ok is = ap (λ (x : State). x.choices) (state_is m v s ok is)

-- where a state's choices stand
pub record AreChoices (m : Inside) (v : Mdp) (s a b : ℕ) : Type 0 where
  pub next : AreNext m.starts.items (length m.choices.choices) s a b
  pub some : a < b
  pub count : b - a ≡ length (choices_at v s)
  pub choice : (c : ℕ) → c < length (choices_at v s) → get_or (choices_at v s) c no_choice ≡ get_or m.choices.choices (a + c) no_choice

pub choices_stand : (m : Inside) (v : Mdp) (s a b : ℕ) → IsFlat m → mdp_in m ≡ v → s < states_of v → a ≡ get_or m.starts.items s a → b ≡ get_or m.starts.items (s + 1) b → AreChoices m v s a b
choices_stand m v s a b ok is h ea eb =
    let n = states_are m v ok is in
    let next = next_places m.starts.items (length m.choices.choices) s a b ok.places (omega (arith, n)) ea eb in
    let here : piece m.choices.choices a b ≡ rows_of m s = piece_is m.choices.choices m.starts.items (length m.choices.choices) s a b (pieces m.choices.choices m.starts.items) next refl in
    let count : b - a ≡ length (choices_at v s) =
    sym (piece_len m.choices.choices a b next.within) ∙ ap length here ∙ ap length (sym (choices_are m v s ok is)) in
    record {
      next = next;
      some = omega (arith, ok.choice s next.place, next.first, next.second);
      count = count;
      choice = λ c k.
          ap (λ (x : List Choice). get_or x c no_choice) (choices_are m v s ok is ∙ sym here)
          ∙ get_or-take (b - a) (drop a m.choices.choices) c no_choice (omega (arith, count)) ∙ get_or-drop a m.choices.choices c no_choice;
    }

-- the same from the first place alone, and from the state alone
pub choices_after : (m : Inside) (v : Mdp) (s a : ℕ) → IsFlat m → mdp_in m ≡ v → s < states_of v → a ≡ get_or m.starts.items s a → AreChoices m v s a (get_or m.starts.items (s + 1) 0)
choices_after m v s a ok is h ea =
    let n = states_are m v ok is in
    choices_stand m v s a (get_or m.starts.items (s + 1) 0) ok is h ea (get_or_default m.starts.items (s + 1) 0 (get_or m.starts.items (s + 1) 0) (omega (arith, n)))

choices_of_state : (m : Inside) (v : Mdp) (s : ℕ) → IsFlat m → mdp_in m ≡ v → s < states_of v → AreChoices m v s (get_or m.starts.items s 0) (get_or m.starts.items (s + 1) 0)
choices_of_state m v s ok is h =
    let n = states_are m v ok is in
    choices_after m v s (get_or m.starts.items s 0) ok is h (get_or_default m.starts.items s 0 (get_or m.starts.items s 0) (omega (arith, n)))

pub is_mdp : (m : Inside) (v : Mdp) → IsFlat m → All (IsChoice (length m.choices.names)) m.choices.choices → mdp_in m ≡ v → IsMdp v
is_mdp m v ok all is =
    let n = states_are m v ok is in
    record {
      some = omega (arith, n, ok.some);
      few = omega (arith, n, ok.few);
      choice = λ s h. (let f = choices_of_state m v s ok is h in omega (arith, f.some, f.count));
      row = λ s c h k.
          (let f = choices_of_state m v s ok is h in
          let a = get_or m.starts.items s 0 in
          let inside : a + c < length m.choices.choices = omega (arith, f.next.within, f.count) in
          record {
            distribution = subst (λ (x : Choice). IsDistribution x.row) (sym (f.choice c k)) (let h = all (a + c) no_choice inside in h.distribution);
            in_range = subst (λ (x : Choice). All (λ y. y.target < states_of v) x.row) (sym (f.choice c k)) (rw n (ok.in_range (a + c) no_choice inside));
          });
    }

targets_of : (ts : List ℕ) (ps : List ℚ) (n : ℕ) → length ts ≡ length ps → All (λ x. x.target < n) (entries ts ps) → All (λ t. t < n) ts
targets_of [] ps n e h = λ k d l. absurd (omega arith)
targets_of (t ∷ ts) [] n e h = absurd (omega arith)
targets_of (t ∷ ts) (p ∷ ps) n e h = λ k d l. elim k as (λ k. k < suc (length ts) → get_or (t ∷ ts) k d < n) [
  | zero ↦ λ l. h 0 (record { target = t; prob = p }) (omega arith)
  | suc k ↦ λ l. targets_of ts ps n (omega arith) (λ j x m. h (suc j) x (omega arith)) k d (omega arith)
] l

-- a lent row's targets are states
pub targets_in_range : (m : Inside) (v : Mdp) (i : ℕ) (ts : List ℕ) (ps : List ℚ) → IsFlat m → mdp_in m ≡ v → i < length m.choices.choices → length ts ≡ length ps
    → entries ts ps ≡ (get_or m.choices.choices i no_choice).row → All (λ t. t < states_of v) ts
targets_in_range m v i ts ps ok is h same e =
    targets_of ts ps (states_of v) same (rw (e, states_are m v ok is) (ok.in_range i no_choice h))

pub names_are : (m : Inside) (v : Mdp) → mdp_in m ≡ v → m.choices.names ≡ v.names
unfolding mdp_in
names_are m v is = ap (λ (x : Mdp). x.names) is

-- how many choices there are
pub choices-total : (choices : List (List Choice)) (labels : List (List ℕ)) → length choices ≡ length labels
    → sum_by (λ (x : State). length x.choices) (states_from choices labels) ≡ sum_by length choices
choices-total [] labels e = refl
choices-total (r ∷ choices) [] e = absurd (omega arith)
choices-total (r ∷ choices) (l ∷ labels) e =
    sum_by-cons (λ (x : State). length x.choices) (record { labels = l; choices = r }) (states_from choices labels)
    ∙ ap (λ (n : ℕ). length r + n) (choices-total choices labels (omega arith))
    ∙ sym (sum_by-cons length r choices)

pub all_choices_are : (m : Inside) (v : Mdp) → IsFlat m → mdp_in m ≡ v → length m.choices.choices ≡ sum_by (λ (x : State). length x.choices) v.states
unfolding mdp_in
all_choices_are m v ok is =
    sym (choices-total (pieces m.choices.choices m.starts.items) m.labels.of_state (as_many m ok) ∙ pieces-sum m.choices.choices m.starts.items ok.places)
    ∙ ap (λ (x : Mdp). sum_by (λ (y : State). length y.choices) x.states) is
