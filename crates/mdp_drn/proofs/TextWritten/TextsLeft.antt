-- What is left of a text from one place of a list on, one place more and at the end.
use Rattle.std.proofs.Common.{rules, ◌≡◌, ℕ, zero, suc, ◌+◌, ◌<◌, ◌≤◌, List, [], ◌∷◌, ◌++◌, length, get_or, drop, refl, sym, ap, subst, arith, ◌∙◌}
use Rattle.std.proofs.{Common.{append_assoc, append-nil, add-one, drop-cons, map, decimal, codes, pos}, Math.ListN.{get_or-map}}
use Rattle.std.proofs.lemmas.List.{length-map, drop_all}
use Rattle.mdp_math.specs.Rational.{ℚ, of_int}
use Rattle.mdp_num.specs.Value.{spelling}
use Rattle.mdp_spec.specs.{Row.{entries}, Mdp.{Choice, Mdp, states_of, state_at, choices_at, no_choice, no_state}}
use Rattle.mdp_rows.specs.Limits.{IsStateWithin, IsModel}
use Rattle.mdp_drn.specs.Writing.{line, joined, label_text, labels_text, row_text, choices_text, states_text}
use Rattle.mdp_drn.specs.Pieces.{separator_text, separated, zeros_of, count_text, choice_text, state_text}
use Rattle.mdp_drn.proofs.TextWritten.Models.{Each, AreBelow, AreLabelsBelow, sight-below}

-- ---- texts with a separator

separator-behind : (separator : List ℕ) (place : ℕ) → separator_text separator (suc place) ≡ separator
separator-behind separator place = search rules

separated-behind : (separator : List ℕ) (place : ℕ) (texts : List (List ℕ)) (text : List ℕ) → separator ++ joined separator (text ∷ texts) ≡ separated separator (suc place) (text ∷ texts)
separated-behind separator place [] text = rw (separator-behind separator place) (sym (append-nil (separator ++ text)))
separated-behind separator place (next ∷ texts) text =
    ap (λ (xs : List ℕ). separator ++ xs) (append_assoc text separator (joined separator (next ∷ texts)))
    ∙ sym (append_assoc separator text (separator ++ joined separator (next ∷ texts)))
    ∙ ap (λ (xs : List ℕ). (separator ++ text) ++ xs) (separated-behind separator (suc place) texts next)
    ∙ ap (λ (xs : List ℕ). (xs ++ text) ++ separated separator (suc (suc place)) (next ∷ texts)) (sym (separator-behind separator place))

pub separated-all : (separator : List ℕ) (texts : List (List ℕ)) → joined separator texts ≡ separated separator 0 texts
separated-all separator [] = refl
separated-all separator (text ∷ []) = sym (append-nil text)
separated-all separator (text ∷ next ∷ texts) = append_assoc text separator (joined separator (next ∷ texts)) ∙ ap (λ (xs : List ℕ). text ++ xs) (separated-behind separator 0 texts next)

pub separated-more : (separator : List ℕ) (texts : List (List ℕ)) (i : ℕ) (d : List ℕ) → i < length texts
    → separated separator i (drop i texts) ≡ (separator_text separator i ++ get_or texts i d) ++ separated separator (i + 1) (drop (i + 1) texts)
separated-more separator texts i d h = rw (add-one, drop-cons texts i d h) refl

pub separated-end : (separator : List ℕ) (texts : List (List ℕ)) (i : ℕ) → length texts ≤ i → separated separator i (drop i texts) ≡ []
separated-end separator texts i le = rw (drop_all i texts le) refl

-- ---- rewards

-- a choice has a reward for each reward name
pub rewards-as_many : (m : Mdp) → IsModel m → (s c : ℕ) → s < states_of m → c < length (choices_at m s) → length (get_or (choices_at m s) c no_choice).rewards ≡ length m.names
rewards-as_many m h s c lt l = let w : IsStateWithin (length m.names) (get_or m.states s no_state) = h.states s no_state lt in (w.choices c no_choice l).rewards

pub rewards-more : (rewards : List ℚ) (i : ℕ) → i < length rewards
    → separated (codes ", ") i (drop i (map spelling rewards)) ≡ (separator_text (codes ", ") i ++ spelling (get_or rewards i (of_int (pos 0))))
    ++ separated (codes ", ") (i + 1) (drop (i + 1) (map spelling rewards))
rewards-more rewards i h =
    separated-more (codes ", ") (map spelling rewards) i (spelling (of_int (pos 0))) (rw (length-map rewards spelling) h)
    ∙ ap (λ text. (separator_text (codes ", ") i ++ text) ++ separated (codes ", ") (i + 1) (drop (i + 1) (map spelling rewards))) (get_or-map spelling rewards i (of_int (pos 0)))

pub rewards-end : (rewards : List ℚ) (i : ℕ) → length rewards ≤ i → separated (codes ", ") i (drop i (map spelling rewards)) ≡ []
rewards-end rewards i le = separated-end (codes ", ") (map spelling rewards) i (rw (length-map rewards spelling) le)

pub zeros-end : (m : Mdp) (i : ℕ) → length m.names ≤ i → separated (codes ", ") i (drop i (zeros_of m)) ≡ []
zeros-end m i le = let zero : List ℕ → List ℕ = λ name. 48 ∷ [] in separated-end (codes ", ") (zeros_of m) i (rw (length-map m.names zero) le)

pub zeros-more : (m : Mdp) (i : ℕ) → i < length m.names
    → separated (codes ", ") i (drop i (zeros_of m)) ≡ (separator_text (codes ", ") i ++ 48 ∷ []) ++ separated (codes ", ") (i + 1) (drop (i + 1) (zeros_of m))
zeros-more m i h =
    let zero : List ℕ → List ℕ = λ name. 48 ∷ [] in
    separated-more (codes ", ") (zeros_of m) i (48 ∷ []) (rw (length-map m.names zero) h)
    ∙ ap (λ text. (separator_text (codes ", ") i ++ text) ++ separated (codes ", ") (i + 1) (drop (i + 1) (zeros_of m))) (get_or-map zero m.names i [])

-- ---- labels

pub labels-more : (labels : List (List ℕ)) (places given : List ℕ) (name : List ℕ) (i : ℕ) → given ≡ places → i < length given → name ≡ get_or labels (get_or given i 0) []
    → labels_text labels (drop i places) ≡ label_text name ++ labels_text labels (drop (i + 1) places)
labels-more labels places given name i same h is = rw (is, ← same, add-one, drop-cons given i 0 h) refl

pub labels-end : (labels : List (List ℕ)) (places given : List ℕ) (i : ℕ) → given ≡ places → length given ≤ i → labels_text labels (drop i places) ≡ []
labels-end labels places given i same le = rw (← same, drop_all i given le) refl

each-at : {A : Type 0} (P : A → Type 0) (xs : List A) (d : A) (i : ℕ) → i < length xs → Each P xs → P (get_or xs i d)
each-at P [] d i lt h = absurd (omega (arith, lt))
each-at P (x ∷ xs) d zero lt h = h.0
each-at P (x ∷ xs) d (suc i) lt h = each-at P xs d i (omega (arith, lt)) h.1

-- a label of a state is one of the model's
pub label-known : (m : Mdp) → IsModel m → (s : ℕ) → s < states_of m → (places : List ℕ) → places ≡ (state_at m s).labels → (i : ℕ) → i < length places → get_or places i 0 < length m.labels
label-known m h s lt places same i l =
    let below : AreBelow (length m.labels) (state_at m s).labels = each-at (AreLabelsBelow (length m.labels)) m.states no_state s lt (sight-below 0 (length m.labels) m.states h.sight).1 in
    each-at (λ k. k < length m.labels) places 0 i l (subst (AreBelow (length m.labels)) (sym same) below)

-- ---- rows, choices and states

pub row-end : (targets : List ℕ) (probs : List ℚ) (i : ℕ) → length targets ≤ i → row_text (entries (drop i targets) (drop i probs)) ≡ []
row-end targets probs i le = rw (drop_all i targets le) refl

pub choices-more : (choices : List Choice) (c : ℕ) → c < length choices
    → choices_text c (drop c choices) ≡ choice_text c (get_or choices c no_choice) ++ choices_text (c + 1) (drop (c + 1) choices)
choices-more choices c lt = rw (add-one, drop-cons choices c no_choice lt) refl

pub choices-end : (choices : List Choice) (c : ℕ) → length choices ≤ c → choices_text c (drop c choices) ≡ []
choices-end choices c le = rw (drop_all c choices le) refl

pub states-more : (m : Mdp) (s : ℕ) → s < states_of m → states_text m s (drop s m.states) ≡ state_text m s (state_at m s) ++ states_text m (s + 1) (drop (s + 1) m.states)
states-more m s lt = rw (add-one, drop-cons m.states s no_state lt) refl

pub states-end : (m : Mdp) (s : ℕ) → states_of m ≤ s → states_text m s (drop s m.states) ≡ []
states-end m s le = rw (drop_all s m.states le) refl

-- ---- the numbers of states and of choices

pub counts_are : (states choices : ℕ) → ((codes "@nr_states\n" ++ decimal states) ++ codes "\n") ++ ((codes "@nr_choices\n" ++ decimal choices) ++ codes "\n@model\n")
    ≡ (count_text (codes "@nr_states") states ++ count_text (codes "@nr_choices") choices) ++ line (codes "@model")
counts_are states choices =
    ap (λ (x : List ℕ). codes "@nr_states\n" ++ (line (decimal states) ++ (codes "@nr_choices\n" ++ x))) (sym (append_assoc (decimal choices) (codes "\n") (codes "@model\n")))
    ∙ ap (λ (x : List ℕ). codes "@nr_states\n" ++ x) (sym (append_assoc (line (decimal states)) (codes "@nr_choices\n" ++ line (decimal choices)) (codes "@model\n")))
