-- The text of a layered model, by the pieces that are appended.
use Rattle.std.proofs.Common.{◌≡◌, ℕ, suc, ◌+◌, ◌*◌, ◌<◌, min, max, Bool, true, false, cond, eqb, List, []}
use Rattle.std.proofs.Common.{◌∷◌, ◌++◌, length, drop, codes, decimal, pos, refl, sym, ap, ap₂, ◌∙◌, append_assoc, append-nil, arith, sum_by}
use Rattle.std.proofs.{lemmas.List.{drop_more}, lemmas.List.FromFn.{length-map-range_with_len, get_or-map-range_with_len}}
use Rattle.mdp_math.specs.Rational.{of_int}
use Rattle.mdp_num.specs.Value.{spelling}
use Rattle.mdp_spec.specs.Mdp.{Entry, Choice, State, no_state}
use Rattle.mdp_drn.specs.Writing.{line, bracket_text, labels_text, choices_text, states_text}
use Rattle.mdp_drn.specs.Writing as drn
use Rattle.mdp_gen.specs.{Draws.{next, draw}, Layered.{target, one, half, row_to, choice_to, state_behind, loop_state, of_states, layer_states, last_states}}
use Rattle.mdp_gen.specs.Text.{generated_text}
use Rattle.mdp_gen.specs.Pieces.{header_text, entry_text, row_text, choice_line_text, choice_text, state_line_text, initial_text, state_text, loop_text}
use Rattle.mdp_gen.proofs.{Spelled.{one-spelled, half-spelled, zero-spelled}, Modelled.{length-layered, layered-choices}}

-- ---- rows and choices

abbrev sure : ℕ → List Entry
sure a = record { target = a; prob = one } ∷ []

abbrev even : ℕ → ℕ → List Entry
even a b = record { target = a; prob = half } ∷ record { target = b; prob = half } ∷ []

sure-text : (a : ℕ) → drn.row_text (sure a) ≡ entry_text a (codes "1")
sure-text a = append-nil (entry_text a (spelling one)) ∙ ap (entry_text a) one-spelled

even-text : (a b : ℕ) → drn.row_text (even a b) ≡ entry_text a (codes "1/2") ++ entry_text b (codes "1/2")
even-text a b =
    ap (λ (xs : List ℕ). entry_text a (spelling half) ++ xs) (append-nil (entry_text b (spelling half)))
    ∙ ap (λ (p : List ℕ). entry_text a p ++ entry_text b p) half-spelled

row-is : (a b : ℕ) → drn.row_text (row_to a b) ≡ row_text a b
row-is a b = by (eqb a b)
  where
    by : (t : Bool) → drn.row_text (cond t (sure a) (even (min a b) (max a b))) ≡ cond t (entry_text a (codes "1")) (entry_text (min a b) (codes "1/2") ++ entry_text (max a b) (codes "1/2"))
    by true = sure-text a
    by false = even-text (min a b) (max a b)

line-is : (c : ℕ) → line (9 ∷ codes "action " ++ decimal c ++ bracket_text (spelling (of_int (pos 0)) ∷ [])) ≡ choice_line_text c
line-is c = ap (λ (p : List ℕ). line (9 ∷ codes "action " ++ decimal c ++ bracket_text (p ∷ []))) zero-spelled

choices-one : (c a b : ℕ) (choices : List Choice) → choices_text c (choice_to (row_to a b) ∷ choices) ≡ choice_text c a b ++ choices_text (suc c) choices
choices-one c a b choices = ap₂ (λ (l r : List ℕ). (l ++ r) ++ choices_text (suc c) choices) (line-is c) (row-is a b)

-- ---- states

labels-is : (s : ℕ) → labels_text (codes "init" ∷ codes "goal" ∷ []) (cond (eqb s 0) (0 ∷ []) []) ≡ initial_text s
labels-is s = by (eqb s 0)
  where
    by : (b : Bool) → labels_text (codes "init" ∷ codes "goal" ∷ []) (cond b (0 ∷ []) []) ≡ cond b (codes " \"init\"") []
    by true = refl
    by false = refl

grouped : (a b c rest : List ℕ) → a ++ (b ++ (c ++ [])) ++ rest ≡ (a ++ b ++ c) ++ rest
grouped a b c rest = simp (append_assoc, append-nil) refl

pub states-one : (layers width s x : ℕ) (states : List State)
    → states_text (of_states []) s (state_behind layers width s x ∷ states) ≡ state_text layers width s x ++ states_text (of_states []) (suc s) states
states-one layers width s x states =
    let a = target layers width s (next x) in
    let b = target layers width s (next (next x)) in
    let c = target layers width s (next (next (next x))) in
    let d = target layers width s (next (next (next (next x)))) in
    ap₂ (λ (l r : List ℕ). state_line_text s l ++ r ++ states_text (of_states []) (suc s) states) (labels-is s)
    (choices-one 0 a b (choice_to (row_to c d) ∷ []) ∙ ap (λ (r : List ℕ). choice_text 0 a b ++ r) (choices-one 1 c d []))
    ∙ grouped (state_line_text s (initial_text s)) (choice_text 0 a b) (choice_text 1 c d) (states_text (of_states []) (suc s) states)

loop-one : (s : ℕ) (labels : List ℕ) (states : List State)
    → states_text (of_states []) s (loop_state s labels ∷ states) ≡ loop_text s (labels_text (codes "init" ∷ codes "goal" ∷ []) labels) ++ states_text (of_states []) (suc s) states
loop-one s labels states =
    ap (λ (r : List ℕ). state_line_text s (labels_text (codes "init" ∷ codes "goal" ∷ []) labels) ++ r ++ states_text (of_states []) (suc s) states)
    (choices-one 0 s s [] ∙ append-nil (choice_text 0 s s))

-- ---- the loop over the layers' states

pub layers-more : (number layers width s : ℕ) → s < layers * width
    → states_text (of_states []) s (drop s (layer_states number layers width))
    ≡ state_text layers width s (draw number (4 * s)) ++ states_text (of_states []) (s + 1) (drop (s + 1) (layer_states number layers width))
layers-more number layers width s h =
    let state : ℕ → State = λ k. state_behind layers width k (draw number (4 * k)) in
    let states = layer_states number layers width in
    let n : length states ≡ layers * width = length-map-range_with_len state 0 (layers * width) in
    let e : 0 + s ≡ s = omega arith in
    let f : suc s ≡ s + 1 = omega arith in
    ap (states_text (of_states []) s)
    (drop_more states s no_state (omega (arith, n)) ∙ ap (λ (x : State). x ∷ drop (s + 1) states) (get_or-map-range_with_len state 0 (layers * width) s s no_state h e))
    ∙ states-one layers width s (draw number (4 * s)) (drop (s + 1) states)
    ∙ ap (λ (k : ℕ). state_text layers width s (draw number (4 * s)) ++ states_text (of_states []) k (drop (s + 1) states)) f

pub draw-four : (number s : ℕ) → draw number (4 * (s + 1)) ≡ next (next (next (next (draw number (4 * s)))))
unfolding draw
draw-four number s = ap (draw number) (let e : 4 * (s + 1) ≡ suc (suc (suc (suc (4 * s)))) = omega arith in e)

-- ---- the whole text

states-after : (s : ℕ) (xs ys : List State) → states_text (of_states []) s (xs ++ ys) ≡ states_text (of_states []) s xs ++ states_text (of_states []) (s + length xs) ys
states-after s [] ys = ap (λ (k : ℕ). states_text (of_states []) k ys) (let e : s ≡ s + 0 = omega arith in e)
states-after s (x ∷ xs) ys =
    let a = line (codes "state " ++ decimal s ++ codes " [0]" ++ labels_text (codes "init" ∷ codes "goal" ∷ []) x.labels) ++ choices_text 0 x.choices in
    ap (λ (r : List ℕ). a ++ r) (states-after (suc s) xs ys)
    ∙ sym (append_assoc a (states_text (of_states []) (suc s) xs) (states_text (of_states []) (suc s + length xs) ys))
    ∙ ap (λ (k : ℕ). (a ++ states_text (of_states []) (suc s) xs) ++ states_text (of_states []) k ys) (let e : suc s + length xs ≡ s + length (x ∷ xs) = omega arith in e)

last-text : (s : ℕ) → states_text (of_states []) s (loop_state s (1 ∷ []) ∷ loop_state (s + 1) [] ∷ []) ≡ loop_text s (codes " \"goal\"") ++ loop_text (s + 1) []
last-text s =
    let f : suc s ≡ s + 1 = omega arith in
    loop-one s (1 ∷ []) (loop_state (s + 1) [] ∷ [])
    ∙ ap (λ (r : List ℕ). loop_text s (codes " \"goal\"") ++ r)
    (ap (λ (k : ℕ). states_text (of_states []) k (loop_state (s + 1) [] ∷ [])) f ∙ loop-one (s + 1) [] [] ∙ append-nil (loop_text (s + 1) []))

header-grouped : (h a b c d e : List ℕ) → h ++ a ++ b ++ c ++ d ++ e ≡ h ++ ((a ++ b) ++ (c ++ d) ++ e)
header-grouped h a b c d e = simp append_assoc refl

header-is : (states : List State) (s c : ℕ) → length states ≡ s → sum_by (λ x. length x.choices) states ≡ c → drn.header_text (of_states states) ≡ header_text s c
header-is states s c p q =
    let first = codes "@type: MDP\n@parameters\n\n@reward_models\n\n" in
    ap₂ (λ (n k : ℕ). first ++ line (codes "@nr_states") ++ line (decimal n) ++ line (codes "@nr_choices") ++ line (decimal k) ++ codes "@model\n") p q
    ∙ header-grouped first (line (codes "@nr_states")) (line (decimal s)) (line (codes "@nr_choices")) (line (decimal c)) (codes "@model\n")

states-is : (number layers width : ℕ)
    → states_text (of_states []) 0 (layer_states number layers width ++ last_states layers width)
    ≡ states_text (of_states []) 0 (layer_states number layers width) ++ (loop_text (layers * width) (codes " \"goal\"") ++ loop_text (layers * width + 1) [])
states-is number layers width =
    let states = layer_states number layers width in
    let n : length states ≡ layers * width = length-map-range_with_len (λ s. state_behind layers width s (draw number (4 * s))) 0 (layers * width) in
    let e : 0 + length states ≡ layers * width = omega (arith, n) in
    states-after 0 states (last_states layers width)
    ∙ ap (λ (r : List ℕ). states_text (of_states []) 0 states ++ r) (ap (λ (k : ℕ). states_text (of_states []) k (last_states layers width)) e ∙ last-text (layers * width))

text-grouped : (a b c d : List ℕ) → a ++ b ++ c ++ d ≡ a ++ (b ++ (c ++ d))
text-grouped a b c d = simp append_assoc refl

pub text-parts : (number layers width : ℕ)
    → header_text (layers * width + 2) (2 * (layers * width) + 2) ++ states_text (of_states []) 0 (layer_states number layers width)
    ++ loop_text (layers * width) (codes " \"goal\"") ++ loop_text (layers * width + 1) []
    ≡ generated_text number layers width
text-parts number layers width =
    let header = header_text (layers * width + 2) (2 * (layers * width) + 2) in
    let states = layer_states number layers width ++ last_states layers width in
    text-grouped header (states_text (of_states []) 0 (layer_states number layers width)) (loop_text (layers * width) (codes " \"goal\"")) (loop_text (layers * width + 1) [])
    ∙ ap₂ (λ (h r : List ℕ). h ++ r)
    (sym (header-is states (layers * width + 2) (2 * (layers * width) + 2) (length-layered number layers width) (layered-choices number layers width)))
    (sym (states-is number layers width))

-- four pieces, one behind the other
pub appended-four : (old a b c d h l g f whole : List ℕ) → a ≡ old ++ h → b ≡ a ++ l → c ≡ b ++ g → d ≡ c ++ f → h ++ l ++ g ++ f ≡ whole → d ≡ old ++ whole
appended-four old a b c d h l g f whole p q r s e =
    s ∙ ap (λ (xs : List ℕ). xs ++ f) (r ∙ ap (λ (xs : List ℕ). xs ++ g) (q ∙ ap (λ (xs : List ℕ). xs ++ l) p)) ∙ together old h l g f ∙ ap (λ (xs : List ℕ). old ++ xs) e
  where
    together : (old h l g f : List ℕ) → old ++ h ++ l ++ g ++ f ≡ old ++ (h ++ l ++ g ++ f)
    together old h l g f = simp append_assoc refl

pub appended-two : (old a b h l : List ℕ) → a ≡ old ++ h → b ≡ a ++ l → b ≡ old ++ (h ++ l)
appended-two old a b h l p q = q ∙ ap (λ (xs : List ℕ). xs ++ l) p ∙ append_assoc old h l
