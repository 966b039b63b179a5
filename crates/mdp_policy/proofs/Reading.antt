-- The text of a policy is read exactly where it is the text of what is read.
use Rattle.std.proofs.Common.{◌≡◌, ℕ, zero, suc, ◌+◌, ◌-◌, ◌<◌, ◌≤◌, ◌^◌, not, eqb, ltb, false, List, []}
use Rattle.std.proofs.Common.{◌∷◌, ◌++◌, length, drop, decimal, Result, Ok, Err, refl, sym, ap, ap₂, subst, ◌∙◌, append_assoc, arith}
use Rattle.std.proofs.{lemmas.Bool.{both_ways, lt-ltb, not-false}, lemmas.List.{append-nil}, lemmas.List.Elements.{All-nil, All-cons}}
use Rattle.std.specs.{Prelude.{codes}, List.{All, join_with_byte}}
use Rattle.mdp_math.proofs.Kernel.{All-head, All-tail}
use Rattle.mdp_text.specs.{declared.error.CertKind.TheVariants.{Version, Shape, Count, End}, declared.error.Refusal.{Refusal}}
use Rattle.mdp_text.specs.{Lines.{◌>>=◌, refuse_if, is_line, Place, place, next_line, line_by, nothing_behind}, Words.{first_of, words_behind, whole_at}}
use Rattle.mdp_text.specs.{Spelling.{line, ◌␣◌, states_text, end_text}, Heads.{states_at}}
use Rattle.mdp_text.proofs.{Pieces.{Free}, Cuts.{number-same, same-number}}
use Rattle.mdp_text.proofs.Feeds.{bind_ok, ok-is, refuse_ok, judged-found, judged-again, due-line, due-again, whole-found, whole-again}
use Rattle.mdp_text.proofs.{Joined.{free-join, free-whole, behind-again, behind-text}, States.{states-found, states-again, free-states}}
use Rattle.mdp_policy.specs.Text.{policy_version, choose_text, choose_lines, policy_text, FitsText, choose_at, before_others, choices_from, policy_outcome, IsReadFromText, IsReadBack}

-- ---- one more line: the choices read so far, and what the other lines give

abbrev pub onto : List ℕ → Result (List ℕ × Place) Refusal → Result (List ℕ × Place) Refusal
onto xs r = r >>= λ p. Ok (xs ++ p.0, p.1)

onto-one : (xs : List ℕ) (c : ℕ) (r : Result (List ℕ × Place) Refusal) → onto xs (before_others c r) ≡ onto (xs ++ c ∷ []) r
onto-one xs c (Err e) = refl
onto-one xs c (Ok p) = ap (λ (ys : List ℕ). let q : Result (List ℕ × Place) Refusal = Ok (ys, p.1) in q) (sym (append_assoc xs (c ∷ []) p.0))

one-left : (states s : ℕ) → s < states → states - s ≡ suc (states - (s + 1))
one-left states s lt = omega arith

onto-none : (r : Result (List ℕ × Place) Refusal) → onto [] r ≡ r
onto-none (Err e) = refl
onto-none (Ok p) = refl

pub first-choice : (states : ℕ) (p : Place) → onto [] (choices_from (states - 0) 0 p) ≡ choices_from states 0 p
first-choice states p = let all : states - 0 ≡ states = omega arith in rw all (onto-none (choices_from states 0 p))

pub next-choice : (xs : List ℕ) (states s next : ℕ) (p q : Place) (text : List ℕ) (c : ℕ) → s < states → next ≡ suc s → next_line p ≡ Ok (text, q) → choose_at s p.line text ≡ Ok c
    → onto xs (choices_from (states - s) s p) ≡ onto (xs ++ c ∷ []) (choices_from (states - next) next q)
unfolding choices_from
next-choice xs states s next p q text c lt e found said =
    let left : states - s ≡ suc (states - next) = omega arith in
    rw (left, found, said, e) (onto-one xs c (choices_from (states - suc s) (suc s) q))

pub no-line : (xs : List ℕ) (states s : ℕ) (p : Place) (e : Refusal) → s < states → next_line p ≡ Err e → onto xs (choices_from (states - s) s p) ≡ Err e
unfolding choices_from
no-line xs states s p e lt none = rw (one-left states s lt, none) refl

pub no-choice : (xs : List ℕ) (states s : ℕ) (p q : Place) (text : List ℕ) (e : Refusal) → s < states → next_line p ≡ Ok (text, q) → choose_at s p.line text ≡ Err e
    → onto xs (choices_from (states - s) s p) ≡ Err e
unfolding choices_from
no-choice xs states s p q text e lt found said = rw (one-left states s lt, found, said) refl

pub last-choice : (xs : List ℕ) (states s : ℕ) (p : Place) → s ≡ states → onto xs (choices_from (states - s) s p) ≡ Ok (xs, p)
unfolding choices_from
last-choice xs states s p e =
    let none : states - s ≡ 0 = omega arith in rw none (ap (λ (ys : List ℕ). let q : Result (List ℕ × Place) Refusal = Ok (ys, p) in q) (append-nil xs))

-- ---- one line

two-words : (ws : List (List ℕ)) → length ws ≡ 2 → ws ≡ first_of ws ∷ first_of (drop 1 ws) ∷ []
two-words [] e = absurd (omega arith)
two-words (w ∷ []) e = absurd (omega arith)
two-words (w ∷ v ∷ []) e = refl
two-words (w ∷ v ∷ u ∷ ws) e = absurd (omega arith)

abbrev in-order : ℕ → ℕ → ℕ → ℕ → Result ℕ Refusal
in-order due n state choice = refuse_if Count n (not (eqb state due)) >>= λ order. Ok choice

abbrev with-choice : ℕ → ℕ → List (List ℕ) → ℕ → Result ℕ Refusal
with-choice due n behind state = whole_at n (first_of (drop 1 behind)) >>= in-order due n state

abbrev with-state : ℕ → ℕ → List (List ℕ) → Result ℕ Refusal
with-state due n behind = whole_at n (first_of behind) >>= with-choice due n behind

choose-found : (due n : ℕ) (text : List ℕ) (c : ℕ) → choose_at due n text ≡ Ok c → (text ≡ choose_text due c) × (c < 2 ^ 32)
unfolding choose_at
choose-found due n text c e =
    let one = bind_ok (words_behind (codes "choose") 2 n text) (with-state due n) c e in
    let two = bind_ok (whole_at n (first_of one.0)) (with-choice due n one.0) c one.2 in
    let three = bind_ok (whole_at n (first_of (drop 1 one.0))) (in-order due n two.0) c two.2 in
    let four = bind_ok (refuse_if Count n (not (eqb two.0 due))) (λ order. Ok three.0) c three.2 in
    let is : three.0 ≡ c = ok-is three.0 c four.2 in
    let order : two.0 ≡ due = number-same two.0 due (not-false _ (refuse_ok _ Count n four.0 four.1)) in
    let s = whole-found n (first_of one.0) two.0 two.1 in
    let w = whole-found n (first_of (drop 1 one.0)) three.0 three.1 in
    let t = behind-text (codes "choose") 2 n text one.0 one.1 in (
      t.0
          ∙ ap (λ (ws : List (List ℕ)). join_with_byte 32 (codes "choose" ∷ ws)) (two-words one.0 t.1)
          ∙ ap₂ (λ (v w : List ℕ). codes "choose" ␣ v ␣ w) (s.0 ∙ ap decimal order) (w.0 ∙ ap decimal is),
      subst (λ (k : ℕ). k < 2 ^ 32) is w.1,
    )

choose-again : (due n c : ℕ) → due < 2 ^ 32 → c < 2 ^ 32 → choose_at due n (choose_text due c) ≡ Ok c
unfolding choose_at
choose-again due n c small width =
    let ws : words_behind (codes "choose") 2 n (choose_text due c) ≡ Ok (decimal due ∷ decimal c ∷ []) =
    behind-again (codes "choose") 2 n (decimal due ∷ decimal c ∷ []) refl refl (free-whole 32 due (omega arith) small, (free-whole 32 c (omega arith) width, tt)) in
    rw (ws, whole-again n due small, whole-again n c width, same-number due due refl) refl

free-choose : (due c : ℕ) → due < 2 ^ 32 → c < 2 ^ 32 → Free 10 (choose_text due c)
free-choose due c small width =
    free-join 10 (codes "choose" ∷ decimal due ∷ decimal c ∷ []) refl (refl, (free-whole 10 due (omega arith) small, (free-whole 10 c (omega arith) width, tt)))

-- ---- all lines

record FoundChoices (left due : ℕ) (p : Place) (xs : List ℕ) (q : Place) : Type 0 where
  text : p.rest ≡ choose_lines due xs ++ q.rest
  count : length xs ≡ left
  width : All (λ c. c < 2 ^ 32) xs

choices-found : (left due : ℕ) (p : Place) (xs : List ℕ) (q : Place) → choices_from left due p ≡ Ok (xs, q) → FoundChoices left due p xs q
unfolding choices_from
choices-found zero due p xs q e =
    let same : (let r : List ℕ × Place = ([], p) in r) ≡ (xs, q) = ok-is _ _ e in
    subst (λ (r : List ℕ × Place). FoundChoices 0 due p r.0 r.1) same (record { text = refl; count = refl; width = All-nil (λ c. c < 2 ^ 32) })
choices-found (suc left) due p xs q e =
    let others : ℕ × Place → Result (List ℕ × Place) Refusal = λ said. before_others said.0 (choices_from left (suc due) said.1) in
    let one = bind_ok (line_by (choose_at due) p) others (xs, q) e in
    let two = bind_ok (choices_from left (suc due) one.0.1) (λ r. Ok (one.0.0 ∷ r.0, r.1)) (xs, q) one.2 in
    let same : (let r : List ℕ × Place = (one.0.0 ∷ two.0.0, two.0.1) in r) ≡ (xs, q) = ok-is _ _ two.2 in
    let j = judged-found (choose_at due) p one.0.0 one.0.1 one.1 in
    let c = choose-found due p.line j.text one.0.0 j.said in
    let rest = choices-found left (suc due) one.0.1 two.0.0 two.0.1 two.1 in
    subst (λ (r : List ℕ × Place). FoundChoices (suc left) due p r.0 r.1) same (record {
      text = joined _ _ _ _ _ _ j.is.front c.0 rest.text;
      count = ap suc rest.count;
      width = All-cons (λ c. c < 2 ^ 32) one.0.0 two.0.0 c.1 rest.width;
    })
  where
    joined : (a t t' b l d : List ℕ) → a ≡ line t ++ b → t ≡ t' → b ≡ l ++ d → a ≡ (line t' ++ l) ++ d
    joined a t t' b l d p q r = rw (p, q, r) (sym (append_assoc (line t') l d))

choices-again : (xs : List ℕ) (due n : ℕ) (rest : List ℕ) → All (λ c. c < 2 ^ 32) xs → due + length xs ≤ 2 ^ 32
    → (k : ℕ) × (choices_from (length xs) due (place n (choose_lines due xs ++ rest)) ≡ Ok (xs, place k rest))
unfolding choices_from
choices-again [] due n rest width limit = (n, refl)
choices-again (c ∷ xs) due n rest width limit =
    let small : c < 2 ^ 32 = All-head (λ c. c < 2 ^ 32) c xs width in
    let others = choices-again xs (suc due) (n + 1) rest (All-tail (λ c. c < 2 ^ 32) c xs width) (omega arith) in (
      others.0,
      ap (λ (t : List ℕ). choices_from (suc (length xs)) due (place n t)) (append_assoc (line (choose_text due c)) (choose_lines (suc due) xs) rest)
          ∙ ap (λ (r : Result (ℕ × Place) Refusal). r >>= λ said. before_others said.0 (choices_from (length xs) (suc due) said.1))
          (judged-again (choose_at due) n (choose_text due c) (choose_lines (suc due) xs ++ rest) c (free-choose due c (omega arith) small) (choose-again due n c (omega arith) small))
          ∙ ap (before_others c) others.1,
    )

-- ---- the whole

none-is : (t : List ℕ) → ltb 0 (length t) ≡ false → t ≡ []
none-is [] h = refl
none-is (x ∷ xs) h = absurd (both_ways _ h (lt-ltb 0 (length (x ∷ xs)) (omega arith)))

nothing-found : (p : Place) (u : Unit {0}) → nothing_behind p ≡ Ok u → p.rest ≡ []
unfolding nothing_behind
nothing-found p u e = none-is p.rest (refuse_ok _ End p.line u e)

abbrev after-end : List ℕ → (Unit {0}) × Place → Result (List ℕ) Refusal
after-end choices end = nothing_behind end.1 >>= λ nothing. Ok choices

abbrev after-choices : List ℕ × Place → Result (List ℕ) Refusal
after-choices choices = line_by (is_line Shape end_text) choices.1 >>= after-end choices.0

abbrev after-states : ℕ × Place → Result (List ℕ) Refusal
after-states states = choices_from states.0 0 states.1 >>= after-choices

abbrev after-version : (Unit {0}) × Place → Result (List ℕ) Refusal
after-version version = line_by states_at version.1 >>= after-states

record FoundPolicy (bytes choices : List ℕ) : Type 0 where
  text : bytes ≡ policy_text choices
  fits : FitsText choices

policy-found : (bytes choices : List ℕ) → policy_outcome bytes ≡ Ok choices → FoundPolicy bytes choices
unfolding policy_outcome policy_text
policy-found bytes choices e =
    let one = bind_ok (line_by (is_line Version policy_version) (place 1 bytes)) after-version choices e in
    let two = bind_ok (line_by states_at one.0.1) after-states choices one.2 in
    let three = bind_ok (choices_from two.0.0 0 two.0.1) after-choices choices two.2 in
    let four = bind_ok (line_by (is_line Shape end_text) three.0.1) (after-end three.0.0) choices three.2 in
    let five = bind_ok (nothing_behind four.0.1) (λ nothing. Ok three.0.0) choices four.2 in
    let is : three.0.0 ≡ choices = ok-is three.0.0 choices five.2 in
    let v = judged-found (is_line Version policy_version) (place 1 bytes) one.0.0 one.0.1 one.1 in
    let s = judged-found states_at one.0.1 two.0.0 two.0.1 two.1 in
    let n = states-found one.0.1.line s.text two.0.0 s.said in
    let found = choices-found two.0.0 0 two.0.1 three.0.0 three.0.1 three.1 in
    let z = judged-found (is_line Shape end_text) three.0.1 four.0.0 four.0.1 four.1 in
    subst (FoundPolicy bytes) is (record {
      text =
          joined _ _ _ _ _ _ _ _ _ _ _ v.is.front (due-line Version 1 v.text policy_version one.0.0 v.said) s.is.front (n.0 ∙ ap states_text (sym found.count)) found.text z.is.front
          (due-line Shape three.0.1.line z.text end_text four.0.0 z.said) (nothing-found four.0.1 five.0 five.1);
      fits = record { some = (let k = found.count in omega (arith, n.1)); limit = (let k = found.count in omega (arith, n.2)); width = found.width };
    })
  where
    joined : (a t t' b s s' d l f z z' : List ℕ) {g : List ℕ} → a ≡ line t ++ b → t ≡ t' → b ≡ line s ++ d → s ≡ s' → d ≡ l ++ f → f ≡ line z ++ g → z ≡ z' → g ≡ []
        → a ≡ line t' ++ (line s' ++ (l ++ line z'))
    joined a t t' b s s' d l f z z' p q r u v w x y = rw (p, q, r, u, v, w, x, y, append-nil (line z')) refl

policy-again : (choices : List ℕ) → FitsText choices → policy_outcome (policy_text choices) ≡ Ok choices
unfolding policy_outcome policy_text nothing_behind
policy-again choices fits =
    let n : ℕ = length choices in
    let body : List ℕ = choose_lines 0 choices ++ line end_text in
    let b = choices-again choices 0 (1 + 1 + 1) (line end_text) fits.width (let l = fits.limit in omega arith) in
    ap (λ (r : Result (Unit {0} × Place) Refusal). r >>= after-version)
    (judged-again (is_line Version policy_version) 1 policy_version (line (states_text n) ++ body) tt refl (due-again Version 1 policy_version))
    ∙ ap (λ (r : Result (ℕ × Place) Refusal). r >>= after-states) (judged-again states_at (1 + 1) (states_text n) body n (free-states n fits.limit) (states-again (1 + 1) n fits.some fits.limit))
    ∙ ap (λ (r : Result (List ℕ × Place) Refusal). r >>= after-choices) b.1
    ∙ ap (λ (t : List ℕ). line_by (is_line Shape end_text) (place b.0 t) >>= after-end choices) (sym (append-nil (line end_text)))
    ∙ ap (λ (r : Result (Unit {0} × Place) Refusal). r >>= after-end choices) (judged-again (is_line Shape end_text) b.0 end_text [] tt refl (due-again Shape b.0 end_text))

pub read_from_text : IsReadFromText
read_from_text bytes choices = (λ e. (let f = policy-found bytes choices e in (f.fits, f.text)), λ p. ap policy_outcome p.1 ∙ policy-again choices p.0)

pub read_back : IsReadBack
read_back choices fits = policy-again choices fits
