-- The line of the number of states, and one of a word and a fraction, are read exactly where they are their texts. So many words, one by one.
use Rattle.std.proofs.Common.{◌≡◌, ℕ, ◌<◌, ◌≤◌, ◌^◌, false, eqb, ltb, ◌||◌, List, [], ◌∷◌, length, drop, decimal, Result, Ok, refl, ap, ◌∙◌, arith}
use Rattle.std.proofs.lemmas.Bool.Decides.{nat_tests}
use Rattle.std.specs.{Prelude.{codes}, List.{join_with_byte}}
use Rattle.mdp_math.specs.Rational.{ℚ}
use Rattle.mdp_num.specs.Value.{spelling, IsNarrow}
use Rattle.mdp_text.specs.{declared.error.CertKind.TheVariants.{Count}, declared.error.Refusal.{Refusal}, Lines.{◌>>=◌, refuse_if}}
use Rattle.mdp_text.specs.{Words.{first_of, words_behind, whole_at, frac_at}, Heads.{states_at}, Spelling.{◌␣◌, states_text}}
use Rattle.mdp_text.proofs.{Pieces.{Free, free-spelling}, Feeds.{bind_ok, ok-is, refuse_ok, whole-found, whole-again, frac-found, frac-again}}
use Rattle.mdp_text.proofs.Joined.{free-join, free-whole, behind-again, behind-text}

abbrev pub states-range : ℕ → ℕ → Result ℕ Refusal
states-range n states = refuse_if Count n ((eqb states 0) || ltb (2 ^ 20) states) >>= λ range. Ok states

abbrev pub states-number : ℕ → List (List ℕ) → Result ℕ Refusal
states-number n behind = whole_at n (first_of behind) >>= states-range n

pub one-word : (ws : List (List ℕ)) → length ws ≡ 1 → ws ≡ first_of ws ∷ []
one-word [] e = absurd (omega arith)
one-word (w ∷ []) e = refl
one-word (w ∷ v ∷ ws) e = absurd (omega arith)

pub two-words : (ws : List (List ℕ)) → length ws ≡ 2 → ws ≡ first_of ws ∷ first_of (drop 1 ws) ∷ []
two-words [] e = absurd (omega arith)
two-words (w ∷ ws) e = ap (λ (us : List (List ℕ)). w ∷ us) (one-word ws (omega arith))

pub three-words : (ws : List (List ℕ)) → length ws ≡ 3 → ws ≡ first_of ws ∷ first_of (drop 1 ws) ∷ first_of (drop 1 (drop 1 ws)) ∷ []
three-words [] e = absurd (omega arith)
three-words (w ∷ ws) e = ap (λ (us : List (List ℕ)). w ∷ us) (two-words ws (omega arith))

pub four-words : (ws : List (List ℕ)) → length ws ≡ 4
    → ws ≡ first_of ws ∷ first_of (drop 1 ws) ∷ first_of (drop 1 (drop 1 ws)) ∷ first_of (drop 1 (drop 1 (drop 1 ws))) ∷ []
four-words [] e = absurd (omega arith)
four-words (w ∷ ws) e = ap (λ (us : List (List ℕ)). w ∷ us) (three-words ws (omega arith))

pub states-found : (n : ℕ) (text : List ℕ) (states : ℕ) → states_at n text ≡ Ok states → (text ≡ states_text states) × (0 < states) × (states ≤ 2 ^ 20)
unfolding states_at
states-found n text states e =
    let one = bind_ok (words_behind (codes "states") 1 n text) (states-number n) states e in
    let two = bind_ok (whole_at n (first_of one.0)) (states-range n) states one.2 in
    let three = bind_ok (refuse_if Count n ((eqb two.0 0) || ltb (2 ^ 20) two.0)) (λ range. Ok two.0) states two.2 in
    let range : ((eqb two.0 0) || ltb (2 ^ 20) two.0) ≡ false = refuse_ok _ Count n three.0 three.1 in
    let is : two.0 ≡ states = ok-is two.0 states three.2 in
    let in-range = bounds two.0 range in
    let word = whole-found n (first_of one.0) two.0 two.1 in
    let t = behind-text (codes "states") 1 n text one.0 one.1 in (
      t.0 ∙ ap (λ (ws : List (List ℕ)). join_with_byte 32 (codes "states" ∷ ws)) (one-word one.0 t.1) ∙ ap (λ (w : List ℕ). codes "states" ␣ w) (word.0 ∙ ap decimal is),
      omega (arith, in-range.0, is),
      omega (arith, in-range.1, is),
    )
  where
    bounds : (k : ℕ) → (eqb k 0 || ltb (2 ^ 20) k) ≡ false → (0 < k) × (k ≤ 2 ^ 20)
    bounds k e = (grind (arith, nat_tests), grind (arith, nat_tests))

pub states-again : (n states : ℕ) → 0 < states → states ≤ 2 ^ 20 → states_at n (states_text states) ≡ Ok states
unfolding states_at
states-again n states some limit =
    let small : states < 2 ^ 32 = omega arith in
    let ws : words_behind (codes "states") 1 n (states_text states) ≡ Ok (decimal states ∷ []) =
    behind-again (codes "states") 1 n (decimal states ∷ []) refl refl (free-whole 32 states (omega arith) small, tt) in
    let range : (eqb states 0 || ltb (2 ^ 20) states) ≡ false = grind (arith, nat_tests) in
    rw (ws, whole-again n states small, range) refl

pub free-states : (states : ℕ) → states ≤ 2 ^ 20 → Free 10 (states_text states)
free-states states h = free-join 10 (codes "states" ∷ decimal states ∷ []) refl (refl, (free-whole 10 states (omega arith) (omega arith), tt))

-- ---- a line of a word and a fraction

pub fraction-found : (due : List ℕ) (n : ℕ) (text : List ℕ) (k : ℚ) → (words_behind due 1 n text >>= λ behind. frac_at n (first_of behind)) ≡ Ok k
    → (text ≡ due ␣ spelling k) × IsNarrow k
fraction-found due n text k e =
    let one = bind_ok (words_behind due 1 n text) (λ behind. frac_at n (first_of behind)) k e in
    let f = frac-found n (first_of one.0) k one.2 in
    let t = behind-text due 1 n text one.0 one.1 in
    (t.0 ∙ ap (λ (ws : List (List ℕ)). join_with_byte 32 (due ∷ ws)) (one-word one.0 t.1) ∙ ap (λ (w : List ℕ). due ␣ w) f.0, f.1)

pub fraction-again : (due : List ℕ) (n : ℕ) (k : ℚ) → Free 32 due → IsNarrow k → (words_behind due 1 n (due ␣ spelling k) >>= λ behind. frac_at n (first_of behind)) ≡ Ok k
fraction-again due n k free h =
    let ws : words_behind due 1 n (due ␣ spelling k) ≡ Ok (spelling k ∷ []) = behind-again due 1 n (spelling k ∷ []) refl free (free-spelling 32 k (omega arith) h, tt) in
    rw (ws, frac-again n k h) refl

pub free-fraction : (due : List ℕ) (k : ℚ) → Free 10 due → IsNarrow k → Free 10 (due ␣ spelling k)
free-fraction due k free h = free-join 10 (due ∷ spelling k ∷ []) refl (free, (free-spelling 10 k (omega arith) h, tt))
