-- The lines of claim, states, init and remainder are read exactly where they are the texts of what is read.
use Rattle.std.proofs.Common.{◌≡◌, ℕ, ◌<◌, ◌≤◌, ◌^◌, Bool, true, false, not, cond, ltb, List, [], ◌∷◌}
use Rattle.std.proofs.{Common.{drop, decimal, Option, Some, None, Result, Ok, refl, ap, subst, ◌∙◌, arith}, lemmas.Bool.{not-false}}
use Rattle.std.proofs.lemmas.Bool.Decides.{nat_tests}
use Rattle.std.specs.{Prelude.{codes, IfSome}, List.{join_with_byte}, Str.{bytes_eq}}
use Rattle.mdp_math.specs.Rational.{ℚ}
use Rattle.mdp_text.specs.{declared.error.CertKind.TheVariants.{Number, Count}, declared.error.Refusal.{Refusal}, Lines.{◌>>=◌, refuse_if, Place}}
use Rattle.mdp_text.specs.{Words.{first_of, words_behind, whole_at, reward_parse}, Spelling.{◌␣◌}}
use Rattle.mdp_cert.specs.Claims.{reward_text}
use Rattle.mdp_cert.proofs.Numbered.{given-other}
use Rattle.mdp_text.proofs.{Pieces.{Free}, Cuts.{bytes_same}, Feeds.{bind_ok, ok-is, refuse_ok, found_ok, whole-found, whole-again}}
use Rattle.mdp_text.proofs.{Joined.{free-join, free-whole, behind-again, behind-text}, States.{three-words}}
use Rattle.mdp_discount_text.proofs.{FourLines.{AreInits}, Columns.{lower-found, lower-again, free-lower, upper-found, upper-again, free-upper}}
use Rattle.mdp_discount_text.proofs.FourLines as four
use Rattle.mdp_discount_rules.specs.{BoundsCert.{is_init, IsValueNarrow}, declared.bounds_init.InitialBounds.{InitialBounds}}
use Rattle.mdp_discount_text.specs.{Entries.{lower_text, lower_parse}, BoundsSpelling.{init_text}}
use Rattle.mdp_discount_text.specs.Reading.{lower_at, upper_at, between_at, init_at, BoundsHead, head_from}

-- ---- the initial state

abbrev pub IsInitNarrow : Option InitialBounds → Type 0
IsInitNarrow init = IfSome init (λ i. IsValueNarrow i.lower × IsValueNarrow i.upper)

pub record IsInit (states : ℕ) (init : Option InitialBounds) : Type 0 where
  pub inside : is_init states init ≡ true
  pub width : IsInitNarrow init

abbrev between : ℕ → Option ℚ → Option ℚ → InitialBounds
between state low high = record { state = state; lower = low; upper = high }

abbrev init-inside : ℕ → ℕ → ℕ → Option ℚ → Option ℚ → Result (Option InitialBounds) Refusal
init-inside states n state low high = refuse_if Count n (not (ltb state states)) >>= λ inside. Ok (Some (between state low high))

abbrev init-upper : ℕ → ℕ → List (List ℕ) → ℕ → Option ℚ → Result (Option InitialBounds) Refusal
init-upper states n behind state low = upper_at n (first_of (drop 1 (drop 1 behind))) >>= init-inside states n state low

abbrev init-lower : ℕ → ℕ → List (List ℕ) → ℕ → Result (Option InitialBounds) Refusal
init-lower states n behind state = lower_at n (first_of (drop 1 behind)) >>= init-upper states n behind state

abbrev init-state : ℕ → ℕ → List (List ℕ) → Result (Option InitialBounds) Refusal
init-state states n behind = whole_at n (first_of behind) >>= init-lower states n behind

between-found : (states n : ℕ) (text : List ℕ) (init : Option InitialBounds) → between_at states n text ≡ Ok init → (text ≡ init_text init) × IsInit states init
unfolding between_at
between-found states n text init e =
    let one = bind_ok (words_behind (codes "init") 3 n text) (init-state states n) init e in
    let two = bind_ok (whole_at n (first_of one.0)) (init-lower states n one.0) init one.2 in
    let three = bind_ok (lower_at n (first_of (drop 1 one.0))) (init-upper states n one.0 two.0) init two.2 in
    let four = bind_ok (upper_at n (first_of (drop 1 (drop 1 one.0)))) (init-inside states n two.0 three.0) init three.2 in
    let five = bind_ok (refuse_if Count n (not (ltb two.0 states))) (λ inside. Ok (Some (between two.0 three.0 four.0))) init four.2 in
    let inside : ltb two.0 states ≡ true = not-false _ (refuse_ok _ Count n five.0 five.1) in
    let word = whole-found n (first_of one.0) two.0 two.1 in
    let least = lower-found (first_of (drop 1 one.0)) three.0 (found_ok (lower_parse (first_of (drop 1 one.0))) Number n three.0 three.1) in
    let most = upper-found (first_of (drop 1 (drop 1 one.0))) four.0 (found_ok (reward_parse (first_of (drop 1 (drop 1 one.0)))) Number n four.0 four.1) in
    let t = behind-text (codes "init") 3 n text one.0 one.1 in
    subst (λ (i : Option InitialBounds). (text ≡ init_text i) × IsInit states i) (ok-is _ init five.2) (
      t.0 ∙ ap (λ (ws : List (List ℕ)). join_with_byte 32 (codes "init" ∷ ws)) (three-words one.0 t.1) ∙ spelled _ _ _ _ _ _ word.0 least.0 most.0,
      record { inside = inside; width = (least.1, most.1) },
    )
  where
    spelled : (a b c a' b' c' : List ℕ) → a ≡ a' → b ≡ b' → c ≡ c' → codes "init" ␣ a ␣ b ␣ c ≡ codes "init" ␣ a' ␣ b' ␣ c'
    spelled a b c a' b' c' p q r = rw (p, q, r) refl

init-found : (states n : ℕ) (text : List ℕ) (init : Option InitialBounds) → init_at states n text ≡ Ok init → (text ≡ init_text init) × IsInit states init
unfolding init_at
init-found states n text init e = by (bytes_eq text (codes "init -")) refl e
  where
    by : (b : Bool) → bytes_eq text (codes "init -") ≡ b → cond b (Ok None) (between_at states n text) ≡ Ok init → (text ≡ init_text init) × IsInit states init
    by true t e =
        let is : None ≡ init = cc in
        subst (λ (i : Option InitialBounds). (text ≡ init_text i) × IsInit states i) is (bytes_same text (codes "init -") t, record { inside = refl; width = tt })
    by false t e = between-found states n text init e

between-again : (states n state : ℕ) (low high : Option ℚ) → ltb state states ≡ true → states ≤ 2 ^ 20 → IsValueNarrow low → IsValueNarrow high
    → between_at states n (init_text (Some (between state low high))) ≡ Ok (Some (between state low high))
unfolding between_at
between-again states n state low high inside limit l u =
    let lt : state < states = grind (arith, nat_tests) in
    let small : state < 2 ^ 32 = omega arith in
    let ws : words_behind (codes "init") 3 n (init_text (Some (between state low high))) ≡ Ok (decimal state ∷ lower_text low ∷ reward_text high ∷ []) =
    behind-again (codes "init") 3 n (decimal state ∷ lower_text low ∷ reward_text high ∷ []) refl refl
    (free-whole 32 state (omega arith) small, (free-lower 32 low (omega arith) l, (free-upper 32 high (omega arith) u, tt))) in
    rw (ws, whole-again n state small, lower-again low l, upper-again high u, inside) refl

init-again : (states n : ℕ) (init : Option InitialBounds) → states ≤ 2 ^ 20 → IsInit states init → init_at states n (init_text init) ≡ Ok init
unfolding init_at
init-again states n None limit h = refl
init-again states n (Some i) limit h =
    let inside : ltb i.state states ≡ true = h.inside in
    let lt : i.state < states = grind (arith, nat_tests) in
    rw (given-other i.state (lower_text i.lower ␣ reward_text i.upper) (omega arith)) (between-again states n i.state i.lower i.upper h.inside limit h.width.0 h.width.1)

free-init : (states : ℕ) (init : Option InitialBounds) → states ≤ 2 ^ 20 → IsInit states init → Free 10 (init_text init)
free-init states None limit h = refl
free-init states (Some i) limit h =
    let inside : ltb i.state states ≡ true = h.inside in
    let lt : i.state < states = grind (arith, nat_tests) in
    free-join 10 (codes "init" ∷ decimal i.state ∷ lower_text i.lower ∷ reward_text i.upper ∷ []) refl
    (refl, (free-whole 10 i.state (omega arith) (omega arith), (free-lower 10 i.lower (omega arith) h.width.0, (free-upper 10 i.upper (omega arith) h.width.1, tt))))

pub init-lines : AreInits init_at init_text IsInit
init-lines = record { found = init-found; again = init-again; free = free-init }

-- ---- the four lines

pub head-found : (p : Place) (h : BoundsHead) (q : Place) → head_from p ≡ Ok (h, q) → four.FoundHead init_at init_text IsInit p h q
unfolding head_from
head-found p h q e = four.head-found init_at init_text IsInit init-lines p h q e
