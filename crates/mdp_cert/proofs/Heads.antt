-- The lines of claim, states and init are read exactly where they are the texts of what is read.
use Rattle.std.proofs.Common.{◌≡◌, ℕ, ◌+◌, ◌<◌, ◌≤◌, ◌^◌, Bool, true, false, not, cond, ltb, ◌&&◌, List, [], ◌∷◌, ◌++◌}
use Rattle.std.proofs.{Common.{drop, decimal, Option, Some, None, Result, Ok, refl, ap, subst, ◌∙◌, arith}, lemmas.Bool.{not-false, and_parts}}
use Rattle.std.proofs.lemmas.Bool.Decides.{nat_tests}
use Rattle.std.specs.{Prelude.{codes}, List.{join_with_byte}, Str.{bytes_eq}}
use Rattle.mdp_math.specs.Rational.{ℚ}
use Rattle.mdp_text.specs.{declared.error.CertKind.TheVariants.{Claim, Number, Count}, declared.error.Refusal.{Refusal}, Heads.{init_parse}}
use Rattle.mdp_text.specs.{Lines.{◌>>=◌, refuse_if, Place, place}, Words.{first_of, words_behind, whole_at}, Spelling.{◌␣◌}}
use Rattle.mdp_text.proofs.{Pieces.{Free}, Cuts.{bytes_same}, Feeds.{bind_ok, ok-is, refuse_ok, found_ok, whole-found, whole-again}}
use Rattle.mdp_text.proofs.{Joined.{free-join, free-whole, behind-again, behind-text}, States.{three-words}}
use Rattle.mdp_text.proofs.HeadLines as heads
use Rattle.mdp_cert.specs.{Cert.{PlainClaim, upper, reach, until, reward, mean, witness, are_names, may_be_infinite, IsValueNarrow}, Claims.{reward_text}}
use Rattle.mdp_cert.specs.{Spelling.{claim_text}, Reading.{claim_at}, declared.init.BoundsInit.{BoundsInit}}
use Rattle.mdp_cert.specs.{declared.init.BoundsInit.TheVariants.{Missing, Between}, BoundsCert.{is_of_bounds, may_be, is_init_of, IsInitInWidth}}
use Rattle.mdp_cert.specs.{BoundsSpelling.{init_text}, BoundsReading.{bounds_claim_at, init_value_at, between_at, init_at, BoundsHead, head_from}}
use Rattle.mdp_cert.proofs.{Columns.{free-reward}, Numbered.{IsAllowed, parse-found, parse-again, given-other}}
use Rattle.mdp_cert.proofs.Claims.{IsRight, claim-found, claim-again, free-claim}

-- ---- the claim

pub record IsBoundsClaim (c : PlainClaim) : Type 0 where
  pub right : IsRight c
  pub bounds : is_of_bounds c ≡ true

-- names alone are to be right in a claim of bounds
pub right-claim : (c : PlainClaim) → is_of_bounds c ≡ true → are_names c ≡ true → IsBoundsClaim c
right-claim (upper label) b h = absurd cc
right-claim (reach dir label) b h = record { right = record { names = h; threshold = refl; width = tt }; bounds = refl }
right-claim (until dir stay label) b h = record { right = record { names = h; threshold = refl; width = tt }; bounds = refl }
right-claim (reward dir name label) b h = record { right = record { names = h; threshold = refl; width = tt }; bounds = refl }
right-claim (mean dir name) b h = record { right = record { names = h; threshold = refl; width = tt }; bounds = refl }
right-claim (witness dir stay label threshold) b h = absurd cc

abbrev kept-claim : ℕ → PlainClaim → Result PlainClaim Refusal
kept-claim n claim = refuse_if Claim n (not (is_of_bounds claim)) >>= λ bounds. Ok claim

bounds-claim-found : (n : ℕ) (text : List ℕ) (c : PlainClaim) → bounds_claim_at n text ≡ Ok c → (text ≡ claim_text c) × IsBoundsClaim c
unfolding bounds_claim_at
bounds-claim-found n text c e =
    let one = bind_ok (claim_at n text) (kept-claim n) c e in
    let two = bind_ok (refuse_if Claim n (not (is_of_bounds one.0))) (λ bounds. Ok one.0) c one.2 in
    let f = claim-found n text one.0 one.1 in
    subst (λ (d : PlainClaim). (text ≡ claim_text d) × IsBoundsClaim d) (ok-is one.0 c two.2) (
      f.0,
      record { right = f.1; bounds = not-false _ (refuse_ok _ Claim n two.0 two.1) },
    )

bounds-claim-again : (n : ℕ) (c : PlainClaim) → IsBoundsClaim c → bounds_claim_at n (claim_text c) ≡ Ok c
unfolding bounds_claim_at
bounds-claim-again n c h = rw (claim-again n c h.right, h.bounds) refl

-- ---- the initial state

allowed-may : (claim : PlainClaim) (v : Option ℚ) → IsAllowed (may_be_infinite claim) v → may_be claim v ≡ true
allowed-may claim None h = h
allowed-may claim (Some x) h = refl

may-allowed : (claim : PlainClaim) (v : Option ℚ) → may_be claim v ≡ true → IsAllowed (may_be_infinite claim) v
may-allowed claim None h = h
may-allowed claim (Some x) h = tt

value-found : (infinite : Bool) (n : ℕ) (w : List ℕ) (v : Option ℚ) → init_value_at infinite n w ≡ Ok v → (w ≡ reward_text v) × IsValueNarrow v × IsAllowed infinite v
value-found infinite n w v e = parse-found infinite w v (found_ok (init_parse infinite w) Number n v e)

abbrev init-inside : ℕ → ℕ → ℕ → Option ℚ → Option ℚ → Result BoundsInit Refusal
init-inside states n state low high = refuse_if Count n (not (ltb state states)) >>= λ inside. Ok (Between state low high)

abbrev init-upper : Bool → ℕ → ℕ → List (List ℕ) → ℕ → Option ℚ → Result BoundsInit Refusal
init-upper infinite states n behind state low = init_value_at infinite n (first_of (drop 1 (drop 1 behind))) >>= init-inside states n state low

abbrev init-lower : Bool → ℕ → ℕ → List (List ℕ) → ℕ → Result BoundsInit Refusal
init-lower infinite states n behind state = init_value_at infinite n (first_of (drop 1 behind)) >>= init-upper infinite states n behind state

abbrev init-state : Bool → ℕ → ℕ → List (List ℕ) → Result BoundsInit Refusal
init-state infinite states n behind = whole_at n (first_of behind) >>= init-lower infinite states n behind

pub record IsInit (claim : PlainClaim) (states : ℕ) (init : BoundsInit) : Type 0 where
  pub inside : is_init_of claim states init ≡ true
  pub width : IsInitInWidth init

between-is : (claim : PlainClaim) (states state : ℕ) (low high : Option ℚ) → ltb state states ≡ true → may_be claim low ≡ true → may_be claim high ≡ true
    → IsValueNarrow low → IsValueNarrow high → IsInit claim states (Between state low high)
between-is claim states state low high lt p q l u = record { inside = rw (lt, p, q) refl; width = (l, u) }

between-found : (claim : PlainClaim) (states n : ℕ) (text : List ℕ) (init : BoundsInit) → between_at (may_be_infinite claim) states n text ≡ Ok init
    → (text ≡ init_text init) × IsInit claim states init
unfolding between_at
between-found claim states n text init e =
    let infinite = may_be_infinite claim in
    let one = bind_ok (words_behind (codes "init") 3 n text) (init-state infinite states n) init e in
    let two = bind_ok (whole_at n (first_of one.0)) (init-lower infinite states n one.0) init one.2 in
    let three = bind_ok (init_value_at infinite n (first_of (drop 1 one.0))) (init-upper infinite states n one.0 two.0) init two.2 in
    let four = bind_ok (init_value_at infinite n (first_of (drop 1 (drop 1 one.0)))) (init-inside states n two.0 three.0) init three.2 in
    let five = bind_ok (refuse_if Count n (not (ltb two.0 states))) (λ inside. Ok (Between two.0 three.0 four.0)) init four.2 in
    let inside : ltb two.0 states ≡ true = not-false _ (refuse_ok _ Count n five.0 five.1) in
    let word = whole-found n (first_of one.0) two.0 two.1 in
    let least = value-found infinite n (first_of (drop 1 one.0)) three.0 three.1 in
    let most = value-found infinite n (first_of (drop 1 (drop 1 one.0))) four.0 four.1 in
    let t = behind-text (codes "init") 3 n text one.0 one.1 in
    subst (λ (i : BoundsInit). (text ≡ init_text i) × IsInit claim states i) (ok-is _ init five.2) (
      t.0 ∙ ap (λ (ws : List (List ℕ)). join_with_byte 32 (codes "init" ∷ ws)) (three-words one.0 t.1) ∙ spelled _ _ _ _ _ _ word.0 least.0 most.0,
      between-is claim states two.0 three.0 four.0 inside (allowed-may claim three.0 least.2) (allowed-may claim four.0 most.2) least.1 most.1,
    )
  where
    spelled : (a b c a' b' c' : List ℕ) → a ≡ a' → b ≡ b' → c ≡ c' → codes "init" ␣ a ␣ b ␣ c ≡ codes "init" ␣ a' ␣ b' ␣ c'
    spelled a b c a' b' c' p q r = rw (p, q, r) refl

init-found : (claim : PlainClaim) (states n : ℕ) (text : List ℕ) (init : BoundsInit) → init_at (may_be_infinite claim) states n text ≡ Ok init
    → (text ≡ init_text init) × IsInit claim states init
unfolding init_at
init-found claim states n text init e = by (bytes_eq text (codes "init -")) refl e
  where
    by : (b : Bool) → bytes_eq text (codes "init -") ≡ b → cond b (Ok Missing) (between_at (may_be_infinite claim) states n text) ≡ Ok init
        → (text ≡ init_text init) × IsInit claim states init
    by true t e =
        let is : Missing ≡ init = cc in
        subst (λ (i : BoundsInit). (text ≡ init_text i) × IsInit claim states i) is (bytes_same text (codes "init -") t, record { inside = refl; width = tt })
    by false t e = between-found claim states n text init e

record InParts (claim : PlainClaim) (states state : ℕ) (low high : Option ℚ) : Type 0 where
  below : state < states
  may_low : may_be claim low ≡ true
  may_high : may_be claim high ≡ true

in-parts : (claim : PlainClaim) (states state : ℕ) (low high : Option ℚ) → is_init_of claim states (Between state low high) ≡ true → InParts claim states state low high
in-parts claim states state low high h =
    let p = and_parts (ltb state states && may_be claim low) (may_be claim high) h in
    let q = and_parts (ltb state states) (may_be claim low) p.0 in
    let r : ltb state states ≡ true = q.0 in
    record { below = grind (arith, nat_tests); may_low = q.1; may_high = p.1 }

between-again : (infinite : Bool) (states n state : ℕ) (low high : Option ℚ) → state < states → states ≤ 2 ^ 20 → IsValueNarrow low → IsValueNarrow high
    → IsAllowed infinite low → IsAllowed infinite high → between_at infinite states n (init_text (Between state low high)) ≡ Ok (Between state low high)
unfolding between_at
between-again infinite states n state low high lt limit l u p q =
    let small : state < 2 ^ 32 = omega arith in
    let inside : ltb state states ≡ true = grind (arith, nat_tests) in
    let ws : words_behind (codes "init") 3 n (init_text (Between state low high)) ≡ Ok (decimal state ∷ reward_text low ∷ reward_text high ∷ []) =
    behind-again (codes "init") 3 n (decimal state ∷ reward_text low ∷ reward_text high ∷ []) refl refl
    (free-whole 32 state (omega arith) small, (free-reward 32 low (omega arith) l, (free-reward 32 high (omega arith) u, tt))) in
    rw (ws, whole-again n state small, parse-again infinite low l p, parse-again infinite high u q, inside) refl

init-again : (claim : PlainClaim) (states n : ℕ) (init : BoundsInit) → states ≤ 2 ^ 20 → IsInit claim states init → init_at (may_be_infinite claim) states n (init_text init) ≡ Ok init
unfolding init_at
init-again claim states n Missing limit h = refl
init-again claim states n (Between state low high) limit h =
    let p = in-parts claim states state low high h.inside in
    let lt : state < states = p.below in
    rw (
      given-other state (reward_text low ␣ reward_text high) (omega arith),
      between-again (may_be_infinite claim) states n state low high lt limit h.width.0 h.width.1 (may-allowed claim low p.may_low) (may-allowed claim high p.may_high),
    ) refl

free-init : (claim : PlainClaim) (states : ℕ) (init : BoundsInit) → states ≤ 2 ^ 20 → IsInit claim states init → Free 10 (init_text init)
free-init claim states Missing limit h = refl
free-init claim states (Between state low high) limit h =
    let p = in-parts claim states state low high h.inside in
    let lt : state < states = p.below in
    free-join 10 (codes "init" ∷ decimal state ∷ reward_text low ∷ reward_text high ∷ []) refl
    (refl, (free-whole 10 state (omega arith) (omega arith), (free-reward 10 low (omega arith) h.width.0, (free-reward 10 high (omega arith) h.width.1, tt))))

-- ---- the three lines

abbrev form-of-init : PlainClaim → ℕ → ℕ → List ℕ → Result BoundsInit Refusal
form-of-init claim = init_at (may_be_infinite claim)

abbrev pub IsHead : BoundsHead → Type 0
IsHead = heads.IsHead bounds_claim_at form-of-init claim_text init_text IsBoundsClaim IsInit

abbrev pub lines-of-head : BoundsHead → List ℕ
lines-of-head = heads.lines-of-head bounds_claim_at form-of-init claim_text init_text IsBoundsClaim IsInit

forms : heads.AreForms bounds_claim_at form-of-init claim_text init_text IsBoundsClaim IsInit
forms = record {
  claim_found = bounds-claim-found;
  claim_again = bounds-claim-again;
  claim_free = λ c h. free-claim c h.right;
  init_found = init-found;
  init_again = init-again;
  init_free = free-init;
}

pub head-found : (p : Place) (h : BoundsHead) (q : Place) → head_from p ≡ Ok (h, q) → heads.FoundHead bounds_claim_at form-of-init claim_text init_text IsBoundsClaim IsInit p h q
unfolding head_from
head-found p h q e = heads.head-found bounds_claim_at form-of-init claim_text init_text IsBoundsClaim IsInit forms p h q e

pub head-again : (n : ℕ) (h : BoundsHead) (rest : List ℕ) → IsHead h → head_from (place n (lines-of-head h ++ rest)) ≡ Ok (h, place (n + 1 + 1 + 1) rest)
unfolding head_from
head-again n h rest is = heads.head-again bounds_claim_at form-of-init claim_text init_text IsBoundsClaim IsInit forms n h rest is
