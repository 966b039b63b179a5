-- The lines of the version and of the initial state are read exactly where they are their texts.
use Rattle.std.proofs.Common.{◌≡◌, ℕ, ◌<◌, ◌≤◌, ◌^◌, Bool, true, false, not, cond, eqb, ltb, ◌||◌, List, [], ◌∷◌, length, drop, decimal}
use Rattle.std.proofs.{Common.{Option, Some, None, Result, Ok, Err, refl, ap, ap₂, subst, ◌∙◌, arith}, lemmas.Bool.{not-false, and_parts}}
use Rattle.std.proofs.lemmas.Bool.Decides.{nat_tests}
use Rattle.std.specs.{Prelude.{codes}, List.{join_with_byte}, Option.{option_map}, Str.{bytes_eq}}
use Rattle.mdp_math.specs.Rational.{ℚ}
use Rattle.mdp_num.specs.Canonical.{canonical_of}
use Rattle.mdp_num.proofs.Spellings.{sound, complete}
use Rattle.mdp_text.specs.{declared.error.CertKind.TheVariants.{Version, Number, Count}, declared.error.Refusal.{Refusal}, declared.init.Init.{Init}}
use Rattle.mdp_text.specs.declared.init.Init.TheVariants.{Missing, Finite, Infinite, Start}
use Rattle.mdp_text.specs.{Heads.{IsInitInWidth, init_parse, init_of, given_at, valued_at, start_at}, Lines.{◌>>=◌, refuse_if, or_refused}}
use Rattle.mdp_text.specs.{Words.{first_of, words_behind, whole_at}, Spelling.{◌␣◌, init_text}}
use Rattle.mdp_cert.specs.declared.version.Version as version
use Rattle.mdp_cert.specs.declared.version.Version.TheVariants.{One, Two}
use Rattle.mdp_cert.specs.{Cert.{PlainClaim, upper, reach, until, reward, mean, witness, may_be_infinite, is_witness, is_init_of, IsValueNarrow}, Claims.{reward_text}}
use Rattle.mdp_cert.specs.{Spelling.{version_text}, Reading.{version_at, init_at}}
use Rattle.mdp_text.proofs.{Pieces.{Free, decimal-some}, Cuts.{bytes_same}, Feeds.{bind_ok, ok-is, refuse_ok, found_ok, whole-found, whole-again}}
use Rattle.mdp_text.proofs.{States.{one-word, two-words}, Joined.{free-join, free-whole, behind-again, behind-text}}
use Rattle.mdp_cert.proofs.Columns.{reward-found, reward-again, free-reward}

-- ---- the version

pub version-found : (n : ℕ) (text : List ℕ) (v : version.Version) → version_at n text ≡ Ok v → text ≡ version_text v
unfolding version_at
version-found n text v e = by (bytes_eq text (version_text One)) refl (bytes_eq text (version_text Two)) refl e
  where
    by : (b : Bool) → bytes_eq text (version_text One) ≡ b → (c : Bool) → bytes_eq text (version_text Two) ≡ c
        → (let r : Result version.Version Refusal = cond b (Ok One) (cond c (Ok Two) (Err (record { kind = Version; line = n }))) in r) ≡ Ok v → text ≡ version_text v
    by true t c u e = let is : One ≡ v = cc in bytes_same text (version_text One) t ∙ ap version_text is
    by false t true u e = let is : Two ≡ v = cc in bytes_same text (version_text Two) u ∙ ap version_text is
    by false t false u e = absurd cc

pub version-again : (n : ℕ) (v : version.Version) → version_at n (version_text v) ≡ Ok v
unfolding version_at
version-again n One = refl
version-again n Two = refl

pub free-version : (v : version.Version) → Free 10 (version_text v)
free-version One = refl
free-version Two = refl

-- ---- the initial state

abbrev pub init-inside : ℕ → ℕ → ℕ → Option ℚ → Result Init Refusal
init-inside states n state value = refuse_if Count n (not (ltb state states)) >>= λ inside. Ok (init_of state value)

abbrev pub init-value : Bool → ℕ → ℕ → List (List ℕ) → ℕ → Result Init Refusal
init-value infinite states n behind state = or_refused Number n (init_parse infinite (first_of (drop 1 behind))) >>= init-inside states n state

abbrev pub init-state : Bool → ℕ → ℕ → List (List ℕ) → Result Init Refusal
init-state infinite states n behind = whole_at n (first_of behind) >>= init-value infinite states n behind

-- an infinite value stands only where there are some
abbrev pub IsAllowed : Bool → Option ℚ → Type 0
IsAllowed infinite None = infinite ≡ true
IsAllowed infinite (Some x) = Unit {0}

pub parse-found : (infinite : Bool) (w : List ℕ) (v : Option ℚ) → init_parse infinite w ≡ Some v → (w ≡ reward_text v) × IsValueNarrow v × IsAllowed infinite v
parse-found true w v e = let f = reward-found w v e in (f.0, f.1, allowed v)
  where
    allowed : (x : Option ℚ) → IsAllowed true x
    allowed None = refl
    allowed (Some x) = tt
parse-found false w v e = by (canonical_of w) refl e
  where
    by : (o : Option ℚ) → canonical_of w ≡ o → option_map Some o ≡ Some v → (w ≡ reward_text v) × IsValueNarrow v × IsAllowed false v
    by None f e = absurd cc
    by (Some x) f e =
        let is : Some x ≡ v = cc in
        let s = sound w x f in
        subst (λ (y : Option ℚ). (w ≡ reward_text y) × IsValueNarrow y × IsAllowed false y) is (s.0, s.1, tt)

pub parse-again : (infinite : Bool) (v : Option ℚ) → IsValueNarrow v → IsAllowed infinite v → init_parse infinite (reward_text v) ≡ Some v
parse-again true v h allowed = reward-again v h
parse-again false None h allowed = absurd cc
parse-again false (Some x) h allowed = ap (option_map Some) (complete x h)

-- ---- a state and its value

init-text : (state : ℕ) (v : Option ℚ) → codes "init" ␣ decimal state ␣ reward_text v ≡ init_text (init_of state v)
init-text state None = refl
init-text state (Some x) = refl

init-inside_of : (claim : PlainClaim) (states state : ℕ) (v : Option ℚ) → is_witness claim ≡ false → IsAllowed (may_be_infinite claim) v → ltb state states ≡ true
    → is_init_of claim states (init_of state v) ≡ true
init-inside_of claim states state None form allowed lt = rw (allowed, lt) refl
init-inside_of claim states state (Some x) form allowed lt = rw (form, lt) refl

init-narrow : (state : ℕ) (v : Option ℚ) → IsValueNarrow v → IsInitInWidth (init_of state v)
init-narrow state None h = tt
init-narrow state (Some x) h = h

given-found : (claim : PlainClaim) (states n : ℕ) (text : List ℕ) (init : Init) → is_witness claim ≡ false → given_at (may_be_infinite claim) states n text ≡ Ok init
    → (text ≡ init_text init) × (is_init_of claim states init ≡ true) × IsInitInWidth init
unfolding given_at
given-found claim states n text init form e =
    let infinite = may_be_infinite claim in
    let one = bind_ok (words_behind (codes "init") 2 n text) (init-state infinite states n) init e in
    let two = bind_ok (whole_at n (first_of one.0)) (init-value infinite states n one.0) init one.2 in
    let three = bind_ok (or_refused Number n (init_parse infinite (first_of (drop 1 one.0)))) (init-inside states n two.0) init two.2 in
    let four = bind_ok (refuse_if Count n (not (ltb two.0 states))) (λ inside. Ok (init_of two.0 three.0)) init three.2 in
    let is : init_of two.0 three.0 ≡ init = ok-is _ _ four.2 in
    let inside : ltb two.0 states ≡ true = not-false _ (refuse_ok _ Count n four.0 four.1) in
    let word = whole-found n (first_of one.0) two.0 two.1 in
    let value = parse-found infinite (first_of (drop 1 one.0)) three.0 (found_ok (init_parse infinite (first_of (drop 1 one.0))) Number n three.0 three.1) in
    let t = behind-text (codes "init") 2 n text one.0 one.1 in
    subst (λ (i : Init). (text ≡ init_text i) × (is_init_of claim states i ≡ true) × IsInitInWidth i) is (
      t.0
          ∙ ap (λ (ws : List (List ℕ)). join_with_byte 32 (codes "init" ∷ ws)) (two-words one.0 t.1)
          ∙ ap₂ (λ (v w : List ℕ). codes "init" ␣ v ␣ w) word.0 value.0
          ∙ init-text two.0 three.0,
      init-inside_of claim states two.0 three.0 form value.2 inside,
      init-narrow two.0 three.0 value.1,
    )

given-again : (infinite : Bool) (states n state : ℕ) (v : Option ℚ) → ltb state states ≡ true → states ≤ 2 ^ 20 → IsValueNarrow v → IsAllowed infinite v
    → given_at infinite states n (codes "init" ␣ decimal state ␣ reward_text v) ≡ Ok (init_of state v)
unfolding given_at
given-again infinite states n state v inside limit narrow allowed =
    let lt : state < states = grind (arith, nat_tests) in
    let small : state < 2 ^ 32 = omega arith in
    let ws : words_behind (codes "init") 2 n (codes "init" ␣ decimal state ␣ reward_text v) ≡ Ok (decimal state ∷ reward_text v ∷ []) =
    behind-again (codes "init") 2 n (decimal state ∷ reward_text v ∷ []) refl refl (free-whole 32 state (omega arith) small, (free-reward 32 v (omega arith) narrow, tt)) in
    rw (ws, whole-again n state small, parse-again infinite v narrow allowed, inside) refl

-- it isn't `init -`
pub given-other : (state : ℕ) (rest : List ℕ) → state < 2 ^ 32 → bytes_eq (codes "init" ␣ decimal state ␣ rest) (codes "init -") ≡ false
given-other state rest small = other (decimal state) (free-whole 45 state (omega arith) small) (decimal-some state small)
  where
    other : (ds : List ℕ) → Free 45 ds → 0 < length ds → bytes_eq (codes "init" ␣ ds ␣ rest) (codes "init -") ≡ false
    other [] free some = absurd (omega arith)
    other (d ∷ ds) free some = rw (or-first (eqb d 45) _ free) refl
      where
        or-first : (a b : Bool) → (a || b) ≡ false → a ≡ false
        or-first false b e = refl
        or-first true b e = absurd cc

valued-given : (infinite : Bool) (states n state : ℕ) (v : Option ℚ) → ltb state states ≡ true → states ≤ 2 ^ 20 → IsValueNarrow v → IsAllowed infinite v
    → valued_at infinite states n (codes "init" ␣ decimal state ␣ reward_text v) ≡ Ok (init_of state v)
unfolding valued_at
valued-given infinite states n state v inside limit narrow allowed =
    let lt : state < states = grind (arith, nat_tests) in
    rw (given-other state (reward_text v) (omega arith), given-again infinite states n state v inside limit narrow allowed) refl

-- ---- a state alone

abbrev pub start-inside : ℕ → ℕ → ℕ → Result Init Refusal
start-inside states n state = refuse_if Count n (not (ltb state states)) >>= λ inside. Ok (Start state)

abbrev pub start-state : ℕ → ℕ → List (List ℕ) → Result Init Refusal
start-state states n behind = whole_at n (first_of behind) >>= start-inside states n

start-found : (claim : PlainClaim) (states n : ℕ) (text : List ℕ) (init : Init) → is_witness claim ≡ true → start_at states n text ≡ Ok init
    → (text ≡ init_text init) × (is_init_of claim states init ≡ true) × IsInitInWidth init
unfolding start_at
start-found claim states n text init form e =
    let one = bind_ok (words_behind (codes "init") 1 n text) (start-state states n) init e in
    let two = bind_ok (whole_at n (first_of one.0)) (start-inside states n) init one.2 in
    let three = bind_ok (refuse_if Count n (not (ltb two.0 states))) (λ inside. Ok (Start two.0)) init two.2 in
    let inside : ltb two.0 states ≡ true = not-false _ (refuse_ok _ Count n three.0 three.1) in
    let word = whole-found n (first_of one.0) two.0 two.1 in
    let t = behind-text (codes "init") 1 n text one.0 one.1 in
    subst (λ (i : Init). (text ≡ init_text i) × (is_init_of claim states i ≡ true) × IsInitInWidth i) (ok-is _ init three.2) (
      t.0 ∙ ap (λ (ws : List (List ℕ)). join_with_byte 32 (codes "init" ∷ ws)) (one-word one.0 t.1) ∙ ap (λ (w : List ℕ). codes "init" ␣ w) word.0,
      rw (form, inside) refl,
      tt,
    )

start-again : (states n state : ℕ) → ltb state states ≡ true → states ≤ 2 ^ 20 → start_at states n (init_text (Start state)) ≡ Ok (Start state)
unfolding start_at
start-again states n state inside limit =
    let lt : state < states = grind (arith, nat_tests) in
    let small : state < 2 ^ 32 = omega arith in
    let ws : words_behind (codes "init") 1 n (init_text (Start state)) ≡ Ok (decimal state ∷ []) =
    behind-again (codes "init") 1 n (decimal state ∷ []) refl refl (free-whole 32 state (omega arith) small, tt) in
    rw (ws, whole-again n state small, inside) refl

-- ---- the form of each claim

valued-found : (claim : PlainClaim) (states n : ℕ) (text : List ℕ) (init : Init) → is_witness claim ≡ false → valued_at (may_be_infinite claim) states n text ≡ Ok init
    → (text ≡ init_text init) × (is_init_of claim states init ≡ true) × IsInitInWidth init
unfolding valued_at
valued-found claim states n text init form e = by (bytes_eq text (codes "init -")) refl e
  where
    by : (b : Bool) → bytes_eq text (codes "init -") ≡ b → cond b (Ok Missing) (given_at (may_be_infinite claim) states n text) ≡ Ok init
        → (text ≡ init_text init) × (is_init_of claim states init ≡ true) × IsInitInWidth init
    by true t e =
        let is : Missing ≡ init = cc in
        subst (λ (i : Init). (text ≡ init_text i) × (is_init_of claim states i ≡ true) × IsInitInWidth i) is (bytes_same text (codes "init -") t, ap not form, tt)
    by false t e = given-found claim states n text init form e

pub init-found : (claim : PlainClaim) (states n : ℕ) (text : List ℕ) (init : Init) → init_at claim states n text ≡ Ok init
    → (text ≡ init_text init) × (is_init_of claim states init ≡ true) × IsInitInWidth init
init-found claim states n text init e = by (is_witness claim) refl e
  where
    by : (b : Bool) → is_witness claim ≡ b → cond b (start_at states n text) (valued_at (may_be_infinite claim) states n text) ≡ Ok init
        → (text ≡ init_text init) × (is_init_of claim states init ≡ true) × IsInitInWidth init
    by true form e = start-found claim states n text init form e
    by false form e = valued-found claim states n text init form e

not-witness : (b : Bool) → not b ≡ true → b ≡ false
not-witness false e = refl
not-witness true e = absurd cc

-- no claim of a subsystem has infinite values
infinite-form : (claim : PlainClaim) → may_be_infinite claim ≡ true → is_witness claim ≡ false
infinite-form (upper label) e = refl
infinite-form (reach dir label) e = refl
infinite-form (until dir stay label) e = refl
infinite-form (reward dir name label) e = refl
infinite-form (mean dir name) e = refl
infinite-form (witness dir stay label threshold) e = absurd cc

pub init-again : (claim : PlainClaim) (states n : ℕ) (init : Init) → is_init_of claim states init ≡ true → states ≤ 2 ^ 20 → IsInitInWidth init → init_at claim states n (init_text init) ≡ Ok init
unfolding valued_at
init-again claim states n Missing inside limit narrow = rw (not-witness (is_witness claim) inside) refl
init-again claim states n (Finite state value) inside limit narrow =
    let p = and_parts (not (is_witness claim)) (ltb state states) inside in
    rw (not-witness (is_witness claim) p.0) (valued-given (may_be_infinite claim) states n state (Some value) p.1 limit narrow tt)
init-again claim states n (Infinite state) inside limit narrow =
    let p = and_parts (may_be_infinite claim) (ltb state states) inside in
    rw (infinite-form claim p.0) (valued-given (may_be_infinite claim) states n state None p.1 limit tt p.0)
init-again claim states n (Start state) inside limit narrow =
    let p = and_parts (is_witness claim) (ltb state states) inside in rw (p.0) (start-again states n state p.1 limit)

free-given : (state : ℕ) (v : Option ℚ) → state < 2 ^ 32 → IsValueNarrow v → Free 10 (codes "init" ␣ decimal state ␣ reward_text v)
free-given state v small narrow =
    free-join 10 (codes "init" ∷ decimal state ∷ reward_text v ∷ []) refl (refl, (free-whole 10 state (omega arith) small, (free-reward 10 v (omega arith) narrow, tt)))

pub free-init : (claim : PlainClaim) (states : ℕ) (init : Init) → is_init_of claim states init ≡ true → states ≤ 2 ^ 20 → IsInitInWidth init → Free 10 (init_text init)
free-init claim states Missing inside limit narrow = refl
free-init claim states (Finite state value) inside limit narrow =
    let p = and_parts (not (is_witness claim)) (ltb state states) inside in
    let lt : state < states = (let q = p.1 in grind (arith, nat_tests)) in
    free-given state (Some value) (omega arith) narrow
free-init claim states (Start state) inside limit narrow =
    let p = and_parts (is_witness claim) (ltb state states) inside in
    let lt : state < states = (let q = p.1 in grind (arith, nat_tests)) in
    free-join 10 (codes "init" ∷ decimal state ∷ []) refl (refl, (free-whole 10 state (omega arith) (omega arith), tt))
free-init claim states (Infinite state) inside limit narrow =
    let p = and_parts (may_be_infinite claim) (ltb state states) inside in
    let lt : state < states = (let q = p.1 in grind (arith, nat_tests)) in
    free-given state None (omega arith) tt
