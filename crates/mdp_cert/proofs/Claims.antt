-- The line of the claim is read exactly where it is its text.
use Rattle.std.proofs.Common.{◌≡◌, inl, inr, ℕ, ◌-◌, Bool, true, false, cond, ◌&&◌, List, [], ◌∷◌, ◌++◌, length, take, drop, Option, Some, None, Ok}
use Rattle.std.proofs.{Common.{refl, sym, ap, ap₂, subst, ◌∙◌, append_assoc, arith}, lemmas.Bool.{and_parts}, lemmas.List.{take-append-drop, length-append}}
use Rattle.std.proofs.Math.Seq.{take-append_seam, drop-append_seam}
use Rattle.std.specs.{Prelude.{codes}, List.{position_or_len, before_first}, Option.{option_and_then, option_map, option_or}, Str.{bytes_eq}}
use Rattle.mdp_rows.specs.{Name.{is_name}, declared.dir.Dir.{Dir}, declared.dir.Dir.TheVariants.{Max, Min}}
use Rattle.mdp_text.specs.{declared.error.CertKind.TheVariants.{Claim}, Lines.{or_refused}, Words.{behind, is_quote, name_and_rest}}
use Rattle.mdp_math.specs.Rational.{ℚ}
use Rattle.mdp_num.specs.{Value.{spelling, IsNarrow}, Canonical.{canonical_of}}
use Rattle.mdp_num.proofs.Spellings.{sound, complete}
use Rattle.mdp_cert.specs.Cert.{PlainClaim, upper, reach, until, reward, mean, witness, are_names, is_at_least_zero, has_threshold, IsClaimInWidth}
use Rattle.mdp_cert.specs.{Spelling.{claim_text}, Reading.{closed_name, name_behind, two_names, upper_claim, reach_front}}
use Rattle.mdp_cert.specs.Reading.{reach_claim, until_front, until_claim, reward_front, reward_claim, mean_front, mean_claim, threshold_of, name_and_threshold, witness_front, witness_claim, claim_to, claim_of, claim_at}
use Rattle.mdp_cert.specs.Reading.{names_and_threshold, witness_until_front, witness_until_claim, subsystem_claim}
use Rattle.mdp_text.proofs.{Pieces.{Free, free-append, free-name, quote-free-name, free-spelling}, Cuts.{bytes_same}, Feeds.{found_ok, or-found, byte-after}}
use Rattle.mdp_text.proofs.Behind.{behind-found, behind-again, rest-found, rest-again}

closed-found : (text name : List ℕ) → closed_name text ≡ Some name → (text ≡ name ++ 34 ∷ []) × (is_name name ≡ true)
closed-found text name e = by (bytes_eq (drop (length text - 1) text) (34 ∷ []) && is_name (take (length text - 1) text)) refl e
  where
    by : (b : Bool) → (bytes_eq (drop (length text - 1) text) (34 ∷ []) && is_name (take (length text - 1) text)) ≡ b
        → cond b (Some (take (length text - 1) text)) None ≡ Some name → (text ≡ name ++ 34 ∷ []) × (is_name name ≡ true)
    by true t e =
        let front : take (length text - 1) text ≡ name = cc in
        let p = and_parts _ _ t in
        (sym (take-append-drop (length text - 1) text) ∙ ap₂ (λ (xs ys : List ℕ). xs ++ ys) front (bytes_same _ (34 ∷ []) p.0), sym (ap is_name front) ∙ p.1)
    by false t e = absurd cc

closed-again : (name : List ℕ) → is_name name ≡ true → closed_name (name ++ 34 ∷ []) ≡ Some name
closed-again name h =
    let n : length (name ++ 34 ∷ []) - 1 ≡ length name = omega (arith, length-append name (34 ∷ [])) in
    rw (n, take-append_seam name (34 ∷ []), drop-append_seam name (34 ∷ []), h) refl

name-found : (front text name : List ℕ) → name_behind front text ≡ Some name → (text ≡ front ++ (name ++ 34 ∷ [])) × (is_name name ≡ true)
name-found front text name e = by (behind front text) refl e
  where
    by : (o : Option (List ℕ)) → behind front text ≡ o → option_and_then closed_name o ≡ Some name → (text ≡ front ++ (name ++ 34 ∷ [])) × (is_name name ≡ true)
    by None b e = absurd cc
    by (Some rest) b e = let c = closed-found rest name e in (behind-found front text rest b ∙ ap (λ (xs : List ℕ). front ++ xs) c.0, c.1)

name-again : (front name : List ℕ) → is_name name ≡ true → name_behind front (front ++ (name ++ 34 ∷ [])) ≡ Some name
name-again front name h = ap (option_and_then closed_name) (behind-again front (name ++ 34 ∷ [])) ∙ closed-again name h

-- ---- two names

map-some : {A B : Type 0} (f : A → B) (o : Option A) (y : B) → option_map f o ≡ Some y → (x : A) × (o ≡ Some x) × (f x ≡ y)
map-some f None y e = absurd cc
map-some f (Some x) y e = (x, refl, cc)

-- two names, where the text is cut at the first quote
two-of : (text first rest : List ℕ) → text ≡ first ++ rest → (names : List ℕ × List ℕ)
    → cond (is_name first) (option_map (λ label. (first, label)) (name_behind (codes "\" \"") rest)) None ≡ Some names
    → (text ≡ names.0 ++ (34 ∷ 32 ∷ 34 ∷ (names.1 ++ 34 ∷ []))) × (is_name names.0 ≡ true) × (is_name names.1 ≡ true)
two-of text first rest split names e = by (is_name first) refl e
  where
    by : (b : Bool) → is_name first ≡ b → cond b (option_map (λ label. (first, label)) (name_behind (codes "\" \"") rest)) None ≡ Some names
        → (text ≡ names.0 ++ (34 ∷ 32 ∷ 34 ∷ (names.1 ++ 34 ∷ []))) × (is_name names.0 ≡ true) × (is_name names.1 ≡ true)
    by false t e = absurd cc
    by true t e =
        let m = map-some (λ (label : List ℕ). let p : List ℕ × List ℕ = (first, label) in p) (name_behind (codes "\" \"") rest) names e in
        let g = name-found (codes "\" \"") rest m.0 m.1 in
        subst (λ (p : List ℕ × List ℕ). (text ≡ p.0 ++ (34 ∷ 32 ∷ 34 ∷ (p.1 ++ 34 ∷ []))) × (is_name p.0 ≡ true) × (is_name p.1 ≡ true)) m.2
        (split ∙ ap (λ (ys : List ℕ). first ++ ys) g.0, t, g.1)

two-found : (text : List ℕ) (names : List ℕ × List ℕ) → two_names text ≡ Some names
    → (text ≡ names.0 ++ (34 ∷ 32 ∷ 34 ∷ (names.1 ++ 34 ∷ []))) × (is_name names.0 ≡ true) × (is_name names.1 ≡ true)
two-found text names e =
    let end = position_or_len is_quote text in
    two-of text (before_first is_quote text) (drop end text) (sym (take-append-drop end text)) names e

two-again : (name label : List ℕ) → is_name name ≡ true → is_name label ≡ true → two_names (name ++ (34 ∷ 32 ∷ 34 ∷ (label ++ 34 ∷ []))) ≡ Some (name, label)
two-again name label h g =
    let at : position_or_len is_quote (name ++ (34 ∷ 32 ∷ 34 ∷ (label ++ 34 ∷ []))) ≡ length name = byte-after 34 name (32 ∷ 34 ∷ (label ++ 34 ∷ [])) (quote-free-name name h) in
    rw (at, take-append_seam name (34 ∷ 32 ∷ 34 ∷ (label ++ 34 ∷ [])), drop-append_seam name (34 ∷ 32 ∷ 34 ∷ (label ++ 34 ∷ [])), h, name-again (codes "\" \"") label g) refl

-- ---- a name and a threshold

threshold-found : (word : List ℕ) (t : ℚ) → threshold_of word ≡ Some t → (word ≡ spelling t) × (is_at_least_zero t ≡ true) × IsNarrow t
threshold-found word t e = by (canonical_of word) refl e
  where
    by : (o : Option ℚ) → canonical_of word ≡ o → (let from : ℚ → Option ℚ = λ x. cond (is_at_least_zero x) (Some x) None in option_and_then from o) ≡ Some t
        → (word ≡ spelling t) × (is_at_least_zero t ≡ true) × IsNarrow t
    by None f e = absurd cc
    by (Some x) f e = at (is_at_least_zero x) refl e
      where
        at : (b : Bool) → is_at_least_zero x ≡ b → cond b (Some x) None ≡ Some t → (word ≡ spelling t) × (is_at_least_zero t ≡ true) × IsNarrow t
        at true z e =
            let is : x ≡ t = cc in
            let s = sound word x f in
            subst (λ (y : ℚ). (word ≡ spelling y) × (is_at_least_zero y ≡ true) × IsNarrow y) is (s.0, z, s.1)
        at false z e = absurd cc

said-found : (text : List ℕ) (said : List ℕ × ℚ) → name_and_threshold text ≡ Some said
    → (text ≡ said.0 ++ (34 ∷ 32 ∷ spelling said.1)) × (is_name said.0 ≡ true) × (is_at_least_zero said.1 ≡ true) × IsNarrow said.1
said-found text said e = by (name_and_rest text) refl e
  where
    by : (o : Option (List ℕ × List ℕ)) → name_and_rest text ≡ o → option_and_then (λ p. option_map (λ t. (p.0, t)) (threshold_of p.1)) o ≡ Some said
        → (text ≡ said.0 ++ (34 ∷ 32 ∷ spelling said.1)) × (is_name said.0 ≡ true) × (is_at_least_zero said.1 ≡ true) × IsNarrow said.1
    by None f e = absurd cc
    by (Some p) f e =
        let m = map-some (λ (t : ℚ). let q : List ℕ × ℚ = (p.0, t) in q) (threshold_of p.1) said e in
        let g = rest-found text p f in
        let t = threshold-found p.1 m.0 m.1 in
        subst (λ (q : List ℕ × ℚ). (text ≡ q.0 ++ (34 ∷ 32 ∷ spelling q.1)) × (is_name q.0 ≡ true) × (is_at_least_zero q.1 ≡ true) × IsNarrow q.1) m.2
        (g.0 ∙ ap (λ (w : List ℕ). p.0 ++ (34 ∷ 32 ∷ w)) t.0, g.1, t.1, t.2)

said-again : (name : List ℕ) (t : ℚ) → is_name name ≡ true → is_at_least_zero t ≡ true → IsNarrow t → name_and_threshold (name ++ (34 ∷ 32 ∷ spelling t)) ≡ Some (name, t)
said-again name t h z narrow =
    let read : threshold_of (spelling t) ≡ Some t = rw (complete t narrow, z) refl in
    ap (option_and_then (λ p. option_map (λ u. let q : List ℕ × ℚ = (p.0, u) in q) (threshold_of p.1))) (rest-again name (spelling t) h) ∙ ap (option_map (λ u. let q : List ℕ × ℚ = (name, u) in q)) read

-- ---- each claim

-- its names are names, and its threshold is from 0 on and in width
pub record IsRight (c : PlainClaim) : Type 0 where
  pub names : are_names c ≡ true
  pub threshold : has_threshold c ≡ true
  pub width : IsClaimInWidth c

abbrev IsClaim : List ℕ → PlainClaim → Type 0
IsClaim text c = (text ≡ claim_text c) × IsRight c

upper-found : (text : List ℕ) (c : PlainClaim) → upper_claim text ≡ Some c → IsClaim text c
upper-found text c e =
    let m = map-some upper (name_behind (codes "claim upper reach \"") text) c e in
    let f = name-found (codes "claim upper reach \"") text m.0 m.1 in
    subst (IsClaim text) m.2 (f.0, record { names = f.1; threshold = refl; width = tt })

reach-text : (dir : Dir) (label : List ℕ) → reach_front dir ++ (label ++ 34 ∷ []) ≡ claim_text (reach dir label)
reach-text Max label = refl
reach-text Min label = refl

reach-found : (dir : Dir) (text : List ℕ) (c : PlainClaim) → reach_claim dir text ≡ Some c → IsClaim text c
reach-found dir text c e =
    let m = map-some (reach dir) (name_behind (reach_front dir) text) c e in
    let f = name-found (reach_front dir) text m.0 m.1 in
    subst (IsClaim text) m.2 (f.0 ∙ reach-text dir m.0, record { names = f.1; threshold = refl; width = tt })

reward-text : (dir : Dir) (name label : List ℕ) → reward_front dir ++ (name ++ (34 ∷ 32 ∷ 34 ∷ (label ++ 34 ∷ []))) ≡ claim_text (reward dir name label)
reward-text Max name label = ap (λ (t : List ℕ). codes "claim max reward \"" ++ t) (sym (append_assoc name (34 ∷ []) (32 ∷ 34 ∷ (label ++ 34 ∷ []))))
reward-text Min name label = ap (λ (t : List ℕ). codes "claim min reward \"" ++ t) (sym (append_assoc name (34 ∷ []) (32 ∷ 34 ∷ (label ++ 34 ∷ []))))

and-true : (a b : Bool) → a ≡ true → b ≡ true → (a && b) ≡ true
and-true a b p q = rw (p, q) refl

reward-found : (dir : Dir) (text : List ℕ) (c : PlainClaim) → reward_claim dir text ≡ Some c → IsClaim text c
reward-found dir text c e =
    let m = map-some (λ names. reward dir names.0 names.1) (option_and_then two_names (behind (reward_front dir) text)) c e in
    subst (IsClaim text) m.2 (by (behind (reward_front dir) text) refl m.0 m.1)
  where
    by : (o : Option (List ℕ)) → behind (reward_front dir) text ≡ o → (names : List ℕ × List ℕ) → option_and_then two_names o ≡ Some names → IsClaim text (reward dir names.0 names.1)
    by None b names e = absurd cc
    by (Some rest) b names e =
        let t = two-found rest names e in (
          behind-found (reward_front dir) text rest b ∙ ap (λ (xs : List ℕ). reward_front dir ++ xs) t.0 ∙ reward-text dir names.0 names.1,
          record { names = and-true _ _ t.1 t.2; threshold = refl; width = tt },
        )

until-text : (dir : Dir) (stay label : List ℕ) → until_front dir ++ (stay ++ (34 ∷ 32 ∷ 34 ∷ (label ++ 34 ∷ []))) ≡ claim_text (until dir stay label)
until-text Max stay label = ap (λ (t : List ℕ). codes "claim max until \"" ++ t) (sym (append_assoc stay (34 ∷ []) (32 ∷ 34 ∷ (label ++ 34 ∷ []))))
until-text Min stay label = ap (λ (t : List ℕ). codes "claim min until \"" ++ t) (sym (append_assoc stay (34 ∷ []) (32 ∷ 34 ∷ (label ++ 34 ∷ []))))

until-found : (dir : Dir) (text : List ℕ) (c : PlainClaim) → until_claim dir text ≡ Some c → IsClaim text c
until-found dir text c e =
    let m = map-some (λ names. until dir names.0 names.1) (option_and_then two_names (behind (until_front dir) text)) c e in
    subst (IsClaim text) m.2 (by (behind (until_front dir) text) refl m.0 m.1)
  where
    by : (o : Option (List ℕ)) → behind (until_front dir) text ≡ o → (names : List ℕ × List ℕ) → option_and_then two_names o ≡ Some names → IsClaim text (until dir names.0 names.1)
    by None b names e = absurd cc
    by (Some rest) b names e =
        let t = two-found rest names e in (
          behind-found (until_front dir) text rest b ∙ ap (λ (xs : List ℕ). until_front dir ++ xs) t.0 ∙ until-text dir names.0 names.1,
          record { names = and-true _ _ t.1 t.2; threshold = refl; width = tt },
        )

mean-text : (dir : Dir) (name : List ℕ) → mean_front dir ++ (name ++ 34 ∷ []) ≡ claim_text (mean dir name)
mean-text Max name = refl
mean-text Min name = refl

mean-found : (dir : Dir) (text : List ℕ) (c : PlainClaim) → mean_claim dir text ≡ Some c → IsClaim text c
mean-found dir text c e =
    let m = map-some (mean dir) (name_behind (mean_front dir) text) c e in
    let f = name-found (mean_front dir) text m.0 m.1 in
    subst (IsClaim text) m.2 (f.0 ∙ mean-text dir m.0, record { names = f.1; threshold = refl; width = tt })

witness-text : (dir : Dir) (label : List ℕ) (t : ℚ) → witness_front dir ++ (label ++ (34 ∷ 32 ∷ spelling t)) ≡ claim_text (witness dir None label t)
witness-text Max label t = ap (λ (u : List ℕ). codes "claim max witness \"" ++ u) (sym (append_assoc label (34 ∷ []) (32 ∷ spelling t)))
witness-text Min label t = ap (λ (u : List ℕ). codes "claim min witness \"" ++ u) (sym (append_assoc label (34 ∷ []) (32 ∷ spelling t)))

witness-found : (dir : Dir) (text : List ℕ) (c : PlainClaim) → witness_claim dir text ≡ Some c → IsClaim text c
witness-found dir text c e =
    let m = map-some (λ said. witness dir None said.0 said.1) (option_and_then name_and_threshold (behind (witness_front dir) text)) c e in
    subst (IsClaim text) m.2 (by (behind (witness_front dir) text) refl m.0 m.1)
  where
    by : (o : Option (List ℕ)) → behind (witness_front dir) text ≡ o → (said : List ℕ × ℚ) → option_and_then name_and_threshold o ≡ Some said → IsClaim text (witness dir None said.0 said.1)
    by None b said e = absurd cc
    by (Some rest) b said e =
        let t = said-found rest said e in (
          behind-found (witness_front dir) text rest b ∙ ap (λ (xs : List ℕ). witness_front dir ++ xs) t.0 ∙ witness-text dir said.0 said.1,
          record { names = t.1; threshold = t.2; width = t.3 },
        )

-- the two names and the threshold behind the front
abbrev behind-front : List ℕ → List ℕ → ℚ → List ℕ
behind-front stay label t = stay ++ (34 ∷ 32 ∷ 34 ∷ (label ++ (34 ∷ 32 ∷ spelling t)))

-- where the text is cut at the first quote
all-of : (text first rest : List ℕ) → text ≡ first ++ rest → (said : List ℕ × List ℕ × ℚ)
    → cond (is_name first) (option_map (λ s. (first, s.0, s.1)) (option_and_then name_and_threshold (behind (codes "\" \"") rest))) None ≡ Some said
    → (text ≡ behind-front said.0 said.1 said.2) × (is_name said.0 ≡ true) × (is_name said.1 ≡ true) × (is_at_least_zero said.2 ≡ true) × IsNarrow said.2
all-of text first rest split said e = by (is_name first) refl e
  where
    by : (b : Bool) → is_name first ≡ b → cond b (option_map (λ s. (first, s.0, s.1)) (option_and_then name_and_threshold (behind (codes "\" \"") rest))) None ≡ Some said
        → (text ≡ behind-front said.0 said.1 said.2) × (is_name said.0 ≡ true) × (is_name said.1 ≡ true) × (is_at_least_zero said.2 ≡ true) × IsNarrow said.2
    by false n e = absurd cc
    by true n e = at (behind (codes "\" \"") rest) refl e
      where
        at : (o : Option (List ℕ)) → behind (codes "\" \"") rest ≡ o → option_map (λ s. (first, s.0, s.1)) (option_and_then name_and_threshold o) ≡ Some said
            → (text ≡ behind-front said.0 said.1 said.2) × (is_name said.0 ≡ true) × (is_name said.1 ≡ true) × (is_at_least_zero said.2 ≡ true) × IsNarrow said.2
        at None b e = absurd cc
        at (Some others) b e =
            let m = map-some (λ (s : List ℕ × ℚ). let q : List ℕ × List ℕ × ℚ = (first, s.0, s.1) in q) (name_and_threshold others) said e in
            let g = said-found others m.0 m.1 in
            subst (λ (q : List ℕ × List ℕ × ℚ). (text ≡ behind-front q.0 q.1 q.2) × (is_name q.0 ≡ true) × (is_name q.1 ≡ true) × (is_at_least_zero q.2 ≡ true) × IsNarrow q.2) m.2 (
              split ∙ ap (λ (ys : List ℕ). first ++ ys) (behind-found (codes "\" \"") rest others b ∙ ap (λ (ys : List ℕ). 34 ∷ 32 ∷ 34 ∷ ys) g.0),
              n,
              g.1,
              g.2,
              g.3,
            )

all-found : (text : List ℕ) (said : List ℕ × List ℕ × ℚ) → names_and_threshold text ≡ Some said
    → (text ≡ behind-front said.0 said.1 said.2) × (is_name said.0 ≡ true) × (is_name said.1 ≡ true) × (is_at_least_zero said.2 ≡ true) × IsNarrow said.2
all-found text said e =
    let end = position_or_len is_quote text in
    all-of text (before_first is_quote text) (drop end text) (sym (take-append-drop end text)) said e

all-again : (stay label : List ℕ) (t : ℚ) → is_name stay ≡ true → is_name label ≡ true → is_at_least_zero t ≡ true → IsNarrow t
    → names_and_threshold (behind-front stay label t) ≡ Some (stay, label, t)
all-again stay label t h g z narrow =
    let rest : List ℕ = 34 ∷ 32 ∷ 34 ∷ (label ++ (34 ∷ 32 ∷ spelling t)) in
    let at : position_or_len is_quote (stay ++ rest) ≡ length stay = byte-after 34 stay (32 ∷ 34 ∷ (label ++ (34 ∷ 32 ∷ spelling t))) (quote-free-name stay h) in
    rw (at, take-append_seam stay rest, drop-append_seam stay rest, h, said-again label t g z narrow) refl

witness-until-text : (dir : Dir) (stay label : List ℕ) (t : ℚ) → witness_until_front dir ++ behind-front stay label t ≡ claim_text (witness dir (Some stay) label t)
witness-until-text dir stay label t = by dir
  where
    -- the quotes are joined to the names
    joined : stay ++ (34 ∷ 32 ∷ 34 ∷ (label ++ (34 ∷ 32 ∷ spelling t))) ≡ (stay ++ 34 ∷ []) ++ (32 ∷ 34 ∷ ((label ++ 34 ∷ []) ++ (32 ∷ spelling t)))
    joined = ap (λ (u : List ℕ). stay ++ (34 ∷ 32 ∷ 34 ∷ u)) (sym (append_assoc label (34 ∷ []) (32 ∷ spelling t)))
        ∙ sym (append_assoc stay (34 ∷ []) (32 ∷ 34 ∷ ((label ++ 34 ∷ []) ++ (32 ∷ spelling t))))

    by : (d : Dir) → witness_until_front d ++ behind-front stay label t ≡ claim_text (witness d (Some stay) label t)
    by Max = ap (λ (u : List ℕ). codes "claim max witness until \"" ++ u) joined
    by Min = ap (λ (u : List ℕ). codes "claim min witness until \"" ++ u) joined

witness-until-found : (dir : Dir) (text : List ℕ) (c : PlainClaim) → witness_until_claim dir text ≡ Some c → IsClaim text c
witness-until-found dir text c e =
    let m = map-some (λ said. witness dir (Some said.0) said.1 said.2) (option_and_then names_and_threshold (behind (witness_until_front dir) text)) c e in
    subst (IsClaim text) m.2 (by (behind (witness_until_front dir) text) refl m.0 m.1)
  where
    by : (o : Option (List ℕ)) → behind (witness_until_front dir) text ≡ o → (said : List ℕ × List ℕ × ℚ) → option_and_then names_and_threshold o ≡ Some said
        → IsClaim text (witness dir (Some said.0) said.1 said.2)
    by None b said e = absurd cc
    by (Some rest) b said e =
        let t = all-found rest said e in (
          behind-found (witness_until_front dir) text rest b ∙ ap (λ (xs : List ℕ). witness_until_front dir ++ xs) t.0 ∙ witness-until-text dir said.0 said.1 said.2,
          record { names = and-true _ _ t.1 t.2; threshold = t.3; width = t.4 },
        )

subsystem-found : (dir : Dir) (text : List ℕ) (c : PlainClaim) → subsystem_claim dir text ≡ Some c → IsClaim text c
subsystem-found dir text c e = elim (or-found (witness_claim dir text) (witness_until_claim dir text) c e) [ inl f ↦ witness-found dir text c f | inr f ↦ witness-until-found dir text c f ]

to-found : (dir : Dir) (text : List ℕ) (c : PlainClaim) → claim_to dir text ≡ Some c → IsClaim text c
unfolding claim_to
to-found dir text c e =
    elim (or-found (reach_claim dir text) (option_or (until_claim dir text) (option_or (reward_claim dir text) (option_or (mean_claim dir text) (subsystem_claim dir text)))) c e) [
      | inl h ↦ reach-found dir text c h
      | inr h ↦ elim (or-found (until_claim dir text) (option_or (reward_claim dir text) (option_or (mean_claim dir text) (subsystem_claim dir text))) c h) [
        | inl i ↦ until-found dir text c i
        | inr i ↦ elim (or-found (reward_claim dir text) (option_or (mean_claim dir text) (subsystem_claim dir text)) c i) [
          | inl g ↦ reward-found dir text c g
          | inr g ↦ elim (or-found (mean_claim dir text) (subsystem_claim dir text) c g) [ inl f ↦ mean-found dir text c f | inr f ↦ subsystem-found dir text c f ]
        ]
      ]
    ]

of-found : (text : List ℕ) (c : PlainClaim) → claim_of text ≡ Some c → IsClaim text c
unfolding claim_of
of-found text c e = elim (or-found (upper_claim text) (option_or (claim_to Max text) (claim_to Min text)) c e) [
  | inl h ↦ upper-found text c h
  | inr h ↦ elim (or-found (claim_to Max text) (claim_to Min text) c h) [ inl g ↦ to-found Max text c g | inr g ↦ to-found Min text c g ]
]

pub claim-found : (n : ℕ) (text : List ℕ) (c : PlainClaim) → claim_at n text ≡ Ok c → (text ≡ claim_text c) × IsRight c
unfolding claim_at
claim-found n text c e = of-found text c (found_ok (claim_of text) Claim n c e)

-- ---- and back

upper-again : (label : List ℕ) → is_name label ≡ true → claim_of (claim_text (upper label)) ≡ Some (upper label)
unfolding claim_of
upper-again label h = rw (name-again (codes "claim upper reach \"") label h) refl

reach-again : (dir : Dir) (label : List ℕ) → is_name label ≡ true → claim_of (claim_text (reach dir label)) ≡ Some (reach dir label)
unfolding claim_of claim_to
reach-again Max label h = rw (name-again (codes "claim max reach \"") label h) refl
reach-again Min label h = rw (name-again (codes "claim min reach \"") label h) refl

reward-read : (dir : Dir) (name label : List ℕ) → is_name name ≡ true → is_name label ≡ true → reward_claim dir (claim_text (reward dir name label)) ≡ Some (reward dir name label)
reward-read dir name label h g =
    ap (reward_claim dir) (sym (reward-text dir name label))
    ∙ ap (λ (o : Option (List ℕ)). option_map (λ names. reward dir names.0 names.1) (option_and_then two_names o)) (behind-again (reward_front dir) (name ++ (34 ∷ 32 ∷ 34 ∷ (label ++ 34 ∷ []))))
    ∙ ap (option_map (λ names. reward dir names.0 names.1)) (two-again name label h g)

reward-again : (dir : Dir) (name label : List ℕ) → is_name name ≡ true → is_name label ≡ true → claim_of (claim_text (reward dir name label)) ≡ Some (reward dir name label)
unfolding claim_of claim_to
reward-again Max name label h g =
    let text = claim_text (reward Max name label) in
    ap (λ (o : Option PlainClaim). option_or (option_or o (option_or (mean_claim Max text) (subsystem_claim Max text))) (claim_to Min text)) (reward-read Max name label h g)
reward-again Min name label h g =
    let text = claim_text (reward Min name label) in
    ap (λ (o : Option PlainClaim). option_or o (option_or (mean_claim Min text) (subsystem_claim Min text))) (reward-read Min name label h g)

until-read : (dir : Dir) (stay label : List ℕ) → is_name stay ≡ true → is_name label ≡ true → until_claim dir (claim_text (until dir stay label)) ≡ Some (until dir stay label)
until-read dir stay label h g =
    ap (until_claim dir) (sym (until-text dir stay label))
    ∙ ap (λ (o : Option (List ℕ)). option_map (λ names. until dir names.0 names.1) (option_and_then two_names o)) (behind-again (until_front dir) (stay ++ (34 ∷ 32 ∷ 34 ∷ (label ++ 34 ∷ []))))
    ∙ ap (option_map (λ names. until dir names.0 names.1)) (two-again stay label h g)

until-again : (dir : Dir) (stay label : List ℕ) → is_name stay ≡ true → is_name label ≡ true → claim_of (claim_text (until dir stay label)) ≡ Some (until dir stay label)
unfolding claim_of claim_to
until-again Max stay label h g =
    let text = claim_text (until Max stay label) in
    ap (λ (o : Option PlainClaim). option_or (option_or o (option_or (reward_claim Max text) (option_or (mean_claim Max text) (subsystem_claim Max text)))) (claim_to Min text)) (until-read Max stay label h g)
until-again Min stay label h g =
    let text = claim_text (until Min stay label) in
    ap (λ (o : Option PlainClaim). option_or o (option_or (reward_claim Min text) (option_or (mean_claim Min text) (subsystem_claim Min text)))) (until-read Min stay label h g)

mean-again : (dir : Dir) (name : List ℕ) → is_name name ≡ true → claim_of (claim_text (mean dir name)) ≡ Some (mean dir name)
unfolding claim_of claim_to
mean-again Max name h = rw (name-again (codes "claim max mean \"") name h) refl
mean-again Min name h = rw (name-again (codes "claim min mean \"") name h) refl

witness-read : (dir : Dir) (label : List ℕ) (t : ℚ) → IsRight (witness dir None label t) → witness_claim dir (claim_text (witness dir None label t)) ≡ Some (witness dir None label t)
witness-read dir label t h =
    ap (witness_claim dir) (sym (witness-text dir label t))
    ∙ ap (λ (o : Option (List ℕ)). option_map (λ said. witness dir None said.0 said.1) (option_and_then name_and_threshold o)) (behind-again (witness_front dir) (label ++ (34 ∷ 32 ∷ spelling t)))
    ∙ ap (option_map (λ said. witness dir None said.0 said.1)) (said-again label t h.names h.threshold h.width)

witness-again : (dir : Dir) (label : List ℕ) (t : ℚ) → IsRight (witness dir None label t) → claim_of (claim_text (witness dir None label t)) ≡ Some (witness dir None label t)
unfolding claim_of claim_to
witness-again Max label t h =
    let text = claim_text (witness Max None label t) in
    ap (λ (o : Option PlainClaim). option_or (option_or o (witness_until_claim Max text)) (claim_to Min text)) (witness-read Max label t h)
witness-again Min label t h = ap (λ (o : Option PlainClaim). option_or o (witness_until_claim Min (claim_text (witness Min None label t)))) (witness-read Min label t h)

witness-until-read : (dir : Dir) (stay label : List ℕ) (t : ℚ) → IsRight (witness dir (Some stay) label t)
    → witness_until_claim dir (claim_text (witness dir (Some stay) label t)) ≡ Some (witness dir (Some stay) label t)
witness-until-read dir stay label t h =
    let p = and_parts (is_name stay) (is_name label) h.names in
    ap (witness_until_claim dir) (sym (witness-until-text dir stay label t))
    ∙ ap (λ (o : Option (List ℕ)). option_map (λ said. witness dir (Some said.0) said.1 said.2) (option_and_then names_and_threshold o))
    (behind-again (witness_until_front dir) (behind-front stay label t))
    ∙ ap (option_map (λ said. witness dir (Some said.0) said.1 said.2)) (all-again stay label t p.0 p.1 h.threshold h.width)

witness-until-again : (dir : Dir) (stay label : List ℕ) (t : ℚ) → IsRight (witness dir (Some stay) label t)
    → claim_of (claim_text (witness dir (Some stay) label t)) ≡ Some (witness dir (Some stay) label t)
unfolding claim_of claim_to
witness-until-again Max stay label t h =
    ap (λ (o : Option PlainClaim). option_or o (claim_to Min (claim_text (witness Max (Some stay) label t)))) (witness-until-read Max stay label t h)
witness-until-again Min stay label t h = witness-until-read Min stay label t h

again : (c : PlainClaim) → IsRight c → claim_of (claim_text c) ≡ Some c
again (upper label) h = upper-again label h.names
again (reach dir label) h = reach-again dir label h.names
again (until dir stay label) h = let p = and_parts (is_name stay) (is_name label) h.names in until-again dir stay label p.0 p.1
again (mean dir name) h = mean-again dir name h.names
again (reward dir name label) h = let p = and_parts (is_name name) (is_name label) h.names in reward-again dir name label p.0 p.1
again (witness dir None label t) h = witness-again dir label t h
again (witness dir (Some stay) label t) h = witness-until-again dir stay label t h

pub claim-again : (n : ℕ) (c : PlainClaim) → IsRight c → claim_at n (claim_text c) ≡ Ok c
unfolding claim_at
claim-again n c h = ap (or_refused Claim n) (again c h)

-- ---- one line

free-named : (front name : List ℕ) → Free 10 front → is_name name ≡ true → Free 10 (front ++ (name ++ 34 ∷ []))
free-named front name f h = free-append 10 front (name ++ 34 ∷ []) f (free-append 10 name (34 ∷ []) (free-name name h) refl)

free-reward : (dir : Dir) (name label : List ℕ) → is_name name ≡ true → is_name label ≡ true → Free 10 (reward_front dir ++ (name ++ (codes "\" \"" ++ (label ++ 34 ∷ []))))
free-reward dir name label h g =
    let rest : Free 10 (codes "\" \"" ++ (label ++ 34 ∷ [])) = free-named (codes "\" \"") label refl g in
    free-append 10 (reward_front dir) (name ++ (codes "\" \"" ++ (label ++ 34 ∷ []))) (front dir) (free-append 10 name (codes "\" \"" ++ (label ++ 34 ∷ [])) (free-name name h) rest)
  where
    front : (d : Dir) → Free 10 (reward_front d)
    front Max = refl
    front Min = refl

free-until : (dir : Dir) (stay label : List ℕ) → is_name stay ≡ true → is_name label ≡ true → Free 10 (until_front dir ++ (stay ++ (codes "\" \"" ++ (label ++ 34 ∷ []))))
free-until dir stay label h g =
    let rest : Free 10 (codes "\" \"" ++ (label ++ 34 ∷ [])) = free-named (codes "\" \"") label refl g in
    free-append 10 (until_front dir) (stay ++ (codes "\" \"" ++ (label ++ 34 ∷ []))) (front dir) (free-append 10 stay (codes "\" \"" ++ (label ++ 34 ∷ [])) (free-name stay h) rest)
  where
    front : (d : Dir) → Free 10 (until_front d)
    front Max = refl
    front Min = refl

free-witness : (dir : Dir) (label : List ℕ) (t : ℚ) → is_name label ≡ true → IsNarrow t → Free 10 (witness_front dir ++ (label ++ (34 ∷ 32 ∷ spelling t)))
free-witness dir label t h narrow =
    free-append 10 (witness_front dir) (label ++ (34 ∷ 32 ∷ spelling t)) (front dir) (free-append 10 label (34 ∷ 32 ∷ spelling t) (free-name label h) (free-spelling 10 t (omega arith) narrow))
  where
    front : (d : Dir) → Free 10 (witness_front d)
    front Max = refl
    front Min = refl

free-witness-until : (dir : Dir) (stay label : List ℕ) (t : ℚ) → is_name stay ≡ true → is_name label ≡ true → IsNarrow t → Free 10 (witness_until_front dir ++ behind-front stay label t)
free-witness-until dir stay label t h g narrow =
    let rest : Free 10 (label ++ (34 ∷ 32 ∷ spelling t)) = free-append 10 label (34 ∷ 32 ∷ spelling t) (free-name label g) (free-spelling 10 t (omega arith) narrow) in
    free-append 10 (witness_until_front dir) (behind-front stay label t) (front dir) (free-append 10 stay (34 ∷ 32 ∷ 34 ∷ (label ++ (34 ∷ 32 ∷ spelling t))) (free-name stay h) rest)
  where
    front : (d : Dir) → Free 10 (witness_until_front d)
    front Max = refl
    front Min = refl

pub free-claim : (c : PlainClaim) → IsRight c → Free 10 (claim_text c)
free-claim (upper label) h = free-named (codes "claim upper reach \"") label refl h.names
free-claim (reach Max label) h = free-named (codes "claim max reach \"") label refl h.names
free-claim (reach Min label) h = free-named (codes "claim min reach \"") label refl h.names
free-claim (until dir stay label) h = let p = and_parts (is_name stay) (is_name label) h.names in subst (Free 10) (until-text dir stay label) (free-until dir stay label p.0 p.1)
free-claim (mean Max name) h = free-named (codes "claim max mean \"") name refl h.names
free-claim (mean Min name) h = free-named (codes "claim min mean \"") name refl h.names
free-claim (witness dir None label t) h = subst (Free 10) (witness-text dir label t) (free-witness dir label t h.names h.width)
free-claim (witness dir (Some stay) label t) h =
    let p = and_parts (is_name stay) (is_name label) h.names in subst (Free 10) (witness-until-text dir stay label t) (free-witness-until dir stay label t p.0 p.1 h.width)
free-claim (reward dir name label) h = let p = and_parts (is_name name) (is_name label) h.names in subst (Free 10) (reward-text dir name label) (free-reward dir name label p.0 p.1)
