-- The lines of a body are read exactly where they are the lines of what is read.
use Rattle.std.proofs.Common.{◌≡◌, ℕ, ◌<◌, ◌≤◌, ◌^◌, true, eqb, ◌&&◌, List, ◌++◌, length, map, Option, Result, Ok, refl, sym, ap, subst, ◌∙◌}
use Rattle.std.proofs.{lemmas.Bool.{and_parts}, lemmas.List.{length-map}}
use Rattle.std.specs.List.{All}
use Rattle.mdp_math.specs.Rational.{ℚ}
use Rattle.mdp_num.specs.Value.{IsNarrow}
use Rattle.mdp_rows.specs.declared.dir.Dir.{Dir}
use Rattle.mdp_text.specs.{declared.error.Refusal.{Refusal}, Lines.{◌>>=◌, Place, place}}
use Rattle.mdp_text.proofs.{Cuts.{same-number, number-same}, Feeds.{ok-is, bind_ok}}
use Rattle.mdp_cert.specs.{declared.version.Version.TheVariants.{Two}, Cert.{PlainClaim, upper, reach, until, reward, mean, witness, IsValueNarrow}}
use Rattle.mdp_cert.specs.{Claims.{Value, fraction_value, reward_value}, Spelling.{closed_lines}, Reading.{entries_to_end}}
use Rattle.mdp_cert.specs.Pairs.{IsShort, IsPairInWidth, pairs}
use Rattle.mdp_cert.specs.BoundsCert.{PlainBounds, probabilities, rewards, gains, is_body_of, IsBodyInWidth}
use Rattle.mdp_cert.specs.{Entries.{Ranked, ranked_columns, ranked_of, IsRankedInWidth, Gains, gains_columns, gains_of, IsGainsInWidth}, BoundsSpelling.{body_text}}
use Rattle.mdp_cert.specs.BoundsReading.{reach_body, reward_body, mean_body, body_from}
use Rattle.mdp_cert.proofs.{Columns.{IsValue, fraction-is_value, reward-is_value}, Bodies.{closed-found, closed-again}}
use Rattle.mdp_cert.proofs.{Parts.{all-each, all-of, spread-entries-found, spread-entries-again}, StateWords.{Count, Back, back, ranked-is_columns, ranked-of, GainsCount, gains-is_columns, gains-back, gains-of}}
use Rattle.mdp_cert.proofs.WordByWord.{each-pair}

pub record FitsBody (claim : PlainClaim) (states : ℕ) (b : PlainBounds) : Type 0 where
  pub entries : is_body_of claim states b ≡ true
  pub width : IsBodyInWidth b

pub record FoundBody (claim : PlainClaim) (states : ℕ) (p : Place) (b : PlainBounds) (q : Place) : Type 0 where
  pub text : p.rest ≡ body_text b ++ q.rest
  pub fits : FitsBody claim states b

-- ---- values, choices and ranks

ranked-counts : {V : Type 0} (states : ℕ) (ls us : List V) (cs rs : List ℕ)
    → (eqb (length ls) states && eqb (length us) states && eqb (length cs) states && eqb (length rs) states) ≡ true → Count states ls us cs rs
ranked-counts states ls us cs rs e =
    let t = and_parts (eqb (length ls) states && eqb (length us) states && eqb (length cs) states) (eqb (length rs) states) e in
    let u = and_parts (eqb (length ls) states && eqb (length us) states) (eqb (length cs) states) t.0 in
    let v = and_parts (eqb (length ls) states) (eqb (length us) states) u.0 in
    record { lower = number-same _ states v.0; upper = number-same _ states v.1; choices = number-same _ states u.1; ranks = number-same _ states t.1 }

module _ {V : Type 0} (k : Value V) (IsInWidth : V → Type 0) (is : IsValue k IsInWidth) (states : ℕ) (limit : states ≤ 2 ^ 20) where
  -- four lists, one of each per state and in width, with their lines
  record FoundRanked (p : Place) (ls us : List V) (cs rs : List ℕ) (q : Place) : Type 0 where
    text : p.rest ≡ closed_lines Two (ranked_columns k) (ranked_of ls us cs rs) ++ q.rest
    entries : (eqb (length ls) states && eqb (length us) states && eqb (length cs) states && eqb (length rs) states) ≡ true
    width : All IsInWidth ls × All IsInWidth us × All (λ c. c < 2 ^ 32) cs × All (λ r. r < 2 ^ 32) rs

  ranked-found : (p : Place) (xs : List (Ranked V)) (q : Place) → entries_to_end Two (ranked_columns k) states p ≡ Ok (xs, q)
      → FoundRanked p (map (λ x. x.first) xs) (map (λ x. x.others.first) xs) (map (λ x. x.others.others.first) xs) (map (λ x. x.others.others.others) xs) q
  ranked-found p xs q e =
      let f = closed-found (ranked_columns k) (IsRankedInWidth IsInWidth) (ranked-is_columns k IsInWidth is) states limit Two p xs q e in
      let each : (X : Type 0) (g : Ranked V → X) → eqb (length (map g xs)) states ≡ true = λ X g. same-number _ states (length-map xs g ∙ f.count) in
      record {
        text = f.text ∙ ap (λ (ys : List (Ranked V)). closed_lines Two (ranked_columns k) ys ++ q.rest) (sym (ranked-of xs));
        entries = rw (each V (λ x. x.first), each V (λ x. x.others.first), each ℕ (λ x. x.others.others.first), each ℕ (λ x. x.others.others.others)) refl;
        width = (
          all-of (IsRankedInWidth IsInWidth) IsInWidth (λ x. x.first) (λ x h. h.first) xs f.width,
          all-of (IsRankedInWidth IsInWidth) IsInWidth (λ x. x.others.first) (λ x h. h.others.first) xs f.width,
          all-of (IsRankedInWidth IsInWidth) IsShort (λ x. x.others.others.first) (λ x h. h.others.others.first) xs f.width,
          all-of (IsRankedInWidth IsInWidth) IsShort (λ x. x.others.others.others) (λ x h. h.others.others.others) xs f.width,
        );
      }

  -- the entries of four lists, and the lists of these entries
  record AgainRanked (n : ℕ) (ls us : List V) (cs rs rest : List ℕ) : Type 0 where
    line : ℕ
    read : entries_to_end Two (ranked_columns k) states (place n (closed_lines Two (ranked_columns k) (ranked_of ls us cs rs) ++ rest)) ≡ Ok (ranked_of ls us cs rs, place line rest)
    back : Back states ls us cs rs

  ranked-again : (n : ℕ) (ls us : List V) (cs rs rest : List ℕ) → (eqb (length ls) states && eqb (length us) states && eqb (length cs) states && eqb (length rs) states) ≡ true
      → All IsInWidth ls × All IsInWidth us × All (λ c. c < 2 ^ 32) cs × All (λ r. r < 2 ^ 32) rs → AgainRanked n ls us cs rs rest
  ranked-again n ls us cs rs rest ok width =
      let b = back states ls us cs rs (ranked-counts states ls us cs rs ok) in
      let r =
      closed-again (ranked_columns k) (IsRankedInWidth IsInWidth) (ranked-is_columns k IsInWidth is) states limit Two n (ranked_of ls us cs rs) rest b.count
      (each-pair IsInWidth (IsPairInWidth IsInWidth (IsPairInWidth IsShort IsShort)) ls (pairs us (pairs cs rs)) (all-each IsInWidth ls width.0)
      (each-pair IsInWidth (IsPairInWidth IsShort IsShort) us (pairs cs rs) (all-each IsInWidth us width.1)
      (each-pair IsShort IsShort cs rs (all-each IsShort cs width.2) (all-each IsShort rs width.3)))) in
      record { line = r.0; read = r.1; back = b }

-- ---- mean payoffs

gains-counts : (states : ℕ) (ls us zs bs : List ℚ) (cs : List ℕ)
    → (eqb (length ls) states && eqb (length us) states && eqb (length zs) states && eqb (length bs) states && eqb (length cs) states) ≡ true
    → GainsCount states ls us zs bs cs
gains-counts states ls us zs bs cs e =
    let t = and_parts (eqb (length ls) states && eqb (length us) states && eqb (length zs) states && eqb (length bs) states) (eqb (length cs) states) e in
    let u = and_parts (eqb (length ls) states && eqb (length us) states && eqb (length zs) states) (eqb (length bs) states) t.0 in
    let v = and_parts (eqb (length ls) states && eqb (length us) states) (eqb (length zs) states) u.0 in
    let w = and_parts (eqb (length ls) states) (eqb (length us) states) v.0 in
    record {
      lower = number-same _ states w.0;
      upper = number-same _ states w.1;
      bounds = number-same _ states v.1;
      biases = number-same _ states u.1;
      choices = number-same _ states t.1;
    }

mean-found : (dir : Dir) (name : List ℕ) (states : ℕ) (p : Place) (b : PlainBounds) (q : Place) → states ≤ 2 ^ 20 → body_from (mean dir name) states p ≡ Ok (b, q)
    → FoundBody (mean dir name) states p b q
unfolding body_from
mean-found dir name states p b q limit e =
    let s = spread-entries-found gains_columns IsGainsInWidth gains-is_columns states limit Two mean_body p b q e in
    let xs = s.1 in
    let f = s.3 in
    let each : (X : Type 0) (g : Gains → X) → eqb (length (map g xs)) states ≡ true = λ X g. same-number _ states (length-map xs g ∙ f.count) in
    subst (λ (c : PlainBounds). FoundBody (mean dir name) states p c q) s.2 (record {
      text = f.text _ (gains-of xs);
      fits = record {
        entries = rw (
          each ℚ (λ x. x.first),
          each ℚ (λ x. x.others.first),
          each ℚ (λ x. x.others.others.first),
          each ℚ (λ x. x.others.others.others.first),
          each ℕ (λ x. x.others.others.others.others),
        ) refl;
        width = (
          all-of IsGainsInWidth IsNarrow (λ x. x.first) (λ x h. h.first) xs f.width,
          all-of IsGainsInWidth IsNarrow (λ x. x.others.first) (λ x h. h.others.first) xs f.width,
          all-of IsGainsInWidth IsNarrow (λ x. x.others.others.first) (λ x h. h.others.others.first) xs f.width,
          all-of IsGainsInWidth IsNarrow (λ x. x.others.others.others.first) (λ x h. h.others.others.others.first) xs f.width,
          all-of IsGainsInWidth IsShort (λ x. x.others.others.others.others) (λ x h. h.others.others.others.others) xs f.width,
          f.narrow,
        );
      };
    })

mean-again : (dir : Dir) (name : List ℕ) (states n : ℕ) (ls us zs bs : List ℚ) (cs : List ℕ) (k : ℚ) (rest : List ℕ) → states ≤ 2 ^ 20
    → FitsBody (mean dir name) states (gains ls us zs bs cs k)
    → (m : ℕ) × (body_from (mean dir name) states (place n (body_text (gains ls us zs bs cs k) ++ rest)) ≡ Ok (gains ls us zs bs cs k, place m rest))
unfolding body_from
mean-again dir name states n ls us zs bs cs k rest limit ok =
    let b = gains-back states ls us zs bs cs (gains-counts states ls us zs bs cs ok.entries) in
    let r =
    spread-entries-again gains_columns IsGainsInWidth gains-is_columns states limit Two mean_body n k (gains_of ls us zs bs cs) rest ok.width.5 b.count
    (each-pair IsNarrow _ ls (pairs us (pairs zs (pairs bs cs))) (all-each IsNarrow ls ok.width.0)
    (each-pair IsNarrow _ us (pairs zs (pairs bs cs)) (all-each IsNarrow us ok.width.1)
    (each-pair IsNarrow _ zs (pairs bs cs) (all-each IsNarrow zs ok.width.2)
    (each-pair IsNarrow IsShort bs cs (all-each IsNarrow bs ok.width.3) (all-each IsShort cs ok.width.4))))) in
    (r.0, r.1 ∙ same _ _ _ _ _ _ _ _ _ _ (place r.0 rest) b.lower b.upper b.bounds b.biases b.choices)
  where
    same : (l m u v z y b a : List ℚ) (c d : List ℕ) (q : Place) → l ≡ m → u ≡ v → z ≡ y → b ≡ a → c ≡ d
        → (let r : Result (PlainBounds × Place) Refusal = Ok (gains l u z b c k, q) in r) ≡ Ok (gains m v y a d k, q)
    same l m u v z y b a c d q e f g h i = rw (e, f, g, h, i) refl

-- ---- by the claim

pub body-found : (claim : PlainClaim) (states : ℕ) (p : Place) (b : PlainBounds) (q : Place) → states ≤ 2 ^ 20 → body_from claim states p ≡ Ok (b, q) → FoundBody claim states p b q
unfolding body_from
body-found (upper label) states p b q limit e = absurd cc
body-found (reach dir label) states p b q limit e =
    let all = bind_ok (entries_to_end Two (ranked_columns fraction_value) states p) (λ xs. Ok (reach_body xs.0, xs.1)) (b, q) e in
    let same : (let r : PlainBounds × Place = (reach_body all.0.0, all.0.1) in r) ≡ (b, q) = ok-is _ _ all.2 in
    let f = ranked-found fraction_value IsNarrow fraction-is_value states limit p all.0.0 all.0.1 all.1 in
    subst (λ (r : PlainBounds × Place). FoundBody (reach dir label) states p r.0 r.1) same (record { text = f.text; fits = record { entries = f.entries; width = f.width } })
body-found (until dir stay label) states p b q limit e =
    let all = bind_ok (entries_to_end Two (ranked_columns fraction_value) states p) (λ xs. Ok (reach_body xs.0, xs.1)) (b, q) e in
    let same : (let r : PlainBounds × Place = (reach_body all.0.0, all.0.1) in r) ≡ (b, q) = ok-is _ _ all.2 in
    let f = ranked-found fraction_value IsNarrow fraction-is_value states limit p all.0.0 all.0.1 all.1 in
    subst (λ (r : PlainBounds × Place). FoundBody (until dir stay label) states p r.0 r.1) same (record { text = f.text; fits = record { entries = f.entries; width = f.width } })
body-found (reward dir name label) states p b q limit e =
    let all = bind_ok (entries_to_end Two (ranked_columns reward_value) states p) (λ xs. Ok (reward_body xs.0, xs.1)) (b, q) e in
    let same : (let r : PlainBounds × Place = (reward_body all.0.0, all.0.1) in r) ≡ (b, q) = ok-is _ _ all.2 in
    let f = ranked-found reward_value IsValueNarrow reward-is_value states limit p all.0.0 all.0.1 all.1 in
    subst (λ (r : PlainBounds × Place). FoundBody (reward dir name label) states p r.0 r.1) same (record { text = f.text; fits = record { entries = f.entries; width = f.width } })
body-found (mean dir name) states p b q limit e = mean-found dir name states p b q limit e
body-found (witness dir stay label threshold) states p b q limit e = absurd cc

abbrev reach-of : List (Ranked ℚ) × Place → Result (PlainBounds × Place) Refusal
reach-of xs = Ok (reach_body xs.0, xs.1)

abbrev reward-of : List (Ranked (Option ℚ)) × Place → Result (PlainBounds × Place) Refusal
reward-of xs = Ok (reward_body xs.0, xs.1)

-- a body that was read, which is this one
abbrev read-as : ℕ → List ℕ → PlainBounds → Result (PlainBounds × Place) Refusal
read-as m rest b = Ok (b, place m rest)

same-body : {V : Type 0} (of : List V → List V → List ℕ → List ℕ → PlainBounds) (l m u v : List V) (c d r s : List ℕ) (n : ℕ) (rest : List ℕ) → l ≡ m → u ≡ v → c ≡ d → r ≡ s
    → read-as n rest (of l u c r) ≡ read-as n rest (of m v d s)
same-body of l m u v c d r s n rest e f g h = rw (e, f, g, h) refl

reach-again : (states n : ℕ) (ls us : List ℚ) (cs rs rest : List ℕ) → states ≤ 2 ^ 20
    → (eqb (length ls) states && eqb (length us) states && eqb (length cs) states && eqb (length rs) states) ≡ true → IsBodyInWidth (probabilities ls us cs rs)
    → (m : ℕ) × ((entries_to_end Two (ranked_columns fraction_value) states (place n (body_text (probabilities ls us cs rs) ++ rest)) >>= reach-of) ≡ read-as m rest (probabilities ls us cs rs))
reach-again states n ls us cs rs rest limit ok width =
    let r = ranked-again fraction_value IsNarrow fraction-is_value states limit n ls us cs rs rest ok width in (
      r.line,
      ap (λ (q : Result (List (Ranked ℚ) × Place) Refusal). q >>= reach-of) r.read
          ∙ same-body probabilities _ _ _ _ _ _ _ _ r.line rest r.back.lower r.back.upper r.back.choices r.back.ranks,
    )

reward-again : (states n : ℕ) (ls us : List (Option ℚ)) (cs rs rest : List ℕ) → states ≤ 2 ^ 20
    → (eqb (length ls) states && eqb (length us) states && eqb (length cs) states && eqb (length rs) states) ≡ true → IsBodyInWidth (rewards ls us cs rs)
    → (m : ℕ) × ((entries_to_end Two (ranked_columns reward_value) states (place n (body_text (rewards ls us cs rs) ++ rest)) >>= reward-of) ≡ read-as m rest (rewards ls us cs rs))
reward-again states n ls us cs rs rest limit ok width =
    let r = ranked-again reward_value IsValueNarrow reward-is_value states limit n ls us cs rs rest ok width in (
      r.line,
      ap (λ (q : Result (List (Ranked (Option ℚ)) × Place) Refusal). q >>= reward-of) r.read
          ∙ same-body rewards _ _ _ _ _ _ _ _ r.line rest r.back.lower r.back.upper r.back.choices r.back.ranks,
    )

pub body-again : (claim : PlainClaim) (states n : ℕ) (b : PlainBounds) (rest : List ℕ) → states ≤ 2 ^ 20 → FitsBody claim states b
    → (m : ℕ) × (body_from claim states (place n (body_text b ++ rest)) ≡ Ok (b, place m rest))
unfolding body_from
body-again (upper label) states n b rest limit ok = absurd (let t = ok.entries in cc)
body-again (reach dir label) states n (probabilities ls us cs rs) rest limit ok = reach-again states n ls us cs rs rest limit ok.entries ok.width
body-again (reach dir label) states n (rewards ls us cs rs) rest limit ok = absurd (let t = ok.entries in cc)
body-again (reach dir label) states n (gains ls us zs bs cs k) rest limit ok = absurd (let t = ok.entries in cc)
body-again (until dir stay label) states n (probabilities ls us cs rs) rest limit ok = reach-again states n ls us cs rs rest limit ok.entries ok.width
body-again (until dir stay label) states n (rewards ls us cs rs) rest limit ok = absurd (let t = ok.entries in cc)
body-again (until dir stay label) states n (gains ls us zs bs cs k) rest limit ok = absurd (let t = ok.entries in cc)
body-again (reward dir name label) states n (probabilities ls us cs rs) rest limit ok = absurd (let t = ok.entries in cc)
body-again (reward dir name label) states n (rewards ls us cs rs) rest limit ok = reward-again states n ls us cs rs rest limit ok.entries ok.width
body-again (reward dir name label) states n (gains ls us zs bs cs k) rest limit ok = absurd (let t = ok.entries in cc)
body-again (mean dir name) states n (probabilities ls us cs rs) rest limit ok = absurd (let t = ok.entries in cc)
body-again (mean dir name) states n (rewards ls us cs rs) rest limit ok = absurd (let t = ok.entries in cc)
body-again (mean dir name) states n (gains ls us zs bs cs k) rest limit ok = mean-again dir name states n ls us zs bs cs k rest limit ok
body-again (witness dir stay label threshold) states n b rest limit ok = absurd (let t = ok.entries in cc)

-- ---- as many entries as states

pub reach-counts : (claim : PlainClaim) (states : ℕ) (ls us : List ℚ) (cs rs : List ℕ) → is_body_of claim states (probabilities ls us cs rs) ≡ true → Count states ls us cs rs
reach-counts (upper label) states ls us cs rs e = absurd cc
reach-counts (reach dir label) states ls us cs rs e = ranked-counts states ls us cs rs e
reach-counts (until dir stay label) states ls us cs rs e = ranked-counts states ls us cs rs e
reach-counts (reward dir name label) states ls us cs rs e = absurd cc
reach-counts (mean dir name) states ls us cs rs e = absurd cc
reach-counts (witness dir stay label threshold) states ls us cs rs e = absurd cc

pub reward-counts : (claim : PlainClaim) (states : ℕ) (ls us : List (Option ℚ)) (cs rs : List ℕ) → is_body_of claim states (rewards ls us cs rs) ≡ true → Count states ls us cs rs
reward-counts (upper label) states ls us cs rs e = absurd cc
reward-counts (reach dir label) states ls us cs rs e = absurd cc
reward-counts (until dir stay label) states ls us cs rs e = absurd cc
reward-counts (reward dir name label) states ls us cs rs e = ranked-counts states ls us cs rs e
reward-counts (mean dir name) states ls us cs rs e = absurd cc
reward-counts (witness dir stay label threshold) states ls us cs rs e = absurd cc

pub mean-counts : (claim : PlainClaim) (states : ℕ) (ls us zs bs : List ℚ) (cs : List ℕ) (k : ℚ) → is_body_of claim states (gains ls us zs bs cs k) ≡ true
    → GainsCount states ls us zs bs cs
mean-counts (upper label) states ls us zs bs cs k e = absurd cc
mean-counts (reach dir label) states ls us zs bs cs k e = absurd cc
mean-counts (until dir stay label) states ls us zs bs cs k e = absurd cc
mean-counts (reward dir name label) states ls us zs bs cs k e = absurd cc
mean-counts (mean dir name) states ls us zs bs cs k e = gains-counts states ls us zs bs cs e
mean-counts (witness dir stay label threshold) states ls us zs bs cs k e = absurd cc
