-- The parts of a text are read exactly where they are the texts of what is read.
use Rattle.std.proofs.Common.{◌≡◌, ◌↔◌, ◌⊎◌, inl, inr, ℕ, suc, ◌+◌, ◌<◌, ◌≤◌, ◌^◌, Bool, true, eqb, ◌&&◌}
use Rattle.std.proofs.Common.{List, [], ◌∷◌, ◌++◌, length, map, Option, None, Result, Ok, Err, refl, sym, ap, subst, ◌∙◌, append_assoc, arith}
use Rattle.std.proofs.{lemmas.List.{length-map, append-nil}, lemmas.List.Elements.{All-cons}}
use Rattle.std.specs.{Prelude.{codes}, List.{All}}
use Rattle.mdp_math.specs.Rational.{ℚ}
use Rattle.mdp_num.specs.Value.{IsNarrow}
use Rattle.mdp_rows.specs.{declared.dir.Dir.{Dir}, declared.dir.Dir.TheVariants.{Max, Min}}
use Rattle.mdp_text.specs.{declared.error.Refusal.{Refusal}, declared.init.Init.{Init}, Heads.{IsInitInWidth}}
use Rattle.mdp_text.specs.{Lines.{◌>>=◌, Place, place, line_by, nothing_behind}, Spelling.{line, init_text}}
use Rattle.mdp_cert.specs.{declared.version.Version.{Version}, Pairs.{IsShort, IsPairInWidth, pairs}}
use Rattle.mdp_cert.specs.{declared.version.Version.TheVariants.{One, Two}, declared.flow_line.FlowLine.{FlowLine}, declared.floor_line.FloorLine.{FloorLine}}
use Rattle.mdp_cert.specs.Cert.{PlainClaim, upper, reach, until, reward, mean, witness, PlainBody, bounds, policy, rewards, gains, flow, floor, Certificate}
use Rattle.mdp_cert.specs.Cert.{are_kept, are_flows, is_init_of, is_body_of, IsValueNarrow, IsFlowInWidth, IsBodyInWidth, Fits}
use Rattle.mdp_cert.specs.Witness.{flow_listed, flow_lines, flow_body, floor_listed, floor_lines, floor_body}
use Rattle.mdp_cert.specs.{Claims.{Value, fraction_value, reward_value}, Entries.{bound_columns, Policy, policy_columns, policies, IsPolicyInWidth, Mean, mean_columns, means, IsMeanInWidth}}
use Rattle.mdp_cert.specs.Spelling.{spread_text, version_text, claim_text, closed_lines, listed_lines, body_text, text_in, text_of, old_text_of}
use Rattle.mdp_cert.specs.{Runs.{Columns}, Laws.{AreSameWords}}
use Rattle.mdp_cert.specs.Reading.{version_at, claim_at, init_at, CertHead, head_from, entries_to_end, policy_body, reward_body, mean_body, spread_at, listed_to_end, body_from, outcome}
use Rattle.mdp_claims.specs.declared.subsystem.Flow.{Flow}
use Rattle.mdp_text.proofs.{Cuts.{same-number, number-same}, Pieces.{Free}, Feeds.{ok-is, bind_ok, judged-found, judged-again, nothing-found}}
use Rattle.mdp_text.proofs.States.{fraction-found, fraction-again, free-fraction}
use Rattle.mdp_cert.proofs.Claims.{IsRight, claim-found, claim-again, free-claim}
use Rattle.mdp_cert.proofs.Numbered.{version-found, version-again, free-version, init-found, init-again, free-init}
use Rattle.mdp_cert.proofs.Columns.{IsColumns, IsValue, fraction-is_value, reward-is_value, same-words}
use Rattle.mdp_cert.proofs.{WordByWord.{each-pair}, StateWords.{bound-is_columns, policy-is_columns, mean-is_columns, ThreeBack, three-back, back, policies-of, means-of}}
use Rattle.mdp_cert.proofs.{Growth.{three-entries, four-entries}, Bodies.{Each, closed-found, closed-again}}
use Rattle.mdp_cert.proofs.{OneByOne.{to_end-found, to_end-again}, Kept.{IsNextLine, flow-is_listed, lines-of, flow-entries, flow-width, flows-again}}
use Rattle.mdp_cert.proofs.Kept.{FloorLists, IsNextFloor, floor-is_listed, floors-of, floor-values, floor-ranks, floor-entries, floor-counts, floors-back, floors-next}
use Rattle.mdp_text.proofs.HeadLines as heads

-- ---- the head

pub record IsInit (claim : PlainClaim) (states : ℕ) (init : Init) : Type 0 where
  pub inside : is_init_of claim states init ≡ true
  pub width : IsInitInWidth init

abbrev pub IsHead : CertHead → Type 0
IsHead = heads.IsHead claim_at init_at claim_text init_text IsRight IsInit

abbrev pub lines-of-head : CertHead → List ℕ
lines-of-head = heads.lines-of-head claim_at init_at claim_text init_text IsRight IsInit

forms : heads.AreForms claim_at init_at claim_text init_text IsRight IsInit
forms = record {
  claim_found = claim-found;
  claim_again = claim-again;
  claim_free = free-claim;
  init_found = λ c states n text i e. (let f = init-found c states n text i e in (f.0, record { inside = f.1; width = f.2 }));
  init_again = λ c states n i limit h. init-again c states n i h.inside limit h.width;
  init_free = λ c states i limit h. free-init c states i h.inside limit h.width;
}

pub head-found : (p : Place) (h : CertHead) (q : Place) → head_from p ≡ Ok (h, q) → heads.FoundHead claim_at init_at claim_text init_text IsRight IsInit p h q
unfolding head_from
head-found p h q e = heads.head-found claim_at init_at claim_text init_text IsRight IsInit forms p h q e

pub head-again : (n : ℕ) (h : CertHead) (rest : List ℕ) → IsHead h → head_from (place n (lines-of-head h ++ rest)) ≡ Ok (h, place (n + 1 + 1 + 1) rest)
unfolding head_from
head-again n h rest is = heads.head-again claim_at init_at claim_text init_text IsRight IsInit forms n h rest is

-- ---- the body

pub record FitsBody (claim : PlainClaim) (states : ℕ) (b : PlainBody) : Type 0 where
  pub entries : is_body_of claim states b ≡ true
  pub width : IsBodyInWidth b

pub record FoundBody (v : Version) (claim : PlainClaim) (states : ℕ) (p : Place) (b : PlainBody) (q : Place) : Type 0 where
  pub text : p.rest ≡ body_text v b ++ q.rest
  pub fits : FitsBody claim states b

pub each-all : {A : Type 0} (P : A → Type 0) (xs : List A) → Each P xs → All P xs
each-all P [] h = λ i d lt. absurd (omega arith)
each-all P (x ∷ xs) h = All-cons P x xs h.0 (each-all P xs h.1)

pub all-each : {A : Type 0} (P : A → Type 0) (xs : List A) → All P xs → Each P xs
all-each P [] h = tt
all-each P (x ∷ xs) h = (h 0 x (omega arith), all-each P xs (λ i d lt. h (suc i) d (omega arith)))

-- what holds of each entry, of one thing that it says
pub all-of : {A B : Type 0} (P : A → Type 0) (Q : B → Type 0) (f : A → B) → ((x : A) → P x → Q (f x)) → (xs : List A) → Each P xs → All Q (map f xs)
all-of {A} P Q f of xs h = each-all Q (map f xs) (each xs h)
  where
    each : (ys : List A) → Each P ys → Each Q (map f ys)
    each [] h = tt
    each (y ∷ ys) h = (of y h.0, each ys h.1)

-- ---- the lines of a policy

module _ {V : Type 0} (k : Value V) (IsInWidth : V → Type 0) (is : IsValue k IsInWidth) (states : ℕ) (limit : states ≤ 2 ^ 20) (v : Version) where
  -- three lists, one of each per state and in width, with their lines
  pub record FoundPolicy (p : Place) (zs : List V) (cs rs : List ℕ) (q : Place) : Type 0 where
    pub text : p.rest ≡ closed_lines v (policy_columns k) (policies zs cs rs) ++ q.rest
    pub entries : (eqb (length zs) states && eqb (length cs) states && eqb (length rs) states) ≡ true
    pub width : All IsInWidth zs × All (λ c. c < 2 ^ 32) cs × All (λ r. r < 2 ^ 32) rs

  pub policy-found : (p : Place) (xs : List (Policy V)) (q : Place) → entries_to_end v (policy_columns k) states p ≡ Ok (xs, q)
      → FoundPolicy p (map (λ x. x.first) xs) (map (λ x. x.others.first) xs) (map (λ x. x.others.others) xs) q
  policy-found p xs q e =
      let f = closed-found (policy_columns k) (IsPolicyInWidth IsInWidth) (policy-is_columns k IsInWidth is) states limit v p xs q e in
      let each : (X : Type 0) (g : Policy V → X) → eqb (length (map g xs)) states ≡ true = λ X g. same-number _ states (length-map xs g ∙ f.count) in
      record {
        text = f.text ∙ ap (λ (ys : List (Policy V)). closed_lines v (policy_columns k) ys ++ q.rest) (sym (policies-of xs));
        entries = rw (each V (λ x. x.first), each ℕ (λ x. x.others.first), each ℕ (λ x. x.others.others)) refl;
        width = (
          all-of (IsPolicyInWidth IsInWidth) IsInWidth (λ x. x.first) (λ x h. h.first) xs f.width,
          all-of (IsPolicyInWidth IsInWidth) IsShort (λ x. x.others.first) (λ x h. h.others.first) xs f.width,
          all-of (IsPolicyInWidth IsInWidth) IsShort (λ x. x.others.others) (λ x h. h.others.others) xs f.width,
        );
      }

  -- the entries of three lists, and the lists of these entries
  pub record AgainPolicy (n : ℕ) (zs : List V) (cs rs rest : List ℕ) : Type 0 where
    pub line : ℕ
    pub read : entries_to_end v (policy_columns k) states (place n (closed_lines v (policy_columns k) (policies zs cs rs) ++ rest)) ≡ Ok (policies zs cs rs, place line rest)
    pub back_to : ThreeBack states zs cs rs

  pub policy-again : (n : ℕ) (zs : List V) (cs rs rest : List ℕ) → (eqb (length zs) states && eqb (length cs) states && eqb (length rs) states) ≡ true
      → All IsInWidth zs × All (λ c. c < 2 ^ 32) cs × All (λ r. r < 2 ^ 32) rs → AgainPolicy n zs cs rs rest
  policy-again n zs cs rs rest ok width =
      let l = three-entries states zs cs rs ok in
      let b = three-back states zs cs rs l.values l.choices l.ranks in
      let r =
      closed-again (policy_columns k) (IsPolicyInWidth IsInWidth) (policy-is_columns k IsInWidth is) states limit v n (policies zs cs rs) rest b.count
      (each-pair IsInWidth (IsPairInWidth IsShort IsShort) zs (pairs cs rs) (all-each IsInWidth zs width.0)
      (each-pair IsShort IsShort cs rs (all-each IsShort cs width.1) (all-each IsShort rs width.2))) in
      record { line = r.0; read = r.1; back_to = b }

-- ---- the lines of mean payoffs

free-spread : (k : ℚ) → IsNarrow k → Free 10 (spread_text k)
free-spread k h = free-fraction (codes "spread") k refl h

spread-found : (n : ℕ) (text : List ℕ) (k : ℚ) → spread_at n text ≡ Ok k → (text ≡ spread_text k) × IsNarrow k
unfolding spread_at
spread-found n text k e = fraction-found (codes "spread") n text k e

spread-again : (n : ℕ) (k : ℚ) → IsNarrow k → spread_at n (spread_text k) ≡ Ok k
unfolding spread_at
spread-again n k h = fraction-again (codes "spread") n k refl h

-- what is read behind the line of the spread, and the body that is made of both
abbrev pub spread-entries : {A B : Type 0} → Version → Columns A → ℕ → (ℚ → List A → B) → ℚ × Place → Result (B × Place) Refusal
spread-entries v k states body spread = entries_to_end v k states spread.1 >>= λ xs. Ok (body spread.0 xs.0, xs.1)

module _ {A : Type 0} (k : Columns A) (IsInWidth : A → Type 0) (is : IsColumns k IsInWidth) (states : ℕ) (limit : states ≤ 2 ^ 20) (v : Version) where
  -- the line of the spread, and entries with their lines
  pub record FoundSpread (p : Place) (spread : ℚ) (xs : List A) (q : Place) : Type 0 where
    pub text : (ys : List A) → ys ≡ xs → p.rest ≡ (line (spread_text spread) ++ closed_lines v k ys) ++ q.rest
    pub narrow : IsNarrow spread
    pub count : length xs ≡ states
    pub width : Each IsInWidth xs

  pub spread-entries-found : {B : Type 0} (body : ℚ → List A → B) (p : Place) (b : B) (q : Place) → (line_by spread_at p >>= spread-entries v k states body) ≡ Ok (b, q)
      → (spread : ℚ) × (xs : List A) × (body spread xs ≡ b) × FoundSpread p spread xs q
  spread-entries-found {B} body p b q e =
      let one = bind_ok (line_by spread_at p) (spread-entries v k states body) (b, q) e in
      let two = bind_ok (entries_to_end v k states one.0.1) (λ xs. Ok (body one.0.0 xs.0, xs.1)) (b, q) one.2 in
      let same : (let r : B × Place = (body one.0.0 two.0.0, two.0.1) in r) ≡ (b, q) = ok-is _ _ two.2 in
      let j = judged-found spread_at p one.0.0 one.0.1 one.1 in
      let s = spread-found p.line j.text one.0.0 j.said in
      let f = closed-found k IsInWidth is states limit v one.0.1 two.0.0 two.0.1 two.1 in (
        one.0.0,
        two.0.0,
        ap (λ (r : B × Place). r.0) same,
        subst (λ (r : Place). FoundSpread p one.0.0 two.0.0 r) (ap (λ (r : B × Place). r.1) same) (record {
          text = λ ys e. joined p.rest j.text (spread_text one.0.0) one.0.1.rest (closed_lines v k two.0.0) (closed_lines v k ys) two.0.1.rest j.is.front s.0 f.text (ap (closed_lines v k) (sym e));
          narrow = s.1;
          count = f.count;
          width = f.width;
        }),
      )
    where
      joined : (a t u r c d z : List ℕ) → a ≡ line t ++ r → t ≡ u → r ≡ c ++ z → c ≡ d → a ≡ (line u ++ d) ++ z
      joined a t u r c d z p q o e = rw (p, q, o, e) (sym (append_assoc (line u) d z))

  pub spread-entries-again : {B : Type 0} (body : ℚ → List A → B) (n : ℕ) (spread : ℚ) (xs : List A) (rest : List ℕ) → IsNarrow spread → length xs ≡ states → Each IsInWidth xs
      → (m : ℕ) × ((line_by spread_at (place n ((line (spread_text spread) ++ closed_lines v k xs) ++ rest)) >>= spread-entries v k states body) ≡ Ok (body spread xs, place m rest))
  spread-entries-again {B} body n spread xs rest narrow count width =
      let r = closed-again k IsInWidth is states limit v (n + 1) xs rest count width in (
        r.0,
        ap (λ (t : List ℕ). line_by spread_at (place n t) >>= spread-entries v k states body) (append_assoc (line (spread_text spread)) (closed_lines v k xs) rest)
            ∙ ap (λ (q : Result (ℚ × Place) Refusal). q >>= spread-entries v k states body)
            (judged-again spread_at n (spread_text spread) (closed_lines v k xs ++ rest) spread (free-spread spread narrow) (spread-again n spread narrow))
            ∙ ap (λ (q : Result (List A × Place) Refusal). q >>= λ ys. let z : Result (B × Place) Refusal = Ok (body spread ys.0, ys.1) in z) r.1,
      )

mean-found : (v : Version) (dir : Dir) (name : List ℕ) (states : ℕ) (p : Place) (b : PlainBody) (q : Place) → states ≤ 2 ^ 20 → body_from v (mean dir name) states p ≡ Ok (b, q)
    → FoundBody v (mean dir name) states p b q
unfolding body_from
mean-found v dir name states p b q limit e =
    let s = spread-entries-found mean_columns IsMeanInWidth mean-is_columns states limit v mean_body p b q e in
    let xs = s.1 in
    let f = s.3 in
    let each : (X : Type 0) (g : Mean → X) → eqb (length (map g xs)) states ≡ true = λ X g. same-number _ states (length-map xs g ∙ f.count) in
    subst (λ (c : PlainBody). FoundBody v (mean dir name) states p c q) s.2 (record {
      text = f.text _ (means-of xs);
      fits = record {
        entries = rw (each ℚ (λ x. x.first), each ℚ (λ x. x.others.first), each ℚ (λ x. x.others.others.first), each ℕ (λ x. x.others.others.others)) refl;
        width = (
          all-of IsMeanInWidth IsNarrow (λ x. x.first) (λ x h. h.first) xs f.width,
          all-of IsMeanInWidth IsNarrow (λ x. x.others.first) (λ x h. h.others.first) xs f.width,
          all-of IsMeanInWidth IsNarrow (λ x. x.others.others.first) (λ x h. h.others.others.first) xs f.width,
          all-of IsMeanInWidth IsShort (λ x. x.others.others.others) (λ x h. h.others.others.others) xs f.width,
          f.narrow,
        );
      };
    })

mean-again : (v : Version) (dir : Dir) (name : List ℕ) (states n : ℕ) (gs zs bs : List ℚ) (cs : List ℕ) (k : ℚ) (rest : List ℕ) → states ≤ 2 ^ 20
    → FitsBody (mean dir name) states (gains gs zs bs cs k)
    → (m : ℕ) × (body_from v (mean dir name) states (place n (body_text v (gains gs zs bs cs k) ++ rest)) ≡ Ok (gains gs zs bs cs k, place m rest))
unfolding body_from
mean-again v dir name states n gs zs bs cs k rest limit ok =
    let l = four-entries states gs zs bs cs ok.entries in
    let b = back states gs zs bs cs (record { lower = l.gains; upper = l.bounds; choices = l.biases; ranks = l.choices }) in
    let r =
    spread-entries-again mean_columns IsMeanInWidth mean-is_columns states limit v mean_body n k (means gs zs bs cs) rest ok.width.4 b.count
    (each-pair IsNarrow _ gs (pairs zs (pairs bs cs)) (all-each IsNarrow gs ok.width.0)
    (each-pair IsNarrow _ zs (pairs bs cs) (all-each IsNarrow zs ok.width.1)
    (each-pair IsNarrow IsShort bs cs (all-each IsNarrow bs ok.width.2) (all-each IsShort cs ok.width.3)))) in
    (r.0, r.1 ∙ ap (λ (c : PlainBody). let z : Result (PlainBody × Place) Refusal = Ok (c, place r.0 rest) in z) (parts _ _ _ _ _ _ _ _ b.lower b.upper b.choices b.ranks))
  where
    parts : (a b c d e f : List ℚ) (g h : List ℕ) → a ≡ b → c ≡ d → e ≡ f → g ≡ h → gains a c e g k ≡ gains b d f h k
    parts a b c d e f g h p q o t = rw (p, q, o, t) refl

-- ---- the lines of a subsystem

abbrev flows-behind : List FlowLine × Place → Result (PlainBody × Place) Refusal
flows-behind xs = Ok (flow_body xs.0, xs.1)

abbrev floors-behind : List FloorLine × Place → Result (PlainBody × Place) Refusal
floors-behind xs = Ok (floor_body xs.0, xs.1)

flows-found : (v : Version) (stay : Option (List ℕ)) (label : List ℕ) (t : ℚ) (states : ℕ) (p : Place) (b : PlainBody) (q : Place) → states ≤ 2 ^ 20
    → (listed_to_end flow_listed states p >>= flows-behind) ≡ Ok (b, q) → FoundBody v (witness Max stay label t) states p b q
flows-found v stay label t states p b q limit e =
    let all = bind_ok (listed_to_end flow_listed states p) flows-behind (b, q) e in
    let xs = all.0.0 in
    let same : (let r : PlainBody × Place = (flow_body xs, all.0.1) in r) ≡ (b, q) = ok-is _ _ all.2 in
    let f = to_end-found flow_listed states (IsNextLine states limit) (flow-is_listed states limit) p xs all.0.1 all.1 in
    subst (λ (r : PlainBody × Place). FoundBody v (witness Max stay label t) states p r.0 r.1) same (record {
      text = f.text ∙ ap (λ (ys : List FlowLine). listed_lines flow_listed ys ++ all.0.1.rest) (sym (lines-of states limit None xs f.next));
      fits = record { entries = flow-entries states limit xs f.next; width = each-all IsFlowInWidth _ (flow-width states limit None xs f.next) };
    })

floors-found : (v : Version) (stay : Option (List ℕ)) (label : List ℕ) (t : ℚ) (states : ℕ) (p : Place) (b : PlainBody) (q : Place) → states ≤ 2 ^ 20
    → (listed_to_end floor_listed states p >>= floors-behind) ≡ Ok (b, q) → FoundBody v (witness Min stay label t) states p b q
floors-found v stay label t states p b q limit e =
    let all = bind_ok (listed_to_end floor_listed states p) floors-behind (b, q) e in
    let xs = all.0.0 in
    let same : (let r : PlainBody × Place = (floor_body xs, all.0.1) in r) ≡ (b, q) = ok-is _ _ all.2 in
    let f = to_end-found floor_listed states (IsNextFloor states limit) (floor-is_listed states limit) p xs all.0.1 all.1 in
    subst (λ (r : PlainBody × Place). FoundBody v (witness Min stay label t) states p r.0 r.1) same (record {
      text = f.text ∙ ap (λ (ys : List FloorLine). listed_lines floor_listed ys ++ all.0.1.rest) (sym (floors-of states limit xs));
      fits = record {
        entries = floor-entries states limit xs f.next;
        width = (each-all IsNarrow _ (floor-values states limit None xs f.next), each-all (λ r. r < 2 ^ 32) _ (floor-ranks states limit None xs f.next));
      };
    })

flows-read : (v : Version) (states n : ℕ) (kept : List ℕ) (wide : List Bool) (flows : List Flow) (rest : List ℕ) → states ≤ 2 ^ 20
    → (are_kept states None kept && eqb (length wide) (length kept) && are_flows states None flows) ≡ true → IsBodyInWidth (flow kept wide flows)
    → (m : ℕ) × ((listed_to_end flow_listed states (place n (body_text v (flow kept wide flows) ++ rest)) >>= flows-behind) ≡ Ok (flow kept wide flows, place m rest))
flows-read v states n kept wide flows rest limit ok width =
    let a = flows-again states limit kept wide flows ok (all-each IsFlowInWidth flows width) in
    let r = to_end-again flow_listed states (IsNextLine states limit) (flow-is_listed states limit) n (flow_lines kept wide flows) rest a.next in (
      r.0,
      ap (λ (q : Result (List FlowLine × Place) Refusal). q >>= flows-behind) r.1
          ∙ ap (λ (b : PlainBody). let z : Result (PlainBody × Place) Refusal = Ok (b, place r.0 rest) in z) (parts _ _ _ _ _ _ a.kept_is a.wide_is a.flows_are),
    )
  where
    parts : (a b : List ℕ) (c d : List Bool) (f g : List Flow) → a ≡ b → c ≡ d → f ≡ g → flow a c f ≡ flow b d g
    parts a b c d f g p q o = rw (p, q, o) refl

floors-read : (v : Version) (states n : ℕ) (kept : List ℕ) (wide : List Bool) (values : List ℚ) (ranks rest : List ℕ) → states ≤ 2 ^ 20
    → (are_kept states None kept && eqb (length wide) (length kept) && eqb (length values) (length kept) && eqb (length ranks) (length kept)) ≡ true
    → IsBodyInWidth (floor kept wide values ranks)
    → (m : ℕ) × ((listed_to_end floor_listed states (place n (body_text v (floor kept wide values ranks) ++ rest)) >>= floors-behind) ≡ Ok (floor kept wide values ranks, place m rest))
floors-read v states n kept wide values ranks rest limit ok width =
    let c = floor-counts states limit kept wide values ranks ok in
    let next = floors-next states limit kept wide values ranks c.0 (all-each IsNarrow values width.0) (all-each (λ r. r < 2 ^ 32) ranks width.1) in
    let r = to_end-again floor_listed states (IsNextFloor states limit) (floor-is_listed states limit) n (floor_lines kept wide values ranks) rest next in (
      r.0,
      ap (λ (q : Result (List FloorLine × Place) Refusal). q >>= floors-behind) r.1
          ∙ ap (λ (t : FloorLists). let z : Result (PlainBody × Place) Refusal = Ok (floor t.0 t.1 t.2 t.3, place r.0 rest) in z) (floors-back states limit kept wide values ranks c.1),
    )

-- ---- by the claim

pub body-found : (v : Version) (claim : PlainClaim) (states : ℕ) (p : Place) (b : PlainBody) (q : Place) → states ≤ 2 ^ 20 → body_from v claim states p ≡ Ok (b, q)
    → FoundBody v claim states p b q
unfolding body_from
body-found v (upper label) states p b q limit e =
    let all = bind_ok (entries_to_end v bound_columns states p) (λ xs. Ok (bounds xs.0, xs.1)) (b, q) e in
    let same : (let r : PlainBody × Place = (bounds all.0.0, all.0.1) in r) ≡ (b, q) = ok-is _ _ all.2 in
    let f = closed-found bound_columns IsNarrow bound-is_columns states limit v p all.0.0 all.0.1 all.1 in
    subst (λ (r : PlainBody × Place). FoundBody v (upper label) states p r.0 r.1) same
    (record { text = f.text; fits = record { entries = same-number _ states f.count; width = each-all IsNarrow all.0.0 f.width } })
body-found v (reach dir label) states p b q limit e =
    let all = bind_ok (entries_to_end v (policy_columns fraction_value) states p) (λ xs. Ok (policy_body xs.0, xs.1)) (b, q) e in
    let same : (let r : PlainBody × Place = (policy_body all.0.0, all.0.1) in r) ≡ (b, q) = ok-is _ _ all.2 in
    let f = policy-found fraction_value IsNarrow fraction-is_value states limit v p all.0.0 all.0.1 all.1 in
    subst (λ (r : PlainBody × Place). FoundBody v (reach dir label) states p r.0 r.1) same (record { text = f.text; fits = record { entries = f.entries; width = f.width } })
body-found v (until dir stay label) states p b q limit e =
    let all = bind_ok (entries_to_end v (policy_columns fraction_value) states p) (λ xs. Ok (policy_body xs.0, xs.1)) (b, q) e in
    let same : (let r : PlainBody × Place = (policy_body all.0.0, all.0.1) in r) ≡ (b, q) = ok-is _ _ all.2 in
    let f = policy-found fraction_value IsNarrow fraction-is_value states limit v p all.0.0 all.0.1 all.1 in
    subst (λ (r : PlainBody × Place). FoundBody v (until dir stay label) states p r.0 r.1) same (record { text = f.text; fits = record { entries = f.entries; width = f.width } })
body-found v (reward dir name label) states p b q limit e =
    let all = bind_ok (entries_to_end v (policy_columns reward_value) states p) (λ xs. Ok (reward_body xs.0, xs.1)) (b, q) e in
    let same : (let r : PlainBody × Place = (reward_body all.0.0, all.0.1) in r) ≡ (b, q) = ok-is _ _ all.2 in
    let f = policy-found reward_value IsValueNarrow reward-is_value states limit v p all.0.0 all.0.1 all.1 in
    subst (λ (r : PlainBody × Place). FoundBody v (reward dir name label) states p r.0 r.1) same (record { text = f.text; fits = record { entries = f.entries; width = f.width } })
body-found v (mean dir name) states p b q limit e = mean-found v dir name states p b q limit e
body-found v (witness Max stay label t) states p b q limit e = flows-found v stay label t states p b q limit e
body-found v (witness Min stay label t) states p b q limit e = floors-found v stay label t states p b q limit e

abbrev bounds-of : List ℚ × Place → Result (PlainBody × Place) Refusal
bounds-of xs = Ok (bounds xs.0, xs.1)

abbrev policy-of : List (Policy ℚ) × Place → Result (PlainBody × Place) Refusal
policy-of xs = Ok (policy_body xs.0, xs.1)

abbrev rewards-of : List (Policy (Option ℚ)) × Place → Result (PlainBody × Place) Refusal
rewards-of xs = Ok (reward_body xs.0, xs.1)

-- a body that was read, which is this one
abbrev read-as : ℕ → List ℕ → PlainBody → Result (PlainBody × Place) Refusal
read-as m rest b = Ok (b, place m rest)

bounds-again : (v : Version) (states n : ℕ) (zs : List ℚ) (rest : List ℕ) → states ≤ 2 ^ 20 → eqb (length zs) states ≡ true → All IsNarrow zs
    → (m : ℕ) × ((entries_to_end v bound_columns states (place n (body_text v (bounds zs) ++ rest)) >>= bounds-of) ≡ read-as m rest (bounds zs))
bounds-again v states n zs rest limit ok width =
    let r = closed-again bound_columns IsNarrow bound-is_columns states limit v n zs rest (number-same _ states ok) (all-each IsNarrow zs width) in
    (r.0, ap (λ (q : Result (List ℚ × Place) Refusal). q >>= bounds-of) r.1)

reach-again : (v : Version) (states n : ℕ) (zs : List ℚ) (cs rs rest : List ℕ) → states ≤ 2 ^ 20 → (eqb (length zs) states && eqb (length cs) states && eqb (length rs) states) ≡ true
    → IsBodyInWidth (policy zs cs rs)
    → (m : ℕ) × ((entries_to_end v (policy_columns fraction_value) states (place n (body_text v (policy zs cs rs) ++ rest)) >>= policy-of) ≡ read-as m rest (policy zs cs rs))
reach-again v states n zs cs rs rest limit ok width =
    let r = policy-again fraction_value IsNarrow fraction-is_value states limit v n zs cs rs rest ok width in (
      r.line,
      ap (λ (q : Result (List (Policy ℚ) × Place) Refusal). q >>= policy-of) r.read ∙ ap (read-as r.line rest) (parts _ _ _ _ _ _ r.back_to.first r.back_to.second r.back_to.third),
    )
  where
    parts : (zs ys : List ℚ) (cs ds rs ss : List ℕ) → zs ≡ ys → cs ≡ ds → rs ≡ ss → policy zs cs rs ≡ policy ys ds ss
    parts zs ys cs ds rs ss e f g = rw (e, f, g) refl

reward-again : (v : Version) (states n : ℕ) (zs : List (Option ℚ)) (cs rs rest : List ℕ) → states ≤ 2 ^ 20
    → (eqb (length zs) states && eqb (length cs) states && eqb (length rs) states) ≡ true → IsBodyInWidth (rewards zs cs rs)
    → (m : ℕ) × ((entries_to_end v (policy_columns reward_value) states (place n (body_text v (rewards zs cs rs) ++ rest)) >>= rewards-of) ≡ read-as m rest (rewards zs cs rs))
reward-again v states n zs cs rs rest limit ok width =
    let r = policy-again reward_value IsValueNarrow reward-is_value states limit v n zs cs rs rest ok width in (
      r.line,
      ap (λ (q : Result (List (Policy (Option ℚ)) × Place) Refusal). q >>= rewards-of) r.read ∙ ap (read-as r.line rest) (parts _ _ _ _ _ _ r.back_to.first r.back_to.second r.back_to.third),
    )
  where
    parts : (zs ys : List (Option ℚ)) (cs ds rs ss : List ℕ) → zs ≡ ys → cs ≡ ds → rs ≡ ss → rewards zs cs rs ≡ rewards ys ds ss
    parts zs ys cs ds rs ss e f g = rw (e, f, g) refl

pub body-again : (v : Version) (claim : PlainClaim) (states n : ℕ) (b : PlainBody) (rest : List ℕ) → states ≤ 2 ^ 20 → FitsBody claim states b
    → (m : ℕ) × (body_from v claim states (place n (body_text v b ++ rest)) ≡ Ok (b, place m rest))
unfolding body_from
body-again v (upper label) states n (bounds zs) rest limit ok = bounds-again v states n zs rest limit ok.entries ok.width
body-again v (upper label) states n (policy zs cs rs) rest limit ok = absurd (let t = ok.entries in cc)
body-again v (upper label) states n (rewards zs cs rs) rest limit ok = absurd (let t = ok.entries in cc)
body-again v (upper label) states n (gains gs zs bs cs k) rest limit ok = absurd (let t = ok.entries in cc)
body-again v (upper label) states n (flow kept wide flows) rest limit ok = absurd (let t = ok.entries in cc)
body-again v (upper label) states n (floor kept wide values ranks) rest limit ok = absurd (let t = ok.entries in cc)
body-again v (reach dir label) states n (bounds zs) rest limit ok = absurd (let t = ok.entries in cc)
body-again v (reach dir label) states n (policy zs cs rs) rest limit ok = reach-again v states n zs cs rs rest limit ok.entries ok.width
body-again v (reach dir label) states n (rewards zs cs rs) rest limit ok = absurd (let t = ok.entries in cc)
body-again v (reach dir label) states n (gains gs zs bs cs k) rest limit ok = absurd (let t = ok.entries in cc)
body-again v (reach dir label) states n (flow kept wide flows) rest limit ok = absurd (let t = ok.entries in cc)
body-again v (reach dir label) states n (floor kept wide values ranks) rest limit ok = absurd (let t = ok.entries in cc)
body-again v (until dir stay label) states n (bounds zs) rest limit ok = absurd (let t = ok.entries in cc)
body-again v (until dir stay label) states n (policy zs cs rs) rest limit ok = reach-again v states n zs cs rs rest limit ok.entries ok.width
body-again v (until dir stay label) states n (rewards zs cs rs) rest limit ok = absurd (let t = ok.entries in cc)
body-again v (until dir stay label) states n (gains gs zs bs cs k) rest limit ok = absurd (let t = ok.entries in cc)
body-again v (until dir stay label) states n (flow kept wide flows) rest limit ok = absurd (let t = ok.entries in cc)
body-again v (until dir stay label) states n (floor kept wide values ranks) rest limit ok = absurd (let t = ok.entries in cc)
body-again v (reward dir name label) states n (bounds zs) rest limit ok = absurd (let t = ok.entries in cc)
body-again v (reward dir name label) states n (policy zs cs rs) rest limit ok = absurd (let t = ok.entries in cc)
body-again v (reward dir name label) states n (rewards zs cs rs) rest limit ok = reward-again v states n zs cs rs rest limit ok.entries ok.width
body-again v (reward dir name label) states n (gains gs zs bs cs k) rest limit ok = absurd (let t = ok.entries in cc)
body-again v (reward dir name label) states n (flow kept wide flows) rest limit ok = absurd (let t = ok.entries in cc)
body-again v (reward dir name label) states n (floor kept wide values ranks) rest limit ok = absurd (let t = ok.entries in cc)
body-again v (mean dir name) states n (bounds zs) rest limit ok = absurd (let t = ok.entries in cc)
body-again v (mean dir name) states n (policy zs cs rs) rest limit ok = absurd (let t = ok.entries in cc)
body-again v (mean dir name) states n (rewards zs cs rs) rest limit ok = absurd (let t = ok.entries in cc)
body-again v (mean dir name) states n (gains gs zs bs cs k) rest limit ok = mean-again v dir name states n gs zs bs cs k rest limit ok
body-again v (mean dir name) states n (flow kept wide flows) rest limit ok = absurd (let t = ok.entries in cc)
body-again v (mean dir name) states n (floor kept wide values ranks) rest limit ok = absurd (let t = ok.entries in cc)
body-again v (witness Max stay label t) states n (bounds zs) rest limit ok = absurd (let t = ok.entries in cc)
body-again v (witness Max stay label t) states n (policy zs cs rs) rest limit ok = absurd (let t = ok.entries in cc)
body-again v (witness Max stay label t) states n (rewards zs cs rs) rest limit ok = absurd (let t = ok.entries in cc)
body-again v (witness Max stay label t) states n (gains gs zs bs cs k) rest limit ok = absurd (let t = ok.entries in cc)
body-again v (witness Max stay label t) states n (flow kept wide flows) rest limit ok = flows-read v states n kept wide flows rest limit ok.entries ok.width
body-again v (witness Max stay label t) states n (floor kept wide values ranks) rest limit ok = absurd (let t = ok.entries in cc)
body-again v (witness Min stay label t) states n (bounds zs) rest limit ok = absurd (let t = ok.entries in cc)
body-again v (witness Min stay label t) states n (policy zs cs rs) rest limit ok = absurd (let t = ok.entries in cc)
body-again v (witness Min stay label t) states n (rewards zs cs rs) rest limit ok = absurd (let t = ok.entries in cc)
body-again v (witness Min stay label t) states n (gains gs zs bs cs k) rest limit ok = absurd (let t = ok.entries in cc)
body-again v (witness Min stay label t) states n (flow kept wide flows) rest limit ok = absurd (let t = ok.entries in cc)
body-again v (witness Min stay label t) states n (floor kept wide values ranks) rest limit ok = floors-read v states n kept wide values ranks rest limit ok.entries ok.width

-- ---- the whole text

abbrev pub whole : CertHead → PlainBody → Certificate
whole h b = record { claim = h.claim; states = h.states; init = h.init; body = b }

abbrev pub whole-end : CertHead → PlainBody × Place → Result Certificate Refusal
whole-end h body = nothing_behind body.1 >>= λ nothing. Ok (whole h body.0)

abbrev pub whole-body : Version → CertHead × Place → Result Certificate Refusal
whole-body v head = body_from v head.0.claim head.0.states head.1 >>= whole-end head.0

abbrev pub whole-head : Version × Place → Result Certificate Refusal
whole-head version = head_from version.1 >>= whole-body version.0

pub record FoundText (bytes : List ℕ) (c : Certificate) : Type 0 where
  pub version : Version
  pub text : bytes ≡ text_in version c
  pub fits : Fits c

pub text-found : (bytes : List ℕ) (c : Certificate) → outcome bytes ≡ Ok c → FoundText bytes c
unfolding outcome text_in
text-found bytes c e =
    let one = bind_ok (line_by version_at (place 1 bytes)) whole-head c e in
    let head = bind_ok (head_from one.0.1) (whole-body one.0.0) c one.2 in
    let body = bind_ok (body_from one.0.0 head.0.0.claim head.0.0.states head.0.1) (whole-end head.0.0) c head.2 in
    let end = bind_ok (nothing_behind body.0.1) (λ nothing. Ok (whole head.0.0 body.0.0)) c body.2 in
    let same : whole head.0.0 body.0.0 ≡ c = ok-is _ _ end.2 in
    let j = judged-found version_at (place 1 bytes) one.0.0 one.0.1 one.1 in
    let h = head-found one.0.1 head.0.0 head.0.1 head.1 in
    let b = body-found one.0.0 head.0.0.claim head.0.0.states head.0.1 body.0.0 body.0.1 h.is.limit body.1 in
    let z = nothing-found body.0.1 end.0 end.1 in
    subst (λ (d : Certificate). FoundText bytes d) same (record {
      version = one.0.0;
      text =
          j.is.front
          ∙ joined j.text (version_text one.0.0) one.0.1.rest (lines-of-head head.0.0) head.0.1.rest (body_text one.0.0 body.0.0) body.0.1.rest
          (version-found 1 j.text one.0.0 j.said) h.text b.text z;
      fits = record {
        some = h.is.some;
        limit = h.is.limit;
        names = h.is.claim.names;
        threshold = h.is.claim.threshold;
        inside = h.is.init.inside;
        entries = b.fits.entries;
        claim_width = h.is.claim.width;
        init_width = h.is.init.width;
        body_width = b.fits.width;
      };
    })
  where
    joined : (a a' r h s b t : List ℕ) → a ≡ a' → r ≡ h ++ s → s ≡ b ++ t → t ≡ [] → line a ++ r ≡ line a' ++ (h ++ b)
    joined a a' r h s b t p q u v = rw (q, u, v, p, append-nil b) refl

pub text-again : (v : Version) (c : Certificate) → Fits c → outcome (text_in v c) ≡ Ok c
unfolding outcome text_in nothing_behind
text-again v c ok =
    let h : CertHead = record { claim = c.claim; states = c.states; init = c.init } in
    let claim : IsRight c.claim = record { names = ok.names; threshold = ok.threshold; width = ok.claim_width } in
    let head : IsHead h = record { some = ok.some; limit = ok.limit; claim = claim; init = record { inside = ok.inside; width = ok.init_width } } in
    let body : FitsBody c.claim c.states c.body = record { entries = ok.entries; width = ok.body_width } in
    let b = body-again v c.claim c.states (1 + 1 + 1 + 1 + 1) c.body [] ok.limit body in
    ap (λ (r : Result (Version × Place) Refusal). r >>= whole-head) (judged-again version_at 1 (version_text v) (lines-of-head h ++ body_text v c.body) v (free-version v) (version-again 1 v))
    ∙ ap (λ (r : Result (CertHead × Place) Refusal). r >>= whole-body v) (head-again (1 + 1) h (body_text v c.body) head)
    ∙ ap (λ (t : List ℕ). body_from v c.claim c.states (place (1 + 1 + 1 + 1 + 1) t) >>= whole-end h) (sym (append-nil (body_text v c.body)))
    ∙ ap (λ (r : Result (PlainBody × Place) Refusal). r >>= whole-end h) b.1

-- ---- the laws

abbrev pub IsTextOf : List ℕ → Certificate → Type 0
IsTextOf bytes c = (bytes ≡ text_of c) ⊎ (bytes ≡ old_text_of c)

either : (v : Version) (bytes : List ℕ) (c : Certificate) → bytes ≡ text_in v c → IsTextOf bytes c
either One bytes c e = inr e
either Two bytes c e = inl e

from-text : (bytes : List ℕ) (c : Certificate) → Fits c → IsTextOf bytes c → outcome bytes ≡ Ok c
from-text bytes c fits (inl e) = ap outcome e ∙ text-again Two c fits
from-text bytes c fits (inr e) = ap outcome e ∙ text-again One c fits

pub read-from-text : (bytes : List ℕ) (c : Certificate) → (outcome bytes ≡ Ok c) ↔ (Fits c × IsTextOf bytes c)
read-from-text bytes c = (λ e. (let f = text-found bytes c e in (f.fits, either f.version bytes c f.text)), λ p. from-text bytes c p.0 p.1)

pub read-back : (c : Certificate) → Fits c → (outcome (text_of c) ≡ Ok c) × (outcome (old_text_of c) ≡ Ok c)
read-back c fits = (text-again Two c fits, text-again One c fits)

-- the version of a text
version-read : (v : Version) (c : Certificate)
    → line_by version_at (place 1 (text_in v c)) ≡ Ok (v, place (1 + 1) (lines-of-head (record { claim = c.claim; states = c.states; init = c.init }) ++ body_text v c.body))
unfolding text_in
version-read v c =
    judged-again version_at 1 (version_text v) (lines-of-head (record { claim = c.claim; states = c.states; init = c.init }) ++ body_text v c.body) v (free-version v) (version-again 1 v)

pub one-text : (v w : Version) (c d : Certificate) → Fits c → Fits d → text_in v c ≡ text_in w d → (v ≡ w) × (c ≡ d)
one-text v w c d p q e =
    let versions = ok-is _ _ (sym (version-read v c) ∙ ap (λ (bytes : List ℕ). line_by version_at (place 1 bytes)) e ∙ version-read w d) in
    (ap (λ (r : Version × Place). r.0) versions, ok-is c d (sym (text-again v c p) ∙ ap outcome e ∙ text-again w d q))

pub read-or-refused : (bytes : List ℕ) → ((c : Certificate) × Fits c × IsTextOf bytes c) ⊎ ((r : Refusal) × (outcome bytes ≡ Err r))
read-or-refused bytes = by (outcome bytes) refl
  where
    by : (o : Result Certificate Refusal) → outcome bytes ≡ o → ((c : Certificate) × Fits c × IsTextOf bytes c) ⊎ ((r : Refusal) × (outcome bytes ≡ Err r))
    by (Ok c) e = let f = text-found bytes c e in inl (c, f.fits, either f.version bytes c f.text)
    by (Err r) e = inr (r, e)

pub not-both : (bytes : List ℕ) (c : Certificate) (r : Refusal) → Fits c → IsTextOf bytes c → outcome bytes ≡ Err r → ⊥
not-both bytes c r fits is e = apart c r (sym (from-text bytes c fits is) ∙ e)
  where
    apart : (c : Certificate) (r : Refusal) → Ok c ≡ Err r → ⊥
    apart c r e = absurd cc

pub are-same-words : AreSameWords
are-same-words = record {
  bounds = same-words bound_columns IsNarrow bound-is_columns;
  policies = same-words (policy_columns fraction_value) (IsPolicyInWidth IsNarrow) (policy-is_columns fraction_value IsNarrow fraction-is_value);
  rewards = same-words (policy_columns reward_value) (IsPolicyInWidth IsValueNarrow) (policy-is_columns reward_value IsValueNarrow reward-is_value);
  means = same-words mean_columns IsMeanInWidth mean-is_columns;
}
