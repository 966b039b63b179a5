-- A query has one end at most.
use Rattle.std.proofs.Common.{◌≡◌, inl, inr, ℕ, ◌<◌, List, map, get_or, Option, None, Result, Ok, Err, sym, ap, ◌∙◌, subst, arith}
use Rattle.std.specs.{List.{range_with_len}, Prelude.{slice_index, slice_index_or}}
use Rattle.mdp_math.specs.Rational.{ℚ}
use Rattle.mdp_math.proofs.Numbers.{le_or}
use Rattle.mdp_spec.specs.Mdp.{Mdp, states_of, value_at}
use Rattle.mdp_rows.specs.declared.dir.Dir.{Dir}
use Rattle.mdp_wide.specs.Term.{WideTerm}
use Rattle.mdp_ends.specs.{Ends.{part_of, count_of, AreEnds}, Quotient.{nodes_in}}
use Rattle.mdp_ends.proofs.{Numbering.{case-number, numbered-below}, RoundLaws.{has-number}, Exits.{node-has}, OneNumbering.{one_ends, one_nodes}}
use Rattle.mdp_quot.specs.{Quotient.{Quotient, IsQuotient, node_rows}, ExitsLaws.{StepsHaveOneEnd, OuterHasOneEnd}}
use Rattle.mdp_ends.specs.Quotient as ends_quotient
use Rattle.mdp_gain.specs.{Query.{Answer}, Best.{bias_at, taken_at}}
use Rattle.mdp_gain.specs.Query as inner
use Rattle.mdp_gain.specs.Laws as gain
use Rattle.mdp_quot.specs.Outer as outer
use Rattle.mdp_farkas.specs.Compare.{0ℚ}
use Rattle.mdp_claims.specs.{declared.verdict.Verdict.{Verdict}, declared.verdict.Verdict.TheVariants.{Yes, No, Wide}}
use Rattle.mdp_graph.proofs.OnePass.{same_list}
use Rattle.mdp_mean.specs.{Terms.{Joining}, Join.{Place, Joined, written_join}, Inners.{Inners, AreAnswers, AreInners, IsRefused, InnersEndSo}}
use Rattle.mdp_mean.specs.{Query.{Held, AfterJoin, joining, AfterSteps, AfterOuter, AfterQuotient, AfterInners, EndsSo}, Laws.{HasReward}}
use Rattle.mdp_mean.specs.Query as query

pub ok_is : {A R : Type 0} (x y : A) → (let r : Result A R = Ok x in r) ≡ Ok y → x ≡ y
ok_is x y e = cc

pub ok_no_err : {A R : Type 0} (x : A) (y : R) → (let r : Result A R = Ok x in r) ≡ Err y → ⊥
ok_no_err x y e = cc

-- ---- the end components

module _ (dir : Dir) (m : Mdp) (r : ℕ) (has : HasReward m r) (once : gain.HasOneEnd) (parts : List (Option ℕ)) (are : AreEnds m parts) where
  part-once : (i : ℕ) → i < count_of parts → (p q : Result Answer WideTerm) → inner.EndsSo dir m parts i r p → inner.EndsSo dir m parts i r q → p ≡ q
  part-once i l p q h k = let w = once dir m parts i r (record { model = has.model.mdp; ends = are; below = l }) in w.2 p h ∙ sym (w.2 q k)

  module _ (x y : Inners) (a : AreInners dir m parts r (count_of parts) x) (b : AreInners dir m parts r (count_of parts) y) where
    gain-same : (i : ℕ) → i < count_of parts → value_at x.gains i ≡ value_at y.gains i
    gain-same i l =
        let u = a.answered i l in
        let v = b.answered i l in
        let e : u.0 ≡ v.0 = ok_is u.0 v.0 (part-once i l (Ok u.0) (Ok v.0) u.1 v.1) in
        AreAnswers.gain u.2 ∙ ap (λ (c : Answer). c.gain) e ∙ sym (AreAnswers.gain v.2)

    bias-same : (s : ℕ) → s < states_of m → value_at x.bias s ≡ value_at y.bias s
    bias-same s h = elim (case-number (part_of parts s)) as (λ _. value_at x.bias s ≡ value_at y.bias s) [
      | inl none ↦ a.no_bias s h none ∙ sym (b.no_bias s h none)
      | inr w ↦
          (let l = numbered-below 0 parts s w.0 are.numbered w.1 in
          let u = a.answered w.0 l in
          let v = b.answered w.0 l in
          let e : u.0 ≡ v.0 = ok_is u.0 v.0 (part-once w.0 l (Ok u.0) (Ok v.0) u.1 v.1) in
          let in_ = has-number w.0 (part_of parts s) w.1 in
          AreAnswers.bias u.2 s h in_ ∙ ap (λ (c : Answer). bias_at c s) e ∙ sym (AreAnswers.bias v.2 s h in_))
    ]

    choice-same : (s : ℕ) → s < states_of m → slice_index x.choices s ≡ slice_index y.choices s
    choice-same s h = elim (case-number (part_of parts s)) as (λ _. slice_index x.choices s ≡ slice_index y.choices s) [
      | inl none ↦ a.no_choice s h none ∙ sym (b.no_choice s h none)
      | inr w ↦
          (let l = numbered-below 0 parts s w.0 are.numbered w.1 in
          let u = a.answered w.0 l in
          let v = b.answered w.0 l in
          let e : u.0 ≡ v.0 = ok_is u.0 v.0 (part-once w.0 l (Ok u.0) (Ok v.0) u.1 v.1) in
          let in_ = has-number w.0 (part_of parts s) w.1 in
          AreAnswers.choices u.2 s h in_ ∙ ap (λ (c : Answer). taken_at c s) e ∙ sym (AreAnswers.choices v.2 s h in_))
    ]

    inners-same : x ≡ y
    inners-same =
        ap (λ (g : List ℚ). let z : Inners = record { gains = g; bias = x.bias; choices = x.choices } in z) (same_list (count_of parts) x.gains y.gains 0ℚ a.gain_each b.gain_each gain-same)
        ∙ ap (λ (g : List ℚ). let z : Inners = record { gains = y.gains; bias = g; choices = x.choices } in z) (same_list (states_of m) x.bias y.bias 0ℚ a.bias_each b.bias_each bias-same)
        ∙ ap (λ (g : List ℕ). let z : Inners = record { gains = y.gains; bias = y.bias; choices = g } in z) (same_list (states_of m) x.choices y.choices 0 a.choice_each b.choice_each choice-same)

  refused-first : (i k : ℕ) (v w : WideTerm) → IsRefused dir m parts r i v → IsRefused dir m parts r k w → i < k → ⊥
  refused-first i k v w a b l = let u = b.before i l in ok_no_err u.0 v (part-once i a.below (Ok u.0) (Err v) u.1 a.here)

  refused-same : (i k : ℕ) (v w : WideTerm) → IsRefused dir m parts r i v → IsRefused dir m parts r k w → i ≡ k
  refused-same i k v w a b = elim (le_or i k) as (λ _. i ≡ k) [
    | inl le ↦ elim (le_or k i) as (λ _. i ≡ k) [ inl ge ↦ omega (arith, le, ge) | inr lt ↦ absurd (refused-first i k v w a b (omega (arith, lt))) ]
    | inr lt ↦ absurd (refused-first k i w v b a (omega (arith, lt)))
  ]

  pub inners-once : (x y : Result Inners WideTerm) → InnersEndSo dir m parts r x → InnersEndSo dir m parts r y → x ≡ y
  inners-once (Ok x) (Ok y) a b = ap Ok (inners-same x y a b)
  inners-once (Ok x) (Err w) a b = (let u = a.answered b.0 (IsRefused.below b.1) in absurd (ok_no_err u.0 w (part-once b.0 (IsRefused.below b.1) (Ok u.0) (Err w) u.1 (IsRefused.here b.1))))
  inners-once (Err v) (Ok y) a b = (let u = b.answered a.0 (IsRefused.below a.1) in absurd (ok_no_err u.0 v (part-once a.0 (IsRefused.below a.1) (Ok u.0) (Err v) u.1 (IsRefused.here a.1))))
  inners-once (Err v) (Err w) a b =
      let e = refused-same a.0 b.0 v w a.1 b.1 in
      let q = part-once a.0 (IsRefused.below a.1) (Err v) (Err w) (IsRefused.here a.1) (subst (λ i. inner.EndsSo dir m parts i r (Err w)) (sym e) (IsRefused.here b.1)) in
      let same : v ≡ w = cc in ap Err same

  -- ---- the quotient

  module _ (q p : Quotient) (a : IsQuotient m parts q) (b : IsQuotient m parts p) where
    nodes-same : q.nodes ≡ p.nodes
    nodes-same = one_nodes parts q.nodes p.nodes a.nodes b.nodes

    component-same : (k : ℕ) → k < nodes_in q.nodes → slice_index_or q.components k None ≡ slice_index_or p.components k None
    component-same k l =
        let w = node-has parts q.nodes a.nodes k l in
        let h : w.0 < states_of m = omega (arith, w.1, are.count) in
        let e : get_or p.nodes w.0 0 ≡ k = sym (ap (λ (ns : List ℕ). get_or ns w.0 0) nodes-same) ∙ w.2 in
        ap (λ (i : ℕ). slice_index_or q.components i None) (sym w.2) ∙ a.components w.0 h ∙ sym (b.components w.0 h) ∙ ap (λ (i : ℕ). slice_index_or p.components i None) e

    components-same : q.components ≡ p.components
    components-same = same_list (nodes_in q.nodes) q.components p.components None a.count (b.count ∙ sym (ap nodes_in nodes-same)) component-same

    pub quotient-once : q ≡ p
    quotient-once =
        let exits = a.exits ∙ ap (λ (ns : List ℕ). map (ends_quotient.exits_of m parts ns) (range_with_len 0 (nodes_in ns))) nodes-same ∙ sym b.exits in
        let rows = a.rows ∙ ap (λ (ns : List ℕ). map (node_rows m parts ns) (range_with_len 0 (nodes_in ns))) nodes-same ∙ sym b.rows in
        ap (λ ns. let z : Quotient = record { nodes = ns; components = q.components; exits = q.exits; rows = q.rows } in z) nodes-same
        ∙ ap (λ cs. let z : Quotient = record { nodes = p.nodes; components = cs; exits = q.exits; rows = q.rows } in z) components-same
        ∙ ap (λ es. let z : Quotient = record { nodes = p.nodes; components = p.components; exits = es; rows = q.rows } in z) exits
        ∙ ap (λ rs. let z : Quotient = record { nodes = p.nodes; components = p.components; exits = p.exits; rows = rs } in z) rows

-- ---- the join, and the parts in their order

held-once : (a : query.Answer) (v : Verdict) (p q : Result query.Answer WideTerm) → Held a v p → Held a v q → q ≡ p
held-once a Yes p q h k = k ∙ sym h
held-once a (Wide s c) p q h k = k ∙ sym h
held-once a (No f) p q h k = absurd h

join-once : (j : Joining) (w : Result Joined Place) (p q : Result query.Answer WideTerm) → AfterJoin j w p → AfterJoin j w q → q ≡ p
join-once j (Err x) p q h k = k ∙ sym h
join-once j (Ok y) p q h k = held-once (query.answer_of j y) (query.checked j.dir j.model j.name (query.answer_of j y)) p q h k

module _ (dir : Dir) (m : Mdp) (r : ℕ) (p q : Result query.Answer WideTerm) (steps_once : StepsHaveOneEnd) (outer_once : OuterHasOneEnd) where
  steps-once : (parts : List (Option ℕ)) (c : Quotient) (x : Inners) (o : outer.Answer) (s : Result (List ℚ) WideTerm) → AfterSteps dir m r parts c x o s p → AfterSteps dir m r parts c x o s q → q ≡ p
  steps-once parts c x o (Err w) h k = k ∙ sym h
  steps-once parts c x o (Ok n) h k = join-once (joining dir m r parts c x o n) (written_join (joining dir m r parts c x o n)) p q h k

  outer-once : (parts : List (Option ℕ)) (c : Quotient) (x : Inners) (o : Result outer.Answer WideTerm) → AfterOuter dir m r parts c x o p → AfterOuter dir m r parts c x o q → q ≡ p
  outer-once parts c x (Err w) h k = k ∙ sym h
  outer-once parts c x (Ok o) h k = steps-once parts c x o h.0 h.2 (subst (λ (s : Result (List ℚ) WideTerm). AfterSteps dir m r parts c x o s q) (steps_once c h.0 k.0 h.1 k.1) k.2)

  quotient-end : (parts : List (Option ℕ)) (x : Inners) (c : Quotient) → AfterQuotient dir m r parts x c p → AfterQuotient dir m r parts x c q → q ≡ p
  quotient-end parts x c h k =
      outer-once parts c x h.0 h.2 (subst (λ (o : Result outer.Answer WideTerm). AfterOuter dir m r parts c x o q) (outer_once dir c x.gains h.0 k.0 h.1 k.1) k.2)

  module _ (has : HasReward m r) (gain_once : gain.HasOneEnd) where
    inners-end : (parts : List (Option ℕ)) → AreEnds m parts → (x : Result Inners WideTerm) → AfterInners dir m r parts x p → AfterInners dir m r parts x q → q ≡ p
    inners-end parts are (Err w) h k = k ∙ sym h
    inners-end parts are (Ok x) h k =
        quotient-end parts x h.0 h.2 (subst (λ (c : Quotient). AfterQuotient dir m r parts x c q) (sym (quotient-once dir m r has gain_once parts are h.0 k.0 h.1 k.1)) k.2)

    parts-end : (parts : List (Option ℕ)) → AreEnds m parts → (x y : Result Inners WideTerm) → InnersEndSo dir m parts r x → InnersEndSo dir m parts r y → AfterInners dir m r parts x p
        → AfterInners dir m r parts y q → q ≡ p
    parts-end parts are x y a b h k =
        inners-end parts are x h (subst (λ (z : Result Inners WideTerm). AfterInners dir m r parts z q) (sym (inners-once dir m r has gain_once parts are x y a b)) k)

    pub one_query_end : EndsSo dir m r p → EndsSo dir m r q → q ≡ p
    one_query_end e f =
        let same = one_ends m f.parts e.parts f.are_ends e.are_ends in
        parts-end e.parts e.are_ends e.inner f.inner e.inner_ends (subst (λ (parts : List (Option ℕ)). InnersEndSo dir m parts r f.inner) same f.inner_ends) e.after
        (subst (λ (parts : List (Option ℕ)). AfterInners dir m r parts f.inner q) same f.after)
