-- Ways that are given to states, one after the other.
use Rattle.std.proofs.Common.{◌≡◌, ◌⊎◌, inl, inr, ℕ, ◌+◌, ◌<◌, Bool, true, false, ◌||◌, ◌&&◌, ◌==◌, not, cond, List, []}
use Rattle.std.proofs.Common.{◌∷◌, ◌++◌, length, take, get_or, set, refl, sym, ap, ◌∙◌, arith, eq-eqb, Option, Some, None, is_some, is_none}
use Rattle.std.proofs.{lemmas.Bool.{false≢true, cases_eq, ne_eqb, eqb-true}, lemmas.List.{length-set, get_or-set_other, length-append, take_more}}
use Rattle.std.proofs.{lemmas.List.Sums.{sum_by-set}, lemmas.Grind.{get_or-set_at}}
use Rattle.mdp_rows.specs.{Preds.{is_among, pair}, declared.preds.Pred.{Pred}}
use Rattle.mdp_graph.specs.{declared.forest.Way.{Way}, Sets.{marked}, Waiting.{waits, is_one_of}}
use Rattle.mdp_graph.specs.Forest.{way_at, attached, without_way, IsGrown, IsTaken, IsWayTo, HasWayTo, IsWayInto, HasWayInto}
use Rattle.mdp_graph.proofs.{Among.{among-append, among-more}, Growing.{still, not-yet}, Pruning.{cases_way, or-cases, or-left, or-right}}
use Rattle.mdp_graph.proofs.Releasing.{one-of-append}
use Rattle.mdp_math.proofs.Booleans.{or-false, and-left, and-right, and-both}

-- a way that was found below place i
abbrev pub IsFoundBelow : ℕ → List ℕ → List (Option Way) → ℕ → Way → Type 0
IsFoundBelow i states found s w = (k : ℕ) × (k < i) × (get_or states k 0 ≡ s) × (way_at found k ≡ Some w)

abbrev pub HasBelow : ℕ → List ℕ → List (Option Way) → ℕ → Type 0
HasBelow i states found s = (w : Way) × IsFoundBelow i states found s w

pub grown_start : (goals : List Bool) (old : List (Option Way)) (may : ℕ → Way → Type 0) (must : ℕ → Type 0) → ((s : ℕ) → must s → attached goals old s ≡ true) → IsGrown goals old old may must
grown_start goals old may must is = record { count = refl; kept = λ s w e. e; new_way = λ s w e. inl e; taken = is }

pub grown_next : (goals : List Bool) (a b c : List (Option Way)) (may1 may2 may : ℕ → Way → Type 0) (must1 must2 must : ℕ → Type 0) → IsGrown goals a b may1 must1
    → IsGrown goals b c may2 must2 → ((s : ℕ) (w : Way) → may1 s w → may s w) → ((s : ℕ) (w : Way) → may2 s w → may s w) → ((s : ℕ) → must s → must1 s ⊎ must2 s)
    → IsGrown goals a c may must
grown_next goals a b c may1 may2 may must1 must2 must f g first second either = record {
  count = g.count ∙ f.count;
  kept = λ s w e. g.kept s w (f.kept s w e);
  new_way = λ s w e. elim (g.new_way s w e) [
    | inl x ↦ (elim (f.new_way s w x) [ inl y ↦ inl y | inr y ↦ inr (y.0, first s w y.1) ])
    | inr x ↦ inr (not-yet goals a b f.kept s x.0, second s w x.1)
  ];
  taken = λ s e. elim (either s e) [ inl x ↦ still goals b c g.kept s (f.taken s x) | inr x ↦ g.taken s x ];
}

free-way : (goals : List Bool) (ways : List (Option Way)) (s : ℕ) → attached goals ways s ≡ false → way_at ways s ≡ None
free-way goals ways s e = elim (cases_way (way_at ways s)) [
  | inl none ↦ none
  | inr w ↦ absurd (false≢true (sym e ∙ or-right (marked goals s) (is_some (way_at ways s)) (ap is_some w.1)))
]

abbrev pub plain : Way → Option Way → Way
plain d None = d
plain d (Some w) = w

pub some-way : (a b : Way) → Some a ≡ Some b → a ≡ b
some-way a b e = ap (plain a) e

pub grown_set : (goals : List Bool) (old new : List (Option Way)) (x : ℕ) (v : Way) → x < length old → attached goals old x ≡ false → new ≡ set old x (Some v)
    → IsGrown goals old new (λ s w. (s ≡ x) × (w ≡ v)) (λ s. s ≡ x)
grown_set goals old new x v h out e =
    let here : (s : ℕ) → s ≡ x → way_at new s ≡ Some v = λ s same. ap (λ (l : List (Option Way)). way_at l s) e ∙ get_or-set_at old x s (Some v) None same h in
    let there : (s : ℕ) → (s ≡ x → ⊥) → way_at new s ≡ way_at old s = λ s other. ap (λ (l : List (Option Way)). way_at l s) e ∙ get_or-set_other old x s (Some v) None other in
    record {
      count = ap length e ∙ length-set old x (Some v);
      kept = λ s w q. elim (cases_eq s x) [
        | inl same ↦ absurd (false≢true (ap is_some (sym (free-way goals old x out) ∙ ap (way_at old) (sym same) ∙ q)))
        | inr other ↦ there s other ∙ q
      ];
      new_way = λ s w q. elim (cases_eq s x) [
        | inl same ↦ inr (ap (attached goals old) same ∙ out, (same, some-way w v (sym q ∙ here s same)))
        | inr other ↦ inl (sym (there s other) ∙ q)
      ];
      taken = λ s same. or-right (marked goals s) (is_some (way_at new s)) (ap is_some (here s same));
    }

none-new : (o : Option Way) → (is_none o && is_some o) ≡ false
none-new None = refl
none-new (Some w) = refl

pub taken_none : (old : List (Option Way)) (list : List ℕ) → IsTaken old list old list
taken_none old list = record { listed = λ s. sym (ap (λ b. is_among s list || b) (none-new (way_at old s)) ∙ or-false (is_among s list)); left = refl }

pub taken_set : (goals : List Bool) (old new : List (Option Way)) (list more : List ℕ) (x : ℕ) (v : Way) → x < length old → attached goals old x ≡ false → new ≡ set old x (Some v)
    → more ≡ list ++ x ∷ [] → IsTaken old list new more
taken_set goals old new list more x v h out e added =
    let none = free-way goals old x out in
    record {
      listed = λ s. ap (is_among s) added ∙ among-append s list (x ∷ []) ∙ ap (λ b. is_among s list || b) (or-false (x == s) ∙ (elim (cases_eq s x) [
        | inl same ↦
            eq-eqb x s (sym same)
            ∙ sym (and-both (is_none (way_at old s)) (is_some (way_at new s)) (ap is_none (ap (way_at old) same ∙ none))
            (ap is_some (ap (λ (l : List (Option Way)). way_at l s) e ∙ get_or-set_at old x s (Some v) None same h)))
        | inr other ↦
            ne_eqb x s (λ q. other (sym q)) ∙ sym (ap (λ (o : Option Way). is_none (way_at old s) && is_some o)
            (ap (λ (l : List (Option Way)). way_at l s) e ∙ get_or-set_other old x s (Some v) None other) ∙ none-new (way_at old s))
      ]));
      left =
          (let n = sum_by-set (λ (o : Option Way). cond (is_none o) 1 0) old x (Some v) None h in
          let was : cond {A = ℕ} (is_none (way_at old x)) 1 0 ≡ 1 = ap (λ (o : Option Way). cond {A = ℕ} (is_none o) 1 0) none in
          let l : length more ≡ length list + 1 = ap length added ∙ length-append list (x ∷ []) in
          let u = ap without_way e in omega (arith, n, was, l, u));
    }

both-taken : (l : Bool) (a b c : Option Way) → (is_some a ≡ true → is_some b ≡ true) → (is_some b ≡ true → is_some c ≡ true)
    → ((l || (is_none a && is_some b)) || (is_none b && is_some c)) ≡ (l || (is_none a && is_some c))
both-taken true a b c f g = refl
both-taken false None None c f g = refl
both-taken false None (Some w) None f g = absurd (false≢true (g refl))
both-taken false None (Some w) (Some v) f g = refl
both-taken false (Some u) None c f g = absurd (false≢true (f refl))
both-taken false (Some u) (Some w) c f g = refl

kept-some : (old new : List (Option Way)) → ((s : ℕ) (w : Way) → way_at old s ≡ Some w → way_at new s ≡ Some w) → (s : ℕ) → is_some (way_at old s) ≡ true → is_some (way_at new s) ≡ true
kept-some old new kept s e = elim (cases_way (way_at old s)) [
  | inl none ↦ absurd (false≢true (sym (ap is_some none) ∙ e))
  | inr w ↦ ap is_some (kept s w.0 w.1)
]

pub taken_more : (a b c : List (Option Way)) (al bl cl : List ℕ) → ((s : ℕ) (w : Way) → way_at a s ≡ Some w → way_at b s ≡ Some w)
    → ((s : ℕ) (w : Way) → way_at b s ≡ Some w → way_at c s ≡ Some w) → IsTaken a al b bl → IsTaken b bl c cl → IsTaken a al c cl
taken_more a b c al bl cl first second f g = record {
  listed = λ s.
      g.listed s ∙ ap (λ l. l || (is_none (way_at b s) && is_some (way_at c s))) (f.listed s)
      ∙ both-taken (is_among s al) (way_at a s) (way_at b s) (way_at c s) (kept-some a b first s) (kept-some b c second s);
  left = g.left ∙ f.left;
}

-- ---- one more choice

pub one-more : (xs : List Pred) (i s c : ℕ) → i < length xs
    → is_one_of (take (i + 1) xs) s c ≡ (is_one_of (take i xs) s c || (((Pred.state (get_or xs i (pair 0 0)) == s) && (Pred.choice (get_or xs i (pair 0 0)) == c)) || false))
one-more xs i s c h = ap (λ (x : List Pred). is_one_of x s c) (take_more xs i (pair 0 0) h) ∙ one-of-append (take i xs) (get_or xs i (pair 0 0) ∷ []) s c

pub on : (a b : Bool) → a ≡ true → (a && not b) ≡ false → b ≡ true
on true true e f = refl
on true false e f = absurd (false≢true (sym f))
on false b e f = absurd (false≢true e)

module _ (goals : List Bool) (lists : List (List Bool)) (xs : List Pred) (i t : ℕ) (h : i < length xs) (old now new : List (Option Way)) where
  abbrev pub x : ℕ
  x = Pred.state (get_or xs i (pair 0 0))

  abbrev pub c : ℕ
  c = Pred.choice (get_or xs i (pair 0 0))

  before : (s d : ℕ) → is_one_of (take i xs) s d ≡ true → is_one_of (take (i + 1) xs) s d ≡ true
  before s d e = one-more xs i s d h ∙ or-left (is_one_of (take i xs) s d) (((x == s) && (c == d)) || false) e

  this : (s d : ℕ) → s ≡ x → d ≡ c → is_one_of (take (i + 1) xs) s d ≡ true
  this s d p q = one-more xs i s d h ∙ or-right (is_one_of (take i xs) s d) (((x == s) && (c == d)) || false)
      (or-left ((x == s) && (c == d)) false (and-both (x == s) (c == d) (eq-eqb x s (sym p)) (eq-eqb c d (sym q))))

  which : (s d : ℕ) → is_one_of (take (i + 1) xs) s d ≡ true → (is_one_of (take i xs) s d ≡ true) ⊎ ((s ≡ x) × (d ≡ c))
  which s d e = elim (or-cases (is_one_of (take i xs) s d) (((x == s) && (c == d)) || false) (sym (one-more xs i s d h) ∙ e)) [
    | inl y ↦ inl y
    | inr y ↦
        (let z = sym (or-false ((x == s) && (c == d))) ∙ y in
        inr (sym (eqb-true x s (and-left (x == s) (c == d) z)), sym (eqb-true c d (and-right (x == s) (c == d) z))))
  ]

  pub to_taken : IsGrown goals old now (IsWayTo lists (take i xs) t) (HasWayTo lists (take i xs)) → (v : Way) → v.target ≡ t → v.choice ≡ c → waits lists x c ≡ true
      → IsGrown goals now new (λ s w. (s ≡ x) × (w ≡ v)) (λ s. s ≡ x) → IsGrown goals old new (IsWayTo lists (take (i + 1) xs) t) (HasWayTo lists (take (i + 1) xs))
  to_taken f v vt vc free g =
      grown_next goals old now new (IsWayTo lists (take i xs) t) (λ s w. (s ≡ x) × (w ≡ v)) (IsWayTo lists (take (i + 1) xs) t) (HasWayTo lists (take i xs)) (λ s. s ≡ x)
      (HasWayTo lists (take (i + 1) xs)) f g (λ s w z. (z.0, before s w.choice z.1, z.2))
      (λ s w z. (let q : w.choice ≡ c = ap (λ (y : Way). y.choice) z.1 ∙ vc in
      (ap (λ (y : Way). y.target) z.1 ∙ vt, this s w.choice z.0 q, ap (λ j. waits lists j w.choice) z.0 ∙ ap (waits lists x) q ∙ free)))
      (λ s z. elim (which s z.0 z.1) [ inl y ↦ inl (z.0, y, z.2) | inr y ↦ inr y.0 ])

  pub to_kept : IsGrown goals old now (IsWayTo lists (take i xs) t) (HasWayTo lists (take i xs)) → (waits lists x c && not (attached goals now x)) ≡ false
      → IsGrown goals old now (IsWayTo lists (take (i + 1) xs) t) (HasWayTo lists (take (i + 1) xs))
  to_kept f not_both = record {
    count = f.count;
    kept = f.kept;
    new_way = λ s w e. elim (f.new_way s w e) [ inl y ↦ inl y | inr y ↦ inr (y.0, (let z = y.1 in (z.0, before s w.choice z.1, z.2))) ];
    taken = λ s z. elim (which s z.0 z.1) [
      | inl y ↦ f.taken s (z.0, y, z.2)
      | inr y ↦
          (let free : waits lists x c ≡ true = ap (λ j. waits lists j c) (sym y.0) ∙ ap (waits lists s) (sym y.1) ∙ z.2 in
          ap (attached goals now) y.0 ∙ on (waits lists x c) (attached goals now x) free not_both)
    ];
  }

-- ---- one more state of a layer

module _ (goals : List Bool) (lists : List (List Bool)) (preds : List (List Pred)) (layer : List ℕ) (i : ℕ) (h : i < length layer) (old now new : List (Option Way)) where
  earlier-among : (t : ℕ) → is_among t (take i layer) ≡ true → is_among t (take (i + 1) layer) ≡ true
  earlier-among t e = among-more t layer i h ∙ or-left (is_among t (take i layer)) ((get_or layer i 0 == t) || false) e

  this-among : (t : ℕ) → t ≡ get_or layer i 0 → is_among t (take (i + 1) layer) ≡ true
  this-among t e = among-more t layer i h ∙ or-right (is_among t (take i layer)) ((get_or layer i 0 == t) || false) (or-left (get_or layer i 0 == t) false (eq-eqb (get_or layer i 0) t (sym e)))

  pub into_more : (pairs : List Pred) → pairs ≡ get_or preds (get_or layer i 0) [] → IsGrown goals old now (IsWayInto lists preds (take i layer)) (HasWayInto lists preds (take i layer))
      → IsGrown goals now new (IsWayTo lists pairs (get_or layer i 0)) (HasWayTo lists pairs)
      → IsGrown goals old new (IsWayInto lists preds (take (i + 1) layer)) (HasWayInto lists preds (take (i + 1) layer))
  into_more pairs e f g =
      grown_next goals old now new (IsWayInto lists preds (take i layer)) (IsWayTo lists pairs (get_or layer i 0)) (IsWayInto lists preds (take (i + 1) layer))
      (HasWayInto lists preds (take i layer)) (HasWayTo lists pairs) (HasWayInto lists preds (take (i + 1) layer)) f g (λ s w z. (earlier-among w.target z.0, z.1, z.2))
      (λ s w z. (
        this-among w.target z.0,
        ap (λ j. is_one_of (get_or preds j []) s w.choice) z.0 ∙ ap (λ (x : List Pred). is_one_of x s w.choice) (sym e) ∙ z.1,
        z.2,
      ))
      (λ s z. elim (or-cases (is_among z.0 (take i layer)) ((get_or layer i 0 == z.0) || false) (sym (among-more z.0 layer i h) ∙ z.1)) [
        | inl y ↦ inl (z.0, y, z.2)
        | inr y ↦
            (let same : get_or layer i 0 ≡ z.0 = eqb-true (get_or layer i 0) z.0 (sym (or-false (get_or layer i 0 == z.0)) ∙ y) in
            let u = z.2 in
            inr (u.0, ap (λ (x : List Pred). is_one_of x s u.0) (e ∙ ap (λ j. get_or preds j []) same) ∙ u.1, u.2))
      ])
