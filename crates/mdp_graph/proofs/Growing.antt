-- A forest that grows, and one that is cut.
use Rattle.std.proofs.Common.{◌≡◌, inl, inr, ℕ, zero, suc, ◌<◌, ◌≤◌, Bool, true, false, ◌||◌, ◌&&◌, ◌==◌, not, cond}
use Rattle.std.proofs.Common.{List, [], ◌∷◌, length, get_or, sym, ap, subst, ◌∙◌, arith, Option, Some, None, is_some, is_none}
use Rattle.std.proofs.lemmas.Bool.{false≢true, cases_Bool, eqb-true}
use Rattle.std.specs.List.{All}
use Rattle.mdp_spec.specs.{Mdp.{Mdp, states_of, choices_at, row_at}, Row.{IsMdp}}
use Rattle.mdp_rows.specs.{Preds.{is_among, leads_to}, declared.preds.Pred.{Pred}}
use Rattle.mdp_graph.specs.{declared.forest.Way.{Way}, Sets.{marked, can_enter}, Layers.{reached}, Sure.{inside_step}, Rounds.{CanStay}}
use Rattle.mdp_graph.specs.Waiting.{waits, is_one_of, AreWaiting, AreReleased, AreWithin}
use Rattle.mdp_graph.specs.Forest.{way_at, attached, IsUncut, IsStep, IsForest, IsClosed, IsFound, IsGrown, IsTaken, IsFoundWay, HasFound}
use Rattle.mdp_graph.specs.Forest.{IsWayInto, HasWayInto, all_preds, AreWide}
use Rattle.mdp_graph.proofs.{PredLists.{list-is, led-in, led-back}, Among.{among-below}, RankFacts.{none_among}}
use Rattle.mdp_graph.proofs.{Pruning.{cases_way, or-cases, or-left, or-right, way-in}, Reaching.{step-reaches, first-reached}}
use Rattle.mdp_graph.proofs.{RowSets.{enters-at, enters-by, stays-at, stays-outside}, StepsInside.{inside-choice, choice-inside}}
use Rattle.mdp_math.proofs.Booleans.{or-false, and-both, and-right, not_true, false_of_not}

abbrev pub nothing : ℕ → Bool
nothing t = false

some-attached : (goals : List Bool) (ways : List (Option Way)) (s : ℕ) (w : Way) → way_at ways s ≡ Some w → attached goals ways s ≡ true
some-attached goals ways s w e = or-right (marked goals s) (is_some (way_at ways s)) (ap is_some e)

-- a state that is attached stays so where its way is kept
pub still : (goals : List Bool) (old new : List (Option Way)) → ((s : ℕ) (w : Way) → way_at old s ≡ Some w → way_at new s ≡ Some w)
    → (s : ℕ) → attached goals old s ≡ true → attached goals new s ≡ true
still goals old new kept s e = elim (or-cases (marked goals s) (is_some (way_at old s)) e) [
  | inl goal ↦ or-left (marked goals s) (is_some (way_at new s)) goal
  | inr some ↦ (elim (cases_way (way_at old s)) [
    | inl none ↦ absurd (false≢true (sym (ap is_some none) ∙ some))
    | inr w ↦ some-attached goals new s w.0 (kept s w.0 w.1)
  ])
]

-- ---- growing

abbrev pub above : (ℕ → ℕ) → Option Way → ℕ
above h None = 0
above h (Some w) = suc (h w.target)

pub forest_grown : (m : Mdp) (goals : List Bool) (lists : List (List Bool)) (old new : List (Option Way)) (may : ℕ → Way → Type 0) (must : ℕ → Type 0)
    → IsForest m goals lists old nothing → IsGrown goals old new may must → ((s : ℕ) (w : Way) → may s w → IsStep m lists s w × (attached goals old w.target ≡ true))
    → IsForest m goals lists new nothing
forest_grown m goals lists old new may must f g good =
    let height : ℕ → ℕ = λ s. cond (attached goals old s) (f.height s) (above f.height (way_at new s)) in
    let was : (s : ℕ) → attached goals old s ≡ true → height s ≡ f.height s = λ s e. ap (λ b. cond b (f.height s) (above f.height (way_at new s))) e in
    let now : (s : ℕ) (w : Way) → attached goals old s ≡ false → way_at new s ≡ Some w → height s ≡ suc (f.height w.target) =
    λ s w e q. ap (λ b. cond b (f.height s) (above f.height (way_at new s))) e ∙ ap (above f.height) q in
    let over_old : (s : ℕ) (w : Way) → way_at old s ≡ Some w → attached goals old w.target ≡ true = λ s w e. sym (or-false (attached goals old w.target)) ∙ f.over s w e in
    record {
      count = g.count ∙ f.count;
      step = λ s w e. elim (g.new_way s w e) [ inl before ↦ f.step s w before | inr z ↦ (let y = good s w z.1 in y.0) ];
      over = λ s w e. or-left (attached goals new w.target) false (still goals old new g.kept w.target (elim (g.new_way s w e) [
        | inl before ↦ over_old s w before
        | inr z ↦ (let y = good s w z.1 in y.1)
      ]));
      height = height;
      lower = λ s w e. elim (g.new_way s w e) [
        | inl before ↦
            (let a = was w.target (over_old s w before) in
            let b = was s (some-attached goals old s w before) in
            let l = f.lower s w before in omega (arith, a, b, l))
        | inr z ↦ (let y = good s w z.1 in let a = was w.target y.1 in let b = now s w z.0 e in omega (arith, a, b))
      ];
    }

-- a state that was attached now is in the list
pub newly : (goals : List Bool) (old new : List (Option Way)) (none_yet layer : List ℕ) → IsTaken old none_yet new layer → (t : ℕ)
    → attached goals old t ≡ false → attached goals new t ≡ true → is_among t layer ≡ true
newly goals old new none_yet layer k t e f =
    k.listed t ∙ or-right (is_among t none_yet) (is_none (way_at old t) && is_some (way_at new t)) (elim (or-cases (marked goals t) (is_some (way_at new t)) f) [
      | inl goal ↦ absurd (false≢true (sym e ∙ or-left (marked goals t) (is_some (way_at old t)) goal))
      | inr some ↦ (elim (cases_way (way_at old t)) [
        | inl none ↦ and-both (is_none (way_at old t)) (is_some (way_at new t)) (ap is_none none) some
        | inr w ↦ absurd (false≢true (sym e ∙ some-attached goals old t w.0 w.1))
      ])
    ])

pub not-yet : (goals : List Bool) (old new : List (Option Way)) → ((s : ℕ) (w : Way) → way_at old s ≡ Some w → way_at new s ≡ Some w)
    → (s : ℕ) → attached goals new s ≡ false → attached goals old s ≡ false
not-yet goals old new kept s e = false_of_not (attached goals old s) (λ x. absurd (false≢true (sym e ∙ still goals old new kept s x)))

pub among-place : (t : ℕ) (xs : List ℕ) → is_among t xs ≡ true → (i : ℕ) × (i < length xs) × (get_or xs i 0 ≡ t)
among-place t [] e = absurd (false≢true e)
among-place t (x ∷ xs) e = elim (cases_Bool (x == t)) [
  | inl same ↦ (0, omega arith, eqb-true x t same)
  | inr other ↦ (let w = among-place t xs (sym (ap (λ b. b || is_among t xs) other) ∙ e) in (suc w.0, omega (arith, w.1), w.2))
]

-- after the ways that were found were taken
pub closed_found : (m : Mdp) (goals : List Bool) (lists : List (List Bool)) (old new found : List (Option Way)) (states none_yet layer : List ℕ)
    → IsGrown goals old new (IsFoundWay states found) (HasFound states found) → IsTaken old none_yet new layer
    → ((i : ℕ) → i < length states → IsFound m goals lists old (get_or states i 0) (way_at found i)) → IsClosed m goals lists new states (λ t. is_among t layer)
closed_found m goals lists old new found states none_yet layer g k each s c t in_states hs out hc free ht leads on = elim (cases_Bool (attached goals old t)) [
  | inr later ↦ newly goals old new none_yet layer k t later on
  | inl before ↦
      (let p = among-place s states in_states in
      let f = each p.0 p.1 in
      elim (cases_way (way_at found p.0)) [
        | inl none ↦
            absurd (false≢true (sym (f.none none c t (let e = ap (λ j. length (choices_at m j)) p.2 in omega (arith, hc, e)) (ap (λ j. waits lists j c) p.2 ∙ free)
            ht (ap (λ j. leads_to t (row_at m j c)) p.2 ∙ leads)) ∙ before))
        | inr w ↦ absurd (false≢true (sym out ∙ g.taken s (w.0, (p.0, p.1, p.2, w.1))))
      ])
]

pub found_good : (m : Mdp) (goals : List Bool) (lists : List (List Bool)) (old found : List (Option Way)) (states : List ℕ)
    → ((i : ℕ) → i < length states → IsFound m goals lists old (get_or states i 0) (way_at found i))
    → (s : ℕ) (w : Way) → IsFoundWay states found s w → IsStep m lists s w × (attached goals old w.target ≡ true)
found_good m goals lists old found states each s w z =
    let f = each z.0 z.1 in
    let y = f.some w z.3 in
    (subst (λ (j : ℕ). IsStep m lists j w) z.2 y.0, y.1)

-- after one more layer
module _ (m : Mdp) (preds : List (List Pred)) (are : preds ≡ all_preds m) where
  pub into_good : (goals : List Bool) (lists : List (List Bool)) (old : List (Option Way)) (layer : List ℕ)
      → ((t : ℕ) → is_among t layer ≡ true → (t < states_of m) × (attached goals old t ≡ true))
      → (s : ℕ) (w : Way) → IsWayInto lists preds layer s w → IsStep m lists s w × (attached goals old w.target ≡ true)
  into_good goals lists old layer below s w z =
      let b = below w.target z.0 in
      let l = led-in m w.target s w.choice (ap (λ (x : List Pred). is_one_of x s w.choice) (sym (list-is m preds are w.target b.0)) ∙ z.1) in
      (record { target = b.0; choice = l.1; leads = l.2; allowed = z.2 }, b.1)

  pub closed_more : (goals : List Bool) (lists : List (List Bool)) (old new : List (Option Way)) (layer none_yet next states : List ℕ)
      → IsGrown goals old new (IsWayInto lists preds layer) (HasWayInto lists preds layer) → IsTaken old none_yet new next
      → IsClosed m goals lists old states (λ t. is_among t layer) → IsClosed m goals lists new states (λ t. is_among t next)
  closed_more goals lists old new layer none_yet next states g k closed s c t in_states hs out hc free ht leads on = elim (cases_Bool (attached goals old t)) [
    | inr later ↦ newly goals old new none_yet next k t later on
    | inl before ↦
        (let l = closed s c t in_states hs (not-yet goals old new g.kept s out) hc free ht leads before in
        let p = ap (λ (x : List Pred). is_one_of x s c) (list-is m preds are t ht) ∙ led-back m t s c hs hc leads in
        absurd (false≢true (sym out ∙ g.taken s (t, l, (c, p, free)))))
  ]

-- ---- cutting

pub forest_uncut : (m : Mdp) (goals : List Bool) (lists after : List (List Bool)) (old new : List (Option Way)) (pairs : List Pred) (broken : List ℕ)
    → IsForest m goals lists old nothing → IsUncut old new pairs broken → AreReleased lists after pairs → IsForest m goals after new nothing
forest_uncut m goals lists after old new pairs broken f u r = record {
  count = u.count ∙ f.count;
  step = λ s w e.
      (let k = u.kept s w e in
      let p = f.step s w k.0 in
      record {
        target = p.target;
        choice = p.choice;
        leads = p.leads;
        allowed = r.at s w.choice ∙ and-both (waits lists s w.choice) (not (is_one_of pairs s w.choice)) p.allowed (ap not k.1);
      });
  over = λ s w e.
      (let k = u.kept s w e in
      or-left (attached goals new w.target) false
      (elim (or-cases (marked goals w.target) (is_some (way_at old w.target)) (sym (or-false (attached goals old w.target)) ∙ f.over s w k.0)) [
        | inl goal ↦ or-left (marked goals w.target) (is_some (way_at new w.target)) goal
        | inr some ↦ (elim (cases_way (way_at new w.target)) [
          | inl none ↦ absurd (false≢true (sym (u.over s w e) ∙ u.gone w.target some none))
          | inr v ↦ some-attached goals new w.target v.0 v.1
        ])
      ]));
  height = f.height;
  lower = λ s w e. (let k = u.kept s w e in f.lower s w k.0);
}

-- ---- which states can stay

module _ (m : Mdp) (ok : IsMdp m) (goals : List Bool) (lists : List (List Bool)) (ways : List (Option Way)) (ranked left : ℕ → Bool) (w : AreWaiting m ranked lists) where
  module _ (f : IsForest m goals lists ways nothing) (free : (t : ℕ) → t < states_of m → ranked t ≡ false → left t ≡ true) where
    steps : (h s : ℕ) (v : Way) → s < states_of m → way_at ways s ≡ Some v → reached (inside_step m left) (marked goals) h v.target ≡ true
        → reached (inside_step m left) (marked goals) (suc h) s ≡ true
    steps h s v l e r =
        let p = f.step s v e in
        let row = ok.row s v.choice l p.choice in
        let set = reached (inside_step m left) (marked goals) h in
        let none = not_true (can_enter ranked (row_at m s v.choice)) (sym (w.at s v.choice l p.choice) ∙ p.allowed) in
        step-reaches (inside_step m left) (marked goals) h s
        (choice-inside m left set s v.choice p.choice (stays-outside ranked left (row_at m s v.choice) (states_of m) row.in_range free none)
        (enters-by set (row_at m s v.choice) v.target p.leads r))

    reaches : (h s : ℕ) → s < states_of m → attached goals ways s ≡ true → f.height s ≤ h → reached (inside_step m left) (marked goals) h s ≡ true
    reaches zero s l e low = elim (or-cases (marked goals s) (is_some (way_at ways s)) e) [
      | inl goal ↦ first-reached (inside_step m left) (marked goals) 0 s goal
      | inr some ↦ (elim (cases_way (way_at ways s)) [
        | inl none ↦ absurd (false≢true (sym (ap is_some none) ∙ some))
        | inr v ↦ absurd (let d = f.lower s v.0 v.1 in omega (arith, d, low))
      ])
    ]
    reaches (suc h) s l e low = elim (or-cases (marked goals s) (is_some (way_at ways s)) e) [
      | inl goal ↦ first-reached (inside_step m left) (marked goals) (suc h) s goal
      | inr some ↦ (elim (cases_way (way_at ways s)) [
        | inl none ↦ absurd (false≢true (sym (ap is_some none) ∙ some))
        | inr v ↦
            (let d = f.lower s v.0 v.1 in
            let p = f.step s v.0 v.1 in
            let t = Way.target v.0 in
            steps h s v.0 l v.1 (reaches h t p.target (sym (or-false (attached goals ways t)) ∙ f.over s v.0 v.1) (omega (arith, d, low))))
      ])
    ]

    pub attached_stays : (s : ℕ) → s < states_of m → attached goals ways s ≡ true → CanStay m goals left s
    attached_stays s l e = (f.height s, reaches (f.height s) s l e (omega arith))

  module _ (states : List ℕ) (closed : IsClosed m goals lists ways states nothing) (left_free : (t : ℕ) → t < states_of m → left t ≡ true → ranked t ≡ false)
      (out : (s : ℕ) → s < states_of m → attached goals ways s ≡ false → CanStay m goals left s → is_among s states ≡ true) where
    back : (k s : ℕ) → s < states_of m → reached (inside_step m left) (marked goals) k s ≡ true → attached goals ways s ≡ true
    unfolding reached
    back zero s l e = or-left (marked goals s) (is_some (way_at ways s)) e
    back (suc k) s l e = elim (cases_Bool (reached (inside_step m left) (marked goals) k s)) [
      | inl before ↦ back k s l before
      | inr new ↦
          (let stepped = sym (ap (λ b. b || inside_step m left (reached (inside_step m left) (marked goals) k) s) new) ∙ e in
          let z = inside-choice m left (reached (inside_step m left) (marked goals) k) s stepped in
          let row = ok.row s z.0 l z.1 in
          let t = enters-at (reached (inside_step m left) (marked goals) k) (row_at m s z.0) (states_of m) row.in_range z.3 in
          let on = back k t.0 t.1 t.3 in
          let clear : can_enter ranked (row_at m s z.0) ≡ false = false_of_not (can_enter ranked (row_at m s z.0))
          (λ x. (let y = enters-at ranked (row_at m s z.0) (states_of m) row.in_range x in
          absurd (false≢true (sym (left_free y.0 y.1 (stays-at left (row_at m s z.0) y.0 z.2 y.2)) ∙ y.3)))) in
          let free = w.at s z.0 l z.1 ∙ ap not clear in
          elim (cases_Bool (attached goals ways s)) [
            | inl is ↦ is
            | inr not ↦
                (let can : CanStay m goals left s = (suc k, step-reaches (inside_step m left) (marked goals) k s stepped) in
                absurd (false≢true (closed s z.0 t.0 (out s l not can) l not z.1 free t.1 t.2 on)))
          ])
    ]

    pub stays_attached : (s : ℕ) → s < states_of m → CanStay m goals left s → attached goals ways s ≡ true
    stays_attached s l z = back z.0 s l z.1

-- ---- layer by layer

pub record IsSpreading (m : Mdp) (goals : List Bool) (lists : List (List Bool)) (old now : List (Option Way)) (first layer : List ℕ) : Type 0 where
  pub forest : IsForest m goals lists now nothing
  pub kept : (s : ℕ) → attached goals old s ≡ true → attached goals now s ≡ true
  pub at : (t : ℕ) → is_among t layer ≡ true → (t < states_of m) × (attached goals now t ≡ true)
  pub closed : (states : List ℕ) → IsClosed m goals lists old states (λ t. is_among t first) → IsClosed m goals lists now states (λ t. is_among t layer)

pub spreading : (m : Mdp) (goals : List Bool) (lists : List (List Bool)) (old : List (Option Way)) (first : List ℕ) → IsForest m goals lists old nothing
    → All (λ t. t < states_of m) first → ((t : ℕ) → is_among t first ≡ true → attached goals old t ≡ true) → IsSpreading m goals lists old old first first
spreading m goals lists old first f all on = record {
  forest = f;
  kept = λ s e. e;
  at = λ t e. (among-below t (states_of m) first all e, on t e);
  closed = λ states c. c;
}

taken-on : (goals : List Bool) (now new : List (Option Way)) (none_yet next : List ℕ) → IsTaken now none_yet new next → none_yet ≡ [] → (t : ℕ) → is_among t next ≡ true
    → is_some (way_at new t) ≡ true
taken-on goals now new none_yet next k e t on =
    and-right (is_none (way_at now t)) (is_some (way_at new t)) (sym (ap (λ (l : List ℕ). is_among t l || (is_none (way_at now t) && is_some (way_at new t))) e) ∙ sym (k.listed t) ∙ on)

pub taken-below : (now new : List (Option Way)) (none_yet next : List ℕ) → IsTaken now none_yet new next → none_yet ≡ [] → (t : ℕ) → is_among t next ≡ true → t < length new
taken-below now new none_yet next k e t on =
    let some = taken-on [] now new none_yet next k e t on in
    elim (cases_way (way_at new t)) [ inl none ↦ absurd (false≢true (sym (ap is_some none) ∙ some)) | inr w ↦ way-in new t w.0 w.1 ]

pub spreading_more : (m : Mdp) (preds : List (List Pred)) → preds ≡ all_preds m → (goals : List Bool) (lists : List (List Bool)) (old now new : List (Option Way)) (first layer seen none_yet next : List ℕ)
    → IsSpreading m goals lists old now first layer → seen ≡ layer → none_yet ≡ []
    → IsGrown goals now new (IsWayInto lists preds seen) (HasWayInto lists preds seen) → IsTaken now none_yet new next → IsSpreading m goals lists old new first next
spreading_more m preds are goals lists old now new first layer seen none_yet next p es en g k =
    let at : (t : ℕ) → is_among t seen ≡ true → (t < states_of m) × (attached goals now t ≡ true) = λ t e. p.at t (sym (ap (is_among t) es) ∙ e) in
    let forest = forest_grown m goals lists now new (IsWayInto lists preds seen) (HasWayInto lists preds seen) p.forest g (into_good m preds are goals lists now seen at) in
    record {
      forest = forest;
      kept = λ s e. still goals now new g.kept s (p.kept s e);
      at = λ t e.
          (let some = taken-on goals now new none_yet next k en t e in
          elim (cases_way (way_at new t)) [
            | inl none ↦ absurd (false≢true (sym (ap is_some none) ∙ some))
            | inr w ↦ (let h = way-in new t w.0 w.1 in (omega (arith, h, forest.count), or-right (marked goals t) (is_some (way_at new t)) some))
          ]);
      closed = λ states c.
          closed_more m preds are goals lists now new seen none_yet next states g k
          (λ s d t a b e f h i j l. ap (is_among t) es ∙ p.closed states c s d t a b e f h i j l);
    }

pub spread : (m : Mdp) (goals : List Bool) (lists : List (List Bool)) (old now : List (Option Way)) (first layer : List ℕ) → IsSpreading m goals lists old now first layer
    → length layer ≡ 0 → (states : List ℕ) → IsClosed m goals lists old states (λ t. is_among t first) → IsClosed m goals lists now states nothing
spread m goals lists old now first layer p e states c s d t a b f g h i j l = sym (none_among t layer e) ∙ p.closed states c s d t a b f g h i j l

pub preds-within : (m : Mdp) (preds : List (List Pred)) → preds ≡ all_preds m → (lists : List (List Bool)) → AreWide m lists → (t : ℕ) → t < states_of m → AreWithin lists (get_or preds t [])
preds-within m preds are lists wide t h s c e =
    let l = led-in m t s c (ap (λ (x : List Pred). is_one_of x s c) (sym (list-is m preds are t h)) ∙ e) in
    let k = wide.width s l.0 in
    (omega (arith, l.0, wide.count), omega (arith, l.1, k))
