-- Ways over states without one, taken away one after the other.
use Rattle.std.proofs.Common.{◌≡◌, ◌⊎◌, inl, inr, ℕ, zero, suc, ◌<◌, Bool, true, false, ◌||◌, ◌==◌, cond, List}
use Rattle.std.proofs.Common.{[], ◌∷◌, ◌++◌, length, get_or, refl, sym, ap, ◌∙◌, arith, eq-eqb, Option, Some, None, is_some}
use Rattle.std.proofs.lemmas.Bool.{false≢true, cases_Bool, eqb-true}
use Rattle.std.specs.List.{All}
use Rattle.mdp_rows.specs.{Preds.{is_among}, declared.preds.Pred.{Pred}}
use Rattle.mdp_graph.specs.{declared.forest.Way.{Way}, Waiting.{is_one_of}, Forest.{way_at, is_cut, IsCut, AreKnown, IsPruned, IsUncut}}
use Rattle.mdp_graph.proofs.Among.{among-append, among-below}
use Rattle.mdp_math.proofs.Booleans.{or-true, or-false, and-true, and-both}

-- what is left of a way that may be cut
pub left-way : (b : Bool) (o : Option Way) (w : Way) → cond {A = Option Way} b None o ≡ Some w → (b ≡ false) × (o ≡ Some w)
left-way true o w e = absurd (false≢true (ap is_some e))
left-way false o w e = (refl, e)

pub cases_way : (o : Option Way) → (o ≡ None) ⊎ ((w : Way) × (o ≡ Some w))
cases_way None = inl refl
cases_way (Some w) = inr (w, refl)

pub way-in : (ways : List (Option Way)) (s : ℕ) (w : Way) → way_at ways s ≡ Some w → s < length ways
way-in [] s w e = absurd (false≢true (ap is_some e))
way-in (o ∷ ways) zero w e = omega arith
way-in (o ∷ ways) (suc s) w e = let h = way-in ways s w e in omega (arith, h)

pub some-in : (ways : List (Option Way)) (s : ℕ) → is_some (way_at ways s) ≡ true → s < length ways
some-in ways s e = elim (cases_way (way_at ways s)) [ inl none ↦ absurd (false≢true (sym (ap is_some none) ∙ e)) | inr w ↦ way-in ways s w.0 w.1 ]

-- a way that was cut
pub cut-some : (pairs : List Pred) (only : Option ℕ) (s : ℕ) (o : Option Way) → is_cut pairs only s o ≡ true → (w : Way) × (o ≡ Some w)
cut-some pairs only s None e = absurd (false≢true e)
cut-some pairs only s (Some w) e = (w, refl)

pub or-cases : (a b : Bool) → (a || b) ≡ true → (a ≡ true) ⊎ (b ≡ true)
or-cases true b e = inl refl
or-cases false b e = inr e

pub or-left : (a b : Bool) → a ≡ true → (a || b) ≡ true
or-left a b e = ap (λ x. x || b) e

pub or-right : (a b : Bool) → b ≡ true → (a || b) ≡ true
or-right a b e = ap (λ x. a || x) e ∙ or-true a

pub record IsPruning (old new : List (Option Way)) (first pending broken : List ℕ) : Type 0 where
  pub count : length new ≡ length old
  pub kept : (s : ℕ) (w : Way) → way_at new s ≡ Some w → way_at old s ≡ Some w
  pub gone : (s : ℕ) → is_some (way_at old s) ≡ true → way_at new s ≡ None → (is_among s broken || is_among s pending) ≡ true
  pub from : (s : ℕ) → is_among s first ≡ true → (is_among s broken || is_among s pending) ≡ true
  pub over : (s : ℕ) (w : Way) → way_at new s ≡ Some w → is_among w.target broken ≡ false
  pub below : (s : ℕ) → (is_among s broken || is_among s pending) ≡ true → (is_among s first ≡ true) ⊎ (is_some (way_at old s) ≡ true)

pub pruning : (old : List (Option Way)) (first broken : List ℕ) → broken ≡ [] → IsPruning old old first first broken
pruning old first broken e = rw e (record {
  count = refl;
  kept = λ s w e. e;
  gone = λ s some none. absurd (false≢true (sym (ap is_some none) ∙ some));
  from = λ s e. e;
  over = λ s w e. refl;
  below = λ s e. inl e;
})

pub pruning_more : (preds : List (List Pred)) (old now new : List (Option Way)) (first pending rest more broken all : List ℕ) (b : ℕ) (pairs : List Pred)
    → IsPruning old now first pending broken → pending ≡ rest ++ b ∷ [] → all ≡ broken ++ b ∷ [] → IsCut now rest new more pairs (Some b) → pairs ≡ get_or preds b []
    → AreKnown preds old → IsPruning old new first more all
pruning_more preds old now new first pending rest more broken all b pairs p ep ea c er known =
    let last : (s : ℕ) → is_among s pending ≡ (is_among s rest || ((b == s) || false)) = λ s. ap (is_among s) ep ∙ among-append s rest (b ∷ []) in
    let whole : (s : ℕ) → is_among s all ≡ (is_among s broken || ((b == s) || false)) = λ s. ap (is_among s) ea ∙ among-append s broken (b ∷ []) in
    let moved : (s : ℕ) → (is_among s broken || is_among s pending) ≡ true → (is_among s all || is_among s more) ≡ true = λ s e.
    elim (or-cases (is_among s broken) (is_among s pending) e) [
      | inl x ↦ or-left (is_among s all) (is_among s more) (whole s ∙ or-left (is_among s broken) ((b == s) || false) x)
      | inr x ↦ (elim (or-cases (is_among s rest) ((b == s) || false) (sym (last s) ∙ x)) [
        | inl y ↦ or-right (is_among s all) (is_among s more) (c.listed s ∙ or-left (is_among s rest) (is_cut pairs (Some b) s (way_at now s)) y)
        | inr y ↦ or-left (is_among s all) (is_among s more) (whole s ∙ or-right (is_among s broken) ((b == s) || false) y)
      ])
    ] in
    record {
      count = c.count ∙ p.count;
      kept = λ s w e. p.kept s w (left-way (is_cut pairs (Some b) s (way_at now s)) (way_at now s) w (sym (c.at s) ∙ e)).1;
      gone = λ s some none. elim (cases_Bool (is_cut pairs (Some b) s (way_at now s))) [
        | inl is ↦ or-right (is_among s all) (is_among s more) (c.listed s ∙ or-right (is_among s rest) (is_cut pairs (Some b) s (way_at now s)) is)
        | inr not ↦ moved s (p.gone s some (sym (c.at s ∙ ap (λ x. cond {A = Option Way} x None (way_at now s)) not) ∙ none))
      ];
      from = λ s e. moved s (p.from s e);
      over = λ s w e.
          (let z = left-way (is_cut pairs (Some b) s (way_at now s)) (way_at now s) w (sym (c.at s) ∙ e) in
          whole w.target ∙ ap (λ x. x || ((b == w.target) || false)) (p.over s w z.1) ∙ or-false (b == w.target)
          ∙ (elim (cases_Bool (b == w.target)) [
            | inl same ↦
                (let is : b ≡ w.target = eqb-true b w.target same in
                let one : is_one_of pairs s w.choice ≡ true = ap (λ (x : List Pred). is_one_of x s w.choice) (er ∙ ap (λ j. get_or preds j []) is) ∙ known s w (p.kept s w z.1) in
                let cut : is_cut pairs (Some b) s (way_at now s) ≡ true = ap (is_cut pairs (Some b) s) z.1 ∙ and-both (is_one_of pairs s w.choice) (w.target == b) one (eq-eqb w.target b (sym is)) in
                absurd (false≢true (sym z.0 ∙ cut)))
            | inr other ↦ other
          ]));
      below = λ s e. elim (or-cases (is_among s all) (is_among s more) e) [
        | inl x ↦ (elim (or-cases (is_among s broken) ((b == s) || false) (sym (whole s) ∙ x)) [
          | inl y ↦ p.below s (or-left (is_among s broken) (is_among s pending) y)
          | inr y ↦ p.below s (or-right (is_among s broken) (is_among s pending) (last s ∙ or-right (is_among s rest) ((b == s) || false) y))
        ])
        | inr x ↦ (elim (or-cases (is_among s rest) (is_cut pairs (Some b) s (way_at now s)) (sym (c.listed s) ∙ x)) [
          | inl y ↦ p.below s (or-right (is_among s broken) (is_among s pending) (last s ∙ or-left (is_among s rest) ((b == s) || false) y))
          | inr y ↦ (let w = cut-some pairs (Some b) s (way_at now s) y in inr (ap is_some (p.kept s w.0 w.1)))
        ])
      ];
    }

none-pending : (s : ℕ) (broken pending : List ℕ) → pending ≡ [] → (is_among s broken || is_among s pending) ≡ is_among s broken
none-pending s broken pending e = ap (λ (x : List ℕ). is_among s broken || is_among s x) e ∙ or-false (is_among s broken)

pub pruned : (old new : List (Option Way)) (first pending broken : List ℕ) → IsPruning old new first pending broken → pending ≡ [] → IsPruned old new first broken
pruned old new first pending broken p e = record {
  count = p.count;
  kept = p.kept;
  gone = λ s some none. sym (none-pending s broken pending e) ∙ p.gone s some none;
  from = λ s x. sym (none-pending s broken pending e) ∙ p.from s x;
  over = p.over;
  below = λ s x. p.below s (none-pending s broken pending e ∙ x);
}

pub first-below : (old : List (Option Way)) (pairs : List Pred) (s : ℕ) → is_cut pairs None s (way_at old s) ≡ true → s < length old
first-below old pairs s e = let w = cut-some pairs None s (way_at old s) e in way-in old s w.0 w.1

pub popped_below : (old new : List (Option Way)) (first pending broken rest : List ℕ) (b n : ℕ) → IsPruning old new first pending broken → pending ≡ rest ++ b ∷ []
    → All (λ t. t < n) first → n ≡ length old → b < n
popped_below old new first pending broken rest b n p e all many =
    let among : is_among b pending ≡ true = ap (is_among b) e ∙ among-append b rest (b ∷ []) ∙ or-right (is_among b rest) ((b == b) || false) (ap (λ x. x || false) (eq-eqb b b refl)) in
    elim (p.below b (or-right (is_among b broken) (is_among b pending) among)) [ inl x ↦ among-below b n first all x | inr h ↦ (let l = some-in old b h in omega (arith, l, many)) ]

-- after both kinds of cuts
pub uncut : (old mid new : List (Option Way)) (pairs : List Pred) (first none_yet broken : List ℕ) → IsCut old none_yet mid first pairs None → none_yet ≡ []
    → IsPruned mid new first broken → IsUncut old new pairs broken
uncut old mid new pairs first none_yet broken c z p =
    let in_first : (s : ℕ) → is_cut pairs None s (way_at old s) ≡ true → is_among s first ≡ true = λ s e.
    c.listed s ∙ or-right (is_among s none_yet) (is_cut pairs None s (way_at old s)) e in
    record {
      count = p.count ∙ c.count;
      kept = λ s w e.
          (let y = left-way (is_cut pairs None s (way_at old s)) (way_at old s) w (sym (c.at s) ∙ p.kept s w e) in
          (y.1, sym (and-true (is_one_of pairs s w.choice)) ∙ sym (ap (is_cut pairs None s) y.1) ∙ y.0));
      gone = λ s some none. elim (cases_Bool (is_cut pairs None s (way_at old s))) [
        | inl is ↦ p.from s (in_first s is)
        | inr not ↦ p.gone s (ap is_some (c.at s ∙ ap (λ x. cond {A = Option Way} x None (way_at old s)) not) ∙ some) none
      ];
      over = p.over;
      below = λ s e. elim (p.below s e) [
        | inl x ↦
            (let w = cut-some pairs None s (way_at old s) (sym (ap (λ (l : List ℕ). is_among s l || is_cut pairs None s (way_at old s)) z) ∙ sym (c.listed s) ∙ x) in ap is_some w.1)
        | inr h ↦ (elim (cases_way (way_at mid s)) [
          | inl none ↦ absurd (false≢true (sym (ap is_some none) ∙ h))
          | inr w ↦ ap is_some (left-way (is_cut pairs None s (way_at old s)) (way_at old s) w.0 (sym (c.at s) ∙ w.1)).1
        ])
      ];
    }
