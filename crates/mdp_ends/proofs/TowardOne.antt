-- The pass toward one state of a part has the ranks and choices that are computed for this state.
use Rattle.std.proofs.Common.{◌≡◌, ℕ, suc, ◌<◌, Bool, true, false, ◌&&◌, ◌==◌, nat_lt, List, length, get_or, ap, ◌∙◌, arith, Option}
use Rattle.std.proofs.lemmas.Bool.{and_parts, and_from, eqb-true, eq-eqb, false_from_ne_true, ltb-true, lt-ltb}
use Rattle.mdp_spec.specs.{Mdp.{Mdp, states_of, choices_at, row_at}, Row.{IsMdp}}
use Rattle.mdp_rows.specs.Preds.{leads_to}
use Rattle.mdp_graph.specs.{Sets.{marked, can_enter}, Layers.{reached, AreLeastRanks}, Choices.{AreLeast}}
use Rattle.mdp_ends.specs.{Walks.{comes_to}, Ends.{part_of, in_part, is_inside, count_of, AreEnds}}
use Rattle.mdp_ends.specs.Toward.{inner_step, target_in, inner_falls, IsToward, rank_to, choice_to}
use Rattle.mdp_ends.proofs.{Walking.{stays-at, enters-at, enters-by, target-below}, RoundLaws.{number-has, inside-stays}, Closing.{reaches_by}}
use Rattle.mdp_ends.proofs.{TowardLaws.{wider, steps_rise, toward_marks}, Firsts.{first-least, first-found}}

-- the choices that fall, within a part with one target alone whose ranks are known
module _ (m : Mdp) (ok : IsMdp m) (ends : List (Option ℕ)) (i : ℕ) (target marks : List Bool) (ranks choices : List ℕ) (chosen : AreLeast m target marks (inner_falls m ends marks ranks) choices)
    (x : ℕ) (marked_in : (s : ℕ) → s < states_of m → in_part ends i s ≡ true → marked marks s ≡ true)
    (rank_is : (s : ℕ) → s < states_of m → in_part ends i s ≡ true → get_or ranks s 0 ≡ rank_to m ends x s)
    (alone : (s : ℕ) → in_part ends i s ≡ true → marked target s ≡ true → s ≡ x) where
  in_it : (s c t : ℕ) → in_part ends i s ≡ true → is_inside m ends s c ≡ true → leads_to t (row_at m s c) ≡ true → in_part ends i t ≡ true
  in_it s c t is inside to = stays-at (in_part ends i) (row_at m s c) t (inside-stays m ends s c i (number-has i (part_of ends s) is) inside) to

  -- an inner choice of the component falls by one where it falls by the other
  falls-as : (s c : ℕ) → s < states_of m → in_part ends i s ≡ true → c < length (choices_at m s) → inner_falls m ends marks ranks s c ≡ true
      → (is_inside m ends s c && can_enter (λ t. nat_lt (rank_to m ends x t) (rank_to m ends x s)) (row_at m s c)) ≡ true
  falls-as s c h is l e =
      let p = and_parts (is_inside m ends s c) (can_enter (λ t. marked marks t && nat_lt (get_or ranks t 0) (get_or ranks s 0)) (row_at m s c)) e in
      let t = enters-at (λ t. marked marks t && nat_lt (get_or ranks t 0) (get_or ranks s 0)) (row_at m s c) p.1 in
      let ht = target-below m ok s c t.0 h l t.1 in
      let q = and_parts (marked marks t.0) (nat_lt (get_or ranks t.0 0) (get_or ranks s 0)) t.2 in
      let less = ltb-true (get_or ranks t.0 0) (get_or ranks s 0) q.1 in
      let rt = rank_is t.0 ht (in_it s c t.0 is p.0 t.1) in
      let rs = rank_is s h is in
      and_from (is_inside m ends s c) (can_enter (λ t. nat_lt (rank_to m ends x t) (rank_to m ends x s)) (row_at m s c)) p.0
      (enters-by (λ t. nat_lt (rank_to m ends x t) (rank_to m ends x s)) (row_at m s c) t.0 t.1 (lt-ltb (rank_to m ends x t.0) (rank_to m ends x s) (omega (arith, less, rt, rs))))

  falls-back : (s c : ℕ) → s < states_of m → in_part ends i s ≡ true → c < length (choices_at m s)
      → (is_inside m ends s c && can_enter (λ t. nat_lt (rank_to m ends x t) (rank_to m ends x s)) (row_at m s c)) ≡ true → inner_falls m ends marks ranks s c ≡ true
  falls-back s c h is l e =
      let p = and_parts (is_inside m ends s c) (can_enter (λ t. nat_lt (rank_to m ends x t) (rank_to m ends x s)) (row_at m s c)) e in
      let t = enters-at (λ t. nat_lt (rank_to m ends x t) (rank_to m ends x s)) (row_at m s c) p.1 in
      let ht = target-below m ok s c t.0 h l t.1 in
      let it = in_it s c t.0 is p.0 t.1 in
      let less = ltb-true (rank_to m ends x t.0) (rank_to m ends x s) t.2 in
      let rt = rank_is t.0 ht it in
      let rs = rank_is s h is in
      and_from (is_inside m ends s c) (can_enter (λ t. marked marks t && nat_lt (get_or ranks t 0) (get_or ranks s 0)) (row_at m s c)) p.0
      (enters-by (λ t. marked marks t && nat_lt (get_or ranks t 0) (get_or ranks s 0)) (row_at m s c) t.0 t.1
      (and_from (marked marks t.0) (nat_lt (get_or ranks t.0 0) (get_or ranks s 0)) (marked_in t.0 ht it) (lt-ltb (get_or ranks t.0 0) (get_or ranks s 0) (omega (arith, less, rt, rs)))))

  pub one_choice : (s : ℕ) → s < states_of m → in_part ends i s ≡ true → (s ≡ x → ⊥) → get_or choices s 0 ≡ choice_to m ends x s
  one_choice s h is other =
      let test : ℕ → Bool = λ c. is_inside m ends s c && can_enter (λ t. nat_lt (rank_to m ends x t) (rank_to m ends x s)) (row_at m s c) in
      let not_target : marked target s ≡ false = false_from_ne_true (marked target s) (λ it. other (alone s is it)) in
      let l = AreLeast.in_range chosen s h in
      let fits = falls-as s (get_or choices s 0) h is l (AreLeast.passes chosen s h (marked_in s h is) not_target) in
      let high = first-least test (length (choices_at m s)) (get_or choices s 0) l fits in
      let w = first-found test (length (choices_at m s)) (get_or choices s 0) l fits in
      let low = AreLeast.least chosen s (choice_to m ends x s) h (falls-back s (choice_to m ends x s) h is w.0 w.1) w.0 in
      omega (arith, low, high)

module _ (m : Mdp) (ok : IsMdp m) (ends : List (Option ℕ)) (are : AreEnds m ends) (i : ℕ) (below : i < count_of ends)
    (target marks : List Bool) (ranks choices : List ℕ) (pass : IsToward m ends i target marks ranks choices)
    (x : ℕ) (hx : x < states_of m) (x_in : in_part ends i x ≡ true) (x_is : marked target x ≡ true) (alone : (s : ℕ) → target_in ends i target s ≡ true → s ≡ x) where
  to_x : (k s : ℕ) → reached (inner_step m ends) (target_in ends i target) k s ≡ true → comes_to m (is_inside m ends) x k s ≡ true
  to_x = wider (inner_step m ends) (steps_rise m ok ends are i below target) (target_in ends i target) (λ s. s == x) (λ s e. eq-eqb s x (alone s e))

  from_x : (k s : ℕ) → comes_to m (is_inside m ends) x k s ≡ true → reached (inner_step m ends) (target_in ends i target) k s ≡ true
  from_x = wider (inner_step m ends) (steps_rise m ok ends are i below target) (λ s. s == x) (target_in ends i target)
      (λ s e. ap (target_in ends i target) (eqb-true s x e) ∙ and_from (in_part ends i x) (marked target x) x_in x_is)

  marks_are : (s : ℕ) → s < states_of m → marked marks s ≡ in_part ends i s
  marks_are = toward_marks m ok ends are i below target marks pass.reaches x hx x_in x_is

  pub toward-rank : (s : ℕ) → s < states_of m → in_part ends i s ≡ true → get_or ranks s 0 ≡ rank_to m ends x s
  toward-rank s h is =
      let n : ℕ = states_of m in
      let test : ℕ → Bool = λ k. comes_to m (is_inside m ends) x k s in
      let part = are.maximal i below in
      let walk = part.is_end.joined s x h hx is x_in in
      let w = first-found test (suc n) n (omega arith) (reaches_by m ok (is_inside m ends) s x h walk) in
      let low = AreLeastRanks.least pass.ranked s (rank_to m ends x s) h (from_x (rank_to m ends x s) s w.1) in
      let reached_it = to_x (get_or ranks s 0) s (AreLeastRanks.reaches pass.ranked s h (marks_are s h ∙ is)) in
      let high = first-least test (suc n) (get_or ranks s 0) (omega (arith, low, w.0)) reached_it in
      omega (arith, low, high)

  pub toward-choice : (s : ℕ) → s < states_of m → in_part ends i s ≡ true → (s ≡ x → ⊥) → get_or choices s 0 ≡ choice_to m ends x s
  toward-choice =
      one_choice m ok ends i target marks ranks choices pass.chosen x (λ s h is. marks_are s h ∙ is) toward-rank (λ s is it. alone s (and_from (in_part ends i s) (marked target s) is it))
