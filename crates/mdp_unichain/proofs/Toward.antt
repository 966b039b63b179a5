-- The pass toward some states of a part: its ranks and choices are those of the path.
use Rattle.std.proofs.Common.{◌≡◌, ℕ, suc, ◌<◌, ◌≤◌, inl, Bool, true, false, ◌&&◌, nat_lt, List, length, Option, sym, ◌∙◌, ap, subst, arith}
use Rattle.std.proofs.lemmas.Bool.{or_right, and_parts, and_from, ltb-true, lt-ltb}
use Rattle.std.specs.{List.{All, Any}, Prelude.{slice_index}}
use Rattle.mdp_spec.specs.Mdp.{Entry, Mdp, states_of, choices_at, row_at}
use Rattle.mdp_rows.specs.{declared.dir.Dir.{Dir}, Preds.{leads_to}}
use Rattle.mdp_graph.specs.{Sets.{marked}, Layers.{reached}, Reach.{falls}}
use Rattle.mdp_ends.specs.{Ends.{in_part, is_inside}, Toward.{inner_step, target_in, inner_falls, IsToward}}
use Rattle.mdp_ends.proofs.Walking.{enters-at, enters-by, step-by, target-below}
use Rattle.mdp_unichain.specs.Component as component
use Rattle.mdp_unichain.specs.{Component.{Component, Choice, IsInner, is_state, IsComponent}, Model.{IsInside}, Next.{LeadsNearer, AreRanksToward, IsNearest}}
use Rattle.mdp_unichain.specs.Part.{IsPart, is_inner, inner_component}
use Rattle.mdp_unichain.proofs.{Entries.{any-target, target-any, all-target, target-all}, Members.{inside_of, inner_of, row-is}}
use Rattle.mdp_unichain.proofs.Parts.{member-below, inner_inside, inside_inner, part-component, part-state}

module _ (dir : Dir) (m : Mdp) (parts : List (Option ℕ)) (i r : ℕ) (k : IsPart m parts i) (target marks : List Bool) (ranks choices : List ℕ)
    (pass : IsToward m parts i target marks ranks choices) (marks_are : (s : ℕ) → s < states_of m → marked marks s ≡ in_part parts i s)
    (class : ℕ → Bool) (same : (s : ℕ) → target_in parts i target s ≡ class s) where
  abbrev p : Component
  p = inner_component dir m parts i r

  abbrev rank : ℕ → ℕ
  rank = slice_index ranks

  known : IsComponent p
  known = part-component m parts i k dir r

  member : (s : ℕ) → is_state p s ≡ true → in_part parts i s ≡ true
  member s h = sym (part-state m parts i k dir r s) ∙ h

  -- what an inner choice is in the model
  inside : (s c : ℕ) → IsInner p s c → IsInside m (is_inner m parts i) s c
  inside s c h = inside_of dir m r (is_inner m parts i) s c h

  row-same : (s c : ℕ) → IsInner p s c → Choice.row (component.choice_at p s c) ≡ row_at m s c
  row-same s c h = row-is dir m r (is_inner m parts i) s c (inside s c h)

  -- it leads to states of the part alone
  inner_target : (s c y : ℕ) → IsInner p s c → leads_to y (row_at m s c) ≡ true → is_state p y ≡ true
  inner_target s c y h l =
      all-target (row_at m s c) (λ v. is_state p v ≡ true) (subst (λ (es : List Entry). All (λ v. is_state p v.target ≡ true) es) (row-same s c h) (IsComponent.stays known s c h)) y l

  first_rank : (s : ℕ) → target_in parts i target s ≡ true → reached (inner_step m parts) (target_in parts i target) 0 s ≡ true
  unfolding reached
  first_rank s h = h

  next_rank : (j s : ℕ) → inner_step m parts (reached (inner_step m parts) (target_in parts i target) j) s ≡ true → reached (inner_step m parts) (target_in parts i target) (suc j) s ≡ true
  unfolding reached
  next_rank j s h = or_right (reached (inner_step m parts) (target_in parts i target) j s) (inner_step m parts (reached (inner_step m parts) (target_in parts i target) j) s) h

  class_below : (s : ℕ) → class s ≡ true → s < states_of m
  class_below s h = member-below m parts i k s (let q = same s ∙ h in (and_parts (in_part parts i s) (marked target s) q).0)

  zero_rank : (s : ℕ) → class s ≡ true → rank s ≡ 0
  zero_rank s h = let l = pass.ranked.least s 0 (class_below s h) (first_rank s (same s ∙ h)) in omega arith

  -- the choice of a state outside the class passes the test
  falls_by : (s : ℕ) → is_state p s ≡ true → class s ≡ false → inner_falls m parts marks ranks s (slice_index choices s) ≡ true
  falls_by s h o =
      let e = member s h in
      let l = member-below m parts i k s e in
      pass.chosen.passes s l (marks_are s l ∙ e) (sym (ap (λ b. b && marked target s) e) ∙ same s ∙ o)

  nearer_of : (s c : ℕ) → is_state p s ≡ true → c < length (choices_at m s) → inner_falls m parts marks ranks s c ≡ true → LeadsNearer p rank s c
  nearer_of s c h lc e =
      let b = and_parts (is_inside m parts s c) (falls m marks ranks s c) e in
      let z = enters-at (λ t. marked marks t && nat_lt (rank t) (rank s)) (row_at m s c) b.1 in
      let q = and_parts (marked marks z.0) (nat_lt (rank z.0) (rank s)) z.2 in
      let g = member s h in
      let n : IsInner p s c = inner_of dir m r (is_inner m parts i) s c (member-below m parts i k s g, lc, inside_inner m parts i k s c g b.0) in
      (n, subst (λ (es : List Entry). Any (λ y. rank y.target < rank s) es) (sym (row-same s c n)) (target-any (row_at m s c) (λ t. rank t < rank s) z.0 z.1 (ltb-true (rank z.0) (rank s) q.1)))

  of_nearer : (s c : ℕ) → LeadsNearer p rank s c → inner_falls m parts marks ranks s c ≡ true
  of_nearer s c h =
      let w = inside s c h.0 in
      let z = any-target (row_at m s c) (λ t. rank t < rank s) (subst (λ (es : List Entry). Any (λ y. rank y.target < rank s) es) (row-same s c h.0) h.1) in
      let l = target-below m (IsPart.model k) s c z.0 w.0 w.1 z.1 in
      let g = inner_target s c z.0 h.0 z.1 in
      and_from (is_inside m parts s c) (falls m marks ranks s c) (inner_inside m parts i k s c w.2)
      (enters-by (λ t. marked marks t && nat_lt (rank t) (rank s)) (row_at m s c) z.0 z.1
      (and_from (marked marks z.0) (nat_lt (rank z.0) (rank s)) (marks_are z.0 l ∙ member z.0 g) (lt-ltb (rank z.0) (rank s) z.2)))

  least_rank : (s c y : ℕ) → IsInner p s c → leads_to y (row_at m s c) ≡ true → rank s ≤ suc (rank y)
  least_rank s c y h to =
      let w = inside s c h in
      let l = target-below m (IsPart.model k) s c y w.0 w.1 to in
      let g = inner_target s c y h to in
      pass.ranked.least s (suc (rank y)) w.0
      (next_rank (rank y) s
      (step-by m (is_inside m parts) (reached (inner_step m parts) (target_in parts i target) (rank y)) s c y w.1 (inner_inside m parts i k s c w.2) to
      (pass.ranked.reaches y l (marks_are y l ∙ member y g))))

  pub ranks_toward : AreRanksToward p class rank
  ranks_toward = record {
    zero = zero_rank;
    falls = λ s h o.
        let l = member-below m parts i k s (member s h) in
        (slice_index choices s, nearer_of s (slice_index choices s) h (pass.chosen.in_range s l) (falls_by s h o));
    least = λ s c h.
        subst (λ (es : List Entry). All (λ y. rank s ≤ suc (rank y.target)) es) (sym (row-same s c h))
        (target-all (row_at m s c) (λ y. rank s ≤ suc (rank y)) (λ y to. least_rank s c y h to));
  }

  pub nearest_choice : (s : ℕ) → is_state p s ≡ true → class s ≡ false → IsNearest p rank s (slice_index choices s)
  nearest_choice s h o =
      let l = member-below m parts i k s (member s h) in
      record {
        nearer = nearer_of s (slice_index choices s) h (pass.chosen.in_range s l) (falls_by s h o);
        least = λ d e. pass.chosen.least s d l (of_nearer s d e) (let w = inside s d e.0 in w.1);
      }

  not_member : (s : ℕ) → is_state p s ≡ false → in_part parts i s ≡ false
  not_member s h = sym (part-state m parts i k dir r s) ∙ h

  -- outside the part there is choice 0
  pub outside_choice : (s : ℕ) → s < states_of m → is_state p s ≡ false → slice_index choices s ≡ 0
  outside_choice s l h = pass.chosen.zero s l (inl (marks_are s l ∙ not_member s h))
