-- The marks of a subsystem say which states are kept, and which of these are needed.
use Rattle.std.proofs.Common.{◌≡◌, ℕ, ◌<◌, Bool, true, false, ◌&&◌, List, length, get_or, refl, sym, ap, ◌∙◌, arith}
use Rattle.std.proofs.lemmas.{Bool.{and_parts}, List.{length-map, get_or-map, ext_get_or}, List.FromFn.{length-map-range_with_len, get_or-map-range_with_len}}
use Rattle.mdp_math.specs.Rational.{ℚ}
use Rattle.mdp_spec.specs.{Mdp.{Mdp, states_of}, Tree.{is_marked}}
use Rattle.mdp_rows.specs.declared.dir.Dir.{Dir}
use Rattle.mdp_subsystem_bounds.specs.{Cert.{is_kept, kept_states}, declared.mark.Mark.{Mark}, declared.mark.Mark.TheVariants.{Out}}
use Rattle.mdp_subsystem_search.specs.Shown.{AreNeeded}
use Rattle.mdp_command_bounds_search.specs.{WitnessDue.{is_needed, needed_states}, WitnessMarks.{mark_of, marks_of}}

kept-mark : (kept needed : Bool) → is_kept (mark_of kept needed) ≡ kept
kept-mark false needed = refl
kept-mark true false = refl
kept-mark true true = refl

needed-mark : (kept needed : Bool) → is_needed (mark_of kept needed) ≡ (kept && needed)
needed-mark false needed = refl
needed-mark true false = refl
needed-mark true true = refl

pub marks-count : (n : ℕ) (kept needed : List Bool) → length (marks_of n kept needed) ≡ n
marks-count n kept needed = length-map-range_with_len (λ s. mark_of (is_marked kept s) (is_marked needed s)) 0 n

module _ (n : ℕ) (kept needed : List Bool) where
  abbrev said : ℕ → Mark
  said s = mark_of (is_marked kept s) (is_marked needed s)

  mark-at : (s : ℕ) → s < n → get_or (marks_of n kept needed) s Out ≡ said s
  mark-at s l = get_or-map-range_with_len said 0 n s s Out l (omega arith)

  below-count : (s : ℕ) → s < n → s < length (marks_of n kept needed)
  below-count s l = let c = marks-count n kept needed in omega (arith, c, l)

  pub kept-back : length kept ≡ n → kept_states (marks_of n kept needed) ≡ kept
  kept-back size =
      ext_get_or false (kept_states (marks_of n kept needed)) kept (length-map (marks_of n kept needed) is_kept ∙ marks-count n kept needed ∙ sym size)
      (λ s l.
      let i : s < n = let c = length-map (marks_of n kept needed) is_kept in let d = marks-count n kept needed in omega (arith, c, d, l) in
      get_or-map is_kept (marks_of n kept needed) s Out false (below-count s i) ∙ ap is_kept (mark-at s i) ∙ kept-mark (is_marked kept s) (is_marked needed s))

  needed-back : (s : ℕ) → s < n → is_marked (needed_states (marks_of n kept needed)) s ≡ true → is_marked needed s ≡ true
  needed-back s l e =
      let is : (is_marked kept s && is_marked needed s) ≡ true =
      sym (get_or-map is_needed (marks_of n kept needed) s Out false (below-count s l) ∙ ap is_needed (mark-at s l) ∙ needed-mark (is_marked kept s) (is_marked needed s)) ∙ e in
      (and_parts (is_marked kept s) (is_marked needed s) is).1

  -- what the search shows of the needed ones is true of the marks
  pub needed-marks : (dir : Dir) (m : Mdp) (goals : List Bool) (start : ℕ) (t : ℚ) → length kept ≡ n → states_of m ≡ n → AreNeeded dir m goals start t kept needed
      → AreNeeded dir m goals start t (kept_states (marks_of n kept needed)) (needed_states (marks_of n kept needed))
  needed-marks dir m goals start t size states each =
      rw (kept-back size) (λ s l e. each s l (needed-back s (let i : s < n = omega (arith, l, states) in i) e))
