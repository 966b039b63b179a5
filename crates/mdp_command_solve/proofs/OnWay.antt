-- Labels that are found, and what is left of a model for a way.
use Rattle.std.proofs.Common.{◌≡◌, ℕ, Bool, true, ◌&&◌, List, length, Option, Some, None, refl, sym, ap, ap₂, ◌∙◌}
use Rattle.std.proofs.lemmas.List.{length-map}
use Rattle.std.specs.{Prelude.{option_map}, List.{All}}
use Rattle.mdp_math.specs.Rational.{ℚ}
use Rattle.mdp_spec.specs.{Labels.{place_of, marks_of}, Mdp.{Mdp, states_of}, Row.{IsMdp}}
use Rattle.mdp_spec.proofs.Subsystem.{sub-states, sub_is_mdp}
use Rattle.mdp_rows.specs.{Name.{IsName}, declared.dir.Dir.{Dir}}
use Rattle.mdp_rows.proofs.FoundNames.{found_among}
use Rattle.mdp_cert.specs.Cert.{witness, are_names}
use Rattle.mdp_check.specs.Check.{stay_marks, way_by, marks_on_way, goal_marks}
use Rattle.mdp_command_solve.specs.{Ways.{with_place, place_on_way, goals_by}, Due.{claim_of}}

-- ---- places

both_found : (p q : Option ℕ) (l : ℕ) → with_place p q ≡ Some l → (x : ℕ) × (p ≡ Some x) × (q ≡ Some l)
both_found None q l e = cc
both_found (Some x) q l e = (x, refl, e)

placed_at : (m : Mdp) (p : Option ℕ) (goals : List Bool) → option_map (marks_of m) p ≡ Some goals → (l : ℕ) × (p ≡ Some l) × (marks_of m l ≡ goals)
placed_at m None goals e = cc
placed_at m (Some l) goals e = (l, refl, cc)

pub placed : (m : Mdp) (stay : Option (List ℕ)) (label : List ℕ) (goals : List Bool) → goals_by m stay label ≡ Some goals
    → (l : ℕ) × (place_on_way m stay label ≡ Some l) × (marks_of m l ≡ goals)
placed m stay label goals e = placed_at m (place_on_way m stay label) goals e

-- a mark for each state
pub marks_each : (m : Mdp) (stay : Option (List ℕ)) (label : List ℕ) (goals : List Bool) → goals_by m stay label ≡ Some goals → length goals ≡ states_of m
marks_each m stay label goals e = let p = placed m stay label goals e in sym (ap length p.2) ∙ length-map m.states _

-- ---- the goals of a claim

on_way : (m : Mdp) (label : List ℕ) (p : Option ℕ) → marks_on_way m label p ≡ option_map (marks_of m) (with_place p (place_of label m.labels))
on_way m label None = refl
on_way m label (Some x) = refl

pub marked : (m : Mdp) (dir : Dir) (stay : Option (List ℕ)) (label : List ℕ) (goals : List Bool) → goals_by m stay label ≡ Some goals → goal_marks m (claim_of dir stay label) ≡ Some goals
marked m dir None label goals e = e
marked m dir (Some a) label goals e = on_way m label (place_of a m.labels) ∙ e

pub witness_marked : (m : Mdp) (dir : Dir) (stay : Option (List ℕ)) (label : List ℕ) (threshold : ℚ) (goals : List Bool) → goals_by m stay label ≡ Some goals
    → goal_marks m (witness dir stay label threshold) ≡ Some goals
witness_marked m dir None label threshold goals e = e
witness_marked m dir (Some a) label threshold goals e = on_way m label (place_of a m.labels) ∙ e

-- ---- names

module _ (m : Mdp) (each : All IsName m.labels) (dir : Dir) (label : List ℕ) where
  names_at : (stay : Option (List ℕ)) (l : ℕ) → place_on_way m stay label ≡ Some l → are_names (claim_of dir stay label) ≡ true
  names_at None l e = found_among IsName label m.labels l e each
  names_at (Some a) l e =
      let both = both_found (place_of a m.labels) (place_of label m.labels) l e in
      ap₂ (λ (x y : Bool). x && y) (found_among IsName a m.labels both.0 both.1 each) (found_among IsName label m.labels l both.2 each)

  pub names : (stay : Option (List ℕ)) (goals : List Bool) → goals_by m stay label ≡ Some goals → are_names (claim_of dir stay label) ≡ true
  names stay goals e = let p = placed m stay label goals e in names_at stay p.0 p.1

  witness_names_at : (stay : Option (List ℕ)) (threshold : ℚ) → are_names (claim_of dir stay label) ≡ true → are_names (witness dir stay label threshold) ≡ true
  witness_names_at None threshold e = e
  witness_names_at (Some a) threshold e = e

  pub witness_names : (stay : Option (List ℕ)) (threshold : ℚ) (goals : List Bool) → goals_by m stay label ≡ Some goals → are_names (witness dir stay label threshold) ≡ true
  witness_names stay threshold goals e = witness_names_at stay threshold (names stay goals e)

-- ---- what is left

pub way_states : (m : Mdp) (goals : List Bool) (stay : Option (List ℕ)) → states_of (way_by m goals stay) ≡ states_of m
way_states m goals None = refl
way_states m goals (Some a) = sub-states m goals (stay_marks m a)

pub way_is_mdp : (m : Mdp) (goals : List Bool) (stay : Option (List ℕ)) → IsMdp m → IsMdp (way_by m goals stay)
way_is_mdp m goals None known = known
way_is_mdp m goals (Some a) known = sub_is_mdp m goals (stay_marks m a) known
