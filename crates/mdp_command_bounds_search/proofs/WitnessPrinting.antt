-- What is due for a subsystem that was found: its certificate is accepted for the model, it has a text, and its marks are true.
use Rattle.std.proofs.Common.{◌≡◌, ◌⊎◌, ℕ, inl, inr, Bool, true, ◌&&◌, List, length, Option, Some, None, Ok, Err, refl, ap, ap₂, subst, ◌∙◌}
use Rattle.std.specs.Prelude.{All}
use Rattle.mdp_math.specs.Rational.{ℚ, ◌≤ℚ◌}
use Rattle.mdp_spec.specs.{Labels.{place_of, initial_of}, Mdp.{Mdp, states_of, value_at}, Sub.{sub_of}}
use Rattle.mdp_rows.proofs.FoundNames.{found_among}
use Rattle.mdp_rows.specs.{Name.{IsName}, declared.dir.Dir.{Dir}}
use Rattle.mdp_bounds.specs.Reach.{IsReachBounds}
use Rattle.mdp_cert.specs.Cert.{witness, are_names}
use Rattle.mdp_check.specs.Check.{marks_by, way_by}
use Rattle.mdp_check.proofs.Ways.{way_by_states}
use Rattle.mdp_subsystem_bounds.specs.{Cert.{SubsystemClaim, Certificate, Fits}, Check.{IsAccepted}, Spelling.{text_of}}
use Rattle.mdp_subsystem_search.specs.{Code.{IfBelow, IfUndecided}, Shown.{ones, AreNeeded, IsBelow, IsUndecided}, declared.subsystem.Subsystem.{Subsystem}}
use Rattle.mdp_subsystem_search.specs.declared.subsystem.Unshown.{Unshown}
use Rattle.mdp_subsystem_search.specs.declared.subsystem.Unshown.TheVariants as unshown
use Rattle.mdp_job.specs.Refusal.{PlainRefusal, below, undecided, no_memory}
use Rattle.mdp_command.specs.Said.{Said}
use Rattle.mdp_command_bounds_search.specs.WitnessDue.{refusal_of, MarksAreTrue, IsEndDue}
use Rattle.mdp_command_bounds_search.specs.WitnessMarks.{IsSized, lists_of, certificate_of}
use Rattle.mdp_command_bounds_search.proofs.{Printing.{marked_at}, Solved.{stays_there}, WitnessMarks.{kept-back, needed-marks}}

-- labels that were found are names
pub names_there : (dir : Dir) (m : Mdp) (stay : Option (List ℕ)) (label : List ℕ) (t : ℚ) (goals : List Bool) → All IsName m.labels → marks_by m stay label ≡ Some goals
    → are_names (witness dir stay label t) ≡ true
names_there dir m None label t goals known e = let l = marked_at m (place_of label m.labels) goals e in found_among IsName label m.labels l.0 l.1 known
names_there dir m (Some stay) label t goals known e =
    let way = stays_there m label (place_of stay m.labels) goals e in
    let l = marked_at m (place_of label m.labels) goals way.2 in
    ap₂ (λ (p q : Bool). p && q) (found_among IsName stay m.labels way.0 way.1 known) (found_among IsName label m.labels l.0 l.1 known)

module _ (claim : SubsystemClaim) (m : Mdp) (goals : List Bool) (start : ℕ) (found : Subsystem) (sized : IsSized (states_of m) found) where
  abbrev way : Mdp
  way = way_by m goals claim.stay

  abbrev own : Certificate
  own = certificate_of claim start (lists_of (states_of m) found)

  -- it meets the rules
  pub record IsShown : Type 0 where
    pub marked : marks_by m claim.stay claim.label ≡ Some goals
    pub initial : initial_of m ≡ Some start
    pub rules : IsReachBounds claim.dir (sub_of way goals found.kept) goals found.bounds.lower.items (ones way) found.bounds.choices.items found.bounds.ranks.items
    pub reached : claim.threshold ≤ℚ value_at found.bounds.lower.items start
    pub needed : AreNeeded claim.dir way goals start claim.threshold found.kept found.needed

  module _ (shown : IsShown) where
    accepted : IsAccepted m own
    accepted = record {
      states = sized.lower;
      goals = goals;
      marked = shown.marked;
      init = shown.initial;
      rules = record {
        rules = rw (kept-back (states_of m) found.kept found.needed sized.kept) shown.rules;
        reached = shown.reached;
      };
    }

    marks : MarksAreTrue m goals own
    marks = needed-marks (states_of m) found.kept found.needed claim.dir way goals start claim.threshold sized.kept (way_by_states m goals claim.stay) shown.needed

    pub text_due : (c : Certificate) (said : Said) → c ≡ own → Fits c → (said ≡ Err no_memory) ⊎ (said ≡ Ok (text_of c)) → (said ≡ Err no_memory) ⊎ IsEndDue claim m goals start said
    text_due c said is fits (inl memory) = inl memory
    text_due c said is fits (inr e) =
        inr (inl (record { cert = own; claimed = refl; fits = subst Fits is fits; accepted = accepted; marks = marks; spelled = e ∙ ap (λ (k : Certificate). let s : Said = Ok (text_of k) in s) is }))

-- ---- what is found on what is left for the way

pub sized_on : (m way : Mdp) (found : Subsystem) → states_of way ≡ states_of m → length found.bounds.lower.items ≡ states_of way → found.bounds.upper.items ≡ ones way
    → length found.bounds.choices.items ≡ states_of way → length found.bounds.ranks.items ≡ states_of way → length found.kept ≡ states_of way → length found.needed ≡ states_of way
    → IsSized (states_of m) found
sized_on m way found same lower upper choices ranks kept needed = rw (← same) (record { lower = lower; upper = upper; choices = choices; ranks = ranks; kept = kept; needed = needed })

-- ---- what is said where there is none

below_due : (claim : SubsystemClaim) (m : Mdp) (goals : List Bool) (start : ℕ) (v : ℚ) → IsBelow claim.dir (way_by m goals claim.stay) goals start claim.threshold v
    → (let said : Said = Err (below v) in IsEndDue claim m goals start said)
below_due claim m goals start v is = inr (inl (record { value = v; is_below = is; says = refl }))

undecided_due : (claim : SubsystemClaim) (m : Mdp) (goals : List Bool) (start : ℕ) (low high : ℚ)
    → IsUndecided claim.dir (way_by m goals claim.stay) goals start claim.threshold low high → (let said : Said = Err (undecided low high) in IsEndDue claim m goals start said)
undecided_due claim m goals start low high is = inr (inr (record { low = low; high = high; is_undecided = is; says = refl }))

pub refused_due : (claim : SubsystemClaim) (m : Mdp) (goals : List Bool) (start : ℕ) (way : Mdp) → way ≡ way_by m goals claim.stay → (error : Unshown)
    → IfBelow error (IsBelow claim.dir way goals start claim.threshold) → IfUndecided error (IsUndecided claim.dir way goals start claim.threshold)
    → (r : PlainRefusal) → r ≡ refusal_of error → (let said : Said = Err r in (said ≡ Err no_memory) ⊎ IsEndDue claim m goals start said)
refused_due claim m goals start way is (unshown.Below v) b u r same = rw same (inr (below_due claim m goals start v (rw (← is) b)))
refused_due claim m goals start way is (unshown.Undecided low high) b u r same = rw same (inr (undecided_due claim m goals start low high (rw (← is) u)))
refused_due claim m goals start way is unshown.Memory b u r same = rw same (inl refl)
