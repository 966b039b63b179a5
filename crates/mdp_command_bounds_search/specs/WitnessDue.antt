-- What is due to `bounds` of a witness, to the direction, the labels, the threshold and the model. It's no function of them: which subsystem is found, and by
-- which bounds, is left to the search.
use Rattle.std.specs.Prelude.{◌≡◌, ◌⊎◌, ℕ, Bool, true, false, List, map, Option, Some, None, option_map, Ok, Err}
use Rattle.std.specs.{Borrow.{Bor}, Global.{Vec}}
use Rattle.mdp_math.specs.Rational.{ℚ}
use Rattle.mdp_spec.specs.{Labels.{initial_of}, Mdp.{Mdp}}
use Rattle.mdp_rows.specs.declared.dir.Dir.{Dir}
use Rattle.mdp_check.specs.Check.{goal_marks, way_by}
use Rattle.mdp_subsystem_bounds.specs.{Cert.{SubsystemClaim, Certificate, plain_claim, kept_states, Fits}, Check.{IsAccepted}, Spelling.{text_of}}
use Rattle.mdp_subsystem_bounds.specs.{declared.mark.Mark.{Mark}, declared.mark.Mark.TheVariants.{Out, Kept, Open}}
use Rattle.mdp_subsystem_search.specs.Shown.{AreNeeded, IsBelow, IsUndecided}
use Rattle.mdp_subsystem_search.specs.{declared.subsystem.Unshown.{Unshown}, declared.subsystem.Unshown.TheVariants.{Below, Undecided, Memory}}
use Rattle.mdp_job.specs.Refusal.{PlainRefusal, query_label, query_init, below, undecided, no_memory}
use Rattle.mdp_command.specs.Said.{Said}

-- ---- the claim

-- the bytes of a name that may be there
abbrev pub name_of : Option (Bor (List ℕ)) → Option (List ℕ)
name_of name = option_map (λ xs. xs.now) name

abbrev pub owned_name : Option (Vec ℕ) → Option (List ℕ)
owned_name name = option_map (λ xs. xs.items) name

abbrev pub claim_by : Dir → Option (List ℕ) → List ℕ → ℚ → SubsystemClaim
claim_by dir stay label threshold = record { dir = dir; stay = stay; label = label; threshold = threshold }

-- what is said where there is no subsystem
abbrev pub refusal_of : Unshown → PlainRefusal
refusal_of (Below v) = below v
refusal_of (Undecided low high) = undecided low high
refusal_of Memory = no_memory

-- ---- the marks of a certificate

-- whether a state with this mark was shown to be needed
abbrev pub is_needed : Mark → Bool
is_needed Out = false
is_needed Kept = true
is_needed Open = false

abbrev pub needed_states : List Mark → List Bool
needed_states marks = map is_needed marks

-- each state that is marked so is needed: without it the best probability of the subsystem is below the threshold
abbrev pub MarksAreTrue : Mdp → List Bool → Certificate → Type 0
MarksAreTrue m goals c =
    AreNeeded c.claim.dir (way_by m goals c.claim.stay) goals c.start c.claim.threshold (kept_states c.lists.marks) (needed_states c.lists.marks)

-- ---- what is due

module _ (claim : SubsystemClaim) (m : Mdp) where
  -- the text of some certificate of this claim that is accepted for the model, whose marks are true
  pub record IsAcceptedText (goals : List Bool) (said : Said) : Type 0 where
    pub cert : Certificate
    pub claimed : cert.claim ≡ claim
    pub fits : Fits cert
    pub accepted : IsAccepted m cert
    pub marks : MarksAreTrue m goals cert
    pub spelled : said ≡ Ok (text_of cert)

  -- an upper value of the best probability from the start that is below the threshold
  pub record IsBelowSaid (goals : List Bool) (start : ℕ) (said : Said) : Type 0 where
    pub value : ℚ
    pub is_below : IsBelow claim.dir (way_by m goals claim.stay) goals start claim.threshold value
    pub says : said ≡ Err (below value)

  -- a lower and an upper value between which the threshold lies, where the exact query is too wide
  pub record IsUndecidedSaid (goals : List Bool) (start : ℕ) (said : Said) : Type 0 where
    pub low : ℚ
    pub high : ℚ
    pub is_undecided : IsUndecided claim.dir (way_by m goals claim.stay) goals start claim.threshold low high
    pub says : said ≡ Err (undecided low high)

  abbrev pub IsEndDue : List Bool → ℕ → Said → Type 0
  IsEndDue goals start said = IsAcceptedText goals said ⊎ (IsBelowSaid goals start said ⊎ IsUndecidedSaid goals start said)

  -- the labels are looked up first, then the one initial state
  abbrev pub IsDueAt : Option (List Bool) → Option ℕ → Said → Type 0
  IsDueAt None start said = said ≡ Err query_label
  IsDueAt (Some goals) None said = said ≡ Err query_init
  IsDueAt (Some goals) (Some start) said = IsEndDue goals start said

abbrev pub IsBoundsWitnessDue : SubsystemClaim → Mdp → Said → Type 0
IsBoundsWitnessDue claim m said = IsDueAt claim m (goal_marks m (plain_claim claim)) (initial_of m) said
