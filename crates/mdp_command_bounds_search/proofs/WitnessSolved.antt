-- Of a text that is due to `bounds` of a witness what is printed is so, `bounds-check` accepts it, and where one is due the best probability isn't below the
-- threshold.
use Rattle.std.proofs.Common.{◌≡◌, ◌⊎◌, ℕ, ◌<◌, ◌≤◌, inl, inr, Bool, List, length, Option, Some, None, Ok, Err, IfOk, refl, sym, ap, subst, ◌∙◌}
use Rattle.mdp_spec.specs.{Labels.{initial_of}, Mdp.{Mdp, states_of}, Row.{IsMdp}}
use Rattle.mdp_spec.proofs.Subsystem.{sub_is_mdp}
use Rattle.mdp_text.proofs.InitialState.{initial_below}
use Rattle.mdp_check.specs.Check.{goal_marks, stay_marks, way_by}
use Rattle.mdp_check.proofs.Ways.{way_by_states}
use Rattle.mdp_subsystem_bounds.specs.{Cert.{SubsystemClaim, plain_claim, kept_states}, Laws.{RulesReach, AcceptedIsBound, IsReadBack}}
use Rattle.mdp_subsystem_bounds.specs.{Reading.{outcome}, Spelling.{text_of}}
use Rattle.mdp_job.specs.Refusal.{no_memory}
use Rattle.mdp_command.specs.{Files.{most_bytes}, Said.{Said}}
use Rattle.mdp_command.proofs.TrueClaims.{true_claim_of}
use Rattle.mdp_command.specs.Kinds.{subsystem_between}
use Rattle.mdp_command_bounds_search.specs.WitnessDue.{IsAcceptedText, IsBelowSaid, IsEndDue, IsDueAt}
use Rattle.mdp_command_bounds_search.specs.WitnessLaws.{IsUndecidedAnswer, IsTextAnswer, TextExcludesRefusals, TextIsShown, WitnessTextIsAccepted}
use Rattle.mdp_command_bounds_search.specs.WitnessShown.{IsBoundsWitnessPrinted}
use Rattle.mdp_command_bounds_search.proofs.{WitnessBelow.{none_below}, WitnessLength.{text_short}}

-- ---- what is shown of a text

module _ (back : IsReadBack) (true_of : AcceptedIsBound) (claim : SubsystemClaim) (m : Mdp) (mdp : IsMdp m) where
  of_accepted : (goals : List Bool) (text : List ℕ) → goal_marks m (plain_claim claim) ≡ Some goals → IsAcceptedText claim m goals (Ok text) → IsBoundsWitnessPrinted claim m text
  of_accepted goals text marked a =
      let spelled : text ≡ text_of a.cert = cc a.spelled in
      record {
        cert = a.cert;
        claimed = a.claimed;
        spelled = spelled;
        short = subst (λ (t : List ℕ). length t ≤ most_bytes) (sym spelled) (text_short a.cert a.fits);
        reads = ap outcome spelled ∙ back a.cert a.fits;
        holds = a.accepted;
        bound = true_of m a.cert mdp a.accepted;
        marks = record { goals = goals; marked = ap (λ (c : SubsystemClaim). goal_marks m (plain_claim c)) a.claimed ∙ marked; needed = a.marks };
      }

  of_end : (goals : List Bool) (start : ℕ) (text : List ℕ) → goal_marks m (plain_claim claim) ≡ Some goals → IsEndDue claim m goals start (Ok text) → IsBoundsWitnessPrinted claim m text
  of_end goals start text marked (inl a) = of_accepted goals text marked a
  of_end goals start text marked (inr (inl b)) = absurd (let t = b.says in cc)
  of_end goals start text marked (inr (inr u)) = absurd (let t = u.says in cc)

  -- of what is said, where it is a text
  pub printed : (goals : List Bool) (start : ℕ) (said : Said) → goal_marks m (plain_claim claim) ≡ Some goals → (said ≡ Err no_memory) ⊎ IsEndDue claim m goals start said
      → IfOk said (IsBoundsWitnessPrinted claim m)
  printed goals start (Ok text) marked (inl memory) = cc memory
  printed goals start (Ok text) marked (inr due) = of_end goals start text marked due
  printed goals start (Err r) marked due = tt

  of_names : (goals : Option (List Bool)) (start : Option ℕ) (text : List ℕ) → goal_marks m (plain_claim claim) ≡ goals → IsDueAt claim m goals start (Ok text) → IsBoundsWitnessPrinted claim m text
  of_names None start text marked due = absurd cc
  of_names (Some goals) None text marked due = absurd cc
  of_names (Some goals) (Some start) text marked due = of_end goals start text marked due

pub text_is_shown : IsReadBack → AcceptedIsBound → TextIsShown
text_is_shown back true_of claim m text mdp due = of_names back true_of claim m mdp (goal_marks m (plain_claim claim)) (initial_of m) text refl due

pub text_is_accepted : WitnessTextIsAccepted
text_is_accepted rule claim model text shown =
    let p = shown.printed in true_claim_of subsystem_between _ rule model text shown p.cert p.short p.reads p.holds p.bound

-- ---- where a text is due

module _ (reach : RulesReach) (way_is_mdp : (m : Mdp) (goals : List Bool) (stay : Option (List ℕ)) → IsMdp m → IsMdp (way_by m goals stay)) (claim : SubsystemClaim) (m : Mdp) (mdp : IsMdp m) where
  -- the best probability isn't below the threshold
  not_below : (goals : List Bool) (start : ℕ) (text : List ℕ) (said : Said) → goal_marks m (plain_claim claim) ≡ Some goals → initial_of m ≡ Some start
      → IsAcceptedText claim m goals (Ok text) → IsBelowSaid claim m goals start said → ⊥
  not_below goals start text said marked initial a b =
      let way : Mdp = way_by m goals claim.stay in
      let known : IsMdp way = way_is_mdp m goals claim.stay mdp in
      let inside : start < states_of way = subst (λ (n : ℕ). start < n) (sym (way_by_states m goals claim.stay)) (initial_below m start initial) in
      let at : a.cert.start ≡ start = let i = sym a.accepted.init ∙ initial in cc i in
      let same : a.accepted.goals ≡ goals = let i = sym a.accepted.marked ∙ ap (λ (c : SubsystemClaim). goal_marks m (plain_claim c)) a.claimed ∙ marked in cc i in
      let kept : List Bool = kept_states a.cert.lists.marks in
      let rules = a.accepted.rules in
      none_below claim.dir way goals kept start claim.threshold b.value known inside b.is_below (
      reach claim.dir way goals start claim.threshold kept a.cert.lists.lower a.cert.lists.choices a.cert.lists.ranks known inside
      (rw (← same, ← at, ← a.claimed) rules))

  by_end : (goals : List Bool) (start : ℕ) (text : List ℕ) (said : Said) → goal_marks m (plain_claim claim) ≡ Some goals → initial_of m ≡ Some start
      → IsAcceptedText claim m goals (Ok text) → IsEndDue claim m goals start said → IsTextAnswer said ⊎ IsUndecidedAnswer said
  by_end goals start text said marked initial a (inl other) = inl (record { text = text_of other.cert; says = other.spelled })
  by_end goals start text said marked initial a (inr (inl b)) = absurd (not_below goals start text said marked initial a b)
  by_end goals start text said marked initial a (inr (inr u)) = inr (record { low = u.low; high = u.high; says = u.says })

  of_text : (goals : List Bool) (start : ℕ) (text : List ℕ) (said : Said) → goal_marks m (plain_claim claim) ≡ Some goals → initial_of m ≡ Some start
      → IsEndDue claim m goals start (Ok text) → IsEndDue claim m goals start said → IsTextAnswer said ⊎ IsUndecidedAnswer said
  of_text goals start text said marked initial (inl a) due = by_end goals start text said marked initial a due
  of_text goals start text said marked initial (inr (inl b)) due = absurd (let t = b.says in cc)
  of_text goals start text said marked initial (inr (inr u)) due = absurd (let t = u.says in cc)

  by_names : (goals : Option (List Bool)) (start : Option ℕ) (text : List ℕ) (said : Said) → goal_marks m (plain_claim claim) ≡ goals → initial_of m ≡ start
      → IsDueAt claim m goals start (Ok text) → IsDueAt claim m goals start said → IsTextAnswer said ⊎ IsUndecidedAnswer said
  by_names None start text said marked initial due other = absurd cc
  by_names (Some goals) None text said marked initial due other = absurd cc
  by_names (Some goals) (Some start) text said marked initial due other = of_text goals start text said marked initial due other

way_is_mdp : (m : Mdp) (goals : List Bool) (stay : Option (List ℕ)) → IsMdp m → IsMdp (way_by m goals stay)
way_is_mdp m goals None mdp = mdp
way_is_mdp m goals (Some stay) mdp = sub_is_mdp m goals (stay_marks m stay) mdp

pub text_excludes : RulesReach → TextExcludesRefusals
text_excludes reach claim m text said mdp due other = by_names reach way_is_mdp claim m mdp (goal_marks m (plain_claim claim)) (initial_of m) text said refl refl due other
