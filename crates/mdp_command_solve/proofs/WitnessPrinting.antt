-- What is shown of the text of a witness, and what is due.
use Rattle.std.proofs.Common.{◌≡◌, ℕ, ◌<◌, ◌≤◌, ◌⊎◌, inl, inr, Bool, List, length, Option, Some, None, Ok, Err, IfOk, refl, sym, ap, subst, ◌∙◌}
use Rattle.std.specs.List.{All}
use Rattle.mdp_math.specs.Rational.{ℚ}
use Rattle.mdp_spec.specs.{Bounds.{SubMax, SubMin}, Labels.{initial_of}, Mdp.{Mdp}, Row.{IsMdp}}
use Rattle.mdp_rows.specs.{declared.dir.Dir.{Dir}, declared.dir.Dir.TheVariants.{Max, Min}}
use Rattle.mdp_cert.specs.{Cert.{Certificate, Fits}, Laws.{IsReadBack}, Reading.{outcome}, Spelling.{text_of}}
use Rattle.mdp_claims.specs.declared.subsystem.Flow.{Flow}
use Rattle.mdp_subsystem_rules.specs.Kept.{kept_marks}
use Rattle.mdp_subsystem_rules.proofs.Untils.{sub_until_max, sub_until_min}
use Rattle.mdp_check.specs.Check.{stay_marks, way_by, IsAccepted}
use Rattle.mdp_check.proofs.Accepting.{accepted_is_bound}
use Rattle.mdp_job.specs.Refusal.{no_memory}
use Rattle.mdp_command.specs.{Files.{most_bytes}, Said.{Said}}
use Rattle.mdp_command.proofs.TrueClaims.{true_claim_of}
use Rattle.mdp_command.specs.Accepted.{exact}
use Rattle.mdp_witness.specs.Query.{PlainSubsystem, flow, floor, EndsSo}
use Rattle.mdp_witness.specs.Shown.{kept_of, kept_in, HasShape, Holds, PolicyReaches, IsNeededMax, IsNeededMin, AreNeeded, MarksAreExactMax, MarksAreExactMin}
use Rattle.mdp_command_solve.specs.{Ways.{goals_by}, WitnessCertificate.{dir_of, certificate_of}, WitnessDue.{IsEndDue}}
use Rattle.mdp_command_solve.specs.{WitnessShown.{Reaches, IsWitness, IsWitnessOf, IsWitnessPrinted}, WitnessLaws.{TextIsAccepted}}
use Rattle.mdp_text.proofs.InitialState.{initial_below}
use Rattle.mdp_command_solve.proofs.{OnWay.{placed, way_states}, WitnessAccepting.{witness_accepted}, WitnessFew.{HasFewFlows, few_flows}, WitnessLength.{witness_text_short}}

-- ---- a subsystem that was found

-- its direction is that of the query
pub dir_is : (dir : Dir) (m : Mdp) (found : PlainSubsystem) → HasShape dir m found → dir_of found ≡ dir
dir_is Max m (flow kept wide flows) shape = refl
dir_is Max m (floor kept wide values ranks) shape = absurd shape
dir_is Min m (flow kept wide flows) shape = absurd shape
dir_is Min m (floor kept wide values ranks) shape = refl

pub own_shape : (dir : Dir) (m : Mdp) (found : PlainSubsystem) → HasShape dir m found → HasShape (dir_of found) m found
own_shape dir m found shape = subst (λ (d : Dir). HasShape d m found) (sym (dir_is dir m found shape)) shape

module _ (m : Mdp) (goals : List Bool) (stay : Option (List ℕ)) where
  -- what is left of the model has its states
  pub shape_of_way : (dir : Dir) (found : PlainSubsystem) → HasShape dir (way_by m goals stay) found → HasShape dir m found
  shape_of_way Max (flow kept wide flows) shape =
      let e = way_states m goals stay in
      record {
        kept_ascends = shape.kept_ascends;
        kept_in_range = subst (λ (n : ℕ). All (λ s. s < n) kept) e shape.kept_in_range;
        one_wide_each = shape.one_wide_each;
        flows_ascend = shape.flows_ascend;
        flows_in_range = subst (λ (n : ℕ). All (λ (f : Flow). f.state < n) flows) e shape.flows_in_range;
      }
  shape_of_way Max (floor kept wide values ranks) shape = absurd shape
  shape_of_way Min (flow kept wide flows) shape = absurd shape
  shape_of_way Min (floor kept wide values ranks) shape =
      record {
        kept_ascends = shape.kept_ascends;
        kept_in_range = subst (λ (n : ℕ). All (λ s. s < n) kept) (way_states m goals stay) shape.kept_in_range;
        one_wide_each = shape.one_wide_each;
        one_value_each = shape.one_value_each;
        one_rank_each = shape.one_rank_each;
      }

  few_of_way : (found : PlainSubsystem) → HasFewFlows (way_by m goals stay) found → HasFewFlows m found
  few_of_way (flow kept wide flows) few = subst (λ (n : ℕ). length flows ≤ n) (way_states m goals stay) few
  few_of_way (floor kept wide values ranks) few = tt

  kept_of_way : (found : PlainSubsystem) → kept_in (way_by m goals stay) found ≡ kept_in m found
  kept_of_way found = ap (λ (n : ℕ). kept_marks n (kept_of found)) (way_states m goals stay)

module _ (m : Mdp) (mdp : IsMdp m) (goals : List Bool) (start : ℕ) (threshold : ℚ) (kept : List Bool) where
  -- what the kept states of what is left come to, those of the model come to by this way
  reaches_max : (stay : Option (List ℕ)) → SubMax (way_by m goals stay) goals kept start threshold → Reaches Max stay m goals kept start threshold
  reaches_max None h = h
  reaches_max (Some a) h = sub_until_max m (stay_marks m a) goals kept start threshold mdp h

  reaches_min : (stay : Option (List ℕ)) → SubMin (way_by m goals stay) goals kept start threshold → Reaches Min stay m goals kept start threshold
  reaches_min None h = h
  reaches_min (Some a) h = sub_until_min m (stay_marks m a) goals kept start threshold mdp h

-- what it shows, by the direction, from what it shows on what is left
pub is_witness :
    (m : Mdp) → IsMdp m → (stay : Option (List ℕ)) (goals : List Bool) (start : ℕ) (threshold : ℚ) (found : PlainSubsystem) (way : Mdp) → way ≡ way_by m goals stay → (dir : Dir)
    → EndsSo dir way goals start threshold (Ok found) → Holds dir way goals start threshold found → (dir ≡ Max → SubMax way goals (kept_in way found) start threshold)
    → (dir ≡ Min → SubMin way goals (kept_in way found) start threshold) → (dir ≡ Max → PolicyReaches way goals start threshold found)
    → (dir ≡ Max → AreNeeded (IsNeededMax way goals start threshold) way found) → (dir ≡ Min → AreNeeded (IsNeededMin way goals start threshold) way found)
    → (dir ≡ Max → MarksAreExactMax way goals start threshold found) → (dir ≡ Min → MarksAreExactMin way goals start threshold found) → IsWitness dir stay threshold m goals start found
is_witness m mdp stay goals start threshold found way is Max ends rules sub_max sub_min policy needed_max needed_min wide_max wide_min =
    subst
    (λ (w : Mdp). EndsSo Max w goals start threshold (Ok found) → Holds Max w goals start threshold found → SubMax w goals (kept_in w found) start threshold → PolicyReaches w goals start threshold found
    → AreNeeded (IsNeededMax w goals start threshold) w found → MarksAreExactMax w goals start threshold found → IsWitness Max stay threshold m goals start found) (sym is)
    (λ ends rules sub policy needed wide. record {
      ends = ends;
      rules = rules;
      reaches = reaches_max m mdp goals start threshold (kept_in m found) stay
          (subst (λ (kept : List Bool). SubMax (way_by m goals stay) goals kept start threshold) (kept_of_way m goals stay found) sub);
      policy = policy;
      needed = needed;
      marks = wide;
    }) ends rules (sub_max refl) (policy refl) (needed_max refl) (wide_max refl)
is_witness m mdp stay goals start threshold found way is Min ends rules sub_max sub_min policy needed_max needed_min wide_max wide_min =
    subst
    (λ (w : Mdp). EndsSo Min w goals start threshold (Ok found) → Holds Min w goals start threshold found → SubMin w goals (kept_in w found) start threshold
    → AreNeeded (IsNeededMin w goals start threshold) w found → MarksAreExactMin w goals start threshold found → IsWitness Min stay threshold m goals start found) (sym is)
    (λ ends rules sub needed wide. record {
      ends = ends;
      rules = rules;
      reaches = reaches_min m mdp goals start threshold (kept_in m found) stay
          (subst (λ (kept : List Bool). SubMin (way_by m goals stay) goals kept start threshold) (kept_of_way m goals stay found) sub);
      policy = tt;
      needed = needed;
      marks = wide;
    }) ends rules (sub_min refl) (needed_min refl) (wide_min refl)

-- ---- its text

module _ (dir : Dir) (stay : Option (List ℕ)) (label : List ℕ) (threshold : ℚ) (m : Mdp) (goals : List Bool) (start : ℕ) (named : goals_by m stay label ≡ Some goals) (initial : initial_of m ≡ Some start)
    (found : PlainSubsystem) where
  pub witness_of : IsWitness dir stay threshold m goals start found → (text : List ℕ) → text ≡ text_of (certificate_of dir stay label threshold start m found)
      → IsWitnessOf dir stay label threshold m text
  witness_of witness text spelled =
      let p = placed m stay label goals named in
      record {
        place = p.0;
        named = p.1;
        start = start;
        initial = initial;
        found = found;
        spelled = spelled;
        witness = subst (λ (g : List Bool). IsWitness dir stay threshold m g start found) (sym p.2) witness;
      }

  pub printed : IsMdp m → IsReadBack → HasShape dir (way_by m goals stay) found → IsWitness dir stay threshold m goals start found
      → Fits (certificate_of dir stay label threshold start m found) → (text : List ℕ) → text ≡ text_of (certificate_of dir stay label threshold start m found)
      → IsWitnessPrinted dir stay label threshold m text
  unfolding witness_of
  printed mdp back shape witness fits text spelled =
      let own = shape_of_way m goals stay dir found shape in
      let accepted : IsAccepted m (certificate_of dir stay label threshold start m found) = witness_accepted stay label threshold start m dir goals found named initial own (IsWitness.rules witness) in
      record {
        spells = witness_of witness text spelled;
        short = subst (λ (t : List ℕ). length t ≤ most_bytes) (sym spelled)
            (witness_text_short dir stay label threshold start m (initial_below m start initial) dir found fits own
            (few_of_way m goals stay found (few_flows (way_by m goals stay) goals start threshold found dir (IsWitness.ends witness))));
        reads = ap outcome spelled ∙ (back (certificate_of dir stay label threshold start m found) fits).0;
        holds = accepted;
        bound = accepted_is_bound m (certificate_of dir stay label threshold start m found) mdp accepted;
      }

-- ---- what is due

-- a certificate is said by its text, unless memory is wanting
abbrev pub IsTextOf : Certificate → Said → Type 0
IsTextOf c said = (said ≡ Err no_memory) ⊎ (said ≡ Ok (text_of c))

pub text_printed : (P : List ℕ → Type 0) (c : Certificate) (said : Said) → ((text : List ℕ) → text ≡ text_of c → P text) → IsTextOf c said → IfOk said P
text_printed P c (Ok text) shows (inl memory) = cc memory
text_printed P c (Ok text) shows (inr e) = shows text (cc e)
text_printed P c (Err r) shows e = tt

pub text_due : (dir : Dir) (stay : Option (List ℕ)) (label : List ℕ) (threshold : ℚ) (m : Mdp) (goals : List Bool) (start : ℕ) (found : PlainSubsystem) (c : Certificate) (said : Said)
    → EndsSo dir (way_by m goals stay) goals start threshold (Ok found) → c ≡ certificate_of dir stay label threshold start m found → IsTextOf c said
    → (said ≡ Err no_memory) ⊎ IsEndDue dir stay label threshold m goals start said
text_due dir stay label threshold m goals start found c said end is (inl memory) = inl memory
text_due dir stay label threshold m goals start found c said end is (inr e) = inr (Ok found, end, e ∙ ap (λ (x : Certificate). let r : Said = Ok (text_of x) in r) is)

-- ---- a text that is printed is accepted

pub text_is_accepted : TextIsAccepted
text_is_accepted rule dir stay label threshold model text shown =
    let p = shown.printed in
    let cert = certificate_of dir stay label threshold p.spells.start shown.model p.spells.found in
    true_claim_of exact _ rule model text shown cert p.short p.reads p.holds p.bound
