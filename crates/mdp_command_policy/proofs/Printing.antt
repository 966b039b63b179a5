-- A text that is due is that of a policy's probabilities, and of changes that are better.
use Rattle.std.proofs.Common.{◌≡◌, ◌⊎◌, ℕ, inl, inr, Bool, true, false, List, length, Option, Some, None, Result, Ok, Err, IfOk, refl}
use Rattle.std.specs.Prelude.{◌==◌}
use Rattle.mdp_spec.specs.{Mdp.{Mdp, states_of}, Row.{IsMdp}, Sub.{sub_of, policy_on}, Tree.{is_marked, IsPolicy}}
use Rattle.mdp_spec.proofs.Subsystem.{sub_is_mdp, policy_on_sub}
use Rattle.mdp_elim.specs.Laws.{GivesSolutions}
use Rattle.mdp_graph.specs.{Laws.{RowsFall, RowsStay}, Reach.{row_step}}
use Rattle.mdp_policy_iteration.specs.Places.{Place}
use Rattle.mdp_reach.specs.Query.{policy_rows, AreMaxRanks}
use Rattle.mdp_text.specs.declared.error.Refusal as cert_refusal
use Rattle.mdp_policy.specs.{Answer.{IsValueOf, IsAnswerOn}, Way.{way_policy}, Text.{policy_outcome, IsReadFromText}, Written.{Answer}}
use Rattle.mdp_policy.proofs.{Facts.{IsValued, written_valued}, Ways.{valued_there}}
use Rattle.mdp_job.specs.Refusal.{PlainRefusal, no_memory}
use Rattle.mdp_command.specs.Said.{Said}
use Rattle.mdp_command_policy.specs.declared.marking.Marked.{Marked}
use Rattle.mdp_command_policy.specs.Due.{choices_or_refusal, marks_due, said_of_end, IsChoiceDue, IsMarksDue, IsSizeDue, IsTextDue, IsPolicyDue}
use Rattle.mdp_command_policy.specs.{Laws.{TextIsValue}, Shown.{IsValuePrinted, IsPolicyPrinted}}
use Rattle.mdp_command_policy.proofs.Ranks.{ranks_of, least_ranks}

module _ (falls : RowsFall) (stays : RowsStay) (gives : GivesSolutions) where
  -- ---- the value

  module _ (m : Mdp) (mdp : IsMdp m) (goals : List Bool) (policy : List ℕ) (is : IsPolicy m policy) (a : Answer) (end : IsValueOf m goals policy (Ok a)) where
    pub ranked : AreMaxRanks m goals policy (ranks_of (row_step (policy_rows m policy)) (is_marked goals) (states_of m) end.marks end.reached)
    ranked = record { marks = end.marks; reached = end.reached; least = least_ranks (row_step (policy_rows m policy)) (is_marked goals) (states_of m) end.marks end.reached }

    pub valued : IsValued m None goals policy a
    unfolding ranked
    valued = written_valued m goals policy _ mdp is ranked falls stays gives a end.is

  valued_on : (m : Mdp) (mdp : IsMdp m) (way : Option (List Bool)) (goals : List Bool) (policy : List ℕ) (a : Answer) → IsPolicy m policy → IsAnswerOn m way goals policy (Ok a)
      → IsValued m way goals policy a
  valued_on m mdp None goals policy a is end = valued m mdp goals policy is a end
  valued_on m mdp (Some stay) goals policy a is end =
      valued_there m stay goals policy mdp is a
      (valued (sub_of m goals stay) (sub_is_mdp m goals stay mdp) goals (policy_on goals stay policy) (policy_on_sub m goals stay policy is) a end)

  module _ (stay : Option (List ℕ)) (label : List ℕ) (m : Mdp) (mdp : IsMdp m) (text : List ℕ) where
    printed_by : (policy : List ℕ) (marks : Marked) → marks_due stay label m ≡ Ok marks → IsPolicy m policy → (end : Result Answer Place)
        → IsAnswerOn m marks.stays marks.goals policy end
        → Ok text ≡ said_of_end stay label m (way_policy marks.stays marks.goals policy) end → IsValuePrinted stay label m policy text
    printed_by policy marks found is (Err p) value e = cc e
    printed_by policy marks found is (Ok a) value e =
        let v = valued_on m mdp marks.stays marks.goals policy a is value in
        record {
          marks = marks;
          found = found;
          answer = a;
          spelled = cc e;
          computed = value;
          bound = v.bound;
          greatest = v.none_up;
          raises = v.up;
          lowers = v.down;
        }

    of_choices : (policy : List ℕ) (marks : Marked) → marks_due stay label m ≡ Ok marks → IsChoiceDue stay label m policy marks (Ok text) → IsValuePrinted stay label m policy text
    of_choices policy marks found (inl d) = printed_by policy marks found d.0 d.1.0 d.1.1 d.1.2
    of_choices policy marks found (inr d) = let e = d.1 in cc e

    of_marks : (policy : List ℕ) (marks : Result Marked PlainRefusal) → marks_due stay label m ≡ marks → IsMarksDue stay label m policy marks (Ok text) → IsValuePrinted stay label m policy text
    of_marks policy (Err r) is d = cc d
    of_marks policy (Ok marks) is d = of_choices policy marks is d

    of_size : (policy : List ℕ) (fits : Bool) → IsSizeDue stay label m policy fits (Ok text) → IsValuePrinted stay label m policy text
    of_size policy false d = cc d
    of_size policy true d = of_marks policy (marks_due stay label m) refl d

    of_text : (bytes : List ℕ) (read : Result (List ℕ) cert_refusal.Refusal) → policy_outcome bytes ≡ read → IsTextDue stay label m (choices_or_refusal read) (Ok text)
        → (policy : List ℕ) × (policy_outcome bytes ≡ Ok policy) × IsValuePrinted stay label m policy text
    of_text bytes (Ok policy) is d = (policy, is, of_size policy (length policy == states_of m) d)
    of_text bytes (Err r) is d = cc d

    pub printed_of_due : IsReadFromText → (bytes : List ℕ) → IsPolicyDue stay label m bytes (Ok text) → IsPolicyPrinted stay label m bytes text
    printed_of_due from bytes d =
        let p = of_text bytes (policy_outcome bytes) refl d in
        let o = (from bytes p.0).0 p.1 in
        record { policy = p.0; fits = o.0; text_of = o.1; printed = p.2 }

-- ---- what is printed

pub printed : TextIsValue → (stay : Option (List ℕ)) (label : List ℕ) (m : Mdp) (bytes : List ℕ) (said : Said) → IsMdp m → (said ≡ Err no_memory) ⊎ IsPolicyDue stay label m bytes said
    → IfOk said (IsPolicyPrinted stay label m bytes)
printed law stay label m bytes (Ok text) mdp (inl memory) = cc memory
printed law stay label m bytes (Ok text) mdp (inr due) = law stay label m bytes text mdp due
printed law stay label m bytes (Err r) mdp due = tt
