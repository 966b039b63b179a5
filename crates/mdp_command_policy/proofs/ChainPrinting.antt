-- A text that is due reads as the chain of the policy that the bytes name.
use Rattle.std.proofs.Common.{◌≡◌, ◌⊎◌, ℕ, inl, inr, Bool, true, false, List, length, Result, Ok, Err, IfOk, refl, sym, subst}
use Rattle.std.specs.Prelude.{◌==◌}
use Rattle.mdp_spec.specs.{Mdp.{Mdp, states_of}, Tree.{IsPolicy}}
use Rattle.mdp_rows.specs.{Limits.{IsModel}, declared.rule.RowRule.TheVariants.{Exact}}
use Rattle.mdp_drn.specs.{Reading.{Reads}, Writing.{text_of, ReadsBack}}
use Rattle.mdp_job.specs.Refusal.{PlainRefusal, no_memory}
use Rattle.mdp_command.specs.Said.{Said}
use Rattle.mdp_policy.specs.{Chain.{chain_of}, ChainLaws.{KeepsChoices, TreesAreOwn}}
use Rattle.mdp_policy.proofs.Handed.{chain_is_model}
use Rattle.mdp_command_policy.specs.{ChainDue.{choices_in, IsChoiceDue, IsSizeDue, IsTextDue, IsChainDue}, ChainLaws.{TextIsChain}}
use Rattle.mdp_command_policy.specs.ChainShown.{IsChainPrinted}

of_choices : (m : Mdp) (policy text : List ℕ) → IsChoiceDue m policy (Ok text) → IsPolicy m policy × (text ≡ text_of (chain_of m policy))
of_choices m policy text (inl d) = (d.0, let e = d.1 in cc e)
of_choices m policy text (inr d) = let e = d.1 in cc e

of_size : (m : Mdp) (policy text : List ℕ) (fits : Bool) → IsSizeDue m policy fits (Ok text) → IsPolicy m policy × (text ≡ text_of (chain_of m policy))
of_size m policy text false d = cc d
of_size m policy text true d = of_choices m policy text d

of_text : (m : Mdp) (bytes text : List ℕ) (read : Result (List ℕ) PlainRefusal) → choices_in bytes ≡ read → IsTextDue m read (Ok text)
    → (policy : List ℕ) × (choices_in bytes ≡ Ok policy) × (IsPolicy m policy × (text ≡ text_of (chain_of m policy)))
of_text m bytes text (Ok policy) is d = (policy, is, of_size m policy text (length policy == states_of m) d)
of_text m bytes text (Err r) is d = cc d

pub printed_of_due : ReadsBack → KeepsChoices → TreesAreOwn → TextIsChain
printed_of_due back chain trees m bytes text ok d =
    let p = of_text m bytes text (choices_in bytes) refl d in
    record {
      policy = p.0;
      named = p.1;
      takes = p.2.0;
      reads = subst (λ (t : List ℕ). Reads t Exact (chain_of m p.0)) (sym p.2.1) (back (chain_of m p.0) (chain_is_model m p.0 ok p.2.0));
      chain = chain m p.0 p.2.0;
      trees = trees m p.0 ok.mdp p.2.0;
    }

-- ---- what is printed

pub printed : TextIsChain → (m : Mdp) (bytes : List ℕ) (said : Said) → IsModel m → (said ≡ Err no_memory) ⊎ IsChainDue m bytes said → IfOk said (IsChainPrinted m bytes)
printed law m bytes (Ok text) is (inl memory) = cc memory
printed law m bytes (Ok text) is (inr due) = law m bytes text is due
printed law m bytes (Err r) is due = tt
