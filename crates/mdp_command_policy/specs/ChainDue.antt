-- What is due to the chain of a policy: to the model and to the bytes of the second file, which are a policy's text or a certificate's.
use Rattle.std.specs.Prelude.{◌≡◌, ◌⊎◌, ℕ, Bool, true, false, List, length, Result, Ok, Err, ◌==◌, if◌then◌else◌, codes}
use Rattle.mdp_spec.specs.{Mdp.{Mdp, states_of}, Tree.{IsPolicy}}
use Rattle.mdp_drn.specs.{Lines.{begins_with}, Writing.{text_of}}
use Rattle.mdp_text.specs.declared.error.Refusal as text
use Rattle.mdp_cert.specs.{Cert.{PlainBody}, BoundsCert.{PlainBounds}}
use Rattle.mdp_cert.specs.Cert as cert
use Rattle.mdp_cert.specs.Reading as cert_text
use Rattle.mdp_cert.specs.BoundsCert as bounds
use Rattle.mdp_cert.specs.BoundsReading as bounds_text
use Rattle.mdp_discount_rules.specs.BoundsCert as discount_bounds
use Rattle.mdp_discount_text.specs.Reading as discount_bounds_text
use Rattle.mdp_discount_rules.specs.Cert as discount
use Rattle.mdp_discount_text.specs.Text as discount_text
use Rattle.mdp_subsystem_bounds.specs.Cert as subsystem
use Rattle.mdp_subsystem_bounds.specs.Reading as subsystem_text
use Rattle.mdp_policy.specs.{Text.{policy_outcome}, Chain.{chain_of, NamesNoChoice}}
use Rattle.mdp_job.specs.Refusal.{PlainRefusal, query_size, query_choice, cert_text, policy_text}
use Rattle.mdp_command.specs.Said.{Said}

-- ---- the choices that a text names, one for each state

-- a certificate of an upper bound names none, and neither does one of a subsystem
abbrev pub choices_of_body : PlainBody → Result (List ℕ) PlainRefusal
choices_of_body (cert.bounds values) = Err query_choice
choices_of_body (cert.policy values choices ranks) = Ok choices
choices_of_body (cert.rewards values choices ranks) = Ok choices
choices_of_body (cert.gains gain bound bias choices spread) = Ok choices
choices_of_body (cert.flow kept wide flows) = Err query_choice
choices_of_body (cert.floor kept wide values ranks) = Err query_choice

abbrev pub choices_of_bounds : PlainBounds → List ℕ
choices_of_bounds (bounds.probabilities low high choices ranks) = choices
choices_of_bounds (bounds.rewards low high choices ranks) = choices
choices_of_bounds (bounds.gains low high bound bias choices spread) = choices

abbrev pub in_certificate : Result cert.Certificate text.Refusal → Result (List ℕ) PlainRefusal
in_certificate (Ok c) = choices_of_body c.body
in_certificate (Err r) = Err (cert_text r.line r.kind)

abbrev pub in_bounds : Result bounds.Certificate text.Refusal → Result (List ℕ) PlainRefusal
in_bounds (Ok c) = Ok (choices_of_bounds c.body)
in_bounds (Err r) = Err (cert_text r.line r.kind)

abbrev pub in_discount : Result discount.Certificate text.Refusal → Result (List ℕ) PlainRefusal
in_discount (Ok c) = Ok c.choices
in_discount (Err r) = Err (cert_text r.line r.kind)

abbrev pub in_discount_bounds : Result discount_bounds.Certificate text.Refusal → Result (List ℕ) PlainRefusal
in_discount_bounds (Ok c) = Ok c.choices
in_discount_bounds (Err r) = Err (cert_text r.line r.kind)

-- bounds of a subsystem name none either
abbrev pub in_subsystem_bounds : Result subsystem.Certificate text.Refusal → Result (List ℕ) PlainRefusal
in_subsystem_bounds (Ok c) = Err query_choice
in_subsystem_bounds (Err r) = Err (cert_text r.line r.kind)

abbrev pub in_policy : Result (List ℕ) text.Refusal → Result (List ℕ) PlainRefusal
in_policy (Ok choices) = Ok choices
in_policy (Err r) = Err (policy_text r.line r.kind)

-- how the text begins says which it is, of bounds with the claim in the second line; any other is to be a policy's
abbrev pub choices_in : List ℕ → Result (List ℕ) PlainRefusal
choices_in bytes =
    if begins_with (codes "mdp-certificate") bytes then in_certificate (cert_text.outcome bytes)
    else (if begins_with (codes "mdp-bounds") bytes
    then (if discount_bounds_text.is_discount_claim bytes then in_discount_bounds (discount_bounds_text.outcome bytes)
    else (if subsystem_text.is_subsystem_claim bytes then in_subsystem_bounds (subsystem_text.outcome bytes) else in_bounds (bounds_text.outcome bytes)))
    else (if begins_with (codes "mdp-discount") bytes then in_discount (discount_text.outcome bytes)
    else in_policy (policy_outcome bytes)))

-- ---- the chain, and the refusals before it, in their order: the number of states, the choices

-- the text of the chain, or that some choice isn't one of its state
abbrev pub IsChoiceDue : Mdp → List ℕ → Said → Type 0
IsChoiceDue m policy said = (IsPolicy m policy × (said ≡ Ok (text_of (chain_of m policy)))) ⊎ (NamesNoChoice m policy × (said ≡ Err query_choice))

abbrev pub IsSizeDue : Mdp → List ℕ → Bool → Said → Type 0
IsSizeDue m policy false said = said ≡ Err query_size
IsSizeDue m policy true said = IsChoiceDue m policy said

-- what was read as choices, or was not
abbrev pub IsTextDue : Mdp → Result (List ℕ) PlainRefusal → Said → Type 0
IsTextDue m (Ok policy) said = IsSizeDue m policy (length policy == states_of m) said
IsTextDue m (Err r) said = said ≡ Err r

abbrev pub IsChainDue : Mdp → List ℕ → Said → Type 0
IsChainDue m bytes said = IsTextDue m (choices_in bytes) said
