-- Which choices a text names, and what is due to them.
use Rattle.std.proofs.Common.{◌≡◌, ℕ, ◌<◌, inl, inr, true, false, length, [], ◌∷◌, Ok, Err, refl, sym, subst, pos, arith}
use Rattle.std.specs.Prelude.{codes, slice_index}
use Rattle.mdp_math.specs.Rational.{of_int}
use Rattle.mdp_spec.specs.Mdp.{Mdp, choices_at}
use Rattle.mdp_text.specs.declared.error.CertKind.TheVariants.{Version}
use Rattle.mdp_drn.specs.{Lines.{begins_with}, Writing.{text_of}}
use Rattle.mdp_cert.specs.Cert.{bounds, policy, flow}
use Rattle.mdp_job.specs.Refusal.{query_size, query_choice, cert_text, policy_text}
use Rattle.mdp_policy.specs.Chain.{chain_of}
use Rattle.mdp_command_policy.specs.ChainDue.{choices_of_body, in_policy, in_certificate, IsTextDue}

-- the choices of a reachability certificate are the policy; one of upper bounds, or of a subsystem, names none
of_reach : choices_of_body (policy (of_int (pos 1) ∷ of_int (pos 1) ∷ []) (2 ∷ 0 ∷ []) (1 ∷ 0 ∷ [])) ≡ Ok (2 ∷ 0 ∷ [])
of_reach = refl

of_upper : choices_of_body (bounds (of_int (pos 1) ∷ [])) ≡ Err query_choice
of_upper = refl

of_subsystem : choices_of_body (flow (0 ∷ []) (false ∷ []) []) ≡ Err query_choice
of_subsystem = refl

-- a text that is refused is refused as what its beginning says that it is
refused_policy : in_policy (Err (record { line = 1; kind = Version })) ≡ Err (policy_text 1 Version)
refused_policy = refl

refused_certificate : in_certificate (Err (record { line = 1; kind = Version })) ≡ Err (cert_text 1 Version)
refused_certificate = refl

a_certificate : begins_with (codes "mdp-certificate") (codes "mdp-certificate 2") ≡ true
a_certificate = refl

no_certificate : begins_with (codes "mdp-certificate") (codes "mdp-policy 1") ≡ false
no_certificate = refl

-- ---- what is due to the choices, in a model whose one state has one choice

abbrev stays : Mdp
stays = record {
  names = [];
  labels = [];
  states = record { labels = []; choices = record { row = record { target = 0; prob = of_int (pos 1) } ∷ []; rewards = [] } ∷ [] } ∷ [];
}

its_choice : IsTextDue stays (Ok (0 ∷ [])) (Ok (text_of (chain_of stays (0 ∷ []))))
its_choice =
    let in_range : (s : ℕ) → s < 1 → slice_index (0 ∷ []) s < length (choices_at stays s) =
    λ s below. let at : s ≡ 0 = omega (arith, below) in subst (λ (k : ℕ). slice_index (0 ∷ []) k < length (choices_at stays k)) (sym at) (omega arith) in
    inl (record { one_each = refl; in_range = in_range }, refl)

-- choices of two states are of another size, and are refused before a choice is looked at
two_states : IsTextDue stays (Ok (0 ∷ 1 ∷ [])) (Err query_size)
two_states = refl

-- the state has no choice 1
no_second : IsTextDue stays (Ok (1 ∷ [])) (Err query_choice)
no_second = inr (record { state = 0; below = omega arith; past = omega arith }, refl)

-- choices that weren't read are refused as they were
unread : IsTextDue stays (in_policy (Err (record { line = 1; kind = Version }))) (Err (policy_text 1 Version))
unread = refl
