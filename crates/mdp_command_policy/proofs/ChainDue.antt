-- Exactly one thing is due to the chain of a policy.
use Rattle.std.proofs.Common.{◌≡◌, ℕ, ◌<◌, ◌⊎◌, inl, inr, Bool, true, false, nat_le, le-leb, List, length, slice_index, Result, Ok, Err, refl, sym, ap, subst, eq-eqb, ◌∙◌, arith}
use Rattle.std.proofs.lemmas.Bool.{false≢true, cases_lt}
use Rattle.std.specs.Prelude.{◌==◌}
use borrow.Author.Tests.{eqb-true, leb-true}
use Rattle.mdp_spec.specs.{Mdp.{Mdp, states_of, choices_at}, Tree.{IsPolicy}}
use Rattle.mdp_graph.proofs.Falls.{case-any}
use Rattle.mdp_drn.specs.Writing.{text_of}
use Rattle.mdp_job.specs.Refusal.{PlainRefusal, no_memory, query_size, query_choice}
use Rattle.mdp_command.specs.Said.{Said}
use Rattle.mdp_policy.specs.Chain.{chain_of, NamesNoChoice}
use Rattle.mdp_command_policy.specs.{ChainDue.{choices_in, IsChoiceDue, IsSizeDue, IsTextDue}, ChainLaws.{IsDueOnce, SomethingIsDue}}

not_both : {Q : Type 0} (m : Mdp) (policy : List ℕ) → IsPolicy m policy → NamesNoChoice m policy → Q
not_both m policy is other = let in_range = is.in_range other.state other.below in let past = other.past in absurd (omega (arith, in_range, past))

choice_once : (m : Mdp) (policy : List ℕ) (said again : Said) → IsChoiceDue m policy said → IsChoiceDue m policy again → said ≡ again
choice_once m policy said again (inl d) (inl e) = d.1 ∙ sym e.1
choice_once m policy said again (inl d) (inr e) = not_both m policy d.0 e.0
choice_once m policy said again (inr d) (inl e) = not_both m policy e.0 d.0
choice_once m policy said again (inr d) (inr e) = d.1 ∙ sym e.1

size_once : (m : Mdp) (policy : List ℕ) (fits : Bool) (said again : Said) → IsSizeDue m policy fits said → IsSizeDue m policy fits again → said ≡ again
size_once m policy false said again d e = d ∙ sym e
size_once m policy true said again d e = choice_once m policy said again d e

text_once : (m : Mdp) (read : Result (List ℕ) PlainRefusal) (said again : Said) → IsTextDue m read said → IsTextDue m read again → said ≡ again
text_once m (Ok policy) said again d e = size_once m policy (length policy == states_of m) said again d e
text_once m (Err r) said again d e = d ∙ sym e

pub chain_once : IsDueOnce
chain_once m bytes said again d e = text_once m (choices_in bytes) said again d e

-- ---- something is due

-- the choices are those of the states, or some choice is past those of its state
choice_some : (m : Mdp) (policy : List ℕ) → length policy ≡ states_of m → (said : Said) × IsChoiceDue m policy said
choice_some m policy each =
    elim (case-any (λ s. nat_le (length (choices_at m s)) (slice_index policy s)) (states_of m)) as (λ _. (said : Said) × IsChoiceDue m policy said) [
      | inl w ↦ (Err query_choice, inr (record { state = w.0; below = w.1; past = leb-true (length (choices_at m w.0)) (slice_index policy w.0) w.2 }, refl))
      | inr none ↦ (Ok (text_of (chain_of m policy)), inl (record { one_each = each; in_range = λ s l. inside s (none s l) }, refl))
    ]
  where
    inside : (s : ℕ) → nat_le (length (choices_at m s)) (slice_index policy s) ≡ false → slice_index policy s < length (choices_at m s)
    inside s other = elim (cases_lt (slice_index policy s) (length (choices_at m s))) [
      | inl l ↦ l
      | inr past ↦ absurd (false≢true (sym other ∙ le-leb (length (choices_at m s)) (slice_index policy s) past))
    ]

size_some : (m : Mdp) (policy : List ℕ) (fits : Bool) → (length policy == states_of m) ≡ fits → (said : Said) × IsSizeDue m policy fits said
size_some m policy false e = (Err query_size, refl)
size_some m policy true e = choice_some m policy (eqb-true (length policy) (states_of m) e)

text_some : (m : Mdp) (read : Result (List ℕ) PlainRefusal) → (said : Said) × IsTextDue m read said
text_some m (Ok policy) = size_some m policy (length policy == states_of m) refl
text_some m (Err r) = (Err r, refl)

pub chain_due : SomethingIsDue
chain_due m bytes = text_some m (choices_in bytes)

-- ---- what is due to a chain that was made

pub made_due : (m made : Mdp) (policy : List ℕ) (said : Said) → made ≡ chain_of m policy → IsPolicy m policy → (said ≡ Err no_memory) ⊎ (said ≡ Ok (text_of made))
    → (said ≡ Err no_memory) ⊎ IsSizeDue m policy (length policy == states_of m) said
made_due m made policy said same is (inl memory) = inl memory
made_due m made policy said same is (inr e) =
    let due : IsChoiceDue m policy said = inl (is, e ∙ ap (λ (k : Mdp). let r : Said = Ok (text_of k) in r) same) in
    inr (subst (λ (fits : Bool). IsSizeDue m policy fits said) (sym (eq-eqb (length policy) (states_of m) is.one_each)) due)

-- ---- what is due to choices that were read of a text

pub names_due : (m : Mdp) (said : Said) (lent policy : List ℕ) (read : Result (List ℕ) PlainRefusal) → lent ≡ policy → (Ok policy ≡ Err no_memory) ⊎ (Ok policy ≡ read)
    → (said ≡ Err no_memory) ⊎ IsSizeDue m lent (length lent == states_of m) said → (said ≡ Err no_memory) ⊎ IsTextDue m read said
names_due m said lent policy read same (inl e) due = cc e
names_due m said lent policy read same (inr e) (inl memory) = inl memory
names_due m said lent policy read same (inr e) (inr due) =
    inr (subst (λ (x : Result (List ℕ) PlainRefusal). IsTextDue m x said) e (subst (λ (p : List ℕ). IsSizeDue m p (length p == states_of m) said) same due))

pub names_refused : (m : Mdp) (said : Said) (r : PlainRefusal) (read : Result (List ℕ) PlainRefusal) → said ≡ Err r → (said ≡ Err no_memory) ⊎ (said ≡ read)
    → (said ≡ Err no_memory) ⊎ IsTextDue m read said
names_refused m said r read is (inl e) = inl e
names_refused m said r read is (inr e) = inr (subst (λ (x : Result (List ℕ) PlainRefusal). IsTextDue m x said) (sym is ∙ e) is)
