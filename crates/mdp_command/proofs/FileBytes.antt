-- What was made of a file is what is due to the bytes that its source had.
use Rattle.std.proofs.Common.{◌≡◌, ℕ, ◌+◌, ◌<◌, ◌≤◌, ◌⊎◌, inl, inr, Bool, cond, List, [], length, Option}
use Rattle.std.proofs.{Common.{Some, None, Result, Err, IfSome, refl, sym, ap, subst, ◌∙◌, lt-ltb, arith, nat_lt}, lemmas.Bool.{le-ltb}}
use Rattle.std.proofs.lemmas.List.{length-replicate}
use Rattle.std.specs.Prelude.{replicate}
use Rattle.mdp_spec.specs.Mdp.{Mdp}
use Rattle.mdp_rows.specs.declared.rule.RowRule.{RowRule}
use Rattle.mdp_drn.specs.{FromSource.{HadLeft}, Reading.{outcome}}
use Rattle.mdp_drn.specs.Outcome as drn
use Rattle.mdp_job.specs.Refusal.{PlainRefusal, long_model}
use Rattle.mdp_command.specs.{Files.{most_bytes, model_or_refusal, model_due}, Read.{IsDueToBytes}}

-- the bytes that a source tells, or none
abbrev pub or_nothing : Option (List ℕ) → List ℕ
or_nothing None = []
or_nothing (Some bytes) = bytes

pub had_nothing : (told : Option (List ℕ)) → HadLeft told (or_nothing told)
had_nothing None = tt
had_nothing (Some bytes) = refl

-- at most 2^30 bytes came, which read as this
pub short_is_due :
    (rule : RowRule) (told : Option (List ℕ)) (read : Result Mdp drn.Refusal) → (bytes : List ℕ) × HadLeft told bytes × (length bytes ≤ most_bytes) × (outcome rule bytes ≡ read)
    → IsDueToBytes told (model_due rule) (model_or_refusal read)
short_is_due rule told read w = record {
  bytes = w.0;
  had = w.1;
  is_due = sym (ap (λ (b : Bool). cond b (Err long_model) (model_or_refusal (outcome rule w.0))) (le-ltb most_bytes (length w.0) w.2) ∙ ap model_or_refusal w.3);
}

-- ---- more than 2^30 bytes

-- some bytes, more than n
unfoldable longer_than : ℕ → List ℕ
longer_than n = replicate (n + 1) 0

longer : (n : ℕ) → n < length (longer_than n)
unfolding longer_than
longer n = subst (λ (k : ℕ). n < k) (sym (length-replicate (n + 1) 0)) (omega arith)

module _ {A : Type 0} (refusal : PlainRefusal) (else_due : List ℕ → Result A PlainRefusal) where
  due_long : (n : ℕ) (bytes : List ℕ) → n < length bytes → Err refusal ≡ cond (nat_lt n (length bytes)) (Err refusal) (else_due bytes)
  due_long n bytes h = sym (ap (λ (b : Bool). cond b (Err refusal) (else_due bytes)) (lt-ltb n (length bytes) h))

  by_told :
      (n : ℕ) (told : Option (List ℕ)) → IfSome told (λ left. n < length left) → IsDueToBytes told (λ bytes. cond (nat_lt n (length bytes)) (Err refusal) (else_due bytes)) (Err refusal)
  by_told n None h = record { bytes = longer_than n; had = tt; is_due = due_long n (longer_than n) (longer n) }
  by_told n (Some left) h = record { bytes = left; had = refl; is_due = due_long n left h }

  -- by a list of bytes that is long enough, where the source doesn't tell
  pub long_is_due : (told : Option (List ℕ)) → IfSome told (λ left. most_bytes < length left) → IsDueToBytes told (λ bytes. cond (nat_lt most_bytes (length bytes)) (Err refusal) (else_due bytes)) (Err refusal)
  long_is_due told h = by_told most_bytes told h

-- of two facts one doesn't hold
pub not_failed : {P Q : Type 0} → P ⊎ Q → (P → ⊥) → Q
not_failed (inl p) never = absurd (never p)
not_failed (inr q) never = q
