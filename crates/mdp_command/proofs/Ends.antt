-- Where the sources are left, by the answer.
use Rattle.std.proofs.Common.{◌≡◌, ℕ, Bool, true, false, inl, inr, cond, nat_lt, List, length, Result, Ok, Err, IsOk, IsFalse, refl, ap}
use Rattle.std.specs.Io.KnownBytes.{IsAtEnd}
use Rattle.mdp_spec.specs.Mdp.{Mdp}
use Rattle.mdp_rows.specs.declared.rule.RowRule.{RowRule}
use Rattle.mdp_drn.specs.Outcome as drn
use Rattle.mdp_drn.specs.Reading.{outcome}
use Rattle.mdp_job.specs.Refusal.{PlainRefusal, model_text, read_model, long_model, no_memory}
use Rattle.mdp_command.specs.{Files.{most_bytes, model_or_refusal, model_due, IsDueToModel}, Read.{IsRead, IsReadToEnd, IsSecondReadToEnd, is_of_model}, Said.{Said}, Streams.{Input}}

-- what is no refusal comes at the end
pub end_of_read : {A : Type 0} (fault long : PlainRefusal) (file : Input) (x : A) → IsReadToEnd fault long file (Ok x) → IsAtEnd file.after
end_of_read fault long file x (inl failed) = cc (failed.0)
end_of_read fault long file x (inr (inl is_long)) = cc is_long
end_of_read fault long file x (inr (inr end)) = end

pub end_of_second : (second : Input) (text : List ℕ) → IsSecondReadToEnd second (Ok text) → IsAtEnd second.after
end_of_second second text (inl memory) = cc memory
end_of_second second text (inr end) = end_of_read _ _ second text end

-- an answer that isn't that of a model is due to one that was read
read_by : (due : Mdp → Said → Type 0) (said : Said) (long : Bool) (read : Result Mdp drn.Refusal) → IsDueToModel due (cond long (Err long_model) (model_or_refusal read)) said
    → IsFalse (is_of_model said) → IsOk (cond long (Err long_model) (model_or_refusal read))
read_by due said true read is other = cc (ap is_of_model is, other)
read_by due said false (Ok m) is other = refl
read_by due said false (Err r) is other = cc (ap is_of_model is, other)

pub model_was_read : (due : Mdp → Said → Type 0) (rule : RowRule) (bytes : List ℕ) (said : Said) → IsDueToModel due (model_due rule bytes) said → IsFalse (is_of_model said)
    → IsOk (model_due rule bytes)
model_was_read due rule bytes said is other = read_by due said (nat_lt most_bytes (length bytes)) (outcome rule bytes) is other

-- a refusal that is due to the model's bytes is of the model
of_model : (r : PlainRefusal) (long : Bool) (read : Result Mdp drn.Refusal) → Err r ≡ cond long (Err long_model) (model_or_refusal read) → is_of_model (Err r) ≡ true
of_model r true read e = let is : r ≡ long_model = cc e in ap (λ (x : PlainRefusal). is_of_model (Err x)) is
of_model r false (Ok m) e = cc e
of_model r false (Err x) e = let is : r ≡ model_text x.line x.kind = cc e in ap (λ (y : PlainRefusal). is_of_model (Err y)) is

-- so where the model was refused otherwise, memory was wanting
pub second_unread : (rule : RowRule) (model second : Input) (r : PlainRefusal) → IsRead model (model_due rule) read_model (Err r) → IsFalse (is_of_model (Err r)) → IsSecondReadToEnd second (Err r)
second_unread rule model second r (inl due) other = cc (of_model r (nat_lt most_bytes (length due.0.bytes)) (outcome rule due.0.bytes) due.0.is_due, other)
second_unread rule model second r (inr (inl failed)) other = let is : r ≡ read_model = cc failed.0 in cc (ap (λ (x : PlainRefusal). is_of_model (Err x)) is, other)
second_unread rule model second r (inr (inr memory)) other = let is : r ≡ no_memory = cc memory in inl (ap (λ (x : PlainRefusal). let said : Said = Err x in said) is)
