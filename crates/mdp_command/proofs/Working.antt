-- What a command makes of its sources, from what was read of each.
use Rattle.std.proofs.Common.{◌≡◌, ℕ, ◌≤◌, ◌⊎◌, inl, inr, Bool, true, false, cond, nat_lt, List, length, Result, Ok, Err, IfOk, IsOk, refl, sym, subst}
use Rattle.std.proofs.lemmas.Bool.{ltb-false}
use Rattle.mdp_spec.specs.Mdp.{Mdp}
use Rattle.mdp_rows.specs.declared.rule.RowRule.{RowRule}
use Rattle.mdp_drn.specs.Outcome as drn
use Rattle.mdp_drn.specs.Reading.{outcome, Reads}
use Rattle.mdp_job.specs.Refusal.{PlainRefusal, read_model, read_certificate, long_model, no_memory}
use Rattle.mdp_command.proofs.FileBytes.{or_nothing, had_nothing}
use Rattle.mdp_command.specs.Files.{most_bytes, model_or_refusal, model_due, second_due, IsDueToModel, IsDueToSecond}
use Rattle.mdp_command.specs.{Read.{IsDueToBytes, IsRead, IsWorkOnModel, IsWorkOnPair}, Said.{Said}, Shown.{IsShownOf, AreShownOf}, Streams.{Input, IsStill}}

-- ---- the model's bytes

pub model_is_read : (long : Bool) (read : Result Mdp drn.Refusal) (m : Mdp) → cond long (Err long_model) (model_or_refusal read) ≡ Ok m → (long ≡ false) × (read ≡ Ok m)
model_is_read true read m e = cc
model_is_read false (Ok n) m e = (refl, cc e)
model_is_read false (Err r) m e = cc

-- bytes to which a model is due are at most 2^30 and read as it
pub read_of_due : (rule : RowRule) (bytes : List ℕ) (m : Mdp) → model_due rule bytes ≡ Ok m → (length bytes ≤ most_bytes) × Reads bytes rule m
read_of_due rule bytes m e = let read = model_is_read (nat_lt most_bytes (length bytes)) (outcome rule bytes) m e in (ltb-false most_bytes (length bytes) read.0, read.1)

-- what is printed for a model is shown of any bytes to which it is due
pub shown_of : (IsPrinted : Mdp → List ℕ → Type 0) (rule : RowRule) (m : Mdp) (said : Said) → IfOk said (IsPrinted m) → (bytes : List ℕ) → model_due rule bytes ≡ Ok m
    → IfOk said (IsShownOf IsPrinted rule bytes)
shown_of IsPrinted rule m (Ok text) printed bytes is = let read = read_of_due rule bytes m is in record { short = read.0; model = m; reads = read.1; printed = printed }
shown_of IsPrinted rule m (Err r) printed bytes is = tt

module _ (rule : RowRule) (model : Input) where
  pub model_had : (m : Mdp) → IsRead model (model_due rule) read_model (Ok m) → IsDueToBytes model.before (model_due rule) (Ok m) × IsStill model
  model_had m (inl read) = read
  model_had m (inr (inl failed)) = cc (failed.0)
  model_had m (inr (inr memory)) = cc memory

-- ---- a command that reads the model alone

module _ (rule : RowRule) (due : Mdp → Said → Type 0) (shows : List ℕ → List ℕ → Type 0) (model : Input) where
  pub model_refused : (r : PlainRefusal) → IsRead model (model_due rule) read_model (Err r) → IsWorkOnModel rule due shows model (Err r)
  model_refused r (inl read) = inl (record {
    bytes = read.0.bytes;
    had = read.0.had;
    is_due = subst (λ (x : Result Mdp PlainRefusal). IsDueToModel due x (Err r)) read.0.is_due refl;
    shown = tt;
    still = read.1;
  })
  model_refused r (inr (inl failed)) = inr (inl (cc (failed.0), failed.1))
  model_refused r (inr (inr memory)) = inr (inr (cc memory))

  -- what is shown is shown of any bytes that read as the model
  pub model_worked : (m : Mdp) (said : Said) → IsRead model (model_due rule) read_model (Ok m) → (said ≡ Err no_memory) ⊎ due m said
      → ((bytes : List ℕ) → model_due rule bytes ≡ Ok m → IfOk said (shows bytes))
      → IsWorkOnModel rule due shows model said
  model_worked m said read (inl memory) shown = inr (inr memory)
  model_worked m said read (inr is_due) shown =
      let from = model_had rule model m read in
      inl (record {
        bytes = from.0.bytes;
        had = from.0.had;
        is_due = subst (λ (x : Result Mdp PlainRefusal). IsDueToModel due x said) from.0.is_due is_due;
        shown = shown from.0.bytes (sym from.0.is_due);
        still = from.1;
      })

-- ---- a command that reads both sources

-- bytes that are taken as they are aren't too many
pub short_second : (bytes text : List ℕ) (long : Bool) → nat_lt most_bytes (length bytes) ≡ long → second_due bytes ≡ Ok text → (length bytes ≤ most_bytes) × (bytes ≡ text)
short_second bytes text true e is = cc (e, is)
short_second bytes text false e is = (ltb-false most_bytes (length bytes) e, cc (e, is))

-- what is printed for a model and a second file is shown of any bytes to which these are due
pub pair_shown_of : (IsPrinted : Mdp → List ℕ → List ℕ → Type 0) (rule : RowRule) (m : Mdp) (text : List ℕ) (said : Said) → IfOk said (IsPrinted m text) → (bytes other : List ℕ)
    → model_due rule bytes ≡ Ok m → second_due other ≡ Ok text → IfOk said (AreShownOf IsPrinted rule bytes other)
pair_shown_of IsPrinted rule m text (Ok out) printed bytes other is is_second =
    let read = read_of_due rule bytes m is in
    let second = short_second other text (nat_lt most_bytes (length other)) refl is_second in
    record { short = read.0; model = m; reads = read.1; second_short = second.0; printed = subst (λ (t : List ℕ). IsPrinted m t out) (sym second.1) printed }
pair_shown_of IsPrinted rule m text (Err r) printed bytes other is is_second = tt

module _ (rule : RowRule) (due : Mdp → List ℕ → Said → Type 0) (IsPrinted : Mdp → List ℕ → List ℕ → Type 0) (model second : Input) where
  abbrev HasWorked : Said → Type 0
  HasWorked said = IsWorkOnPair rule due (AreShownOf IsPrinted rule) model second said

  -- what is due to a model behind which these bytes were read
  abbrev Behind : List ℕ → Said → Result Mdp PlainRefusal → Type 0
  Behind other said read = IsDueToModel (λ m. IsDueToSecond (due m) (second_due other)) read said

  -- the second source wasn't read
  pub pair_refused : (r : PlainRefusal) → IsStill second → IsRead model (model_due rule) read_model (Err r) → HasWorked (Err r)
  pair_refused r still (inl read) = inl (record {
    model_bytes = read.0.bytes;
    second_bytes = or_nothing second.before;
    had_model = read.0.had;
    had_second = had_nothing second.before;
    is_due = subst (λ (x : Result Mdp PlainRefusal). Behind (or_nothing second.before) (Err r) x) read.0.is_due refl;
    shown = tt;
    model_still = read.1;
    second_still = still;
  })
  pair_refused r still (inr (inl failed)) = inr (inl (cc (failed.0), failed.1))
  pair_refused r still (inr (inr memory)) = inr (inr (inr (cc memory)))

  module _ (m : Mdp) (read : IsRead model (model_due rule) read_model (Ok m)) where
    -- the second source failed, or has too many bytes
    pub second_refused : (r : PlainRefusal) → IsRead second second_due read_certificate (Err r) → HasWorked (Err r)
    second_refused r (inl other) =
        let from = model_had rule model m read in
        inl (record {
          model_bytes = from.0.bytes;
          second_bytes = other.0.bytes;
          had_model = from.0.had;
          had_second = other.0.had;
          is_due = subst (λ (x : Result Mdp PlainRefusal). Behind other.0.bytes (Err r) x) from.0.is_due
              (subst (λ (x : Result (List ℕ) PlainRefusal). IsDueToSecond (due m) x (Err r)) other.0.is_due refl);
          shown = tt;
          model_still = from.1;
          second_still = other.1;
        })
    second_refused r (inr (inl failed)) =
        let from = model_had rule model m read in
        inr (inr (inl (record {
          fault = failed.1;
          says = cc failed.0;
          model_bytes = from.0.bytes;
          had_model = from.0.had;
          model_read = subst (λ (x : Result Mdp PlainRefusal). IsOk x) from.0.is_due refl;
          model_still = from.1;
        })))
    second_refused r (inr (inr memory)) = inr (inr (inr (cc memory)))

    -- both were read, and this is answered
    pub pair_worked : (lent text : List ℕ) (said : Said) → lent ≡ text → IsRead second second_due read_certificate (Ok text) → (said ≡ Err no_memory) ⊎ due m lent said → IfOk said (IsPrinted m lent)
        → HasWorked said
    pair_worked lent text said same (inl other) (inl memory) printed = inr (inr (inr memory))
    pair_worked lent text said same (inl other) (inr is_due) printed =
        let from = model_had rule model m read in
        inl (record {
          model_bytes = from.0.bytes;
          second_bytes = other.0.bytes;
          had_model = from.0.had;
          had_second = other.0.had;
          is_due = subst (λ (x : Result Mdp PlainRefusal). Behind other.0.bytes said x) from.0.is_due
              (subst (λ (x : Result (List ℕ) PlainRefusal). IsDueToSecond (due m) x said) other.0.is_due (subst (λ (t : List ℕ). due m t said) same is_due));
          shown = pair_shown_of IsPrinted rule m text said (subst (λ (t : List ℕ). IfOk said (IsPrinted m t)) same printed) from.0.bytes other.0.bytes (sym from.0.is_due) (sym other.0.is_due);
          model_still = from.1;
          second_still = other.1;
        })
    pair_worked lent text said same (inr (inl failed)) is_due printed = cc (failed.0)
    pair_worked lent text said same (inr (inr memory)) is_due printed = cc memory
