-- What is decided of a command's words, from what its step made of the sources.
use Rattle.std.proofs.Common.{◌≡◌, ◌⊎◌, ℕ, inl, inr, Bool, true, false, List, Ok, Err, IfOk, IsOk, IsTrue, IsFalse, refl, subst}
use Rattle.std.specs.Io.KnownBytes.{IsAtEnd}
use Rattle.mdp_spec.specs.Mdp.{Mdp}
use Rattle.mdp_rows.specs.declared.rule.RowRule.{RowRule}
use Rattle.mdp_job.specs.{Job.{PlainTask, PlainPairTask, Asked, reads_model, reads_second}, Refusal.{no_job, read_certificate, long_model, long_certificate, no_memory}, declared.words_error.WordsError.{WordsError}}
use Rattle.mdp_command.proofs.{Ends.{end_of_read, end_of_second, model_was_read}, FileBytes.{or_nothing, had_nothing}}
use Rattle.mdp_command.specs.Files.{model_due, second_due, IsDueToModel, IsDueToSecond, IsDueToPair}
use Rattle.mdp_command.specs.{Read.{IsModelReadToEnd, IsSecondReadToEnd, IsModelWorked, IsWorkOnModel, IsPairWorked, IsWorkOnPair, is_of_model}, Said.{Said}}
use Rattle.mdp_command.specs.Streams.{Input, IsStill}
use Rattle.mdp_app.specs.{Decided.{IsTextDecided, IsDecided}, Due.{IsDue, IsModelRead}, Run.{IsFromBytes, HasCause}, Shown.{IsTaskPrinted, IsPairPrinted, IsShown}}

-- ---- what is printed

-- for a task, by another spelling of it
pub printed_as : (task other : PlainTask) (m : Mdp) (said : Said) → task ≡ other → IfOk said (IsTaskPrinted task m) → IfOk said (IsTaskPrinted other m)
printed_as task other m said is printed = subst (λ (t : PlainTask). IfOk said (IsTaskPrinted t m)) is printed

pub pair_printed_as : (task other : PlainPairTask) (m : Mdp) (bytes : List ℕ) (said : Said) → task ≡ other → IfOk said (IsPairPrinted task m bytes) → IfOk said (IsPairPrinted other m bytes)
pair_printed_as task other m bytes said is printed = subst (λ (t : PlainPairTask). IfOk said (IsPairPrinted t m bytes)) is printed

-- ---- words that are no job

refused : (e : WordsError) (model second : Input) → model.same → second.same → IsStill model → IsStill second → IsDecided (Err e) model second (Err (no_job e))
refused e model second model_same second_same model_still second_still = record {
  cause = inl (record {
    model_bytes = or_nothing model.before;
    second_bytes = or_nothing second.before;
    had_model = had_nothing model.before;
    had_second = had_nothing second.before;
    is_due = refl;
    ends = record { model_end = λ h. cc h; second_end = λ h other. cc h };
    model_still = model_still;
    second_still = second_still;
  });
  unread = record { no_model = λ h. model_same; no_second = λ h. second_same; model_first = λ h. second_same };
  done = tt;
}

pub refused_words :
    (asked : Asked) (e : WordsError) (model second : Input) → Err e ≡ asked → model.same → second.same → IsStill model → IsStill second → IsDecided asked model second (Err (no_job e))
refused_words asked e model second is model_same second_same model_still second_still =
    subst (λ (x : Asked). IsDecided x model second (Err (no_job e))) is (refused e model second model_same second_same model_still second_still)

-- ---- a command that reads no source

module _ (asked : Asked) (due : Said → Type 0) (shows : List ℕ → Type 0) (model second : Input) (rests : reads_model asked ≡ false) (rests_too : reads_second asked ≡ false)
    (due_is : (bytes other : List ℕ) (said : Said) → due said → IsDue asked bytes other said) (shown_is : (bytes other text : List ℕ) → shows text → IsShown asked bytes other text)
    (model_same : model.same) (second_same : second.same) (model_still : IsStill model) (second_still : IsStill second) where
  from_nothing : (said : Said) → due said → IsFromBytes asked model second said
  from_nothing said is_due = record {
    model_bytes = or_nothing model.before;
    second_bytes = or_nothing second.before;
    had_model = had_nothing model.before;
    had_second = had_nothing second.before;
    is_due = due_is (or_nothing model.before) (or_nothing second.before) said is_due;
    ends = record { model_end = λ h. cc (h, rests); second_end = λ h other. cc (h, rests_too) };
    model_still = model_still;
    second_still = second_still;
  }

  alone_cause : (said : Said) → (said ≡ Err no_memory) ⊎ due said → HasCause asked model second said
  alone_cause said (inl memory) = inr (inr (inr memory))
  alone_cause said (inr is_due) = inl (from_nothing said is_due)

  alone_text : (said : Said) → (said ≡ Err no_memory) ⊎ due said → IfOk said shows → IfOk said (IsTextDecided asked model second)
  unfolding from_nothing
  alone_text (Ok text) (inl memory) shown = cc memory
  alone_text (Ok text) (inr is_due) shown = record {
    due = from_nothing (Ok text) is_due;
    shown = shown_is (or_nothing model.before) (or_nothing second.before) text shown;
    ends = record { model_end = λ h. cc (h, rests); second_end = λ h. cc (h, rests_too) };
  }
  alone_text (Err r) is_due shown = tt

  pub alone_decided : (said : Said) → (said ≡ Err no_memory) ⊎ due said → IfOk said shows → IsDecided asked model second said
  alone_decided said is_due shown = record {
    cause = alone_cause said is_due;
    unread = record { no_model = λ h. model_same; no_second = λ h. second_same; model_first = λ h. second_same };
    done = alone_text said is_due shown;
  }

-- ---- a command that reads the model alone

module _ (asked : Asked) (rule : RowRule) (due : Mdp → Said → Type 0) (shows : List ℕ → List ℕ → Type 0) (model second : Input)
    (reads : reads_model asked ≡ true) (rests : reads_second asked ≡ false)
    (due_is : (bytes other : List ℕ) (said : Said) → IsDueToModel due (model_due rule bytes) said → IsDue asked bytes other said)
    (shown_is : (bytes other text : List ℕ) → shows bytes text → IsShown asked bytes other text)
    (same : second.same) (second_still : IsStill second) where
  from_model : (said : Said) → IsModelWorked rule due shows model said → (said ≡ Err long_model) ⊎ IsAtEnd model.after → IsFromBytes asked model second said
  from_model said from end = record {
    model_bytes = from.bytes;
    second_bytes = or_nothing second.before;
    had_model = from.had;
    had_second = had_nothing second.before;
    is_due = due_is from.bytes (or_nothing second.before) said from.is_due;
    ends = record { model_end = λ h. end; second_end = λ h other. cc (h, rests) };
    model_still = from.still;
    second_still = second_still;
  }

  model_cause : (said : Said) → IsWorkOnModel rule due shows model said → IsModelReadToEnd model said → HasCause asked model second said
  model_cause said (inl from) (inl failed) = inr (inl (record { reads = reads; fault = failed.1; says = failed.0 }))
  model_cause said (inl from) (inr end) = inl (from_model said from end)
  model_cause said (inr (inl failed)) end = inr (inl (record { reads = reads; fault = failed.1; says = failed.0 }))
  model_cause said (inr (inr memory)) end = inr (inr (inr memory))

  model_text : (said : Said) → IsWorkOnModel rule due shows model said → IsModelReadToEnd model said → IfOk said (IsTextDecided asked model second)
  unfolding from_model
  model_text (Ok text) (inl from) end =
      let at_end = end_of_read _ _ model text end in
      record {
        due = from_model (Ok text) from (inr at_end);
        shown = shown_is from.bytes (or_nothing second.before) text from.shown;
        ends = record { model_end = λ h. at_end; second_end = λ h. cc (h, rests) };
      }
  model_text (Ok text) (inr (inl failed)) end = cc (failed.0)
  model_text (Ok text) (inr (inr memory)) end = cc memory
  model_text (Err r) read end = tt

  pub model_decided : (said : Said) → IsWorkOnModel rule due shows model said → IsModelReadToEnd model said → IsDecided asked model second said
  model_decided said read end = record {
    cause = model_cause said read end;
    unread = record { no_model = λ h. cc (h, reads); no_second = λ h. same; model_first = λ h. same };
    done = model_text said read end;
  }

-- ---- a command that reads both sources

module _ (asked : Asked) (rule : RowRule) (due : Mdp → List ℕ → Said → Type 0) (shows : List ℕ → List ℕ → List ℕ → Type 0) (model second : Input)
    (reads : reads_model asked ≡ true) (reads_too : reads_second asked ≡ true)
    (due_is : (bytes other : List ℕ) (said : Said) → IsDueToPair due rule bytes other said → IsDue asked bytes other said)
    (shown_is : (bytes other text : List ℕ) → shows bytes other text → IsShown asked bytes other text)
    (read_is : (bytes : List ℕ) → IsOk (model_due rule bytes) → IsModelRead asked bytes) where
  -- the ends of the two sources
  abbrev ModelEnd : Said → Type 0
  ModelEnd said = (said ≡ Err long_model) ⊎ IsAtEnd model.after

  abbrev SecondEnd : Said → Type 0
  SecondEnd said = IsFalse (is_of_model said) → (said ≡ Err long_certificate) ⊎ IsAtEnd second.after

  from_pair : (said : Said) → IsPairWorked rule due shows model second said → ModelEnd said → SecondEnd said → IsFromBytes asked model second said
  from_pair said from end second_end = record {
    model_bytes = from.model_bytes;
    second_bytes = from.second_bytes;
    had_model = from.had_model;
    had_second = from.had_second;
    is_due = due_is from.model_bytes from.second_bytes said from.is_due;
    ends = record { model_end = λ h. end; second_end = λ h. second_end };
    model_still = from.model_still;
    second_still = from.second_still;
  }

  -- the second source failed, which is read behind a model that was read
  behind_model : (said : Said) → said ≡ Err read_certificate → ModelEnd said → IsAtEnd model.after
  behind_model said is (inl long) = cc (is, long)
  behind_model said is (inr end) = end

  -- the second source was read
  cause_of_second : (said : Said) → IsPairWorked rule due shows model second said → ModelEnd said → IsFalse (is_of_model said) → IsSecondReadToEnd second said → HasCause asked model second said
  cause_of_second said from end other (inl memory) = inr (inr (inr memory))
  cause_of_second said from end other (inr (inl failed)) = inr (inr (inl (record {
    reads = reads_too;
    fault = failed.1;
    says = failed.0;
    model_bytes = from.model_bytes;
    had_model = from.had_model;
    model_read = read_is from.model_bytes (model_was_read (λ m. IsDueToSecond (due m) (second_due from.second_bytes)) rule from.model_bytes said from.is_due other);
    model_end = behind_model said failed.0 end;
    model_still = from.model_still;
  })))
  cause_of_second said from end other (inr (inr second_end)) = inl (from_pair said from end (λ h. second_end))

  cause_by : (said : Said) → IsPairWorked rule due shows model second said → ModelEnd said → (IsFalse (is_of_model said) → IsSecondReadToEnd second said) → (of_model : Bool)
      → is_of_model said ≡ of_model → HasCause asked model second said
  cause_by said from end second_end true is = inl (from_pair said from end (λ h. cc (h, is)))
  cause_by said from end second_end false is = cause_of_second said from end is (second_end is)

  pair_cause : (said : Said) → IsWorkOnPair rule due shows model second said → IsModelReadToEnd model said → (IsFalse (is_of_model said) → IsSecondReadToEnd second said)
      → HasCause asked model second said
  pair_cause said (inl from) (inl failed) second_end = inr (inl (record { reads = reads; fault = failed.1; says = failed.0 }))
  pair_cause said (inl from) (inr end) second_end = cause_by said from end second_end (is_of_model said) refl
  pair_cause said (inr (inl failed)) end second_end = inr (inl (record { reads = reads; fault = failed.1; says = failed.0 }))
  pair_cause said (inr (inr (inl failed))) (inl model_failed) second_end = cc (failed.says, model_failed.0)
  pair_cause said (inr (inr (inl failed))) (inr end) second_end = inr (inr (inl (record {
    reads = reads_too;
    fault = failed.fault;
    says = failed.says;
    model_bytes = failed.model_bytes;
    had_model = failed.had_model;
    model_read = read_is failed.model_bytes failed.model_read;
    model_end = behind_model said failed.says end;
    model_still = failed.model_still;
  })))
  pair_cause said (inr (inr (inr memory))) end second_end = inr (inr (inr memory))

  pair_text : (said : Said) → IsWorkOnPair rule due shows model second said → IsModelReadToEnd model said → (IsFalse (is_of_model said) → IsSecondReadToEnd second said)
      → IfOk said (IsTextDecided asked model second)
  unfolding from_pair
  pair_text (Ok text) (inl from) end second_end =
      let model_at_end = end_of_read _ _ model text end in
      let second_at_end = end_of_second second text (second_end refl) in
      record {
        due = from_pair (Ok text) from (inr model_at_end) (λ h. inr second_at_end);
        shown = shown_is from.model_bytes from.second_bytes text from.shown;
        ends = record { model_end = λ h. model_at_end; second_end = λ h. second_at_end };
      }
  pair_text (Ok text) (inr (inl failed)) end second_end = cc (failed.0)
  pair_text (Ok text) (inr (inr (inl failed))) end second_end = cc (failed.says)
  pair_text (Ok text) (inr (inr (inr memory))) end second_end = cc memory
  pair_text (Err r) read end second_end = tt

  pub pair_decided : (said : Said) → IsWorkOnPair rule due shows model second said → (IsTrue (is_of_model said) → second.same) → IsModelReadToEnd model said
      → (IsFalse (is_of_model said) → IsSecondReadToEnd second said)
      → IsDecided asked model second said
  pair_decided said read first end second_end = record {
    cause = pair_cause said read end second_end;
    unread = record { no_model = λ h. cc (h, reads); no_second = λ h. cc (h, reads_too); model_first = first };
    done = pair_text said read end second_end;
  }

-- ---- what the words ask for

pub decided_as : (asked : Asked) (job : Asked) (model second : Input) (said : Said) → job ≡ asked → IsDecided job model second said → IsDecided asked model second said
decided_as asked job model second said is d = subst (λ (x : Asked). IsDecided x model second said) is d
