-- What a run answers, from what was decided and what was written.
use Rattle.std.proofs.Common.{◌≡◌, ◌⊎◌, ℕ, inl, inr, Bool, true, false, List, Option, Result, Ok, Err, IfOk, IsOk, IsTrue, refl, sym, ap, subst, ◌∙◌}
use Rattle.mdp_spec.specs.Mdp.{Mdp}
use Rattle.mdp_rows.specs.{Limits.{IsModel}, declared.rule.RowRule.{RowRule}}
use Rattle.mdp_drn.specs.{FromSource.{HadLeft}, Laws.{ReadsAsModel}}
use Rattle.mdp_job.specs.Job.{PlainTask, solve, witness, horizon, total, discount, bounds, bounds_until, bounds_total, bounds_discount, bounds_witness, curve_until, curve_total}
use Rattle.mdp_job.specs.Job.{PlainPairTask, check, policy, chain, discount_check, bounds_check, on_model, on_pair, drill, Asked, reads_model, reads_second}
use Rattle.mdp_job.specs.{Refusal.{PlainRefusal, read_model, read_certificate, no_memory}, declared.status.Status.{Status}}
use Rattle.mdp_job.specs.declared.status.Status.TheVariants as status
use Rattle.mdp_command.proofs.{Statuses.{refusal_status}, Working.{read_of_due}}
use Rattle.mdp_command.specs.{Files.{model_due, second_due, IsDueToModel, IsDueToSecond, IsDueToPair}, Said.{Said, said_status}, Streams.{Input, Told, Output}, Written.{Wrote, EndsWith}}
use Rattle.mdp_command_solve.specs.DiscountLaws as discounted
use Rattle.mdp_command_solve.specs.DrillLaws as drilled
use Rattle.mdp_command_solve.specs.Laws as solved
use Rattle.mdp_command_solve.specs.WitnessLaws as witnessed
use Rattle.mdp_command_policy.proofs.{Due.{policy_once}, ChainDue.{chain_once}}
use Rattle.mdp_command_bounds_search.specs.{DiscountLaws.{OnlyDiscountTextsAreDue}, Laws.{OnlyTextsAreDue}}
use Rattle.mdp_command_bounds_search.specs.{WitnessDue.{claim_by}, WitnessLaws.{IsTextAnswer, IsUndecidedAnswer, TextExcludesRefusals}}
use Rattle.mdp_app.specs.{Due.{IsTaskDue, IsPairDue, IsDue}, Decided.{IsTextDecided, IsDecided}}
use Rattle.mdp_app.specs.Run.{IsFromBytes, HasCause, LeavesUnread, IsAnswered, IsWorkDone, may_be_undecided, IsDoneUnless, IsComplete}

-- what is due doesn't depend on bytes that the job doesn't read
had_told : (reads : Bool) (x : Input) (told had : List ℕ) → Told reads x told → HadLeft x.before had → (reads ≡ true) → had ≡ told
had_told true x told had t h is = subst (λ (left : Option (List ℕ)). HadLeft left had) t h
had_told false x told had t h is = cc

-- the one thing that is due is a text, with which the work is done
done_of : (said : Said) (text : List ℕ) → said ≡ Ok text → said_status said ≡ status.Done
done_of said text e = ap said_status e

done_ok : (said : Said) → IsOk said → said_status said ≡ status.Done
done_ok (Ok text) ok = refl
done_ok (Err r) ok = cc ok

-- where a text is due, the status is this
abbrev EndsSo : Asked → Said → Type 0
EndsSo asked said = (said_status said ≡ status.Done) ⊎ ((said_status said ≡ status.Undecided) × IsTrue (may_be_undecided asked))

-- ---- what is due

-- the laws of what is due to each command: one thing is; of bounds more than one text may be, but where a text is no refusal is, except that the threshold of
-- a witness lies between two values. And what bytes read as is a model
pub record DueLaws : Type 0 where
  pub models : ReadsAsModel
  pub solve_once : solved.IsDueOnce
  pub witness_once : witnessed.IsDueOnce
  pub discount_once : discounted.IsDueOnce
  pub drill_once : drilled.IsDueOnce
  pub bounds_text : OnlyTextsAreDue
  pub bounds_discount_text : OnlyDiscountTextsAreDue
  pub bounds_witness_text : TextExcludesRefusals

module _ (laws : DueLaws) where
  witness_done : (asked : Asked) (said : Said) → IsTrue (may_be_undecided asked) → IsTextAnswer said ⊎ IsUndecidedAnswer said → EndsSo asked said
  witness_done asked said may (inl t) = inl (ap said_status t.says)
  witness_done asked said may (inr u) = inr (ap said_status u.says, may)

  -- where a text is due to what is asked of a model, the work is done with what is due
  task_done : (rule : RowRule) (task : PlainTask) (m : Mdp) (text : List ℕ) (said : Said) → IsModel m → IsTaskDue task m said → IsTaskDue task m (Ok text) → EndsSo (Ok (on_model rule task)) said
  task_done rule (solve dir query) m text said is d e = inl (done_of said text (laws.solve_once dir query m said (Ok text) is d e))
  task_done rule (witness dir stay label threshold) m text said is d e = inl (done_of said text (laws.witness_once dir stay label threshold m said (Ok text) d e))
  task_done rule (horizon dir stay label steps) m text said is d e = inl (done_of said text (d ∙ sym e))
  task_done rule (total dir name steps) m text said is d e = inl (done_of said text (d ∙ sym e))
  task_done rule (discount dir name factor) m text said is d e = inl (done_of said text (laws.discount_once dir name factor m said (Ok text) d e))
  task_done rule (bounds dir query digits) m text said is d e = inl (done_ok said (laws.bounds_text dir query m text said e d))
  task_done rule (bounds_until dir stay label steps digits) m text said is d e = inl (done_of said text (d ∙ sym e))
  task_done rule (bounds_total dir name steps digits) m text said is d e = inl (done_of said text (d ∙ sym e))
  task_done rule (bounds_discount dir name factor digits) m text said is d e = inl (done_ok said (laws.bounds_discount_text dir name factor m text said e d))
  task_done rule (bounds_witness dir stay label threshold) m text said is d e =
      witness_done (Ok (on_model rule (bounds_witness dir stay label threshold))) said refl (laws.bounds_witness_text (claim_by dir stay label threshold) m text said is.mdp e d)
  task_done rule (curve_until dir stay label steps digits) m text said is d e = inl (done_of said text (d ∙ sym e))
  task_done rule (curve_total dir name steps digits) m text said is d e = inl (done_of said text (d ∙ sym e))

  model_done : (rule : RowRule) (task : PlainTask) (bytes text : List ℕ) (said : Said) → IsDueToModel (IsTaskDue task) (model_due rule bytes) said
      → IsDueToModel (IsTaskDue task) (model_due rule bytes) (Ok text) → EndsSo (Ok (on_model rule task)) said
  model_done rule task bytes text said d e = by (model_due rule bytes) refl d e
    where
      by : (read : Result Mdp PlainRefusal) → model_due rule bytes ≡ read → IsDueToModel (IsTaskDue task) read said → IsDueToModel (IsTaskDue task) read (Ok text) → EndsSo (Ok (on_model rule task)) said
      by (Ok m) is due due_text = task_done rule task m text said (laws.models bytes rule m (read_of_due rule bytes m is).1) due due_text
      by (Err r) is due due_text = cc due_text

  -- the same of a model and a second file
  pair_done : (task : PlainPairTask) (m : Mdp) (other text : List ℕ) (said : Said) → IsPairDue task m other said → IsPairDue task m other (Ok text) → said ≡ Ok text
  pair_done check m other text said d e = d ∙ sym e
  pair_done (policy stay label) m other text said d e = policy_once stay label m other said (Ok text) d e
  pair_done chain m other text said d e = chain_once m other said (Ok text) d e
  pair_done discount_check m other text said d e = d ∙ sym e
  pair_done bounds_check m other text said d e = d ∙ sym e

  behind_done : (task : PlainPairTask) (m : Mdp) (text : List ℕ) (read : Result (List ℕ) PlainRefusal) (said : Said) → IsDueToSecond (IsPairDue task m) read said
      → IsDueToSecond (IsPairDue task m) read (Ok text) → said ≡ Ok text
  behind_done task m text (Ok bytes) said d e = pair_done task m bytes text said d e
  behind_done task m text (Err r) said d e = cc e

  pair_done_by : (task : PlainPairTask) (other text : List ℕ) (read : Result Mdp PlainRefusal) (said : Said)
      → IsDueToModel (λ m. IsDueToSecond (IsPairDue task m) (second_due other)) read said
      → IsDueToModel (λ m. IsDueToSecond (IsPairDue task m) (second_due other)) read (Ok text) → said ≡ Ok text
  pair_done_by task other text (Ok m) said d e = behind_done task m text (second_due other) said d e
  pair_done_by task other text (Err r) said d e = cc e

  -- where a text is due, the work is done with what is due
  due_done :
      (asked : Asked) (model second : Input) (m s n t text : List ℕ) (said : Said) → HadLeft model.before n → HadLeft second.before t → IsDue asked n t said
      → Told (reads_model asked) model m → Told (reads_second asked) second s → IsDue asked m s (Ok text)
      → EndsSo asked said
  due_done (Ok (on_model rule task)) model second m s n t text said hn ht due tm ts due_text =
      model_done rule task m text said (subst (λ (x : List ℕ). IsDueToModel (IsTaskDue task) (model_due rule x) said) (had_told true model m n tm hn refl) due) due_text
  due_done (Ok (on_pair rule task)) model second m s n t text said hn ht due tm ts due_text =
      inl (done_of said text (
      pair_done_by task s text (model_due rule m) said
      (subst (λ (x : List ℕ). IsDueToPair (IsPairDue task) rule m x said) (had_told true second s t ts ht refl)
      (subst (λ (x : List ℕ). IsDueToPair (IsPairDue task) rule x t said) (had_told true model m n tm hn refl) due)) due_text))
  due_done (Ok (drill number layers width)) model second m s n t text said hn ht due tm ts due_text =
      inl (done_of said text (laws.drill_once number layers width said (Ok text) due due_text))
  due_done (Err e) model second m s n t text said hn ht due tm ts due_text = cc

-- ---- what a run answers

module _ (asked : Asked) (model second : Input) (out : Output) (ended : Status) where
  memory_unread : (said : Said) → LeavesUnread asked model second said → LeavesUnread asked model second (Err no_memory)
  memory_unread said unread = record { no_model = unread.no_model; no_second = unread.no_second; model_first = λ h. cc }

  pub answered : (said : Said) → IsDecided asked model second said → EndsWith ended out said → IsAnswered asked model second out ended
  answered said d (inl w) = record { said = said; cause = d.cause; unread = d.unread; written = w }
  answered said d (inr w) = record { said = Err no_memory; cause = inr (inr (inr refl)); unread = memory_unread said d.unread; written = w }

  pub work_done : (said : Said) → IfOk said (IsTextDecided asked model second) → EndsWith ended out said → ended ≡ status.Done → IsWorkDone asked model second out
  work_done (Ok text) d (inl (inl w)) is = record { text = text; due = d.due; shown = d.shown; ends = d.ends; written = w.1 }
  work_done (Ok text) d (inl (inr w)) is = cc (is, w.0)
  work_done (Err r) d (inl (inl w)) is = absurd (refusal_status r (sym is ∙ w.0))
  work_done (Err r) d (inl (inr w)) is = cc (is, w.0)
  work_done said d (inr (inl w)) is = cc (is, w.0)
  work_done said d (inr (inr w)) is = cc (is, w.0)

  abbrev Unless : Type 0
  Unless = IsDoneUnless asked model second out ended

  ends_as : (said : Said) (s : Status) → said_status said ≡ s → Wrote ended out said → (ended ≡ s → Unless) → Unless
  ends_as said s is (inl w) by = by (w.0 ∙ is)
  ends_as said s is (inr w) by = inr (inr (inr (inl (w.0, w.1.fault))))

  ends : (said due : Said) → said ≡ due → Wrote ended out said → (ended ≡ said_status due → Unless) → Unless
  ends said due is w by = ends_as said (said_status due) (ap said_status is) w by

  by_end : (said : Said) → Wrote ended out said → EndsSo asked said → Unless
  by_end said w (inl done) = ends_as said status.Done done w inl
  by_end said w (inr u) = ends_as said status.Undecided u.0 w (λ e. inr (inr (inr (inr (e, u.1)))))

  by_cause : (said : Said) → Wrote ended out said → (IsFromBytes asked model second said → EndsSo asked said) → HasCause asked model second said → Unless
  by_cause said w done (inl from) = by_end said w (done from)
  by_cause said w done (inr (inl failed)) = ends said (Err read_model) failed.says w (λ e. inr (inr (inl (e, inl (failed.reads, failed.fault)))))
  by_cause said w done (inr (inr (inl failed))) = ends said (Err read_certificate) failed.says w (λ e. inr (inr (inl (e, inr (failed.reads, failed.fault)))))
  by_cause said w done (inr (inr (inr memory))) = ends said (Err no_memory) memory w (λ e. inr (inl e))

  pub complete : DueLaws → IsAnswered asked model second out ended → IsComplete asked model second out ended
  complete laws a m s text tm ts due =
      by_cause a.said a.written (λ from. due_done laws asked model second m s from.model_bytes from.second_bytes text a.said from.had_model from.had_second from.is_due tm ts due) a.cause
