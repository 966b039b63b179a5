-- The end of a model: as many states and choices as were announced.
use Rattle.std.proofs.Common.{◌≡◌, ℕ, Bool, true, false, not, cond, ◌⊎◌, inl, inr, ◌==◌, sum_by, length, List, Option, Some, None, Result, Ok, Err, refl, sym, ap, ◌∙◌}
use Rattle.mdp_spec.specs.Mdp.{Mdp, State}
use Rattle.mdp_rows.specs.{Draft.{Draft, finished, after_finish, all_closed}, declared.error.RowsError.{RowsError}}
use Rattle.mdp_rows.specs.Draft as draft
use Rattle.mdp_rows.specs.declared.error.RowsError.TheVariants as rows
use Rattle.mdp_drn.specs.{declared.error.DrnError.{DrnError}, Outcome.{◌>>=◌, Refusal, refuse_if, at_line_of}, Body.{Body, judged}}
use Rattle.mdp_drn.specs.{Reading.{InModel, at_end_of, has_choices}, BodyView.{as_announced, error_of}, Feeding.{Fails, Gives}}
use Rattle.mdp_drn.specs.declared.error.DrnError.TheVariants as error
use Rattle.mdp_drn.specs.declared.error.DrnKind.TheVariants as kind
use Rattle.mdp_drn.proofs.LinesRead.Answered.{fails}

abbrev model_of : Draft → Mdp
model_of d = record { names = d.names; labels = d.labels; states = d.closed }

abbrev short : ℕ → Result Mdp Refusal
short line = Err (record { kind = kind.Count; line = line })

abbrev or_model : Mdp → Result Mdp RowsError → Mdp
or_model m (Ok x) = x
or_model m (Err e) = m

pub finished_states : (d : Draft) (m : Mdp) → finished d ≡ Ok m → m.states ≡ d.closed
finished_states d m is = by (length d.closed == d.announced) is
  where
    by : (b : Bool) → cond b (Ok (model_of d)) (Err rows.Count) ≡ Ok m → m.states ≡ d.closed
    by true h = sym (ap (λ (x : Mdp). x.states) (ap (or_model m) h))
    by false h = absurd cc

module _ (line : ℕ) (choices : Option ℕ) (b : Body) where
  -- what is said of a draft with nothing open
  abbrev counted : Draft → Result Mdp Refusal
  counted d = at_line_of line (refuse_if kind.Count (not (has_choices d choices))) >>= λ passed. judged b line (finished d)

  counted-model : (d : Draft) (m : Mdp) → finished d ≡ Ok m → counted d ≡ cond (as_announced choices m) (Ok m) (short line)
  counted-model d m h = ap (λ (c : Bool). at_line_of line (refuse_if kind.Count (not c)) >>= λ passed. judged b line (finished d)) (same choices) ∙ by (as_announced choices m)
    where
      same : (n : Option ℕ) → has_choices d n ≡ as_announced n m
      same None = refl
      same (Some n) = ap (λ (states : List State). sum_by (λ x. length x.choices) states == n) (sym (finished_states d m h))

      by : (c : Bool) → (at_line_of line (refuse_if kind.Count (not c)) >>= λ passed. judged b line (finished d)) ≡ cond c (Ok m) (short line)
      by true = ap (judged b line) h
      by false = refl

  counted-refused : (d : Draft) (e : RowsError) → finished d ≡ Err e → counted d ≡ judged b line (let r : Result Mdp RowsError = Err e in r)
  counted-refused d e h = by (length d.closed == d.announced) (has_choices d choices) h
    where
      by : (all c : Bool) → (let r : Result Mdp RowsError = cond all (Ok (model_of d)) (Err rows.Count) in r) ≡ Err e
          → (at_line_of line (refuse_if kind.Count (not c)) >>= λ passed. judged b line (cond all (Ok (model_of d)) (Err rows.Count))) ≡ judged b line (Err e)
      by all true h = ap (judged b line) h
      by true false h = absurd cc
      by false false h = ap (judged b line) h

  ends : (m : Mdp) → after_finish b.draft ≡ Ok m → at_end_of line (InModel choices b) ≡ cond (as_announced choices m) (Ok m) (short line)
  ends m h = by (all_closed b.draft) h
    where
      by : (r : Result Draft RowsError) → draft.◌>>=◌ r finished ≡ Ok m → (judged b line r >>= counted) ≡ cond (as_announced choices m) (Ok m) (short line)
      by (Ok d) h = counted-model d m h
      by (Err e) h = absurd cc

  refused : (e : RowsError) → after_finish b.draft ≡ Err e → at_end_of line (InModel choices b) ≡ judged b line (let r : Result Mdp RowsError = Err e in r)
  refused e h = by (all_closed b.draft) h
    where
      by : (r : Result Draft RowsError) → draft.◌>>=◌ r finished ≡ Err e → (judged b line r >>= counted) ≡ judged b line (Err e)
      by (Ok d) h = counted-refused d e h
      by (Err k) h = ap (judged b line) (let same : (let r : Result Mdp RowsError = Err k in r) ≡ Err e = h in same)

  pub model_given : (m : Mdp) (x : Result Mdp DrnError) → after_finish b.draft ≡ Ok m → x ≡ cond (as_announced choices m) (Ok m) (Err (error.At line kind.Count))
      → Gives (λ (model : Mdp) (said : Mdp). model ≡ said) x (at_end_of line (InModel choices b))
  model_given m x h is = by (as_announced choices m) x (at_end_of line (InModel choices b)) is (ends m h)
    where
      by : (c : Bool) (x : Result Mdp DrnError) (said : Result Mdp Refusal) → x ≡ cond c (Ok m) (Err (error.At line kind.Count)) → said ≡ cond c (Ok m) (short line)
          → Gives (λ (model : Mdp) (said : Mdp). model ≡ said) x said
      by true x said p q = rw p (m, q, refl)
      by false x said p q = rw p q

  pub end_fails : (e : RowsError) (x : DrnError) → x ≡ error_of b.state_line b.action_line line e → (e ≡ rows.Memory) ⊎ (after_finish b.draft ≡ Err e)
      → Fails x (at_end_of line (InModel choices b))
  end_fails e x is (inl none) = fails b line e x (at_end_of line (InModel choices b)) is (inl none)
  end_fails e x is (inr h) = fails b line e x (at_end_of line (InModel choices b)) is (inr (refused e h))
