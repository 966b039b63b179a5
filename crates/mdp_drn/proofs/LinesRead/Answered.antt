-- A refusal of the builder is what the definition says of the line.
use Rattle.std.proofs.Common.{◌≡◌, ℕ, ◌⊎◌, inl, inr, Result, Err}
use Rattle.mdp_rows.specs.declared.error.RowsError.{RowsError}
use Rattle.mdp_rows.specs.declared.error.RowsError.TheVariants as rows
use Rattle.mdp_drn.specs.{declared.error.DrnError.{DrnError}, Outcome.{Refusal}, Body.{Body, kind_of, line_of}, BodyView.{error_of}, Feeding.{Fails}}

fails-of : {Y : Type 0} (b : Body) (line : ℕ) (e : RowsError) (said : Result Y Refusal) → said ≡ Err (record { kind = kind_of e; line = line_of b line e })
    → Fails (error_of b.state_line b.action_line line e) said
fails-of b line (rows.RowSum s c) said h = h
fails-of b line (rows.RowWide s c) said h = h
fails-of b line rows.Twice said h = h
fails-of b line (rows.NoChoice s) said h = h
fails-of b line rows.TooMany said h = h
fails-of b line rows.Target said h = h
fails-of b line rows.Large said h = h
fails-of b line rows.Count said h = h
fails-of b line rows.Memory said h = tt

pub fails : {Y : Type 0} (b : Body) (line : ℕ) (e : RowsError) (x : DrnError) (said : Result Y Refusal) → x ≡ error_of b.state_line b.action_line line e
    → (e ≡ rows.Memory) ⊎ (said ≡ Err (record { kind = kind_of e; line = line_of b line e })) → Fails x said
fails b line e x said is (inl none) = rw (is, none) tt
fails b line e x said is (inr h) = rw is (fails-of b line e said h)
