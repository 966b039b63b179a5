-- The solved parts, as the code holds them.
use Rattle.std.specs.Prelude.{◌≡◌, ℕ, [], ◌∷◌, ◌++◌, length, slice_index, pos}
use Rattle.mdp_math.specs.Rational.{of_int}
use Rattle.mdp_spec.specs.Mdp.{Mdp, value_at}
use Rattle.mdp_gain.specs.{Query.{Answer}, Best.{entry_of}}
use Rattle.mdp_rows.specs.declared.dir.Dir.{Dir}
use Rattle.mdp_quot.specs.Outer as outer
use Rattle.mdp_mean.specs.{Terms.{Joining}, Query.{joining}, declared.parts.Parts.{Parts}, declared.inners.Inners.{Inners}}
use Rattle.mdp_mean.specs.Inners as spec

abbrev pub inners_in : Inners → spec.Inners
inners_in x = record { gains = x.gains.items; bias = x.bias.items; choices = x.choices.items }

-- no end component yet
pub record IsEmpty (states : ℕ) (x : spec.Inners) : Type 0 where
  pub gain_each : length x.gains ≡ 0
  pub bias_each : length x.bias ≡ states
  pub choice_each : length x.choices ≡ states
  pub no_bias : (s : ℕ) → value_at x.bias s ≡ of_int (pos 0)
  pub no_choice : (s : ℕ) → slice_index x.choices s ≡ 0

-- an end component is added, with this answer, and all else is as before
pub record IsAdded (a : Answer) (old new : spec.Inners) : Type 0 where
  pub gains : new.gains ≡ old.gains ++ a.gain ∷ []
  pub bias_each : length new.bias ≡ length old.bias
  pub choice_each : length new.choices ≡ length old.choices
  pub bias : (s : ℕ) → value_at new.bias s ≡ entry_of (value_at old.bias s) a.states a.bias s
  pub choices : (s : ℕ) → slice_index new.choices s ≡ entry_of (slice_index old.choices s) a.states a.choices s

-- what is joined of the parts that the code holds
abbrev pub joining_of : Dir → Mdp → ℕ → Parts → Joining
joining_of dir m r parts = joining dir m r parts.ends.now.parts parts.quotient.now (inners_in parts.inner.now) (outer.plain parts.outer.now) parts.steps.now
