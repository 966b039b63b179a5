-- Worked words, and the files that they name.
use Rattle.std.proofs.Common.{◌≡◌, [], ◌∷◌, Ok, Err, refl}
use Rattle.std.specs.Prelude.{codes}
use Rattle.mdp_rows.specs.declared.rule.RowRule.TheVariants.{Scaled}
use Rattle.mdp_job.specs.{Words.{rows_of}, declared.words_error.WordsError.TheVariants.{Number, Rows}}
use Rattle.mdp_checker.specs.Words.{path_at}

three_words : rows_of (codes "m" ∷ codes "scaled" ∷ codes "c" ∷ []) ≡ Ok Scaled
three_words = refl

-- the number of words is judged before the row rule
two_words : rows_of (codes "m" ∷ codes "EXACT" ∷ []) ≡ Err Number
two_words = refl

other_rule : rows_of (codes "m" ∷ codes "EXACT" ∷ codes "c" ∷ []) ≡ Err Rows
other_rule = refl

model_first : path_at (Ok Scaled) (codes "m" ∷ codes "scaled" ∷ codes "c" ∷ []) 0 ≡ codes "m"
model_first = refl

cert_last : path_at (Ok Scaled) (codes "m" ∷ codes "scaled" ∷ codes "c" ∷ []) 2 ≡ codes "c"
cert_last = refl

none_refused : path_at (Err Rows) (codes "m" ∷ codes "EXACT" ∷ codes "c" ∷ []) 0 ≡ []
none_refused = refl
