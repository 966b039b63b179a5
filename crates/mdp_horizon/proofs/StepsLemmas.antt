-- One step more of the columns and the table.
use Rattle.std.proofs.Common.{◌≡◌, ◌∙◌, ℕ, zero, suc, ◌+◌, length, ℤ, Option, Some, List, Vec, [], ◌∷◌, ◌++◌, reverse, ap, ap₂, arith}
use Rattle.std.proofs.{lemmas.List.{reverse-append}, lemmas.List.FromFn.{length-map-range_with_len}}
use Rattle.std.specs.Global.{Global}
use Rattle.mdp_spec.specs.Mdp.{Mdp, states_of}
use Rattle.mdp_rows.specs.declared.dir.Dir.{Dir}
use Rattle.mdp_horizon.specs.{Answer.{lists}, Objective.{Objective}, declared.leader.Leader.{Leader}}
use Rattle.mdp_horizon.specs.Columns.{ended, cover_at, follow_at, cover, follow, table, cover_next, follow_next, choices_next}

module _ (dir : Dir) (one : ℤ) (m : Mdp) (o : Objective) where
  pub cover_states : (n : ℕ) → length (cover dir one m o n) ≡ states_of m
  cover_states zero = length-map-range_with_len (λ s. let v : Option ℤ = Some (ended one o s) in v) 0 (states_of m)
  cover_states (suc n) = length-map-range_with_len (cover_at dir one m o (cover dir one m o n)) 0 (states_of m)

  pub follow_states : (n : ℕ) → length (follow dir one m o n) ≡ states_of m
  follow_states zero = length-map-range_with_len (λ s. let v : Option ℤ = Some (ended one o s) in v) 0 (states_of m)
  follow_states (suc n) = length-map-range_with_len (λ s. Leader.value (follow_at dir one m o (follow dir one m o n) s)) 0 (states_of m)

  pub cover_more : (n : ℕ) → cover_next dir one m o (cover dir one m o n) ≡ cover dir one m o (n + 1)
  cover_more n = let on : suc n ≡ n + 1 = omega arith in ap (cover dir one m o) on

  pub follow_more : (n : ℕ) → follow_next dir one m o (follow dir one m o n) ≡ follow dir one m o (n + 1)
  follow_more n = let on : suc n ≡ n + 1 = omega arith in ap (follow dir one m o) on

  pub table_more : (n : ℕ) (before after : List (Vec ℕ Global)) (choices : Vec ℕ Global) → after ≡ before ++ choices ∷ [] → lists (reverse before) ≡ table dir one m o n
      → choices.items ≡ choices_next dir one m o (follow dir one m o n) → lists (reverse after) ≡ table dir one m o (n + 1)
  table_more n before after choices e h q =
      let on : suc n ≡ n + 1 = omega arith in
      ap (λ xs. lists (reverse xs)) e ∙ ap lists (reverse-append before (choices ∷ [])) ∙ ap₂ ◌∷◌ q h ∙ ap (table dir one m o) on
