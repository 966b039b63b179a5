-- The end of the query of the model that the code holds of one end component alone.
use Rattle.std.proofs.Common.{◌≡◌, ℕ, ◌<◌, List, Option, ◌∙◌, subst}
use Rattle.std.specs.Prelude.{Result}
use Rattle.mdp_spec.specs.Mdp.{Mdp}
use Rattle.mdp_rows.specs.{declared.dir.Dir.{Dir}, Limits.{IsModel}}
use Rattle.mdp_wide.specs.Errors.{SolveError}
use Rattle.mdp_ends.specs.Ends.{AreEnds, count_of}
use Rattle.mdp_policy_iteration.specs.Queries.{Solves}
use Rattle.mdp_unichain.specs.Part.{IsPart}
use Rattle.mdp_gain.specs.{Query.{plain, EndsSo}, declared.inner.Inner.{Inner}, Alone.{alone}, PartCode.{IsGiven, model_in}, EndCode.{IsEndIn}}
use Rattle.mdp_gain.specs.declared.alone.OnePart.{OnePart}
use Rattle.mdp_gain.proofs.{AloneComponent.{alone-part}, Ending.{solves_in}, Handing.{is_part, room, alone-is}}

module _ (x : OnePart) (g : IsGiven x) (known : IsModel x.model.now) (small : Mdp) (ends : List (Option ℕ)) (e : small ≡ model_in x)
    (are : AreEnds small ends) where
  abbrev m : Mdp
  m = x.model.now

  abbrev parts : List (Option ℕ)
  parts = x.ends.now.parts

  same : small ≡ alone m parts x.number x.name
  same = e ∙ alone-is x g known

  ends_alone : AreEnds (alone m parts x.number x.name) ends
  ends_alone = subst (λ (s : Mdp). AreEnds s ends) same are

  -- part 0 is one of its parts
  pub has_part : 0 < count_of ends
  has_part = IsPart.below (alone-part m parts x.number x.name ends (is_part x g known) (room x g known) ends_alone)

  pub one_solved : (dir : Dir) (a b : Result Inner SolveError) → IsEndIn x.states.now x.number a b → Solves plain (EndsSo dir small ends 0 0) a
      → Solves plain (EndsSo dir m parts x.number x.name) b
  one_solved dir a b is solved =
      solves_in dir m parts x.number x.name (is_part x g known) ends ends_alone a b (subst (λ (xs : List ℕ). IsEndIn xs x.number a b) g.states is)
      (subst (λ (s : Mdp). Solves plain (EndsSo dir s ends 0 0) a) same solved)
