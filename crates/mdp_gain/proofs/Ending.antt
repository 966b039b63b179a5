-- What the query of the model of one end component alone ends with is, with the states' own numbers, what the query of the end component ends with.
use Rattle.std.proofs.Common.{ℕ, List, Option, sym, ◌∙◌, subst}
use Rattle.std.specs.Prelude.{Result, Ok, Err, IfOk}
use Rattle.mdp_spec.specs.Mdp.{Mdp}
use Rattle.mdp_rows.specs.declared.dir.Dir.{Dir}
use Rattle.mdp_wide.specs.{Term.{WideTerm, shown}, Errors.{SolveError}}
use Rattle.mdp_wide.specs.declared.unfinished.Unfinished.TheVariants as solve
use Rattle.mdp_ends.specs.Ends.{AreEnds}
use Rattle.mdp_policy_iteration.specs.Queries.{Solves}
use Rattle.mdp_unichain.specs.Part.{IsPart, members}
use Rattle.mdp_gain.specs.{Query.{Answer, plain, EndsSo}, Best.{IsBestInner}, Laws.{AnswersAreBest}, declared.inner.Inner.{Inner}, Alone.{alone}}
use Rattle.mdp_gain.specs.EndCode.{IsEndIn, IsTermIn}
use Rattle.mdp_gain.proofs.QueryAlone.{ends_as_alone}

module _ (dir : Dir) (m : Mdp) (parts : List (Option ℕ)) (i r : ℕ) (k : IsPart m parts i) where
  module _ (ends : List (Option ℕ)) (are : AreEnds (alone m parts i r) ends) where
    pub solves_in : (x y : Result Inner SolveError) → IsEndIn (members m parts i) i x y → Solves plain (EndsSo dir (alone m parts i r) ends 0 0) x
        → Solves plain (EndsSo dir m parts i r) y
    solves_in (Ok x) (Ok y) e h = subst (λ (a : Answer). EndsSo dir m parts i r (Ok a)) (sym e) (ends_as_alone dir m parts i r ends (Ok (plain x)) k are h)
    solves_in (Err (solve.TooWide w)) (Err (solve.TooWide v)) e h = (
      h.0,
      IsTermIn.round e ∙ h.1,
      subst (λ (t : WideTerm). EndsSo dir m parts i r (Err t)) (sym (IsTermIn.term e h.0)) (ends_as_alone dir m parts i r ends (Err (shown w h.0)) k are h.2),
    )
    solves_in (Ok x) (Err (solve.TooWide v)) e h = absurd e
    solves_in (Err (solve.TooWide w)) (Ok y) e h = absurd e
    solves_in (Err solve.Memory) (Ok y) e h = absurd e
    solves_in (Err solve.Memory) (Err (solve.TooWide v)) e h = absurd e
    solves_in x (Err solve.Memory) e h = tt

  pub best_in : AnswersAreBest → (x : Result Inner SolveError) → Solves plain (EndsSo dir m parts i r) x
      → IfOk x (λ found. IsBestInner dir m parts i r (plain found))
  best_in law (Ok x) h = law dir m parts i r (plain x) k h
  best_in law (Err e) h = tt
