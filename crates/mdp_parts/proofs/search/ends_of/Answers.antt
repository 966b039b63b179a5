use Rattle.std.proofs.{Common.{ℕ, List, Option, length, sym, ap, ◌∙◌, subst, arith}, lemmas.List.FromFn.{length-map-range_with_len}}
use Rattle.mdp_spec.specs.Mdp.{states_of}
use Rattle.mdp_parts.specs.{FoundEnds.{FoundEnds, AreEndsOf}, Round.{key_of}, Numbered.{IsRenumbered}}
use Rattle.mdp_parts.proofs.EndsFound.{found, key-below}
use Rattle.mdp_parts.proofs.search.ends_of.Goals as goal

pub numbered-requires-clause-few : goal.numbered-requires-clause-few
numbered-requires-clause-few c =
    let n = ap (λ (xs : List (Option ℕ)). length xs) (c.deref.ensures.value ∙ c.in_ok-keys.ensures)
    ∙ length-map-range_with_len (key_of c.args.model.now c.args.allowed c.args.parts.now) 0 (states_of c.args.model.now) in
    omega (arith, n, c.states.ensures)

pub numbered-requires-clause-below : goal.numbered-requires-clause-below
numbered-requires-clause-below c = λ s k h e.
    (let l = key-below c.args.model.now c.args.allowed _ c.args.parts.now c.deref.result.now c.requires.components (c.deref.ensures.value ∙ c.in_ok-keys.ensures) s k h e in
    omega (arith, l, c.states.ensures))

pub returns : goal.returns
returns c =
    let m = c.args.model.now in
    let a = c.requires in
    let keys = c.in_ok-keys.keys.items in
    let numbers = c.in_ok-numbering.numbering.numbers.items in
    let n : IsRenumbered keys numbers = subst (λ (xs : List (Option ℕ)). IsRenumbered xs numbers) c.deref.ensures.value c.in_ok-numbering.ensures.numbers in
    subst (λ (e : FoundEnds). AreEndsOf m e) (sym c.from_parts.ensures)
    (found m c.known.ensures.mdp a.before c.args.allowed c.args.parts.now keys numbers a.round a.components a.keeps c.in_ok-keys.ensures n)
