use Rattle.std.proofs.Common.{◌≡◌, ℕ, ◌<◌, List, true, length, sym, ◌∙◌, subst, arith}
use Rattle.std.specs.Prelude.{slice_index}
use Rattle.mdp_spec.specs.Mdp.{states_of}
use Rattle.mdp_ends.specs.Ends.{in_part}
use Rattle.mdp_unichain.specs.Part.{members}
use Rattle.mdp_gain.specs.FoundMembers.{ArePlaces}
use Rattle.mdp_gain.proofs.MemberPlaces.{listed-in}
use Rattle.mdp_gain.proofs.solve_parts.solve_alone.Goals as goal

pub solve_inner_of-requires-clause-state : goal.solve_inner_of-requires-clause-state
solve_inner_of-requires-clause-state c =
    let m = c.args.model.now in
    let parts = c.args.ends.now.parts in
    let e : c.of-states.result.now ≡ members m parts c.args.i = c.of-states.ensures ∙ c.requires.members.lists c.args.i c.requires.part in
    let l : 0 < length (members m parts c.args.i) = subst (λ (xs : List ℕ). 0 < length xs) e (omega arith) in
    subst (λ (xs : List ℕ). in_part parts c.args.i (slice_index xs 0) ≡ true) (sym e) (listed-in m parts c.args.i 0 l)

pub solve_one-requires : goal.solve_one-requires
solve_one-requires c =
    let m = c.args.model.now in
    let parts = c.args.ends.now.parts in
    let i : ℕ = c.args.i in
    let e : c.of-states.result.now ≡ members m parts i = c.of-states.ensures ∙ c.requires.members.lists i c.requires.part in
    let fewer : length c.of-states.result.now < states_of m = omega arith in
    let places : ArePlaces m parts i c.of-states.result.now c.places.result.now =
    subst (λ (xs : List ℕ). ArePlaces m parts i xs c.places.result.now) (sym e)
    (subst (λ (xs : List ℕ). ArePlaces m parts i (members m parts i) xs) (sym c.places.ensures) (c.requires.members.places i c.requires.part))
    in
    record { ends = c.requires.ends; below = c.requires.part; named = c.requires.name; states = e; places = places; fewer = fewer }
