use Rattle.std.proofs.Common.{◌≡◌, ℕ, ◌+◌, [], Option, replicate, sym, ap, ◌∙◌, subst, arith}
use Rattle.mdp_spec.specs.Mdp.{states_of}
use Rattle.mdp_ends.specs.Ends.{count_of}
use Rattle.mdp_ends.proofs.Numbering.{numbered-below}
use Rattle.mdp_gain.specs.FoundMembers.{FoundMembers, HasRoom, with_state}
use Rattle.mdp_gain.proofs.Sorting.{AreSorted, none_sorted, next_sorted, has_room, all_sorted}
use Rattle.mdp_gain.proofs.members.members_of.Goals as goal

pub add-requires : goal.add-requires
add-requires c =
    let parts = c.args.ends.now.parts in
    subst (HasRoom c.loop-s.members) (sym c.of.ensures)
    (has_room parts (count_of parts) c.loop-s.s c.loop-s.members c.loop-s.invariant (omega arith)
    (λ i is. numbered-below 0 parts c.loop-s.s i c.requires.ends.numbered is))

pub loop-s-init : goal.loop-s-init
loop-s-init c =
    let parts = c.args.ends.now.parts in
    let empty : ℕ → FoundMembers = λ n. record { lists = replicate n []; places = [] } in
    subst (AreSorted parts (count_of parts) 0) (sym (c.in_ok-members.ensures {u = tt} ∙ ap empty c.count.ensures)) (none_sorted parts (count_of parts))

pub loop-s-preserved : goal.loop-s-preserved
loop-s-preserved c =
    let parts = c.args.ends.now.parts in
    let added = c.in_ok-add.ensures {u = tt} ∙ ap (λ (part : Option ℕ). with_state c.loop-s.members c.loop-s.s part) c.of.ensures in
    subst (AreSorted parts (count_of parts) (c.loop-s.s + 1)) (sym added)
    (next_sorted parts (count_of parts) c.loop-s.s c.loop-s.members c.loop-s.invariant)

pub returns : goal.returns
returns c =
    let m = c.args.model.now in
    let parts = c.args.ends.now.parts in
    let all : c.loop-s.s ≡ states_of m = omega arith in
    all_sorted m parts c.loop-s.members (subst (λ (n : ℕ). AreSorted parts (count_of parts) n c.loop-s.members) all c.loop-s.invariant)
