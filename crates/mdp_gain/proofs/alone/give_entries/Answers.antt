use Rattle.std.proofs.{Common.{◌≡◌, ℕ, ◌+◌, ◌≤◌, List, ◌∷◌, true, drop, length, map, get_or, sym, ap, subst, ◌∙◌, arith}, lemmas.List.{drop_all}}
use Rattle.std.specs.{Prelude.{Ok}, List.{AllByRecursion}}
use Rattle.mdp_math.specs.Rational.{ℚ}
use Rattle.mdp_num.specs.Meaning.{IsWithinLimit}
use Rattle.mdp_spec.specs.{Mdp.{Entry, row_at}, Row.{entries}}
use Rattle.mdp_rows.specs.{Draft.{after_entry}, Replay.{with_entries}}
use Rattle.mdp_rows.proofs.{CutModels.{row_within}, CutModels.Handing.{entry_first, entry_at, prob_at}, Calls.Kept.{both_same}, Flat.Pieces.{length-entries}}
use Rattle.mdp_graph.specs.Sets.{stays_in}
use Rattle.mdp_ends.specs.Ends.{in_part}
use Rattle.mdp_gain.specs.Alone.{placed_entry, place_in}
use Rattle.mdp_gain.proofs.Handing.{targets-in, row-stays, place-is}
use Rattle.mdp_gain.proofs.alone.give_entries.Goals as goal

pub entry-requires-clause-term : goal.entry-requires-clause-term
entry-requires-clause-term c =
    prob_at c.row-row.result.targets.now c.row-row.result.probs.now c.loop-i.i c.index-row-i.result c.row-row.result.same_length c.loop-i-test.true
    (subst (λ (row : List Entry). AllByRecursion (λ x. IsWithinLimit x.prob) row) (sym c.row-row.ensures.row)
    (row_within c.args.part.now.model.now c.args.s c.args.c c.known.ensures.model c.requires.member.0 c.requires.choice))

pub loop-i-preserved : goal.loop-i-preserved
loop-i-preserved c =
    let x = c.args.part.now in
    let row : List Entry = row_at x.model.now c.args.s c.args.c in
    let targets : List ℕ = c.row-row.result.targets.now in
    let probs : List ℚ = c.row-row.result.probs.now in
    let i : ℕ = c.loop-i.i in
    let t : ℕ = get_or targets i 0 in
    let p : ℚ = get_or probs i c.index-row-i.result in
    let e : Entry = record { target = t; prob = p } in
    let rest : List Entry = drop (i + 1) row in
    let next : drop i row ≡ e ∷ rest =
    subst (λ (r : List Entry). drop i r ≡ e ∷ drop (i + 1) r) c.row-row.ensures.row
    (entry_at targets probs i 0 c.index-row-i.result c.row-row.result.same_length c.loop-i-test.true)
    in
    let stays : stays_in (in_part x.ends.now.parts x.number) (entries targets probs) ≡ true =
    subst (λ (r : List Entry). stays_in (in_part x.ends.now.parts x.number) r ≡ true) (sym c.row-row.ensures.row)
    (row-stays x c.requires.given c.known.ensures.model c.args.s c.args.c c.requires.member c.requires.choice c.requires.inner)
    in
    let place : get_or x.places.now t 0 ≡ place_in x.states.now t =
    place-is x c.requires.given c.known.ensures.model t (c.row-row.ensures.in_range i 0 c.loop-i-test.true)
    (targets-in (in_part x.ends.now.parts x.number) targets probs i c.row-row.result.same_length stays c.loop-i-test.true)
    in
    let given : after_entry c.loop-i.builder (place_in x.states.now t) p ≡ Ok c.entry.new.self =
    subst (λ (k : ℕ). after_entry c.loop-i.builder k p ≡ Ok c.entry.new.self) place c.in-Ok.ensures.call.ok
    in
    record {
      given =
          sym (entry_first (placed_entry x.states.now e) (map (placed_entry x.states.now) rest) c.loop-i.builder c.entry.new.self given)
          ∙ ap (λ (r : List Entry). with_entries (map (placed_entry x.states.now) r) c.loop-i.builder) (sym next)
          ∙ c.loop-i.invariant.given;
      same = both_same c.args.builder.now c.loop-i.builder c.entry.new.self c.loop-i.invariant.same c.in-Ok.ensures.same;
      state_open = c.in-Ok.ensures.state_open;
      choice_open = c.in-Ok.ensures.choice_open;
    }

pub returns-clause-given : goal.returns-clause-given
returns-clause-given c =
    let x = c.args.part.now in
    let row : List Entry = row_at x.model.now c.args.s c.args.c in
    let targets : List ℕ = c.row-row.result.targets.now in
    let probs : List ℚ = c.row-row.result.probs.now in
    let n = length-entries targets probs c.row-row.result.same_length in
    let e : length (entries targets probs) ≡ length row = ap (λ (r : List Entry). length r) c.row-row.ensures.row in
    let h : length targets ≤ c.loop-i.i = c.loop-i-test.false in
    sym c.loop-i.invariant.given
    ∙ ap (λ (r : List Entry). with_entries (map (placed_entry x.states.now) r) c.loop-i.builder) (drop_all c.loop-i.i row (omega (arith, n, e, h)))
