use Rattle.std.proofs.{Common.{◌≡◌, ◌+◌, ◌≤◌, List, ◌∷◌, drop, length, get_or, sym, ap, subst, ◌∙◌, arith}, lemmas.List.{drop_all}}
use Rattle.std.specs.List.{AllByRecursion}
use Rattle.mdp_num.specs.Meaning.{IsWithinLimit}
use Rattle.mdp_spec.specs.{Mdp.{Entry, row_at}, Row.{entries}}
use Rattle.mdp_rows.specs.Replay.{with_entries}
use Rattle.mdp_rows.proofs.{CutModels.{row_within}, CutModels.Handing.{entry_first, entry_at, prob_at}, Calls.Kept.{both_same}, Flat.Pieces.{length-entries}}
use Rattle.mdp_rows.proofs.subsystem.give_entries.Goals as goal

pub entry-requires-clause-term : goal.entry-requires-clause-term
entry-requires-clause-term c =
    prob_at c.row-row.result.targets.now c.row-row.result.probs.now c.loop-i.i c.index-row-i.result c.row-row.result.same_length c.loop-i-test.true
    (subst (λ (row : List Entry). AllByRecursion (λ x. IsWithinLimit x.prob) row) (sym c.row-row.ensures.row)
    (row_within c.args.model.now c.args.s c.args.c c.known.ensures.model c.requires.state c.requires.choice))

pub loop-i-preserved : goal.loop-i-preserved
loop-i-preserved c =
    let row : List Entry = row_at c.args.model.now c.args.s c.args.c in
    let x : Entry = record { target = get_or c.row-row.result.targets.now c.loop-i.i 0; prob = get_or c.row-row.result.probs.now c.loop-i.i c.index-row-i.result } in
    let next : drop c.loop-i.i row ≡ x ∷ drop (c.loop-i.i + 1) row =
    subst (λ (r : List Entry). drop c.loop-i.i r ≡ x ∷ drop (c.loop-i.i + 1) r) c.row-row.ensures.row
    (entry_at c.row-row.result.targets.now c.row-row.result.probs.now c.loop-i.i 0 c.index-row-i.result c.row-row.result.same_length c.loop-i-test.true)
    in
    record {
      given =
          sym (entry_first x (drop (c.loop-i.i + 1) row) c.loop-i.builder c.entry.new.self c.in-Ok.ensures.call.ok)
          ∙ ap (λ (r : List Entry). with_entries r c.loop-i.builder) (sym next)
          ∙ c.loop-i.invariant.given;
      same = both_same c.args.builder.now c.loop-i.builder c.entry.new.self c.loop-i.invariant.same c.in-Ok.ensures.same;
      state_open = c.in-Ok.ensures.state_open;
      choice_open = c.in-Ok.ensures.choice_open;
    }

pub returns-clause-given : goal.returns-clause-given
returns-clause-given c =
    let row : List Entry = row_at c.args.model.now c.args.s c.args.c in
    let n = length-entries c.row-row.result.targets.now c.row-row.result.probs.now c.row-row.result.same_length in
    let e : length (entries c.row-row.result.targets.now c.row-row.result.probs.now) ≡ length row = ap (λ (r : List Entry). length r) c.row-row.ensures.row in
    let h : length c.row-row.result.targets.now ≤ c.loop-i.i = c.loop-i-test.false in
    sym c.loop-i.invariant.given ∙ ap (λ (r : List Entry). with_entries r c.loop-i.builder) (drop_all c.loop-i.i row (omega (arith, n, e, h)))
