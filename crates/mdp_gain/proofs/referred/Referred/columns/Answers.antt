use Rattle.std.proofs.{lemmas.List.{length-map}, Common.{◌∙◌, Ok, Err, inr, length, map, sym, ap, arith, rules}, lemmas.List.FromFn.{length-map-range_with_len}}
use Rattle.mdp_elim.specs.System.{IsSolution}
use Rattle.mdp_gain.proofs.{Given.{model-policy}, Columns.{sides_long, each_long, rows-count, leave, solution-told}}
use Rattle.mdp_gain.proofs.referred.Referred.columns.Goals as goal

pub invariant_of-rows : goal.invariant_of-rows
invariant_of-rows c = record { chosen = model-policy c.args.self.now.chosen }

pub solve_leaving-requires-clause-leaves : goal.solve_leaving-requires-clause-leaves
solve_leaving-requires-clause-leaves c = leave c.args.self.now c.requires.given c.requires.leads c.in_ok-active.active (c.in_ok-active.ensures {u = tt})

pub solve_leaving-requires-clause-columns : goal.solve_leaving-requires-clause-columns
solve_leaving-requires-clause-columns c =
    sides_long c.args.self.now (λ x. x.items) c.deref.result.now (ap (map (λ x. x.items)) c.deref.ensures.value ∙ (c.in_ok-sides.ensures {u = tt}).columns)

pub returns-in-Ok-clause-value : goal.returns-in-Ok-clause-value
returns-in-Ok-clause-value c =
    solution-told c.args.self.now c.requires.given c.requires.leads c.in_ok-active.active (c.in_ok-active.ensures {u = tt}) (map (λ x. x.items) c.deref.result.now)
    (ap (map (λ x. x.items)) c.deref.ensures.value ∙ (c.in_ok-sides.ensures {u = tt}).columns) (Ok (map (λ x. x.items) c.in-Ok.solutions.items)) (c.in-Ok.ensures {u = tt}).value

pub returns-in-Ok-clause-lengths : goal.returns-in-Ok-clause-lengths
returns-in-Ok-clause-lengths c =
    let n = rows-count c.args.self.now in
    let each = (c.in-Ok.ensures {u = tt}).solves in
    each_long (λ x. x.items) c.in-Ok.solutions.items _ (λ k l. IsSolution.len (each.1 k (omega (arith, l, each.0))) ∙ n)

pub bounds-self-state : goal.bounds-self-state
bounds-self-state c =
    let n = rows-count c.args.self.now in
    let l = ((c.in-Err-TooWide.ensures {u = tt}).place c.in-Err-TooWide.state (search rules)).0 in
    let m = c.args.self.now.chosen.is.len in
    omega (arith, n, l, m)

pub returns-in-Err-TooWide-clause-value : goal.returns-in-Err-TooWide-clause-value
returns-in-Err-TooWide-clause-value c =
    solution-told c.args.self.now c.requires.given c.requires.leads c.in_ok-active.active (c.in_ok-active.ensures {u = tt}) (map (λ x. x.items) c.deref.result.now)
    (ap (map (λ x. x.items)) c.deref.ensures.value ∙ (c.in_ok-sides.ensures {u = tt}).columns) (Err c.in-Err-TooWide.state) ((c.in-Err-TooWide.ensures {u = tt}).wide c.in-Err-TooWide.state (search rules))

pub solve_leaving-requires-clause-active : goal.solve_leaving-requires-clause-active
solve_leaving-requires-clause-active c = ap length (c.in_ok-active.ensures {u = tt}) ∙ length-map-range_with_len _ 0 _ ∙ sym (rows-count c.args.self.now)

pub solve_leaving-requires-clause-some_columns : goal.solve_leaving-requires-clause-some_columns
solve_leaving-requires-clause-some_columns c = inr (ap length c.deref.ensures.value ∙ (c.in_ok-sides.ensures {u = tt}).count)

pub returns-in-Ok-clause-count : goal.returns-in-Ok-clause-count
returns-in-Ok-clause-count c =
    let n = simp length-map at (c.in-Ok.ensures {u = tt}).solves.0 in
    omega (arith, n, ap length c.deref.ensures.value, (c.in_ok-sides.ensures {u = tt}).count)
