use Rattle.std.proofs.Common.{◌<◌, ◌&&◌, ℕ, [], length, get_or, not, sym, ap, refl, subst, ◌∙◌, arith, List, Option, is_some, is_none}
use Rattle.mdp_rows.specs.Preds.{is_among}
use Rattle.mdp_graph.specs.{declared.forest.Way.{Way}, Forest.{way_at, attached, IsFound, IsGrown, IsFoundWay, HasFound}, Sets.{marked}}
use Rattle.mdp_graph.proofs.{Among.{below-all}, Growing.{forest_grown, found_good, closed_found, still, taken-below}, Pruning.{or-right}}
use Rattle.mdp_math.proofs.Booleans.{and-left, and-right}
use Rattle.mdp_graph.proofs.falling.Falling.attach.Goals as goal

pub attach_all-requires-clause-below : goal.attach_all-requires-clause-below
attach_all-requires-clause-below c =
    below-all _ _ (λ s e. (let h = taken-below c.args.self.now.ways.items c.take_found.new.ways.items [] c.in_ok-first.first.items c.in_ok-first.ensures.taken refl s e in
    omega (arith, h, c.in_ok-first.ensures.grown.count, c.requires.forest.count)))

pub attach_all-requires-clause-forest : goal.attach_all-requires-clause-forest
attach_all-requires-clause-forest c =
    let m = c.args.model.now in
    let goals = c.args.goals.now in
    let lists = c.args.self.now.layers.waiting in
    let old = c.args.self.now.ways.items in
    let broken = c.args.broken.now in
    let found = c.in_ok-found.found.items in
    let each : (i : ℕ) → i < length broken → IsFound m goals lists old (get_or broken i 0) (way_at found i) =
    subst (λ (x : List (Option Way)). (i : ℕ) → i < length broken → IsFound m goals lists x (get_or broken i 0) (way_at found i)) c.deref.ensures.value c.in_ok-found.ensures.each in
    let grown = subst (λ (x : List (Option Way)). IsGrown goals old c.take_found.new.ways.items (IsFoundWay broken x) (HasFound broken x)) c.deref-2.ensures.value c.in_ok-first.ensures.grown in
    forest_grown m goals lists old c.take_found.new.ways.items (IsFoundWay broken found) (HasFound broken found) c.requires.forest grown (found_good m goals lists old found broken each)

pub returns-clause-attaching : goal.returns-clause-attaching
returns-clause-attaching c =
    let m = c.args.model.now in
    let goals = c.args.goals.now in
    let lists = c.args.self.now.layers.waiting in
    let old = c.args.self.now.ways.items in
    let mid = c.take_found.new.ways.items in
    let broken = c.args.broken.now in
    let found = c.in_ok-found.found.items in
    let each : (i : ℕ) → i < length broken → IsFound m goals lists old (get_or broken i 0) (way_at found i) =
    subst (λ (x : List (Option Way)). (i : ℕ) → i < length broken → IsFound m goals lists x (get_or broken i 0) (way_at found i)) c.deref.ensures.value c.in_ok-found.ensures.each in
    let grown = subst (λ (x : List (Option Way)). IsGrown goals old mid (IsFoundWay broken x) (HasFound broken x)) c.deref-2.ensures.value c.in_ok-first.ensures.grown in
    let all = c.in_ok-attach_all.ensures in
    record {
      forest = all.forest;
      closed = all.closed broken (closed_found m goals lists old mid found broken [] c.in_ok-first.first.items grown c.in_ok-first.ensures.taken each);
      kept = λ s e. all.kept s (still goals old mid grown.kept s e);
      fell_is = λ s h. c.in_ok-fell.ensures s ∙ ap (λ (x : List (Option Way)). is_among s broken && not (attached goals x s)) c.deref-3.ensures.value;
      below = λ s e. and-left (is_among s broken) (not (attached goals c.deref-3.result.now s)) (sym (c.in_ok-fell.ensures s) ∙ e);
    }

pub found_ways-requires-clause-ways : goal.found_ways-requires-clause-ways
found_ways-requires-clause-ways c = ap length c.deref.ensures.value ∙ c.requires.forest.count

pub take_found-requires-clause-below : goal.take_found-requires-clause-below
take_found-requires-clause-below c = λ k d l. (let h = c.requires.below k d l in let n = c.requires.forest.count in omega (arith, h, n))

pub take_found-requires-clause-goals : goal.take_found-requires-clause-goals
take_found-requires-clause-goals c = c.requires.goals ∙ sym c.requires.forest.count

pub take_found-requires-clause-found : goal.take_found-requires-clause-found
take_found-requires-clause-found c = ap length c.deref-2.ensures.value ∙ c.in_ok-found.ensures.count

pub attach_all-requires-clause-attached : goal.attach_all-requires-clause-attached
attach_all-requires-clause-attached c = λ t e. or-right (marked c.args.goals.now t) (is_some (way_at c.take_found.new.ways.items t))
    (and-right (is_none (way_at c.args.self.now.ways.items t)) (is_some (way_at c.take_found.new.ways.items t)) (sym (c.in_ok-first.ensures.taken.listed t) ∙ e))

pub unattached-requires-clause-goals : goal.unattached-requires-clause-goals
unattached-requires-clause-goals c = λ k d l. (let h = c.requires.below k d l in omega (arith, h, c.requires.goals))

pub unattached-requires-clause-ways : goal.unattached-requires-clause-ways
unattached-requires-clause-ways c = ap length c.deref-3.ensures.value ∙ c.in_ok-attach_all.ensures.forest.count ∙ sym c.requires.goals

pub attach_all-requires-clause-wide : goal.attach_all-requires-clause-wide
attach_all-requires-clause-wide c = c.requires.wide

pub attach_all-requires-clause-goals : goal.attach_all-requires-clause-goals
attach_all-requires-clause-goals c = c.requires.goals
