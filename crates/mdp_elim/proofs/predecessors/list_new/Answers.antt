use Rattle.std.proofs.Common.{◌≡◌, ◌<◌, ◌⊎◌, inl, inr, subst, false, rules, arith}
use Rattle.std.specs.Option.{is_none}
use Rattle.mdp_elim.specs.Predecessors.{IsListed, ListsMore, LeadsTo}
use Rattle.mdp_elim.proofs.{Lists.{more-then}, Targets.{so_far-more, so_far-same, leads-found}}
use Rattle.mdp_elim.proofs.predecessors.list_new.Goals.{then-t-target+then-is_none+in_ok-list, else-t-target, else-t-target-via-then-t-target+else-is_none, else-t-target-via-else-t-target}
use Rattle.mdp_elim.proofs.predecessors.list_new.Goals as goal

pub loop-x-preserved : goal.loop-x-preserved
loop-x-preserved c =
    elim c.if-t-target.branch [
      | then-t-target+then-is_none+in_ok-list w ↦
          let m : ListsMore c.loop-x.lists w.list.new.lists = (w.in_ok-list.ensures {u = tt}).more in
          rw w.lists-is
          (record {
            listed = so_far-more (λ v. c.args.t < v → LeadsTo c.args.row.now v ⊎ IsListed c.loop-x.lists v c.args.t) (λ v. c.args.t < v → LeadsTo c.args.row.now v ⊎ IsListed w.list.new.lists v c.args.t)
                (λ v h l. elim (h l) as (λ _. LeadsTo c.args.row.now v ⊎ IsListed w.list.new.lists v c.args.t) [
                  | inl k ↦ inl k
                  | inr k ↦ inr (m.keeps v c.args.t k)
                ])
                c.args.source.now c.loop-x.x-index c.x-item.result c.x-item.is c.loop-x-test.true c.loop-x.invariant.listed
                (λ _. inr (subst (λ v. IsListed w.list.new.lists v c.args.t) w.target-then-is_none.ensures (w.in_ok-list.ensures {u = tt}).listed));
            more = more-then _ _ _ c.loop-x.invariant.more m;
          })
      | else-t-target w ↦
          let here : c.args.t < c.x-item.result.target → LeadsTo c.args.row.now c.x-item.result.target ⊎ IsListed c.loop-x.lists c.x-item.result.target c.args.t =
          elim w.else-t-target.branch [
            | else-t-target-via-then-t-target+else-is_none w' ↦ λ _.
                let some : is_none w'.find.result ≡ false = search rules in
                inl (subst (LeadsTo c.args.row.now) w'.target-then-t-target.ensures (leads-found w'.target-then-t-target.result c.args.row.now w'.find.result w'.find.ensures.found some))
            | else-t-target-via-else-t-target w' ↦ λ l. absurd (omega (arith, w'.if-t-target.false, c.target.ensures, l))
          ] in
          rw w.lists-is
          (record {
            listed = so_far-same (λ v. c.args.t < v → LeadsTo c.args.row.now v ⊎ IsListed c.loop-x.lists v c.args.t)
                c.args.source.now c.loop-x.x-index c.x-item.result c.x-item.is c.loop-x-test.true c.loop-x.invariant.listed here;
            more = c.loop-x.invariant.more;
          })
    ]
