use Rattle.std.proofs.Common.{◌≡◌, ◌<◌, subst, arith}
use Rattle.mdp_elim.proofs.{Lists.{more-then}, Targets.{so_far-more, so_far-same}, predecessors.list_targets.Goals.{then-t-target+in_ok-list, else-t-target}}
use Rattle.mdp_elim.specs.Predecessors.{IsListed, ListsMore}
use Rattle.mdp_elim.proofs.predecessors.list_targets.Goals as goal

pub loop-x-preserved : goal.loop-x-preserved
loop-x-preserved c =
    elim c.if-t-target.branch [
      | then-t-target+in_ok-list w ↦
          let is : c.if-t-target.lists ≡ w.list.new.lists = w.lists-is in
          let m : ListsMore c.loop-x.lists w.list.new.lists = (w.in_ok-list.ensures {u = tt}).more in
          rw is
          (record {
            listed = so_far-more (λ v. c.args.t < v → IsListed c.loop-x.lists v c.args.t) (λ v. c.args.t < v → IsListed w.list.new.lists v c.args.t)
                (λ v h l. m.keeps v c.args.t (h l)) c.args.row.now c.loop-x.x-index c.x-item.result c.x-item.is c.loop-x-test.true c.loop-x.invariant.listed
                (λ _. subst (λ v. IsListed w.list.new.lists v c.args.t) w.target-then-t-target.ensures (w.in_ok-list.ensures {u = tt}).listed);
            more = more-then _ _ _ c.loop-x.invariant.more m;
          })
      | else-t-target w ↦
          rw w.lists-is
          (record {
            listed = so_far-same (λ v. c.args.t < v → IsListed c.loop-x.lists v c.args.t) c.args.row.now c.loop-x.x-index c.x-item.result
                c.x-item.is c.loop-x-test.true c.loop-x.invariant.listed (λ l. absurd (omega (arith, w.if-t-target.false, c.target.ensures, l)));
            more = c.loop-x.invariant.more;
          })
    ]
