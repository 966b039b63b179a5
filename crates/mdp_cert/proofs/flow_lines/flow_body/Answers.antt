use Rattle.std.proofs.{Common.{◌≡◌, ℕ, ◌+◌, ◌<◌, List, [], ◌∷◌, ◌++◌, length, get_or, take, Option, refl, arith}, lemmas.List.{take_all, take_more}}
use Rattle.std.proofs.lemmas.List.Elements.{filter_map-append}
use Rattle.std.specs.List.{filter_map}
use Rattle.mdp_cert.specs.Witness.{kept_in, mark_in, flow_in}
use Rattle.mdp_cert.proofs.flow_lines.flow_body.Goals as goal

-- what one more item gives
more : {X Y : Type 0} (h : X → Option Y) (xs : List X) (i : ℕ) (x : X) (ys zs : List Y) → i < length xs → x ≡ get_or xs i x → ys ≡ filter_map h (take i xs)
    → zs ≡ ys ++ filter_map h (x ∷ []) → zs ≡ filter_map h (take (i + 1) xs)
more h xs i x ys zs lt at before step = rw (take_more xs i x lt, filter_map-append h (take i xs) (get_or xs i x ∷ []), ← at, ← before) step

pub loop-line-preserved : goal.loop-line-preserved
loop-line-preserved c =
    let lt : c.loop-line.line-index < length c.args.lines.now = omega arith in
    let said = c.in_ok-push_said.ensures {u = tt} in
    let before = c.loop-line.invariant in
    record {
      kept = more kept_in c.args.lines.now c.loop-line.line-index _ _ _ lt c.line-item.is before.kept said.kept;
      wide = more mark_in c.args.lines.now c.loop-line.line-index _ _ _ lt c.line-item.is before.wide said.wide;
      flows = more flow_in c.args.lines.now c.loop-line.line-index _ _ _ lt c.line-item.is before.flows said.flows;
    }

pub returns : goal.returns
returns c =
    let before = c.loop-line.invariant in
    rw (before.kept, before.wide, before.flows, take_all c.loop-line.line-index c.args.lines.now (omega arith)) refl
