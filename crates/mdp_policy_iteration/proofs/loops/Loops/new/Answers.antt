use Rattle.std.proofs.{Common.{ℕ, List, ◌≡◌, ◌<◌, ◌∷◌, [], ap, subst, sym, ◌∙◌, length, slice_index, arith}, lemmas.List.FromFn.{length-range_with_len}}
use Rattle.mdp_math.specs.Rational.{ℚ}
use Rattle.mdp_policy_iteration.proofs.AllNodes.{all, at}
use Rattle.mdp_policy_iteration.proofs.loops.Loops.new.Goals as goal

each_at : (n : ℕ) (xs : List ℕ) → xs ≡ all n → (s : ℕ) → s < length xs → slice_index xs s ≡ s
each_at n xs e = subst (λ (xs : List ℕ). (s : ℕ) → s < length xs → slice_index xs s ≡ s) (sym e) (λ s l. let m = length-range_with_len 0 n in at n s 0 (omega (arith, l)))

pub invariant_of-result : goal.invariant_of-result
invariant_of-result c = record { each = each_at c.args.count c.in_ok-nodes.nodes.items (c.in_ok-nodes.ensures {u = tt}); is_one = (c.in_ok-one.ensures {u = tt}).items ∙ ap (λ (x : ℚ). x ∷ []) c.whole.ensures }

pub returns : goal.returns
returns c = ap length (c.in_ok-nodes.ensures {u = tt}) ∙ length-range_with_len 0 c.args.count
