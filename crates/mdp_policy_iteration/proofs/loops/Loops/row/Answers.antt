use Rattle.std.proofs.Common.{◌≡◌, ◌+◌, ◌-◌, ◌<◌, ◌∷◌, [], ◌∙◌, ℕ, suc, List, length, take, drop, subst, sym, ap, ap₂, arith, slice_index, pos}
use Rattle.std.proofs.Math.Seq.{drop-cons}
use Rattle.mdp_math.specs.Rational.{ℚ, of_int}
use Rattle.mdp_spec.specs.{Mdp.{Entry}, Row.{entries, IsDistribution}}
use Rattle.mdp_policy_iteration.proofs.Chain.{loop}
use Rattle.mdp_policy_iteration.proofs.loops.Loops.row.Goals as goal

one_piece : (xs : List ℕ) (s : ℕ) → s < length xs → slice_index xs s ≡ s → take (s + 1 - s) (drop s xs) ≡ s ∷ []
one_piece xs s l e =
    let n : s + 1 - s ≡ 1 = omega arith in
    ap (λ k. take k (drop s xs)) n ∙ ap (take 1) (drop-cons xs s 0 l) ∙ ap (λ k. k ∷ []) e

spelled : (xs ys zs : List ℕ) (ps one : List ℚ) (s : ℕ) → xs ≡ ys → s < length ys → slice_index ys s ≡ s → ps ≡ one → one ≡ of_int (pos 1) ∷ []
    → entries (take (s + 1 - s) (drop s xs)) ps ≡ (let y : Entry = record { target = s; prob = of_int (pos 1) } in y ∷ [])
spelled xs ys zs ps one s e l h f g = ap₂ entries (ap (λ (x : List ℕ). take (s + 1 - s) (drop s x)) e ∙ one_piece ys s l h) (f ∙ g)

pub returns-clause-targets : goal.returns-clause-targets
returns-clause-targets c =
    ap (λ (x : List ℕ). take (c.args.s + 1 - c.args.s) (drop c.args.s x)) c.as_slice-nodes.ensures.value
    ∙ one_piece c.args.self.now.nodes.items c.args.s c.requires (c.args.self.now.each c.args.s c.requires)

pub returns-clause-row : goal.returns-clause-row
returns-clause-row c =
    spelled _ c.args.self.now.nodes.items [] _ c.args.self.now.one.items c.args.s c.as_slice-nodes.ensures.value c.requires
    (c.args.self.now.each c.args.s c.requires) c.as_slice.ensures.value c.args.self.now.is_one

pub invariant_of-result : goal.invariant_of-result
invariant_of-result c =
    let e = spelled _ c.args.self.now.nodes.items [] _ c.args.self.now.one.items c.args.s c.as_slice-nodes.ensures.value c.requires
    (c.args.self.now.each c.args.s c.requires) c.as_slice.ensures.value c.args.self.now.is_one in
    let t = ap (λ (x : List ℕ). take (c.args.s + 1 - c.args.s) (drop c.args.s x)) c.as_slice-nodes.ensures.value
    ∙ one_piece c.args.self.now.nodes.items c.args.s c.requires (c.args.self.now.each c.args.s c.requires) in
    record {
      same_length = ap length t ∙ sym (ap length (c.as_slice.ensures.value ∙ c.args.self.now.is_one));
      distribution = subst IsDistribution (sym e) (loop (suc c.args.s) c.args.s (omega arith)).distribution;
    }
